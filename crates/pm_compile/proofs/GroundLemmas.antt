-- Ground terms, and the set of their rows.
use Rattle.std.proofs.Common.{◌≡◌, ℕ, ◌+◌, ◌<◌, ◌==◌, ◌&&◌, Bool, true, false, cond, List, [], ◌∷◌, inl, inr, All, length, map, refl, sym, ◌∙◌, ap, arith}
use Rattle.std.specs.List.{list_all}
use Rattle.std.proofs.lemmas.List.{length-append, nil_from_length}
use Rattle.std.proofs.lemmas.List.Elements.{All-head, All-tail}
use Rattle.std.proofs.lemmas.Bool.{eqb-true, ne_eqb}
use Rattle.std.proofs.lemmas.Bool.Decides.{eqb_tells}
use Rattle.pm_logic.specs.Term.{Term, app, as_terms, tree_at}
use Rattle.pm_logic.specs.Variables.{variables, variables_among}
use Rattle.pm_compile.specs.Scheme.{is_among, is_ground, are_ground}
use Rattle.pm_compile.specs.Inside.Ground.{AreGroundBelow}

-- in a ground term no variable stands
pub no_variables : (t : Term) → is_ground t ≡ true → variables t ≡ []
no_variables t ground = nil_from_length (variables t) (eqb-true (length (variables t)) 0 ground)

both_none : (m n : ℕ) → (m + n == 0) ≡ ((m == 0) && (n == 0))
both_none m n =
    elim (eqb_tells m 0) [
      | inl none ↦
          let left : m + n ≡ n = omega (arith, none.1) in
          ap (λ k. k == 0) left ∙ ap (λ b. b && (n == 0)) (sym none.0)
      | inr some ↦
          let more : m + n ≡ 0 → ⊥ = λ h. some.1 (omega (arith, h)) in
          ne_eqb (m + n) 0 more ∙ ap (λ b. b && (n == 0)) (sym some.0)
    ]

-- terms are ground if each of them is
pub are_ground-each : (terms : List Term) (rows : List ℕ)
    → are_ground (as_terms (map (tree_at terms) rows)) ≡ list_all (λ row. is_ground (tree_at terms row)) rows
are_ground-each terms [] = refl
are_ground-each terms (row ∷ rows) =
    let first : List ℕ = variables (tree_at terms row) in
    let rest : List ℕ = variables_among (as_terms (map (tree_at terms) rows)) in
    ap (λ n. n == 0) (length-append first rest)
    ∙ both_none (length first) (length rest)
    ∙ ap (λ b. is_ground (tree_at terms row) && b) (are_ground-each terms rows)

-- the set tells of rows below what it was made for
pub told-each : (terms : List Term) (ground : List ℕ) (upto : ℕ) (rows : List ℕ)
    → AreGroundBelow terms ground upto → All (λ row. row < upto) rows
    → list_all (λ row. is_among row ground) rows ≡ list_all (λ row. is_ground (tree_at terms row)) rows
told-each terms ground upto [] told within = refl
told-each terms ground upto (row ∷ rows) told within =
    let first : is_among row ground ≡ is_ground (tree_at terms row) = told.below row (All-head (λ r. r < upto) row rows within) in
    let rest : list_all (λ r. is_among r ground) rows ≡ list_all (λ r. is_ground (tree_at terms r)) rows
    = told-each terms ground upto rows told (All-tail (λ r. r < upto) row rows within) in
    ap (λ b. b && list_all (λ r. is_among r ground) rows) first ∙ ap (λ b. is_ground (tree_at terms row) && b) rest

-- whether an application is ground, by the set
pub ground_over : (terms : List Term) (ground : List ℕ) (row symbol : ℕ) (args : List ℕ) (answer : Bool)
    → tree_at terms row ≡ app symbol (as_terms (map (tree_at terms) args)) → All (λ arg. arg < row) args
    → AreGroundBelow terms ground row → answer ≡ list_all (λ arg. is_among arg ground) args
    → answer ≡ is_ground (tree_at terms row)
ground_over terms ground row symbol args answer is within told tells =
    tells ∙ told-each terms ground row args told within ∙ sym (are_ground-each terms args) ∙ ap is_ground (sym is)

-- the next row is ground, and the set has it now
pub told-added : (terms : List Term) (old new : List ℕ) (row : ℕ) → AreGroundBelow terms old row
    → is_ground (tree_at terms row) ≡ true → ((r : ℕ) → is_among r new ≡ cond (row == r) true (is_among r old))
    → AreGroundBelow terms new (row + 1)
told-added terms old new row told ground adds = record {
  below = λ r lt.
      elim (eqb_tells row r) [
        | inl same ↦ adds r ∙ ap (λ b. cond b true (is_among r old)) same.0 ∙ sym ground ∙ ap (λ k. is_ground (tree_at terms k)) same.1
        | inr other ↦
            let before : r < row = omega (arith, lt, other.1) in
            adds r ∙ ap (λ b. cond b true (is_among r old)) other.0 ∙ told.below r before
      ];
  beyond = λ r le.
      let other : (row == r) ≡ false = ne_eqb row r (λ same. absurd (omega (arith, same, le))) in
      adds r ∙ ap (λ b. cond b true (is_among r old)) other ∙ told.beyond r (omega (arith, le));
}

-- the next row isn't ground
pub told-passed : (terms : List Term) (ground : List ℕ) (row : ℕ) → AreGroundBelow terms ground row
    → is_ground (tree_at terms row) ≡ false → AreGroundBelow terms ground (row + 1)
told-passed terms ground row told open_term = record {
  below = λ r lt.
      elim (eqb_tells r row) [
        | inl same ↦ told.beyond r (omega (arith, same.1)) ∙ sym open_term ∙ ap (λ k. is_ground (tree_at terms k)) (sym same.1)
        | inr other ↦ told.below r (omega (arith, lt, other.1))
      ];
  beyond = λ r le. told.beyond r (omega (arith, le));
}
