-- The start clauses among the first clauses, with one clause more.
use Rattle.std.proofs.Common.{◌≡◌, ℕ, ◌+◌, ◌<◌, Bool, cond, List, [], ◌∷◌, ◌++◌, length, map, take, get_or, sym, ◌∙◌, ap, arith}
use Rattle.std.proofs.lemmas.List.{take_more, length-take-le, length-map, get_or-map}
use Rattle.pm_logic.specs.declared.problem.Start.{Start}
use Rattle.pm_logic.specs.declared.problem.Clause.{Clause}
use Rattle.pm_logic.specs.Lists.{places}
use Rattle.pm_logic.specs.Term.{Term}
use Rattle.pm_logic.specs.Problem.{is_start}
use Rattle.pm_logic.specs.View.{clause_of}
use Rattle.pm_logic.proofs.ListLemmas.{places-push}

places-more : {A : Type 0} (test : A → Bool) (xs : List A) (i : ℕ) (x : A) → i < length xs → get_or xs i x ≡ x
    → places test 0 (take (i + 1) xs) ≡ places test 0 (take i xs) ++ cond (test x) (i ∷ []) []
places-more test xs i x lt is =
    let last : 0 + length (take i xs) ≡ i = omega (arith, length-take-le i xs (omega arith)) in
    ap (places test 0) (take_more xs i x lt ∙ ap (λ y. take i xs ++ y ∷ []) is)
    ∙ places-push test 0 (take i xs) x
    ∙ ap (λ n. places test 0 (take i xs) ++ cond (test x) (n ∷ []) []) last

pub starts-more : (start : Start) (terms : List Term) (clauses : List Clause) (i : ℕ) (clause : Clause) (b : Bool)
    → i < length clauses → clause ≡ get_or clauses i clause → b ≡ is_start start (clause_of terms clause)
    → places (is_start start) 0 (take (i + 1) (map (clause_of terms) clauses))
    ≡ places (is_start start) 0 (take i (map (clause_of terms) clauses)) ++ cond b (i ∷ []) []
starts-more start terms clauses i clause b lt is told =
    places-more (is_start start) (map (clause_of terms) clauses) i (clause_of terms clause) (omega (arith, length-map clauses (clause_of terms)))
    (get_or-map (clause_of terms) clauses i clause (clause_of terms clause) lt ∙ ap (clause_of terms) (sym is))
    ∙ ap (λ passes. places (is_start start) 0 (take i (map (clause_of terms) clauses)) ++ cond passes (i ∷ []) []) (sym told)
