use Rattle.std.proofs.Common.{◌≡◌, ◌≤◌, ◌++◌, ℕ, List, ◌∷◌, All, codes, length, map, take, sym, ap, ◌∙◌, subst, append_assoc}
use Rattle.std.proofs.lemmas.List.{take_all}
use Rattle.std.proofs.lemmas.List.Elements.{All-head, All-tail}
use Rattle.std.proofs.lemmas.List.Folds.{flat_map-map}
use Rattle.std.specs.List.{flat_map}
use Rattle.pm_logic.specs.declared.problem.Literal.{Literal}
use Rattle.pm_logic.specs.Problem as logic
use Rattle.pm_logic.specs.Term.{Term}
use Rattle.pm_logic.specs.View.{literal_of}
use Rattle.pm_write.specs.Inside.Pending.{IsOver}
use Rattle.pm_write.specs.Text.{literal_text, literals_text}
use Rattle.pm_write.proofs.PendingText.{flat_map-next}
use Rattle.pm_write.proofs.clauses.write_literals.Goals as goal

-- the text of a literal after another
abbrev other_text : List logic.Symbol → List Term → Literal → List ℕ
other_text symbols terms other = codes " | " ++ literal_text symbols (literal_of terms other)

pub write_literal-requires : goal.write_literal-requires
write_literal-requires c =
    let over = IsOver c.args.problem.now.symbols c.args.problem.now.terms in
    All-head over _ _ (subst (All over) c.in-Some.ensures.cases.0 c.requires)

pub write_literal-requires-in-loop-literal : goal.write_literal-requires-in-loop-literal
write_literal-requires-in-loop-literal c =
    let over = IsOver c.args.problem.now.symbols c.args.problem.now.terms in
    let rest : All over c.in-Some.others.now = All-tail over _ _ (subst (All over) c.in-Some.ensures.cases.0 c.requires) in
    subst over (sym c.literal-item.is) (rest c.loop-literal.literal-index c.literal-item.result c.loop-literal-test.true)

pub loop-literal-preserved : goal.loop-literal-preserved
loop-literal-preserved c =
    let symbols = c.args.problem.now.symbols in
    let terms = c.args.problem.now.terms in
    flat_map-next (other_text symbols terms) c.write_literal.new.into.items c.loop-literal.into.items _ c.in-Some.others.now c.loop-literal.literal-index c.literal-item.result
    c.loop-literal-test.true c.literal-item.is c.loop-literal.invariant
    (c.in_ok-write_literal-2.ensures
    ∙ ap (λ (t : List ℕ). t ++ literal_text symbols (literal_of terms c.literal-item.result)) c.in_ok-extend_from_slice.ensures.items
    ∙ append_assoc c.loop-literal.into.items (codes " | ") (literal_text symbols (literal_of terms c.literal-item.result)))

all_written : (symbols : List logic.Symbol) (terms : List Term) (old one text : List ℕ) (literals : List Literal) (first : Literal) (others : List Literal) (i : ℕ)
    → literals ≡ first ∷ others → one ≡ old ++ literal_text symbols (literal_of terms first)
    → length others ≤ i → text ≡ one ++ flat_map (other_text symbols terms) (take i others)
    → text ≡ old ++ literals_text symbols (map (literal_of terms) literals)
all_written symbols terms old one text literals first others i are begun done so_far =
    let after : List ℕ = flat_map (other_text symbols terms) others in
    so_far
    ∙ ap (λ ls. one ++ flat_map (other_text symbols terms) ls) (take_all i others done)
    ∙ ap (λ (t : List ℕ). t ++ after) begun
    ∙ append_assoc old (literal_text symbols (literal_of terms first)) after
    ∙ ap (λ (t : List ℕ). old ++ (literal_text symbols (literal_of terms first) ++ t))
    (sym (flat_map-map (λ (other : logic.Literal). codes " | " ++ literal_text symbols other) (literal_of terms) others))
    ∙ ap (λ ls. old ++ literals_text symbols (map (literal_of terms) ls)) (sym are)

pub returns : goal.returns
returns c =
    all_written c.args.problem.now.symbols c.args.problem.now.terms c.args.into.now.items c.write_literal.new.into.items _ _ c.in-Some.first.now c.in-Some.others.now c.loop-literal.literal-index
    c.in-Some.ensures.cases.0 c.in_ok-write_literal.ensures c.loop-literal-test.false c.loop-literal.invariant
