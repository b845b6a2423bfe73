use Rattle.std.proofs.Common.{◌≡◌, ◌∷◌, [], refl, sym, subst, length, arith}
use Rattle.pm_logic.specs.Problem.{Problem}
use Rattle.pm_run.specs.Inside.Example.{HasThreeLiterals}
use Rattle.pm_run.proofs.TestLemmas.{literal_over, pushed, valid_example, three_literals, three_rows}
use Rattle.pm_run.proofs.tests.example.Goals as goal

pub new-requires-clause-rows : goal.new-requires-clause-rows
new-requires-clause-rows c =
    let l = c.in_ok-literal.field-0 in
    let m = c.in_ok-literal-2.field-0 in
    let n = c.in_ok-literal-3.field-0 in
    let three : c.push-3.new.self.items ≡ l ∷ m ∷ n ∷ [] =
    pushed _ _ (l ∷ m ∷ []) n c.in_ok-push-3.ensures.items (pushed _ _ (l ∷ []) m c.in_ok-push-2.ensures.items
    (pushed _ _ [] l c.in_ok-push.ensures.items c.new-literals.ensures.items)) in
    three_rows c.add_app-2.new.self c.push-3.new.self.items c.push-4.new.self.items _ l m n c.in_ok-f_x.f_x c.in_ok-y.y c.in_ok-constant.constant
    (pushed _ _ [] _ c.in_ok-push-4.ensures.items c.new-clauses.ensures.items) three c.in_ok-literal.ensures.args c.in_ok-literal-2.ensures.args
    c.in_ok-literal-3.ensures.args (length c.add_app-2.new.self) (omega (arith, c.in_ok-f_x.ensures.within, c.in_ok-constant.ensures.count))
    (omega (arith, c.in_ok-y.ensures.row, c.in_ok-y.ensures.count, c.in_ok-f_x.ensures.count, c.in_ok-constant.ensures.count)) c.in_ok-constant.ensures.within

pub new-requires-clause-valid : goal.new-requires-clause-valid
new-requires-clause-valid c =
    let l = c.in_ok-literal.field-0 in
    let m = c.in_ok-literal-2.field-0 in
    let n = c.in_ok-literal-3.field-0 in
    let three : c.push-3.new.self.items ≡ l ∷ m ∷ n ∷ [] =
    pushed _ _ (l ∷ m ∷ []) n c.in_ok-push-3.ensures.items (pushed _ _ (l ∷ []) m c.in_ok-push-2.ensures.items
    (pushed _ _ [] l c.in_ok-push.ensures.items c.new-literals.ensures.items)) in
    let over =
    literal_over _ _ _ _ c.in_ok-p.p c.in_ok-a.a c.in_ok-f.f c.new-symbols.ensures c.in_ok-p.ensures.numbered c.in_ok-a.ensures.numbered c.in_ok-f.ensures.numbered
    _ _ _ _ _ c.in_ok-x.x c.in_ok-y.y c.in_ok-f_x.f_x c.in_ok-constant.constant c.new-terms.ensures c.in_ok-x.ensures.row c.in_ok-x.ensures.added c.in_ok-y.ensures.added
    c.in_ok-f_x.ensures.added c.in_ok-constant.ensures.added in
    valid_example _ _ _ _ c.in_ok-p.p c.in_ok-a.a c.in_ok-f.f c.new-symbols.ensures c.in_ok-p.ensures.numbered c.in_ok-a.ensures.numbered c.in_ok-f.ensures.numbered
    _ _ _ _ _ c.in_ok-x.x c.in_ok-y.y c.in_ok-f_x.f_x c.in_ok-constant.constant c.new-terms.ensures c.in_ok-x.ensures.row c.in_ok-x.ensures.added c.in_ok-y.ensures.added
    c.in_ok-f_x.ensures.added c.in_ok-constant.ensures.added c.push-3.new.self.items c.push-4.new.self.items _ l m n
    (pushed _ _ [] _ c.in_ok-push-4.ensures.items c.new-clauses.ensures.items) refl three
    (over l c.in_ok-f_x.f_x c.in_ok-literal.ensures.predicate c.in_ok-literal.ensures.args (omega (arith, c.in_ok-f_x.ensures.within, c.in_ok-constant.ensures.count)))
    (over m c.in_ok-y.y c.in_ok-literal-2.ensures.predicate c.in_ok-literal-2.ensures.args
    (omega (arith, c.in_ok-y.ensures.row, c.in_ok-y.ensures.count, c.in_ok-f_x.ensures.count, c.in_ok-constant.ensures.count)))
    (over n c.in_ok-constant.constant c.in_ok-literal-3.ensures.predicate c.in_ok-literal-3.ensures.args c.in_ok-constant.ensures.within)

pub returns : goal.returns
returns c =
    let l = c.in_ok-literal.field-0 in
    let m = c.in_ok-literal-2.field-0 in
    let n = c.in_ok-literal-3.field-0 in
    let three : c.push-3.new.self.items ≡ l ∷ m ∷ n ∷ [] =
    pushed _ _ (l ∷ m ∷ []) n c.in_ok-push-3.ensures.items (pushed _ _ (l ∷ []) m c.in_ok-push-2.ensures.items
    (pushed _ _ [] l c.in_ok-push.ensures.items c.new-literals.ensures.items)) in
    subst (λ (p : Problem). HasThreeLiterals p.clauses) (sym c.new.ensures)
    (three_literals c.add_app-2.new.self c.push-3.new.self.items c.push-4.new.self.items _ l m n c.in_ok-f_x.f_x c.in_ok-y.y c.in_ok-constant.constant
    (pushed _ _ [] _ c.in_ok-push-4.ensures.items c.new-clauses.ensures.items) three c.in_ok-literal.ensures.args c.in_ok-literal-2.ensures.args
    c.in_ok-literal-3.ensures.args)
