use Rattle.std.proofs.Common.{◌≡◌, ◌<◌, ◌≤◌, ◌+◌, ◌∙◌, cond, List, [], ◌∷◌, ◌++◌, length, map, take, get_or, sym, ap, subst, arith}
use Rattle.std.proofs.lemmas.List.{take_all, length-map, append-nil}
use Rattle.pm_logic.specs.declared.problem.Clause.{Clause}
use Rattle.pm_logic.specs.Lists.{places}
use Rattle.pm_logic.specs.Problem.{is_start}
use Rattle.pm_logic.specs.Problem as spec
use Rattle.pm_logic.specs.View.{clause_of}
use Rattle.pm_logic.proofs.StartLemmas.{starts-more}
use Rattle.pm_logic.proofs.problem.Problem.starts.Goals as goal
use Rattle.pm_logic.proofs.problem.Problem.starts.Goals.{then-is_start+in_ok-push, else-is_start}

pub loop-i-preserved : goal.loop-i-preserved
loop-i-preserved c =
    let item : c.clause-item.result ≡ get_or c.self.inside.clauses.items c.loop-i.i c.clause-item.result =
    c.clause-item.is ∙ ap (λ (cs : List Clause). get_or cs c.loop-i.i c.clause-item.result) c.deref-clause-items.ensures.value in
    let within = subst (λ (cs : List Clause). c.loop-i.i < length cs) c.deref-clause-items.ensures.value c.loop-i-test.true in
    let more = subst (λ (p : spec.Problem). places (is_start c.args.start) 0 (take (c.loop-i.i + 1) p.clauses)
    ≡ places (is_start c.args.start) 0 (take c.loop-i.i p.clauses) ++ cond c.is_start.result (c.loop-i.i ∷ []) []) c.self.view_is
    (starts-more c.args.start c.self.inside.terms c.self.inside.clauses.items c.loop-i.i c.clause-item.result c.is_start.result within item (c.is_start.ensures c.self.inside.terms)) in
    elim c.if-is_start.branch [
      | then-is_start+in_ok-push w ↦
          ap (λ v. v.items) w.indices-is ∙ w.in_ok-push.ensures.items ∙ ap (λ ns. ns ++ c.loop-i.i ∷ []) c.loop-i.invariant
          ∙ sym (more ∙ ap (λ b. places (is_start c.args.start) 0 (take c.loop-i.i c.args.self.now.clauses) ++ cond b (c.loop-i.i ∷ []) []) w.if-is_start.true)
      | else-is_start w ↦
          ap (λ v. v.items) w.indices-is ∙ c.loop-i.invariant
          ∙ sym (more ∙ ap (λ b. places (is_start c.args.start) 0 (take c.loop-i.i c.args.self.now.clauses) ++ cond b (c.loop-i.i ∷ []) []) w.if-is_start.false ∙ append-nil (places (is_start c.args.start) 0 (take c.loop-i.i c.args.self.now.clauses)))
    ]

pub returns : goal.returns
returns c =
    let below : length (map (clause_of c.self.inside.terms) c.self.inside.clauses.items) ≤ c.loop-i.i =
    omega (arith, length-map c.self.inside.clauses.items (clause_of c.self.inside.terms), c.deref-clause-items.ensures.len, c.loop-i-test.false) in
    let le = subst (λ (p : spec.Problem). length p.clauses ≤ c.loop-i.i) c.self.view_is below in
    c.loop-i.invariant ∙ ap (places (is_start c.args.start) 0) (take_all c.loop-i.i c.args.self.now.clauses le)
