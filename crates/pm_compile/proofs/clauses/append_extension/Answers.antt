use Rattle.std.proofs.Common.{◌≡◌, ◌≤◌, ℕ, List, [], ◌∷◌, All, length, map, sym, ◌∙◌, ap, subst}
use Rattle.pm_logic.specs.Term.{as_terms, tree_at}
use Rattle.pm_compile.specs.Inside.Appended.{Appends}
use Rattle.pm_compile.specs.Inside.Ground.{IsRowOver}
use Rattle.pm_compile.specs.Instructions.{NEW, BODY, CLOSE, DONE}
use Rattle.pm_compile.specs.Scheme.{head_code_among}
use Rattle.pm_compile.proofs.AppendLemmas.{Appends-join}
use Rattle.pm_compile.proofs.ClauseLemmas.{ready-after}
use Rattle.pm_compile.proofs.OverLemmas.{literal_args-over}
use Rattle.pm_compile.proofs.clauses.append_extension.Goals as goal

pub append_head-requires-clause-args : goal.append_head-requires-clause-args
append_head-requires-clause-args c =
    let problem = c.args.source.now.problem.now in
    subst (All (IsRowOver problem.symbols problem.terms)) (sym c.deref.ensures.value)
    (literal_args-over problem.symbols problem.terms c.args.literal.now c.requires.literal)

pub returns-clause-code : goal.returns-clause-code
returns-clause-code c =
    let terms = c.args.source.now.problem.now.terms in
    let rows = c.args.literal.now.args.items in
    let old = c.args.instrs.now.items in
    let middle = c.append_head.new.instrs.items in
    let head : Appends terms old middle (head_code_among [] (as_terms (map (tree_at terms) rows))) =
    subst (λ (rs : List ℕ). Appends terms old middle (head_code_among [] (as_terms (map (tree_at terms) rs)))) c.deref.ensures.value c.in_ok-append_head.ensures.code in
    Appends-join terms old middle c.append_closing.new.instrs.items (head_code_among [] (as_terms (map (tree_at terms) rows)))
    (NEW ∷ BODY c.args.c ∷ CLOSE c.args.j ∷ DONE ∷ []) head (c.in_ok-append_closing.ensures terms)

pub returns-clause-seen : goal.returns-clause-seen
returns-clause-seen c =
    let terms = c.args.source.now.problem.now.terms in
    let place : c.begin.new.self.head ≡ length c.args.instrs.now.items = c.begin.ensures.head ∙ c.len.ensures ∙ c.args.instrs.now.ok.0 in
    ready-after terms _ _ _ _ c.args.c c.args.j c.args.seen.now c.append_head.new.seen c.in_ok-append_head.ensures.code
    (c.in_ok-append_closing.ensures terms) c.requires.seen.count (c.in_ok-append_head.ensures.count ∙ ap length c.begin.ensures.heads)
    (subst (λ n. All (λ h. h ≤ n) c.append_head.new.seen.heads.items) place c.in_ok-append_head.ensures.past)
