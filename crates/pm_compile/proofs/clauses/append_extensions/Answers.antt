use Rattle.std.proofs.Common.{sym, ◌∙◌, subst}
use Rattle.pm_compile.specs.Inside.Clauses.{IsOver}
use Rattle.pm_compile.proofs.ClauseLemmas.{extension-added}
use Rattle.pm_compile.proofs.clauses.append_extensions.Goals as goal

pub append_extension-requires-clause-literal : goal.append_extension-requires-clause-literal
append_extension-requires-clause-literal c =
    let problem = c.args.source.now.problem.now in
    subst (IsOver problem.symbols problem.terms) (sym c.index-literals-j.is) (c.requires.literals c.literals.j c.index-literals-j.result c.literals-test.true)

pub literals-preserved : goal.literals-preserved
literals-preserved c =
    let terms = c.args.source.now.problem.now.terms in
    record {
      added = extension-added terms c.args.c c.literals.j c.len-from.result c.len.result c.args.literals.now c.index-literals-j.result _ _ _ _ _ _
          c.literals-test.true c.index-literals-j.is c.in_ok-append_extension.ensures.code
          (c.len-from.ensures ∙ c.literals.instrs.ok.0) (c.len.ensures ∙ c.append_extension.new.instrs.ok.0)
          c.in_ok-push.ensures.items c.literals.invariant.added;
      ready = c.in_ok-append_extension.ensures.seen;
    }
