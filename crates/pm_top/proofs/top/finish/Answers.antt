use Rattle.std.proofs.Common.{ap, refl, sym, ◌∙◌, Some, Err}
use Rattle.pm_top.specs.Inside.Stops.{answered, answer_in}
use Rattle.pm_top.proofs.Ran.{ran_fault, ran_out, ran_put, ran_broken}
use Rattle.pm_top.proofs.top.finish.Goals.{in-Ok, in-Err-Answered}
use Rattle.pm_top.proofs.top.finish.Goals as goal

pub returns-in-Err-ReadFault : goal.returns-in-Err-ReadFault
returns-in-Err-ReadFault g c words before after meets counts =
    ran_fault words before after _ _ c.args.outcome counts refl (c.in-Err-ReadFault.is ∙ ap Err c.in-Err-ReadFault.field-0-is)

pub returns-in-Err-NoMemory : goal.returns-in-Err-NoMemory
returns-in-Err-NoMemory g c words before after meets counts =
    ran_out words before after _ _ c.args.outcome counts refl (c.in-Err-NoMemory.is ∙ ap Err c.in-Err-NoMemory.field-0-is)

pub returns-in-Ok-put_text : goal.returns-in-Ok-put_text
returns-in-Ok-put_text g c words before after meets counts =
    ran_put words before after _ _ c.args.outcome counts c.match-outcome.answer
    (elim c.match-outcome.branch [
      | in-Ok w ↦ ap answered w.in-Ok.is ∙ ap Some (sym w.answer-is)
      | in-Err-Answered w ↦ ap answered w.in-Err-Answered.is ∙ ap answer_in w.in-Err-Answered.field-0-is ∙ ap Some (sym w.answer-is)
    ])
    meets c.deref.result.now c.deref.ensures.value c.in-Ok-put_text.ensures.all c.in-Ok-put_text.ensures.unfailed

pub returns : goal.returns
returns g c words before after meets counts =
    ran_broken words before after _ _ c.args.outcome counts c.match-outcome.answer
    (elim c.match-outcome.branch [
      | in-Ok w ↦ ap answered w.in-Ok.is ∙ ap Some (sym w.answer-is)
      | in-Err-Answered w ↦ ap answered w.in-Err-Answered.is ∙ ap answer_in w.in-Err-Answered.field-0-is ∙ ap Some (sym w.answer-is)
    ])
    meets c.deref.result.now c.deref.ensures.value c.in-Err.ensures.prefix c.in-Err.ensures.piece c.in-Err.ensures.failed c.in-Err.ensures.faults
