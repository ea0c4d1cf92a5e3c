use Rattle.std.proofs.Common.{◌≡◌, ◌⊎◌, ap, subst, sym}
use Rattle.dd_causes.specs.Counts.{Rose}
use Rattle.dd_session.specs.declared.status.Status.{Status}
use Rattle.dd_session.specs.declared.status.Status.TheVariants.{Done, Memory, Script}
use Rattle.dd_session.proofs.OutcomesLemmas.{faultless_is_run, faulty_is_refused, told_text}
use Rattle.dd_session.proofs.run.run_words.Goals as goal

pub returns-in-Some-clause-complete : goal.returns-in-Some-clause-complete
returns-in-Some-clause-complete g c = λ asked text told faultless read write disk.
    let faults = c.run_command.ensures.faults in
    let same = c.report_outcome.ensures.same in
    subst (λ (status : Status). (status ≡ Done) ⊎ (status ≡ Memory)) (sym (ap (λ o. o.status) same))
    (faultless_is_run _ _ _ text (told_text _ text told) c.run_command.ensures.ends faultless
    (λ s. read (faults.source.0 s)) (λ s. write (faults.output.0 s))
    (λ s. disk (subst (λ store. Rose (g.D.Store.faults c.args.store) (g.D.Store.faults store)) (sym (ap (λ o. o.store) same)) (faults.store.0 s))))

pub returns-in-Some-clause-refused : goal.returns-in-Some-clause-refused
returns-in-Some-clause-refused g c = λ asked text fault told is read.
    let same = c.report_outcome.ensures.same in
    subst (λ (status : Status). (status ≡ Script fault) ⊎ (status ≡ Memory)) (sym (ap (λ o. o.status) same))
    (faulty_is_refused _ _ _ text fault (told_text _ text told) c.run_command.ensures.ends is (λ s. read (c.run_command.ensures.faults.source.0 s)))
