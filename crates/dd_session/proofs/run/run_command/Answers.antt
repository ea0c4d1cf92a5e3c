use Rattle.std.proofs.Common.{List, ℕ, subst, sym, ◌∙◌}
use Rattle.dd_io.specs.Taken.{ReadsToEnd}
use Rattle.dd_session.specs.Origins.{at_hand, read_from}
use Rattle.dd_session.specs.Outcomes.{leaves_of}
use Rattle.dd_session.proofs.OutcomesLemmas.{ends_from}
use Rattle.dd_session.proofs.run.run_command.Goals as goal

pub returns-in-Ok-clause-ends : goal.returns-in-Ok-clause-ends
returns-in-Ok-clause-ends g c =
    let left = g.S.Source.left c.args.src.now in
    let left' = g.S.Source.left c.read_script.new.src in
    let ran = c.run_script.result in
    ends_from (at_hand c.deref.result.now) (read_from left left')
    (leaves_of c.args.command g.D.Slot.Slot.tells ran.journal.items ran.moved (g.O.Sink.taken c.args.out.now) (g.O.Sink.taken c.run_script.new.out)) ran.status
    (λ t is. subst (λ (read : List ℕ). ReadsToEnd left left' read) (sym (is ∙ c.deref.ensures.value)) c.in-Ok.ensures.read.0)
    (λ never. absurd never) c.run_script.ensures.ends
