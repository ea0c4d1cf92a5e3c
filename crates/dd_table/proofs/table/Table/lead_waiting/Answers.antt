-- A task that is held is led on from there.
use Rattle.std.proofs.Common.{◌∷◌, [], Result, arith, ◌∙◌}
use Rattle.dd_machine.specs.declared.event.Event.TheVariants.{Hold}
use Rattle.dd_table.specs.declared.fault.RunFault.{RunFault}
use Rattle.dd_table.specs.declared.turns.Step.{Step}
use Rattle.dd_table.specs.Leading.{Stands, StepGives}
use Rattle.dd_table.proofs.ClaimedLemmas.{hands_then}
use Rattle.dd_table.proofs.PreparesLemmas.{fails_then, later, left_lead, may_lead_then}
use Rattle.dd_table.proofs.RoundsLemmas.{failed, gives_hands, held_by, hold_fails, hold_prepares, moves_behind}
use Rattle.dd_table.proofs.table.Table.lead_waiting.Goals as goal

pub may-requires-clause-left : goal.may-requires-clause-left
may-requires-clause-left g c = λ _ _. left_lead c.args.self.now c.requires.lead

pub note-requires-clause-left : goal.note-requires-clause-left
note-requires-clause-left g c = λ _ _. left_lead c.args.self.now c.requires.lead

pub lead_held-requires-clause-lead : goal.lead_held-requires-clause-lead
lead_held-requires-clause-lead g c = λ _ _.
    may_lead_then c.args.self.now c.note.new.self (Hold c.args.task ∷ []) (hold_prepares c.args.self.now c.note.new.self c.args.task c.in_ok-note.ensures) c.requires.lead
    (c.in_ok-note.ensures.enters.cause ∙ c.requires.lead.running)

pub lead_held-requires-clause-free : goal.lead_held-requires-clause-free
lead_held-requires-clause-free g c = λ _ _.
    (later c.args.self.now c.note.new.self (Hold c.args.task ∷ []) (hold_prepares c.args.self.now c.note.new.self c.args.task c.in_ok-note.ensures)).free c.args.worker c.requires.free

pub lead_held-requires-clause-held : goal.lead_held-requires-clause-held
lead_held-requires-clause-held g c = λ _ _. held_by c.args.self.now c.note.new.self c.args.task c.in_ok-note.ensures

pub returns-in_err-note : goal.returns-in_err-note
returns-in_err-note g c =
    failed (λ (r : Result Step RunFault). StepGives c.args.self.now c.note.new.self c.args.worker (Stands c.args.task) r) c.from_residual.result c.in_err-note.field-0.0 c.from_residual.ensures.1
    (hold_fails c.args.self.now c.note.new.self c.args.task c.in_err-note.field-0.0 c.in_err-note.ensures)

pub returns-in_err-work : goal.returns-in_err-work
returns-in_err-work g c =
    failed (λ (r : Result Step RunFault). StepGives c.args.self.now c.lead_held.new.self c.args.worker (Stands c.args.task) r) c.from_residual-in_err-work.result c.in_err-work.field-0.0
    c.from_residual-in_err-work.ensures.1
    (fails_then c.args.self.now c.note.new.self c.lead_held.new.self (Hold c.args.task ∷ []) c.in_err-work.field-0.0 (hold_prepares c.args.self.now c.note.new.self c.args.task c.in_ok-note.ensures)
    (c.in_ok-note.ensures.enters.cause ∙ c.requires.lead.running) c.in_err-work.ensures)

pub returns-in-Claimed : goal.returns-in-Claimed
returns-in-Claimed g c =
    hands_then c.args.self.now c.note.new.self c.lead_held.new.self (Hold c.args.task ∷ []) c.args.worker c.in-Claimed.work (hold_prepares c.args.self.now c.note.new.self c.args.task c.in_ok-note.ensures)
    c.requires.lead.running (gives_hands c.note.new.self c.lead_held.new.self c.args.worker (Stands c.args.task) c.in_ok-work.field-0 c.in-Claimed.work c.in-Claimed.is c.in_ok-work.ensures)

pub returns-in_default : goal.returns-in_default
returns-in_default g c =
    moves_behind c.args.self.now c.note.new.self c.lead_held.new.self (Hold c.args.task ∷ []) c.args.task c.args.worker (Stands c.args.task) c.in_ok-work.field-0
    (hold_prepares c.args.self.now c.note.new.self c.args.task c.in_ok-note.ensures) (omega arith) (held_by c.args.self.now c.note.new.self c.args.task c.in_ok-note.ensures) c.in_default.not-Claimed
    c.in_ok-work.ensures
