use Rattle.std.proofs.Common.{◌%◌, refl, ap, sym, ◌∙◌, arith}
use Rattle.dd_machine.specs.Owed.{blocks_elsewhere, shifted_to}
use Rattle.dd_owed.proofs.PiecesLemmas.{get_piece, in_piece}
use Rattle.dd_owed.proofs.events.shift_event.Goals as goal

pub returns-in-Some-clause-value : goal.returns-in-Some-clause-value
returns-in-Some-clause-value c =
    let f = shifted_to c.args.space in
    c.shifted_at.ensures ∙ sym (get_piece f (blocks_elsewhere c.args.plan.now c.args.row c.args.array c.args.space) 3 c.args.i (omega arith) (λ x. refl) ∙ ap (in_piece f (c.args.i % 3)) (sym c.block_elsewhere_at.ensures.value ∙ c.in-Some.is))

pub returns-in-None-clause-value : goal.returns-in-None-clause-value
returns-in-None-clause-value c =
    let f = shifted_to c.args.space in
    sym (get_piece f (blocks_elsewhere c.args.plan.now c.args.row c.args.array c.args.space) 3 c.args.i (omega arith) (λ x. refl) ∙ ap (in_piece f (c.args.i % 3)) (sym c.block_elsewhere_at.ensures.value ∙ c.in-None.is))
