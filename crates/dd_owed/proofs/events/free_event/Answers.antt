use Rattle.std.proofs.Common.{◌≡◌, ◌/◌, ◌%◌, ℕ, Some, refl, ap, sym, ◌∙◌, arith}
use Rattle.std.specs.List.{slice_get}
use Rattle.dd_machine.specs.declared.event.Event.TheVariants.{Free}
use Rattle.dd_machine.specs.Owed.{blocks_of, freed}
use Rattle.dd_owed.proofs.PiecesLemmas.{get_piece, in_piece}
use Rattle.dd_owed.proofs.events.free_event.Goals as goal

pub returns-in-Some-clause-value : goal.returns-in-Some-clause-value
returns-in-Some-clause-value c =
    let f = freed c.args.plan.now c.args.row in
    let one : c.args.i / 1 ≡ c.args.i = omega arith in
    let rest : c.args.i % 1 ≡ 0 = omega arith in
    ap (λ (h : ℕ). Some (Free h c.in-Some.block)) c.home_before.ensures
    ∙ sym (get_piece f (blocks_of c.args.plan.now c.args.array) 1 c.args.i (omega arith) (λ x. refl)
    ∙ ap (λ (k : ℕ). in_piece f k (slice_get (blocks_of c.args.plan.now c.args.array) (c.args.i / 1))) rest
    ∙ ap (in_piece f 0) (ap (slice_get (blocks_of c.args.plan.now c.args.array)) one ∙ sym c.block_at.ensures.value ∙ c.in-Some.is))

pub returns-in-None-clause-value : goal.returns-in-None-clause-value
returns-in-None-clause-value c =
    let f = freed c.args.plan.now c.args.row in
    let one : c.args.i / 1 ≡ c.args.i = omega arith in
    sym (get_piece f (blocks_of c.args.plan.now c.args.array) 1 c.args.i (omega arith) (λ x. refl)
    ∙ ap (in_piece f (c.args.i % 1)) (ap (slice_get (blocks_of c.args.plan.now c.args.array)) one ∙ sym c.block_at.ensures.value ∙ c.in-None.is))
