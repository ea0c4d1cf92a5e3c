use Rattle.std.proofs.Common.{◌≡◌, ℕ, ◌<◌, Bor, sym, ap, ◌∙◌, subst}
use Rattle.std.specs.List.{All}
use Rattle.dd_blocks.specs.declared.plan.Plan.{Plan}
use Rattle.dd_stamps.specs.Cells.{size_of}
use Rattle.copy_bench.proofs.taking.take_all.Goals as goal

pub take_from-requires-clause-plan : goal.take_from-requires-clause-plan
take_from-requires-clause-plan c = c.requires.plan ∙ sym (c.reserve.ensures.kept.plan ∙ c.loop.invariant.plan)

pub take_from-requires-clause-block : goal.take_from-requires-clause-block
take_from-requires-clause-block c = c.requires.block ∙ sym (c.reserve.ensures.kept.block ∙ c.loop.invariant.block)

pub take_from-requires-clause-places : goal.take_from-requires-clause-places
take_from-requires-clause-places c =
    let plan = c.reserve.ensures.kept.plan ∙ c.loop.invariant.plan in
    let block = c.reserve.ensures.kept.block ∙ c.loop.invariant.block in
    let size : size_of c.reserve.new.self.plan.now c.reserve.new.self.block ≡ size_of c.args.copy.now.plan.now c.args.copy.now.block =
    ap (λ (p : Bor Plan). size_of p.now c.reserve.new.self.block) plan ∙ ap (λ (b : ℕ). size_of c.args.copy.now.plan.now b) block in
    subst (λ (n : ℕ). All (λ p. p < n) c.args.places.now.list) (sym size) c.requires.places
