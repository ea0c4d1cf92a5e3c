use Rattle.std.proofs.Common.{◌≡◌, ℕ, ◌+◌, pos, get_or, ap, ◌∙◌, subst, arith}
use Rattle.dd_kernels.specs.Lists.{element}
use Rattle.dd_stamps.specs.Columns.{place_at}
use Rattle.dd_stamps.specs.Placed.{HasPlaced}
use Rattle.dd_stamps.proofs.PlacedLemmas.{one_copied, placed_more, placed_none}
use Rattle.dd_stamps.proofs.gathering.gather_steps.Goals as goal

pub loop-i-init : goal.loop-i-init
loop-i-init c = placed_none (pos 0) c.args.piece.from c.args.piece.from (λ k. c.args.at + k) (λ k. element c.args.values.now (place_at c.args.column c.args.piece k)) c.args.into.now (omega arith)

pub loop-i-preserved : goal.loop-i-preserved
loop-i-preserved c =
    let one = one_copied (pos 0) _ _ _ _ _ c.copy_one.ensures in
    placed_more (pos 0) c.args.piece.from c.loop-i.i (λ k. c.args.at + k) (λ k. element c.args.values.now (place_at c.args.column c.args.piece k)) c.args.into.now c.loop-i.into c.copy_one.new.into c.loop-i.invariant (omega arith) c.copy_one.ensures.count
    (one.0 ∙ ap (λ (n : ℕ). get_or c.args.values.now n (pos 0)) c.place_of.ensures) one.1 (λ k low lt e. absurd (omega (arith, e, lt)))

pub returns : goal.returns
returns c =
    let all : c.loop-i.i ≡ c.args.piece.end = omega (arith, c.requires.places.order) in
    subst (λ (n : ℕ). HasPlaced (pos 0) c.args.piece.from n (λ i. c.args.at + i) (λ i. element c.args.values.now (place_at c.args.column c.args.piece i)) c.args.into.now c.loop-i.into) all c.loop-i.invariant
