use Rattle.std.proofs.Common.{◌≡◌, ◌≢◌, ℕ, ◌+◌, ◌≤◌, ◌<◌, pos, get_or, ◌∙◌, subst, arith}
use Rattle.std.specs.Prelude.{slice_index}
use Rattle.dd_kernels.specs.Lists.{element}
use Rattle.dd_stamps.specs.Columns.{place_at}
use Rattle.dd_stamps.proofs.PlacedLemmas.{one_copied, placed_more}
use Rattle.dd_stamps.proofs.StampsLemmas.{one_stamped, spends_more}
use Rattle.dd_stamps.proofs.storing.store_steps.Goals as goal

pub loop-i-preserved : goal.loop-i-preserved
loop-i-preserved g c =
    let places = c.requires.0 in
    let at_is = c.place_of-place.ensures in
    let one = one_copied (pos 0) _ _ _ _ _ c.copy_one.ensures in
    let stamped = one_stamped c.place_of-place.result c.args.task c.loop-i.versions.list c.stamp.new.versions.list c.stamp.ensures.places in
    let apart : (k : ℕ) → c.args.piece.from ≤ k → k < c.loop-i.i → place_at c.args.column c.args.piece k ≢ place_at c.args.column c.args.piece c.loop-i.i = λ k low lt. places.apart k c.loop-i.i low lt (omega arith) in
    record {
      values = placed_more (pos 0) c.args.piece.from c.loop-i.i (place_at c.args.column c.args.piece) (λ k. element c.args.from.now (c.args.at + k)) c.args.values.now c.loop-i.values c.copy_one.new.into c.loop-i.invariant.values (omega arith) c.copy_one.ensures.count
          (subst (λ (n : ℕ). get_or c.copy_one.new.into n (pos 0) ≡ element c.args.from.now (c.args.at + c.loop-i.i)) at_is one.0)
          (λ q ne. one.1 q (λ e. ne (e ∙ at_is))) apart;
      versions = placed_more 0 c.args.piece.from c.loop-i.i (place_at c.args.column c.args.piece) (λ _. c.args.task) c.args.versions.now.list c.loop-i.versions.list c.stamp.new.versions.list c.loop-i.invariant.versions (omega arith) c.stamp.ensures.len
          (subst (λ (n : ℕ). slice_index c.stamp.new.versions.list n ≡ c.args.task) at_is stamped.0)
          (λ q ne. stamped.1 q (λ e. ne (e ∙ at_is))) apart;
      spare = spends_more g.written c.args.task c.args.versions.now c.loop-i.versions c.stamp.new.versions c.loop-i.invariant.spare c.stamp.ensures.spare;
    }
