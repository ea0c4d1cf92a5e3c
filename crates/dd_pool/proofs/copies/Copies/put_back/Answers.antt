-- The copy and its bytes were added.
use Rattle.std.proofs.Common.{ℕ, List, Some, refl, sym, subst, arith}
use Rattle.dd_pool.specs.Held.{AreCounted}
use Rattle.dd_pool.proofs.HeldLemmas.{at_place, bytes_within, elsewhere, more_bytes, put_ours, recounted, size_by}
use Rattle.dd_pool.proofs.copies.Copies.put_back.Goals as goal

pub add-requires-clause-fits : goal.add-requires-clause-fits
add-requires-clause-fits c =
    let plan = c.args.self.now.plan.now in
    let is = c.requires.place in
    let has = at_place plan _ _ c.args.space _ _ _ (Some c.args.copy) c.block-block.ensures c.place_of-at.ensures.value c.put_back.ensures.put in
    let count = more_bytes plan _ _ c.args.space c.args.copy.block c.args.copy _ c.bytes_of-bytes.result is has c.requires.none (c.args.self.now.counted c.args.space is.a_space) (size_by plan _ _ _ c.block-block.ensures c.bytes_of-bytes.ensures) in
    omega (arith, count, bytes_within plan c.put_back.new.self c.args.space, c.args.self.now.light)

pub invariant_of-self-clause-ours : goal.invariant_of-self-clause-ours
invariant_of-self-clause-ours c =
    let has = at_place c.args.self.now.plan.now _ _ c.args.space _ _ _ (Some c.args.copy) c.block-block.ensures c.place_of-at.ensures.value c.put_back.ensures.put in
    put_ours c.args.self.now.plan _ _ c.args.space c.args.copy.block c.args.copy c.requires.place has c.args.self.now.ours c.requires.plan refl

pub invariant_of-self-clause-counted : goal.invariant_of-self-clause-counted
invariant_of-self-clause-counted c =
    let plan = c.args.self.now.plan.now in
    let is = c.requires.place in
    let has = at_place plan _ _ c.args.space _ _ _ (Some c.args.copy) c.block-block.ensures c.place_of-at.ensures.value c.put_back.ensures.put in
    let count = more_bytes plan _ _ c.args.space c.args.copy.block c.args.copy _ c.bytes_of-bytes.result is has c.requires.none (c.args.self.now.counted c.args.space is.a_space) (size_by plan _ _ _ c.block-block.ensures c.bytes_of-bytes.ensures) in
    subst (λ (l : List ℕ). AreCounted plan c.put_back.new.self l) (sym c.add.ensures)
    (recounted plan _ _ c.args.space c.args.copy.block (Some c.args.copy) c.args.self.now.sizes.items _ is has c.args.self.now.counted c.args.self.now.spaces count)

pub returns : goal.returns
returns c =
    let plan = c.args.self.now.plan.now in
    let has = at_place plan _ _ c.args.space _ _ _ (Some c.args.copy) c.block-block.ensures c.place_of-at.ensures.value c.put_back.ensures.put in
    record {
      plan = refl;
      here = has.here;
      others = elsewhere plan _ _ c.args.space c.args.copy.block (Some c.args.copy) c.requires.place has;
    }
