-- The copy and its bytes were taken off.
use Rattle.std.proofs.Common.{ℕ, List, None, rules, refl, sym, subst, arith}
use Rattle.dd_pool.specs.Held.{AreCounted}
use Rattle.dd_pool.proofs.HeldLemmas.{at_place, elsewhere, fewer_bytes, left_of, recounted, same_counted, same_ours, still_empty, take_ours, value_at_place}
use Rattle.dd_pool.proofs.copies.Copies.take.Goals as goal

pub lower-requires-clause-fits : goal.lower-requires-clause-fits
lower-requires-clause-fits c =
    let plan = c.args.self.now.plan.now in
    let has = at_place plan _ _ c.args.space c.args.block _ _ None refl c.place_of-at.ensures.value c.in-Some.ensures.left in
    let there = value_at_place c.args.self.now.cells _ _ _ c.place_of-at.ensures.value c.in-Some.ensures.value in
    let count = fewer_bytes plan _ _ c.args.space c.args.block c.in-Some.copy _ c.bytes_of-bytes.result c.requires has there (c.args.self.now.counted c.args.space c.requires.a_space) c.bytes_of-bytes.ensures in
    omega (arith, count)

pub invariant_of-self-clause-ours : goal.invariant_of-self-clause-ours
invariant_of-self-clause-ours c =
    let has = at_place c.args.self.now.plan.now _ _ c.args.space c.args.block _ _ None refl c.place_of-at.ensures.value c.in-Some.ensures.left in
    take_ours c.args.self.now.plan _ _ c.args.space c.args.block c.requires has c.args.self.now.ours

pub invariant_of-self-clause-counted : goal.invariant_of-self-clause-counted
invariant_of-self-clause-counted c =
    let plan = c.args.self.now.plan.now in
    let has = at_place plan _ _ c.args.space c.args.block _ _ None refl c.place_of-at.ensures.value c.in-Some.ensures.left in
    let there = value_at_place c.args.self.now.cells _ _ _ c.place_of-at.ensures.value c.in-Some.ensures.value in
    let count = fewer_bytes plan _ _ c.args.space c.args.block c.in-Some.copy _ c.bytes_of-bytes.result c.requires has there (c.args.self.now.counted c.args.space c.requires.a_space) c.bytes_of-bytes.ensures in
    subst (λ (l : List ℕ). AreCounted plan c.take.new.self l) (sym c.lower.ensures)
    (recounted plan _ _ c.args.space c.args.block None c.args.self.now.sizes.items _ c.requires has c.args.self.now.counted c.args.self.now.spaces (left_of _ _ _ count))

pub invariant_of-self-in-None : goal.invariant_of-self-in-None
invariant_of-self-in-None c =
    let same = still_empty c.args.self.now.cells c.take.new.self c.place_of-at.result c.in-None.ensures.left c.in-None.ensures.value in
    record {
      few = search rules;
      light = search rules;
      wide = search rules;
      spaces = search rules;
      ours = same_ours c.args.self.now.plan c.args.self.now.cells c.take.new.self c.args.self.now.ours same;
      counted = same_counted c.args.self.now.plan.now c.args.self.now.cells c.take.new.self c.args.self.now.sizes.items c.args.self.now.counted same;
    }

pub returns-in-Some-clause-left : goal.returns-in-Some-clause-left
returns-in-Some-clause-left c =
    let plan = c.args.self.now.plan.now in
    let has = at_place plan _ _ c.args.space c.args.block _ _ None refl c.place_of-at.ensures.value c.in-Some.ensures.left in
    record { plan = refl; here = has.here; others = elsewhere plan _ _ c.args.space c.args.block None c.requires has }

pub returns-in-None-clause-left : goal.returns-in-None-clause-left
returns-in-None-clause-left c =
    let plan = c.args.self.now.plan.now in
    let has = at_place plan _ _ c.args.space c.args.block _ _ None refl c.place_of-at.ensures.value c.in-None.ensures.left in
    record { plan = refl; here = has.here; others = elsewhere plan _ _ c.args.space c.args.block None c.requires has }

pub returns-in-Some-clause-ours : goal.returns-in-Some-clause-ours
returns-in-Some-clause-ours c =
    c.args.self.now.ours c.args.space c.args.block c.in-Some.copy c.requires (value_at_place c.args.self.now.cells _ _ _ c.place_of-at.ensures.value c.in-Some.ensures.value)
