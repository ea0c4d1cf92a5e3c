use Rattle.std.proofs.Common.{◌≡◌, ◌+◌, ◌<◌, pos, length, arith}
use Rattle.dd_stamps.proofs.TakenLemmas.{left_behind, rest_among, run_within, taking_more}
use Rattle.dd_stamps.proofs.places.take_places.Goals as goal

pub take_versions-requires-clause-within : goal.take_versions-requires-clause-within
take_versions-requires-clause-within c =
    let within = run_within c.in-Some.first c.in-Some.count (length c.args.versions.now.list) _ _ _ c.in-Some.ensures.left c.loop-first.invariant.among c.requires.places c.in-Some.ensures.run.some in
    omega (arith, within, c.loop-first.invariant.versions.count)

pub take_versions-requires-clause-spare : goal.take_versions-requires-clause-spare
take_versions-requires-clause-spare c =
    let left = left_behind c.in-Some.first c.in-Some.count _ _ c.in-Some.ensures.left in
    omega (arith, left, c.loop-first.invariant.spare, c.requires.spare)

pub take_values-requires-clause-within : goal.take_values-requires-clause-within
take_values-requires-clause-within c =
    let within = run_within c.in-Some.first c.in-Some.count (length c.args.versions.now.list) _ _ _ c.in-Some.ensures.left c.loop-first.invariant.among c.requires.places c.in-Some.ensures.run.some in
    omega (arith, within, c.loop-first.invariant.values.count, c.requires.same)

pub loop-first-smaller : goal.loop-first-smaller
loop-first-smaller c =
    let left : length c.loop-first.left.list ≡ c.in-Some.count + length c.next_run.new.self.list = left_behind c.in-Some.first c.in-Some.count _ _ c.in-Some.ensures.left in
    let some : 0 < c.in-Some.count = c.in-Some.ensures.run.some in
    omega (arith, left, some)

pub loop-first-preserved : goal.loop-first-preserved
loop-first-preserved c =
    let is = c.in-Some.ensures.left in
    let among = c.loop-first.invariant.among in
    record {
      versions = taking_more 0 c.in-Some.first c.in-Some.count _ _ _ _ _ _ _ c.loop-first.invariant.versions is among c.take_versions.ensures.taken;
      values = taking_more (pos 0) c.in-Some.first c.in-Some.count _ _ _ _ _ _ _ c.loop-first.invariant.values is among c.take_values.ensures;
      among = λ p has. among p (rest_among c.in-Some.first c.in-Some.count _ _ is p has);
      spare = omega (arith, left_behind c.in-Some.first c.in-Some.count _ _ is, c.loop-first.invariant.spare, c.take_versions.ensures.spare);
    }
