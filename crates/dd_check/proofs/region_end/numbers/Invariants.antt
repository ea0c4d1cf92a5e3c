-- The numbers so far.
use Rattle.std.proofs.Common.{◌≡◌, ◌+◌, map, take}
use Rattle.dd_check.proofs.region_end.numbers.Given as goal

abbrev pub invariant-loop-place : goal.invariant-loop-place
invariant-loop-place l = l.found.items ≡ map (λ place. l.before + place) (take l.place-index l.places)
