use Rattle.dd_place.proofs.RegionsLemmas.{NoneFrom}
use Rattle.dd_place.proofs.region.row_of_region.Given as goal

abbrev pub invariant-loop-i : goal.invariant-loop-i
invariant-loop-i l = NoneFrom l.region l.rows l.i
