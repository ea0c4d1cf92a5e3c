use Rattle.std.proofs.Common.{◌≡◌, ◌-◌, ◌<◌, map, drop}
use Rattle.std.specs.List.{range_with_len}
use Rattle.dd_views.specs.Positions.{position_in, positions_in}
use Rattle.dd_meaning.specs.Steps.{put_at}
use Rattle.dd_plain.proofs.storing.store_steps.Given as goal

abbrev pub invariant-loop-value : goal.invariant-loop-value
invariant-loop-value l = record {
  left : put_at (map (position_in l.fn.column) (range_with_len l.value-index (l.fn.column.count - l.value-index))) (drop l.value-index l.from) l.values ≡ put_at (positions_in l.fn.column) l.from l.fn.values;
  here : l.value-index < l.fn.column.count → l.at ≡ position_in l.fn.column l.value-index;
}
