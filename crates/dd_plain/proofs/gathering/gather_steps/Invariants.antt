use Rattle.std.proofs.Common.{◌≡◌, ◌<◌, ◌++◌, map}
use Rattle.std.specs.List.{range_with_len}
use Rattle.dd_kernels.specs.Lists.{element}
use Rattle.dd_views.specs.Positions.{position_in}
use Rattle.dd_plain.proofs.gathering.gather_steps.Given as goal

abbrev pub invariant-loop-i : goal.invariant-loop-i
invariant-loop-i l = record {
  values : l.buf.items ≡ l.initial.buf.items ++ map (element l.values) (map (position_in l.fn.column) (range_with_len 0 l._i));
  here : l._i < l.fn.column.count → l.at ≡ position_in l.fn.column l._i;
}
