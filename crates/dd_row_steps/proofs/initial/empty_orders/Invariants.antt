use Rattle.std.proofs.Common.{◌≡◌, [], replicate}
use Rattle.dd_row_steps.proofs.initial.empty_orders.Given as goal

abbrev pub invariant-loop-space : goal.invariant-loop-space
invariant-loop-space l = l.orders.items ≡ replicate l._space (record { blocks = []; room = l.room })
