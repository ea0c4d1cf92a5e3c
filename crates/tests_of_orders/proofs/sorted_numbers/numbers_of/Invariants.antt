use Rattle.std.proofs.Common.{◌-◌, ◌^◌}
use Rattle.tests_of_orders.proofs.sorted_numbers.numbers_of.Given as goal

abbrev pub decreases-loop-first : goal.decreases-loop-first
decreases-loop-first l = 2 ^ 64 - l.from
