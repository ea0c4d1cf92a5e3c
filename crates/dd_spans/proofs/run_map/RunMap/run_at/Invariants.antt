-- The places so far have the value.
use Rattle.std.proofs.Common.{◌≡◌, ◌+◌}
use Rattle.std.specs.List.{AllWithin}
use Rattle.dd_spans.proofs.run_map.RunMap.run_at.Given as goal

abbrev pub invariant-loop-count : goal.invariant-loop-count
invariant-loop-count l = AllWithin (λ value. value ≡ l.value) l.self.list l.place (l.place + l.count)
