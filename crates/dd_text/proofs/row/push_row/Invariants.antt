use Rattle.std.proofs.Common.{◌≡◌, ◌++◌}
use Rattle.std.specs.List.{join_with_byte}
use Rattle.dd_text.proofs.RowLemmas.{numbers_to}
use Rattle.dd_text.proofs.row.push_row.Given as goal

abbrev pub invariant-loop-j : goal.invariant-loop-j
invariant-loop-j l =
    l.line.items ≡ l.initial.line.items ++ join_with_byte 32 (numbers_to l.grid l.values l.i l.j)
