use Rattle.std.proofs.Common.{◌≡◌, ◌&&◌, drop}
use Rattle.std.specs.List.{list_any}
use Rattle.dd_blocks.specs.declared.access_row.AccessRow.{AccessRow}
use Rattle.dd_blocks.specs.Elements.{reads}
use Rattle.dd_blocks.specs.Elements.{has, task_reads}
use Rattle.dd_tables.proofs.elements.Element.is_read_by.Given as goal

abbrev pub invariant-loop-access : goal.invariant-loop-access
invariant-loop-access l = list_any (λ (a : AccessRow). reads a.mode && has a (record { array = l.self.array; pos = l.self.pos })) (drop l.access-index l.task.accesses)
    ≡ task_reads l.task (record { array = l.self.array; pos = l.self.pos })
