use Rattle.std.proofs.lemmas.List.Elements.{All-get_or}
use Rattle.dd_blocks.specs.declared.access_row.AccessRow.{AccessRow}
use Rattle.dd_views.specs.Views.{IsView}
use Rattle.dd_tables.proofs.elements.Element.is_written_by.Goals as goal

pub is_in-requires : goal.is_in-requires
is_in-requires c = All-get_or (λ (a : AccessRow). IsView a.view) c.as_slice-access-items.result.now c.loop-access.access-index _ c.loop-access-test.true (rw c.as_slice-access-items.ensures c.requires)
