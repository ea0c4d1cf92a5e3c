use Rattle.std.proofs.lemmas.List.Elements.{All-push}
use Rattle.dd_views.specs.Views.{IsViewOf}
use Rattle.dd_blocks.specs.declared.access_row.AccessRow.{AccessRow}
use Rattle.tests_of_tasks.proofs.pairs.drawn_accesses.Goals as goal

pub loop-preserved : goal.loop-preserved
loop-preserved c =
    rw c.in_ok-push.ensures.items (All-push (λ (a : AccessRow). IsViewOf (record { rows = 12; cols = 12 }) a.view) c.loop.accesses.items c.in_ok-drawn_access.field-0 c.loop.invariant c.in_ok-drawn_access.ensures)
