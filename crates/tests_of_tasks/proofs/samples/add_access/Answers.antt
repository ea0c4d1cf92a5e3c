use Rattle.std.proofs.lemmas.List.Elements.{All-push}
use Rattle.dd_views.specs.Views.{IsViewOf}
use Rattle.dd_blocks.specs.declared.access_row.AccessRow.{AccessRow}
use Rattle.tests_of_tasks.proofs.samples.add_access.Goals as goal

pub returns : goal.returns
returns c =
    rw c.in_ok-push.ensures.items (All-push (λ (a : AccessRow). IsViewOf (record { rows = 16; cols = 1 }) a.view) c.args.rows.now.items (record { view = c.in-Ok.view; mode = c.args.access.2 }) c.requires c.in-Ok.ensures.view)
