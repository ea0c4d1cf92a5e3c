-- The positions so far are set.
use Rattle.std.proofs.Common.{◌≡◌, take}
use Rattle.dd_history.specs.Sets.{IsSetWhere, is_at}
use Rattle.dd_views.specs.IndexList.{index_list}
use Rattle.dd_history.proofs.views.set_view.Given as goal

abbrev pub invariant-loop-i : goal.invariant-loop-i
invariant-loop-i l =
    IsSetWhere (is_at l.first (take l.i (index_list l.view))) l.task l.fn.versions.list l.versions.list × (l.versions.spare ≡ l.fn.versions.spare)
