use Rattle.std.proofs.Common.{sym, ◌∙◌}
use Rattle.dd_views.proofs.ViewLemmas.{length_view, view_few}
use Rattle.dd_views.proofs.view.View.len.Goals as goal

pub returns-clause-value : goal.returns-clause-value
returns-clause-value c = c.size.ensures ∙ sym (length_view _ c.requires)

pub returns-clause-few : goal.returns-clause-few
returns-clause-few c = λ shape view. rw c.size.ensures (view_few shape _ view)
