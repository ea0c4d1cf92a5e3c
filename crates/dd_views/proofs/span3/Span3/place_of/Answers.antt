use Rattle.dd_views.proofs.WayLemmas.{way_of}
use Rattle.dd_views.proofs.span3.Span3.place_of.Goals as goal

pub returns-in-None : goal.returns-in-None
returns-in-None c = λ k low high here. c.in-None.ensures _ (way_of _ _ k c.requires low high here)
