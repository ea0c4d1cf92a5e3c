use Rattle.dd_views.specs.IndexList.{position}
use Rattle.dd_views.proofs.ViewLemmas.{at_view, few_elements, in_column, is_square, row_within, small_view}
use Rattle.dd_views.proofs.view.View.place_at.Goals as goal

pub place_at-requires-clause-small : goal.place_at-requires-clause-small
place_at-requires-clause-small c = (small_view _ _ c.requires.view c.requires.within).0

pub place_at-requires-clause-rows : goal.place_at-requires-clause-rows
place_at-requires-clause-rows c = (small_view _ _ c.requires.view c.requires.within).1

pub place_at-requires-clause-within : goal.place_at-requires-clause-within
place_at-requires-clause-within c = λ part.
    let same = is_square _ c.requires.view part in
    rw same (rw same at (few_elements _ _ c.requires.view c.requires.within))

pub returns-clause-row : goal.returns-clause-row
returns-clause-row c = row_within _ _ _ _ _ _ (is_square _ c.requires.view) (in_column _ _ _ _ _ c.place_at.ensures (few_elements _ _ c.requires.view c.requires.within) (is_square _ c.requires.view))

pub returns-clause-col : goal.returns-clause-col
returns-clause-col c =
    let there = in_column _ _ _ _ _ c.place_at.ensures (few_elements _ _ c.requires.view c.requires.within) (is_square _ c.requires.view) in
    (there.col_low, there.col_high)

pub returns-clause-position : goal.returns-clause-position
returns-clause-position c = at_view (position c.args.self.now) _ _ _ _ _ _ (is_square _ c.requires.view) (in_column _ _ _ _ _ c.place_at.ensures (few_elements _ _ c.requires.view c.requires.within) (is_square _ c.requires.view))
