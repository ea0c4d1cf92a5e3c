use Rattle.std.proofs.Common.{rules}
use Rattle.dd_views.proofs.PositionsLemmas.{is_column, positions_are, position_within, whole_position}
use Rattle.dd_views.proofs.view.View.column.Goals as goal

pub returns-clause-value : goal.returns-clause-value
returns-clause-value c = positions_are c.args.self.now _ _ c.requires.view (is_column _ c.args.j _ c.requires.within c.row_count-count.ensures (search rules) c.first_in.ensures.some)

pub returns-clause-whole : goal.returns-clause-whole
returns-clause-whole c = λ i lt. whole_position c.args.self.now _ i _ c.requires.view (is_column _ c.args.j _ c.requires.within c.row_count-count.ensures (search rules) c.first_in.ensures.some) lt

pub returns-clause-inside : goal.returns-clause-inside
returns-clause-inside c = λ shape view i lt. position_within shape c.args.self.now _ i _ view (is_column _ c.args.j _ c.requires.within c.row_count-count.ensures (search rules) c.first_in.ensures.some) lt
