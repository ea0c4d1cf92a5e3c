use Rattle.std.proofs.Common.{rules}
use Rattle.dd_views.specs.IndexList.{index_list}
use Rattle.dd_tables.proofs.ListsLemmas.{any_is}
use Rattle.dd_tables.proofs.elements.Element.is_in.Goals as goal

pub returns-then-access-self : goal.returns-then-access-self
returns-then-access-self c =
    let found = any_is (index_list c.args.access.now.view) c.args.self.now.pos c.has.result c.has.ensures in
    search (rules, found)
