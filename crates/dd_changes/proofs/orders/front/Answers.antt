use Rattle.std.proofs.Common.{ℕ, List, Contains, ap, sym, ◌∙◌, subst}
use Rattle.dd_lists.proofs.ListsLemmas.{number_in}
use Rattle.dd_machine.specs.States.{at_one}
use Rattle.dd_recency.specs.Recency.{Recency, to_front}
use Rattle.dd_tables.specs.Tables.{orders_of, state_of}
use Rattle.dd_tables.proofs.TablesLemmas.{order_read, orders_set}
use Rattle.dd_changes.proofs.OrdersLemmas.{order_known}
use Rattle.dd_changes.proofs.orders.front.Goals as goal

pub touch-requires : goal.touch-requires
touch-requires c =
    let items = c.args.tables.now.orders.items in
    let known = order_known c.args.plan.now c.args.tables.now c.args.space c.requires.sized c.requires.space in
    let same = ap (λ (o : Recency). o.blocks) c.index_mut.ensures.value ∙ sym (order_read items c.args.space c.index_mut.result.now known) in
    subst (λ (xs : List ℕ). Contains xs c.args.block) (sym same) (number_in (orders_of items c.args.space) c.args.block c.requires.there)

pub returns-clause-value : goal.returns-clause-value
returns-clause-value c =
    let items = c.args.tables.now.orders.items in
    let known = order_known c.args.plan.now c.args.tables.now c.args.space c.requires.sized c.requires.space in
    let same = ap (λ (o : Recency). o.blocks) c.index_mut.ensures.value ∙ sym (order_read items c.args.space c.index_mut.result.now known) in
    let blocks = ap (λ (o : Recency). o.blocks) c.touch.ensures ∙ ap (to_front c.args.block) same in
    ap (λ (o : ℕ → List ℕ). record (state_of c.args.plan.now c.args.tables.now) { orders = o })
    (orders_set items c.args.space c.touch.new.self known ∙ ap (at_one (orders_of items) c.args.space) blocks)
