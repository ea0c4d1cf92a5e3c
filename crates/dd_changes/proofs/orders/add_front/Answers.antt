use Rattle.std.proofs.Common.{ℕ, List, ◌∷◌, Contains, length, ap, sym, ◌∙◌, subst, arith}
use Rattle.dd_machine.specs.States.{at_one}
use Rattle.dd_recency.specs.Recency.{Recency}
use Rattle.dd_tables.specs.Tables.{orders_of, state_of}
use Rattle.dd_tables.proofs.TablesLemmas.{on_ok, order_read, orders_set, without_none}
use Rattle.dd_changes.proofs.OrdersLemmas.{not_there, order_known, room_at, short}
use Rattle.dd_changes.proofs.orders.add_front.Goals as goal

pub add-requires-clause-absent : goal.add-requires-clause-absent
add-requires-clause-absent c =
    let items = c.args.tables.now.orders.items in
    let known = order_known c.args.plan.now c.args.tables.now c.args.space c.requires.sized c.requires.space in
    let same = ap (λ (o : Recency). o.blocks) c.index_mut.ensures.value ∙ sym (order_read items c.args.space c.index_mut.result.now known) in
    λ h. not_there (orders_of items c.args.space) c.args.block c.requires.absent (subst (λ (xs : List ℕ). Contains xs c.args.block) same h)

pub add-requires-clause-room : goal.add-requires-clause-room
add-requires-clause-room c =
    let items = c.args.tables.now.orders.items in
    let known = order_known c.args.plan.now c.args.tables.now c.args.space c.requires.sized c.requires.space in
    let same = ap (λ (o : Recency). o.blocks) c.index_mut.ensures.value ∙ sym (order_read items c.args.space c.index_mut.result.now known) in
    let long = ap (λ (xs : List ℕ). length xs) same in
    let few = short c.args.plan.now (state_of c.args.plan.now c.args.tables.now) c.args.space c.requires.sound in
    let room = ap (λ (o : Recency). o.room) c.index_mut.ensures.value ∙ room_at c.args.plan.now c.args.tables.now c.args.space c.index_mut.result.now c.requires.sized c.requires.space in
    omega (arith, long, few, room)

pub returns-clause-value : goal.returns-clause-value
returns-clause-value c =
    let items = c.args.tables.now.orders.items in
    let known = order_known c.args.plan.now c.args.tables.now c.args.space c.requires.sized c.requires.space in
    let same = ap (λ (o : Recency). o.blocks) c.index_mut.ensures.value ∙ sym (order_read items c.args.space c.index_mut.result.now known) in
    let none = not_there (orders_of items c.args.space) c.args.block c.requires.absent in
    let front = ap (λ (xs : List ℕ). c.args.block ∷ xs) (same ∙ sym (without_none (orders_of items c.args.space) c.args.block none)) in
    on_ok c.add.result
    (λ e. ap (λ (o : ℕ → List ℕ). record (state_of c.args.plan.now c.args.tables.now) { orders = o })
    (orders_set items c.args.space c.add.new.self known ∙ ap (at_one (orders_of items) c.args.space) (ap (λ (o : Recency). o.blocks) e ∙ front)))
    c.add.ensures.ok
