use Rattle.std.proofs.Common.{ap, sym, ◌∙◌, arith}
use Rattle.dd_recency.specs.Recency.{Recency}
use Rattle.dd_recency.specs.Victim as recency
use Rattle.dd_recency.specs.declared.policy.Policy.{Policy}
use Rattle.dd_machine.specs.Bytes.{is_pinned, order_policy}
use Rattle.dd_tables.specs.Tables.{state_of}
use Rattle.dd_tables.proofs.TablesLemmas.{order_read}
use Rattle.dd_tables.proofs.tables.Tables.victim.Goals as goal

pub returns : goal.returns
returns c =
    let plan = c.args.plan.now in
    let pinned = is_pinned plan (state_of plan c.args.self.now) c.args.space in
    let size = c.requires.sized.orders in
    let read = order_read c.args.self.now.orders.items c.args.space c.index.result.now (c.requires.space.0, omega (arith, c.requires.space.1, size)) in
    c.victim_by.ensures.value
    ∙ ap (λ (p : Policy). recency.victim p pinned c.index.result.now.blocks) c.order_policy.ensures
    ∙ ap (recency.victim (order_policy plan.policy) pinned) (ap (λ (o : Recency). o.blocks) c.index.ensures ∙ sym read)
