-- The state of the ledger is sound, and the copies in memory are those that it has Here.
use Rattle.std.proofs.Common.{◌≡◌, ◌≤◌, ℕ, Bor, sym, ap, ◌∙◌, subst}
use Rattle.dd_blocks.specs.declared.plan.Plan.{Plan}
use Rattle.dd_core.specs.Cores.{core_state}
use Rattle.dd_holding.proofs.HereLemmas.{sound_now}
use Rattle.dd_machine.specs.Bytes.{resident}
use Rattle.dd_machine.specs.Words.{limit}
use Rattle.dd_pool.specs.Pools.{bytes_at}
use Rattle.dd_tables.specs.declared.tables.Tables.{Tables}
use Rattle.dd_table.specs.Tables.{state_now}
use Rattle.dd_table.proofs.BytesLemmas.{bytes_resident}
use Rattle.dd_table.proofs.FactsLemmas.{core_of}
use Rattle.dd_table.proofs.table.Table.resident.Goals as goal

pub resident-requires-clause-core : goal.resident-requires-clause-core
resident-requires-clause-core g c = core_of c.args.self.now.holding.ledger c.plan.result c.core.result.now c.requires.well c.plan.ensures c.core.ensures

pub returns-clause-value : goal.returns-clause-value
returns-clause-value g c =
    let l = c.args.self.now.holding.ledger in
    c.resident.ensures ∙ ap (λ (p : Bor Plan). resident p.now (core_state p.now c.core.result.now) c.args.space) c.plan.ensures ∙ ap (λ (k : Tables). resident l.plan.now (core_state l.plan.now k) c.args.space) c.core.ensures

pub returns-clause-within : goal.returns-clause-within
returns-clause-within g c =
    let l = c.args.self.now.holding.ledger in
    let is : c.resident.result ≡ resident l.plan.now (state_now c.args.self.now) c.args.space = c.resident.ensures
    ∙ ap (λ (p : Bor Plan). resident p.now (core_state p.now c.core.result.now) c.args.space) c.plan.ensures ∙ ap (λ (k : Tables). resident l.plan.now (core_state l.plan.now k) c.args.space) c.core.ensures in
    subst (λ (n : ℕ). n ≤ limit l.plan.now c.args.space) (sym is) ((sound_now l c.requires.well).limits.within c.args.space c.requires.space)

pub returns-clause-copies : goal.returns-clause-copies
returns-clause-copies g c =
    let x = c.args.self.now.holding in
    let is : c.resident.result ≡ resident x.ledger.plan.now (state_now c.args.self.now) c.args.space = c.resident.ensures
    ∙ ap (λ (p : Bor Plan). resident p.now (core_state p.now c.core.result.now) c.args.space) c.plan.ensures ∙ ap (λ (k : Tables). resident x.ledger.plan.now (core_state x.ledger.plan.now k) c.args.space) c.core.ensures in
    subst (λ (n : ℕ). bytes_at x.pool c.args.space ≤ n) (sym is) (bytes_resident x c.args.space c.requires.space)
