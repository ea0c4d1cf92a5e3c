-- The home of the block has no copy of it.
use Rattle.std.proofs.Common.{◌≡◌, ℕ, Bor, sym, ap, ◌∙◌, subst}
use Rattle.std.specs.Prelude.{replicate}
use Rattle.dd_blocks.specs.declared.plan.Plan.{Plan}
use Rattle.dd_core.specs.Cores.{core_state}
use Rattle.dd_machine.specs.Words.{size}
use Rattle.dd_tables.specs.declared.tables.Tables.{Tables}
use Rattle.dd_holding.proofs.AddsLemmas.{absent_at, put_adds}
use Rattle.dd_holding.proofs.HereLemmas.{sound_now}
use Rattle.dd_ledger.specs.declared.ledger.Ledger.{Ledger}
use Rattle.dd_ledger.specs.Ledgers.{state_now}
use Rattle.dd_blocks.specs.WellFormed.{IsWellFormed}
use Rattle.dd_machine.specs.declared.event.Event.{Event}
use Rattle.dd_machine.specs.declared.event.Event.TheVariants.{Put}
use Rattle.dd_machine.specs.Legal.{May, MayPut}
use Rattle.dd_pool.specs.Places.{IsPlace}
use Rattle.dd_holding.proofs.holding.Holding.put.Goals as goal

may_put : (l : Ledger) (ev : Event) (block : ℕ) → ev ≡ Put block → May l.plan.now (state_now l) ev → MayPut l.plan.now (state_now l) block
may_put l ev block event may = subst (May l.plan.now (state_now l)) event may

at_home : (l : Ledger) (ev : Event) (block space b : ℕ) → IsWellFormed l.plan.now → ev ≡ Put block → May l.plan.now (state_now l) ev → space ≡ (state_now l).homes block → b ≡ block → IsPlace l.plan.now space b
at_home l ev block space b well event may at is =
    let known = (sound_now l well).limits.pin_known ((state_now l).homes block) block (may_put l ev block event may).pin in
    subst (λ (s : ℕ). IsPlace l.plan.now s b) (sym at) (subst (IsPlace l.plan.now ((state_now l).homes block)) (sym is) (record { a_space = known.0; a_block = known.1 }))

home_is : (l : Ledger) (core : Tables) (block space : ℕ) → space ≡ (core_state l.plan.now core).homes block → core ≡ l.core → space ≡ (state_now l).homes block
home_is l core block space is same = is ∙ ap (λ (k : Tables). (core_state l.plan.now k).homes block) same

pub add-requires-clause-place : goal.add-requires-clause-place
add-requires-clause-place g c = λ _ _.
    let l = c.args.self.now.ledger in
    let home = home_is l c.core.result.now c.args.block c.home-space.result (c.home-space.ensures l.plan.now) c.core.ensures in
    at_home l c.args.entry.event c.args.block c.home-space.result c.in_ok-copy.copy.block c.requires.well c.requires.event c.requires.legal.1 home c.in_ok-copy.ensures.block

pub add-requires-clause-adds : goal.add-requires-clause-adds
add-requires-clause-adds g c = λ _ _.
    let x = c.args.self.now in
    let l = x.ledger in
    let home = home_is l c.core.result.now c.args.block c.home-space.result (c.home-space.ensures l.plan.now) c.core.ensures in
    put_adds l.plan.now (state_now l) x.pool c.args.entry.event c.args.block c.home-space.result c.in_ok-copy.copy.block c.in_ok-copy.copy.versions.list c.requires.event home c.in_ok-copy.ensures.block
    (c.in_ok-copy.ensures.versions ∙ ap (λ (p : Bor Plan). replicate (size p.now c.args.block) 0) c.plan.ensures)

pub add-requires-clause-no_slot : goal.add-requires-clause-no_slot
add-requires-clause-no_slot g c = λ _ _.
    let x = c.args.self.now in
    let l = x.ledger in
    let home = home_is l c.core.result.now c.args.block c.home-space.result (c.home-space.ensures l.plan.now) c.core.ensures in
    let place = at_home l c.args.entry.event c.args.block c.home-space.result c.in_ok-copy.copy.block c.requires.well c.requires.event c.requires.legal.1 home c.in_ok-copy.ensures.block in
    absent_at l x.pool c.home-space.result c.in_ok-copy.copy.block ((state_now l).homes c.args.block) c.args.block home c.in_ok-copy.ensures.block place x.facts
    ((may_put l c.args.entry.event c.args.block c.requires.event c.requires.legal.1).absent ((state_now l).homes c.args.block))
