-- The space of the task has no copy of the block.
use Rattle.std.proofs.Common.{◌≡◌, ℕ, Bor, sym, ap, ◌∙◌, subst}
use Rattle.std.specs.Prelude.{replicate}
use Rattle.dd_blocks.specs.declared.plan.Plan.{Plan}
use Rattle.dd_blocks.specs.Numbered.{IsNumberIn}
use Rattle.dd_blocks.specs.WellFormed.{IsWellFormed}
use Rattle.dd_holding.proofs.AddsLemmas.{absent_at, make_adds}
use Rattle.dd_holding.proofs.HereLemmas.{sound_now}
use Rattle.dd_ledger.specs.declared.ledger.Ledger.{Ledger}
use Rattle.dd_ledger.specs.Ledgers.{state_now}
use Rattle.dd_machine.specs.declared.event.Event.{Event}
use Rattle.dd_machine.specs.declared.event.Event.TheVariants.{Make}
use Rattle.dd_machine.specs.Legal.{May, MayMake}
use Rattle.dd_machine.specs.States.{blank}
use Rattle.dd_machine.specs.Tests.{is_active}
use Rattle.dd_machine.specs.Words.{place, size}
use Rattle.dd_pool.specs.Places.{IsPlace}
use Rattle.dd_tables.proofs.SmallLemmas.{touched_known}
use Rattle.laws_of_moved.proofs.CopyStep.{place_in}
use Rattle.dd_holding.proofs.holding.Holding.make.Goals as goal

may_make : (l : Ledger) (ev : Event) (task block : ℕ) → ev ≡ Make task block → May l.plan.now (state_now l) ev → MayMake l.plan.now (state_now l) task block
may_make l ev task block event may = subst (May l.plan.now (state_now l)) event may

-- the task and the block are of the Plan
there : (l : Ledger) (task block : ℕ) → IsWellFormed l.plan.now → MayMake l.plan.now (state_now l) task block → IsPlace l.plan.now (place l.plan.now task) block
there l task block well may =
    let o = (sound_now l well).limits.active_open task (ap is_active may.held) in
    record { a_space = place_in l.plan.now well task o.2.0; a_block = touched_known l.plan.now task block well o.2.0 may.touched }

pub blank-requires : goal.blank-requires
blank-requires g c =
    let l = c.args.self.now.ledger in
    let place_is = there l c.args.task c.args.block c.requires.well (may_make l c.args.entry.event c.args.task c.args.block c.requires.event c.requires.legal.1) in
    record { known = subst (λ (p : Bor Plan). IsNumberIn p.now.blocks c.args.block) (sym c.plan-2.ensures) place_is.a_block }

pub add-requires-clause-adds : goal.add-requires-clause-adds
add-requires-clause-adds g c = λ _ _.
    let x = c.args.self.now in
    let l = x.ledger in
    make_adds l.plan.now (state_now l) x.pool c.args.entry.event c.args.task c.args.block c.place-space.result c.in_ok-copy.copy.block c.in_ok-copy.copy.versions.list c.requires.event
    (c.place-space.ensures.value ∙ ap (λ (p : Bor Plan). place p.now c.args.task) c.plan.ensures) c.in_ok-copy.ensures.block
    (c.in_ok-copy.ensures.versions ∙ ap (λ (p : Bor Plan). replicate (size p.now c.args.block) blank) c.plan-2.ensures)

pub add-requires-clause-no_slot : goal.add-requires-clause-no_slot
add-requires-clause-no_slot g c = λ _ _.
    let x = c.args.self.now in
    let l = x.ledger in
    let may = may_make l c.args.entry.event c.args.task c.args.block c.requires.event c.requires.legal.1 in
    let place_is = there l c.args.task c.args.block c.requires.well may in
    let space = c.place-space.ensures.value ∙ ap (λ (p : Bor Plan). place p.now c.args.task) c.plan.ensures in
    let at = subst (λ (s : ℕ). IsPlace l.plan.now s c.in_ok-copy.copy.block) (sym space) (subst (IsPlace l.plan.now (place l.plan.now c.args.task)) (sym c.in_ok-copy.ensures.block) place_is) in
    absent_at l x.pool c.place-space.result c.in_ok-copy.copy.block (place l.plan.now c.args.task) c.args.block space c.in_ok-copy.ensures.block at x.facts may.absent
