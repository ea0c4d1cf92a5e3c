-- A spill: a slot for each Pick, and so few Picks that the store can make one more.
use Rattle.std.proofs.Common.{◌≡◌, ℕ, zero, suc, ◌+◌, ◌-◌, ◌^◌, ◌<◌, ◌≤◌, Bool, true, false, cond, List, [], ◌∷◌, length, Option, Some, None, refl, ap, ◌∙◌, subst, arith}
use Rattle.std.specs.List.{filter}
use Rattle.dd_causes.specs.Counts.{Rose}
use Rattle.dd_holding.specs.Carried.{carries}
use Rattle.dd_holding.specs.declared.holding.Holding.{Holding}
use Rattle.dd_holding.specs.Holdings.{Holds}
use Rattle.dd_machine.specs.declared.entry.Entry.{Entry}
use Rattle.dd_machine.specs.declared.event.Event.{Event}
use Rattle.dd_machine.specs.declared.event.Event.TheVariants.{Gone, Lend, Pick}
use Rattle.dd_machine.specs.Runs.{is_pick}
use Rattle.dd_store.specs.declared.store.Slot.{Ghosts as SlotGhosts}
use Rattle.dd_store.specs.declared.store.Store.{Ghosts}
use Rattle.dd_table.specs.declared.fault.RunFault.{RunFault}
use Rattle.dd_table.specs.declared.fault.RunFault.TheVariants.{DiskFault}
use Rattle.dd_table.specs.declared.table.Table.{Table}
use Rattle.dd_table.specs.Counts.{IsCounted, pick_count}
use Rattle.dd_core.specs.Lines.{with_line}
use Rattle.dd_table.specs.Tables.{GrowsBy, IsCaused, Stops}
use Rattle.dd_table.proofs.FactsLemmas.{holds_then, picks_both}
use Rattle.dd_table.proofs.GivesLemmas.{not_none}

-- no more entries are Picks than there are
pub few_picks : (entries : List Entry) → pick_count entries ≤ length entries
unfolding pick_count
few_picks [] = omega arith
few_picks (e ∷ entries) = by (is_pick e.event) (few_picks entries)
  where
    by : (b : Bool) → length (filter (λ (x : Entry). is_pick x.event) entries) ≤ length entries
        → length (cond b (e ∷ filter (λ (x : Entry). is_pick x.event) entries) (filter (λ (x : Entry). is_pick x.event) entries)) ≤ suc (length entries)
    by true le = omega (arith, le)
    by false le = omega (arith, le)

-- a Pick is one, and one with its Gone
pub one_picked : (line space block : ℕ) → pick_count (with_line line (Pick space block ∷ [])) ≡ 1
unfolding pick_count
one_picked line space block = refl

pub one_spilled : (line space block : ℕ) → pick_count (with_line line (Pick space block ∷ Gone space block ∷ [])) ≡ 1
unfolding pick_count
one_spilled line space block = refl

-- a Lend and what is carried are none
pub none_lent : (line task block source count : ℕ) → pick_count (with_line line (Lend task block source ∷ carries task block source count ∷ [])) ≡ 0
unfolding pick_count
none_lent line zero block source count = refl
none_lent line (suc t) block source count = refl

-- a count that rose, by another name
pub rose_as : (a b c : ℕ) → Rose a b → b ≡ c → Rose a c
rose_as a b c rose same = subst (λ (n : ℕ). Rose a n) same rose

module _ {D S : Type 0} {g : Ghosts D S} {h : SlotGhosts S} where
  -- the store can make a slot
  pub few_made : (t : Table D S g h) → Ghosts.made g t.store < 2 ^ 64 - 1
  few_made t =
      let journal = t.holding.ledger.journal in
      let few = t.counted.few in
      let made = t.counted.made_is in
      let picks = few_picks journal.items in
      let len = journal.ok.0 in
      let within = journal.ok.1 in
      let small = journal.small in
      omega (arith, few, made, picks, len, within, small)

  -- after a call that made one slot, and entries with one Pick
  pub count_picked : (t : Table D S g h) (y : Holding D S g h) (store : D) (cause : Option RunFault) (entries : List Entry) → Holds t.holding y entries → pick_count entries ≡ 1
      → Ghosts.made g store ≡ Ghosts.made g t.store + 1 → Ghosts.faults g t.store ≤ Ghosts.faults g store → (cause ≡ Some DiskFault → Rose (Ghosts.faults g t.opening.value) (Ghosts.faults g store))
      → IsCounted (Ghosts.faults g t.opening.value) (Ghosts.made g t.opening.value) (Ghosts.faults g store) (Ghosts.made g store) cause y.ledger.journal.items
  count_picked t y store cause entries holds one more le disk = record {
    few = t.counted.few;
    made_is = (let was = t.counted.made_is in let picks : pick_count y.ledger.journal.items ≡ pick_count t.holding.ledger.journal.items + pick_count entries = ap pick_count holds.grows.journal ∙ picks_both t.holding.ledger.journal.items entries in omega (arith, was, picks, one, more));
    later = (let first = t.counted.later in omega (arith, first, le));
    risen = disk;
  }

  -- none was entered, and the cause was kept by a call on the table, whose store has counted since
  pub stopped_later : (t : Table D S g h) {m u : Table D S g h} (events : List Event) (fault : RunFault) → Holds t.holding m.holding [] → m.opening.value ≡ t.opening.value
      → Ghosts.faults g t.store ≤ Ghosts.faults g m.store → GrowsBy m u [] → u.cause ≡ Some fault → IsCaused t u fault → t.cause ≡ None → Stops t u events fault
  stopped_later t {m} {u} events fault holds opening le grows cause disk none = record {
    done = [];
    rest = events;
    all = refl;
    grows = record {
      holds = holds_then t.holding m.holding u.holding [] [] holds grows.holds;
      opening = grows.opening ∙ opening;
      faults = (let more = grows.faults in omega (arith, more, le));
    };
    cause = cause;
    disk = disk;
    kept = λ f some. not_none t.cause f none some;
  }
