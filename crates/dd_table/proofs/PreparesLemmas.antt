-- Entries that lead tasks on, one list behind another: what they keep, and that each takes from the bound of the region.
use Rattle.std.proofs.Common.{◌≡◌, ◌≢◌, ℕ, suc, ◌+◌, ◌<◌, ◌≤◌, true, false, List, [], ◌∷◌, ◌++◌, length, Option, Some, None, Bor, refl, sym, ap, ◌∙◌, subst, inr, ⊎_elim, arith, rules}
use Rattle.std.specs.Prelude.{IsSome, is_some}
use Rattle.std.specs.List.{All}
use Rattle.std.proofs.lemmas.List.Elements.{All-append, All-cons, All-head, All-nil, All-tail}
use Rattle.dd_blocks.specs.declared.plan.Plan.{Plan}
use Rattle.dd_blocks.specs.WellFormed.{IsWellFormed}
use Rattle.dd_causes.specs.Counts.{Rose}
use Rattle.dd_core.specs.Cores.{core_state}
use Rattle.dd_holding.specs.Holdings.{Holds}
use Rattle.dd_holding.proofs.HereLemmas.{sound_now}
use Rattle.dd_ledger.specs.declared.ledger.Ledger.{Ledger}
use Rattle.dd_ledger.specs.Ledgers as ledgers
use Rattle.dd_ledger.proofs.GrowsLemmas.{state_grows}
use Rattle.dd_machine.specs.declared.entry.Entry.{Entry}
use Rattle.dd_machine.specs.declared.event.Event.{Event}
use Rattle.dd_machine.specs.declared.event.Event.TheVariants.{Hold, Pick, Gone, Make, Call, Come, Lend, Copy}
use Rattle.dd_machine.specs.declared.task_state.TaskState.{TaskState}
use Rattle.dd_machine.specs.declared.task_state.TaskState.TheVariants.{Waiting, Held, Running, Done}
use Rattle.dd_machine.specs.Effects.{after}
use Rattle.dd_machine.specs.Owed.{left, next_line}
use Rattle.dd_machine.specs.Runs.{IsLegalRun, IsRun, start, state_after}
use Rattle.dd_machine.specs.States.{Progress, State, at_one}
use Rattle.dd_machine.specs.Tests.{is_active, is_running}
use Rattle.dd_machine.proofs.ChangesLemmas.{at_one_tells}
use Rattle.dd_machine.proofs.RunsLemmas.{run_parts}
use Rattle.dd_store.specs.declared.store.Slot.{Ghosts as SlotGhosts}
use Rattle.dd_store.specs.declared.store.Store.{Ghosts}
use Rattle.dd_tables.specs.declared.tables.Tables.{Tables}
use Rattle.laws_of_bound.specs.Cost.{region_cost}
use Rattle.laws_of_machine.proofs.NeverStuckLemmas.{every_goes_on}
use Rattle.dd_table.specs.declared.fault.RunFault.{RunFault}
use Rattle.dd_table.specs.declared.fault.RunFault.TheVariants.{DiskFault}
use Rattle.dd_table.specs.declared.table.Table.{Table}
use Rattle.dd_table.specs.Leading.{Fails, MayLead}
use Rattle.dd_core.specs.Lines.{with_line}
use Rattle.dd_table.specs.Outs.{HasNone}
use Rattle.dd_table.specs.Still.{IsPreparing}
use Rattle.dd_table.specs.Tables.{GrowsBy, IsCaused, Stops, line_now, or_zero, state_now}
use Rattle.dd_table.specs.Turns.{Prepares}
use Rattle.dd_table.proofs.FactsLemmas.{holds_same, holds_then, rose_before}
use Rattle.dd_table.proofs.StillLemmas.{falls_all}

-- ---- states

-- what entries that lead tasks on keep: the region, how far the statements are, the tasks that are Held, and that a worker has none
pub record IsLater (st new : State) : Type 0 where
  pub region : new.region ≡ st.region
  pub progress : new.progress ≡ st.progress
  pub held : (task : ℕ) → st.tasks task ≡ Held → new.tasks task ≡ Held
  pub free : (worker : ℕ) → HasNone st worker → HasNone new worker

held_free : (state : TaskState) (worker : ℕ) → state ≡ Held → state ≡ Running worker → ⊥
held_free state worker held runs = let e : Held ≡ Running worker = sym held ∙ runs in absurd cc

later_same : (st new : State) → new.region ≡ st.region → new.progress ≡ st.progress → new.tasks ≡ st.tasks → IsLater st new
later_same st new region progress tasks = record {
  region = region;
  progress = progress;
  held = λ task held. ap (λ (f : ℕ → TaskState). f task) tasks ∙ held;
  free = λ worker none task runs. none task (sym (ap (λ (f : ℕ → TaskState). f task) tasks) ∙ runs);
}

later_held : (plan : Plan) (st : State) (task : ℕ) → IsLater st (after plan st (Hold task))
later_held plan st task = record {
  region = refl;
  progress = refl;
  held = λ t held. ⊎_elim
      (λ (e : (t ≡ task) × (at_one st.tasks task Held t ≡ Held)). e.1)
      (λ (e : (t ≢ task) × (at_one st.tasks task Held t ≡ st.tasks t)). e.1 ∙ held)
      (at_one_tells st.tasks task Held t);
  free = λ worker none t runs. ⊎_elim
      (λ (e : (t ≡ task) × (at_one st.tasks task Held t ≡ Held)). held_free (at_one st.tasks task Held t) worker e.1 runs)
      (λ (e : (t ≢ task) × (at_one st.tasks task Held t ≡ st.tasks t)). none t (sym e.1 ∙ runs))
      (at_one_tells st.tasks task Held t);
}

later_one : (plan : Plan) (st : State) (event : Event) → IsPreparing event → IsLater st (after plan st event)
later_one plan st (Hold task) prepares = later_held plan st task
later_one plan st (Pick space block) prepares = later_same st (after plan st (Pick space block)) refl refl refl
later_one plan st (Gone space block) prepares = later_same st (after plan st (Gone space block)) refl refl refl
later_one plan st (Make task block) prepares = later_same st (after plan st (Make task block)) refl refl refl
later_one plan st (Call space block) prepares = later_same st (after plan st (Call space block)) refl refl refl
later_one plan st (Come space block) prepares = later_same st (after plan st (Come space block)) refl refl refl
later_one plan st (Lend task block source) prepares = later_same st (after plan st (Lend task block source)) refl refl refl
later_one plan st (Copy task block source count) prepares = later_same st (after plan st (Copy task block source count)) refl refl refl
later_one plan st _ prepares = absurd prepares

later_then : (st mid new : State) → IsLater st mid → IsLater mid new → IsLater st new
later_then st mid new p q = record {
  region = q.region ∙ p.region;
  progress = q.progress ∙ p.progress;
  held = λ task held. q.held task (p.held task held);
  free = λ worker none. q.free worker (p.free worker none);
}

later_all : (plan : Plan) (st : State) (line : ℕ) (events : List Event) → All IsPreparing events → IsLater st (state_after plan st (with_line line events))
unfolding state_after
later_all plan st line [] prepare = later_same st st refl refl refl
later_all plan st line (event ∷ events) prepare =
    later_then st (after plan st event) (state_after plan (after plan st event) (with_line line events)) (later_one plan st event (All-head IsPreparing event events prepare))
    (later_all plan (after plan st event) line events (All-tail IsPreparing event events prepare))

-- events of two parts as entries; how many there are; and what holds of the events holds of the entries
lines_of_both : (line : ℕ) (xs ys : List Event) → with_line line (xs ++ ys) ≡ with_line line xs ++ with_line line ys
lines_of_both line [] ys = refl
lines_of_both line (x ∷ xs) ys = ap (λ (l : List Entry). record { line = line; event = x } ∷ l) (lines_of_both line xs ys)

lines_count : (line : ℕ) (events : List Event) → length (with_line line events) ≡ length events
lines_count line [] = refl
lines_count line (event ∷ events) = ap (λ (n : ℕ). suc n) (lines_count line events)

lines_prepare : (line : ℕ) (events : List Event) → All IsPreparing events → All (λ (e : Entry). IsPreparing e.event) (with_line line events)
lines_prepare line [] prepare = All-nil (λ (e : Entry). IsPreparing e.event)
lines_prepare line (event ∷ events) prepare =
    All-cons (λ (e : Entry). IsPreparing e.event) (record { line = line; event = event }) (with_line line events) (All-head IsPreparing event events prepare)
    (lines_prepare line events (All-tail IsPreparing event events prepare))

-- a part of them
pub all_front : (P : Event → Type 0) (xs ys : List Event) → All P (xs ++ ys) → All P xs
all_front P [] ys all = All-nil P
all_front P (x ∷ xs) ys all = All-cons P x xs (All-head P x (xs ++ ys) all) (all_front P xs ys (All-tail P x (xs ++ ys) all))

-- where a region is open an entry is left, so it has a line
line_left : (next : Option ℕ) (line : ℕ) → next ≡ Some line → is_some next ≡ true
line_left next line is = ap (λ (o : Option ℕ). is_some o) is

some_of : (o : Option ℕ) → IsSome o → (n : ℕ) × (o ≡ Some n)
some_of None is = absurd (cc)
some_of (Some n) is = (n, refl)

some_is : (o : Option ℕ) (n : ℕ) → o ≡ Some n → IsSome o
some_is o n is = subst (λ (x : Option ℕ). IsSome x) (sym is) (search rules)

pub left_open : (l : Ledger) → IsWellFormed l.plan.now → IsSome (ledgers.state_now l).region → is_some (next_line (left l.plan.now (ledgers.state_now l).progress)) ≡ true
left_open l well open_is =
    let some = some_of (ledgers.state_now l).region open_is in
    let goes = every_goes_on l.plan.now l.journal.items well l.facts.legal some.0 (sym (ap (λ (st : State). st.region) l.facts.state) ∙ some.1) in
    line_left (next_line (left l.plan.now (ledgers.state_now l).progress)) goes.0.line
    (ap (λ (st : State). next_line (left l.plan.now st.progress)) l.facts.state ∙ goes.1.0)

-- what holds of a ledger's state holds of its core, by whatever names it goes; and the other way round
pub at_core : (P : Plan → State → Type 0) (l : Ledger) (plan : Bor Plan) (core : Tables) → plan ≡ l.plan → core ≡ l.core → P l.plan.now (ledgers.state_now l) → P plan.now (core_state plan.now core)
at_core P l plan core same is holds =
    let at : P l.plan.now (core_state l.plan.now core) = subst (λ (k : Tables). P l.plan.now (core_state l.plan.now k)) (sym is) holds in
    subst (λ (p : Bor Plan). P p.now (core_state p.now core)) (sym same) at

pub from_core : (P : Plan → State → Type 0) (l : Ledger) (plan : Bor Plan) (core : Tables) → plan ≡ l.plan → core ≡ l.core → P plan.now (core_state plan.now core) → P l.plan.now (ledgers.state_now l)
from_core P l plan core same is holds =
    let at : P l.plan.now (core_state l.plan.now core) = subst (λ (p : Bor Plan). P p.now (core_state p.now core)) same holds in
    subst (λ (k : Tables). P l.plan.now (core_state l.plan.now k)) is at

-- the region and a task, as the core answers them
pub region_of : (l : Ledger) (core : Tables) (found : Option ℕ) → core ≡ l.core → ((plan : Plan) → found ≡ (core_state plan core).region) → (ledgers.state_now l).region ≡ found
region_of l core found same is = sym (is l.plan.now ∙ ap (λ (k : Tables). (core_state l.plan.now k).region) same)

pub task_of : (l : Ledger) (core : Tables) (task : ℕ) (found : TaskState) → core ≡ l.core → ((plan : Plan) → found ≡ (core_state plan core).tasks task) → (ledgers.state_now l).tasks task ≡ found
task_of l core task found same is = sym (is l.plan.now ∙ ap (λ (k : Tables). (core_state l.plan.now k).tasks task) same)

-- where a region is open it is some region
pub not_shut : (o found : Option ℕ) → IsSome o → o ≡ found → found ≡ None → ⊥
not_shut o found open_is same none = let some = some_of o open_is in let e : Some some.0 ≡ None = sym some.1 ∙ same ∙ none in absurd cc

-- where a task runs a region is open
pub running_active : (s : TaskState) → is_running s ≡ true → is_active s ≡ true
running_active (Running w) is = refl
running_active Held is = refl
running_active Done is = absurd (let h : false ≡ true = is in cc)
running_active Waiting is = absurd (let h : false ≡ true = is in cc)

pub left_running : (l : Ledger) (task : ℕ) → IsWellFormed l.plan.now → is_running ((ledgers.state_now l).tasks task) ≡ true
    → is_some (next_line (left l.plan.now (ledgers.state_now l).progress)) ≡ true
left_running l task well runs =
    let some = (sound_now l well).limits.active_open task (running_active ((ledgers.state_now l).tasks task) runs) in
    left_open l well (some_is (ledgers.state_now l).region some.0 some.1)

module _ {D S : Type 0} {g : Ghosts D S} {h : SlotGhosts S} where
  -- ---- tables

  -- no entry leads tasks on too
  pub prepares_none : (t u : Table D S g h) → GrowsBy t u [] → Prepares t u []
  prepares_none t u grows = record { grows = grows; prepares = All-nil IsPreparing }

  pub grows_same : (t : Table D S g h) → GrowsBy t t []
  grows_same t = record { holds = holds_same t.holding; opening = refl; faults = omega arith }

  -- the state that such entries lead to
  pub later : (t u : Table D S g h) (prior : List Event) → Prepares t u prior → IsLater (state_now t) (state_now u)
  later t u prior prepares =
      subst (λ (st : State). IsLater (state_now t) st) (sym (state_grows t.holding.ledger u.holding.ledger (with_line (line_now t) prior) prepares.grows.holds.grows))
      (later_all t.holding.ledger.plan.now (state_now t) (line_now t) prior prepares.prepares)

  same_line : (t u : Table D S g h) (prior : List Event) → Prepares t u prior → line_now u ≡ line_now t
  same_line t u prior prepares =
      ap (λ (p : Bor Plan). or_zero (next_line (left p.now (state_now u).progress))) prepares.grows.holds.grows.plan
      ∙ ap (λ (p : Progress). or_zero (next_line (left t.holding.ledger.plan.now p))) (later t u prior prepares).progress

  -- some entries, and then others
  pub grows_then : (t m u : Table D S g h) (xs ys : List Event) → Prepares t m xs → GrowsBy m u (with_line (line_now m) ys) → GrowsBy t u (with_line (line_now t) (xs ++ ys))
  grows_then t m u xs ys p q =
      let both = holds_then t.holding m.holding u.holding (with_line (line_now t) xs) (with_line (line_now m) ys) p.grows.holds q.holds in
      let same : with_line (line_now t) xs ++ with_line (line_now m) ys ≡ with_line (line_now t) (xs ++ ys) =
      ap (λ (n : ℕ). with_line (line_now t) xs ++ with_line n ys) (same_line t m xs p) ∙ sym (lines_of_both (line_now t) xs ys) in
      record {
        holds = subst (λ (l : List Entry). Holds t.holding u.holding l) same both;
        opening = q.opening ∙ p.grows.opening;
        faults = (let first = p.grows.faults in let then = q.faults in omega (arith, first, then));
      }

  pub prepares_then : (t m u : Table D S g h) (xs ys : List Event) → Prepares t m xs → Prepares m u ys → Prepares t u (xs ++ ys)
  prepares_then t m u xs ys p q = record { grows = grows_then t m u xs ys p q.grows; prepares = All-append IsPreparing xs ys p.prepares q.prepares }

  -- tasks may be led on behind them
  pub may_lead_then : (t u : Table D S g h) (prior : List Event) → Prepares t u prior → MayLead t → u.cause ≡ None → MayLead u
  may_lead_then t u prior prepares lead running = record {
    well = subst (λ (p : Bor Plan). IsWellFormed p.now) (sym prepares.grows.holds.grows.plan) lead.well;
    running = running;
    open_is = subst (λ (o : Option ℕ). IsSome o) (sym (later t u prior prepares).region) lead.open_is;
  }

  pub left_lead : (t : Table D S g h) → MayLead t → is_some (next_line (left t.holding.ledger.plan.now (state_now t).progress)) ≡ true
  left_lead t lead = left_open t.holding.ledger lead.well lead.open_is

  -- the entries that the region may still take, and that they are fewer then
  abbrev pub cost_of : Table D S g h → ℕ
  cost_of t = region_cost t.holding.ledger.plan.now (state_now t) (or_zero (state_now t).region)

  run_of : (t u : Table D S g h) (entries : List Entry) → GrowsBy t u entries → IsRun t.holding.ledger.plan.now (state_now t) entries
  run_of t u entries grows =
      let l = t.holding.ledger in
      let v = u.holding.ledger in
      let legal : IsLegalRun l.plan.now v.journal.items = subst (λ (p : Bor Plan). IsLegalRun p.now v.journal.items) grows.holds.grows.plan v.facts.legal in
      let whole : IsLegalRun l.plan.now (l.journal.items ++ entries) = subst (λ (xs : List Entry). IsLegalRun l.plan.now xs) grows.holds.grows.journal legal in
      subst (λ (st : State). IsRun l.plan.now st entries) (sym l.facts.state) (run_parts l.plan.now (start l.plan.now) l.journal.items entries whole).1

  pub cost_falls : (t u : Table D S g h) (prior : List Event) → Prepares t u prior → MayLead t → cost_of u + length prior ≤ cost_of t
  cost_falls t u prior prepares lead =
      let plan = t.holding.ledger.plan.now in
      let st = state_now t in
      let entries = with_line (line_now t) prior in
      let some = some_of st.region lead.open_is in
      let falls = falls_all plan st some.0 entries lead.well (sound_now t.holding.ledger lead.well) some.1 (run_of t u entries prepares.grows) (lines_prepare (line_now t) prior prepares.prepares) in
      let r_then : or_zero st.region ≡ some.0 = ap or_zero some.1 in
      let r_now : or_zero (state_now u).region ≡ some.0 = ap or_zero ((later t u prior prepares).region ∙ some.1) in
      let was : cost_of t ≡ region_cost plan st some.0 = ap (λ (r : ℕ). region_cost plan st r) r_then in
      let is : cost_of u ≡ region_cost plan (state_after plan st entries) some.0 =
      ap (λ (p : Bor Plan). region_cost p.now (state_now u) (or_zero (state_now u).region)) prepares.grows.holds.grows.plan
      ∙ ap (λ (r : ℕ). region_cost plan (state_now u) r) r_now
      ∙ ap (λ (x : State). region_cost plan x some.0) (state_grows t.holding.ledger u.holding.ledger entries prepares.grows.holds.grows) in
      let count = lines_count (line_now t) prior in
      omega (arith, falls, was, is, count)

  pub cost_less : (t u : Table D S g h) (prior : List Event) → Prepares t u prior → MayLead t → 1 ≤ length prior → cost_of u < cost_of t
  cost_less t u prior prepares lead some = let falls = cost_falls t u prior prepares lead in omega (arith, falls, some)

  -- ---- what a later call gives, from an earlier table on

  caused_then : (t m u : Table D S g h) (xs : List Event) (fault : RunFault) → Prepares t m xs → m.cause ≡ None → IsCaused m u fault → IsCaused t u fault
  caused_then t m u xs fault p none disk is = ⊎_elim
      (λ (kept : m.cause ≡ Some DiskFault). absurd (let e : None ≡ Some DiskFault = sym none ∙ kept in cc))
      (λ (rose : Rose (Ghosts.faults g m.store) (Ghosts.faults g u.store)). inr (rose_before (Ghosts.faults g t.store) (Ghosts.faults g m.store) (Ghosts.faults g u.store) p.grows.faults rose))
      (disk is)

  pub fails_then : (t m u : Table D S g h) (xs : List Event) (fault : RunFault) → Prepares t m xs → m.cause ≡ None → Fails m u fault → Fails t u fault
  fails_then t m u xs fault p none fails = record {
    prior = xs ++ fails.prior;
    prepares = prepares_then t m u xs fails.prior p fails.prepares;
    cause = fails.cause;
    disk = caused_then t m u xs fault p none fails.disk;
  }

  -- a call of which all events lead tasks on
  pub fails_of : (t u : Table D S g h) (events : List Event) (fault : RunFault) → All IsPreparing events → Stops t u events fault → Fails t u fault
  fails_of t u events fault prepare stops = record {
    prior = stops.done;
    prepares = record { grows = stops.grows; prepares = all_front IsPreparing stops.done stops.rest (subst (λ (l : List Event). All IsPreparing l) stops.all prepare) };
    cause = stops.cause;
    disk = stops.disk;
  }
