-- Tables that entered events which bring blocks home.
use Rattle.std.proofs.Common.{◌≡◌, List, [], ◌∷◌, ◌++◌, Some, None, Bor, refl, ap, sym, ◌∙◌, subst, append-nil}
use Rattle.std.specs.List.{list_all}
use Rattle.std.proofs.lemmas.Bool.{and_from, and_parts}
use Rattle.dd_back.specs.Backs.{AreHoming, Homes, StopsHoming, is_homing}
use Rattle.dd_back.specs.Steps.{IsAtEnd}
use Rattle.dd_blocks.specs.declared.plan.Plan.{Plan}
use Rattle.dd_blocks.specs.WellFormed.{IsWellFormed}
use Rattle.dd_core.specs.Lines.{with_line}
use Rattle.dd_ledger.proofs.GrowsLemmas.{state_grows}
use Rattle.dd_machine.specs.declared.entry.Entry.{Entry}
use Rattle.dd_machine.specs.declared.event.Event.{Event}
use Rattle.dd_machine.specs.Owed.{left, next_line}
use Rattle.dd_machine.specs.Runs.{state_after}
use Rattle.dd_machine.specs.States.{Progress}
use Rattle.dd_store.specs.declared.store.Slot.{Ghosts as SlotGhosts}
use Rattle.dd_store.specs.declared.store.Store.{Ghosts}
use Rattle.dd_table.specs.declared.fault.RunFault.{RunFault}
use Rattle.dd_table.specs.declared.table.Table.{Table}
use Rattle.dd_table.specs.Tables.{Enters, GrowsBy, Stops, line_now, state_now}
use Rattle.dd_table.proofs.GivesLemmas.{ends_none, ends_then, line_kept, stopped_before, stops_then}
use Rattle.dd_back.proofs.HomingLemmas.{Keeps, events_keep, homing_both}

-- a prefix of events that bring blocks home
pub homing_prefix : (xs ys : List Event) → AreHoming (xs ++ ys) → AreHoming xs
homing_prefix [] ys are = refl
homing_prefix (x ∷ xs) ys are =
    let p = and_parts (is_homing x) (list_all is_homing (xs ++ ys)) are in
    and_from (is_homing x) (list_all is_homing xs) p.0 (homing_prefix xs ys p.1)

module _ {D S : Type 0} {g : Ghosts D S} {h : SlotGhosts S} where
  -- the Plan and the state of a table that grew
  pub plan_grown : (t u : Table D S g h) (entries : List Entry) → GrowsBy t u entries → u.holding.ledger.plan.now ≡ t.holding.ledger.plan.now
  plan_grown t u entries p = ap (λ (q : Bor Plan). q.now) p.holds.grows.plan

  pub well_grown : (t u : Table D S g h) (entries : List Entry) → GrowsBy t u entries → IsWellFormed t.holding.ledger.plan.now → IsWellFormed u.holding.ledger.plan.now
  well_grown t u entries p well = subst IsWellFormed (sym (plan_grown t u entries p)) well

  pub state_grown : (t u : Table D S g h) (entries : List Entry) → GrowsBy t u entries → state_now u ≡ state_after t.holding.ledger.plan.now (state_now t) entries
  state_grown t u entries p = state_grows t.holding.ledger u.holding.ledger entries p.holds.grows

  -- the next line stays where the statements don't move on
  pub line_same : (t u : Table D S g h) (entries : List Entry) → GrowsBy t u entries → (state_now u).progress ≡ (state_now t).progress → line_now u ≡ line_now t
  line_same t u entries p same = line_kept t u entries p.holds (ap (λ (q : Progress). next_line (left t.holding.ledger.plan.now q)) same)

  -- what events that bring blocks home keep
  pub keeps_grown : (t u : Table D S g h) (events : List Event) → IsAtEnd t.holding.ledger.plan.now (state_now t) → AreHoming events → GrowsBy t u (with_line (line_now t) events)
      → Keeps t.holding.ledger.plan.now (state_now t) (state_now u)
  keeps_grown t u events e are p =
      let plan = t.holding.ledger.plan.now in
      subst (Keeps plan (state_now t)) (sym (state_grown t u (with_line (line_now t) events) p)) (events_keep plan (state_now t) e.region (line_now t) events e.open_is are)

  pub homes_keep : (t u : Table D S g h) → IsAtEnd t.holding.ledger.plan.now (state_now t) → Homes t u → Keeps t.holding.ledger.plan.now (state_now t) (state_now u)
  homes_keep t u e p = keeps_grown t u p.events e p.homing p.ends.enters.grows

  pub homes_plan : (t u : Table D S g h) → Homes t u → u.holding.ledger.plan.now ≡ t.holding.ledger.plan.now
  homes_plan t u p = plan_grown t u (with_line (line_now t) p.events) p.ends.enters.grows

  pub homes_well : (t u : Table D S g h) → Homes t u → IsWellFormed t.holding.ledger.plan.now → IsWellFormed u.holding.ledger.plan.now
  homes_well t u p well = subst IsWellFormed (sym (homes_plan t u p)) well

  pub homes_run : (t u : Table D S g h) → Homes t u → u.cause ≡ None
  homes_run t u p = p.ends.enters.cause ∙ p.ends.none

  -- no event; some, and then others
  pub homes_none : (t : Table D S g h) → t.cause ≡ None → Homes t t
  homes_none t none = record { events = []; homing = refl; ends = ends_none t none }

  homes_line : (t m : Table D S g h) → IsAtEnd t.holding.ledger.plan.now (state_now t) → Homes t m → line_now m ≡ line_now t
  homes_line t m e p = line_same t m (with_line (line_now t) p.events) p.ends.enters.grows (homes_keep t m e p).progress

  pub homes_then : (t m u : Table D S g h) (events : List Event) → IsAtEnd t.holding.ledger.plan.now (state_now t) → Homes t m → AreHoming events → Enters m u events → Homes t u
  homes_then t m u events e p are q = record {
    events = p.events ++ events;
    homing = homing_both p.events events p.homing are;
    ends = ends_then t m u p.events events p.ends (homes_line t m e p) q;
  }

  pub homes_both : (t m u : Table D S g h) → IsAtEnd t.holding.ledger.plan.now (state_now t) → Homes t m → Homes m u → Homes t u
  homes_both t m u e p q = homes_then t m u q.events e p q.homing q.ends.enters

  -- some, and then the run stopped
  pub stops_homing : (t u : Table D S g h) (events : List Event) (fault : RunFault) → AreHoming events → Stops t u events fault → StopsHoming t u fault
  stops_homing t u events fault are p = record {
    events = p.done;
    homing = homing_prefix p.done p.rest (subst AreHoming p.all are);
    grows = p.grows;
    cause = p.cause;
    disk = p.disk;
    kept = p.kept;
  }

  pub homes_stop : (t m u : Table D S g h) (events : List Event) (fault : RunFault) → IsAtEnd t.holding.ledger.plan.now (state_now t) → Homes t m → AreHoming events → Stops m u events fault
      → StopsHoming t u fault
  homes_stop t m u events fault e p are q =
      stops_homing t u (p.events ++ events) fault (homing_both p.events events p.homing are) (stops_then t m u p.events events fault p.ends (homes_line t m e p) q)

  pub homes_stopped : (t m u : Table D S g h) (fault : RunFault) → IsAtEnd t.holding.ledger.plan.now (state_now t) → Homes t m → StopsHoming m u fault → StopsHoming t u fault
  homes_stopped t m u fault e p q = homes_stop t m u q.events fault e p q.homing (record {
    done = q.events;
    rest = [];
    all = sym (append-nil q.events);
    grows = q.grows;
    cause = q.cause;
    disk = q.disk;
    kept = q.kept;
  })

  -- a cause was kept before
  pub homes_before : (t : Table D S g h) (fault : RunFault) → t.cause ≡ Some fault → StopsHoming t t fault
  homes_before t fault kept = stops_homing t t [] fault refl (stopped_before t [] fault kept)
