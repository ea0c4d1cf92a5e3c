-- What a table has spilled so far to make room in a space.
use Rattle.std.proofs.Common.{◌≡◌, ℕ, ◌<◌, ◌≤◌, List, [], ◌∷◌, ◌++◌, Option, Some, None, Bor, refl, sym, ap, ◌∙◌, subst, append-nil, arith, Result}
use Rattle.std.proofs.lemmas.List.{append_assoc}
use Rattle.dd_blocks.specs.declared.plan.Plan.{Plan}
use Rattle.dd_blocks.specs.declared.space_row.SpaceRow.{SpaceRow}
use Rattle.dd_blocks.specs.Numbered.{space_row}
use Rattle.dd_blocks.specs.WellFormed.{IsWellFormed}
use Rattle.dd_core.specs.Cores.{core_state}
use Rattle.dd_holding.proofs.HereLemmas.{place_there, sound_now}
use Rattle.dd_ledger.specs.declared.ledger.Ledger.{Ledger}
use Rattle.dd_ledger.specs.Ledgers as ledgers
use Rattle.dd_ledger.specs.Ledgers.{GrowsBy}
use Rattle.dd_ledger.proofs.GrowsLemmas.{state_grows}
use Rattle.dd_machine.specs.declared.entry.Entry.{Entry}
use Rattle.dd_machine.specs.declared.event.Event.{Event}
use Rattle.dd_machine.specs.declared.event.Event.TheVariants.{Gone, Pick}
use Rattle.dd_machine.specs.Bytes.{load, victim}
use Rattle.dd_machine.specs.Legal.{May}
use Rattle.dd_machine.specs.Owed.{left, next_line}
use Rattle.dd_machine.specs.Runs.{IsLegalRun, IsRun, start, state_after}
use Rattle.dd_machine.specs.States.{Progress, State}
use Rattle.dd_machine.specs.Tests.{is_here}
use Rattle.dd_machine.specs.Words.{IsOneOf, limit, spaces}
use Rattle.dd_machine.proofs.RunsLemmas.{run_parts}
use Rattle.dd_store.specs.declared.store.Slot.{Ghosts as SlotGhosts}
use Rattle.dd_store.specs.declared.store.Store.{Ghosts}
use Rattle.dd_tables.specs.declared.tables.Tables.{Tables}
use Rattle.laws_of_limits.proofs.OrdersKept.{victim_there}
use Rattle.dd_table.specs.declared.fault.RunFault.{RunFault}
use Rattle.dd_table.specs.declared.table.Table.{Table}
use Rattle.dd_core.specs.Lines.{with_line}
use Rattle.dd_table.specs.Spills.{BeginRoom, MakeRoom, RoomGives}
use Rattle.dd_table.specs.Tables.{Ends, Gives, IsLeft, Stops, line_now, state_now}
use Rattle.dd_table.proofs.GivesLemmas.{ends_then, left_kept, line_kept, stops_then}
use Rattle.dd_table.proofs.SpillsLemmas.{after_spill, begins_done, begins_more, load_falls, room_done, room_more, victim_over}

-- entries that a ledger grew by are a run
pub run_grown : (l u : Ledger) (added : List Entry) → GrowsBy l u added → IsRun l.plan.now (ledgers.state_now l) added
run_grown l u added grows =
    let whole : IsLegalRun l.plan.now (l.journal.items ++ added) = subst (IsLegalRun l.plan.now) grows.journal (subst (λ (p : Bor Plan). IsLegalRun p.now u.journal.items) grows.plan u.facts.legal) in
    subst (λ (st : State). IsRun l.plan.now st added) (sym l.facts.state) (run_parts l.plan.now (start l.plan.now) l.journal.items added whole).1

module _ {D S : Type 0} {g : Ghosts D S} {h : SlotGhosts S} where
  -- the spills so far; with more of them they make room, or begin to
  pub record HasSpilled (t u : Table D S g h) (space : ℕ) : Type 0 where
    pub events : List Event
    pub ends : Ends t u events
    pub progress : (state_now u).progress ≡ (state_now t).progress
    pub room : (more : List Event) → MakeRoom t.holding.ledger.plan.now (state_now u) space more → MakeRoom t.holding.ledger.plan.now (state_now t) space (events ++ more)
    pub begins : (more : List Event) → BeginRoom t.holding.ledger.plan.now (state_now u) space more → BeginRoom t.holding.ledger.plan.now (state_now t) space (events ++ more)

  pub spilled_none : (t : Table D S g h) (space : ℕ) → t.cause ≡ None → HasSpilled t t space
  spilled_none t space none = record {
    events = [];
    ends = record {
      enters = record {
        grows = record {
          holds = record { grows = record { plan = refl; journal = sym (append-nil t.holding.ledger.journal.items) }; names = refl };
          opening = refl;
          faults = omega arith;
        };
        cause = refl;
      };
      none = none;
    };
    progress = refl;
    room = λ more is. is;
    begins = λ more is. is;
  }

  pub same_line : (t u : Table D S g h) (space : ℕ) → HasSpilled t u space → line_now u ≡ line_now t
  same_line t u space s = line_kept t u (with_line (line_now t) s.events) s.ends.enters.grows.holds (ap (λ (p : Progress). next_line (left t.holding.ledger.plan.now p)) s.progress)

  pub still_left : (t u : Table D S g h) (space : ℕ) → HasSpilled t u space → IsLeft t → IsLeft u
  still_left t u space s is = left_kept t u (with_line (line_now t) s.events) s.ends.enters.grows.holds (ap (λ (p : Progress). next_line (left t.holding.ledger.plan.now p)) s.progress) is

  pub plan_is : (t u : Table D S g h) (space : ℕ) → HasSpilled t u space → u.holding.ledger.plan.now ≡ t.holding.ledger.plan.now
  plan_is t u space s = ap (λ (p : Bor Plan). p.now) s.ends.enters.grows.holds.grows.plan

  -- the state after one spill more
  spill_state : (t m u : Table D S g h) (space block : ℕ) → HasSpilled t m space → Ends m u (Pick space block ∷ (Gone space block ∷ [])) → state_now u ≡ after_spill t.holding.ledger.plan.now (state_now m) space block
  unfolding state_after
  spill_state t m u space block s q =
      state_grows m.holding.ledger u.holding.ledger (with_line (line_now m) (Pick space block ∷ (Gone space block ∷ []))) q.enters.grows.holds.grows
      ∙ ap (λ (p : Plan). after_spill p (state_now m) space block) (plan_is t m space s)

  over_then : (t m : Table D S g h) (space : ℕ) → HasSpilled t m space → limit m.holding.ledger.plan.now space < load m.holding.ledger.plan.now (state_now m) space
      → limit t.holding.ledger.plan.now space < load t.holding.ledger.plan.now (state_now m) space
  over_then t m space s over = subst (λ (p : Plan). limit p space < load p (state_now m) space) (plan_is t m space s) over

  pub spilled_next : (t m u : Table D S g h) (space block : ℕ) → HasSpilled t m space → limit m.holding.ledger.plan.now space < load m.holding.ledger.plan.now (state_now m) space
      → Ends m u (Pick space block ∷ (Gone space block ∷ [])) → HasSpilled t u space
  spilled_next t m u space block s over q =
      let plan = t.holding.ledger.plan.now in
      let pair = Pick space block ∷ (Gone space block ∷ []) in
      let is = spill_state t m u space block s q in
      let high = over_then t m space s over in
      record {
        events = s.events ++ pair;
        ends = ends_then t m u s.events pair s.ends (same_line t m space s) q.enters;
        progress = ap (λ (st : State). st.progress) is ∙ s.progress;
        room = λ more make. subst (MakeRoom plan (state_now t) space) (sym (append_assoc s.events pair more))
            (s.room (pair ++ more) (room_more plan (state_now m) space block more high (subst (λ (st : State). MakeRoom plan st space more) is make)));
        begins = λ more begin. subst (BeginRoom plan (state_now t) space) (sym (append_assoc s.events pair more))
            (s.begins (pair ++ more) (begins_more plan (state_now m) space block more high (subst (λ (st : State). BeginRoom plan st space more) is begin)));
      }

  -- what the whole gives
  abbrev pub SpillsGive : Table D S g h → Table D S g h → ℕ → Result (Unit {0}) RunFault → Type 0
  SpillsGive t u space result = (events : List Event) × Gives t u events result × RoomGives t.holding.ledger.plan.now (state_now t) space events result

  pub spills_end : (t u : Table D S g h) (space : ℕ) → HasSpilled t u space → load u.holding.ledger.plan.now (state_now u) space ≤ limit u.holding.ledger.plan.now space
      → (events : List Event) × Ends t u events × MakeRoom t.holding.ledger.plan.now (state_now t) space events
  spills_end t u space s low =
      let plan = t.holding.ledger.plan.now in
      let fits : load plan (state_now u) space ≤ limit plan space = subst (λ (p : Plan). load p (state_now u) space ≤ limit p space) (plan_is t u space s) low in
      (s.events, s.ends, subst (MakeRoom plan (state_now t) space) (append-nil s.events) (s.room [] (room_done plan (state_now u) space fits)))

  pub spills_stop : (t m u : Table D S g h) (space block : ℕ) (fault : RunFault) → HasSpilled t m space → limit m.holding.ledger.plan.now space < load m.holding.ledger.plan.now (state_now m) space
      → Stops m u (Pick space block ∷ (Gone space block ∷ [])) fault → (events : List Event) × Stops t u events fault × BeginRoom t.holding.ledger.plan.now (state_now t) space events
  spills_stop t m u space block fault s over q =
      let plan = t.holding.ledger.plan.now in
      let pair = Pick space block ∷ (Gone space block ∷ []) in (
        s.events ++ pair,
        stops_then t m u s.events pair fault s.ends (same_line t m space s) q,
        s.begins pair (begins_more plan (state_now m) space block [] (over_then t m space s over) (begins_done plan (after_spill plan (state_now m) space block) space)),
      )

  -- what the core says of the load, the limit and the victim is so of the table
  pub load_is : (m : Table D S g h) (p : Bor Plan) (k : Tables) (space n : ℕ) → p ≡ m.holding.ledger.plan → k ≡ m.holding.ledger.core → n ≡ load p.now (core_state p.now k) space
      → n ≡ load m.holding.ledger.plan.now (state_now m) space
  load_is m p k space n same_plan same_core is =
      is ∙ ap (λ (q : Bor Plan). load q.now (core_state q.now k) space) same_plan ∙ ap (λ (c : Tables). load m.holding.ledger.plan.now (core_state m.holding.ledger.plan.now c) space) same_core

  pub limit_is : (m : Table D S g h) (p : Bor Plan) (row : SpaceRow) (space : ℕ) → p ≡ m.holding.ledger.plan → row ≡ space_row p.now space → row.limit ≡ limit m.holding.ledger.plan.now space
  limit_is m p row space same is = ap (λ (r : SpaceRow). r.limit) is ∙ ap (λ (q : Bor Plan). limit q.now space) same

  pub victim_is : (m : Table D S g h) (p : Bor Plan) (k : Tables) (space : ℕ) (result : Option ℕ) → p ≡ m.holding.ledger.plan → k ≡ m.holding.ledger.core → result ≡ victim p.now (core_state p.now k) space
      → victim m.holding.ledger.plan.now (state_now m) space ≡ result
  victim_is m p k space result same_plan same_core is =
      sym (is ∙ ap (λ (q : Bor Plan). victim q.now (core_state q.now k) space) same_plan ∙ ap (λ (c : Tables). victim m.holding.ledger.plan.now (core_state m.holding.ledger.plan.now c) space) same_core)

  -- a load that is above the limit, and one that is within it
  pub over_by : (m : Table D S g h) (space n l : ℕ) → n ≡ load m.holding.ledger.plan.now (state_now m) space → l ≡ limit m.holding.ledger.plan.now space → l < n
      → limit m.holding.ledger.plan.now space < load m.holding.ledger.plan.now (state_now m) space
  over_by m space n l high low over = omega (arith, high, low, over)

  pub within_by : (m : Table D S g h) (space n l : ℕ) → n ≡ load m.holding.ledger.plan.now (state_now m) space → l ≡ limit m.holding.ledger.plan.now space → n ≤ l
      → load m.holding.ledger.plan.now (state_now m) space ≤ limit m.holding.ledger.plan.now space
  within_by m space n l high low within = omega (arith, high, low, within)

  -- the victim's place, and that it may be picked; and there is one
  pub may_pick : (m : Table D S g h) (space block : ℕ) → IsOneOf (spaces m.holding.ledger.plan.now) space → limit m.holding.ledger.plan.now space < load m.holding.ledger.plan.now (state_now m) space
      → victim m.holding.ledger.plan.now (state_now m) space ≡ Some block → May m.holding.ledger.plan.now (state_now m) (Pick space block)
  may_pick m space block is over victim_is = record { space_is = is; over = over; is_victim = victim_is }

  pub some_victim : (m : Table D S g h) (space : ℕ) → IsWellFormed m.holding.ledger.plan.now → IsOneOf (spaces m.holding.ledger.plan.now) space → m.cause ≡ None
      → limit m.holding.ledger.plan.now space < load m.holding.ledger.plan.now (state_now m) space → victim m.holding.ledger.plan.now (state_now m) space ≡ None → ⊥
  some_victim m space well is none over no_victim =
      let some = victim_over m.holding.ledger.plan.now (state_now m) space (sound_now m.holding.ledger well) (m.settled.idle none) is over in
      let h : None ≡ Some some.0 = sym no_victim ∙ some.1 in
      cc

  -- and the load falls
  pub spill_falls : (t m u : Table D S g h) (space block : ℕ) → IsWellFormed m.holding.ledger.plan.now → HasSpilled t m space → victim m.holding.ledger.plan.now (state_now m) space ≡ Some block
      → Ends m u (Pick space block ∷ (Gone space block ∷ [])) → load u.holding.ledger.plan.now (state_now u) space < load m.holding.ledger.plan.now (state_now m) space
  unfolding state_after
  spill_falls t m u space block well s victim_is q =
      let plan = m.holding.ledger.plan.now in
      let st = state_now m in
      let sound = sound_now m.holding.ledger well in
      let there = victim_there plan st space block victim_is in
      let here = sound.limits.order_here space block there.0 in
      let place = place_there m.holding.ledger is_here space block here in
      let falls = load_falls plan st space block well place.a_block here there.1 in
      let is : state_now u ≡ after_spill plan st space block = state_grows m.holding.ledger u.holding.ledger (with_line (line_now m) (Pick space block ∷ (Gone space block ∷ []))) q.enters.grows.holds.grows in
      let same : load u.holding.ledger.plan.now (state_now u) space ≡ load plan (after_spill plan st space block) space =
      ap (λ (p : Bor Plan). load p.now (state_now u) space) q.enters.grows.holds.grows.plan ∙ ap (λ (x : State). load plan x space) is in
      omega (arith, falls, same)
