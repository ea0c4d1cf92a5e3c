-- What a table gives that asked for a block and made room for it, and what it may do next.
use Rattle.std.proofs.Common.{◌≡◌, ℕ, ◌≤◌, Bool, true, false, cond, List, [], ◌∷◌, ◌++◌, Some, None, Bor, refl, sym, ap, ◌∙◌, subst, ⊎_elim, append-nil, Result, Ok, Err}
use Rattle.std.proofs.lemmas.Bool.{cases_Bool}
use Rattle.dd_blocks.specs.declared.plan.Plan.{Plan}
use Rattle.dd_blocks.specs.WellFormed.{IsWellFormed}
use Rattle.dd_holding.proofs.HereLemmas.{sound_now}
use Rattle.dd_ledger.proofs.GrowsLemmas.{state_grows, state_next}
use Rattle.dd_machine.specs.declared.copy_state.CopyState.TheVariants.{Coming, Here}
use Rattle.dd_machine.specs.declared.event.Event.{Event}
use Rattle.dd_machine.specs.declared.event.Event.TheVariants.{Ask, Call, Come, Put, Rest, Shift}
use Rattle.dd_machine.specs.Bytes.{load}
use Rattle.dd_machine.specs.Effects.{after, in_state}
use Rattle.dd_machine.specs.Legal.{IsNext, May, MayAsk}
use Rattle.dd_machine.specs.Owed.{left, next_line}
use Rattle.dd_machine.specs.Runs.{IsRun, state_after}
use Rattle.dd_machine.specs.Sound.{IsSound}
use Rattle.dd_machine.specs.States.{Progress, State}
use Rattle.dd_machine.specs.Tests.{Has, is_any, is_here, is_in_state, is_out}
use Rattle.dd_machine.specs.Words.{limit}
use Rattle.dd_machine.proofs.ChangesLemmas.{at_copy_same}
use Rattle.dd_machine.proofs.TestsLemmas.{in_state_there, passes_any}
use Rattle.laws_of_progress.proofs.QuietRoom.{idle_out}
use Rattle.dd_store.specs.declared.store.Slot.{Ghosts as SlotGhosts}
use Rattle.dd_store.specs.declared.store.Store.{Ghosts}
use Rattle.dd_table.specs.declared.fault.RunFault.{RunFault}
use Rattle.dd_table.specs.declared.table.Table.{Table}
use Rattle.dd_core.specs.Due.{AreDue}
use Rattle.dd_core.specs.Lines.{with_line}
use Rattle.dd_table.specs.Spills.{MakeRoom, RoomGives}
use Rattle.dd_table.specs.Tables.{Ends, Enters, Gives, IsLeft, Stops, line_now, state_now}
use Rattle.dd_table.proofs.DueLemmas.{asked_line, left_due, line_more}
use Rattle.dd_table.proofs.GivesLemmas.{ends_then, gives_then, left_kept, line_kept, stopped_before, stops_more, stops_then}
use Rattle.dd_table.proofs.MayLemmas.{HasRoom, call_may, put_may, put_rests, same_copy, shift_may, shift_rests}
use Rattle.dd_table.proofs.RoomLemmas.{run_grown}
use Rattle.dd_table.proofs.SpillsLemmas.{Spares, begins_done, room_begins, room_low, room_spares}

module _ {D S : Type 0} {g : Ghosts D S} {h : SlotGhosts S} where
  -- the state after one event; the line and what is left behind an Ask
  pub state_one : (t m : Table D S g h) (event : Event) → Enters t m (event ∷ []) → state_now m ≡ after t.holding.ledger.plan.now (state_now t) event
  state_one t m event p = state_next t.holding.ledger m.holding.ledger (record { line = line_now t; event = event }) p.grows.holds.grows

  pub plan_one : (t m : Table D S g h) (events : List Event) → Enters t m events → m.holding.ledger.plan.now ≡ t.holding.ledger.plan.now
  plan_one t m events p = ap (λ (q : Bor Plan). q.now) p.grows.holds.grows.plan

  ask_progress : (t m : Table D S g h) (space block : ℕ) → IsWellFormed t.holding.ledger.plan.now → MayAsk t.holding.ledger.plan.now (state_now t) space block → Enters t m (Ask space block ∷ [])
      → next_line (left t.holding.ledger.plan.now (state_now m).progress) ≡ next_line (left t.holding.ledger.plan.now (state_now t).progress)
  ask_progress t m space block well may p =
      ap (λ (st : State). next_line (left t.holding.ledger.plan.now st.progress)) (state_one t m (Ask space block) p)
      ∙ asked_line t.holding.ledger.plan.now (state_now t) space block (sound_now t.holding.ledger well) may.due

  pub left_at : (t : Table D S g h) (event : Event) → IsWellFormed t.holding.ledger.plan.now → ((state_now t).region ≡ None → IsNext t.holding.ledger.plan.now (state_now t) event) → IsLeft t
  left_at t event well due = left_due t.holding.ledger.plan.now (state_now t) event (sound_now t.holding.ledger well) due

  pub ask_line : (t m : Table D S g h) (space block : ℕ) → IsWellFormed t.holding.ledger.plan.now → MayAsk t.holding.ledger.plan.now (state_now t) space block → Enters t m (Ask space block ∷ []) → line_now m ≡ line_now t
  ask_line t m space block well may p = line_kept t m (with_line (line_now t) (Ask space block ∷ [])) p.grows.holds (ask_progress t m space block well may p)

  pub ask_left : (t m : Table D S g h) (space block : ℕ) → IsWellFormed t.holding.ledger.plan.now → MayAsk t.holding.ledger.plan.now (state_now t) space block → Enters t m (Ask space block ∷ []) → IsLeft m
  ask_left t m space block well may p =
      left_kept t m (with_line (line_now t) (Ask space block ∷ [])) p.grows.holds (ask_progress t m space block well may p) (left_at t (Ask space block) well may.due)

  -- what `ask` gives: an Ask, and the spills behind it
  abbrev pub AskGives : Table D S g h → Table D S g h → ℕ → ℕ → Result (Unit {0}) RunFault → Type 0
  AskGives t u space block result = (spills : List Event) × Gives t u (Ask space block ∷ spills) result
      × RoomGives t.holding.ledger.plan.now (after t.holding.ledger.plan.now (state_now t) (Ask space block)) space spills result

  pub ask_stopped : (t m : Table D S g h) (space block : ℕ) (fault : RunFault) → Stops t m (Ask space block ∷ []) fault → AskGives t m space block (Err fault)
  ask_stopped t m space block fault p = ([], p, begins_done t.holding.ledger.plan.now (after t.holding.ledger.plan.now (state_now t) (Ask space block)) space)

  pub ask_gives : (t m u : Table D S g h) (space block : ℕ) (result : Result (Unit {0}) RunFault) → IsWellFormed t.holding.ledger.plan.now → MayAsk t.holding.ledger.plan.now (state_now t) space block
      → Ends t m (Ask space block ∷ []) → (spills : List Event) × Gives m u spills result × RoomGives m.holding.ledger.plan.now (state_now m) space spills result → AskGives t u space block result
  ask_gives t m u space block result well may p r = (
    r.0,
    gives_then t m u (Ask space block ∷ []) r.0 result p (ask_line t m space block well may p.enters) r.1,
    subst (λ (st : State). RoomGives t.holding.ledger.plan.now st space r.0 result) (state_one t m (Ask space block) p.enters)
        (subst (λ (q : Plan). RoomGives q (state_now m) space r.0 result) (plan_one t m (Ask space block ∷ []) p.enters) r.2),
  )

  -- where it didn't stop
  pub record Asked (t u : Table D S g h) (space block : ℕ) : Type 0 where
    pub spills : List Event
    pub ends : Ends t u (Ask space block ∷ spills)
    pub makes : MakeRoom t.holding.ledger.plan.now (after t.holding.ledger.plan.now (state_now t) (Ask space block)) space spills
    pub line : line_now u ≡ line_now t
    pub left : IsLeft u
    pub none : u.cause ≡ None
    pub plan : u.holding.ledger.plan.now ≡ t.holding.ledger.plan.now
    pub room : HasRoom t.holding.ledger.plan.now (state_now t) (state_now u) space block

  pub asked : (t u : Table D S g h) (space block : ℕ) → IsWellFormed t.holding.ledger.plan.now → MayAsk t.holding.ledger.plan.now (state_now t) space block → AskGives t u space block (Ok tt) → Asked t u space block
  unfolding IsRun state_after
  asked t u space block well may r =
      let plan = t.holding.ledger.plan.now in
      let st = state_now t in
      let mid = after plan st (Ask space block) in
      let line = line_now t in
      let p = r.1 in
      let grows = p.enters.grows.holds.grows in
      let run = run_grown t.holding.ledger u.holding.ledger (with_line line (Ask space block ∷ r.0)) grows in
      let is : state_now u ≡ state_after plan mid (with_line line r.0) = state_grows t.holding.ledger u.holding.ledger (with_line line (Ask space block ∷ r.0)) grows in
      let spares : Spares plan mid (state_now u) = subst (Spares plan mid) (sym is) (room_spares plan mid line space r.0 run.1 r.2) in
      let low : load plan (state_now u) space ≤ limit plan space = subst (λ (x : State). load plan x space ≤ limit plan space) (sym is) (room_low plan mid line space r.0 r.2) in
      let same : u.holding.ledger.plan.now ≡ plan = plan_one t u (Ask space block ∷ r.0) p.enters in
      let sound : IsSound plan (state_now u) = subst (λ (q : Plan). IsSound q (state_now u)) same (sound_now u.holding.ledger (subst IsWellFormed (sym same) well)) in
      let none : u.cause ≡ None = p.enters.cause ∙ p.none in
      let lines : next_line (left plan (state_now u).progress) ≡ next_line (left plan st.progress) =
      ap (λ (q : Progress). next_line (left plan q)) spares.progress ∙ asked_line plan st space block (sound_now t.holding.ledger well) may.due in
      record {
        spills = r.0;
        ends = p;
        makes = r.2;
        line = line_kept t u (with_line line (Ask space block ∷ r.0)) p.enters.grows.holds lines;
        left = left_kept t u (with_line line (Ask space block ∷ r.0)) p.enters.grows.holds lines (left_at t (Ask space block) well may.due);
        none = none;
        plan = same;
        room = record {
          well = well;
          old_sound = sound_now t.holding.ledger well;
          sound = sound;
          may = may;
          spares = spares;
          low = low;
          idle = u.settled.idle none;
        };
      }

  -- what a call gives that asks first
  abbrev pub AskedGives : Table D S g h → Table D S g h → ℕ → ℕ → List Event → Result (Unit {0}) RunFault → Type 0
  AskedGives t u space block events result = (spills : List Event) × Gives t u (Ask space block ∷ (spills ++ events)) result
      × RoomGives t.holding.ledger.plan.now (after t.holding.ledger.plan.now (state_now t) (Ask space block)) space spills result

  pub asked_before : (t : Table D S g h) (space block : ℕ) (events : List Event) (fault : RunFault) → t.cause ≡ Some fault → AskedGives t t space block events (Err fault)
  asked_before t space block events fault kept =
      ([], stopped_before t (Ask space block ∷ events) fault kept, begins_done t.holding.ledger.plan.now (after t.holding.ledger.plan.now (state_now t) (Ask space block)) space)

  pub asked_stops : (t u : Table D S g h) (space block : ℕ) (events : List Event) (fault : RunFault) → AskGives t u space block (Err fault) → AskedGives t u space block events (Err fault)
  asked_stops t u space block events fault r = (r.0, stops_more t u (Ask space block ∷ r.0) events fault r.1, r.2)

  pub asked_then : (t u v : Table D S g h) (space block : ℕ) (xs ys : List Event) (fault : RunFault) → Asked t u space block → Stops u v xs fault → AskedGives t v space block (xs ++ ys) (Err fault)
  asked_then t u v space block xs ys fault a q = (
    a.spills,
    stops_then t u v (Ask space block ∷ a.spills) (xs ++ ys) fault a.ends a.line (stops_more u v xs ys fault q),
    room_begins t.holding.ledger.plan.now (after t.holding.ledger.plan.now (state_now t) (Ask space block)) space a.spills a.makes,
  )

  pub asked_ends : (t u v : Table D S g h) (space block : ℕ) (events : List Event) → Asked t u space block → Enters u v events → AskedGives t v space block events (Ok tt)
  asked_ends t u v space block events a q = (a.spills, ends_then t u v (Ask space block ∷ a.spills) events a.ends a.line q, a.makes)

  pub asked_more : (t u v : Table D S g h) (space block : ℕ) (events : List Event) (result : Result (Unit {0}) RunFault) → Asked t u space block → Gives u v events result → AskedGives t v space block events result
  asked_more t u v space block events (Ok done) a q = asked_ends t u v space block events a q.enters
  asked_more t u v space block events (Err fault) a q = (
    a.spills,
    stops_then t u v (Ask space block ∷ a.spills) events fault a.ends a.line q,
    room_begins t.holding.ledger.plan.now (after t.holding.ledger.plan.now (state_now t) (Ask space block)) space a.spills a.makes,
  )

  -- the Call of a copy that is Out; it was so before the Ask
  pub call_legal : (t u : Table D S g h) (space block : ℕ) → Asked t u space block → is_in_state is_out ((state_now u).copies space block) ≡ true → May u.holding.ledger.plan.now (state_now u) (Call space block)
  call_legal t u space block a out =
      subst (λ (q : Plan). May q (state_now u) (Call space block)) (sym a.plan) (call_may t.holding.ledger.plan.now (state_now t) (state_now u) space block a.room out)

  -- what a call brings, as the copy was Out or not
  pub brings : (t u v : Table D S g h) (space block : ℕ) (out : Bool) (result : Result (Unit {0}) RunFault) → Asked t u space block → is_in_state is_out ((state_now u).copies space block) ≡ out
      → AskedGives t v space block (cond out (Call space block ∷ (Come space block ∷ [])) []) result
      → AskedGives t v space block (cond (is_in_state is_out ((state_now t).copies space block)) (Call space block ∷ (Come space block ∷ [])) []) result
  brings t u v space block out result a is gives =
      let same : out ≡ is_in_state is_out ((state_now t).copies space block) = sym is ∙ ap (is_in_state is_out) (same_copy t.holding.ledger.plan.now (state_now t) (state_now u) space block a.room) in
      subst (λ (b : Bool). AskedGives t v space block (cond b (Call space block ∷ (Come space block ∷ [])) []) result) same gives

  pub brings_none : (t u : Table D S g h) (space block : ℕ) → Asked t u space block → is_in_state is_out ((state_now u).copies space block) ≡ false
      → AskedGives t u space block (cond (is_in_state is_out ((state_now t).copies space block)) (Call space block ∷ (Come space block ∷ [])) []) (Ok tt)
  brings_none t u space block a is =
      brings t u u space block false (Ok tt) a is (a.spills, subst (λ (events : List Event). Ends t u (Ask space block ∷ events)) (sym (append-nil a.spills)) a.ends, a.makes)

  -- a copy that was there is Here then: it has come, or it wasn't Out
  pub came_here : (u v : Table D S g h) (space block : ℕ) → Has (state_now u) space block is_out → Enters u v (Call space block ∷ (Come space block ∷ [])) → Has (state_now v) space block is_here
  unfolding state_after
  came_here u v space block out q =
      let plan = u.holding.ledger.plan.now in
      let st = state_now u in
      let called = after plan st (Call space block) in
      let is : state_now v ≡ after plan called (Come space block) =
      state_grows u.holding.ledger v.holding.ledger (with_line (line_now u) (Call space block ∷ (Come space block ∷ []))) q.grows.holds.grows in
      let any : is_in_state is_any (called.copies space block) ≡ true =
      ap (is_in_state is_any) (at_copy_same st.copies space block (in_state Coming (st.copies space block)))
      ∙ in_state_there is_any Coming (st.copies space block) refl (passes_any is_out (st.copies space block) out) in
      ap (λ (x : State). is_in_state is_here (x.copies space block)) is
      ∙ ap (is_in_state is_here) (at_copy_same called.copies space block (in_state Here (called.copies space block)))
      ∙ in_state_there is_here Here (called.copies space block) refl any

  pub stayed_here : (t u : Table D S g h) (space block : ℕ) → Asked t u space block → is_in_state is_out ((state_now u).copies space block) ≡ false
      → Has (state_now t) space block is_any → Has (state_now u) space block is_here
  stayed_here t u space block a not_out any =
      let c = (state_now u).copies space block in
      let idle = a.room.idle space block (ap (is_in_state is_any) (same_copy t.holding.ledger.plan.now (state_now t) (state_now u) space block a.room) ∙ any) in
      ⊎_elim
      (λ (here : is_in_state is_here c ≡ true). here)
      (λ (away : is_in_state is_here c ≡ false). absurd (let h : true ≡ false = sym (idle_out c idle away) ∙ not_out in cc))
      (cases_Bool (is_in_state is_here c))

  -- the Put that is due, and the Rest behind it
  pub put_legal : (t u : Table D S g h) (block : ℕ) → Asked t u ((state_now t).homes block) block
      → AreDue t.holding.ledger.plan.now (state_now t) (Ask ((state_now t).homes block) block ∷ (Put block ∷ (Rest ∷ []))) → May u.holding.ledger.plan.now (state_now u) (Put block)
  put_legal t u block a due =
      subst (λ (q : Plan). May q (state_now u) (Put block)) (sym a.plan) (put_may t.holding.ledger.plan.now (state_now t) (state_now u) block a.room due).0.may

  pub put_then_rest : (t u v : Table D S g h) (block : ℕ) → Asked t u ((state_now t).homes block) block
      → AreDue t.holding.ledger.plan.now (state_now t) (Ask ((state_now t).homes block) block ∷ (Put block ∷ (Rest ∷ []))) → Ends u v (Put block ∷ []) → May v.holding.ledger.plan.now (state_now v) Rest
  put_then_rest t u v block a due q =
      let plan = t.holding.ledger.plan.now in
      let is : state_now v ≡ after plan (state_now u) (Put block) = state_one u v (Put block) q.enters ∙ ap (λ (p : Plan). after p (state_now u) (Put block)) a.plan in
      subst (λ (p : Plan). May p (state_now v) Rest) (sym (plan_one u v (Put block ∷ []) q.enters ∙ a.plan))
      (put_rests plan (state_now u) (state_now v) ((state_now t).homes block) block (put_may plan (state_now t) (state_now u) block a.room due).0 is (v.settled.idle (q.enters.cause ∙ q.none)))

  pub put_ends : (t u v w : Table D S g h) (block : ℕ) → Asked t u ((state_now t).homes block) block
      → AreDue t.holding.ledger.plan.now (state_now t) (Ask ((state_now t).homes block) block ∷ (Put block ∷ (Rest ∷ []))) → Ends u v (Put block ∷ []) → Enters v w (Rest ∷ [])
      → AskedGives t w ((state_now t).homes block) block (Put block ∷ (Rest ∷ [])) (Ok tt)
  put_ends t u v w block a due q rest =
      let plan = u.holding.ledger.plan.now in
      let next : AreDue plan (state_now u) (Put block ∷ (Rest ∷ [])) =
      subst (λ (p : Plan). AreDue p (state_now u) (Put block ∷ (Rest ∷ []))) (sym a.plan) (put_may t.holding.ledger.plan.now (state_now t) (state_now u) block a.room due).0.due in
      let line = line_kept u v (with_line (line_now u) (Put block ∷ [])) q.enters.grows.holds
      (line_more plan (state_now u) (state_now v) (Put block) Rest [] next (ap (λ (st : State). st.progress) (state_one u v (Put block) q.enters))) in
      asked_ends t u w ((state_now t).homes block) block (Put block ∷ (Rest ∷ [])) a (ends_then u v w (Put block ∷ []) (Rest ∷ []) q line rest).enters

  -- the Shift that is due, and the Rest behind it
  pub shift_legal : (t u : Table D S g h) (space block : ℕ) → Asked t u space block
      → AreDue t.holding.ledger.plan.now (state_now t) (Ask space block ∷ (Shift block space ∷ (Rest ∷ []))) → May u.holding.ledger.plan.now (state_now u) (Shift block space)
  shift_legal t u space block a due =
      subst (λ (q : Plan). May q (state_now u) (Shift block space)) (sym a.plan) (shift_may t.holding.ledger.plan.now (state_now t) (state_now u) space block a.room due).0.may

  pub shift_then_rest : (t u v : Table D S g h) (space block : ℕ) → Asked t u space block
      → AreDue t.holding.ledger.plan.now (state_now t) (Ask space block ∷ (Shift block space ∷ (Rest ∷ []))) → Ends u v (Shift block space ∷ []) → May v.holding.ledger.plan.now (state_now v) Rest
  shift_then_rest t u v space block a due q =
      let plan = t.holding.ledger.plan.now in
      let is : state_now v ≡ after plan (state_now u) (Shift block space) = state_one u v (Shift block space) q.enters ∙ ap (λ (p : Plan). after p (state_now u) (Shift block space)) a.plan in
      subst (λ (p : Plan). May p (state_now v) Rest) (sym (plan_one u v (Shift block space ∷ []) q.enters ∙ a.plan))
      (shift_rests plan (state_now u) (state_now v) space block (shift_may plan (state_now t) (state_now u) space block a.room due).0 is (v.settled.idle (q.enters.cause ∙ q.none)))

  pub shift_ends : (t u v w : Table D S g h) (space block : ℕ) → Asked t u space block
      → AreDue t.holding.ledger.plan.now (state_now t) (Ask space block ∷ (Shift block space ∷ (Rest ∷ []))) → Ends u v (Shift block space ∷ []) → Enters v w (Rest ∷ [])
      → AskedGives t w space block (Shift block space ∷ (Rest ∷ [])) (Ok tt)
  shift_ends t u v w space block a due q rest =
      let plan = u.holding.ledger.plan.now in
      let next : AreDue plan (state_now u) (Shift block space ∷ (Rest ∷ [])) =
      subst (λ (p : Plan). AreDue p (state_now u) (Shift block space ∷ (Rest ∷ []))) (sym a.plan) (shift_may t.holding.ledger.plan.now (state_now t) (state_now u) space block a.room due).0.due in
      let line = line_kept u v (with_line (line_now u) (Shift block space ∷ [])) q.enters.grows.holds
      (line_more plan (state_now u) (state_now v) (Shift block space) Rest [] next (ap (λ (st : State). st.progress) (state_one u v (Shift block space) q.enters))) in
      asked_ends t u w space block (Shift block space ∷ (Rest ∷ [])) a (ends_then u v w (Shift block space ∷ []) (Rest ∷ []) q line rest).enters
