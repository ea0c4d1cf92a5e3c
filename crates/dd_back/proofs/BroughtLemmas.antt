-- A block that was brought to its home: it is pinned there, and its copy is Here.
use Rattle.std.proofs.Common.{◌≡◌, ◌||◌, ℕ, ◌≤◌, Bool, true, false, cond, List, [], ◌∷◌, ◌++◌, Option, Some, refl, ap, sym, ◌∙◌, subst, ⊎_elim, arith, Ok, Err}
use Rattle.std.proofs.lemmas.List.{map-append}
use Rattle.std.proofs.lemmas.Bool.{cases_eq, or_right}
use Rattle.dd_back.specs.Backs.{AreHoming, Homes, StopsHoming}
use Rattle.dd_back.specs.Steps.{IsAtEnd, IsPinnedHome}
use Rattle.dd_blocks.specs.declared.plan.Plan.{Plan}
use Rattle.dd_core.specs.Lines.{with_line}
use Rattle.dd_core.specs.Stale.{is_stale}
use Rattle.dd_machine.specs.declared.copy_state.CopyState.TheVariants.{Coming, Here}
use Rattle.dd_machine.specs.declared.entry.Entry.{Entry}
use Rattle.dd_machine.specs.declared.event.Event.{Event}
use Rattle.dd_machine.specs.declared.event.Event.TheVariants.{Ask, Call, Come}
use Rattle.dd_machine.specs.Bytes.{is_pinned, load}
use Rattle.dd_machine.specs.Effects.{after, in_state}
use Rattle.dd_machine.specs.Runs.{state_after}
use Rattle.dd_machine.specs.States as states
use Rattle.dd_machine.specs.States.{State, at_copy}
use Rattle.dd_machine.specs.Tests.{Has, is_any, is_here, is_here_or_coming, is_in_state, is_out}
use Rattle.dd_machine.specs.Words.{limit}
use Rattle.dd_machine.proofs.ChangesLemmas.{at_copy_other}
use Rattle.dd_machine.proofs.RunsLemmas.{state_parts}
use Rattle.dd_store.specs.declared.store.Slot.{Ghosts as SlotGhosts}
use Rattle.dd_store.specs.declared.store.Store.{Ghosts}
use Rattle.dd_table.specs.declared.fault.RunFault.{RunFault}
use Rattle.dd_table.specs.declared.table.Table.{Table}
use Rattle.dd_table.specs.Spills.{BeginRoom, MakeRoom}
use Rattle.dd_table.specs.Tables.{line_now, state_now}
use Rattle.dd_table.proofs.AskedLemmas.{AskedGives}
use Rattle.dd_table.proofs.MayLemmas.{pinned_at}
use Rattle.dd_table.proofs.SpillsLemmas.{room_begins, room_low}
use Rattle.dd_back.proofs.EndLemmas.{end_kept, stale_parts}
use Rattle.dd_back.proofs.EnteredLemmas.{keeps_grown, state_grown, stops_homing}
use Rattle.dd_back.proofs.HomingLemmas.{Keeps, homing_both}
use Rattle.dd_back.proofs.PinnedLemmas.{load_le}

-- the spills that make room for a block bring it home, and leave the pin
spills_home : (plan : Plan) (st : State) (space : ℕ) (events : List Event) → BeginRoom plan st space events → AreHoming events
unfolding BeginRoom
spills_home plan st space [] room = refl
spills_home plan st space (first ∷ []) room = subst (λ (e : Event). AreHoming (e ∷ [])) (sym room.1.1) refl
spills_home plan st space (first ∷ (second ∷ more)) room =
    subst (λ (e : Event). AreHoming (e ∷ (second ∷ more))) (sym room.0.1.1)
    (subst (λ (e : Event). AreHoming (e ∷ more)) (sym room.0.1.2) (spills_home plan (after plan (after plan st first) second) space more room.1))

spills_pin : (plan : Plan) (st : State) (line space : ℕ) (events : List Event) → MakeRoom plan st space events → (state_after plan st (with_line line events)).pin ≡ st.pin
unfolding MakeRoom state_after
spills_pin plan st line space [] room = refl
spills_pin plan st line space (first ∷ []) room = absurd room
spills_pin plan st line space (first ∷ (second ∷ more)) room =
    let one : (after plan (after plan st first) second).pin ≡ st.pin =
    ap (λ (e : Event). (after plan (after plan st first) e).pin) room.0.1.2 ∙ ap (λ (e : Event). (after plan st e).pin) room.0.1.1 in
    spills_pin plan (after plan (after plan st first) second) line space more room.1 ∙ one

-- the copy that is called back is pinned, so the load is no larger
abbrev called : (ℕ → ℕ → Option states.Copy) → ℕ → ℕ → ℕ → ℕ → Option states.Copy
called copies space block =
    let coming = at_copy copies space block (in_state Coming (copies space block)) in at_copy coming space block (in_state Here (coming space block))

called_low : (plan : Plan) (st : State) (space block : ℕ) → st.pin ≡ Some (space, block) → load plan (record st { copies = called st.copies space block }) space ≤ load plan st space
called_low plan st space block pin = load_le plan st (called st.copies space block) space (λ b is. ⊎_elim
    (λ (e : b ≡ block). or_right (is_in_state is_here_or_coming (st.copies space b)) (is_pinned plan st space b) (ap (is_pinned plan st space) e ∙ pinned_at plan st space block pin))
    (λ (apart : b ≡ block → ⊥).
    let coming = at_copy st.copies space block (in_state Coming (st.copies space block)) in
    let same : called st.copies space block space b ≡ st.copies space b =
    at_copy_other coming space block (in_state Here (coming space block)) space b (λ _ e. apart e) ∙ at_copy_other st.copies space block (in_state Coming (st.copies space block)) space b (λ _ e. apart e) in
    ap (λ (c : Option states.Copy). is_in_state is_here_or_coming c || is_pinned plan st space b) (sym same) ∙ is)
    (cases_eq b block))

-- the Call and the Come behind the spills, or none
abbrev comes : ℕ → ℕ → Bool → List Event
comes space block out = cond out (Call space block ∷ (Come space block ∷ [])) []

comes_home : (space block : ℕ) (out : Bool) → AreHoming (comes space block out)
comes_home space block true = refl
comes_home space block false = refl

-- the pin, and the load, behind them
record IsPinnedLow (plan : Plan) (st : State) (space block : ℕ) : Type 0 where
  pub pin : st.pin ≡ Some (space, block)
  pub low : load plan st space ≤ limit plan space

comes_low : (plan : Plan) (st : State) (line space block : ℕ) (out : Bool) → IsPinnedLow plan st space block → IsPinnedLow plan (state_after plan st (with_line line (comes space block out))) space block
unfolding state_after
comes_low plan st line space block true p = record { pin = p.pin; low = (let le = called_low plan st space block p.pin in let low = p.low in omega (arith, le, low)) }
comes_low plan st line space block false p = p

asked_low : (plan : Plan) (st : State) (line space block : ℕ) (spills : List Event) (out : Bool) → MakeRoom plan (after plan st (Ask space block)) space spills
    → IsPinnedLow plan (state_after plan st (with_line line (Ask space block ∷ (spills ++ comes space block out)))) space block
unfolding state_after
asked_low plan st line space block spills out room =
    let mid = after plan st (Ask space block) in
    let made = state_after plan mid (with_line line spills) in
    let parts : state_after plan mid (with_line line (spills ++ comes space block out)) ≡ state_after plan made (with_line line (comes space block out)) =
    ap (state_after plan mid) (map-append (λ (e : Event). let entry : Entry = record { line = line; event = e } in entry) spills (comes space block out))
    ∙ state_parts plan mid (with_line line spills) (with_line line (comes space block out)) in
    subst (λ (x : State). IsPinnedLow plan x space block) (sym parts)
    (comes_low plan made line space block out (record { pin = spills_pin plan mid line space spills room; low = room_low plan mid line space spills room }))

module _ {D S : Type 0} {g : Ghosts D S} {h : SlotGhosts S} where
  pub record Brought (t m : Table D S g h) (block : ℕ) : Type 0 where
    pub homes : Homes t m
    pub pinned : IsPinnedHome t.holding.ledger.plan.now (state_now m) block

  -- what `bring` entered, by whether the copy was Out
  pub brought : (t m : Table D S g h) (block : ℕ) (out : Bool) → IsAtEnd t.holding.ledger.plan.now (state_now t) → AskedGives t m ((state_now t).homes block) block (comes ((state_now t).homes block) block out) (Ok tt)
      → Has (state_now m) ((state_now t).homes block) block is_here → Brought t m block
  brought t m block out e gives here =
      let plan = t.holding.ledger.plan.now in
      let home = (state_now t).homes block in
      let events = Ask home block ∷ (gives.0 ++ comes home block out) in
      let are : AreHoming events = homing_both gives.0 (comes home block out) (spills_home plan (after plan (state_now t) (Ask home block)) home gives.0 (room_begins plan (after plan (state_now t) (Ask home block)) home gives.0 gives.2)) (comes_home home block out) in
      let keeps : Keeps plan (state_now t) (state_now m) = keeps_grown t m events e are gives.1.enters.grows in
      let low : IsPinnedLow plan (state_now m) home block =
      subst (λ (x : State). IsPinnedLow plan x home block) (sym (state_grown t m (with_line (line_now t) events) gives.1.enters.grows)) (asked_low plan (state_now t) (line_now t) home block gives.0 out gives.2) in
      let same : home ≡ (state_now m).homes block = ap (λ (f : ℕ → ℕ). f block) (sym keeps.homes) in
      record {
        homes = record { events = events; homing = are; ends = gives.1 };
        pinned = record {
          at_end = end_kept plan (state_now t) (state_now m) keeps e;
          pin = subst (λ (s : ℕ). (state_now m).pin ≡ Some (s, block)) same low.pin;
          here = subst (λ (s : ℕ). Has (state_now m) s block is_here) same here;
          low = subst (λ (s : ℕ). load plan (state_now m) s ≤ limit plan s) same low.low;
        };
      }

  pub brought_stops : (t m : Table D S g h) (space block : ℕ) (out : Bool) (fault : RunFault) → AskedGives t m space block (comes space block out) (Err fault) → StopsHoming t m fault
  brought_stops t m space block out fault gives =
      stops_homing t m (Ask space block ∷ (gives.0 ++ comes space block out)) fault
      (homing_both gives.0 (comes space block out) (spills_home t.holding.ledger.plan.now (after t.holding.ledger.plan.now (state_now t) (Ask space block)) space gives.0 gives.2) (comes_home space block out)) gives.1

  -- the same, by the name that the home has in a call
  pub brought_now : (t m : Table D S g h) (home block : ℕ) → home ≡ (state_now t).homes block → IsAtEnd t.holding.ledger.plan.now (state_now t) → is_stale t.holding.ledger.plan.now (state_now t) block ≡ true
      → AskedGives t m home block (cond (is_in_state is_out ((state_now t).copies home block)) (Call home block ∷ (Come home block ∷ [])) []) (Ok tt)
      → (Has (state_now t) home block is_any → Has (state_now m) home block is_here) → Brought t m block
  brought_now t m home block same e stale gives here =
      let st = state_now t in
      let any = (stale_parts t.holding.ledger.plan.now st block stale).0 in
      brought t m block (is_in_state is_out (st.copies (st.homes block) block)) e
      (subst (λ (s : ℕ). AskedGives t m s block (comes s block (is_in_state is_out (st.copies s block))) (Ok tt)) same gives)
      (subst (λ (s : ℕ). Has st s block is_any → Has (state_now m) s block is_here) same here any)
