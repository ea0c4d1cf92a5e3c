-- Blocks that are brought to their homes leave homes and copies where they are.
use Rattle.std.proofs.Common.{◌≡◌, ℕ, Bool, true, false, ◌&&◌, ◌||◌, cond, List, [], ◌∷◌, map, Option, Some, None, refl, ap, sym, ◌∙◌, subst}
use Rattle.std.specs.Prelude.{Contains}
use Rattle.std.specs.List.{filter, flat_map, fold, list_all, range_with_len}
use Rattle.std.proofs.lemmas.Bool.{and_parts}
use Rattle.dd_blocks.specs.declared.plan.Plan.{Plan}
use Rattle.dd_blocks.specs.Elements.{Element}
use Rattle.dd_blocks.specs.Grids.{element_count}
use Rattle.dd_blocks.specs.Numbered.{array_row}
use Rattle.dd_core.specs.Lines.{with_line}
use Rattle.dd_ledger.proofs.GrowsLemmas.{state_grows}
use Rattle.dd_machine.specs.declared.copy_state.CopyState.{CopyState}
use Rattle.dd_machine.specs.declared.copy_state.CopyState.TheVariants as state
use Rattle.dd_machine.specs.declared.event.Event.{Event}
use Rattle.dd_machine.specs.declared.event.Event.TheVariants.{Ask, Rest, Put, Shift, Free, Begin, Hold, Pick, Gone, Make, Call, Come, Lend, Copy, Claim, Finish, Back, Close}
use Rattle.dd_machine.specs.Effects.{after, after_rest, in_state}
use Rattle.dd_machine.specs.Made.{pin_after}
use Rattle.dd_machine.specs.Owed.{blocks_of}
use Rattle.dd_machine.specs.Runs.{state_after}
use Rattle.dd_machine.specs.States as states
use Rattle.dd_machine.specs.States.{State}
use Rattle.dd_machine.specs.Tests.{Has, is_any, is_in_state}
use Rattle.dd_machine.proofs.TestsLemmas.{any_in_state, same_at}
use Rattle.dd_meaning.specs.Values.{value_at}
use Rattle.dd_print.specs.Asks.{bring_events, bring_one}
use Rattle.dd_print.specs.Held.{values_now}
use Rattle.dd_statements.specs.Follows.{Adds, AreOrdered, IsThere, is_owed, is_swap}
use Rattle.dd_statements.proofs.StateLemmas.{homes_after}
use Rattle.dd_statements.proofs.WithinLemmas.{changed, plan_kept}
use Rattle.dd_store.specs.declared.store.Slot.{Ghosts as SlotGhosts}
use Rattle.dd_store.specs.declared.store.Store.{Ghosts}
use Rattle.dd_table.specs.declared.table.Table.{Table}
use Rattle.dd_table.specs.Tables.{state_now}

-- the event is one of those that bring a block
is_bring : Event → Bool
is_bring (Ask space block) = true
is_bring Rest = true
is_bring _ = false

pub AreBrings : List Event → Type 0
AreBrings events = list_all is_bring events ≡ true

pub are_none : AreBrings []
unfolding AreBrings
are_none = refl

-- of some numbered blocks
pub are_brings : (st : State) (at : ℕ → ℕ) (numbers : List ℕ) → AreBrings (flat_map (λ j. bring_one st (at j)) numbers)
unfolding AreBrings is_bring
are_brings st at [] = refl
are_brings st at (n ∷ ns) = are_brings st at ns

-- homes stay, and the pin is given up
pub homes_stay : (homes : ℕ → ℕ) (events : List Event) → AreBrings events → fold homes_after homes events ≡ homes
unfolding AreBrings is_bring
homes_stay homes [] are = refl
homes_stay homes (Ask space block ∷ events) are = homes_stay homes events are
homes_stay homes (Rest ∷ events) are = homes_stay homes events are
homes_stay homes (Put block ∷ events) are = absurd (let e : false ≡ true = are in cc)
homes_stay homes (Shift block space ∷ events) are = absurd (let e : false ≡ true = are in cc)
homes_stay homes (Free space block ∷ events) are = absurd (let e : false ≡ true = are in cc)
homes_stay homes (Begin region ∷ events) are = absurd (let e : false ≡ true = are in cc)
homes_stay homes (Hold task ∷ events) are = absurd (let e : false ≡ true = are in cc)
homes_stay homes (Pick space block ∷ events) are = absurd (let e : false ≡ true = are in cc)
homes_stay homes (Gone space block ∷ events) are = absurd (let e : false ≡ true = are in cc)
homes_stay homes (Make task block ∷ events) are = absurd (let e : false ≡ true = are in cc)
homes_stay homes (Call space block ∷ events) are = absurd (let e : false ≡ true = are in cc)
homes_stay homes (Come space block ∷ events) are = absurd (let e : false ≡ true = are in cc)
homes_stay homes (Lend task block source ∷ events) are = absurd (let e : false ≡ true = are in cc)
homes_stay homes (Copy task block source count ∷ events) are = absurd (let e : false ≡ true = are in cc)
homes_stay homes (Claim task worker ∷ events) are = absurd (let e : false ≡ true = are in cc)
homes_stay homes (Finish task ∷ events) are = absurd (let e : false ≡ true = are in cc)
homes_stay homes (Back block source count ∷ events) are = absurd (let e : false ≡ true = are in cc)
homes_stay homes (Close region ∷ events) are = absurd (let e : false ≡ true = are in cc)

pub pin_rests : (st : State) (blocks : List ℕ) → fold pin_after None (bring_events st blocks) ≡ None
pin_rests st [] = refl
pin_rests st (b ∷ bs) = pin_rests st bs

-- the same copies stand
abbrev SameAny : State → State → Type 0
SameAny st new = (s b : ℕ) → is_in_state is_any (new.copies s b) ≡ is_in_state is_any (st.copies s b)

moved_any : (st : State) (space block : ℕ) (new : CopyState) (s b : ℕ) → is_in_state is_any (states.at_copy st.copies space block (in_state new (st.copies space block)) s b) ≡ is_in_state is_any (st.copies s b)
moved_any st space block new s b = same_at (is_in_state is_any) st.copies space block (in_state new (st.copies space block)) (any_in_state new (st.copies space block)) s b

any_one : (plan : Plan) (st : State) (event : Event) → (is_owed event || is_swap event) ≡ true → AreBrings (filter is_owed (event ∷ [])) → SameAny st (after plan st event)
unfolding AreBrings is_bring
any_one plan st (Ask space block) is are = λ s b. refl
any_one plan st Rest is are = by st.pin
  where
    by : (p : Option (ℕ × ℕ)) → SameAny st (after_rest plan st p)
    by None = λ s b. refl
    by (Some (space, block)) = λ s b. refl
any_one plan st (Put block) is are = absurd (let e : false ≡ true = are in cc)
any_one plan st (Shift block space) is are = absurd (let e : false ≡ true = are in cc)
any_one plan st (Free space block) is are = absurd (let e : false ≡ true = are in cc)
any_one plan st (Pick space block) is are = moved_any st space block state.Leaving
any_one plan st (Gone space block) is are = moved_any st space block state.Out
any_one plan st (Call space block) is are = moved_any st space block state.Coming
any_one plan st (Come space block) is are = moved_any st space block state.Here
any_one plan st (Begin region) is are = absurd (let e : false ≡ true = is in cc)
any_one plan st (Hold task) is are = absurd (let e : false ≡ true = is in cc)
any_one plan st (Make task block) is are = absurd (let e : false ≡ true = is in cc)
any_one plan st (Lend task block source) is are = absurd (let e : false ≡ true = is in cc)
any_one plan st (Copy task block source count) is are = absurd (let e : false ≡ true = is in cc)
any_one plan st (Claim task worker) is are = absurd (let e : false ≡ true = is in cc)
any_one plan st (Finish task) is are = absurd (let e : false ≡ true = is in cc)
any_one plan st (Back block source count) is are = absurd (let e : false ≡ true = is in cc)
any_one plan st (Close region) is are = absurd (let e : false ≡ true = is in cc)

brings_parts : (event : Event) (events : List Event) → AreBrings (filter is_owed (event ∷ events)) → AreBrings (filter is_owed (event ∷ [])) × AreBrings (filter is_owed events)
unfolding AreBrings
brings_parts event events are = by (is_owed event) are
  where
    by : (o : Bool) → list_all is_bring (cond o (event ∷ filter is_owed events) (filter is_owed events)) ≡ true
        → (list_all is_bring (cond o (event ∷ []) []) ≡ true) × (list_all is_bring (filter is_owed events) ≡ true)
    by true is = let p = and_parts (is_bring event) (list_all is_bring (filter is_owed events)) is in (ap (λ (x : Bool). x && true) p.0, p.1)
    by false is = (refl, is)

any_all : (plan : Plan) (st : State) (line : ℕ) (events : List Event) → AreOrdered events → AreBrings (filter is_owed events) → SameAny st (state_after plan st (with_line line events))
unfolding state_after
any_all plan st line [] are brings = λ s b. refl
any_all plan st line (event ∷ events) are brings =
    let p = and_parts (is_owed event || is_swap event) (list_all (λ e. is_owed e || is_swap e) events) are in
    let q = brings_parts event events brings in
    λ s b. any_all plan (after plan st event) line events p.1 q.1 s b ∙ any_one plan st event p.0 q.0 s b

module _ {D S : Type 0} {g : Ghosts D S} {h : SlotGhosts S} where
  any_kept : (t u : Table D S g h) (line : ℕ) (events : List Event) → Adds t u line events → AreBrings events → SameAny (state_now t) (state_now u)
  any_kept t u line events p are =
      subst (SameAny (state_now t)) (sym (state_grows t.holding.ledger u.holding.ledger (with_line line p.added) p.grows.holds.grows))
      (any_all t.holding.ledger.plan.now (state_now t) line p.added p.ordered (subst AreBrings (sym p.owed) are))

  pub homes_kept : (t u : Table D S g h) (line : ℕ) (events : List Event) → Adds t u line events → AreBrings events → (state_now u).homes ≡ (state_now t).homes
  homes_kept t u line events p are = (changed t u line events p).homes ∙ homes_stay (state_now t).homes events are

  pub home_kept : (t u : Table D S g h) (line : ℕ) (events : List Event) (block : ℕ) → Adds t u line events → AreBrings events → Has (state_now t) ((state_now t).homes block) block is_any
      → Has (state_now u) ((state_now u).homes block) block is_any
  home_kept t u line events block p are any =
      ap (λ (f : ℕ → ℕ). is_in_state is_any ((state_now u).copies (f block) block)) (homes_kept t u line events p are)
      ∙ any_kept t u line events p are ((state_now t).homes block) block ∙ any

  pub there_kept : (t u : Table D S g h) (line : ℕ) (events : List Event) (array : ℕ) → Adds t u line events → AreBrings events → IsThere t.holding.ledger.plan.now (state_now t) array
      → IsThere u.holding.ledger.plan.now (state_now u) array
  there_kept t u line events array p are there = λ block has.
      home_kept t u line events block p are (there block (subst (λ (q : Plan). Contains (blocks_of q array) block) (plan_kept t u line events p) has))

  -- and so do the current values
  pub values_kept : (t u : Table D S g h) (line : ℕ) (events : List Event) (array : ℕ) → Adds t u line events
      → values_now u.holding.ledger.plan.now (state_now u) array ≡ values_now t.holding.ledger.plan.now (state_now t) array
  values_kept t u line events array p =
      ap (λ (q : Plan). values_now q (state_now u) array) (plan_kept t u line events p)
      ∙ ap (λ (f : Element → ℕ). map (λ i. value_at t.holding.ledger.plan.now (f (record { array = array; pos = i })) (record { array = array; pos = i })) (range_with_len 0 (element_count (array_row t.holding.ledger.plan.now array).grid)))
      (changed t u line events p).current
