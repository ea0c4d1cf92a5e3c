-- What the write-back brings home, from a copy that is Here, or Out.
use Rattle.std.proofs.Common.{◌≡◌, ℕ, ◌<◌, Bool, true, false, cond, [], ◌∷◌, length, Option, Some, None, refl, sym, ap, ◌∙◌, subst, Result, Ok}
use Rattle.std.specs.Prelude.{is_some, nat_lt}
use Rattle.std.proofs.lemmas.Bool.{lt-ltb}
use Rattle.dd_blocks.specs.declared.plan.Plan.{Plan}
use Rattle.dd_blocks.specs.WellFormed.{IsWellFormed}
use Rattle.dd_holding.proofs.HereLemmas.{sound_now}
use Rattle.dd_machine.specs.declared.copy_state.CopyState.{CopyState}
use Rattle.dd_machine.specs.declared.copy_state.CopyState.TheVariants.{Here, Leaving, Out, Coming, Lent}
use Rattle.dd_machine.specs.declared.event.Event.TheVariants.{Lend, Rest}
use Rattle.dd_machine.specs.Legal.{May}
use Rattle.dd_machine.specs.Needed.{needed}
use Rattle.dd_machine.specs.States as states
use Rattle.dd_machine.specs.States.{State}
use Rattle.dd_machine.specs.Tests.{Has, is_here, is_here_or_lent, is_idle, is_in_state, is_out}
use Rattle.dd_machine.proofs.TestsLemmas.{passes_any}
use Rattle.dd_store.specs.declared.store.Slot.{Ghosts as SlotGhosts}
use Rattle.dd_store.specs.declared.store.Store.{Ghosts}
use Rattle.dd_table.specs.declared.fault.RunFault.{RunFault}
use Rattle.dd_table.specs.declared.table.Table.{Table}
use Rattle.dd_table.specs.Pulls.{back_of, first_pull, pull_events, pulled}
use Rattle.dd_table.specs.Tables.{Ends, Gives, IsLeft, state_now}
use Rattle.dd_table.proofs.DueLemmas.{left_due}
use Rattle.dd_table.proofs.GivesLemmas.{ends_none}

-- the first event, as the copy there is Out or not
pub lend_first : (plan : Plan) (st : State) (block source : ℕ) → is_in_state is_out (st.copies source block) ≡ true → May plan st (first_pull plan st block source) → May plan st (Lend 0 block source)
lend_first plan st block source out may = subst (λ (b : Bool). May plan st (cond b (Lend 0 block source) (back_of plan st block source))) out may

pub back_first : (plan : Plan) (st : State) (block source : ℕ) → is_in_state is_out (st.copies source block) ≡ false → May plan st (first_pull plan st block source) → May plan st (back_of plan st block source)
back_first plan st block source not_out may = subst (λ (b : Bool). May plan st (cond b (Lend 0 block source) (back_of plan st block source))) not_out may

-- a copy that gives, where nothing is under way and it isn't Out, is Here
gives_here : (c : Option states.Copy) → is_in_state (is_here_or_lent 0) c ≡ true → is_in_state is_idle c ≡ true → is_in_state is_out c ≡ false → is_in_state is_here c ≡ true
gives_here None gives idle not_out = gives
gives_here (Some c) gives idle not_out = of_state c.state gives idle not_out
  where
    of_state : (s : CopyState) → is_here_or_lent 0 s ≡ true → is_idle s ≡ true → is_out s ≡ false → is_here s ≡ true
    of_state Here gives idle not_out = refl
    of_state Leaving gives idle not_out = gives
    of_state Out gives idle not_out = gives
    of_state Coming gives idle not_out = gives
    of_state (Lent t) gives idle not_out = idle

module _ {D S : Type 0} {g : Ghosts D S} {h : SlotGhosts S} where
  pub back_here : (t : Table D S g h) (block source : ℕ) → t.cause ≡ None → is_in_state is_out ((state_now t).copies source block) ≡ false
      → May t.holding.ledger.plan.now (state_now t) (back_of t.holding.ledger.plan.now (state_now t) block source) → Has (state_now t) source block is_here
  back_here t block source none not_out may =
      let c = (state_now t).copies source block in
      gives_here c may.gives (t.settled.idle none source block (passes_any (is_here_or_lent 0) c may.gives)) not_out

  -- a region is open, so its Close is left
  open_left : (t : Table D S g h) → IsWellFormed t.holding.ledger.plan.now → is_some (state_now t).region ≡ true → IsLeft t
  open_left t well is = left_due t.holding.ledger.plan.now (state_now t) Rest (sound_now t.holding.ledger well) (λ outside. absurd (let k : false ≡ true = sym (ap (λ (r : Option ℕ). is_some r) outside) ∙ is in cc))

  pub lend_left : (t : Table D S g h) (block source : ℕ) → IsWellFormed t.holding.ledger.plan.now → May t.holding.ledger.plan.now (state_now t) (Lend 0 block source) → IsLeft t
  lend_left t block source well may = open_left t well may.asked.0

  pub back_left : (t : Table D S g h) (block source : ℕ) → IsWellFormed t.holding.ledger.plan.now → May t.holding.ledger.plan.now (state_now t) (back_of t.holding.ledger.plan.now (state_now t) block source) → IsLeft t
  back_left t block source well may = open_left t well may.asked.0

  -- and so of what the call gives
  pub lend_pulls : (t u : Table D S g h) (block source : ℕ) (result : Result (Unit {0}) RunFault) → is_in_state is_out ((state_now t).copies source block) ≡ true
      → Gives t u (Lend 0 block source ∷ (back_of t.holding.ledger.plan.now (state_now t) block source ∷ [])) result → Gives t u (pull_events t.holding.ledger.plan.now (state_now t) block source) result
  lend_pulls t u block source result out gives =
      let back = back_of t.holding.ledger.plan.now (state_now t) block source in
      subst (λ (b : Bool). Gives t u (cond b (Lend 0 block source ∷ (back ∷ [])) (back ∷ [])) result) (sym out) gives

  pub back_pulls : (t u : Table D S g h) (block source : ℕ) (result : Result (Unit {0}) RunFault) → is_in_state is_out ((state_now t).copies source block) ≡ false
      → Gives t u (back_of t.holding.ledger.plan.now (state_now t) block source ∷ []) result → Gives t u (pull_events t.holding.ledger.plan.now (state_now t) block source) result
  back_pulls t u block source result not_out gives =
      let back = back_of t.holding.ledger.plan.now (state_now t) block source in
      subst (λ (b : Bool). Gives t u (cond b (Lend 0 block source ∷ (back ∷ [])) (back ∷ [])) result) (sym not_out) gives

  -- nothing is needed; or something is
  pub pulls_none : (t : Table D S g h) (block source : ℕ) → t.cause ≡ None → length (needed t.holding.ledger.plan.now (state_now t) 0 block source) ≡ 0
      → Gives t t (pulled t.holding.ledger.plan.now (state_now t) block source) (Ok tt)
  pulls_none t block source none is =
      let events = pull_events t.holding.ledger.plan.now (state_now t) block source in
      subst (λ (n : ℕ). Ends t t (cond (nat_lt 0 n) events [])) (sym is) (ends_none t none)

  pub pulls_some : (t u : Table D S g h) (block source : ℕ) (result : Result (Unit {0}) RunFault) → 0 < length (needed t.holding.ledger.plan.now (state_now t) 0 block source)
      → Gives t u (pull_events t.holding.ledger.plan.now (state_now t) block source) result → Gives t u (pulled t.holding.ledger.plan.now (state_now t) block source) result
  pulls_some t u block source result some gives =
      let plan = t.holding.ledger.plan.now in
      let events = pull_events plan (state_now t) block source in
      subst (λ (b : Bool). Gives t u (cond b events []) result) (sym (lt-ltb 0 (length (needed plan (state_now t) 0 block source)) some)) gives
