-- The events that leave nothing under way with a copy, and put none out of memory.
use Rattle.std.proofs.Common.{◌≡◌, ◌⊎◌, ℕ, zero, suc, true, false, List, Option, Some, None, refl, sym, ap, ◌∙◌, subst, inl, inr, ⊎_elim}
use Rattle.dd_blocks.specs.declared.plan.Plan.{Plan}
use Rattle.dd_core.specs.Finals.{is_final}
use Rattle.dd_holding.specs.Carried.{carries}
use Rattle.dd_holding.specs.Quiet.{is_quiet}
use Rattle.dd_machine.specs.declared.copy_state.CopyState.{CopyState}
use Rattle.dd_machine.specs.declared.copy_state.CopyState.TheVariants.{Here, Leaving, Out, Coming, Lent}
use Rattle.dd_machine.specs.declared.event.Event.{Event}
use Rattle.dd_machine.specs.declared.event.Event.TheVariants.{Ask, Rest, Put, Begin, Hold, Make, Claim, Finish, Close}
use Rattle.dd_machine.specs.Effects.{after, after_copy, fresh, given_back}
use Rattle.dd_machine.specs.Legal.{MayRest}
use Rattle.dd_machine.specs.Runs.{is_pick}
use Rattle.dd_machine.specs.States as states
use Rattle.dd_machine.specs.States.{State, at_copy, blank}
use Rattle.dd_machine.specs.Tests.{Has, is_idle, is_in_state, is_out}
use Rattle.dd_machine.specs.Words.{place}
use Rattle.dd_machine.proofs.ChangesLemmas.{at_copy_tells}
use Rattle.dd_machine.proofs.TestsLemmas.{any_finished, passed_at, passed_copied, rested_at, state_finished}
use Rattle.dd_table.specs.Quiet.{is_still}
use Rattle.dd_table.proofs.IdleLemmas.{AreIdle, IsIdleCopy, idle_at, idle_copied}

-- where nothing is under way, nothing is after the event, and a copy is Out only where it was
pub record Calms (plan : Plan) (st : State) (event : Event) : Type 0 where
  pub idle : AreIdle st.copies → AreIdle (after plan st event).copies
  pub outs : AreIdle st.copies → (s b : ℕ) → Has (after plan st event) s b is_out → Has st s b is_out

-- all copies are as they were
pub calm_same : (plan : Plan) (st : State) (event : Event) → (after plan st event).copies ≡ st.copies → Calms plan st event
calm_same plan st event same = record {
  idle = λ idle. subst AreIdle (sym same) idle;
  outs = λ idle s b out. subst (λ (copies : ℕ → ℕ → Option states.Copy). is_in_state is_out (copies s b) ≡ true) same out;
}

pub calm_still : (plan : Plan) (st : State) (event : Event) → is_still event ≡ true → Calms plan st event
calm_still plan st (Ask space block) is = calm_same plan st (Ask space block) refl
calm_still plan st (Begin region) is = calm_same plan st (Begin region) refl
calm_still plan st (Hold task) is = calm_same plan st (Hold task) refl
calm_still plan st _ is = absurd (let e : false ≡ true = is in cc)

-- such an event is one of those that note
pub still_quiet : (event : Event) → is_still event ≡ true → is_quiet event ≡ true
still_quiet (Ask space block) is = refl
still_quiet (Begin region) is = refl
still_quiet (Hold task) is = refl
still_quiet _ is = absurd (let e : false ≡ true = is in cc)

pub still_kind : (event : Event) → is_still event ≡ true → is_final event ≡ false
still_kind (Ask space block) is = refl
still_kind (Begin region) is = refl
still_kind (Hold task) is = refl
still_kind _ is = absurd (let e : false ≡ true = is in cc)

pub still_no_pick : (event : Event) → is_still event ≡ true → is_pick event ≡ false
still_no_pick (Ask space block) is = refl
still_no_pick (Begin region) is = refl
still_no_pick (Hold task) is = refl
still_no_pick _ is = absurd (let e : false ≡ true = is in cc)

-- a space gets a copy in memory
calm_fresh : (plan : Plan) (st : State) (event : Event) (space block version : ℕ) → (after plan st event).copies ≡ at_copy st.copies space block (fresh plan block version) → Calms plan st event
calm_fresh plan st event space block version same = record {
  idle = λ idle. subst AreIdle (sym same) (idle_at st.copies space block (fresh plan block version) idle (λ there. refl));
  outs = λ idle s b out. passed_at is_out st.copies space block (fresh plan block version) (λ is. absurd (let e : false ≡ true = is in cc)) s b
      (subst (λ (copies : ℕ → ℕ → Option states.Copy). is_in_state is_out (copies s b) ≡ true) same out);
}

pub calm_put : (plan : Plan) (st : State) (block : ℕ) → Calms plan st (Put block)
calm_put plan st block = calm_fresh plan st (Put block) (st.homes block) block 0 refl

pub calm_make : (plan : Plan) (st : State) (task block : ℕ) → Calms plan st (Make task block)
calm_make plan st task block = calm_fresh plan st (Make task block) (place plan task) block blank refl

-- a task begins, or ends; the pin is given up; a region ends
pub calm_claim : (plan : Plan) (st : State) (task worker : ℕ) → Calms plan st (Claim task worker)
calm_claim plan st task worker = calm_same plan st (Claim task worker) refl

pub calm_close : (plan : Plan) (st : State) (region : ℕ) → Calms plan st (Close region)
calm_close plan st region = calm_same plan st (Close region) refl

pub calm_rest : (plan : Plan) (st : State) → MayRest plan st → Calms plan st Rest
calm_rest plan st may = calm_same plan st Rest (ap (λ (s : State). s.copies) (rested_at plan st may))

pub calm_finish : (plan : Plan) (st : State) (task : ℕ) → Calms plan st (Finish task)
calm_finish plan st task = record {
  idle = λ idle s b there. state_finished plan st task s b is_idle ∙ idle s b (sym (any_finished plan st task s b) ∙ there);
  outs = λ idle s b out. sym (state_finished plan st task s b is_out) ∙ out;
}

-- a copy that is idle and given back is Out only where it was
given_out : (c : Option states.Copy) → IsIdleCopy c → is_in_state is_out (given_back c) ≡ true → is_in_state is_out c ≡ true
given_out None idle out = out
given_out (Some c) idle out = of_state c.state c.versions (idle refl) out
  where
    of_state : (s : CopyState) (versions : List ℕ) → is_idle s ≡ true → is_in_state is_out (given_back (Some (record { state = s; versions = versions }))) ≡ true → is_out s ≡ true
    of_state Here versions is out = out
    of_state Leaving versions is out = out
    of_state Out versions is out = refl
    of_state Coming versions is out = out
    of_state (Lent t) versions is out = absurd (let e : false ≡ true = is in cc)

-- what carries elements changes copies in one way, for a task and for the write-back
pub carried_is : (plan : Plan) (st : State) (task block source count : ℕ) → (after plan st (carries task block source count)).copies ≡ (after_copy plan st task block source count).copies
carried_is plan st zero block source count = refl
carried_is plan st (suc t) block source count = refl

-- elements are copied from a copy that isn't lent
pub calm_carried : (plan : Plan) (st : State) (task block source count : ℕ) → Calms plan st (carries task block source count)
calm_carried plan st task block source count = record {
  idle = λ idle. subst AreIdle (sym (carried_is plan st task block source count)) (idle_copied plan st task block source count idle);
  outs = λ idle s b out. passed_copied plan st task block source count is_out (given_out (st.copies source block) (idle source block)) s b
      (subst (λ (copies : ℕ → ℕ → Option states.Copy). is_in_state is_out (copies s b) ≡ true) (carried_is plan st task block source count) out);
}

-- and no event of these is a Pick
pub carries_no_pick : (task block source count : ℕ) → is_pick (carries task block source count) ≡ false
carries_no_pick zero block source count = refl
carries_no_pick (suc t) block source count = refl

-- a copy that was changed twice, or another
pub twice_tells : (copies : ℕ → ℕ → Option states.Copy) (space block : ℕ) (first second : Option states.Copy) (s b : ℕ)
    → ((s ≡ space) × (b ≡ block) × (at_copy (at_copy copies space block first) space block second s b ≡ second))
    ⊎ ((s ≡ space → b ≡ block → ⊥) × (at_copy (at_copy copies space block first) space block second s b ≡ copies s b))
twice_tells copies space block first second s b =
    let inner = at_copy copies space block first in ⊎_elim
    (λ (e : (s ≡ space) × (b ≡ block) × (at_copy inner space block second s b ≡ second)). inl e)
    (λ (e : (s ≡ space → b ≡ block → ⊥) × (at_copy inner space block second s b ≡ inner s b)). ⊎_elim
    (λ (f : (s ≡ space) × (b ≡ block) × (inner s b ≡ first)). absurd (e.0 f.0 f.1))
    (λ (f : (s ≡ space → b ≡ block → ⊥) × (inner s b ≡ copies s b)). inr (e.0, e.1 ∙ f.1))
    (at_copy_tells copies space block first s b))
    (at_copy_tells inner space block second s b)
