-- What is legal between two statements, where it is due.
use Rattle.std.proofs.Common.{◌≡◌, ℕ, true, false, List, ◌∷◌, Option, Some, None, refl, ap, sym, ◌∙◌, subst, ⊎_elim}
use Rattle.std.specs.Prelude.{is_some}
use Rattle.std.proofs.lemmas.Bool.{cases_Bool}
use Rattle.dd_blocks.specs.declared.plan.Plan.{Plan}
use Rattle.dd_core.specs.Due.{AreDue}
use Rattle.dd_machine.specs.declared.copy_state.CopyState.{CopyState}
use Rattle.dd_machine.specs.declared.copy_state.CopyState.TheVariants.{Leaving}
use Rattle.dd_machine.specs.declared.event.Event.{Event}
use Rattle.dd_machine.specs.declared.event.Event.TheVariants.{Ask, Free, Rest}
use Rattle.dd_machine.specs.Legal.{MayAsk, MayFree, MayRest}
use Rattle.dd_machine.specs.Sound.{IsSound}
use Rattle.dd_machine.specs.States as states
use Rattle.dd_machine.specs.States.{State}
use Rattle.dd_machine.specs.Tests.{Has, is_any, is_here, is_idle, is_in_state, is_leaving}
use Rattle.dd_machine.specs.Words.{IsOneOf, blocks, spaces}
use Rattle.dd_machine.proofs.TestsLemmas.{not_two, pair_same, passes_any}
use Rattle.dd_table.proofs.DueLemmas.{due_first}

not_open : {A : Type 0} (r : Option ℕ) (q : ℕ) → r ≡ None → r ≡ Some q → A
not_open r q none some = absurd (cc)

-- a block may be asked for; at its home
pub ask_legal : (plan : Plan) (st : State) (space block : ℕ) (events : List Event) → st.region ≡ None → st.pin ≡ None → IsOneOf (spaces plan) space → IsOneOf (blocks plan) block
    → AreDue plan st (Ask space block ∷ events) → MayAsk plan st space block
ask_legal plan st space block events none no_pin space_is block_is due = record {
  space_is = space_is;
  block_is = block_is;
  no_pin = no_pin;
  due = λ out. due_first plan st (Ask space block) events due;
  all_done = λ r r_is. not_open st.region r none r_is;
  home = λ r r_is. not_open st.region r none r_is;
  there = λ r r_is. not_open st.region r none r_is;
  stale = λ r r_is. not_open st.region r none r_is;
}

pub home_legal : (plan : Plan) (st : State) (block : ℕ) (events : List Event) → IsSound plan st → st.region ≡ None → st.pin ≡ None → IsOneOf (blocks plan) block
    → AreDue plan st (Ask (st.homes block) block ∷ events) → MayAsk plan st (st.homes block) block
home_legal plan st block events sound none no_pin is due = ask_legal plan st (st.homes block) block events none no_pin (sound.progress.home_fits block is).0 is due

-- a home copy may be freed
pub free_legal : (plan : Plan) (st : State) (block : ℕ) (events : List Event) → IsSound plan st → st.region ≡ None → st.pin ≡ None → Has st (st.homes block) block is_any
    → AreDue plan st (Free (st.homes block) block ∷ events) → MayFree plan st (st.homes block) block
free_legal plan st block events sound none no_pin any due =
    let known = sound.progress.copy_known (st.homes block) block any in
    record {
      space_is = known.0;
      block_is = known.1;
      idle = sound.lives.home_idle none no_pin (st.homes block) block any;
      due = λ out. due_first plan st (Free (st.homes block) block) events due;
      at_home = λ out. refl;
      all_done = λ r r_is. not_open st.region r none r_is;
      no_pin = λ r r_is. not_open st.region r none r_is;
      elsewhere = λ r r_is. not_open st.region r none r_is;
      home_there = λ r r_is. not_open st.region r none r_is;
      home_current = λ r r_is. not_open st.region r none r_is;
    }

leaving_idle : (s : CopyState) → is_leaving s ≡ true → is_idle s ≡ true → ⊥
leaving_idle Leaving a c = cc
leaving_idle _ a c = cc

not_leaving : (c : Option states.Copy) → (is_in_state is_any c ≡ true → is_in_state is_idle c ≡ true) → is_in_state is_leaving c ≡ false
not_leaving c idle = ⊎_elim
    (λ (on : is_in_state is_leaving c ≡ true). absurd (not_two is_leaving is_idle leaving_idle c on (idle (passes_any is_leaving c on))))
    (λ (off : is_in_state is_leaving c ≡ false). off)
    (cases_Bool (is_in_state is_leaving c))

-- a pin may be given up whose copy is Here, where nothing is under way
pub rest_legal : (plan : Plan) (st : State) (space block : ℕ) (events : List Event) → st.region ≡ None → st.pin ≡ Some (space, block) → Has st space block is_here
    → ((s b : ℕ) → Has st s b is_any → Has st s b is_idle) → AreDue plan st (Rest ∷ events) → MayRest plan st
rest_legal plan st space block events none pin here idle due = record {
  due = λ out. due_first plan st Rest events due;
  pinned = ap is_some pin;
  here = λ x y same. let e = pair_same space x block y (sym pin ∙ same) in subst (λ (z : ℕ). Has st z y is_here) e.0 (subst (λ (z : ℕ). Has st space z is_here) e.1 here);
  current = λ q x y q_is same. not_open st.region q none q_is;
  none_leaving = λ s c. not_leaving (st.copies s c) (idle s c);
}
