-- What is legal at the end of a region: an Ask for a stale block, the Free of a copy elsewhere, the Close.
use Rattle.std.proofs.Common.{◌≡◌, ℕ, Bool, true, false, ◌&&◌, Some, None, refl, ap, sym, ◌∙◌, subst}
use Rattle.std.specs.Prelude.{not}
use Rattle.std.proofs.lemmas.Bool.{and_parts, not-true}
use Rattle.dd_back.specs.Backs.{AllCurrent}
use Rattle.dd_back.specs.Steps.{IsAtEnd}
use Rattle.dd_blocks.specs.declared.plan.Plan.{Plan}
use Rattle.dd_core.specs.Stale.{is_stale}
use Rattle.dd_machine.specs.declared.task_state.TaskState.{TaskState}
use Rattle.dd_machine.specs.declared.task_state.TaskState.TheVariants.{Waiting, Held, Running, Done}
use Rattle.dd_machine.specs.GoesOn.{IsQuiet}
use Rattle.dd_machine.specs.Legal.{AllDone, MayAsk, MayClose, MayFree}
use Rattle.dd_machine.specs.Needed.{is_current}
use Rattle.dd_machine.specs.Sound.{IsSound}
use Rattle.dd_machine.specs.States.{State}
use Rattle.dd_machine.specs.Tests.{Has, is_active, is_any, is_in_state, is_running}
use Rattle.dd_back.proofs.HomingLemmas.{Keeps}
use Rattle.dd_table.proofs.IdleLemmas.{AreIdle}
use Rattle.laws_of_limits.proofs.PinsKept.{out_or_in}
use Rattle.laws_of_progress.proofs.ReservedKept.{done_calm}

same_some : (x y : ℕ) → Some x ≡ Some y → x ≡ y
same_some x y e = cc

-- whatever region is open, its tasks are done
pub all_done : (plan : Plan) (st : State) → IsAtEnd plan st → (r : ℕ) → st.region ≡ Some r → AllDone plan st r
all_done plan st e r is = subst (AllDone plan st) (same_some e.region r (sym e.open_is ∙ is)) e.done

pub end_kept : (plan : Plan) (st new : State) → Keeps plan st new → IsAtEnd plan st → IsAtEnd plan new
end_kept plan st new k e = record {
  region = e.region;
  open_is = k.region ∙ e.open_is;
  done = λ t of. ap (λ (f : ℕ → TaskState). f t) k.tasks ∙ e.done t of;
}

no_active : (s : TaskState) → is_active s ≡ false → is_running s ≡ false
no_active Waiting off = refl
no_active Held off = refl
no_active (Running w) off = off
no_active Done off = refl

-- nothing is under way
pub quiet_end : (plan : Plan) (st : State) → IsSound plan st → IsAtEnd plan st → AreIdle st.copies → IsQuiet st
quiet_end plan st sound e idle = record {
  tasks = λ t. no_active (st.tasks t) (done_calm plan st sound (all_done plan st e) t);
  copies = idle;
}

-- what a stale block has
pub stale_parts : (plan : Plan) (st : State) (block : ℕ) → is_stale plan st block ≡ true → Has st (st.homes block) block is_any × (is_current plan st (st.homes block) block ≡ false)
stale_parts plan st block is =
    let p = and_parts (is_in_state is_any (st.copies (st.homes block) block)) (not (is_current plan st (st.homes block) block)) is in
    (p.0, not-true (is_current plan st (st.homes block) block) p.1)

-- a copy at home that isn't stale is current
pub fresh_current : (plan : Plan) (st : State) (block : ℕ) → is_stale plan st block ≡ false → Has st (st.homes block) block is_any → is_current plan st (st.homes block) block ≡ true
fresh_current plan st block fresh any = by (is_current plan st (st.homes block) block) (ap (λ (t : Bool). t && not (is_current plan st (st.homes block) block)) (sym any) ∙ fresh)
  where
    by : (now : Bool) → (true && not now) ≡ false → now ≡ true
    by true is = refl
    by false is = absurd (let e : true ≡ false = is in cc)

pub ask_may : (plan : Plan) (st : State) (block : ℕ) → IsSound plan st → IsAtEnd plan st → st.pin ≡ None → is_stale plan st block ≡ true → MayAsk plan st (st.homes block) block
ask_may plan st block sound e no_pin stale =
    let p = stale_parts plan st block stale in
    let known = sound.progress.copy_known (st.homes block) block p.0 in
    record {
      space_is = known.0;
      block_is = known.1;
      no_pin = no_pin;
      due = λ out. out_or_in out e.open_is;
      all_done = all_done plan st e;
      home = λ q q_is. refl;
      there = λ q q_is. p.0;
      stale = λ q q_is. p.1;
    }

pub free_may : (plan : Plan) (st : State) (space block : ℕ) → IsSound plan st → IsAtEnd plan st → st.pin ≡ None → AreIdle st.copies → AllCurrent plan st
    → Has st space block is_any → (st.homes block ≡ space → ⊥) → MayFree plan st space block
free_may plan st space block sound e no_pin idle current any away =
    let known = sound.progress.copy_known space block any in
    let home = sound.progress.copy_home e.region space block e.open_is any in
    record {
      space_is = known.0;
      block_is = known.1;
      idle = idle space block any;
      due = λ out. out_or_in out e.open_is;
      at_home = λ out. out_or_in out e.open_is;
      all_done = all_done plan st e;
      no_pin = λ q q_is. no_pin;
      elsewhere = λ q q_is. away;
      home_there = λ q q_is. home;
      home_current = λ q q_is. fresh_current plan st block (current block known.1) home;
    }

pub close_may : (plan : Plan) (st : State) (region : ℕ) → IsSound plan st → IsAtEnd plan st → st.pin ≡ None → AreIdle st.copies → AllCurrent plan st
    → ((s b : ℕ) → Has st s b is_any → st.homes b ≡ s) → st.region ≡ Some region → MayClose plan st region
close_may plan st region sound e no_pin idle current at_home open_is = record {
  open_is = open_is;
  all_done = all_done plan st e region open_is;
  no_pin = no_pin;
  idle = idle;
  at_home = at_home;
  current = λ s b any.
      let known = sound.progress.copy_known s b any in
      let same = at_home s b any in
      let home : Has st (st.homes b) b is_any = subst (λ (x : ℕ). Has st x b is_any) (sym same) any in
      subst (λ (x : ℕ). is_current plan st x b ≡ true) same (fresh_current plan st b (current b known.1) home);
}
