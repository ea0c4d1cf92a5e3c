-- The copies are of the Plan, in an open region each beside one at the home, and so is the pinned one.
use Rattle.std.proofs.Common.{◌≡◌, ℕ, zero, suc, ◌≤◌, true, eqb, List, [], ◌∷◌, Option, Some, None, refl, ap, sym, ◌∙◌, subst, ⊎_elim, arith}
use Rattle.std.specs.List.{All}
use Rattle.std.proofs.lemmas.Bool.{eqb-true, or_cases}
use Rattle.std.proofs.lemmas.List.Elements.{All-get_or, All-head, All-tail}
use Rattle.dd_blocks.specs.declared.plan.Plan.{Plan}
use Rattle.dd_blocks.specs.declared.proc_row.ProcRow.{ProcRow}
use Rattle.dd_blocks.specs.Numbered.{IsNumberIn, no_task, proc_row, task_row}
use Rattle.dd_blocks.specs.WellFormed.{IsWellFormed, TaskNamesRows}
use Rattle.dd_machine.specs.declared.copy_state.CopyState.{CopyState}
use Rattle.dd_machine.specs.declared.copy_state.CopyState.TheVariants as state
use Rattle.dd_machine.specs.declared.event.Event.{Event}
use Rattle.dd_machine.specs.declared.event.Event.TheVariants.{Ask, Rest, Put, Shift, Free, Begin, Hold, Pick, Gone, Make, Call, Come, Lend, Copy, Claim, Finish, Back, Close}
use Rattle.dd_machine.specs.Effects.{after, fresh, in_state}
use Rattle.dd_machine.specs.Legal.{May}
use Rattle.dd_machine.specs.Made.{is_live}
use Rattle.dd_machine.specs.Owed.{made}
use Rattle.dd_machine.specs.Sound.{IsSound}
use Rattle.dd_machine.specs.States as states
use Rattle.dd_machine.specs.States.{State, at_copy}
use Rattle.dd_machine.specs.Tests.{Has, is_active, is_any, is_in_state}
use Rattle.dd_machine.specs.Words.{IsOneOf, blocks, has_number, place, spaces, tasks, touches}
use Rattle.dd_machine.proofs.ChangesLemmas.{at_copy_other, at_copy_tells}
use Rattle.dd_machine.proofs.TestsLemmas.{any_copied, any_finished, any_in_state, pair_same, passed_other, rested_at, same_at}
use Rattle.laws_of_limits.proofs.PinsKept.{out_or_in}
use Rattle.dd_machine.specs.SoundProgress.{SoundProgress}

all_has : (P : ℕ → Type 0) (xs : List ℕ) (n : ℕ) → All P xs → has_number xs n ≡ true → P n
all_has P [] n all has = absurd cc
all_has P (x ∷ xs) n all has = ⊎_elim
    (λ (e : eqb x n ≡ true). subst P (eqb-true x n e) (All-head P x xs all))
    (λ (e : has_number xs n ≡ true). all_has P xs n (All-tail P x xs all) e)
    (or_cases (eqb x n) (has_number xs n) has)

task_names : (plan : Plan) (t : ℕ) → IsWellFormed plan → IsOneOf (tasks plan) t → TaskNamesRows plan (task_row plan t)
task_names plan zero well is = let h : 1 ≤ 0 = is.0 in absurd (omega (arith, h))
task_names plan (suc k) well is = All-get_or (TaskNamesRows plan) plan.tasks k no_task (omega (arith, is.1)) well.names.tasks

proc_space : (plan : Plan) (q : ℕ) → IsWellFormed plan → IsNumberIn plan.procs q → IsOneOf (spaces plan) (proc_row plan q).space
proc_space plan zero well is = let h : 1 ≤ 0 = is.0 in absurd (omega (arith, h))
proc_space plan (suc k) well is = All-get_or (λ (p : ProcRow). IsNumberIn plan.spaces p.space) plan.procs k (record { name = []; space = 0 }) (omega (arith, is.1)) well.names.procs

-- a task is placed on a space of the Plan, and touches blocks of it
pub place_known : (plan : Plan) (t : ℕ) → IsWellFormed plan → IsOneOf (tasks plan) t → IsOneOf (spaces plan) (place plan t)
place_known plan t well is = proc_space plan (task_row plan t).proc well (task_names plan t well is).proc

pub touched_known : (plan : Plan) (t b : ℕ) → IsWellFormed plan → IsOneOf (tasks plan) t → touches plan t b ≡ true → IsOneOf (blocks plan) b
touched_known plan t b well is touched = all_has (IsNumberIn plan.blocks) (task_row plan t).blocks b (task_names plan t well is).blocks touched

abbrev Known : Plan → ℕ → ℕ → Type 0
Known plan s b = IsOneOf (spaces plan) s × IsOneOf (blocks plan) b

abbrev pub CopyKnown : Plan → State → Type 0
CopyKnown plan st = (s b : ℕ) → Has st s b is_any → Known plan s b

known_new : (plan : Plan) (copies : ℕ → ℕ → Option states.Copy) (space block : ℕ) (copy : Option states.Copy) → Known plan space block → ((s b : ℕ) → is_in_state is_any (copies s b) ≡ true → Known plan s b)
    → (s b : ℕ) → is_in_state is_any (at_copy copies space block copy s b) ≡ true → Known plan s b
known_new plan copies space block copy new old s b any = ⊎_elim
    (λ (e : (s ≡ space) × (b ≡ block) × (at_copy copies space block copy s b ≡ copy)). (subst (IsOneOf (spaces plan)) (sym e.0) new.0, subst (IsOneOf (blocks plan)) (sym e.1) new.1))
    (λ (e : (s ≡ space → b ≡ block → ⊥) × (at_copy copies space block copy s b ≡ copies s b)). old s b (ap (is_in_state is_any) (sym e.1) ∙ any))
    (at_copy_tells copies space block copy s b)

-- a copy in another state is there where it was
pub there_same : (copies : ℕ → ℕ → Option states.Copy) (space block : ℕ) (new : CopyState) (s b : ℕ) → is_in_state is_any (at_copy copies space block (in_state new (copies space block)) s b) ≡ is_in_state is_any (copies s b)
there_same copies space block new s b = same_at (is_in_state is_any) copies space block (in_state new (copies space block)) (any_in_state new (copies space block)) s b

known_state : (plan : Plan) (st : State) (space block : ℕ) (new : CopyState) → CopyKnown plan st → CopyKnown plan (record st { copies = at_copy st.copies space block (in_state new (st.copies space block)) })
known_state plan st space block new old s b any = old s b (sym (there_same st.copies space block new s b) ∙ any)

pub keeps_copy_known : (plan : Plan) (st : State) (event : Event) → IsWellFormed plan → IsSound plan st → SoundProgress plan st → May plan st event → CopyKnown plan (after plan st event)
keeps_copy_known plan st (Ask space block) well sound able may = able.copy_known
keeps_copy_known plan st Rest well sound able may = subst (CopyKnown plan) (sym (rested_at plan st may)) able.copy_known
keeps_copy_known plan st (Put block) well sound able may = known_new plan st.copies (st.homes block) block (fresh plan block 0) ((able.home_fits block may.block_is).0, may.block_is) able.copy_known
keeps_copy_known plan st (Shift block space) well sound able may =
    known_new plan (at_copy st.copies (st.homes block) block None) space block (in_state state.Here (st.copies (st.homes block) block)) (may.space_is, may.block_is)
    (λ s b any. able.copy_known s b (passed_other is_any st.copies (st.homes block) block None refl s b any))
keeps_copy_known plan st (Free space block) well sound able may = λ s b any. able.copy_known s b (passed_other is_any st.copies space block None refl s b any)
keeps_copy_known plan st (Begin r) well sound able may = able.copy_known
keeps_copy_known plan st (Close r) well sound able may = able.copy_known
keeps_copy_known plan st (Hold task) well sound able may = able.copy_known
keeps_copy_known plan st (Pick space block) well sound able may = known_state plan st space block state.Leaving able.copy_known
keeps_copy_known plan st (Gone space block) well sound able may = known_state plan st space block state.Out able.copy_known
keeps_copy_known plan st (Make task block) well sound able may =
    let o = sound.limits.active_open task (ap is_active may.held) in
    known_new plan st.copies (place plan task) block (fresh plan block states.blank) (place_known plan task well o.2.0, touched_known plan task block well o.2.0 may.touched) able.copy_known
keeps_copy_known plan st (Call space block) well sound able may = known_state plan st space block state.Coming able.copy_known
keeps_copy_known plan st (Come space block) well sound able may = known_state plan st space block state.Here able.copy_known
keeps_copy_known plan st (Lend task block source) well sound able may = known_state plan st source block (state.Lent task) able.copy_known
keeps_copy_known plan st (Copy task block source count) well sound able may = λ s b any. able.copy_known s b (sym (any_copied plan st task block source count s b) ∙ any)
keeps_copy_known plan st (Claim task worker) well sound able may = able.copy_known
keeps_copy_known plan st (Finish task) well sound able may = λ s b any. able.copy_known s b (sym (any_finished plan st task s b) ∙ any)
keeps_copy_known plan st (Back block source count) well sound able may = λ s b any. able.copy_known s b (sym (any_copied plan st 0 block source count s b) ∙ any)

-- ---- beside one at the home

abbrev pub CopyHome : State → Type 0
CopyHome st = (r s b : ℕ) → st.region ≡ Some r → Has st s b is_any → Has st (st.homes b) b is_any

-- a home that a touched block has
pub home_there : (plan : Plan) (st : State) (t b : ℕ) → IsSound plan st → is_active (st.tasks t) ≡ true → touches plan t b ≡ true → Has st (st.homes b) b is_any
home_there plan st t b sound on touched =
    let o = sound.limits.active_open t on in
    let live : is_live (made plan st.progress) b ≡ true = sound.lives.touched_live o.0 t b o.1 o.2 touched in
    sym (sound.lives.home_live b) ∙ live

home_state : (st : State) (space block : ℕ) (new : CopyState) → CopyHome st → CopyHome (record st { copies = at_copy st.copies space block (in_state new (st.copies space block)) })
home_state st space block new old r s b open_is any = there_same st.copies space block new (st.homes b) b ∙ old r s b open_is (sym (there_same st.copies space block new s b) ∙ any)

stays : (copies : ℕ → ℕ → Option states.Copy) (space block : ℕ) (copy : Option states.Copy) → is_in_state is_any copy ≡ true → (s b : ℕ) → is_in_state is_any (copies s b) ≡ true → is_in_state is_any (at_copy copies space block copy s b) ≡ true
stays copies space block copy new s b any = ⊎_elim
    (λ (e : (s ≡ space) × (b ≡ block) × (at_copy copies space block copy s b ≡ copy)). ap (is_in_state is_any) e.2 ∙ new)
    (λ (e : (s ≡ space → b ≡ block → ⊥) × (at_copy copies space block copy s b ≡ copies s b)). ap (is_in_state is_any) e.1 ∙ any)
    (at_copy_tells copies space block copy s b)

pub keeps_copy_home : (plan : Plan) (st : State) (event : Event) → IsSound plan st → SoundProgress plan st → May plan st event → CopyHome (after plan st event)
keeps_copy_home plan st (Ask space block) sound able may = able.copy_home
keeps_copy_home plan st Rest sound able may = subst CopyHome (sym (rested_at plan st may)) able.copy_home
keeps_copy_home plan st (Put block) sound able may = λ r s b open_is. out_or_in may.outside open_is
keeps_copy_home plan st (Shift block space) sound able may = λ r s b open_is. out_or_in may.outside open_is
keeps_copy_home plan st (Free space block) sound able may = λ r s b open_is any.
    let old = able.copy_home r s b open_is (passed_other is_any st.copies space block None refl s b any) in
    ap (is_in_state is_any) (at_copy_other st.copies space block None (st.homes b) b (λ same other. may.elsewhere r open_is (ap st.homes (sym other) ∙ same))) ∙ old
keeps_copy_home plan st (Begin region) sound able may = λ r s b open_is any. subst (λ (x : ℕ). Has st x b is_any) (sym (sound.lives.at_home may.outside s b any)) any
keeps_copy_home plan st (Close r) sound able may = λ q s b open_is. absurd cc
keeps_copy_home plan st (Hold task) sound able may = able.copy_home
keeps_copy_home plan st (Pick space block) sound able may = home_state st space block state.Leaving able.copy_home
keeps_copy_home plan st (Gone space block) sound able may = home_state st space block state.Out able.copy_home
keeps_copy_home plan st (Make task block) sound able may = λ r s b open_is any.
    stays st.copies (place plan task) block (fresh plan block states.blank) refl (st.homes b) b (⊎_elim
    (λ (e : (s ≡ place plan task) × (b ≡ block) × (at_copy st.copies (place plan task) block (fresh plan block states.blank) s b ≡ fresh plan block states.blank)).
    subst (λ (y : ℕ). Has st (st.homes y) y is_any) (sym e.1) (home_there plan st task block sound (ap is_active may.held) may.touched))
    (λ (e : (s ≡ place plan task → b ≡ block → ⊥) × (at_copy st.copies (place plan task) block (fresh plan block states.blank) s b ≡ st.copies s b)). able.copy_home r s b open_is (ap (is_in_state is_any) (sym e.1) ∙ any))
    (at_copy_tells st.copies (place plan task) block (fresh plan block states.blank) s b))
keeps_copy_home plan st (Call space block) sound able may = home_state st space block state.Coming able.copy_home
keeps_copy_home plan st (Come space block) sound able may = home_state st space block state.Here able.copy_home
keeps_copy_home plan st (Lend task block source) sound able may = home_state st source block (state.Lent task) able.copy_home
keeps_copy_home plan st (Copy task block source count) sound able may = λ r s b open_is any.
    any_copied plan st task block source count (st.homes b) b ∙ able.copy_home r s b open_is (sym (any_copied plan st task block source count s b) ∙ any)
keeps_copy_home plan st (Claim task worker) sound able may = able.copy_home
keeps_copy_home plan st (Finish task) sound able may = λ r s b open_is any. any_finished plan st task (st.homes b) b ∙ able.copy_home r s b open_is (sym (any_finished plan st task s b) ∙ any)
keeps_copy_home plan st (Back block source count) sound able may = λ r s b open_is any.
    any_copied plan st 0 block source count (st.homes b) b ∙ able.copy_home r s b open_is (sym (any_copied plan st 0 block source count s b) ∙ any)

-- ---- the pinned copy

abbrev pub PinThere : State → Type 0
PinThere st = (r s b : ℕ) → st.region ≡ Some r → st.pin ≡ Some (s, b) → Has st s b is_any

pin_state : (st : State) (space block : ℕ) (new : CopyState) → PinThere st → PinThere (record st { copies = at_copy st.copies space block (in_state new (st.copies space block)) })
pin_state st space block new old r s b open_is pin = there_same st.copies space block new s b ∙ old r s b open_is pin

pub keeps_pin_there : (plan : Plan) (st : State) (event : Event) → SoundProgress plan st → May plan st event → PinThere (after plan st event)
keeps_pin_there plan st (Ask space block) able may = λ r s b open_is pin.
    let p = pair_same space s block b pin in
    subst (λ (x : ℕ). Has st x b is_any) p.0 (subst (λ (y : ℕ). Has st space y is_any) p.1 (may.there r open_is))
keeps_pin_there plan st Rest able may = subst PinThere (sym (rested_at plan st may)) (λ r s b open_is pin. absurd cc)
keeps_pin_there plan st (Put block) able may = λ r s b open_is. out_or_in may.outside open_is
keeps_pin_there plan st (Shift block space) able may = λ r s b open_is. out_or_in may.outside open_is
keeps_pin_there plan st (Free space block) able may = λ r s b open_is pin. out_or_in (may.no_pin r open_is) pin
keeps_pin_there plan st (Begin region) able may = λ r s b open_is pin. out_or_in may.no_pin pin
keeps_pin_there plan st (Close r) able may = λ q s b open_is. absurd cc
keeps_pin_there plan st (Hold task) able may = able.pin_there
keeps_pin_there plan st (Pick space block) able may = pin_state st space block state.Leaving able.pin_there
keeps_pin_there plan st (Gone space block) able may = pin_state st space block state.Out able.pin_there
keeps_pin_there plan st (Make task block) able may = λ r s b open_is pin. stays st.copies (place plan task) block (fresh plan block states.blank) refl s b (able.pin_there r s b open_is pin)
keeps_pin_there plan st (Call space block) able may = pin_state st space block state.Coming able.pin_there
keeps_pin_there plan st (Come space block) able may = pin_state st space block state.Here able.pin_there
keeps_pin_there plan st (Lend task block source) able may = pin_state st source block (state.Lent task) able.pin_there
keeps_pin_there plan st (Copy task block source count) able may = λ r s b open_is pin. any_copied plan st task block source count s b ∙ able.pin_there r s b open_is pin
keeps_pin_there plan st (Claim task worker) able may = able.pin_there
keeps_pin_there plan st (Finish task) able may = λ r s b open_is pin. any_finished plan st task s b ∙ able.pin_there r s b open_is pin
keeps_pin_there plan st (Back block source count) able may = λ r s b open_is pin. any_copied plan st 0 block source count s b ∙ able.pin_there r s b open_is pin
