-- The orders list copies that are Here, and so are the blocks of tasks that are Running.
use Rattle.std.proofs.Common.{◌≡◌, ◌≢◌, ◌⊎◌, ℕ, ◌+◌, ◌-◌, Bool, true, false, cond, ◌&&◌, eqb, List, [], ◌∷◌, get_or, Option, Some, None, refl, ap, sym, ◌∙◌, subst, inl, inr, ⊎_elim, arith}
use Rattle.std.specs.Prelude.{filter, not, slice_get}
use Rattle.std.specs.List.{fold, last_or}
use Rattle.std.proofs.lemmas.Bool.{eq-eqb, eqb-true, not-true, or_cases, or_left, or_right}
use Rattle.std.specs.List.{list_any, range_with_len}
use Rattle.std.proofs.lemmas.Bool.{and_from}
use Rattle.std.proofs.lemmas.List.Folds.{list_any_at}
use Rattle.std.proofs.lemmas.List.FromFn.{get_or-range_with_len, length-range_with_len}
use Rattle.dd_machine.specs.Bytes.{is_pinned, is_used, order_policy, victim}
use Rattle.dd_machine.specs.Effects.{after_copy, copy_where, order_without}
use Rattle.dd_machine.specs.Needed.{is_needed, own_space}
use Rattle.dd_machine.specs.Tests.{is_active, is_coming, is_leaving, is_out, is_pin, is_running}
use Rattle.dd_machine.specs.Words.{element}
use Rattle.dd_machine.proofs.TestsLemmas.{in_state_there, leaving_here, not_two, out_here, passes_any, pin_of, rested_at, running_by, state_finished, state_where}
use Rattle.laws_of_limits.proofs.PinsKept.{out_or_in}
use Rattle.dd_machine.specs.Words.{has_number}
use Rattle.dd_recency.specs.declared.policy.Policy.{Policy}
use Rattle.dd_recency.specs.declared.policy.Policy.TheVariants.{Lru, Mru}
use Rattle.dd_recency.specs.Recency.{to_front, without}
use Rattle.dd_recency.specs.Victim.{unpinned, victim as chosen}
use Rattle.dd_blocks.specs.declared.plan.Plan.{Plan}
use Rattle.dd_blocks.specs.Numbered.{task_row}
use Rattle.dd_machine.specs.declared.copy_state.CopyState.{CopyState}
use Rattle.dd_machine.specs.declared.copy_state.CopyState.TheVariants as state
use Rattle.dd_machine.specs.declared.event.Event.{Event}
use Rattle.dd_machine.specs.declared.event.Event.TheVariants.{Ask, Rest, Put, Shift, Free, Begin, Hold, Pick, Gone, Make, Call, Come, Lend, Copy, Claim, Finish, Back, Close}
use Rattle.dd_machine.specs.declared.task_state.TaskState.{TaskState}
use Rattle.dd_machine.specs.declared.task_state.TaskState.TheVariants.{Waiting, Held, Running, Done}
use Rattle.dd_machine.specs.Effects.{after, fresh, given_back, in_state, order_front}
use Rattle.dd_machine.specs.Legal.{May}
use Rattle.dd_machine.specs.Sound.{IsSound}
use Rattle.dd_machine.specs.States as states
use Rattle.dd_machine.specs.States.{Progress, State, at_copy, at_one}
use Rattle.dd_machine.specs.Tests.{Has, is_here, is_idle, is_in_state}
use Rattle.dd_machine.specs.Words.{place, tasks, touches}
use Rattle.dd_machine.proofs.ChangesLemmas.{at_copy_other, at_copy_same, at_copy_tells, at_one_tells}
use Rattle.dd_machine.proofs.TestsLemmas.{same_at}

-- ---- lists

has_kept : (p : ℕ → Bool) (xs : List ℕ) (b : ℕ) → has_number (filter p xs) b ≡ true → (has_number xs b ≡ true) × (p b ≡ true)
has_kept p [] b has = absurd cc
has_kept p (x ∷ xs) b has = by (p x) refl (has_kept p xs b) has
  where
    by : (t : Bool) → p x ≡ t → (has_number (filter p xs) b ≡ true → (has_number xs b ≡ true) × (p b ≡ true)) → has_number (cond t (x ∷ filter p xs) (filter p xs)) b ≡ true → (has_number (x ∷ xs) b ≡ true) × (p b ≡ true)
    by true is more has = ⊎_elim
        (λ (e : eqb x b ≡ true). (or_left (eqb x b) (has_number xs b) e, ap p (sym (eqb-true x b e)) ∙ is))
        (λ (e : has_number (filter p xs) b ≡ true). let h = more e in (or_right (eqb x b) (has_number xs b) h.0, h.1))
        (or_cases (eqb x b) (has_number (filter p xs) b) has)
    by false is more has = let h = more has in (or_right (eqb x b) (has_number xs b) h.0, h.1)

pub without_has : (block : ℕ) (xs : List ℕ) (b : ℕ) → has_number (without block xs) b ≡ true → (has_number xs b ≡ true) × (b ≢ block)
without_has block xs b has =
    let h = has_kept (λ other. not (eqb block other)) xs b has in
    (h.0, λ same. let f : eqb block b ≡ false = not-true (eqb block b) h.1 in let t : eqb block b ≡ true = eq-eqb block b (sym same) in let k : true ≡ false = sym t ∙ f in cc)

pub front_has : (block : ℕ) (xs : List ℕ) (b : ℕ) → has_number (to_front block xs) b ≡ true → (b ≡ block) ⊎ ((has_number xs b ≡ true) × (b ≢ block))
front_has block xs b has = ⊎_elim
    (λ (e : eqb block b ≡ true). inl (sym (eqb-true block b e)))
    (λ (e : has_number (without block xs) b ≡ true). inr (without_has block xs b e))
    (or_cases (eqb block b) (has_number (without block xs) b) has)

-- after some blocks went to the front
fronts_have : (blocks xs : List ℕ) (b : ℕ) → has_number (fold (λ order x. to_front x order) xs blocks) b ≡ true → (has_number blocks b ≡ true) ⊎ (has_number xs b ≡ true)
fronts_have [] xs b has = inr has
fronts_have (x ∷ blocks) xs b has = ⊎_elim
    (λ (e : has_number blocks b ≡ true). inl (or_right (eqb x b) (has_number blocks b) e))
    (λ (e : has_number (to_front x xs) b ≡ true). ⊎_elim
    (λ (f : b ≡ x). inl (or_left (eqb x b) (has_number blocks b) (eq-eqb x b (sym f))))
    (λ (f : (has_number xs b ≡ true) × (b ≢ x)). inr f.0)
    (front_has x xs b e))
    (fronts_have blocks (to_front x xs) b has)

last_has : (xs : List ℕ) (o : Option ℕ) (b : ℕ) → last_or o xs ≡ Some b → (has_number xs b ≡ true) ⊎ (o ≡ Some b)
last_has [] o b is = inr is
last_has (x ∷ xs) o b is = ⊎_elim
    (λ (e : has_number xs b ≡ true). inl (or_right (eqb x b) (has_number xs b) e))
    (λ (e : Some x ≡ Some b). inl (or_left (eqb x b) (has_number xs b) (eq-eqb x b (let h : x ≡ b = cc in h))))
    (last_has xs (Some x) b is)

first_has : (xs : List ℕ) (b : ℕ) → slice_get xs 0 ≡ Some b → has_number xs b ≡ true
first_has [] b is = absurd cc
first_has (x ∷ xs) b is = or_left (eqb x b) (has_number xs b) (eq-eqb x b (let h : x ≡ b = cc in h))

chosen_has : (policy : Policy) (pinned : ℕ → Bool) (xs : List ℕ) (b : ℕ) → chosen policy pinned xs ≡ Some b → has_number (unpinned pinned xs) b ≡ true
chosen_has Lru pinned xs b is = ⊎_elim (λ (e : has_number (unpinned pinned xs) b ≡ true). e) (λ (e : None ≡ Some b). absurd cc) (last_has (unpinned pinned xs) None b is)
chosen_has Mru pinned xs b is = first_has (unpinned pinned xs) b is

-- the victim stands in the order and isn't pinned
pub victim_there : (plan : Plan) (st : State) (space block : ℕ) → victim plan st space ≡ Some block → (has_number (st.orders space) block ≡ true) × (is_pinned plan st space block ≡ false)
victim_there plan st space block is =
    let h = has_kept (λ b. not (is_pinned plan st space b)) (st.orders space) block (chosen_has (order_policy plan.policy) (is_pinned plan st space) (st.orders space) block is) in
    (h.0, not-true (is_pinned plan st space block) h.1)

-- ---- the orders

abbrev OrderHere : State → Type 0
OrderHere st = (s b : ℕ) → has_number (st.orders s) b ≡ true → Has st s b is_here

-- a copy is Here now, and goes to the front
front_here : (st : State) (copies : ℕ → ℕ → Option states.Copy) (space block : ℕ) → is_in_state is_here (copies space block) ≡ true
    → ((s b : ℕ) → (s ≡ space → b ≡ block → ⊥) → has_number (st.orders s) b ≡ true → is_in_state is_here (copies s b) ≡ true) → OrderHere (record st { copies = copies; orders = order_front st.orders space block })
front_here st copies space block here old s b has = ⊎_elim
    (λ (e : (s ≡ space) × (at_one st.orders space (to_front block (st.orders space)) s ≡ to_front block (st.orders space))).
    ⊎_elim
    (λ (f : b ≡ block). ap (λ (x : ℕ). is_in_state is_here (copies x b)) e.0 ∙ ap (λ (y : ℕ). is_in_state is_here (copies space y)) f ∙ here)
    (λ (f : (has_number (st.orders space) b ≡ true) × (b ≢ block)). old s b (λ same other. f.1 other) (ap (λ (x : ℕ). has_number (st.orders x) b) e.0 ∙ f.0))
    (front_has block (st.orders space) b (ap (λ (xs : List ℕ). has_number xs b) (sym e.1) ∙ has)))
    (λ (e : (s ≢ space) × (at_one st.orders space (to_front block (st.orders space)) s ≡ st.orders s)). old s b (λ same other. e.0 same) (ap (λ (xs : List ℕ). has_number xs b) (sym e.1) ∙ has))
    (at_one_tells st.orders space (to_front block (st.orders space)) s)

-- a copy is taken out of its order
less_here : (st : State) (copies : ℕ → ℕ → Option states.Copy) (space block : ℕ)
    → ((s b : ℕ) → (s ≡ space → b ≡ block → ⊥) → has_number (st.orders s) b ≡ true → is_in_state is_here (copies s b) ≡ true) → OrderHere (record st { copies = copies; orders = order_without st.orders space block })
less_here st copies space block old s b has = ⊎_elim
    (λ (e : (s ≡ space) × (at_one st.orders space (without block (st.orders space)) s ≡ without block (st.orders space))).
    let h = without_has block (st.orders space) b (ap (λ (xs : List ℕ). has_number xs b) (sym e.1) ∙ has) in
    old s b (λ same other. h.1 other) (ap (λ (x : ℕ). has_number (st.orders x) b) e.0 ∙ h.0))
    (λ (e : (s ≢ space) × (at_one st.orders space (without block (st.orders space)) s ≡ st.orders s)). old s b (λ same other. e.0 same) (ap (λ (xs : List ℕ). has_number xs b) (sym e.1) ∙ has))
    (at_one_tells st.orders space (without block (st.orders space)) s)

-- a copy that isn't Here changes
none_here : (st : State) (space block : ℕ) (copy : Option states.Copy) → OrderHere st → (is_in_state is_here (st.copies space block) ≡ true → ⊥) → OrderHere (record st { copies = at_copy st.copies space block copy })
none_here st space block copy old away s b has =
    let here = old s b has in
    ap (is_in_state is_here) (at_copy_other st.copies space block copy s b (λ same other. away (subst (λ (x : ℕ). is_in_state is_here (st.copies x block) ≡ true) same (subst (λ (y : ℕ). is_in_state is_here (st.copies s y) ≡ true) other here)))) ∙ here

old_at : (st : State) (space block : ℕ) (copy : Option states.Copy) → OrderHere st → (s b : ℕ) → (s ≡ space → b ≡ block → ⊥) → has_number (st.orders s) b ≡ true → is_in_state is_here (at_copy st.copies space block copy s b) ≡ true
old_at st space block copy old s b ne has = ap (is_in_state is_here) (at_copy_other st.copies space block copy s b ne) ∙ old s b has

here_given : (c : Option states.Copy) → is_in_state is_here (given_back c) ≡ is_in_state is_here c
here_given None = refl
here_given (Some c) = by c.state
  where
    by : (s : CopyState) → is_in_state is_here (given_back (Some (record { state = s; versions = c.versions }))) ≡ is_here s
    by state.Here = refl
    by state.Leaving = refl
    by state.Out = refl
    by state.Coming = refl
    by (state.Lent t) = refl

pub here_copied : (plan : Plan) (st : State) (task block from count s b : ℕ) → is_in_state is_here ((after_copy plan st task block from count).copies s b) ≡ is_in_state is_here (st.copies s b)
here_copied plan st task block from count s b =
    let own = own_space plan st task block in
    let lender = at_copy st.copies from block (given_back (st.copies from block)) in
    let new = copy_where (is_needed plan st task block from) (λ i. st.current (element plan block i)) (st.copies own block) in
    let lent : (x y : ℕ) → is_in_state is_here (lender x y) ≡ is_in_state is_here (st.copies x y) = same_at (is_in_state is_here) st.copies from block (given_back (st.copies from block)) (here_given (st.copies from block)) in
    same_at (is_in_state is_here) lender own block new (state_where (is_needed plan st task block from) (λ i. st.current (element plan block i)) is_here (st.copies own block) ∙ sym (lent own block)) s b
    ∙ lent s b

pub keeps_order_here : (plan : Plan) (st : State) (event : Event) → IsSound plan st → May plan st event → OrderHere (after plan st event)
keeps_order_here plan st (Ask space block) sound may = sound.limits.order_here
keeps_order_here plan st Rest sound may = subst OrderHere (sym (rested_at plan st may))
    (front_here st st.copies (pin_of plan st may).0 (pin_of plan st may).1 (pin_of plan st may).3.here (λ s b ne has. sound.limits.order_here s b has))
keeps_order_here plan st (Put block) sound may = front_here st (at_copy st.copies (st.homes block) block (fresh plan block 0)) (st.homes block) block
    (ap (is_in_state is_here) (at_copy_same st.copies (st.homes block) block (fresh plan block 0))) (old_at st (st.homes block) block (fresh plan block 0) sound.limits.order_here)
keeps_order_here plan st (Shift block space) sound may = front_here cleared (at_copy cleared.copies space block copy) space block
    (ap (is_in_state is_here) (at_copy_same cleared.copies space block copy) ∙ in_state_there is_here state.Here (st.copies (st.homes block) block) refl (passes_any is_idle (st.copies (st.homes block) block) may.idle))
    (old_at cleared space block copy (less_here st (at_copy st.copies (st.homes block) block None) (st.homes block) block (old_at st (st.homes block) block None sound.limits.order_here)))
  where
    cleared : State
    cleared = record st { copies = at_copy st.copies (st.homes block) block None; orders = order_without st.orders (st.homes block) block }

    copy : Option states.Copy
    copy = in_state state.Here (st.copies (st.homes block) block)
keeps_order_here plan st (Free space block) sound may = less_here st (at_copy st.copies space block None) space block (old_at st space block None sound.limits.order_here)
keeps_order_here plan st (Begin r) sound may = sound.limits.order_here
keeps_order_here plan st (Close r) sound may = sound.limits.order_here
keeps_order_here plan st (Hold task) sound may = sound.limits.order_here
keeps_order_here plan st (Pick space block) sound may = less_here st (at_copy st.copies space block (in_state state.Leaving (st.copies space block))) space block (old_at st space block (in_state state.Leaving (st.copies space block)) sound.limits.order_here)
keeps_order_here plan st (Gone space block) sound may = none_here st space block (in_state state.Out (st.copies space block)) sound.limits.order_here (λ here. not_two is_leaving is_here leaving_here (st.copies space block) may.leaving here)
keeps_order_here plan st (Make task block) sound may = front_here st (at_copy st.copies (place plan task) block (fresh plan block states.blank)) (place plan task) block
    (ap (is_in_state is_here) (at_copy_same st.copies (place plan task) block (fresh plan block states.blank))) (old_at st (place plan task) block (fresh plan block states.blank) sound.limits.order_here)
keeps_order_here plan st (Call space block) sound may = none_here st space block (in_state state.Coming (st.copies space block)) sound.limits.order_here (λ here. not_two is_out is_here out_here (st.copies space block) may.out here)
keeps_order_here plan st (Come space block) sound may = front_here st (at_copy st.copies space block (in_state state.Here (st.copies space block))) space block
    (ap (is_in_state is_here) (at_copy_same st.copies space block (in_state state.Here (st.copies space block))) ∙ in_state_there is_here state.Here (st.copies space block) refl (passes_any is_coming (st.copies space block) may.coming))
    (old_at st space block (in_state state.Here (st.copies space block)) sound.limits.order_here)
keeps_order_here plan st (Lend task block source) sound may = none_here st source block (in_state (state.Lent task) (st.copies source block)) sound.limits.order_here (λ here. not_two is_out is_here out_here (st.copies source block) may.out here)
keeps_order_here plan st (Copy task block source count) sound may = λ s b has. here_copied plan st task block source count s b ∙ sound.limits.order_here s b has
keeps_order_here plan st (Claim task worker) sound may = sound.limits.order_here
keeps_order_here plan st (Back block source count) sound may = λ s b has. here_copied plan st 0 block source count s b ∙ sound.limits.order_here s b has
keeps_order_here plan st (Finish task) sound may = λ s b has. state_finished plan st task s b is_here ∙ ⊎_elim
    (λ (e : (s ≡ place plan task) × (at_one st.orders (place plan task) fronts s ≡ fronts)). ⊎_elim
    (λ (f : touches plan task b ≡ true). ap (λ (x : ℕ). is_in_state is_here (st.copies x b)) e.0 ∙ sound.limits.running_here task b (ap is_running (running_by (st.tasks task) may).1) f)
    (λ (f : has_number (st.orders (place plan task)) b ≡ true). sound.limits.order_here s b (ap (λ (x : ℕ). has_number (st.orders x) b) e.0 ∙ f))
    (fronts_have (task_row plan task).blocks (st.orders (place plan task)) b (ap (λ (xs : List ℕ). has_number xs b) (sym e.1) ∙ has)))
    (λ (e : (s ≢ place plan task) × (at_one st.orders (place plan task) fronts s ≡ st.orders s)). sound.limits.order_here s b (ap (λ (xs : List ℕ). has_number xs b) (sym e.1) ∙ has))
    (at_one_tells st.orders (place plan task) fronts s)
  where
    fronts : List ℕ
    fronts = fold (λ order x. to_front x order) (st.orders (place plan task)) (task_row plan task).blocks

-- ---- the blocks of tasks that are Running

abbrev RunningHere : Plan → State → Type 0
RunningHere plan st = (t b : ℕ) → is_running (st.tasks t) ≡ true → touches plan t b ≡ true → Has st (place plan t) b is_here

running_active : (t : TaskState) → is_running t ≡ true → is_active t ≡ true
running_active Waiting e = cc
running_active Held e = cc
running_active (Running w) e = refl
running_active Done e = cc

-- a copy changes that no Running task touches, or that is Here again
run_at : (plan : Plan) (st : State) (space block : ℕ) (copy : Option states.Copy) → RunningHere plan st
    → ((t : ℕ) → is_running (st.tasks t) ≡ true → touches plan t block ≡ true → place plan t ≡ space → is_in_state is_here copy ≡ true) → RunningHere plan (record st { copies = at_copy st.copies space block copy })
run_at plan st space block copy old hit t b run touched = ⊎_elim
    (λ (e : (place plan t ≡ space) × (b ≡ block) × (at_copy st.copies space block copy (place plan t) b ≡ copy)).
    ap (is_in_state is_here) e.2 ∙ hit t run (ap (touches plan t) (sym e.1) ∙ touched) e.0)
    (λ (e : (place plan t ≡ space → b ≡ block → ⊥) × (at_copy st.copies space block copy (place plan t) b ≡ st.copies (place plan t) b)). ap (is_in_state is_here) e.1 ∙ old t b run touched)
    (at_copy_tells st.copies space block copy (place plan t) b)

-- one that isn't Here
run_none : (plan : Plan) (st : State) (space block : ℕ) (copy : Option states.Copy) → RunningHere plan st → (is_in_state is_here (st.copies space block) ≡ true → ⊥) → RunningHere plan (record st { copies = at_copy st.copies space block copy })
run_none plan st space block copy old away = run_at plan st space block copy old
    (λ t run touched at. absurd (away (subst (λ (x : ℕ). is_in_state is_here (st.copies x block) ≡ true) at (old t block run touched))))

nobody_runs : (plan : Plan) (st : State) → IsSound plan st → st.region ≡ None → RunningHere plan st → (new : State) → new.tasks ≡ st.tasks → RunningHere plan new
nobody_runs plan st sound out old new same t b run touched =
    let on = running_active (st.tasks t) (ap (λ (f : ℕ → TaskState). is_running (f t)) (sym same) ∙ run) in
    let o = sound.limits.active_open t on in out_or_in out o.1

ran_before : (st : State) (task : ℕ) (new : TaskState) → is_running new ≡ false → (t : ℕ) → is_running (at_one st.tasks task new t) ≡ true → is_running (st.tasks t) ≡ true
ran_before st task new none t run = ⊎_elim
    (λ (e : (t ≡ task) × (at_one st.tasks task new t ≡ new)). absurd (let h : true ≡ false = sym run ∙ ap is_running e.1 ∙ none in cc))
    (λ (e : (t ≢ task) × (at_one st.tasks task new t ≡ st.tasks t)). ap is_running (sym e.1) ∙ run)
    (at_one_tells st.tasks task new t)

-- a task is used where it runs, so its blocks are pinned there
run_pinned : (plan : Plan) (st : State) (t block : ℕ) → IsSound plan st → is_running (st.tasks t) ≡ true → touches plan t block ≡ true → is_pinned plan st (place plan t) block ≡ true
run_pinned plan st t block sound run touched =
    let on = running_active (st.tasks t) run in
    let o = sound.limits.active_open t on in
    or_right (is_pin st.pin (place plan t) block) (list_any (is_used plan st (place plan t) block) (range_with_len 1 (tasks plan)))
    (list_any_at (is_used plan st (place plan t) block) (range_with_len 1 (tasks plan)) (t - 1) t (omega (arith, length-range_with_len 1 (tasks plan), o.2.0.0, o.2.0.1))
    (let at : get_or (range_with_len 1 (tasks plan)) (t - 1) t ≡ t = get_or-range_with_len 1 (tasks plan) (t - 1) t (omega (arith, o.2.0.0, o.2.0.1)) ∙ (let e : 1 + (t - 1) ≡ t = omega (arith, o.2.0.0) in e) in
    ap (is_used plan st (place plan t) block) at
    ∙ and_from (is_active (st.tasks t)) (eqb (place plan t) (place plan t) && touches plan t block) on (and_from (eqb (place plan t) (place plan t)) (touches plan t block) (eq-eqb (place plan t) (place plan t) refl) touched)))

pub keeps_running_here : (plan : Plan) (st : State) (event : Event) → IsSound plan st → May plan st event → RunningHere plan (after plan st event)
keeps_running_here plan st (Ask space block) sound may = sound.limits.running_here
keeps_running_here plan st Rest sound may = subst (RunningHere plan) (sym (rested_at plan st may)) sound.limits.running_here
keeps_running_here plan st (Put block) sound may = nobody_runs plan st sound may.outside sound.limits.running_here (after plan st (Put block)) refl
keeps_running_here plan st (Shift block space) sound may = nobody_runs plan st sound may.outside sound.limits.running_here (after plan st (Shift block space)) refl
keeps_running_here plan st (Free space block) sound may = run_at plan st space block None sound.limits.running_here
    (λ t run touched at.
    let on = running_active (st.tasks t) run in
    let o = sound.limits.active_open t on in
    let done : st.tasks t ≡ Done = may.all_done o.0 o.1 t o.2 in
    absurd (let h : true ≡ false = sym on ∙ ap is_active done in cc))
keeps_running_here plan st (Begin r) sound may = sound.limits.running_here
keeps_running_here plan st (Close r) sound may = sound.limits.running_here
keeps_running_here plan st (Hold task) sound may = λ t b run. sound.limits.running_here t b (ran_before st task Held refl t run)
keeps_running_here plan st (Pick space block) sound may = run_at plan st space block (in_state state.Leaving (st.copies space block)) sound.limits.running_here
    (λ t run touched at.
    let pinned : is_pinned plan st space block ≡ true = ap (λ (x : ℕ). is_pinned plan st x block) (sym at) ∙ run_pinned plan st t block sound run touched in
    absurd (let h : true ≡ false = sym pinned ∙ (victim_there plan st space block may.is_victim).1 in cc))
keeps_running_here plan st (Gone space block) sound may = run_none plan st space block (in_state state.Out (st.copies space block)) sound.limits.running_here (λ here. not_two is_leaving is_here leaving_here (st.copies space block) may.leaving here)
keeps_running_here plan st (Make task block) sound may = run_at plan st (place plan task) block (fresh plan block states.blank) sound.limits.running_here (λ t run touched at. refl)
keeps_running_here plan st (Call space block) sound may = run_none plan st space block (in_state state.Coming (st.copies space block)) sound.limits.running_here (λ here. not_two is_out is_here out_here (st.copies space block) may.out here)
keeps_running_here plan st (Come space block) sound may = run_at plan st space block (in_state state.Here (st.copies space block)) sound.limits.running_here
    (λ t run touched at. in_state_there is_here state.Here (st.copies space block) refl (passes_any is_coming (st.copies space block) may.coming))
keeps_running_here plan st (Lend task block source) sound may = run_none plan st source block (in_state (state.Lent task) (st.copies source block)) sound.limits.running_here (λ here. not_two is_out is_here out_here (st.copies source block) may.out here)
keeps_running_here plan st (Copy task block source count) sound may = λ t b run touched. here_copied plan st task block source count (place plan t) b ∙ sound.limits.running_here t b run touched
keeps_running_here plan st (Back block source count) sound may = λ t b run touched. here_copied plan st 0 block source count (place plan t) b ∙ sound.limits.running_here t b run touched
keeps_running_here plan st (Claim task worker) sound may = λ t b run touched. ⊎_elim
    (λ (e : (t ≡ task) × (at_one st.tasks task (Running worker) t ≡ Running worker)).
    ap (λ (x : ℕ). is_in_state is_here (st.copies (place plan x) b)) e.0 ∙ may.all_here b (ap (λ (x : ℕ). touches plan x b) (sym e.0) ∙ touched))
    (λ (e : (t ≢ task) × (at_one st.tasks task (Running worker) t ≡ st.tasks t)). sound.limits.running_here t b (ap is_running (sym e.1) ∙ run) touched)
    (at_one_tells st.tasks task (Running worker) t)
keeps_running_here plan st (Finish task) sound may = λ t b run touched. state_finished plan st task (place plan t) b is_here ∙ sound.limits.running_here t b (ran_before st task Done refl t run) touched
