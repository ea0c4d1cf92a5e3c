-- Each copy that is Here stands in its order; and no worker has two tasks.
use Rattle.std.proofs.Common.{◌≡◌, ◌≢◌, ◌⊎◌, ℕ, true, false, eqb, List, [], ◌∷◌, Option, None, refl, ap, sym, ◌∙◌, subst, inl, inr, ⊎_elim}
use Rattle.std.specs.Prelude.{not}
use Rattle.std.specs.List.{fold}
use Rattle.std.proofs.lemmas.Bool.{cases_eq, eq-eqb, ne_eqb, not_from_false, or_left, or_right}
use Rattle.dd_recency.specs.Recency.{to_front, without}
use Rattle.dd_blocks.specs.declared.plan.Plan.{Plan}
use Rattle.dd_blocks.specs.Numbered.{task_row}
use Rattle.dd_machine.specs.declared.copy_state.CopyState.TheVariants as state
use Rattle.dd_machine.specs.declared.event.Event.{Event}
use Rattle.dd_machine.specs.declared.event.Event.TheVariants.{Ask, Rest, Put, Shift, Free, Begin, Hold, Pick, Gone, Make, Call, Come, Lend, Copy, Claim, Finish, Back, Close}
use Rattle.dd_machine.specs.declared.task_state.TaskState.{TaskState}
use Rattle.dd_machine.specs.declared.task_state.TaskState.TheVariants.{Held, Running, Done}
use Rattle.dd_machine.specs.Effects.{after, fresh, in_state, order_front}
use Rattle.dd_machine.specs.Legal.{May}
use Rattle.dd_machine.specs.Sound.{IsSound}
use Rattle.dd_machine.specs.States as states
use Rattle.dd_machine.specs.States.{Progress, State, at_copy, at_one}
use Rattle.dd_machine.specs.Tests.{Has, is_here, is_in_state}
use Rattle.dd_machine.specs.Words.{place}
use Rattle.dd_machine.proofs.ChangesLemmas.{at_copy_other, at_copy_same, at_one_tells}
use Rattle.dd_machine.proofs.TestsLemmas.{pin_of, rested_at}
use Rattle.dd_machine.specs.Effects.{order_without}
use Rattle.dd_machine.specs.Tests.{is_active}
use Rattle.dd_machine.specs.Words.{has_number}
use Rattle.dd_machine.proofs.TestsLemmas.{none_in_state, passed_other, state_finished}
use Rattle.laws_of_limits.proofs.OrdersKept.{here_copied}
use Rattle.dd_machine.proofs.RangesLemmas.{has_filter}

without_keeps : (block : ℕ) (xs : List ℕ) (b : ℕ) → has_number xs b ≡ true → b ≢ block → has_number (without block xs) b ≡ true
without_keeps block xs b has ne = has_filter (λ other. not (eqb block other)) xs b has (not_from_false (eqb block b) (ne_eqb block b (λ same. ne (sym same))))

front_keeps : (block : ℕ) (xs : List ℕ) (b : ℕ) → (b ≡ block) ⊎ (has_number xs b ≡ true) → has_number (to_front block xs) b ≡ true
front_keeps block xs b (inl same) = or_left (eqb block b) (has_number (without block xs) b) (eq-eqb block b (sym same))
front_keeps block xs b (inr has) = ⊎_elim
    (λ (same : b ≡ block). or_left (eqb block b) (has_number (without block xs) b) (eq-eqb block b (sym same)))
    (λ (ne : b ≡ block → ⊥). or_right (eqb block b) (has_number (without block xs) b) (without_keeps block xs b has ne))
    (cases_eq b block)

fronts_keep : (blocks xs : List ℕ) (b : ℕ) → has_number xs b ≡ true → has_number (fold (λ order x. to_front x order) xs blocks) b ≡ true
fronts_keep [] xs b has = has
fronts_keep (x ∷ blocks) xs b has = fronts_keep blocks (to_front x xs) b (front_keeps x xs b (inr has))

abbrev OrderHas : State → Type 0
OrderHas st = (s b : ℕ) → Has st s b is_here → has_number (st.orders s) b ≡ true

front_has_all : (st : State) (copies : ℕ → ℕ → Option states.Copy) (space block : ℕ) → ((s b : ℕ) → (s ≡ space → b ≡ block → ⊥) → is_in_state is_here (copies s b) ≡ true → has_number (st.orders s) b ≡ true)
    → OrderHas (record st { copies = copies; orders = order_front st.orders space block })
front_has_all st copies space block old s b here = ⊎_elim
    (λ (e : (s ≡ space) × (at_one st.orders space (to_front block (st.orders space)) s ≡ to_front block (st.orders space))).
    ap (λ (xs : List ℕ). has_number xs b) e.1 ∙ front_keeps block (st.orders space) b (⊎_elim
    (λ (same : b ≡ block). inl same)
    (λ (ne : b ≡ block → ⊥). inr (ap (λ (x : ℕ). has_number (st.orders x) b) (sym e.0) ∙ old s b (λ _ other. ne other) here))
    (cases_eq b block)))
    (λ (e : (s ≢ space) × (at_one st.orders space (to_front block (st.orders space)) s ≡ st.orders s)). ap (λ (xs : List ℕ). has_number xs b) e.1 ∙ old s b (λ same other. e.0 same) here)
    (at_one_tells st.orders space (to_front block (st.orders space)) s)

less_has_all : (st : State) (copies : ℕ → ℕ → Option states.Copy) (space block : ℕ) → (is_in_state is_here (copies space block) ≡ true → ⊥) → ((s b : ℕ) → (s ≡ space → b ≡ block → ⊥) → is_in_state is_here (copies s b) ≡ true → has_number (st.orders s) b ≡ true)
    → OrderHas (record st { copies = copies; orders = order_without st.orders space block })
less_has_all st copies space block gone old s b here = ⊎_elim
    (λ (e : (s ≡ space) × (at_one st.orders space (without block (st.orders space)) s ≡ without block (st.orders space))).
    let ne : b ≡ block → ⊥ = λ same. gone (subst (λ (x : ℕ). is_in_state is_here (copies x block) ≡ true) e.0 (subst (λ (y : ℕ). is_in_state is_here (copies s y) ≡ true) same here)) in
    ap (λ (xs : List ℕ). has_number xs b) e.1 ∙ without_keeps block (st.orders space) b (ap (λ (x : ℕ). has_number (st.orders x) b) (sym e.0) ∙ old s b (λ _ other. ne other) here) ne)
    (λ (e : (s ≢ space) × (at_one st.orders space (without block (st.orders space)) s ≡ st.orders s)). ap (λ (xs : List ℕ). has_number xs b) e.1 ∙ old s b (λ same other. e.0 same) here)
    (at_one_tells st.orders space (without block (st.orders space)) s)

-- a copy elsewhere is as before
others : (st : State) (space block : ℕ) (copy : Option states.Copy) → OrderHas st → (s b : ℕ) → (s ≡ space → b ≡ block → ⊥) → is_in_state is_here (at_copy st.copies space block copy s b) ≡ true → has_number (st.orders s) b ≡ true
others st space block copy old s b ne here = old s b (ap (is_in_state is_here) (sym (at_copy_other st.copies space block copy s b ne)) ∙ here)

-- a copy that changes to one that isn't Here
not_here_now : (st : State) (space block : ℕ) (copy : Option states.Copy) → is_in_state is_here copy ≡ false → is_in_state is_here (at_copy st.copies space block copy space block) ≡ true → ⊥
not_here_now st space block copy none here = let h : true ≡ false = sym here ∙ ap (is_in_state is_here) (at_copy_same st.copies space block copy) ∙ none in cc

away_has : (st : State) (space block : ℕ) (copy : Option states.Copy) → OrderHas st → is_in_state is_here copy ≡ false → OrderHas (record st { copies = at_copy st.copies space block copy })
away_has st space block copy old none s b here = old s b (passed_other is_here st.copies space block copy none s b here)

pub keeps_order_has : (plan : Plan) (st : State) (event : Event) → IsSound plan st → May plan st event → OrderHas (after plan st event)
keeps_order_has plan st (Ask space block) sound may = sound.limits.order_has
keeps_order_has plan st Rest sound may = subst OrderHas (sym (rested_at plan st may)) (front_has_all st st.copies (pin_of plan st may).0 (pin_of plan st may).1 (λ s b ne here. sound.limits.order_has s b here))
keeps_order_has plan st (Put block) sound may = front_has_all st (at_copy st.copies (st.homes block) block (fresh plan block 0)) (st.homes block) block (others st (st.homes block) block (fresh plan block 0) sound.limits.order_has)
keeps_order_has plan st (Shift block space) sound may = front_has_all cleared (at_copy cleared.copies space block copy) space block
    (others cleared space block copy (less_has_all st (at_copy st.copies (st.homes block) block None) (st.homes block) block (not_here_now st (st.homes block) block None refl) (others st (st.homes block) block None sound.limits.order_has)))
  where
    cleared : State
    cleared = record st { copies = at_copy st.copies (st.homes block) block None; orders = order_without st.orders (st.homes block) block }

    copy : Option states.Copy
    copy = in_state state.Here (st.copies (st.homes block) block)
keeps_order_has plan st (Free space block) sound may = less_has_all st (at_copy st.copies space block None) space block (not_here_now st space block None refl) (others st space block None sound.limits.order_has)
keeps_order_has plan st (Begin r) sound may = sound.limits.order_has
keeps_order_has plan st (Close r) sound may = sound.limits.order_has
keeps_order_has plan st (Hold task) sound may = sound.limits.order_has
keeps_order_has plan st (Pick space block) sound may = less_has_all st (at_copy st.copies space block (in_state state.Leaving (st.copies space block))) space block
    (not_here_now st space block (in_state state.Leaving (st.copies space block)) (none_in_state is_here state.Leaving (st.copies space block) refl)) (others st space block (in_state state.Leaving (st.copies space block)) sound.limits.order_has)
keeps_order_has plan st (Gone space block) sound may = away_has st space block (in_state state.Out (st.copies space block)) sound.limits.order_has (none_in_state is_here state.Out (st.copies space block) refl)
keeps_order_has plan st (Make task block) sound may = front_has_all st (at_copy st.copies (place plan task) block (fresh plan block states.blank)) (place plan task) block (others st (place plan task) block (fresh plan block states.blank) sound.limits.order_has)
keeps_order_has plan st (Call space block) sound may = away_has st space block (in_state state.Coming (st.copies space block)) sound.limits.order_has (none_in_state is_here state.Coming (st.copies space block) refl)
keeps_order_has plan st (Come space block) sound may = front_has_all st (at_copy st.copies space block (in_state state.Here (st.copies space block))) space block (others st space block (in_state state.Here (st.copies space block)) sound.limits.order_has)
keeps_order_has plan st (Lend task block source) sound may = away_has st source block (in_state (state.Lent task) (st.copies source block)) sound.limits.order_has (none_in_state is_here (state.Lent task) (st.copies source block) refl)
keeps_order_has plan st (Copy task block source count) sound may = λ s b here. sound.limits.order_has s b (sym (here_copied plan st task block source count s b) ∙ here)
keeps_order_has plan st (Claim task worker) sound may = sound.limits.order_has
keeps_order_has plan st (Back block source count) sound may = λ s b here. sound.limits.order_has s b (sym (here_copied plan st 0 block source count s b) ∙ here)
keeps_order_has plan st (Finish task) sound may = λ s b here.
    let old = sound.limits.order_has s b (sym (state_finished plan st task s b is_here) ∙ here) in
    ⊎_elim
    (λ (e : (s ≡ place plan task) × (at_one st.orders (place plan task) fronts s ≡ fronts)).
    ap (λ (xs : List ℕ). has_number xs b) e.1 ∙ fronts_keep (task_row plan task).blocks (st.orders (place plan task)) b (ap (λ (x : ℕ). has_number (st.orders x) b) (sym e.0) ∙ old))
    (λ (e : (s ≢ place plan task) × (at_one st.orders (place plan task) fronts s ≡ st.orders s)). ap (λ (xs : List ℕ). has_number xs b) e.1 ∙ old)
    (at_one_tells st.orders (place plan task) fronts s)
  where
    fronts : List ℕ
    fronts = fold (λ order x. to_front x order) (st.orders (place plan task)) (task_row plan task).blocks

-- ---- workers

abbrev OneWorker : State → Type 0
OneWorker st = (t u w : ℕ) → st.tasks t ≡ Running w → st.tasks u ≡ Running w → t ≡ u

worker_at : (st : State) (task : ℕ) (new : TaskState) → OneWorker st → ((w : ℕ) → new ≡ Running w → ⊥) → OneWorker (record st { tasks = at_one st.tasks task new })
worker_at st task new old not t u w t_is u_is = old t u w (was t t_is) (was u u_is)
  where
    was : (x : ℕ) → at_one st.tasks task new x ≡ Running w → st.tasks x ≡ Running w
    was x is = ⊎_elim
        (λ (e : (x ≡ task) × (at_one st.tasks task new x ≡ new)). absurd (not w (sym e.1 ∙ is)))
        (λ (e : (x ≢ task) × (at_one st.tasks task new x ≡ st.tasks x)). sym e.1 ∙ is)
        (at_one_tells st.tasks task new x)

pub keeps_one_worker : (plan : Plan) (st : State) (event : Event) → IsSound plan st → May plan st event → OneWorker (after plan st event)
keeps_one_worker plan st (Hold task) sound may = worker_at st task Held sound.limits.one_worker (λ w e. cc)
keeps_one_worker plan st (Finish task) sound may = worker_at st task Done sound.limits.one_worker (λ w e. cc)
keeps_one_worker plan st (Claim task worker) sound may = λ t u w t_is u_is. ⊎_elim
    (λ (e : (t ≡ task) × (at_one st.tasks task (Running worker) t ≡ Running worker)). ⊎_elim
    (λ (f : (u ≡ task) × (at_one st.tasks task (Running worker) u ≡ Running worker)). e.0 ∙ sym f.0)
    (λ (f : (u ≢ task) × (at_one st.tasks task (Running worker) u ≡ st.tasks u)). absurd (free u (sym f.1 ∙ u_is ∙ sym t_is ∙ e.1)))
    (at_one_tells st.tasks task (Running worker) u))
    (λ (e : (t ≢ task) × (at_one st.tasks task (Running worker) t ≡ st.tasks t)). ⊎_elim
    (λ (f : (u ≡ task) × (at_one st.tasks task (Running worker) u ≡ Running worker)). absurd (free t (sym e.1 ∙ t_is ∙ sym u_is ∙ f.1)))
    (λ (f : (u ≢ task) × (at_one st.tasks task (Running worker) u ≡ st.tasks u)). sound.limits.one_worker t u w (sym e.1 ∙ t_is) (sym f.1 ∙ u_is))
    (at_one_tells st.tasks task (Running worker) u))
    (at_one_tells st.tasks task (Running worker) t)
  where
    free : (x : ℕ) → st.tasks x ≡ Running worker → ⊥
    free x is = let o = sound.limits.active_open x (ap is_active is) in may.worker_free x o.2.0 is
keeps_one_worker plan st Rest sound may = subst OneWorker (sym (rested_at plan st may)) sound.limits.one_worker
keeps_one_worker plan st (Ask space block) sound may = sound.limits.one_worker
keeps_one_worker plan st (Put block) sound may = sound.limits.one_worker
keeps_one_worker plan st (Shift block space) sound may = sound.limits.one_worker
keeps_one_worker plan st (Free space block) sound may = sound.limits.one_worker
keeps_one_worker plan st (Begin r) sound may = sound.limits.one_worker
keeps_one_worker plan st (Close r) sound may = sound.limits.one_worker
keeps_one_worker plan st (Pick space block) sound may = sound.limits.one_worker
keeps_one_worker plan st (Gone space block) sound may = sound.limits.one_worker
keeps_one_worker plan st (Make task block) sound may = sound.limits.one_worker
keeps_one_worker plan st (Call space block) sound may = sound.limits.one_worker
keeps_one_worker plan st (Come space block) sound may = sound.limits.one_worker
keeps_one_worker plan st (Lend task block source) sound may = sound.limits.one_worker
keeps_one_worker plan st (Copy task block source count) sound may = sound.limits.one_worker
keeps_one_worker plan st (Back block source count) sound may = sound.limits.one_worker
