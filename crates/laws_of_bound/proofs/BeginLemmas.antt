-- What a region costs where it begins.
use Rattle.std.proofs.Common.{◌≡◌, ℕ, zero, suc, ◌+◌, ◌*◌, ◌≤◌, Bool, true, false, cond, ◌||◌, eqb, List, [], ◌∷◌, length, Option, Some, None, refl, ap, sym, ◌∙◌, subst, ⊎_elim, arith}
use Rattle.std.specs.Prelude.{not, filter, sum_by}
use Rattle.std.proofs.lemmas.List.Sums.{sum_by-cons}
use Rattle.std.proofs.lemmas.Bool.{cases_Bool, cases_eq, eq-eqb, ne_eqb}
use Rattle.dd_blocks.specs.declared.plan.Plan.{Plan}
use Rattle.dd_blocks.specs.declared.task_row.TaskRow.{TaskRow}
use Rattle.dd_blocks.specs.Lives.{tasks_of}
use Rattle.dd_blocks.specs.Numbered.{no_task, numbered, task_row}
use Rattle.dd_blocks.specs.WellFormed.{IsWellFormed}
use Rattle.dd_machine.specs.declared.copy_state.CopyState.{CopyState}
use Rattle.dd_machine.specs.declared.copy_state.CopyState.TheVariants.{Here, Leaving, Out, Coming, Lent}
use Rattle.dd_machine.specs.declared.event.Event.TheVariants.{Begin}
use Rattle.dd_machine.specs.declared.task_state.TaskState.{TaskState}
use Rattle.dd_machine.specs.declared.task_state.TaskState.TheVariants.{Waiting, Held, Running, Done}
use Rattle.dd_machine.specs.Bytes.{when}
use Rattle.dd_machine.specs.Effects.{after}
use Rattle.dd_machine.specs.GoesOn.{most_entries}
use Rattle.dd_machine.specs.Legal.{MayBegin}
use Rattle.dd_machine.specs.Needed.{own_space}
use Rattle.dd_machine.specs.Sound.{IsSound}
use Rattle.dd_machine.specs.States.{Copy, State}
use Rattle.dd_machine.specs.Tests.{is_any, is_idle, is_in_state, is_pin}
use Rattle.dd_machine.specs.Words.{IsOf, IsOneOf, blocks, has_number, is_of, spaces, tasks, total, touches}
use Rattle.dd_machine.proofs.TotalsLemmas.{total_add, total_le, total_same, total_swap, total_zero}
use Rattle.laws_of_bound.specs.Cost.{any_undone, block_cost, block_weight, blocks_cost, copies_cost, copy_cost, fetch_at, fetch_cost, is_stale, most_fetch, region_cost, task_cost, tasks_cost, touch_weight}
use Rattle.laws_of_bound.proofs.FetchLemmas.{fetch_most}
use Rattle.laws_of_bound.proofs.RestLemmas.{of_true}
use Rattle.laws_of_bound.proofs.SumsLemmas.{when_mono}
use Rattle.laws_of_bound.proofs.TaskSteps.{place_in}
use Rattle.laws_of_bound.proofs.WantsLemmas.{own_task}

-- at most one term counts
one_most : (n k c : ℕ) → total n (λ i. when (eqb k i) c) ≤ c
one_most zero k c = omega arith
one_most (suc n) k c = ⊎_elim
    (λ (e : k ≡ suc n).
    let none : total n (λ i. when (eqb k i) c) ≡ 0 = total_zero n (λ i. when (eqb k i) c) (λ i is. ap (λ (t : Bool). when t c) (ne_eqb k i (λ same. let high = is.1 in omega (arith, e, same, high)))) in
    let last : when (eqb k (suc n)) c ≡ c = ap (λ (t : Bool). when t c) (eq-eqb k (suc n) e) in
    omega (arith, none, last))
    (λ (e : k ≡ suc n → ⊥).
    let rest = one_most n k c in
    let last : when (eqb k (suc n)) c ≡ 0 = ap (λ (t : Bool). when t c) (ne_eqb k (suc n) e) in
    omega (arith, rest, last))
    (cases_eq k (suc n))

all_most : (n c : ℕ) → total n (λ i. c) ≤ c * n
all_most zero c = omega arith
all_most (suc n) c = let rest = all_most n c in omega (arith, rest)

-- a list has at most as many numbers as it is long
numbers_most : (n c : ℕ) (xs : List ℕ) → total n (λ b. when (has_number xs b) c) ≤ c * length xs
numbers_most n c [] = let z = total_zero n (λ b. 0) (λ k is. refl) in omega (arith, z)
numbers_most n c (x ∷ xs) =
    let rest = numbers_most n c xs in
    let first = one_most n x c in
    let both = total_le n (λ b. when (eqb x b || has_number xs b) c) (λ b. when (eqb x b) c + when (has_number xs b) c) (λ b _. either (eqb x b) (has_number xs b)) in
    let add = total_add n (λ b. when (eqb x b) c) (λ b. when (has_number xs b) c) in
    omega (arith, rest, first, both, add)
  where
    either : (p q : Bool) → when (p || q) c ≤ when p c + when q c
    either true q = omega arith
    either false q = omega arith

-- a sum over the rows of a list, by their numbers
first_apart : (n : ℕ) (f : ℕ → ℕ) → total (suc n) f ≡ f 1 + total n (λ i. f (suc i))
first_apart zero f = omega arith
first_apart (suc n) f = let rest = first_apart n f in omega (arith, rest)

by_rows : {Row : Type 0} (none : Row) (xs : List Row) (g : Row → ℕ) → total (length xs) (λ t. g (numbered none xs t)) ≡ sum_by g xs
by_rows none [] g = refl
by_rows none (x ∷ xs) g =
    let apart = first_apart (length xs) (λ t. g (numbered none (x ∷ xs) t)) in
    let rest = by_rows none xs g in
    let same : total (length xs) (λ i. g (numbered none (x ∷ xs) (suc i))) ≡ total (length xs) (λ t. g (numbered none xs t)) =
    total_same (length xs) (λ i. g (numbered none (x ∷ xs) (suc i))) (λ t. g (numbered none xs t)) (λ k is. shift k is.0) in
    apart ∙ ap (λ (n : ℕ). g x + n) (same ∙ rest) ∙ sym (sum_by-cons g x xs)
  where
    shift : (k : ℕ) → 1 ≤ k → g (numbered none (x ∷ xs) (suc k)) ≡ g (numbered none xs k)
    shift zero low = absurd (omega (arith, low))
    shift (suc k) low = refl

of_region : (r : ℕ) (xs : List TaskRow) → sum_by (λ (t : TaskRow). when (eqb t.region r) (3 + 18 * length t.blocks)) xs
    ≡ 3 * length (filter (λ (t : TaskRow). eqb t.region r) xs) + 18 * sum_by (λ (t : TaskRow). length t.blocks) (filter (λ (t : TaskRow). eqb t.region r) xs)
of_region r [] = refl
of_region r (x ∷ xs) =
    sum_by-cons (λ (t : TaskRow). when (eqb t.region r) (3 + 18 * length t.blocks)) x xs
    ∙ by (eqb x.region r) (filter (λ (t : TaskRow). eqb t.region r) xs) (sum_by (λ (t : TaskRow). when (eqb t.region r) (3 + 18 * length t.blocks)) xs) (of_region r xs)
  where
    by : (t : Bool) (ys : List TaskRow) (n : ℕ) → n ≡ 3 * length ys + 18 * sum_by (λ (u : TaskRow). length u.blocks) ys
        → when t (3 + 18 * length x.blocks) + n ≡ 3 * length (cond t (x ∷ ys) ys) + 18 * sum_by (λ (u : TaskRow). length u.blocks) (cond t (x ∷ ys) ys)
    by true ys n e =
        let more = sum_by-cons (λ (u : TaskRow). length u.blocks) x ys in
        let all : (3 + 18 * length x.blocks) + n ≡ 3 * suc (length ys) + 18 * sum_by (λ (u : TaskRow). length u.blocks) (x ∷ ys) = omega (arith, e, more) in
        all
    by false ys n e = omega (arith, e)

-- ---- the copies

idle_most : (a : Bool) (c : Option Copy) → a ≡ false → is_in_state is_idle c ≡ true → copy_cost a c ≤ 2
idle_most true c e idle = absurd cc
idle_most false None e idle = absurd cc
idle_most false (Some k) e idle = by k.state idle
  where
    by : (s : CopyState) → is_idle s ≡ true → copy_cost false (Some (record { state = s; versions = k.versions })) ≤ 2
    by Here idle = omega arith
    by Leaving idle = absurd cc
    by Out idle = omega arith
    by Coming idle = absurd cc
    by (Lent t) idle = absurd cc

none_cost : (a : Bool) (c : Option Copy) → is_in_state is_any c ≡ false → copy_cost a c ≡ 0
none_cost a None none = refl
none_cost a (Some k) none = absurd cc

copies_most : (plan : Plan) (st : State) → IsSound plan st → st.region ≡ None → st.pin ≡ None → copies_cost plan st ≤ 2 * blocks plan
copies_most plan st sound out no_pin =
    let swap = total_swap (spaces plan) (blocks plan) (λ s b. copy_cost (not (eqb s (st.homes b))) (st.copies s b)) in
    let each = total_le (blocks plan) (λ b. total (spaces plan) (λ s. copy_cost (not (eqb s (st.homes b))) (st.copies s b))) (λ b. 2) (λ b _. at_block b) in
    let all = all_most (blocks plan) 2 in
    omega (arith, swap, each, all)
  where
    at_space : (s b : ℕ) → copy_cost (not (eqb s (st.homes b))) (st.copies s b) ≤ when (eqb (st.homes b) s) 2
    at_space s b = ⊎_elim
        (λ (there : is_in_state is_any (st.copies s b) ≡ true).
        let home = sound.lives.at_home out s b there in
        let le = idle_most (not (eqb s (st.homes b))) (st.copies s b) (ap not (eq-eqb s (st.homes b) (sym home))) (sound.lives.home_idle out no_pin s b there) in
        let one : when (eqb (st.homes b) s) 2 ≡ 2 = ap (λ (t : Bool). when t 2) (eq-eqb (st.homes b) s home) in
        omega (arith, le, one))
        (λ (none : is_in_state is_any (st.copies s b) ≡ false). let z = none_cost (not (eqb s (st.homes b))) (st.copies s b) none in omega (arith, z))
        (cases_Bool (is_in_state is_any (st.copies s b)))

    at_block : (b : ℕ) → total (spaces plan) (λ s. copy_cost (not (eqb s (st.homes b))) (st.copies s b)) ≤ 2
    at_block b =
        let le = total_le (spaces plan) (λ s. copy_cost (not (eqb s (st.homes b))) (st.copies s b)) (λ s. when (eqb (st.homes b) s) 2) (λ s _. at_space s b) in
        let one = one_most (spaces plan) (st.homes b) 2 in
        omega (arith, le, one)

-- ---- the tasks

touch_most : (plan : Plan) (x : TaskState) (n : ℕ) → n ≤ most_fetch plan → touch_weight plan x n ≤ most_fetch plan
touch_most plan Waiting n le = omega arith
touch_most plan Held n le = le
touch_most plan (Running w) n le = omega arith
touch_most plan Done n le = omega arith

weight_most : (plan : Plan) (t : ℕ) (x : TaskState) (f : ℕ → ℕ) → task_cost plan t x f ≤ 3 + total (blocks plan) (λ b. when (touches plan t b) (touch_weight plan x (f b)))
weight_most plan t Waiting f = omega arith
weight_most plan t Held f = omega arith
weight_most plan t (Running w) f = omega arith
weight_most plan t Done f = omega arith

task_most : (plan : Plan) (t c : ℕ) (x : TaskState) (f : ℕ → ℕ) → most_fetch plan ≤ c → ((b : ℕ) → f b ≤ most_fetch plan) → task_cost plan t x f ≤ 3 + c * length (task_row plan t).blocks
task_most plan t c x f few le =
    let w = weight_most plan t x f in
    let each = total_le (blocks plan) (λ b. when (touches plan t b) (touch_weight plan x (f b))) (λ b. when (touches plan t b) c)
    (λ b _. when_mono (touches plan t b) (touch_weight plan x (f b)) c (λ _. let m = touch_most plan x (f b) (le b) in omega (arith, m, few))) in
    let all = numbers_most (blocks plan) c (task_row plan t).blocks in
    omega (arith, w, each, all)

tasks_most : (plan : Plan) (st : State) (r : ℕ) → IsWellFormed plan → most_fetch plan ≤ 18 → tasks_cost plan st r ≤ 3 * length (tasks_of plan r) + 18 * sum_by (λ (t : TaskRow). length t.blocks) (tasks_of plan r)
tasks_most plan st r well few =
    let each = total_le (tasks plan) (λ t. when (is_of plan r t) (task_cost plan t (st.tasks t) (fetch_cost plan st t))) (λ t. when (eqb (task_row plan t).region r) (3 + 18 * length (task_row plan t).blocks)) (λ t _. at t) in
    let rows = by_rows no_task plan.tasks (λ (t : TaskRow). when (eqb t.region r) (3 + 18 * length t.blocks)) in
    let sums = of_region r plan.tasks in
    omega (arith, each, rows, sums)
  where
    at : (t : ℕ) → when (is_of plan r t) (task_cost plan t (st.tasks t) (fetch_cost plan st t)) ≤ when (eqb (task_row plan t).region r) (3 + 18 * length (task_row plan t).blocks)
    at t = ⊎_elim
        (λ (is : is_of plan r t ≡ true).
        let of : IsOf plan r t = of_true plan r t is in
        let most = task_most plan t 18 (st.tasks t) (fetch_cost plan st t) few
        (λ b. fetch_most plan st t b (own_space plan st t b) (subst (IsOneOf (spaces plan)) (sym (own_task plan st t b of.0.0)) (place_in plan r t well of))) in
        let l : when (is_of plan r t) (task_cost plan t (st.tasks t) (fetch_cost plan st t)) ≡ task_cost plan t (st.tasks t) (fetch_cost plan st t) = ap (λ (u : Bool). when u (task_cost plan t (st.tasks t) (fetch_cost plan st t))) is in
        let g : when (eqb (task_row plan t).region r) (3 + 18 * length (task_row plan t).blocks) ≡ 3 + 18 * length (task_row plan t).blocks = ap (λ (u : Bool). when u (3 + 18 * length (task_row plan t).blocks)) (eq-eqb (task_row plan t).region r of.1) in
        omega (arith, most, l, g))
        (λ (none : is_of plan r t ≡ false).
        let l : when (is_of plan r t) (task_cost plan t (st.tasks t) (fetch_cost plan st t)) ≡ 0 = ap (λ (u : Bool). when u (task_cost plan t (st.tasks t) (fetch_cost plan st t))) none in
        omega (arith, l))
        (cases_Bool (is_of plan r t))

-- ---- the blocks

blocks_most : (plan : Plan) (st : State) (r c : ℕ) → st.pin ≡ None → 2 + most_fetch plan ≤ c → blocks_cost plan st r ≤ c * blocks plan
blocks_most plan st r c no_pin few =
    let each = total_le (blocks plan) (block_cost plan st r) (λ b. c) (λ b _.
    let e : is_pin st.pin (st.homes b) b ≡ false = ap (λ (p : Option (ℕ × ℕ)). is_pin p (st.homes b) b) no_pin in
    let w = weight (is_pin st.pin (st.homes b) b) (any_undone plan st.tasks r || is_stale plan st (st.homes b) b) (fetch_at plan st 0 b (st.homes b)) e in
    omega (arith, w, few)) in
    let all = all_most (blocks plan) c in
    omega (arith, each, all)
  where
    weight : (p w : Bool) (f : ℕ) → p ≡ false → block_weight plan p w f ≤ 2 + most_fetch plan
    weight true w f e = absurd cc
    weight false true f e = omega arith
    weight false false f e = omega arith

-- where a region begins it costs at most its bound, less the two entries that begin and close it
pub begin_most : (plan : Plan) (st : State) (r : ℕ) → IsWellFormed plan → IsSound plan st → MayBegin plan st r → suc (suc (region_cost plan (after plan st (Begin r)) r)) ≤ most_entries plan r
begin_most plan st r well sound may =
    let few : most_fetch plan ≤ 18 = let s = well.limits.spaces in omega (arith, s) in
    let cs = copies_most plan st sound may.outside may.no_pin in
    let ts = tasks_most plan (after plan st (Begin r)) r well few in
    let bs = blocks_most plan (after plan st (Begin r)) r 20 may.no_pin (omega (arith, few)) in
    omega (arith, cs, ts, bs)
