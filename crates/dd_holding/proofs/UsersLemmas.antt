-- What a task that begins or ends leaves of the users of a block.
use Rattle.std.proofs.Common.{◌≡◌, ◌⊎◌, ℕ, zero, suc, ◌+◌, ◌≤◌, Bool, true, false, ◌&&◌, eqb as nat_eq, inl, inr, refl, sym, ap, ◌∙◌, ⊎_elim, arith}
use Rattle.std.proofs.lemmas.Bool.{and_from, and_parts, cases_Bool, cases_eq, eq-eqb, eqb-true}
use Rattle.dd_blocks.specs.declared.plan.Plan.{Plan}
use Rattle.dd_holding.specs.Users.{is_user, users}
use Rattle.dd_machine.specs.declared.task_state.TaskState.{TaskState}
use Rattle.dd_machine.specs.Bytes.{when}
use Rattle.dd_machine.specs.States.{State}
use Rattle.dd_machine.specs.Tests.{is_running}
use Rattle.dd_machine.specs.Words.{IsOneOf, place, tasks, touches}
use Rattle.dd_machine.proofs.TotalsLemmas.{total_less_one, total_same}
use Rattle.dd_stamps.specs.Stamps.{count_below, one_if}

-- the block of the space is one of the task's
abbrev pub is_its : Plan → ℕ → ℕ → ℕ → Bool
is_its plan task space block = nat_eq (place plan task) space && touches plan task block

no_one : (a : Bool) → (a && false) ≡ false
no_one true = refl
no_one false = refl

-- another task's change is not seen
pub same_users : (plan : Plan) (st new : State) (space block task : ℕ) → ((t : ℕ) → (t ≡ task → ⊥) → new.tasks t ≡ st.tasks t) → is_its plan task space block ≡ false
    → users plan new space block ≡ users plan st space block
same_users plan st new space block task others off =
    total_same (tasks plan) (λ t. when (is_user plan new space block t) 1) (λ t. when (is_user plan st space block t) 1) (λ t _. by t)
  where
    none : (known : State) (t : ℕ) → t ≡ task → is_user plan known space block t ≡ false
    none known t same = ap (λ (x : Bool). is_running (known.tasks t) && x) (ap (λ (n : ℕ). is_its plan n space block) same ∙ off) ∙ no_one (is_running (known.tasks t))

    by : (t : ℕ) → when (is_user plan new space block t) 1 ≡ when (is_user plan st space block t) 1
    by t = ⊎_elim
        (λ (same : t ≡ task). ap (λ (x : Bool). when x 1) (none new t same ∙ sym (none st t same)))
        (λ (other : t ≡ task → ⊥). ap (λ (s : TaskState). when (is_running s && is_its plan t space block) 1) (others t other))
        (cases_eq t task)

-- a running task is one of its blocks' users
pub one_user : (plan : Plan) (st : State) (space block task : ℕ) → IsOneOf (tasks plan) task → is_running (st.tasks task) ≡ true → is_its plan task space block ≡ true → 1 ≤ users plan st space block
one_user plan st space block task is running its =
    let user = and_from (is_running (st.tasks task)) (is_its plan task space block) running its in
    let one : when (is_user plan st space block task) 1 ≡ 1 = ap (λ (x : Bool). when x 1) user in
    let less = total_less_one (tasks plan) (λ t. 0) (λ t. when (is_user plan st space block t) 1) task 1 is (λ t _ _. omega arith) (omega (arith, one)) in
    omega (arith, less)

-- one that ends is one less
pub less_users : (plan : Plan) (st new : State) (space block task : ℕ) → IsOneOf (tasks plan) task → ((t : ℕ) → (t ≡ task → ⊥) → new.tasks t ≡ st.tasks t) → is_running (st.tasks task) ≡ true
    → is_running (new.tasks task) ≡ false → is_its plan task space block ≡ true → users plan new space block + 1 ≤ users plan st space block
less_users plan st new space block task is others running done its =
    let user = and_from (is_running (st.tasks task)) (is_its plan task space block) running its in
    let one : when (is_user plan st space block task) 1 ≡ 1 = ap (λ (x : Bool). when x 1) user in
    let none : when (is_user plan new space block task) 1 ≡ 0 = ap (λ (x : Bool). when (x && is_its plan task space block) 1) done in
    total_less_one (tasks plan) (λ t. when (is_user plan new space block t) 1) (λ t. when (is_user plan st space block t) 1) task 1 is
    (λ t _ other. let same : when (is_user plan new space block t) 1 ≡ when (is_user plan st space block t) 1 = ap (λ (s : TaskState). when (is_running s && is_its plan t space block) 1) (others t other) in omega (arith, same))
    (omega (arith, one, none))

-- so many numbers below n at most pass a test
pub count_few : (test : ℕ → Bool) (n : ℕ) → count_below test n ≤ n
count_few test zero = omega arith
count_few test (suc n) =
    let rest = count_few test n in
    let one = one_few (test n) in
    omega (arith, rest, one)
  where
    one_few : (t : Bool) → one_if t ≤ 1
    one_few true = omega arith
    one_few false = omega arith

-- a place is one of the task's, or another
pub its_or_not : (plan : Plan) (task space block : ℕ) → ((space ≡ place plan task) × (touches plan task block ≡ true) × (is_its plan task space block ≡ true)) ⊎ (is_its plan task space block ≡ false)
its_or_not plan task space block = ⊎_elim
    (λ (is : is_its plan task space block ≡ true).
    let parts = and_parts (nat_eq (place plan task) space) (touches plan task block) is in
    inl (sym (eqb-true (place plan task) space parts.0), parts.1, is))
    (λ (no : is_its plan task space block ≡ false). inr no)
    (cases_Bool (is_its plan task space block))

pub is_its_there : (plan : Plan) (task block : ℕ) → touches plan task block ≡ true → is_its plan task (place plan task) block ≡ true
is_its_there plan task block touched = and_from (nat_eq (place plan task) (place plan task)) (touches plan task block) (eq-eqb (place plan task) (place plan task) refl) touched

-- a block of the space that isn't one of the task's isn't touched
pub not_its : (plan : Plan) (task space block : ℕ) → is_its plan task space block ≡ false → space ≡ place plan task → touches plan task block ≡ true → ⊥
not_its plan task space block off same touched =
    let on : is_its plan task space block ≡ true = ap (λ (s : ℕ). is_its plan task s block) same ∙ is_its_there plan task block touched in
    let no : true ≡ false = sym on ∙ off in
    absurd (cc)
