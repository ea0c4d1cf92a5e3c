-- What the tables before the first entry are read as.
use Rattle.std.proofs.Common.{◌≡◌, ℕ, zero, suc, ◌+◌, Bool, true, false, cond, List, [], ◌∷◌, get_or, length, map, replicate, Option, None, refl, ap, sym, ◌∙◌}
use Rattle.std.specs.List.{All, slice_get}
use Rattle.std.proofs.Math.Path.{fun_ext}
use Rattle.std.proofs.lemmas.List.{length-replicate}
use Rattle.std.proofs.lemmas.List.Elements.{All-replicate}
use Rattle.dd_blocks.specs.declared.block_row.BlockRow.{BlockRow}
use Rattle.dd_blocks.specs.declared.plan.Plan.{Plan}
use Rattle.dd_blocks.specs.Elements.{Element}
use Rattle.dd_blocks.specs.Numbered.{block_row}
use Rattle.dd_blocks.specs.PlanElements.{number_of}
use Rattle.dd_copies.specs.Numbers.{at_number, or_else}
use Rattle.dd_machine.specs.declared.task_state.TaskState.{TaskState}
use Rattle.dd_machine.specs.declared.task_state.TaskState.TheVariants.{Waiting}
use Rattle.dd_machine.specs.Runs.{start}
use Rattle.dd_machine.specs.States.{Copy}
use Rattle.dd_machine.specs.Tests.{is_active}
use Rattle.dd_machine.specs.Words.{blocks}
use Rattle.dd_recency.specs.Recency.{Recency}
use Rattle.dd_tables.specs.Currents.{current_of, is_element}
use Rattle.dd_tables.specs.Sized.{IsAtWork}
use Rattle.dd_tables.specs.Tables.{homes_of, orders_of, tasks_of}

-- a table all of one thing, as it is read where that is read as no thing is
read_all : {A B : Type 0} (f : A → B) (none x : A) → f x ≡ f none → (n k : ℕ) → f (or_else none (at_number (replicate n x) k)) ≡ f none
read_all f none x same n zero = refl
read_all f none x same n (suc k) = from n k
  where
    from : (n k : ℕ) → f (or_else none (slice_get (replicate n x) k)) ≡ f none
    from zero k = refl
    from (suc n) zero = same
    from (suc n) (suc k) = from n k

pub orders_start : (n room : ℕ) → orders_of (replicate n (record { blocks = []; room = room })) ≡ (λ s. [])
unfolding orders_of
orders_start n room = fun_ext (read_all (λ (o : Recency). o.blocks) (record { blocks = []; room = 0 }) (record { blocks = []; room = room }) refl n)

pub tasks_start : (n : ℕ) → tasks_of (replicate n Waiting) ≡ (λ t. Waiting)
unfolding tasks_of
tasks_start n = fun_ext (read_all (λ (s : TaskState). s) Waiting Waiting refl n)

at_all : {A : Type 0} (x : A) (n k : ℕ) → get_or (replicate n x) k x ≡ x
at_all x zero k = refl
at_all x (suc n) zero = refl
at_all x (suc n) (suc k) = at_all x n k

either : {A : Type 0} (t : Bool) (x : A) → cond t x x ≡ x
either true x = refl
either false x = refl

pub current_start : (plan : Plan) (n : ℕ) → current_of plan (replicate n 0) ≡ (λ e. 0)
unfolding current_of
current_start plan n = fun_ext (λ e. ap (λ (v : ℕ). cond (is_element plan e) v 0) (at_all 0 n (number_of plan e)) ∙ either (is_element plan e) 0)

home_at : (rows : List BlockRow) (k : ℕ) → or_else 0 (slice_get (map (λ (row : BlockRow). row.home) rows) k) ≡ (get_or rows k (record { array = 0; home = 0; size = 0 })).home
home_at [] k = refl
home_at (row ∷ rows) zero = refl
home_at (row ∷ rows) (suc k) = home_at rows k

pub homes_start : (plan : Plan) → homes_of (map (λ (row : BlockRow). row.home) plan.blocks) ≡ (λ b. (block_row plan b).home)
unfolding homes_of
homes_start plan = fun_ext by
  where
    by : (b : ℕ) → or_else 0 (at_number (map (λ (row : BlockRow). row.home) plan.blocks) b) ≡ (block_row plan b).home
    by zero = refl
    by (suc k) = home_at plan.blocks k

pub work_start : (plan : Plan) (n : ℕ) → IsAtWork plan (tasks_of (replicate n Waiting)) (replicate (length plan.procs) 0)
work_start plan n = record {
  procs = length-replicate (length plan.procs) 0;
  active = λ t on. absurd (let off : is_active (tasks_of (replicate n Waiting) t) ≡ false = ap (λ (f : ℕ → TaskState). is_active (f t)) (tasks_start n) in let no : true ≡ false = sym on ∙ off in cc);
  there = λ p t at some. absurd (some (sym (ap (or_else 0) at) ∙ read_all (λ (x : ℕ). x) 0 0 refl (length plan.procs) p));
}

pub room_start : (plan : Plan) (n : ℕ) → All (λ (order : Recency). order.room ≡ blocks plan + 2) (replicate n (record { blocks = []; room = blocks plan + 2 }))
room_start plan n = All-replicate (λ (order : Recency). order.room ≡ blocks plan + 2) n (record { blocks = []; room = blocks plan + 2 }) refl

-- a state all of whose tables are read as those at the start
pub start_is : (plan : Plan) (copies : ℕ → ℕ → Option Copy) (orders : ℕ → List ℕ) (tasks : ℕ → TaskState) (current : Element → ℕ) (homes : ℕ → ℕ)
    → copies ≡ (λ s b. None) → orders ≡ (λ s. []) → tasks ≡ (λ t. Waiting) → current ≡ (λ e. 0) → homes ≡ (λ b. (block_row plan b).home)
    → record { copies = copies; orders = orders; tasks = tasks; current = current; homes = homes; moved = 0; region = None; pin = None; progress = record { row = 0; made = 0 } } ≡ start plan
start_is plan copies orders tasks current homes no_copies no_orders all_wait none_current first_homes =
    rw (no_copies, no_orders, all_wait, none_current, first_homes) refl
