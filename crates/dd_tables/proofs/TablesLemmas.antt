-- What a changed item makes of a table.
use Rattle.std.proofs.Common.{◌≡◌, ℕ, zero, suc, ◌-◌, ◌<◌, Bool, cond, not, List, [], ◌∷◌, get_or, length, set, Option, Result, Ok, Err, OnOk, refl, ap, sym, ◌∙◌, subst, arith}
use Rattle.std.specs.List.{Contains, slice_get}
use Rattle.std.proofs.lemmas.Option.{slice_get-get_or}
use Rattle.std.proofs.Math.Path.{fun_ext}
use Rattle.std.proofs.lemmas.Bool.{ne_eqb}
use Rattle.dd_recency.specs.Recency.{Recency, without}
use Rattle.dd_machine.specs.declared.task_state.TaskState.{TaskState}
use Rattle.dd_machine.specs.declared.task_state.TaskState.TheVariants.{Waiting}
use Rattle.dd_machine.specs.States.{at_one}
use Rattle.dd_machine.specs.Words.{IsOneOf}
use Rattle.dd_copies.specs.Numbers.{or_else}
use Rattle.dd_copies.proofs.CellsLemmas.{one_set}
use Rattle.dd_tables.specs.Tables.{HasRoom, homes_of, orders_of, tasks_of}

pub tasks_set : (states : List TaskState) (task : ℕ) (new : TaskState) → IsOneOf (length states) task → tasks_of (set states (task - 1) new) ≡ at_one (tasks_of states) task new
unfolding tasks_of at_one
tasks_set states task new is = fun_ext (one_set (λ s. s) Waiting states task new is)

pub orders_set : (orders : List Recency) (space : ℕ) (new : Recency) → IsOneOf (length orders) space → orders_of (set orders (space - 1) new) ≡ at_one (orders_of orders) space new.blocks
unfolding orders_of at_one
orders_set orders space new is = fun_ext (one_set (λ (o : Recency). o.blocks) (record { blocks = []; room = 0 }) orders space new is)

pub order_read : (orders : List Recency) (space : ℕ) (d : Recency) → IsOneOf (length orders) space → orders_of orders space ≡ (get_or orders (space - 1) d).blocks
unfolding orders_of
order_read orders zero d is = absurd (let l = is.0 in omega (arith, l))
order_read orders (suc n) d is =
    let e : suc n - 1 ≡ n = omega arith in
    rw e (ap (λ (o : Option Recency). (or_else (record { blocks = []; room = 0 }) o).blocks) (slice_get-get_or orders n d (let h = is.1 in omega (arith, h))))

-- a number that a list has not
pub without_none : (xs : List ℕ) (n : ℕ) → (Contains xs n → ⊥) → without n xs ≡ xs
without_none [] n none = refl
without_none (x ∷ xs) n none =
    ap (λ (t : Bool). cond (not t) (x ∷ without n xs) (without n xs)) (ne_eqb n x (λ e. none (0, omega arith, sym e)))
    ∙ ap (λ ys. x ∷ ys) (without_none xs n (λ h. none (suc h.0, omega (arith, h.1), h.2)))

pub room_read : (orders : List Recency) (space : ℕ) (d : Recency) → IsOneOf (length orders) space → HasRoom orders space → length (get_or orders (space - 1) d).blocks < (get_or orders (space - 1) d).room
unfolding HasRoom
room_read orders zero d is room = absurd (let l = is.0 in omega (arith, l))
room_read orders (suc n) d is room =
    let e : suc n - 1 ≡ n = omega arith in
    let at : or_else (record { blocks = []; room = 0 }) (slice_get orders n) ≡ get_or orders n d =
    ap (or_else (record { blocks = []; room = 0 })) (slice_get-get_or orders n d (let h = is.1 in omega (arith, h))) in
    rw e (subst (λ (o : Recency). length o.blocks < o.room) at room)

pub on_ok : {T E P Q : Type 0} (r : Result T E) → (P → Q) → OnOk r P → OnOk r Q
on_ok (Ok x) f h = f h
on_ok (Err e) f h = h

pub homes_set : (homes : List ℕ) (block new : ℕ) → IsOneOf (length homes) block → homes_of (set homes (block - 1) new) ≡ at_one (homes_of homes) block new
unfolding homes_of at_one
homes_set homes block new is = fun_ext (one_set (λ h. h) 0 homes block new is)
