-- What a task stores makes true cells.
use Rattle.std.proofs.Common.{◌≡◌, ℕ, suc, ◌-◌, ◌<◌, ◌≤◌, ℤ, true, false, cond, List, length, sym, ap, ◌∙◌, arith, ⊎_elim}
use Rattle.std.specs.Prelude.{slice_index}
use Rattle.std.proofs.lemmas.Bool.{cases_Bool}
use Rattle.dd_kernels.specs.Lists.{element}
use Rattle.dd_blocks.specs.declared.plan.Plan.{Plan}
use Rattle.dd_blocks.specs.Numbered.{task_row}
use Rattle.dd_meaning.specs.Steps.{computed, world_after}
use Rattle.dd_blocks.specs.Elements.{Element, task_writes}
use Rattle.dd_meaning.specs.Versions.{needed_version}
use Rattle.dd_meaning.specs.Worlds.{filled_world}
use Rattle.dd_stamps.specs.Cells.{AreTrue, blank}
use Rattle.dd_stamps.specs.Cells.{size_of}
use Rattle.dd_meaning.specs.Values.{value_at}
use Rattle.dd_blocks.specs.PlanElements.{element_of}
use Rattle.dd_meaning.specs.Written.{HaveLengths, IsIn, value_stored}
use Rattle.dd_meaning.proofs.StoredLemmas.{stored_any}
use Rattle.dd_meaning.proofs.ValuesLemmas.{NamesArrays, stored_nothing, value_of_version, value_written}

-- the cells of a block after what a task computed was stored are true
pub stored_true : (plan : Plan) (n block : ℕ) (lists : List (List ℤ)) (vs ws : List ℕ) (xs ys : List ℤ) → NamesArrays plan → n < length plan.tasks
    → ((place : ℕ) → place < size_of plan block → IsIn (filled_world plan) (element_of plan block place))
    → lists ≡ computed (world_after plan n) (task_row plan (suc n)) → HaveLengths (task_row plan (suc n)).accesses lists
    → ((place : ℕ) → place < size_of plan block → element ys place ≡ value_stored (task_row plan (suc n)).accesses lists (element_of plan block place) (element xs place))
    → ((place : ℕ) → place < size_of plan block → slice_index ws place ≡ cond (task_writes (task_row plan (suc n)) (element_of plan block place)) (suc n) (slice_index vs place))
    → AreTrue plan block vs xs → AreTrue plan block ws ys
unfolding AreTrue
stored_true plan n block lists vs ws xs ys named lt in_world are long values versions cells = λ place within there.
    let e : Element = element_of plan block place in
    ⊎_elim
    (λ (w : task_writes (task_row plan (suc n)) e ≡ true).
    let version : slice_index ws place ≡ suc n = rw w at (versions place within) in
    values place within
    ∙ stored_any (task_row plan (suc n)).accesses lists e (element xs place) (value_at plan n e) long w
    ∙ ap (λ (l : List (List ℤ)). value_stored (task_row plan (suc n)).accesses l e (value_at plan n e)) are
    ∙ sym (value_written plan e n named (in_world place within) lt)
    ∙ sym (ap (λ (v : ℕ). value_at plan v e) version))
    (λ (o : task_writes (task_row plan (suc n)) e ≡ false).
    let version : slice_index ws place ≡ slice_index vs place = rw o at (versions place within) in
    values place within
    ∙ stored_nothing (task_row plan (suc n)).accesses lists e (element xs place) o
    ∙ cells place within (λ b. there (version ∙ b))
    ∙ sym (ap (λ (v : ℕ). value_at plan v e) version))
    (cases_Bool (task_writes (task_row plan (suc n)) e))

-- a true cell with the version that a task needs has the value that the task finds
pub found_true : (plan : Plan) (n block place : ℕ) (vs : List ℕ) (xs : List ℤ) → NamesArrays plan → n ≤ length plan.tasks → length plan.tasks < blank
    → IsIn (filled_world plan) (element_of plan block place) → place < size_of plan block
    → slice_index vs place ≡ needed_version plan (element_of plan block place) (suc n) → needed_version plan (element_of plan block place) (suc n) ≤ n
    → AreTrue plan block vs xs → element xs place ≡ value_at plan n (element_of plan block place)
unfolding AreTrue
found_true plan n block place vs xs named le few is within needs low cells =
    let e : Element = element_of plan block place in
    let prior : suc n - 1 ≡ n = omega arith in
    cells place within (λ b. absurd (omega (arith, needs, b, low, le, few)))
    ∙ ap (λ (v : ℕ). value_at plan v e) needs
    ∙ ap (λ (m : ℕ). value_at plan (Rattle.dd_meaning.specs.Versions.last_writer plan e m) e) prior
    ∙ sym (value_of_version plan e n named is le)
