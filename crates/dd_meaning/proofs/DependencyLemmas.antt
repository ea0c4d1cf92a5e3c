-- A version that a task reads was made by a task that must precede it.
use Rattle.std.proofs.Common.{◌≡◌, ◌≢◌, ℕ, ◌-◌, ◌<◌, true, arith}
use Rattle.std.specs.List.{Contains}
use Rattle.dd_blocks.specs.declared.plan.Plan.{Plan}
use Rattle.dd_blocks.specs.Elements.{Element, task_reads, task_writes}
use Rattle.dd_blocks.specs.Numbered.{task_row}
use Rattle.dd_blocks.specs.WellFormed.{IsWellFormed}
use Rattle.dd_blocks.proofs.ElementsLemmas.{conflict_of, reader_within, use_of_read}
use Rattle.dd_meaning.specs.Versions.{needed_version}
use Rattle.dd_meaning.proofs.LatestLemmas.{latest_le, latest_passes}

-- the task that made it stands above, and writes the element
pub needed_before : (plan : Plan) (e : Element) (t : ℕ) → needed_version plan e t ≢ 0 → needed_version plan e t < t
needed_before plan e t some = omega (arith, latest_le (λ u. task_writes (task_row plan u) e) (t - 1), some)

pub needed_written : (plan : Plan) (e : Element) (t : ℕ) → needed_version plan e t ≢ 0 → task_writes (task_row plan (needed_version plan e t)) e ≡ true
needed_written plan e t some = latest_passes (λ u. task_writes (task_row plan u) e) (t - 1) some

pub needed_depends : (plan : Plan) (t : ℕ) (e : Element) → IsWellFormed plan → task_reads (task_row plan t) e ≡ true → needed_version plan e t ≢ 0
    → (task_row plan (needed_version plan e t)).region ≡ (task_row plan t).region → Contains (task_row plan t).deps (needed_version plan e t)
needed_depends plan t e well reads some same =
    let v : ℕ = needed_version plan e t in
    let conflict = conflict_of (task_row plan v) (task_row plan t) e (needed_written plan e t some) (use_of_read (task_row plan t) e reads) in
    ((well.tasks t (reader_within plan t e reads)).deps v).1 ((omega (arith, some), needed_before plan e t some, conflict), same)
