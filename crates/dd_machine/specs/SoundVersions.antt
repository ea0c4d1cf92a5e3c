-- The sound state: which versions the copies have.
use Rattle.std.specs.Prelude.{◌≡◌, ◌≢◌, ◌⊎◌, ℕ, ◌≤◌, ◌<◌, true, false, length, Some}
use Rattle.dd_blocks.specs.declared.plan.Plan.{Plan}
use Rattle.dd_blocks.specs.Numbered.{task_row}
use Rattle.dd_meaning.specs.Versions.{last_writer_among, needed_version}
use Rattle.dd_blocks.specs.Elements.{Element}
use Rattle.dd_machine.specs.declared.task_state.TaskState.TheVariants.{Done}
use Rattle.dd_machine.specs.Legal.{AllDone}
use Rattle.dd_machine.specs.Needed.{source, version}
use Rattle.dd_machine.specs.States.{State, blank}
use Rattle.dd_machine.specs.Tests.{Has, is_any, is_done, is_running, is_waiting, versions_of}
use Rattle.dd_machine.specs.Words.{IsOf, element, has_number, place, reads, size, tasks, writes}

-- a version that some copy has of an element: at most the current one, and 0 or that of a task that is done and writes it
abbrev pub IsKnown : Plan → State → Element → ℕ → Type 0
IsKnown plan st e v = (v ≤ st.current e) × (v ≢ 0 → (st.tasks v ≡ Done) × (writes plan v e ≡ true))

-- a copy has the current version of place i
abbrev pub HasCurrent : Plan → State → ℕ → ℕ → ℕ → Type 0
HasCurrent plan st space block i = Has st space block is_any × (version st space block i ≡ st.current (element plan block i))

-- the task is Running, or it is Done while another task of the region isn't
abbrev pub StillCounts : Plan → State → ℕ → ℕ → Type 0
StillCounts plan st region t = (is_running (st.tasks t) ≡ true) ⊎ ((st.tasks t ≡ Done) × ((u : ℕ) × IsOf plan region u × (st.tasks u ≢ Done)))

pub record SoundVersions (plan : Plan) (st : State) : Type 0 where
  -- the current version of an element is the greatest done task that writes it, or 0
  pub current_is : (e : Element) → st.current e ≡ last_writer_among plan (λ t. is_done (st.tasks t)) e (tasks plan)
  -- a task that doesn't wait has its dependencies done; no done task writes an element above its current version
  pub deps_done : (t d : ℕ) → is_waiting (st.tasks t) ≡ false → has_number (task_row plan t).deps d ≡ true → st.tasks d ≡ Done
  pub current_last : (e : Element) (u : ℕ) → st.tasks u ≡ Done → writes plan u e ≡ true → u ≤ st.current e
  -- a copy has a version for each place, and each that isn't blank is known
  pub sized : (s b : ℕ) → Has st s b is_any → length (versions_of (st.copies s b)) ≡ size plan b
  pub version_known : (s b i : ℕ) → Has st s b is_any → i < size plan b → version st s b i ≢ blank → IsKnown plan st (element plan b i) (version st s b i)
  -- the source of an element has its current version, or every task is done and the home has it
  pub source_holds : (r b i : ℕ) → st.region ≡ Some r → Has st (st.homes b) b is_any → i < size plan b
      → HasCurrent plan st (source plan st b i) b i ⊎ (AllDone plan st r × HasCurrent plan st (st.homes b) b i)
  -- each element that a task reads which is Running, or Done while another task of the region isn't: its space has a copy with
  -- the version that the task needs, or the element was written over since
  pub reads_kept : (r t b i : ℕ) → st.region ≡ Some r → IsOf plan r t → StillCounts plan st r t → i < size plan b → reads plan t (element plan b i) ≡ true
      → Has st (place plan t) b is_any × ((version st (place plan t) b i ≡ needed_version plan (element plan b i) t) ⊎ (needed_version plan (element plan b i) t < st.current (element plan b i)))
