-- Where the first tasks are done and no others, the current values are those of the world after them.
use Rattle.std.proofs.Common.{◌≡◌, ℕ, zero, suc, ◌<◌, ◌≤◌, ℤ, true, false, List, [], ◌∷◌, length, map, refl, ap, ◌∙◌, ⊎_elim, arith}
use Rattle.std.proofs.lemmas.Bool.{cases_Bool, cases_eq}
use Rattle.std.proofs.lemmas.List.{get_or-map}
use Rattle.std.proofs.lemmas.List.FromFn.{length-map-range_with_len}
use Rattle.dd_blocks.specs.declared.access_row.AccessRow.{AccessRow}
use Rattle.dd_blocks.specs.declared.array_row.ArrayRow.{ArrayRow}
use Rattle.dd_blocks.specs.declared.plan.Plan.{Plan}
use Rattle.dd_blocks.specs.Elements.{Element, task_writes}
use Rattle.dd_blocks.specs.Grids.{element_count}
use Rattle.dd_blocks.specs.Numbered.{IsNumberIn, array_row, no_array, numbered, task_row}
use Rattle.dd_blocks.specs.WellFormed.{IsWellFormed}
use Rattle.dd_machine.specs.Sound.{IsSound}
use Rattle.dd_machine.specs.States.{State}
use Rattle.dd_machine.specs.Tests.{is_done}
use Rattle.dd_machine.specs.Words.{tasks, writes}
use Rattle.dd_machine.proofs.TestsLemmas.{done_is}
use Rattle.dd_meaning.specs.Steps.{computed, stored, stored_one, world_after}
use Rattle.dd_meaning.specs.Worlds.{World, filled, filled_at, filled_world, values_of}
use Rattle.dd_meaning.proofs.ValuesLemmas.{AreNamed, NamesArrays, names_arrays, unwritten_stays, world_next}
use Rattle.dd_meaning.proofs.WorldLemmas.{stored_length}
use Rattle.dd_print.specs.Held.{AreDone, current_value, values_now}
use Rattle.dd_print.proofs.HeldLemmas.{listed}
use Rattle.laws_of_versions.proofs.ConflictLemmas.{writer_within}

numbered_map : {A : Type 0} (f : ArrayRow → List A) (rows : List ArrayRow) (n : ℕ) → IsNumberIn rows n → numbered [] (map f rows) n ≡ f (numbered no_array rows n)
numbered_map f rows zero is = absurd (omega (arith, is.0))
numbered_map f rows (suc n) is = get_or-map f rows n no_array [] (omega (arith, is.1))

-- tasks leave the lengths of arrays
stored_lengths : (accesses : List AccessRow) (lists : List (List ℤ)) (world : World) (n : ℕ) → AreNamed accesses → length (values_of (stored world accesses lists) n) ≡ length (values_of world n)
stored_lengths [] lists world n named = refl
stored_lengths (a ∷ more) [] world n named = refl
stored_lengths (a ∷ more) (values ∷ lists) world n named =
    stored_lengths more lists (stored_one world a values) n (λ k d lt. named (suc k) d (omega (arith, lt))) ∙ stored_length world a values n (named 0 a (omega arith))

lengths_after : (plan : Plan) (n array : ℕ) → NamesArrays plan → n ≤ tasks plan → length (values_of (world_after plan n) array) ≡ length (values_of (filled_world plan) array)
lengths_after plan zero array named le = refl
lengths_after plan (suc n) array named le =
    ap (λ (w : World). length (values_of w array)) (world_next plan n (omega (arith, le)))
    ∙ stored_lengths (task_row plan (suc n)).accesses (computed (world_after plan n) (task_row plan (suc n))) (world_after plan n) array (named n (omega (arith, le)))
    ∙ lengths_after plan n array named (omega (arith, le))

-- the current version of an element is among the first tasks, and no later one of them writes it
current_within : (plan : Plan) (st : State) (n : ℕ) (e : Element) → IsSound plan st → AreDone plan st n → st.current e ≤ n
current_within plan st n e sound done = ⊎_elim
    (λ (none : st.current e ≡ 0). omega (arith, none))
    (λ (some : st.current e ≡ 0 → ⊥).
    let c = sound.lives.current_done e some in
    done.first (st.current e) (writer_within plan (st.current e) e c.1) (ap is_done c.0))
    (cases_eq (st.current e) 0)

unwritten : (plan : Plan) (st : State) (n t : ℕ) (e : Element) → IsSound plan st → AreDone plan st n → st.current e < t → t ≤ n → task_writes (task_row plan t) e ≡ false
unfolding writes
unwritten plan st n t e sound done low high = ⊎_elim
    (λ (wrote : task_writes (task_row plan t) e ≡ true).
    let last = sound.versions.current_last e t (done_is (st.tasks t) (done.all t (writer_within plan t e wrote) high)) wrote in
    absurd (omega (arith, low, last)))
    (λ (none : task_writes (task_row plan t) e ≡ false). none)
    (cases_Bool (task_writes (task_row plan t) e))

pub done_values : (plan : Plan) (st : State) (n array : ℕ) → IsWellFormed plan → IsSound plan st → n ≤ tasks plan → AreDone plan st n → IsNumberIn plan.arrays array
    → values_of (world_after plan n) array ≡ values_now plan st array
done_values plan st n array well sound few done is =
    let count = element_count (array_row plan array).grid in
    let long : length (values_of (world_after plan n) array) ≡ count =
    lengths_after plan n array (names_arrays plan well) few ∙ ap length (numbered_map filled plan.arrays array is) ∙ length-map-range_with_len (filled_at (array_row plan array).fill) 0 count in
    listed (λ p. current_value plan st (record { array = array; pos = p })) (values_of (world_after plan n) array) count long (λ p lt.
    let e : Element = record { array = array; pos = p } in
    unwritten_stays plan e (st.current e) n well is lt (current_within plan st n e sound done) few (λ t low high. unwritten plan st n t e sound done low high))
