-- Whatever a line says that may stand, what always holds is kept; so the Plan of a text is well formed.
use Rattle.std.proofs.Common.{◌≡◌, ℕ, suc, ◌+◌, ◌≤◌, true, false, List, [], ◌∷◌, length, ℤ, Option, None, Some, refl, sym, subst, ⊎_elim, arith}
use Rattle.std.proofs.lemmas.Bool.{false_from_ne_true}
use Rattle.dd_blocks.specs.declared.plan.Plan.{Plan}
use Rattle.dd_blocks.specs.WellFormed.{IsWellFormed}
use Rattle.dd_script.specs.declared.piece.Piece.{Piece}
use Rattle.dd_script.specs.declared.statement.Statement.{Statement}
use Rattle.dd_script.specs.declared.statement.Statement.TheVariants.{Space, Proc, PolicyIs, PlaceIs, Array, Same, Drop, MoveTo, Region, Task, End, Print, Sum, Moved}
use Rattle.dd_check.specs.Lines.{lines_of}
use Rattle.dd_script.specs.Reads.{Reads}
use Rattle.dd_script.specs.Short.{IsShort}
use Rattle.dd_script.proofs.ShortLemmas.{short_reading}
use Rattle.dd_check.specs.Above.{Above, found_by, is_machine, nothing_above, open_tasks}
use Rattle.dd_check.specs.Effects.{Enters}
use Rattle.dd_check.specs.Faults.{AreClear, AreTaken, IsPlanOf, IsTaken, kinds}
use Rattle.dd_check.specs.Rows.{AreJoined}
use Rattle.dd_check.specs.Sound.{IsSound}
use Rattle.dd_check.proofs.ArrayLemmas.{array_enters}
use Rattle.dd_check.proofs.ClearLemmas.{Clear, clear_of}
use Rattle.dd_check.proofs.EndLemmas.{end_sound}
use Rattle.dd_check.proofs.MachineLemmas.{policy_enters, proc_enters, rule_enters, settle_sound, space_enters}
use Rattle.dd_check.proofs.NameKindsLemmas.{drop_enters, same_enters}
use Rattle.dd_check.proofs.OpenLemmas.{region_enters, task_added}
use Rattle.dd_check.proofs.PushLemmas.{IsReady, line_kept}
use Rattle.dd_check.proofs.ReadLemmas.{few_lines}
use Rattle.dd_check.proofs.RowKindsLemmas.{first_amount, move_enters, moved_enters, print_enters, ready_for, sum_enters}
use Rattle.dd_check.proofs.OpenTaskLemmas.{next_task}
use Rattle.dd_check.proofs.SoundLemmas.{sound_nothing}
use Rattle.dd_check.proofs.WithinLemmas.{blocks_there, lines_limit, well_formed}

unsettled_for : (n : ℕ) (s : Above) (x : Statement) → is_machine x ≡ true → Clear n s x → s.settled ≡ false
unsettled_for n s x machine clear = false_from_ne_true s.settled (λ settled. clear.late (machine, settled))

task_enters : (n : ℕ) (s : Above) (kernel : List ℕ) (scalar : Option ℤ) (pieces : List Piece) (after : Above) → n ≤ lines_limit → IsSound n s → s.settled ≡ true → Clear (suc n) s (Task kernel scalar pieces) → Enters (suc n) s (Task kernel scalar pieces) after → IsSound (suc n) after
task_enters n s kernel scalar pieces after few sound settled clear enters =
    let ready : IsReady s = ready_for n (suc n) s (Task kernel scalar pieces) sound settled refl clear in
    subst (IsSound (suc n)) (sym enters.2) (task_added n s enters.0 sound ready (next_task (suc n) s kernel scalar pieces enters.0 n sound (blocks_there n s sound settled ready.procs few) ready.procs clear enters.1))

end_enters : (n : ℕ) (s : Above) (after : Above) → n ≤ lines_limit → IsSound n s → s.settled ≡ true → Clear (suc n) s End → Enters (suc n) s End after → IsSound (suc n) after
end_enters n s after few sound settled clear enters =
    let ready : IsReady s = ready_for n (suc n) s End sound settled refl clear in
    let joined : AreJoined (length s.plan.tasks) (open_tasks s) enters.0 = enters.1 in
    subst (IsSound (suc n)) (sym enters.2) (rw joined.is (end_sound n s joined.found sound ready (blocks_there n s sound settled ready.procs few) joined.each joined.exact))

-- below s as it is found
kept_found : (n : ℕ) (s : Above) (x : Statement) (after : Above) → n ≤ lines_limit → IsShort x → IsSound n s → (is_machine x ≡ false → s.settled ≡ true) → Clear (suc n) s x → Enters (suc n) s x after → IsSound (suc n) after
kept_found n s (Space name limit) after few short sound settled clear enters = subst (IsSound (suc n)) (sym enters) (space_enters n s sound (unsettled_for (suc n) s (Space name limit) refl clear) name limit short (first_amount n (suc n) s (Space name limit) _ _ clear refl))
kept_found n s (Proc name space) after few short sound settled clear enters = subst (IsSound (suc n)) (sym enters) (proc_enters n s sound (unsettled_for (suc n) s (Proc name space) refl clear) name space short clear.unknown (first_amount n (suc n) s (Proc name space) _ _ clear refl))
kept_found n s (PolicyIs policy) after few short sound settled clear enters = subst (IsSound (suc n)) (sym enters) (policy_enters n s sound (unsettled_for (suc n) s (PolicyIs policy) refl clear) policy)
kept_found n s (PlaceIs rule) after few short sound settled clear enters = subst (IsSound (suc n)) (sym enters) (rule_enters n s sound (unsettled_for (suc n) s (PlaceIs rule) refl clear) rule)
kept_found n s (Array name rows cols brows bcols fill) after few short sound settled clear enters = subst (IsSound (suc n)) (sym enters) (array_enters n s name rows cols brows bcols fill sound (settled refl) clear)
kept_found n s (Same name old) after few short sound settled clear enters = subst (IsSound (suc n)) (sym enters) (same_enters n s sound (settled refl) name old clear)
kept_found n s (Drop name) after few short sound settled clear enters = subst (IsSound (suc n)) (sym enters) (drop_enters n s sound (settled refl) name clear)
kept_found n s (MoveTo name space) after few short sound settled clear enters = subst (IsSound (suc n)) (sym enters) (move_enters n s sound (settled refl) name space clear)
kept_found n s Region after few short sound settled clear enters = subst (IsSound (suc n)) (sym enters) (region_enters n s sound (settled refl) clear)
kept_found n s (Task kernel scalar pieces) after few short sound settled clear enters = task_enters n s kernel scalar pieces after few sound (settled refl) clear enters
kept_found n s End after few short sound settled clear enters = end_enters n s after few sound (settled refl) clear enters
kept_found n s (Print name) after few short sound settled clear enters = subst (IsSound (suc n)) (sym enters) (print_enters n s sound (settled refl) name clear)
kept_found n s (Sum name) after few short sound settled clear enters = subst (IsSound (suc n)) (sym enters) (sum_enters n s sound (settled refl) name short clear)
kept_found n s Moved after few short sound settled clear enters = subst (IsSound (suc n)) (sym enters) (moved_enters n s sound (settled refl) clear)

-- what a statement finds
pub found_sound : (n : ℕ) (s : Above) (x : Statement) → IsSound n s → IsSound n (found_by s x)
found_sound n s (Space name limit) sound = sound
found_sound n s (Proc name space) sound = sound
found_sound n s (PolicyIs policy) sound = sound
found_sound n s (PlaceIs rule) sound = sound
found_sound n s (Array name rows cols brows bcols fill) sound = settle_sound n s sound
found_sound n s (Same name old) sound = settle_sound n s sound
found_sound n s (Drop name) sound = settle_sound n s sound
found_sound n s (MoveTo name space) sound = settle_sound n s sound
found_sound n s Region sound = settle_sound n s sound
found_sound n s (Task kernel scalar pieces) sound = settle_sound n s sound
found_sound n s End sound = settle_sound n s sound
found_sound n s (Print name) sound = settle_sound n s sound
found_sound n s (Sum name) sound = settle_sound n s sound
found_sound n s Moved sound = settle_sound n s sound

found_settled : (s : Above) (x : Statement) → is_machine x ≡ false → (found_by s x).settled ≡ true
found_settled s x other = rw other refl

pub kept : (n : ℕ) (s : Above) (x : Statement) (after : Above) → n ≤ lines_limit → IsShort x → IsSound n s → AreClear (suc n) (found_by s x) x kinds → Enters (suc n) (found_by s x) x after → IsSound (suc n) after
kept n s x after few short sound clear enters =
    kept_found n (found_by s x) x after few short (found_sound n s x sound) (found_settled s x) (clear_of (suc n) (found_by s x) x clear) enters

-- a line that says nothing
pub kept_blank : (n : ℕ) (s : Above) → IsSound n s → IsSound (suc n) s
kept_blank n s sound = record {
  machine = sound.machine;
  names_rows = sound.names_rows;
  layout = sound.layout;
  tasks = sound.tasks;
  homes = sound.homes;
  limits = sound.limits;
  regions = sound.regions;
  lives = sound.lives;
  names = sound.names;
  region = sound.region;
  line = line_kept n s s sound.line refl (omega (arith, sound.line.tasks));
}

pub taken_sound : (n : ℕ) (s : Above) (line : List ℕ) (after : Above) → n ≤ lines_limit → IsSound n s → IsTaken (suc n) s line after → IsSound (suc n) after
taken_sound n s line after few sound taken = ⊎_elim
    (λ (blank : Reads line None × (after ≡ s)). subst (IsSound (suc n)) (sym blank.1) (kept_blank n s sound))
    (λ (says : (x : Statement) × Reads line (Some x) × AreClear (suc n) (found_by s x) x kinds × Enters (suc n) (found_by s x) x after).
    kept n s says.0 after few (short_reading line says.0 says.1) sound says.2 says.3)
    taken

pub lines_sound : (lines : List (List ℕ)) (n : ℕ) (s after : Above) → n + length lines ≤ lines_limit → IsSound n s → AreTaken (suc n) s lines after → IsSound (n + length lines) after
lines_sound [] n s after few sound taken =
    let none : n + 0 ≡ n = omega arith in
    subst (λ (m : ℕ). IsSound m after) (sym none) (subst (IsSound n) (sym taken) sound)
lines_sound (line ∷ lines) n s after few sound taken =
    let next : IsSound (suc n) taken.0 = taken_sound n s line taken.0 (omega arith) sound taken.1 in
    let more : suc n + 1 ≡ suc (suc n) = omega arith in
    let long : suc n + length lines ≡ n + suc (length lines) = omega arith in
    subst (λ (m : ℕ). IsSound m after) long (lines_sound lines (suc n) taken.0 after (omega arith) next (subst (λ (m : ℕ). AreTaken m taken.0 lines after) more taken.2))

pub sound_text : (text : List ℕ) (plan : Plan) → IsPlanOf text plan → IsWellFormed plan
sound_text text plan of =
    let few : length (lines_of text) ≤ length text = few_lines text in
    let all : IsSound (0 + length (lines_of text)) of.after = lines_sound (lines_of text) 0 nothing_above of.after (omega (arith, of.short)) sound_nothing of.taken in
    subst IsWellFormed (sym of.is) (well_formed (0 + length (lines_of text)) of.after all (omega (arith, of.short)))
