-- A list with a value in a run of places.
use Rattle.std.proofs.Common.{◌≡◌, ℕ, ◌+◌, ◌≤◌, ◌&&◌, leb, ltb, cond, List, length, get_or, ap, ◌∙◌, arith}
use Rattle.std.proofs.lemmas.Bool.Decides.{nat_tests}
use Rattle.std.proofs.lemmas.List.{places, length-append, length-take, length-drop, length-replicate}
use Rattle.dd_spans.specs.PlaceMap.{with_copied, with_run}

pub length_with_run : (first count value : ℕ) (ns : List ℕ) → first + count ≤ length ns → length (with_run first count value ns) ≡ length ns
length_with_run first count value ns within = simp (length-append, length-take, length-drop, length-replicate) (omega arith)

pub with_run_at : (first count value : ℕ) (ns : List ℕ) (place : ℕ) → first + count ≤ length ns
    → get_or (with_run first count value ns) place 0 ≡ cond (leb first place && ltb place (first + count)) value (get_or ns place 0)
with_run_at first count value ns place within = grind (arith, places, nat_tests)

-- place by place, of a list that is known to be that one
pub with_run_places : (xs ns : List ℕ) (first count value : ℕ) → first + count ≤ length ns → xs ≡ with_run first count value ns
    → (place : ℕ) → get_or xs place 0 ≡ cond (leb first place && ltb place (first + count)) value (get_or ns place 0)
with_run_places xs ns first count value within is place = ap (λ (l : List ℕ). get_or l place 0) is ∙ with_run_at first count value ns place within

-- ---- the same of places that take what another list has

pub length_with_copied : (first count : ℕ) (other ns : List ℕ) → first + count ≤ length ns → first + count ≤ length other → length (with_copied first count other ns) ≡ length ns
length_with_copied first count other ns within there = simp (length-append, length-take, length-drop) (omega arith)

pub with_copied_at : (first count : ℕ) (other ns : List ℕ) (place : ℕ) → first + count ≤ length ns → first + count ≤ length other
    → get_or (with_copied first count other ns) place 0 ≡ cond (leb first place && ltb place (first + count)) (get_or other place 0) (get_or ns place 0)
with_copied_at first count other ns place within there = grind (arith, places, nat_tests)

pub with_copied_places : (xs other ns : List ℕ) (first count : ℕ) → first + count ≤ length ns → first + count ≤ length other → xs ≡ with_copied first count other ns
    → (place : ℕ) → get_or xs place 0 ≡ cond (leb first place && ltb place (first + count)) (get_or other place 0) (get_or ns place 0)
with_copied_places xs other ns first count within there is place = ap (λ (l : List ℕ). get_or l place 0) is ∙ with_copied_at first count other ns place within there
