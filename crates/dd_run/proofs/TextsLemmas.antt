-- The text of a run, row by row: entries of a row change the lines below no other.
use Rattle.std.proofs.Common.{◌≡◌, ◌⊎◌, inl, inr, ⊎_elim, leb, ℕ, suc, ◌+◌, ◌-◌, ◌<◌, ◌≤◌, Bool, true, false, not, ◌||◌, cond, List, [], ◌∷◌, ◌++◌, length, drop, take, take_all, Option, refl, ap, sym, ◌∙◌, append_assoc, arith}
use Rattle.std.specs.Io.KnownBytes.{Appends}
use Rattle.std.specs.List.{flat_map, list_any, range_with_len}
use Rattle.std.proofs.lemmas.Bool.{cases_Bool, leb-false, leb-true}
use Rattle.std.proofs.Math.Seq.{drop-append_seam}
use Rattle.std.proofs.lemmas.List.{length-append}
use Rattle.dd_blocks.specs.declared.plan.Plan.{Plan}
use Rattle.dd_blocks.specs.Lines.{LinesRise}
use Rattle.dd_causes.specs.Appended.{AppendsFront}
use Rattle.dd_causes.proofs.AppendedLemmas.{appends_then}
use Rattle.dd_machine.specs.declared.entry.Entry.{Entry}
use Rattle.dd_machine.specs.declared.event.Event.{Event}
use Rattle.dd_machine.specs.Journal.{entries_at, journal_lines}
use Rattle.dd_machine.specs.Runs.{has_pick, is_pick}
use Rattle.dd_machine.specs.Words.{rows}
use Rattle.dd_meaning.specs.Text.{row_text}
use Rattle.dd_run.specs.Texts.{HasEntriesOf, IsTold, WritesPrefix, first_parts, lines_below, row_part, whole_text}
use Rattle.dd_run.proofs.RowsLemmas.{text_up}
use Rattle.laws_of_rows.specs.Rows.{entries_now}
use Rattle.laws_of_rows.specs.Texts.{HasNoneFrom}
use Rattle.laws_of_rows.proofs.JournalLemmas.{entries_here, entries_other}
use Rattle.laws_of_rows.proofs.TextLemmas.{text_all, text_front, text_next, text_same}

-- ---- slots that tell

no_pick_more : (b c d : Bool) → (not c ≡ true → not d ≡ true) → not (b || c) ≡ true → not (b || d) ≡ true
no_pick_more true c d more is = is
no_pick_more false c d more is = more is

no_pick_before : (xs ys : List Entry) → not (has_pick (xs ++ ys)) ≡ true → not (has_pick xs) ≡ true
unfolding has_pick
no_pick_before [] ys is = refl
no_pick_before (x ∷ xs) ys is =
    no_pick_more (is_pick x.event) (list_any (λ (e : Entry). is_pick e.event) (xs ++ ys)) (list_any (λ (e : Entry). is_pick e.event) xs) (no_pick_before xs ys) is

-- what is told at the end was told before
pub told_before : (tells : Bool) (xs ys : List Entry) → IsTold tells (xs ++ ys) → IsTold tells xs
told_before true xs ys is = refl
told_before false xs ys is = no_pick_before xs ys is

-- ---- the lines below rows

-- the rows above are as they were
pub parts_stay : (plan : Plan) (logged : Bool) (i : ℕ) (old : List Entry) (events : List Event) → (logged ≡ true → LinesRise plan) → i < rows plan
    → first_parts plan logged (old ++ entries_now plan i events) i ≡ first_parts plan logged old i
parts_stay plan false i old events rise lt = refl
parts_stay plan true i old events rise lt =
    text_same plan (lines_below plan true (old ++ entries_now plan i events)) (lines_below plan true old) i
    (λ j low. ap journal_lines (entries_other plan i j old events (rise refl) lt (omega (arith, low, lt)) (λ same. absurd (omega (arith, low, same)))))

-- the row has its entries
pub part_is : (plan : Plan) (logged : Bool) (i : ℕ) (old : List Entry) (events : List Event) → (logged ≡ true → HasNoneFrom plan i old) → i < rows plan
    → row_part plan logged (old ++ entries_now plan i events) i ≡ row_text plan i ++ cond logged (journal_lines (entries_now plan i events)) []
part_is plan false i old events none lt = refl
part_is plan true i old events none lt = ap (λ (es : List Entry). row_text plan i ++ journal_lines es) (entries_here plan i old events (none refl i (omega arith) lt))

-- those of the rows so far, and the next
pub parts_next : (plan : Plan) (logged : Bool) (i : ℕ) (old : List Entry) (events : List Event) → (logged ≡ true → LinesRise plan) → i < rows plan
    → first_parts plan logged (old ++ entries_now plan i events) (suc i) ≡ first_parts plan logged old i ++ row_part plan logged (old ++ entries_now plan i events) i
parts_next plan logged i old events rise lt =
    let new = old ++ entries_now plan i events in
    text_next plan (lines_below plan logged new) i ∙ ap (λ (l : List ℕ). l ++ row_part plan logged new i) (parts_stay plan logged i old events rise lt)

-- all parts are the whole
pub parts_all : (plan : Plan) (logged : Bool) (journal : List Entry) → first_parts plan logged journal (rows plan) ≡ whole_text plan logged journal
parts_all plan true journal = sym (text_all plan (λ above. journal_lines (entries_at plan journal (suc above))))
parts_all plan false journal = sym (text_all plan (λ above. []))

-- the first ones stand at the front of the whole
pub whole_front : (plan : Plan) (logged : Bool) (journal : List Entry) (i : ℕ) → i ≤ rows plan → (rest : List ℕ) × (whole_text plan logged journal ≡ first_parts plan logged journal i ++ rest)
whole_front plan true journal i le =
    let after : ℕ → List ℕ = λ above. journal_lines (entries_at plan journal (suc above)) in
    (flat_map (λ j. row_text plan j ++ after j) (range_with_len i (rows plan - i)), text_front plan after i le)
whole_front plan false journal i le =
    let after : ℕ → List ℕ = λ above. [] in
    (flat_map (λ j. row_text plan j ++ after j) (range_with_len i (rows plan - i)), text_front plan after i le)

-- ---- a prefix

less_front : (xs ys : List ℕ) → length xs ≤ length (xs ++ ys)
less_front [] ys = omega arith
less_front (x ∷ xs) ys = let more = less_front xs ys in omega (arith, more)

-- a row ended early: the parts of the rows above were written, and a front of its own
pub prefix_at : (plan : Plan) (logged : Bool) (i : ℕ) (journal : List Entry) (first middle last : Option (List ℕ)) → i < rows plan → ((j : ℕ) → j ≤ i → HasEntriesOf plan journal j)
    → Appends first middle (first_parts plan logged journal i) → AppendsFront middle last (row_part plan logged journal i) → WritesPrefix plan logged journal first last
prefix_at plan logged i journal first middle last lt has above front = record {
  done = so_far ++ front.front.done;
  left = front.left ++ below.0;
  prefix = below.1 ∙ ap (λ (l : List ℕ). l ++ below.0) (parts ∙ ap (λ (l : List ℕ). so_far ++ l) front.front.split ∙ sym (append_assoc so_far front.front.done front.left))
      ∙ append_assoc (so_far ++ front.front.done) front.left below.0;
  written = appends_then first middle last so_far front.front.done above front.front.grown;
  entries = λ j within less. by j (le_or j) less;
}
  where
    so_far : List ℕ
    so_far = first_parts plan logged journal i

    below : (rest : List ℕ) × (whole_text plan logged journal ≡ first_parts plan logged journal (suc i) ++ rest)
    below = whole_front plan logged journal (suc i) lt

    parts : first_parts plan logged journal (suc i) ≡ so_far ++ row_part plan logged journal i
    parts = text_next plan (lines_below plan logged journal) i

    le_or : (j : ℕ) → (j ≤ i) ⊎ (suc i ≤ j)
    le_or j = ⊎_elim (λ (e : leb j i ≡ true). inl (leb-true j i e)) (λ (e : leb j i ≡ false). inr (let h = leb-false j i e in omega (arith, h))) (cases_Bool (leb j i))

    by : (j : ℕ) → (j ≤ i) ⊎ (suc i ≤ j) → length (first_parts plan logged journal j) < length (so_far ++ front.front.done) → HasEntriesOf plan journal j
    by j (inl low) less = has j low
    by j (inr high) less =
        let up = text_up plan (lines_below plan logged journal) (suc i) j high in
        let whole : length (first_parts plan logged journal (suc i)) ≡ length ((so_far ++ front.front.done) ++ front.left) =
        ap (λ (l : List ℕ). length l) (parts ∙ ap (λ (l : List ℕ). so_far ++ l) front.front.split ∙ sym (append_assoc so_far front.front.done front.left)) in
        let part = less_front (so_far ++ front.front.done) front.left in
        absurd (omega (arith, less, up, whole, part))

-- ---- a row's entries as a slice of the journal

slice_is : (s old new : List Entry) (before : ℕ) → s ≡ old ++ new → before ≡ length old → take (length s - before) (drop before s) ≡ new
slice_is s old new before is at =
    let rest : drop before s ≡ new = ap (λ (k : ℕ). drop k s) at ∙ ap (drop (length old)) is ∙ drop-append_seam old new in
    let all : length s ≡ length old + length new = ap (λ (l : List Entry). length l) is ∙ length-append old new in
    let count : length s - before ≡ length new = omega (arith, all, at) in
    ap (λ (l : List Entry). take (length s - before) l) rest ∙ ap (λ (k : ℕ). take k new) count ∙ take_all (length new) new (omega arith)

pub logged_part : (plan : Plan) (logged : Bool) (i before : ℕ) (old journal s : List Entry) (events : List Event) → logged ≡ true → (logged ≡ true → HasNoneFrom plan i old) → i < rows plan
    → journal ≡ old ++ entries_now plan i events → s ≡ journal → before ≡ length old → row_part plan logged journal i ≡ row_text plan i ++ journal_lines (take (length s - before) (drop before s))
logged_part plan logged i before old journal s events on none lt is same at =
    ap (λ (es : List Entry). row_part plan logged es i) is
    ∙ part_is plan logged i old events none lt
    ∙ ap (λ (b : Bool). row_text plan i ++ cond b (journal_lines (entries_now plan i events)) []) on
    ∙ ap (λ (es : List Entry). row_text plan i ++ journal_lines es) (sym (slice_is s old (entries_now plan i events) before (same ∙ is) at))
