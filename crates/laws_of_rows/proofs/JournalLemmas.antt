-- The entries of a journal that stand below each row, where the lines of the rows rise.
use Rattle.std.proofs.Common.{◌≡◌, ◌≢◌, ℕ, suc, ◌<◌, ◌≤◌, eqb, List, [], ◌∷◌, ◌++◌, map, get_or, refl, ap, ◌∙◌, ⊎_elim, arith, append-nil}
use Rattle.std.specs.List.{filter}
use Rattle.std.proofs.lemmas.Bool.{cases_lt, eq-eqb, ne_eqb}
use Rattle.std.proofs.lemmas.List.{get_or-map, length-map}
use Rattle.std.proofs.lemmas.List.Elements.{filter-append}
use Rattle.std.proofs.lemmas.List.Kept.{AllPairs-from_increasing}
use Rattle.dd_blocks.specs.declared.plan.Plan.{Plan}
use Rattle.dd_blocks.specs.declared.statement_row.StatementRow.{StatementRow}
use Rattle.dd_blocks.specs.declared.what.What.TheVariants.{Moved}
use Rattle.dd_blocks.specs.Lines.{LinesRise}
use Rattle.dd_meaning.specs.Text.{row_text}
use Rattle.dd_machine.specs.declared.entry.Entry.{Entry}
use Rattle.dd_machine.specs.declared.event.Event.{Event}
use Rattle.dd_machine.specs.Journal.{entries_at, journal_lines}
use Rattle.dd_machine.specs.Words.{rows, statement}
use Rattle.laws_of_rows.specs.Rows.{entries_now}
use Rattle.laws_of_rows.specs.Texts.{HasNoneFrom, text_before}
use Rattle.laws_of_rows.proofs.TextLemmas.{text_next, text_same}

-- ---- lines

line_less : (plan : Plan) (i j : ℕ) → LinesRise plan → i < j → j < rows plan → (statement plan (suc i)).line < (statement plan (suc j)).line
line_less plan i j rise lt within =
    let line : StatementRow → ℕ = λ row. row.line in
    let d : StatementRow = record { line = 0; what = Moved } in
    let a : get_or (map line plan.statements) i 0 ≡ (statement plan (suc i)).line = get_or-map line plan.statements i d 0 (omega (arith, lt, within)) in
    let b : get_or (map line plan.statements) j 0 ≡ (statement plan (suc j)).line = get_or-map line plan.statements j d 0 (omega (arith, within)) in
    let less = AllPairs-from_increasing (map line plan.statements) rise i j 0 lt (omega (arith, within, length-map plan.statements line)) in
    omega (arith, a, b, less)

-- two rows have two lines
pub lines_apart : (plan : Plan) (i j : ℕ) → LinesRise plan → i < rows plan → j < rows plan → i ≢ j → (statement plan (suc i)).line ≢ (statement plan (suc j)).line
lines_apart plan i j rise i_lt j_lt apart = λ same. ⊎_elim
    (λ (lt : i < j). let less = line_less plan i j rise lt j_lt in omega (arith, less, same))
    (λ (le : j ≤ i). let less = line_less plan j i rise (omega (arith, le, apart)) i_lt in omega (arith, less, same))
    (cases_lt i j)

-- ---- entries

kept_all : (l m : ℕ) (events : List Event) → l ≡ m → filter (λ (e : Entry). eqb e.line m) (map (λ x. let y : Entry = record { line = l; event = x } in y) events) ≡ map (λ x. record { line = l; event = x }) events
kept_all l m [] same = refl
kept_all l m (x ∷ events) same = rw (eq-eqb l m same) (ap (λ (es : List Entry). record { line = l; event = x } ∷ es) (kept_all l m events same))

kept_none : (l m : ℕ) (events : List Event) → l ≢ m → filter (λ (e : Entry). eqb e.line m) (map (λ x. let y : Entry = record { line = l; event = x } in y) events) ≡ []
kept_none l m [] apart = refl
kept_none l m (x ∷ events) apart = rw (ne_eqb l m apart) (kept_none l m events apart)

-- the entries of a row stand below it, and below no other
pub entries_here : (plan : Plan) (i : ℕ) (entries : List Entry) (events : List Event) → entries_at plan entries (suc i) ≡ [] → entries_at plan (entries ++ entries_now plan i events) (suc i) ≡ entries_now plan i events
entries_here plan i entries events none =
    let line = (statement plan (suc i)).line in
    filter-append (λ (e : Entry). eqb e.line line) entries (entries_now plan i events)
    ∙ ap (λ (es : List Entry). es ++ filter (λ (e : Entry). eqb e.line line) (entries_now plan i events)) none ∙ kept_all line line events refl

pub entries_other : (plan : Plan) (i j : ℕ) (entries : List Entry) (events : List Event) → LinesRise plan → i < rows plan → j < rows plan → i ≢ j
    → entries_at plan (entries ++ entries_now plan i events) (suc j) ≡ entries_at plan entries (suc j)
entries_other plan i j entries events rise i_lt j_lt apart =
    let line = (statement plan (suc j)).line in
    let old = entries_at plan entries (suc j) in
    filter-append (λ (e : Entry). eqb e.line line) entries (entries_now plan i events)
    ∙ ap (λ (es : List Entry). old ++ es) (kept_none (statement plan (suc i)).line line events (lines_apart plan i j rise i_lt j_lt apart)) ∙ append-nil old

-- a journal has no entries of the rows that come
pub none_at_start : (plan : Plan) → HasNoneFrom plan 0 []
none_at_start plan = λ j low lt. refl

pub none_next : (plan : Plan) (i : ℕ) (entries : List Entry) (events : List Event) → LinesRise plan → i < rows plan → HasNoneFrom plan i entries → HasNoneFrom plan (suc i) (entries ++ entries_now plan i events)
none_next plan i entries events rise lt none = λ j low within.
    let apart : i ≢ j = λ same. omega (arith, low, same) in
    entries_other plan i j entries events rise lt within apart ∙ none j (omega (arith, low)) within

-- so the text with the journal's lines grows by those of the next row
pub journal_next : (plan : Plan) (i : ℕ) (entries : List Entry) (events : List Event) → LinesRise plan → i < rows plan → HasNoneFrom plan i entries
    → text_before plan (λ j. journal_lines (entries_at plan (entries ++ entries_now plan i events) (suc j))) (suc i)
    ≡ text_before plan (λ j. journal_lines (entries_at plan entries (suc j))) i ++ (row_text plan i ++ journal_lines (entries_now plan i events))
journal_next plan i entries events rise lt none =
    let new = entries ++ entries_now plan i events in
    let after : ℕ → List ℕ = λ j. journal_lines (entries_at plan new (suc j)) in
    let before : ℕ → List ℕ = λ j. journal_lines (entries_at plan entries (suc j)) in
    text_next plan after i
    ∙ ap (λ (ys : List ℕ). ys ++ (row_text plan i ++ after i))
    (text_same plan after before i (λ j j_lt. ap journal_lines (entries_other plan i j entries events rise lt (omega (arith, j_lt, lt)) (λ same. omega (arith, j_lt, same)))))
    ∙ ap (λ (es : List Entry). text_before plan before i ++ (row_text plan i ++ journal_lines es)) (entries_here plan i entries events (none i (omega arith) lt))
