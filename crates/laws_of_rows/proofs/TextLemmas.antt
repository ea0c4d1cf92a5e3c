-- The text of a script, row by row.
use Rattle.std.proofs.Common.{◌≡◌, ℕ, zero, suc, ◌+◌, ◌-◌, ◌<◌, ◌≤◌, List, [], ◌∷◌, ◌++◌, refl, ap, sym, ◌∙◌, arith, append-nil}
use Rattle.std.specs.List.{flat_map, range_with_len}
use Rattle.std.proofs.lemmas.List.Concat.{flat_map-append}
use Rattle.dd_views.proofs.ListsLemmas.{range_with_len_more}
use Rattle.dd_lists.proofs.SumsLemmas.{range-add}
use Rattle.dd_blocks.specs.declared.plan.Plan.{Plan}
use Rattle.dd_meaning.specs.Text.{row_text, text_with}
use Rattle.dd_machine.specs.Words.{rows}
use Rattle.laws_of_rows.specs.Texts.{text_before}

-- over any texts of rows

abbrev pieces : (ℕ → List ℕ) → ℕ → List ℕ
pieces f i = flat_map f (range_with_len 0 i)

pieces_next : (f : ℕ → List ℕ) (i : ℕ) → pieces f (suc i) ≡ pieces f i ++ f i
pieces_next f i =
    let e : 0 + i ≡ i = omega arith in
    ap (flat_map f) (range_with_len_more 0 i) ∙ flat_map-append f (range_with_len 0 i) ((0 + i) ∷ [])
    ∙ ap (λ (n : ℕ). pieces f i ++ (f n ++ [])) e ∙ ap (λ (ys : List ℕ). pieces f i ++ ys) (append-nil (f i))

pieces_same : (f g : ℕ → List ℕ) (i : ℕ) → ((j : ℕ) → j < i → f j ≡ g j) → pieces f i ≡ pieces g i
pieces_same f g zero same = refl
pieces_same f g (suc i) same =
    pieces_next f i ∙ ap (λ (ys : List ℕ). ys ++ f i) (pieces_same f g i (λ j lt. same j (omega (arith, lt)))) ∙ ap (λ (ys : List ℕ). pieces g i ++ ys) (same i (omega arith))
    ∙ sym (pieces_next g i)

pieces_front : (f : ℕ → List ℕ) (i n : ℕ) → i ≤ n → pieces f n ≡ pieces f i ++ flat_map f (range_with_len i (n - i))
pieces_front f i n le =
    let e : n ≡ i + (n - i) = omega (arith, le) in
    let z : 0 + i ≡ i = omega arith in
    ap (pieces f) e ∙ ap (flat_map f) (range-add 0 i (n - i)) ∙ flat_map-append f (range_with_len 0 i) (range_with_len (0 + i) (n - i))
    ∙ ap (λ (a : ℕ). pieces f i ++ flat_map f (range_with_len a (n - i))) z

-- the text up to the next row
pub text_next : (plan : Plan) (after : ℕ → List ℕ) (i : ℕ) → text_before plan after (suc i) ≡ text_before plan after i ++ (row_text plan i ++ after i)
text_next plan after i = pieces_next (λ j. row_text plan j ++ after j) i

-- what follows later rows doesn't count
pub text_same : (plan : Plan) (after after' : ℕ → List ℕ) (i : ℕ) → ((j : ℕ) → j < i → after j ≡ after' j) → text_before plan after i ≡ text_before plan after' i
text_same plan after after' i same =
    pieces_same (λ j. row_text plan j ++ after j) (λ j. row_text plan j ++ after' j) i (λ j lt. ap (λ (ys : List ℕ). row_text plan j ++ ys) (same j lt))

-- the text of the first rows is a prefix of the whole, which is that of all rows
pub text_front : (plan : Plan) (after : ℕ → List ℕ) (i : ℕ) → i ≤ rows plan
    → text_with plan after ≡ text_before plan after i ++ flat_map (λ j. row_text plan j ++ after j) (range_with_len i (rows plan - i))
text_front plan after i le = pieces_front (λ j. row_text plan j ++ after j) i (rows plan) le

pub text_all : (plan : Plan) (after : ℕ → List ℕ) → text_with plan after ≡ text_before plan after (rows plan)
text_all plan after = refl
