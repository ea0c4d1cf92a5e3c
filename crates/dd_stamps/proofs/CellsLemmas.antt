-- True cells stay true.
use Rattle.std.specs.List.{range_with_len}
use Rattle.std.proofs.lemmas.List.{get_or-replicate}
use Rattle.std.proofs.lemmas.List.FromFn.{get_or-map-range_with_len}
use Rattle.dd_blocks.specs.Grids.{block_size, element_count, pos_of}
use Rattle.dd_blocks.specs.Numbered.{array_row, block_row}
use Rattle.dd_meaning.proofs.ValuesLemmas.{first_value}
use Rattle.dd_blocks.proofs.GridLemmas.{pos_within}
use Rattle.dd_meaning.specs.Worlds.{filled_at}
use Rattle.dd_blocks.specs.PlanElements.{block_in_grid, grid_of}
use Rattle.dd_blocks.proofs.LayoutLemmas.{StandsIn}
use Rattle.std.proofs.Common.{map, get_or, replicate, ◌≡◌, ◌≢◌, ℕ, ◌<◌, ℤ, pos, Bool, true, false, ◌&&◌, List, refl, sym, ap, ◌∙◌, subst, arith, ⊎_elim}
use Rattle.std.specs.Prelude.{slice_index, Contains}
use Rattle.std.proofs.lemmas.Bool.{cases_Bool}
use Rattle.dd_kernels.specs.Lists.{element}
use Rattle.dd_blocks.specs.declared.plan.Plan.{Plan}
use Rattle.dd_spans.specs.Numbers.{is_among}
use Rattle.dd_spans.proofs.MembersLemmas.{is_among_decides}
use Rattle.dd_stamps.specs.Cells.{AreTrue, blank}
use Rattle.dd_stamps.specs.Cells.{size_of}
use Rattle.dd_stamps.specs.Taken.{HasTaken}
use Rattle.dd_meaning.specs.Values.{value_at}
use Rattle.dd_blocks.specs.PlanElements.{element_of}

-- a cell with its version and its value
abbrev pub IsTrueCell : Plan → ℕ → ℕ → ℕ → ℤ → Type 0
IsTrueCell plan block place version value = version ≢ blank → value ≡ value_at plan version (element_of plan block place)

-- the same cell
same_cell : (plan : Plan) (block place v w : ℕ) (x y : ℤ) → w ≡ v → y ≡ x → IsTrueCell plan block place v x → IsTrueCell plan block place w y
same_cell plan block place v w x y ev ex cell there = ex ∙ cell (λ e. there (ev ∙ e)) ∙ sym (ap (λ n. value_at plan n (element_of plan block place)) ev)

-- cells that are taken from true cells into true cells
pub taken_true : (plan : Plan) (block : ℕ) (places vs us ws : List ℕ) (xs ys zs : List ℤ) → AreTrue plan block vs xs → AreTrue plan block us ys
    → HasTaken 0 places vs us ws → HasTaken (pos 0) places xs ys zs → AreTrue plan block ws zs
unfolding AreTrue
taken_true plan block places vs us ws xs ys zs ours theirs versions values = λ place within. ⊎_elim
    (λ (is : is_among places place ≡ true).
    let has : Contains places place = (is_among_decides places place).0 is in
    same_cell plan block place (slice_index us place) (slice_index ws place) (element ys place) (element zs place) (versions.taken place has) (values.taken place has) (theirs place within))
    (λ (not : is_among places place ≡ false).
    let lacks : Contains places place → ⊥ = λ has. let yes : is_among places place ≡ true = (is_among_decides places place).1 has in (cc) in
    same_cell plan block place (slice_index vs place) (slice_index ws place) (element xs place) (element zs place) (versions.kept place lacks) (values.kept place lacks) (ours place within))
    (cases_Bool (is_among places place))

-- both marks are true where the mark of both is
pub both_true : (a b : Bool) → (a && b) ≡ true → (a ≡ true) × (b ≡ true)
both_true true b e = (refl, e)
both_true false b e = absurd (cc)

-- true cells of the same block of the same Plan
pub same_true : (p q : Plan) (a b : ℕ) (vs : List ℕ) (xs : List ℤ) → p ≡ q → a ≡ b → AreTrue p a vs xs → AreTrue q b vs xs
same_true p q a b vs xs ep eb cells = subst (λ (n : ℕ). AreTrue q n vs xs) eb (subst (λ (r : Plan). AreTrue r a vs xs) ep cells)

-- the element at a place of a block is one of the world
pub element_value : (plan : Plan) (block place : ℕ) → StandsIn plan block (block_row plan block).array → place < size_of plan block
    → value_at plan 0 (element_of plan block place) ≡ filled_at (array_row plan (block_row plan block).array).fill (pos_of (grid_of plan block) (block_in_grid plan block) place)
element_value plan block place stands lt =
    let inside : pos_of (grid_of plan block) (block_in_grid plan block) place < element_count (grid_of plan block) =
    pos_within (grid_of plan block) (block_in_grid plan block) place stands.grid stands.high (omega (arith, lt, stands.size)) in
    first_value plan (element_of plan block place) stands.array inside

-- a block as it is filled at first is true with versions 0
pub filled_true : (plan : Plan) (block : ℕ) (values : List ℤ) → StandsIn plan block (block_row plan block).array
    → values ≡ map (λ place. filled_at (array_row plan (block_row plan block).array).fill (pos_of (grid_of plan block) (block_in_grid plan block) place)) (range_with_len 0 (block_size (grid_of plan block) (block_in_grid plan block)))
    → AreTrue plan block (replicate (size_of plan block) 0) values
unfolding AreTrue
filled_true plan block values stands is = λ place within there.
    let zero_is : get_or (replicate (size_of plan block) 0) place 0 ≡ 0 = get_or-replicate (size_of plan block) place 0 0 within in
    ap (λ (l : List ℤ). get_or l place (pos 0)) is
    ∙ get_or-map-range_with_len (λ p. filled_at (array_row plan (block_row plan block).array).fill (pos_of (grid_of plan block) (block_in_grid plan block) p)) 0 (block_size (grid_of plan block) (block_in_grid plan block)) place place (pos 0) (omega (arith, within, stands.size)) (omega arith)
    ∙ sym (element_value plan block place stands within)
    ∙ sym (ap (λ (v : ℕ). value_at plan v (element_of plan block place)) zero_is)

-- blank cells are true
pub blank_true : (plan : Plan) (block : ℕ) (values : List ℤ) → AreTrue plan block (replicate (size_of plan block) blank) values
unfolding AreTrue
blank_true plan block values = λ place within there. absurd (there (get_or-replicate (size_of plan block) place blank 0 within))
