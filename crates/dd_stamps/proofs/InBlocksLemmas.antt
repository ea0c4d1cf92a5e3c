-- Elements of a view that are in a block.
use Rattle.std.proofs.Common.{◌≡◌, ◌≢◌, ℕ, ◌+◌, ◌-◌, ◌<◌, ◌≤◌, ℤ, cond, inl, inr, List, length, refl, sym, ap, ◌∙◌, subst, arith}
use Rattle.std.specs.Prelude.{nat_eq, slice_index}
use Rattle.std.proofs.lemmas.Bool.Decides.{eqb_tells}
use Rattle.std.proofs.lemmas.List.Elements.{All-get_or}
use Rattle.dd_kernels.specs.Lists.{element}
use Rattle.dd_views.specs.declared.view.View.{View}
use Rattle.dd_views.specs.IndexList.{index_list}
use Rattle.dd_views.specs.Views.{IsViewOf}
use Rattle.dd_views.proofs.WithinLemmas.{positions_within}
use Rattle.dd_blocks.specs.declared.grid.Grid.{Grid}
use Rattle.dd_blocks.specs.declared.plan.Plan.{Plan}
use Rattle.dd_blocks.specs.Grids.{block_of, element_count, place_in_block}
use Rattle.dd_blocks.specs.Layout.{IsLaidOut}
use Rattle.dd_blocks.specs.Numbered.{IsNumberIn, array_row, block_row}
use Rattle.dd_blocks.specs.PlanElements.{IsElement, block_in_grid, block_of_element, grid_of}
use Rattle.dd_blocks.specs.Tasks.{shape_in}
use Rattle.dd_blocks.proofs.LayoutLemmas.{block_stands}
use Rattle.dd_blocks.proofs.PlanElementsLemmas.{place_of_each}
use Rattle.dd_stamps.specs.Gathered.{GathersFrom, HasGathered, element_at}

-- an element of a view of an array is one of the Plan
pub view_element : (plan : Plan) (v : View) (i : ℕ) → IsNumberIn plan.arrays v.array → IsViewOf (shape_in (array_row plan v.array)) v → i < length (index_list v) → IsElement plan (element_at v i)
view_element plan v i named view lt =
    let within : slice_index (index_list v) i < element_count (array_row plan v.array).grid = All-get_or (λ p. p < element_count (array_row plan v.array).grid) (index_list v) i 0 lt (positions_within (shape_in (array_row plan v.array)) v view) in
    record { array = named; within = within }

-- a number less another, compared
same_test : (f b k : ℕ) → f ≤ b → nat_eq k (b - f) ≡ nat_eq (f + k) b
same_test f b k le = elim (eqb_tells k (b - f)) [
  | inl h ↦ h.0 ∙ sym (elim (eqb_tells (f + k) b) [ inl j ↦ j.0 | inr j ↦ absurd (j.1 (omega (arith, h.1))) ])
  | inr h ↦ h.0 ∙ sym (elim (eqb_tells (f + k) b) [ inl j ↦ absurd (h.1 (omega (arith, j.1))) | inr j ↦ j.0 ])
]

-- what is gathered by the grid of the block's array
pub gathered_from : (plan : Plan) (block : ℕ) (values : List ℤ) (v : View) (old new : List ℤ) → IsLaidOut plan → IsNumberIn plan.blocks block → v.array ≡ (block_row plan block).array
    → HasGathered (grid_of plan block) (block_in_grid plan block) values (index_list v) old new → GathersFrom plan block values v old new
gathered_from plan block values v old new laid known same gathered =
    let low = (block_stands plan laid block known).low in
    record {
      count = gathered.count;
      each = λ i lt.
          let p : ℕ = slice_index (index_list v) i in
          gathered.each i lt
          ∙ ap (λ b. cond b (element values (place_in_block (grid_of plan block) p)) (element old i)) (same_test (array_row plan (block_row plan block).array).first_block block (block_of (grid_of plan block) p) low)
          ∙ ap (λ (n : ℕ). cond (nat_eq ((array_row plan n).first_block + block_of (array_row plan n).grid p) block) (element values (place_in_block (array_row plan n).grid p)) (element old i)) (sym same);
    }

-- a view of another array has nothing in the block
pub gathered_none : (plan : Plan) (block : ℕ) (values : List ℤ) (v : View) (old : List ℤ) → IsLaidOut plan → IsNumberIn plan.arrays v.array → IsViewOf (shape_in (array_row plan v.array)) v
    → v.array ≢ (block_row plan block).array → length old ≡ length (index_list v) → GathersFrom plan block values v old old
gathered_none plan block values v old laid named view other long = record {
  count = refl;
  each = λ i lt.
      let is = view_element plan v i named view (omega (arith, long, lt)) in
      elim (eqb_tells (block_of_element plan (element_at v i)) block) [
        | inl h ↦ absurd (other (sym (place_of_each plan laid (element_at v i) is).array ∙ ap (λ (b : ℕ). (block_row plan b).array) h.1))
        | inr h ↦ rw h.0 refl
      ];
}

-- the same of the same grid, block and values
pub gathered_by : (g h : Grid) (a b : ℕ) (xs values : List ℤ) (v : View) (old new : List ℤ) → g ≡ h → a ≡ b → xs ≡ values → HasGathered g a xs (index_list v) old new → HasGathered h b values (index_list v) old new
gathered_by g h a b xs values v old new eg eb ev gathered =
    subst (λ (l : List ℤ). HasGathered h b l (index_list v) old new) ev
    (subst (λ (n : ℕ). HasGathered h n xs (index_list v) old new) eb (subst (λ (i : Grid). HasGathered i a xs (index_list v) old new) eg gathered))
