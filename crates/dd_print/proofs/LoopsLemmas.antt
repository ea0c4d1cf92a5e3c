-- Loops over blocks that are brought: the next of them, while those before it were.
use Rattle.std.proofs.Common.{◌≡◌, ℕ, ℤ, ◌+◌, ◌-◌, ◌<◌, ◌≤◌, length, List, [], ◌∷◌, ◌++◌, map, refl, ap, sym, ◌∙◌, subst, arith}
use Rattle.std.specs.List.{flat_map, range_with_len}
use Rattle.std.proofs.lemmas.Grind.{flat_map-append}
use Rattle.std.proofs.lemmas.List.FromFn.{length-map-range_with_len}
use Rattle.dd_blocks.specs.declared.grid.Grid.{Grid}
use Rattle.dd_blocks.specs.declared.plan.Plan.{Plan}
use Rattle.dd_blocks.specs.Grids.{IsGrid, block_cols, block_rows}
use Rattle.dd_blocks.specs.Numbered.{IsNumberIn, array_row}
use Rattle.dd_blocks.specs.WellFormed.{IsWellFormed}
use Rattle.dd_blocks.proofs.LayoutLemmas.{grid_stands}
use Rattle.dd_blocks.proofs.PiecesLemmas.{piece_within}
use Rattle.dd_core.specs.Due.{AreDue}
use Rattle.dd_machine.specs.declared.event.Event.{Event}
use Rattle.dd_machine.specs.declared.event.Event.TheVariants.{Ask, Rest}
use Rattle.dd_machine.specs.States.{State}
use Rattle.dd_machine.specs.Tests.{Has, is_any}
use Rattle.dd_meaning.specs.Text.{printed}
use Rattle.dd_print.specs.Asks.{block_at, bring_events, bring_one, print_events, row_blocks}
use Rattle.dd_print.specs.Bands.{band_grid, band_values}
use Rattle.dd_print.specs.declared.fault.PrintFault.{PrintFault}
use Rattle.dd_print.specs.Gives.{Breaks}
use Rattle.dd_print.specs.Held.{block_values, values_now}
use Rattle.dd_print.proofs.BreaksLemmas.{block_breaks}
use Rattle.dd_print.proofs.BringLemmas.{block_kept}
use Rattle.dd_print.proofs.ThereLemmas.{AreBrings, are_brings, home_kept, homes_kept, pin_rests, there_kept, values_kept}
use Rattle.dd_statements.specs.Follows.{Adds, Follows, IsBetween, IsThere}
use Rattle.dd_statements.proofs.LoopLemmas.{IsAtBlock, between, block_first, block_more, block_next}
use Rattle.dd_statements.proofs.WithinLemmas.{IsWithin, plan_kept, within_due, within_line}
use Rattle.dd_store.specs.declared.store.Slot.{Ghosts as SlotGhosts}
use Rattle.dd_store.specs.declared.store.Store.{Ghosts}
use Rattle.dd_table.specs.declared.table.Table.{Table}
use Rattle.dd_table.specs.Tables.{line_now, state_now}

-- so many of them
pub many : (f : ℕ → List Event) (first end count : ℕ) → end ≡ first + count → between f first end ≡ flat_map f (range_with_len first count)
many f first end count is = ap (λ (n : ℕ). flat_map f (range_with_len first n)) (omega (arith, is))

-- there are blocks beside each other
cols_some : (g : Grid) → IsGrid g → 1 ≤ block_cols g
cols_some g grid = let some = piece_within g.cols g.bcols 0 grid.bcols grid.cols in omega (arith, some)

-- a row of blocks
flat_map-map : (f : ℕ → List Event) (at : ℕ → ℕ) (numbers : List ℕ) → flat_map f (map at numbers) ≡ flat_map (λ j. f (at j)) numbers
flat_map-map f at [] = refl
flat_map-map f at (n ∷ ns) = ap (λ (l : List Event). f (at n) ++ l) (flat_map-map f at ns)

pub row_events : (plan : Plan) (st : State) (array i : ℕ) → bring_events st (row_blocks plan array i) ≡ flat_map (λ j. bring_one st (block_at plan array i j)) (range_with_len 0 (block_cols (array_row plan array).grid))
row_events plan st array i = flat_map-map (bring_one st) (block_at plan array i) (range_with_len 0 (block_cols (array_row plan array).grid))

-- all rows
flat_map-flat_map : {X Y Z : Type 0} (f : Y → List Z) (h : X → List Y) (xs : List X) → flat_map f (flat_map h xs) ≡ flat_map (λ x. flat_map f (h x)) xs
flat_map-flat_map f h [] = refl
flat_map-flat_map {Z = Z} f h (x ∷ xs) = flat_map-append f (h x) (flat_map h xs) ∙ ap (λ (l : List Z). flat_map f (h x) ++ l) (flat_map-flat_map f h xs)

pub print_rows : (plan : Plan) (st : State) (array : ℕ) → print_events plan st array ≡ flat_map (λ i. bring_events st (row_blocks plan array i)) (range_with_len 0 (block_rows (array_row plan array).grid))
print_rows plan st array = flat_map-flat_map (bring_one st) (row_blocks plan array) (range_with_len 0 (block_rows (array_row plan array).grid))

module _ {D S : Type 0} {g : Ghosts D S} {h : SlotGhosts S} where
  -- the blocks that stand at some numbers
  abbrev pub brought_at : Table D S g h → (ℕ → ℕ) → ℕ → List Event
  brought_at t at j = bring_one (state_now t) (at j)

  -- at the first
  pub at_first : (t : Table D S g h) (at : ℕ → ℕ) (first end count b : ℕ) → IsBetween t → end ≡ first + count → b ≡ first
      → AreDue t.holding.ledger.plan.now (state_now t) (flat_map (brought_at t at) (range_with_len first count)) → IsAtBlock t t (brought_at t at) first end b
  at_first t at first end count b between_is is same due =
      subst (IsAtBlock t t (brought_at t at) first end) (sym same)
      (block_first t (brought_at t at) first end between_is (subst (AreDue t.holding.ledger.plan.now (state_now t)) (sym (many (brought_at t at) first end count is)) due))

  module _ (t m : Table D S g h) (at : ℕ → ℕ) (first end j block : ℕ) (lt : j < end) (is : block ≡ at j) (here : IsAtBlock t m (brought_at t at) first end j) where
    pub so_far : Adds t m (line_now t) (between (brought_at t at) first j)
    so_far = here.within.follows.adds

    brings : AreBrings (between (brought_at t at) first j)
    brings = are_brings (state_now t) at (range_with_len first (j - first))

    same_one : bring_one (state_now m) block ≡ brought_at t at j
    same_one =
        ap (bring_one (state_now m)) is
        ∙ ap (λ (f : ℕ → ℕ). Ask (f (at j)) (at j) ∷ (Rest ∷ [])) (homes_kept t m (line_now t) (between (brought_at t at) first j) so_far brings)

    pub next_line : line_now m ≡ line_now t
    next_line = within_line t m (line_now t) (between (brought_at t at) first j) (Ask ((state_now t).homes (at j)) (at j)) (Rest ∷ between (brought_at t at) (j + 1) end) (block_next t m (brought_at t at) first end j lt here)

    pub next_due : AreDue m.holding.ledger.plan.now (state_now m) (bring_one (state_now m) block)
    next_due =
        subst (λ (p : Plan). AreDue p (state_now m) (bring_one (state_now m) block)) (sym (plan_kept t m (line_now t) (between (brought_at t at) first j) so_far))
        (subst (AreDue t.holding.ledger.plan.now (state_now m)) (sym same_one)
        (within_due t m (line_now t) (between (brought_at t at) first j) (brought_at t at j) (between (brought_at t at) (j + 1) end) (block_next t m (brought_at t at) first end j lt here)))

    pub next_there : Has (state_now t) ((state_now t).homes block) block is_any → Has (state_now m) ((state_now m).homes block) block is_any
    next_there any = home_kept t m (line_now t) (between (brought_at t at) first j) block so_far brings any

    pub next_breaks : (u : Table D S g h) (fault : PrintFault) → Breaks m u (line_now m) (bring_one (state_now m) block) fault → Breaks t u (line_now t) (between (brought_at t at) first end) fault
    next_breaks u fault p =
        block_breaks t m u (brought_at t at) first end j fault lt here
        (subst (λ (l : ℕ). Breaks m u l (brought_at t at j) fault) next_line (subst (λ (l : List Event). Breaks m u (line_now m) l fault) same_one p))

    pub next_more : (u : Table D S g h) → Follows m u (line_now m) (bring_one (state_now m) block) → IsAtBlock t u (brought_at t at) first end (j + 1)
    next_more u p =
        block_more t m u (brought_at t at) first end j lt here
        (subst (λ (l : ℕ). Follows m u l (brought_at t at j)) next_line (subst (Follows m u (line_now m)) same_one p)) refl

    pub next_values : block_values m.holding.ledger.plan.now (state_now m) block ≡ block_values t.holding.ledger.plan.now (state_now t) (at j)
    next_values = block_kept t m (line_now t) (between (brought_at t at) first j) block so_far ∙ ap (block_values t.holding.ledger.plan.now (state_now t)) is

  -- the rows of an array's blocks
  abbrev pub rows_at : Table D S g h → ℕ → ℕ → List Event
  rows_at t array i = bring_events (state_now t) (row_blocks t.holding.ledger.plan.now array i)

  pub row_first : (t : Table D S g h) (array first end : ℕ) → IsBetween t → end ≡ first + block_rows (array_row t.holding.ledger.plan.now array).grid → first ≡ 0
      → AreDue t.holding.ledger.plan.now (state_now t) (print_events t.holding.ledger.plan.now (state_now t) array) → IsAtBlock t t (rows_at t array) first end first
  row_first t array first end between_is is zero_is due =
      block_first t (rows_at t array) first end between_is
      (subst (AreDue t.holding.ledger.plan.now (state_now t)) (print_rows t.holding.ledger.plan.now (state_now t) array ∙ ap (λ (n : ℕ). flat_map (rows_at t array) (range_with_len n (block_rows (array_row t.holding.ledger.plan.now array).grid))) (sym zero_is)
      ∙ sym (many (rows_at t array) first end (block_rows (array_row t.holding.ledger.plan.now array).grid) is)) due)

  module _ (t m : Table D S g h) (array end i : ℕ) (well : IsWellFormed t.holding.ledger.plan.now) (array_is : IsNumberIn t.holding.ledger.plan.now.arrays array) (lt : i < end) (here : IsAtBlock t m (rows_at t array) 0 end i) where
    pub rows_so_far : Adds t m (line_now t) (between (rows_at t array) 0 i)
    rows_so_far = here.within.follows.adds

    pub row_plan : m.holding.ledger.plan.now ≡ t.holding.ledger.plan.now
    row_plan = plan_kept t m (line_now t) (between (rows_at t array) 0 i) rows_so_far

    row_brings : AreBrings (between (rows_at t array) 0 i)
    row_brings = subst AreBrings (flat_map-flat_map (bring_one (state_now t)) (row_blocks t.holding.ledger.plan.now array) (range_with_len 0 (i - 0))) (are_brings (state_now t) (λ b. b) (flat_map (row_blocks t.holding.ledger.plan.now array) (range_with_len 0 (i - 0))))

    same_row : rows_at m array i ≡ rows_at t array i
    same_row =
        ap (λ (p : Plan). bring_events (state_now m) (row_blocks p array i)) row_plan
        ∙ ap (λ (f : ℕ → ℕ). flat_map (λ b. Ask (f b) b ∷ (Rest ∷ [])) (row_blocks t.holding.ledger.plan.now array i)) (homes_kept t m (line_now t) (between (rows_at t array) 0 i) rows_so_far row_brings)

    pub row_due : AreDue m.holding.ledger.plan.now (state_now m) (rows_at m array i)
    row_due =
        subst (λ (p : Plan). AreDue p (state_now m) (rows_at m array i)) (sym row_plan)
        (subst (AreDue t.holding.ledger.plan.now (state_now m)) (sym same_row)
        (within_due t m (line_now t) (between (rows_at t array) 0 i) (rows_at t array i) (between (rows_at t array) (i + 1) end) (block_next t m (rows_at t array) 0 end i lt here)))

    pub row_line : line_now m ≡ line_now t
    row_line = by (row_blocks t.holding.ledger.plan.now array i) refl
      where
        some : row_blocks t.holding.ledger.plan.now array i ≡ [] → ⊥
        some none =
            let cols = block_cols (array_row t.holding.ledger.plan.now array).grid in
            let long : length (row_blocks t.holding.ledger.plan.now array i) ≡ cols = length-map-range_with_len (block_at t.holding.ledger.plan.now array i) 0 cols in
            let few = cols_some (array_row t.holding.ledger.plan.now array).grid (grid_stands t.holding.ledger.plan.now well.layout array array_is) in
            let no = ap length none in
            omega (arith, long, few, no)

        by : (bs : List ℕ) → row_blocks t.holding.ledger.plan.now array i ≡ bs → line_now m ≡ line_now t
        by [] none = absurd (some none)
        by (b ∷ bs) is =
            within_line t m (line_now t) (between (rows_at t array) 0 i) (Ask ((state_now t).homes b) b) (Rest ∷ (bring_events (state_now t) bs ++ between (rows_at t array) (i + 1) end))
            (subst (λ (l : List ℕ). IsWithin t m (line_now t) (between (rows_at t array) 0 i) (bring_events (state_now t) l ++ between (rows_at t array) (i + 1) end)) is (block_next t m (rows_at t array) 0 end i lt here))

    pub row_there : IsThere t.holding.ledger.plan.now (state_now t) array → IsThere m.holding.ledger.plan.now (state_now m) array
    row_there there = there_kept t m (line_now t) (between (rows_at t array) 0 i) array rows_so_far row_brings there

    pub row_breaks : (u : Table D S g h) (fault : PrintFault) → Breaks m u (line_now m) (rows_at m array i) fault → Breaks t u (line_now t) (between (rows_at t array) 0 end) fault
    row_breaks u fault p =
        block_breaks t m u (rows_at t array) 0 end i fault lt here
        (subst (λ (l : ℕ). Breaks m u l (rows_at t array i) fault) row_line (subst (λ (l : List Event). Breaks m u (line_now m) l fault) same_row p))

    pub row_more : (u : Table D S g h) → Follows m u (line_now m) (rows_at m array i) → IsAtBlock t u (rows_at t array) 0 end (i + 1)
    row_more u p =
        block_more t m u (rows_at t array) 0 end i lt here
        (subst (λ (l : ℕ). Follows m u l (rows_at t array i)) row_line (subst (Follows m u (line_now m)) same_row p)) (pin_rests (state_now t) (row_blocks t.holding.ledger.plan.now array i))

    pub row_values : values_now m.holding.ledger.plan.now (state_now m) array ≡ values_now t.holding.ledger.plan.now (state_now t) array
    row_values = values_kept t m (line_now t) (between (rows_at t array) 0 i) array rows_so_far

    -- what is printed of the row
    pub row_text : printed (band_grid (array_row m.holding.ledger.plan.now array).grid i) (band_values (array_row m.holding.ledger.plan.now array).grid i (values_now m.holding.ledger.plan.now (state_now m) array))
        ≡ printed (band_grid (array_row t.holding.ledger.plan.now array).grid i) (band_values (array_row t.holding.ledger.plan.now array).grid i (values_now t.holding.ledger.plan.now (state_now t) array))
    row_text =
        ap (λ (p : Plan). printed (band_grid (array_row p array).grid i) (band_values (array_row p array).grid i (values_now m.holding.ledger.plan.now (state_now m) array))) row_plan
        ∙ ap (λ (v : List ℤ). printed (band_grid (array_row t.holding.ledger.plan.now array).grid i) (band_values (array_row t.holding.ledger.plan.now array).grid i v)) row_values
