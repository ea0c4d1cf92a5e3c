-- Each block adds its sum, and the sums of all blocks make that of the array.
use Rattle.std.proofs.Common.{◌≡◌, ◌<◌, ◌+◌, ◌-◌, ℕ, ℤ, Bor, refl, ap, sym, ◌∙◌, subst, arith, rules}
use Rattle.dd_blocks.specs.declared.plan.Plan.{Plan}
use Rattle.dd_blocks.specs.Grids.{block_count}
use Rattle.dd_blocks.specs.Numbered.{array_row}
use Rattle.dd_kernels.specs.Lists.{sum_below, wrapped}
use Rattle.dd_kernels.proofs.NumbersLemmas.{sum_more}
use Rattle.dd_print.specs.Asks.{bring_one, sum_events}
use Rattle.dd_print.specs.Gives.{Breaks, PrintGives}
use Rattle.dd_print.specs.Held.{block_values, list_sum}
use Rattle.dd_print.proofs.BreaksLemmas.{err_gives}
use Rattle.dd_print.proofs.BringLemmas.{telling_back}
use Rattle.dd_print.proofs.LoopsLemmas.{at_first, many, next_breaks, next_due, next_more, next_there, next_values}
use Rattle.dd_print.proofs.SumsLemmas.{array_sum, wrapped_none}
use Rattle.dd_table.specs.Tables.{line_now, state_now}
use Rattle.dd_views.proofs.ListsLemmas.{range_has}
use Rattle.dd_print.proofs.sum.sum_of_array.Goals as goal

pub loop-block-init : goal.loop-block-init
loop-block-init g c =
    let t = c.args.table.now in
    let plan = t.holding.ledger.plan.now in
    let row = array_row plan c.args.array in
    let planned : c.plan-plan.result.now ≡ plan = ap (λ (p : Bor Plan). p.now) c.plan-plan.ensures in
    let first : c.first_block-block.result ≡ row.first_block = c.first_block-block.ensures.value ∙ ap (λ (p : Plan). (array_row p c.args.array).first_block) planned in
    let end : c.end_of_blocks-block-end.result ≡ row.first_block + block_count row.grid =
    c.end_of_blocks-block-end.ensures.value ∙ ap (λ (p : Plan). (array_row p c.args.array).first_block + block_count (array_row p c.args.array).grid) planned in
    let none : c.first_block-block.result - row.first_block ≡ 0 = omega (arith, first) in (
      at_first t (λ b. b) row.first_block c.end_of_blocks-block-end.result (block_count row.grid) c.first_block-block.result c.requires.between end first c.requires.due,
      λ telling. sym wrapped_none ∙ ap (λ (n : ℕ). wrapped (sum_below n (λ j. list_sum (block_values plan (state_now t) (row.first_block + j))))) (sym none),
    )

pub sum_of_block-requires-clause-there : goal.sum_of_block-requires-clause-there
sum_of_block-requires-clause-there g c κs within =
    let t = c.args.table.now in
    let plan = t.holding.ledger.plan.now in
    let row = array_row plan c.args.array in
    let planned : c.plan-plan.result.now ≡ plan = ap (λ (p : Bor Plan). p.now) c.plan-plan.ensures in
    let end : c.end_of_blocks-block-end.result ≡ row.first_block + block_count row.grid =
    c.end_of_blocks-block-end.ensures.value ∙ ap (λ (p : Plan). (array_row p c.args.array).first_block + block_count (array_row p c.args.array).grid) planned in
    let at = c.loop-block.invariant.0 in
    let low = at.from in
    let lt : c.loop-block.block < c.end_of_blocks-block-end.result = omega arith in
    next_there t c.loop-block.table (λ b. b) row.first_block c.end_of_blocks-block-end.result c.loop-block.block c.loop-block.block lt refl at (c.requires.there c.loop-block.block (range_has row.first_block (block_count row.grid) c.loop-block.block low (omega (arith, end, lt))))

pub sum_of_block-requires-clause-due : goal.sum_of_block-requires-clause-due
sum_of_block-requires-clause-due g c κs within =
    let t = c.args.table.now in
    let row = array_row t.holding.ledger.plan.now c.args.array in
    let lt : c.loop-block.block < c.end_of_blocks-block-end.result = omega arith in
    next_due t c.loop-block.table (λ b. b) row.first_block c.end_of_blocks-block-end.result c.loop-block.block c.loop-block.block lt refl c.loop-block.invariant.0

pub returns-in_err-sum-clause-entries : goal.returns-in_err-sum-clause-entries
returns-in_err-sum-clause-entries g c =
    let t = c.args.table.now in
    let m = c.loop-block.table in
    let u = c.sum_of_block.new.table in
    let plan = t.holding.ledger.plan.now in
    let row = array_row plan c.args.array in
    let planned : c.plan-plan.result.now ≡ plan = ap (λ (p : Bor Plan). p.now) c.plan-plan.ensures in
    let end : c.end_of_blocks-block-end.result ≡ row.first_block + block_count row.grid =
    c.end_of_blocks-block-end.ensures.value ∙ ap (λ (p : Plan). (array_row p c.args.array).first_block + block_count (array_row p c.args.array).grid) planned in
    let lt : c.loop-block.block < c.end_of_blocks-block-end.result = omega arith in
    let breaks = next_breaks t m (λ b. b) row.first_block c.end_of_blocks-block-end.result c.loop-block.block c.loop-block.block lt refl c.loop-block.invariant.0 u c.in_err-sum.field-0.0 c.in_err-sum.ensures.entries in
    err_gives (λ r. PrintGives {T = ℤ} t u (line_now t) (sum_events plan (state_now t) c.args.array) r) c.from_residual.result c.in_err-sum.field-0.0 c.from_residual.ensures.1
    (subst (λ l. Breaks t u (line_now t) l c.in_err-sum.field-0.0) (many (bring_one (state_now t)) row.first_block c.end_of_blocks-block-end.result (block_count row.grid) end) breaks)

pub loop-block-preserved : goal.loop-block-preserved
loop-block-preserved g c =
    let t = c.args.table.now in
    let m = c.loop-block.table in
    let u = c.sum_of_block.new.table in
    let plan = t.holding.ledger.plan.now in
    let b = c.loop-block.block in
    let first = (array_row plan c.args.array).first_block in
    let lt : b < c.end_of_blocks-block-end.result = omega arith in
    let at = c.loop-block.invariant.0 in
    let low = at.from in
    let sums : ℕ → ℤ = λ j. list_sum (block_values plan (state_now t) (first + j)) in
    let here : first + (b - first) ≡ b = omega (arith, low) in
    let next : b - first + 1 ≡ b + 1 - first = omega (arith, low) in (
      next_more t m (λ b. b) first c.end_of_blocks-block-end.result b b lt refl at u c.in_ok-sum.ensures.entries,
      λ telling.
          sum_more sums (b - first) c.loop-block.sum-bits c.in_ok-sum.field-0 (search rules) (search rules)
          (c.in_ok-sum.ensures.told telling ∙ ap list_sum (next_values t m (λ b. b) first c.end_of_blocks-block-end.result b b lt refl at ∙ ap (block_values plan (state_now t)) (sym here)))
          (c.loop-block.invariant.1 (telling_back m u (line_now m) (bring_one (state_now m) b) c.in_ok-sum.ensures.entries.adds telling))
          ∙ ap (λ (n : ℕ). wrapped (sum_below n sums)) next,
    )

pub returns-clause-told : goal.returns-clause-told
returns-clause-told g c = λ telling.
    let t = c.args.table.now in
    let plan = t.holding.ledger.plan.now in
    let row = array_row plan c.args.array in
    let planned : c.plan-plan.result.now ≡ plan = ap (λ (p : Bor Plan). p.now) c.plan-plan.ensures in
    let end : c.end_of_blocks-block-end.result ≡ row.first_block + block_count row.grid =
    c.end_of_blocks-block-end.ensures.value ∙ ap (λ (p : Plan). (array_row p c.args.array).first_block + block_count (array_row p c.args.array).grid) planned in
    let all : c.loop-block.block - row.first_block ≡ block_count row.grid = omega (arith, end) in
    c.loop-block.invariant.1 telling
    ∙ ap (λ (n : ℕ). wrapped (sum_below n (λ j. list_sum (block_values plan (state_now t) (row.first_block + j))))) all
    ∙ sym (array_sum plan (state_now t) c.args.array c.requires.well c.requires.array)
