-- What IsSound gives: the Plan is well formed, and what tasks touch has rows.
use Rattle.std.proofs.Common.{◌≡◌, ℕ, ◌<◌, ◌≤◌, true, List, length, refl, sym, subst, arith}
use Rattle.std.specs.List.{All}
use Rattle.dd_blocks.specs.declared.access_row.AccessRow.{AccessRow}
use Rattle.dd_blocks.specs.declared.plan.Plan.{Plan}
use Rattle.dd_blocks.specs.declared.task_row.TaskRow.{TaskRow}
use Rattle.dd_blocks.specs.Charges.{AreTouched, Touches, block_with}
use Rattle.dd_blocks.specs.Elements.{HasElement}
use Rattle.dd_blocks.specs.Grids.{block_count, block_of, element_count}
use Rattle.dd_blocks.specs.Lines.{LinesRise}
use Rattle.dd_blocks.specs.Numbered.{IsNumberIn, array_row, no_array}
use Rattle.dd_blocks.specs.Tasks.{IsShown, shape_in}
use Rattle.dd_blocks.specs.WellFormed.{IsWellFormed}
use Rattle.dd_blocks.proofs.GridLemmas.{block_within}
use Rattle.dd_blocks.specs.OfPlan.{HasBlocks}
use Rattle.dd_place.proofs.PremisesLemmas.{can_place}
use Rattle.dd_check.specs.Above.{Above, settle}
use Rattle.dd_check.specs.Sound.{IsSound}
use Rattle.dd_views.proofs.WithinLemmas.{element_within}
use Rattle.dd_check.proofs.ClearLemmas.{some_row}
use Rattle.dd_check.proofs.ElementsLemmas.{contained}
use Rattle.dd_check.proofs.MachineLemmas.{settle_sound}
use Rattle.dd_check.proofs.RowsLemmas.{All_any, All_numbered}

-- as many lines as a text of the greatest length can have, with one to spare
abbrev pub lines_limit : ℕ
lines_limit = 1048577

pub formed : (n : ℕ) (s : Above) → IsSound n s → s.settled ≡ true → n ≤ lines_limit → IsWellFormed s.plan
formed n s sound settled few = record {
  machine = record { space = sound.machine.space settled; proc = λ some. sound.machine.proc (some_row s.plan.statements some) };
  names = sound.names_rows;
  layout = sound.layout;
  tasks = sound.tasks;
  homes = sound.homes;
  limits = sound.limits;
  line = record {
    rows = omega (arith, sound.line.few);
    tasks = omega (arith, sound.line.tasks);
    lines = sound.line.lines;
  };
  regions = sound.regions;
  lives = sound.lives;
}

-- no two rows have one line
pub lines_rise : (n : ℕ) (s : Above) → IsSound n s → LinesRise (settle s).plan
lines_rise n s sound = (settle_sound n s sound).line.rise

pub well_formed : (n : ℕ) (s : Above) → IsSound n s → n ≤ lines_limit → IsWellFormed (settle s).plan
well_formed n s sound few = formed n (settle s) (settle_sound n s sound) refl few

-- the blocks that a task touches have rows
pub touched_numbers : (plan : Plan) (task : TaskRow) (blocks : List ℕ) → All (HasBlocks plan) plan.arrays → All (λ (a : AccessRow). IsNumberIn plan.arrays a.view.array) task.accesses → All (λ (a : AccessRow). IsShown (array_row plan a.view.array) a.view) task.accesses → AreTouched plan task blocks → All (IsNumberIn plan.blocks) blocks
touched_numbers plan task blocks arrays numbers shown touched = contained (IsNumberIn plan.blocks) blocks (λ block there. go block ((touched.exact block).0 there))
  where
    go : (block : ℕ) → Touches plan task block → IsNumberIn plan.blocks block
    go block t =
        let number : IsNumberIn plan.arrays (t.2.1).view.array = All_any (λ (a : AccessRow). IsNumberIn plan.arrays a.view.array) (λ (a : AccessRow). HasElement a t.0 t.1) task.accesses numbers t.2 in
        let view : IsShown (array_row plan (t.2.1).view.array) (t.2.1).view = All_any (λ (a : AccessRow). IsShown (array_row plan a.view.array) a.view) (λ (a : AccessRow). HasElement a t.0 t.1) task.accesses shown t.2 in
        let has : HasBlocks plan (array_row plan (t.2.1).view.array) = All_numbered (HasBlocks plan) no_array plan.arrays (t.2.1).view.array arrays number in
        let inside : t.1 < element_count (array_row plan (t.2.1).view.array).grid = element_within (shape_in (array_row plan (t.2.1).view.array)) (t.2.1).view t.1 view.view t.2.4.1 in
        let within : block_of (array_row plan (t.2.1).view.array).grid t.1 < block_count (array_row plan (t.2.1).view.array).grid = block_within (array_row plan (t.2.1).view.array).grid t.1 has.grid inside in
        let is : block_with plan (t.2.1).view.array t.1 ≡ block = subst (λ (array : ℕ). block_with plan array t.1 ≡ block) (sym t.2.4.0) t.3 in
        (omega (arith, is, has.first), omega (arith, is, within, has.last))

pub blocks_there : (n : ℕ) (s : Above) → IsSound n s → s.settled ≡ true → 1 ≤ length s.plan.procs → n ≤ lines_limit → All (HasBlocks s.plan) s.plan.arrays
blocks_there n s sound settled some few = (can_place s.plan (formed n s sound settled few) some).arrays
