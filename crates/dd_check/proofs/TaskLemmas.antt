-- The row of a task of the region that is open.
use Rattle.std.proofs.Common.{◌≡◌, ◌≢◌, ℕ, suc, ℤ, pos, ◌+◌, ◌^◌, ◌<◌, ◌≤◌, List, [], ◌∷◌, length, Option, None, Some, unwrap_or, ap, ◌∙◌, sym, subst, refl, arith}
use Rattle.std.specs.List.{All, cons_option}
use Rattle.std.specs.Option.{option_map}
use Rattle.std.proofs.lemmas.List.Elements.{All-weaker}
use Rattle.dd_kernels.specs.declared.kernel.Kernel.{Kernel}
use Rattle.dd_kernels.specs.Names.{name_of}
use Rattle.dd_blocks.specs.declared.access_row.AccessRow.{AccessRow}
use Rattle.dd_blocks.specs.declared.plan.Plan.{Plan}
use Rattle.dd_blocks.specs.declared.rule.Rule.{Rule}
use Rattle.dd_blocks.specs.declared.rule.Rule.TheVariants.{Home, Rr}
use Rattle.dd_blocks.specs.declared.statement_row.StatementRow.{StatementRow}
use Rattle.dd_blocks.specs.declared.task_row.TaskRow.{TaskRow}
use Rattle.dd_blocks.specs.ArrayHomes.{AreMovedTo, rows_above}
use Rattle.dd_blocks.specs.Charges.{AreTouched, charge_of}
use Rattle.dd_blocks.specs.Layout.{elements_in}
use Rattle.dd_blocks.specs.Limits.{blocks_limit, elements_limit}
use Rattle.dd_blocks.specs.Lives.{region_run, regions_run}
use Rattle.dd_blocks.specs.Numbered.{array_row}
use Rattle.dd_blocks.specs.Tasks.{shape_in}
use Rattle.dd_blocks.specs.WellFormed.{IsInLine, IsWellFormed}
use Rattle.dd_place.specs.Placement.{IsPlaced, IsPlacedBy}
use Rattle.dd_blocks.specs.OfPlan.{IsOfPlan}
use Rattle.dd_place.specs.Premises.{CanPlace}
use Rattle.dd_place.proofs.NextLemmas.{above_next}
use Rattle.dd_place.proofs.PremisesLemmas.{can_place}
use Rattle.dd_script.specs.declared.piece.Piece.{Piece}
use Rattle.dd_check.specs.declared.draft.Draft.{Draft}
use Rattle.dd_check.specs.declared.opened.Opened.{Opened}
use Rattle.dd_check.specs.Above.{Above}
use Rattle.dd_check.specs.Drafts.{IsSoundDraft, Sums, SumsOpen, above_of, region_of}
use Rattle.dd_check.specs.Rows.{AreAccesses, IsTask}
use Rattle.dd_check.specs.Seen.{AreSeen, IsSeen}
use Rattle.dd_touch.specs.Small.{IsSmallAccess}
use Rattle.dd_check.specs.Sound.{IsSound}
use Rattle.dd_check.proofs.BlocksLemmas.{length_blocks}
use Rattle.dd_check.proofs.KnownLemmas.{few_elements}

-- the Plan so far is well formed
well_so_far : (n : ℕ) (s : Above) → IsSound n s → IsInLine s.plan → 1 ≤ length s.plan.procs → IsWellFormed s.plan
well_so_far n s sound line some = record {
  machine = record { space = sound.machine.space_of_proc (λ none. absurd (omega (arith, ap length none))); proc = λ _. some };
  names = sound.names_rows;
  layout = sound.layout;
  tasks = sound.tasks;
  homes = sound.homes;
  limits = sound.limits;
  line = line;
  regions = sound.regions;
  lives = sound.lives;
}

is_open : (o : Option Opened) (region : Opened) → o ≡ Some region → option_map region_of o ≢ None
is_open o region is none = let e : option_map region_of (Some region) ≡ None = subst (λ (x : Option Opened). option_map region_of x ≡ None) is none in absurd (cc)

-- the rows and the tasks fit
in_line : (d : Draft) → IsSoundDraft d → IsInLine d.plan
in_line d sound = record {
  rows = omega (arith, sound.above.line.few, sound.few);
  tasks = omega (arith, sound.above.line.tasks, sound.few);
  lines = sound.above.line.lines;
}

pub draft_can_place : (d : Draft) (region : Opened) → IsSoundDraft d → d.opened ≡ Some region → CanPlace d.plan
draft_can_place d region sound is =
    let some : 1 ≤ length d.plan.procs = sound.above.machine.opened (is_open d.opened region is) in
    can_place d.plan (well_so_far sound.lines (above_of d) sound.above (in_line d sound) some) some

pub few_blocks : (d : Draft) → IsSoundDraft d → length d.plan.blocks ≤ blocks_limit
few_blocks d sound = omega (arith, length_blocks d.plan sound.above.layout, sound.above.limits.blocks)

-- accesses of arrays that are there
pub of_plan : (plan : Plan) (accesses : List AccessRow) → AreSeen plan accesses → All (IsOfPlan plan) accesses
of_plan plan accesses seen = All-weaker (IsSeen plan) (IsOfPlan plan) (λ a see. record { array = see.0; view = see.1.view }) accesses seen

pub small_accesses : (plan : Plan) (accesses : List AccessRow) → elements_in plan.arrays ≤ elements_limit → AreSeen plan accesses → All IsSmallAccess accesses
small_accesses plan accesses few seen =
    All-weaker (IsSeen plan) IsSmallAccess (λ a see. (shape_in (array_row plan a.view.array), see.1.view, few_elements plan a.view.array few see.0)) accesses seen

option_few : {X : Type 0} (o : Option X) (xs : List X) → length (cons_option o xs) ≤ suc (length xs)
option_few None xs = omega arith
option_few (Some x) xs = omega arith

regions_few : (rows : List StatementRow) → length (regions_run rows) ≤ length rows
regions_few [] = omega arith
regions_few (row ∷ rows) = omega (arith, option_few (region_run row.what) (regions_run rows), regions_few rows)

-- the number of the region fits
pub region_fits : (d : Draft) → IsSoundDraft d → d.regions + 1 < 2 ^ 32
region_fits d sound = omega (arith, sound.counts.regions, regions_few d.plan.statements, (in_line d sound).rows)

-- the homes of the arrays when it begins
pub homes_above : (d : Draft) → IsSoundDraft d → AreMovedTo (length d.plan.arrays) (rows_above d.plan (d.regions + 1)) d.homes.items
homes_above d sound =
    let all : rows_above d.plan (d.regions + 1) ≡ d.plan.statements = above_next d.plan (d.regions + 1) sound.above.regions (ap (λ (n : ℕ). n + 1) sound.counts.regions) in
    subst (λ (rows : List StatementRow). AreMovedTo (length d.plan.arrays) rows d.homes.items) (sym all) sound.counts.homes

-- the processors of the earlier tasks of the region
procs_are : (d : Draft) (region : Opened) → IsSoundDraft d → d.opened ≡ Some region → Sums region
procs_are d region sound is = subst SumsOpen is sound.counts.opened

-- a row by its parts
abbrev pub row_of : ℕ → ℕ → Kernel → ℤ → List AccessRow → List ℕ → ℕ → ℕ → TaskRow
row_of line region kernel scalar accesses blocks charge proc = record { line = line; region = region; kernel = kernel; scalar = scalar; accesses = accesses; proc = proc; deps = []; blocks = blocks; charge = charge }

-- a task is placed by its region and its accesses alone
placed_as : (rule : Rule) (plan : Plan) (earlier : List ℕ) (line region : ℕ) (kernel : Kernel) (scalar : ℤ) (accesses : List AccessRow) (blocks : List ℕ) (charge p q proc : ℕ)
    → IsPlacedBy rule plan earlier (row_of line region kernel scalar accesses blocks charge p) proc → IsPlacedBy rule plan earlier (row_of line region kernel scalar accesses blocks charge q) proc
placed_as Rr plan earlier line region kernel scalar accesses blocks charge p q proc placed = placed
placed_as Home plan earlier line region kernel scalar accesses blocks charge p q proc placed = placed

-- what is known of the parts of a task's row
pub record AreParts (d : Draft) (earlier : List ℕ) (line region : ℕ) (kernel : Kernel) (scalar : ℤ) (accesses : List AccessRow) (blocks : List ℕ) (charge proc : ℕ) : Type 0 where
  pub number : region ≡ d.regions + 1
  pub placed : IsPlaced d.plan earlier (row_of line region kernel scalar accesses blocks charge 0) proc
  pub touched : (task : TaskRow) → task.accesses ≡ accesses → AreTouched d.plan task blocks
  pub charged : (task : TaskRow) → task.accesses ≡ accesses → task.blocks ≡ blocks → charge ≡ charge_of d.plan task

pub task_is : (d : Draft) (opened : Opened) (line region : ℕ) (kernel : Kernel) (scalar : ℤ) (accesses : List AccessRow) (blocks : List ℕ) (charge proc : ℕ)
    → IsSoundDraft d → d.opened ≡ Some opened → AreParts d opened.procs.items line region kernel scalar accesses blocks charge proc
    → (word : List ℕ) (given : Option ℤ) (pieces : List Piece) → word ≡ name_of kernel → scalar ≡ unwrap_or given (pos 0) → AreAccesses (above_of d) pieces accesses
    → IsTask line (above_of d) word given pieces (row_of line region kernel scalar accesses blocks charge proc)
task_is d opened line region kernel scalar accesses blocks charge proc sound is parts word given pieces named given_is shown = record {
  line = refl;
  region = parts.number ∙ ap (λ (n : ℕ). n + 1) sound.counts.regions;
  kernel_named = named;
  scalar_is = given_is;
  accesses = shown;
  proc = rw is (subst (λ (earlier : List ℕ). IsPlaced d.plan earlier (row_of line region kernel scalar accesses blocks charge proc) proc) (procs_are d opened sound is).procs
      (placed_as d.plan.rule d.plan opened.procs.items line region kernel scalar accesses blocks charge 0 proc proc parts.placed));
  deps = refl;
  blocks = parts.touched (row_of line region kernel scalar accesses blocks charge proc) refl;
  charge = parts.charged (row_of line region kernel scalar accesses blocks charge proc) refl refl;
}
