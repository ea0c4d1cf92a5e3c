-- A task whose arguments are right: what is left to ask of it, and what it leaves.
use Rattle.std.proofs.Common.{◌≡◌, ℕ, ◌≤◌, ℤ, List, Option, None, Some, inl, inr, refl, sym, ap, ◌∙◌, subst, arith}
use Rattle.std.specs.Prelude.{is_some}
use Rattle.std.specs.Option.{option_map}
use Rattle.std.proofs.lemmas.Bool.{false≢true}
use Rattle.dd_blocks.specs.declared.task_row.TaskRow.{TaskRow}
use Rattle.dd_blocks.specs.Tasks.{limit_at}
use Rattle.dd_blocks.specs.WellFormed.{IsInLine}
use Rattle.dd_script.specs.declared.piece.Piece.{Piece}
use Rattle.dd_script.specs.declared.statement.Statement.TheVariants.{Task}
use Rattle.dd_check.specs.declared.draft.Draft.{Draft}
use Rattle.dd_check.specs.declared.opened.Opened.{Opened}
use Rattle.dd_check.specs.declared.fault.AcceptFault.{AcceptFault}
use Rattle.dd_check.specs.declared.fault.AcceptFault.TheVariants.{Script, Memory}
use Rattle.dd_check.specs.declared.fault.Fault.{Fault}
use Rattle.dd_check.specs.declared.kind.Kind.TheVariants.{BlockTooLarge, TaskTooLarge, TooMany}
use Rattle.dd_check.specs.Above.{Above}
use Rattle.dd_check.specs.Chain.{IsFoundOr, place_kinds, size_kinds}
use Rattle.dd_check.specs.Drafts.{IsSoundDraft, above_of, region_of}
use Rattle.dd_check.specs.Faults.{AreClear, IsClear, IsFirstOf}
use Rattle.dd_check.specs.Kinds.{IsMisplaced, HasLargeBlock, HasLargeTask, HasTooMany, amounts_of_task, limit_passed}
use Rattle.dd_check.specs.Rows.{IsTask}
use Rattle.dd_check.specs.Sizes.{FitsIn, IsTooMuchOr, PassesLimit, PassesSpace}

-- the row is the only one that the task makes
abbrev pub IsOnlyTask : ℕ → Above → List ℕ → Option ℤ → List Piece → TaskRow → Type 0
IsOnlyTask n s word scalar pieces row = (other : TaskRow) → IsTask n s word scalar pieces other → other ≡ row

limits_clear : (n : ℕ) (s : Above) (word : List ℕ) (scalar : Option ℤ) (pieces : List Piece) (row : TaskRow) → IsOnlyTask n s word scalar pieces row
    → limit_passed (amounts_of_task s row) ≡ None → IsClear n s (Task word scalar pieces) TooMany
limits_clear n s word scalar pieces row only none = λ a b held.
    let many : HasTooMany n s (Task word scalar pieces) a = held.0 in
    let same : many.are.0 ≡ row = only many.are.0 many.are.1 in
    let amounts : many.amounts ≡ amounts_of_task s row = many.are.2 ∙ ap (amounts_of_task s) same in
    let passed : limit_passed (amounts_of_task s row) ≡ Some a = ap limit_passed (sym amounts) ∙ many.passed in
    absurd (cc)

block_clear : (n : ℕ) (s : Above) (word : List ℕ) (scalar : Option ℤ) (pieces : List Piece) → IsClear n s (Task word scalar pieces) BlockTooLarge
block_clear n s word scalar pieces = λ a b held.
    let large : HasLargeBlock s (Task word scalar pieces) a b = held in
    let first : None ≡ Some large.block = large.first in
    absurd (cc)

large_clear : (n : ℕ) (s : Above) (word : List ℕ) (scalar : Option ℤ) (pieces : List Piece) (row : TaskRow) → IsOnlyTask n s word scalar pieces row
    → row.charge ≤ limit_at s.plan row → IsClear n s (Task word scalar pieces) TaskTooLarge
large_clear n s word scalar pieces row only within = λ a b held.
    let large : HasLargeTask n s (Task word scalar pieces) a b = held in
    let at : Task word scalar pieces ≡ Task large.kernel large.scalar large.pieces = large.is in
    let words : large.kernel ≡ word = cc in
    let scalars : large.scalar ≡ scalar = cc in
    let saids : large.pieces ≡ pieces = cc in
    let task : IsTask n s word scalar pieces large.task =
    subst (λ (w : List ℕ). IsTask n s w scalar pieces large.task) words
    (subst (λ (o : Option ℤ). IsTask n s large.kernel o pieces large.task) scalars
    (subst (λ (ps : List Piece). IsTask n s large.kernel large.scalar ps large.task) saids large.row)) in
    let same : large.task ≡ row = only large.task task in
    let charge : a ≡ row.charge = large.charge_is ∙ ap (λ (t : TaskRow). t.charge) same in
    let limit : b ≡ limit_at s.plan row = large.limit_is ∙ ap (limit_at s.plan) same in
    absurd (omega (arith, charge, limit, large.above, within))

-- where there is room for the row, nothing is left to ask
pub sizes_clear : (n : ℕ) (s : Above) (word : List ℕ) (scalar : Option ℤ) (pieces : List Piece) (row : TaskRow) → IsOnlyTask n s word scalar pieces row
    → FitsIn s row → AreClear n s (Task word scalar pieces) size_kinds
sizes_clear n s word scalar pieces row only fits =
    (limits_clear n s word scalar pieces row only fits.limits, (block_clear n s word scalar pieces, (large_clear n s word scalar pieces row only fits.space, tt)))

passes_limit : (n : ℕ) (s : Above) (word : List ℕ) (scalar : Option ℤ) (pieces : List Piece) (row : TaskRow) → IsTask n s word scalar pieces row
    → (fault : Fault) → PassesLimit s row fault → IsFirstOf n s (Task word scalar pieces) size_kinds fault
passes_limit n s word scalar pieces row task fault p =
    inl (p.kind, (record { amounts = amounts_of_task s row; are = (row, task, refl); passed = p.limit }, p.other))

passes_space : (n : ℕ) (s : Above) (word : List ℕ) (scalar : Option ℤ) (pieces : List Piece) (row : TaskRow) → IsTask n s word scalar pieces row
    → IsOnlyTask n s word scalar pieces row → (fault : Fault) → PassesSpace s row fault → IsFirstOf n s (Task word scalar pieces) size_kinds fault
passes_space n s word scalar pieces row task only fault p =
    inr (
      limits_clear n s word scalar pieces row only p.limits,
      inr (
        block_clear n s word scalar pieces,
        inl (
          p.kind,
          record {
            kernel = word;
            scalar = scalar;
            pieces = pieces;
            task = row;
            is = refl;
            row = task;
            above = p.above;
            charge_is = p.charge;
            limit_is = p.limit;
          },
        ),
      ),
    )

-- where there is none, the answer is the first kind that holds
pub too_much : (e : AcceptFault) (n : ℕ) (s : Above) (word : List ℕ) (scalar : Option ℤ) (pieces : List Piece) (row : TaskRow) → IsTask n s word scalar pieces row
    → IsOnlyTask n s word scalar pieces row → IsTooMuchOr e n s row → IsFoundOr e n s (Task word scalar pieces) size_kinds
too_much (Script fault) n s word scalar pieces row task only much = elim much.1 as (λ _. IsFoundOr (Script fault) n s (Task word scalar pieces) size_kinds) [
  | inl p ↦ record { line = much.0; first = passes_limit n s word scalar pieces row task fault p }
  | inr p ↦ record { line = much.0; first = passes_space n s word scalar pieces row task only fault p }
]
too_much Memory n s word scalar pieces row task only much = tt

-- a sound draft has few rows
pub in_line : (d : Draft) → IsSoundDraft d → IsInLine d.plan
in_line d sound = record {
  rows = omega (arith, sound.few, sound.above.line.few);
  tasks = omega (arith, sound.few, sound.above.line.tasks);
  lines = sound.above.line.lines;
}

-- a task stands in an open region
pub placed_task : (d : Draft) (o : Opened) (n : ℕ) (word : List ℕ) (scalar : Option ℤ) (pieces : List Piece) → d.opened ≡ Some o → AreClear n (above_of d) (Task word scalar pieces) place_kinds
placed_task d o n word scalar pieces is = ((λ a b h. h.0 (ap (λ (x : Option Opened). is_some (option_map region_of x)) is)), tt)

pub misplaced_task : (d : Draft) (word : List ℕ) (scalar : Option ℤ) (pieces : List Piece) → d.opened ≡ None → IsMisplaced (above_of d) (Task word scalar pieces)
misplaced_task d word scalar pieces is = λ e. false≢true (sym (ap (λ (x : Option Opened). is_some (option_map region_of x)) is) ∙ e)
