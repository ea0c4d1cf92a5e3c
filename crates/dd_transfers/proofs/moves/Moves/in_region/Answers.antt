use Rattle.std.proofs.Common.{◌≡◌, ◌-◌, ◌<◌, ℕ, List, length, take, refl, sym, ap, ◌∙◌, subst, arith}
use Rattle.std.specs.List.{All}
use Rattle.dd_blocks.specs.declared.task_row.TaskRow.{TaskRow}
use Rattle.dd_blocks.specs.Homes.{row_of_region}
use Rattle.dd_transfers.specs.Visits.{IsDone, IsWalkable, region_visits}
use Rattle.dd_meaning.specs.RegionRows.{next_region}
use Rattle.dd_transfers.proofs.HomesLemmas.{rest_past}
use Rattle.dd_transfers.proofs.MovedLemmas.{is_done, region_few, tasks_walkable}
use Rattle.dd_transfers.proofs.OneSpaceLemmas.{nothing_moves}
use Rattle.dd_transfers.proofs.PlanLemmas.{are_homes}
use Rattle.dd_meaning.proofs.HomesLemmas.{rows_above_name}
use Rattle.dd_transfers.proofs.PlanLemmas.{homes_of_region}
use Rattle.dd_lists.proofs.VectorsLemmas.{items_written}
use Rattle.dd_transfers.proofs.moves.Moves.in_region.Goals as goal

pub returns-then-i-self-clause-rest : goal.returns-then-i-self-clause-rest
returns-then-i-self-clause-rest c =
    rest_past c.args.plan.now c.args.i (next_region c.args.plan.now c.args.i) c.args.self.now c.args.self.now c.requires.row c.requires.rest refl refl c.requires.rest.unmarked

pub returns-then-as_slice-eq1 : goal.returns-then-as_slice-eq1
returns-then-as_slice-eq1 c =
    let region : ℕ = next_region c.args.plan.now c.args.i in
    let one : length c.args.plan.now.spaces ≡ 1 = sym (ap length c.as_slice.ensures) ∙ c.if-as_slice-eq1.true in
    record {
      value = λ asked. sym (nothing_moves c.args.plan.now c.requires.well region one);
      few = omega arith;
      asked = refl;
      rest = rest_past c.args.plan.now c.args.i region c.args.self.now c.args.self.now c.requires.row c.requires.rest refl refl c.requires.rest.unmarked;
    }

pub visit_region-requires-clause-homes : goal.visit_region-requires-clause-homes
visit_region-requires-clause-homes c =
    let region : ℕ = next_region c.args.plan.now c.args.i in
    let above : ℕ = row_of_region c.args.plan.now region - 1 in
    are_homes c.args.plan.now (take above c.args.plan.now.statements) c.deref.result.now (rows_above_name c.args.plan.now c.requires.well above)
    (homes_of_region c.args.plan.now c.args.i region c.deref.result.now c.args.self.now.homes.items c.requires.well c.requires.row c.requires.rest.homes c.deref.ensures.value)

pub visit_region-requires-clause-tasks : goal.visit_region-requires-clause-tasks
visit_region-requires-clause-tasks c =
    subst (λ (tasks : List TaskRow). All (IsWalkable c.args.plan.now) tasks) (sym c.requires.tasks) (tasks_walkable c.args.plan.now c.requires.well (next_region c.args.plan.now c.args.i))

pub visit_region-requires-clause-few : goal.visit_region-requires-clause-few
visit_region-requires-clause-few c =
    omega (
      arith,
      region_few c.args.plan.now c.requires.well (next_region c.args.plan.now c.args.i) c.deref.result.now,
      ap (λ (tasks : List TaskRow). length (region_visits c.args.plan.now c.deref.result.now tasks)) c.requires.tasks,
    )

pub returns : goal.returns
returns c =
    let plan = c.args.plan.now in
    let region : ℕ = next_region plan c.args.i in
    let some : 1 < length plan.spaces = omega (arith, c.if-as_slice-eq1.false, ap length c.as_slice.ensures, c.requires.well.machine.space) in
    let marks = c.deref_mut.ensures.value ∙ c.requires.rest.unmarked some c.if-i-self.false in
    let homes = homes_of_region plan c.args.i region c.deref.result.now c.args.self.now.homes.items c.requires.well c.requires.row c.requires.rest.homes c.deref.ensures.value in
    let done : IsDone plan region c.visit_region.new.marks c.visit_region.result =
    is_done plan c.requires.well region (omega arith) c.deref.result.now homes c.deref_mut.result.now c.visit_region.new.marks c.args.tasks.now c.visit_region.result
    c.requires.tasks marks c.visit_region.ensures in
    let written = items_written c.args.self.now.marks c.visit_region.new.marks (c.visit_region.auto.marks ∙ ap length c.deref_mut.ensures.value) in
    record {
      value = λ asked. done.value;
      few = done.few;
      asked = refl;
      rest = rest_past plan c.args.i region c.args.self.now _ c.requires.row c.requires.rest refl refl (λ many less. written ∙ done.rest);
    }
