use Rattle.std.proofs.Common.{◌+◌, ◌-◌, ◌<◌, ◌≤◌, ℕ, length, ap, sym, ◌∙◌, rules, arith}
use Rattle.std.specs.Int.{w64}
use Rattle.std.proofs.lemmas.Int.{to_z-of_z}
use Rattle.dd_kernels.specs.Lists.{element}
use Rattle.dd_kernels.specs.Packed.{packed, strictly_lower_pairs}
use Rattle.dd_kernels.proofs.ListsLemmas.{tabulate_more}
use Rattle.dd_packed.proofs.ColumnsLemmas.{strict_place, row_place, row_step, row_end}
use Rattle.dd_packed.proofs.reflection.read_row.Goals as goal

pub bounds-p-place : goal.bounds-p-place
bounds-p-place c =
    row_place c.args.order (length c.args.column.now) c.loop-a.a-index (length c.args.p.now) c.loop-a.place (omega arith) c.requires.below c.requires.triangle c.loop-a.invariant.place

pub offset_bounds-p-place : goal.offset_bounds-p-place
offset_bounds-p-place c =
    let within : c.loop-a.place < length c.args.p.now = row_place c.args.order (length c.args.column.now) c.loop-a.a-index (length c.args.p.now) c.loop-a.place (omega arith) c.requires.below c.requires.triangle c.loop-a.invariant.place in
    search rules

pub overflow_add-place : goal.overflow_add-place
overflow_add-place c =
    let within : c.loop-a.place + (c.loop-a.step - 1) ≤ length c.args.p.now = row_end c.args.order (length c.args.column.now) c.loop-a.a-index (length c.args.p.now) c.loop-a.place c.loop-a.step (omega arith) c.requires.below c.requires.triangle c.loop-a.invariant.step c.loop-a.invariant.place in
    search rules

pub loop-a-preserved : goal.loop-a-preserved
loop-a-preserved c =
    let n : ℕ = c.args.order in
    let j : ℕ = length c.args.column.now in
    let i : ℕ = c.loop-a.a-index in
    let p = c.args.p.now in
    let place : ℕ = c.loop-a.place in
    let above : i < j = omega arith in
    let value = to_z-of_z w64 (element p place) (search rules) ∙ (ap (element p) (omega (arith, c.loop-a.invariant.place)) ∙ sym (strict_place n j i p above c.requires.below)) in
    record {
      place = row_step n j i place c.loop-a.step above c.requires.below c.loop-a.invariant.step c.loop-a.invariant.place;
      step = omega (arith, c.loop-a.invariant.step);
      front = tabulate_more (packed (strictly_lower_pairs n) p j) c.loop-a.column i _ (omega arith) value c.loop-a.invariant.front;
    }
