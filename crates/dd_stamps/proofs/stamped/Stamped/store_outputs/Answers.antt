use Rattle.std.proofs.Common.{◌≡◌, ◌<◌, ℕ, ℤ, Bor, List, length, sym, ap, ◌∙◌, refl, subst, arith}
use Rattle.std.specs.Global.{Vec}
use Rattle.std.proofs.lemmas.List.{with_items_is}
use Rattle.dd_blocks.specs.declared.plan.Plan.{Plan}
use Rattle.dd_blocks.specs.Grids.{block_count, block_size, pos_of}
use Rattle.dd_blocks.specs.Numbered.{IsNumberIn}
use Rattle.dd_meaning.specs.Lists.{lists_of}
use Rattle.dd_meaning.specs.Values.{outputs_of}
use Rattle.dd_stamps.specs.declared.work.Stage.TheVariants.{Begun, Ran}
use Rattle.dd_stamps.specs.Stored.{HoldsOutputs}
use Rattle.dd_stamps.proofs.BlockOutputsLemmas.{number_in, outputs_in, outputs_true, pending_written, rows_of, same_size, views_in, work_lengths}
use Rattle.dd_stamps.proofs.CellsLemmas.{both_true}
use Rattle.dd_stamps.proofs.FoundLemmas.{accesses_views}
use Rattle.dd_stamps.proofs.stamped.Stamped.store_outputs.Goals as goal

pub store_all-requires : goal.store_all-requires
store_all-requires c =
    let of_plan = rows_of c.args.self.now.plan.now c.args.work.now.task c.args.self.now.block _ _ _ _ _ c.as_slice-accesses.ensures c.task_row.ensures c.block_row-number.ensures c.array_with-array.ensures.row c.from-block.ensures c.array_with-array.ensures.size in
    let same = ap (λ (r : Bor Plan). r.now) c.requires.plan in
    let known = subst (λ (p : Plan). IsNumberIn p.tasks c.args.work.now.task) (ap (λ (r : Bor Plan). r.now) c.requires.plan) c.args.work.now.known in
    let size = same_size c.args.self.now.plan.now c.args.work.now.task c.args.self.now.block _ _ _ _ of_plan in (
      c.array_with-array.ensures.grid,
      (
        subst (λ (b : ℕ). b < block_count c.array_with-array.result.grid) (sym of_plan.number_is) c.array_with-array.ensures.high,
        (
          views_in c.args.self.now.plan.now c.args.work.now.task c.args.self.now.block _ _ _ _ of_plan (accesses_views c.args.self.now.plan.now c.args.work.now.task c.requires.well known),
          (
            work_lengths c.args.work.now.plan.now c.args.self.now.plan.now c.args.work.now.task c.as_slice-accesses.result.now (lists_of c.deref.result.now) (lists_of c.args.work.now.args.bufs.items) c.requires.well known same of_plan.accesses_are (ap lists_of c.deref.ensures.value)
                (c.args.work.now.filled (λ (e : c.args.work.now.stage ≡ Begun). let clash : Ran ≡ Begun = sym c.requires.ran ∙ e in absurd (cc))),
            (
              ap length c.deref_mut.ensures.value ∙ c.args.self.now.full ∙ size,
              (
                c.args.self.now.stamps ∙ size,
                (
                  λ q lt is. is,
                  omega (arith, pending_written c.args.self.now.plan.now c.args.work.now.task c.args.self.now.block _ _ _ _ of_plan c.args.self.now.versions c.args.self.now.stamps, c.requires.spare),
                ),
              ),
            ),
          ),
        ),
      ),
    )

pub invariant_of-self-clause-stamps : goal.invariant_of-self-clause-stamps
invariant_of-self-clause-stamps c = c.store_all.ensures.versions.count ∙ c.args.self.now.stamps

pub invariant_of-self-clause-full : goal.invariant_of-self-clause-full
invariant_of-self-clause-full c =
    ap length (with_items_is c.args.self.now.values c.store_all.new.values (c.store_all.ensures.values.count ∙ c.deref_mut.ensures.len)) ∙ c.store_all.ensures.values.count ∙ ap length c.deref_mut.ensures.value ∙ c.args.self.now.full

pub invariant_of-self-clause-cells : goal.invariant_of-self-clause-cells
invariant_of-self-clause-cells c = λ told.
    let of_plan = rows_of c.args.self.now.plan.now c.args.work.now.task c.args.self.now.block _ _ _ _ _ c.as_slice-accesses.ensures c.task_row.ensures c.block_row-number.ensures c.array_with-array.ensures.row c.from-block.ensures c.array_with-array.ensures.size in
    let same = ap (λ (r : Bor Plan). r.now) c.requires.plan in
    let known = subst (λ (p : Plan). IsNumberIn p.tasks c.args.work.now.task) (ap (λ (r : Bor Plan). r.now) c.requires.plan) c.args.work.now.known in
    let marks = both_true c.args.self.now.told.mark c.args.work.now.told.mark (sym c.both.ensures ∙ told) in
    let made : lists_of c.args.work.now.args.bufs.items ≡ outputs_of c.args.self.now.plan.now c.args.work.now.task = c.args.work.now.outputs marks.1 c.requires.ran ∙ ap (λ (p : Plan). outputs_of p c.args.work.now.task) same in
    let long = work_lengths c.args.work.now.plan.now c.args.self.now.plan.now c.args.work.now.task _ _ (lists_of c.args.work.now.args.bufs.items) c.requires.well known same refl refl
    (c.args.work.now.filled (λ (e : c.args.work.now.stage ≡ Begun). let clash : Ran ≡ Begun = sym c.requires.ran ∙ e in absurd (cc))) in
    let outputs = outputs_in c.args.self.now.plan.now c.args.work.now.task c.args.self.now.block _ _ _ _ of_plan (lists_of c.args.work.now.args.bufs.items) c.deref_mut.result.now c.args.self.now.values.items c.store_all.new.values _ c.deref_mut.ensures.value
    (with_items_is c.args.self.now.values c.store_all.new.values (c.store_all.ensures.values.count ∙ c.deref_mut.ensures.len))
    (subst (λ (l : List (Vec ℤ)). HoldsOutputs c.as_slice-accesses.result.now (lists_of l) (λ q. record { array = c.block_row-number.result.array; pos = pos_of c.array_with-array.result.grid c.from-block.result q }) (block_size c.array_with-array.result.grid c.from-block.result) c.deref_mut.result.now c.store_all.new.values) c.deref.ensures.value c.store_all.ensures.values) in
    let number = number_in c.args.self.now.plan.now c.args.work.now.task c.args.self.now.block _ _ _ _ of_plan c.args.self.now.versions.list c.store_all.new.versions.list c.store_all.ensures.versions in
    outputs_true c.args.self.now.plan.now c.args.work.now.task c.args.self.now.block (lists_of c.args.work.now.args.bufs.items) c.args.self.now.versions.list c.store_all.new.versions.list c.args.self.now.values.items _ c.requires.well known c.args.self.now.known made long outputs number (c.args.self.now.cells marks.0)

pub returns-clause-values : goal.returns-clause-values
returns-clause-values c =
    let of_plan = rows_of c.args.self.now.plan.now c.args.work.now.task c.args.self.now.block _ _ _ _ _ c.as_slice-accesses.ensures c.task_row.ensures c.block_row-number.ensures c.array_with-array.ensures.row c.from-block.ensures c.array_with-array.ensures.size in
    outputs_in c.args.self.now.plan.now c.args.work.now.task c.args.self.now.block _ _ _ _ of_plan (lists_of c.args.work.now.args.bufs.items) c.deref_mut.result.now c.args.self.now.values.items c.store_all.new.values _ c.deref_mut.ensures.value
    (with_items_is c.args.self.now.values c.store_all.new.values (c.store_all.ensures.values.count ∙ c.deref_mut.ensures.len))
    (subst (λ (l : List (Vec ℤ)). HoldsOutputs c.as_slice-accesses.result.now (lists_of l) (λ q. record { array = c.block_row-number.result.array; pos = pos_of c.array_with-array.result.grid c.from-block.result q }) (block_size c.array_with-array.result.grid c.from-block.result) c.deref_mut.result.now c.store_all.new.values) c.deref.ensures.value c.store_all.ensures.values)

pub returns-clause-versions : goal.returns-clause-versions
returns-clause-versions c =
    let of_plan = rows_of c.args.self.now.plan.now c.args.work.now.task c.args.self.now.block _ _ _ _ _ c.as_slice-accesses.ensures c.task_row.ensures c.block_row-number.ensures c.array_with-array.ensures.row c.from-block.ensures c.array_with-array.ensures.size in
    number_in c.args.self.now.plan.now c.args.work.now.task c.args.self.now.block _ _ _ _ of_plan c.args.self.now.versions.list c.store_all.new.versions.list c.store_all.ensures.versions

pub returns-clause-spare : goal.returns-clause-spare
returns-clause-spare c =
    let of_plan = rows_of c.args.self.now.plan.now c.args.work.now.task c.args.self.now.block _ _ _ _ _ c.as_slice-accesses.ensures c.task_row.ensures c.block_row-number.ensures c.array_with-array.ensures.row c.from-block.ensures c.array_with-array.ensures.size in
    omega (arith, c.store_all.ensures.spare, pending_written c.args.self.now.plan.now c.args.work.now.task c.args.self.now.block _ _ _ _ of_plan c.args.self.now.versions c.args.self.now.stamps)
