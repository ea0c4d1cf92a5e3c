use Rattle.std.proofs.Common.{ap, subst}
use Rattle.dd_blocks.specs.declared.array_row.ArrayRow.{ArrayRow}
use Rattle.dd_text.specs.Writes.{Writes}
use Rattle.dd_plain.specs.Lists.{lists_of}
use Rattle.dd_plain.proofs.RowLemmas.{named_print, named_sum, size_at, text_of_print, text_of_sum, values_at}
use Rattle.dd_plain.proofs.run.write_row.Goals as goal

pub print_array-requires : goal.print_array-requires
print_array-requires g c =
    let plan = c.args.plan.now in
    let named = named_print plan c.args.what.now c.in-Print.array c.requires.named c.in-Print.is in
    let values = values_at plan c.args.world.now c.in-Print.array c.deref.result.now c.index-world-place.result named c.requires.sizes c.index-world-place.is c.deref.ensures.value in
    size_at plan c.args.world.now c.in-Print.array c.deref.result.now _ c.requires.sizes values (ap (λ (a : ArrayRow). a.grid) c.array.ensures)

pub returns-in-Print : goal.returns-in-Print
returns-in-Print g c =
    let plan = c.args.plan.now in
    let named = named_print plan c.args.what.now c.in-Print.array c.requires.named c.in-Print.is in
    let values = values_at plan c.args.world.now c.in-Print.array c.deref.result.now c.index-world-place.result named c.requires.sizes c.index-world-place.is c.deref.ensures.value in
    subst (λ text. Writes text c.print_array.result (g.O.Sink.taken c.args.out.now) (g.O.Sink.taken c.print_array.new.out) (g.O.Sink.faults c.args.out.now) (g.O.Sink.faults c.print_array.new.out))
    (text_of_print plan (lists_of c.args.world.now) c.args.moved c.args.what.now c.in-Print.array c.deref.result.now _ c.in-Print.is values (ap (λ (a : ArrayRow). a.grid) c.array.ensures)) c.print_array.ensures

pub returns-in-Sum : goal.returns-in-Sum
returns-in-Sum g c =
    let plan = c.args.plan.now in
    let named = named_sum plan c.args.what.now c.in-Sum.array c.in-Sum.name c.requires.named c.in-Sum.is in
    let values = values_at plan c.args.world.now c.in-Sum.array c.deref-in-Sum.result.now c.index-world-place-in-Sum.result named c.requires.sizes c.index-world-place-in-Sum.is c.deref-in-Sum.ensures.value in
    subst (λ text. Writes text c.print_sum.result (g.O.Sink.taken c.args.out.now) (g.O.Sink.taken c.print_sum.new.out) (g.O.Sink.faults c.args.out.now) (g.O.Sink.faults c.print_sum.new.out))
    (text_of_sum plan (lists_of c.args.world.now) c.args.moved c.args.what.now c.in-Sum.array c.in-Sum.name c.as_bytes.result.now c.deref-in-Sum.result.now c.in-Sum.is c.as_bytes.ensures values) c.print_sum.ensures
