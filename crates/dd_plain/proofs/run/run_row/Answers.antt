use Rattle.std.proofs.Common.{List, get_or, refl, ap, sym, subst, ◌∙◌}
use Rattle.dd_blocks.specs.declared.statement_row.StatementRow.{StatementRow}
use Rattle.dd_blocks.specs.ArrayHomes.{homes_after}
use Rattle.dd_text.specs.Writes.{Writes}
use Rattle.dd_plain.proofs.RowLemmas.{anyway_on_ok, has_room, is_at, other_row, run_past, text_at}
use Rattle.dd_plain.proofs.run.run_row.Goals as goal

pub run_region-requires-clause-row : goal.run_region-requires-clause-row
run_region-requires-clause-row g c = record {
  within = c.requires.within;
  what = sym (is_at c.args.plan.now c.as_slice.result.now c.args.i c.index-as_slice-i.result c.as_slice.ensures c.requires.within) ∙ c.in-Region.is;
}

pub follow-requires : goal.follow-requires
follow-requires g c =
    has_room c.args.plan.now c.as_slice.result.now c.args.i c.index-as_slice-i.result c.args.run.now.moves.homes.items c.requires.well c.as_slice.ensures c.requires.within
    c.requires.begun.rest.homes.count

pub returns : goal.returns
returns g c =
    let plan = c.args.plan.now in
    let i = c.args.i in
    let rows = c.as_slice.result.now in
    let row = c.index-as_slice-i.result in
    let run = c.args.run.now in
    let begun = c.requires.begun in
    let other = other_row plan rows i row c.as_slice.ensures c.in_default.not-Region in
    let homes = c.follow.ensures.homes ∙ ap (λ (l : List StatementRow). homes_after run.moves.homes.items (get_or l i row).what) c.as_slice.ensures in
    let text = text_at plan rows i row c.deref.result.now run c.as_slice.ensures c.requires.within begun c.deref.ensures.value in
    record {
      ran = anyway_on_ok c.write_row.result (run_past plan i row run _ c.requires.well c.requires.within other begun refl refl c.follow.ensures.asked c.follow.ensures.marks homes);
      written = subst (λ bytes. Writes bytes c.write_row.result (g.O.Sink.taken c.args.out.now) (g.O.Sink.taken c.write_row.new.out) (g.O.Sink.faults c.args.out.now) (g.O.Sink.faults c.write_row.new.out)) text c.write_row.ensures;
    }
