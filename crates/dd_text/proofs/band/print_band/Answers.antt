use Rattle.std.proofs.Common.{ℕ, ◌++◌, length, ap, subst, ◌∙◌, arith, rules}
use Rattle.std.specs.List.{flat_map, range_with_len}
use Rattle.dd_causes.proofs.AppendedLemmas.{front_untouched}
use Rattle.dd_causes.proofs.CountsLemmas.{anyway_on_err}
use Rattle.dd_blocks.specs.declared.grid.Grid.{Grid}
use Rattle.dd_meaning.specs.Text.{printed, printed_row}
use Rattle.dd_text.specs.Writes.{WritesAllBut}
use Rattle.dd_text.proofs.BandLemmas.{AreRows, band_long, band_printed}
use Rattle.dd_text.proofs.band.print_band.Goals as goal

pub returns-in_err-gather_band : goal.returns-in_err-gather_band
returns-in_err-gather_band g c = record {
  all = search rules;
  front = anyway_on_err _ (front_untouched _ _);
  cause = search rules;
  kept = search rules;
  later = search rules;
}

pub print_rows-requires : goal.print_rows-requires
print_rows-requires g c =
    let rows : AreRows c.args.grid c.args.values.now c.args.first c.min-height.result = record { within = omega (arith, c.requires.within, c.min-height.ensures); filled = c.requires.filled } in
    ap length (c.deref.ensures.value ∙ c.in_ok-gather_band.ensures) ∙ band_long c.args.grid c.args.values.now c.args.first c.min-height.result rows ∙ omega arith

pub returns : goal.returns
returns g c =
    let rows : AreRows c.args.grid c.args.values.now c.args.first c.min-height.result = record { within = omega (arith, c.requires.within, c.min-height.ensures); filled = c.requires.filled } in
    let part : Grid = record { rows = c.min-height.result; cols = c.args.grid.cols; brows = c.args.grid.brows; bcols = c.args.grid.bcols } in
    let same = ap (printed part) (c.deref.ensures.value ∙ c.in_ok-gather_band.ensures) ∙ band_printed c.args.grid c.args.values.now c.args.first c.min-height.result rows ∙ ap (λ (n : ℕ). flat_map (printed_row c.args.grid c.args.values.now) (range_with_len c.args.first n)) c.min-height.ensures in
    subst (λ l. WritesAllBut c.print_rows.new.rows.items (c.args.rows.now.items ++ l) c.print_rows.result (g.O.Sink.taken c.args.out.now) (g.O.Sink.taken c.print_rows.new.out) (g.O.Sink.faults c.args.out.now) (g.O.Sink.faults c.print_rows.new.out)) same c.print_rows.ensures
