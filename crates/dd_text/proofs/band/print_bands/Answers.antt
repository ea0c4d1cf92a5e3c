use Rattle.std.proofs.Common.{◌≡◌, ◌+◌, ◌-◌, ◌*◌, ◌++◌, min, sym, ap, subst, ◌∙◌, arith, rules}
use Rattle.std.specs.List.{flat_map, range_with_len}
use Rattle.std.proofs.lemmas.List.{append_assoc}
use Rattle.dd_causes.specs.Appended.{AppendsAllBut}
use Rattle.dd_causes.proofs.AppendedLemmas.{front_in_piece}
use Rattle.dd_causes.proofs.CountsLemmas.{anyway_on_err}
use Rattle.dd_meaning.specs.Text.{printed_row, printed}
use Rattle.dd_text.proofs.BandLemmas.{next_band}
use Rattle.dd_text.proofs.RowLemmas.{waiting_more}
use Rattle.dd_text.proofs.band.print_bands.Goals as goal

pub returns-in_err-print_band : goal.returns-in_err-print_band
returns-in_err-print_band g c =
    let first = c.loop-k.k * 16 in
    let next = next_band (printed_row c.args.grid c.args.values.now) first 16 c.args.grid.rows in
    let band = flat_map (printed_row c.args.grid c.args.values.now) (range_with_len first (min 16 (c.args.grid.rows - first))) in
    record {
      all = search rules;
      front = anyway_on_err _ (front_in_piece c.loop-k.invariant.0 (c.loop-k.rows.items ++ band) _ (ap (λ l. c.loop-k.rows.items ++ l) next ∙ sym (append_assoc c.loop-k.rows.items band _)) c.in_err-print_band.ensures.front);
      cause = search rules;
      kept = search rules;
      later = search rules;
    }

pub loop-k-preserved : goal.loop-k-preserved
loop-k-preserved g c =
    let first = c.loop-k.k * 16 in
    let next = next_band (printed_row c.args.grid c.args.values.now) first 16 c.args.grid.rows in
    let left = subst (λ l. AppendsAllBut (g.O.Sink.taken c.args.out.now) (g.O.Sink.taken c.loop-k.out) (c.loop-k.rows.items ++ l) (c.args.rows.now.items ++ printed c.args.grid c.args.values.now)) next c.loop-k.invariant.0 in
    let further : (c.loop-k.k + 1) * 16 ≡ first + 16 = omega arith in
    (rw further (waiting_more c.loop-k.rows.items _ _ left c.in_ok-print_band.ensures.all), c.in_ok-print_band.ensures.kept (λ h. absurd (cc)) ∙ c.loop-k.invariant.1)
