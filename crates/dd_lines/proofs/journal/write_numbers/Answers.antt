use Rattle.std.proofs.Common.{arith}
use Rattle.std.proofs.lemmas.List.{at_drop_more}
use Rattle.dd_causes.proofs.CountsLemmas.{anyway_on_err}
use Rattle.dd_causes.proofs.AppendedLemmas.{all_but_more, front_in_piece}
use Rattle.std.specs.List.{flat_map}
use Rattle.dd_lines.specs.Lines.{number_after}
use Rattle.dd_lines.proofs.journal.write_numbers.Goals as goal

pub loop-number-preserved : goal.loop-number-preserved
loop-number-preserved g c =
    let next = at_drop_more (flat_map number_after) c.args.numbers.now c.loop-number.number-index _ (omega arith) in
    (all_but_more c.loop-number.invariant.0 _ _ next c.in_ok-write_number.ensures.all, omega (arith, c.loop-number.invariant.1, c.in_ok-write_number.ensures.kept))

pub returns-in_err-write_number-clause-front : goal.returns-in_err-write_number-clause-front
returns-in_err-write_number-clause-front g c =
    let next = at_drop_more (flat_map number_after) c.args.numbers.now c.loop-number.number-index _ (omega arith) in
    anyway_on_err _ (front_in_piece c.loop-number.invariant.0 _ _ next c.in_err-write_number.ensures.front)
