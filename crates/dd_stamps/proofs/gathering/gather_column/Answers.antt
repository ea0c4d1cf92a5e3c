use Rattle.std.proofs.Common.{ℕ, ◌+◌, ◌-◌, ◌<◌, pos, get_or, sym, ap, ◌∙◌, arith, rules}
use Rattle.dd_stamps.proofs.ColumnsLemmas.{one_step, run_place}
use Rattle.dd_stamps.proofs.PlacedLemmas.{run_placed}
use Rattle.dd_stamps.proofs.gathering.gather_column.Goals as goal

pub copy_run-requires-clause-here : goal.copy_run-requires-clause-here
copy_run-requires-clause-here c =
    let one = one_step c.args.column.step (search rules) c.if-column-eq1.true in
    let last : ℕ = c.args.piece.end - 1 in
    let some : c.args.piece.from < c.args.piece.end = omega (arith, c.requires.places.order, c.if-piece.false) in
    omega (arith, c.place_of-first.ensures, run_place c.args.column c.args.piece c.args.piece.from last one (omega arith) (c.requires.places.low_is c.args.piece.from (omega arith) some), c.requires.places.within last (omega arith) (omega arith))

pub returns-then-column-eq1 : goal.returns-then-column-eq1
returns-then-column-eq1 c =
    let one = one_step c.args.column.step (search rules) c.if-column-eq1.true in
    let some : c.args.piece.from < c.args.piece.end = omega (arith, c.requires.places.order, c.if-piece.false) in
    run_placed (pos 0) c.args.piece.from c.args.piece.end _ _ _ _ _ _ _ c.copy_run.ensures c.requires.places.order
    (λ i low lt. (
      omega arith,
      ap (λ (n : ℕ). get_or c.args.values.now n (pos 0)) (run_place c.args.column c.args.piece c.args.piece.from i one low (c.requires.places.low_is c.args.piece.from (omega arith) some)
          ∙ ap (λ (n : ℕ). n + (i - c.args.piece.from)) (sym c.place_of-first.ensures)),
    ))
