use Rattle.std.proofs.Common.{◌≡◌, ℕ, ◌+◌, ◌-◌, ◌≤◌, ◌<◌, pos, true, length, sym, ap, ◌∙◌, subst, arith, rules}
use Rattle.dd_kernels.specs.Lists.{element}
use Rattle.dd_stamps.specs.Columns.{place_at}
use Rattle.dd_stamps.proofs.ColumnsLemmas.{one_step, run_place}
use Rattle.dd_stamps.proofs.PlacedLemmas.{run_placed}
use Rattle.dd_stamps.proofs.StampsLemmas.{run_stamped}
use Rattle.dd_stamps.proofs.storing.store_column.Goals as goal

pub copy_run-requires-clause-there : goal.copy_run-requires-clause-there
copy_run-requires-clause-there g c =
    let places = c.requires.0 in
    let one = one_step c.args.column.step (search rules) c.if-column-eq1.true in
    let last : ℕ = c.args.piece.end - 1 in
    let some : c.args.piece.from < c.args.piece.end = omega (arith, places.order, c.if-piece.false) in
    omega (arith, c.place_of-first.ensures, run_place c.args.column c.args.piece c.args.piece.from last one (omega arith) (places.low_is c.args.piece.from (omega arith) some), places.within last (omega arith) (omega arith))

pub stamp-requires : goal.stamp-requires
stamp-requires g c =
    let places = c.requires.0 in
    let one = one_step c.args.column.step (search rules) c.if-column-eq1.true in
    let last : ℕ = c.args.piece.end - 1 in
    let some : c.args.piece.from < c.args.piece.end = omega (arith, places.order, c.if-piece.false) in
    let low = places.low_is c.args.piece.from (omega arith) some in
    let within : c.place_of-first.result + (c.args.piece.end - c.args.piece.from) ≤ length c.args.values.now = omega (arith, c.place_of-first.ensures, run_place c.args.column c.args.piece c.args.piece.from last one (omega arith) low, places.within last (omega arith) (omega arith)) in (
      omega arith,
      (
        omega (arith, within, c.requires.1.0),
        (
          λ p above below.
              let i : ℕ = c.args.piece.from + (p - c.place_of-first.result) in
              let from : c.args.piece.from ≤ i = omega arith in
              let lt : i < c.args.piece.end = omega (arith, below, above) in
              let same : place_at c.args.column c.args.piece i ≡ p = omega (arith, run_place c.args.column c.args.piece c.args.piece.from i one from low, c.place_of-first.ensures, above) in
              subst (λ (n : ℕ). g.written n ≡ true) same (c.requires.1.1.1.0 i from lt),
          c.requires.1.1.1.1,
        ),
      ),
    )

pub returns-then-column-eq1-clause-values : goal.returns-then-column-eq1-clause-values
returns-then-column-eq1-clause-values g c =
    let places = c.requires.0 in
    let one = one_step c.args.column.step (search rules) c.if-column-eq1.true in
    let some : c.args.piece.from < c.args.piece.end = omega (arith, places.order, c.if-piece.false) in
    run_placed (pos 0) c.args.piece.from c.args.piece.end _ _ _ _ _ _ _ c.copy_run.ensures places.order
    (λ i low lt. (
      run_place c.args.column c.args.piece c.args.piece.from i one low (places.low_is c.args.piece.from (omega arith) some) ∙ ap (λ (n : ℕ). n + (i - c.args.piece.from)) (sym c.place_of-first.ensures),
      ap (element c.args.from.now) (let e : c.args.at + i ≡ c.args.at + c.args.piece.from + (i - c.args.piece.from) = omega arith in e),
    ))

pub returns-then-column-eq1-clause-versions : goal.returns-then-column-eq1-clause-versions
returns-then-column-eq1-clause-versions g c =
    let places = c.requires.0 in
    let one = one_step c.args.column.step (search rules) c.if-column-eq1.true in
    let some : c.args.piece.from < c.args.piece.end = omega (arith, places.order, c.if-piece.false) in
    run_stamped c.args.piece.from c.args.piece.end c.place_of-first.result c.args.task (place_at c.args.column c.args.piece) c.args.versions.now.list c.stamp.new.versions.list c.stamp.ensures.len places.order c.stamp.ensures.places
    (λ i low lt. run_place c.args.column c.args.piece c.args.piece.from i one low (places.low_is c.args.piece.from (omega arith) some) ∙ ap (λ (n : ℕ). n + (i - c.args.piece.from)) (sym c.place_of-first.ensures))
