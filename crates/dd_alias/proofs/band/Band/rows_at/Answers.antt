use Rattle.std.proofs.Common.{◌≡◌, arith}
use Rattle.dd_alias.specs.Lines.{high_at, low_at}
use Rattle.dd_alias.proofs.band.Band.rows_at.Goals as goal

pub returns-clause-rows : goal.returns-clause-rows
returns-clause-rows c = λ r has.
    let band = c.args.self.now in
    let kept = c.requires.kept r has in
    let low : c.kept.result.low ≡ low_at band c.args.rows.now c.args.turn = cc in
    let high : c.kept.result.high ≡ high_at band c.args.rows.now c.args.turn = cc in (
      (λ e. (omega (arith, low, (kept.0 e).0), omega (arith, high, (kept.0 e).1))),
      (λ both. kept.1 (omega (arith, low, both.0), omega (arith, high, both.1))),
    )
