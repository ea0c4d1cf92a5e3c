use Rattle.std.proofs.Common.{sym, ◌∙◌}
use Rattle.dd_touch.proofs.StripLemmas.{kept_diag}
use Rattle.dd_touch.proofs.places.kept_in.Goals as goal

pub returns-in-Diag : goal.returns-in-Diag
returns-in-Diag c =
    let within = c.requires.square (λ all. absurd (cc (sym c.in-Diag.is ∙ all))) in
    rw c.in-Diag.is (kept_diag c.args.cols.low c.args.cols.high c.args.rows c.requires.low c.requires.some within)
