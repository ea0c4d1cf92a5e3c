use Rattle.dd_alias.proofs.PlaceLemmas.{solid_in}
use Rattle.dd_alias.proofs.place.bounds.Goals as goal

pub returns-clause-solid : goal.returns-clause-solid
returns-clause-solid c = λ one x between.
    let low = rw (c.min.ensures, c.number_at-one.ensures, c.number_at-other.ensures, c.from.ensures) at between.0 in
    let high = rw (c.max.ensures, c.number_at-one.ensures, c.number_at-other.ensures, c.from.ensures) at between.1 in
    solid_in c.args.span.now x c.requires.span c.requires.some one low high
