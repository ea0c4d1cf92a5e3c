use Rattle.std.proofs.Common.{ℕ, sym, subst}
use Rattle.dd_alias.specs.Places.{IsAt}
use Rattle.dd_alias.proofs.PlaceLemmas.{place_is}
use Rattle.dd_alias.proofs.place.place_of.Goals as goal

pub returns-clause-at : goal.returns-clause-at
returns-clause-at c = rw (c.quotient.ensures, c.abs_diff.ensures, c.stride.ensures, c.from.ensures) (subst (λ (i : ℕ). IsAt c.args.span.now c.args.number i) (sym (place_is c.args.span.now c.args.number c.requires.there.0 c.requires.span c.requires.there.1)) c.requires.there.1)

pub returns-clause-only : goal.returns-clause-only
returns-clause-only c = λ i at. rw (c.quotient.ensures, c.abs_diff.ensures, c.stride.ensures, c.from.ensures) (sym (place_is c.args.span.now c.args.number i c.requires.span at))
