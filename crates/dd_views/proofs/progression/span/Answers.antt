use Rattle.std.proofs.Common.{◌≡◌, refl, true, false}
use Rattle.dd_views.proofs.ProgressionLemmas.{begins_outside}
use Rattle.dd_views.proofs.progression.span.Goals as goal

pub returns-then-not-begins_within-clause-refused :
    goal.returns-then-not-begins_within-clause-refused
returns-then-not-begins_within-clause-refused c =
    let bad = begins_outside c.bounds_of-bounds.result c.args.length (λ p. let e : false ≡ true = c.if-is_empty.ensures.1 p in absurd (cc)) (λ p. let e : false ≡ true = c.if-not-begins_within.ensures.1 p in absurd (cc)) in
    ((λ _. rw (← c.bounds_of-bounds.ensures) bad), (λ _. refl))

pub returns-clause-refused : goal.returns-clause-refused
returns-clause-refused c = rw (← c.bounds_of-bounds.ensures) (c.listed.ensures.refused)
