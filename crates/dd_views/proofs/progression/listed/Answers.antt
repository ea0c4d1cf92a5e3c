use Rattle.std.proofs.Common.{refl, rules}
use Rattle.dd_views.proofs.ProgressionLemmas.{counts, leaves, stays_within}
use Rattle.dd_views.proofs.SpanLemmas.{span_of_kept, span_in_kept}
use Rattle.dd_views.proofs.progression.listed.Goals as goal

pub overflow_mul-jumps : goal.overflow_mul-jumps
overflow_mul-jumps c = rw c.stride.ensures (search (rules, c.last_jump-jumps.ensures.fits))

pub returns-then-jumps-stride-clause-refused : goal.returns-then-jumps-stride-clause-refused
returns-then-jumps-stride-clause-refused c =
    let bad = leaves _ _ _ _ c.requires c.room.ensures c.last_jump-jumps.ensures.before (rw (← c.stride.ensures) (c.if-jumps-stride.true)) in
    ((λ _. bad), (λ _. refl))

pub returns-clause-ok : goal.returns-clause-ok
returns-clause-ok c =
    span_of_kept _ _ _ c.kept.ensures (counts _ _ _ _ c.requires c.room.ensures c.last_jump-jumps.ensures.before c.last_jump-jumps.ensures.behind)

pub returns-clause-within : goal.returns-clause-within
returns-clause-within c =
    span_in_kept _ _ _ _ _ c.kept.ensures c.requires c.room.ensures (rw (← c.stride.ensures) (c.if-jumps-stride.false))

pub returns-clause-refused : goal.returns-clause-refused
returns-clause-refused c =
    let good = stays_within _ _ _ _ c.requires c.room.ensures c.last_jump-jumps.ensures.behind (rw (← c.stride.ensures) (c.if-jumps-stride.false)) in
    ((λ e. absurd (cc)), (λ bad. absurd (good bad)))
