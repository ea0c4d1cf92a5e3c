use Rattle.std.proofs.Common.{refl, arith, below_more}
use Rattle.dd_blocks.specs.declared.access_row.AccessRow.{AccessRow}
use Rattle.dd_alias.specs.Clashes.{ClashesWithSome}
use Rattle.dd_alias.proofs.AnyLemmas.{any_at, no_access, none_any}
use Rattle.dd_alias.proofs.conflicts.some_clash.Goals as goal

pub returns-then-clashes_with_some : goal.returns-then-clashes_with_some
returns-then-clashes_with_some c = (
  (λ yes.
      any_at (λ (a : AccessRow). ClashesWithSome a c.args.others.now) c.args.ones.now c.loop-access.access-index no_access (omega arith) (c.if-clashes_with_some.ensures.0 refl)),
  (λ some. refl),
)

pub loop-access-preserved : goal.loop-access-preserved
loop-access-preserved c =
    below_more _ _ c.loop-access.invariant (λ some. let e = c.if-clashes_with_some.ensures.1 some in absurd (cc))

pub returns : goal.returns
returns c = (
  (λ e. absurd (cc)),
  (λ any.
      absurd (none_any (λ (a : AccessRow). ClashesWithSome a c.args.others.now) c.args.ones.now no_access (λ k below. c.loop-access.invariant k (omega arith)) any)),
)
