use Rattle.std.proofs.Common.{refl, sym}
use Rattle.dd_alias.proofs.extent.Extent.clashes_with_one.Goals as goal

pub returns-then-clashes : goal.returns-then-clashes
returns-then-clashes c = (
  (λ yes. (c.loop-other.other-index, c.other-item.result, c.loop-other-test.true, sym c.other-item.is, c.if-clashes.ensures.0 refl)),
  (λ any. refl),
)
