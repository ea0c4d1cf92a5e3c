use Rattle.std.proofs.Common.{◌≡◌, false, true, sym, ◌∙◌}
use Rattle.dd_legal.proofs.asks.may_ask.Goals as goal

pub returns-then-not-all_done : goal.returns-then-not-all_done
returns-then-not-all_done c = (
  (λ f. absurd (let no_way : false ≡ true = f in cc)),
  (λ may. sym c.if-not-all_done.true ∙ c.all_done.ensures.1 (may.all_done c.in-Some.region c.in-Some.is)),
)
