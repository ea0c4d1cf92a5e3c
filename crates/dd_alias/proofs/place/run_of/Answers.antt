use Rattle.std.proofs.Common.{arith}
use Rattle.std.proofs.lemmas.Int.{ints}
use Rattle.dd_alias.proofs.PlaceLemmas.{run_of_up, run_of_down, is_down}
use Rattle.dd_alias.proofs.place.run_of.Goals as goal

pub returns-then-span-eq0 : goal.returns-then-span-eq0
returns-then-span-eq0 c = λ x. (
  (λ none. absurd (c.none_from.ensures.none x none)),
  (λ at. absurd (omega (arith, at.1.low, at.1.high, c.if-span-eq0.true))),
)

pub returns-then-span-gt0 : goal.returns-then-span-gt0
returns-then-span-gt0 c = λ x.
    run_of_up c.args.span.now _ _ _ x c.from-first.ensures c.stride-stride.ensures c.from.ensures (omega (arith, ints, c.if-span-gt0.true)) c.requires (omega arith)

pub returns : goal.returns
returns c = λ x.
    run_of_down c.args.span.now _ _ _ x c.from-first.ensures c.stride-stride.ensures c.from.ensures (is_down c.args.span.now c.requires (λ up. absurd (omega (arith, ints, c.if-span-gt0.false, up)))) c.requires (omega arith)
