use Rattle.std.proofs.Common.{max, arith}
use Rattle.std.proofs.lemmas.Bool.{ltb-false, ltb-true}
use Rattle.dd_alias.proofs.place.are_apart.Goals as goal

pub returns-then-of_a-of_b-clause-apart : goal.returns-then-of_a-of_b-clause-apart
returns-then-of_a-of_b-clause-apart c = λ yes x in_a in_b.
    let of_a = c.bounds-of_a.ensures.within x in_a in
    let of_b = c.bounds-of_b.ensures.within x in_b in
    omega (arith, of_a.1, of_b.0, c.if-of_a-of_b.true)

pub returns-else-of_a-of_b-clause-apart : goal.returns-else-of_a-of_b-clause-apart
returns-else-of_a-of_b-clause-apart c = λ yes x in_a in_b.
    let of_a = c.bounds-of_a.ensures.within x in_a in
    let of_b = c.bounds-of_b.ensures.within x in_b in
    omega (arith, of_a.0, of_b.1, ltb-true _ _ yes)

pub returns-else-of_a-of_b-clause-solid : goal.returns-else-of_a-of_b-clause-solid
returns-else-of_a-of_b-clause-solid c = λ no one other.
    let a = c.bounds-of_a in
    let b = c.bounds-of_b in
    let x = max a.result.low b.result.low in
    let near = ltb-false _ _ no in (
      x,
      a.ensures.solid one x (omega arith, omega (arith, a.ensures.order, c.if-of_a-of_b.false)),
      b.ensures.solid other x (omega arith, omega (arith, b.ensures.order, near)),
    )
