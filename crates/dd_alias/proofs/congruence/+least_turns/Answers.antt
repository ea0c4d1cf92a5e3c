use Rattle.std.proofs.Common.{arith}
use Rattle.dd_alias.proofs.CongruenceLemmas.{far_inside, least_way, least_outside}
use Rattle.dd_alias.proofs.congruence.+least_turns.Goals as goal

pub returns-in_default : goal.returns-in_default
returns-in_default t c = far_inside c.args.stride c.args.start c.args.step c.complement.result (omega arith) c.complement.ensures.exact c.in_default.ensures

pub returns-in_default-checked_mul : goal.returns-in_default-checked_mul
returns-in_default-checked_mul t c = λ k way.
    let le = least_way c.args.stride c.args.start c.args.step c.complement.result c.in-Some.steps k (omega arith) c.complement.ensures.exact c.in-Some.ensures way in
    omega (arith, le, c.in_default-checked_mul.ensures)

pub returns-in_default-checked_add : goal.returns-in_default-checked_add
returns-in_default-checked_add t c = λ k way.
    let le = least_way c.args.stride c.args.start c.args.step c.complement.result c.in-Some.steps k (omega arith) c.complement.ensures.exact c.in-Some.ensures way in
    omega (arith, le, c.in-Some-checked_mul.ensures, c.in_default-checked_add.ensures)

pub returns : goal.returns
returns t c =
    rw (c.in-Some-checked_add.ensures.1, c.in-Some-checked_mul.ensures.1) (least_outside c.args.stride c.args.start c.args.step c.complement.result c.in-Some.steps (omega arith) c.complement.ensures.exact c.in-Some.ensures (omega (arith, c.in-Some-checked_mul.ensures, c.in-Some-checked_add.ensures)))
