use Rattle.std.proofs.Common.{◌≡◌, ℕ, ◌+◌, ◌-◌, take, drop, ap, sym, arith, rules}
use Rattle.dd_text.proofs.band.push_part.Goals as goal

pub returns : goal.returns
returns c =
    let same : c.args.at + c.args.count - c.args.at ≡ c.args.count = omega arith in
    rw (ap (λ (n : ℕ). take n (drop c.args.at c.args.values.now)) (sym same)) (search rules)
