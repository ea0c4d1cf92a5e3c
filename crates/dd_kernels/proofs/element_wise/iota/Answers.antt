use Rattle.std.proofs.Common.{◌≡◌, ℕ, ℤ, ◌+◌, ◌-◌, ◌*◌, ◌/◌, ◌%◌, ◌^◌, length, pos, ◌+ℤ◌, take, ap, ◌∙◌, rules, arith}
use Rattle.std.specs.Int.{w64, cast_signed, cast_unsigned}
use Rattle.std.specs.List.{between}
use Rattle.std.proofs.lemmas.Int.{to_z-of_z}
use Rattle.std.proofs.lemmas.List.Edits.{length-between}
use Rattle.dd_kernels.specs.Lists.{wrapped, tabulate}
use Rattle.dd_kernels.proofs.BlocksLemmas.{count_more, count_parts, put_end}
use Rattle.dd_kernels.proofs.NumbersLemmas.{counted_on}
use Rattle.dd_kernels.proofs.element_wise.iota.Goals as goal

pub loop-b-preserved : goal.loop-b-preserved
loop-b-preserved c =
    let x = c.loop-b.x in
    let n : ℕ = 32 * c.loop-b.b in
    let m : ℕ = length (between n (n + 32) x) in
    let long = length-between x n (n + 32) (omega arith) in
    let bits = cast_unsigned w64 c.args.k in
    let first = cast_signed w64 ((bits + n) % 2 ^ 64) in
    count_more (cast_signed w64 bits) first n m (32 * (c.loop-b.b + 1)) (n + 32 - n) x c.count_on.new.x (omega arith) (omega (arith, long)) (counted_on bits n (search rules) (omega arith)) c.count_on.ensures c.loop-b.invariant

pub returns : goal.returns
returns c =
    let x = c.loop-b.x in
    let n : ℕ = 32 * (length c.args.x.now / 32) in
    let end : ℕ = length c.loop-b.x in
    let m : ℕ = length (between n end x) in
    let long = length-between x n end (omega arith) in
    let bits = cast_unsigned w64 c.args.k in
    let k = cast_signed w64 bits in
    let first = cast_signed w64 ((bits + n) % 2 ^ 64) in
    let done : 32 * c.loop-b.b ≡ n = omega arith in
    let so_far : take n x ≡ tabulate n (λ i. wrapped (k +ℤ pos i)) = rw done at c.loop-b.invariant in
    let whole = count_parts k first n m (length c.args.x.now) (take n x) c.count_on-2.new.x (omega (arith, long)) (counted_on bits n (search rules) (omega arith)) c.count_on-2.ensures so_far in
    put_end n (end - n) x c.count_on-2.new.x (omega arith) ∙ (whole ∙ ap (λ (z : ℤ). tabulate (length c.args.x.now) (λ i. wrapped (z +ℤ pos i))) (to_z-of_z w64 c.args.k (search rules)))
