use Rattle.std.proofs.Common.{◌≡◌, ◌+◌, ◌-◌, ◌≤◌, ℕ, ℤ, map, length, ap, sym, ◌∙◌, refl, rules, arith}
use Rattle.std.specs.List.{between}
use Rattle.std.proofs.lemmas.List.{take_all}
use Rattle.std.proofs.lemmas.List.Edits.{length-between}
use Rattle.dd_kernels.specs.Lists.{tabulate}
use Rattle.dd_kernels.specs.Packed.{packed, strictly_lower_pairs, strictly_upper_pairs}
use Rattle.dd_kernels.proofs.MatricesLemmas.{tabulate_same}
use Rattle.dd_packed.proofs.ColumnsLemmas.{before_more, upper_before, upper_end, triangle_more}
use Rattle.dd_kernels.proofs.OrderLemmas.{order_is}
use Rattle.dd_packed.proofs.reflection.mirror.Goals as goal

pub overflow_add-start : goal.overflow_add-start
overflow_add-start c =
    let within : c.loop-j.start + c.loop-j.j ≤ length c.loop-j.q = omega (arith, upper_end c.order_of-order.result c.loop-j.j (length c.args.p.now) c.loop-j.start c.loop-j-test.true c.order_of-order.ensures.square c.loop-j.invariant.place) in
    search rules

pub slice_bounds-read_row-end : goal.slice_bounds-read_row-end
slice_bounds-read_row-end c =
    let within : c.loop-j.start + c.loop-j.j ≤ length c.loop-j.q = omega (arith, upper_end c.order_of-order.result c.loop-j.j (length c.args.p.now) c.loop-j.start c.loop-j-test.true c.order_of-order.ensures.square c.loop-j.invariant.place) in
    search rules

pub loop-j-preserved : goal.loop-j-preserved
loop-j-preserved c =
    let n : ℕ = c.order_of-order.result in
    let p = c.args.p.now in
    let xs = c.loop-j.q in
    let j : ℕ = c.loop-j.j in
    let start : ℕ = c.loop-j.start in
    let within : start + j ≤ length xs = omega (arith, upper_end n j (length p) start c.loop-j-test.true c.order_of-order.ensures.square c.loop-j.invariant.place) in
    let long : length (between start (start + j) xs) ≡ j = omega (arith, length-between xs start (start + j) within) in
    let g : ℕ × ℕ → ℤ = λ at. packed (strictly_lower_pairs n) p at.1 at.0 in
    let column : c.read_row.new.column ≡ tabulate j (λ t. g (0 + t, j)) =
    c.read_row.ensures ∙ (ap (λ (m : ℕ). tabulate m (packed (strictly_lower_pairs n) p m)) long ∙ tabulate_same j (packed (strictly_lower_pairs n) p j) (λ t. g (0 + t, j)) (λ t below. let at : t ≡ 0 + t = omega arith in ap (packed (strictly_lower_pairs n) p j) at)) in
    record {
      within = omega arith;
      place = sym (before_more (λ c. c) j ∙ ap (λ (b : ℕ). b + j) (sym c.loop-j.invariant.place));
      front = triangle_more (λ c. 0) (λ c. c) g j start (start + j) (start + j - start) xs c.read_row.new.column c.loop-j.invariant.place refl within (omega arith) column c.loop-j.invariant.front;
    }

pub returns : goal.returns
returns c =
    let p = c.args.p.now in
    let n : ℕ = c.order_of-order.result in
    let whole : c.loop-j.j ≡ n = omega (arith, c.order_of-order.ensures.some) in
    let order = order_is n (length p) c.order_of-order.ensures.some c.order_of-order.ensures.square in
    let place = rw whole at c.loop-j.invariant.place in
    let front = rw whole at c.loop-j.invariant.front in
    sym (take_all c.loop-j.start c.loop-j.q (omega (arith, place, upper_before n, c.order_of-order.ensures.square))) ∙ (front ∙ ap (λ (n : ℕ). map (λ (at : ℕ × ℕ). packed (strictly_lower_pairs n) p at.1 at.0) (strictly_upper_pairs n)) (sym order))
