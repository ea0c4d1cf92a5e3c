use Rattle.std.proofs.Common.{◌≡◌, ◌+◌, ◌-◌, ◌<◌, ◌≤◌, refl, ℕ, ℤ, ◌+ℤ◌, ◌*ℤ◌, length, ap, sym, ◌∙◌, arith}
use Rattle.std.specs.List.{between}
use Rattle.std.proofs.lemmas.List.{take_all}
use Rattle.std.proofs.lemmas.List.Edits.{length-between}
use Rattle.dd_kernels.specs.Lists.{wrapped, element, tabulate, sum_below}
use Rattle.dd_kernels.specs.Matrices.{entry}
use Rattle.dd_kernels.specs.Packed.{packed, lower_pairs}
use Rattle.dd_kernels.proofs.MatricesLemmas.{element_part_ahead, tabulate_same}
use Rattle.dd_packed.proofs.ColumnsLemmas.{before_more, lower_end, lower_whole, lower_place, triangle_more}
use Rattle.dd_packed.proofs.PartsLemmas.{past_part}
use Rattle.dd_packed.proofs.square.syrk_packed.Goals as goal

pub loop-j-preserved : goal.loop-j-preserved
loop-j-preserved c =
    let s = c.args.shape in
    let a = c.args.a.now in
    let old = c.args.l.now in
    let xs = c.loop-j.l in
    let n : ℕ = c.args.shape.rows in
    let j : ℕ = c.loop-j.j in
    let start : ℕ = c.loop-j.start in
    let end : ℕ = start + (n - j) in
    let within : end ≤ length xs = omega (arith, lower_end n j (length old) start c.loop-j-test.true c.requires.triangle c.loop-j.invariant.place) in
    let part = between start end xs in
    let long : length part ≡ n - j = omega (arith, length-between xs start end within) in
    let g : ℕ × ℕ → ℤ = λ at. wrapped (packed (lower_pairs n) old at.0 at.1 +ℤ sum_below c.args.shape.cols (λ q. entry s a at.0 q *ℤ entry s a at.1 q)) in
    let term : ℕ → ℤ = λ t. sum_below c.args.shape.cols (λ q. entry s a (j + t) q *ℤ entry s a j q) in
    let here : (t : ℕ) → t < n - j → element part t ≡ packed (lower_pairs n) old (j + t) j = λ t below. element_part_ahead xs old start end t c.loop-j.invariant.rest (omega arith) ∙ (ap (element old) (omega (arith, c.loop-j.invariant.place)) ∙ sym (lower_place n (j + t) j old (omega arith) (omega arith))) in
    let column : c.add_products.new.column ≡ tabulate (n - j) (λ t. g (j + t, j)) = c.add_products.ensures ∙ (ap (λ (m : ℕ). tabulate m (λ t. wrapped (element part t +ℤ term t))) long ∙ tabulate_same (n - j) (λ t. wrapped (element part t +ℤ term t)) (λ t. g (j + t, j)) (λ t below. ap (λ (e : ℤ). wrapped (e +ℤ term t)) (here t below))) in
    record {
      within = omega arith;
      place = sym (before_more (λ c. n - c) j ∙ ap (λ (b : ℕ). b + (n - j)) (sym c.loop-j.invariant.place));
      front = triangle_more (λ c. c) (λ c. n - c) g j start end (end - start) xs c.add_products.new.column c.loop-j.invariant.place refl within (omega arith) column c.loop-j.invariant.front;
      rest = past_part start end (end - start) xs c.add_products.new.column old (omega arith) within (omega arith) (omega arith) c.loop-j.invariant.rest;
    }

pub returns : goal.returns
returns c =
    let n : ℕ = c.args.shape.rows in
    let whole : c.loop-j.j ≡ n = omega arith in
    let place = rw whole at c.loop-j.invariant.place in
    let front = rw whole at c.loop-j.invariant.front in
    sym (take_all c.loop-j.start c.loop-j.l (omega (arith, place, lower_whole n (length c.args.l.now) c.requires.triangle))) ∙ front
