use Rattle.std.proofs.Common.{◌≡◌, ℕ, ℤ, List, ◌+◌, ◌-◌, length, drop, take, ap, sym, ◌∙◌, arith}
use Rattle.std.specs.List.{between}
use Rattle.std.proofs.lemmas.List.{length-drop, length-take, take-take}
use Rattle.std.proofs.lemmas.Slice.{between_to_end}
use Rattle.dd_kernels.specs.Packed.{packed, lower_pairs}
use Rattle.dd_kernels.proofs.ListsLemmas.{ap2}
use Rattle.dd_packed.proofs.ColumnsLemmas.{before, before_le, lower_all, lower_left, lower_column}
use Rattle.dd_packed.proofs.PartsLemmas.{put_rest}
use Rattle.dd_packed.proofs.ProductLemmas.{nothing_taken, product_more, product_whole}
use Rattle.dd_packed.proofs.product.trmv.Goals as goal

pub loop-below-init : goal.loop-below-init
loop-below-init c = record {
  columns = lower_all (length c.args.x.now) c.args.l.now c.requires;
  product = nothing_taken (packed (lower_pairs (length c.args.x.now)) c.args.l.now) c.args.x.now _ (omega arith);
}

pub overflow_sub-columns : goal.overflow_sub-columns
overflow_sub-columns c =
    let n : ℕ = length c.args.x.now in
    let b : ℕ = n - c.loop-below.below - 1 in
    let next : n - c.loop-below.below ≡ b + 1 = omega arith in
    let columns = rw next at c.loop-below.invariant.columns in
    omega (arith, lower_left n b c.args.l.now c.loop-below.columns.now (omega arith) c.requires columns)

pub multiply_column-requires-clause-same : goal.multiply_column-requires-clause-same
multiply_column-requires-clause-same c =
    let n : ℕ = length c.args.x.now in
    let b : ℕ = n - c.loop-below.below - 1 in
    let next : n - c.loop-below.below ≡ b + 1 = omega arith in
    let columns = rw next at c.loop-below.invariant.columns in
    omega (arith, lower_left n b c.args.l.now c.loop-below.columns.now (omega arith) c.requires columns, length-take (length c.loop-below.x - b) (drop b c.loop-below.x), length-drop b c.loop-below.x)

pub loop-below-preserved : goal.loop-below-preserved
loop-below-preserved c =
    let x = c.args.x.now in
    let l = c.args.l.now in
    let xs = c.loop-below.x in
    let n : ℕ = length c.args.x.now in
    let b : ℕ = n - c.loop-below.below - 1 in
    let start : ℕ = before (λ c. n - c) b in
    let here : n - (c.loop-below.below + 1) ≡ b = omega arith in
    let next : n - c.loop-below.below ≡ b + 1 = omega arith in
    let columns = rw next at c.loop-below.invariant.columns in
    let left = lower_left n b l c.loop-below.columns.now (omega arith) c.requires columns in
    let mid : length c.loop-below.columns.now - (c.loop-below.below + 1) ≡ start = omega (arith, left) in
    let column : c.split_at.result.1.now ≡ drop start (take (before (λ c. n - c) (b + 1)) l) = c.split_at.ensures.back ∙ ap2 (λ (k : ℕ) (l : List ℤ). drop k l) mid columns in
    let others : c.split_at.result.0.now ≡ take start l = c.split_at.ensures.front ∙ (ap2 (λ (k : ℕ) (l : List ℤ). take k l) mid columns ∙ take-take start (before (λ c. n - c) (b + 1)) l (before_le (λ c. n - c) b (b + 1) (omega arith))) in
    let long : length c.split_at.result.1.now + b ≡ length xs = omega (arith, left) in
    record {
      columns = others ∙ ap (λ (k : ℕ). take (before (λ c. n - c) k) l) (sym here);
      product = rw here (product_more (packed (lower_pairs n) l) x b xs (between b (length xs) xs) c.split_at.result.1.now c.multiply_column.new.x _ (omega arith) long (λ t below. lower_column n b t l c.split_at.result.1.now column (omega arith) (omega arith)) (between_to_end xs b (length xs) (omega arith)) c.multiply_column.ensures (put_rest b (length xs - b) xs c.multiply_column.new.x (omega arith)) (rw next at c.loop-below.invariant.product));
    }

pub returns : goal.returns
returns c =
    let n : ℕ = length c.args.x.now in
    let none : n - c.loop-below.below ≡ 0 = omega arith in
    product_whole (packed (lower_pairs n) c.args.l.now) c.args.x.now c.loop-below.x (omega arith) (rw none at c.loop-below.invariant.product)
