use Rattle.std.proofs.Common.{◌≡◌, ℕ, ℤ, ◌-ℤ◌, ◌*ℤ◌, List, ◌+◌, ◌-◌, length, drop, take, ap, sym, ◌∙◌, rules, arith}
use Rattle.std.specs.Int.{w64, cast_signed, cast_unsigned}
use Rattle.std.specs.Int.RustNames.{FitsSigned}
use Rattle.std.specs.List.{between}
use Rattle.std.proofs.lemmas.Int.{to_z-of_z}
use Rattle.std.proofs.lemmas.List.{length-drop, drop-drop}
use Rattle.std.proofs.lemmas.Slice.{between_to_end}
use Rattle.dd_kernels.specs.Lists.{wrapped, element, zip_with}
use Rattle.dd_kernels.specs.Packed.{packed, strictly_lower_pairs}
use Rattle.dd_kernels.proofs.ListsLemmas.{ap2}
use Rattle.dd_packed.proofs.ColumnsLemmas.{before, before_more, strict_fits, strict_column}
use Rattle.dd_packed.proofs.PartsLemmas.{put_rest}
use Rattle.dd_packed.proofs.SolutionLemmas.{column_solved}
use Rattle.dd_packed.proofs.solution.trsv_unit.Goals as goal

pub split_at-requires : goal.split_at-requires
split_at-requires c =
    let n : ℕ = length c.args.x.now in
    let start : ℕ = before (λ c. n - (c + 1)) c.loop-j.j in
    omega (arith, strict_fits n c.loop-j.j (length c.args.p.now) c.loop-j-test.true c.requires, ap length c.loop-j.invariant.columns, length-drop start c.args.p.now)

pub loop-j-preserved : goal.loop-j-preserved
loop-j-preserved c =
    let n : ℕ = length c.args.x.now in
    let j : ℕ = c.loop-j.j in
    let xs = c.loop-j.x in
    let p = c.args.p.now in
    let start : ℕ = before (λ c. n - (c + 1)) j in
    let height : n - j - 1 ≡ n - (j + 1) = omega arith in
    let column : c.split_at.result.0.now ≡ take (n - (j + 1)) (drop start p) = c.split_at.ensures.front ∙ ap2 (λ (k : ℕ) (l : List ℤ). take k l) height c.loop-j.invariant.columns in
    let others : c.split_at.result.1.now ≡ drop (start + (n - (j + 1))) p = c.split_at.ensures.back ∙ (ap2 (λ (k : ℕ) (l : List ℤ). drop k l) height c.loop-j.invariant.columns ∙ drop-drop (n - (j + 1)) start p) in
    let long : length c.split_at.result.0.now ≡ n - (j + 1) = omega arith in
    let fits : FitsSigned w64 (element xs j) = search rules in
    let rest : between (j + 1) (length xs) xs ≡ drop (j + 1) xs = between_to_end xs (j + 1) (length xs) (omega arith) in
    let k : ℤ = cast_signed w64 (cast_unsigned w64 (element xs j)) in
    let new : c.subtract.new.x ≡ zip_with (λ a b. wrapped (a -ℤ k *ℤ b)) (drop (j + 1) xs) c.split_at.result.0.now = c.subtract.ensures ∙ ap (λ (l : List ℤ). zip_with (λ a b. wrapped (a -ℤ k *ℤ b)) l c.split_at.result.0.now) rest in
    record {
      columns = others ∙ ap (λ (k : ℕ). drop k p) (sym (before_more (λ c. n - (c + 1)) j));
      solved = column_solved (packed (strictly_lower_pairs n) p) (element c.args.x.now) j xs c.split_at.result.0.now c.subtract.new.x _ k (omega arith) fits (omega arith) (λ t below. strict_column n j t p c.split_at.result.0.now column c.loop-j-test.true (omega arith)) (to_z-of_z w64 (element xs j) fits) new (put_rest (j + 1) (length xs - (j + 1)) xs c.subtract.new.x (omega arith)) c.loop-j.invariant.solved;
    }
