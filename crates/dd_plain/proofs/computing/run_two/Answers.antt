use Rattle.std.proofs.Common.{◌≡◌, ℤ, length, [], ◌∷◌, ◌∙◌, rules}
use Rattle.std.specs.Int.{w64}
use Rattle.std.specs.Int.RustNames.{FitsSigned}
use Rattle.std.proofs.lemmas.Int.{to_z-of_z}
use Rattle.dd_kernels.specs.Table.{results}
use Rattle.dd_kernels.proofs.ListsLemmas.{ap2}
use Rattle.dd_plain.proofs.RunLemmas.{run_made, run_read, slice_length}
use Rattle.dd_plain.proofs.computing.run_two.Goals as goal

pub returns : goal.returns
returns c =
    let task = c.args.task.now in
    let at = c.args.at in
    let fits : FitsSigned w64 c.args.task.now.scalar = search rules in
    let x_long : length c.apply_to_two.new.x ≡ c.args.at.0.count = c.apply_to_two.auto.x ∙ slice_length c.args.x.now at.0.first at.0.count c.requires.x_within in
    let y_long : length c.apply_to_two.new.y ≡ c.args.at.1.count = c.apply_to_two.auto.y ∙ slice_length c.args.y.now at.1.first at.1.count c.requires.y_within in
    let read = ap2 (λ l r. l ∷ r ∷ []) (run_read c.args.x.now at.0.first at.0.count c.requires.x_within) (run_read c.args.y.now at.1.first at.1.count c.requires.y_within) in
    record {
      made = c.apply_to_two.new.x ∷ c.apply_to_two.new.y ∷ [];
      is = c.apply_to_two.ensures.results ∙ ap2 (λ (k : ℤ) ls. results task.kernel k (c.args.shapes.0 ∷ c.args.shapes.1 ∷ []) ls) (to_z-of_z w64 task.scalar fits) read;
      filled = (x_long ∙ c.requires.x_filled, (y_long ∙ c.requires.y_filled, tt));
      put = ap2 (λ l r. l ∷ r ∷ []) (run_made c.args.x.now c.apply_to_two.new.x at.0.first at.0.count x_long c.requires.x_within) (run_made c.args.y.now c.apply_to_two.new.y at.1.first at.1.count y_long c.requires.y_within);
    }
