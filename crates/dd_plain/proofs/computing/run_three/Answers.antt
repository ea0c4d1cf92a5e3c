use Rattle.std.proofs.Common.{◌≡◌, ℤ, length, map, [], ◌∷◌, ap, sym, ◌∙◌, rules}
use Rattle.std.specs.Int.{w64}
use Rattle.std.specs.Int.RustNames.{FitsSigned}
use Rattle.std.proofs.lemmas.Int.{to_z-of_z}
use Rattle.dd_kernels.specs.Lists.{element}
use Rattle.dd_kernels.specs.Table.{results}
use Rattle.dd_kernels.proofs.ListsLemmas.{ap2}
use Rattle.dd_plain.specs.Runs.{positions}
use Rattle.dd_plain.proofs.LendingLemmas.{put_same}
use Rattle.dd_plain.proofs.RunLemmas.{run_made, run_read, slice_length, three_lists}
use Rattle.dd_plain.proofs.computing.run_three.Goals as goal

pub returns : goal.returns
returns c =
    let task = c.args.task.now in
    let at = c.args.at in
    let x = c.apply_to_three.new.x in
    let y = map (element c.args.y.now) (positions c.args.at.1) in
    let z = map (element c.args.z.now) (positions c.args.at.2) in
    let fits : FitsSigned w64 c.args.task.now.scalar = search rules in
    let x_read = run_read c.args.x.now at.0.first at.0.count c.requires.x_within in
    let y_read = run_read c.args.y.now at.1.first at.1.count c.requires.y_within in
    let z_read = run_read c.args.z.now at.2.first at.2.count c.requires.z_within in
    let x_long : length c.apply_to_three.new.x ≡ c.args.at.0.count = c.apply_to_three.auto.x ∙ slice_length c.args.x.now at.0.first at.0.count c.requires.x_within in
    let y_long = ap length (sym y_read) ∙ slice_length c.args.y.now at.1.first at.1.count c.requires.y_within in
    let z_long = ap length (sym z_read) ∙ slice_length c.args.z.now at.2.first at.2.count c.requires.z_within in
    let x_put = run_made c.args.x.now x at.0.first at.0.count x_long c.requires.x_within in
    record {
      made = x ∷ y ∷ z ∷ [];
      is = ap2 (λ l r. x ∷ l ∷ r ∷ []) (sym y_read) (sym z_read) ∙ c.apply_to_three.ensures.results ∙ ap2 (λ (k : ℤ) ls. results task.kernel k (c.args.shapes.0 ∷ c.args.shapes.1 ∷ c.args.shapes.2 ∷ []) ls) (to_z-of_z w64 task.scalar fits) (three_lists x_read y_read z_read);
      filled = (x_long ∙ c.requires.x_filled, (y_long ∙ c.requires.y_filled, (z_long ∙ c.requires.z_filled, tt)));
      put = three_lists x_put (sym (put_same (positions c.args.at.1) c.args.y.now)) (sym (put_same (positions c.args.at.2) c.args.z.now));
    }
