use Rattle.std.proofs.Common.{◌≡◌, ℤ, length, [], ◌∷◌, ap, ◌∙◌, rules}
use Rattle.std.specs.Int.{w64}
use Rattle.std.specs.Int.RustNames.{FitsSigned}
use Rattle.std.proofs.lemmas.Int.{to_z-of_z}
use Rattle.dd_kernels.specs.Table.{results}
use Rattle.dd_kernels.proofs.ListsLemmas.{ap2}
use Rattle.dd_plain.proofs.RunLemmas.{run_made, run_read, slice_length}
use Rattle.dd_plain.proofs.computing.run_one.Goals as goal

pub returns : goal.returns
returns c =
    let task = c.args.task.now in
    let fits : FitsSigned w64 c.args.task.now.scalar = search rules in
    let long : length c.apply_to_one.new.x ≡ c.args.at.count = c.apply_to_one.auto.x ∙ slice_length c.args.x.now c.args.at.first c.args.at.count c.requires.within in
    let read = ap (λ l. l ∷ []) (run_read c.args.x.now c.args.at.first c.args.at.count c.requires.within) in
    record {
      made = c.apply_to_one.new.x ∷ [];
      is = c.apply_to_one.ensures.results ∙ ap2 (λ (k : ℤ) ls. results task.kernel k (c.args.shape ∷ []) ls) (to_z-of_z w64 task.scalar fits) read;
      filled = (long ∙ c.requires.filled, tt);
      put = ap (λ l. l ∷ []) (run_made c.args.x.now c.apply_to_one.new.x c.args.at.first c.args.at.count long c.requires.within);
    }
