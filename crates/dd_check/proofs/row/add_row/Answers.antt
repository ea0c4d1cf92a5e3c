use Rattle.std.proofs.Common.{ℕ, List, ap, ◌∙◌, arith}
use Rattle.std.specs.Vec.{with_items}
use Rattle.std.proofs.lemmas.List.{with_items_is}
use Rattle.dd_blocks.specs.ArrayHomes.{homes_after}
use Rattle.dd_check.proofs.AheadLemmas.{counts_row}
use Rattle.dd_check.proofs.row.add_row.Goals as goal

pub returns-clause-counts : goal.returns-clause-counts
returns-clause-counts c =
    let d = c.args.draft.now in
    let moved = with_items_is d.homes c.move_home.new.homes (omega (arith, c.move_home.auto.homes, c.deref_mut.ensures.len)) ∙ c.move_home.ensures ∙ ap (λ (homes : List ℕ). homes_after homes c.args.what) c.deref_mut.ensures.value in
    rw c.in_ok-push.ensures.ok (counts_row d (with_items d.homes c.move_home.new.homes) c.args.line c.args.what moved c.requires)
