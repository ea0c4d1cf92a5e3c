use Rattle.std.proofs.Common.{ℕ, ℤ, List, [], ◌∷◌, ◌++◌, sym, subst, arith, ⊎_elim}
use Rattle.std.specs.List.{range_with_len}
use Rattle.dd_plain.specs.Runs.{WroteBoth, positions}
use Rattle.dd_plain.proofs.RunLemmas.{wrote_in_order, wrote_out_of_order}
use Rattle.dd_plain.proofs.computing.run_beside.Goals as goal

pub returns-then-x-y : goal.returns-then-x-y
returns-then-x-y c =
    let front = c.split_at_mut-front.result.0.now in
    let back = c.split_at_mut-front.result.1.now in
    let new = c.run_two.new.x ++ c.run_two.new.y in
    let shapes = c.args.shapes.0 ∷ c.args.shapes.1 ∷ [] in
    let wrote = wrote_in_order c.args.at.0.first c.args.at.0.count c.args.at.1.count front back c.run_two.new.x c.run_two.new.y (omega (arith, c.split_at_mut-front.ensures.front_len, c.if-x-y.true)) c.run_two.ensures in
    let placed = subst (λ (i : ℕ). WroteBoth c.args.task.now.kernel c.args.task.now.scalar shapes (positions c.args.at.0) (range_with_len i c.args.at.1.count) (front ++ back) new) c.split_at_mut-front.ensures.front_len wrote in
    subst (λ (l : List ℤ). WroteBoth c.args.task.now.kernel c.args.task.now.scalar shapes (positions c.args.at.0) (positions c.args.at.1) l new) (sym c.split_at_mut-front.ensures.value) placed

pub returns-else-x-y : goal.returns-else-x-y
returns-else-x-y c =
    let front = c.split_at_mut-front-else-x-y.result.0.now in
    let back = c.split_at_mut-front-else-x-y.result.1.now in
    let new = c.run_two-else-x-y.new.y ++ c.run_two-else-x-y.new.x in
    let shapes = c.args.shapes.0 ∷ c.args.shapes.1 ∷ [] in
    let wrote = wrote_out_of_order c.args.at.1.first c.args.at.1.count c.args.at.0.count front back c.run_two-else-x-y.new.y c.run_two-else-x-y.new.x (⊎_elim (λ h. absurd (omega (arith, h, c.if-x-y.false))) (λ h. omega (arith, h, c.split_at_mut-front-else-x-y.ensures.front_len)) c.requires.apart) c.run_two-else-x-y.ensures in
    let placed = subst (λ (i : ℕ). WroteBoth c.args.task.now.kernel c.args.task.now.scalar shapes (range_with_len i c.args.at.0.count) (positions c.args.at.1) (front ++ back) new) c.split_at_mut-front-else-x-y.ensures.front_len wrote in
    subst (λ (l : List ℤ). WroteBoth c.args.task.now.kernel c.args.task.now.scalar shapes (positions c.args.at.0) (positions c.args.at.1) l new) (sym c.split_at_mut-front-else-x-y.ensures.value) placed
