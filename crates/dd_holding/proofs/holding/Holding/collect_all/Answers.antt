-- The front block is left, until it was collected.
use Rattle.std.proofs.Common.{◌≡◌, ℕ, All, true, rules, sym, ◌∙◌, subst}
use Rattle.std.specs.Prelude.{◌==◌, Contains, not}
use Rattle.std.proofs.lemmas.List.Elements.{All-filter}
use Rattle.dd_holding.proofs.ClaimLemmas.{left_less}
use Rattle.dd_machine.specs.Words.{touches}
use Rattle.dd_holding.proofs.holding.Holding.collect_all.Goals as goal

pub loop-first-smaller : goal.loop-first-smaller
loop-first-smaller g c =
    let has : Contains c.loop-first.work.left.items c.in-Some.first.now = search rules in
    left_less c.loop-first.work.left.items c.collect.new.work.left.items c.in-Some.first.now has c.collect.ensures.left

pub loop-first-preserved : goal.loop-first-preserved
loop-first-preserved g c =
    let plan = c.args.self.now.ledger.plan.now in
    let old = c.loop-first.work in
    let new = c.collect.new.work in
    let same = c.collect.ensures.same in
    let before = c.loop-first.invariant.same in
    record {
      same = record {
        plan = same.plan ∙ before.plan;
        task = same.task ∙ before.task;
        worker = same.worker ∙ before.worker;
        number = same.number ∙ before.number;
        picked = same.picked ∙ before.picked;
      };
      stage = c.collect.ensures.stage;
      blocks = subst (λ (t : ℕ). All (λ b. touches plan t b ≡ true) new.left.items) (sym same.task)
          (subst (All (λ b. touches plan old.task b ≡ true)) (sym c.collect.ensures.left) (All-filter (λ b. not (b == c.in-Some.first.now)) (λ b. touches plan old.task b ≡ true) old.left.items c.loop-first.invariant.blocks));
      told = λ tells first. c.collect.ensures.told tells (c.loop-first.invariant.told tells first);
    }
