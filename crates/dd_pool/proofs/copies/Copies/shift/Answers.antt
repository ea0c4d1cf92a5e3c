-- A copy was taken, and put elsewhere.
use Rattle.std.proofs.Common.{◌≡◌, ℕ, Bor, sym, ap, ◌∙◌, subst}
use Rattle.dd_blocks.specs.declared.plan.Plan.{Plan}
use Rattle.dd_pool.specs.Copies.{held_at}
use Rattle.dd_pool.specs.Places.{IsPlace}
use Rattle.dd_pool.proofs.copies.Copies.shift.Goals as goal

pub returns : goal.returns
returns c =
    let out = c.in-Some.ensures.left in
    let back = c.put_back.ensures in
    let block = c.in-Some.ensures.ours.1 in
    let place = λ (s b : ℕ) (is : IsPlace c.args.self.now.plan.now s b). subst (λ (p : Bor Plan). IsPlace p.now s b) (sym out.plan) is in
    record {
      plan = back.plan ∙ out.plan;
      here = ap (held_at c.put_back.new.self c.args.to) (sym block) ∙ back.here ∙ c.in-Some.ensures.value;
      gone = back.others c.args.space c.args.block (place c.args.space c.args.block c.requires.place) (λ e _. c.requires.apart (sym e)) ∙ out.here;
      others = λ s b is from to. back.others s b (place s b is) (λ e f. to e (f ∙ block)) ∙ out.others s b is from;
    }
