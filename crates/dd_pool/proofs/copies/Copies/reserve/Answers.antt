-- A copy was changed in its place.
use Rattle.std.proofs.Common.{Some, rules, refl, ◌∙◌}
use Rattle.dd_pool.proofs.HeldLemmas.{at_place, elsewhere, kept_counted, put_ours, refilled, value_at_place}
use Rattle.dd_pool.proofs.copies.Copies.reserve.Goals as goal

pub invariant_of-self : goal.invariant_of-self
invariant_of-self c =
    let plan = c.args.self.now.plan.now in
    let has = at_place plan _ _ c.args.space c.args.block _ _ (Some c.reserve-reserved.new.self) refl c.place_of-at.ensures.value (refilled _ _ _ _ _ c.in-Some.ensures.left c.put_back.ensures.put) in
    let there = value_at_place c.args.self.now.cells _ _ _ c.place_of-at.ensures.value c.in-Some.ensures.value in
    let mine = c.args.self.now.ours c.args.space c.args.block c.in-Some.copy c.requires.place there in
    record {
      few = search rules;
      light = search rules;
      wide = search rules;
      spaces = search rules;
      ours = put_ours c.args.self.now.plan _ _ c.args.space c.args.block c.reserve-reserved.new.self c.requires.place has c.args.self.now.ours (c.reserve-reserved.ensures.kept.plan ∙ mine.0) (c.reserve-reserved.ensures.kept.block ∙ mine.1);
      counted = kept_counted plan _ _ c.args.space c.args.block c.in-Some.copy c.reserve-reserved.new.self c.args.self.now.sizes.items c.requires.place there has c.args.self.now.counted;
    }

pub returns-clause-others : goal.returns-clause-others
returns-clause-others c =
    let plan = c.args.self.now.plan.now in
    let has = at_place plan _ _ c.args.space c.args.block _ _ (Some c.reserve-reserved.new.self) refl c.place_of-at.ensures.value (refilled _ _ _ _ _ c.in-Some.ensures.left c.put_back.ensures.put) in
    elsewhere plan _ _ c.args.space c.args.block (Some c.reserve-reserved.new.self) c.requires.place has
