-- A copy was changed in its place.
use Rattle.std.proofs.Common.{Bor, Some, rules, refl, sym, ◌∙◌, subst}
use Rattle.dd_blocks.specs.declared.plan.Plan.{Plan}
use Rattle.dd_blocks.specs.WellFormed.{IsWellFormed}
use Rattle.dd_pool.proofs.HeldLemmas.{at_place, elsewhere, kept_counted, put_ours, refilled, value_at_place}
use Rattle.dd_pool.proofs.copies.Copies.store_outputs.Goals as goal

pub store_outputs-requires-clause-well : goal.store_outputs-requires-clause-well
store_outputs-requires-clause-well c =
    let there = value_at_place c.args.self.now.cells _ _ _ c.place_of-at.ensures.value c.in-Some.ensures.value in
    subst (λ (p : Bor Plan). IsWellFormed p.now) (sym (c.args.self.now.ours c.args.space c.args.block c.in-Some.copy c.requires.place there).0) c.requires.well

pub invariant_of-self : goal.invariant_of-self
invariant_of-self c =
    let plan = c.args.self.now.plan.now in
    let has = at_place plan _ _ c.args.space c.args.block _ _ (Some c.store_outputs.new.self) refl c.place_of-at.ensures.value (refilled _ _ _ _ _ c.in-Some.ensures.left c.put_back.ensures.put) in
    let there = value_at_place c.args.self.now.cells _ _ _ c.place_of-at.ensures.value c.in-Some.ensures.value in
    let mine = c.args.self.now.ours c.args.space c.args.block c.in-Some.copy c.requires.place there in
    record {
      few = search rules;
      light = search rules;
      wide = search rules;
      spaces = search rules;
      ours = put_ours c.args.self.now.plan _ _ c.args.space c.args.block c.store_outputs.new.self c.requires.place has c.args.self.now.ours (c.store_outputs.ensures.kept.plan ∙ mine.0) (c.store_outputs.ensures.kept.block ∙ mine.1);
      counted = kept_counted plan _ _ c.args.space c.args.block c.in-Some.copy c.store_outputs.new.self c.args.self.now.sizes.items c.requires.place there has c.args.self.now.counted;
    }

pub returns-clause-others : goal.returns-clause-others
returns-clause-others c =
    let plan = c.args.self.now.plan.now in
    let has = at_place plan _ _ c.args.space c.args.block _ _ (Some c.store_outputs.new.self) refl c.place_of-at.ensures.value (refilled _ _ _ _ _ c.in-Some.ensures.left c.put_back.ensures.put) in
    elsewhere plan _ _ c.args.space c.args.block (Some c.store_outputs.new.self) c.requires.place has
