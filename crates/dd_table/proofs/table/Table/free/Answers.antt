-- The copy and its slot go; a Free is no Pick.
use Rattle.std.proofs.Common.{◌∷◌, [], refl, arith}
use Rattle.dd_machine.specs.declared.event.Event.TheVariants.{Free}
use Rattle.dd_table.specs.Counts.{pick_count}
use Rattle.dd_core.specs.Lines.{with_line}
use Rattle.dd_table.proofs.AskedLemmas.{left_at}
use Rattle.dd_table.proofs.FactsLemmas.{count_after}
use Rattle.dd_table.proofs.FreedLemmas.{settled_either, settled_freed, settled_none, still_risen}
use Rattle.dd_table.proofs.table.Table.free.Goals as goal

pub line-line-requires-clause-left : goal.line-line-requires-clause-left
line-line-requires-clause-left g c = λ _ _. left_at c.args.self.now (Free c.args.space c.args.block) c.requires.well c.requires.legal.due

pub invariant_of-self : goal.invariant_of-self
unfolding pick_count
invariant_of-self g c =
    let t = c.args.self.now in
    let y = c.free.new.self in
    record {
      settled = settled_either y t.cause (λ none. settled_freed t.holding y c.line-line.result c.args.space c.args.block c.free.ensures.grows c.free.ensures.left (settled_none t.holding t.cause t.settled none));
      counted = count_after t y c.end.new.self t.cause (with_line c.line-line.result (Free c.args.space c.args.block ∷ [])) [] c.free.ensures.grows refl c.end.ensures.made c.end.ensures.later
          (still_risen t c.end.new.self c.end.ensures.later);
    }

pub invariant_of-self-in_default : goal.invariant_of-self-in_default
unfolding pick_count
invariant_of-self-in_default g c =
    let t = c.args.self.now in
    let y = c.free.new.self in
    record {
      settled = settled_either y t.cause (λ none. settled_freed t.holding y c.line-line.result c.args.space c.args.block c.free.ensures.grows c.free.ensures.left (settled_none t.holding t.cause t.settled none));
      counted = count_after t y t.store t.cause (with_line c.line-line.result (Free c.args.space c.args.block ∷ [])) [] c.free.ensures.grows refl refl (omega arith) (still_risen t t.store (omega arith));
    }
