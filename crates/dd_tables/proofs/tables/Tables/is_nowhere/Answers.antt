use Rattle.std.proofs.Common.{◌≡◌, ap, true, false, sym, ◌∙◌, Option, Some, None}
use Rattle.std.proofs.lemmas.Bool.{false_from_ne_true}
use Rattle.dd_copies.specs.CopyTables.{copies_of}
use Rattle.dd_copies.proofs.CellsLemmas.{there_in}
use Rattle.dd_machine.specs.States.{Copy}
use Rattle.dd_machine.specs.Tests.{is_any, is_in_state}
use Rattle.dd_tables.proofs.tables.Tables.is_nowhere.Goals as goal

none_of : (c : Option Copy) → is_in_state is_any c ≡ false → c ≡ None
none_of None e = cc
none_of (Some copy) e = cc

pub returns : goal.returns
returns c = (
  (λ t s.
      none_of (copies_of c.args.self.now.copies s c.args.block) (false_from_ne_true (is_in_state is_any (copies_of c.args.self.now.copies s c.args.block))
      (λ e.
      let at = there_in c.args.plan.now c.args.self.now.copies is_any s c.args.block c.requires.sized.copies e in
      let f : true ≡ false = sym e ∙ c.is_nowhere_in.ensures.0 t s at.0 in
      cc))),
  (λ none. c.is_nowhere_in.ensures.1 (λ s _. ap (is_in_state is_any) (none s))),
)
