use Rattle.std.proofs.Common.{refl, sym, ◌∙◌}
use Rattle.dd_tables.specs.Tables.{state_of}
use Rattle.dd_machine.specs.Bytes.{is_lent_into}
use Rattle.dd_tables.proofs.tables.Tables.is_lent.Goals as goal

pub returns-in-Some : goal.returns-in-Some
returns-in-Some c = c.is_lent_into.ensures ∙ sym (c.in-Some.ensures.some (is_lent_into c.args.plan.now (state_of c.args.plan.now c.args.self.now) c.args.space))

pub returns-in-None : goal.returns-in-None
returns-in-None c = sym (c.in-None.ensures.none refl (is_lent_into c.args.plan.now (state_of c.args.plan.now c.args.self.now) c.args.space))
