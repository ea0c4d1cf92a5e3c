use Rattle.std.proofs.Common.{ℕ, ap, ◌∙◌}
use Rattle.dd_machine.specs.Needed.{version}
use Rattle.dd_tables.specs.Fetches.{is_fetched}
use Rattle.dd_tables.specs.Tables.{state_of}
use Rattle.dd_tables.proofs.tables.Tables.is_needed.Goals as goal

pub returns : goal.returns
returns c =
    let st = state_of c.args.plan.now c.args.self.now in
    c.is_fetched.ensures
    ∙ ap (is_fetched c.args.plan.now st c.args.task c.args.block c.args.from c.args.i)
    (c.version-version.ensures ∙ ap (λ (s : ℕ). version st s c.args.block c.args.i) c.own_space-own.ensures)
