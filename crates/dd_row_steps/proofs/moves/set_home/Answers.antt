use Rattle.std.proofs.Common.{ℕ, length, ap, arith}
use Rattle.dd_machine.specs.Words.{IsOneOf}
use Rattle.dd_tables.specs.Tables.{state_of}
use Rattle.dd_tables.proofs.TablesLemmas.{homes_set}
use Rattle.dd_row_steps.proofs.moves.set_home.Goals as goal

pub returns-clause-value : goal.returns-clause-value
returns-clause-value c =
    let items = c.args.tables.now.homes.items in
    let long = c.requires.sized.homes in
    let known : IsOneOf (length items) c.args.block = (c.requires.block.0, (let h = c.requires.block.1 in omega (arith, h, long))) in
    ap (λ (f : ℕ → ℕ). record (state_of c.args.plan.now c.args.tables.now) { homes = f }) (homes_set items c.args.block c.args.space known)
