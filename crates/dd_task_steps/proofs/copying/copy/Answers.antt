use Rattle.std.proofs.Common.{◌≡◌, ◌+◌, ◌^◌, ◌<◌, arith, refl, rules}
use Rattle.dd_copies.specs.CopyTables.{seen}
use Rattle.dd_tables.specs.Tables.{state_of}
use Rattle.dd_task_steps.proofs.CopiesLemmas.{copied, fetched_is, moved_stays}
use Rattle.dd_task_steps.proofs.MovesLemmas.{more_small}
use Rattle.dd_task_steps.proofs.copying.copy.Goals as goal

pub overflow_add-tables : goal.overflow_add-tables
overflow_add-tables c =
    let plan = c.args.plan.now in
    let same : c.set_copy.new.tables.moved ≡ c.args.tables.now.moved =
    moved_stays (state_of plan c.args.tables.now) (state_of plan c.take_copy-old.new.tables) (state_of plan c.give_back.new.tables) (state_of plan c.set_copy.new.tables)
    _ _ _ c.take_copy-old.ensures.value c.give_back.ensures.value c.set_copy.ensures.value in
    let few : c.args.tables.now.moved + c.args.count < 2 ^ 64 =
    more_small plan (state_of plan c.args.tables.now) c.args.task c.args.block c.args.source c.args.count c.requires.well c.requires.sound c.requires.may.block_is c.requires.may.exact in
    let fits : c.set_copy.new.tables.moved + c.args.count < 2 ^ 64 = omega (arith, same, few) in
    search (rules, fits)

pub returns-clause-value : goal.returns-clause-value
returns-clause-value c =
    let plan = c.args.plan.now in
    let st = state_of plan c.args.tables.now in
    let a = state_of plan c.take_copy-old.new.tables in
    let own = c.own_space-own.ensures in
    copied plan st a (state_of plan c.give_back.new.tables) (state_of plan c.set_copy.new.tables) _
    c.args.task c.args.block c.args.source c.args.count c.own_space-own.result (seen c.fetched-new.result)
    own c.take_copy-old.ensures.value c.give_back.ensures.value c.set_copy.ensures.value refl
    (fetched_is plan st a c.args.task c.args.block c.args.source c.own_space-own.result (seen c.take_copy-old.result) (seen c.fetched-new.result)
    own c.take_copy-old.ensures.value c.take_copy-old.ensures.copy c.fetched-new.ensures)
