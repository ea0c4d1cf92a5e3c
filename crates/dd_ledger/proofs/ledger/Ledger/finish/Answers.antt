use Rattle.std.proofs.Common.{◌-◌, arith}
use Rattle.dd_machine.specs.Runs.{is_pick}
use Rattle.dd_ledger.proofs.EnteredLemmas.{end_final, end_pickless, entered, final_opens, owes_one}
use Rattle.dd_ledger.proofs.FactsLemmas.{is_core}
use Rattle.dd_ledger.proofs.PicksLemmas.{first_kept}
use Rattle.dd_ledger.proofs.ledger.Ledger.finish.Goals as goal

pub finish-requires-clause-core : goal.finish-requires-clause-core
finish-requires-clause-core c =
    let l = c.args.self.now in is_core l.plan.now l.core l.journal.items l.first_pick l.owed c.requires.well l.facts

pub overflow_sub-self : goal.overflow_sub-self
overflow_sub-self c =
    let l = c.args.self.now in owes_one l.plan.now l.core l.journal.items l.first_pick l.owed c.args.entry c.requires.well l.facts c.requires.legal c.requires.kind

pub push_reserved-requires : goal.push_reserved-requires
push_reserved-requires c =
    let l = c.args.self.now in
    let owes = owes_one l.plan.now l.core l.journal.items l.first_pick l.owed c.args.entry c.requires.well l.facts c.requires.legal c.requires.kind in
    omega (arith, owes, l.room)

pub invariant_of-self-clause-facts : goal.invariant_of-self-clause-facts
invariant_of-self-clause-facts c =
    let l = c.args.self.now in
    let owes = owes_one l.plan.now l.core l.journal.items l.first_pick l.owed c.args.entry c.requires.well l.facts c.requires.legal c.requires.kind in
    entered l.plan.now l.core c.finish.new.self l.journal.items c.push_reserved.new.self.items c.args.entry l.first_pick l.first_pick l.owed (l.owed - 1) c.requires.well l.facts
    c.requires.legal c.finish.ensures.value c.finish.ensures.core.sized c.push_reserved.ensures.items
    (first_kept l.first_pick _ (is_pick c.args.entry.event) (end_pickless c.args.entry.event c.requires.kind))
    (let none = final_opens c.args.entry.event (end_final c.args.entry.event c.requires.kind) in omega (arith, none, owes, c.requires.kind))
