use Rattle.dd_machine.specs.Words.{blocks, spaces}
use Rattle.dd_changes.proofs.copies.move_copy.Goals as goal

pub returns-clause-sized : goal.returns-clause-sized
returns-clause-sized c =
    let s = c.requires.sized in
    record {
      copies = c.move_to.ensures.table (spaces c.args.plan.now) (blocks c.args.plan.now) s.copies;
      orders = s.orders;
      room = s.room;
      tasks = s.tasks;
      current = s.current;
      homes = s.homes;
      row = s.row;
      at_work = s.at_work;
      next = s.next;
    }
