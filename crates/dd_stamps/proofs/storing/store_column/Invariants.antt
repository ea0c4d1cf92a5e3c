use Rattle.dd_stamps.proofs.storing.store_column.Given as goal

abbrev pub ghost-stamp : goal.ghost-stamp
ghost-stamp g a = g.written

abbrev pub ghost-store_steps : goal.ghost-store_steps
ghost-store_steps g a = g.written
