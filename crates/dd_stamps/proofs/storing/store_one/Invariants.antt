use Rattle.dd_stamps.proofs.storing.store_one.Given as goal

abbrev pub ghost-store : goal.ghost-store
ghost-store g a = g.written
