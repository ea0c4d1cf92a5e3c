use Rattle.std.proofs.Common.{Some, arith}
use Rattle.atomic_table.specs.Table.{step}
use mathlib.Core.Option.{none}
use Rattle.dd_turn.proofs.StepsLemmas.{end_allows, has_put, own_still}
use Rattle.dd_turn.proofs.lock.Lock.end.Goals as goal

pub swap-requires : goal.swap-requires
swap-requires g c =
    let lock = c.args.self.now in
    let slots = lock.table.shared.table_id.slots in
    let seat = c.exchange-old.new.seat in (
      own_still seat.table_id c.args.seat.now.table_id lock.table.shared.table_id c.exchange-old.ensures.0 c.requires.own,
      omega (arith, lock.two_words),
      end_allows g.T.Baton.fits g.T.Baton.over lock.table.shared.key c.args.about.now slots seat.id (step slots 0 2 0 none) c.args.value seat.me
          (has_put _ _ (Some c.args.value) c.args.seat.now.me seat.me c.requires.turn c.exchange-old.ensures.3) c.requires.fits c.requires.over,
    )
