use Rattle.std.proofs.Common.{arith}
use Rattle.dd_turn.proofs.StepsLemmas.{seat_splits}
use Rattle.dd_turn.proofs.lock.Lock.seat.Goals as goal

pub split_seat-requires : goal.split_seat-requires
split_seat-requires g c =
    let lock = c.args.self.now in
    let seat = c.args.seat.now in (
      c.requires.own,
      omega (arith, lock.two_words),
      seat_splits g.T.Baton.fits g.T.Baton.over lock.table.shared.key c.args.about.now seat.id seat.me c.requires.free,
    )
