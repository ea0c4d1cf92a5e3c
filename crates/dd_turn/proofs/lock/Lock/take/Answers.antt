use Rattle.std.proofs.Common.{◌≡◌, Some, arith, rules}
use Rattle.atomic_table.specs.Table.{step}
use mathlib.Core.Option.{none}
use Rattle.dd_turn.proofs.StepsLemmas.{has_out, own_still, take_allows}
use Rattle.dd_turn.proofs.lock.Lock.take.Goals as goal

pub compare_exchange-requires : goal.compare_exchange-requires
compare_exchange-requires g c =
    let lock = c.args.self.now in
    let slots = lock.table.shared.table_id.slots in (
      c.requires.own,
      omega (arith, lock.two_words),
      take_allows g.T.Baton.fits g.T.Baton.over lock.table.shared.key c.args.about.now slots c.args.seat.now.id (step slots 0 0 1 none) c.args.seat.now.me c.requires.free,
    )

pub exchange-requires : goal.exchange-requires
exchange-requires g c =
    let free : c.compare_exchange.result ≡ 0 = search rules in
    let taken = c.compare_exchange.ensures.2.0 free in
    (own_still c.compare_exchange.new.seat.table_id c.args.seat.now.table_id c.args.self.now.table.shared.table_id c.compare_exchange.ensures.0 c.requires.own, (Some taken.0, has_out _ (Some taken.0) c.compare_exchange.new.seat.me taken.1))
