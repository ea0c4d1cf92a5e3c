use Rattle.std.proofs.Common.{arith}
use Rattle.atomic_table.specs.Table.{step}
use mathlib.Core.Option.{none}
use Rattle.dd_turn.proofs.StepsLemmas.{ring_allows}
use Rattle.dd_turn.proofs.lock.Lock.ring.Goals as goal

pub fetch_add-requires : goal.fetch_add-requires
fetch_add-requires g c =
    let lock = c.args.self.now in
    let slots = lock.table.shared.table_id.slots in (
      c.requires.own,
      omega (arith, lock.two_words),
      ring_allows g.T.Baton.fits g.T.Baton.over lock.table.shared.key slots c.args.seat.now.id (step slots 1 1 0 none) c.args.seat.now.me,
    )
