use Rattle.std.proofs.Common.{sym, ◌∙◌, subst}
use Rattle.std.proofs.lemmas.Option.{none-some, same_Some}
use Rattle.dd_turn.proofs.StepsLemmas.{closes}
use Rattle.dd_turn.proofs.lock.Lock.close.Goals as goal

pub unreachable-requires : goal.unreachable-requires
unreachable-requires g c =
    let there = closes g.T.Baton.fits g.T.Baton.over c.args.self.table.shared.key c.args.about.now c.args.seat.id c.args.seat.me _ _ c.take-slot.result c.requires.seen c.close_with-closed.ensures.values.2 c.take-slot.ensures.value in
    none-some there.0 (sym c.in-None.is ∙ there.1)

pub returns-clause-fits : goal.returns-clause-fits
returns-clause-fits g c =
    let there = closes g.T.Baton.fits g.T.Baton.over c.args.self.table.shared.key c.args.about.now c.args.seat.id c.args.seat.me _ _ c.take-slot.result c.requires.seen c.close_with-closed.ensures.values.2 c.take-slot.ensures.value in
    subst (g.T.Baton.fits c.args.about.now) (same_Some there.0 c.in-Some.value (sym there.1 ∙ c.in-Some.is)) there.2

pub returns-clause-over : goal.returns-clause-over
returns-clause-over g c =
    let there = closes g.T.Baton.fits g.T.Baton.over c.args.self.table.shared.key c.args.about.now c.args.seat.id c.args.seat.me _ _ c.take-slot.result c.requires.seen c.close_with-closed.ensures.values.2 c.take-slot.ensures.value in
    subst (g.T.Baton.over c.args.about.now) (same_Some there.0 c.in-Some.value (sym there.1 ∙ c.in-Some.is)) there.3
