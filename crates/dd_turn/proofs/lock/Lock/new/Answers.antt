use Rattle.std.proofs.Common.{◌∷◌, [], ◌++◌, List, Option, Some, ap, ◌∙◌}
use Rattle.dd_turn.proofs.StepsLemmas.{opens}
use Rattle.dd_turn.proofs.lock.Lock.new.Goals as goal

pub new-requires : goal.new-requires
new-requires g c =
    opens g.T.Baton.fits g.T.Baton.over c.args.about.now c.args.value c.push.new.self.items
    (c.in_default.ensures.items ∙ ap (λ (old : List (Option g.row.T.Denot)). old ++ Some c.args.value ∷ []) c.new-slots.ensures.items) c.requires.fits
