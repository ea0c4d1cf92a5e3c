use Rattle.dd_check.proofs.NamesLemmas.{changed_at}
use Rattle.dd_check.proofs.names.Names.remove.Goals as goal

pub returns : goal.returns
returns c = changed_at (λ k. k.items) c.args.name.now c.args.self.now.numbers.entries _ _ c.swap_remove.ensures.updates.1 c.swap_remove.ensures.updates.3
