use Rattle.std.proofs.Common.{◌≡◌, ℕ, List, Some, subst}
use Rattle.dd_check.specs.Lookup.{Renames}
use Rattle.dd_check.proofs.NamesLemmas.{changed_at}
use Rattle.dd_check.proofs.names.Names.put.Goals as goal

pub returns : goal.returns
returns c =
    let key : c.in_ok-key.key.items ≡ c.args.name.now = c.in_ok-key.ensures.items in
    subst (λ (bs : List ℕ). Renames c.args.self.now (record { numbers = c.insert.new.self }) bs (Some c.args.array)) key
    (changed_at (λ k. k.items) c.in_ok-key.key.items c.args.self.now.numbers.entries c.insert.new.self.entries (Some c.args.array) c.in_ok-insert.ensures.updates.1 c.in_ok-insert.ensures.updates.3)
