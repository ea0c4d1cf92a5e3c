-- The work was collected, and the room reserved.
use Rattle.std.proofs.Common.{◌≡◌, ◌≤◌, ℕ, true, sym, subst}
use Rattle.std.specs.Prelude.{IsSomeAnd}
use Rattle.dd_blocks.specs.WellFormed.{IsWellFormed}
use Rattle.dd_holding.specs.Users.{most_wanted}
use Rattle.dd_holding.proofs.ClaimLemmas.{claimed}
use Rattle.dd_holding.proofs.FactsLemmas.{either}
use Rattle.dd_holding.proofs.QuietLemmas.{stayed}
use Rattle.dd_holding.proofs.SpareLemmas.{still_spare}
use Rattle.dd_ledger.specs.declared.ledger.Ledger.{Ledger}
use Rattle.dd_machine.specs.Words.{place, touches}
use Rattle.dd_pool.specs.Pools.{copy_at}
use Rattle.dd_stamps.specs.declared.stamped.Stamped.{Stamped}
use Rattle.dd_holding.proofs.holding.Holding.claim.Goals as goal

pub invariant_of-self : goal.invariant_of-self
invariant_of-self g c =
    let x = c.args.self.now in
    let mid = c.reserve_outputs.new.self in
    let same = c.reserve_outputs.ensures.ledger in
    let roomy = λ (room : (b : ℕ) → touches x.ledger.plan.now c.args.task b ≡ true → IsSomeAnd (copy_at mid.pool (place x.ledger.plan.now c.args.task) b) (λ (c' : Stamped). most_wanted x.ledger.plan.now b ≤ c'.versions.spare)).
    subst (λ (l : Ledger). (b : ℕ) → touches l.plan.now c.args.task b ≡ true → IsSomeAnd (copy_at mid.pool (place l.plan.now c.args.task) b) (λ (c' : Stamped). most_wanted l.plan.now b ≤ c'.versions.spare)) (sym same) room in
    let well = subst (λ (l : Ledger). IsWellFormed l.plan.now) (sym same) c.requires.well in
    let room = roomy c.in_ok-reserve_outputs.ensures.ok in
    record {
      facts = either c.enter.result c.enter.ensures.ok c.enter.ensures.err
          (λ grows. (claimed mid.ledger c.enter.new.self mid.pool c.args.entry c.args.task c.args.worker well grows c.requires.event room mid.facts mid.spare).0)
          (λ grows. stayed mid.ledger c.enter.new.self mid.pool grows mid.facts);
      spare = either c.enter.result c.enter.ensures.ok c.enter.ensures.err
          (λ grows. (claimed mid.ledger c.enter.new.self mid.pool c.args.entry c.args.task c.args.worker well grows c.requires.event room mid.facts mid.spare).1)
          (λ grows. still_spare mid.ledger c.enter.new.self mid.pool grows mid.spare);
    }
