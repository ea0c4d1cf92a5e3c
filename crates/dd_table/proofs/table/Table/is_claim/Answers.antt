-- The entry of the number is there and is asked, or there is none.
use Rattle.std.proofs.Common.{◌≡◌, ◌-◌, ◌<◌, ◌≤◌, List, length, get_or, Some, sym, ap, ◌∙◌, subst, vec_items}
use Rattle.dd_machine.specs.declared.entry.Entry.{Entry}
use Rattle.dd_machine.specs.declared.event.Event.TheVariants.{Claim}
use Rattle.dd_table.specs.Outs.{event_at}
use Rattle.dd_table.proofs.RunsLemmas.{claim_is, claim_none, event_found, event_missing}
use Rattle.dd_table.proofs.table.Table.is_claim.Goals as goal

pub returns-in-Some : goal.returns-in-Some
returns-in-Some g c =
    let entries = c.args.self.now.holding.ledger.journal.items in
    let n = c.number-number.result in
    let entry = c.in-Some.entry.now in
    let there = c.in-Some.ensures.lookup in
    let same : c.deref.result.now ≡ entries = c.deref.ensures.value ∙ ap vec_items c.journal.ensures in
    let found : event_at entries n ≡ Some entry.event = event_found entries n entry c.if-number-eq0.false (subst (λ (xs : List Entry). n - 1 < length xs) same there.3.0) (subst (λ (xs : List Entry). entry ≡ get_or xs (n - 1) entry) same there.1) in
    claim_is (event_at entries c.args.work.now.number) entry.event c.task.result c.worker.result c.args.work.now.task c.args.work.now.worker c.is_event.result
    (ap (event_at entries) (sym c.number-number.ensures) ∙ found) c.task.ensures c.worker.ensures c.is_event.ensures

pub returns-in-None : goal.returns-in-None
returns-in-None g c =
    let entries = c.args.self.now.holding.ledger.journal.items in
    let n = c.number-number.result in
    let past = c.in-None.ensures.lookup in
    let same : c.deref.result.now ≡ entries = c.deref.ensures.value ∙ ap vec_items c.journal.ensures in
    claim_none (event_at entries c.args.work.now.number) (Claim c.args.work.now.task c.args.work.now.worker)
    (ap (event_at entries) (sym c.number-number.ensures) ∙ event_missing entries n c.if-number-eq0.false (subst (λ (xs : List Entry). length xs ≤ n - 1) same past.3))
