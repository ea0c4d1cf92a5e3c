-- The copy there is lent where it is Out, and else it is Here.
use Rattle.std.proofs.Common.{sym, ◌∙◌}
use Rattle.dd_table.specs.Tables.{state_now}
use Rattle.dd_table.proofs.PullLemmas.{back_first, back_here, back_left, back_pulls, lend_first, lend_left, lend_pulls}
use Rattle.dd_table.proofs.table.Table.pull_some.Goals as goal

pub lend-requires-clause-left : goal.lend-requires-clause-left
lend-requires-clause-left g c = λ _ _.
    let t = c.args.self.now in
    let may = lend_first t.holding.ledger.plan.now (state_now t) c.args.block c.args.source (sym c.is_out.ensures ∙ c.if-is_out.true) c.requires.legal in
    lend_left t c.args.block c.args.source c.requires.well may

pub lend-requires-clause-legal : goal.lend-requires-clause-legal
lend-requires-clause-legal g c = λ _ _.
    let t = c.args.self.now in
    let may = lend_first t.holding.ledger.plan.now (state_now t) c.args.block c.args.source (sym c.is_out.ensures ∙ c.if-is_out.true) c.requires.legal in
    may

pub returns-then-is_out : goal.returns-then-is_out
returns-then-is_out g c = lend_pulls c.args.self.now c.lend.new.self c.args.block c.args.source c.lend.result (sym c.is_out.ensures ∙ c.if-is_out.true) c.lend.ensures

pub copy-requires-clause-left : goal.copy-requires-clause-left
copy-requires-clause-left g c = λ _ _.
    let t = c.args.self.now in
    let not_out = sym c.is_out.ensures ∙ c.if-is_out.false in
    let may = back_first t.holding.ledger.plan.now (state_now t) c.args.block c.args.source not_out c.requires.legal in
    back_left t c.args.block c.args.source c.requires.well may

pub copy-requires-clause-here : goal.copy-requires-clause-here
copy-requires-clause-here g c = λ _ _.
    let t = c.args.self.now in
    let not_out = sym c.is_out.ensures ∙ c.if-is_out.false in
    let may = back_first t.holding.ledger.plan.now (state_now t) c.args.block c.args.source not_out c.requires.legal in
    back_here t c.args.block c.args.source c.requires.running not_out may

pub copy-requires-clause-legal : goal.copy-requires-clause-legal
copy-requires-clause-legal g c = λ _ _.
    let t = c.args.self.now in
    let not_out = sym c.is_out.ensures ∙ c.if-is_out.false in
    let may = back_first t.holding.ledger.plan.now (state_now t) c.args.block c.args.source not_out c.requires.legal in
    may

pub returns-else-is_out : goal.returns-else-is_out
returns-else-is_out g c = back_pulls c.args.self.now c.copy.new.self c.args.block c.args.source c.copy.result (sym c.is_out.ensures ∙ c.if-is_out.false) c.copy.ensures
