-- None runs where none is counted.
use Rattle.std.proofs.Common.{◌∙◌, refl, sym}
use Rattle.dd_holding.proofs.HereLemmas.{sound_now}
use Rattle.dd_table.specs.Tables.{state_now}
use Rattle.dd_table.proofs.RunsLemmas.{counted_none, no_more, none_counts, none_runs, not_above, region_of}
use Rattle.dd_table.proofs.table.Table.any_out.Goals as goal

pub running-requires-clause-open : goal.running-requires-clause-open
running-requires-clause-open g c = λ _ _. region_of c.args.self.now.holding.ledger c.core.result.now c.region.result c.core.ensures c.region.ensures ∙ c.in-Some.is

pub returns-in-Some : goal.returns-in-Some
returns-in-Some g c =
    let l = c.args.self.now.holding.ledger in
    let st = state_now c.args.self.now in
    let open_in = region_of l c.core.result.now c.region.result c.core.ensures c.region.ensures ∙ c.in-Some.is in (
      λ none. counted_none l.plan.now st c.in-Some.region (sound_now l c.requires.well) open_in (sym c.running.ensures ∙ not_above c.running.result none),
      λ nothing. no_more c.running.result (c.running.ensures ∙ none_counts l.plan.now st nothing),
    )

pub returns-in-None : goal.returns-in-None
returns-in-None g c =
    let l = c.args.self.now.holding.ledger in
    let st = state_now c.args.self.now in
    let closed = region_of l c.core.result.now c.region.result c.core.ensures c.region.ensures ∙ c.in-None.is in
    (λ _. none_runs l.plan.now st (sound_now l c.requires.well) closed, λ _. refl)
