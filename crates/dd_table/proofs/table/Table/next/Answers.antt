-- What the rounds before led on stands before what the last round gives.
use Rattle.std.proofs.Common.{sym, ◌∙◌}
use Rattle.dd_table.specs.Leading.{AllStand}
use Rattle.dd_table.proofs.ClaimedLemmas.{hands_then}
use Rattle.dd_table.proofs.PreparesLemmas.{cost_less}
use Rattle.dd_table.proofs.RoundsLemmas.{ahead_first, ahead_next, ahead_stays, free_ahead, gives_hands, gives_moves, gives_stays, lead_ahead, may_lead, next_failed, next_still, none_kept}
use Rattle.dd_table.proofs.table.Table.next.Goals as goal

pub loop-step-init : goal.loop-step-init
loop-step-init g c = ahead_first c.args.self.now (none_kept c.args.self.now.cause (sym c.is_some.ensures ∙ c.if-is_some.false))

pub turn-requires-clause-lead : goal.turn-requires-clause-lead
turn-requires-clause-lead g c = λ _ _.
    let t = c.args.self.now in
    lead_ahead t c.loop-step.self (may_lead t c.requires.well c.requires.open (none_kept t.cause (sym c.is_some.ensures ∙ c.if-is_some.false))) c.loop-step.invariant

pub turn-requires-clause-free : goal.turn-requires-clause-free
turn-requires-clause-free g c = λ _ _. free_ahead c.args.self.now c.loop-step.self c.args.worker c.requires.free c.loop-step.invariant

pub returns-in-Err : goal.returns-in-Err
returns-in-Err g c =
    let t = c.args.self.now in
    next_failed t c.loop-step.self c.turn.new.self c.args.worker c.into.result c.in-Err.fault c.into.ensures (none_kept t.cause (sym c.is_some.ensures ∙ c.if-is_some.false)) c.loop-step.invariant c.in-Err.ensures

pub returns-in-Claimed : goal.returns-in-Claimed
returns-in-Claimed g c =
    let t = c.args.self.now in
    let ahead = c.loop-step.invariant in
    hands_then t c.loop-step.self c.turn.new.self ahead.prior c.args.worker c.in-Claimed.work ahead.prepares (none_kept t.cause (sym c.is_some.ensures ∙ c.if-is_some.false))
    (gives_hands c.loop-step.self c.turn.new.self c.args.worker AllStand c.in-Ok.step c.in-Claimed.work c.in-Claimed.is c.in-Ok.ensures)

pub loop-step-smaller : goal.loop-step-smaller
loop-step-smaller g c =
    let t = c.args.self.now in
    let m = c.loop-step.self in
    let lead = lead_ahead t m (may_lead t c.requires.well c.requires.open (none_kept t.cause (sym c.is_some.ensures ∙ c.if-is_some.false))) c.loop-step.invariant in
    let moves = gives_moves m c.turn.new.self c.args.worker AllStand c.in-Ok.step c.in-Moved.is c.in-Ok.ensures in
    cost_less m c.turn.new.self moves.prior moves.prepares lead moves.some

pub loop-step-preserved : goal.loop-step-preserved
loop-step-preserved g c =
    ahead_next c.args.self.now c.loop-step.self c.turn.new.self c.loop-step.invariant (gives_moves c.loop-step.self c.turn.new.self c.args.worker AllStand c.in-Ok.step c.in-Moved.is c.in-Ok.ensures)

pub still-requires-clause-lead : goal.still-requires-clause-lead
still-requires-clause-lead g c = λ _ _.
    let t = c.args.self.now in
    let gives = gives_stays c.loop-step.self c.turn.new.self c.args.worker AllStand c.in-Ok.step c.in-Stood.is c.in-Ok.ensures in
    lead_ahead t c.turn.new.self (may_lead t c.requires.well c.requires.open (none_kept t.cause (sym c.is_some.ensures ∙ c.if-is_some.false)))
    (ahead_stays t c.loop-step.self c.turn.new.self c.loop-step.invariant gives.0)

pub still-requires-clause-stand : goal.still-requires-clause-stand
still-requires-clause-stand g c = λ _ _. (gives_stays c.loop-step.self c.turn.new.self c.args.worker AllStand c.in-Ok.step c.in-Stood.is c.in-Ok.ensures).1

pub returns-in-Stood : goal.returns-in-Stood
returns-in-Stood g c =
    let t = c.args.self.now in
    let u = c.turn.new.self in
    let running = none_kept t.cause (sym c.is_some.ensures ∙ c.if-is_some.false) in
    let gives = gives_stays c.loop-step.self u c.args.worker AllStand c.in-Ok.step c.in-Stood.is c.in-Ok.ensures in
    let ahead = ahead_stays t c.loop-step.self u c.loop-step.invariant gives.0 in
    next_still t u c.args.worker c.still.result running ahead (lead_ahead t u (may_lead t c.requires.well c.requires.open running) ahead) gives.1 c.still.ensures
