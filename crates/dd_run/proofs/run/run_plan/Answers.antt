-- The rows, and the end of the run.
use Rattle.std.proofs.Common.{Bor, sym, ap, ◌∙◌, subst}
use Rattle.dd_blocks.specs.declared.plan.Plan.{Plan}
use Rattle.dd_blocks.specs.Lines.{LinesRise}
use Rattle.dd_run.specs.Gives.{RowsGive}
use Rattle.dd_run.specs.Journals.{IsJournal}
use Rattle.dd_run.specs.Rows.{IsAtRow}
use Rattle.dd_run.proofs.RunsLemmas.{begun_at, broken_by, never_begun, no_picks, whole_by, written_by}
use Rattle.dd_run.proofs.run.run_plan.Goals as goal

pub run_rows-ended-requires-clause-lines : goal.run_rows-ended-requires-clause-lines
run_rows-ended-requires-clause-lines g c κs within = λ on. subst (λ (p : Bor Plan). LinesRise p.now) (sym c.in-Ok.ensures.plan) (c.requires.lines on)

pub run_rows-ended-requires-clause-begun : goal.run_rows-ended-requires-clause-begun
run_rows-ended-requires-clause-begun g c κs within =
    let t = c.in-Ok.table in
    let same = ap (λ (p : Bor Plan). p.now) c.in-Ok.ensures.plan in
    subst (λ (p : Plan). IsAtRow p 0 t) (sym same) (begun_at c.args.plan.now t same c.in-Ok.ensures.empty c.in-Ok.ensures.cause c.in-Ok.ensures.names)

pub returns-in-Ok-clause-whole : goal.returns-in-Ok-clause-whole
returns-in-Ok-clause-whole g c = λ none.
    let t = c.in-Ok.table in
    let u = c.run_rows-ended.new.table in
    let plan = c.args.plan.now in
    let same = ap (λ (p : Bor Plan). p.now) c.in-Ok.ensures.plan in
    let rows = c.run_rows-ended.ensures.gives in
    let gives = subst (λ (p : Plan). RowsGive p c.args.journal t u c.run_rows-ended.result (g.O.Sink.taken c.args.out.now) (g.O.Sink.taken c.run_rows-ended.new.out)) same rows in
    let kept = subst (λ (p : Plan). IsJournal p 1 c.ended_run.result.journal.items c.ended_run.result.moved) (ap (λ (p : Bor Plan). p.now) rows.plan_is ∙ same) c.ended_run.ensures.kept in
    whole_by plan c.args.journal t u c.run_rows-ended.result c.ended_run.result.fault c.ended_run.result.journal.items c.ended_run.result.moved
    (g.O.Sink.taken c.args.out.now) (g.O.Sink.taken c.run_rows-ended.new.out) c.requires.well gives c.ended_run.ensures.fault c.ended_run.ensures.journal kept none

pub returns-in-Ok-clause-broken : goal.returns-in-Ok-clause-broken
returns-in-Ok-clause-broken g c = λ some.
    let t = c.in-Ok.table in
    let u = c.run_rows-ended.new.table in
    let plan = c.args.plan.now in
    let same = ap (λ (p : Bor Plan). p.now) c.in-Ok.ensures.plan in
    let rows = c.run_rows-ended.ensures.gives in
    let gives = subst (λ (p : Plan). RowsGive p c.args.journal t u c.run_rows-ended.result (g.O.Sink.taken c.args.out.now) (g.O.Sink.taken c.run_rows-ended.new.out)) same rows in
    let kept = subst (λ (p : Plan). IsJournal p 1 c.ended_run.result.journal.items c.ended_run.result.moved) (ap (λ (p : Bor Plan). p.now) rows.plan_is ∙ same) c.ended_run.ensures.kept in
    broken_by plan c.args.journal t u c.run_rows-ended.result c.ended_run.result.fault c.ended_run.result.journal.items c.ended_run.result.moved
    (g.O.Sink.taken c.args.out.now) (g.O.Sink.taken c.run_rows-ended.new.out) gives c.ended_run.ensures.fault c.ended_run.ensures.journal kept some

pub returns-in-Ok-clause-written : goal.returns-in-Ok-clause-written
returns-in-Ok-clause-written g c = λ other.
    written_by c.run_rows-ended.result c.ended_run.result.fault (g.O.Sink.faults c.args.out.now) (g.O.Sink.faults c.run_rows-ended.new.out) c.run_rows-ended.ensures.writes c.ended_run.ensures.fault other

pub returns-in-Err-clause-broken : goal.returns-in-Err-clause-broken
returns-in-Err-clause-broken g c = λ some.
    never_begun c.args.plan.now g.D.Slot.Slot.tells c.args.journal c.new-in-Err.result.items (g.O.Sink.taken c.args.out.now) c.requires.well c.new-in-Err.ensures.items

pub returns-in-Err-clause-made : goal.returns-in-Err-clause-made
returns-in-Err-clause-made g c = ap (λ store. g.D.Store.made store) c.in-Err.ensures.back ∙ no_picks c.new-in-Err.result.items (g.D.Store.made c.args.store) c.new-in-Err.ensures.items
