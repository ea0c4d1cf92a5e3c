use Rattle.std.proofs.Common.{◌≡◌, ◌+◌, [], ap, arith, rules, subst, sym}
use Rattle.std.proofs.lemmas.Bool.{eqb-true}
use Rattle.std.proofs.lemmas.List.{nil_from_length}
use Rattle.std.proofs.lemmas.Result.{IfErr-weaker}
use Rattle.dd_blocks.specs.declared.plan.Plan.{Plan}
use Rattle.dd_blocks.specs.Lines.{LinesRise}
use Rattle.dd_blocks.specs.WellFormed.{IsWellFormed}
use Rattle.dd_check.specs.Above.{Above}
use Rattle.dd_check.specs.Chain.{IsRefusedOr}
use Rattle.dd_check.specs.Drafts.{above_of}
use Rattle.dd_check.specs.Faults.{IsAcceptFault}
use Rattle.dd_check.proofs.ReachingLemmas.{reaches_next, sound_next, text_accepted, text_refused, text_unended}
use Rattle.dd_check.proofs.WithinLemmas.{lines_rise, well_formed}
use Rattle.dd_check.proofs.script.accept.Goals as goal

pub returns-in_err-read_line-clause-fault : goal.returns-in_err-read_line-clause-fault
returns-in_err-read_line-clause-fault c =
    IfErr-weaker c.from_residual.result (λ e. IsRefusedOr e (c.loop-rest.above + 1) (above_of c.loop-rest.draft) c.first_line.result.0.now) (λ e. IsAcceptFault e c.args.text.now)
    (λ e refused. text_refused e c.args.text.now (c.loop-rest.above + 1) (above_of c.loop-rest.draft) c.loop-rest.rest.now c.first_line.result.0.now c.first_line.result.1.now
    c.loop-rest.invariant.0 c.first_line.ensures.lines c.requires refused) (search rules)

pub loop-rest-preserved : goal.loop-rest-preserved
loop-rest-preserved c = (
  reaches_next c.loop-rest.invariant.0 c.first_line.result.0.now c.first_line.result.1.now (above_of c.read_line.new.draft) c.first_line.ensures.lines c.in_ok-read_line.ensures.taken,
  sound_next c.loop-rest.above (above_of c.loop-rest.draft) c.first_line.result.0.now (above_of c.read_line.new.draft) (omega arith) c.loop-rest.invariant.1 c.in_ok-read_line.ensures.taken,
  c.in_ok-read_line.ensures.counts,
  omega arith,
)

pub returns-in-Some-clause-fault : goal.returns-in-Some-clause-fault
returns-in-Some-clause-fault c =
    let empty : c.loop-rest.rest.now ≡ [] = nil_from_length _ (eqb-true _ 0 (sym c.loop-rest-test.ensures)) in
    rw c.plain.ensures
    (text_unended c.args.text.now (c.loop-rest.above + 1) c.loop-rest.draft c.loop-rest.rest.now c.in-Some.region c.loop-rest.invariant.0 empty c.requires c.in-Some.is)

pub returns-clause-plan : goal.returns-clause-plan
returns-clause-plan c =
    let empty : c.loop-rest.rest.now ≡ [] = nil_from_length _ (eqb-true _ 0 (sym c.loop-rest-test.ensures)) in
    text_accepted c.args.text.now (c.loop-rest.above + 1) c.loop-rest.draft c.loop-rest.rest.now c.settle.new.draft.plan c.loop-rest.invariant.0 empty c.requires c.in_default.is
    (ap (λ (a : Above). a.plan) c.in_ok-settle.ensures.above)

pub returns-clause-well_formed : goal.returns-clause-well_formed
returns-clause-well_formed c =
    subst (λ (p : Plan). IsWellFormed p) (sym (ap (λ (a : Above). a.plan) c.in_ok-settle.ensures.above))
    (well_formed c.loop-rest.above (above_of c.loop-rest.draft) c.loop-rest.invariant.1 (omega arith))

pub returns-clause-lines : goal.returns-clause-lines
returns-clause-lines c =
    subst (λ (p : Plan). LinesRise p) (sym (ap (λ (a : Above). a.plan) c.in_ok-settle.ensures.above))
    (lines_rise c.loop-rest.above (above_of c.loop-rest.draft) c.loop-rest.invariant.1)
