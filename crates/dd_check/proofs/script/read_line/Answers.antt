use Rattle.std.proofs.Common.{◌+◌, subst, inr, Some, Option}
use Rattle.std.proofs.lemmas.Result.{IfErr-weaker}
use Rattle.dd_script.specs.declared.statement.Statement.{Statement}
use Rattle.dd_script.specs.Reads.{Reads}
use Rattle.dd_check.specs.Drafts.{above_of}
use Rattle.dd_check.proofs.ReachingLemmas.{both_on_ok, found_refused}
use Rattle.dd_check.proofs.script.read_line.Goals as goal

pub returns-in-Some-clause-taken : goal.returns-in-Some-clause-taken
returns-in-Some-clause-taken c =
    let reads : Reads c.args.bytes.now (Some c.in-Some.x) = subst (λ (o : Option Statement). Reads c.args.bytes.now o) c.in-Some.is c.in_ok-x.ensures.reads in
    both_on_ok c.admit.result (λ clear enters. inr (c.in-Some.x, reads, clear, enters)) c.admit.ensures.clear c.admit.ensures.enters

pub returns-in-Some-clause-fault : goal.returns-in-Some-clause-fault
returns-in-Some-clause-fault c =
    let reads : Reads c.args.bytes.now (Some c.in-Some.x) = subst (λ (o : Option Statement). Reads c.args.bytes.now o) c.in-Some.is c.in_ok-x.ensures.reads in
    IfErr-weaker c.admit.result _ _ (λ e found. found_refused e (c.args.above + 1) (above_of c.args.draft.now) c.args.bytes.now c.in-Some.x reads found) c.admit.ensures.fault
