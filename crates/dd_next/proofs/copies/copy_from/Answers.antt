use Rattle.std.proofs.Common.{ℕ, ap, sym, ◌∙◌, subst, arith, Some}
use Rattle.dd_machine.specs.declared.event.Event.TheVariants.{Copy}
use Rattle.dd_machine.specs.Tests.{is_here, is_in_state}
use Rattle.dd_next.specs.Candidates.{copy_from}
use Rattle.dd_next.specs.First.{IsFirstLegal}
use Rattle.dd_next.proofs.CandidatesLemmas.{copied, no_copy_away, no_copy_of_none, no_copy_to}
use Rattle.dd_tables.specs.Tables.{state_of}
use Rattle.dd_next.proofs.copies.copy_from.Goals as goal

pub returns-then-not-is_here : goal.returns-then-not-is_here
returns-then-not-is_here c = no_copy_away c.args.plan.now (state_of c.args.plan.now c.args.tables.now) c.args.task c.args.block c.args.source (sym c.is_here.ensures ∙ c.if-not-is_here.true)

pub returns-then-not-is_here-2 : goal.returns-then-not-is_here-2
returns-then-not-is_here-2 c =
    let st = state_of c.args.plan.now c.args.tables.now in
    no_copy_to c.args.plan.now st c.args.task c.args.block c.args.source c.requires.task.0
    (ap (λ (s : ℕ). is_in_state is_here (st.copies s c.args.block)) (sym c.place.ensures.value) ∙ sym c.is_here-2.ensures ∙ c.if-not-is_here-2.true)

pub returns-then-count-eq0 : goal.returns-then-count-eq0
returns-then-count-eq0 c = no_copy_of_none c.args.plan.now (state_of c.args.plan.now c.args.tables.now) c.args.task c.args.block c.args.source (sym c.needed_len-count.ensures ∙ c.if-count-eq0.true)

pub returns : goal.returns
returns c =
    let plan = c.args.plan.now in
    let st = state_of plan c.args.tables.now in
    let count = c.needed_len-count.ensures in
    let some = c.if-count-eq0.false in
    subst (λ (n : ℕ). IsFirstLegal plan st (copy_from plan st c.args.task c.args.block c.args.source) (Some (Copy c.args.task c.args.block c.args.source n))) (sym count)
    (copied plan st c.args.task c.args.block c.args.source (record {
      source_is = c.requires.source;
      block_is = c.requires.block;
      task_is = c.requires.task.0;
      held = c.requires.held;
      there = sym c.is_here.ensures ∙ c.if-not-is_here.false;
      here = ap (λ (s : ℕ). is_in_state is_here (st.copies s c.args.block)) (sym c.place.ensures.value) ∙ sym c.is_here-2.ensures ∙ c.if-not-is_here-2.false;
      some = omega (arith, count, some);
    }))
