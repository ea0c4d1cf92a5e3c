use Rattle.std.proofs.Common.{◌≡◌, ℕ, List, None, ap, sym, ◌∙◌}
use Rattle.dd_machine.specs.declared.copy_state.CopyState.TheVariants.{Here}
use Rattle.dd_machine.specs.Effects.{in_state, order_front, order_without}
use Rattle.dd_machine.specs.Owed.{one_more}
use Rattle.dd_machine.specs.States.{State, at_copy, at_one}
use Rattle.dd_tables.specs.Tables.{state_of}
use Rattle.dd_row_steps.proofs.ChangesLemmas.{front_then_without}
use Rattle.dd_row_steps.proofs.moves.shift.Goals as goal

pub returns-clause-value : goal.returns-clause-value
returns-clause-value c =
    let plan = c.args.plan.now in
    let st = state_of plan c.args.tables.now in
    let home = c.home_of-home.result in
    let space = c.args.space in
    let block = c.args.block in
    let is : home ≡ st.homes block = c.home_of-home.ensures in
    let steps =
    c.advance.ensures.value
    ∙ ap (λ (s : State). record s { progress = one_more plan s.progress }) (c.set_home.ensures.value
    ∙ ap (λ (s : State). record s { homes = at_one s.homes block space }) (c.move_copy.ensures.value
    ∙ ap (λ (s : State). record s { copies = at_copy (at_copy s.copies home block None) space block (in_state Here (s.copies home block)) }) (c.without.ensures.value
    ∙ ap (λ (s : State). record s { orders = order_without s.orders home block }) c.in_ok-add_front.ensures.value))) in
    let with_orders : (ℕ → List ℕ) → ℕ → State = λ orders h. record st {
      copies = at_copy (at_copy st.copies h block None) space block (in_state Here (st.copies h block));
      orders = orders;
      homes = at_one st.homes block space;
      progress = one_more plan st.progress;
    } in
    steps
    ∙ ap (λ (o : ℕ → List ℕ). with_orders o home) (front_then_without st.orders home space block (λ e. c.requires.may.elsewhere (sym is ∙ e)))
    ∙ ap (λ (h : ℕ). with_orders (order_front (order_without st.orders h block) space block) h) is
