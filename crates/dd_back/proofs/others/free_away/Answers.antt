-- The copy is freed where both tests pass.
use Rattle.std.proofs.Common.{◌≡◌, Bool, false, cond, [], ◌∷◌, sym, ◌∙◌, subst}
use Rattle.dd_holding.proofs.HereLemmas.{sound_now}
use Rattle.dd_machine.specs.declared.event.Event.TheVariants.{Free}
use Rattle.dd_table.specs.Tables.{Enters, state_now}
use Rattle.dd_back.specs.Backs.{is_elsewhere}
use Rattle.dd_back.proofs.EndLemmas.{free_may}
use Rattle.dd_back.proofs.FreeingLemmas.{copy_any, elsewhere_home, elsewhere_none, elsewhere_true, enters_none, home_now}
use Rattle.dd_back.proofs.others.free_away.Goals.{else-space-home-via-then-space-home+else-is_some, else-space-home-via-else-space-home}
use Rattle.dd_back.proofs.others.free_away.Goals as goal

pub free-requires-clause-legal : goal.free-requires-clause-legal
free-requires-clause-legal g c = λ _ _.
    let t = c.args.table.now in
    let home = home_now t c.core.result.now c.args.block c.home.result c.core.ensures c.home.ensures in
    let any = sym (copy_any t c.core-then-space-home.result.now c.args.space c.args.block c.copy.result c.core-then-space-home.ensures c.copy.ensures.state) ∙ sym c.is_some.ensures ∙ c.if-is_some.true in
    free_may t.holding.ledger.plan.now (state_now t) c.args.space c.args.block (sound_now t.holding.ledger c.requires.well) c.requires.at_end c.requires.no_pin (t.settled.idle c.requires.running) c.requires.current any
    (λ same. c.if-space-home.true (sym (home ∙ same)))

pub returns-then-is_some : goal.returns-then-is_some
returns-then-is_some g c =
    let t = c.args.table.now in
    let home = home_now t c.core.result.now c.args.block c.home.result c.core.ensures c.home.ensures in
    let any = sym (copy_any t c.core-then-space-home.result.now c.args.space c.args.block c.copy.result c.core-then-space-home.ensures c.copy.ensures.state) ∙ sym c.is_some.ensures ∙ c.if-is_some.true in
    subst (λ (away : Bool). Enters t c.free.new.self (cond away (Free c.args.space c.args.block ∷ []) [])) (sym (elsewhere_true (state_now t) c.args.space c.args.block c.home.result home c.if-space-home.true any)) c.free.ensures

pub returns-else-space-home : goal.returns-else-space-home
returns-else-space-home g c =
    let t = c.args.table.now in
    let home = home_now t c.core.result.now c.args.block c.home.result c.core.ensures c.home.ensures in
    let stays : is_elsewhere (state_now t) c.args.block c.args.space ≡ false = elim c.else-space-home.branch [
      | else-space-home-via-then-space-home+else-is_some w ↦
          elsewhere_none (state_now t) c.args.space c.args.block
          (sym (copy_any t w.core-then-space-home.result.now c.args.space c.args.block w.copy.result w.core-then-space-home.ensures w.copy.ensures.state) ∙ sym w.is_some.ensures ∙ w.if-is_some.false)
      | else-space-home-via-else-space-home w ↦ elsewhere_home (state_now t) c.args.space c.args.block c.home.result home w.if-space-home.false
    ] in
    subst (λ (away : Bool). Enters t t (cond away (Free c.args.space c.args.block ∷ []) [])) (sym stays) (enters_none t)
