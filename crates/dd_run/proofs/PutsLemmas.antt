-- Blocks that are put one after another: none changes the home of another.
use Rattle.std.proofs.Common.{◌≡◌, ℕ, ◌+◌, ◌-◌, ◌<◌, List, [], ◌∷◌, refl, ap, sym, ◌∙◌, subst, arith, Result, Ok, Err}
use Rattle.std.specs.List.{flat_map, fold, range_with_len}
use Rattle.std.proofs.lemmas.List.Sums.{fold-append}
use Rattle.dd_blocks.specs.declared.plan.Plan.{Plan}
use Rattle.dd_blocks.specs.Grids.{block_count}
use Rattle.dd_blocks.specs.Numbered.{array_row}
use Rattle.dd_blocks.specs.WellFormed.{IsWellFormed}
use Rattle.dd_core.specs.Due.{AreDue}
use Rattle.dd_holding.proofs.HereLemmas.{sound_now}
use Rattle.dd_machine.specs.declared.event.Event.{Event}
use Rattle.dd_machine.specs.declared.event.Event.TheVariants.{Ask, Put, Rest}
use Rattle.dd_machine.specs.Legal.{MayAsk}
use Rattle.dd_machine.specs.States.{State}
use Rattle.dd_machine.specs.Words.{IsOneOf, blocks}
use Rattle.dd_run.specs.Puts.{put_events, put_one}
use Rattle.dd_statements.specs.Follows.{Asks, StopsIn}
use Rattle.dd_statements.proofs.LoopLemmas.{IsAtBlock, between, block_more, block_next, block_stops}
use Rattle.dd_statements.proofs.MayLemmas.{home_legal}
use Rattle.dd_statements.proofs.StateLemmas.{homes_after}
use Rattle.dd_statements.proofs.WithinLemmas.{plan_kept, within_due, within_homes, within_line}
use Rattle.dd_store.specs.declared.store.Slot.{Ghosts as SlotGhosts}
use Rattle.dd_store.specs.declared.store.Store.{Ghosts}
use Rattle.dd_table.specs.declared.fault.RunFault.{RunFault}
use Rattle.dd_table.specs.declared.table.Table.{Table}
use Rattle.dd_table.specs.Tables.{line_now, state_now}

homes_put : (st : State) (h : ℕ → ℕ) (bs : List ℕ) → fold homes_after h (flat_map (put_one st) bs) ≡ h
homes_put st h [] = refl
homes_put st h (b ∷ bs) = fold-append homes_after h (put_one st b) (flat_map (put_one st) bs) ∙ homes_put st h bs

-- what all blocks ask for
pub puts_are : (plan : Plan) (st : State) (array end : ℕ) → end ≡ (array_row plan array).first_block + block_count (array_row plan array).grid
    → put_events plan st array ≡ between (put_one st) (array_row plan array).first_block end
puts_are plan st array end is =
    ap (λ (n : ℕ). flat_map (put_one st) (range_with_len (array_row plan array).first_block n))
    (let e : block_count (array_row plan array).grid ≡ end - (array_row plan array).first_block = omega (arith, is) in e)

module _ {D S : Type 0} {g : Ghosts D S} {h : SlotGhosts S} where
  abbrev pub PutsTo : Table D S g h → Table D S g h → ℕ → ℕ → ℕ → Type 0
  PutsTo t m first end b = IsAtBlock t m (put_one (state_now t)) first end b

  home_first : (t m : Table D S g h) (first end b : ℕ) → PutsTo t m first end b → (state_now m).homes ≡ (state_now t).homes
  home_first t m first end b at =
      within_homes t m (line_now t) (between (put_one (state_now t)) first b) (between (put_one (state_now t)) b end) at.within
      ∙ homes_put (state_now t) (state_now t).homes (range_with_len first (b - first))

  one_same : (t m : Table D S g h) (first end b : ℕ) → PutsTo t m first end b → put_one (state_now m) b ≡ put_one (state_now t) b
  one_same t m first end b at = ap (λ (f : ℕ → ℕ). Ask (f b) b ∷ (Put b ∷ (Rest ∷ []))) (home_first t m first end b at)

  pub put_due : (t m : Table D S g h) (first end b : ℕ) → b < end → PutsTo t m first end b → AreDue m.holding.ledger.plan.now (state_now m) (put_one (state_now m) b)
  put_due t m first end b lt at =
      let f = put_one (state_now t) in
      subst (λ (p : Plan). AreDue p (state_now m) (put_one (state_now m) b)) (sym (plan_kept t m (line_now t) (between f first b) at.within.follows.adds))
      (subst (AreDue t.holding.ledger.plan.now (state_now m)) (sym (one_same t m first end b at))
      (within_due t m (line_now t) (between f first b) (f b) (between f (b + 1) end) (block_next t m f first end b lt at)))

  pub put_may : (t m : Table D S g h) (first end b : ℕ) → IsWellFormed t.holding.ledger.plan.now → b < end → IsOneOf (blocks t.holding.ledger.plan.now) b → PutsTo t m first end b
      → MayAsk m.holding.ledger.plan.now (state_now m) ((state_now m).homes b) b
  put_may t m first end b well lt block_is at =
      let same = sym (plan_kept t m (line_now t) (between (put_one (state_now t)) first b) at.within.follows.adds) in
      home_legal m.holding.ledger.plan.now (state_now m) b (Put b ∷ (Rest ∷ [])) (sound_now m.holding.ledger (subst IsWellFormed same well)) at.within.between.region at.within.between.pin
      (subst (λ (p : Plan). IsOneOf (blocks p) b) same block_is) (put_due t m first end b lt at)

  put_gives : (t m u : Table D S g h) (first end b : ℕ) (result : Result (Unit {0}) RunFault) → b < end → PutsTo t m first end b → Asks m u (line_now m) (put_one (state_now m) b) result
      → Asks m u (line_now t) (put_one (state_now t) b) result
  put_gives t m u first end b result lt at asks =
      let f = put_one (state_now t) in
      let line = within_line t m (line_now t) (between f first b) (Ask ((state_now t).homes b) b) (Put b ∷ (Rest ∷ between f (b + 1) end)) (block_next t m f first end b lt at) in
      subst (λ (n : ℕ). Asks m u n (f b) result) line (subst (λ (l : List Event). Asks m u (line_now m) l result) (one_same t m first end b at) asks)

  pub put_more : (t m u : Table D S g h) (first end b : ℕ) → b < end → PutsTo t m first end b → Asks m u (line_now m) (put_one (state_now m) b) (Ok tt) → PutsTo t u first end (b + 1)
  put_more t m u first end b lt at asks = block_more t m u (put_one (state_now t)) first end b lt at (put_gives t m u first end b (Ok tt) lt at asks) refl

  pub put_stops : (t m u : Table D S g h) (first end b : ℕ) (fault : RunFault) → b < end → PutsTo t m first end b → Asks m u (line_now m) (put_one (state_now m) b) (Err fault)
      → StopsIn t u (line_now t) (between (put_one (state_now t)) first end) fault
  put_stops t m u first end b fault lt at asks = block_stops t m u (put_one (state_now t)) first end b fault lt at (put_gives t m u first end b (Err fault) lt at asks)
