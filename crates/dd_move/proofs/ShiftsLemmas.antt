-- One block of a move.
use Rattle.std.proofs.Common.{◌≡◌, ℕ, ◌+◌, ◌<◌, false, List, [], ◌∷◌, ◌++◌, None, refl, sym, ap, ◌∙◌, subst, eqb, Result, Ok, Err}
use Rattle.std.specs.List.{fold}
use Rattle.std.proofs.lemmas.Bool.{ne_eqb}
use Rattle.dd_blocks.specs.declared.plan.Plan.{Plan}
use Rattle.dd_core.specs.Due.{AreDue}
use Rattle.dd_machine.specs.declared.event.Event.{Event}
use Rattle.dd_machine.specs.declared.event.Event.TheVariants.{Ask, Rest, Shift}
use Rattle.dd_machine.specs.Legal.{MayAsk}
use Rattle.dd_machine.specs.Made.{pin_after}
use Rattle.dd_machine.specs.Words.{IsOneOf, blocks, spaces}
use Rattle.dd_statements.specs.Follows.{Asks, StopsIn}
use Rattle.dd_statements.proofs.LoopLemmas.{IsAtBlock, between, block_more, block_next, block_stops}
use Rattle.dd_statements.proofs.MayLemmas.{ask_legal}
use Rattle.dd_statements.proofs.WithinLemmas.{IsWithin, plan_kept, within_due, within_homes, within_line}
use Rattle.dd_store.specs.declared.store.Slot.{Ghosts as SlotGhosts}
use Rattle.dd_store.specs.declared.store.Store.{Ghosts}
use Rattle.dd_table.specs.declared.fault.RunFault.{RunFault}
use Rattle.dd_table.specs.declared.table.Table.{Table}
use Rattle.dd_table.specs.Tables.{line_now, state_now}
use Rattle.dd_move.proofs.MovesLemmas.{away, away_else, homes_past}

-- what the shift of a block asks for
abbrev pub shifted : ℕ → ℕ → List Event
shifted space block = Ask space block ∷ (Shift block space ∷ (Rest ∷ []))

-- it is elsewhere
pub elsewhere : (result home space : ℕ) → result ≡ home → (result ≡ space → ⊥) → eqb home space ≡ false
elsewhere result home space is else = ne_eqb home space (λ same. else (is ∙ same))

module _ {D S : Type 0} {g : Ghosts D S} {h : SlotGhosts S} where
  abbrev pub MovesTo : Table D S g h → Table D S g h → ℕ → ℕ → ℕ → ℕ → Type 0
  MovesTo t m space first end b = IsAtBlock t m (away (state_now t).homes space) first end b

  -- its home is the first one
  pub home_first : (t m : Table D S g h) (space first end b : ℕ) → MovesTo t m space first end b → (state_now m).homes b ≡ (state_now t).homes b
  home_first t m space first end b at =
      ap (λ (f : ℕ → ℕ). f b) (within_homes t m (line_now t) (between (away (state_now t).homes space) first b) (between (away (state_now t).homes space) b end) at.within)
      ∙ homes_past (state_now t).homes space first b at.from

  away_now : (t m : Table D S g h) (space first end b : ℕ) → MovesTo t m space first end b → eqb ((state_now m).homes b) space ≡ false → away (state_now t).homes space b ≡ shifted space b
  away_now t m space first end b at else = away_else (state_now t).homes space b (ap (λ (s : ℕ). eqb s space) (sym (home_first t m space first end b at)) ∙ else)

  pub shift_due : (t m : Table D S g h) (space first end b : ℕ) → b < end → MovesTo t m space first end b → eqb ((state_now m).homes b) space ≡ false
      → AreDue m.holding.ledger.plan.now (state_now m) (shifted space b)
  shift_due t m space first end b lt at else =
      let f = away (state_now t).homes space in
      subst (λ (p : Plan). AreDue p (state_now m) (shifted space b)) (sym (plan_kept t m (line_now t) (between f first b) at.within.follows.adds))
      (within_due t m (line_now t) (between f first b) (shifted space b) (between f (b + 1) end)
      (subst (λ (l : List Event). IsWithin t m (line_now t) (between f first b) (l ++ between f (b + 1) end)) (away_now t m space first end b at else) (block_next t m f first end b lt at)))

  pub shift_may : (t m : Table D S g h) (space first end b : ℕ) → b < end → IsOneOf (spaces t.holding.ledger.plan.now) space → IsOneOf (blocks t.holding.ledger.plan.now) b → MovesTo t m space first end b
      → eqb ((state_now m).homes b) space ≡ false → MayAsk m.holding.ledger.plan.now (state_now m) space b
  shift_may t m space first end b lt space_is block_is at else =
      let same = sym (plan_kept t m (line_now t) (between (away (state_now t).homes space) first b) at.within.follows.adds) in
      ask_legal m.holding.ledger.plan.now (state_now m) space b (Shift b space ∷ (Rest ∷ [])) at.within.between.region at.within.between.pin
      (subst (λ (p : Plan). IsOneOf (spaces p) space) same space_is) (subst (λ (p : Plan). IsOneOf (blocks p) b) same block_is) (shift_due t m space first end b lt at else)

  -- what the call gives
  shift_gives : (t m u : Table D S g h) (space first end b : ℕ) (result : Result (Unit {0}) RunFault) → b < end → MovesTo t m space first end b → eqb ((state_now m).homes b) space ≡ false
      → Asks m u (line_now m) (shifted space b) result → Asks m u (line_now t) (away (state_now t).homes space b) result
  shift_gives t m u space first end b result lt at else asks =
      let f = away (state_now t).homes space in
      let is = away_now t m space first end b at else in
      let line = within_line t m (line_now t) (between f first b) (Ask space b) (Shift b space ∷ (Rest ∷ between f (b + 1) end))
      (subst (λ (l : List Event). IsWithin t m (line_now t) (between f first b) (l ++ between f (b + 1) end)) is (block_next t m f first end b lt at)) in
      subst (λ (n : ℕ). Asks m u n (f b) result) line (subst (λ (l : List Event). Asks m u (line_now m) l result) (sym is) asks)

  pub shift_more : (t m u : Table D S g h) (space first end b : ℕ) → b < end → MovesTo t m space first end b → eqb ((state_now m).homes b) space ≡ false
      → Asks m u (line_now m) (shifted space b) (Ok tt) → MovesTo t u space first end (b + 1)
  shift_more t m u space first end b lt at else asks =
      let f = away (state_now t).homes space in
      block_more t m u f first end b lt at (shift_gives t m u space first end b (Ok tt) lt at else asks) (subst (λ (l : List Event). fold pin_after None l ≡ None) (sym (away_now t m space first end b at else)) refl)

  pub shift_stops : (t m u : Table D S g h) (space first end b : ℕ) (fault : RunFault) → b < end → MovesTo t m space first end b → eqb ((state_now m).homes b) space ≡ false
      → Asks m u (line_now m) (shifted space b) (Err fault) → StopsIn t u (line_now t) (between (away (state_now t).homes space) first end) fault
  shift_stops t m u space first end b fault lt at else asks =
      block_stops t m u (away (state_now t).homes space) first end b fault lt at (shift_gives t m u space first end b (Err fault) lt at else asks)
