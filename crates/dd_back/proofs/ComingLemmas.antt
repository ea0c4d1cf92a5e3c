-- Blocks that came home.
use Rattle.std.proofs.Common.{◌≡◌, ℕ, ◌+◌, ◌≤◌, true, false, [], ◌∷◌, Option, None, refl, ap, sym, ◌∙◌, subst, ⊎_elim, arith}
use Rattle.std.specs.Prelude.{not}
use Rattle.std.proofs.lemmas.Bool.{and_right, cases_eq}
use Rattle.dd_back.specs.Backs.{Homes, StopsHoming}
use Rattle.dd_back.specs.Steps.{AllComeHome, ComesHome, IsAtEnd, Pulls}
use Rattle.dd_blocks.specs.declared.plan.Plan.{Plan}
use Rattle.dd_blocks.specs.WellFormed.{IsWellFormed}
use Rattle.dd_core.specs.Stale.{is_stale}
use Rattle.dd_holding.proofs.HereLemmas.{sound_now}
use Rattle.dd_machine.specs.declared.event.Event.TheVariants.{Rest}
use Rattle.dd_machine.specs.Effects.{after, after_rest}
use Rattle.dd_machine.specs.Legal.{May, MayRest}
use Rattle.dd_machine.specs.Needed.{is_current}
use Rattle.dd_machine.specs.Sound.{IsSound}
use Rattle.dd_machine.specs.States.{State}
use Rattle.dd_machine.specs.Tests.{is_any, is_in_state}
use Rattle.dd_machine.specs.Words.{IsOneOf, blocks}
use Rattle.dd_store.specs.declared.store.Slot.{Ghosts as SlotGhosts}
use Rattle.dd_store.specs.declared.store.Store.{Ghosts}
use Rattle.dd_table.specs.declared.fault.RunFault.{RunFault}
use Rattle.dd_table.specs.declared.table.Table.{Table}
use Rattle.dd_table.specs.Tables.{Enters, state_now}
use Rattle.dd_table.proofs.AskedLemmas.{state_one}
use Rattle.dd_back.proofs.BroughtLemmas.{Brought}
use Rattle.dd_back.proofs.EndLemmas.{end_kept}
use Rattle.dd_back.proofs.EnteredLemmas.{homes_both, homes_keep, homes_none, homes_plan, homes_run, homes_stopped, homes_then, homes_well}
use Rattle.dd_back.proofs.HomingLemmas.{Keeps, event_keeps, fresh_kept}
use Rattle.dd_back.proofs.PinnedLemmas.{pulled_current, rest_may}

-- a home copy that is current isn't stale
fresh_of : (plan : Plan) (st : State) (block : ℕ) → is_current plan st (st.homes block) block ≡ true → is_stale plan st block ≡ false
fresh_of plan st block now = and_right (is_in_state is_any (st.copies (st.homes block) block)) (not (is_current plan st (st.homes block) block)) (ap not now)

module _ {D S : Type 0} {g : Ghosts D S} {h : SlotGhosts S} where
  -- the pinned block lacks nothing any more
  pulls_current : (t u : Table D S g h) (block : ℕ) → IsWellFormed t.holding.ledger.plan.now → Pulls t u block
      → is_current t.holding.ledger.plan.now (state_now u) ((state_now u).homes block) block ≡ true
  pulls_current t u block well p =
      let plan = t.holding.ledger.plan.now in
      let sound = subst (λ (q : Plan). IsSound q (state_now u)) (homes_plan t u p.homes) (sound_now u.holding.ledger (homes_well t u p.homes well)) in
      pulled_current plan (state_now u) block sound p.pinned p.none

  -- so the pin may be given up
  pub pulls_rest : (t u : Table D S g h) (block : ℕ) → IsWellFormed t.holding.ledger.plan.now → Pulls t u block → May u.holding.ledger.plan.now (state_now u) Rest
  pulls_rest t u block well p =
      let plan = t.holding.ledger.plan.now in
      subst (λ (q : Plan). MayRest q (state_now u)) (sym (homes_plan t u p.homes))
      (rest_may plan (state_now u) block (u.settled.idle (homes_run t u p.homes)) p.pinned (pulls_current t u block well p))

  pub comes_home : (t m u v : Table D S g h) (block : ℕ) → IsWellFormed t.holding.ledger.plan.now → IsAtEnd t.holding.ledger.plan.now (state_now t) → Brought t m block → Pulls m u block
      → Enters u v (Rest ∷ []) → ComesHome t v block
  comes_home t m u v block well e b p q =
      let plan = t.holding.ledger.plan.now in
      let same : u.holding.ledger.plan.now ≡ plan = homes_plan m u p.homes ∙ homes_plan t m b.homes in
      let there : m.holding.ledger.plan.now ≡ plan = homes_plan t m b.homes in
      let st = state_now u in
      let is : state_now v ≡ after plan st Rest = subst (λ (r : Plan). state_now v ≡ after r st Rest) same (state_one u v Rest q) in
      let current : is_current plan st (st.homes block) block ≡ true =
      subst (λ (r : Plan). is_current r st (st.homes block) block ≡ true) there (pulls_current m u block (homes_well t m b.homes well) p) in
      let keeps : Keeps plan st (state_now v) = subst (Keeps plan st) (sym is) (event_keeps plan st p.pinned.at_end.region Rest p.pinned.at_end.open_is refl) in
      record {
        homes = homes_then t u v (Rest ∷ []) e (homes_both t m u e b.homes p.homes) refl q;
        unpinned = ap (λ (x : State). x.pin) is ∙ ap (λ (o : Option (ℕ × ℕ)). (after_rest plan st o).pin) p.pinned.pin;
        current = fresh_kept plan st (state_now v) block keeps (fresh_of plan st block current);
      }

  pub comes_stops : (t m u : Table D S g h) (block : ℕ) (fault : RunFault) → IsAtEnd t.holding.ledger.plan.now (state_now t) → Brought t m block → StopsHoming m u fault → StopsHoming t u fault
  comes_stops t m u block fault e b q = homes_stopped t m u fault e b.homes q

  -- a block that isn't stale needs nothing
  pub comes_none : (t : Table D S g h) (block : ℕ) → t.cause ≡ None → (state_now t).pin ≡ None → is_stale t.holding.ledger.plan.now (state_now t) block ≡ false → ComesHome t t block
  comes_none t block none no_pin fresh = record { homes = homes_none t none; unpinned = no_pin; current = fresh }

  -- the first so many blocks came home
  pub record ComingHome (t u : Table D S g h) (count : ℕ) : Type 0 where
    pub homes : Homes t u
    pub unpinned : (state_now u).pin ≡ None
    pub current : (b : ℕ) → IsOneOf (blocks t.holding.ledger.plan.now) b → b ≤ count → is_stale t.holding.ledger.plan.now (state_now u) b ≡ false

  pub coming_first : (t : Table D S g h) → t.cause ≡ None → (state_now t).pin ≡ None → ComingHome t t 0
  coming_first t none no_pin = record {
    homes = homes_none t none;
    unpinned = no_pin;
    current = λ b is le. let some = is.0 in absurd (omega (arith, some, le));
  }

  pub coming_at_end : (t m : Table D S g h) (count : ℕ) → IsAtEnd t.holding.ledger.plan.now (state_now t) → ComingHome t m count → IsAtEnd m.holding.ledger.plan.now (state_now m)
  coming_at_end t m count e p =
      subst (λ (q : Plan). IsAtEnd q (state_now m)) (sym (homes_plan t m p.homes)) (end_kept t.holding.ledger.plan.now (state_now t) (state_now m) (homes_keep t m e p.homes) e)

  pub coming_next : (t m u : Table D S g h) (count : ℕ) → IsAtEnd t.holding.ledger.plan.now (state_now t) → ComingHome t m count → ComesHome m u (count + 1) → ComingHome t u (count + 1)
  coming_next t m u count e p q =
      let plan = t.holding.ledger.plan.now in
      let same : m.holding.ledger.plan.now ≡ plan = homes_plan t m p.homes in
      let keeps : Keeps plan (state_now m) (state_now u) = subst (λ (r : Plan). Keeps r (state_now m) (state_now u)) same (homes_keep m u (coming_at_end t m count e p) q.homes) in
      record {
        homes = homes_both t m u e p.homes q.homes;
        unpinned = q.unpinned;
        current = λ b is le. ⊎_elim
            (λ (here : b ≡ count + 1). subst (λ (r : Plan). is_stale r (state_now u) b ≡ false) same (subst (λ (n : ℕ). is_stale m.holding.ledger.plan.now (state_now u) n ≡ false) (sym here) q.current))
            (λ (apart : b ≡ count + 1 → ⊥). fresh_kept plan (state_now m) (state_now u) b keeps (p.current b is (below b count le apart)))
            (cases_eq b (count + 1));
      }
    where
      below : (b count : ℕ) → b ≤ count + 1 → (b ≡ count + 1 → ⊥) → b ≤ count
      below b count le apart = omega (arith, le, apart)

  pub coming_stops : (t m u : Table D S g h) (count : ℕ) (fault : RunFault) → IsAtEnd t.holding.ledger.plan.now (state_now t) → ComingHome t m count → StopsHoming m u fault → StopsHoming t u fault
  coming_stops t m u count fault e p q = homes_stopped t m u fault e p.homes q

  pub coming_end : (t m : Table D S g h) (count : ℕ) → ComingHome t m count → blocks t.holding.ledger.plan.now ≤ count → AllComeHome t m
  coming_end t m count p all = record {
    homes = p.homes;
    unpinned = p.unpinned;
    current = λ b is. let le = is.1 in p.current b is (omega (arith, le, all));
  }
