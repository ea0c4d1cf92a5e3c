-- What a pinned home copy got so far, space by space.
use Rattle.std.proofs.Common.{◌≡◌, ℕ, ◌+◌, ◌<◌, ◌≤◌, Bool, true, false, cond, ltb, [], ◌∷◌, length, None, refl, ap, sym, ◌∙◌, subst, ⊎_elim, arith}
use Rattle.std.specs.List.{range_with_len}
use Rattle.std.proofs.lemmas.Bool.{cases_eq, ltb-false}
use Rattle.dd_views.proofs.ListsLemmas.{filter_has, range_has}
use Rattle.dd_back.specs.Backs.{AreHoming, Homes, StopsHoming}
use Rattle.dd_back.specs.Steps.{IsPinnedHome, NeedsNone, Pulls}
use Rattle.dd_blocks.specs.declared.plan.Plan.{Plan}
use Rattle.dd_blocks.specs.WellFormed.{IsWellFormed}
use Rattle.dd_core.specs.Lines.{with_line}
use Rattle.dd_holding.proofs.HereLemmas.{sound_now}
use Rattle.dd_machine.specs.declared.copy_state.CopyState.TheVariants.{Lent}
use Rattle.dd_machine.specs.declared.event.Event.TheVariants.{Back, Lend}
use Rattle.dd_machine.specs.Effects.{after, in_state}
use Rattle.dd_machine.specs.Legal.{May}
use Rattle.dd_machine.specs.Needed.{is_needed, needed}
use Rattle.dd_machine.specs.Runs.{state_after}
use Rattle.dd_machine.specs.Sound.{IsSound}
use Rattle.dd_machine.specs.States.{State}
use Rattle.dd_machine.specs.Tests.{is_here, is_in_state, is_out, versions_of}
use Rattle.dd_machine.specs.Words.{IsOneOf, blocks, size, spaces}
use Rattle.dd_machine.proofs.TestsLemmas.{passes_any, same_at, versions_in_state}
use Rattle.dd_store.specs.declared.store.Slot.{Ghosts as SlotGhosts}
use Rattle.dd_store.specs.declared.store.Store.{Ghosts}
use Rattle.dd_table.specs.declared.fault.RunFault.{RunFault}
use Rattle.dd_table.specs.declared.table.Table.{Table}
use Rattle.dd_table.specs.Pulls.{back_of, first_pull, pulled}
use Rattle.dd_table.specs.Tables.{Ends, Stops, line_now, state_now}
use Rattle.dd_back.proofs.EnteredLemmas.{homes_none, homes_plan, homes_run, homes_stop, homes_then, homes_well, keeps_grown, state_grown}
use Rattle.dd_back.proofs.HomingLemmas.{Keeps}
use Rattle.dd_back.proofs.PinnedLemmas.{back_none, back_pinned, lend_pinned, none_kept, pull_may}

-- all that a pull enters brings blocks home
pub pulled_homing : (plan : Plan) (st : State) (block from : ℕ) → AreHoming (pulled plan st block from)
pulled_homing plan st block from = by (ltb 0 (length (needed plan st 0 block from))) (is_in_state is_out (st.copies from block))
  where
    by : (some out : Bool) → AreHoming (cond some (cond out (Lend 0 block from ∷ (back_of plan st block from ∷ [])) (back_of plan st block from ∷ [])) [])
    by true true = refl
    by true false = refl
    by false out = refl

-- where nothing is counted nothing is needed
none_counted : (plan : Plan) (st : State) (block from : ℕ) → length (needed plan st 0 block from) ≤ 0 → NeedsNone plan st block from
none_counted plan st block from none i lt is =
    let has = filter_has (is_needed plan st 0 block from) (range_with_len 0 (size plan block)) i (range_has 0 (size plan block) i (omega arith) (omega (arith, lt))) is in
    let some = has.1 in
    absurd (omega (arith, some, none))

-- after a pull the block is pinned as it was, and needs nothing from the space
record HasPulled (plan : Plan) (new : State) (block from : ℕ) : Type 0 where
  pub pinned : IsPinnedHome plan new block
  pub none : NeedsNone plan new block from

has_back : (plan : Plan) (st : State) (block from count : ℕ) → length (versions_of (st.copies (st.homes block) block)) ≡ size plan block → IsPinnedHome plan st block
    → HasPulled plan (after plan st (Back block from count)) block from
has_back plan st block from count sized p = record { pinned = back_pinned plan st block from count p; none = back_none plan st block from count sized p }

has_pulled : (plan : Plan) (st : State) (line block from : ℕ) → length (versions_of (st.copies (st.homes block) block)) ≡ size plan block → IsPinnedHome plan st block
    → HasPulled plan (state_after plan st (with_line line (pulled plan st block from))) block from
unfolding state_after
has_pulled plan st line block from sized p = by (ltb 0 (length (needed plan st 0 block from))) (is_in_state is_out (st.copies from block)) refl refl
  where
    count : ℕ
    count = length (needed plan st 0 block from)

    by : (some out : Bool) → ltb 0 count ≡ some → is_in_state is_out (st.copies from block) ≡ out
        → HasPulled plan (state_after plan st (with_line line (cond some (cond out (Lend 0 block from ∷ (back_of plan st block from ∷ [])) (back_of plan st block from ∷ [])) []))) block from
    by true true some out =
        let lent = after plan st (Lend 0 block from) in
        has_back plan lent block from count
        (ap length (same_at versions_of st.copies from block (in_state (Lent 0) (st.copies from block)) (versions_in_state (Lent 0) (st.copies from block)) (st.homes block) block) ∙ sized)
        (lend_pinned plan st block from out p)
    by true false some out = has_back plan st block from count sized p
    by false out none is = record { pinned = p; none = none_counted plan st block from (ltb-false 0 count none) }

module _ {D S : Type 0} {g : Ghosts D S} {h : SlotGhosts S} where
  -- the block is pinned still, and needs nothing from the first so many spaces
  pub record Pulling (t u : Table D S g h) (block count : ℕ) : Type 0 where
    pub homes : Homes t u
    pub pinned : IsPinnedHome t.holding.ledger.plan.now (state_now u) block
    pub none : (s : ℕ) → IsOneOf (spaces t.holding.ledger.plan.now) s → s ≤ count → NeedsNone t.holding.ledger.plan.now (state_now u) block s

  pub pulling_first : (t : Table D S g h) (block : ℕ) → t.cause ≡ None → IsPinnedHome t.holding.ledger.plan.now (state_now t) block → Pulling t t block 0
  pulling_first t block none p = record {
    homes = homes_none t none;
    pinned = p;
    none = λ s is le. let some = is.0 in absurd (omega (arith, some, le));
  }

  -- a pull is legal there
  pub pulling_may : (t m : Table D S g h) (block count from : ℕ) → IsWellFormed t.holding.ledger.plan.now → Pulling t m block count
      → 0 < length (needed m.holding.ledger.plan.now (state_now m) 0 block from) → May m.holding.ledger.plan.now (state_now m) (first_pull m.holding.ledger.plan.now (state_now m) block from)
  pulling_may t m block count from well p some =
      let pinned = subst (λ (q : Plan). IsPinnedHome q (state_now m) block) (sym (homes_plan t m p.homes)) p.pinned in
      pull_may m.holding.ledger.plan.now (state_now m) block from (sound_now m.holding.ledger (homes_well t m p.homes well)) (m.settled.idle (homes_run t m p.homes)) pinned some

  pub pulling_next : (t m u : Table D S g h) (block count : ℕ) → IsWellFormed t.holding.ledger.plan.now → IsPinnedHome t.holding.ledger.plan.now (state_now t) block → Pulling t m block count
      → Ends m u (pulled m.holding.ledger.plan.now (state_now m) block (count + 1)) → Pulling t u block (count + 1)
  pulling_next t m u block count well first p q =
      let plan = t.holding.ledger.plan.now in
      let now = m.holding.ledger.plan.now in
      let st = state_now m in
      let same : now ≡ plan = homes_plan t m p.homes in
      let pinned : IsPinnedHome now st block = subst (λ (r : Plan). IsPinnedHome r st block) (sym same) p.pinned in
      let sound : IsSound now st = sound_now m.holding.ledger (homes_well t m p.homes well) in
      let events = pulled now st block (count + 1) in
      let sized = sound.versions.sized (st.homes block) block (passes_any is_here (st.copies (st.homes block) block) pinned.here) in
      let has : HasPulled now (state_now u) block (count + 1) =
      subst (λ (x : State). HasPulled now x block (count + 1)) (sym (state_grown m u (with_line (line_now m) events) q.enters.grows)) (has_pulled now st (line_now m) block (count + 1) sized pinned) in
      let keeps : Keeps now st (state_now u) = keeps_grown m u events pinned.at_end (pulled_homing now st block (count + 1)) q.enters.grows in
      record {
        homes = homes_then t m u events first.at_end p.homes (pulled_homing now st block (count + 1)) q.enters;
        pinned = subst (λ (r : Plan). IsPinnedHome r (state_now u) block) same has.pinned;
        none = λ s is le. ⊎_elim
            (λ (e : s ≡ count + 1). subst (λ (r : Plan). NeedsNone r (state_now u) block s) same (subst (λ (n : ℕ). NeedsNone now (state_now u) block n) (sym e) has.none))
            (λ (apart : s ≡ count + 1 → ⊥).
            none_kept plan st (state_now u) block s (subst (λ (r : Plan). Keeps r st (state_now u)) same keeps) (p.none s is (below s count le apart)))
            (cases_eq s (count + 1));
      }
    where
      below : (s count : ℕ) → s ≤ count + 1 → (s ≡ count + 1 → ⊥) → s ≤ count
      below s count le apart = omega (arith, le, apart)

  pub pulling_stops : (t m u : Table D S g h) (block count from : ℕ) (fault : RunFault) → IsPinnedHome t.holding.ledger.plan.now (state_now t) block → Pulling t m block count
      → Stops m u (pulled m.holding.ledger.plan.now (state_now m) block from) fault → StopsHoming t u fault
  pulling_stops t m u block count from fault first p q =
      homes_stop t m u (pulled m.holding.ledger.plan.now (state_now m) block from) fault first.at_end p.homes (pulled_homing m.holding.ledger.plan.now (state_now m) block from) q

  pub pulling_block : (t m : Table D S g h) (block count : ℕ) → Pulling t m block count → IsOneOf (blocks t.holding.ledger.plan.now) block → IsOneOf (blocks m.holding.ledger.plan.now) block
  pulling_block t m block count p is = subst (λ (q : Plan). IsOneOf (blocks q) block) (sym (homes_plan t m p.homes)) is

  pub pulling_well : (t m : Table D S g h) (block count : ℕ) → Pulling t m block count → IsWellFormed t.holding.ledger.plan.now → IsWellFormed m.holding.ledger.plan.now
  pulling_well t m block count p well = homes_well t m p.homes well

  pub pulling_end : (t m : Table D S g h) (block count : ℕ) → Pulling t m block count → spaces t.holding.ledger.plan.now ≤ count → Pulls t m block
  pulling_end t m block count p all = record {
    homes = p.homes;
    pinned = p.pinned;
    none = λ s is. let le = is.1 in p.none s is (omega (arith, le, all));
  }
