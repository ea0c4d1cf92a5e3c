-- The region that is ended, once all copies stand at home and are current.
use Rattle.std.proofs.Common.{◌≡◌, ◌&&◌, ℕ, Bool, true, false, [], ◌∷◌, ◌++◌, Some, None, ap, sym, ◌∙◌, subst, ⊎_elim}
use Rattle.std.specs.Prelude.{not}
use Rattle.std.proofs.lemmas.Bool.{cases_eq, ne_eqb}
use Rattle.dd_back.specs.Backs.{AllCurrent, WritesBack, freed_elsewhere, is_elsewhere}
use Rattle.dd_back.specs.Steps.{AllComeHome, FreesAll, IsAtEnd}
use Rattle.dd_blocks.specs.declared.plan.Plan.{Plan}
use Rattle.dd_blocks.specs.WellFormed.{IsWellFormed}
use Rattle.dd_core.specs.Lines.{with_line}
use Rattle.dd_holding.proofs.HereLemmas.{sound_now}
use Rattle.dd_machine.specs.declared.event.Event.TheVariants.{Close}
use Rattle.dd_machine.specs.Effects.{after}
use Rattle.dd_machine.specs.Legal.{May}
use Rattle.dd_machine.specs.Owed.{one_more}
use Rattle.dd_machine.specs.Runs.{state_after}
use Rattle.dd_machine.specs.States.{State}
use Rattle.dd_machine.specs.Tests.{Has, is_any, is_in_state}
use Rattle.dd_machine.specs.Words.{IsOneOf, blocks, spaces}
use Rattle.dd_store.specs.declared.store.Slot.{Ghosts as SlotGhosts}
use Rattle.dd_store.specs.declared.store.Store.{Ghosts}
use Rattle.dd_table.specs.declared.table.Table.{Table}
use Rattle.dd_table.specs.Tables.{Ends, Enters, line_now, state_now}
use Rattle.dd_table.proofs.AskedLemmas.{state_one}
use Rattle.dd_table.proofs.GivesLemmas.{ends_then}
use Rattle.dd_back.proofs.EndLemmas.{close_may, end_kept}
use Rattle.dd_back.proofs.EnteredLemmas.{homes_keep, homes_plan, homes_well, line_same, plan_grown, state_grown, well_grown}
use Rattle.dd_back.proofs.FreeingLemmas.{current_now, end_now, enters_then}

-- a copy that doesn't stand elsewhere stands at home
home_of : (st : State) (s b : ℕ) → is_elsewhere st b s ≡ false → Has st s b is_any → st.homes b ≡ s
home_of st s b off any = ⊎_elim
    (λ (same : st.homes b ≡ s). same)
    (λ (apart : st.homes b ≡ s → ⊥). absurd (
    let on : is_elsewhere st b s ≡ true = ap (λ (x : Bool). not x && is_in_state is_any (st.copies s b)) (ne_eqb (st.homes b) s apart) ∙ any in
    let h : true ≡ false = sym on ∙ off in cc))
    (cases_eq (st.homes b) s)

module _ {D S : Type 0} {g : Ghosts D S} {h : SlotGhosts S} where
  -- what the frees find
  pub home_end : (t m : Table D S g h) → IsAtEnd t.holding.ledger.plan.now (state_now t) → AllComeHome t m → IsAtEnd m.holding.ledger.plan.now (state_now m)
  home_end t m e p =
      subst (λ (q : Plan). IsAtEnd q (state_now m)) (sym (homes_plan t m p.homes)) (end_kept t.holding.ledger.plan.now (state_now t) (state_now m) (homes_keep t m e p.homes) e)

  pub home_current : (t m : Table D S g h) → AllComeHome t m → AllCurrent m.holding.ledger.plan.now (state_now m)
  home_current t m p = subst (λ (q : Plan). AllCurrent q (state_now m)) (sym (homes_plan t m p.homes)) p.current

  -- what the end of the region finds
  pub freed_end : (t m u : Table D S g h) → IsAtEnd t.holding.ledger.plan.now (state_now t) → AllComeHome t m → FreesAll m u → IsAtEnd u.holding.ledger.plan.now (state_now u)
  freed_end t m u e p q = end_now m u (freed_elsewhere m.holding.ledger.plan.now (state_now m)) (home_end t m e p) q.enters q.frees

  freed_region : (t m u : Table D S g h) (region : ℕ) → IsAtEnd t.holding.ledger.plan.now (state_now t) → AllComeHome t m → FreesAll m u → (state_now t).region ≡ Some region
      → (state_now u).region ≡ Some region
  freed_region t m u region e p q is = q.frees.region ∙ (homes_keep t m e p.homes).region ∙ is

  -- each copy stands at home then
  freed_home : (m u : Table D S g h) → IsWellFormed m.holding.ledger.plan.now → FreesAll m u → (s b : ℕ) → Has (state_now u) s b is_any → (state_now u).homes b ≡ s
  freed_home m u well p s b any =
      let sound = sound_now u.holding.ledger (well_grown m u _ p.enters.grows well) in
      let known = sound.progress.copy_known s b any in
      let same = plan_grown m u _ p.enters.grows in
      home_of (state_now u) s b
      (p.none s b (subst (λ (q : Plan). IsOneOf (spaces q) s) same known.0) (subst (λ (q : Plan). IsOneOf (blocks q) b) same known.1)) any

  pub freed_close : (m u : Table D S g h) (region : ℕ) → IsWellFormed m.holding.ledger.plan.now → IsAtEnd m.holding.ledger.plan.now (state_now m) → AllCurrent m.holding.ledger.plan.now (state_now m)
      → (state_now m).pin ≡ None → m.cause ≡ None → FreesAll m u → (state_now u).region ≡ Some region → May u.holding.ledger.plan.now (state_now u) (Close region)
  freed_close m u region well e current no_pin none p open_is =
      close_may u.holding.ledger.plan.now (state_now u) region (sound_now u.holding.ledger (well_grown m u _ p.enters.grows well)) (end_now m u _ e p.enters p.frees) (p.frees.pin ∙ no_pin)
      (u.settled.idle (p.enters.cause ∙ none)) (current_now m u _ current p.enters p.frees) (freed_home m u well p) open_is

  -- what the end of the region enters
  abbrev pub Closes : Table D S g h → Table D S g h → Type 0
  Closes u v = (region : ℕ) → (state_now u).region ≡ Some region → Enters u v (Close region ∷ [])

  -- the whole write-back
  pub closed : (t m u v : Table D S g h) → IsAtEnd t.holding.ledger.plan.now (state_now t) → AllComeHome t m → FreesAll m u → Closes u v → (region : ℕ) → (state_now t).region ≡ Some region → WritesBack t v region
  closed t m u v e p q closes region open_is =
      let r = closes region (freed_region t m u region e p q open_is) in
      let plan = t.holding.ledger.plan.now in
      let mid = state_now m in
      let home = p.homes.events in
      let keeps = homes_keep t m e p.homes in
      let same = homes_plan t m p.homes in
      let is : mid ≡ state_after plan (state_now t) (with_line (line_now t) home) = state_grown t m (with_line (line_now t) home) p.homes.ends.enters.grows in
      let rest : Enters m v (freed_elsewhere plan mid ++ (Close region ∷ [])) =
      subst (λ (x : Plan). Enters m v (freed_elsewhere x mid ++ (Close region ∷ []))) same (enters_then m u v (freed_elsewhere m.holding.ledger.plan.now mid) (Close region ∷ []) q.enters (line_same m u _ q.enters.grows q.frees.progress) r) in
      let ends : Ends t v (home ++ (freed_elsewhere plan mid ++ (Close region ∷ []))) =
      ends_then t m v home (freed_elsewhere plan mid ++ (Close region ∷ [])) p.homes.ends (line_same t m _ p.homes.ends.enters.grows keeps.progress) rest in
      record {
        home = home;
        homing = p.homes.homing;
        current = subst (AllCurrent plan) is p.current;
        ends = subst (λ (x : State). Ends t v (home ++ (freed_elsewhere plan x ++ (Close region ∷ [])))) is ends;
      }

  -- what the caller goes on from
  pub record HasClosed (t v : Table D S g h) : Type 0 where
    pub closed : (state_now v).region ≡ None
    pub unpinned : (state_now v).pin ≡ None
    pub progress : (state_now v).progress ≡ one_more t.holding.ledger.plan.now (state_now t).progress
    pub tasks : (state_now v).tasks ≡ (state_now t).tasks
    pub homes : (state_now v).homes ≡ (state_now t).homes
    pub at_home : (s b : ℕ) → Has (state_now v) s b is_any → (state_now v).homes b ≡ s

  pub has_closed : (t m u v : Table D S g h) → IsWellFormed t.holding.ledger.plan.now → IsAtEnd t.holding.ledger.plan.now (state_now t) → AllComeHome t m → FreesAll m u → Closes u v → HasClosed t v
  has_closed t m u v well e p q closes =
      let region = e.region in
      let r = closes region (freed_region t m u region e p q e.open_is) in
      let plan = t.holding.ledger.plan.now in
      let keeps = homes_keep t m e p.homes in
      let same : u.holding.ledger.plan.now ≡ plan = plan_grown m u _ q.enters.grows ∙ homes_plan t m p.homes in
      let is : state_now v ≡ after plan (state_now u) (Close region) = subst (λ (x : Plan). state_now v ≡ after x (state_now u) (Close region)) same (state_one u v (Close region) r) in
      record {
        closed = ap (λ (x : State). x.region) is;
        unpinned = ap (λ (x : State). x.pin) is ∙ q.frees.pin ∙ p.unpinned;
        progress = ap (λ (x : State). x.progress) is ∙ ap (one_more plan) (q.frees.progress ∙ keeps.progress);
        tasks = ap (λ (x : State). x.tasks) is ∙ q.frees.tasks ∙ keeps.tasks;
        homes = ap (λ (x : State). x.homes) is ∙ q.frees.homes ∙ keeps.homes;
        at_home = subst (λ (x : State). (s b : ℕ) → Has x s b is_any → x.homes b ≡ s) (sym is) (freed_home m u (homes_well t m p.homes well) q);
      }
