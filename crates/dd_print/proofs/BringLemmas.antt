-- A block that is brought to its home, and given up again.
use Rattle.std.proofs.Common.{◌≡◌, ℕ, ℤ, Bool, true, false, ◌||◌, List, [], ◌∷◌, length, map, take, Option, Some, None, refl, ap, sym, ◌∙◌, subst}
use Rattle.std.specs.Prelude.{IsSomeAnd, not}
use Rattle.std.specs.List.{range_with_len}
use Rattle.std.proofs.lemmas.List.Folds.{list_any-append}
use Rattle.dd_blocks.specs.declared.plan.Plan.{Plan}
use Rattle.dd_blocks.specs.Elements.{Element}
use Rattle.dd_blocks.specs.PlanElements.{element_of}
use Rattle.dd_blocks.specs.WellFormed.{IsWellFormed}
use Rattle.dd_core.specs.Cores.{core_state}
use Rattle.dd_core.specs.Due.{AreDue}
use Rattle.dd_core.specs.Lines.{with_line}
use Rattle.dd_holding.proofs.HereLemmas.{place_there, sound_now}
use Rattle.dd_machine.specs.declared.entry.Entry.{Entry}
use Rattle.dd_machine.specs.declared.event.Event.{Event}
use Rattle.dd_machine.specs.declared.event.Event.TheVariants.{Ask, Rest}
use Rattle.dd_machine.specs.Legal.{MayAsk, MayRest}
use Rattle.dd_machine.specs.Owed.{left}
use Rattle.dd_machine.specs.Runs.{has_pick, is_pick}
use Rattle.dd_machine.specs.Tests.{Has, is_any, is_here}
use Rattle.dd_machine.specs.Words.{IsOneOf, blocks, size}
use Rattle.dd_meaning.specs.Values.{value_at}
use Rattle.dd_pool.specs.Places.{IsPlace}
use Rattle.dd_pool.specs.Pools.{copy_at}
use Rattle.dd_print.specs.Asks.{bring_one}
use Rattle.dd_print.specs.Causes.{of_run}
use Rattle.dd_print.specs.declared.fault.PrintFault.{PrintFault}
use Rattle.dd_print.specs.declared.fault.PrintFault.TheVariants.{DiskFault}
use Rattle.dd_print.specs.Gives.{Breaks}
use Rattle.dd_print.specs.Held.{IsTelling, block_values}
use Rattle.dd_print.proofs.BreaksLemmas.{breaks_here, breaks_stop, breaks_within}
use Rattle.dd_print.proofs.HeldLemmas.{held_full, held_values}
use Rattle.dd_stamps.specs.declared.stamped.Stamped.{Stamped}
use Rattle.dd_statements.specs.Follows.{Adds, Follows, IsBetween, StopsIn}
use Rattle.dd_statements.proofs.AddsLemmas.{due_now, enters_follows, follows_then}
use Rattle.dd_statements.proofs.MayLemmas.{home_legal, rest_legal}
use Rattle.dd_statements.proofs.StateLemmas.{Changes}
use Rattle.dd_statements.proofs.WithinLemmas.{changed, left_kept, plan_kept}
use Rattle.dd_store.specs.declared.store.Slot.{Ghosts as SlotGhosts}
use Rattle.dd_store.specs.declared.store.Store.{Ghosts}
use Rattle.dd_tables.specs.declared.tables.Tables.{Tables}
use Rattle.dd_table.specs.declared.fault.RunFault.{RunFault}
use Rattle.dd_table.specs.declared.table.Table.{Table}
use Rattle.dd_table.specs.Tables.{Enters, line_now, state_now}

less : (tells a b : Bool) → (tells || not (a || b)) ≡ true → (tells || not a) ≡ true
less true a b is = refl
less false true b is = cc
less false false b is = refl

-- the second of two entries
second_due : (rest : List Entry) (line : ℕ) (x y : Event) → take 2 (record { line = line; event = x } ∷ rest) ≡ record { line = line; event = x } ∷ (record { line = line; event = y } ∷ [])
    → take 1 rest ≡ record { line = line; event = y } ∷ []
second_due [] line x y is = cc
second_due (e ∷ es) line x y is = cc

some_and : {A : Type 0} (P : A → Type 0) (o : Option A) → IsSomeAnd o P → (x : A) × (o ≡ Some x) × P x
some_and P None is = absurd is
some_and P (Some x) is = (x, refl, is)

module _ {D S : Type 0} {g : Ghosts D S} {h : SlotGhosts S} where
  -- slots that tell, or a run without spills: so it was before
  pub telling_back : (t u : Table D S g h) (line : ℕ) (events : List Event) → Adds t u line events → IsTelling u → IsTelling t
  unfolding has_pick
  telling_back t u line events p is =
      let xs = t.holding.ledger.journal.items in
      let ys = with_line line p.added in
      less (SlotGhosts.tells h) (has_pick xs) (has_pick ys)
      (ap (λ (b : Bool). SlotGhosts.tells h || not b) (sym (ap has_pick p.grows.holds.grows.journal ∙ list_any-append (λ (e : Entry). is_pick e.event) xs ys)) ∙ is)

  -- the current values stay
  pub block_kept : (t u : Table D S g h) (line : ℕ) (events : List Event) (block : ℕ) → Adds t u line events
      → block_values u.holding.ledger.plan.now (state_now u) block ≡ block_values t.holding.ledger.plan.now (state_now t) block
  block_kept t u line events block p =
      ap (λ (q : Plan). block_values q (state_now u) block) (plan_kept t u line events p)
      ∙ ap (λ (f : Element → ℕ). map (λ i. value_at t.holding.ledger.plan.now (f (element_of t.holding.ledger.plan.now block i)) (element_of t.holding.ledger.plan.now block i)) (range_with_len 0 (size t.holding.ledger.plan.now block)))
      (changed t u line events p).current

  -- where a block has its home
  pub home_is : (t : Table D S g h) (core : Tables) (space block : ℕ) → ((plan : Plan) → space ≡ (core_state plan core).homes block) → core ≡ t.holding.ledger.core → space ≡ (state_now t).homes block
  home_is t core space block is same = is t.holding.ledger.plan.now ∙ ap (λ (k : Tables). (core_state t.holding.ledger.plan.now k).homes block) same

  -- a block may be brought
  pub bring_may : (t : Table D S g h) (space block : ℕ) → IsWellFormed t.holding.ledger.plan.now → IsBetween t → IsOneOf (blocks t.holding.ledger.plan.now) block
      → AreDue t.holding.ledger.plan.now (state_now t) (bring_one (state_now t) block) → space ≡ (state_now t).homes block → MayAsk t.holding.ledger.plan.now (state_now t) space block
  bring_may t space block well b is due home =
      subst (λ (s : ℕ). MayAsk t.holding.ledger.plan.now (state_now t) s block) (sym home)
      (home_legal t.holding.ledger.plan.now (state_now t) block (Rest ∷ []) (sound_now t.holding.ledger well) b.region b.pin is due)

  -- it was
  pub record IsBrought (t m : Table D S g h) (space block : ℕ) : Type 0 where
    pub well : IsWellFormed t.holding.ledger.plan.now
    pub between : IsBetween t
    pub home : space ≡ (state_now t).homes block
    pub due : AreDue t.holding.ledger.plan.now (state_now t) (bring_one (state_now t) block)
    pub follows : Follows t m (line_now t) (Ask space block ∷ [])
    pub here : Has (state_now m) space block is_here

  pub is_brought : (t m : Table D S g h) (space block : ℕ) → IsWellFormed t.holding.ledger.plan.now → IsBetween t → space ≡ (state_now t).homes block
      → AreDue t.holding.ledger.plan.now (state_now t) (bring_one (state_now t) block) → Has (state_now t) ((state_now t).homes block) block is_any
      → Follows t m (line_now t) (Ask space block ∷ []) → (Has (state_now t) space block is_any → Has (state_now m) space block is_here) → IsBrought t m space block
  is_brought t m space block well between home due there follows here = record {
    well = well;
    between = between;
    home = home;
    due = due;
    follows = follows;
    here = here (subst (λ (s : ℕ). Has (state_now t) s block is_any) (sym home) there);
  }

  module _ (t m : Table D S g h) (space block : ℕ) (b : IsBrought t m space block) where
    plan_is : m.holding.ledger.plan.now ≡ t.holding.ledger.plan.now
    plan_is = plan_kept t m (line_now t) (Ask space block ∷ []) b.follows.adds

    change : Changes (state_now t) (state_now m) (Ask space block ∷ [])
    change = changed t m (line_now t) (Ask space block ∷ []) b.follows.adds

    asked : bring_one (state_now t) block ≡ Ask space block ∷ (Rest ∷ [])
    asked = ap (λ (s : ℕ). Ask s block ∷ (Rest ∷ [])) (sym b.home)

    line_is : line_now t ≡ b.due.line
    line_is = due_now t (Ask ((state_now t).homes block) block) (Rest ∷ []) b.due

    -- the Rest is due
    rest_are : take 1 (left m.holding.ledger.plan.now (state_now m).progress) ≡ with_line (line_now t) (Rest ∷ [])
    rest_are =
        ap (λ (p : Plan). take 1 (left p (state_now m).progress)) plan_is
        ∙ second_due (left t.holding.ledger.plan.now (state_now m).progress) (line_now t) (Ask space block) Rest
        (ap (take 2) (sym (left_kept t m (line_now t) (Ask space block ∷ []) b.between.region b.follows.adds))
        ∙ b.due.are ∙ ap (λ (l : ℕ). with_line l (bring_one (state_now t) block)) (sym line_is) ∙ ap (with_line (line_now t)) asked)

    rest_due : AreDue m.holding.ledger.plan.now (state_now m) (Rest ∷ [])
    rest_due = record { line = line_now t; are = rest_are }

    well_now : IsWellFormed m.holding.ledger.plan.now
    well_now = subst IsWellFormed (sym plan_is) b.well

    pub region_now : (state_now m).region ≡ None
    region_now = change.region ∙ b.between.region

    pub place_now : IsPlace m.holding.ledger.plan.now space block
    place_now = place_there m.holding.ledger is_here space block b.here

    pub rest_may : MayRest m.holding.ledger.plan.now (state_now m)
    rest_may = rest_legal m.holding.ledger.plan.now (state_now m) space block [] region_now (change.pin) b.here (m.settled.idle b.follows.cause) rest_due

    -- and given up
    rested : (u : Table D S g h) → Enters m u (Rest ∷ []) → Follows m u (line_now t) (Rest ∷ [])
    unfolding rest_due
    rested u e = enters_follows m u (line_now t) (Rest ∷ []) b.follows.cause (due_now m Rest [] rest_due) refl e

    pub brought : (u : Table D S g h) → Enters m u (Rest ∷ []) → Follows t u (line_now t) (bring_one (state_now t) block)
    brought u e = subst (Follows t u (line_now t)) (sym asked) (follows_then t m u (line_now t) (Ask space block ∷ []) (Rest ∷ []) b.follows (rested u e))

    pub telling_then : (u : Table D S g h) → Enters m u (Rest ∷ []) → IsTelling u → IsTelling m
    telling_then u e = telling_back m u (line_now t) (Rest ∷ []) (rested u e).adds

    -- what is handed out of it
    pub told_values : (items : List ℤ) → IsSomeAnd (copy_at m.holding.pool space block) (λ (c : Stamped). items ≡ c.values.items) → IsTelling m → items ≡ block_values t.holding.ledger.plan.now (state_now t) block
    told_values items there telling =
        let c = some_and (λ (c : Stamped). items ≡ c.values.items) (copy_at m.holding.pool space block) there in
        c.2 ∙ held_values m space block c.0 well_now region_now b.here c.1 telling ∙ block_kept t m (line_now t) (Ask space block ∷ []) block b.follows.adds

    pub all_values : (items : List ℤ) → IsSomeAnd (copy_at m.holding.pool space block) (λ (c : Stamped). items ≡ c.values.items) → length items ≡ size t.holding.ledger.plan.now block
    all_values items there =
        let c = some_and (λ (c : Stamped). items ≡ c.values.items) (copy_at m.holding.pool space block) there in
        ap length c.2 ∙ held_full m space block c.0 b.here c.1 ∙ ap (λ (p : Plan). size p block) plan_is

    -- something else failed meanwhile
    pub brought_half : (fault : PrintFault) → (fault ≡ DiskFault → ⊥) → Breaks t m (line_now t) (bring_one (state_now t) block) fault
    brought_half fault other = subst (λ (l : List Event). Breaks t m (line_now t) l fault) (sym asked) (breaks_here t m (line_now t) (Ask space block ∷ []) (Rest ∷ []) fault b.follows other)

  -- the run stopped at the Ask
  pub bring_breaks : (t m : Table D S g h) (space block : ℕ) (fault : RunFault) → space ≡ (state_now t).homes block → StopsIn t m (line_now t) (Ask space block ∷ []) fault
      → Breaks t m (line_now t) (bring_one (state_now t) block) (of_run fault)
  bring_breaks t m space block fault home p =
      subst (λ (s : ℕ). Breaks t m (line_now t) (Ask s block ∷ (Rest ∷ [])) (of_run fault)) home
      (breaks_within t m (line_now t) (Ask space block ∷ []) (Rest ∷ []) (of_run fault) (breaks_stop t m (line_now t) (Ask space block ∷ []) fault p))
