-- The frees of an array's blocks, one after another: those that are left have their home copies still.
use Rattle.std.proofs.Common.{◌≡◌, ℕ, ◌+◌, ◌-◌, ◌<◌, ◌≤◌, List, [], ◌∷◌, None, refl, ap, sym, ◌∙◌, subst, arith}
use Rattle.std.specs.List.{flat_map, range_with_len}
use Rattle.dd_blocks.specs.declared.plan.Plan.{Plan}
use Rattle.dd_blocks.specs.Grids.{block_count}
use Rattle.dd_blocks.specs.Numbered.{array_row}
use Rattle.dd_blocks.specs.WellFormed.{IsWellFormed}
use Rattle.dd_core.specs.Due.{AreDue}
use Rattle.dd_core.specs.Lines.{with_line}
use Rattle.dd_holding.proofs.HereLemmas.{sound_now}
use Rattle.dd_machine.specs.declared.event.Event.{Event}
use Rattle.dd_machine.specs.declared.event.Event.TheVariants.{Free}
use Rattle.dd_machine.specs.Effects.{after}
use Rattle.dd_machine.specs.Legal.{May}
use Rattle.dd_machine.specs.Sound.{IsSound}
use Rattle.dd_machine.specs.States.{State}
use Rattle.dd_machine.specs.Tests.{Has, is_any, is_in_state}
use Rattle.dd_machine.proofs.ChangesLemmas.{at_copy_other}
use Rattle.dd_move.specs.Names.{free_events}
use Rattle.dd_spans.proofs.RunLemmas.{range_contains}
use Rattle.dd_statements.specs.Follows.{Follows, IsBetween, IsThere}
use Rattle.dd_statements.proofs.AddsLemmas.{enters_follows, grows_none, grows_then}
use Rattle.dd_statements.proofs.LoopLemmas.{IsAtBlock, between, between_more, between_none, block_first, block_more, block_next}
use Rattle.dd_statements.proofs.MayLemmas.{free_legal}
use Rattle.dd_statements.proofs.WithinLemmas.{plan_kept, within_due, within_line}
use Rattle.dd_store.specs.declared.store.Slot.{Ghosts as SlotGhosts}
use Rattle.dd_store.specs.declared.store.Store.{Ghosts}
use Rattle.dd_table.specs.declared.table.Table.{Table}
use Rattle.dd_table.specs.Tables.{Enters, GrowsBy, line_now, state_now}
use Rattle.dd_table.proofs.AskedLemmas.{state_one}

-- what one block asks for
abbrev pub freed : (ℕ → ℕ) → ℕ → List Event
freed homes block = Free (homes block) block ∷ []

pub frees_are : (plan : Plan) (st : State) (array end : ℕ) → end ≡ (array_row plan array).first_block + block_count (array_row plan array).grid
    → free_events plan st array ≡ between (freed st.homes) (array_row plan array).first_block end
frees_are plan st array end is =
    ap (λ (n : ℕ). flat_map (freed st.homes) (range_with_len (array_row plan array).first_block n))
    (let e : block_count (array_row plan array).grid ≡ end - (array_row plan array).first_block = omega (arith, is) in e)

-- the blocks of an array that is there
pub there_of : (plan : Plan) (st : State) (array end c : ℕ) → end ≡ (array_row plan array).first_block + block_count (array_row plan array).grid → IsThere plan st array
    → (array_row plan array).first_block ≤ c → c < end → Has st (st.homes c) c is_any
there_of plan st array end c is there low high = there c (range_contains (array_row plan array).first_block (block_count (array_row plan array).grid) c low (omega (arith, high, is)))

module _ {D S : Type 0} {g : Ghosts D S} {h : SlotGhosts S} where
  -- the blocks below this one were freed, and nothing else was entered; those from here on are there
  pub record Frees (t m : Table D S g h) (first end b : ℕ) : Type 0 where
    pub at : IsAtBlock t m (freed (state_now t).homes) first end b
    pub grows : GrowsBy t m (with_line (line_now t) (between (freed (state_now t).homes) first b))
    pub homes : (state_now m).homes ≡ (state_now t).homes
    pub there : (c : ℕ) → b ≤ c → c < end → Has (state_now m) ((state_now t).homes c) c is_any

  pub frees_first : (t : Table D S g h) (first end : ℕ) → IsBetween t → AreDue t.holding.ledger.plan.now (state_now t) (between (freed (state_now t).homes) first end)
      → ((c : ℕ) → first ≤ c → c < end → Has (state_now t) ((state_now t).homes c) c is_any) → Frees t t first end first
  frees_first t first end b due there = record {
    at = block_first t (freed (state_now t).homes) first end b due;
    grows = subst (λ (l : List Event). GrowsBy t t (with_line (line_now t) l)) (sym (between_none (freed (state_now t).homes) first)) (grows_none t);
    homes = refl;
    there = there;
  }

  -- the free of the next block is legal
  pub free_may : (t m : Table D S g h) (first end b : ℕ) → IsWellFormed t.holding.ledger.plan.now → b < end → Frees t m first end b → May m.holding.ledger.plan.now (state_now m) (Free ((state_now m).homes b) b)
  free_may t m first end b well lt fs = subst (λ (p : Plan). May p (state_now m) (Free ((state_now m).homes b) b)) (sym (plan_kept t m (line_now t) (between (freed (state_now t).homes) first b) fs.at.within.follows.adds))
      (free_legal plan (state_now m) b [] sound fs.at.within.between.region fs.at.within.between.pin any due)
    where
      plan : Plan
      plan = t.holding.ledger.plan.now

      home : (state_now m).homes b ≡ (state_now t).homes b
      home = ap (λ (f : ℕ → ℕ). f b) fs.homes

      sound : IsSound plan (state_now m)
      sound = subst (λ (p : Plan). IsSound p (state_now m)) (plan_kept t m (line_now t) (between (freed (state_now t).homes) first b) fs.at.within.follows.adds)
          (sound_now m.holding.ledger (subst IsWellFormed (sym (plan_kept t m (line_now t) (between (freed (state_now t).homes) first b) fs.at.within.follows.adds)) well))

      any : Has (state_now m) ((state_now m).homes b) b is_any
      any = subst (λ (s : ℕ). Has (state_now m) s b is_any) (sym home) (fs.there b (omega arith) lt)

      due : AreDue plan (state_now m) (Free ((state_now m).homes b) b ∷ [])
      due = subst (λ (s : ℕ). AreDue plan (state_now m) (Free s b ∷ [])) (sym home)
          (within_due t m (line_now t) (between (freed (state_now t).homes) first b) (freed (state_now t).homes b) (between (freed (state_now t).homes) (b + 1) end) (block_next t m (freed (state_now t).homes) first end b lt fs.at))

  -- with it one more was freed
  pub frees_more : (t m u : Table D S g h) (first end b : ℕ) → b < end → Frees t m first end b → Enters m u (Free ((state_now m).homes b) b ∷ []) → Frees t u first end (b + 1)
  frees_more t m u first end b lt fs p = record {
    at = block_more t m u f first end b lt fs.at follows refl;
    grows = subst (λ (l : List Event). GrowsBy t u (with_line (line_now t) l)) (sym (between_more f first b fs.at.from)) (grows_then t m u (line_now t) (between f first b) (f b) fs.grows exact);
    homes = ap (λ (st : State). st.homes) now ∙ fs.homes;
    there = λ c low high. ap (λ (st : State). is_in_state is_any (st.copies ((state_now t).homes c) c)) now
        ∙ ap (is_in_state is_any) (at_copy_other (state_now m).copies ((state_now m).homes b) b None ((state_now t).homes c) c (λ _ same. absurd (omega (arith, low, same))))
        ∙ fs.there c (omega (arith, low)) high;
  }
    where
      f : ℕ → List Event
      f = freed (state_now t).homes

      now : state_now u ≡ after m.holding.ledger.plan.now (state_now m) (Free ((state_now m).homes b) b)
      now = state_one m u (Free ((state_now m).homes b) b) p

      line : line_now m ≡ line_now t
      line = within_line t m (line_now t) (between f first b) (Free ((state_now t).homes b) b) (between f (b + 1) end) (block_next t m f first end b lt fs.at)

      same : Enters m u (f b)
      same = subst (λ (s : ℕ). Enters m u (Free s b ∷ [])) (ap (λ (k : ℕ → ℕ). k b) fs.homes) p

      exact : GrowsBy m u (with_line (line_now t) (f b))
      exact = subst (λ (l : ℕ). GrowsBy m u (with_line l (f b))) line same.grows

      follows : Follows m u (line_now t) (f b)
      follows = enters_follows m u (line_now t) (f b) fs.at.within.between.cause line refl same

  pub frees_last : (t m : Table D S g h) (first end b : ℕ) → b ≡ end → t.cause ≡ None → Frees t m first end b → Enters t m (between (freed (state_now t).homes) first end)
  frees_last t m first end b is none fs = record {
    grows = subst (λ (n : ℕ). GrowsBy t m (with_line (line_now t) (between (freed (state_now t).homes) first n))) is fs.grows;
    cause = fs.at.within.between.cause ∙ sym none;
  }
