-- A table of which only the names of arrays changed, and the names that a row leaves.
use Rattle.std.proofs.Common.{◌≡◌, ℕ, suc, ◌+◌, ◌-◌, ◌<◌, ◌≤◌, ◌^◌, Bool, true, false, cond, eqb, List, [], ◌∷◌, Bor, None, Ok, Err, refl, ap, sym, ◌∙◌, subst, append-nil, arith}
use Rattle.std.proofs.lemmas.Bool.{eq-eqb, eqb-true, ne_eqb}
use Rattle.std.specs.List.{filter, flat_map, fold}
use Rattle.std.proofs.lemmas.List.Elements.{All-nil}
use Rattle.dd_blocks.specs.declared.plan.Plan.{Plan}
use Rattle.dd_blocks.specs.declared.what.What.{What}
use Rattle.dd_blocks.specs.declared.what.What.TheVariants.{Drop, Moved, Put, Same}
use Rattle.dd_blocks.specs.Lives.{ends_name, gives_name}
use Rattle.dd_blocks.specs.Numbered.{IsNumberIn}
use Rattle.dd_blocks.specs.WellFormed.{IsWellFormed}
use Rattle.dd_core.specs.Due.{AreDue}
use Rattle.dd_core.specs.Lines.{with_line}
use Rattle.dd_ledger.specs.Ledgers as ledgers
use Rattle.dd_machine.specs.declared.entry.Entry.{Entry}
use Rattle.dd_machine.specs.declared.event.Event.{Event}
use Rattle.dd_machine.specs.declared.event.Event.TheVariants.{Claim, Free}
use Rattle.dd_machine.specs.Made.{pin_after}
use Rattle.dd_machine.specs.Owed.{blocks_of}
use Rattle.dd_machine.specs.Runs.{state_of_run}
use Rattle.dd_machine.specs.Words.{rows}
use Rattle.dd_move.specs.Names.{Drops, free_events}
use Rattle.dd_print.specs.declared.fault.PrintFault.TheVariants.{WriteFault}
use Rattle.dd_pool.specs.Pools.{HasNames, names_of}
use Rattle.dd_run.specs.Gives.{EntersRow, RowGives}
use Rattle.dd_run.specs.Rows.{IsAtRow}
use Rattle.dd_run.proofs.AtLemmas.{due_at, plan_of}
use Rattle.dd_run.proofs.NextLemmas.{lines_due, next_state, ordered_claims, pins_flat, row_line}
use Rattle.dd_run.proofs.RowsLemmas.{last_name}
use Rattle.dd_statements.specs.Follows.{AreOrdered, is_owed}
use Rattle.dd_store.specs.declared.store.Slot.{Ghosts as SlotGhosts}
use Rattle.dd_store.specs.declared.store.Store.{Ghosts}
use Rattle.dd_table.specs.declared.table.Table.{Table}
use Rattle.dd_table.specs.Tables.{Renames, line_now, state_now}
use Rattle.laws_of_rows.specs.Rows as rows_at
use Rattle.laws_of_rows.specs.Rows.{events_now, names_at, next_what}
use Rattle.laws_of_rows.proofs.NamesLemmas.{names_end, names_few, names_give, names_some, names_stay}

-- ---- names by a row's statement

one_more : (n : ℕ) → n + 1 ≡ suc n
one_more n = omega arith

-- it neither gives nor ends one
pub names_kept : (plan : Plan) (i : ℕ) (what : What) → IsWellFormed plan → i < rows plan → next_what plan i ≡ what → ((b : ℕ) → gives_name b what ≡ false) → ((b : ℕ) → ends_name b what ≡ false)
    → (b : ℕ) → names_at plan (suc i) b ≡ names_at plan i b
names_kept plan i what well lt is gives ends b = names_stay plan i b lt (ap (gives_name b) is ∙ gives b) (ap (ends_name b) is ∙ ends b)

-- a name is given: by a Put or a Same
pub record GivesName (what : What) (array : ℕ) : Type 0 where
  pub here : gives_name array what ≡ true
  pub others : (b : ℕ) → (b ≡ array → ⊥) → gives_name b what ≡ false
  pub none : (b : ℕ) → ends_name b what ≡ false

pub put_gives : (array : ℕ) → GivesName (Put array) array
put_gives array = record { here = eq-eqb array array refl; others = λ b else. ne_eqb array b (λ same. else (sym same)); none = λ b. refl }

pub same_gives : (array : ℕ) → GivesName (Same array) array
same_gives array = record { here = eq-eqb array array refl; others = λ b else. ne_eqb array b (λ same. else (sym same)); none = λ b. refl }

-- frees are what a statement asks for
frees_ordered : (homes : ℕ → ℕ) (bs : List ℕ) → AreOrdered (flat_map (λ b. Free (homes b) b ∷ []) bs)
frees_ordered homes [] = refl
frees_ordered homes (b ∷ bs) = frees_ordered homes bs

frees_owed : (homes : ℕ → ℕ) (bs : List ℕ) → filter is_owed (flat_map (λ b. Free (homes b) b ∷ []) bs) ≡ flat_map (λ b. Free (homes b) b ∷ []) bs
frees_owed homes [] = refl
frees_owed homes (b ∷ bs) = ap (λ (l : List Event). Free (homes b) b ∷ l) (frees_owed homes bs)

drop_ordered : (homes : ℕ → ℕ) (bs : List ℕ) (last : Bool) → AreOrdered (cond last (flat_map (λ b. Free (homes b) b ∷ []) bs) [])
drop_ordered homes bs true = frees_ordered homes bs
drop_ordered homes bs false = refl

drop_owed : (homes : ℕ → ℕ) (bs : List ℕ) (last : Bool) → filter is_owed (cond last (flat_map (λ b. Free (homes b) b ∷ []) bs) []) ≡ cond last (flat_map (λ b. Free (homes b) b ∷ []) bs) []
drop_owed homes bs true = frees_owed homes bs
drop_owed homes bs false = refl

drop_pins : (homes : ℕ → ℕ) (bs : List ℕ) (last : Bool) → fold pin_after None (cond last (flat_map (λ b. Free (homes b) b ∷ []) bs) []) ≡ None
drop_pins homes bs true = pins_flat (λ b. Free (homes b) b ∷ []) bs (λ b. refl)
drop_pins homes bs false = refl

module _ {D S : Type 0} {g : Ghosts D S} {h : SlotGhosts S} where
  -- ---- tables

  pub state_renamed : (t u : Table D S g h) → Renames t u → state_now u ≡ state_now t
  state_renamed t u p =
      u.holding.ledger.facts.state
      ∙ ap (λ (q : Bor Plan). state_of_run q.now u.holding.ledger.journal.items) p.plan
      ∙ ap (state_of_run (plan_of t)) p.journal
      ∙ sym t.holding.ledger.facts.state

  pub ledger_renamed : (t u v : Table D S g h) (entries : List Entry) → ledgers.GrowsBy t.holding.ledger u.holding.ledger entries → Renames u v → ledgers.GrowsBy t.holding.ledger v.holding.ledger entries
  ledger_renamed t u v entries grows p = record { plan = p.plan ∙ grows.plan; journal = p.journal ∙ grows.journal }

  -- there is room for one name more
  pub names_fewer : (t u : Table D S g h) (i array : ℕ) → IsWellFormed (plan_of t) → i < rows (plan_of t) → names_of u.holding.pool array ≡ names_at (plan_of t) i array → names_of u.holding.pool array < 2 ^ 32 - 1
  names_fewer t u i array well lt same = let few = names_few (plan_of t) i array well (omega (arith, lt)) in omega (arith, few, same)

  -- a row that gives a name, behind its entries
  pub entered_named : (t u v : Table D S g h) (i : ℕ) → EntersRow (plan_of t) i t u → Renames u v → EntersRow (plan_of t) i t v
  entered_named t u v i p same = record {
    added = p.added;
    grows = ledger_renamed t u v (with_line (row_line t i) p.added) p.grows same;
    claims = p.claims;
    opening = same.opening ∙ p.opening;
  }

  pub names_given_at : (t u v : Table D S g h) (i array : ℕ) (what : What) → IsWellFormed (plan_of t) → i < rows (plan_of t) → next_what (plan_of t) i ≡ what → GivesName what array → IsNumberIn (plan_of t).arrays array
      → ((a : ℕ) → IsNumberIn (plan_of t).arrays a → names_of u.holding.pool a ≡ names_at (plan_of t) i a) → plan_of u ≡ plan_of t → u.cause ≡ None → rows_at.IsAtRow (plan_of t) (suc i) (state_now u)
      → HasNames u.holding.pool v.holding.pool array (names_of u.holding.pool array + 1) → Renames u v → IsAtRow (plan_of t) (suc i) v
  names_given_at t u v i array what well lt is gives within before plan_is cause at named same = record {
    plan_is = ap (λ (p : Bor Plan). p.now) same.plan ∙ plan_is;
    cause = same.cause ∙ cause;
    at = subst (rows_at.IsAtRow (plan_of t) (suc i)) (sym (state_renamed u v same)) at;
    names = λ a a_is. by a a_is (eqb a array) refl;
  }
    where
      number_of : (a : ℕ) → IsNumberIn (plan_of t).arrays a → IsNumberIn u.holding.pool.plan.now.arrays a
      number_of a a_is = subst (λ (p : Bor Plan). IsNumberIn p.now.arrays a) (sym u.holding.facts.planned) (subst (λ (p : Plan). IsNumberIn p.arrays a) (sym plan_is) a_is)

      by : (a : ℕ) → IsNumberIn (plan_of t).arrays a → (found : Bool) → eqb a array ≡ found → names_of v.holding.pool a ≡ names_at (plan_of t) (suc i) a
      by a a_is true e =
          let same_a : a ≡ array = eqb-true a array e in
          ap (λ (x : ℕ). names_of v.holding.pool x) same_a ∙ named.here ∙ ap (λ (n : ℕ). n + 1) (before array within)
          ∙ one_more (names_at (plan_of t) i array) ∙ sym (names_give (plan_of t) i array well lt (ap (gives_name array) is ∙ gives.here)) ∙ ap (names_at (plan_of t) (suc i)) (sym same_a)
      by a a_is false e =
          let else : a ≡ array → ⊥ = λ (s : a ≡ array). let h : false ≡ true = sym e ∙ eq-eqb a array s in absurd (cc) in
          named.others a (number_of a a_is) else ∙ before a a_is
          ∙ sym (names_stay (plan_of t) i a lt (ap (gives_name a) is ∙ gives.others a else) (ap (ends_name a) is ∙ gives.none a))

  -- ---- rows that enter nothing

  pub nothing_entered : (t : Table D S g h) (i : ℕ) → EntersRow (plan_of t) i t t
  nothing_entered t i = record { added = []; grows = record { plan = refl; journal = sym (append-nil t.holding.ledger.journal.items) }; claims = All-nil (λ (e : Event). (task worker : ℕ) → e ≡ Claim task worker → worker ≡ 1); opening = refl }

  pub nothing_next : (t : Table D S g h) (i : ℕ) (what : What) → IsWellFormed (plan_of t) → i < rows (plan_of t) → IsAtRow (plan_of t) i t → next_what (plan_of t) i ≡ what
      → events_now (plan_of t) (state_now t) what ≡ [] → rows_at.IsAtRow (plan_of t) (suc i) (state_now t)
  nothing_next t i what well lt at is none =
      next_state t t i what [] well lt at is (record { plan = refl; journal = sym (append-nil t.holding.ledger.journal.items) }) refl (sym none) (ap (fold pin_after None) none)

  -- ---- a name that is dropped

  -- whether it is the last one
  pub last_is : (t : Table D S g h) (i array : ℕ) (last : Bool) → IsWellFormed (plan_of t) → i < rows (plan_of t) → IsAtRow (plan_of t) i t → next_what (plan_of t) i ≡ Drop array last → IsNumberIn (plan_of t).arrays array
      → eqb (names_of t.holding.pool array) 1 ≡ last
  last_is t i array last well lt at is within = ap (λ (n : ℕ). eqb n 1) (at.names array within) ∙ last_name (plan_of t) i array last well lt is

  pub drop_some : (t : Table D S g h) (i array : ℕ) (last : Bool) → IsWellFormed (plan_of t) → i < rows (plan_of t) → IsAtRow (plan_of t) i t → next_what (plan_of t) i ≡ Drop array last → IsNumberIn (plan_of t).arrays array
      → 1 ≤ names_of t.holding.pool array
  drop_some t i array last well lt at is within = let some = names_some (plan_of t) i array last well lt is in let same = at.names array within in omega (arith, some, same)

  -- its frees are due where it is
  pub frees_due : (t : Table D S g h) (i array : ℕ) (last : Bool) → IsWellFormed (plan_of t) → i < rows (plan_of t) → IsAtRow (plan_of t) i t → next_what (plan_of t) i ≡ Drop array last → IsNumberIn (plan_of t).arrays array
      → names_of t.holding.pool array ≡ 1 → AreDue (plan_of t) (state_now t) (free_events (plan_of t) (state_now t) array)
  frees_due t i array last well lt at is within one =
      let sure : last ≡ true = sym (last_is t i array last well lt at is within) ∙ eq-eqb (names_of t.holding.pool array) 1 one in
      due_at t i (Drop array true) well lt at (is ∙ ap (Drop array) sure)

  -- the events of the row are these
  abbrev dropped : Table D S g h → ℕ → Bool → List Event
  dropped t array last = cond last (free_events (plan_of t) (state_now t) array) []

  pub dropped_enter : (t u : Table D S g h) (i array : ℕ) (last : Bool) → IsWellFormed (plan_of t) → i < rows (plan_of t) → IsAtRow (plan_of t) i t → next_what (plan_of t) i ≡ Drop array last → IsNumberIn (plan_of t).arrays array
      → Drops t u array → ledgers.GrowsBy t.holding.ledger u.holding.ledger (with_line (row_line t i) (dropped t array last))
  dropped_enter t u i array last well lt at is within p =
      subst (ledgers.GrowsBy t.holding.ledger u.holding.ledger)
      (ap (λ (b : Bool). with_line (line_now t) (cond b (free_events (plan_of t) (state_now t) array) [])) (last_is t i array last well lt at is within) ∙ lines_due t i (Drop array last) well lt at is)
      p.entered

  pub drop_enters : (t u : Table D S g h) (i array : ℕ) (last : Bool) → IsWellFormed (plan_of t) → i < rows (plan_of t) → IsAtRow (plan_of t) i t → next_what (plan_of t) i ≡ Drop array last → IsNumberIn (plan_of t).arrays array
      → Drops t u array → EntersRow (plan_of t) i t u
  drop_enters t u i array last well lt at is within p = record {
    added = dropped t array last;
    grows = dropped_enter t u i array last well lt at is within p;
    claims = ordered_claims (dropped t array last) (drop_ordered (state_now t).homes (blocks_of (plan_of t) array) last);
    opening = p.opening;
  }

  pub drop_next : (t u : Table D S g h) (i array : ℕ) (last : Bool) → IsWellFormed (plan_of t) → i < rows (plan_of t) → IsAtRow (plan_of t) i t → next_what (plan_of t) i ≡ Drop array last → IsNumberIn (plan_of t).arrays array
      → Drops t u array → IsAtRow (plan_of t) (suc i) u
  drop_next t u i array last well lt at is within p = record {
    plan_is = ap (λ (q : Bor Plan). q.now) p.entered.plan;
    cause = p.cause ∙ at.cause;
    at = next_state t u i (Drop array last) (dropped t array last) well lt at is (dropped_enter t u i array last well lt at is within p) (drop_ordered (state_now t).homes (blocks_of (plan_of t) array) last)
        (drop_owed (state_now t).homes (blocks_of (plan_of t) array) last) (drop_pins (state_now t).homes (blocks_of (plan_of t) array) last);
    names = λ a a_is. by a a_is (eqb a array) refl;
  }
    where
      by : (a : ℕ) → IsNumberIn (plan_of t).arrays a → (found : Bool) → eqb a array ≡ found → names_of u.holding.pool a ≡ names_at (plan_of t) (suc i) a
      by a a_is true e =
          let same : a ≡ array = eqb-true a array e in
          let here = p.here in
          let was = at.names array within in
          let less = names_end (plan_of t) i array last well lt is in
          let now : names_of u.holding.pool array ≡ names_at (plan_of t) (suc i) array = omega (arith, here, was, less) in
          ap (λ (x : ℕ). names_of u.holding.pool x) same ∙ now ∙ ap (names_at (plan_of t) (suc i)) (sym same)
      by a a_is false e =
          let else : a ≡ array → ⊥ = λ (s : a ≡ array). let h : false ≡ true = sym e ∙ eq-eqb a array s in absurd (cc) in
          p.others a a_is else ∙ at.names a a_is
          ∙ sym (names_stay (plan_of t) i a lt (ap (gives_name a) is) (ap (ends_name a) is ∙ ne_eqb array a (λ same. else (sym same))))

  -- ---- a row that prints how many elements moved

  pub nothing_broke : (t : Table D S g h) (i : ℕ) → RowGives (plan_of t) i t t (Err WriteFault)
  nothing_broke t i = record { enters = nothing_entered t i; ends = λ disk. absurd (cc) }

  pub moved_next : (t : Table D S g h) (i : ℕ) → IsWellFormed (plan_of t) → i < rows (plan_of t) → IsAtRow (plan_of t) i t → next_what (plan_of t) i ≡ Moved → RowGives (plan_of t) i t t (Ok tt)
  moved_next t i well lt at is = record {
    enters = nothing_entered t i;
    ends = record {
      plan_is = refl;
      cause = at.cause;
      at = nothing_next t i Moved well lt at is refl;
      names = λ a within. at.names a within ∙ sym (names_kept (plan_of t) i Moved well lt is (λ b. refl) (λ b. refl) a);
    };
  }
