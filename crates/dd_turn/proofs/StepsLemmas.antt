-- Each step of a seat keeps the rule, and tells what it says.
use Rattle.std.proofs.Common.{◌≡◌, ◌≢◌, ℕ, ◌+◌, ◌%◌, ◌^◌, ◌<◌, ◌≤◌, Bool, true, false, List, [], ◌∷◌, ◌++◌, map, length, refl, sym, ap, ◌∙◌, subst, arith, Option, Some}
use Rattle.std.specs.Prelude.{◌==◌, slice_index}
use Rattle.std.proofs.lemmas.Bool.{false≢true}
use mathlib.Core.Option as maybe
use mathlib.Core.Option.{some, none, some-injective}
use lib.ListN.{get_elem?}
use prog.Atomic.{either}
use Rattle.atomic_table.specs.Table.{State, Me, Step, Act, rest, keeps, takes, gives, Valid, carried_after, stepped, Allows, Splits, Final, Seen, opening}
use Rattle.atomic_table.specs.Seated.{TableId}
use Rattle.atomic_table.proofs.Lists.{exchanged, set_again}
use Rattle.dd_turn.specs.declared.baton.View.{View}
use Rattle.dd_turn.specs.Turn.{idle, view, same, took, gave, ended, rang, Turns, Kept}
use Rattle.dd_turn.proofs.ViewsLemmas.{looks, takes_turn, puts_back, comes, begins}

-- a seat that is of the same lock after a step is of the lock that it was of
pub own_still : (after before lock : TableId) → after ≡ before → before ≡ lock → after ≡ lock
own_still after before lock same own = same ∙ own

module _ {K T : Type 0} where
  abbrev table_of : ℕ → ℕ → maybe.Option (Option T) → List (View K) → State (Option T) (View K)
  table_of turn bell home views = record { words = turn ∷ bell ∷ []; homes = home ∷ []; views = views }

  -- what `Allows` asks of one state
  abbrev AllowsAt : (State (Option T) (View K) → Type 0) → ℕ → ℕ → Me (Option T) (View K) → ℕ → (ℕ → ℕ) → (ℕ → Me (Option T) (View K) → Type 0) → State (Option T) (View K) → Type 0
  AllowsAt holds slots id me i f then s = length s.homes ≡ slots → get_elem? s.views id ≡ some me.0 → slice_index s.words i < 18446744073709551616
      → (w : View K) × (a : Act (Option T)) × Valid s.homes me.1 a × holds (stepped s i (f (slice_index s.words i)) id me.1 w a) × then (slice_index s.words i) (w, carried_after me.1 a)

  -- a seat that took the turn has the slot out
  pub has_out : (v : View K) (slot : Option T) (me : Me (Option T) (View K)) → me ≡ (v, (0, slot) ∷ []) → me.1 ≡ (0, slot) ∷ rest me.1
  has_out v slot me is = subst (λ (m : Me (Option T) (View K)). m.1 ≡ (0, slot) ∷ rest m.1) (sym is) refl

  -- and puts a value there
  pub has_put : (v : View K) (old new : Option T) (me after : Me (Option T) (View K)) → me ≡ (v, (0, old) ∷ []) → after ≡ (me.0, (0, new) ∷ rest me.1) → after ≡ (v, (0, new) ∷ [])
  has_put v old new me after is put = put ∙ ap (λ (m : Me (Option T) (View K)). (m.0, (0, new) ∷ rest m.1)) is

module _ {K T : Type 0} (Fits Over : K → T → Type 0) where
  -- a state that meets the rule has two words and one slot
  on_state : (k : K) (P : State (Option T) (View K) → Type 0)
      → ((turn bell : ℕ) (home : maybe.Option (Option T)) (views : List (View K)) → Turns Fits Over k turn home views → P (table_of turn bell home views))
      → (s : State (Option T) (View K)) → Kept Fits Over k s → P s
  on_state k P shown s h =
      subst (λ (z : List ℕ × List (maybe.Option (Option T))). P record { words = z.0; homes = z.1; views = s.views }) (λ i. (sym h.3 i, sym h.4 i)) (shown h.0 h.1 h.2 s.views h.5)

  take_at : (k : K) (slots id : ℕ) (st : Step (Option T)) (turn bell : ℕ) (home : maybe.Option (Option T)) (views : List (View K)) → Turns Fits Over k turn home views
      → AllowsAt (Kept Fits Over k) slots id (idle k, []) 0 (λ n. either (n == 0) 1 n) (took Fits st (idle k, [])) (table_of turn bell home views)
  take_at k slots id st turn bell home views t _ at _ =
      exchanged turn 0 1
      (λ n. (w : View K) × (a : Act (Option T)) × Valid (home ∷ []) [] a × Kept Fits Over k (stepped (table_of turn bell home views) 0 n id [] w a) × took Fits st (idle k, []) turn (w, carried_after [] a))
      (λ free. let there = t.home_is (λ one. omega (arith, free, one)) in (
        view k true false,
        takes 0 (Some there.0),
        ap some there.1,
        (1, bell, none, refl, refl, takes_turn Fits Over k turn home views id (idle k) t at free),
        ((λ _. (there.0, refl, there.2)), λ not. absurd (not free)),
      ))
      (λ not. (
        view k false (turn == 2),
        keeps,
        tt,
        (turn, bell, home, refl, refl, looks Fits Over k turn home views id (idle k) (turn == 2) t at refl (λ e. grind arith)),
        ((λ free. absurd (not free)), λ _. refl),
      ))

  -- a seat that is free takes the turn where it is free, and else takes a look
  pub take_allows : (k r : K) (slots id : ℕ) (st : Step (Option T)) (me : Me (Option T) (View K)) → me ≡ (idle r, [])
      → Allows (Kept Fits Over k) slots id me 0 (λ n. either (n == 0) 1 n) (took Fits st me)
  take_allows k r slots id st me is =
      subst (λ (m : Me (Option T) (View K)). Allows (Kept Fits Over k) slots id m 0 (λ n. either (n == 0) 1 n) (took Fits st m)) (sym is)
      (on_state k (AllowsAt (Kept Fits Over k) slots id (idle r, []) 0 (λ n. either (n == 0) 1 n) (took Fits st (idle r, [])))
      (λ turn bell home views t wide at small.
      subst (λ (x : K). AllowsAt (Kept Fits Over k) slots id (idle x, []) 0 (λ n. either (n == 0) 1 n) (took Fits st (idle x, [])) (table_of turn bell home views))
      (sym (t.one_key id (idle r) at)) (take_at k slots id st turn bell home views t) wide at small))

  -- the turn becomes 0 or 2, and the value comes home
  put_at : (k : K) (slots id now : ℕ) (seen : Bool) (value : T) (turn bell : ℕ) (home : maybe.Option (Option T)) (views : List (View K))
      → now ≤ 2 → now ≢ 1 → Fits k value → (now ≡ 2 → Over k value) → (seen ≡ true → now ≡ 2) → Turns Fits Over k turn home views
      → AllowsAt (Kept Fits Over k) slots id (view k true false, (0, Some value) ∷ []) 0 (λ _. now) (λ _ me. me ≡ (view k false seen, [])) (table_of turn bell home views)
  put_at k slots id now seen value turn bell home views below other fits over saw t _ at _ = (
    view k false seen,
    gives,
    tt,
    (now, bell, some (Some value), refl, refl, puts_back Fits Over k turn home views id (view k true false) now seen value t at refl below other fits over saw),
    refl,
  )

  put_allows : (k r : K) (slots id now : ℕ) (seen : Bool) (value : T) (me : Me (Option T) (View K)) → me ≡ (view r true false, (0, Some value) ∷ [])
      → now ≤ 2 → now ≢ 1 → Fits r value → (now ≡ 2 → Over r value) → (seen ≡ true → now ≡ 2)
      → Allows (Kept Fits Over k) slots id me 0 (λ _. now) (λ _ m. m ≡ (view me.0.about false seen, []))
  put_allows k r slots id now seen value me is below other fits over saw =
      subst (λ (m : Me (Option T) (View K)). Allows (Kept Fits Over k) slots id m 0 (λ _. now) (λ _ n. n ≡ (view m.0.about false seen, []))) (sym is)
      (on_state k (AllowsAt (Kept Fits Over k) slots id (view r true false, (0, Some value) ∷ []) 0 (λ _. now) (λ _ m. m ≡ (view r false seen, [])))
      (λ turn bell home views t wide at small.
      subst (λ (x : K). Fits x value → (now ≡ 2 → Over x value) → AllowsAt (Kept Fits Over k) slots id (view x true false, (0, Some value) ∷ []) 0 (λ _. now) (λ _ m. m ≡ (view x false seen, [])) (table_of turn bell home views))
      (sym (t.one_key id (view r true false) at)) (λ f o. put_at k slots id now seen value turn bell home views below other f o saw t) fits over wide at small))

  pub give_allows : (k r : K) (slots id : ℕ) (st : Step (Option T)) (value : T) (me : Me (Option T) (View K)) → me ≡ (view r true false, (0, Some value) ∷ []) → Fits r value
      → Allows (Kept Fits Over k) slots id me 0 (λ _. 0) (gave st me)
  give_allows k r slots id st value me is fits =
      put_allows k r slots id 0 false value me is (omega arith) (λ e. omega (arith, e)) fits (λ e. absurd (omega (arith, e))) (λ e. absurd (false≢true e))

  pub end_allows : (k r : K) (slots id : ℕ) (st : Step (Option T)) (value : T) (me : Me (Option T) (View K)) → me ≡ (view r true false, (0, Some value) ∷ []) → Fits r value → Over r value
      → Allows (Kept Fits Over k) slots id me 0 (λ _. 2) (ended st me)
  end_allows k r slots id st value me is fits over =
      put_allows k r slots id 2 true value me is (omega arith) (λ e. omega (arith, e)) fits (λ _. over) (λ _. refl)

  -- a ring changes the bell alone
  pub ring_allows : (k : K) (slots id : ℕ) (st : Step (Option T)) (me : Me (Option T) (View K)) → Allows (Kept Fits Over k) slots id me 1 (λ n. (n + 1) % 2 ^ 64) (rang st me)
  ring_allows k slots id st me =
      on_state k (AllowsAt (Kept Fits Over k) slots id me 1 (λ n. (n + 1) % 2 ^ 64) (rang st me))
      (λ turn bell home views t wide at small. (
        me.0,
        keeps,
        tt,
        (turn, (bell + 1) % 2 ^ 64, home, refl, refl, subst (λ (vs : List (View K)). Turns Fits Over k turn home vs) (sym (set_again views id me.0 at)) t),
        refl,
      ))

  pub seat_splits : (k r : K) (id : ℕ) (me : Me (Option T) (View K)) → me ≡ (idle r, []) → Splits (Kept Fits Over k) id me.0 (same me.0) (same me.0)
  seat_splits k r id me is s h at =
      let free : me.0.holds ≡ false = ap (λ (m : Me (Option T) (View K)). m.0.holds) is in
      let again = set_again s.views id me.0 at in (
        h.0,
        h.1,
        h.2,
        h.3,
        h.4,
        subst (λ (vs : List (View K)). Turns Fits Over k h.0 h.2 (vs ++ me.0 ∷ [])) (sym again) (comes Fits Over k h.0 h.2 s.views id me.0 h.5 at free),
      )

  pub opens : (k : K) (value : T) (slots : List (Option T)) → slots ≡ Some value ∷ [] → Fits k value → Kept Fits Over k (opening (0 ∷ 0 ∷ []) slots (idle k))
  opens k value slots is fits = (0, 0, some (Some value), refl, ap (λ (xs : List (Option T)). map (λ x. some x) xs) is, begins Fits Over k value fits)

  -- a seat that has seen the end finds the value at home
  pub closes : (k r : K) (id : ℕ) (me : Me (Option T) (View K)) (words : List ℕ) (slots : List (Option T)) (slot : Option T) → me ≡ (view r false true, [])
      → Final (Seen (Kept Fits Over k) id me.0) words slots → get_elem? slots 0 ≡ some slot → (value : T) × (slot ≡ Some value) × Fits r value × Over r value
  closes k r id me words slots slot is final at_slot =
      on_state k
      (λ s. get_elem? s.views id ≡ some me.0 → ((i : ℕ) (y : Option T) → get_elem? s.homes i ≡ some (some y) → get_elem? slots i ≡ some y) → (value : T) × (slot ≡ Some value) × Fits r value × Over r value)
      (λ turn bell home views t at kept.
      let about : r ≡ k = sym (ap (λ (m : Me (Option T) (View K)). m.0.about) is) ∙ t.one_key id me.0 at in
      let end : turn ≡ 2 = t.seen id me.0 at (ap (λ (m : Me (Option T) (View K)). m.0.ended) is) in
      let there = t.home_is (λ one. omega (arith, end, one)) in (
        there.0,
        some-injective slot (Some there.0) (sym at_slot ∙ kept 0 (Some there.0) (ap some there.1)),
        subst (λ (x : K). Fits x there.0) (sym about) there.2,
        subst (λ (x : K). Over x there.0) (sym about) (there.3 end),
      ))
      final.0 final.1.0 final.1.1 final.4
