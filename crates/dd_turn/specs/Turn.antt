-- The rule of the lock, and what each step tells. Word 0 is the turn: 0 where it is free, 1 where a seat holds it, and 2 where
-- it was ended. Word 1 is the bell. Slot 0 is for the value.
use Rattle.std.specs.Prelude.{◌≡◌, ◌≢◌, ℕ, ◌≤◌, ◌==◌, Bool, true, false, List, [], ◌∷◌, Option, Some}
use mathlib.Core.Option as maybe
use lib.ListN.{get_elem?}
use Rattle.atomic_table.specs.Table.{State, Me, Step}
use Rattle.dd_turn.specs.declared.baton.View.{View}

module _ {K : Type 0} where
  abbrev pub view : K → Bool → Bool → View K
  view k holds ended = record { about = k; holds = holds; ended = ended }

  -- the view of a seat that neither holds the turn nor has seen the end
  abbrev pub idle : K → View K
  idle k = view k false false

  abbrev pub same : View K → View K
  same v = v

module _ {K T : Type 0} where
  -- the seat holds no turn afterwards
  abbrev pub gave : Step (Option T) → Me (Option T) (View K) → ℕ → Me (Option T) (View K) → Type 0
  gave s me n me' = me' ≡ (idle me.0.about, [])

  -- nor here, and it has seen the end
  abbrev pub ended : Step (Option T) → Me (Option T) (View K) → ℕ → Me (Option T) (View K) → Type 0
  ended s me n me' = me' ≡ (view me.0.about false true, [])

  -- a ring changes nothing of who rings
  abbrev pub rang : Step (Option T) → Me (Option T) (View K) → ℕ → Me (Option T) (View K) → Type 0
  rang s me n me' = me' ≡ me

module _ {K T : Type 0} (Fits : K → T → Type 0) where
  -- a turn that was found free is the seat's, with the slot and the value; else the seat has looked, and knows whether it was ended
  abbrev pub took : Step (Option T) → Me (Option T) (View K) → ℕ → Me (Option T) (View K) → Type 0
  took s me n me' =
      (n ≡ 0 → (t : T) × (me' ≡ (view me.0.about true false, (0, Some t) ∷ [])) × Fits me.0.about t)
      × (n ≢ 0 → me' ≡ (view me.0.about false (n == 2), []))

module _ {K T : Type 0} (Fits Over : K → T → Type 0) where
  -- the slot is at home with a value that fits, and that is over where the turn was ended
  abbrev pub IsHome : K → ℕ → maybe.Option (Option T) → Type 0
  IsHome k turn home = (t : T) × (home ≡ maybe.some (Some t)) × Fits k t × (turn ≡ 2 → Over k t)

  -- what holds between any two steps of a turn, the slot at home or out, and the views of all seats
  pub record Turns (k : K) (turn : ℕ) (home : maybe.Option (Option T)) (views : List (View K)) : Type 0 where
    -- the turn is free, held or ended
    pub below : turn ≤ 2
    -- all views are about one key
    pub one_key : (i : ℕ) (v : View K) → get_elem? views i ≡ maybe.some v → v.about ≡ k
    -- where a seat holds the turn, it is held, and the slot is out
    pub held : (i : ℕ) (v : View K) → get_elem? views i ≡ maybe.some v → v.holds ≡ true → (turn ≡ 1) × (home ≡ maybe.none)
    -- where the turn is held, a seat holds it
    pub holder : turn ≡ 1 → (i : ℕ) × (v : View K) × (get_elem? views i ≡ maybe.some v) × (v.holds ≡ true)
    -- and one alone
    pub one_holder : (i j : ℕ) (v w : View K) → get_elem? views i ≡ maybe.some v → get_elem? views j ≡ maybe.some w → v.holds ≡ true → w.holds ≡ true → i ≡ j
    -- where the turn is free or ended, the value is there
    pub home_is : turn ≢ 1 → IsHome k turn home
    -- where a seat has seen the end, the turn was ended
    pub seen : (i : ℕ) (v : View K) → get_elem? views i ≡ maybe.some v → v.ended ≡ true → turn ≡ 2

  -- the same of a whole state, whose bell may be any number
  abbrev pub Kept : K → State (Option T) (View K) → Type 0
  Kept k s = (turn bell : ℕ) × (home : maybe.Option (Option T)) × (s.words ≡ turn ∷ bell ∷ []) × (s.homes ≡ home ∷ []) × Turns k turn home s.views
