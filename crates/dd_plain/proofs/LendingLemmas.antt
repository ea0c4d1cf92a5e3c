-- Arrays that are lent and come back are as if they had been stored.
use Rattle.std.proofs.Common.{◌≡◌, ◌≢◌, ℕ, ◌-◌, ◌≤◌, ℤ, pos, Bool, true, false, List, [], ◌∷◌, length, map, set, refl, sym, ap, ◌∙◌, arith, ⊎_elim}
use Rattle.std.specs.List.{AllByRecursion}
use Rattle.std.proofs.lemmas.Bool.{cases_Bool}
use Rattle.std.proofs.lemmas.List.{set-set, set-get_or, length-set}
use Rattle.dd_kernels.specs.Lists.{element}
use Rattle.dd_views.specs.IndexList.{index_list}
use Rattle.dd_blocks.specs.declared.access_row.AccessRow.{AccessRow}
use Rattle.dd_blocks.specs.Elements.{writes}
use Rattle.dd_meaning.specs.Steps.{gathered, put_at, stored, stored_one}
use Rattle.dd_meaning.specs.Worlds.{World, values_of}
use Rattle.dd_plain.specs.Lending.{without, without_all, back_in, all_back_in}
use Rattle.dd_meaning.proofs.WorldLemmas.{set_apart, values_beside, same_written}

-- an access that is lent has its array for itself
pub record AreApart (lent : AccessRow → Bool) (a b : AccessRow) : Type 0 where
  pub first : lent a ≡ true → a.view.array ≢ b.view.array
  pub second : lent b ≡ true → a.view.array ≢ b.view.array

abbrev pub AreAllApart : (AccessRow → Bool) → List AccessRow → Type 0
AreAllApart lent [] = Unit {0}
AreAllApart lent (a ∷ more) = AllByRecursion (AreApart lent a) more × AreAllApart lent more

-- the accesses are of arrays of the world
abbrev pub IsOf : World → AccessRow → Type 0
IsOf world a = (1 ≤ a.view.array) × (a.view.array ≤ length world)

-- what comes back to an access: its array with what was made in its places where it is lent, or else what was made
pub record ComesBack (lent : AccessRow → Bool) (world : World) (a : AccessRow) (full made : List ℤ) : Type 0 where
  pub whole : lent a ≡ true → full ≡ put_at (index_list a.view) made (values_of world a.view.array)
  pub same : lent a ≡ true → writes a.mode ≡ false → made ≡ gathered world a
  pub part : lent a ≡ false → full ≡ made

abbrev pub AllComeBack : (AccessRow → Bool) → World → List AccessRow → List (List ℤ) → List (List ℤ) → Type 0
AllComeBack lent world [] fulls lists = Unit {0}
AllComeBack lent world (a ∷ more) [] lists = ⊥
AllComeBack lent world (a ∷ more) (full ∷ fulls) [] = ⊥
AllComeBack lent world (a ∷ more) (full ∷ fulls) (made ∷ lists) = ComesBack lent world a full made × AllComeBack lent world more fulls lists

-- what stood at some places is put there
pub put_same : (ps : List ℕ) (values : List ℤ) → put_at ps (map (element values) ps) values ≡ values
put_same [] values = refl
put_same (p ∷ ps) values = ap (put_at ps (map (element values) ps)) (set-get_or values p (pos 0)) ∙ put_same ps values

-- what is stored in a world that has the access's array is the array that was lent
back_is_stored : (lent : AccessRow → Bool) (world : World) (a : AccessRow) (full made : List ℤ) → IsOf world a → lent a ≡ true → ComesBack lent world a full made → set world (a.view.array - 1) full ≡ stored_one world a made
back_is_stored lent world a full made is l back = ⊎_elim
    (λ (w : writes a.mode ≡ true). rw w (ap (set world (a.view.array - 1)) (back.whole l)))
    (λ (r : writes a.mode ≡ false). rw r (same_written world a.view.array full is.0 (back.whole l ∙ ap (λ new. put_at (index_list a.view) new (values_of world a.view.array)) (back.same l r) ∙ put_same (index_list a.view) (values_of world a.view.array))))
    (cases_Bool (writes a.mode))

-- other arrays stay
pub without_beside : (lent : AccessRow → Bool) (world : World) (a : AccessRow) (n : ℕ) → IsOf world a → (lent a ≡ true → a.view.array ≢ n) → values_of (without lent world a) n ≡ values_of world n
without_beside lent world a n is apart = ⊎_elim
    (λ (l : lent a ≡ true). rw l (values_beside world a.view.array n [] is.0 (apart l)))
    (λ (k : lent a ≡ false). rw k refl)
    (cases_Bool (lent a))

pub stored_beside : (world : World) (a : AccessRow) (values : List ℤ) (n : ℕ) → IsOf world a → a.view.array ≢ n → values_of (stored_one world a values) n ≡ values_of world n
stored_beside world a values n is apart = ⊎_elim
    (λ (w : writes a.mode ≡ true). rw w (values_beside world a.view.array n _ is.0 apart))
    (λ (r : writes a.mode ≡ false). rw r refl)
    (cases_Bool (writes a.mode))

pub length_without : (lent : AccessRow → Bool) (world : World) (a : AccessRow) → length (without lent world a) ≡ length world
length_without lent world a = ⊎_elim
    (λ (l : lent a ≡ true). rw l (length-set world (a.view.array - 1) []))
    (λ (k : lent a ≡ false). rw k refl)
    (cases_Bool (lent a))

pub length_stored : (world : World) (a : AccessRow) (values : List ℤ) → length (stored_one world a values) ≡ length world
length_stored world a values = ⊎_elim
    (λ (w : writes a.mode ≡ true). rw w (length-set world (a.view.array - 1) _))
    (λ (r : writes a.mode ≡ false). rw r refl)
    (cases_Bool (writes a.mode))

-- an array that is not lent is written before the others leave, or after
set_without : (lent : AccessRow → Bool) (world : World) (a : AccessRow) (n : ℕ) (v : List ℤ) → 1 ≤ n → IsOf world a → (lent a ≡ true → n ≢ a.view.array) → set (without lent world a) (n - 1) v ≡ without lent (set world (n - 1) v) a
set_without lent world a n v low is apart = ⊎_elim
    (λ (l : lent a ≡ true). rw l (set_apart world (a.view.array - 1) (n - 1) [] v (λ e. apart l (omega (arith, e, is.0)))))
    (λ (k : lent a ≡ false). rw k refl)
    (cases_Bool (lent a))

-- the same for all accesses
abbrev pub AreOf : World → List AccessRow → Type 0
AreOf world accesses = AllByRecursion (IsOf world) accesses

pub are_of : (old new : World) (accesses : List AccessRow) → length new ≡ length old → AreOf old accesses → AreOf new accesses
are_of old new [] same h = tt
are_of old new (a ∷ more) same h = ((h.0.0, omega (arith, h.0.1, same)), are_of old new more same h.1)

abbrev pub AreNotOf : (AccessRow → Bool) → ℕ → List AccessRow → Type 0
AreNotOf lent n accesses = AllByRecursion (λ (b : AccessRow). lent b ≡ true → n ≢ b.view.array) accesses

pub all_beside : (lent : AccessRow → Bool) (world : World) (accesses : List AccessRow) (n : ℕ) → AreOf world accesses → AreNotOf lent n accesses → values_of (without_all lent world accesses) n ≡ values_of world n
all_beside lent world [] n is apart = refl
all_beside lent world (a ∷ more) n is apart =
    all_beside lent (without lent world a) more n (are_of world (without lent world a) more (length_without lent world a) is.1) apart.1
    ∙ without_beside lent world a n is.0 (λ l e. apart.0 l (sym e))

set_without_all : (lent : AccessRow → Bool) (world : World) (accesses : List AccessRow) (n : ℕ) (v : List ℤ) → 1 ≤ n → AreOf world accesses → AreNotOf lent n accesses → set (without_all lent world accesses) (n - 1) v ≡ without_all lent (set world (n - 1) v) accesses
set_without_all lent world [] n v low is apart = refl
set_without_all lent world (a ∷ more) n v low is apart =
    set_without_all lent (without lent world a) more n v low (are_of world (without lent world a) more (length_without lent world a) is.1) apart.1
    ∙ ap (λ (w : World). without_all lent w more) (set_without lent world a n v low is.0 apart.0)

-- how the first access stands to the others
pub not_first : (lent : AccessRow → Bool) (a : AccessRow) (more : List AccessRow) → AllByRecursion (AreApart lent a) more → AreNotOf lent a.view.array more
not_first lent a [] h = tt
not_first lent a (b ∷ more) h = (h.0.second, not_first lent a more h.1)

pub come_after : (lent : AccessRow → Bool) (old new : World) (a : AccessRow) (more : List AccessRow) (fulls lists : List (List ℤ)) → AllByRecursion (AreApart lent a) more → ((n : ℕ) → a.view.array ≢ n → values_of new n ≡ values_of old n) → AllComeBack lent old more fulls lists → AllComeBack lent new more fulls lists
come_after lent old new a [] fulls lists apart same h = tt
come_after lent old new a (b ∷ more) [] lists apart same h = absurd h
come_after lent old new a (b ∷ more) (full ∷ fulls) [] apart same h = absurd h
come_after lent old new a (b ∷ more) (full ∷ fulls) (made ∷ lists) apart same h =
    let back = h.0 in (
      record {
        whole = λ l. rw (same b.view.array (apart.0.second l)) (back.whole l);
        same = λ l r. rw (same b.view.array (apart.0.second l)) (back.same l r);
        part = back.part;
      },
      come_after lent old new a more fulls lists apart.1 same h.1,
    )

-- an access that is not lent is stored before the others leave, or after
stored_without : (lent : AccessRow → Bool) (world : World) (a : AccessRow) (values : List ℤ) (more : List AccessRow) → AreOf world (a ∷ more) → AreNotOf lent a.view.array more → stored_one (without_all lent world more) a values ≡ without_all lent (stored_one world a values) more
stored_without lent world a values more is none = ⊎_elim
    (λ (w : writes a.mode ≡ true). rw w (
    ap (λ array. set (without_all lent world more) (a.view.array - 1) (put_at (index_list a.view) values array)) (all_beside lent world more a.view.array is.1 none)
    ∙ set_without_all lent world more a.view.array _ is.0.0 is.1 none))
    (λ (r : writes a.mode ≡ false). rw r refl)
    (cases_Bool (writes a.mode))

-- what was held of the first access comes back to a world without the arrays that are lent
pub one_back : (lent : AccessRow → Bool) (world : World) (a : AccessRow) (full made : List ℤ) (more : List AccessRow) → AreOf world (a ∷ more) → AllByRecursion (AreApart lent a) more → ComesBack lent world a full made → back_in lent (without_all lent world (a ∷ more)) a full ≡ without_all lent (stored_one world a made) more
one_back lent world a full made more is apart back =
    let none = not_first lent a more apart in
    let place : ℕ = a.view.array - 1 in
    ⊎_elim
    (λ (l : lent a ≡ true). rw l (
    set_without_all lent (set world place []) more a.view.array full is.0.0 (are_of world (set world place []) more (length-set world place []) is.1) none
    ∙ ap (λ (w : World). without_all lent w more) (set-set world place [] full ∙ back_is_stored lent world a full made is.0 l back)))
    (λ (k : lent a ≡ false). rw (k, back.part k) (stored_without lent world a made more is none))
    (cases_Bool (lent a))

-- all that was held comes back to it: what was made was stored in the world with them
pub all_back : (lent : AccessRow → Bool) (world : World) (accesses : List AccessRow) (fulls lists : List (List ℤ)) → AreOf world accesses → AreAllApart lent accesses → AllComeBack lent world accesses fulls lists → all_back_in lent (without_all lent world accesses) accesses fulls ≡ stored world accesses lists
all_back lent world [] fulls lists is apart back = refl
all_back lent world (a ∷ more) [] lists is apart back = absurd back
all_back lent world (a ∷ more) (full ∷ fulls) [] is apart back = absurd back
all_back lent world (a ∷ more) (full ∷ fulls) (made ∷ lists) is apart back =
    let after : World = stored_one world a made in
    let here = one_back lent world a full made more is apart.0 back.0 in
    let later = are_of world after more (length_stored world a made) is.1 in
    let kept = come_after lent world after a more fulls lists apart.0 (λ n other. stored_beside world a made n is.0 other) back.1 in
    ap (λ (w : World). all_back_in lent w more fulls) here ∙ all_back lent after more fulls lists later apart.1 kept
