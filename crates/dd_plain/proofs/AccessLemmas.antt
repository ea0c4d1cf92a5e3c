-- From one access of a task to the next.
use Rattle.std.proofs.Common.{◌≡◌, ℕ, suc, ◌+◌, ◌-◌, ◌^◌, ◌<◌, ◌≤◌, ℤ, Bool, true, false, cond, List, [], ◌∷◌, ◌++◌, length, map, drop, get_or, set, refl, sym, ap, subst, ◌∙◌, arith, ⊎_elim}
use Rattle.std.specs.List.{All, AllByRecursion}
use Rattle.std.proofs.lemmas.Bool.{cases_Bool}
use Rattle.std.proofs.lemmas.List.{append_assoc, drop-set-lt, drop_more, get_or-map, length-drop, length-map, length-set, map-set}
use Rattle.dd_views.specs.IndexList.{index_list}
use Rattle.dd_views.proofs.ViewLemmas.{length_view, view_few}
use Rattle.dd_blocks.specs.declared.access_row.AccessRow.{AccessRow}
use Rattle.dd_blocks.specs.declared.array_row.ArrayRow.{ArrayRow}
use Rattle.dd_blocks.specs.Numbered.{numbered, no_array}
use Rattle.dd_blocks.specs.Tasks.{shape_in}
use Rattle.dd_kernels.specs.Lists.{element}
use Rattle.dd_kernels.proofs.ListsLemmas.{ap2}
use Rattle.std.specs.Global.{Vec}
use Rattle.dd_plain.specs.Lists.{lists_of}
use Rattle.dd_meaning.specs.Worlds.{World, values_of}
use Rattle.dd_plain.specs.Lending.{AreHeld, AreThere, all_back_in, back_in, held, without, without_all}
use Rattle.dd_plain.specs.Sizes.{HasSizeOf, HasSizes, IsInArray}
use Rattle.dd_plain.proofs.LendingLemmas.{AreApart, AreAllApart, length_without, length_stored, without_beside}
use Rattle.dd_meaning.proofs.WorldLemmas.{stored_length, values_beside}
use Rattle.dd_plain.proofs.SizesLemmas.{has_size}

-- what holds of all holds of the first and of the others
pub all_first : (arrays : List ArrayRow) (a : AccessRow) (more : List AccessRow) → All (IsInArray arrays) (a ∷ more) → IsInArray arrays a
all_first arrays a more h = h 0 a (omega arith)

pub all_others : (arrays : List ArrayRow) (a : AccessRow) (more : List AccessRow) → All (IsInArray arrays) (a ∷ more) → All (IsInArray arrays) more
all_others arrays a more h = λ k d lt. h (suc k) d (omega (arith, lt))

-- an access has no more elements than its array
pub few_elements : (arrays : List ArrayRow) (a : AccessRow) → IsInArray arrays a → length (index_list a.view) < 2 ^ 32
few_elements arrays a is =
    let array = numbered no_array arrays a.view.array in
    omega (arith, length_view a.view (shape_in array, is.view), view_few (shape_in array) a.view is.view, is.few)

-- what is held of some accesses was taken, and these are left
pub record IsTaking (arrays : List ArrayRow) (lent : AccessRow → Bool) (before now : World) (all left : List AccessRow) (lists : List (List ℤ)) : Type 0 where
  pub world : without_all lent now left ≡ without_all lent before all
  pub listed : lists ++ map (held lent before) left ≡ map (held lent before) all
  pub same : AllByRecursion (λ (b : AccessRow). values_of now b.view.array ≡ values_of before b.view.array) left
  pub count : length now ≡ length before
  pub apart : AreAllApart lent left
  pub in_arrays : All (IsInArray arrays) left

same_values : (world : World) (accesses : List AccessRow) → AllByRecursion (λ (b : AccessRow). values_of world b.view.array ≡ values_of world b.view.array) accesses
same_values world [] = tt
same_values world (a ∷ more) = (refl, same_values world more)

pub takes : (arrays : List ArrayRow) (lent : AccessRow → Bool) (world : World) (accesses : List AccessRow) → AreAllApart lent accesses → All (IsInArray arrays) accesses → IsTaking arrays lent world world accesses accesses []
takes arrays lent world accesses apart in_arrays = record {
  world = refl;
  listed = refl;
  same = same_values world accesses;
  count = refl;
  apart = apart;
  in_arrays = in_arrays;
}

others_same : (lent : AccessRow → Bool) (before now : World) (a : AccessRow) (more : List AccessRow) → (1 ≤ a.view.array) × (a.view.array ≤ length now) → AllByRecursion (AreApart lent a) more → AllByRecursion (λ (b : AccessRow). values_of now b.view.array ≡ values_of before b.view.array) more → AllByRecursion (λ (b : AccessRow). values_of (without lent now a) b.view.array ≡ values_of before b.view.array) more
others_same lent before now a [] is apart same = tt
others_same lent before now a (b ∷ more) is apart same = (without_beside lent now a b.view.array is apart.0.first ∙ same.0, others_same lent before now a more is apart.1 same.1)

pub taken : {arrays : List ArrayRow} {lent : AccessRow → Bool} {before now : World} {all left : List AccessRow} {lists : List (List ℤ)} → IsTaking arrays lent before now all left lists → (a : AccessRow) (more : List AccessRow) (after : World) (values : List ℤ) → left ≡ a ∷ more → length now ≡ length arrays → after ≡ without lent now a → values ≡ held lent now a → IsTaking arrays lent before after all more (lists ++ values ∷ [])
taken {arrays} {lent} {before} {now} {all} {left} {lists} is a more after values next count world value =
    let same = subst (λ (l : List AccessRow). AllByRecursion (λ (b : AccessRow). values_of now b.view.array ≡ values_of before b.view.array) l) next is.same in
    let apart = subst (AreAllApart lent) next is.apart in
    let in_arrays = subst (All (IsInArray arrays)) next is.in_arrays in
    let here : IsInArray arrays a = all_first arrays a more in_arrays in
    let found : values ≡ held lent before a = value ∙ ap (λ l. cond (lent a) l (map (element l) (index_list a.view))) same.0 in
    record {
      world = ap (λ (w : World). without_all lent w more) world ∙ sym (ap (without_all lent now) next) ∙ is.world;
      listed = append_assoc lists (values ∷ []) (map (held lent before) more) ∙ ap (λ l. lists ++ (l ∷ map (held lent before) more)) found ∙ sym (ap (λ (l : List AccessRow). lists ++ map (held lent before) l) next) ∙ is.listed;
      same = rw world (others_same lent before now a more (here.named.0, omega (arith, here.named.1, count)) apart.0 same.1);
      count = ap length world ∙ length_without lent now a ∙ is.count;
      apart = apart.1;
      in_arrays = all_others arrays a more in_arrays;
    }

-- values came back to some accesses, and these are left
pub record IsReturning (arrays : List ArrayRow) (lent : AccessRow → Bool) (now goal_world : World) (left : List AccessRow) (lists : List (List ℤ)) : Type 0 where
  pub world : all_back_in lent now left lists ≡ goal_world
  pub there : AreThere arrays lent now left
  pub count : length now ≡ length arrays
  pub are_held : AreHeld lent left lists
  pub apart : AreAllApart lent left
  pub in_arrays : All (IsInArray arrays) left

back_beside : (lent : AccessRow → Bool) (world : World) (a : AccessRow) (values : List ℤ) (n : ℕ) → 1 ≤ a.view.array → (lent a ≡ true → (a.view.array ≡ n → ⊥)) → length (values_of (back_in lent world a values) n) ≡ length (values_of world n)
back_beside lent world a values n low apart = ⊎_elim
    (λ (l : lent a ≡ true). rw l (ap length (values_beside world a.view.array n values low (apart l))))
    (λ (k : lent a ≡ false). rw k (stored_length world a values n low))
    (cases_Bool (lent a))

still_there : (arrays : List ArrayRow) (lent : AccessRow → Bool) (world : World) (a : AccessRow) (values : List ℤ) (more : List AccessRow) → 1 ≤ a.view.array → AllByRecursion (AreApart lent a) more → AreThere arrays lent world more → AreThere arrays lent (back_in lent world a values) more
still_there arrays lent world a values [] low apart there = tt
still_there arrays lent world a values (b ∷ more) low apart there = ((λ k. back_beside lent world a values b.view.array low apart.0.first ∙ there.0 k), still_there arrays lent world a values more low apart.1 there.1)

length_back : (lent : AccessRow → Bool) (world : World) (a : AccessRow) (values : List ℤ) → length (back_in lent world a values) ≡ length world
length_back lent world a values = ⊎_elim
    (λ (l : lent a ≡ true). rw l (length-set world (a.view.array - 1) values))
    (λ (k : lent a ≡ false). rw k (length_stored world a values))
    (cases_Bool (lent a))

pub returned : {arrays : List ArrayRow} {lent : AccessRow → Bool} {now goal_world : World} {left : List AccessRow} {lists : List (List ℤ)} → IsReturning arrays lent now goal_world left lists → (a : AccessRow) (more : List AccessRow) (values : List ℤ) (others : List (List ℤ)) (after : World) → left ≡ a ∷ more → lists ≡ values ∷ others → after ≡ back_in lent now a values → IsReturning arrays lent after goal_world more others
returned {arrays} {lent} {now} {goal_world} {left} {lists} is a more values others after next first world =
    let there = subst (AreThere arrays lent now) next is.there in
    let apart = subst (AreAllApart lent) next is.apart in
    let in_arrays = subst (All (IsInArray arrays)) next is.in_arrays in
    let here : IsInArray arrays a = all_first arrays a more in_arrays in
    let are_held : AreHeld lent (a ∷ more) (values ∷ others) = subst (AreHeld lent (a ∷ more)) first (subst (λ (l : List AccessRow). AreHeld lent l lists) next is.are_held) in
    let same : all_back_in lent now left lists ≡ all_back_in lent (back_in lent now a values) more others = ap (λ (l : List AccessRow). all_back_in lent now l lists) next ∙ ap (all_back_in lent now (a ∷ more)) first in
    record {
      world = ap (λ (w : World). all_back_in lent w more others) world ∙ sym same ∙ is.world;
      there = rw world (still_there arrays lent now a values more here.named.0 apart.0 there.1);
      count = ap length world ∙ length_back lent now a values ∙ is.count;
      are_held = are_held.1;
      apart = apart.1;
      in_arrays = all_others arrays a more in_arrays;
    }

-- what the first of those that are left finds
pub back_there : {arrays : List ArrayRow} {lent : AccessRow → Bool} {now goal_world : World} {left : List AccessRow} {lists : List (List ℤ)} → IsReturning arrays lent now goal_world left lists → (a : AccessRow) (more : List AccessRow) → left ≡ a ∷ more → lent a ≡ false → HasSizeOf arrays now a
back_there {arrays} {lent} {now} is a more next = (subst (AreThere arrays lent now) next is.there).0

pub back_in_array : {arrays : List ArrayRow} {lent : AccessRow → Bool} {now goal_world : World} {left : List AccessRow} {lists : List (List ℤ)} → IsReturning arrays lent now goal_world left lists → (a : AccessRow) (more : List AccessRow) → left ≡ a ∷ more → IsInArray arrays a
back_in_array {arrays} is a more next = all_first arrays a more (subst (All (IsInArray arrays)) next is.in_arrays)

pub back_long : {arrays : List ArrayRow} {lent : AccessRow → Bool} {now goal_world : World} {left : List AccessRow} {lists : List (List ℤ)} → IsReturning arrays lent now goal_world left lists → (a : AccessRow) (more : List AccessRow) (values : List ℤ) (others : List (List ℤ)) → left ≡ a ∷ more → lists ≡ values ∷ others → lent a ≡ false → length values ≡ length (index_list a.view)
back_long {lent = lent} {lists = lists} is a more values others next first =
    let are_held : AreHeld lent (a ∷ more) (values ∷ others) = subst (AreHeld lent (a ∷ more)) first (subst (λ (l : List AccessRow). AreHeld lent l lists) next is.are_held) in
    are_held.0.part

-- as many lists as accesses
as_many_held : (lent : AccessRow → Bool) (accesses : List AccessRow) (lists : List (List ℤ)) → AreHeld lent accesses lists → length lists ≡ length accesses
as_many_held lent [] [] h = refl
as_many_held lent [] (x ∷ xs) h = absurd h
as_many_held lent (a ∷ more) [] h = absurd h
as_many_held lent (a ∷ more) (x ∷ xs) h = ap suc (as_many_held lent more xs h.1)

pub some_left : (lent : AccessRow → Bool) (accesses : List AccessRow) (bufs : List (Vec ℤ)) (i : ℕ) → i < length accesses → AreHeld lent (drop i accesses) (drop i (lists_of bufs)) → i < length bufs
some_left lent accesses bufs i lt are_held =
    let same = as_many_held lent (drop i accesses) (drop i (lists_of bufs)) are_held in
    omega (arith, same, length-drop i accesses, length-drop i (lists_of bufs), length-map bufs (λ (v : Vec ℤ). v.items))

-- the next list, which leaves its place to an empty one
pub next_list : (bufs : List (Vec ℤ)) (i : ℕ) (buf left : Vec ℤ) → i < length bufs → buf ≡ get_or bufs i buf → drop i (lists_of bufs) ≡ buf.items ∷ drop (i + 1) (lists_of (set bufs i left))
next_list bufs i buf left lt is =
    let within : i < length (lists_of bufs) = omega (arith, length-map bufs (λ (v : Vec ℤ). v.items)) in
    let value : get_or (lists_of bufs) i [] ≡ buf.items = get_or-map (λ (v : Vec ℤ). v.items) bufs i buf [] lt ∙ ap (λ (v : Vec ℤ). v.items) (sym is) in
    let others : drop (i + 1) (lists_of (set bufs i left)) ≡ drop (i + 1) (lists_of bufs) = ap (drop (i + 1)) (map-set (λ (v : Vec ℤ). v.items) bufs i left) ∙ drop-set-lt (i + 1) (lists_of bufs) i left.items (omega arith) in
    drop_more (lists_of bufs) i [] within ∙ ap2 (λ l ls. l ∷ ls) value (sym others)

pub taking_in_array : {arrays : List ArrayRow} {lent : AccessRow → Bool} {before now : World} {all left : List AccessRow} {lists : List (List ℤ)} → IsTaking arrays lent before now all left lists → (a : AccessRow) (more : List AccessRow) → left ≡ a ∷ more → IsInArray arrays a
taking_in_array {arrays} is a more next = all_first arrays a more (subst (All (IsInArray arrays)) next is.in_arrays)

pub taking_size : {arrays : List ArrayRow} {lent : AccessRow → Bool} {before now : World} {all left : List AccessRow} {lists : List (List ℤ)} → IsTaking arrays lent before now all left lists → (a : AccessRow) (more : List AccessRow) → left ≡ a ∷ more → HasSizes arrays before → HasSizeOf arrays now a
taking_size {arrays} {before = before} {now = now} is a more next sizes =
    let same = subst (λ (l : List AccessRow). AllByRecursion (λ (b : AccessRow). values_of now b.view.array ≡ values_of before b.view.array) l) next is.same in
    ap length same.0 ∙ has_size arrays before a.view.array sizes
