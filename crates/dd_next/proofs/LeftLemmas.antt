-- Loops over lists of events: what is left, of which the first legal one is the first of all.
use Rattle.std.proofs.Common.{◌≡◌, ℕ, suc, ◌+◌, ◌-◌, ◌<◌, ◌≤◌, List, [], ◌∷◌, ◌++◌, length, get_or, drop, Option, Some, None, ap, ◌∙◌, subst, arith, drop-cons}
use Rattle.std.specs.Prelude.{map}
use Rattle.std.specs.List.{flat_map, range_with_len}
use Rattle.std.proofs.lemmas.List.{drop_all}
use Rattle.dd_blocks.specs.declared.plan.Plan.{Plan}
use Rattle.dd_machine.specs.declared.event.Event.{Event}
use Rattle.dd_machine.specs.Legal.{May}
use Rattle.dd_machine.specs.States.{State}
use Rattle.dd_next.specs.First.{IsFirstLegal}
use Rattle.dd_next.proofs.FirstLemmas.{first_head, first_none, first_some, first_tail, none_of_none}

-- the first legal one of some events is the first of all
pub record IsLeft (plan : Plan) (st : State) (rest all : List Event) : Type 0 where
  pub first : (found : Option Event) → IsFirstLegal plan st rest found → IsFirstLegal plan st all found

pub left_all : (plan : Plan) (st : State) (all : List Event) → IsLeft plan st all all
left_all plan st all = record { first = λ found h. h }

-- ---- an event, or a list of them, in front
head_failed : (plan : Plan) (st : State) (event : Event) (rest all : List Event) → (May plan st event → ⊥) → IsLeft plan st (event ∷ rest) all → IsLeft plan st rest all
head_failed plan st event rest all not left = record { first = λ found h. left.first found (first_tail plan st event rest found not h) }

head_passed : (plan : Plan) (st : State) (event : Event) (rest all : List Event) → May plan st event → IsLeft plan st (event ∷ rest) all → IsFirstLegal plan st all (Some event)
head_passed plan st event rest all may left = left.first (Some event) (first_head plan st event rest may)

part_failed : (plan : Plan) (st : State) (part rest all : List Event) → IsFirstLegal plan st part None → IsLeft plan st (part ++ rest) all → IsLeft plan st rest all
part_failed plan st part rest all none left = record { first = λ found h. left.first found (first_none plan st part rest found none h) }

part_passed : (plan : Plan) (st : State) (part rest all : List Event) (event : Event) → IsFirstLegal plan st part (Some event) → IsLeft plan st (part ++ rest) all → IsFirstLegal plan st all (Some event)
part_passed plan st part rest all event some left = left.first (Some event) (first_some plan st part rest event some)

none_left : (plan : Plan) (st : State) (all : List Event) → IsLeft plan st [] all → IsFirstLegal plan st all None
none_left plan st all left = left.first None (none_of_none plan st)

-- ---- the numbers that are left, of a list and of a range from 1
drop_split : (xs : List ℕ) (i : ℕ) → i < length xs → drop i xs ≡ get_or xs i 0 ∷ drop (i + 1) xs
drop_split xs i lt = drop-cons xs i 0 lt ∙ ap (λ (k : ℕ). get_or xs i 0 ∷ drop k xs) (let e : suc i ≡ i + 1 = omega arith in e)

range_split : (i n : ℕ) → i < n → range_with_len (i + 1) (n - i) ≡ (i + 1) ∷ range_with_len ((i + 1) + 1) (n - (i + 1))
range_split i n lt = ap (range_with_len (i + 1)) (let e : n - i ≡ suc (n - (i + 1)) = omega (arith, lt) in e)

range_end : (i n : ℕ) → n ≤ i → range_with_len (i + 1) (n - i) ≡ []
range_end i n le = ap (range_with_len (i + 1)) (let e : n - i ≡ 0 = omega (arith, le) in e)

-- ---- an event for each number of a list
pub map_failed : (plan : Plan) (st : State) (f : ℕ → Event) (xs : List ℕ) (i : ℕ) (all : List Event) → i < length xs → (May plan st (f (get_or xs i 0)) → ⊥) → IsLeft plan st (map f (drop i xs)) all → IsLeft plan st (map f (drop (i + 1) xs)) all
map_failed plan st f xs i all lt not left = head_failed plan st (f (get_or xs i 0)) (map f (drop (i + 1) xs)) all not (subst (λ (ys : List ℕ). IsLeft plan st (map f ys) all) (drop_split xs i lt) left)

pub map_passed : (plan : Plan) (st : State) (f : ℕ → Event) (xs : List ℕ) (i : ℕ) (all : List Event) → i < length xs → May plan st (f (get_or xs i 0)) → IsLeft plan st (map f (drop i xs)) all → IsFirstLegal plan st all (Some (f (get_or xs i 0)))
map_passed plan st f xs i all lt may left = head_passed plan st (f (get_or xs i 0)) (map f (drop (i + 1) xs)) all may (subst (λ (ys : List ℕ). IsLeft plan st (map f ys) all) (drop_split xs i lt) left)

pub map_end : (plan : Plan) (st : State) (f : ℕ → Event) (xs : List ℕ) (i : ℕ) (all : List Event) → length xs ≤ i → IsLeft plan st (map f (drop i xs)) all → IsFirstLegal plan st all None
map_end plan st f xs i all le left = none_left plan st all (subst (λ (ys : List ℕ). IsLeft plan st (map f ys) all) (drop_all i xs le) left)

-- ---- a list of events for each number of a list
pub flat_failed : (plan : Plan) (st : State) (f : ℕ → List Event) (xs : List ℕ) (i : ℕ) (all : List Event) → i < length xs → IsFirstLegal plan st (f (get_or xs i 0)) None → IsLeft plan st (flat_map f (drop i xs)) all → IsLeft plan st (flat_map f (drop (i + 1) xs)) all
flat_failed plan st f xs i all lt none left = part_failed plan st (f (get_or xs i 0)) (flat_map f (drop (i + 1) xs)) all none (subst (λ (ys : List ℕ). IsLeft plan st (flat_map f ys) all) (drop_split xs i lt) left)

pub flat_passed : (plan : Plan) (st : State) (f : ℕ → List Event) (xs : List ℕ) (i : ℕ) (all : List Event) (event : Event) → i < length xs → IsFirstLegal plan st (f (get_or xs i 0)) (Some event) → IsLeft plan st (flat_map f (drop i xs)) all → IsFirstLegal plan st all (Some event)
flat_passed plan st f xs i all event lt some left = part_passed plan st (f (get_or xs i 0)) (flat_map f (drop (i + 1) xs)) all event some (subst (λ (ys : List ℕ). IsLeft plan st (flat_map f ys) all) (drop_split xs i lt) left)

pub flat_end : (plan : Plan) (st : State) (f : ℕ → List Event) (xs : List ℕ) (i : ℕ) (all : List Event) → length xs ≤ i → IsLeft plan st (flat_map f (drop i xs)) all → IsFirstLegal plan st all None
flat_end plan st f xs i all le left = none_left plan st all (subst (λ (ys : List ℕ). IsLeft plan st (flat_map f ys) all) (drop_all i xs le) left)

-- ---- the same for each number of a range
pub range_failed : (plan : Plan) (st : State) (f : ℕ → Event) (i n : ℕ) (all : List Event) → i < n → (May plan st (f (i + 1)) → ⊥) → IsLeft plan st (map f (range_with_len (i + 1) (n - i))) all → IsLeft plan st (map f (range_with_len ((i + 1) + 1) (n - (i + 1)))) all
range_failed plan st f i n all lt not left = head_failed plan st (f (i + 1)) (map f (range_with_len ((i + 1) + 1) (n - (i + 1)))) all not (subst (λ (ys : List ℕ). IsLeft plan st (map f ys) all) (range_split i n lt) left)

pub range_passed : (plan : Plan) (st : State) (f : ℕ → Event) (i n : ℕ) (all : List Event) → i < n → May plan st (f (i + 1)) → IsLeft plan st (map f (range_with_len (i + 1) (n - i))) all → IsFirstLegal plan st all (Some (f (i + 1)))
range_passed plan st f i n all lt may left = head_passed plan st (f (i + 1)) (map f (range_with_len ((i + 1) + 1) (n - (i + 1)))) all may (subst (λ (ys : List ℕ). IsLeft plan st (map f ys) all) (range_split i n lt) left)

pub range_none : (plan : Plan) (st : State) (f : ℕ → Event) (i n : ℕ) (all : List Event) → n ≤ i → IsLeft plan st (map f (range_with_len (i + 1) (n - i))) all → IsFirstLegal plan st all None
range_none plan st f i n all le left = none_left plan st all (subst (λ (ys : List ℕ). IsLeft plan st (map f ys) all) (range_end i n le) left)

pub parts_failed : (plan : Plan) (st : State) (f : ℕ → List Event) (i n : ℕ) (all : List Event) → i < n → IsFirstLegal plan st (f (i + 1)) None → IsLeft plan st (flat_map f (range_with_len (i + 1) (n - i))) all → IsLeft plan st (flat_map f (range_with_len ((i + 1) + 1) (n - (i + 1)))) all
parts_failed plan st f i n all lt none left = part_failed plan st (f (i + 1)) (flat_map f (range_with_len ((i + 1) + 1) (n - (i + 1)))) all none (subst (λ (ys : List ℕ). IsLeft plan st (flat_map f ys) all) (range_split i n lt) left)

pub parts_passed : (plan : Plan) (st : State) (f : ℕ → List Event) (i n : ℕ) (all : List Event) (event : Event) → i < n → IsFirstLegal plan st (f (i + 1)) (Some event) → IsLeft plan st (flat_map f (range_with_len (i + 1) (n - i))) all → IsFirstLegal plan st all (Some event)
parts_passed plan st f i n all event lt some left = part_passed plan st (f (i + 1)) (flat_map f (range_with_len ((i + 1) + 1) (n - (i + 1)))) all event some (subst (λ (ys : List ℕ). IsLeft plan st (flat_map f ys) all) (range_split i n lt) left)

pub parts_none : (plan : Plan) (st : State) (f : ℕ → List Event) (i n : ℕ) (all : List Event) → n ≤ i → IsLeft plan st (flat_map f (range_with_len (i + 1) (n - i))) all → IsFirstLegal plan st all None
parts_none plan st f i n all le left = none_left plan st all (subst (λ (ys : List ℕ). IsLeft plan st (flat_map f ys) all) (range_end i n le) left)
