-- What accesses store in a block, one after the other.
use Rattle.std.proofs.Common.{◌≡◌, ℕ, zero, suc, ◌+◌, ◌<◌, ℤ, Bool, true, false, ◌||◌, ◌&&◌, cond, List, [], ◌∷◌, ◌++◌, length, take, drop, get_or, refl, sym, ap, ◌∙◌, arith}
use Rattle.std.proofs.lemmas.List.{drop_more, take-append-drop}
use Rattle.std.proofs.lemmas.List.Folds.{list_any-append}
use Rattle.dd_views.specs.IndexList.{index_list}
use Rattle.dd_blocks.specs.declared.access_row.AccessRow.{AccessRow}
use Rattle.dd_blocks.specs.Elements.{Element, has, writes}
use Rattle.dd_meaning.specs.Written.{HaveLengths, value_stored}
use Rattle.dd_stamps.specs.Stored.{some_writes}

-- one access less that is left
cond_twice : (a b : Bool) (t x : ℕ) → cond b t (cond (a || false) t x) ≡ cond (a || b) t x
cond_twice true true t x = refl
cond_twice true false t x = refl
cond_twice false b t x = refl

pub outputs_left : (accesses : List AccessRow) (lists : List (List ℤ)) (k : ℕ) (d : AccessRow) (from : List ℤ) (e : Element) (x y : ℤ) → k < length accesses → k < length lists → from ≡ get_or lists k []
    → y ≡ value_stored (get_or accesses k d ∷ []) (from ∷ []) e x
    → value_stored (drop (k + 1) accesses) (drop (k + 1) lists) e y ≡ value_stored (drop k accesses) (drop k lists) e x
outputs_left accesses lists k d from e x y lt few same is =
    rw (drop_more accesses k d lt, drop_more lists k [] few) (ap (value_stored (drop (k + 1) accesses) (drop (k + 1) lists) e) (is ∙ ap (λ (l : List ℤ). value_stored (get_or accesses k d ∷ []) (l ∷ []) e x) same))

pub number_left : (accesses : List AccessRow) (k task : ℕ) (d : AccessRow) (e : Element) (x y : ℕ) → k < length accesses → y ≡ cond (some_writes (get_or accesses k d ∷ []) e) task x
    → cond (some_writes (drop (k + 1) accesses) e) task y ≡ cond (some_writes (drop k accesses) e) task x
number_left accesses k task d e x y lt is =
    rw (drop_more accesses k d lt) (ap (cond (some_writes (drop (k + 1) accesses) e) task) is ∙ cond_twice (writes (get_or accesses k d).mode && has (get_or accesses k d) e) (some_writes (drop (k + 1) accesses) e) task x)

-- it is one of all
or_right : (a b c : Bool) → (b || false) ≡ true → (a || (b || c)) ≡ true
or_right true b c is = refl
or_right false true c is = refl
or_right false false c is = absurd (let clash : false ≡ true = is in cc)

pub one_of_all : (accesses : List AccessRow) (k : ℕ) (d : AccessRow) (e : Element) → k < length accesses → some_writes (get_or accesses k d ∷ []) e ≡ true → some_writes accesses e ≡ true
one_of_all accesses k d e lt is =
    let w : AccessRow → Bool = λ (a : AccessRow). writes a.mode && has a e in
    ap (λ (l : List AccessRow). some_writes l e) (sym (take-append-drop k accesses) ∙ ap (λ (l : List AccessRow). take k accesses ++ l) (drop_more accesses k d lt))
    ∙ list_any-append (λ (a : AccessRow). writes a.mode && has a e) (take k accesses) (get_or accesses k d ∷ drop (k + 1) accesses)
    ∙ or_right (some_writes (take k accesses) e) (writes (get_or accesses k d).mode && has (get_or accesses k d) e) (some_writes (drop (k + 1) accesses) e) is

-- lengths, one by one
pub length_at : (accesses : List AccessRow) (lists : List (List ℤ)) (k : ℕ) (d : AccessRow) → HaveLengths accesses lists → k < length accesses → length (get_or lists k []) ≡ length (index_list (get_or accesses k d).view)
length_at [] lists k d long lt = absurd (omega arith)
length_at (a ∷ more) [] k d long lt = absurd long
length_at (a ∷ more) (l ∷ lists) zero d long lt = long.0
length_at (a ∷ more) (l ∷ lists) (suc k) d long lt = length_at more lists k d long.1 (omega arith)

pub as_many : (accesses : List AccessRow) (lists : List (List ℤ)) → HaveLengths accesses lists → length lists ≡ length accesses
as_many [] [] long = refl
as_many [] (l ∷ lists) long = absurd long
as_many (a ∷ more) [] long = absurd long
as_many (a ∷ more) (l ∷ lists) long = ap suc (as_many more lists long.1)
