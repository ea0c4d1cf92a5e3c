-- The homes of arrays, row by row and array by array.
use Rattle.std.proofs.Common.{◌≡◌, ◌≢◌, ℕ, ◌+◌, ◌-◌, ◌<◌, ◌≤◌, Bool, true, false, eqb, cond, List, [], ◌∷◌, ◌++◌, length, get_or, set, take, replicate, Option, None, Some, refl, sym, ap, ◌∙◌, arith, ⊎_elim, get_or-set_other, get_or-set_same}
use Rattle.std.specs.List.{cons_option, last_or}
use Rattle.std.specs.Option.{unwrap_or}
use Rattle.std.proofs.lemmas.Bool.{cases_eq, cases_lt, ne_eqb}
use Rattle.std.proofs.lemmas.Bool.Decides.{nat_tests}
use Rattle.std.proofs.lemmas.List.{get_or-replicate, get_or_append_left, length-append, length-replicate, length-set}
use Rattle.std.proofs.lemmas.List.Elements.{All-head, All-tail}
use Rattle.std.proofs.Math.Seq.{get_or-append_seam}
use Rattle.dd_blocks.specs.declared.statement_row.StatementRow.{StatementRow}
use Rattle.dd_blocks.specs.declared.what.What.{What}
use Rattle.dd_blocks.specs.declared.what.What.TheVariants.{Put, Print, Sum, Moved, Same, Drop, MoveTo, Region}
use Rattle.dd_blocks.specs.ArrayHomes.{AreMovedTo, HasArray, HaveArrays, homes_after}
use Rattle.dd_blocks.specs.Homes.{space_moved_to, spaces_of}
use Rattle.dd_blocks.proofs.HomesLemmas.{home_push}

-- ---- row by row

stays : (arrays n : ℕ) (homes : List ℕ) (what : What) → length homes ≡ arrays → 1 ≤ n → n ≤ arrays → HasArray arrays what
    → get_or (homes_after homes what) (n - 1) 0 ≡ unwrap_or (space_moved_to n what) (get_or homes (n - 1) 0)
stays arrays n homes (MoveTo array space) many low high has =
    ⊎_elim
    (λ (e : array ≡ n).
    let test : eqb array n ≡ true = grind (arith, nat_tests) in
    let lt : array - 1 < length homes = omega arith in
    ap (λ (i : ℕ). get_or (set homes (array - 1) space) i 0) (let same : n - 1 ≡ array - 1 = omega arith in same)
    ∙ get_or-set_same homes (array - 1) space 0 lt
    ∙ sym (ap (λ (b : Bool). unwrap_or (cond b (Some space) None) (get_or homes (n - 1) 0)) test))
    (λ (ne : array ≢ n).
    let test : eqb array n ≡ false = grind (arith, nat_tests) in
    let other : n - 1 ≢ array - 1 = omega arith in
    get_or-set_other homes (array - 1) (n - 1) space 0 other
    ∙ sym (ap (λ (b : Bool). unwrap_or (cond b (Some space) None) (get_or homes (n - 1) 0)) test))
    (cases_eq array n)
stays arrays n homes (Put array) many low high has = refl
stays arrays n homes (Print array) many low high has = refl
stays arrays n homes (Sum array name) many low high has = refl
stays arrays n homes Moved many low high has = refl
stays arrays n homes (Same array) many low high has = refl
stays arrays n homes (Drop array last) many low high has = refl
stays arrays n homes (Region region) many low high has = refl

length_after : (homes : List ℕ) (what : What) → length (homes_after homes what) ≡ length homes
length_after homes (MoveTo array space) = length-set homes (array - 1) space
length_after homes (Put array) = refl
length_after homes (Print array) = refl
length_after homes (Sum array name) = refl
length_after homes Moved = refl
length_after homes (Same array) = refl
length_after homes (Drop array last) = refl
length_after homes (Region region) = refl

pub moved_none : (arrays : ℕ) (rows : List StatementRow) → AreMovedTo arrays (take 0 rows) (replicate arrays 0)
moved_none arrays rows = record {
  count = length-replicate arrays 0;
  each = λ n low high. get_or-replicate arrays (n - 1) 0 0 (omega arith);
}

-- after one row more
pub moved_push : (arrays : ℕ) (rows : List StatementRow) (homes : List ℕ) (row : StatementRow) → HasArray arrays row.what → AreMovedTo arrays rows homes
    → AreMovedTo arrays (rows ++ row ∷ []) (homes_after homes row.what)
moved_push arrays rows homes row has moved = record {
  count = length_after homes row.what ∙ moved.count;
  each = λ n low high.
      stays arrays n homes row.what moved.count low high has
      ∙ ap (unwrap_or (space_moved_to n row.what)) (moved.each n low high)
      ∙ sym (home_push n 0 rows row);
}

-- ---- array by array

not_moved : (arrays n : ℕ) (what : What) → arrays < n → HasArray arrays what → space_moved_to n what ≡ None
not_moved arrays n (MoveTo array space) past has = ap (λ (b : Bool). cond b (Some space) None) (ne_eqb array n (λ same. omega (arith, same, has)))
not_moved arrays n (Put array) past has = refl
not_moved arrays n (Print array) past has = refl
not_moved arrays n (Sum array name) past has = refl
not_moved arrays n Moved past has = refl
not_moved arrays n (Same array) past has = refl
not_moved arrays n (Drop array last) past has = refl
not_moved arrays n (Region region) past has = refl

no_spaces : (arrays n : ℕ) (rows : List StatementRow) → arrays < n → HaveArrays arrays rows → spaces_of n rows ≡ []
no_spaces arrays n [] past have = refl
no_spaces arrays n (row ∷ rows) past have =
    let P : StatementRow → Type 0 = λ r. HasArray arrays r.what in
    ap (λ (o : Option ℕ). cons_option o (spaces_of n rows)) (not_moved arrays n row.what past (All-head P row rows have)) ∙ no_spaces arrays n rows past (All-tail P row rows have)

-- an array that comes next is moved by none of the rows
pub moved_array : (arrays : ℕ) (rows : List StatementRow) (homes : List ℕ) → HaveArrays arrays rows → AreMovedTo arrays rows homes → AreMovedTo (arrays + 1) rows (homes ++ 0 ∷ [])
moved_array arrays rows homes have moved = record {
  count = length-append homes (0 ∷ []) ∙ ap (λ (n : ℕ). n + 1) moved.count;
  each = λ n low high. ⊎_elim
      (λ (last : arrays < n).
      let at : n - 1 ≡ length homes = omega (arith, moved.count) in
      ap (λ (i : ℕ). get_or (homes ++ 0 ∷ []) i 0) at ∙ get_or-append_seam homes 0 [] 0
      ∙ sym (ap (λ (xs : List ℕ). unwrap_or (last_or None xs) 0) (no_spaces arrays n rows last have)))
      (λ (before : n ≤ arrays). get_or_append_left homes (0 ∷ []) 0 (n - 1) (omega (arith, moved.count)) ∙ moved.each n low before)
      (cases_lt arrays n);
}
