-- The spaces to which the rows of a Plan move its arrays are spaces of the Plan.
use Rattle.std.proofs.Common.{◌≡◌, ℕ, Bool, true, false, eqb, cond, List, [], ◌∷◌, length, Option, None, Some, refl, sym, ap, arith}
use Rattle.std.specs.Option.{unwrap_or}
use Rattle.std.specs.List.{All, cons_option, last_or}
use Rattle.std.proofs.lemmas.Bool.Decides.{nat_tests}
use Rattle.std.proofs.lemmas.List.Elements.{All-head, All-tail, All-weaker}
use Rattle.dd_blocks.specs.declared.plan.Plan.{Plan}
use Rattle.dd_blocks.specs.declared.statement_row.StatementRow.{StatementRow}
use Rattle.dd_blocks.specs.declared.what.What.{What}
use Rattle.dd_blocks.specs.declared.what.What.TheVariants.{Put, Print, Sum, Moved, Same, Drop, MoveTo, Region}
use Rattle.dd_blocks.specs.ArrayHomes.{HasArray, HaveArrays}
use Rattle.dd_blocks.specs.Homes.{home_after, space_moved_to, spaces_of}
use Rattle.dd_blocks.specs.Numbered.{IsNumberIn}
use Rattle.dd_blocks.specs.WellFormed.{StatementNamesRows}

abbrev pub Names : Plan → List StatementRow → Type 0
Names plan rows = All (λ (row : StatementRow). StatementNamesRows plan row.what) rows

-- a statement names an array that there is
pub has_array : (plan : Plan) (what : What) → StatementNamesRows plan what → HasArray (length plan.arrays) what
has_array plan (MoveTo array space) names = names.0
has_array plan (Put array) names = tt
has_array plan (Print array) names = tt
has_array plan (Sum array name) names = tt
has_array plan Moved names = tt
has_array plan (Same array) names = tt
has_array plan (Drop array last) names = tt
has_array plan (Region region) names = tt

pub have_arrays : (plan : Plan) (rows : List StatementRow) → Names plan rows → HaveArrays (length plan.arrays) rows
have_arrays plan rows names =
    All-weaker (λ (row : StatementRow). StatementNamesRows plan row.what) (λ (row : StatementRow). HasArray (length plan.arrays) row.what) (λ row n. has_array plan row.what n) rows names

-- a space of the Plan, where there is one
abbrev pub IsSpaceOr : Plan → Option ℕ → Type 0
IsSpaceOr plan None = Unit {0}
IsSpaceOr plan (Some space) = IsNumberIn plan.spaces space

moved_within : (plan : Plan) (n : ℕ) (what : What) → StatementNamesRows plan what → IsSpaceOr plan (space_moved_to n what)
moved_within plan n (MoveTo array space) names = elim (eqb array n) as (λ (b : Bool). IsSpaceOr plan (cond b (Some space) None)) [ true ↦ names.1 | false ↦ tt ]
moved_within plan n (Put array) names = tt
moved_within plan n (Print array) names = tt
moved_within plan n (Sum array name) names = tt
moved_within plan n Moved names = tt
moved_within plan n (Same array) names = tt
moved_within plan n (Drop array last) names = tt
moved_within plan n (Region region) names = tt

with_one : (plan : Plan) (xs : List ℕ) (o moved : Option ℕ) → IsSpaceOr plan o → IsSpaceOr plan moved → ((p : Option ℕ) → IsSpaceOr plan p → IsSpaceOr plan (last_or p xs))
    → IsSpaceOr plan (last_or o (cons_option moved xs))
with_one plan xs o None inside here more = more o inside
with_one plan xs o (Some space) inside here more = more (Some space) here

last_within : (plan : Plan) (n : ℕ) (rows : List StatementRow) (o : Option ℕ) → IsSpaceOr plan o → Names plan rows → IsSpaceOr plan (last_or o (spaces_of n rows))
last_within plan n [] o inside names = inside
last_within plan n (row ∷ rows) o inside names =
    let P : StatementRow → Type 0 = λ r. StatementNamesRows plan r.what in
    let here = moved_within plan n row.what (All-head P row rows names) in
    with_one plan (spaces_of n rows) o (space_moved_to n row.what) inside here (λ p q. last_within plan n rows p q (All-tail P row rows names))

pub last_move : (plan : Plan) (n : ℕ) (rows : List StatementRow) → Names plan rows → IsSpaceOr plan (last_or None (spaces_of n rows))
last_move plan n rows names = last_within plan n rows None tt names

home_split : (plan : Plan) (o : Option ℕ) (before : ℕ) → IsSpaceOr plan o → unwrap_or o before ≡ cond (eqb (unwrap_or o 0) 0) before (unwrap_or o 0)
home_split plan None before inside = refl
home_split plan (Some space) before inside =
    let test : eqb space 0 ≡ false = grind (arith, nat_tests, inside.0) in
    sym (ap (λ (b : Bool). cond b before space) test)

-- the home after some rows, by the space to which they moved the array, or 0, and by the home before them
pub home_by_last : (plan : Plan) (n before : ℕ) (rows : List StatementRow) → Names plan rows → home_after n before rows ≡ cond (eqb (home_after n 0 rows) 0) before (home_after n 0 rows)
home_by_last plan n before rows names = home_split plan (last_or None (spaces_of n rows)) before (last_move plan n rows names)
