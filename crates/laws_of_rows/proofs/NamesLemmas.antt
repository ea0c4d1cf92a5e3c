-- How many names an array has when a row begins.
use Rattle.std.proofs.Common.{◌≡◌, ◌≢◌, ℕ, zero, suc, ◌+◌, ◌-◌, ◌^◌, ◌<◌, ◌≤◌, Bool, true, false, cond, List, [], ◌∷◌, ◌++◌, get_or, take, Option, Some, None, refl, ap, sym, ◌∙◌, subst, ⊎_elim, arith, take-suc}
use Rattle.std.specs.Prelude.{◌↔◌, Any, Contains}
use Rattle.std.specs.List.{cons_option}
use Rattle.std.proofs.lemmas.Bool.{cases_Bool, eq-eqb, eqb-true}
use Rattle.std.proofs.lemmas.List.{length-take-le}
use Rattle.std.proofs.lemmas.List.Elements.{Contains-append_cases, Contains-append_left, filter_map-append}
use Rattle.std.proofs.lemmas.List.Quantifiers.{Any-push}
use Rattle.std.proofs.lemmas.List.Sums.{count_by-le-length, sum_by_more}
use Rattle.dd_blocks.specs.declared.plan.Plan.{Plan}
use Rattle.dd_blocks.specs.declared.statement_row.StatementRow.{StatementRow}
use Rattle.dd_blocks.specs.declared.what.What.{What}
use Rattle.dd_blocks.specs.declared.what.What.TheVariants.{Put as Array, Moved, Drop}
use Rattle.dd_blocks.specs.Lives.{IsLive, SaysLast, array_put, arrays_put, arrays_used, ends_name, gives_name, names_ended, names_given}
use Rattle.dd_blocks.specs.WellFormed.{IsWellFormed}
use Rattle.dd_machine.specs.Words.{rows}
use Rattle.laws_of_rows.specs.Rows.{names_at, next_what}
use Rattle.laws_of_rows.proofs.LivesLemmas.{live_used}

-- ---- one row more

pub given_next : (plan : Plan) (i a : ℕ) → i < rows plan
    → names_given a (take (suc i) plan.statements) ≡ names_given a (take i plan.statements) + cond (gives_name a (next_what plan i)) 1 0
given_next plan i a lt =
    let e : suc i ≡ i + 1 = omega arith in
    ap (λ (n : ℕ). names_given a (take n plan.statements)) e ∙ sum_by_more (λ (row : StatementRow). cond (gives_name a row.what) 1 0) plan.statements i (record { line = 0; what = Moved }) lt

pub ended_next : (plan : Plan) (i a : ℕ) → i < rows plan
    → names_ended a (take (suc i) plan.statements) ≡ names_ended a (take i plan.statements) + cond (ends_name a (next_what plan i)) 1 0
ended_next plan i a lt =
    let e : suc i ≡ i + 1 = omega arith in
    ap (λ (n : ℕ). names_ended a (take n plan.statements)) e ∙ sum_by_more (λ (row : StatementRow). cond (ends_name a row.what) 1 0) plan.statements i (record { line = 0; what = Moved }) lt

-- a statement ends no name that it gives
gives_only : (a : ℕ) (w : What) → gives_name a w ≡ true → ends_name a w ≡ false
gives_only a (Drop b last) e = absurd cc
gives_only a _ e = refl

ends_by : (a : ℕ) (w : What) → ends_name a w ≡ true → (last : Bool) × (w ≡ Drop a last)
ends_by a (Drop b last) e = (last, ap (λ (x : ℕ). Drop x last) (let h : b ≡ a = eqb-true b a e in h))
ends_by a _ e = absurd cc

-- one that gives the array no name doesn't make it
puts_none : (a : ℕ) (w : What) → gives_name a w ≡ false → array_put w ≢ Some a
puts_none a (Array b) e = λ same. let h : b ≡ a = cc in let t = eq-eqb b a h in cc
puts_none a _ e = λ same. cc

in_option : (o : Option ℕ) (a : ℕ) → Contains (cons_option o []) a → o ≡ Some a
in_option None a here = absurd (omega (arith, here.1))
in_option (Some b) a (zero, lt, is) = ap Some is
in_option (Some b) a (suc k, lt, is) = absurd (omega (arith, lt))

any_left : (P : StatementRow → Type 0) (xs ys : List StatementRow) → Any P xs → Any P (xs ++ ys)
any_left P xs ys any =
    let here = Contains-append_left xs ys any.1 (any.0, any.2, any.3) in
    (here.0, any.1, here.1, here.2, any.4)

-- so the array was live above it
live_before : (plan : Plan) (i a : ℕ) → i < rows plan → IsLive (take (suc i) plan.statements) a → gives_name a (next_what plan i) ≡ false → IsLive (take i plan.statements) a
live_before plan i a lt live none =
    let xs = take i plan.statements in
    let row = get_or plan.statements i (record { line = 0; what = Moved }) in
    let split : take (suc i) plan.statements ≡ xs ++ row ∷ [] = take-suc plan.statements i (record { line = 0; what = Moved }) lt in
    let live' : IsLive (xs ++ row ∷ []) a = subst (λ (ys : List StatementRow). IsLive ys a) split live in
    record {
      made = ⊎_elim
          (λ (old : Contains (arrays_put xs) a). old)
          (λ (new : Contains (cons_option (array_put row.what) []) a). absurd (puts_none a row.what none (in_option (array_put row.what) a new)))
          (Contains-append_cases (arrays_put xs) (cons_option (array_put row.what) []) a
          (subst (λ (ys : List ℕ). Contains ys a) (filter_map-append (λ (r : StatementRow). array_put r.what) xs (row ∷ [])) live'.made));
      kept = λ any. live'.kept (any_left (λ (r : StatementRow). r.what ≡ Drop a true) xs (row ∷ []) any);
    }

-- ---- names so far

-- no more names ended than were given, and fewer where the array is live
record NamesStand (plan : Plan) (a i : ℕ) : Type 0 where
  few : names_ended a (take i plan.statements) ≤ names_given a (take i plan.statements)
  fewer : IsLive (take i plan.statements) a → names_ended a (take i plan.statements) < names_given a (take i plan.statements)

-- where a name of it ends, fewer ended so far, and where it isn't the last at least two are left
ends_one : (plan : Plan) (a i : ℕ) (last : Bool) → IsWellFormed plan → i < rows plan → next_what plan i ≡ Drop a last → NamesStand plan a i
    → (names_ended a (take i plan.statements) < names_given a (take i plan.statements)) × ((last ≡ true) ↔ (suc (names_ended a (take i plan.statements)) ≡ names_given a (take i plan.statements)))
ends_one plan a i last well lt is stand =
    let live = live_used plan i a well lt (subst (λ (w : What). Contains (arrays_used plan w) a) (sym is) (0, omega arith, refl)) in
    (stand.fewer live, subst (SaysLast (take i plan.statements)) is (well.lives.stand i (record { line = 0; what = Moved }) lt).last)

stands_on : (plan : Plan) (a i : ℕ) → IsWellFormed plan → i < rows plan → NamesStand plan a i → NamesStand plan a (suc i)
stands_on plan a i well lt stand =
    let given = given_next plan i a lt in
    let ended = ended_next plan i a lt in
    ⊎_elim
    (λ (gives : gives_name a (next_what plan i) ≡ true).
    let one : ◌≡◌ {A = ℕ} (cond (gives_name a (next_what plan i)) 1 0) 1 = ap (λ (t : Bool). cond t 1 0) gives in
    let none : ◌≡◌ {A = ℕ} (cond (ends_name a (next_what plan i)) 1 0) 0 = ap (λ (t : Bool). cond t 1 0) (gives_only a (next_what plan i) gives) in
    record { few = omega (arith, given, ended, one, none, stand.few); fewer = λ live. omega (arith, given, ended, one, none, stand.few) })
    (λ (no_gives : gives_name a (next_what plan i) ≡ false).
    let same : ◌≡◌ {A = ℕ} (cond (gives_name a (next_what plan i)) 1 0) 0 = ap (λ (t : Bool). cond t 1 0) no_gives in
    ⊎_elim
    (λ (ends : ends_name a (next_what plan i) ≡ true).
    let by = ends_by a (next_what plan i) ends in
    let one : ◌≡◌ {A = ℕ} (cond (ends_name a (next_what plan i)) 1 0) 1 = ap (λ (t : Bool). cond t 1 0) ends in
    let h = ends_one plan a i by.0 well lt by.1 stand in
    record {
      few = omega (arith, given, ended, same, one, h.0);
      fewer = λ live.
          let more : suc (names_ended a (take i plan.statements)) ≢ names_given a (take i plan.statements) = λ e.
          let split = take-suc plan.statements i (record { line = 0; what = Moved }) lt in
          (subst (λ (ys : List StatementRow). IsLive ys a) split live).kept
          (Any-push (λ (r : StatementRow). r.what ≡ Drop a true) (take i plan.statements) (get_or plan.statements i (record { line = 0; what = Moved })) (by.1 ∙ ap (Drop a) (h.1.1 e))) in
          omega (arith, given, ended, same, one, h.0, more);
    })
    (λ (no_ends : ends_name a (next_what plan i) ≡ false).
    let none : ◌≡◌ {A = ℕ} (cond (ends_name a (next_what plan i)) 1 0) 0 = ap (λ (t : Bool). cond t 1 0) no_ends in
    record {
      few = omega (arith, given, ended, same, none, stand.few);
      fewer = λ live. let h = stand.fewer (live_before plan i a lt live no_gives) in omega (arith, given, ended, same, none, h);
    })
    (cases_Bool (ends_name a (next_what plan i))))
    (cases_Bool (gives_name a (next_what plan i)))

names_stand : (plan : Plan) (a i : ℕ) → IsWellFormed plan → i ≤ rows plan → NamesStand plan a i
names_stand plan a zero well le = record { few = omega arith; fewer = λ live. absurd (omega (arith, live.made.1)) }
names_stand plan a (suc i) well le = stands_on plan a i well le (names_stand plan a i well (omega (arith, le)))

-- no more names ended than were given
pub ended_within : (plan : Plan) (i a : ℕ) → IsWellFormed plan → i ≤ rows plan → names_ended a (take i plan.statements) ≤ names_given a (take i plan.statements)
ended_within plan i a well le = (names_stand plan a i well le).few

-- a live array has a name
pub names_live : (plan : Plan) (i a : ℕ) → IsWellFormed plan → i ≤ rows plan → IsLive (take i plan.statements) a → 1 ≤ names_at plan i a
names_live plan i a well le live = let h = (names_stand plan a i well le).fewer live in omega (arith, h)

-- an array has fewer names than rows fit
pub names_few : (plan : Plan) (i a : ℕ) → IsWellFormed plan → i ≤ rows plan → names_at plan i a < 2 ^ 32 - 1
names_few plan i a well le =
    let many = count_by-le-length (λ (row : StatementRow). gives_name a row.what) (take i plan.statements) in
    let long = length-take-le i plan.statements le in
    omega (arith, many, long, le, well.line.rows)

-- where a name of it ends it has one, and that is the last where it has just one
pub names_some : (plan : Plan) (i a : ℕ) (last : Bool) → IsWellFormed plan → i < rows plan → next_what plan i ≡ Drop a last → 1 ≤ names_at plan i a
names_some plan i a last well lt is = let h = ends_one plan a i last well lt is (names_stand plan a i well (omega (arith, lt))) in omega (arith, h.0)

pub names_last : (plan : Plan) (i a : ℕ) (last : Bool) → IsWellFormed plan → i < rows plan → next_what plan i ≡ Drop a last → (last ≡ true) ↔ (names_at plan i a ≡ 1)
names_last plan i a last well lt is =
    let h = ends_one plan a i last well lt is (names_stand plan a i well (omega (arith, lt))) in
    ((λ yes. let e = h.1.0 yes in omega (arith, e)), (λ one. h.1.1 (omega (arith, one, h.0))))

-- ---- the names that the next row leaves

pub names_give : (plan : Plan) (i a : ℕ) → IsWellFormed plan → i < rows plan → gives_name a (next_what plan i) ≡ true → names_at plan (suc i) a ≡ suc (names_at plan i a)
names_give plan i a well lt gives =
    let given = given_next plan i a lt in
    let ended = ended_next plan i a lt in
    let one : ◌≡◌ {A = ℕ} (cond (gives_name a (next_what plan i)) 1 0) 1 = ap (λ (t : Bool). cond t 1 0) gives in
    let none : ◌≡◌ {A = ℕ} (cond (ends_name a (next_what plan i)) 1 0) 0 = ap (λ (t : Bool). cond t 1 0) (gives_only a (next_what plan i) gives) in
    let few = ended_within plan i a well (omega (arith, lt)) in
    omega (arith, given, ended, one, none, few)

pub names_end : (plan : Plan) (i a : ℕ) (last : Bool) → IsWellFormed plan → i < rows plan → next_what plan i ≡ Drop a last → suc (names_at plan (suc i) a) ≡ names_at plan i a
names_end plan i a last well lt is =
    let given = given_next plan i a lt in
    let ended = ended_next plan i a lt in
    let none : ◌≡◌ {A = ℕ} (cond (gives_name a (next_what plan i)) 1 0) 0 = ap (λ (w : What). cond (gives_name a w) 1 0) is in
    let ends : ends_name a (next_what plan i) ≡ true = ap (ends_name a) is ∙ eq-eqb a a refl in
    let one : ◌≡◌ {A = ℕ} (cond (ends_name a (next_what plan i)) 1 0) 1 = ap (λ (t : Bool). cond t 1 0) ends in
    let some = names_some plan i a last well lt is in
    omega (arith, given, ended, one, none, some)

pub names_stay : (plan : Plan) (i a : ℕ) → i < rows plan → gives_name a (next_what plan i) ≡ false → ends_name a (next_what plan i) ≡ false → names_at plan (suc i) a ≡ names_at plan i a
names_stay plan i a lt gives ends =
    let given = given_next plan i a lt in
    let ended = ended_next plan i a lt in
    let same : ◌≡◌ {A = ℕ} (cond (gives_name a (next_what plan i)) 1 0) 0 = ap (λ (t : Bool). cond t 1 0) gives in
    let none : ◌≡◌ {A = ℕ} (cond (ends_name a (next_what plan i)) 1 0) 0 = ap (λ (t : Bool). cond t 1 0) ends in
    omega (arith, given, ended, same, none)
