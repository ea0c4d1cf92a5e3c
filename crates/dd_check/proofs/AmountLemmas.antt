-- The limits that a statement passes.
use Rattle.std.proofs.Common.{◌≡◌, ◌≢◌, ℤ, ℕ, Bool, true, false, cond, nat_lt, List, [], ◌∷◌, MatchOption, Option, None, Some, refl, sym, ap, ◌∙◌}
use Rattle.std.specs.Option.{option_or}
use Rattle.dd_blocks.specs.declared.fill.Fill.{Fill}
use Rattle.dd_script.specs.declared.statement.Statement.{Statement}
use Rattle.dd_script.specs.declared.statement.Statement.TheVariants.{Space, Proc, PolicyIs, PlaceIs, Array, Same, Drop, MoveTo, Region, Task, End, Print, Sum, Moved}
use Rattle.dd_check.specs.declared.kind.Kind.TheVariants.{TooMany}
use Rattle.dd_check.specs.Above.{Above}
use Rattle.dd_check.specs.Amounts.{amount_alone}
use Rattle.dd_check.specs.Chain.{is_task}
use Rattle.dd_check.specs.Faults.{IsClear}
use Rattle.dd_check.specs.Kinds.{AreAmounts, HasTooMany, limit_passed}

first_of_three : (a b c : Bool) (x y z : ℕ) → option_or (option_or (cond a (Some x) None) (cond b (Some y) None)) (cond c (Some z) None) ≡ cond a (Some x) (cond b (Some y) (cond c (Some z) None))
first_of_three true b c x y z = refl
first_of_three false true c x y z = refl
first_of_three false false c x y z = refl

-- the first of three limits, each asked for itself
pub three_asked : (p q r : Option ℕ) (a b c x y z : ℕ) → p ≡ limit_passed (amount_alone a x) → q ≡ limit_passed (amount_alone b y) → r ≡ limit_passed (amount_alone c z)
    → option_or (option_or p q) r ≡ limit_passed ((a, x) ∷ (b, y) ∷ (c, z) ∷ [])
three_asked p q r a b c x y z first second third = rw (first, second, third) (first_of_three (nat_lt x a) (nat_lt y b) (nat_lt z c) x y z)

-- the limit of one amount, by what the amount is
pub alone : (o : Option ℕ) (a b x : ℕ) → o ≡ limit_passed (amount_alone a x) → a ≡ b → o ≡ limit_passed (amount_alone b x)
alone o a b x is same = is ∙ ap (λ (n : ℕ). limit_passed (amount_alone n x)) same

-- each statement but a task has its amounts
some_amounts : (n : ℕ) (s : Above) (x : Statement) → is_task x ≡ false → (amounts : List (ℕ × ℕ)) × AreAmounts n s x amounts
some_amounts n s (Space name limit) other = (_, refl)
some_amounts n s (Proc name space) other = (_, refl)
some_amounts n s (PolicyIs policy) other = (_, refl)
some_amounts n s (PlaceIs rule) other = (_, refl)
some_amounts n s (Array name rows cols brows bcols fill) other = (_, refl)
some_amounts n s (Same name old) other = (_, refl)
some_amounts n s (Drop name) other = (_, refl)
some_amounts n s (MoveTo name space) other = (_, refl)
some_amounts n s Region other = (_, refl)
some_amounts n s (Task kernel scalar pieces) other = absurd (cc)
some_amounts n s End other = (_, refl)
some_amounts n s (Print name) other = (_, refl)
some_amounts n s (Sum name) other = (_, refl)
some_amounts n s Moved other = (_, refl)

-- a statement that is none of these passes no limit
pub no_limit : (n : ℕ) (s : Above) (x : Statement) (amounts : List (ℕ × ℕ)) → is_task x ≡ false
    → ((name : List ℕ) (limit : ℕ) → x ≢ Space name limit)
    → ((name space : List ℕ) → x ≢ Proc name space)
    → ((name : List ℕ) (rows cols brows bcols : ℤ) (fill : Fill) → x ≢ Array name rows cols brows bcols fill)
    → ((name space : List ℕ) → x ≢ MoveTo name space)
    → ((name : List ℕ) → x ≢ Print name)
    → ((name : List ℕ) → x ≢ Sum name)
    → AreAmounts n s x amounts → None ≡ limit_passed amounts
no_limit n s (Space name limit) amounts other spaces procs arrays moves prints sums are = absurd (spaces name limit refl)
no_limit n s (Proc name space) amounts other spaces procs arrays moves prints sums are = absurd (procs name space refl)
no_limit n s (PolicyIs policy) amounts other spaces procs arrays moves prints sums are = sym (ap limit_passed are)
no_limit n s (PlaceIs rule) amounts other spaces procs arrays moves prints sums are = sym (ap limit_passed are)
no_limit n s (Array name rows cols brows bcols fill) amounts other spaces procs arrays moves prints sums are = absurd (arrays name rows cols brows bcols fill refl)
no_limit n s (Same name old) amounts other spaces procs arrays moves prints sums are = sym (ap limit_passed are)
no_limit n s (Drop name) amounts other spaces procs arrays moves prints sums are = sym (ap limit_passed are)
no_limit n s (MoveTo name space) amounts other spaces procs arrays moves prints sums are = absurd (moves name space refl)
no_limit n s Region amounts other spaces procs arrays moves prints sums are = sym (ap limit_passed are)
no_limit n s (Task kernel scalar pieces) amounts other spaces procs arrays moves prints sums are = absurd (cc)
no_limit n s End amounts other spaces procs arrays moves prints sums are = sym (ap limit_passed are)
no_limit n s (Print name) amounts other spaces procs arrays moves prints sums are = absurd (prints name refl)
no_limit n s (Sum name) amounts other spaces procs arrays moves prints sums are = absurd (sums name refl)
no_limit n s Moved amounts other spaces procs arrays moves prints sums are = sym (ap limit_passed are)

pub passed_answer : (s : Above) (x : Statement) (found : Option ℕ) → is_task x ≡ false → ((n : ℕ) (amounts : List (ℕ × ℕ)) → AreAmounts n s x amounts → found ≡ limit_passed amounts)
    → MatchOption found ((n : ℕ) → IsClear n s x TooMany) (λ limit. (n : ℕ) → HasTooMany n s x limit)
passed_answer s x None other is = λ n a b h. let none = is n h.0.amounts h.0.are in let some = h.0.passed in absurd (cc)
passed_answer s x (Some limit) other is = λ n.
    let some = some_amounts n s x other in
    record { amounts = some.0; are = some.1; passed = sym (is n some.0 some.1) }
