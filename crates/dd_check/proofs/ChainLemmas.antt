-- Kinds that are asked one group after the other.
use Rattle.std.proofs.Common.{◌≡◌, ℕ, true, false, List, [], ◌∷◌, ◌++◌, inl, inr, ap}
use Rattle.dd_script.specs.declared.statement.Statement.{Statement}
use Rattle.dd_script.specs.declared.statement.Statement.TheVariants.{Space, Proc, PolicyIs, PlaceIs, Array, Same, Drop, MoveTo, Region, Task, End, Print, Sum, Moved}
use Rattle.dd_check.specs.declared.fault.Fault.{Fault}
use Rattle.dd_check.specs.declared.fault.AcceptFault.{AcceptFault}
use Rattle.dd_check.specs.declared.fault.AcceptFault.TheVariants.{Script, Memory}
use Rattle.dd_check.specs.declared.kind.Kind.{Kind}
use Rattle.dd_check.specs.declared.kind.Kind.TheVariants.{TaskTooLarge}
use Rattle.dd_check.specs.Above.{Above}
use Rattle.dd_check.specs.Chain.{IsFound, IsFoundOr, argument_kinds, is_task, name_kinds, place_kinds, size_kinds, view_kinds}
use Rattle.dd_check.specs.Faults.{AreClear, IsClear, IsFirstOf, kinds}
use Rattle.dd_check.specs.Kinds.{HasArgCount, HasBadAccess, HasLargeTask, HasMismatch, HasNoSquare, HasRangeFault, HasUnknownKernel, IsMisplaced}

pub clear_both : (n : ℕ) (s : Above) (x : Statement) (asked more : List Kind) → AreClear n s x asked → AreClear n s x more → AreClear n s x (asked ++ more)
clear_both n s x [] more a b = b
clear_both n s x (kind ∷ asked) more a b = (a.0, clear_both n s x asked more a.1 b)

pub found_before : (n : ℕ) (s : Above) (x : Statement) (fault : Fault) (asked more : List Kind) → IsFirstOf n s x asked fault → IsFirstOf n s x (asked ++ more) fault
found_before n s x fault [] more f = absurd f
found_before n s x fault (kind ∷ asked) more f = elim f as (λ _. IsFirstOf n s x ((kind ∷ asked) ++ more) fault) [
  | inl here ↦ inl here
  | inr rest ↦ inr (rest.0, found_before n s x fault asked more rest.1)
]

pub found_behind : (n : ℕ) (s : Above) (x : Statement) (fault : Fault) (asked more : List Kind) → AreClear n s x asked → IsFirstOf n s x more fault → IsFirstOf n s x (asked ++ more) fault
found_behind n s x fault [] more clear f = f
found_behind n s x fault (kind ∷ asked) more clear f = inr (clear.0, found_behind n s x fault asked more clear.1 f)

-- so of an answer
pub answer_before : (e : AcceptFault) (n : ℕ) (s : Above) (x : Statement) (asked more : List Kind) → IsFoundOr e n s x asked → IsFoundOr e n s x (asked ++ more)
answer_before (Script fault) n s x asked more found = record { line = found.line; first = found_before n s x fault asked more found.first }
answer_before Memory n s x asked more found = tt

pub answer_behind : (e : AcceptFault) (n : ℕ) (s : Above) (x : Statement) (asked more : List Kind) → AreClear n s x asked → IsFoundOr e n s x more → IsFoundOr e n s x (asked ++ more)
answer_behind (Script fault) n s x asked more clear found = record { line = found.line; first = found_behind n s x fault asked more clear found.first }
answer_behind Memory n s x asked more clear found = tt

-- The answers of the groups, as answers of all kinds.

pub argument_answer : (n : ℕ) (s : Above) (x : Statement) (fault : Fault) → AreClear n s x name_kinds → IsFound n s x argument_kinds fault → IsFound n s x kinds fault
argument_answer n s x fault names found = record {
  line = found.line;
  first = found_behind n s x fault name_kinds (argument_kinds ++ view_kinds ++ place_kinds ++ size_kinds) names
      (found_before n s x fault argument_kinds (view_kinds ++ place_kinds ++ size_kinds) found.first);
}

pub view_answer : (e : AcceptFault) (n : ℕ) (s : Above) (x : Statement) → AreClear n s x name_kinds → AreClear n s x argument_kinds → IsFoundOr e n s x view_kinds → IsFoundOr e n s x kinds
view_answer e n s x names arguments found =
    answer_behind e n s x name_kinds (argument_kinds ++ view_kinds ++ place_kinds ++ size_kinds) names
    (answer_behind e n s x argument_kinds (view_kinds ++ place_kinds ++ size_kinds) arguments
    (answer_before e n s x view_kinds (place_kinds ++ size_kinds) found))

pub place_answer : (n : ℕ) (s : Above) (x : Statement) (fault : Fault) → AreClear n s x name_kinds → AreClear n s x argument_kinds → AreClear n s x view_kinds → IsFound n s x place_kinds fault → IsFound n s x kinds fault
place_answer n s x fault names arguments views found = record {
  line = found.line;
  first = found_behind n s x fault name_kinds (argument_kinds ++ view_kinds ++ place_kinds ++ size_kinds) names
      (found_behind n s x fault argument_kinds (view_kinds ++ place_kinds ++ size_kinds) arguments
      (found_behind n s x fault view_kinds (place_kinds ++ size_kinds) views
      (found_before n s x fault place_kinds size_kinds found.first)));
}

pub size_answer : (e : AcceptFault) (n : ℕ) (s : Above) (x : Statement) → AreClear n s x name_kinds → AreClear n s x argument_kinds → AreClear n s x view_kinds → AreClear n s x place_kinds → IsFoundOr e n s x size_kinds → IsFoundOr e n s x kinds
size_answer e n s x names arguments views places found =
    answer_behind e n s x name_kinds (argument_kinds ++ view_kinds ++ place_kinds ++ size_kinds) names
    (answer_behind e n s x argument_kinds (view_kinds ++ place_kinds ++ size_kinds) arguments
    (answer_behind e n s x view_kinds (place_kinds ++ size_kinds) views
    (answer_behind e n s x place_kinds size_kinds places found)))

pub all_clear : (n : ℕ) (s : Above) (x : Statement) → AreClear n s x name_kinds → AreClear n s x argument_kinds → AreClear n s x view_kinds → AreClear n s x place_kinds → AreClear n s x size_kinds → AreClear n s x kinds
all_clear n s x names arguments views places sizes =
    clear_both n s x name_kinds (argument_kinds ++ view_kinds ++ place_kinds ++ size_kinds) names
    (clear_both n s x argument_kinds (view_kinds ++ place_kinds ++ size_kinds) arguments
    (clear_both n s x view_kinds (place_kinds ++ size_kinds) views
    (clear_both n s x place_kinds size_kinds places sizes)))

-- another statement than a task has no arguments
pub no_arguments : (n : ℕ) (s : Above) (x : Statement) → is_task x ≡ false → AreClear n s x argument_kinds
no_arguments n s x other = (
  (λ a b h. absurd (unknown x other h.0)),
  (
    (λ a b h. absurd (counted x other h)),
    (
      (λ a b h. absurd (used x other h.0)),
      tt,
    ),
  ),
)
  where
    unknown : (y : Statement) → is_task y ≡ false → HasUnknownKernel y → ⊥
    unknown (Space name limit) o h = h
    unknown (Proc name space) o h = h
    unknown (PolicyIs policy) o h = h
    unknown (PlaceIs rule) o h = h
    unknown (Array name rows cols brows bcols fill) o h = h
    unknown (Same name old) o h = h
    unknown (Drop name) o h = h
    unknown (MoveTo name space) o h = h
    unknown Region o h = h
    unknown (Task kernel scalar pieces) o h = absurd (cc)
    unknown End o h = h
    unknown (Print name) o h = h
    unknown (Sum name) o h = h
    unknown Moved o h = h

    used : (y : Statement) → is_task y ≡ false → HasBadAccess y → ⊥
    used (Space name limit) o h = h
    used (Proc name space) o h = h
    used (PolicyIs policy) o h = h
    used (PlaceIs rule) o h = h
    used (Array name rows cols brows bcols fill) o h = h
    used (Same name old) o h = h
    used (Drop name) o h = h
    used (MoveTo name space) o h = h
    used Region o h = h
    used (Task kernel scalar pieces) o h = absurd (cc)
    used End o h = h
    used (Print name) o h = h
    used (Sum name) o h = h
    used Moved o h = h

    counted : (y : Statement) {a b : ℕ} → is_task y ≡ false → HasArgCount y a b → ⊥
    counted y o h = let task : is_task y ≡ true = ap is_task h.is in absurd (cc)

pub no_views : (n : ℕ) (s : Above) (x : Statement) → is_task x ≡ false → AreClear n s x view_kinds
no_views n s x other = (
  (λ a b h. absurd (ranged x other h.0)),
  (
    (λ a b h. absurd (squared x other h.0)),
    (
      (λ a b h. absurd (shaped x other h.0)),
      tt,
    ),
  ),
)
  where
    ranged : (y : Statement) → is_task y ≡ false → HasRangeFault s y → ⊥
    ranged (Space name limit) o h = h
    ranged (Proc name space) o h = h
    ranged (PolicyIs policy) o h = h
    ranged (PlaceIs rule) o h = h
    ranged (Array name rows cols brows bcols fill) o h = h
    ranged (Same name old) o h = h
    ranged (Drop name) o h = h
    ranged (MoveTo name space) o h = h
    ranged Region o h = h
    ranged (Task kernel scalar pieces) o h = absurd (cc)
    ranged End o h = h
    ranged (Print name) o h = h
    ranged (Sum name) o h = h
    ranged Moved o h = h

    squared : (y : Statement) → is_task y ≡ false → HasNoSquare s y → ⊥
    squared (Space name limit) o h = h
    squared (Proc name space) o h = h
    squared (PolicyIs policy) o h = h
    squared (PlaceIs rule) o h = h
    squared (Array name rows cols brows bcols fill) o h = h
    squared (Same name old) o h = h
    squared (Drop name) o h = h
    squared (MoveTo name space) o h = h
    squared Region o h = h
    squared (Task kernel scalar pieces) o h = absurd (cc)
    squared End o h = h
    squared (Print name) o h = h
    squared (Sum name) o h = h
    squared Moved o h = h

    shaped : (y : Statement) → is_task y ≡ false → HasMismatch s y → ⊥
    shaped (Space name limit) o h = h
    shaped (Proc name space) o h = h
    shaped (PolicyIs policy) o h = h
    shaped (PlaceIs rule) o h = h
    shaped (Array name rows cols brows bcols fill) o h = h
    shaped (Same name old) o h = h
    shaped (Drop name) o h = h
    shaped (MoveTo name space) o h = h
    shaped Region o h = h
    shaped (Task kernel scalar pieces) o h = absurd (cc)
    shaped End o h = h
    shaped (Print name) o h = h
    shaped (Sum name) o h = h
    shaped Moved o h = h

-- nor does it take room in a space
pub no_large_task : (n : ℕ) (s : Above) (x : Statement) → is_task x ≡ false → IsClear n s x TaskTooLarge
no_large_task n s x other = λ a b h.
    let large : HasLargeTask n s x a b = h in
    let task : is_task x ≡ true = ap is_task large.is in
    absurd (cc)

-- a statement that may stand there
pub place_clear : (n : ℕ) (s : Above) (x : Statement) → ¬ IsMisplaced s x → AreClear n s x place_kinds
place_clear n s x placed = ((λ a b h. placed h.0), tt)
