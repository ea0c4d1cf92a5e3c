-- Events that statements ask for, and the swaps between them.
use Rattle.std.proofs.Common.{◌≡◌, ℕ, Bool, true, ◌||◌, cond, List, [], ◌∷◌, ◌++◌, refl, ap, sym, ◌∙◌, subst, Result, Ok, Err}
use Rattle.std.specs.List.{filter, list_all}
use Rattle.std.proofs.lemmas.Bool.{and_from, and_parts}
use Rattle.std.proofs.lemmas.List.Elements.{filter-append}
use Rattle.std.proofs.lemmas.List.Folds.{list_all-append}
use Rattle.dd_blocks.specs.declared.plan.Plan.{Plan}
use Rattle.dd_core.specs.Lines.{with_line}
use Rattle.dd_machine.specs.declared.event.Event.{Event}
use Rattle.dd_machine.specs.declared.event.Event.TheVariants.{Pick}
use Rattle.dd_machine.specs.Effects.{after}
use Rattle.dd_machine.specs.States.{State}
use Rattle.dd_statements.specs.Follows.{AreOrdered, is_owed, is_swap}
use Rattle.dd_table.specs.declared.fault.RunFault.{RunFault}
use Rattle.dd_table.specs.Spills.{BeginRoom, IsPicked, IsSpilled, MakeRoom, RoomGives}

-- entries of one line
pub lines_both : (line : ℕ) (xs ys : List Event) → with_line line (xs ++ ys) ≡ with_line line xs ++ with_line line ys
lines_both line [] ys = refl
lines_both line (x ∷ xs) ys = ap (λ l. record { line = line; event = x } ∷ l) (lines_both line xs ys)

abbrev either : Event → Bool
either e = is_owed e || is_swap e

-- in two parts
pub ordered_both : (xs ys : List Event) → AreOrdered xs → AreOrdered ys → AreOrdered (xs ++ ys)
ordered_both xs ys a b = list_all-append either xs ys ∙ and_from (list_all either xs) (list_all either ys) a b

pub ordered_parts : (xs ys : List Event) → AreOrdered (xs ++ ys) → AreOrdered xs × AreOrdered ys
ordered_parts xs ys is = and_parts (list_all either xs) (list_all either ys) (sym (list_all-append either xs ys) ∙ is)

-- none of them is asked for
pub record AreSwaps (events : List Event) : Type 0 where
  pub none : filter is_owed events ≡ []
  pub ordered : AreOrdered events

pub no_swaps : AreSwaps []
no_swaps = record { none = refl; ordered = refl }

-- spills that make room
one_spill : (plan : Plan) (st : State) (space : ℕ) (first second : Event) (more : List Event) → IsSpilled plan st space first second → AreSwaps more → AreSwaps (first ∷ (second ∷ more))
one_spill plan st space first second more (over, (block, is, then)) swaps =
    subst (λ (x : Event). AreSwaps (x ∷ (second ∷ more))) (sym is) (subst (λ (y : Event). AreSwaps (Pick space block ∷ (y ∷ more))) (sym then) (record { none = swaps.none; ordered = swaps.ordered }))

pub made_swaps : (plan : Plan) (st : State) (space : ℕ) (events : List Event) → MakeRoom plan st space events → AreSwaps events
unfolding MakeRoom
made_swaps plan st space [] room = no_swaps
made_swaps plan st space (first ∷ []) room = absurd room
made_swaps plan st space (first ∷ (second ∷ more)) room = one_spill plan st space first second more room.0 (made_swaps plan (after plan (after plan st first) second) space more room.1)

pub begun_swaps : (plan : Plan) (st : State) (space : ℕ) (events : List Event) → BeginRoom plan st space events → AreSwaps events
unfolding BeginRoom
begun_swaps plan st space [] room = no_swaps
begun_swaps plan st space (first ∷ []) room = by room
  where
    by : IsPicked plan st space first → AreSwaps (first ∷ [])
    by (over, (block, is)) = subst (λ (x : Event). AreSwaps (x ∷ [])) (sym is) (record { none = refl; ordered = refl })
begun_swaps plan st space (first ∷ (second ∷ more)) room = one_spill plan st space first second more room.0 (begun_swaps plan (after plan (after plan st first) second) space more room.1)

pub given_swaps : (plan : Plan) (st : State) (space : ℕ) (events : List Event) (result : Result (Unit {0}) RunFault) → RoomGives plan st space events result → AreSwaps events
given_swaps plan st space events (Ok done) room = made_swaps plan st space events room
given_swaps plan st space events (Err fault) room = begun_swaps plan st space events room

-- an event that is asked for, swaps, and others
pub owed_with : (first : Event) (swaps more : List Event) → is_owed first ≡ true → AreSwaps swaps → filter is_owed (first ∷ (swaps ++ more)) ≡ first ∷ filter is_owed more
owed_with first swaps more is are =
    ap (λ (b : Bool). cond b (first ∷ filter is_owed (swaps ++ more)) (filter is_owed (swaps ++ more))) is
    ∙ ap (λ (l : List Event). first ∷ l) (filter-append is_owed swaps more ∙ ap (λ (l : List Event). l ++ filter is_owed more) are.none)

pub ordered_with : (first : Event) (swaps more : List Event) → is_owed first ≡ true → AreSwaps swaps → AreOrdered more → AreOrdered (first ∷ (swaps ++ more))
ordered_with first swaps more is are rest = and_from (either first) (list_all either (swaps ++ more)) (ap (λ (b : Bool). b || is_swap first) is) (ordered_both swaps more are.ordered rest)
