-- A move, block by block: one that is at home there already asks for nothing, and none changes the home of another.
use Rattle.std.proofs.Common.{◌≡◌, ℕ, suc, ◌+◌, ◌-◌, ◌<◌, ◌≤◌, Bool, true, false, cond, eqb, List, [], ◌∷◌, ◌++◌, refl, ap, ◌∙◌, zero, arith}
use Rattle.std.specs.Prelude.{not}
use Rattle.std.specs.List.{filter, flat_map, fold, range_with_len}
use Rattle.std.proofs.lemmas.List.Sums.{fold-append}
use Rattle.dd_blocks.specs.declared.plan.Plan.{Plan}
use Rattle.dd_blocks.specs.Grids.{block_count}
use Rattle.dd_blocks.specs.Numbered.{array_row}
use Rattle.dd_machine.specs.declared.event.Event.{Event}
use Rattle.dd_machine.specs.declared.event.Event.TheVariants.{Ask, Rest, Shift}
use Rattle.dd_machine.specs.Owed.{blocks_of, shifted_to}
use Rattle.dd_machine.specs.States.{State}
use Rattle.dd_machine.proofs.ChangesLemmas.{at_one_other}
use Rattle.dd_move.specs.Moves.{move_events}
use Rattle.dd_statements.proofs.LoopLemmas.{between}
use Rattle.dd_statements.proofs.StateLemmas.{homes_after}

-- what one block asks for
abbrev pub away : (ℕ → ℕ) → ℕ → ℕ → List Event
away homes space block = cond (not (eqb (homes block) space)) (shifted_to space block) []

moves_flat : (homes : ℕ → ℕ) (space : ℕ) (bs : List ℕ) → flat_map (shifted_to space) (filter (λ b. not (eqb (homes b) space)) bs) ≡ flat_map (away homes space) bs
moves_flat homes space [] = refl
moves_flat homes space (b ∷ bs) = by (not (eqb (homes b) space)) (moves_flat homes space bs)
  where
    by : (t : Bool) → flat_map (shifted_to space) (filter (λ x. not (eqb (homes x) space)) bs) ≡ flat_map (away homes space) bs
        → flat_map (shifted_to space) (cond t (b ∷ filter (λ x. not (eqb (homes x) space)) bs) (filter (λ x. not (eqb (homes x) space)) bs)) ≡ cond t (shifted_to space b) [] ++ flat_map (away homes space) bs
    by true rest = ap (λ (l : List Event). shifted_to space b ++ l) rest
    by false rest = rest

-- what all blocks ask for
pub moves_are : (plan : Plan) (st : State) (array space end : ℕ) → end ≡ (array_row plan array).first_block + block_count (array_row plan array).grid
    → move_events plan st array space ≡ between (away st.homes space) (array_row plan array).first_block end
moves_are plan st array space end is =
    moves_flat st.homes space (blocks_of plan array)
    ∙ ap (λ (n : ℕ). flat_map (away st.homes space) (range_with_len (array_row plan array).first_block n))
    (let e : block_count (array_row plan array).grid ≡ end - (array_row plan array).first_block = omega (arith, is) in e)

one_past : (t : Bool) (h : ℕ → ℕ) (space x b : ℕ) → x < b → fold homes_after h (cond t (shifted_to space x) []) b ≡ h b
one_past true h space x b lt = at_one_other h x space b (λ same. absurd (omega (arith, lt, same)))
one_past false h space x b lt = refl

range_past : (homes h : ℕ → ℕ) (space first n b : ℕ) → first + n ≤ b → fold homes_after h (flat_map (away homes space) (range_with_len first n)) b ≡ h b
range_past homes h space first zero b le = refl
range_past homes h space first (suc n) b le =
    ap (λ (f : ℕ → ℕ). f b) (fold-append homes_after h (away homes space first) (flat_map (away homes space) (range_with_len (first + 1) n)))
    ∙ range_past homes (fold homes_after h (away homes space first)) space (first + 1) n b (omega (arith, le))
    ∙ one_past (not (eqb (homes first) space)) h space first b (omega (arith, le))

-- a block that is left has its first home
pub homes_past : (homes : ℕ → ℕ) (space first b : ℕ) → first ≤ b → fold homes_after homes (between (away homes space) first b) b ≡ homes b
homes_past homes space first b le = range_past homes homes space first (b - first) b (omega (arith, le))

-- a block that is elsewhere, and one that isn't
pub away_there : (homes : ℕ → ℕ) (space b : ℕ) → eqb (homes b) space ≡ true → away homes space b ≡ []
away_there homes space b is = ap (λ (t : Bool). cond (not t) (shifted_to space b) []) is

pub away_else : (homes : ℕ → ℕ) (space b : ℕ) → eqb (homes b) space ≡ false → away homes space b ≡ Ask space b ∷ (Shift b space ∷ (Rest ∷ []))
away_else homes space b is = ap (λ (t : Bool). cond (not t) (shifted_to space b) []) is
