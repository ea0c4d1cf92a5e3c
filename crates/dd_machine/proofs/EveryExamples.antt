-- The journal with every event: its bytes and its moves, computed.
use Rattle.std.proofs.Common.{[], length, map, refl, take, ℕ, ◌∷◌, ◌≡◌}
use Rattle.std.specs.Prelude.{Some}
use Rattle.std.specs.List.{range_with_len}
use Rattle.dd_meaning.specs.Moves.{moved}
use Rattle.dd_machine.specs.Bytes.{load, resident, victim}
use Rattle.dd_machine.specs.Delivered.{delivered}
use Rattle.dd_machine.specs.Needed.{needed}
use Rattle.dd_machine.specs.Owed.{left}
use Rattle.dd_machine.specs.Runs.{state_of_run}
use Rattle.dd_machine.specs.States.{State}
use Rattle.dd_machine.proofs.Computing.{computing}
use Rattle.dd_machine.proofs.EveryPlan.{every_event, three_rows}

-- the state after so many entries
abbrev after_first : ℕ → State
after_first n = state_of_run three_rows (take n every_event)

-- after each entry, of space 1 and of space 2
loads_one : map (λ n. load three_rows (after_first n) 1) (range_with_len 1 33)
    ≡ 16 ∷ 16 ∷ 16 ∷ 16 ∷ 16 ∷ 16 ∷ 32 ∷ 32 ∷ 32 ∷ 48 ∷ 48 ∷ 48 ∷ 48 ∷ 80 ∷ 64 ∷ 64 ∷ 48 ∷ 48 ∷ 48 ∷ 48 ∷ 48 ∷ 48 ∷ 32 ∷ 32 ∷ 64 ∷ 64 ∷ 64 ∷ 64 ∷ 48 ∷ 48 ∷ 48 ∷ 48 ∷ 48 ∷ []
unfolding computing
loads_one = refl

residents_one : map (λ n. resident three_rows (after_first n) 1) (range_with_len 1 33)
    ≡ 0 ∷ 16 ∷ 16 ∷ 16 ∷ 16 ∷ 16 ∷ 16 ∷ 32 ∷ 32 ∷ 32 ∷ 48 ∷ 48 ∷ 48 ∷ 48 ∷ 48 ∷ 32 ∷ 48 ∷ 48 ∷ 48 ∷ 48 ∷ 48 ∷ 48 ∷ 32 ∷ 32 ∷ 32 ∷ 48 ∷ 48 ∷ 48 ∷ 48 ∷ 48 ∷ 48 ∷ 48 ∷ 48 ∷ []
unfolding computing
residents_one = refl

loads_two : map (λ n. load three_rows (after_first n) 2) (range_with_len 1 33)
    ≡ 0 ∷ 0 ∷ 0 ∷ 16 ∷ 16 ∷ 16 ∷ 16 ∷ 16 ∷ 16 ∷ 16 ∷ 0 ∷ 0 ∷ 0 ∷ 0 ∷ 0 ∷ 0 ∷ 0 ∷ 48 ∷ 48 ∷ 48 ∷ 48 ∷ 32 ∷ 32 ∷ 16 ∷ 16 ∷ 16 ∷ 16 ∷ 16 ∷ 16 ∷ 0 ∷ 0 ∷ 0 ∷ 0 ∷ []
unfolding computing
loads_two = refl

residents_two : map (λ n. resident three_rows (after_first n) 2) (range_with_len 1 33)
    ≡ 0 ∷ 0 ∷ 0 ∷ 0 ∷ 16 ∷ 16 ∷ 16 ∷ 16 ∷ 16 ∷ 16 ∷ 0 ∷ 0 ∷ 0 ∷ 0 ∷ 0 ∷ 0 ∷ 0 ∷ 0 ∷ 16 ∷ 32 ∷ 16 ∷ 32 ∷ 32 ∷ 16 ∷ 16 ∷ 16 ∷ 16 ∷ 16 ∷ 16 ∷ 0 ∷ 0 ∷ 0 ∷ 0 ∷ []
unfolding computing
residents_two = refl

-- the number moved is that of the region's moves, and nothing is left
moved_four : map (λ n. (after_first n).moved) (20 ∷ 21 ∷ 27 ∷ 28 ∷ 33 ∷ []) ≡ 0 ∷ 2 ∷ 2 ∷ 4 ∷ moved three_rows 1 ∷ []
unfolding computing
moved_four = refl

delivered_so_far : map (λ n. delivered three_rows (after_first n) 1) (range_with_len 13 18) ≡ map (λ n. (after_first n).moved) (range_with_len 13 18)
unfolding computing
delivered_so_far = refl

nothing_left : left three_rows (after_first 33).progress ≡ []
unfolding computing
nothing_left = refl

-- the Pick's victim, what the Lend and the Back need, and the home copy before the Back
victim_one : victim three_rows (after_first 14) 1 ≡ Some 1
unfolding computing
victim_one = refl

needed_lent : length (needed three_rows (after_first 19) 2 1 1) ≡ 2
unfolding computing
needed_lent = refl

needed_back : length (needed three_rows (after_first 27) 0 1 2) ≡ 2
unfolding computing
needed_back = refl
