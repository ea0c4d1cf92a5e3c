-- The first Pick of a journal.
use Rattle.std.specs.Prelude.{ℕ, suc, Bool, false, cond, nat_lt, List, [], ◌∷◌, option_map, Option, None, Some}
use Rattle.dd_machine.specs.declared.entry.Entry.{Entry}
use Rattle.dd_machine.specs.Runs.{is_pick}

-- how many entries stand before the first Pick, if there is one
unfoldable pub first_pick : List Entry → Option ℕ
first_pick [] = None
first_pick (entry ∷ entries) = cond (is_pick entry.event) (Some 0) (option_map suc (first_pick entries))

-- with one entry more behind so many, which is a Pick or not
abbrev pub or_first : Option ℕ → ℕ → Bool → Option ℕ
or_first None before picks = cond picks (Some before) None
or_first (Some first) before picks = Some first

-- so many entries reach as far as the Pick
abbrev pub is_before : Option ℕ → ℕ → Bool
is_before None number = false
is_before (Some first) number = nat_lt first number
