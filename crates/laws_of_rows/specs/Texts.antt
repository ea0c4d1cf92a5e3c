-- The text of the first rows of a script, and the entries of a journal that stand below each.
use Rattle.std.specs.Prelude.{◌≡◌, ℕ, suc, ◌≤◌, ◌<◌, List, [], ◌++◌}
use Rattle.std.specs.List.{flat_map, range_with_len}
use Rattle.dd_blocks.specs.declared.plan.Plan.{Plan}
use Rattle.dd_meaning.specs.Text.{row_text}
use Rattle.dd_machine.specs.declared.entry.Entry.{Entry}
use Rattle.dd_machine.specs.Journal.{entries_at}
use Rattle.dd_machine.specs.Words.{rows}

-- the text of the first i rows where something follows each, by how many rows stand above it
abbrev pub text_before : Plan → (ℕ → List ℕ) → ℕ → List ℕ
text_before plan after i = flat_map (λ j. row_text plan j ++ after j) (range_with_len 0 i)

-- no entry has the line of a row behind the first i
abbrev pub HasNoneFrom : Plan → ℕ → List Entry → Type 0
HasNoneFrom plan i entries = (j : ℕ) → i ≤ j → j < rows plan → entries_at plan entries (suc j) ≡ []
