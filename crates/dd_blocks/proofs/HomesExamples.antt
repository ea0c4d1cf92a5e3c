-- Worked examples of the definitions: each computes.
use Rattle.std.proofs.Common.{◌≡◌, ℕ, [], ◌∷◌, map, refl}
use Rattle.std.specs.List.{range_with_len}
use Rattle.dd_blocks.specs.declared.block_row.BlockRow.{BlockRow}
use Rattle.dd_blocks.specs.declared.plan.Plan.{Plan}
use Rattle.dd_blocks.specs.declared.policy.Policy.TheVariants.{Lru}
use Rattle.dd_blocks.specs.declared.rule.Rule.TheVariants.{Home}
use Rattle.dd_blocks.specs.declared.statement_row.StatementRow.{StatementRow}
use Rattle.dd_blocks.specs.declared.what.What.{What}
use Rattle.dd_blocks.specs.declared.what.What.TheVariants.{Put, Moved, MoveTo}
use Rattle.dd_blocks.specs.Homes.{home_before}

abbrev block : ℕ → ℕ → BlockRow
block array home = record { array = array; home = home; size = 1 }

abbrev row : What → StatementRow
row what = record { line = 1; what = what }

-- two arrays of one block each, which are moved by the rows 3, 4 and 6
abbrev plan : Plan
plan = record {
  spaces = [];
  procs = [];
  policy = Lru;
  rule = Home;
  arrays = [];
  blocks = block 1 1 ∷ block 2 2 ∷ [];
  tasks = [];
  statements = row (Put 1) ∷ row (Put 2) ∷ row (MoveTo 1 2) ∷ row (MoveTo 2 1) ∷ row Moved ∷ row (MoveTo 1 3) ∷ [];
}

first : map (λ n. home_before plan n 1) (range_with_len 1 7) ≡ 1 ∷ 1 ∷ 1 ∷ 2 ∷ 2 ∷ 2 ∷ 3 ∷ []
first = refl

second : map (λ n. home_before plan n 2) (range_with_len 1 7) ≡ 2 ∷ 2 ∷ 2 ∷ 2 ∷ 1 ∷ 1 ∷ 1 ∷ []
second = refl
