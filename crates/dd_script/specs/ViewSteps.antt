-- Reading a view from its tokens, step by step from the left.
use Rattle.std.specs.Prelude.{ℕ, ℤ, List, Option, Some}
use Rattle.dd_causes.specs.Steps.{◌>>=◌, either_way}
use Rattle.dd_tokens.specs.Lexeme.{Lexeme}
use Rattle.dd_script.specs.declared.index.Index.{Index}
use Rattle.dd_script.specs.declared.index.Index.TheVariants.{All, One, Run, Steps}
use Rattle.dd_script.specs.declared.viewed.Viewed.{Viewed}
use Rattle.dd_script.specs.declared.viewed.Viewed.TheVariants.{Whole, Indexed}
use Rattle.dd_script.specs.Front.{word_at, numeral_at, mark_at}

-- ---- the rows or columns of a view

-- behind `1:`
unfoldable pub run_at : ℤ → List Lexeme → Option (Index × List Lexeme)
run_at first ls = do
  second ← numeral_at ls
  either_way (mark_at 58 second.1)
      (λ rest. numeral_at rest >>= λ last. Some (Steps first second.0 last.0, last.1))
      (Some (Run first second.0, second.1))

unfoldable pub numbers_at : List Lexeme → Option (Index × List Lexeme)
numbers_at ls = do
  first ← numeral_at ls
  either_way (mark_at 58 first.1) (run_at first.0) (Some (One first.0, first.1))

unfoldable pub index_at : List Lexeme → Option (Index × List Lexeme)
index_at ls = either_way (mark_at 58 ls) (λ rest. Some (All, rest)) (numbers_at ls)

-- ---- views

-- behind `A[`
unfoldable pub indexed_at : List ℕ → List Lexeme → Option (Viewed × List Lexeme)
indexed_at name ls = do
  rows ← index_at ls
  between ← mark_at 44 rows.1
  cols ← index_at between
  rest ← mark_at 93 cols.1
  Some (Indexed name rows.0 cols.0, rest)

-- behind `A`
unfoldable pub viewed_at : List ℕ → List Lexeme → Option (Viewed × List Lexeme)
viewed_at name ls = either_way (mark_at 91 ls) (indexed_at name) (Some (Whole name, ls))

unfoldable pub view_at : List Lexeme → Option (Viewed × List Lexeme)
view_at ls = do
  name ← word_at ls
  viewed_at name.0 name.1
