-- Reading an argument of a task from its tokens, step by step from the left.
use Rattle.std.specs.Prelude.{ℕ, Bool, true, false, List, [], ◌∷◌, Option, Some, is_none}
use Rattle.dd_causes.specs.Steps.{◌>>=◌, either_way}
use Rattle.dd_tokens.specs.Lexeme.{Lexeme}
use Rattle.dd_script.specs.declared.viewed.Viewed.{Viewed}
use Rattle.dd_script.specs.declared.pair.Pair.{Pair}
use Rattle.dd_script.specs.declared.argument.Argument.{Argument}
use Rattle.dd_script.specs.declared.argument.Argument.TheVariants.{Bare, OneWord, TwoWords, WithPairs}
use Rattle.dd_script.specs.Front.{word_at, mark_at}
use Rattle.dd_script.specs.ViewSteps.{viewed_at, view_at}
use Rattle.dd_script.specs.Many.{many_at}

-- ---- arguments

-- `, In(lower)`
unfoldable pub pair_at : List Lexeme → Option (Pair × List Lexeme)
pair_at ls = do
  inside ← mark_at 44 ls
  access ← word_at inside
  opened ← mark_at 40 access.1
  part ← word_at opened
  rest ← mark_at 41 part.1
  Some (record { access = access.0; part = part.0 }, rest)

unfoldable pub no_pair : List Lexeme → Bool
no_pair ls = is_none (mark_at 44 ls)

unfoldable pub pairs_at : List Lexeme → Option (List Pair × List Lexeme)
pairs_at ls = many_at no_pair pair_at ls

-- behind `Deps(V`
unfoldable pub with_pairs_at : List ℕ → Viewed → List Lexeme → Option (Argument × List Lexeme)
with_pairs_at w v ls = do
  first ← pair_at ls
  others ← pairs_at first.1
  rest ← mark_at 41 others.1
  Some (WithPairs w v first.0 others.0, rest)

-- behind `In(lower(`
unfoldable pub two_words_at : List ℕ → List ℕ → List Lexeme → Option (Argument × List Lexeme)
two_words_at outer inner ls = do
  v ← view_at ls
  closed ← mark_at 41 v.1
  rest ← mark_at 41 closed
  Some (TwoWords outer inner v.0, rest)

-- behind `In(A`
unfoldable pub one_word_at : List ℕ → List ℕ → List Lexeme → Option (Argument × List Lexeme)
one_word_at w name ls = do
  v ← viewed_at name ls
  either_way (mark_at 41 v.1) (λ rest. Some (OneWord w v.0, rest)) (with_pairs_at w v.0 v.1)

-- behind `In(`
unfoldable pub called_at : List ℕ → List Lexeme → Option (Argument × List Lexeme)
called_at w ls = do
  inner ← word_at ls
  either_way (mark_at 40 inner.1) (two_words_at w inner.0) (one_word_at w inner.0 inner.1)

-- behind `A`
unfoldable pub bare_at : List ℕ → List Lexeme → Option (Argument × List Lexeme)
bare_at name ls = viewed_at name ls >>= λ v. Some (Bare v.0, v.1)

unfoldable pub argument_at : List Lexeme → Option (Argument × List Lexeme)
argument_at ls = do
  first ← word_at ls
  either_way (mark_at 40 first.1) (called_at first.0) (bare_at first.0 first.1)

abbrev pub no_token : List Lexeme → Bool
no_token [] = true
no_token (l ∷ ls) = false

-- all that are left
unfoldable pub arguments_at : List Lexeme → Option (List Argument)
arguments_at ls = many_at no_token argument_at ls >>= λ found. Some found.0
