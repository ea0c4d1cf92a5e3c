-- Reading item after item from tokens.
use Rattle.std.specs.Prelude.{ℕ, suc, zero, Bool, List, [], ◌∷◌, length, Option, None, Some, if◌then◌else◌}
use Rattle.dd_causes.specs.Steps.{◌>>=◌}
use Rattle.dd_tokens.specs.Lexeme.{Lexeme}

-- item after item, until a test says that none follows
unfoldable pub many_by : {A : Type 0} → (List Lexeme → Bool) → (List Lexeme → Option (A × List Lexeme)) → ℕ → List Lexeme → Option (List A × List Lexeme)
many_by ended item zero ls = None
many_by ended item (suc steps) ls =
    if ended ls then Some ([], ls) else
    (item ls >>= λ x. many_by ended item steps x.1 >>= λ more. Some (x.0 ∷ more.0, more.1))

-- each item takes a token, so there are steps enough
unfoldable pub many_at : {A : Type 0} → (List Lexeme → Bool) → (List Lexeme → Option (A × List Lexeme)) → List Lexeme → Option (List A × List Lexeme)
many_at ended item ls = many_by ended item (suc (length ls)) ls
