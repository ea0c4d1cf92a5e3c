-- Reading the form of a statement from the tokens behind its first word, step by step from the left.
use Rattle.std.specs.Prelude.{ℕ, ℤ, List, [], ◌∷◌, Option, None, Some, codes, if◌then◌else◌}
use Rattle.std.specs.Option.{option_map}
use Rattle.std.specs.Str.{bytes_eq}
use Rattle.dd_causes.specs.Steps.{◌>>=◌}
use Rattle.dd_tokens.specs.Lexeme.{Lexeme}
use Rattle.dd_blocks.specs.declared.policy.Policy.{Policy}
use Rattle.dd_blocks.specs.declared.policy.Policy.TheVariants.{Lru, Mru}
use Rattle.dd_blocks.specs.declared.rule.Rule.{Rule}
use Rattle.dd_blocks.specs.declared.rule.Rule.TheVariants.{Rr, Home}
use Rattle.dd_script.specs.declared.filling.Filling.{Filling}
use Rattle.dd_script.specs.declared.filling.Filling.TheVariants.{Zeros, Const, Iota, Lcg}
use Rattle.dd_script.specs.declared.written.Written.{Written}
use Rattle.dd_script.specs.declared.written.Written.TheVariants as form
use Rattle.dd_script.specs.declared.keyword.Keyword.{Keyword}
use Rattle.dd_script.specs.declared.keyword.Keyword.TheVariants as key
use Rattle.dd_script.specs.Front.{word_at, numeral_at}
use Rattle.dd_script.specs.ArgumentSteps.{no_token, arguments_at}

-- the form, where no token is left
unfoldable pub alone : Written → List Lexeme → Option Written
alone x [] = Some x
alone x (l ∷ ls) = None

-- the one name that is left
unfoldable pub name_at : List Lexeme → Option (List ℕ)
name_at ls = do
  name ← word_at ls
  if no_token name.1 then Some name.0 else None

-- the two names that are left
unfoldable pub two_names_at : List Lexeme → Option (List ℕ × List ℕ)
two_names_at ls = do
  first ← word_at ls
  second ← name_at first.1
  Some (first.0, second)

unfoldable pub space_at : List Lexeme → Option Written
space_at ls = do
  name ← word_at ls
  limit ← numeral_at name.1
  alone (form.Space name.0 limit.0) limit.1

unfoldable pub proc_at : List Lexeme → Option Written
proc_at ls = two_names_at ls >>= λ n. Some (form.Proc n.0 n.1)

unfoldable pub same_at : List Lexeme → Option Written
same_at ls = two_names_at ls >>= λ n. Some (form.Same n.0 n.1)

unfoldable pub move_at : List Lexeme → Option Written
move_at ls = two_names_at ls >>= λ n. Some (form.MoveTo n.0 n.1)

unfoldable pub policy_named : List ℕ → Option Policy
policy_named w = if bytes_eq w (codes "lru") then Some Lru else (if bytes_eq w (codes "mru") then Some Mru else None)

unfoldable pub policy_at : List Lexeme → Option Written
policy_at ls = do
  w ← word_at ls
  p ← policy_named w.0
  alone (form.PolicyIs p) w.1

unfoldable pub rule_named : List ℕ → Option Rule
rule_named w = if bytes_eq w (codes "rr") then Some Rr else (if bytes_eq w (codes "home") then Some Home else None)

unfoldable pub place_at : List Lexeme → Option Written
place_at ls = do
  w ← word_at ls
  r ← rule_named w.0
  alone (form.PlaceIs r) w.1

unfoldable pub filling_by : List ℕ → List Lexeme → Option (Filling × List Lexeme)
filling_by w rest =
    if bytes_eq w (codes "zeros") then Some (Zeros, rest) else
    (if bytes_eq w (codes "const") then (numeral_at rest >>= λ k. Some (Const k.0, k.1)) else
    (if bytes_eq w (codes "iota") then Some (Iota, rest) else
    (if bytes_eq w (codes "lcg") then (numeral_at rest >>= λ k. Some (Lcg k.0, k.1)) else None)))

unfoldable pub filling_at : List Lexeme → Option (Filling × List Lexeme)
filling_at ls = do
  w ← word_at ls
  filling_by w.0 w.1

unfoldable pub array_at : List Lexeme → Option Written
array_at ls = do
  name ← word_at ls
  rows ← numeral_at name.1
  cols ← numeral_at rows.1
  brows ← numeral_at cols.1
  bcols ← numeral_at brows.1
  fill ← filling_at bcols.1
  alone (form.Array name.0 rows.0 cols.0 brows.0 bcols.0 fill.0) fill.1

unfoldable pub scalar_at : List Lexeme → Option ℤ × List Lexeme
scalar_at ls = scalar_by ls (numeral_at ls)
  where
    scalar_by : List Lexeme → Option (ℤ × List Lexeme) → Option ℤ × List Lexeme
    scalar_by ls None = (None, ls)
    scalar_by ls (Some k) = (Some k.0, k.1)

unfoldable pub task_at : List Lexeme → Option Written
task_at ls = do
  kernel ← word_at ls
  args ← arguments_at (scalar_at kernel.1).1
  Some (form.Task kernel.0 (scalar_at kernel.1).0 args)

unfoldable pub form_by : Keyword → List Lexeme → Option Written
form_by key.Space ls = space_at ls
form_by key.Proc ls = proc_at ls
form_by key.Policy ls = policy_at ls
form_by key.Place ls = place_at ls
form_by key.Array ls = array_at ls
form_by key.Same ls = same_at ls
form_by key.Drop ls = option_map form.Drop (name_at ls)
form_by key.Move ls = move_at ls
form_by key.Region ls = alone form.Region ls
form_by key.Task ls = task_at ls
form_by key.End ls = alone form.End ls
form_by key.Print ls = option_map form.Print (name_at ls)
form_by key.Sum ls = option_map form.Sum (name_at ls)
form_by key.Moved ls = alone form.Moved ls
