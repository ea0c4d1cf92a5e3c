-- How a statement is spelled: its tokens, without their places.
use Rattle.std.specs.Prelude.{ℕ, ℤ, List, [], ◌∷◌, ◌++◌, codes, Option, None, Some}
use Rattle.std.specs.List.{flat_map}
use Rattle.dd_tokens.specs.Lexeme.{Lexeme, word, number, mark}
use Rattle.dd_blocks.specs.declared.policy.Policy.{Policy}
use Rattle.dd_blocks.specs.declared.policy.Policy.TheVariants.{Lru, Mru}
use Rattle.dd_blocks.specs.declared.rule.Rule.{Rule}
use Rattle.dd_blocks.specs.declared.rule.Rule.TheVariants.{Rr, Home}
use Rattle.dd_script.specs.declared.index.Index.{Index}
use Rattle.dd_script.specs.declared.index.Index.TheVariants.{All, One, Run, Steps}
use Rattle.dd_script.specs.declared.viewed.Viewed.{Viewed}
use Rattle.dd_script.specs.declared.viewed.Viewed.TheVariants.{Whole, Indexed}
use Rattle.dd_script.specs.declared.pair.Pair.{Pair}
use Rattle.dd_script.specs.declared.argument.Argument.{Argument}
use Rattle.dd_script.specs.declared.argument.Argument.TheVariants.{Bare, OneWord, TwoWords, WithPairs}
use Rattle.dd_script.specs.declared.filling.Filling.{Filling}
use Rattle.dd_script.specs.declared.filling.Filling.TheVariants.{Zeros, Const, Iota, Lcg}
use Rattle.dd_script.specs.declared.written.Written.{Written}
use Rattle.dd_script.specs.declared.written.Written.TheVariants.{Space, Proc, PolicyIs, PlaceIs, Array, Same, Drop, MoveTo, Region, Task, End, Print, Sum, Moved}

-- the marks are `(` 40, `)` 41, `,` 44, `:` 58, `[` 91 and `]` 93

-- `:`, `3`, `1:3` or `1:2:5`
abbrev pub index_spelling : Index → List Lexeme
index_spelling All = mark 58 ∷ []
index_spelling (One i) = number i ∷ []
index_spelling (Run a b) = number a ∷ mark 58 ∷ number b ∷ []
index_spelling (Steps a s b) = number a ∷ mark 58 ∷ number s ∷ mark 58 ∷ number b ∷ []

-- `A` or `A[1:3,:]`
abbrev pub view_spelling : Viewed → List Lexeme
view_spelling (Whole name) = word name ∷ []
view_spelling (Indexed name rows cols) = word name ∷ mark 91 ∷ (index_spelling rows ++ mark 44 ∷ (index_spelling cols ++ mark 93 ∷ []))

-- `, In(lower)`
abbrev pub pair_spelling : Pair → List Lexeme
pair_spelling p = mark 44 ∷ word p.access ∷ mark 40 ∷ word p.part ∷ mark 41 ∷ []

-- `A`, `In(A)`, `In(lower(A))` or `Deps(A, In(lower), Out(diag))`
abbrev pub argument_spelling : Argument → List Lexeme
argument_spelling (Bare v) = view_spelling v
argument_spelling (OneWord w v) = word w ∷ mark 40 ∷ (view_spelling v ++ mark 41 ∷ [])
argument_spelling (TwoWords w u v) = word w ∷ mark 40 ∷ word u ∷ mark 40 ∷ (view_spelling v ++ mark 41 ∷ mark 41 ∷ [])
argument_spelling (WithPairs w v p ps) = word w ∷ mark 40 ∷ (view_spelling v ++ (pair_spelling p ++ (flat_map pair_spelling ps ++ mark 41 ∷ [])))

abbrev pub filling_spelling : Filling → List Lexeme
filling_spelling Zeros = word (codes "zeros") ∷ []
filling_spelling (Const k) = word (codes "const") ∷ number k ∷ []
filling_spelling Iota = word (codes "iota") ∷ []
filling_spelling (Lcg k) = word (codes "lcg") ∷ number k ∷ []

abbrev pub policy_word : Policy → List ℕ
policy_word Lru = codes "lru"
policy_word Mru = codes "mru"

abbrev pub rule_word : Rule → List ℕ
rule_word Rr = codes "rr"
rule_word Home = codes "home"

abbrev pub scalar_spelling : Option ℤ → List Lexeme
scalar_spelling None = []
scalar_spelling (Some k) = number k ∷ []

abbrev pub spelling : Written → List Lexeme
spelling (Space name limit) = word (codes "space") ∷ word name ∷ number limit ∷ []
spelling (Proc name on) = word (codes "proc") ∷ word name ∷ word on ∷ []
spelling (PolicyIs p) = word (codes "policy") ∷ word (policy_word p) ∷ []
spelling (PlaceIs r) = word (codes "place") ∷ word (rule_word r) ∷ []
spelling (Array name rows cols brows bcols f) =
    word (codes "array") ∷ word name ∷ number rows ∷ number cols ∷ number brows ∷ number bcols ∷ filling_spelling f
spelling (Same name old) = word (codes "same") ∷ word name ∷ word old ∷ []
spelling (Drop name) = word (codes "drop") ∷ word name ∷ []
spelling (MoveTo name to) = word (codes "move") ∷ word name ∷ word to ∷ []
spelling Region = word (codes "region") ∷ []
spelling (Task kernel scalar arguments) = word (codes "task") ∷ word kernel ∷ (scalar_spelling scalar ++ flat_map argument_spelling arguments)
spelling End = word (codes "end") ∷ []
spelling (Print name) = word (codes "print") ∷ word name ∷ []
spelling (Sum name) = word (codes "sum") ∷ word name ∷ []
spelling Moved = word (codes "moved") ∷ []
