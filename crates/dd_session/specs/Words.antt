-- The words of a command.
use Rattle.std.specs.Prelude.{◌≡◌, ℕ, List, [], ◌∷◌, codes, Option, None, Some}
use Rattle.dd_session.specs.declared.words.Command.{Command}
use Rattle.dd_session.specs.declared.words.Command.TheVariants.{Run, Plain}

-- the word of each command
abbrev pub word_of : Command → List ℕ
word_of Run = codes "run"
word_of Plain = codes "plain"

-- the words are the one word of the command
abbrev pub AreOf : Command → List (List ℕ) → Type 0
AreOf command words = words ≡ word_of command ∷ []

-- they are those of some command
abbrev pub AreCommand : List (List ℕ) → Type 0
AreCommand words = (command : Command) × AreOf command words

-- what is found is the command of the words, or there is none
abbrev pub IsFound : List (List ℕ) → Option Command → Type 0
IsFound words None = AreCommand words → ⊥
IsFound words (Some command) = AreOf command words
