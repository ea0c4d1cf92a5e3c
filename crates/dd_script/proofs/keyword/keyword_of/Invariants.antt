-- No keyword before the place is the word.
use Rattle.std.proofs.Common.{◌≡◌, ℕ, ◌<◌, get_or}
use Rattle.dd_script.specs.declared.keyword.Keyword.TheVariants.{Space}
use Rattle.dd_script.specs.Keywords.{keyword_word}
use Rattle.dd_script.proofs.keyword.keyword_of.Given as goal

abbrev pub invariant-loop-k : goal.invariant-loop-k
invariant-loop-k l = (i : ℕ) → i < l.k-index → l.word ≡ keyword_word (get_or l.k-items i Space) → ⊥
