-- Lemmas on the classes of bytes, and on the bytes of a class at the front.
use Rattle.std.proofs.Common.{◌≡◌, ℕ, ◌≤◌, Bool, true, List, [], length, drop, arith}
use Rattle.std.specs.List.{list_all, prefix_len}
use Rattle.std.specs.Int.{IsInRange}
use Rattle.std.proofs.lemmas.Bool.{or_left}
use Rattle.std.proofs.lemmas.Bool.Decides.{nat_tests}
use Rattle.std.proofs.lemmas.List.{drop_all}
use Rattle.std.proofs.lemmas.List.Sums.{AllPass-from_list_all, list_all-from_AllPass, prefix_len_is, prefix_len_passes}
use Rattle.dd_tokens.specs.Bytes.{is_letter, is_digit, is_word_byte}

-- all bytes pass just where those that pass at the front are all, so that nothing is left behind them
pub nothing_left : (p : ℕ → Bool) (bs : List ℕ) → list_all p bs ≡ true → drop (prefix_len p bs) bs ≡ []
nothing_left p bs all =
    let passes = AllPass-from_list_all p bs all in
    let whole : prefix_len p bs ≡ length bs = prefix_len_is p bs (length bs) 0 (omega arith) (λ k lt. passes k 0 lt) (λ lt. absurd (omega arith)) in
    drop_all _ bs (omega arith)

pub all_pass : (p : ℕ → Bool) (bs : List ℕ) → length bs ≤ prefix_len p bs → list_all p bs ≡ true
all_pass p bs whole = list_all-from_AllPass p bs (λ k d lt. prefix_len_passes p bs k d (omega arith))

pub letter_in_word : (b : ℕ) → is_letter b ≡ true → is_word_byte b ≡ true
letter_in_word b letter = or_left _ _ letter

pub digit_in_range : (b : ℕ) → is_digit b ≡ true → IsInRange 48 57 b
digit_in_range b digit = grind (arith, nat_tests)
