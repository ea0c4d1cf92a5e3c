-- An array is printed one row of its blocks after another.
use Rattle.std.proofs.Common.{◌≡◌, ℕ, ◌+◌, ◌-◌, ◌*◌, ◌<◌, ℤ, List, [], ◌++◌, length, Option, ap, sym, ◌∙◌, subst, append-nil, Result, Ok, Err, arith}
use Rattle.std.specs.Prelude.{IsErrAnd}
use Rattle.std.specs.Io.KnownBytes.{Appends}
use Rattle.std.specs.List.{flat_map, range_with_len}
use Rattle.std.proofs.lemmas.Grind.{div_ceil_times}
use Rattle.dd_blocks.specs.declared.grid.Grid.{Grid}
use Rattle.dd_blocks.specs.Grids.{IsGrid, block_rows, element_count}
use Rattle.dd_blocks.proofs.PiecesLemmas.{begins_within}
use Rattle.dd_causes.specs.Appended.{AppendsAllBut}
use Rattle.dd_causes.specs.Counts.{Rose}
use Rattle.dd_causes.proofs.AppendedLemmas.{front_in_piece}
use Rattle.dd_meaning.specs.Text.{printed, printed_row}
use Rattle.dd_print.specs.Bands.{band_grid, band_height, band_values}
use Rattle.dd_print.specs.declared.fault.PrintFault.{PrintFault}
use Rattle.dd_print.specs.Writes.{WritesWhere}
use Rattle.dd_print.proofs.BreaksLemmas.{err_gives}
use Rattle.dd_text.proofs.BandLemmas.{AreRows, band_printed, next_band}

-- the text of the rows from one row of blocks on
abbrev pub text_from : Grid → List ℤ → ℕ → List ℕ
text_from g values i = flat_map (printed_row g values) (range_with_len (i * g.brows) (g.rows - i * g.brows))

pub text_start : (g : Grid) (values : List ℤ) → printed g values ≡ text_from g values 0
text_start g values =
    let none : 0 ≡ 0 * g.brows = omega arith in
    let all : g.rows ≡ g.rows - 0 = omega arith in
    ap (λ (n : ℕ). flat_map (printed_row g values) (range_with_len 0 n)) all
    ∙ ap (λ (n : ℕ). flat_map (printed_row g values) (range_with_len n (g.rows - n))) none

pub text_next : (g : Grid) (values : List ℤ) (i : ℕ) → IsGrid g → i < block_rows g → length values ≡ element_count g
    → text_from g values i ≡ printed (band_grid g i) (band_values g i values) ++ text_from g values (i + 1)
text_next g values i grid lt filled =
    let first = i * g.brows in
    let begins = begins_within g.rows g.brows i grid.brows lt in
    let rows : AreRows g values first (band_height g i) = record { within = omega (arith, begins); filled = filled } in
    let next : first + g.brows ≡ (i + 1) * g.brows = omega arith in
    next_band (printed_row g values) first g.brows g.rows
    ∙ ap (λ (l : List ℕ). l ++ flat_map (printed_row g values) (range_with_len (first + g.brows) (g.rows - (first + g.brows)))) (sym (band_printed g values first (band_height g i) rows))
    ∙ ap (λ (n : ℕ). printed (band_grid g i) (band_values g i values) ++ flat_map (printed_row g values) (range_with_len n (g.rows - n))) next

pub text_end : (g : Grid) (values : List ℤ) → IsGrid g → text_from g values (block_rows g) ≡ []
text_end g values grid =
    let times = (div_ceil_times g.rows g.brows grid.brows).0 in
    let none : g.rows - block_rows g * g.brows ≡ 0 = omega (arith, times) in
    ap (λ (n : ℕ). flat_map (printed_row g values) (range_with_len (block_rows g * g.brows) n)) none

-- a fault in the middle of a row
pub rows_front : (Told : Type 0) (piece left rest whole : List ℕ) (result : Result (Unit {0}) PrintFault) (fault : PrintFault) (taken mid taken' : Option (List ℕ)) (faults meanwhile faults' : ℕ) → IsErrAnd result (λ e. e ≡ fault)
    → left ≡ piece ++ rest → (Told → AppendsAllBut taken mid left whole) → meanwhile ≡ faults → WritesWhere Told piece (Err fault) mid taken' meanwhile faults' → WritesWhere Told whole result taken taken' faults faults'
rows_front Told piece left rest whole result fault taken mid taken' faults meanwhile faults' is split so_far same p =
    err_gives (λ r. WritesWhere Told whole r taken taken' faults faults') result fault is (record {
      all = λ told. tt;
      front = λ told. front_in_piece (so_far told) piece rest split (p.front told);
      cause = λ e. subst (λ (n : ℕ). Rose n faults') same (p.cause e);
      kept = λ no. p.kept no ∙ same;
      later = (let l = p.later in omega (arith, same, l));
    })

-- nothing is left
pub rows_all : (Told : Type 0) (left whole : List ℕ) (taken taken' : Option (List ℕ)) (faults faults' : ℕ) → left ≡ [] → (Told → AppendsAllBut taken taken' left whole) → faults' ≡ faults
    → WritesWhere Told whole (Ok tt) taken taken' faults faults'
rows_all Told left whole taken taken' faults faults' none so_far same = record {
  all = λ told. let f = so_far told in subst (Appends taken taken') (sym (f.split ∙ ap (λ (l : List ℕ). f.done ++ l) none ∙ append-nil f.done)) f.grown;
  front = λ told. tt;
  cause = λ e. absurd (cc);
  kept = λ no. same;
  later = omega (arith, same);
}
