-- A row that is counted already makes the counts right.
use Rattle.std.proofs.Common.{◌≡◌, ℕ, ◌+◌, List, [], ◌∷◌, ◌++◌, length, Option, None, Some, Vec, Global, refl, sym, ap, subst, ◌∙◌, arith}
use Rattle.std.specs.List.{sum_by, cons_option}
use Rattle.std.specs.Prelude.{option_to_list}
use Rattle.std.proofs.lemmas.List.{length-append}
use Rattle.std.proofs.lemmas.List.Sums.{sum_by_push}
use Rattle.std.proofs.lemmas.List.Elements.{filter_map-append}
use Rattle.dd_blocks.specs.declared.plan.Plan.{Plan}
use Rattle.dd_blocks.specs.declared.statement_row.StatementRow.{StatementRow}
use Rattle.dd_blocks.specs.declared.task_row.TaskRow.{TaskRow}
use Rattle.dd_blocks.specs.declared.what.What.{What}
use Rattle.dd_blocks.specs.declared.what.What.TheVariants.{Put, Print, Sum, Moved, Same, Drop, MoveTo, Region}
use Rattle.dd_blocks.specs.ArrayHomes.{AreMovedTo, homes_after}
use Rattle.dd_blocks.specs.Lives.{ends_name, gives_name, names_ended, names_given, region_run, regions_run}
use Rattle.dd_blocks.specs.Numbered.{IsNumberIn}
use Rattle.dd_blocks.specs.Touches.{blocks_of, touches_in, touches_of}
use Rattle.dd_blocks.proofs.ArrayHomesLemmas.{moved_push}
use Rattle.dd_check.specs.declared.draft.Draft.{Draft}
use Rattle.dd_check.specs.Ahead.{AsksAll, CountsAhead, one_if}
use Rattle.dd_check.specs.Drafts.{Counts}
use Rattle.dd_check.specs.Effects.{add_statement}

regroup : (a b c : ℕ) → a + (b + c) ≡ a + b + c
regroup a b c = omega arith

module _ (rows : List StatementRow) (n : ℕ) (what : What) where
  abbrev more : List StatementRow
  more = rows ++ record { line = n; what = what } ∷ []

  ended_more : (array : ℕ) → names_ended array more ≡ names_ended array rows + one_if (ends_name array what)
  ended_more array = sum_by_push _ rows _

  given_more : (array : ℕ) → names_given array more ≡ names_given array rows + one_if (gives_name array what)
  given_more array = sum_by_push _ rows _

  one_region : length (regions_run (record { line = n; what = what } ∷ [])) ≡ length (option_to_list (region_run what))
  one_region = by (region_run what) refl
    where
      by : (run : Option ℕ) → region_run what ≡ run → length (cons_option run []) ≡ length (option_to_list run)
      by None e = refl
      by (Some region) e = refl

  regions_more : length (regions_run more) ≡ length (regions_run rows) + length (option_to_list (region_run what))
  regions_more =
      ap length (filter_map-append (λ (row : StatementRow). region_run row.what) rows (record { line = n; what = what } ∷ []))
      ∙ length-append (regions_run rows) _ ∙ ap (λ k. length (regions_run rows) + k) one_region

touches_more : (p : Plan) (n : ℕ) (what : What) → touches_in (add_statement n what p) ≡ touches_in p + touches_of p what
touches_more p n what =
    let asked = sum_by (λ (row : StatementRow). touches_of p row.what) p.statements in
    let tasks = sum_by (λ (t : TaskRow). length t.blocks) p.tasks in
    ap (λ k. tasks + k) (sum_by_push (λ (row : StatementRow). touches_of p row.what) p.statements (record { line = n; what = what })) ∙ regroup tasks asked (touches_of p what)

pub counts_row : (d : Draft) (homes : Vec ℕ Global) (n : ℕ) (what : What) → homes.items ≡ homes_after d.homes.items what → CountsAhead d what
    → Counts (record d { plan = add_statement n what d.plan; homes = homes })
counts_row d homes n what moved h = record {
  each = h.each;
  names = λ array within. omega (arith, h.names array within, ended_more d.plan.statements n what (array + 1), given_more d.plan.statements n what (array + 1));
  elements = h.elements;
  regions = h.regions ∙ sym (regions_more d.plan.statements n what);
  touches = h.touches ∙ sym (touches_more d.plan n what);
  opened = h.opened;
  homes = subst (AreMovedTo (length d.plan.arrays) (d.plan.statements ++ record { line = n; what = what } ∷ [])) (sym moved) (moved_push (length d.plan.arrays) d.plan.statements d.homes.items (record { line = n; what = what }) h.array h.homes);
}

-- a statement that goes through all blocks of an array gives and ends no name, and runs no region
pub asks_ahead : (d : Draft) (what : What) (array : ℕ) → Counts d → IsNumberIn d.plan.arrays array → AsksAll what array → CountsAhead (record d { touches = d.touches + blocks_of d.plan array }) what
asks_ahead d (Print asked) array h within e = record {
  each = h.each;
  names = λ k low. omega (arith, h.names k low);
  elements = h.elements;
  regions = omega (arith, h.regions);
  touches = ap (λ n. n + blocks_of d.plan array) h.touches ∙ ap (λ a. touches_in d.plan + blocks_of d.plan a) (sym e);
  opened = h.opened;
  homes = h.homes;
  array = tt;
}
asks_ahead d (Sum asked name) array h within e = record {
  each = h.each;
  names = λ k low. omega (arith, h.names k low);
  elements = h.elements;
  regions = omega (arith, h.regions);
  touches = ap (λ n. n + blocks_of d.plan array) h.touches ∙ ap (λ a. touches_in d.plan + blocks_of d.plan a) (sym e);
  opened = h.opened;
  homes = h.homes;
  array = tt;
}
asks_ahead d (MoveTo asked space) array h within e = record {
  each = h.each;
  names = λ k low. omega (arith, h.names k low);
  elements = h.elements;
  regions = omega (arith, h.regions);
  touches = ap (λ n. n + blocks_of d.plan array) h.touches ∙ ap (λ a. touches_in d.plan + blocks_of d.plan a) (sym e);
  opened = h.opened;
  homes = h.homes;
  array = subst (IsNumberIn d.plan.arrays) (sym e) within;
}
asks_ahead d (Put made) array h within e = absurd e
asks_ahead d Moved array h within e = absurd e
asks_ahead d (Same named) array h within e = absurd e
asks_ahead d (Drop dropped last) array h within e = absurd e
asks_ahead d (Region region) array h within e = absurd e
