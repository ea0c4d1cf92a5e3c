-- A row of the statements and what it prints.
use Rattle.std.proofs.Common.{◌≡◌, ℕ, ◌+◌, ◌-◌, ◌<◌, ◌≤◌, ℤ, None, Some, Result, Ok, Err, OnOk, List, length, get_or, take, drop, refl, sym, ap, subst, ◌∙◌, arith, ⊎_elim}
use Rattle.std.specs.List.{range_with_len, sum_by}
use Rattle.std.specs.Global.{Vec}
use Rattle.std.proofs.lemmas.Bool.{cases_lt}
use Rattle.std.proofs.lemmas.List.{get_or-drop, get_or_default, length-drop, length-map}
use Rattle.std.proofs.lemmas.List.Elements.{All-get_or}
use Rattle.dd_kernels.proofs.ListsLemmas.{ap2}
use Rattle.dd_blocks.specs.declared.array_row.ArrayRow.{ArrayRow}
use Rattle.dd_blocks.specs.declared.grid.Grid.{Grid}
use Rattle.dd_blocks.specs.declared.plan.Plan.{Plan}
use Rattle.dd_blocks.specs.declared.statement_row.StatementRow.{StatementRow}
use Rattle.dd_blocks.specs.declared.what.What.{What}
use Rattle.dd_blocks.specs.declared.what.What.TheVariants.{Put, Print, Sum, Moved, Same, Drop, MoveTo, Region}
use Rattle.dd_blocks.specs.ArrayHomes.{AreMovedTo, HasArray, homes_after}
use Rattle.dd_blocks.specs.Grids.{element_count}
use Rattle.dd_blocks.specs.Lives.{region_run}
use Rattle.dd_blocks.specs.Numbered.{IsNumberIn, array_row, no_array}
use Rattle.dd_blocks.specs.WellFormed.{IsWellFormed, StatementNamesRows}
use Rattle.dd_blocks.proofs.MovedSpacesLemmas.{has_array}
use Rattle.dd_meaning.specs.Moves.{moved}
use Rattle.dd_meaning.specs.Steps.{world_after}
use Rattle.dd_meaning.specs.Text.{moved_above, moved_line, printed, printed_by, row_text, summed, world_at}
use Rattle.dd_meaning.specs.Versions.{tasks_through}
use Rattle.dd_meaning.specs.Worlds.{World, values_of}
use Rattle.dd_plain.specs.declared.run.RunState.{RunState}
use Rattle.dd_plain.specs.Lists.{lists_of}
use Rattle.dd_transfers.specs.Rest.{NoneAsks}
use Rattle.dd_meaning.specs.RegionRows.{what_at}
use Rattle.dd_plain.specs.Rows.{HasRun}
use Rattle.dd_plain.specs.Sizes.{HasSizes}
use Rattle.dd_transfers.proofs.HomesLemmas.{moved_next}
use Rattle.dd_meaning.proofs.RegionRowsLemmas.{above_other}
use Rattle.dd_blocks.proofs.NumberedLemmas.{row_at}
use Rattle.dd_plain.proofs.TaskLemmas.{holds_values}
use Rattle.dd_plain.proofs.SizesLemmas.{as_many, has_size}

-- what holds anyway holds where a call went well
pub anyway_on_ok : {T E P : Type 0} (r : Result T E) → P → OnOk r P
anyway_on_ok (Ok x) p = p
anyway_on_ok (Err e) p = tt

-- the array that a row prints, or sums
pub named_print : (plan : Plan) (what : What) (n : ℕ) → StatementNamesRows plan what → what ≡ Print n → IsNumberIn plan.arrays n
named_print plan what n named is = subst (StatementNamesRows plan) is named

pub named_sum : (plan : Plan) (what : What) (n : ℕ) (name : List ℕ) → StatementNamesRows plan what → what ≡ Sum n name → IsNumberIn plan.arrays n
named_sum plan what n name named is = subst (StatementNamesRows plan) is named

-- its values
pub values_at : (plan : Plan) (world : List (Vec ℤ)) (n : ℕ) (values : List ℤ) (v : Vec ℤ) → IsNumberIn plan.arrays n → HasSizes plan.arrays (lists_of world) → v ≡ get_or world (n - 1) v → values ≡ v.items → values ≡ values_of (lists_of world) n
values_at plan world n values v named sizes is value =
    let many = as_many plan.arrays (lists_of world) sizes in
    let count = length-map world (λ (w : Vec ℤ). w.items) in
    value ∙ ap (λ (w : Vec ℤ). w.items) is ∙ holds_values world n v named.0 (omega (arith, named.1, many, count))

pub size_at : (plan : Plan) (world : List (Vec ℤ)) (n : ℕ) (values : List ℤ) (grid : Grid) → HasSizes plan.arrays (lists_of world) → values ≡ values_of (lists_of world) n → grid ≡ (array_row plan n).grid → length values ≡ element_count grid
size_at plan world n values grid sizes value same = ap length value ∙ has_size plan.arrays (lists_of world) n sizes ∙ sym (ap element_count same)

pub text_of_print : (plan : Plan) (world : World) (moved : ℕ) (what : What) (n : ℕ) (values : List ℤ) (grid : Grid) → what ≡ Print n → values ≡ values_of world n → grid ≡ (array_row plan n).grid → printed grid values ≡ printed_by plan world moved what
text_of_print plan world moved what n values grid is value same = ap2 printed same value ∙ sym (ap (printed_by plan world moved) is)

pub text_of_sum : (plan : Plan) (world : World) (moved : ℕ) (what : What) (n : ℕ) (name bytes : List ℕ) (values : List ℤ) → what ≡ Sum n name → bytes ≡ name → values ≡ values_of world n → summed bytes values ≡ printed_by plan world moved what
text_of_sum plan world moved what n name bytes values is same value = ap2 summed same value ∙ sym (ap (printed_by plan world moved) is)

-- a row that runs a region, and one that does not
pub region_row : (plan : Plan) (rows : List StatementRow) (i region : ℕ) (d : StatementRow) → rows ≡ plan.statements → (get_or rows i d).what ≡ Region region → region_run (get_or plan.statements i d).what ≡ Some region
region_row plan rows i region d same is = ap region_run (ap (λ (l : List StatementRow). (get_or l i d).what) (sym same) ∙ is)

not_region : (what : What) → ((x : ℕ) → what ≡ Region x → ⊥) → region_run what ≡ None
not_region (Put array) other = refl
not_region (Print array) other = refl
not_region (Sum array name) other = refl
not_region Moved other = refl
not_region (Same array) other = refl
not_region (Drop array last) other = refl
not_region (MoveTo array space) other = refl
not_region (Region region) other = absurd (other region refl)

pub other_row : (plan : Plan) (rows : List StatementRow) (i : ℕ) (d : StatementRow) → rows ≡ plan.statements → ((x : ℕ) → (get_or rows i d).what ≡ Region x → ⊥) → region_run (get_or plan.statements i d).what ≡ None
other_row plan rows i d same other = ap (λ (l : List StatementRow). region_run (get_or l i d).what) (sym same) ∙ not_region (get_or rows i d).what other

-- the statement of a row
pub is_at : (plan : Plan) (rows : List StatementRow) (i : ℕ) (d : StatementRow) → rows ≡ plan.statements → i < length plan.statements → (get_or rows i d).what ≡ what_at plan i
is_at plan rows i d same lt =
    let none : StatementRow = record { line = 0; what = Put 0 } in
    ap (λ (l : List StatementRow). (get_or l i d).what) same ∙ ap (λ (row : StatementRow). row.what) (get_or_default plan.statements i d none lt)

-- what was moved so far matters where it is printed
printed_anyway : (plan : Plan) (what : What) (world : World) (so_far other : ℕ) → (what ≡ Moved → so_far ≡ other) → printed_by plan world so_far what ≡ printed_by plan world other what
printed_anyway plan Moved world so_far other same = ap moved_line (same refl)
printed_anyway plan (Put array) world so_far other same = refl
printed_anyway plan (Print array) world so_far other same = refl
printed_anyway plan (Sum array name) world so_far other same = refl
printed_anyway plan (Same array) world so_far other same = refl
printed_anyway plan (Drop array last) world so_far other same = refl
printed_anyway plan (MoveTo array space) world so_far other same = refl
printed_anyway plan (Region region) world so_far other same = refl

-- a row that prints it stands above the last that asks
asks_above : (plan : Plan) (asked i : ℕ) → NoneAsks (drop asked plan.statements) → i < length plan.statements → what_at plan i ≡ Moved → i < asked
asks_above plan asked i last lt is =
    let none : StatementRow = record { line = 0; what = Put 0 } in
    ⊎_elim
    (λ (above : i < asked). above)
    (λ (below : asked ≤ i).
    let place : asked + (i - asked) ≡ i = omega arith in
    let at : get_or (drop asked plan.statements) (i - asked) none ≡ get_or plan.statements i none =
    get_or-drop asked plan.statements (i - asked) none ∙ ap (λ (k : ℕ). get_or plan.statements k none) place in
    absurd (last (i - asked) none (omega (arith, length-drop asked plan.statements)) (ap (λ (row : StatementRow). row.what) at ∙ is)))
    (cases_lt i asked)

-- the text of a row
pub text_at : (plan : Plan) (rows : List StatementRow) (i : ℕ) (d : StatementRow) (world : List (Vec ℤ)) (run : RunState) → rows ≡ plan.statements → i < length plan.statements → HasRun plan i run
    → world ≡ run.world.items → printed_by plan (lists_of world) run.moved (get_or rows i d).what ≡ row_text plan i
text_at plan rows i d world run same lt begun is =
    ap2 (λ (w : World) (what : What). printed_by plan w run.moved what) (ap lists_of is ∙ begun.world) (is_at plan rows i d same lt)
    ∙ printed_anyway plan (what_at plan i) (world_at plan i) run.moved (moved_above plan i) (λ asks. begun.moved (asks_above plan run.moves.asked i begun.rest.last lt asks))

-- a row that runs no region, and the next
pub run_past : (plan : Plan) (i : ℕ) (d : StatementRow) (run next : RunState) → IsWellFormed plan → i < length plan.statements → region_run (get_or plan.statements i d).what ≡ None
    → HasRun plan i run → next.world.items ≡ run.world.items → next.moved ≡ run.moved → next.moves.asked ≡ run.moves.asked → next.moves.marks.items ≡ run.moves.marks.items
    → next.moves.homes.items ≡ homes_after run.moves.homes.items (get_or plan.statements i d).what → HasRun plan (i + 1) next
run_past plan i d run next well lt other begun world count asked marks homes =
    let above = above_other plan i d lt other in
    let names = All-get_or (λ (row : StatementRow). StatementNamesRows plan row.what) plan.statements i d lt well.names.statements in
    let more = moved_next (length plan.arrays) plan.statements run.moves.homes.items i d lt (has_array plan (get_or plan.statements i d).what names) begun.rest.homes in
    record {
      world = ap lists_of world ∙ begun.world ∙ ap (λ (n : ℕ). world_after plan (tasks_through plan n)) (sym above);
      sizes = subst (λ (vs : List (Vec ℤ)). HasSizes plan.arrays (lists_of vs)) (sym world) begun.sizes;
      moved = λ less. count ∙ begun.moved (omega (arith, less, asked)) ∙ ap (λ (n : ℕ). sum_by (moved plan) (range_with_len 1 n)) (sym above);
      few = omega (arith, count, begun.few, above);
      rest = record {
        last = subst (λ (n : ℕ). NoneAsks (drop n plan.statements)) (sym asked) begun.rest.last;
        unmarked = λ some less. marks ∙ begun.rest.unmarked some (omega (arith, less, asked));
        homes = subst (AreMovedTo (length plan.arrays) (take (i + 1) plan.statements)) (sym homes) more;
      };
    }

-- an array that it moves has a home to put down
pub has_room : (plan : Plan) (rows : List StatementRow) (i : ℕ) (d : StatementRow) (homes : List ℕ) → IsWellFormed plan → rows ≡ plan.statements → i < length plan.statements
    → length homes ≡ length plan.arrays → HasArray (length homes) (get_or rows i d).what
has_room plan rows i d homes well same lt many =
    let names = All-get_or (λ (row : StatementRow). StatementNamesRows plan row.what) plan.statements i d lt well.names.statements in
    subst (λ (l : List StatementRow). HasArray (length homes) (get_or l i d).what) (sym same)
    (subst (λ (n : ℕ). HasArray n (get_or plan.statements i d).what) (sym many) (has_array plan (get_or plan.statements i d).what names))
