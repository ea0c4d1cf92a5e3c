-- What was collected of all touched blocks is what the task finds.
use Rattle.std.proofs.Common.{◌≡◌, ◌≢◌, ℕ, zero, suc, ◌+◌, ◌-◌, ◌<◌, ◌≤◌, ℤ, pos, true, false, not, ◌&&◌, List, [], ◌∷◌, ◌++◌, length, map, set, take, get_or, inl, inr, refl, sym, ap, ◌∙◌, subst, arith, ⊎_elim}
use Rattle.std.proofs.lemmas.Bool.{cases_Bool}
use Rattle.std.specs.Prelude.{nat_eq, slice_index, Contains}
use Rattle.std.specs.List.{All, AllZip, filter, list_any}
use Rattle.std.proofs.lemmas.Bool.Decides.{eqb_tells}
use Rattle.std.proofs.lemmas.List.{ext_get_or, get_or-map, get_or-set_other, get_or-set_same, length-map, map-append, map-set, take_more, with_items_is}
use Rattle.std.specs.Global.{Vec}
use Rattle.std.specs.Vec.{with_items}
use Rattle.dd_meaning.specs.Lists.{lists_of}
use Rattle.dd_views.proofs.ViewLemmas.{length_view, view_few}
use Rattle.dd_blocks.proofs.LayoutLemmas.{elements_within}
use Rattle.std.proofs.lemmas.List.Elements.{All-contains_itself}
use Rattle.std.proofs.lemmas.List.Folds.{list_any-from_Any}
use Rattle.dd_kernels.specs.declared.shape.Shape.{Shape}
use Rattle.dd_kernels.specs.declared.signature.Mode.{Mode}
use Rattle.dd_kernels.specs.declared.signature.Mode.TheVariants.{Read, Write, Both}
use Rattle.dd_kernels.specs.Agreement.{AtEach, SameIfRead}
use Rattle.dd_kernels.specs.Lists.{element}
use Rattle.dd_kernels.specs.Shapes.{HaveShapes, size_of}
use Rattle.dd_kernels.proofs.ListsLemmas.{ap2}
use Rattle.dd_views.specs.declared.part.Part.TheVariants.{All as Whole}
use Rattle.dd_views.specs.declared.view.View.{View}
use Rattle.dd_views.specs.IndexList.{index_list}
use Rattle.dd_views.specs.Views.{IsView, IsViewOf}
use Rattle.dd_blocks.specs.declared.access_row.AccessRow.{AccessRow}
use Rattle.dd_blocks.specs.declared.plan.Plan.{Plan}
use Rattle.dd_blocks.specs.Elements.{Element, has, reads, task_reads, task_writes}
use Rattle.dd_blocks.specs.Numbered.{IsNumberIn, array_row, no_task, task_row}
use Rattle.dd_blocks.specs.PlanElements.{block_of_element, element_of, place_of_element}
use Rattle.dd_blocks.specs.Tasks.{MayBe, kernel_shape, shape_in, shapes_in}
use Rattle.dd_blocks.specs.WellFormed.{IsWellFormed}
use Rattle.dd_blocks.proofs.ElementsLemmas.{has_element}
use Rattle.dd_blocks.proofs.PlanElementsLemmas.{place_of_each}
use Rattle.dd_blocks.proofs.ShapesLemmas.{long_view}
use Rattle.dd_blocks.proofs.TouchedLemmas.{among_touched}
use Rattle.dd_meaning.specs.Steps.{gathered, world_after}
use Rattle.dd_meaning.specs.Values.{value_at}
use Rattle.dd_meaning.specs.Versions.{needed_version}
use Rattle.dd_meaning.specs.Worlds.{values_of}
use Rattle.dd_meaning.specs.Written.{HaveLengths}
use Rattle.dd_meaning.proofs.LatestLemmas.{latest_le}
use Rattle.dd_meaning.proofs.ValuesLemmas.{in_first_world, names_arrays}
use Rattle.dd_spans.proofs.MembersLemmas.{contains_filter, contains_none}
use Rattle.dd_stamps.specs.Cells.{AreTrue, size_of as places_of}
use Rattle.dd_stamps.specs.Found.{HasCollected, HasFound, HaveCollected, HaveFound, IsSmallView}
use Rattle.dd_stamps.specs.Gathered.{element_at}
use Rattle.dd_stamps.proofs.InBlocksLemmas.{view_element}
use Rattle.dd_stamps.proofs.StoredLemmas.{found_true}

-- the accesses of a task are of arrays, and views of them
pub accesses_named : (plan : Plan) (t : ℕ) → IsWellFormed plan → IsNumberIn plan.tasks t → All (λ (a : AccessRow). IsNumberIn plan.arrays a.view.array) (task_row plan t).accesses
accesses_named plan zero well known = absurd (omega (arith, known.0))
accesses_named plan (suc t) well known = (well.names.tasks t no_task (omega (arith, known.1))).accesses

pub accesses_views : (plan : Plan) (t : ℕ) → IsWellFormed plan → IsNumberIn plan.tasks t → All (λ (a : AccessRow). IsViewOf (shape_in (array_row plan a.view.array)) a.view) (task_row plan t).accesses
accesses_views plan t well known = λ k d lt. ((well.tasks t known).views k d lt).view

pub are_views : (plan : Plan) (t : ℕ) → IsWellFormed plan → IsNumberIn plan.tasks t → All (λ (a : AccessRow). IsView a.view) (task_row plan t).accesses
are_views plan t well known = λ k d lt. (shape_in (array_row plan (get_or (task_row plan t).accesses k d).view.array), accesses_views plan t well known k d lt)

-- buffers with the shapes of accesses have their lengths
pub have_lengths : (accesses : List AccessRow) (lists : List (List ℤ)) → All (λ (a : AccessRow). IsView a.view) accesses → HaveShapes (shapes_in accesses) lists → HaveLengths accesses lists
have_lengths [] [] views filled = tt
have_lengths [] (l ∷ lists) views filled = absurd filled
have_lengths (a ∷ more) [] views filled = absurd filled
have_lengths (a ∷ more) (l ∷ lists) views filled =
    (filled.0 ∙ sym (long_view a.view (views 0 a (omega arith))), have_lengths more lists (λ k d lt. views (suc k) d (omega arith)) filled.1)

-- the same by their numbers of elements
pub have_shapes : (shapes : List Shape) (lists : List (List ℤ)) → map length lists ≡ map size_of shapes → HaveShapes shapes lists
have_shapes [] [] same = tt
have_shapes [] (l ∷ lists) same = absurd (cc)
have_shapes (s ∷ shapes) [] same = absurd (cc)
have_shapes (s ∷ shapes) (l ∷ lists) same = (cc, have_shapes shapes lists (cc))

pub are_sizes : (shapes : List Shape) (lists : List (List ℤ)) → HaveShapes shapes lists → map length lists ≡ map size_of shapes
are_sizes [] [] filled = refl
are_sizes [] (l ∷ lists) filled = absurd filled
are_sizes (s ∷ shapes) [] filled = absurd filled
are_sizes (s ∷ shapes) (l ∷ lists) filled = ap2 (λ (n : ℕ) (ns : List ℕ). n ∷ ns) filled.0 (are_sizes shapes lists filled.1)

-- one access that reads
one_found : (plan : Plan) (n : ℕ) (a : AccessRow) (values : List ℤ) → reads a.mode ≡ true → length values ≡ length (index_list a.view) → HasFound plan n [] a values → values ≡ gathered (world_after plan n) a
unfolding HasFound
one_found plan n a values read long found =
    let f : ℕ → ℤ = λ p. get_or (values_of (world_after plan n) a.view.array) p (pos 0) in
    ext_get_or (pos 0) values (gathered (world_after plan n) a) (long ∙ sym (length-map (index_list a.view) f))
    (λ i lt. let inside : i < length (index_list a.view) = omega (arith, long, lt) in found i inside read (contains_none (block_of_element plan (element_at a.view i))) ∙ sym (get_or-map f (index_list a.view) i 0 (pos 0) inside))

-- an access that the kernel reads is one that reads
same_if_read : (m mode : Mode) (x y : List ℤ) → MayBe m mode → (reads mode ≡ true → x ≡ y) → SameIfRead m x y
same_if_read Write mode x y may same = tt
same_if_read Read Read x y may same = same refl
same_if_read Read Write x y may same = absurd may
same_if_read Read Both x y may same = absurd may
same_if_read Both Both x y may same = same refl
same_if_read Both Read x y may same = absurd may
same_if_read Both Write x y may same = absurd may

-- the first access, and the others
pub found_first : (plan : Plan) (n : ℕ) (left : List ℕ) (a : AccessRow) (more : List AccessRow) (l : List ℤ) (lists : List (List ℤ)) → HaveFound plan n left (a ∷ more) (l ∷ lists) → HasFound plan n left a l × HaveFound plan n left more lists
unfolding HaveFound
found_first plan n left a more l lists found = (found 0 a (omega arith), λ k d lt. found (suc k) d (omega arith))

pub agree_found : (plan : Plan) (n : ℕ) (modes : List Mode) (accesses : List AccessRow) (lists : List (List ℤ))
    → AllZip MayBe modes (map (λ (a : AccessRow). a.mode) accesses) → HaveLengths accesses lists → HaveFound plan n [] accesses lists
    → AtEach SameIfRead modes lists (map (gathered (world_after plan n)) accesses)
agree_found plan n [] [] [] zips long found = tt
agree_found plan n [] [] (l ∷ lists) zips long found = absurd long
agree_found plan n [] (a ∷ more) lists zips long found = absurd zips
agree_found plan n (m ∷ modes) [] lists zips long found = absurd zips
agree_found plan n (m ∷ modes) (a ∷ more) [] zips long found = absurd long
agree_found plan n (m ∷ modes) (a ∷ more) (l ∷ lists) zips long found =
    let both = found_first plan n [] a more l lists found in (
      same_if_read m a.mode l (gathered (world_after plan n) a) zips.0 (λ read. one_found plan n a l read long.0 both.0),
      agree_found plan n modes more lists zips.1 long.1 both.1,
    )

-- at first all touched blocks are left
pub found_none : (plan : Plan) (t n : ℕ) (lists : List (List ℤ)) → IsWellFormed plan → IsNumberIn plan.tasks t → HaveFound plan n (task_row plan t).blocks (task_row plan t).accesses lists
unfolding HaveFound HasFound
found_none plan t n lists well known = λ k d lt i less read lacks.
    absurd (lacks (among_touched plan (task_row plan t) (task_row plan t).blocks (well.tasks t known).blocks k d lt i 0 less))

-- a task reads the elements of its accesses that read
reads_at : (accesses : List AccessRow) (k i : ℕ) (d : AccessRow) → k < length accesses → reads (get_or accesses k d).mode ≡ true → i < length (index_list (get_or accesses k d).view)
    → list_any (λ (a : AccessRow). reads a.mode && has a (element_at (get_or accesses k d).view i)) accesses ≡ true
reads_at accesses k i d lt read less =
    let a : AccessRow = get_or accesses k d in
    let e : Element = element_at a.view i in
    let here : Contains accesses a = All-contains_itself accesses k d lt in
    let there : has (get_or accesses k d) (element_at (get_or accesses k d).view i) ≡ true = (has_element a e).1 (refl, All-contains_itself (index_list a.view) i 0 less) in
    let both : (reads (get_or accesses k d).mode && has (get_or accesses k d) (element_at (get_or accesses k d).view i)) ≡ true = rw read there in
    list_any-from_Any (λ (b : AccessRow). reads b.mode && has b (element_at (get_or accesses k d).view i)) accesses (here.0, a, here.1, here.2, both)

low_needed : (plan : Plan) (e : Element) (n : ℕ) → needed_version plan e (suc n) ≤ n
low_needed plan e n = let same : suc n - 1 ≡ n = omega arith in let le : needed_version plan e (suc n) ≤ suc n - 1 = latest_le (λ s. true && task_writes (task_row plan s) e) (suc n - 1) in omega (arith, le, same)

-- one access, where a block was collected
one_collected : (plan : Plan) (t block : ℕ) (left : List ℕ) (a : AccessRow) (vs : List ℕ) (xs old new : List ℤ) → IsWellFormed plan → IsNumberIn plan.tasks t
    → IsNumberIn plan.arrays a.view.array → IsViewOf (shape_in (array_row plan a.view.array)) a.view → length old ≡ length (index_list a.view)
    → ((i : ℕ) → i < length (index_list a.view) → reads a.mode ≡ true → task_reads (task_row plan t) (element_at a.view i) ≡ true)
    → ((p : ℕ) → p < places_of plan block → task_reads (task_row plan t) (element_of plan block p) ≡ true → slice_index vs p ≡ needed_version plan (element_of plan block p) t)
    → AreTrue plan block vs xs → HasFound plan (t - 1) left a old → HasCollected plan block xs a old new → HasFound plan (t - 1) (filter (λ b. not (nat_eq b block)) left) a new
unfolding HasFound
one_collected plan t block left a vs xs old new well known named view long task needed cells found collected = λ i lt read lacks.
    let e : Element = element_at a.view i in
    let gathers = (collected.read read).each i (omega (arith, long, lt)) in
    elim (eqb_tells (block_of_element plan (element_at a.view i)) block) [
      | inl h ↦
          let is = view_element plan a.view i named view lt in
          let has = place_of_each plan well.layout e is in
          let place : ℕ = place_of_element plan e in
          let back : element_of plan block (place_of_element plan (element_at a.view i)) ≡ element_at a.view i = ap (λ (b : ℕ). element_of plan b place) (sym h.1) ∙ has.back in
          let within : place_of_element plan (element_at a.view i) < places_of plan block = omega (arith, has.place, ap (places_of plan) h.1) in
          let read_there : task_reads (task_row plan t) (element_of plan block (place_of_element plan (element_at a.view i))) ≡ true = ap (task_reads (task_row plan t)) back ∙ task i lt read in
          let next : suc (t - 1) ≡ t = omega (arith, known.0) in
          let needs : slice_index vs (place_of_element plan (element_at a.view i)) ≡ needed_version plan (element_of plan block (place_of_element plan (element_at a.view i))) (suc (t - 1)) =
          needed place within read_there ∙ ap (needed_version plan (element_of plan block place)) (sym next) in
          let one : element new i ≡ element xs (place_of_element plan (element_at a.view i)) = rw h.0 at gathers in
          one
          ∙ found_true plan (t - 1) block place vs xs (names_arrays plan well) (omega (arith, known.1)) (omega (arith, well.line.tasks))
          (subst (λ (f : Element). Rattle.dd_meaning.specs.Written.IsIn (Rattle.dd_meaning.specs.Worlds.filled_world plan) f) (sym back) (in_first_world plan e is.array is.within)) within needs
          (low_needed plan (element_of plan block place) (t - 1)) cells
          ∙ ap (value_at plan (t - 1)) back
      | inr h ↦
          let one : element new i ≡ element old i = rw h.0 at gathers in
          one ∙ found i lt read (λ there. lacks (contains_filter (λ b. not (nat_eq b block)) left (block_of_element plan (element_at a.view i)) there (ap not h.0)))
    ]

pub all_collected : (plan : Plan) (t block : ℕ) (left : List ℕ) (vs : List ℕ) (xs : List ℤ) (old new : List (List ℤ)) → IsWellFormed plan → IsNumberIn plan.tasks t
    → ((k : ℕ) (d : AccessRow) → k < length (task_row plan t).accesses → length (get_or old k []) ≡ length (index_list (get_or (task_row plan t).accesses k d).view))
    → ((p : ℕ) → p < places_of plan block → task_reads (task_row plan t) (element_of plan block p) ≡ true → slice_index vs p ≡ needed_version plan (element_of plan block p) t)
    → AreTrue plan block vs xs → HaveFound plan (t - 1) left (task_row plan t).accesses old → HaveCollected plan block xs (task_row plan t).accesses old new
    → HaveFound plan (t - 1) (filter (λ b. not (nat_eq b block)) left) (task_row plan t).accesses new
unfolding HaveFound
all_collected plan t block left vs xs old new well known long needed cells found collected = λ k d lt.
    one_collected plan t block left (get_or (task_row plan t).accesses k d) vs xs (get_or old k []) (get_or new k []) well known (accesses_named plan t well known k d lt) (accesses_views plan t well known k d lt) (long k d lt)
    (λ i less read. reads_at (task_row plan t).accesses k i d lt read less) needed cells (found k d lt) (collected.each k d lt)

-- one buffer of several was written
pub one_written : (bufs : List (Vec ℤ)) (k : ℕ) (v : Vec ℤ) (ws : List ℤ) → k < length bufs → length ws ≡ v.len
    → (get_or (lists_of (set bufs k (with_items v ws))) k [] ≡ ws) × ((i : ℕ) → i ≢ k → get_or (lists_of (set bufs k (with_items v ws))) i [] ≡ get_or (lists_of bufs) i [])
one_written bufs k v ws lt long =
    let same : lists_of (set bufs k (with_items v ws)) ≡ set (lists_of bufs) k (with_items v ws).items = map-set (λ (b : Vec ℤ). b.items) bufs k (with_items v ws) in
    let many : k < length (lists_of bufs) = omega (arith, lt, length-map bufs (λ (b : Vec ℤ). b.items)) in (
      ap (λ (ls : List (List ℤ)). get_or ls k []) same ∙ get_or-set_same (lists_of bufs) k (with_items v ws).items [] many ∙ with_items_is v ws long,
      λ i ne. ap (λ (ls : List (List ℤ)). get_or ls i []) same ∙ get_or-set_other (lists_of bufs) k i (with_items v ws).items [] ne,
    )

pub same_collected : (plan : Plan) (block : ℕ) (values : List ℤ) (a b : AccessRow) (old was new is : List ℤ) → a ≡ b → old ≡ was → new ≡ is → HasCollected plan block values a old new → HasCollected plan block values b was is
same_collected plan block values a b old was new is ea eo en collected =
    subst (λ (l : List ℤ). HasCollected plan block values b was l) en
    (subst (λ (l : List ℤ). HasCollected plan block values b l new) eo (subst (λ (c : AccessRow). HasCollected plan block values c old new) ea collected))

-- a view of an array of the Plan has few elements
pub small_view : (plan : Plan) (v : View) → IsWellFormed plan → IsNumberIn plan.arrays v.array → IsViewOf (shape_in (array_row plan v.array)) v → IsSmallView v
small_view plan v well named view =
    let shape = shape_in (array_row plan v.array) in
    record {
      view = (shape, view);
      few = omega (arith, length_view v (shape, view), view_few shape v view, elements_within plan well.layout v.array named, well.limits.elements);
    }

-- one access more
pub more_shapes : (accesses : List AccessRow) (k : ℕ) (d : AccessRow) → k < length accesses → shapes_in (take (k + 1) accesses) ≡ shapes_in (take k accesses) ++ kernel_shape (get_or accesses k d).view ∷ []
more_shapes accesses k d lt = ap shapes_in (take_more accesses k d lt) ∙ map-append (λ (a : AccessRow). kernel_shape a.view) (take k accesses) (get_or accesses k d ∷ [])

pub more_sizes : (accesses : List AccessRow) (k : ℕ) (d : AccessRow) → k < length accesses → map size_of (shapes_in (take (k + 1) accesses)) ≡ map size_of (shapes_in (take k accesses)) ++ size_of (kernel_shape (get_or accesses k d).view) ∷ []
more_sizes accesses k d lt = ap (map size_of) (more_shapes accesses k d lt) ∙ map-append size_of (shapes_in (take k accesses)) (kernel_shape (get_or accesses k d).view ∷ [])

pub more_lengths : (bufs : List (Vec ℤ)) (v : Vec ℤ) → map length (lists_of (bufs ++ v ∷ [])) ≡ map length (lists_of bufs) ++ length v.items ∷ []
more_lengths bufs v = ap (map length) (map-append (λ (b : Vec ℤ). b.items) bufs (v ∷ [])) ∙ map-append length (lists_of bufs) (v.items ∷ [])

-- what the slices of a vector of buffers got, said of the vector
pub collected_in : (p q : Plan) (block : ℕ) (values : List ℤ) (lent accesses : List AccessRow) (v : Vec (Vec ℤ)) (old new : List (Vec ℤ)) → p ≡ q → lent ≡ accesses → old ≡ v.items → length new ≡ v.len
    → HaveCollected p block values lent (lists_of old) (lists_of new) → HaveCollected q block values accesses (lists_of v.items) (lists_of (with_items v new).items)
collected_in p q block values lent accesses v old new plan same was long collected =
    subst (λ (l : List (Vec ℤ)). HaveCollected q block values accesses (lists_of v.items) (lists_of l)) (sym (with_items_is v new long))
    (subst (λ (l : List (Vec ℤ)). HaveCollected q block values accesses (lists_of l) (lists_of new)) was
    (subst (λ (l : List AccessRow). HaveCollected q block values l (lists_of old) (lists_of new)) same (subst (λ (r : Plan). HaveCollected r block values lent (lists_of old) (lists_of new)) plan collected)))

one_length : (plan : Plan) (block : ℕ) (values : List ℤ) (a : AccessRow) (old new : List ℤ) → HasCollected plan block values a old new → length new ≡ length old
one_length plan block values a old new collected = ⊎_elim
    (λ (r : reads a.mode ≡ true). (collected.read r).count)
    (λ (n : reads a.mode ≡ false). ap length (collected.kept n))
    (cases_Bool (reads a.mode))

abbrev none_access : AccessRow
none_access = record { view = record { array = 0; height = 0; rows = record { first = 0; step = pos 0; count = 0 }; cols = record { first = 0; step = pos 0; count = 0 }; part = Whole }; mode = Read }

-- buffers keep their lengths
pub kept_sizes : (plan : Plan) (block : ℕ) (values : List ℤ) (accesses : List AccessRow) (old new : List (List ℤ)) → length old ≡ length accesses → HaveCollected plan block values accesses old new → map length new ≡ map length old
kept_sizes plan block values accesses old new many collected =
    ext_get_or 0 (map length new) (map length old) (length-map new length ∙ collected.count ∙ sym (length-map old length))
    (λ i lt.
    let less : i < length new = omega (arith, lt, length-map new length) in
    let was : i < length old = omega (arith, less, collected.count) in
    get_or-map length new i [] 0 less ∙ one_length plan block values (get_or accesses i none_access) (get_or old i []) (get_or new i []) (collected.each i none_access (omega (arith, was, many))) ∙ sym (get_or-map length old i [] 0 was))
