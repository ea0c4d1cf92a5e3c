-- A task whose arrays were lent and came back is a step of the world.
use Rattle.std.proofs.Common.{◌≡◌, ℕ, ◌+◌, ◌-◌, ◌≤◌, ℤ, Bool, true, false, List, [], ◌∷◌, length, map, get_or, set, refl, sym, ap, subst, ◌∙◌, arith, ⊎_elim}
use Rattle.std.specs.Global.{Vec}
use Rattle.std.specs.List.{All, AllByRecursion, range_with_len}
use Rattle.std.specs.Vec.{with_items}
use Rattle.std.proofs.lemmas.Bool.{cases_Bool}
use Rattle.std.proofs.lemmas.List.{length-map, map-set, set-set, take_all}
use Rattle.dd_lists.proofs.VectorsLemmas.{items_written}
use Rattle.dd_kernels.specs.declared.shape.Shape.{Shape}
use Rattle.dd_kernels.specs.declared.signature.Mode.{Mode}
use Rattle.dd_kernels.specs.Lists.{element}
use Rattle.dd_kernels.specs.Shapes.{HaveShapes}
use Rattle.dd_kernels.specs.Table.{results}
use Rattle.dd_kernels.proofs.ListsLemmas.{ap2}
use Rattle.dd_views.specs.IndexList.{index_list}
use Rattle.dd_blocks.specs.declared.access_row.AccessRow.{AccessRow}
use Rattle.dd_blocks.specs.declared.array_row.ArrayRow.{ArrayRow}
use Rattle.dd_blocks.specs.declared.task_row.TaskRow.{TaskRow}
use Rattle.dd_blocks.specs.Elements.{writes}
use Rattle.dd_blocks.specs.Grids.{element_count}
use Rattle.dd_blocks.specs.Numbered.{numbered, no_array}
use Rattle.dd_blocks.specs.Tasks.{MeetsKernel, kernel_shape, shape_in, shapes_in}
use Rattle.dd_meaning.specs.Steps.{computed, gathered, put_at, step, stored, stored_one}
use Rattle.dd_meaning.specs.Worlds.{World, values_of}
use Rattle.dd_plain.specs.Lending.{AreHeld, AreThere, all_back_in, all_places, held, is_lent, places_in, without, without_all}
use Rattle.dd_plain.specs.declared.runs.Segment.{Segment}
use Rattle.dd_plain.specs.Lists.{lists_of}
use Rattle.dd_plain.specs.Runs.{AreBeside, Wrote, WroteBoth, all_at, all_put, positions}
use Rattle.dd_plain.specs.Sizes.{CanRun, HasSizes, IsInArray}
use Rattle.dd_plain.proofs.AccessLemmas.{all_first, all_others}
use Rattle.dd_plain.proofs.LendingLemmas.{AllComeBack, AreApart, AreAllApart, AreOf, all_back, all_beside, are_of, length_without, not_first, put_same, without_beside}
use Rattle.dd_plain.proofs.ReadLemmas.{StayWhereRead, reads_stay}
use Rattle.dd_plain.proofs.TaskLemmas.{holds_values, lent_apart, long_view}
use Rattle.dd_plain.proofs.WalkLemmas.{elements_run}
use Rattle.dd_meaning.proofs.WorldLemmas.{length_put, put_whole, same_written, stored_sizes, values_written}
use Rattle.dd_plain.proofs.SizesLemmas.{as_many, has_size}

-- what is held of accesses may be held of them, also after it was written
pub are_held : (arrays : List ArrayRow) (lent : AccessRow → Bool) (world : World) (accesses : List AccessRow) → HasSizes arrays world → All (IsInArray arrays) accesses → AreHeld lent accesses (map (held lent world) accesses)
are_held arrays lent world [] sizes in_arrays = tt
are_held arrays lent world (a ∷ more) sizes in_arrays =
    let here = all_first arrays a more in_arrays in (
      record {
        shape = shape_in (numbered no_array arrays a.view.array);
        view = here.view;
        small = here.few;
        whole = λ l. rw l (has_size arrays world a.view.array sizes);
        part = λ k. rw k (length-map (index_list a.view) (element (values_of world a.view.array)));
      },
      are_held arrays lent world more sizes (all_others arrays a more in_arrays),
    )

pub still_held : (lent : AccessRow → Bool) (accesses : List AccessRow) (places : List (List ℕ)) (lists made : List (List ℤ)) → AreHeld lent accesses lists → AreHeld lent accesses (all_put places lists made)
still_held lent accesses [] lists made h = h
still_held lent [] (ps ∷ places) [] made h = tt
still_held lent [] (ps ∷ places) (x ∷ lists) made h = absurd h
still_held lent (a ∷ more) (ps ∷ places) [] made h = absurd h
still_held lent (a ∷ more) (ps ∷ places) (x ∷ lists) [] h = h
still_held lent (a ∷ more) (ps ∷ places) (x ∷ lists) (m ∷ made) h = let same = length_put ps m x in (rw same h.0, still_held lent more places lists made h.1)

-- the elements among what is held are what is gathered
every_element : (values : List ℤ) → map (element values) (range_with_len 0 (length values)) ≡ values
every_element values = elements_run values 0 (length values) (omega arith) ∙ take_all (length values) values (omega arith)

pub elements_held : (lent : AccessRow → Bool) (world : World) (accesses : List AccessRow) → all_at (all_places lent accesses (map (held lent world) accesses)) (map (held lent world) accesses) ≡ map (gathered world) accesses
elements_held lent world [] = refl
elements_held lent world (a ∷ more) =
    let here : map (element (held lent world a)) (places_in lent a (length (held lent world a))) ≡ gathered world a = ⊎_elim
    (λ (l : lent a ≡ true). rw l refl)
    (λ (k : lent a ≡ false). rw k (every_element (gathered world a)))
    (cases_Bool (lent a)) in
    ap2 (λ l ls. l ∷ ls) here (elements_held lent world more)

-- the accesses are of arrays of the world
pub are_of_arrays : (arrays : List ArrayRow) (world : World) (accesses : List AccessRow) → length world ≡ length arrays → All (IsInArray arrays) accesses → AreOf world accesses
are_of_arrays arrays world [] same in_arrays = tt
are_of_arrays arrays world (a ∷ more) same in_arrays =
    let here = all_first arrays a more in_arrays in
    ((here.named.0, omega (arith, here.named.1, same)), are_of_arrays arrays world more same (all_others arrays a more in_arrays))

-- the arrays that are not lent are there, before the others leave and after
there_at_first : (arrays : List ArrayRow) (lent : AccessRow → Bool) (world : World) (accesses : List AccessRow) → HasSizes arrays world → AreThere arrays lent world accesses
there_at_first arrays lent world [] sizes = tt
there_at_first arrays lent world (a ∷ more) sizes = ((λ k. has_size arrays world a.view.array sizes), there_at_first arrays lent world more sizes)

there_without : (arrays : List ArrayRow) (lent : AccessRow → Bool) (world : World) (a : AccessRow) (more : List AccessRow) → (1 ≤ a.view.array) × (a.view.array ≤ length world) → AllByRecursion (AreApart lent a) more → AreThere arrays lent world more → AreThere arrays lent (without lent world a) more
there_without arrays lent world a [] is apart there = tt
there_without arrays lent world a (b ∷ more) is apart there = ((λ k. ap length (without_beside lent world a b.view.array is apart.0.first) ∙ there.0 k), there_without arrays lent world a more is apart.1 there.1)

there_after : (arrays : List ArrayRow) (lent : AccessRow → Bool) (world : World) (accesses : List AccessRow) → AreOf world accesses → AreAllApart lent accesses → AreThere arrays lent world accesses → AreThere arrays lent (without_all lent world accesses) accesses
there_after arrays lent world [] is apart there = tt
there_after arrays lent world (a ∷ more) is apart there =
    let rest : World = without lent world a in
    let later = are_of world rest more (length_without lent world a) is.1 in (
      (λ k.
          let kept = all_beside lent rest more a.view.array later (not_first lent a more apart.0) ∙ without_beside lent world a a.view.array is.0 (λ l. absurd (cc)) in
          ap length kept ∙ there.0 k),
      there_after arrays lent rest more later apart.1 (there_without arrays lent world a more is.0 apart.0 there.1),
    )

pub there : (arrays : List ArrayRow) (world : World) (accesses : List AccessRow) → HasSizes arrays world → All (IsInArray arrays) accesses → AreThere arrays (is_lent accesses) (without_all (is_lent accesses) world accesses) accesses
there arrays world accesses sizes in_arrays =
    there_after arrays (is_lent accesses) world accesses (are_of_arrays arrays world accesses (as_many arrays world sizes) in_arrays) (lent_apart accesses) (there_at_first arrays (is_lent accesses) world accesses sizes)

pub length_without_all : (lent : AccessRow → Bool) (world : World) (accesses : List AccessRow) → length (without_all lent world accesses) ≡ length world
length_without_all lent world [] = refl
length_without_all lent world (a ∷ more) = length_without_all lent (without lent world a) more ∙ length_without lent world a

-- what a kernel leaves is what may come back
all_come : (arrays : List ArrayRow) (lent : AccessRow → Bool) (world : World) (accesses : List AccessRow) (made : List (List ℤ)) → All (IsInArray arrays) accesses → HaveShapes (shapes_in accesses) made → StayWhereRead (map (λ (a : AccessRow). a.mode) accesses) (map (gathered world) accesses) made → AllComeBack lent world accesses (all_put (all_places lent accesses (map (held lent world) accesses)) (map (held lent world) accesses) made) made
all_come arrays lent world [] made in_arrays shapes stay = tt
all_come arrays lent world (a ∷ more) [] in_arrays shapes stay = absurd shapes
all_come arrays lent world (a ∷ more) (m ∷ made) in_arrays shapes stay =
    let here = all_first arrays a more in_arrays in
    let long : length m ≡ length (gathered world a) = shapes.0 ∙ sym (length-map (index_list a.view) (element (values_of world a.view.array)) ∙ long_view a.view (shape_in (numbered no_array arrays a.view.array), here.view)) in (
      record {
        whole = λ l. rw l refl;
        same = λ l r. stay.0 r;
        part = λ k. rw k (put_whole (gathered world a) m long);
      },
      all_come arrays lent world more made (all_others arrays a more in_arrays) shapes.1 stay.1,
    )

-- a kernel leaves what its task only reads
stays : (world : World) (task : TaskRow) (made : List (List ℤ)) → MeetsKernel task → made ≡ computed world task → StayWhereRead (map (λ (a : AccessRow). a.mode) task.accesses) (map (gathered world) task.accesses) made
stays world task made kernel is = rw is (reads_stay task.kernel task.scalar (shapes_in task.accesses) (map (λ (a : AccessRow). a.mode) task.accesses) (map (gathered world) task.accesses) kernel.modes)

pub task_stepped : (arrays : List ArrayRow) (world : World) (task : TaskRow) (new : List (List ℤ)) → CanRun arrays task → HasSizes arrays world → Wrote task.kernel task.scalar (shapes_in task.accesses) (all_places (is_lent task.accesses) task.accesses (map (held (is_lent task.accesses) world) task.accesses)) (map (held (is_lent task.accesses) world) task.accesses) new → all_back_in (is_lent task.accesses) (without_all (is_lent task.accesses) world task.accesses) task.accesses new ≡ step world task
task_stepped arrays world task new can sizes wrote =
    let lent : AccessRow → Bool = is_lent task.accesses in
    let is : wrote.made ≡ computed world task = wrote.is ∙ ap (results task.kernel task.scalar (shapes_in task.accesses)) (elements_held (is_lent task.accesses) world task.accesses) in
    let back = all_come arrays (is_lent task.accesses) world task.accesses wrote.made can.accesses wrote.filled (stays world task wrote.made can.kernel is) in
    ap (all_back_in lent (without_all lent world task.accesses) task.accesses) wrote.put
    ∙ all_back lent world task.accesses _ wrote.made (are_of_arrays arrays world task.accesses (as_many arrays world sizes) can.accesses) (lent_apart task.accesses) back
    ∙ ap (stored world task.accesses) is

-- two accesses of one array, whose positions are written in either order
both_stored : (world : World) (a b : AccessRow) (x y new : List ℤ) → (1 ≤ a.view.array) × (a.view.array ≤ length world) → b.view.array ≡ a.view.array → (writes a.mode ≡ false → x ≡ map (element (values_of world a.view.array)) (index_list a.view)) → (writes b.mode ≡ false → y ≡ map (element (values_of world a.view.array)) (index_list b.view)) → new ≡ put_at (index_list b.view) y (put_at (index_list a.view) x (values_of world a.view.array)) → new ≡ put_at (index_list a.view) x (put_at (index_list b.view) y (values_of world a.view.array)) → set world (a.view.array - 1) new ≡ stored_one (stored_one world a x) b y
both_stored world a b x y new is same x_stays y_stays first second =
    let old = values_of world a.view.array in
    let place : ℕ = a.view.array - 1 in
    let left : writes a.mode ≡ false → put_at (index_list a.view) x old ≡ old = λ r. ap (λ l. put_at (index_list a.view) l old) (x_stays r) ∙ put_same (index_list a.view) old in
    let right : writes b.mode ≡ false → put_at (index_list b.view) y old ≡ old = λ r. ap (λ l. put_at (index_list b.view) l old) (y_stays r) ∙ put_same (index_list b.view) old in
    ⊎_elim
    (λ (w : writes a.mode ≡ true). ⊎_elim
    (λ (v : writes b.mode ≡ true). rw (w, v, same, values_written world a.view.array (put_at (index_list a.view) x old) is.0 is.1, set-set) (ap (set world place) first))
    (λ (r : writes b.mode ≡ false). rw (w, r) (ap (set world place) (second ∙ ap (put_at (index_list a.view) x) (right r))))
    (cases_Bool (writes b.mode)))
    (λ (q : writes a.mode ≡ false). ⊎_elim
    (λ (v : writes b.mode ≡ true). rw (q, v, same) (ap (set world place) (first ∙ ap (put_at (index_list b.view) y) (left q))))
    (λ (r : writes b.mode ≡ false). rw (q, r) (same_written world a.view.array new is.0 (first ∙ ap (put_at (index_list b.view) y) (left q) ∙ right r)))
    (cases_Bool (writes b.mode)))
    (cases_Bool (writes a.mode))

pub beside_stepped : (world : World) (task : TaskRow) (a b : AccessRow) (ps qs : List ℕ) (new : List ℤ) → MeetsKernel task → task.accesses ≡ a ∷ b ∷ [] → (1 ≤ a.view.array) × (a.view.array ≤ length world) → a.view.array ≡ b.view.array → index_list a.view ≡ ps → index_list b.view ≡ qs → WroteBoth task.kernel task.scalar (shapes_in task.accesses) ps qs (values_of world a.view.array) new → set world (a.view.array - 1) new ≡ step world task
beside_stepped world task a b ps qs new kernel two is same a_is b_is wrote =
    let old = values_of world a.view.array in
    let lists : map (gathered world) task.accesses ≡ map (element old) ps ∷ map (element old) qs ∷ [] = ap (map (gathered world)) two ∙ ap2 (λ l r. l ∷ r ∷ []) (ap (map (element old)) a_is) (ap (λ (n : ℕ). map (element (values_of world n)) (index_list b.view)) (sym same) ∙ ap (map (element old)) b_is) in
    let made : wrote.x ∷ wrote.y ∷ [] ≡ computed world task = wrote.is ∙ sym (ap (results task.kernel task.scalar (shapes_in task.accesses)) lists) in
    let stay : StayWhereRead (a.mode ∷ b.mode ∷ []) (map (element old) ps ∷ map (element old) qs ∷ []) (wrote.x ∷ wrote.y ∷ []) = subst (λ (ms : List Mode). StayWhereRead ms (map (element old) ps ∷ map (element old) qs ∷ []) (wrote.x ∷ wrote.y ∷ [])) (ap (map (λ (c : AccessRow). c.mode)) two) (subst (λ ls. StayWhereRead (map (λ (c : AccessRow). c.mode) task.accesses) ls (wrote.x ∷ wrote.y ∷ [])) lists (stays world task (wrote.x ∷ wrote.y ∷ []) kernel made)) in
    both_stored world a b wrote.x wrote.y new is (sym same)
    (λ r. stay.0 r ∙ sym (ap (map (element old)) a_is))
    (λ r. stay.1.0 r ∙ sym (ap (map (element old)) b_is))
    (wrote.first ∙ ap2 (λ l r. put_at r wrote.y (put_at l wrote.x old)) (sym a_is) (sym b_is))
    (wrote.second ∙ ap2 (λ l r. put_at l wrote.x (put_at r wrote.y old)) (sym a_is) (sym b_is))
    ∙ sym (ap (λ (l : List AccessRow). stored world l (wrote.x ∷ wrote.y ∷ [])) two)
    ∙ ap (stored world task.accesses) made

-- such accesses, and where their runs stand
pub beside_in_array : (arrays : List ArrayRow) (task : TaskRow) (x y : Segment) → CanRun arrays task → (beside : AreBeside task.accesses x y) → IsInArray arrays beside.first × IsInArray arrays beside.second
beside_in_array arrays task x y can beside =
    let all = subst (All (IsInArray arrays)) beside.two can.accesses in
    (all_first arrays beside.first (beside.second ∷ []) all, all_first arrays beside.second [] (all_others arrays beside.first (beside.second ∷ []) all))

-- the vector of their array holds its values
beside_values : (arrays : List ArrayRow) (world : List (Vec ℤ)) (task : TaskRow) (accesses : List AccessRow) (x y : Segment) (d : AccessRow) (e : Vec ℤ) (old : List ℤ) → CanRun arrays task → HasSizes arrays (lists_of world) → accesses ≡ task.accesses → (beside : AreBeside task.accesses x y) → old ≡ (get_or world ((get_or accesses 0 d).view.array - 1) e).items → old ≡ values_of (lists_of world) beside.first.view.array
beside_values arrays world task accesses x y d e old can sizes same beside old_is =
    let here = (beside_in_array arrays task x y can beside).0 in
    let found : get_or accesses 0 d ≡ beside.first = ap (λ (l : List AccessRow). get_or l 0 d) (same ∙ beside.two) in
    let high : beside.first.view.array ≤ length world = omega (arith, here.named.1, as_many arrays (lists_of world) sizes, length-map world (λ (v : Vec ℤ). v.items)) in
    old_is ∙ ap (λ (b : AccessRow). (get_or world (b.view.array - 1) e).items) found ∙ holds_values world beside.first.view.array e here.named.0 high

pub beside_within : (arrays : List ArrayRow) (world : List (Vec ℤ)) (task : TaskRow) (accesses : List AccessRow) (x y : Segment) (d : AccessRow) (e : Vec ℤ) (old : List ℤ) → CanRun arrays task → HasSizes arrays (lists_of world) → accesses ≡ task.accesses → AreBeside task.accesses x y → old ≡ (get_or world ((get_or accesses 0 d).view.array - 1) e).items → (x.first + x.count ≤ length old) × (y.first + y.count ≤ length old)
beside_within arrays world task accesses x y d e old can sizes same beside old_is =
    let both = beside_in_array arrays task x y can beside in
    let long = ap length (beside_values arrays world task accesses x y d e old can sizes same beside old_is) ∙ has_size arrays (lists_of world) beside.first.view.array sizes in
    let one = ap (λ (n : ℕ). element_count (numbered no_array arrays n).grid) beside.same in (
      omega (arith, long, beside.x_within (shape_in (numbered no_array arrays beside.first.view.array)) both.0.view),
      omega (arith, long, one, beside.y_within (shape_in (numbered no_array arrays beside.second.view.array)) both.1.view),
    )

pub beside_written : (arrays : List ArrayRow) (world : List (Vec ℤ)) (task : TaskRow) (accesses : List AccessRow) (x y : Segment) (d : AccessRow) (e : Vec ℤ) (old new : List ℤ) (s t : Shape) → CanRun arrays task → HasSizes arrays (lists_of world) → accesses ≡ task.accesses → AreBeside task.accesses x y → old ≡ (get_or world ((get_or accesses 0 d).view.array - 1) e).items → length new ≡ length old → s ≡ kernel_shape (get_or accesses 0 d).view → t ≡ kernel_shape (get_or accesses 1 d).view → WroteBoth task.kernel task.scalar (s ∷ t ∷ []) (positions x) (positions y) old new → lists_of (set world ((get_or accesses 0 d).view.array - 1) (with_items (get_or world ((get_or accesses 0 d).view.array - 1) e) new)) ≡ step (lists_of world) task
beside_written arrays world task accesses x y d e old new s t can sizes same beside old_is long s_is t_is wrote =
    let a : AccessRow = beside.first in
    let place : ℕ = a.view.array - 1 in
    let found : get_or accesses 0 d ≡ beside.first = ap (λ (l : List AccessRow). get_or l 0 d) (same ∙ beside.two) in
    let next : get_or accesses 1 d ≡ beside.second = ap (λ (l : List AccessRow). get_or l 1 d) (same ∙ beside.two) in
    let shapes : s ∷ t ∷ [] ≡ shapes_in task.accesses = ap2 (λ p q. p ∷ q ∷ []) (s_is ∙ ap (λ (b : AccessRow). kernel_shape b.view) found) (t_is ∙ ap (λ (b : AccessRow). kernel_shape b.view) next) ∙ sym (ap shapes_in beside.two) in
    let here = (beside_in_array arrays task x y can beside).0 in
    let high : beside.first.view.array ≤ length (lists_of world) = omega (arith, here.named.1, as_many arrays (lists_of world) sizes) in
    let items : old ≡ (get_or world (beside.first.view.array - 1) e).items = old_is ∙ ap (λ (b : AccessRow). (get_or world (b.view.array - 1) e).items) found in
    let values = beside_values arrays world task accesses x y d e old can sizes same beside old_is in
    let on_values = subst (λ (ss : List Shape). WroteBoth task.kernel task.scalar ss (positions x) (positions y) (values_of (lists_of world) beside.first.view.array) new) shapes (subst (λ (l : List ℤ). WroteBoth task.kernel task.scalar (s ∷ t ∷ []) (positions x) (positions y) l new) values wrote) in
    ap (λ (b : AccessRow). lists_of (set world (b.view.array - 1) (with_items (get_or world (b.view.array - 1) e) new))) found
    ∙ map-set (λ (v : Vec ℤ). v.items) world place (with_items (get_or world place e) new)
    ∙ ap (set (lists_of world) place) (items_written (get_or world place e) new (long ∙ ap length items))
    ∙ beside_stepped (lists_of world) task beside.first beside.second (positions x) (positions y) new can.kernel beside.two (here.named.0, high) beside.same beside.x_is beside.y_is on_values

-- a step keeps the sizes
all_stored_sizes : (arrays : List ArrayRow) (world : World) (accesses : List AccessRow) (lists : List (List ℤ)) → All (IsInArray arrays) accesses → map length (stored world accesses lists) ≡ map length world
all_stored_sizes arrays world [] lists in_arrays = refl
all_stored_sizes arrays world (a ∷ more) [] in_arrays = refl
all_stored_sizes arrays world (a ∷ more) (values ∷ lists) in_arrays = all_stored_sizes arrays (stored_one world a values) more lists (all_others arrays a more in_arrays) ∙ stored_sizes world a values (all_first arrays a more in_arrays).named.0

pub step_sizes : (arrays : List ArrayRow) (world : World) (task : TaskRow) → CanRun arrays task → HasSizes arrays world → HasSizes arrays (step world task)
step_sizes arrays world task can sizes = all_stored_sizes arrays world task.accesses (computed world task) can.accesses ∙ sizes
