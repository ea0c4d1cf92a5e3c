-- Which events the statements ask for, and what their entries leave of live blocks and of regions that began.
use Rattle.std.proofs.Common.{◌≡◌, ◌≢◌, ℕ, zero, suc, ◌+◌, ◌<◌, ◌≤◌, Bool, true, false, cond, ◌||◌, eqb, List, [], ◌∷◌, ◌++◌, map, length, get_or, refl, ap, sym, ◌∙◌, subst, ⊎_elim, arith}
use Rattle.std.specs.List.{Contains, flat_map, fold, range_with_len}
use Rattle.std.proofs.lemmas.Bool.{eq-eqb, eqb-true, ne_eqb, or_cases}
use Rattle.std.proofs.lemmas.Bool.Decides.{eqb_tells}
use Rattle.std.proofs.lemmas.List.Sums.{fold-append}
use Rattle.dd_blocks.specs.declared.plan.Plan.{Plan}
use Rattle.dd_blocks.specs.declared.what.What.{What}
use Rattle.dd_blocks.specs.declared.what.What.TheVariants.{Put as Array, Print, Sum, Moved, Same, Drop, MoveTo, Region}
use Rattle.std.proofs.lemmas.List.FromFn.{length-range_with_len}
use Rattle.dd_blocks.specs.Grids.{block_count}
use Rattle.dd_blocks.specs.Numbered.{array_row}
use Rattle.dd_machine.specs.declared.entry.Entry.{Entry}
use Rattle.dd_machine.specs.declared.event.Event.{Event}
use Rattle.dd_machine.specs.declared.event.Event.TheVariants.{Ask, Rest, Put, Shift, Free, Begin, Hold, Pick, Gone, Make, Call, Come, Lend, Copy, Claim, Finish, Back, Close}
use Rattle.dd_machine.specs.Made.{begin_of, close_of, is_live, live_after, was_begun, was_closed}
use Rattle.dd_machine.specs.Owed.{blocks_by_rows, blocks_elsewhere, blocks_of, brought, entries_of, events_of, freed, put_there, shifted_to}
use Rattle.dd_machine.specs.Words.{statement}
use Rattle.dd_machine.proofs.ProgressLemmas.{event_map, length_map}

-- a fact of each event of a list
abbrev pub Each : (Event → Type 0) → List Event → Type 0
Each P [] = Unit {0}
Each P (e ∷ es) = P e × Each P es

each_append : (P : Event → Type 0) (es fs : List Event) → Each P es → Each P fs → Each P (es ++ fs)
each_append P [] fs h k = k
each_append P (e ∷ es) fs h k = (h.0, each_append P es fs h.1 k)

pub each_flat : (P : Event → Type 0) (f : ℕ → List Event) (xs : List ℕ) → ((x : ℕ) → Contains xs x → Each P (f x)) → Each P (flat_map f xs)
each_flat P f [] h = tt
each_flat P f (x ∷ xs) h = each_append P (f x) (flat_map f xs) (h x (0, omega arith, refl)) (each_flat P f xs (λ y has. h y (suc has.0, omega (arith, has.1), has.2)))

pub each_at : (P : Event → Type 0) (es : List Event) (i : ℕ) (d : Event) → Each P es → i < length es → P (get_or es i d)
each_at P [] i d h lt = absurd (omega (arith, lt))
each_at P (e ∷ es) zero d h lt = h.0
each_at P (e ∷ es) (suc i) d h lt = each_at P es i d h.1 (omega (arith, lt))

-- a statement that puts the block, or begins the region
abbrev Says : Plan → What → Event → Type 0
Says plan what (Put b) = (a : ℕ) × (what ≡ Array a) × Contains (blocks_of plan a) b
Says plan what (Begin r) = what ≡ Region r
Says plan what (Ask s b) = Unit {0}
Says plan what Rest = Unit {0}
Says plan what (Shift b s) = Unit {0}
Says plan what (Free s b) = Unit {0}
Says plan what (Hold t) = Unit {0}
Says plan what (Pick s b) = Unit {0}
Says plan what (Gone s b) = Unit {0}
Says plan what (Make t b) = Unit {0}
Says plan what (Call s b) = Unit {0}
Says plan what (Come s b) = Unit {0}
Says plan what (Lend t b s) = Unit {0}
Says plan what (Copy t b s n) = Unit {0}
Says plan what (Claim t w) = Unit {0}
Says plan what (Finish t) = Unit {0}
Says plan what (Back b s n) = Unit {0}
Says plan what (Close r) = what ≡ Region r

pub says : (plan : Plan) (row : ℕ) (what : What) → Each (Says plan what) (events_of plan row what)
says plan row (Array a) = each_flat (Says plan (Array a)) (put_there plan row) (blocks_of plan a) (λ b has. (tt, ((a, refl, has), (tt, tt))))
says plan row (Print a) = each_flat (Says plan (Print a)) (brought plan row) (blocks_by_rows plan a) (λ b has. (tt, (tt, tt)))
says plan row (Sum a name) = each_flat (Says plan (Sum a name)) (brought plan row) (blocks_of plan a) (λ b has. (tt, (tt, tt)))
says plan row Moved = tt
says plan row (Same a) = tt
says plan row (Drop a last) = by last
  where
    by : (l : Bool) → Each (Says plan (Drop a last)) (cond l (flat_map (freed plan row) (blocks_of plan a)) [])
    by true = each_flat (Says plan (Drop a last)) (freed plan row) (blocks_of plan a) (λ b has. (tt, tt))
    by false = tt
says plan row (MoveTo a s) = each_flat (Says plan (MoveTo a s)) (shifted_to s) (blocks_elsewhere plan row a s) (λ b has. (tt, (tt, (tt, tt))))
says plan row (Region r) = (refl, (refl, tt))

-- ---- live blocks

abbrev pub lives : ℕ → Bool → List Event → Bool
lives b live es = fold (λ l e. live_after b l e) live es

-- an event that frees another block or none
abbrev KeepsLive : ℕ → Event → Type 0
KeepsLive b e = live_after b true e ≡ true

lives_on : (b : ℕ) (es : List Event) → Each (KeepsLive b) es → lives b true es ≡ true
lives_on b [] h = refl
lives_on b (e ∷ es) h = ap (λ (l : Bool). lives b l es) h.0 ∙ lives_on b es h.1

same_both : (t : Bool) → cond t true true ≡ true
same_both true = refl
same_both false = refl

other_false : (x b : ℕ) → x ≢ b → cond (eqb x b) false true ≡ true
other_false x b ne = ap (λ (t : Bool). cond t false true) (ne_eqb x b ne)

-- a statement that doesn't drop the block's array keeps it live
pub keeps_live : (plan : Plan) (row : ℕ) (what : What) (b : ℕ) → ((a : ℕ) → what ≡ Drop a true → Contains (blocks_of plan a) b → ⊥) → lives b true (events_of plan row what) ≡ true
keeps_live plan row (Array a) b ne = lives_on b (events_of plan row (Array a)) (each_flat (KeepsLive b) (put_there plan row) (blocks_of plan a) (λ x has. (refl, (same_both (eqb x b), (refl, tt)))))
keeps_live plan row (Print a) b ne = lives_on b (events_of plan row (Print a)) (each_flat (KeepsLive b) (brought plan row) (blocks_by_rows plan a) (λ x has. (refl, (refl, tt))))
keeps_live plan row (Sum a name) b ne = lives_on b (events_of plan row (Sum a name)) (each_flat (KeepsLive b) (brought plan row) (blocks_of plan a) (λ x has. (refl, (refl, tt))))
keeps_live plan row Moved b ne = refl
keeps_live plan row (Same a) b ne = refl
keeps_live plan row (Drop a last) b ne = by last refl
  where
    by : (l : Bool) → last ≡ l → lives b true (cond l (flat_map (freed plan row) (blocks_of plan a)) []) ≡ true
    by true is = lives_on b (flat_map (freed plan row) (blocks_of plan a)) (each_flat (KeepsLive b) (freed plan row) (blocks_of plan a)
        (λ x has. (other_false x b (λ same. ne a (ap (Drop a) is) (subst (Contains (blocks_of plan a)) same has)), tt)))
    by false is = refl
keeps_live plan row (MoveTo a s) b ne = lives_on b (events_of plan row (MoveTo a s)) (each_flat (KeepsLive b) (shifted_to s) (blocks_elsewhere plan row a s) (λ x has. (refl, (refl, (refl, tt)))))
keeps_live plan row (Region r) b ne = refl

-- a statement that makes its array makes it live
put_range : (plan : Plan) (row b first n : ℕ) (live : Bool) → first ≤ b → b < first + n → lives b live (flat_map (put_there plan row) (range_with_len first n)) ≡ true
put_range plan row b first zero live low high = absurd (omega (arith, low, high))
put_range plan row b first (suc n) live low high = ⊎_elim
    (λ (e : (eqb first b ≡ true) × (first ≡ b)).
    ap (λ (t : Bool). lives b (cond t true live) (flat_map (put_there plan row) (range_with_len (first + 1) n))) e.0
    ∙ lives_on b (flat_map (put_there plan row) (range_with_len (first + 1) n)) (each_flat (KeepsLive b) (put_there plan row) (range_with_len (first + 1) n) (λ x has. (refl, (same_both (eqb x b), (refl, tt))))))
    (λ (e : (eqb first b ≡ false) × (first ≢ b)). put_range plan row b (first + 1) n (cond (eqb first b) true live) (omega (arith, low, e.1)) (omega (arith, high)))
    (eqb_tells first b)

pub puts_live : (plan : Plan) (row a b : ℕ) (live : Bool) → (array_row plan a).first_block ≤ b → b < (array_row plan a).first_block + length (blocks_of plan a) → lives b live (events_of plan row (Array a)) ≡ true
puts_live plan row a b live low high = put_range plan row b (array_row plan a).first_block (block_count (array_row plan a).grid) live low (rw (length-range_with_len (array_row plan a).first_block (block_count (array_row plan a).grid)) at high)

-- from events to entries
lives_map : (b l : ℕ) (live : Bool) (es : List Event) → fold (λ live' (x : Entry). live_after b live' x.event) live (map (λ e. record { line = l; event = e }) es) ≡ lives b live es
lives_map b l live [] = refl
lives_map b l live (e ∷ es) = lives_map b l (live_after b live e) es

pub live_row : (plan : Plan) (row b : ℕ) (es : List Entry) → is_live (es ++ entries_of plan row) b ≡ lives b (is_live es b) (events_of plan row (statement plan row).what)
unfolding is_live entries_of
live_row plan row b es = fold-append (λ live (x : Entry). live_after b live x.event) false es (entries_of plan row) ∙ lives_map b (statement plan row).line (is_live es b) (events_of plan row (statement plan row).what)

-- ---- regions that began

abbrev begins_in : ℕ → Bool → List Entry → Bool
begins_in r found es = fold (λ f (x : Entry). f || begin_of r x.event) found es

or_false : (x : Bool) → (x || false) ≡ x
or_false true = refl
or_false false = refl

or_three : (x y z : Bool) → ((x || y) || z) ≡ (x || (y || z))
or_three true y z = refl
or_three false y z = refl

begins_or : (r : ℕ) (found : Bool) (es : List Entry) → begins_in r found es ≡ (found || begins_in r false es)
begins_or r found [] = sym (or_false found)
begins_or r found (e ∷ es) =
    begins_or r (found || begin_of r e.event) es ∙ or_three found (begin_of r e.event) (begins_in r false es)
    ∙ ap (λ (t : Bool). found || t) (sym (begins_or r (begin_of r e.event) es))

pub begun_append : (es fs : List Entry) (r : ℕ) → was_begun (es ++ fs) r ≡ (was_begun es r || was_begun fs r)
unfolding was_begun
begun_append es fs r = fold-append (λ f (x : Entry). f || begin_of r x.event) false es fs ∙ begins_or r (begins_in r false es) fs

begins_says : (plan : Plan) (what : What) (r : ℕ) (e : Event) → Says plan what e → begin_of r e ≡ true → what ≡ Region r
begins_says plan what r (Begin s) h is = h ∙ ap Region (eqb-true s r is)
begins_says plan what r _ h is = absurd cc

begins_row : (plan : Plan) (what : What) (r l : ℕ) (es : List Event) → Each (Says plan what) es → begins_in r false (map (λ e. record { line = l; event = e }) es) ≡ true → what ≡ Region r
begins_row plan what r l [] h is = absurd cc
begins_row plan what r l (e ∷ es) h is = ⊎_elim
    (λ (now : begin_of r e ≡ true). begins_says plan what r e h.0 now)
    (λ (later : begins_in r false (map (λ e. record { line = l; event = e }) es) ≡ true). begins_row plan what r l es h.1 later)
    (or_cases (begin_of r e) (begins_in r false (map (λ e. record { line = l; event = e }) es)) (sym (begins_or r (begin_of r e) (map (λ e. record { line = l; event = e }) es)) ∙ is))

-- only the row of a region begins it
pub begun_row : (plan : Plan) (row r : ℕ) → was_begun (entries_of plan row) r ≡ true → (statement plan row).what ≡ Region r
unfolding was_begun entries_of
begun_row plan row r is = begins_row plan (statement plan row).what r (statement plan row).line (events_of plan row (statement plan row).what) (says plan row (statement plan row).what) is

pub entry_says : (plan : Plan) (row i : ℕ) (d : Entry) → i < length (entries_of plan row) → Says plan (statement plan row).what (get_or (entries_of plan row) i d).event
unfolding entries_of
entry_says plan row i d lt =
    let l = (statement plan row).line in
    let es = events_of plan row (statement plan row).what in
    let lt' : i < length es = omega (arith, lt, length_map l es) in
    subst (Says plan (statement plan row).what) (sym (event_map l i es d Rest lt)) (each_at (Says plan (statement plan row).what) es i Rest (says plan row (statement plan row).what) lt')

pub put_says : (plan : Plan) (row i b : ℕ) (d : Entry) → i < length (entries_of plan row) → (get_or (entries_of plan row) i d).event ≡ Put b → (a : ℕ) × ((statement plan row).what ≡ Array a) × Contains (blocks_of plan a) b
put_says plan row i b d lt is = subst (Says plan (statement plan row).what) is (entry_says plan row i d lt)

pub begin_says : (plan : Plan) (row i r : ℕ) (d : Entry) → i < length (entries_of plan row) → (get_or (entries_of plan row) i d).event ≡ Begin r → (statement plan row).what ≡ Region r
begin_says plan row i r d lt is = subst (Says plan (statement plan row).what) is (entry_says plan row i d lt)

-- the entries of a region's row
pub region_entries : (plan : Plan) (row r : ℕ) → (statement plan row).what ≡ Region r
    → entries_of plan row ≡ record { line = (statement plan row).line; event = Begin r } ∷ record { line = (statement plan row).line; event = Close r } ∷ []
unfolding entries_of
region_entries plan row r is = ap (λ (w : What). map (λ e. record { line = (statement plan row).line; event = e }) (events_of plan row w)) is

pub close_says : (plan : Plan) (row i r : ℕ) (d : Entry) → i < length (entries_of plan row) → (get_or (entries_of plan row) i d).event ≡ Close r → (statement plan row).what ≡ Region r
close_says plan row i r d lt is = subst (Says plan (statement plan row).what) is (entry_says plan row i d lt)

abbrev closes_in : ℕ → Bool → List Entry → Bool
closes_in r found es = fold (λ f (x : Entry). f || close_of r x.event) found es

closes_or : (r : ℕ) (found : Bool) (es : List Entry) → closes_in r found es ≡ (found || closes_in r false es)
closes_or r found [] = sym (or_false found)
closes_or r found (e ∷ es) =
    closes_or r (found || close_of r e.event) es ∙ or_three found (close_of r e.event) (closes_in r false es)
    ∙ ap (λ (t : Bool). found || t) (sym (closes_or r (close_of r e.event) es))

pub closed_append : (es fs : List Entry) (r : ℕ) → was_closed (es ++ fs) r ≡ (was_closed es r || was_closed fs r)
unfolding was_closed
closed_append es fs r = fold-append (λ f (x : Entry). f || close_of r x.event) false es fs ∙ closes_or r (closes_in r false es) fs

-- the row of a region closes it
pub closed_row : (plan : Plan) (row r : ℕ) → (statement plan row).what ≡ Region r → was_closed (entries_of plan row) r ≡ true
unfolding was_closed
closed_row plan row r is = ap (λ (es : List Entry). closes_in r false es) (region_entries plan row r is) ∙ eq-eqb r r refl

closes_says : (plan : Plan) (what : What) (r : ℕ) (e : Event) → Says plan what e → close_of r e ≡ true → what ≡ Region r
closes_says plan what r (Close s) h is = h ∙ ap Region (eqb-true s r is)
closes_says plan what r _ h is = absurd cc

closes_row : (plan : Plan) (what : What) (r l : ℕ) (es : List Event) → Each (Says plan what) es → closes_in r false (map (λ e. record { line = l; event = e }) es) ≡ true → what ≡ Region r
closes_row plan what r l [] h is = absurd cc
closes_row plan what r l (e ∷ es) h is = ⊎_elim
    (λ (now : close_of r e ≡ true). closes_says plan what r e h.0 now)
    (λ (later : closes_in r false (map (λ e. record { line = l; event = e }) es) ≡ true). closes_row plan what r l es h.1 later)
    (or_cases (close_of r e) (closes_in r false (map (λ e. record { line = l; event = e }) es)) (sym (closes_or r (close_of r e) (map (λ e. record { line = l; event = e }) es)) ∙ is))

-- only the row of a region closes it
pub closed_only : (plan : Plan) (row r : ℕ) → was_closed (entries_of plan row) r ≡ true → (statement plan row).what ≡ Region r
unfolding was_closed entries_of
closed_only plan row r is = closes_row plan (statement plan row).what r (statement plan row).line (events_of plan row (statement plan row).what) (says plan row (statement plan row).what) is
