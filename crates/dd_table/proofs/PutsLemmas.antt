-- A block that is put next isn't live: no entry has put it before.
use Rattle.std.proofs.Common.{◌≡◌, ◌≢◌, ℕ, zero, suc, ◌+◌, ◌-◌, ◌<◌, ◌≤◌, Bool, true, false, cond, eqb, List, [], ◌∷◌, ◌++◌, map, length, get_or, take, drop, Option, Some, None, refl, ap, sym, ◌∙◌, subst, ⊎_elim, arith, length-append, take-suc, take-add, take-append-drop, drop-cons}
use Rattle.std.specs.Prelude.{Contains}
use Rattle.std.specs.List.{cons_option, flat_map, fold, range_with_len}
use Rattle.std.proofs.Math.ListN.{get_or-append}
use Rattle.std.proofs.Math.Seq.{get_or-append_seam}
use Rattle.std.proofs.lemmas.Bool.{cases_Bool, ne_eqb}
use Rattle.std.proofs.lemmas.List.Elements.{All-get_or, Contains-append_left, Contains-append_right, filter_map-append}
use Rattle.std.proofs.lemmas.List.FromFn.{get_or-range_with_len, length-range_with_len}
use Rattle.std.proofs.lemmas.List.Sums.{fold-append}
use Rattle.dd_blocks.specs.declared.plan.Plan.{Plan}
use Rattle.dd_blocks.specs.declared.statement_row.StatementRow.{StatementRow}
use Rattle.dd_blocks.specs.declared.what.What.{What}
use Rattle.dd_blocks.specs.declared.what.What.TheVariants.{Put as Array, Print, Sum, Moved, Same, Drop, MoveTo, Region}
use Rattle.dd_blocks.specs.Grids.{block_count}
use Rattle.dd_blocks.specs.Lives.{array_put, arrays_put}
use Rattle.dd_blocks.specs.Numbered.{IsNumberIn, array_row}
use Rattle.dd_blocks.specs.WellFormed.{IsWellFormed, StatementNamesRows}
use Rattle.dd_machine.specs.declared.entry.Entry.{Entry}
use Rattle.dd_machine.specs.declared.event.Event.{Event}
use Rattle.dd_machine.specs.declared.event.Event.TheVariants.{Rest, Put}
use Rattle.dd_machine.specs.Legal.{IsNext}
use Rattle.dd_machine.specs.Made.{is_live, live_after}
use Rattle.dd_machine.specs.Orderly.{ComesNext}
use Rattle.dd_machine.specs.Owed.{blocks_by_rows, blocks_elsewhere, blocks_of, brought, entries_from, entries_of, events_of, freed, made, put_there, shifted_to}
use Rattle.dd_machine.specs.Sound.{IsSound}
use Rattle.dd_machine.specs.States as states
use Rattle.dd_machine.specs.States.{Progress, State}
use Rattle.dd_machine.specs.Tests.{is_any, is_in_state}
use Rattle.dd_machine.specs.Words.{rows, statement}
use Rattle.dd_machine.proofs.ProgressLemmas.{event_map, length_map, no_entry, row_more}
use Rattle.laws_of_lives.proofs.EventsLemmas.{Each, each_flat, live_row, lives, put_says}
use Rattle.laws_of_lives.proofs.OrderlyLemmas.{array_of}
use Rattle.laws_of_lives.proofs.RowsLemmas.{row_is}
use Rattle.dd_table.proofs.DueLemmas.{stands_at}

-- the row that stands for no row
abbrev pub no_row : StatementRow
no_row = record { line = 0; what = Moved }

-- an array is made once
put_once : (xs : List StatementRow) (j n a count : ℕ) → arrays_put xs ≡ range_with_len 1 count → j < n → n < length xs → (get_or xs j no_row).what ≡ Array a → (get_or xs n no_row).what ≡ Array a → ⊥
put_once xs j n a count all low lt first second =
    let f : StatementRow → Option ℕ = λ r. array_put r.what in
    let j_more : take (suc j) xs ≡ take j xs ++ get_or xs j no_row ∷ [] = take-suc xs j no_row (omega (arith, low, lt)) in
    let j_put : arrays_put (take (suc j) xs) ≡ arrays_put (take j xs) ++ a ∷ [] =
    ap arrays_put j_more ∙ filter_map-append f (take j xs) (get_or xs j no_row ∷ []) ∙ ap (λ (w : What). arrays_put (take j xs) ++ cons_option (array_put w) []) first in
    let has : Contains (arrays_put (take (suc j) xs)) a = subst (λ (ys : List ℕ). Contains ys a) (sym j_put) (Contains-append_right (arrays_put (take j xs)) (a ∷ []) a (0, omega arith, refl)) in
    let m : n ≡ suc j + (n - suc j) = omega (arith, low) in
    let more : take n xs ≡ take (suc j) xs ++ take (n - suc j) (drop (suc j) xs) = ap (λ (i : ℕ). take i xs) m ∙ take-add (suc j) (n - suc j) xs in
    let old : Contains (arrays_put (take n xs)) a = subst (λ (ys : List StatementRow). Contains (arrays_put ys) a) (sym more)
    (subst (λ (ys : List ℕ). Contains ys a) (sym (filter_map-append f (take (suc j) xs) (take (n - suc j) (drop (suc j) xs)))) (Contains-append_left (arrays_put (take (suc j) xs)) (arrays_put (take (n - suc j) (drop (suc j) xs))) a has)) in
    let before = arrays_put (take n xs) in
    let behind = arrays_put (drop (suc n) xs) in
    let split : xs ≡ take n xs ++ (get_or xs n no_row ∷ drop (suc n) xs) = sym (take-append-drop n xs) ∙ ap (λ (ys : List StatementRow). take n xs ++ ys) (drop-cons xs n no_row lt) in
    let put : arrays_put xs ≡ before ++ a ∷ behind = ap arrays_put split ∙ filter_map-append f (take n xs) (get_or xs n no_row ∷ drop (suc n) xs) ∙ ap (λ (w : What). before ++ cons_option (array_put w) behind) second in
    let numbers : before ++ a ∷ behind ≡ range_with_len 1 count = sym put ∙ all in
    let many : length before + suc (length behind) ≡ count = sym (length-append before (a ∷ behind)) ∙ ap length numbers ∙ length-range_with_len 1 count in
    let early : old.0 < length before = old.1 in
    let at_old : 1 + old.0 ≡ a = sym (get_or-range_with_len 1 count old.0 a (omega (arith, early, many))) ∙ ap (λ (ys : List ℕ). get_or ys old.0 a) (sym numbers) ∙ get_or-append before (a ∷ behind) a old.0 early ∙ old.2 in
    let at_new : 1 + length before ≡ a = sym (get_or-range_with_len 1 count (length before) a (omega (arith, many))) ∙ ap (λ (ys : List ℕ). get_or ys (length before) a) (sym numbers) ∙ get_or-append_seam before a behind a in
    omega (arith, at_old, at_new, early)

-- an event that puts another block, or none
abbrev PutsOther : ℕ → Event → Type 0
PutsOther b e = live_after b false e ≡ false

lives_off : (b : ℕ) (es : List Event) → Each (PutsOther b) es → lives b false es ≡ false
lives_off b [] h = refl
lives_off b (e ∷ es) h = ap (λ (l : Bool). lives b l es) h.0 ∙ lives_off b es h.1

put_other : (x b : ℕ) → x ≢ b → PutsOther b (Put x)
put_other x b ne = ap (λ (t : Bool). cond t true false) (ne_eqb x b ne)

same_both : (t : Bool) → cond t false false ≡ false
same_both true = refl
same_both false = refl

-- a statement that makes another array, or none
puts_other : (plan : Plan) (row : ℕ) (what : What) (b : ℕ) → ((a : ℕ) → what ≡ Array a → Contains (blocks_of plan a) b → ⊥) → Each (PutsOther b) (events_of plan row what)
puts_other plan row (Array a) b ne = each_flat (PutsOther b) (put_there plan row) (blocks_of plan a)
    (λ x has. (refl, (put_other x b (λ same. ne a refl (subst (Contains (blocks_of plan a)) same has)), (refl, tt))))
puts_other plan row (Print a) b ne = each_flat (PutsOther b) (brought plan row) (blocks_by_rows plan a) (λ x has. (refl, (refl, tt)))
puts_other plan row (Sum a name) b ne = each_flat (PutsOther b) (brought plan row) (blocks_of plan a) (λ x has. (refl, (refl, tt)))
puts_other plan row Moved b ne = tt
puts_other plan row (Same a) b ne = tt
puts_other plan row (Drop a last) b ne = by last
  where
    by : (l : Bool) → Each (PutsOther b) (cond l (flat_map (freed plan row) (blocks_of plan a)) [])
    by true = each_flat (PutsOther b) (freed plan row) (blocks_of plan a) (λ x has. (same_both (eqb x b), tt))
    by false = tt
puts_other plan row (MoveTo a s) b ne = each_flat (PutsOther b) (shifted_to s) (blocks_elsewhere plan row a s) (λ x has. (refl, (refl, (refl, tt))))
puts_other plan row (Region r) b ne = (refl, (refl, tt))

-- the rows above the one that makes the block's array
nowhere_live : (b : ℕ) → is_live [] b ≡ false
unfolding is_live
nowhere_live b = refl

unput_above : (plan : Plan) → IsWellFormed plan → (k a b : ℕ) → k < rows plan → (statement plan (suc k)).what ≡ Array a → IsNumberIn plan.arrays a → Contains (blocks_of plan a) b
    → (i : ℕ) → i ≤ k → is_live (entries_from plan 1 i) b ≡ false
unput_above plan well k a b lt what a_is has zero le = nowhere_live b
unput_above plan well k a b lt what a_is has (suc i) le =
    let row = statement plan (suc i) in
    let one : 1 + i ≡ suc i = omega arith in
    let below : i < length plan.statements = omega (arith, le, lt) in
    ap (λ (es : List Entry). is_live es b) (sym (row_more plan 1 i)) ∙ ap (λ (n : ℕ). is_live (entries_from plan 1 i ++ entries_of plan n) b) one
    ∙ live_row plan (suc i) b (entries_from plan 1 i)
    ∙ ap (λ (l : Bool). lives b l (events_of plan (suc i) row.what)) (unput_above plan well k a b lt what a_is has i (omega (arith, le)))
    ∙ lives_off b (events_of plan (suc i) row.what) (puts_other plan (suc i) row.what b (λ c is c_has.
    let names : StatementNamesRows plan row.what = All-get_or (λ (r : StatementRow). StatementNamesRows plan r.what) plan.statements i no_row below well.names.statements in
    let c_is : IsNumberIn plan.arrays c = subst (StatementNamesRows plan) is names in
    let same : c ≡ a = sym (array_of plan well.layout c b c_is c_has) ∙ array_of plan well.layout a b a_is has in
    put_once plan.statements i k a (length plan.arrays) well.lives.puts (omega (arith, le)) lt (is ∙ ap (λ (x : ℕ). Array x) same) what))

-- the entries of its row before its Put
unput_before : (plan : Plan) (row b first n at : ℕ) → at < length (flat_map (put_there plan row) (range_with_len first n)) → get_or (flat_map (put_there plan row) (range_with_len first n)) at Rest ≡ Put b
    → (first ≤ b) × Each (PutsOther b) (take at (flat_map (put_there plan row) (range_with_len first n)))
unput_before plan row b first zero at lt is = absurd (omega (arith, lt))
unput_before plan row b first (suc n) zero lt is = absurd (cc)
unput_before plan row b first (suc n) (suc zero) lt is = (let same : first ≡ b = cc in omega (arith, same), (refl, tt))
unput_before plan row b first (suc n) (suc (suc zero)) lt is = absurd (cc)
unput_before plan row b first (suc n) (suc (suc (suc at))) lt is =
    let more = unput_before plan row b (first + 1) n at (omega (arith, lt)) is in
    let low = more.0 in
    (omega (arith, low), (refl, (put_other first b (λ same. omega (arith, low, same)), (refl, more.1))))

-- so of the entries
lives_take : (b line : ℕ) (live : Bool) (i : ℕ) (es : List Event)
    → fold (λ live' (x : Entry). live_after b live' x.event) live (take i (map (λ e. record { line = line; event = e }) es)) ≡ lives b live (take i es)
lives_take b line live zero es = refl
lives_take b line live (suc i) [] = refl
lives_take b line live (suc i) (e ∷ es) = lives_take b line (live_after b live e) i es

pub live_within : (plan : Plan) (row i b : ℕ) (es : List Entry) → is_live (es ++ take i (entries_of plan row)) b ≡ lives b (is_live es b) (take i (events_of plan row (statement plan row).what))
unfolding is_live entries_of
live_within plan row i b es = fold-append (λ live (x : Entry). live_after b live x.event) false es (take i (entries_of plan row)) ∙ lives_take b (statement plan row).line (is_live es b) i (events_of plan row (statement plan row).what)

pub event_in : (plan : Plan) (row i : ℕ) → i < length (entries_of plan row) → (get_or (entries_of plan row) i no_entry).event ≡ get_or (events_of plan row (statement plan row).what) i Rest
unfolding entries_of
event_in plan row i lt = event_map (statement plan row).line i (events_of plan row (statement plan row).what) no_entry Rest lt

pub long_as : (plan : Plan) (row : ℕ) → length (entries_of plan row) ≡ length (events_of plan row (statement plan row).what)
unfolding entries_of
long_as plan row = length_map (statement plan row).line (events_of plan row (statement plan row).what)

pub unput_next : (plan : Plan) → IsWellFormed plan → (p : Progress) (b : ℕ) → p.row ≤ rows plan → ComesNext plan p (Put b) → is_live (made plan p) b ≡ false
unput_next plan well p b low next =
    let s = stands_at plan p (Put b) low next in
    let put = put_says plan s.row s.at b no_entry s.within s.is in
    let a = put.0 in
    let k = row_is plan s.row (λ moved. let h : Moved ≡ Array a = sym moved ∙ put.1 in cc) in
    let what : (statement plan (suc k.0)).what ≡ Array a = subst (λ (x : ℕ). (statement plan x).what ≡ Array a) k.1 put.1 in
    let less : s.row - 1 ≡ k.0 = omega (arith, k.1) in
    let a_is : IsNumberIn plan.arrays a = subst (StatementNamesRows plan) what (All-get_or (λ (x : StatementRow). StatementNamesRows plan x.what) plan.statements k.0 no_row k.2 well.names.statements) in
    let above : is_live (entries_from plan 1 (s.row - 1)) b ≡ false = ap (λ (n : ℕ). is_live (entries_from plan 1 n) b) less ∙ unput_above plan well k.0 a b k.2 what a_is put.2 k.0 (omega arith) in
    let es = events_of plan s.row (statement plan s.row).what in
    let within : s.at < length (events_of plan s.row (Array a)) = (let long = long_as plan s.row in let same = ap (λ (w : What). length (events_of plan s.row w)) put.1 in let lt = s.within in omega (arith, long, same, lt)) in
    let is : get_or (events_of plan s.row (Array a)) s.at Rest ≡ Put b = ap (λ (w : What). get_or (events_of plan s.row w) s.at Rest) (sym put.1) ∙ sym (event_in plan s.row s.at s.within) ∙ s.is in
    let others = unput_before plan s.row b (array_row plan a).first_block (block_count (array_row plan a).grid) s.at within is in
    ap (λ (xs : List Entry). is_live xs b) s.made_is
    ∙ live_within plan s.row s.at b (entries_from plan 1 (s.row - 1))
    ∙ ap (λ (l : Bool). lives b l (take s.at es)) above
    ∙ ap (λ (w : What). lives b false (take s.at (events_of plan s.row w))) put.1
    ∙ lives_off b (take s.at (events_of plan s.row (Array a))) others.1

-- where a Put is next its block has no copy
pub absent_next : (plan : Plan) → IsWellFormed plan → (st : State) (b : ℕ) → IsSound plan st → st.region ≡ None → IsNext plan st (Put b) → (s : ℕ) → st.copies s b ≡ None
absent_next plan well st b sound outside next s = ⊎_elim
    (λ (there : is_in_state is_any (st.copies s b) ≡ true).
    let home : is_in_state is_any (st.copies (st.homes b) b) ≡ true = subst (λ (x : ℕ). is_in_state is_any (st.copies x b) ≡ true) (sym (sound.lives.at_home outside s b there)) there in
    absurd (let h : true ≡ false = sym home ∙ sym (sound.lives.home_live b) ∙ unput_next plan well st.progress b sound.lives.position.row_within next in cc))
    (λ (none : is_in_state is_any (st.copies s b) ≡ false). nothing (st.copies s b) none)
    (cases_Bool (is_in_state is_any (st.copies s b)))
  where
    nothing : (c : Option states.Copy) → is_in_state is_any c ≡ false → c ≡ None
    nothing None is = refl
    nothing (Some c) is = absurd (cc)
