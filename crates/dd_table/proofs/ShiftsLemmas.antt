-- A block that is shifted next is live, and its home is another space.
use Rattle.std.proofs.Common.{◌≡◌, ◌≢◌, ℕ, zero, suc, ◌+◌, ◌-◌, ◌<◌, ◌≤◌, Bool, true, false, cond, eqb, List, [], ◌∷◌, ◌++◌, map, length, get_or, take, refl, ap, sym, ◌∙◌, subst, arith}
use Rattle.std.specs.Prelude.{Contains, not}
use Rattle.std.specs.List.{All, filter, flat_map, fold, range_with_len}
use Rattle.std.proofs.lemmas.Bool.{eq-eqb, ne_eqb, not-true}
use Rattle.std.proofs.lemmas.List.Elements.{All-get_or, All-head}
use Rattle.std.proofs.lemmas.List.Sums.{fold-append}
use Rattle.dd_views.proofs.ListsLemmas.{in_filter}
use Rattle.dd_blocks.specs.declared.plan.Plan.{Plan}
use Rattle.dd_blocks.specs.declared.statement_row.StatementRow.{StatementRow}
use Rattle.dd_blocks.specs.declared.what.What.{What}
use Rattle.dd_blocks.specs.declared.what.What.TheVariants.{Put as Array, Print, Sum, Moved, Same, Drop, MoveTo, Region}
use Rattle.dd_blocks.specs.Grids.{block_count}
use Rattle.dd_blocks.specs.Homes.{home_before}
use Rattle.dd_blocks.specs.Lives.{IsLive, arrays_used}
use Rattle.dd_blocks.specs.Numbered.{array_row, block_row}
use Rattle.dd_blocks.specs.WellFormed.{IsWellFormed, StatementNamesRows}
use Rattle.dd_machine.specs.declared.entry.Entry.{Entry}
use Rattle.dd_machine.specs.declared.event.Event.{Event}
use Rattle.dd_machine.specs.declared.event.Event.TheVariants.{Rest, Shift}
use Rattle.dd_machine.specs.Legal.{IsNext}
use Rattle.dd_machine.specs.Made.{home_made, home_with, is_live, live_after}
use Rattle.dd_machine.specs.Orderly.{ComesNext}
use Rattle.dd_machine.specs.Owed.{blocks_by_rows, blocks_elsewhere, blocks_of, brought, entries_from, entries_of, events_of, freed, made, put_there, shifted_to}
use Rattle.dd_machine.specs.Sound.{IsSound}
use Rattle.dd_machine.specs.States.{Progress, State}
use Rattle.dd_machine.specs.Tests.{Has, is_any}
use Rattle.dd_machine.specs.Words.{IsOneOf, blocks, rows, statement}
use Rattle.laws_of_lives.proofs.EventsLemmas.{Each, each_at, each_flat, lives}
use Rattle.laws_of_lives.proofs.HomesOfRows.{homes_upto}
use Rattle.laws_of_lives.proofs.OrderlyLemmas.{live_upto}
use Rattle.laws_of_lives.proofs.RowsLemmas.{row_is}
use Rattle.dd_table.proofs.DueLemmas.{stands_at}
use Rattle.dd_table.proofs.PutsLemmas.{event_in, live_within, long_as, no_row}

-- the home of a block after some events
abbrev housed : ℕ → ℕ → List Event → ℕ
housed b home es = fold (λ h e. home_with b h e) home es

-- an event that shifts no block
abbrev KeepsHome : ℕ → Event → Type 0
KeepsHome b e = (h : ℕ) → home_with b h e ≡ h

housed_on : (b h : ℕ) (es : List Event) → Each (KeepsHome b) es → housed b h es ≡ h
housed_on b h [] k = refl
housed_on b h (e ∷ es) k = ap (λ (x : ℕ). housed b x es) (k.0 h) ∙ housed_on b h es k.1

-- a statement that shifts the block moves its array, from another space
abbrev Shifts : Plan → ℕ → What → Event → Type 0
Shifts plan row what (Shift b s) = (a : ℕ) × (what ≡ MoveTo a s) × Contains (blocks_elsewhere plan row a s) b
Shifts plan row what _ = Unit {0}

shifts : (plan : Plan) (row : ℕ) (what : What) → Each (Shifts plan row what) (events_of plan row what)
shifts plan row (Array a) = each_flat (Shifts plan row (Array a)) (put_there plan row) (blocks_of plan a) (λ b has. (tt, (tt, (tt, tt))))
shifts plan row (Print a) = each_flat (Shifts plan row (Print a)) (brought plan row) (blocks_by_rows plan a) (λ b has. (tt, (tt, tt)))
shifts plan row (Sum a name) = each_flat (Shifts plan row (Sum a name)) (brought plan row) (blocks_of plan a) (λ b has. (tt, (tt, tt)))
shifts plan row Moved = tt
shifts plan row (Same a) = tt
shifts plan row (Drop a last) = by last
  where
    by : (l : Bool) → Each (Shifts plan row (Drop a last)) (cond l (flat_map (freed plan row) (blocks_of plan a)) [])
    by true = each_flat (Shifts plan row (Drop a last)) (freed plan row) (blocks_of plan a) (λ b has. (tt, tt))
    by false = tt
shifts plan row (MoveTo a s) = each_flat (Shifts plan row (MoveTo a s)) (shifted_to s) (blocks_elsewhere plan row a s) (λ b has. (tt, ((a, refl, has), (tt, tt))))
shifts plan row (Region r) = (tt, (tt, tt))

-- the entries of its row before its Shift shift others
home_other : (x b h s : ℕ) → x ≢ b → home_with b h (Shift x s) ≡ h
home_other x b h s ne = ap (λ (t : Bool). cond t s h) (ne_eqb x b ne)

unshifted_before : (s b first n at : ℕ) (p : ℕ → Bool) → at < length (flat_map (shifted_to s) (filter p (range_with_len first n))) → get_or (flat_map (shifted_to s) (filter p (range_with_len first n))) at Rest ≡ Shift b s
    → (first ≤ b) × Each (KeepsHome b) (take at (flat_map (shifted_to s) (filter p (range_with_len first n))))
unshifted_before s b first zero at p lt is = absurd (omega (arith, lt))
unshifted_before s b first (suc n) at p lt is = by (p first) at (λ i lt is. unshifted_before s b (first + 1) n i p lt is) lt is
  where
    rest : List Event
    rest = flat_map (shifted_to s) (filter p (range_with_len (first + 1) n))

    by : (t : Bool) (i : ℕ) → ((k : ℕ) → k < length rest → get_or rest k Rest ≡ Shift b s → (first + 1 ≤ b) × Each (KeepsHome b) (take k rest))
        → i < length (flat_map (shifted_to s) (cond t (first ∷ filter p (range_with_len (first + 1) n)) (filter p (range_with_len (first + 1) n))))
        → get_or (flat_map (shifted_to s) (cond t (first ∷ filter p (range_with_len (first + 1) n)) (filter p (range_with_len (first + 1) n)))) i Rest ≡ Shift b s
        → (first ≤ b) × Each (KeepsHome b) (take i (flat_map (shifted_to s) (cond t (first ∷ filter p (range_with_len (first + 1) n)) (filter p (range_with_len (first + 1) n)))))
    by false i more lt is = let m = more i lt is in let low = m.0 in (omega (arith, low), m.1)
    by true zero more lt is = absurd (cc)
    by true (suc zero) more lt is = (let same : first ≡ b = cc in omega (arith, same), ((λ h. refl), tt))
    by true (suc (suc zero)) more lt is = absurd (cc)
    by true (suc (suc (suc i))) more lt is =
        let m = more i (omega (arith, lt)) is in
        let low = m.0 in
        (omega (arith, low), ((λ h. refl), ((λ h. home_other first b h s (λ same. omega (arith, low, same))), ((λ h. refl), m.1))))

housed_take : (b line h i : ℕ) (es : List Event) → fold (λ h' (x : Entry). home_with b h' x.event) h (take i (map (λ e. record { line = line; event = e }) es)) ≡ housed b h (take i es)
housed_take b line h zero es = refl
housed_take b line h (suc i) [] = refl
housed_take b line h (suc i) (e ∷ es) = housed_take b line (home_with b h e) i es

housed_within : (plan : Plan) (first row i b : ℕ) (es : List Entry) → home_made first (es ++ take i (entries_of plan row)) b ≡ housed b (home_made first es b) (take i (events_of plan row (statement plan row).what))
unfolding home_made entries_of
housed_within plan first row i b es = fold-append (λ h (x : Entry). home_with b h x.event) first es (take i (entries_of plan row)) ∙ housed_take b (statement plan row).line (home_made first es b) i (events_of plan row (statement plan row).what)

-- no event of a move frees a block
lives_kept : (b : ℕ) (live : Bool) (es : List Event) → Each (λ (e : Event). (l : Bool) → live_after b l e ≡ l) es → (i : ℕ) → lives b live (take i es) ≡ live
lives_kept b live [] h zero = refl
lives_kept b live [] h (suc i) = refl
lives_kept b live (e ∷ es) h zero = refl
lives_kept b live (e ∷ es) h (suc i) = ap (λ (l : Bool). lives b l (take i es)) (h.0 live) ∙ lives_kept b live es h.1 i

-- what is said of a block that is shifted next
pub record IsElsewhere (plan : Plan) (p : Progress) (b s : ℕ) : Type 0 where
  pub live : is_live (made plan p) b ≡ true
  pub away : home_made (block_row plan b).home (made plan p) b ≢ s

pub shift_next : (plan : Plan) → IsWellFormed plan → (p : Progress) (b s : ℕ) → IsOneOf (blocks plan) b → p.row ≤ rows plan → ComesNext plan p (Shift b s) → IsElsewhere plan p b s
shift_next plan well p b s b_is low next =
    let n = stands_at plan p (Shift b s) low next in
    let here = statement plan n.row in
    let within : n.at < length (events_of plan n.row here.what) = (let long = long_as plan n.row in let lt = n.within in omega (arith, long, lt)) in
    let is : get_or (events_of plan n.row here.what) n.at Rest ≡ Shift b s = sym (event_in plan n.row n.at n.within) ∙ n.is in
    let says : Shifts plan n.row here.what (Shift b s) = subst (Shifts plan n.row here.what) is (each_at (Shifts plan n.row here.what) (events_of plan n.row here.what) n.at Rest (shifts plan n.row here.what) within) in
    let a = says.0 in
    let move = says.1 in
    let k = row_is plan n.row (λ moved. let h : Moved ≡ MoveTo a s = sym moved ∙ move in cc) in
    let what : (statement plan (suc k.0)).what ≡ MoveTo a s = subst (λ (x : ℕ). (statement plan x).what ≡ MoveTo a s) k.1 move in
    let less : n.row - 1 ≡ k.0 = omega (arith, k.1) in
    let names : StatementNamesRows plan (MoveTo a s) = subst (StatementNamesRows plan) what (All-get_or (λ (x : StatementRow). StatementNamesRows plan x.what) plan.statements k.0 no_row k.2 well.names.statements) in
    let there = in_filter (λ x. not (eqb (home_before plan n.row x) s)) (blocks_of plan a) b says.2 in
    let away : home_before plan n.row b ≢ s = λ same. (let off : eqb (home_before plan n.row b) s ≡ false = not-true (eqb (home_before plan n.row b) s) there.1 in let on = eq-eqb (home_before plan n.row b) s same in let h : true ≡ false = sym on ∙ off in cc) in
    let first = (block_row plan b).home in
    let lt' : n.at < length (events_of plan n.row (MoveTo a s)) = (let same = ap (λ (w : What). length (events_of plan n.row w)) move in omega (arith, within, same)) in
    let is' : get_or (events_of plan n.row (MoveTo a s)) n.at Rest ≡ Shift b s = ap (λ (w : What). get_or (events_of plan n.row w) n.at Rest) (sym move) ∙ is in
    let before = unshifted_before s b (array_row plan a).first_block (block_count (array_row plan a).grid) n.at (λ x. not (eqb (home_before plan n.row x) s)) lt' is' in
    let home : home_made first (made plan p) b ≡ home_before plan n.row b =
    ap (λ (es : List Entry). home_made first es b) n.made_is
    ∙ housed_within plan first n.row n.at b (entries_from plan 1 (n.row - 1))
    ∙ ap (λ (w : What). housed b (home_made first (entries_from plan 1 (n.row - 1)) b) (take n.at (events_of plan n.row w))) move
    ∙ housed_on b (home_made first (entries_from plan 1 (n.row - 1)) b) (take n.at (events_of plan n.row (MoveTo a s))) before.1
    ∙ homes_upto plan well b b_is (n.row - 1) (omega (arith, less, k.2)) in
    let stands = All-head (IsLive (take k.0 plan.statements)) a [] (subst (λ (w : What). All (IsLive (take k.0 plan.statements)) (arrays_used plan w)) what (well.lives.stand k.0 no_row k.2).live) in
    let above : is_live (entries_from plan 1 (n.row - 1)) b ≡ true = ap (λ (m : ℕ). is_live (entries_from plan 1 m) b) less ∙ live_upto plan well a b names.0 there.0 k.0 (omega (arith, k.2)) stands in
    record {
      live = ap (λ (xs : List Entry). is_live xs b) n.made_is
          ∙ live_within plan n.row n.at b (entries_from plan 1 (n.row - 1))
          ∙ ap (λ (l : Bool). lives b l (take n.at (events_of plan n.row here.what))) above
          ∙ ap (λ (w : What). lives b true (take n.at (events_of plan n.row w))) move
          ∙ lives_kept b true (events_of plan n.row (MoveTo a s)) (each_flat (λ (e : Event). (l : Bool) → live_after b l e ≡ l) (shifted_to s) (blocks_elsewhere plan n.row a s) (λ x has. ((λ l. refl), ((λ l. refl), ((λ l. refl), tt))))) n.at;
      away = λ same. away (sym home ∙ same);
    }

-- of a state: the home copy is there, and its home is another space
pub elsewhere_next : (plan : Plan) → IsWellFormed plan → (st : State) (b s : ℕ) → IsSound plan st → IsOneOf (blocks plan) b → IsNext plan st (Shift b s) → Has st (st.homes b) b is_any × (st.homes b ≢ s)
elsewhere_next plan well st b s sound b_is next =
    let e = shift_next plan well st.progress b s b_is sound.lives.position.row_within next in
    (sym (sound.lives.home_live b) ∙ e.live, λ same. e.away (sound.lives.home_is b ∙ same))
