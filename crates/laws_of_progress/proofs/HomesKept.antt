-- Each block fits twice into its home.
use Rattle.std.proofs.Common.{◌≡◌, ◌≢◌, ◌⊎◌, ℕ, zero, suc, ◌+◌, ◌-◌, ◌*◌, ◌<◌, ◌≤◌, Bool, true, false, cond, eqb, List, [], ◌∷◌, length, get_or, take, Option, Some, None, refl, ap, sym, ◌∙◌, subst, inl, inr, ⊎_elim, arith}
use Rattle.std.specs.Prelude.{not, Contains}
use Rattle.std.specs.List.{All, cons_option, flat_map}
use Rattle.std.specs.Option.{unwrap_or}
use Rattle.std.proofs.lemmas.Bool.{cases_lt, eq-eqb}
use Rattle.std.proofs.lemmas.Bool.Decides.{eqb_tells}
use Rattle.std.proofs.lemmas.List.{take_all}
use Rattle.dd_blocks.proofs.HomesLemmas.{home_more}
use Rattle.std.proofs.lemmas.List.Elements.{All-get_or, All-head, All-tail}
use Rattle.dd_views.proofs.ListsLemmas.{in_filter}
use Rattle.dd_blocks.specs.declared.block_row.BlockRow.{BlockRow}
use Rattle.dd_blocks.specs.declared.plan.Plan.{Plan}
use Rattle.dd_blocks.specs.declared.statement_row.StatementRow.{StatementRow}
use Rattle.dd_blocks.specs.declared.what.What.{What}
use Rattle.dd_blocks.specs.declared.what.What.TheVariants.{Put as Array, Print, Sum, Moved, Same, Drop, MoveTo, Region}
use Rattle.dd_blocks.specs.Homes.{home_after, home_before, space_moved_to, spaces_of}
use Rattle.dd_blocks.specs.Numbered.{IsNumberIn, block_row, space_row}
use Rattle.dd_blocks.specs.WellFormed.{FitsHomes, IsWellFormed, StatementNamesRows}
use Rattle.dd_machine.specs.declared.entry.Entry.{Entry}
use Rattle.dd_machine.specs.declared.event.Event.{Event}
use Rattle.dd_machine.specs.declared.event.Event.TheVariants.{Ask, Rest, Put, Shift, Free, Begin, Hold, Pick, Gone, Make, Call, Come, Lend, Copy, Claim, Finish, Back, Close}
use Rattle.dd_machine.specs.Effects.{after}
use Rattle.dd_machine.specs.Legal.{IsNext, May}
use Rattle.dd_machine.specs.Owed.{blocks_by_rows, blocks_elsewhere, blocks_of, brought, entries_of, events_of, freed, put_there, shifted_to}
use Rattle.dd_machine.specs.States.{State, at_one}
use Rattle.dd_machine.specs.Words.{IsOneOf, blocks, rows, statement}
use Rattle.dd_machine.proofs.ChangesLemmas.{at_one_tells}
use Rattle.dd_machine.proofs.ProgressLemmas.{event_map, length_map, next_at, no_entry}
use Rattle.dd_machine.proofs.TestsLemmas.{rested_at}
use Rattle.laws_of_lives.proofs.EventsLemmas.{Each, each_at, each_flat}
use Rattle.laws_of_lives.proofs.OrderlyLemmas.{array_of}
use Rattle.laws_of_lives.proofs.RowsLemmas.{row_is}
use Rattle.dd_machine.specs.SoundProgress.{FitsTwice, SoundProgress}

-- a statement that moves the block's array to the space
abbrev Moves : Plan → What → ℕ → ℕ → Type 0
Moves plan what b s = (a : ℕ) × (what ≡ MoveTo a s) × Contains (blocks_of plan a) b

-- a statement that shifts the block moves its array; one that asks for it does so, or asks at the home
abbrev Shifts : Plan → ℕ → What → Event → Type 0
Shifts plan row what (Shift b s) = Moves plan what b s
Shifts plan row what (Ask s b) = (s ≡ home_before plan row b) ⊎ Moves plan what b s
Shifts plan row what _ = Unit {0}

shifts : (plan : Plan) (row : ℕ) (what : What) → Each (Shifts plan row what) (events_of plan row what)
shifts plan row (Array a) = each_flat (Shifts plan row (Array a)) (put_there plan row) (blocks_of plan a) (λ b has. (inl refl, (tt, (tt, tt))))
shifts plan row (Print a) = each_flat (Shifts plan row (Print a)) (brought plan row) (blocks_by_rows plan a) (λ b has. (inl refl, (tt, tt)))
shifts plan row (Sum a name) = each_flat (Shifts plan row (Sum a name)) (brought plan row) (blocks_of plan a) (λ b has. (inl refl, (tt, tt)))
shifts plan row Moved = tt
shifts plan row (Same a) = tt
shifts plan row (Drop a last) = by last
  where
    by : (l : Bool) → Each (Shifts plan row (Drop a last)) (cond l (flat_map (freed plan row) (blocks_of plan a)) [])
    by true = each_flat (Shifts plan row (Drop a last)) (freed plan row) (blocks_of plan a) (λ b has. (tt, tt))
    by false = tt
shifts plan row (MoveTo a s) = each_flat (Shifts plan row (MoveTo a s)) (shifted_to s) (blocks_elsewhere plan row a s)
    (λ b has.
    let of = (in_filter (λ x. not (eqb (home_before plan row x) s)) (blocks_of plan a) b has).0 in
    (inr (a, refl, of), ((a, refl, of), (tt, tt))))
shifts plan row (Region r) = (tt, (tt, tt))

entry_shifts : (plan : Plan) (row i : ℕ) (d : Entry) → i < length (entries_of plan row) → Shifts plan row (statement plan row).what (get_or (entries_of plan row) i d).event
unfolding entries_of
entry_shifts plan row i d lt =
    let l = (statement plan row).line in
    let es = events_of plan row (statement plan row).what in
    let lt' : i < length es = omega (arith, lt, length_map l es) in
    subst (Shifts plan row (statement plan row).what) (sym (event_map l i es d Rest lt)) (each_at (Shifts plan row (statement plan row).what) es i Rest (shifts plan row (statement plan row).what) lt')

-- what holds of each space to which an array is moved
moved_to : (a s : ℕ) (P : ℕ → Type 0) (rows : List StatementRow) (k : ℕ) (d : StatementRow) → k < length rows → (get_or rows k d).what ≡ MoveTo a s → All P (spaces_of a rows) → P s
moved_to a s P [] k d lt is all = absurd (omega (arith, lt))
moved_to a s P (row ∷ rows) zero d lt is all =
    let one : space_moved_to a row.what ≡ Some s = ap (space_moved_to a) is ∙ ap (λ (t : Bool). cond t (Some s) None) (eq-eqb a a refl) in
    All-head P s (spaces_of a rows) (subst (λ (o : Option ℕ). All P (cons_option o (spaces_of a rows))) one all)
moved_to a s P (row ∷ rows) (suc k) d lt is all = moved_to a s P rows k d (omega (arith, lt)) is (rest (space_moved_to a row.what) all)
  where
    rest : (o : Option ℕ) → All P (cons_option o (spaces_of a rows)) → All P (spaces_of a rows)
    rest None h = h
    rest (Some x) h = All-tail P x (spaces_of a rows) h

pub first_fits : (plan : Plan) → IsWellFormed plan → (b : ℕ) → IsOneOf (blocks plan) b → FitsTwice plan (block_row plan b).home b
first_fits plan well zero is = let h : 1 ≤ 0 = is.0 in absurd (omega (arith, h))
first_fits plan well (suc j) is =
    let lt : j < length plan.blocks = omega (arith, is.1) in
    let names = All-get_or (λ (x : BlockRow). IsNumberIn plan.arrays x.array × IsNumberIn plan.spaces x.home) plan.blocks j (record { array = 0; home = 0; size = 0 }) lt well.names.blocks in
    let fits = All-get_or (FitsHomes plan) plan.blocks j (record { array = 0; home = 0; size = 0 }) lt well.homes in
    let first = fits.first in
    (names.1, omega (arith, first))

moved_fits : (plan : Plan) → IsWellFormed plan → (b s k : ℕ) → IsOneOf (blocks plan) b → k < rows plan → (statement plan (suc k)).what ≡ MoveTo (block_row plan b).array s → FitsTwice plan s b
moved_fits plan well zero s k is lt what = let h : 1 ≤ 0 = is.0 in absurd (omega (arith, h))
moved_fits plan well (suc j) s k is lt what =
    let few : j < length plan.blocks = omega (arith, is.1) in
    let fits = All-get_or (FitsHomes plan) plan.blocks j (record { array = 0; home = 0; size = 0 }) few well.homes in
    let names : StatementNamesRows plan (MoveTo (block_row plan (suc j)).array s) =
    subst (StatementNamesRows plan) what (All-get_or (λ (x : StatementRow). StatementNamesRows plan x.what) plan.statements k (record { line = 0; what = Moved }) lt well.names.statements) in
    let room = moved_to (block_row plan (suc j)).array s (λ (space : ℕ). 16 * (block_row plan (suc j)).size ≤ (space_row plan space).limit) plan.statements k (record { line = 0; what = Moved }) lt what fits.moved in
    (names.1, omega (arith, room))

moves_fits : (plan : Plan) (row b s : ℕ) → IsWellFormed plan → IsOneOf (blocks plan) b → Moves plan (statement plan row).what b s → FitsTwice plan s b
moves_fits plan row b s well is h =
    let what = h.1 in
    let k = row_is plan row (λ none. let e : Moved ≡ MoveTo h.0 s = sym none ∙ what in cc) in
    let row_what : (statement plan (suc k.0)).what ≡ MoveTo h.0 s = subst (λ (x : ℕ). (statement plan x).what ≡ MoveTo h.0 s) k.1 what in
    let names : StatementNamesRows plan (MoveTo h.0 s) =
    subst (StatementNamesRows plan) row_what (All-get_or (λ (x : StatementRow). StatementNamesRows plan x.what) plan.statements k.0 (record { line = 0; what = Moved }) k.2 well.names.statements) in
    let same : (block_row plan b).array ≡ h.0 = array_of plan well.layout h.0 b names.0 h.2 in
    moved_fits plan well b s k.0 is k.2 (row_what ∙ ap (λ (x : ℕ). MoveTo x s) (sym same))

shift_fits : (plan : Plan) (st : State) (b s : ℕ) → IsWellFormed plan → IsOneOf (blocks plan) b → IsNext plan st (Shift b s) → FitsTwice plan s b
shift_fits plan st b s well is next =
    let n = next_at plan st.progress (Shift b s) next in
    moves_fits plan n.row b s well is (subst (Shifts plan n.row (statement plan n.row).what) n.is (entry_shifts plan n.row n.at no_entry n.within))

-- the home after some rows
home_upto : (plan : Plan) (b n : ℕ) → IsWellFormed plan → IsOneOf (blocks plan) b → n ≤ rows plan → FitsTwice plan (home_after (block_row plan b).array (block_row plan b).home (take n plan.statements)) b
home_upto plan b zero well is le = first_fits plan well b is
home_upto plan b (suc n) well is le =
    let lt : n < rows plan = omega (arith, le) in
    let more = home_more array home plan.statements n (record { line = 0; what = Moved }) lt in
    let e : n + 1 ≡ suc n = omega arith in
    subst (λ (m : ℕ). FitsTwice plan (home_after array home (take m plan.statements)) b) e
    (subst (λ (x : ℕ). FitsTwice plan x b) (sym more) (by (statement plan (suc n)).what refl (home_upto plan b n well is (omega (arith, le)))))
  where
    array : ℕ
    array = (block_row plan b).array

    home : ℕ
    home = (block_row plan b).home

    by : (what : What) → (statement plan (suc n)).what ≡ what → FitsTwice plan (home_after array home (take n plan.statements)) b
        → FitsTwice plan (unwrap_or (space_moved_to array what) (home_after array home (take n plan.statements))) b
    by (MoveTo a s) w old = ⊎_elim
        (λ (same : (eqb a array ≡ true) × (a ≡ array)).
        subst (λ (o : Option ℕ). FitsTwice plan (unwrap_or o (home_after array home (take n plan.statements))) b) (sym (ap (λ (t : Bool). cond t (Some s) None) same.0))
        (moved_fits plan well b s n is (omega (arith, le)) (w ∙ ap (λ (x : ℕ). MoveTo x s) same.1)))
        (λ (other : (eqb a array ≡ false) × (a ≢ array)).
        subst (λ (o : Option ℕ). FitsTwice plan (unwrap_or o (home_after array home (take n plan.statements))) b) (sym (ap (λ (t : Bool). cond t (Some s) None) other.0)) old)
        (eqb_tells a array)
    by (Array a) w old = old
    by (Print a) w old = old
    by (Sum a name) w old = old
    by Moved w old = old
    by (Same a) w old = old
    by (Drop a last) w old = old
    by (Region r) w old = old

home_before_fits : (plan : Plan) (row b : ℕ) → IsWellFormed plan → IsOneOf (blocks plan) b → FitsTwice plan (home_before plan row b) b
home_before_fits plan row b well is = ⊎_elim
    (λ (past : rows plan < row - 1).
    subst (λ (xs : List StatementRow). FitsTwice plan (home_after (block_row plan b).array (block_row plan b).home xs) b)
    (take_all (rows plan) plan.statements (omega arith) ∙ sym (take_all (row - 1) plan.statements (omega (arith, past))))
    (home_upto plan b (rows plan) well is (omega arith)))
    (λ (le : row - 1 ≤ rows plan). home_upto plan b (row - 1) well is le)
    (cases_lt (rows plan) (row - 1))

pub ask_fits : (plan : Plan) (st : State) (b s : ℕ) → IsWellFormed plan → IsOneOf (blocks plan) b → IsNext plan st (Ask s b) → FitsTwice plan s b
ask_fits plan st b s well is next =
    let n = next_at plan st.progress (Ask s b) next in
    let h : (s ≡ home_before plan n.row b) ⊎ Moves plan (statement plan n.row).what b s = subst (Shifts plan n.row (statement plan n.row).what) n.is (entry_shifts plan n.row n.at no_entry n.within) in
    ⊎_elim
    (λ (at : s ≡ home_before plan n.row b). subst (λ (x : ℕ). FitsTwice plan x b) (sym at) (home_before_fits plan n.row b well is))
    (λ (moves : Moves plan (statement plan n.row).what b s). moves_fits plan n.row b s well is moves)
    h

abbrev pub HomesFit : Plan → State → Type 0
HomesFit plan st = (b : ℕ) → IsOneOf (blocks plan) b → FitsTwice plan (st.homes b) b

pub keeps_home_fits : (plan : Plan) (st : State) (event : Event) → IsWellFormed plan → SoundProgress plan st → May plan st event → HomesFit plan (after plan st event)
keeps_home_fits plan st (Shift block space) well able may = λ b is. ⊎_elim
    (λ (e : (b ≡ block) × (at_one st.homes block space b ≡ space)).
    subst (λ (x : ℕ). FitsTwice plan x b) (sym e.1) (subst (FitsTwice plan space) (sym e.0) (shift_fits plan st block space well may.block_is may.due)))
    (λ (e : (b ≢ block) × (at_one st.homes block space b ≡ st.homes b)). subst (λ (x : ℕ). FitsTwice plan x b) (sym e.1) (able.home_fits b is))
    (at_one_tells st.homes block space b)
keeps_home_fits plan st Rest well able may = subst (HomesFit plan) (sym (rested_at plan st may)) able.home_fits
keeps_home_fits plan st (Ask space block) well able may = able.home_fits
keeps_home_fits plan st (Put block) well able may = able.home_fits
keeps_home_fits plan st (Free space block) well able may = able.home_fits
keeps_home_fits plan st (Begin r) well able may = able.home_fits
keeps_home_fits plan st (Close r) well able may = able.home_fits
keeps_home_fits plan st (Hold task) well able may = able.home_fits
keeps_home_fits plan st (Pick space block) well able may = able.home_fits
keeps_home_fits plan st (Gone space block) well able may = able.home_fits
keeps_home_fits plan st (Make task block) well able may = able.home_fits
keeps_home_fits plan st (Call space block) well able may = able.home_fits
keeps_home_fits plan st (Come space block) well able may = able.home_fits
keeps_home_fits plan st (Lend task block source) well able may = able.home_fits
keeps_home_fits plan st (Copy task block source count) well able may = able.home_fits
keeps_home_fits plan st (Claim task worker) well able may = able.home_fits
keeps_home_fits plan st (Finish task) well able may = able.home_fits
keeps_home_fits plan st (Back block source count) well able may = able.home_fits
