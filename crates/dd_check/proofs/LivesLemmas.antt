-- Which arrays are there, and the homes of blocks, where a statement is appended.
use Rattle.std.proofs.Common.{◌≡◌, ◌≢◌, ℕ, ◌+◌, ◌*◌, ◌<◌, ◌≤◌, true, List, [], ◌∷◌, ◌++◌, length, get_or, take, Option, None, Some, refl, ap, sym, subst, ◌∙◌, ⊎_elim, arith}
use Rattle.std.specs.List.{All, cons_option, range_with_len}
use Rattle.std.proofs.lemmas.Bool.{cases_lt}
use Rattle.std.proofs.lemmas.List.{append-nil, get_or_append_left, get_or_push, length-append, take-append-le, take_at}
use Rattle.std.proofs.lemmas.List.Elements.{All-append, Contains-append_left, filter_map-append}
use Rattle.dd_blocks.specs.declared.block_row.BlockRow.{BlockRow}
use Rattle.dd_blocks.specs.declared.plan.Plan.{Plan}
use Rattle.dd_blocks.specs.declared.statement_row.StatementRow.{StatementRow}
use Rattle.dd_blocks.specs.declared.what.What.TheVariants.{Drop}
use Rattle.dd_blocks.specs.Homes.{space_moved_to, spaces_of}
use Rattle.dd_blocks.specs.Lives.{AreLives, IsLive, MayStand, array_put, arrays_put, arrays_used, region_run, regions_run}
use Rattle.dd_blocks.specs.Numbered.{space_row}
use Rattle.dd_blocks.specs.WellFormed.{FitsHomes, StatementNamesRows}
use Rattle.dd_check.proofs.RowsLemmas.{All_one, Any_push_cases}
use Rattle.dd_check.proofs.ExtendsLemmas.{Extends, used_kept}

-- an array lives on below a statement that doesn't end its last name
pub live_push : (rows : List StatementRow) (row : StatementRow) (array : ℕ) → IsLive rows array → row.what ≢ Drop array true → IsLive (rows ++ row ∷ []) array
live_push rows row array live other = record {
  made = rw filter_map-append (Contains-append_left (arrays_put rows) (arrays_put (row ∷ [])) array live.made);
  kept = λ any. ⊎_elim live.kept other (Any_push_cases (λ (r : StatementRow). r.what ≡ Drop array true) rows row any);
}

pub puts_push : (rows : List StatementRow) (row : StatementRow) → array_put row.what ≡ None → arrays_put (rows ++ row ∷ []) ≡ arrays_put rows
puts_push rows row none = rw filter_map-append (rw none (append-nil (arrays_put rows)))

pub regions_push : (rows : List StatementRow) (row : StatementRow) → region_run row.what ≡ None → regions_run (rows ++ row ∷ []) ≡ regions_run rows
regions_push rows row none = rw filter_map-append (rw none (append-nil (regions_run rows)))

-- each statement may stand, also with one more
module _ (p q : Plan) (row : StatementRow) (e : Extends p q) (is : q.statements ≡ p.statements ++ row ∷ []) where
  stands_old : AreLives p → All (λ (r : StatementRow). StatementNamesRows p r.what) p.statements → (i : ℕ) (d : StatementRow) → i < length p.statements → MayStand q (take i q.statements) (get_or q.statements i d).what
  stands_old lives names i d lt =
      let old : MayStand p (take i p.statements) (get_or p.statements i d).what = lives.stand i d lt in
      let used : arrays_used q (get_or p.statements i d).what ≡ arrays_used p (get_or p.statements i d).what = used_kept p q e (get_or p.statements i d).what (names i d lt) in
      let rows : take i (p.statements ++ row ∷ []) ≡ take i p.statements = take-append-le i p.statements (row ∷ []) (omega arith) in
      let here : get_or (p.statements ++ row ∷ []) i d ≡ get_or p.statements i d = get_or_append_left p.statements (row ∷ []) d i lt in
      rw is (rw rows (rw here (record { live = rw used old.live; last = old.last })))

  stands_new : MayStand q p.statements row.what → (i : ℕ) (d : StatementRow) → length p.statements ≡ i → MayStand q (take i q.statements) (get_or q.statements i d).what
  stands_new stands i d last =
      let rows : take i (p.statements ++ row ∷ []) ≡ p.statements = take_at p.statements (row ∷ []) i last in
      let here : get_or (p.statements ++ row ∷ []) i d ≡ row = get_or_push p.statements row d i last in
      subst (λ (all : List StatementRow). MayStand q (take i all) (get_or all i d).what) (sym is) (rw rows (rw here stands))

  pub lives_push : AreLives p → All (λ (r : StatementRow). StatementNamesRows p r.what) p.statements → arrays_put q.statements ≡ range_with_len 1 (length q.arrays) → MayStand q p.statements row.what → AreLives q
  lives_push lives names puts stands = record {
    puts = puts;
    stand = λ i d lt.
        let long : length q.statements ≡ length p.statements + 1 = ap length is ∙ length-append p.statements (row ∷ []) in
        ⊎_elim
        (λ (old : i < length p.statements). stands_old lives names i d old)
        (λ (new : length p.statements ≤ i). stands_new stands i d (omega arith))
        (cases_lt i (length p.statements));
  }

-- a statement that moves the array no further than where its block fits
pub fits_push : (p q : Plan) (row : StatementRow) (block : BlockRow) → q.spaces ≡ p.spaces → q.statements ≡ p.statements ++ row ∷ [] → FitsHomes p block → ((space : ℕ) → space_moved_to block.array row.what ≡ Some space → 16 * block.size ≤ (space_row p space).limit) → FitsHomes q block
fits_push p q row block spaces is fits moved = record {
  first = rw spaces fits.first;
  moved = rw is (rw spaces (rw filter_map-append (All-append (λ space. 16 * block.size ≤ (space_row p space).limit) (spaces_of block.array p.statements) (spaces_of block.array (row ∷ [])) fits.moved (one (space_moved_to block.array row.what) moved))));
}
  where
    one : (to : Option ℕ) → ((space : ℕ) → to ≡ Some space → 16 * block.size ≤ (space_row p space).limit) → All (λ space. 16 * block.size ≤ (space_row p space).limit) (cons_option to [])
    one None each = λ k d lt. absurd (omega arith)
    one (Some space) each = All_one (λ x. 16 * block.size ≤ (space_row p x).limit) space (each space refl)
