-- The statements of which only a row is left: printing, moving, a second name, and the end of a name.
use Rattle.std.proofs.Common.{◌≡◌, ℕ, suc, ◌+◌, ◌*◌, ◌≤◌, true, false, nat_eq, cond, List, [], ◌∷◌, length, get_or, None, Some, refl, sym, subst, inl, inr, ⊎_elim, arith}
use Rattle.std.specs.Prelude.{nat_lt}
use Rattle.std.specs.List.{All, Contains}
use Rattle.std.proofs.lemmas.Bool.{cases_Bool, eqb-true, ltb-false}
use Rattle.std.proofs.lemmas.List.Elements.{All-contains}
use Rattle.dd_blocks.specs.declared.block_row.BlockRow.{BlockRow}
use Rattle.dd_blocks.specs.declared.plan.Plan.{Plan}
use Rattle.dd_blocks.specs.declared.what.What.{What}
use Rattle.dd_blocks.specs.declared.what.What.TheVariants as what
use Rattle.dd_blocks.specs.Homes.{space_moved_to}
use Rattle.dd_blocks.specs.Layout.{blocks_of_array}
use Rattle.dd_blocks.specs.Limits.{name_limit, touches_limit}
use Rattle.dd_blocks.specs.Lives.{IsLive}
use Rattle.dd_blocks.specs.Numbered.{IsNumberIn, array_row, space_row}
use Rattle.dd_blocks.specs.Touches.{touches_in}
use Rattle.dd_script.specs.declared.statement.Statement.{Statement}
use Rattle.dd_script.specs.declared.statement.Statement.TheVariants.{MoveTo, Print, Sum, Moved}
use Rattle.dd_check.specs.Above.{Above, array_named, is_machine}
use Rattle.dd_check.specs.Effects.{add_row, space_of_name}
use Rattle.dd_check.specs.Kinds.{AreAmounts, array_of_name, is_too_large, touches_with}
use Rattle.dd_check.specs.Sound.{IsSound}
use Rattle.dd_check.proofs.OwnBlocksLemmas.{own_blocks}
use Rattle.dd_check.proofs.ClearLemmas.{Clear, closed_for, named, some_row, some_rows, within_limits}
use Rattle.dd_check.proofs.ElementsLemmas.{not_found}
use Rattle.dd_check.proofs.MachineLemmas.{space_there}
use Rattle.dd_check.proofs.NamesKeptLemmas.{names_plain}
use Rattle.dd_check.proofs.PlainLemmas.{plain_sound}
use Rattle.dd_check.proofs.PushLemmas.{IsReady}
use Rattle.dd_check.proofs.RowsLemmas.{All_one}

pub ready_for : (n m : ℕ) (s : Above) (x : Statement) → IsSound n s → s.settled ≡ true → is_machine x ≡ false → Clear m s x → IsReady s
ready_for n m s x sound settled other clear = record {
  settled = settled;
  spaces = sound.machine.space settled;
  procs = some_rows s.plan.procs (λ none. clear.no_proc (other, some_row s.plan.spaces (sound.machine.space settled), none));
}

-- an array that is named
pub array_there : (n : ℕ) (s : Above) (name : List ℕ) → IsSound n s → (array_named s name ≡ None → ⊥) → IsNumberIn s.plan.arrays (array_of_name s name) × IsLive s.plan.statements (array_of_name s name)
array_there n s name sound there = sound.names.live name (array_of_name s name) (named (s.live name) there)

-- where no region is open, its tasks touch nothing
none_touched : (s : Above) (more : ℕ) → s.opened ≡ None → touches_with s more ≤ touches_limit → touches_in s.plan + more ≤ touches_limit
none_touched s more closed few =
    let same : touches_with s more ≡ touches_in s.plan + 0 + more = rw closed refl in
    omega (arith, same, few)

-- the first amount of one
pub first_amount : (n m : ℕ) (s : Above) (x : Statement) (amount limit : ℕ) → Clear m s x → AreAmounts m s x ((amount, limit) ∷ []) → amount ≤ limit
first_amount n m s x amount limit clear are = within_limits ((amount, limit) ∷ []) (λ passed is. clear.many passed (record { amounts = (amount, limit) ∷ []; are = are; passed = is })) 0 (0, 0) (omega arith)

pub no_move : (what : What) (blocks : List BlockRow) (plan : Plan) → ((moved : ℕ) → space_moved_to moved what ≡ None) → All (λ (b : BlockRow). (space : ℕ) → space_moved_to b.array what ≡ Some space → 16 * b.size ≤ (space_row plan space).limit) blocks
no_move what blocks plan none k d lt space is = let nothing : space_moved_to (get_or blocks k d).array what ≡ None = none (get_or blocks k d).array in absurd (cc)

module _ (n : ℕ) (s : Above) (sound : IsSound n s) (settled : s.settled ≡ true) where
  pub print_enters : (name : List ℕ) → Clear (suc n) s (Print name) → IsSound (suc n) (add_row (suc n) (what.Print (array_of_name s name)) s)
  print_enters name clear =
      let there : IsNumberIn s.plan.arrays (array_of_name s name) × IsLive s.plan.statements (array_of_name s name) = array_there n s name sound clear.unknown in
      let closed : s.opened ≡ None = closed_for s.opened false refl clear.place in
      plain_sound n s (what.Print (array_of_name s name)) s.live sound (ready_for n (suc n) s (Print name) sound settled refl clear) closed
      (record {
        names = there.0;
        short = tt;
        stands = record { live = All_one (IsLive s.plan.statements) (array_of_name s name) there.1; last = tt };
        puts = refl;
        runs = refl;
        fits = no_move (what.Print (array_of_name s name)) s.plan.blocks s.plan (λ moved. refl);
        touches = none_touched s _ closed (first_amount n (suc n) s (Print name) _ _ clear refl);
      })
      (names_plain (suc n) s (what.Print (array_of_name s name)) (λ array. refl) (λ array. refl) (λ array same. absurd (cc)) sound.names)

  pub sum_enters : (name : List ℕ) → length name ≤ name_limit → Clear (suc n) s (Sum name) → IsSound (suc n) (add_row (suc n) (what.Sum (array_of_name s name) name) s)
  sum_enters name short clear =
      let there : IsNumberIn s.plan.arrays (array_of_name s name) × IsLive s.plan.statements (array_of_name s name) = array_there n s name sound clear.unknown in
      let closed : s.opened ≡ None = closed_for s.opened false refl clear.place in
      plain_sound n s (what.Sum (array_of_name s name) name) s.live sound (ready_for n (suc n) s (Sum name) sound settled refl clear) closed
      (record {
        names = there.0;
        short = short;
        stands = record { live = All_one (IsLive s.plan.statements) (array_of_name s name) there.1; last = tt };
        puts = refl;
        runs = refl;
        fits = no_move (what.Sum (array_of_name s name) name) s.plan.blocks s.plan (λ moved. refl);
        touches = none_touched s _ closed (first_amount n (suc n) s (Sum name) _ _ clear refl);
      })
      (names_plain (suc n) s (what.Sum (array_of_name s name) name) (λ array. refl) (λ array. refl) (λ array same. absurd (cc)) sound.names)

  pub moved_enters : Clear (suc n) s Moved → IsSound (suc n) (add_row (suc n) what.Moved s)
  moved_enters clear =
      plain_sound n s what.Moved s.live sound (ready_for n (suc n) s Moved sound settled refl clear) (closed_for s.opened false refl clear.place)
      (record {
        names = tt;
        short = tt;
        stands = record { live = λ k d lt. absurd (omega arith); last = tt };
        puts = refl;
        runs = refl;
        fits = no_move what.Moved s.plan.blocks s.plan (λ moved. refl);
        touches = omega (arith, sound.limits.touches);
      })
      (names_plain (suc n) s what.Moved (λ array. refl) (λ array. refl) (λ array same. absurd (cc)) sound.names)

  -- a block of the array that moves fits into its new home
  move_fits : (name space : List ℕ) → Clear (suc n) s (MoveTo name space) → All (λ (b : BlockRow). (to : ℕ) → cond (nat_eq (array_of_name s name) b.array) (Some (space_of_name s space)) None ≡ Some to → 16 * b.size ≤ (space_row s.plan to).limit) s.plan.blocks
  move_fits name space clear k d lt to is = ⊎_elim
      (λ (yes : nat_eq (array_of_name s name) (get_or s.plan.blocks k d).array ≡ true).
      let here : Some (space_of_name s space) ≡ Some to = rw yes at is in
      let target : space_of_name s space ≡ to = cc in
      let array : (get_or s.plan.blocks k d).array ≡ array_of_name s name = sym (eqb-true (array_of_name s name) (get_or s.plan.blocks k d).array yes) in
      let listed : All (λ (b : BlockRow). IsNumberIn s.plan.arrays b.array × Contains (blocks_of_array (length s.plan.spaces) b.array (array_row s.plan b.array)) b) s.plan.blocks = rw sound.layout.blocks (own_blocks (length s.plan.spaces) s.plan.arrays) in
      let own : Contains (blocks_of_array (length s.plan.spaces) (array_of_name s name) (array_row s.plan (array_of_name s name))) (get_or s.plan.blocks k d) = subst (λ (m : ℕ). Contains (blocks_of_array (length s.plan.spaces) m (array_row s.plan m)) (get_or s.plan.blocks k d)) array (listed k d lt).1 in
      let small : All (λ (b : BlockRow). nat_lt (space_row s.plan (space_of_name s space)).limit (16 * b.size) ≡ false) (blocks_of_array (length s.plan.spaces) (array_of_name s name) (array_row s.plan (array_of_name s name))) = not_found (is_too_large s.plan) _ (blocks_of_array (length s.plan.spaces) (array_of_name s name) (array_row s.plan (array_of_name s name))) (λ block found. clear.block _ _ (record { block = block; first = found; needed_is = refl; limit_is = refl })) in
      rw (← target) (ltb-false (space_row s.plan (space_of_name s space)).limit (16 * (get_or s.plan.blocks k d).size) (All-contains (λ (b : BlockRow). nat_lt (space_row s.plan (space_of_name s space)).limit (16 * b.size) ≡ false) _ (get_or s.plan.blocks k d) small own)))
      (λ (other : nat_eq (array_of_name s name) (get_or s.plan.blocks k d).array ≡ false). let nothing : None ≡ Some to = rw other at is in absurd (cc))
      (cases_Bool (nat_eq (array_of_name s name) (get_or s.plan.blocks k d).array))

  pub move_enters : (name space : List ℕ) → Clear (suc n) s (MoveTo name space) → IsSound (suc n) (add_row (suc n) (what.MoveTo (array_of_name s name) (space_of_name s space)) s)
  move_enters name space clear =
      let there : IsNumberIn s.plan.arrays (array_of_name s name) × IsLive s.plan.statements (array_of_name s name) = array_there n s name sound (λ none. clear.unknown (inl none)) in
      let closed : s.opened ≡ None = closed_for s.opened false refl clear.place in
      plain_sound n s (what.MoveTo (array_of_name s name) (space_of_name s space)) s.live sound (ready_for n (suc n) s (MoveTo name space) sound settled refl clear) closed
      (record {
        names = (there.0, space_there s.plan space (λ none. clear.unknown (inr none)));
        short = tt;
        stands = record { live = All_one (IsLive s.plan.statements) (array_of_name s name) there.1; last = tt };
        puts = refl;
        runs = refl;
        fits = move_fits name space clear;
        touches = none_touched s _ closed (first_amount n (suc n) s (MoveTo name space) _ _ clear refl);
      })
      (names_plain (suc n) s (what.MoveTo (array_of_name s name) (space_of_name s space)) (λ array. refl) (λ array. refl) (λ array same. absurd (cc)) sound.names)
