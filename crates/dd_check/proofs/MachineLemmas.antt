-- A statement on the machine, and the machine of a script that has none.
use Rattle.std.proofs.Common.{◌≡◌, ◌≢◌, ℕ, suc, ◌+◌, ◌<◌, ◌≤◌, Bool, true, false, nat_eq, List, [], ◌∷◌, ◌++◌, length, Option, None, Some, refl, ap, sym, subst, ◌∙◌, ⊎_elim, arith}
use Rattle.std.specs.Prelude.{position, unwrap_or}
use Rattle.std.specs.List.{All}
use Rattle.std.specs.Str.{bytes_eq}
use Rattle.std.proofs.lemmas.Bool.{cases_Bool, eqb-false, false≢true, ne_eqb}
use Rattle.std.proofs.lemmas.List.{length-append}
use Rattle.std.proofs.lemmas.List.Elements.{All-push, All-weaker}
use Rattle.std.proofs.lemmas.List.Quantifiers.{position-Some}
use Rattle.dd_blocks.specs.declared.array_row.ArrayRow.{ArrayRow}
use Rattle.dd_blocks.specs.declared.block_row.BlockRow.{BlockRow}
use Rattle.dd_blocks.specs.declared.plan.Plan.{Plan}
use Rattle.dd_blocks.specs.declared.policy.Policy.{Policy}
use Rattle.dd_blocks.specs.declared.proc_row.ProcRow.{ProcRow}
use Rattle.dd_blocks.specs.declared.rule.Rule.{Rule}
use Rattle.dd_blocks.specs.declared.space_row.SpaceRow.{SpaceRow}
use Rattle.dd_blocks.specs.declared.statement_row.StatementRow.{StatementRow}
use Rattle.dd_blocks.specs.declared.task_row.TaskRow.{TaskRow}
use Rattle.dd_blocks.specs.Layout.{blocks_of_arrays}
use Rattle.dd_blocks.specs.Limits.{name_limit, procs_limit, spaces_limit}
use Rattle.dd_blocks.specs.Lives.{regions_run}
use Rattle.dd_blocks.specs.Numbered.{IsNumberIn}
use Rattle.dd_blocks.specs.WellFormed.{IsSmallSpace, TaskNamesRows}
use Rattle.dd_script.specs.declared.statement.Statement.TheVariants.{Space, Proc}
use Rattle.dd_script.specs.Short.{IsShort}
use Rattle.dd_check.specs.Above.{Above, OpenRegion, main_proc, main_space, number_at, settle, space_named}
use Rattle.dd_check.specs.Effects.{add_proc, add_space, set_policy, set_rule, space_of_name, with_plan}
use Rattle.dd_check.specs.Sound.{IsSound}
use Rattle.dd_check.proofs.BareLemmas.{IsSmallMachine, bare, bare_above, bare_sound}
use Rattle.dd_check.proofs.RowsLemmas.{IsNumberIn_more}

-- nothing but the machine stands above
pub record IsBare (s : Above) : Type 0 where
  pub arrays : s.plan.arrays ≡ []
  pub blocks : s.plan.blocks ≡ []
  pub tasks : s.plan.tasks ≡ []
  pub statements : s.plan.statements ≡ []
  pub opened : s.opened ≡ None
  pub live : (name : List ℕ) → s.live name ≡ None
  pub small : IsSmallMachine s.plan.spaces s.plan.procs
  pub with_proc : s.plan.procs ≢ [] → 1 ≤ length s.plan.spaces

none_unless : (o : Option ℕ) → ((a : ℕ) → o ≡ Some a → ⊥) → o ≡ None
none_unless None never = refl
none_unless (Some a) never = absurd (never a refl)

no_rows : {Row : Type 0} (rows : List Row) → All (λ row. ⊥) rows → rows ≡ []
no_rows [] all = refl
no_rows (row ∷ rows) all = absurd (all 0 row (omega arith))

pub bare_of : (n : ℕ) (s : Above) → IsSound n s → s.settled ≡ false → IsBare s
bare_of n s sound unsettled =
    let no_arrays : s.plan.arrays ≡ [] = sound.machine.arrays unsettled in
    let no_statements : s.plan.statements ≡ [] = sound.machine.statements unsettled in
    let no_regions : length (regions_run s.plan.statements) ≡ 0 = ap (λ (rows : List StatementRow). length (regions_run rows)) no_statements in
    let none : length s.plan.arrays ≡ 0 = ap (λ (rows : List ArrayRow). length rows) no_arrays in
    record {
      arrays = no_arrays;
      blocks = sound.layout.blocks ∙ ap (blocks_of_arrays (length s.plan.spaces)) no_arrays;
      tasks = no_rows s.plan.tasks (All-weaker (TaskNamesRows s.plan) (λ row. ⊥) (λ task names. absurd (omega (arith, names.region.0, names.region.1, no_regions))) s.plan.tasks sound.names_rows.tasks);
      statements = no_statements;
      opened = sound.machine.region unsettled;
      live = λ name. none_unless (s.live name) (λ a is. let number : IsNumberIn s.plan.arrays a = (sound.names.live name a is).0 in absurd (omega (arith, number.0, number.1, none)));
      small = record {
        named = sound.names_rows.procs;
        each_space = sound.limits.each_space;
        each_proc = sound.limits.each_proc;
        spaces_few = sound.limits.spaces;
        procs_few = sound.limits.procs;
      };
      with_proc = sound.machine.space_of_proc;
    }

-- the same with its empty lists as they are given
refilled : (n : ℕ) (spaces : List SpaceRow) (procs : List ProcRow) (policy : Policy) (rule : Rule) (arrays : List ArrayRow) (blocks : List BlockRow) (tasks : List TaskRow) (statements : List StatementRow) (live : List ℕ → Option ℕ) (opened : Option OpenRegion) (settled : Bool) → arrays ≡ [] → blocks ≡ [] → tasks ≡ [] → statements ≡ [] → opened ≡ None
    → IsSound n (bare_above (bare spaces procs policy rule) live settled)
    → IsSound n (record { plan = record { spaces = spaces; procs = procs; policy = policy; rule = rule; arrays = arrays; blocks = blocks; tasks = tasks; statements = statements }; live = live; opened = opened; settled = settled })
refilled n spaces procs policy rule arrays blocks tasks statements live opened settled a b c d e sound = rw a (rw b (rw c (rw d (rw e sound))))

-- another machine in place of that of s
pub with_bare : (n : ℕ) (s : Above) (spaces : List SpaceRow) (procs : List ProcRow) (policy : Policy) (rule : Rule) (settled : Bool) → IsBare s → IsSmallMachine spaces procs → (procs ≢ [] → 1 ≤ length spaces) → (settled ≡ true → 1 ≤ length spaces)
    → IsSound n (record { plan = record { spaces = spaces; procs = procs; policy = policy; rule = rule; arrays = s.plan.arrays; blocks = s.plan.blocks; tasks = s.plan.tasks; statements = s.plan.statements }; live = s.live; opened = s.opened; settled = settled })
with_bare n s spaces procs policy rule settled none small with_proc with_other =
    refilled n spaces procs policy rule s.plan.arrays s.plan.blocks s.plan.tasks s.plan.statements s.live s.opened settled none.arrays none.blocks none.tasks none.statements none.opened
    (bare_sound n spaces procs policy rule s.live settled small none.live with_proc with_other)

-- the number of a name that is there
pub number_there : (o : Option ℕ) (long : ℕ) → ((i : ℕ) → o ≡ Some i → i < long) → (number_at o ≡ None → ⊥) → (1 ≤ unwrap_or (number_at o) 0) × (unwrap_or (number_at o) 0 ≤ long)
number_there None long within there = absurd (there refl)
number_there (Some i) long within there = (omega arith, omega (arith, within i refl))

pub space_there : (plan : Plan) (name : List ℕ) → (space_named plan name ≡ None → ⊥) → IsNumberIn plan.spaces (unwrap_or (space_named plan name) 0)
space_there plan name there = number_there (position (λ (row : SpaceRow). bytes_eq row.name name) plan.spaces) (length plan.spaces)
    (λ i is. (position-Some (λ (row : SpaceRow). bytes_eq row.name name) plan.spaces i (record { name = []; limit = 0 }) is).0)
    there

module _ (n : ℕ) (s : Above) (sound : IsSound n s) (unsettled : s.settled ≡ false) where
  none : IsBare s
  none = bare_of n s sound unsettled

  unset : (x : ℕ) → s.settled ≡ true → 1 ≤ x
  unset x settled = absurd (false≢true (sym unsettled ∙ settled))

  pub space_enters : (name : List ℕ) (limit : ℕ) → IsShort (Space name limit) → suc (length s.plan.spaces) ≤ spaces_limit → IsSound (suc n) (with_plan (add_space (record { name = name; limit = limit }) s.plan) s)
  space_enters name limit short few =
      let long : length (s.plan.spaces ++ record { name = name; limit = limit } ∷ []) ≡ length s.plan.spaces + 1 = length-append s.plan.spaces (record { name = name; limit = limit } ∷ []) in
      with_bare (suc n) s (s.plan.spaces ++ record { name = name; limit = limit } ∷ []) s.plan.procs s.plan.policy s.plan.rule s.settled none
      (record {
        named = All-weaker (λ (p : ProcRow). IsNumberIn s.plan.spaces p.space) (λ (p : ProcRow). IsNumberIn (s.plan.spaces ++ record { name = name; limit = limit } ∷ []) p.space) (λ p number. IsNumberIn_more s.plan.spaces (record { name = name; limit = limit } ∷ []) p.space number) s.plan.procs none.small.named;
        each_space = All-push IsSmallSpace s.plan.spaces (record { name = name; limit = limit }) none.small.each_space (record { name = short.0; limit = (short.1, short.2) });
        each_proc = none.small.each_proc;
        spaces_few = omega (arith, long, few);
        procs_few = none.small.procs_few;
      })
      (λ some. omega (arith, long)) (unset _)

  pub proc_enters : (name space : List ℕ) → IsShort (Proc name space) → (space_named s.plan space ≡ None → ⊥) → suc (length s.plan.procs) ≤ procs_limit → IsSound (suc n) (with_plan (add_proc (record { name = name; space = space_of_name s space }) s.plan) s)
  proc_enters name space short there few =
      let long : length (s.plan.procs ++ record { name = name; space = space_of_name s space } ∷ []) ≡ length s.plan.procs + 1 = length-append s.plan.procs (record { name = name; space = space_of_name s space } ∷ []) in
      let number : IsNumberIn s.plan.spaces (space_of_name s space) = space_there s.plan space there in
      with_bare (suc n) s s.plan.spaces (s.plan.procs ++ record { name = name; space = space_of_name s space } ∷ []) s.plan.policy s.plan.rule s.settled none
      (record {
        named = All-push (λ (p : ProcRow). IsNumberIn s.plan.spaces p.space) s.plan.procs (record { name = name; space = space_of_name s space }) none.small.named number;
        each_space = none.small.each_space;
        each_proc = All-push (λ (p : ProcRow). length p.name ≤ name_limit) s.plan.procs (record { name = name; space = space_of_name s space }) none.small.each_proc short;
        spaces_few = none.small.spaces_few;
        procs_few = omega (arith, long, few);
      })
      (λ some. omega (arith, number.0, number.1)) (unset _)

  pub policy_enters : (policy : Policy) → IsSound (suc n) (with_plan (set_policy policy s.plan) s)
  policy_enters policy = with_bare (suc n) s s.plan.spaces s.plan.procs policy s.plan.rule s.settled none none.small none.with_proc (unset _)

  pub rule_enters : (rule : Rule) → IsSound (suc n) (with_plan (set_rule rule s.plan) s)
  rule_enters rule = with_bare (suc n) s s.plan.spaces s.plan.procs s.plan.policy rule s.settled none none.small none.with_proc (unset _)

main_machine : IsSmallMachine (main_space ∷ []) (main_proc ∷ [])
main_machine = record {
  named = All-push (λ (p : ProcRow). IsNumberIn (main_space ∷ []) p.space) [] main_proc (λ k d lt. absurd (omega arith)) (omega arith, omega arith);
  each_space = All-push IsSmallSpace [] main_space (λ k d lt. absurd (omega arith)) (record { name = omega arith; limit = (omega arith, omega arith) });
  each_proc = All-push (λ (p : ProcRow). length p.name ≤ name_limit) [] main_proc (λ k d lt. absurd (omega arith)) (omega arith);
  spaces_few = omega arith;
  procs_few = omega arith;
}

-- a machine that is complete is as it was
settle_same : (n : ℕ) (s : Above) → IsSound n s → s.settled ≡ true → IsSound n (settle s)
settle_same n s sound settled =
    let other : nat_eq (length s.plan.spaces + length s.plan.procs) 0 ≡ false = ne_eqb (length s.plan.spaces + length s.plan.procs) 0 (λ zero_rows. absurd (omega (arith, sound.machine.space settled))) in
    rw other (subst (λ (b : Bool). IsSound n (record { plan = s.plan; live = s.live; opened = s.opened; settled = b })) settled sound)

settle_bare : (n : ℕ) (s : Above) → IsBare s → IsSound n (settle s)
settle_bare n s bare_s = ⊎_elim
    (λ (yes : nat_eq (length s.plan.spaces + length s.plan.procs) 0 ≡ true). rw yes (with_bare n s (main_space ∷ []) (main_proc ∷ []) s.plan.policy s.plan.rule true bare_s main_machine (λ some. omega arith) (λ settled. omega arith)))
    (λ (other : nat_eq (length s.plan.spaces + length s.plan.procs) 0 ≡ false). rw other (with_bare n s s.plan.spaces s.plan.procs s.plan.policy s.plan.rule true bare_s bare_s.small bare_s.with_proc (λ settled. some_space s.plan.spaces s.plan.procs bare_s.with_proc (eqb-false (length s.plan.spaces + length s.plan.procs) 0 other))))
    (cases_Bool (nat_eq (length s.plan.spaces + length s.plan.procs) 0))
  where
    some_space : (spaces : List SpaceRow) (procs : List ProcRow) → (procs ≢ [] → 1 ≤ length spaces) → (length spaces + length procs ≡ 0 → ⊥) → 1 ≤ length spaces
    some_space (space ∷ spaces) procs with_proc some = omega arith
    some_space [] [] with_proc some = absurd (some refl)
    some_space [] (proc ∷ procs) with_proc some = with_proc (λ same. absurd (cc))

pub settle_sound : (n : ℕ) (s : Above) → IsSound n s → IsSound n (settle s)
settle_sound n s sound = ⊎_elim
    (λ (yes : s.settled ≡ true). settle_same n s sound yes)
    (λ (other : s.settled ≡ false). settle_bare n s (bare_of n s sound other))
    (cases_Bool s.settled)
