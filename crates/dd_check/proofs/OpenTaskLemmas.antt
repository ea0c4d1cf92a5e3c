-- A task that may stand has what holds of an open task.
use Rattle.std.proofs.Common.{◌≡◌, ℕ, suc, ◌+◌, ◌<◌, ◌≤◌, nat_eq, List, [], ◌∷◌, length, get_or, map, ℤ, pos, Option, None, Some, refl, ap, sym, subst, ◌∙◌, ⊎_elim, arith}
use Rattle.std.specs.Prelude.{unwrap_or}
use Rattle.std.specs.List.{All, AllZip, Any, Contains, range_with_len}
use Rattle.std.proofs.lemmas.Bool.{cases_lt}
use Rattle.std.proofs.lemmas.List.Elements.{All-cons, Contains-get_or}
use Rattle.std.proofs.lemmas.List.FromFn.{get_or-range_with_len, length-range_with_len}
use Rattle.dd_kernels.specs.Signatures.{TakesScalar, modes_of}
use Rattle.dd_views.specs.Views.{HasBadRange, IsNotSquare, IsViewOf}
use Rattle.dd_blocks.specs.declared.access_row.AccessRow.{AccessRow}
use Rattle.dd_blocks.specs.declared.plan.Plan.{Plan}
use Rattle.dd_blocks.specs.declared.rule.Rule.{Rule}
use Rattle.dd_blocks.specs.declared.rule.Rule.TheVariants.{Rr, Home}
use Rattle.dd_blocks.specs.declared.task_row.TaskRow.{TaskRow}
use Rattle.dd_blocks.specs.Lives.{IsLive}
use Rattle.dd_blocks.specs.Numbered.{IsNumberIn, array_row, no_array, proc_row}
use Rattle.dd_blocks.specs.Tasks.{IsShown, MeetsKernel, limit_at, shapes_in}
use Rattle.dd_place.specs.Loads.{all_procs, or_else}
use Rattle.dd_place.specs.Placement.{IsPlacedBy}
use Rattle.dd_blocks.specs.OfPlan.{HasBlocks}
use Rattle.dd_script.specs.declared.piece.Piece.{Piece}
use Rattle.dd_script.specs.declared.statement.Statement.TheVariants.{Task}
use Rattle.dd_check.specs.Above.{Above, array_named}
use Rattle.dd_check.specs.Kinds.{HasArgCount, amounts_of_task, one_where}
use Rattle.dd_check.specs.Rows.{AreAccesses, IsAccess, IsTask, array_of, shape_of_array}
use Rattle.dd_check.specs.Sound.{IsOpenTask, IsSound}
use Rattle.dd_check.proofs.ClearLemmas.{Clear, named, within_limits}
use Rattle.dd_check.proofs.ElementsLemmas.{filter_contains}
use Rattle.dd_check.proofs.OpenLemmas.{IsNextTask}
use Rattle.dd_check.proofs.RowsLemmas.{All_numbered}
use Rattle.dd_check.proofs.SeenLemmas.{piece_shown}
use Rattle.dd_check.proofs.SpansLemmas.{view_shown}
use Rattle.dd_check.proofs.StableLemmas.{modes_stable, shapes_stable}

not_any : {X : Type 0} (P : X → Type 0) (xs : List X) → (Any P xs → ⊥) → All (λ x. P x → ⊥) xs
not_any P xs none k d lt holds =
    let at : Contains xs (get_or xs k d) = Contains-get_or xs k d lt in
    none (at.0, get_or xs k d, at.1, at.2, holds)

-- what holds of each access by its piece
zip_all : {X Y : Type 0} (R : X → Y → Type 0) (Q : X → Type 0) (P : Y → Type 0) → ((x : X) (y : Y) → Q x → R x y → P y) → (xs : List X) (ys : List Y) → AllZip R xs ys → All Q xs → All P ys
zip_all R Q P step [] [] zip each = λ k d lt. absurd (omega arith)
zip_all R Q P step [] (y ∷ ys) zip each = absurd zip
zip_all R Q P step (x ∷ xs) [] zip each = absurd zip
zip_all R Q P step (x ∷ xs) (y ∷ ys) zip each = All-cons P y ys (step x y (each 0 x (omega arith)) zip.0) (zip_all R Q P step xs ys zip.1 (λ k d lt. each (suc k) d (omega arith)))

modes_same : (s : Above) (pieces : List Piece) (accesses : List AccessRow) → AreAccesses s pieces accesses → map (λ (p : Piece). p.mode) pieces ≡ map (λ (a : AccessRow). a.mode) accesses
modes_same s [] [] are = refl
modes_same s [] (a ∷ accesses) are = absurd are
modes_same s (p ∷ pieces) [] are = absurd are
modes_same s (p ∷ pieces) (a ∷ accesses) are =
    let first : a.mode ≡ p.mode = are.0.mode in
    let rest : map (λ (p : Piece). p.mode) pieces ≡ map (λ (a : AccessRow). a.mode) accesses = modes_same s pieces accesses are.1 in
    cc

-- the processor of a task is there

in_range : (n p : ℕ) → Contains (range_with_len 1 n) p → (1 ≤ p) × (p ≤ n)
in_range n p there =
    let lt : there.0 < n = omega (arith, there.1, length-range_with_len 1 n) in
    let is : 1 + there.0 ≡ p = sym (get_or-range_with_len 1 n there.0 p lt) ∙ there.2 in
    (omega (arith, is), omega (arith, is))

among : (plan : Plan) (some : List ℕ) (p : ℕ) → ((q : ℕ) → Contains some q → IsNumberIn plan.procs q) → Contains (or_else some (all_procs plan)) p → IsNumberIn plan.procs p
among plan [] p each there = in_range (length plan.procs) p there
among plan (q ∷ qs) p each there = each p there

placed_there : (rule : Rule) (plan : Plan) (earlier : List ℕ) (task : TaskRow) (proc : ℕ) → 1 ≤ length plan.procs → IsPlacedBy rule plan earlier task proc → IsNumberIn plan.procs proc
placed_there Rr plan earlier task proc some is = (omega (arith, is), omega (arith, is))
placed_there Home plan earlier task proc some least = among plan _ proc
    (λ q there. in_range (length plan.procs) q (filter_contains (λ p. nat_eq (proc_row plan p).space _) (all_procs plan) q there).0)
    least.candidate

module _ (n : ℕ) (s : Above) (kernel : List ℕ) (scalar : Option ℤ) (pieces : List Piece) (task : TaskRow) (m : ℕ) (sound : IsSound m s) (places : All (HasBlocks s.plan) s.plan.arrays) (some : 1 ≤ length s.plan.procs) (clear : Clear n s (Task kernel scalar pieces)) (is : IsTask n s kernel scalar pieces task) where
  abbrev IsThere : Piece → Type 0
  IsThere p = (array_named s p.name ≡ Some (array_of s p)) × (HasBadRange (shape_of_array s p) p.rows p.cols → ⊥) × (IsNotSquare (shape_of_array s p) p.rows p.cols p.part → ⊥)

  -- each piece names an array that is there, and shows a view of it
  there : All IsThere pieces
  there k d lt =
      let unknown : array_named s (get_or pieces k d).name ≡ None → ⊥ = not_any (λ (p : Piece). array_named s p.name ≡ None) pieces clear.unknown k d lt in (
        named (array_named s (get_or pieces k d).name) unknown,
        not_any (λ (p : Piece). HasBadRange (shape_of_array s p) p.rows p.cols) pieces clear.range k d lt,
        not_any (λ (p : Piece). IsNotSquare (shape_of_array s p) p.rows p.cols p.part) pieces clear.square k d lt,
      )

  number_of : (piece : Piece) → IsThere piece → IsNumberIn s.plan.arrays (array_of s piece) × IsLive s.plan.statements (array_of s piece)
  number_of piece at = sound.names.live piece.name (array_of s piece) at.0

  access_live : (piece : Piece) (access : AccessRow) → IsThere piece → IsAccess s piece access → IsNumberIn s.plan.arrays access.view.array × IsLive s.plan.statements access.view.array
  access_live piece access at shows = subst (λ (array : ℕ). IsNumberIn s.plan.arrays array × IsLive s.plan.statements array) (sym shows.view.array) (number_of piece at)

  access_shown : (piece : Piece) (access : AccessRow) → IsThere piece → IsAccess s piece access → IsShown (array_row s.plan access.view.array) access.view
  access_shown piece access at shows =
      let has : HasBlocks s.plan (array_row s.plan (array_of s piece)) = All_numbered (HasBlocks s.plan) no_array s.plan.arrays (array_of s piece) places (number_of piece at).0 in
      let view : IsViewOf (shape_of_array s piece) access.view = view_shown (array_of s piece) (shape_of_array s piece) piece.rows piece.cols piece.part access.view shows.view at.1 at.2 has.grid.few in
      piece_shown s piece access.view shows.view view

  -- the scalar is 0 where the kernel takes none
  no_scalar : (given : Option ℤ) → ((a b : ℕ) → HasArgCount (Task kernel given pieces) a b → ⊥) → ¬ TakesScalar task.kernel → unwrap_or given (pos 0) ≡ pos 0
  no_scalar None count none = refl
  no_scalar (Some k) count none = absurd (count (one_where (Some k) + length pieces) (length (modes_of task.kernel)) (record {
    kernel = task.kernel;
    scalar = Some k;
    pieces = pieces;
    is = ap (λ (word : List ℕ). Task word (Some k) pieces) is.kernel_named;
    differs = λ takes few. none takes;
    given_is = refl;
    wanted_is = record { with_scalar = λ takes. absurd (none takes); without = λ without. refl };
  }))

  meets : MeetsKernel task
  meets = record {
    modes = rw (← modes_same s pieces task.accesses is.accesses) (modes_stable (modes_of task.kernel) (map (λ (p : Piece). p.mode) pieces) (λ bad. clear.access (task.kernel, is.kernel_named, bad)));
    shapes = shapes_stable task.kernel (shapes_in task.accesses) (λ bad. clear.mismatch (task.kernel, task.accesses, is.kernel_named, is.accesses, bad));
    scalar = λ none. is.scalar_is ∙ no_scalar scalar clear.count none;
  }

  fits : task.charge ≤ limit_at s.plan task
  fits = ⊎_elim
      (λ (above : limit_at s.plan task < task.charge). absurd (clear.task task.charge (limit_at s.plan task) (record { kernel = kernel; scalar = scalar; pieces = pieces; task = task; is = refl; row = is; above = above; charge_is = refl; limit_is = refl })))
      (λ (le : task.charge ≤ limit_at s.plan task). le)
      (cases_lt (limit_at s.plan task) task.charge)

  open_one : IsOpenTask s task
  open_one = record {
    region = is.region;
    live = zip_all (IsAccess s) IsThere (λ (a : AccessRow). IsNumberIn s.plan.arrays a.view.array × IsLive s.plan.statements a.view.array) access_live pieces task.accesses is.accesses there;
    views = zip_all (IsAccess s) IsThere (λ (a : AccessRow). IsShown (array_row s.plan a.view.array) a.view) access_shown pieces task.accesses is.accesses there;
    kernel = meets;
    proc = placed_there s.plan.rule s.plan _ task task.proc some is.proc;
    deps = is.deps;
    blocks = is.blocks;
    charge = is.charge;
    within = fits;
  }

  amounts : All (λ (amount : ℕ × ℕ). amount.0 ≤ amount.1) (amounts_of_task s task)
  amounts = within_limits (amounts_of_task s task) (λ passed over. clear.many passed (record { amounts = amounts_of_task s task; are = (task, is, refl); passed = over }))

  pub next_task : IsNextTask s task
  next_task = record {
    sound = open_one;
    few = amounts 0 (0, 0) (omega arith);
    elements = amounts 1 (0, 0) (omega arith);
    touches = amounts 2 (0, 0) (omega arith);
  }
