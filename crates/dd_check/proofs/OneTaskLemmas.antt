-- A statement makes one task, and the tasks of a region get their dependencies in one way.
use Rattle.std.proofs.Common.{◌≡◌, ℕ, suc, ℤ, List, [], get_or, Option, sym, ap, subst, ◌∙◌, arith}
use Rattle.std.proofs.lemmas.List.{ext_get_or}
use Rattle.std.proofs.lemmas.Option.{same_Some}
use Rattle.dd_kernels.proofs.NamesLemmas.{one_name}
use Rattle.dd_blocks.specs.declared.access_row.AccessRow.{AccessRow}
use Rattle.dd_blocks.specs.declared.plan.Plan.{Plan}
use Rattle.dd_blocks.specs.declared.rule.Rule.{Rule}
use Rattle.dd_blocks.specs.declared.rule.Rule.TheVariants.{Rr, Home}
use Rattle.dd_blocks.specs.declared.task_row.TaskRow.{TaskRow}
use Rattle.dd_blocks.specs.Charges.{AreTouched, Touches, charge_of}
use Rattle.dd_blocks.specs.Conflicts.{AreDependencies}
use Rattle.dd_blocks.specs.Numbered.{no_task}
use Rattle.dd_place.specs.Leading.{space_for}
use Rattle.dd_place.specs.Loads.{IsLeastLoaded, candidates}
use Rattle.dd_place.specs.Placement.{IsPlacedBy}
use Rattle.dd_place.proofs.OneLemmas.{one_placed}
use Rattle.dd_script.specs.declared.piece.Piece.{Piece}
use Rattle.dd_check.specs.Above.{Above}
use Rattle.dd_check.specs.Rows.{AreJoined, IsTask, with_found}
use Rattle.dd_check.proofs.OnlyListLemmas.{one_rising}
use Rattle.dd_check.proofs.OneAccessLemmas.{one_accesses}

-- a task of which only this is known
abbrev with_accesses : ℕ → List AccessRow → TaskRow
with_accesses region accesses = record no_task { region = region; accesses = accesses }

-- where a task runs hangs on its region and its accesses
pub placed_alike : (rule : Rule) (plan : Plan) (earlier : List ℕ) (t u : TaskRow) (p : ℕ) → t.region ≡ u.region → t.accesses ≡ u.accesses → IsPlacedBy rule plan earlier t p → IsPlacedBy rule plan earlier u p
placed_alike Rr plan earlier t u p region accesses h = h
placed_alike Home plan earlier t u p region accesses h =
    let space : space_for plan t ≡ space_for plan u = λ i. space_for plan (with_accesses (region i) (accesses i)) in
    subst (λ (n : ℕ). IsLeastLoaded (candidates plan n) earlier p) space h

-- which blocks it touches hangs on its accesses
touches_alike : (plan : Plan) (t u : TaskRow) (block : ℕ) → t.accesses ≡ u.accesses → Touches plan t block → Touches plan u block
touches_alike plan t u block accesses h = subst (λ (a : List AccessRow). Touches plan (with_accesses 0 a) block) accesses h

one_touched : (plan : Plan) (t u : TaskRow) (xs ys : List ℕ) → t.accesses ≡ u.accesses → AreTouched plan t xs → AreTouched plan u ys → xs ≡ ys
one_touched plan t u xs ys accesses h g = one_rising xs ys h.rising g.rising
    (λ n found. (g.exact n).1 (touches_alike plan t u n accesses ((h.exact n).0 found)))
    (λ n found. (h.exact n).1 (touches_alike plan u t n (sym accesses) ((g.exact n).0 found)))

charge_alike : (plan : Plan) (t u : TaskRow) → t.accesses ≡ u.accesses → t.blocks ≡ u.blocks → charge_of plan t ≡ charge_of plan u
charge_alike plan t u accesses blocks = λ i. charge_of plan (record no_task { accesses = accesses i; blocks = blocks i })

pub one_task : (n : ℕ) (s : Above) (word : List ℕ) (scalar : Option ℤ) (pieces : List Piece) (t u : TaskRow) → IsTask n s word scalar pieces t → IsTask n s word scalar pieces u → t ≡ u
one_task n s word scalar pieces t u h g =
    let lines : t.line ≡ u.line = h.line ∙ sym g.line in
    let regions : t.region ≡ u.region = h.region ∙ sym g.region in
    let kernels : t.kernel ≡ u.kernel = same_Some _ _ (one_name t.kernel u.kernel (sym h.kernel_named ∙ g.kernel_named)) in
    let scalars : t.scalar ≡ u.scalar = h.scalar_is ∙ sym g.scalar_is in
    let accesses : t.accesses ≡ u.accesses = one_accesses s pieces t.accesses u.accesses h.accesses g.accesses in
    let procs : t.proc ≡ u.proc = one_placed s.plan.rule s.plan _ u t.proc u.proc (placed_alike s.plan.rule s.plan _ t u t.proc regions accesses h.proc) g.proc in
    let deps : t.deps ≡ u.deps = h.deps ∙ sym g.deps in
    let blocks : t.blocks ≡ u.blocks = one_touched s.plan t u t.blocks u.blocks accesses h.blocks g.blocks in
    let charges : t.charge ≡ u.charge = h.charge ∙ charge_alike s.plan t u accesses blocks ∙ sym g.charge in
    λ i. record { line = lines i; region = regions i; kernel = kernels i; scalar = scalars i; accesses = accesses i; proc = procs i; deps = deps i; blocks = blocks i; charge = charges i }

one_dependencies : (tasks : List TaskRow) (t : ℕ) (xs ys : List ℕ) → AreDependencies tasks t xs → AreDependencies tasks t ys → xs ≡ ys
one_dependencies tasks t xs ys h g = one_rising xs ys h.rising g.rising
    (λ n found. (g.exact n).1 ((h.exact n).0 found))
    (λ n found. (h.exact n).1 ((g.exact n).0 found))

pub one_joined : (before : ℕ) (tasks a b : List TaskRow) → AreJoined before tasks a → AreJoined before tasks b → a ≡ b
one_joined before tasks a b h g =
    let same : h.found ≡ g.found = ext_get_or [] h.found g.found (h.each ∙ sym g.each)
    (λ k lt. one_dependencies tasks (suc k) (get_or h.found k []) (get_or g.found k [])
    (h.exact (suc k) (omega (arith, h.each), omega (arith, h.each)))
    (g.exact (suc k) (omega (arith, h.each), omega (arith, h.each)))) in
    h.is ∙ ap (with_found before tasks) same ∙ sym g.is
