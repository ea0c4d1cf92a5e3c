-- The block is Here, and all that the task reads of it is current.
use Rattle.std.proofs.Common.{◌≡◌, ℕ, Bor, sym, ap, ◌∙◌, subst}
use Rattle.std.proofs.lemmas.Bool.{and_from}
use Rattle.dd_blocks.specs.declared.plan.Plan.{Plan}
use Rattle.dd_holding.proofs.ClaimLemmas.{claim_place, finds_at}
use Rattle.dd_holding.proofs.HereLemmas.{not_missing, pool_place, versions_here}
use Rattle.dd_machine.specs.Words.{place}
use Rattle.dd_pool.specs.Places.{IsPlace}
use Rattle.dd_pool.specs.Pools.{copy_at}
use Rattle.dd_holding.proofs.holding.Holding.collect.Goals as goal

at_plan : (plan l : Bor Plan) (space task t : ℕ) → space ≡ place plan.now task → plan ≡ l → task ≡ t → space ≡ place l.now t
at_plan plan l space task t at same is = at ∙ ap (λ (p : Bor Plan). place p.now task) same ∙ ap (place l.now) is

pub copy_at-requires-after_bounds : goal.copy_at-requires-after_bounds
copy_at-requires-after_bounds g c = λ _ _.
    let x = c.args.self.now in
    let w = c.args.work.now in
    let at = at_plan c.plan.result x.ledger.plan c.place-space.result c.task.result w.task c.place-space.ensures.value c.plan.ensures c.task.ensures in
    pool_place x.ledger x.pool c.place-space.result c.args.block x.facts
    (subst (λ (s : ℕ). IsPlace x.ledger.plan.now s c.args.block) (sym at) (claim_place x.ledger w.task w.worker c.args.block c.requires.may c.requires.touched))

pub collect-requires-clause-needed : goal.collect-requires-clause-needed
collect-requires-clause-needed g c =
    let x = c.args.self.now in
    let w = c.args.work.now in
    let copy = c.in-Some.copy.now in
    let at = at_plan c.plan.result x.ledger.plan c.place-space.result c.task.result w.task c.place-space.ensures.value c.plan.ensures c.task.ensures in
    let place_is = claim_place x.ledger w.task w.worker c.args.block c.requires.may c.requires.touched in
    let there = ap (λ (s : ℕ). copy_at x.pool s c.args.block) (sym at) ∙ sym c.in-Some.ensures.value in
    let are = versions_here x.ledger x.pool (place x.ledger.plan.now w.task) c.args.block copy x.facts place_is (c.requires.may.all_here c.args.block c.requires.touched) there in
    finds_at x.ledger w.task w.worker c.args.block copy.versions.list w.plan copy.block c.requires.well c.requires.may c.requires.touched are c.requires.plan c.in-Some.ensures.ours.1

pub unreachable-requires : goal.unreachable-requires
unreachable-requires g c =
    let x = c.args.self.now in
    let w = c.args.work.now in
    let at = at_plan c.plan.result x.ledger.plan c.place-space.result c.task.result w.task c.place-space.ensures.value c.plan.ensures c.task.ensures in
    not_missing x.ledger x.pool (place x.ledger.plan.now w.task) c.args.block x.facts (claim_place x.ledger w.task w.worker c.args.block c.requires.may c.requires.touched)
    (c.requires.may.all_here c.args.block c.requires.touched) (ap (λ (s : ℕ). copy_at x.pool s c.args.block) (sym at) ∙ sym c.in-None.ensures.value)

pub returns-clause-told : goal.returns-clause-told
returns-clause-told g c = λ tells was.
    let x = c.args.self.now in
    let w = c.args.work.now in
    let copy = c.in-Some.copy.now in
    let at = at_plan c.plan.result x.ledger.plan c.place-space.result c.task.result w.task c.place-space.ensures.value c.plan.ensures c.task.ensures in
    let place_is = claim_place x.ledger w.task w.worker c.args.block c.requires.may c.requires.touched in
    let there = ap (λ (s : ℕ). copy_at x.pool s c.args.block) (sym at) ∙ sym c.in-Some.ensures.value in
    c.collect.ensures.told ∙ and_from w.told.mark copy.told.mark was
    ((x.facts.told tells).copies (place x.ledger.plan.now w.task) c.args.block copy (pool_place x.ledger x.pool (place x.ledger.plan.now w.task) c.args.block x.facts place_is) there)
