use Rattle.std.proofs.Common.{rules, drop, ℕ, suc, ◌+◌, ◌≡◌, arith, ◌<◌, length, ap, sym, ◌∙◌}
use Rattle.std.specs.List.{list_any}
use Rattle.dd_tables.specs.Shares.{is_user, worker_at}
use Rattle.dd_tables.proofs.ListsLemmas.{any_drop_failed, any_drop_passed}
use Rattle.dd_tables.proofs.tables.Tables.is_used.Goals as goal

pub returns-then-is_user : goal.returns-then-is_user
returns-then-is_user c =
    let lt : c.loop-i.i < length c.args.self.now.at_work.items = search rules in
    let next : suc c.loop-i.i ≡ c.loop-i.i + 1 = omega arith in
    let p = is_user c.args.plan.now c.args.space c.args.block in
    sym (sym c.loop-i.invariant ∙ any_drop_passed p c.args.self.now.at_work.items c.loop-i.i lt (ap (λ (k : ℕ). p (worker_at c.args.self.now.at_work.items k)) next ∙ ap p (sym c.worker.ensures.value) ∙ sym c.is_user.ensures ∙ c.if-is_user.true))

pub loop-i-preserved : goal.loop-i-preserved
loop-i-preserved c =
    let lt : c.loop-i.i < length c.args.self.now.at_work.items = search rules in
    let next : suc c.loop-i.i ≡ c.loop-i.i + 1 = omega arith in
    let p = is_user c.args.plan.now c.args.space c.args.block in
    ap (λ (k : ℕ). list_any p (drop k c.args.self.now.at_work.items)) (sym next) ∙ any_drop_failed p c.args.self.now.at_work.items c.loop-i.i lt (ap (λ (k : ℕ). p (worker_at c.args.self.now.at_work.items k)) next ∙ ap p (sym c.worker.ensures.value) ∙ sym c.is_user.ensures ∙ c.if-is_user.false) ∙ c.loop-i.invariant
