use Rattle.std.proofs.Common.{rules, ◌≡◌, ap, sym, ◌∙◌, length, ℕ}
use Rattle.dd_tables.specs.Shares.{running_of, worker_at}
use Rattle.dd_tables.specs.Tables.{state_of}
use Rattle.dd_machine.specs.Words.{total}
use Rattle.dd_tables.proofs.WorkLemmas.{running_by}
use Rattle.dd_tables.proofs.tables.Tables.running_bytes.Goals as goal

pub returns-clause-value : goal.returns-clause-value
returns-clause-value c =
    let procs = c.requires.sized.at_work.procs in
    let all : c.loop-i.i ≡ length c.args.plan.now.procs = search (rules, procs) in
    c.loop-i.invariant.1 ∙ ap (λ (n : ℕ). total n (λ p. running_of c.args.plan.now (state_of c.args.plan.now c.args.self.now) c.args.space (worker_at c.args.self.now.at_work.items p))) all
    ∙ sym (running_by c.args.plan.now c.args.self.now c.args.space c.requires.sized)
