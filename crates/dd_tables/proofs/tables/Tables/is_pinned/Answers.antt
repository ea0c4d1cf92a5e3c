use Rattle.std.proofs.Common.{ap, sym, ◌∙◌, ◌||◌, Bool}
use Rattle.std.specs.List.{list_any, range_with_len}
use Rattle.dd_tables.specs.Tables.{state_of}
use Rattle.dd_machine.specs.Bytes.{is_used}
use Rattle.dd_machine.specs.Words.{tasks}
use Rattle.dd_tables.proofs.WorkLemmas.{used_by}
use Rattle.dd_tables.proofs.tables.Tables.is_pinned.Goals as goal

pub returns-else-is_pin : goal.returns-else-is_pin
returns-else-is_pin c =
    let st = state_of c.args.plan.now c.args.self.now in
    let used = used_by c.args.plan.now st c.args.self.now.at_work.items c.args.space c.args.block c.requires.sized.at_work in
    let off = sym c.is_pin.ensures ∙ c.if-is_pin.false in
    c.is_used.ensures ∙ sym used
    ∙ sym (ap (λ (t : Bool). t || list_any (is_used c.args.plan.now st c.args.space c.args.block) (range_with_len 1 (tasks c.args.plan.now))) off)
