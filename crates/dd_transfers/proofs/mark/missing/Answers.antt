use Rattle.std.proofs.Common.{◌≡◌, ℕ, Bool, cond, sym, ap, ◌∙◌}
use Rattle.std.specs.Int.RustNames.{bit_and}
use Rattle.dd_transfers.specs.Marks.{mark_of}
use Rattle.dd_transfers.proofs.MarksLemmas.{misses, misses_not}
use Rattle.dd_transfers.proofs.mark.missing.Goals as goal

pub returns-then-mark-mark_of-eq0 : goal.returns-then-mark-mark_of-eq0
returns-then-mark-mark_of-eq0 c =
    let none = ap (λ (bit : ℕ). bit_and c.args.mark bit) (sym c.mark_of.ensures) ∙ c.if-mark-mark_of-eq0.true in
    ap (λ (b : Bool). cond b 0 1) (sym (misses c.args.mark c.args.space none))

pub returns-else-mark-mark_of-eq0 : goal.returns-else-mark-mark_of-eq0
returns-else-mark-mark_of-eq0 c =
    let some = λ (none : bit_and c.args.mark (mark_of c.args.space) ≡ 0). c.if-mark-mark_of-eq0.false (ap (λ (bit : ℕ). bit_and c.args.mark bit) c.mark_of.ensures ∙ none) in
    ap (λ (b : Bool). cond b 0 1) (sym (misses_not c.args.mark c.args.space some))
