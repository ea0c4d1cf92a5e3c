use Rattle.std.proofs.Common.{◌≡◌, length, map, replicate, sym, ap, ◌∙◌, rules}
use Rattle.std.specs.List.{sum_by}
use Rattle.dd_transfers.specs.declared.mark.Visit.{Visit}
use Rattle.dd_transfers.specs.Marks.{mark_after, moves_at}
use Rattle.dd_transfers.proofs.ColumnsLemmas.{all_written, none_moved}
use Rattle.dd_transfers.proofs.mark.visit_marks.Goals as goal

pub returns-in-Write-clause-marks : goal.returns-in-Write-clause-marks
returns-in-Write-clause-marks c =
    let filled : c.fill.new.self ≡ replicate (length c.args.marks.now) c.mark_of.result = search rules in
    filled ∙ ap (replicate (length c.args.marks.now)) c.mark_of.ensures ∙ all_written c.in-Write.space c.args.home c.args.marks.now
    ∙ ap (λ (visit : Visit). map (mark_after visit c.args.home) c.args.marks.now) (sym c.in-Write.is)

pub returns-in-Write-clause-moved : goal.returns-in-Write-clause-moved
returns-in-Write-clause-moved c =
    none_moved c.in-Write.space c.args.home c.args.marks.now ∙ ap (λ (visit : Visit). sum_by (moves_at visit c.args.home) c.args.marks.now) (sym c.in-Write.is)
