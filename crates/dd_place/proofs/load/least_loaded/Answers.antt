use Rattle.std.proofs.Common.{sym, ap, ◌∙◌}
use Rattle.std.proofs.lemmas.List.{get_or_read}
use Rattle.dd_place.specs.Chosen.{is_of}
use Rattle.dd_place.proofs.LoadsLemmas.{best_more, best_same, no_proc}
use Rattle.dd_place.proofs.load.least_loaded.Goals.{else-is_of, then-is_of}
use Rattle.dd_place.proofs.load.least_loaded.Goals as goal

pub loop-i-preserved : goal.loop-i-preserved
loop-i-preserved c =
    let row = get_or_read c.args.procs.now c.loop-i.i c.index-procs-i.result c.loop-i-test.true c.index-procs-i.is no_proc in
    elim c.if-is_of.branch [
      | then-is_of w ↦ rw (w.best-is, w.lighter.ensures) (best_more c.args.space c.args.procs.now c.args.earlier.now c.loop-i.i c.loop-i.best w.load_of.result (ap (is_of c.args.space) (sym row) ∙ sym c.is_of.ensures ∙ w.if-is_of.true) w.load_of.ensures.proc w.load_of.ensures.tasks c.loop-i.invariant)
      | else-is_of w ↦ rw w.best-is (best_same c.args.space c.args.procs.now c.args.earlier.now c.loop-i.i c.loop-i.best (ap (is_of c.args.space) (sym row) ∙ sym c.is_of.ensures ∙ w.if-is_of.false) c.loop-i.invariant)
    ]
