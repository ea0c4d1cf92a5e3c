-- What the buffer got is the front of what was left.
use Rattle.std.proofs.Common.{arith, drop, sym, ap, ◌∙◌}
use Rattle.std.proofs.lemmas.List.{take_rest, drop-drop}
use Rattle.dd_io.proofs.TakenLemmas.{gives_front}
use Rattle.dd_io.proofs.mem_source.MemSourceSource.read.Goals as goal

pub returns-clause-taken : goal.returns-clause-taken
returns-clause-taken c =
    let source = c.self.inside in
    let copy = c.copy_front-count in
    let rest = take_rest c.deref-2.result.now source.given ∙ ap (drop source.given) c.deref-2.ensures.value in
    let left = rest ∙ ap (λ s. s.left) c.self.view_is in
    let after = sym (drop-drop copy.result source.given source.bytes.items) ∙ ap (drop copy.result) (sym rest) in
    rw (sym left) (gives_front _ _ _ _ source.most copy.result (omega arith) copy.ensures.count copy.ensures.copied after)
