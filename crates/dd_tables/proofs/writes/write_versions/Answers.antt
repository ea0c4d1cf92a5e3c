use Rattle.std.proofs.Common.{◌<◌, ◌≤◌, ℕ, Bool, List, cond, get_or, length, set, ap, ◌∙◌, arith}
use Rattle.dd_copies.proofs.CellsLemmas.{length_same}
use Rattle.dd_machine.specs.Words.{element, writes}
use Rattle.dd_spans.specs.PlaceMap.{PlaceMap}
use Rattle.dd_tables.proofs.VersionsLemmas.{so_far_all, so_far_at, so_far_more}
use Rattle.dd_tables.proofs.writes.write_versions.Goals as goal

pub loop-i-preserved : goal.loop-i-preserved
loop-i-preserved c =
    let old = c.args.versions.now.list in
    let i = c.loop-i.i in
    let v = c.written-version.result in
    let changed : ℕ → Bool = λ k. writes c.args.plan.now c.args.task (element c.args.plan.now c.args.block k) in
    let new : ℕ → ℕ = λ k. c.args.task in
    let list = c.loop-i.invariant.list in
    let lt : i < length old = (let end = c.loop-i-test.true in let size = c.size-i-end.ensures.value in let len = c.requires.len in omega (arith, end, size, len)) in
    let was = c.get.ensures ∙ ap (λ (vs : List ℕ). get_or vs i 0) list ∙ so_far_at changed new i old in
    let is = c.written-version.ensures ∙ ap (λ (k : ℕ). cond (changed i) c.args.task k) was in
    record {
      list = ap (λ (m : PlaceMap). m.list) c.set.ensures ∙ ap (λ (vs : List ℕ). set vs i v) list ∙ so_far_more changed new i v old lt is;
      len = ap (λ (m : PlaceMap). length m.list) c.set.ensures ∙ length_same c.loop-i.versions.list i v ∙ c.loop-i.invariant.len;
    }

pub returns : goal.returns
returns c =
    let old = c.args.versions.now.list in
    let changed : ℕ → Bool = λ k. writes c.args.plan.now c.args.task (element c.args.plan.now c.args.block k) in
    let new : ℕ → ℕ = λ k. c.args.task in
    let le : length old ≤ c.loop-i.i = (let end = c.loop-i-test.false in let size = c.size-i-end.ensures.value in let len = c.requires.len in omega (arith, end, size, len)) in
    c.loop-i.invariant.list ∙ so_far_all changed new c.loop-i.i old le
