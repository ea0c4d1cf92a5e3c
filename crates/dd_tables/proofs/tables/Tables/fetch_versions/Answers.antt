use Rattle.std.proofs.Common.{◌<◌, ◌≤◌, ℕ, Bool, List, cond, get_or, length, set, ap, ◌∙◌, arith}
use Rattle.dd_copies.proofs.CellsLemmas.{length_same}
use Rattle.dd_machine.specs.Words.{element}
use Rattle.dd_spans.specs.PlaceMap.{PlaceMap}
use Rattle.dd_tables.specs.Fetches.{is_fetched}
use Rattle.dd_tables.specs.Tables.{state_of}
use Rattle.dd_tables.proofs.VersionsLemmas.{so_far_all, so_far_at, so_far_more}
use Rattle.dd_tables.proofs.tables.Tables.fetch_versions.Goals as goal

pub loop-i-preserved : goal.loop-i-preserved
loop-i-preserved c =
    let old = c.args.versions.now.list in
    let st = state_of c.args.plan.now c.args.self.now in
    let i = c.loop-i.i in
    let v = c.fetched-version.result in
    let test : ℕ → ℕ → Bool = λ k version. is_fetched c.args.plan.now st c.args.task c.args.block c.args.from k version in
    let changed : ℕ → Bool = λ k. test k (get_or old k 0) in
    let new : ℕ → ℕ = λ k. st.current (element c.args.plan.now c.args.block k) in
    let list = c.loop-i.invariant.list in
    let lt : i < length old = (let end = c.loop-i-test.true in let size = c.size-i-end.ensures.value in let len = c.requires.len in omega (arith, end, size, len)) in
    let was = c.get.ensures ∙ ap (λ (vs : List ℕ). get_or vs i 0) list ∙ so_far_at changed new i old in
    let is = c.fetched-version.ensures ∙ ap (λ (k : ℕ). cond (test i k) (new i) k) was in
    record {
      list = ap (λ (m : PlaceMap). m.list) c.set.ensures ∙ ap (λ (vs : List ℕ). set vs i v) list ∙ so_far_more changed new i v old lt is;
      len = ap (λ (m : PlaceMap). length m.list) c.set.ensures ∙ length_same c.loop-i.versions.list i v ∙ c.loop-i.invariant.len;
    }

pub returns : goal.returns
returns c =
    let old = c.args.versions.now.list in
    let st = state_of c.args.plan.now c.args.self.now in
    let changed : ℕ → Bool = λ k. is_fetched c.args.plan.now st c.args.task c.args.block c.args.from k (get_or old k 0) in
    let new : ℕ → ℕ = λ k. st.current (element c.args.plan.now c.args.block k) in
    let le : length old ≤ c.loop-i.i = (let end = c.loop-i-test.false in let size = c.size-i-end.ensures.value in let len = c.requires.len in omega (arith, end, size, len)) in
    c.loop-i.invariant.list ∙ so_far_all changed new c.loop-i.i old le
