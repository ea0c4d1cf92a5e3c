use Rattle.std.proofs.Common.{◌≡◌, ℕ, ◌+◌, ◌-◌, ◌<◌, ◌++◌, ◌^◌, filter, List, [], sym, ap, ◌∙◌, arith}
use Rattle.std.specs.Prelude.{Contains}
use Rattle.std.proofs.lemmas.List.{append-nil}
use Rattle.std.proofs.lemmas.List.Elements.{All-contains, All-filter}
use Rattle.std.proofs.lemmas.List.Kept.{IsStrictlyIncreasing-filter}
use Rattle.std.proofs.lemmas.Result.{IfOk-weaker}
use Rattle.dd_blocks.specs.Numbered.{block_row}
use Rattle.dd_history.specs.Currents.{is_lacking}
use Rattle.dd_spans.specs.Numbers.{numbers_from, rising_numbers}
use Rattle.dd_spans.specs.SortedNumbers.{SortedNumbers}
use Rattle.dd_spans.proofs.NumbersLemmas.{from_zero, rising_itself}
use Rattle.dd_history.proofs.sought.Sought.among.Goals as goal

pub loop-first-init : goal.loop-first-init
loop-first-init c =
    let self = c.args.self.now in
    let p = is_lacking self.plan.now self.region self.block self.versions.now.list self.held.now.list self.from in
    rw c.new-places.ensures.items (ap (filter p) (from_zero c.args.wanted.now.list))

pub push_run-requires-clause-within : goal.push_run-requires-clause-within
push_run-requires-clause-within c =
    let size = (block_row c.args.self.now.plan.now c.args.self.now.block).size in
    let run = c.in-Some.ensures.run in
    let last = c.in-Some.first + c.in-Some.count - 1 in
    let there : Contains c.args.wanted.now.list last = run.run last (omega (arith, run.some)) (omega (arith, run.some)) in
    let low : last < size = All-contains (λ (place : ℕ). place < size) c.args.wanted.now.list last c.requires.wanted there in
    omega (arith, low, run.some)

pub of_list-requires : goal.of_list-requires
of_list-requires c =
    let self = c.args.self.now in
    let wanted = c.args.wanted.now in
    let p = is_lacking self.plan.now self.region self.block self.versions.now.list self.held.now.list self.from in
    let none : filter p (numbers_from c.loop-first.next wanted.list) ≡ [] = ap (filter p) c.in_default.ensures.left in
    let whole : c.loop-first.places.items ≡ filter p wanted.list = sym (ap (λ (l : List ℕ). c.loop-first.places.items ++ l) none ∙ append-nil c.loop-first.places.items) ∙ c.loop-first.invariant in
    rw (c.deref.ensures.value, whole) (All-filter p (λ (n : ℕ). n < 2 ^ 64 - 1) wanted.list wanted.below)

pub returns : goal.returns
returns c =
    let self = c.args.self.now in
    let wanted = c.args.wanted.now in
    let p = is_lacking self.plan.now self.region self.block self.versions.now.list self.held.now.list self.from in
    let none : filter p (numbers_from c.loop-first.next wanted.list) ≡ [] = ap (filter p) c.in_default.ensures.left in
    let whole : c.loop-first.places.items ≡ filter p wanted.list = sym (ap (λ (l : List ℕ). c.loop-first.places.items ++ l) none ∙ append-nil c.loop-first.places.items) ∙ c.loop-first.invariant in
    IfOk-weaker c.of_list.result (λ (runs : SortedNumbers). runs.list ≡ rising_numbers c.deref.result.now) (λ (runs : SortedNumbers). runs.list ≡ filter p wanted.list)
    (λ runs is. is ∙ ap rising_numbers (c.deref.ensures.value ∙ whole) ∙ rising_itself (filter p wanted.list) (IsStrictlyIncreasing-filter p wanted.list wanted.rises))
    c.of_list.ensures.sorted
