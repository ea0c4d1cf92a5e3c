use Rattle.std.proofs.Common.{◌<◌, ◌-◌, ◌^◌, ℕ, Bool, List, Result, Ok, Err, filter, ap, sym, ◌∙◌, subst, arith}
use Rattle.std.specs.Prelude.{IfOk}
use Rattle.std.specs.List.{All, range_with_len}
use Rattle.std.proofs.lemmas.List.Elements.{All-contains}
use Rattle.std.proofs.lemmas.List.Kept.{IsStrictlyIncreasing-filter}
use Rattle.dd_machine.specs.Needed.{is_needed}
use Rattle.dd_machine.specs.Words.{size}
use Rattle.dd_spans.proofs.MembersLemmas.{all_from_contains, contains_from_filter}
use Rattle.dd_spans.proofs.NumbersLemmas.{rising_itself}
use Rattle.dd_spans.proofs.RunLemmas.{range_rises, run_below}
use Rattle.dd_spans.specs.Numbers.{rising_numbers}
use Rattle.dd_tables.specs.Tables.{state_of}
use Rattle.dd_tables.proofs.SmallLemmas.{size_small}
use Rattle.dd_tables.proofs.tables.Tables.needed.Goals as goal

if_ok : {T E : Type 0} (r : Result T E) (P Q : T → Type 0) → ((x : T) → P x → Q x) → IfOk r P → IfOk r Q
if_ok (Ok x) P Q f h = f x h
if_ok (Err e) P Q f h = h

pub of_list-requires : goal.of_list-requires
of_list-requires c =
    let p : ℕ → Bool = is_needed c.args.plan.now (state_of c.args.plan.now c.args.self.now) c.args.task c.args.block c.args.from in
    let n = size c.args.plan.now c.args.block in
    let small = size_small c.args.plan.now c.args.block c.requires.well c.requires.block in
    let P : ℕ → Type 0 = λ k. k < 2 ^ 64 - 1 in
    let all : All P (filter p (range_with_len 0 n)) =
    all_from_contains P (filter p (range_with_len 0 n))
    (λ m h. All-contains P (range_with_len 0 n) m (run_below 0 n (omega (arith, small))) (contains_from_filter p (range_with_len 0 n) m h).0) in
    subst (λ (xs : List ℕ). All P xs) (sym (c.as_slice.ensures.value ∙ c.in_ok-places.ensures)) all

pub returns : goal.returns
returns c =
    let p : ℕ → Bool = is_needed c.args.plan.now (state_of c.args.plan.now c.args.self.now) c.args.task c.args.block c.args.from in
    let n = size c.args.plan.now c.args.block in
    let rises = IsStrictlyIncreasing-filter p (range_with_len 0 n) (range_rises 0 n) in
    let same = ap rising_numbers (c.as_slice.ensures.value ∙ c.in_ok-places.ensures) ∙ rising_itself (filter p (range_with_len 0 n)) rises in
    if_ok c.of_list.result _ _ (λ runs h. h ∙ same) c.of_list.ensures.sorted
