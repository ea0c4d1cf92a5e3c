-- What the events leave of a copy's being there and of its versions.
use Rattle.std.proofs.Common.{◌≡◌, ℕ, zero, suc, ◌+◌, ◌<◌, Bool, true, false, cond, eqb as nat_eq, List, Option, Some, None, refl, ap, sym, ◌∙◌, ⊎_elim, arith}
use Rattle.std.proofs.lemmas.Bool.{cases_Bool, eq-eqb, eqb-true, or_cases, or_left, or_right}
use Rattle.dd_blocks.specs.Numbered.{task_row}
use Rattle.dd_blocks.specs.declared.plan.Plan.{Plan}
use Rattle.dd_machine.specs.declared.copy_state.CopyState.{CopyState}
use Rattle.dd_machine.specs.declared.copy_state.CopyState.TheVariants.{Leaving, Out}
use Rattle.dd_machine.specs.declared.task_state.TaskState.{TaskState}
use Rattle.dd_machine.specs.declared.task_state.TaskState.TheVariants.{Waiting, Held, Running, Done}
use Rattle.dd_machine.specs.declared.event.Event.TheVariants as event
use Rattle.dd_machine.specs.Effects.{after, after_copy, after_rest, copy_where, finish_copy, given_back, in_state, on_outside, order_front}
use Rattle.dd_machine.specs.Legal.{MayFetch, MayHold, MayRest}
use Rattle.dd_machine.specs.Needed.{is_current, is_current_at, is_needed, is_read_current, own_space, reads_current, version}
use Rattle.dd_machine.specs.Sound.{IsSound}
use Rattle.dd_machine.specs.SoundLimits.{IsOpen}
use Rattle.dd_machine.specs.States.{Copy, State, at_copy}
use Rattle.dd_machine.specs.Tests.{Has, is_any, is_done, is_here, is_in_state, is_leaving, is_out, is_running, versions_of}
use Rattle.dd_blocks.specs.Elements.{Element}
use Rattle.std.specs.List.{list_all, range_with_len}
use Rattle.std.specs.Prelude.{is_some, not, slice_index}
use Rattle.dd_machine.specs.Words.{IsOf, element, place, reads, size, writes}
use Rattle.dd_machine.proofs.ChangesLemmas.{at_copy_tells}
use Rattle.dd_machine.proofs.RangesLemmas.{all_at, all_below}

-- what the change of a copy leaves as it was
pub same_at : {A : Type 0} (g : Option Copy → A) (copies : ℕ → ℕ → Option Copy) (space block : ℕ) (copy : Option Copy) → g copy ≡ g (copies space block)
    → (s b : ℕ) → g (at_copy copies space block copy s b) ≡ g (copies s b)
same_at g copies space block copy same s b = ⊎_elim
    (λ (e : (s ≡ space) × (b ≡ block) × (at_copy copies space block copy s b ≡ copy)). ap g e.2 ∙ same ∙ sym (ap (λ (x : ℕ). g (copies x b)) e.0 ∙ ap (λ (y : ℕ). g (copies space y)) e.1))
    (λ (e : (s ≡ space → b ≡ block → ⊥) × (at_copy copies space block copy s b ≡ copies s b)). ap g e.1)
    (at_copy_tells copies space block copy s b)

pub any_in_state : (new : CopyState) (c : Option Copy) → is_in_state is_any (in_state new c) ≡ is_in_state is_any c
any_in_state new None = refl
any_in_state new (Some c) = refl

pub any_given : (c : Option Copy) → is_in_state is_any (given_back c) ≡ is_in_state is_any c
any_given None = refl
any_given (Some c) = refl

pub any_where : (changed : ℕ → Bool) (new : ℕ → ℕ) (c : Option Copy) → is_in_state is_any (copy_where changed new c) ≡ is_in_state is_any c
any_where changed new None = refl
any_where changed new (Some c) = refl

pub versions_in_state : (new : CopyState) (c : Option Copy) → versions_of (in_state new c) ≡ versions_of c
versions_in_state new None = refl
versions_in_state new (Some c) = refl

pub any_copied : (plan : Plan) (st : State) (task block from count s b : ℕ) → is_in_state is_any ((after_copy plan st task block from count).copies s b) ≡ is_in_state is_any (st.copies s b)
any_copied plan st task block from count s b =
    let own = own_space plan st task block in
    let lender = at_copy st.copies from block (given_back (st.copies from block)) in
    let new = copy_where (is_needed plan st task block from) (λ i. st.current (element plan block i)) (st.copies own block) in
    let lent : (x y : ℕ) → is_in_state is_any (lender x y) ≡ is_in_state is_any (st.copies x y) = same_at (is_in_state is_any) st.copies from block (given_back (st.copies from block)) (any_given (st.copies from block)) in
    same_at (is_in_state is_any) lender own block new (any_where (is_needed plan st task block from) (λ i. st.current (element plan block i)) (st.copies own block) ∙ sym (lent own block)) s b
    ∙ lent s b

pub any_finished : (plan : Plan) (st : State) (task s b : ℕ) → is_in_state is_any (finish_copy plan st task s b) ≡ is_in_state is_any (st.copies s b)
any_finished plan st task s b = by (nat_eq s (place plan task))
  where
    by : (t : Bool) → is_in_state is_any (cond t (copy_where (λ i. writes plan task (element plan b i)) (λ i. task) (st.copies s b)) (st.copies s b)) ≡ is_in_state is_any (st.copies s b)
    by true = any_where (λ i. writes plan task (element plan b i)) (λ i. task) (st.copies s b)
    by false = refl

-- the versions of a copy and the current ones are all that counts
pub current_same : (plan : Plan) (st new : State) (s x b : ℕ) → new.current ≡ st.current → versions_of (new.copies s b) ≡ versions_of (st.copies x b) → is_current plan new s b ≡ is_current plan st x b
current_same plan st new s x b now same =
    ap (λ (vs : List ℕ). list_all (λ i. nat_eq (slice_index vs i) (new.current (element plan b i))) (range_with_len 0 (size plan b))) same
    ∙ ap (λ (f : Element → ℕ). list_all (λ i. nat_eq (slice_index (versions_of (st.copies x b)) i) (f (element plan b i))) (range_with_len 0 (size plan b))) now

-- what an option has
pub some_at : {A : Type 0} (o : Option A) → is_some o ≡ true → (a : A) × (o ≡ Some a)
some_at None is = absurd (let h : false ≡ true = is in cc)
some_at (Some a) is = (a, refl)

-- a fetch stands in an open region
pub fetch_open : (plan : Plan) (st : State) (task block : ℕ) → IsSound plan st → MayFetch st task block → IsOpen st
fetch_open plan st zero block sound may = some_at st.region may.0
fetch_open plan st (suc t) block sound may = let o = sound.limits.active_open (suc t) (rw may refl) in (o.0, o.1)

-- the state after a Rest of this pin
pub rested : (plan : Plan) (st : State) (space block : ℕ) → st.pin ≡ Some (space, block)
    → after plan st event.Rest ≡ record st { pin = None; progress = on_outside plan st; orders = order_front st.orders space block }
rested plan st space block e = ap (after_rest plan st) e

-- where a Rest is legal: the pinned copy, which is ready
pub record IsReady (plan : Plan) (st : State) (space block : ℕ) : Type 0 where
  pub here : Has st space block is_here
  pub current : (r : ℕ) → st.region ≡ Some r → is_current plan st space block ≡ true

pub pin_of : (plan : Plan) (st : State) → MayRest plan st → (space block : ℕ) × (st.pin ≡ Some (space, block)) × IsReady plan st space block
pin_of plan st may =
    let p = some_at st.pin may.pinned in
    (p.0.0, p.0.1, p.1, record { here = may.here p.0.0 p.0.1 p.1; current = λ r open_is. may.current r p.0.0 p.0.1 open_is p.1 })

pub rested_at : (plan : Plan) (st : State) (may : MayRest plan st)
    → after plan st event.Rest ≡ record st { pin = None; progress = on_outside plan st; orders = order_front st.orders (pin_of plan st may).0 (pin_of plan st may).1 }
rested_at plan st may = rested plan st (pin_of plan st may).0 (pin_of plan st may).1 (pin_of plan st may).2

-- two pins that are the same
abbrev pub pin_at : ℕ → ℕ → Option (ℕ × ℕ)
pin_at s b = Some (s, b)

pub pair_same : (s t b c : ℕ) → pin_at s b ≡ pin_at t c → (s ≡ t) × (b ≡ c)
pair_same s t b c e =
    let x : ℕ × ℕ = (s, b) in
    let y : ℕ × ℕ = (t, c) in
    let h : x ≡ y = inner x y e in
    (ap (λ (p : ℕ × ℕ). p.0) h, ap (λ (p : ℕ × ℕ). p.1) h)
  where
    inner : (p q : ℕ × ℕ) → Some p ≡ Some q → p ≡ q
    inner p q e = cc

-- where a Hold is legal: the open region, and that the task is of it
pub hold_open : (plan : Plan) (st : State) (task : ℕ) → MayHold plan st task → (r : ℕ) × (st.region ≡ Some r) × IsOf plan r task
hold_open plan st task may = ((task_row plan task).region, may.of_region, (may.task_is, refl))

-- the worker of a task that is Running
pub running_by : (state : TaskState) → is_running state ≡ true → (worker : ℕ) × (state ≡ Running worker)
running_by Waiting is = absurd (let h : false ≡ true = is in cc)
running_by Held is = absurd (let h : false ≡ true = is in cc)
running_by (Running worker) is = (worker, refl)
running_by Done is = absurd (let h : false ≡ true = is in cc)

-- a test of states that a changed copy passes only where the old one did
pub passed_at : (test : CopyState → Bool) (copies : ℕ → ℕ → Option Copy) (space block : ℕ) (copy : Option Copy) → (is_in_state test copy ≡ true → is_in_state test (copies space block) ≡ true)
    → (s b : ℕ) → is_in_state test (at_copy copies space block copy s b) ≡ true → is_in_state test (copies s b) ≡ true
passed_at test copies space block copy only s b is = ⊎_elim
    (λ (e : (s ≡ space) × (b ≡ block) × (at_copy copies space block copy s b ≡ copy)).
    ap (λ (x : ℕ). is_in_state test (copies x b)) e.0 ∙ ap (λ (y : ℕ). is_in_state test (copies space y)) e.1 ∙ only (ap (is_in_state test) (sym e.2) ∙ is))
    (λ (e : (s ≡ space → b ≡ block → ⊥) × (at_copy copies space block copy s b ≡ copies s b)). ap (is_in_state test) (sym e.1) ∙ is)
    (at_copy_tells copies space block copy s b)

-- of a changed copy that doesn't pass
pub passed_other : (test : CopyState → Bool) (copies : ℕ → ℕ → Option Copy) (space block : ℕ) (copy : Option Copy) → is_in_state test copy ≡ false
    → (s b : ℕ) → is_in_state test (at_copy copies space block copy s b) ≡ true → is_in_state test (copies s b) ≡ true
passed_other test copies space block copy none = passed_at test copies space block copy (λ is. absurd (let h : true ≡ false = sym is ∙ none in cc))

-- a copy in a state that doesn't pass
pub none_in_state : (test : CopyState → Bool) (new : CopyState) (c : Option Copy) → test new ≡ false → is_in_state test (in_state new c) ≡ false
none_in_state test new None e = refl
none_in_state test new (Some c) e = e

pub in_state_there : (test : CopyState → Bool) (new : CopyState) (c : Option Copy) → test new ≡ true → is_in_state is_any c ≡ true → is_in_state test (in_state new c) ≡ true
in_state_there test new None e any = absurd cc
in_state_there test new (Some c) e any = e

pub passes_any : (test : CopyState → Bool) (c : Option Copy) → is_in_state test c ≡ true → is_in_state is_any c ≡ true
passes_any test None e = cc
passes_any test (Some c) e = refl

-- two tests that no state passes both
pub not_two : (p q : CopyState → Bool) → ((s : CopyState) → p s ≡ true → q s ≡ true → ⊥) → (c : Option Copy) → is_in_state p c ≡ true → is_in_state q c ≡ true → ⊥
not_two p q h None a b = cc
not_two p q h (Some c) a b = h c.state a b

pub one_of_two : (p q : CopyState → Bool) → ((s : CopyState) → p s ≡ true → q s ≡ true) → (c : Option Copy) → is_in_state p c ≡ true → is_in_state q c ≡ true
one_of_two p q h None a = cc
one_of_two p q h (Some c) a = h c.state a

pub state_where : (changed : ℕ → Bool) (new : ℕ → ℕ) (test : CopyState → Bool) (c : Option Copy) → is_in_state test (copy_where changed new c) ≡ is_in_state test c
state_where changed new test None = refl
state_where changed new test (Some c) = refl

pub state_finished : (plan : Plan) (st : State) (task s b : ℕ) (test : CopyState → Bool) → is_in_state test (finish_copy plan st task s b) ≡ is_in_state test (st.copies s b)
state_finished plan st task s b test = by (nat_eq s (place plan task))
  where
    by : (t : Bool) → is_in_state test (cond t (copy_where (λ i. writes plan task (element plan b i)) (λ i. task) (st.copies s b)) (st.copies s b)) ≡ is_in_state test (st.copies s b)
    by true = state_where (λ i. writes plan task (element plan b i)) (λ i. task) test (st.copies s b)
    by false = refl

-- a Copy or Back makes no copy pass that didn't
pub passed_copied : (plan : Plan) (st : State) (task block from count : ℕ) (test : CopyState → Bool) → (is_in_state test (given_back (st.copies from block)) ≡ true → is_in_state test (st.copies from block) ≡ true)
    → (s b : ℕ) → is_in_state test ((after_copy plan st task block from count).copies s b) ≡ true → is_in_state test (st.copies s b) ≡ true
passed_copied plan st task block from count test only s b is =
    let own = own_space plan st task block in
    let lender = at_copy st.copies from block (given_back (st.copies from block)) in
    let lent : (x y : ℕ) → is_in_state test (lender x y) ≡ true → is_in_state test (st.copies x y) ≡ true = passed_at test st.copies from block (given_back (st.copies from block)) only in
    ⊎_elim
    (λ (e : (s ≡ own) × (b ≡ block) × (at_copy lender own block (copy_where (is_needed plan st task block from) (λ i. st.current (element plan block i)) (st.copies own block)) s b
    ≡ copy_where (is_needed plan st task block from) (λ i. st.current (element plan block i)) (st.copies own block))).
    ap (λ (x : ℕ). is_in_state test (st.copies x b)) e.0 ∙ ap (λ (y : ℕ). is_in_state test (st.copies own y)) e.1
    ∙ sym (state_where (is_needed plan st task block from) (λ i. st.current (element plan block i)) test (st.copies own block)) ∙ ap (is_in_state test) (sym e.2) ∙ is)
    (λ (e : (s ≡ own → b ≡ block → ⊥) × (at_copy lender own block (copy_where (is_needed plan st task block from) (λ i. st.current (element plan block i)) (st.copies own block)) s b ≡ lender s b)).
    lent s b (ap (is_in_state test) (sym e.1) ∙ is))
    (at_copy_tells lender own block (copy_where (is_needed plan st task block from) (λ i. st.current (element plan block i)) (st.copies own block)) s b)

pub current_version : (plan : Plan) (st : State) (s b i : ℕ) → is_current plan st s b ≡ true → i < size plan b → version st s b i ≡ st.current (element plan b i)
current_version plan st s b i all lt =
    let e : 0 + i ≡ i = omega arith in
    eqb-true (version st s b i) (st.current (element plan b i)) (ap (is_current_at plan st s b) (sym e) ∙ all_at (is_current_at plan st s b) 0 (size plan b) i all lt)

-- a task that passes is done
pub done_is : (s : TaskState) → is_done s ≡ true → s ≡ Done
done_is Waiting h = absurd cc
done_is Held h = absurd cc
done_is (Running w) h = absurd cc
done_is Done h = refl

-- what a task reads of a copy is current, place by place
pub read_version : (plan : Plan) (st : State) (task b i : ℕ) → reads_current plan st task b ≡ true → i < size plan b → reads plan task (element plan b i) ≡ true → version st (place plan task) b i ≡ st.current (element plan b i)
read_version plan st task b i all lt read =
    let e : 0 + i ≡ i = omega arith in
    ⊎_elim
    (λ (off : not (reads plan task (element plan b i)) ≡ true). absurd (let h : not true ≡ true = ap not (sym read) ∙ off in cc))
    (λ (on : is_current_at plan st (place plan task) b i ≡ true). eqb-true (version st (place plan task) b i) (st.current (element plan b i)) on)
    (or_cases (not (reads plan task (element plan b i))) (is_current_at plan st (place plan task) b i) (ap (is_read_current plan st task b) (sym e) ∙ all_at (is_read_current plan st task b) 0 (size plan b) i all lt))

pub all_read : (plan : Plan) (st : State) (task b : ℕ) → ((i : ℕ) → i < size plan b → reads plan task (element plan b i) ≡ true → version st (place plan task) b i ≡ st.current (element plan b i)) → reads_current plan st task b ≡ true
all_read plan st task b each = all_below (is_read_current plan st task b) (size plan b) (λ i lt. ⊎_elim
    (λ (read : reads plan task (element plan b i) ≡ true).
    or_right (not (reads plan task (element plan b i))) (is_current_at plan st (place plan task) b i) (eq-eqb (version st (place plan task) b i) (st.current (element plan b i)) (each i lt read)))
    (λ (off : reads plan task (element plan b i) ≡ false). or_left (not (reads plan task (element plan b i))) (is_current_at plan st (place plan task) b i) (ap not off))
    (cases_Bool (reads plan task (element plan b i))))

-- a copy that is Here isn't Out, Leaving
pub out_here : (s : CopyState) → is_out s ≡ true → is_here s ≡ true → ⊥
out_here Out a b = cc
out_here _ a b = cc

pub leaving_here : (s : CopyState) → is_leaving s ≡ true → is_here s ≡ true → ⊥
leaving_here Leaving a b = cc
leaving_here _ a b = cc
