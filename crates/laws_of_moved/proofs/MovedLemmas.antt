-- Where a region begins, none of what it needs was made; and in every state the number moved is that of the moves made.
use Rattle.std.proofs.Common.{◌≡◌, ◌≢◌, ℕ, zero, suc, ◌-◌, ◌<◌, ◌≤◌, Bool, true, false, cond, ◌&&◌, ◌||◌, eqb, leb, ltb, List, [], ◌∷◌, Option, Some, None, refl, ap, sym, ◌∙◌, subst, ⊎_elim, arith}
use Rattle.std.specs.Prelude.{Contains, filter, not}
use Rattle.std.specs.List.{count_by, range_with_len, sum_by}
use Rattle.std.proofs.lemmas.Bool.{and_left, and_parts, and_right, cases_Bool, cases_eq, cases_lt, eq-eqb, false_from_ne_true, le-ltb, lt-leb, ne_eqb, not-true, not_from_true, or_from, or_right}
use Rattle.dd_blocks.specs.declared.plan.Plan.{Plan}
use Rattle.dd_blocks.specs.Numbered.{task_row}
use Rattle.dd_blocks.specs.WellFormed.{IsWellFormed}
use Rattle.dd_meaning.specs.Moves.{home_of, is_kept_in, is_read_in, moves_to, place_of, source_of, versions_in}
use Rattle.dd_meaning.specs.Versions.{last_version, tasks_in}
use Rattle.dd_blocks.specs.Elements.{Element}
use Rattle.dd_machine.specs.declared.task_state.TaskState.TheVariants.{Held, Done}
use Rattle.dd_machine.specs.Bytes.{when}
use Rattle.dd_machine.specs.Delivered.{all_done, delivered, delivered_of, has_version, is_delivered}
use Rattle.dd_machine.specs.Effects.{after_copy}
use Rattle.dd_machine.specs.Legal.{MayCopy}
use Rattle.dd_machine.specs.Owed.{made}
use Rattle.dd_machine.specs.Needed.{version}
use Rattle.dd_machine.specs.Orderly.{IsOrderly}
use Rattle.dd_machine.specs.Sound.{IsSound}
use Rattle.dd_machine.specs.States.{State}
use Rattle.dd_machine.specs.Tests.{is_active, is_any, is_done, is_in_state}
use Rattle.dd_machine.specs.Words.{IsOf, blocks, element, place, size, spaces}
use Rattle.dd_machine.proofs.TotalsLemmas.{total_more_one}
use Rattle.laws_of_moved.proofs.BelowLemmas.{below}
use Rattle.laws_of_moved.proofs.DeliveredLemmas.{delivered_blocks, home_at, version_at}
use Rattle.laws_of_moved.proofs.RegionVersionsLemmas.{home_is, not_all_done, once_current}
use Rattle.std.proofs.lemmas.List.Sums.{sum_by-cons}
use Rattle.laws_of_lives.proofs.ElementsLemmas.{placed}
use Rattle.laws_of_lives.proofs.RegionsLemmas.{through_task}
use Rattle.dd_machine.specs.declared.event.Event.TheVariants as event
use Rattle.dd_machine.specs.Effects.{after}
use Rattle.dd_machine.proofs.TotalsLemmas.{total_same}
use Rattle.dd_meaning.specs.Moves.{moved}
use Rattle.dd_meaning.specs.Versions.{opening_version, tasks_through}
use Rattle.dd_blocks.specs.Elements.{task_writes}
use Rattle.dd_machine.specs.Words.{is_of}
use Rattle.dd_machine.specs.Tests.{is_waiting}
use Rattle.dd_views.proofs.ListsLemmas.{in_filter}
use Rattle.laws_of_versions.proofs.ClosedLemmas.{last_writer_le}
use Rattle.laws_of_moved.proofs.RegionVersionsLemmas.{any_of, has_of, is_of_from, of_from}
use Rattle.std.proofs.lemmas.Bool.{or_cases}
use Rattle.dd_machine.specs.declared.task_state.TaskState.TheVariants.{Running}
use Rattle.dd_machine.specs.declared.event.Event.{Event}
use Rattle.dd_machine.specs.declared.event.Event.TheVariants.{Ask, Rest, Put, Shift, Free, Begin, Hold, Pick, Gone, Make, Call, Come, Lend, Copy, Claim, Finish, Back, Close}
use Rattle.dd_machine.specs.declared.entry.Entry.{Entry}
use Rattle.dd_machine.specs.Effects.{on_outside}
use Rattle.dd_machine.specs.Legal.{IsNext, May, MayBegin}
use Rattle.dd_machine.specs.Made.{close_of, was_begun, was_closed}
use Rattle.dd_machine.specs.Owed.{one_more}
use Rattle.dd_machine.specs.SoundLimits.{IsOpen}
use Rattle.dd_machine.specs.States.{Progress}
use Rattle.dd_machine.proofs.TestsLemmas.{done_is, hold_open, pin_of, rested_at, running_by}
use Rattle.dd_machine.proofs.TotalsLemmas.{total_zero}
use Rattle.laws_of_lives.proofs.MadeLemmas.{out_is}
use Rattle.laws_of_lives.proofs.RegionsLemmas.{region_is}
use Rattle.laws_of_lives.proofs.TasksKept.{closed_one, closed_same, or_false}
use Rattle.laws_of_moved.proofs.BelowLemmas.{below_zero}
use Rattle.laws_of_moved.proofs.CopyStep.{copied_delivered}
use Rattle.dd_machine.specs.declared.copy_state.CopyState.TheVariants as state_of
use Rattle.dd_machine.specs.Effects.{order_front}
use Rattle.dd_machine.specs.Owed.{made}
use Rattle.dd_machine.proofs.TestsLemmas.{fetch_open}
use Rattle.dd_machine.proofs.TotalsLemmas.{total_more_one}
use Rattle.laws_of_moved.proofs.FinishStep.{finished_delivered, reader}
use Rattle.laws_of_moved.proofs.OtherSteps.{all_made, none_by_free, none_by_make, none_by_state, none_by_task}
use Rattle.laws_of_moved.proofs.OnceLemmas.{Once}
use Rattle.dd_meaning.specs.Moves.{moved}
use Rattle.dd_machine.specs.SoundMoved.{SoundMoved, closed_moves, open_moves, regions}
use Rattle.dd_machine.specs.SoundLives.{SoundLives}
use Rattle.dd_machine.specs.SoundVersions.{SoundVersions}
use Rattle.dd_machine.specs.Runs.{start}
use Rattle.dd_blocks.proofs.NumberedLemmas.{task_names_rows}

pub sum_none : (f : ℕ → ℕ) (xs : List ℕ) → ((x : ℕ) → Contains xs x → f x ≡ 0) → sum_by f xs ≡ 0
sum_none f [] none = refl
sum_none f (x ∷ xs) none =
    let a = sum_by-cons f x xs in
    let b = sum_none f xs (λ y has. none y (suc has.0, omega (arith, has.1), has.2)) in
    let c = none x (0, omega arith, refl) in
    omega (arith, a, b, c)

once_has : (xs : List ℕ) (x : ℕ) → Once xs x → Contains xs x
once_has [] x once = absurd once
once_has (y ∷ ys) x once = ⊎_elim
    (λ (e : (y ≡ x) × (Contains ys x → ⊥)). (0, omega arith, e.0))
    (λ (e : (y ≢ x) × Once ys x). let h = once_has ys x e.1 in (suc h.0, omega (arith, h.1), h.2))
    once

module _ (plan : Plan) (st : State) (r : ℕ) (well : IsWellFormed plan) (order : IsOrderly plan) (sound : IsSound plan st) (may : MayBegin plan st r) (lives : SoundLives plan (after plan st (event.Begin r))) (versions : SoundVersions plan (after plan st (event.Begin r))) where
  abbrev opened : State
  opened = after plan st (event.Begin r)

  -- no task of it is at work
  not_begun : (t : ℕ) → IsOf plan r t → is_done (st.tasks t) ≡ false
  not_begun t of = false_from_ne_true (is_done (st.tasks t)) (λ h.
      let done : st.tasks t ≡ Done = done_is (st.tasks t) h in
      let k : true ≡ false = sym (sound.lives.begun t (ap is_waiting done)) ∙ ap (was_begun (made plan st.progress)) of.1 ∙ order.unbegun st.progress r may.due in cc)

  current_before : (e : Element) → is_of plan r (st.current e) ≡ false
  current_before e = false_from_ne_true (is_of plan r (st.current e)) (λ h.
      let of = of_from plan r (st.current e) h in
      let low = of.0.0 in
      let done = (sound.lives.current_done e (λ none. omega (arith, none, low))).0 in
      let k : true ≡ false = sym (ap is_done done) ∙ not_begun (st.current e) of in cc)

  opening_current : (e : Element) → opening_version plan r e ≡ st.current e
  opening_current e = ⊎_elim
      (λ (h : (opening_version plan r e ≡ st.current e) × (Contains (filter (λ t. task_writes (task_row plan t) e) (tasks_in plan r)) (st.current e) → ⊥)). h.0)
      (λ (h : (opening_version plan r e ≢ st.current e) × Once (filter (λ t. task_writes (task_row plan t) e) (tasks_in plan r)) (st.current e)).
      let f = in_filter (λ t. task_writes (task_row plan t) e) (tasks_in plan r) (st.current e) (once_has (filter (λ t. task_writes (task_row plan t) e) (tasks_in plan r)) (st.current e) h.1) in
      absurd (let k : true ≡ false = sym (is_of_from plan r (st.current e) (has_of plan r (st.current e) f.0)) ∙ current_before e in cc))
      (once_current plan opened r e well order lives versions refl)

  none_yet : (b i v s : ℕ) → i < size plan b → Contains (versions_in plan r (element plan b i)) v → moves_to plan r (element plan b i) v s ≡ true → is_delivered plan opened r (element plan b i) v s ≡ false
  none_yet b i v s lt has moves = ⊎_elim
      (λ (at : v ≡ st.current e).
      or_from3 at)
      (λ (ne : v ≡ st.current e → ⊥).
      and_left (leb v (st.current e)) (ltb v (st.current e) || (has_version plan opened e v s || (all_done plan opened r && not (eqb (home_of plan r e) s)))) (lt-leb v (st.current e) (above ne has)))
      (cases_eq v (st.current e))
    where
      e : Element
      e = element plan b i

      parts : (not (eqb (source_of plan r e v) s) ≡ true) × ((is_read_in plan r e v s || is_kept_in plan r e v s) ≡ true)
      parts = and_parts (not (eqb (source_of plan r e v) s)) (is_read_in plan r e v s || is_kept_in plan r e v s) moves

      above : (v ≡ st.current e → ⊥) → Contains (versions_in plan r e) v → st.current e < v
      above ne (zero, has_lt, is) = absurd (ne (sym is ∙ opening_current e))
      above ne (suc k, has_lt, is) = ⊎_elim
          (λ (h : st.current e < v). h)
          (λ (le : v ≤ st.current e).
          let f = in_filter (λ t. task_writes (task_row plan t) e) (tasks_in plan r) v (k, omega (arith, has_lt), is) in
          let of = has_of plan r v f.0 in
          let l = (last_writer_le plan e (tasks_through plan (r - 1))).0 in
          let o = opening_current e in
          let up = through_task plan well (r - 1) v of.0 (omega (arith, le, l, o)) in
          let names = task_names_rows plan well v of.0 in
          let first = names.region.0 in
          let same = of.1 in
          absurd (omega (arith, up, same, first)))
          (cases_lt (st.current e) v)

      home_same : st.homes b ≡ home_of plan r e
      home_same = home_is plan opened r b well lives refl (placed plan well b i lt).block ∙ sym (home_at plan well r b i lt)

      absent : v ≡ st.current e → has_version plan opened e v s ≡ false
      absent at = version_at plan well opened b i v s lt ∙ and_left (is_in_state is_any (st.copies s b)) (eqb (version st s b i) v) (false_from_ne_true (is_in_state is_any (st.copies s b)) (λ there.
          let home : st.homes b ≡ s = sound.lives.at_home may.outside s b there in
          let from : source_of plan r e v ≡ s = ap (source_of plan r e) at ∙ ap (λ (t : Bool). cond t (place_of plan (st.current e)) (home_of plan r e)) (any_of plan r (st.current e) ∙ current_before e) ∙ sym home_same ∙ home in
          let k : true ≡ false = sym (eq-eqb (source_of plan r e v) s from) ∙ not-true (eqb (source_of plan r e v) s) parts.0 in cc))

      not_third : (all_done plan opened r && not (eqb (home_of plan r e) s)) ≡ false
      not_third = ⊎_elim
          (λ (h : eqb (home_of plan r e) s ≡ true). and_right (all_done plan opened r) (not (eqb (home_of plan r e) s)) (not_from_true (eqb (home_of plan r e) s) h))
          (λ (h : eqb (home_of plan r e) s ≡ false). ⊎_elim
          (λ (k : is_read_in plan r e v s ≡ true).
          let u = reader plan r e v s k in
          and_left (all_done plan opened r) (not (eqb (home_of plan r e) s)) (not_all_done plan opened r u.task u.of (not_begun u.task u.of)))
          (λ (k : is_kept_in plan r e v s ≡ true). absurd (let c : true ≡ false = sym (and_parts (eqb (home_of plan r e) s) (eqb (last_version plan r e) v) k).0 ∙ h in cc))
          (or_cases (is_read_in plan r e v s) (is_kept_in plan r e v s) parts.1))
          (cases_Bool (eqb (home_of plan r e) s))

      or_from3 : v ≡ st.current e → is_delivered plan opened r e v s ≡ false
      or_from3 at = and_right (leb v (st.current e)) (ltb v (st.current e) || (has_version plan opened e v s || (all_done plan opened r && not (eqb (home_of plan r e) s))))
          (or_from (ltb v (st.current e)) (has_version plan opened e v s || (all_done plan opened r && not (eqb (home_of plan r e) s))) (le-ltb v (st.current e) (omega (arith, at)))
          (or_from (has_version plan opened e v s) (all_done plan opened r && not (eqb (home_of plan r e) s)) (absent at) not_third))

  pub begun_delivered : delivered plan opened r ≡ 0
  begun_delivered =
      delivered_blocks plan well opened r
      ∙ total_zero (blocks plan) (λ b. below (size plan b) (λ i. delivered_of plan opened r (element plan b i)))
      (λ b is. below_zero (size plan b) (λ i. delivered_of plan opened r (element plan b i)) (λ i lt.
      sum_none (λ v. count_by (λ s. moves_to plan r (element plan b i) v s && is_delivered plan opened r (element plan b i) v s) (range_with_len 1 (spaces plan))) (versions_in plan r (element plan b i))
      (λ v has. sum_none (λ s. cond (moves_to plan r (element plan b i) v s && is_delivered plan opened r (element plan b i) v s) 1 0) (range_with_len 1 (spaces plan))
      (λ s here. ap (λ (t : Bool). cond t 1 0) (⊎_elim
      (λ (m : moves_to plan r (element plan b i) v s ≡ true). and_right (moves_to plan r (element plan b i) v s) (is_delivered plan opened r (element plan b i) v s) (none_yet b i v s lt has m))
      (λ (m : moves_to plan r (element plan b i) v s ≡ false). and_left (moves_to plan r (element plan b i) v s) (is_delivered plan opened r (element plan b i) v s) m)
      (cases_Bool (moves_to plan r (element plan b i) v s)))))))

-- ---- the number moved

-- no region closes
closed_stays : (plan : Plan) (es fs : List Entry) → ((q : ℕ) → was_closed fs q ≡ was_closed es q) → closed_moves plan fs ≡ closed_moves plan es
closed_stays plan es fs same = total_same (regions plan) (λ q. when (was_closed fs q) (moved plan q)) (λ q. when (was_closed es q) (moved plan q)) (λ q is. ap (λ (t : Bool). when t (moved plan q)) (same q))

open_same : (plan : Plan) (st new : State) (o : Option ℕ) → st.region ≡ o → ((r : ℕ) → st.region ≡ Some r → delivered plan new r ≡ delivered plan st r) → open_moves plan new o ≡ open_moves plan st o
open_same plan st new None e same = refl
open_same plan st new (Some r) e same = same r e

-- an event outside the statements that makes no move
calm_step : (plan : Plan) (st new : State) → SoundMoved plan st → new.moved ≡ st.moved → new.progress ≡ st.progress → new.region ≡ st.region → ((r : ℕ) → st.region ≡ Some r → delivered plan new r ≡ delivered plan st r) → SoundMoved plan new
calm_step plan st new old m p region same =
    let a = open_same plan st new st.region refl same in
    let b = ap (λ (x : Progress). closed_moves plan (made plan x)) p in
    let c = ap (open_moves plan new) region in
    omega (arith, old, m, a, b, c)

-- one of the statements, that isn't Begin or Close
due_step : (plan : Plan) (st new : State) (e : Event) → SoundMoved plan st → new.moved ≡ st.moved → new.region ≡ st.region → new.progress ≡ on_outside plan st → (st.region ≡ None → IsNext plan st e) → ((q : ℕ) → close_of q e ≡ false)
    → ((r : ℕ) → st.region ≡ Some r → delivered plan new r ≡ delivered plan st r) → SoundMoved plan new
due_step plan st new e old m region p due none same =
    let a = open_same plan st new st.region refl same in
    let b = ap (λ (x : Progress). closed_moves plan (made plan x)) p in
    let d = closed_stays plan (made plan st.progress) (made plan (on_outside plan st)) (λ q. closed_same plan st e q due (none q)) in
    let c = ap (open_moves plan new) region in
    omega (arith, old, m, a, b, c, d)

of_task : (plan : Plan) (st : State) (r t : ℕ) → IsSound plan st → st.region ≡ Some r → is_active (st.tasks t) ≡ true → IsOf plan r t
of_task plan st r t sound open_is on =
    let o = sound.limits.active_open t on in
    let same : Some o.0 ≡ Some r = sym o.1 ∙ open_is in
    subst (λ (x : ℕ). IsOf plan x t) (let k : o.0 ≡ r = cc in k) o.2

copied_moved : (plan : Plan) (st : State) (task block from count : ℕ) → IsWellFormed plan → IsOrderly plan → IsSound plan st → MayCopy plan st task block from count → IsOpen st → SoundMoved plan st → SoundMoved plan (after_copy plan st task block from count)
copied_moved plan st task block from count well order sound may open_in old =
    let r = open_in.0 in
    let a = copied_delivered plan st task block from count r well order sound may open_in.1 in
    let b = ap (open_moves plan st) open_in.1 in
    let c = ap (open_moves plan (after_copy plan st task block from count)) open_in.1 in
    omega (arith, old, a, b, c)

same_same : (r s : ℕ) → Some r ≡ Some s → r ≡ s
same_same r s e = cc

pub keeps_moved : (plan : Plan) (st : State) (e : Event) → IsWellFormed plan → IsOrderly plan → IsSound plan st → May plan st e → SoundLives plan (after plan st e) → SoundVersions plan (after plan st e) → SoundMoved plan (after plan st e)
keeps_moved plan st (Ask space block) well order sound may lives versions = due_step plan st (after plan st (Ask space block)) (Ask space block) sound.moved refl refl refl may.due (λ q. refl) (λ r open_is. refl)
keeps_moved plan st Rest well order sound may lives versions = subst (SoundMoved plan) (sym (rested_at plan st may))
    (due_step plan st (record st { pin = None; progress = on_outside plan st; orders = order_front st.orders (pin_of plan st may).0 (pin_of plan st may).1 }) Rest sound.moved refl refl refl may.due (λ q. refl) (λ r open_is. refl))
keeps_moved plan st (Put block) well order sound may lives versions = due_step plan st (after plan st (Put block)) (Put block) sound.moved refl refl (sym (out_is plan st may.outside)) (λ out. may.due) (λ q. refl) (λ r open_is. absurd (let h : None ≡ Some r = sym may.outside ∙ open_is in cc))
keeps_moved plan st (Shift block space) well order sound may lives versions = due_step plan st (after plan st (Shift block space)) (Shift block space) sound.moved refl refl (sym (out_is plan st may.outside)) (λ out. may.due) (λ q. refl) (λ r open_is. absurd (let h : None ≡ Some r = sym may.outside ∙ open_is in cc))
keeps_moved plan st (Free space block) well order sound may lives versions = due_step plan st (after plan st (Free space block)) (Free space block) sound.moved refl refl refl may.due (λ q. refl)
    (λ r open_is. none_by_free plan well st r space block sound open_is (may.all_done r open_is) (may.elsewhere r open_is))
keeps_moved plan st (Begin r) well order sound may lives versions =
    let a = begun_delivered plan st r well order sound may lives versions in
    let b = ap (open_moves plan st) may.outside in
    let c = closed_stays plan (made plan st.progress) (made plan (one_more plan st.progress)) (λ q. closed_one plan st (Begin r) q may.due ∙ or_false (was_closed (made plan st.progress) q)) in
    (let old = sound.moved in omega (arith, old, a, b, c))
keeps_moved plan st (Close r) well order sound may lives versions =
    let next = sound.lives.open_next r may.open_is in
    let a = all_made plan well order st r sound may in
    let b = ap (open_moves plan st) may.open_is in
    let c = total_more_one (regions plan) (λ q. when (was_closed (made plan (one_more plan st.progress)) q) (moved plan q)) (λ q. when (was_closed (made plan st.progress) q) (moved plan q)) r (moved plan r) (region_is plan well st.progress r next)
    (λ q is ne. ap (λ (t : Bool). when t (moved plan q)) (closed_one plan st (Close r) q next ∙ ap (λ (t : Bool). was_closed (made plan st.progress) q || t) (ne_eqb r q (λ same. ne (sym same))) ∙ or_false (was_closed (made plan st.progress) q)))
    (let x : when (was_closed (made plan (one_more plan st.progress)) r) (moved plan r) ≡ moved plan r =
    ap (λ (t : Bool). when t (moved plan r)) (closed_one plan st (Close r) r next ∙ or_right (was_closed (made plan st.progress) r) (eqb r r) (eq-eqb r r refl)) in
    let y : when (was_closed (made plan st.progress) r) (moved plan r) ≡ 0 = ap (λ (t : Bool). when t (moved plan r)) (order.unclosed st.progress r next) in
    omega (arith, x, y)) in
    (let old = sound.moved in omega (arith, old, a, b, c))
keeps_moved plan st (Hold task) well order sound may lives versions = calm_step plan st (after plan st (Hold task)) sound.moved refl refl refl
    (λ r open_is. none_by_task plan well st r task Held (let o = (hold_open plan st task may) in let same : Some o.0 ≡ Some r = sym o.1 ∙ open_is in subst (λ (x : ℕ). IsOf plan x task) (same_same o.0 r same) o.2) (ap is_done may.waiting) refl)
keeps_moved plan st (Claim task worker) well order sound may lives versions = calm_step plan st (after plan st (Claim task worker)) sound.moved refl refl refl
    (λ r open_is. none_by_task plan well st r task (Running worker) (of_task plan st r task sound open_is (ap is_active may.held)) (ap is_done may.held) refl)
keeps_moved plan st (Finish task) well order sound may lives versions = calm_step plan st (after plan st (Finish task)) sound.moved refl refl refl
    (λ r open_is. finished_delivered plan st task (running_by (st.tasks task) may).0 r well order sound (running_by (st.tasks task) may).1 open_is)
keeps_moved plan st (Pick space block) well order sound may lives versions = calm_step plan st (after plan st (Pick space block)) sound.moved refl refl refl (λ r open_is. none_by_state plan well st r space block state_of.Leaving)
keeps_moved plan st (Gone space block) well order sound may lives versions = calm_step plan st (after plan st (Gone space block)) sound.moved refl refl refl (λ r open_is. none_by_state plan well st r space block state_of.Out)
keeps_moved plan st (Make task block) well order sound may lives versions = calm_step plan st (after plan st (Make task block)) sound.moved refl refl refl (λ r open_is. none_by_make plan well st r (place plan task) block sound may.absent)
keeps_moved plan st (Call space block) well order sound may lives versions = calm_step plan st (after plan st (Call space block)) sound.moved refl refl refl (λ r open_is. none_by_state plan well st r space block state_of.Coming)
keeps_moved plan st (Come space block) well order sound may lives versions = calm_step plan st (after plan st (Come space block)) sound.moved refl refl refl (λ r open_is. none_by_state plan well st r space block state_of.Here)
keeps_moved plan st (Lend task block from) well order sound may lives versions = calm_step plan st (after plan st (Lend task block from)) sound.moved refl refl refl (λ r open_is. none_by_state plan well st r from block (state_of.Lent task))
keeps_moved plan st (Copy task block from count) well order sound may lives versions = copied_moved plan st task block from count well order sound may.1 (fetch_open plan st task block sound may.1.asked) sound.moved
keeps_moved plan st (Back block from count) well order sound may lives versions = copied_moved plan st 0 block from count well order sound may (fetch_open plan st 0 block sound may.asked) sound.moved

pub start_moved : (plan : Plan) → SoundMoved plan (start plan)
unfolding was_closed
start_moved plan = let z = total_zero (regions plan) (λ q. 0) (λ k is. refl) in omega (arith, z)
