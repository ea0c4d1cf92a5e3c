-- Copies that were freed, which stood elsewhere than at home.
use Rattle.std.proofs.Common.{◌≡◌, ◌≢◌, ◌&&◌, ℕ, suc, ◌+◌, ◌<◌, ◌≤◌, Bool, true, false, cond, eqb, List, [], ◌∷◌, ◌++◌, map, Option, Some, None, refl, ap, sym, ◌∙◌, subst, inl, inr, ⊎_elim, arith, append-nil}
use Rattle.std.specs.Prelude.{is_some, not, option_map}
use Rattle.std.specs.List.{filter, flat_map, range_with_len}
use Rattle.std.proofs.lemmas.Bool.{and_from, and_left, and_parts, and_right, cases_eq, eq-eqb, ne_eqb, not-true}
use Rattle.std.proofs.lemmas.Grind.{flat_map-append}
use Rattle.std.proofs.lemmas.List.{map-append}
use Rattle.std.proofs.lemmas.List.Elements.{filter-append}
use Rattle.dd_views.proofs.ListsLemmas.{range_with_len_more}
use Rattle.dd_back.specs.Backs.{AllCurrent, freed_of_block, is_elsewhere}
use Rattle.dd_back.specs.Steps.{Frees, FreesAll, FreesOne, IsAtEnd, freed_at}
use Rattle.dd_blocks.specs.declared.plan.Plan.{Plan}
use Rattle.dd_core.specs.Cores.{core_state}
use Rattle.dd_core.specs.Lines.{with_line}
use Rattle.dd_core.specs.Stale.{is_stale}
use Rattle.dd_machine.specs.declared.copy_state.CopyState.{CopyState}
use Rattle.dd_machine.specs.declared.event.Event.{Event}
use Rattle.dd_machine.specs.declared.event.Event.TheVariants.{Free}
use Rattle.dd_machine.specs.declared.task_state.TaskState.{TaskState}
use Rattle.dd_machine.specs.Effects.{after, on_in}
use Rattle.dd_machine.specs.Needed.{is_current}
use Rattle.dd_machine.specs.Runs.{state_after}
use Rattle.dd_machine.specs.States as states
use Rattle.dd_machine.specs.States.{State, at_copy}
use Rattle.dd_machine.specs.Tests.{is_any, is_in_state, versions_of}
use Rattle.dd_machine.specs.Words.{IsOneOf, blocks, spaces}
use Rattle.dd_machine.proofs.ChangesLemmas.{at_copy_other, at_copy_same, at_copy_tells}
use Rattle.dd_machine.proofs.TestsLemmas.{current_same}
use Rattle.dd_spans.proofs.MembersLemmas.{all_from_contains, filter_same}
use Rattle.dd_store.specs.declared.store.Slot.{Ghosts as SlotGhosts}
use Rattle.dd_store.specs.declared.store.Store.{Ghosts}
use Rattle.dd_tables.specs.declared.tables.Tables.{Tables}
use Rattle.dd_table.specs.declared.table.Table.{Table}
use Rattle.dd_table.specs.Tables.{Enters, line_now, state_now}
use Rattle.dd_table.proofs.GivesLemmas.{grows_none, grows_then}
use Rattle.dd_back.proofs.EnteredLemmas.{line_same, plan_grown, state_grown}

frees_same : (st : State) → Frees st st
frees_same st = record {
  region = refl;
  tasks = refl;
  homes = refl;
  current = refl;
  pin = refl;
  progress = refl;
  copies = λ s b. inl refl;
}

pub frees_then : (st mid new : State) → Frees st mid → Frees mid new → Frees st new
frees_then st mid new p q = record {
  region = q.region ∙ p.region;
  tasks = q.tasks ∙ p.tasks;
  homes = q.homes ∙ p.homes;
  current = q.current ∙ p.current;
  pin = q.pin ∙ p.pin;
  progress = q.progress ∙ p.progress;
  copies = λ s b. ⊎_elim
      (λ (same : new.copies s b ≡ mid.copies s b). ⊎_elim
      (λ (was : mid.copies s b ≡ st.copies s b). let both : new.copies s b ≡ st.copies s b = same ∙ was in inl both)
      (λ (gone : (mid.copies s b ≡ None) × (st.homes b ≢ s)). inr (same ∙ gone.0, gone.1))
      (p.copies s b))
      (λ (gone : (new.copies s b ≡ None) × (mid.homes b ≢ s)). inr (gone.0, λ e. gone.1 (ap (λ (f : ℕ → ℕ). f b) p.homes ∙ e)))
      (q.copies s b);
}

-- a copy at home is as it was, so none becomes stale
home_kept : (st new : State) (b : ℕ) → Frees st new → new.copies (st.homes b) b ≡ st.copies (st.homes b) b
home_kept st new b p = ⊎_elim
    (λ (same : new.copies (st.homes b) b ≡ st.copies (st.homes b) b). same)
    (λ (gone : (new.copies (st.homes b) b ≡ None) × (st.homes b ≢ st.homes b)). absurd (gone.1 refl))
    (p.copies (st.homes b) b)

stale_kept : (plan : Plan) (st new : State) (b : ℕ) → Frees st new → is_stale plan new b ≡ is_stale plan st b
stale_kept plan st new b p =
    let home : new.homes b ≡ st.homes b = ap (λ (f : ℕ → ℕ). f b) p.homes in
    ap (λ (s : ℕ). is_in_state is_any (new.copies s b) && not (is_current plan new s b)) home
    ∙ ap (λ (c : Option states.Copy). is_in_state is_any c && not (is_current plan new (st.homes b) b)) (home_kept st new b p)
    ∙ ap (λ (now : Bool). is_in_state is_any (st.copies (st.homes b) b) && not now) (current_same plan st new (st.homes b) (st.homes b) b p.current (ap versions_of (home_kept st new b p)))

pub current_frees : (plan : Plan) (st new : State) → Frees st new → AllCurrent plan st → AllCurrent plan new
current_frees plan st new p all b is = stale_kept plan st new b p ∙ all b is

pub end_frees : (plan : Plan) (st new : State) → Frees st new → IsAtEnd plan st → IsAtEnd plan new
end_frees plan st new p e = record {
  region = e.region;
  open_is = p.region ∙ e.open_is;
  done = λ t of. ap (λ (f : ℕ → TaskState). f t) p.tasks ∙ e.done t of;
}

-- whether a copy stands elsewhere, where it and the homes are as they were
elsewhere_same : (st new : State) (s b : ℕ) → new.homes ≡ st.homes → new.copies s b ≡ st.copies s b → is_elsewhere new b s ≡ is_elsewhere st b s
elsewhere_same st new s b homes same =
    ap (λ (f : ℕ → ℕ). not (eqb (f b) s) && is_in_state is_any (new.copies s b)) homes ∙ ap (λ (c : Option states.Copy). not (eqb (st.homes b) s) && is_in_state is_any c) same

none_elsewhere : (st : State) (s b : ℕ) → st.copies s b ≡ None → is_elsewhere st b s ≡ false
none_elsewhere st s b none = and_right (not (eqb (st.homes b) s)) (is_in_state is_any (st.copies s b)) (ap (is_in_state is_any) none)

-- what the two tests of a copy say
pub elsewhere_true : (st : State) (space block home : ℕ) → home ≡ st.homes block → (space ≡ home → ⊥) → is_in_state is_any (st.copies space block) ≡ true → is_elsewhere st block space ≡ true
elsewhere_true st space block home is apart any =
    and_from (not (eqb (st.homes block) space)) (is_in_state is_any (st.copies space block)) (ap not (ne_eqb (st.homes block) space (λ same. apart (sym (is ∙ same))))) any

pub elsewhere_home : (st : State) (space block home : ℕ) → home ≡ st.homes block → space ≡ home → is_elsewhere st block space ≡ false
elsewhere_home st space block home is same =
    and_left (not (eqb (st.homes block) space)) (is_in_state is_any (st.copies space block)) (ap not (eq-eqb (st.homes block) space (sym (same ∙ is))))

pub elsewhere_none : (st : State) (space block : ℕ) → is_in_state is_any (st.copies space block) ≡ false → is_elsewhere st block space ≡ false
elsewhere_none st space block none = and_right (not (eqb (st.homes block) space)) (is_in_state is_any (st.copies space block)) none

some_state : (c : Option states.Copy) → is_some (option_map (λ (x : states.Copy). x.state) c) ≡ is_in_state is_any c
some_state None = refl
some_state (Some c) = refl

-- one copy was freed, where it stood elsewhere
record FreesAt (st new : State) (space block : ℕ) : Type 0 where
  pub frees : Frees st new
  pub others : (s b : ℕ) → (s ≡ space → b ≡ block → ⊥) → new.copies s b ≡ st.copies s b
  pub none : is_elsewhere new block space ≡ false

frees_at : (plan : Plan) (st : State) (line space block : ℕ) → IsAtEnd plan st → FreesAt st (state_after plan st (with_line line (freed_at st space block))) space block
unfolding state_after
frees_at plan st line space block e = by (is_elsewhere st block space) refl
  where
    by : (away : Bool) → is_elsewhere st block space ≡ away → FreesAt st (state_after plan st (with_line line (cond away (Free space block ∷ []) []))) space block
    by false away = record { frees = frees_same st; others = λ s b apart. refl; none = away }
    by true away =
        let new = after plan st (Free space block) in
        let gone : new.copies space block ≡ None = at_copy_same st.copies space block None in
        let apart : st.homes block ≢ space = λ same.
        (let off = not-true (eqb (st.homes block) space) (and_parts (not (eqb (st.homes block) space)) (is_in_state is_any (st.copies space block)) away).0 in
        let h : true ≡ false = sym (eq-eqb (st.homes block) space same) ∙ off in cc) in
        record {
          frees = record {
            region = refl;
            tasks = refl;
            homes = refl;
            current = refl;
            pin = refl;
            progress = ap (on_in plan st.progress) e.open_is;
            copies = λ s b. ⊎_elim
                (λ (here : (s ≡ space) × (b ≡ block) × (new.copies s b ≡ None)).
                inr (here.2, subst (λ (x : ℕ). st.homes b ≢ x) (sym here.0) (subst (λ (y : ℕ). st.homes y ≢ space) (sym here.1) apart)))
                (λ (there : (s ≡ space → b ≡ block → ⊥) × (new.copies s b ≡ st.copies s b)). inl there.1)
                (at_copy_tells st.copies space block None s b);
          };
          others = λ s b other. at_copy_other st.copies space block None s b other;
          none = none_elsewhere new space block gone;
        }

-- one more space, and one more block
spaces_more : (st : State) (block count : ℕ) → map (λ space. Free space block) (filter (is_elsewhere st block) (range_with_len 1 (count + 1)))
    ≡ map (λ space. Free space block) (filter (is_elsewhere st block) (range_with_len 1 count)) ++ freed_at st (count + 1) block
spaces_more st block count =
    let f : ℕ → Event = λ space. Free space block in
    let p : ℕ → Bool = is_elsewhere st block in
    let next : 1 + count ≡ count + 1 = omega arith in
    let step : count + 1 ≡ suc count = omega arith in
    ap (λ (n : ℕ). map f (filter p (range_with_len 1 n))) step
    ∙ ap (λ (xs : List ℕ). map f (filter p xs)) (range_with_len_more 1 count)
    ∙ ap (λ (n : ℕ). map f (filter p (range_with_len 1 count ++ n ∷ []))) next
    ∙ ap (map f) (filter-append p (range_with_len 1 count) ((count + 1) ∷ []))
    ∙ map-append f (filter p (range_with_len 1 count)) (filter p ((count + 1) ∷ []))
    ∙ ap (λ (xs : List Event). map f (filter p (range_with_len 1 count)) ++ xs) (one (p (count + 1)))
  where
    one : (b : Bool) → map (λ space. Free space block) (cond b ((count + 1) ∷ []) []) ≡ cond b (Free (count + 1) block ∷ []) []
    one true = refl
    one false = refl

blocks_more : (plan : Plan) (st : State) (count : ℕ) → flat_map (freed_of_block plan st) (range_with_len 1 (count + 1)) ≡ flat_map (freed_of_block plan st) (range_with_len 1 count) ++ freed_of_block plan st (count + 1)
blocks_more plan st count =
    let f : ℕ → List Event = freed_of_block plan st in
    let next : 1 + count ≡ count + 1 = omega arith in
    let step : count + 1 ≡ suc count = omega arith in
    ap (λ (n : ℕ). flat_map f (range_with_len 1 n)) step
    ∙ ap (flat_map f) (range_with_len_more 1 count)
    ∙ ap (λ (n : ℕ). flat_map f (range_with_len 1 count ++ n ∷ [])) next
    ∙ flat_map-append f (range_with_len 1 count) ((count + 1) ∷ [])
    ∙ ap (λ (xs : List Event). flat_map f (range_with_len 1 count) ++ xs) (append-nil (f (count + 1)))

freed_same : (plan : Plan) (st new : State) (block : ℕ) → new.homes ≡ st.homes → ((s : ℕ) → new.copies s block ≡ st.copies s block) → freed_of_block plan new block ≡ freed_of_block plan st block
freed_same plan st new block homes same =
    ap (map (λ (space : ℕ). Free space block)) (filter_same (is_elsewhere new block) (is_elsewhere st block) (range_with_len 1 (spaces plan))
    (all_from_contains (λ (s : ℕ). is_elsewhere new block s ≡ is_elsewhere st block s) (range_with_len 1 (spaces plan)) (λ s has. elsewhere_same st new s block homes (same s))))

not_above : (n count : ℕ) → count + 1 < n → n ≡ count + 1 → ⊥
not_above n count above is = absurd (omega (arith, above, is))

below : (n count : ℕ) → n ≤ count + 1 → (n ≡ count + 1 → ⊥) → n ≤ count
below n count le apart = omega (arith, le, apart)

module _ {D S : Type 0} {g : Ghosts D S} {h : SlotGhosts S} where
  -- what the next call finds
  pub end_now : (t m : Table D S g h) (events : List Event) → IsAtEnd t.holding.ledger.plan.now (state_now t) → Enters t m events → Frees (state_now t) (state_now m)
      → IsAtEnd m.holding.ledger.plan.now (state_now m)
  end_now t m events e p frees = subst (λ (q : Plan). IsAtEnd q (state_now m)) (sym (plan_grown t m (with_line (line_now t) events) p.grows)) (end_frees t.holding.ledger.plan.now (state_now t) (state_now m) frees e)

  pub current_now : (t m : Table D S g h) (events : List Event) → AllCurrent t.holding.ledger.plan.now (state_now t) → Enters t m events → Frees (state_now t) (state_now m)
      → AllCurrent m.holding.ledger.plan.now (state_now m)
  current_now t m events all p frees =
      subst (λ (q : Plan). AllCurrent q (state_now m)) (sym (plan_grown t m (with_line (line_now t) events) p.grows)) (current_frees t.holding.ledger.plan.now (state_now t) (state_now m) frees all)

  -- whether there is a copy, by the core of the table
  pub copy_any : (t : Table D S g h) (core : Tables) (space block : ℕ) (o : Option CopyState) → core ≡ t.holding.ledger.core → ((plan : Plan) → o ≡ option_map (λ (c : states.Copy). c.state) ((core_state plan core).copies space block))
      → is_some o ≡ is_in_state is_any ((state_now t).copies space block)
  copy_any t core space block o same state =
      let plan = t.holding.ledger.plan.now in
      ap (λ (x : Option CopyState). is_some x) (state plan) ∙ some_state ((core_state plan core).copies space block)
      ∙ ap (λ (k : Tables). is_in_state is_any ((core_state plan k).copies space block)) same

  pub home_now : (t : Table D S g h) (core : Tables) (block home : ℕ) → core ≡ t.holding.ledger.core → ((plan : Plan) → home ≡ (core_state plan core).homes block) → home ≡ (state_now t).homes block
  home_now t core block home same is = let plan = t.holding.ledger.plan.now in is plan ∙ ap (λ (k : Tables). (core_state plan k).homes block) same

  pub enters_then : (t m u : Table D S g h) (xs ys : List Event) → Enters t m xs → line_now m ≡ line_now t → Enters m u ys → Enters t u (xs ++ ys)
  enters_then t m u xs ys p same q = record { grows = grows_then t m u xs ys p.grows same q.grows; cause = q.cause ∙ p.cause }

  -- the copies of a block in the first so many spaces were freed, where they stood elsewhere
  pub record FreeingOne (t u : Table D S g h) (block count : ℕ) : Type 0 where
    pub enters : Enters t u (map (λ space. Free space block) (filter (is_elsewhere (state_now t) block) (range_with_len 1 count)))
    pub frees : Frees (state_now t) (state_now u)
    pub others : (s b : ℕ) → b ≢ block → (state_now u).copies s b ≡ (state_now t).copies s b
    pub later : (s : ℕ) → count < s → (state_now u).copies s block ≡ (state_now t).copies s block
    pub none : (s : ℕ) → 1 ≤ s → s ≤ count → is_elsewhere (state_now u) block s ≡ false

  pub enters_none : (t : Table D S g h) → Enters t t []
  enters_none t = record { grows = grows_none t; cause = refl }

  pub one_first : (t : Table D S g h) (block : ℕ) → FreeingOne t t block 0
  one_first t block = record {
    enters = enters_none t;
    frees = frees_same (state_now t);
    others = λ s b apart. refl;
    later = λ s above. refl;
    none = λ s some le. absurd (omega (arith, some, le));
  }

  pub one_next : (t m u : Table D S g h) (block count : ℕ) → IsAtEnd t.holding.ledger.plan.now (state_now t) → FreeingOne t m block count
      → Enters m u (freed_at (state_now m) (count + 1) block) → FreeingOne t u block (count + 1)
  one_next t m u block count e p q =
      let st = state_now t in
      let mid = state_now m in
      let plan = m.holding.ledger.plan.now in
      let at = frees_at plan mid (line_now m) (count + 1) block (end_now t m _ e p.enters p.frees) in
      let has : FreesAt mid (state_now u) (count + 1) block =
      subst (λ (x : State). FreesAt mid x (count + 1) block) (sym (state_grown m u (with_line (line_now m) (freed_at mid (count + 1) block)) q.grows)) at in
      let same : is_elsewhere mid block (count + 1) ≡ is_elsewhere st block (count + 1) = elsewhere_same st mid (count + 1) block p.frees.homes (p.later (count + 1) (omega arith)) in
      let events : freed_at mid (count + 1) block ≡ freed_at st (count + 1) block = ap (λ (away : Bool). cond away (Free (count + 1) block ∷ []) []) same in
      record {
        enters = subst (Enters t u) (sym (spaces_more st block count))
            (enters_then t m u _ (freed_at st (count + 1) block) p.enters (line_same t m _ p.enters.grows p.frees.progress) (subst (Enters m u) events q));
        frees = frees_then st mid (state_now u) p.frees has.frees;
        others = λ s b apart. has.others s b (λ _ e. apart e) ∙ p.others s b apart;
        later = λ s above. has.others s block (λ e _. not_above s count above e) ∙ p.later s (omega (arith, above));
        none = λ s some le. ⊎_elim
            (λ (here : s ≡ count + 1). subst (λ (n : ℕ). is_elsewhere (state_now u) block n ≡ false) (sym here) has.none)
            (λ (apart : s ≡ count + 1 → ⊥).
            elsewhere_same mid (state_now u) s block has.frees.homes (has.others s block (λ e _. apart e)) ∙ p.none s some (below s count le apart))
            (cases_eq s (count + 1));
      }

  pub one_end : (t m : Table D S g h) (block count : ℕ) → FreeingOne t m block count → count ≡ spaces t.holding.ledger.plan.now → FreesOne t m block
  one_end t m block count p all = record {
    enters = subst (λ (n : ℕ). Enters t m (map (λ space. Free space block) (filter (is_elsewhere (state_now t) block) (range_with_len 1 n)))) all p.enters;
    frees = p.frees;
    others = p.others;
    none = λ s is. let some = is.0 in let le = is.1 in p.none s some (omega (arith, le, all));
  }

  -- those of the first so many blocks were
  pub record Freeing (t u : Table D S g h) (count : ℕ) : Type 0 where
    pub enters : Enters t u (flat_map (freed_of_block t.holding.ledger.plan.now (state_now t)) (range_with_len 1 count))
    pub frees : Frees (state_now t) (state_now u)
    pub later : (s b : ℕ) → count < b → (state_now u).copies s b ≡ (state_now t).copies s b
    pub none : (s b : ℕ) → IsOneOf (spaces t.holding.ledger.plan.now) s → 1 ≤ b → b ≤ count → is_elsewhere (state_now u) b s ≡ false

  pub all_first : (t : Table D S g h) → Freeing t t 0
  all_first t = record {
    enters = enters_none t;
    frees = frees_same (state_now t);
    later = λ s b above. refl;
    none = λ s b is some le. absurd (omega (arith, some, le));
  }

  pub all_next : (t m u : Table D S g h) (count : ℕ) → Freeing t m count → FreesOne m u (count + 1) → Freeing t u (count + 1)
  all_next t m u count p q =
      let st = state_now t in
      let mid = state_now m in
      let plan = t.holding.ledger.plan.now in
      let same : m.holding.ledger.plan.now ≡ plan = plan_grown t m _ p.enters.grows in
      let events : freed_of_block m.holding.ledger.plan.now mid (count + 1) ≡ freed_of_block plan st (count + 1) =
      ap (λ (r : Plan). freed_of_block r mid (count + 1)) same ∙ freed_same plan st mid (count + 1) p.frees.homes (λ s. p.later s (count + 1) (omega arith)) in
      record {
        enters = subst (Enters t u) (sym (blocks_more plan st count))
            (enters_then t m u _ (freed_of_block plan st (count + 1)) p.enters (line_same t m _ p.enters.grows p.frees.progress) (subst (Enters m u) events q.enters));
        frees = frees_then st mid (state_now u) p.frees q.frees;
        later = λ s b above. q.others s b (not_above b count above) ∙ p.later s b (omega (arith, above));
        none = λ s b is some le. ⊎_elim
            (λ (here : b ≡ count + 1). subst (λ (n : ℕ). is_elsewhere (state_now u) n s ≡ false) (sym here) (q.none s (subst (λ (r : Plan). IsOneOf (spaces r) s) (sym same) is)))
            (λ (apart : b ≡ count + 1 → ⊥). elsewhere_same mid (state_now u) s b q.frees.homes (q.others s b apart) ∙ p.none s b is some (below b count le apart))
            (cases_eq b (count + 1));
      }

  pub all_end : (t m : Table D S g h) (count : ℕ) → Freeing t m count → count ≡ blocks t.holding.ledger.plan.now → FreesAll t m
  all_end t m count p all = record {
    enters = subst (λ (n : ℕ). Enters t m (flat_map (freed_of_block t.holding.ledger.plan.now (state_now t)) (range_with_len 1 n))) all p.enters;
    frees = p.frees;
    none = λ s b is b_is. let some = b_is.0 in let le = b_is.1 in p.none s b is some (omega (arith, le, all));
  }
