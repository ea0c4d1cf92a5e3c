-- A second name for an array, and the end of a name.
use Rattle.std.proofs.Common.{◌≡◌, ◌≢◌, ℕ, suc, Bool, true, false, nat_eq, List, Option, None, Some, refl, ap, sym, subst, ◌∙◌, ⊎_elim, arith}
use Rattle.std.proofs.lemmas.Bool.{cases_eq, eq-eqb, eqb-true, ne_eqb}
use Rattle.dd_blocks.specs.declared.what.What.TheVariants as what
use Rattle.dd_blocks.specs.Lives.{IsLive, names_ended, names_given}
use Rattle.dd_blocks.specs.Numbered.{IsNumberIn}
use Rattle.dd_script.specs.declared.statement.Statement.TheVariants.{Same, Drop}
use Rattle.dd_check.specs.Above.{Above, array_named}
use Rattle.dd_check.specs.Effects.{add_row, with_name}
use Rattle.dd_check.specs.Kinds.{array_of_name}
use Rattle.dd_check.specs.Sound.{AreSoundNames, HasNames, IsSound}
use Rattle.dd_check.proofs.ClearLemmas.{Clear, closed_for, named, unnamed}
use Rattle.dd_check.proofs.ElementsLemmas.{only_one}
use Rattle.dd_check.proofs.GivenLemmas.{names_added, names_apart, names_dropped, renamed, renamed_here, renamed_other, same_name}
use Rattle.dd_check.proofs.LivesLemmas.{live_push}
use Rattle.dd_check.proofs.PlainLemmas.{below, plain_sound}
use Rattle.dd_check.proofs.PushLemmas.{row_on}
use Rattle.dd_check.proofs.RowKindsLemmas.{array_there, no_move, ready_for}
use Rattle.dd_check.proofs.RowsLemmas.{All_one}

module _ (n : ℕ) (s : Above) (sound : IsSound n s) (settled : s.settled ≡ true) where
  same_names : (name old : List ℕ) → s.live name ≡ None → s.live old ≡ Some (array_of_name s old) → AreSoundNames (below (suc n) (what.Same (array_of_name s old)) (renamed name (s.live old) s.live) s)
  same_names name old free there = record {
    live = λ other array is. ⊎_elim
        (λ (same : other ≡ name).
        let was : s.live old ≡ Some array = sym (renamed_here name (s.live old) s.live other same) ∙ is in
        ((sound.names.live old array was).0, live_push s.plan.statements (row_on (suc n) (what.Same (array_of_name s old))) array (sound.names.live old array was).1 (λ e. absurd (cc))))
        (λ (differs : other ≢ name).
        let was : s.live other ≡ Some array = sym (renamed_other name (s.live old) s.live other differs) ∙ is in
        ((sound.names.live other array was).0, live_push s.plan.statements (row_on (suc n) (what.Same (array_of_name s old))) array (sound.names.live other array was).1 (λ e. absurd (cc))))
        (same_name other name);
    names = λ array number. ⊎_elim
        (λ (here : array ≡ array_of_name s old).
        let is : s.live old ≡ Some array = there ∙ ap (λ (a : ℕ). Some a) (sym here) in
        names_added s (below (suc n) (what.Same (array_of_name s old)) (renamed name (s.live old) s.live) s) (row_on (suc n) (what.Same (array_of_name s old))) name refl array
        (λ other. ap (λ (o : Option ℕ). renamed name o s.live other) is) free (eq-eqb (array_of_name s old) array (sym here)) refl (sound.names.names array number))
        (λ (other : array ≢ array_of_name s old).
        names_apart s (below (suc n) (what.Same (array_of_name s old)) (renamed name (s.live old) s.live) s) (row_on (suc n) (what.Same (array_of_name s old))) name refl array (s.live old)
        (λ another. refl) (λ is. absurd (cc)) (λ is. let e : Some (array_of_name s old) ≡ Some array = sym there ∙ is in let same : array ≡ array_of_name s old = cc in other same) (ne_eqb (array_of_name s old) array (λ same. other (sym same))) refl (sound.names.names array number))
        (cases_eq array (array_of_name s old));
  }

  pub same_enters : (name old : List ℕ) → Clear (suc n) s (Same name old) → IsSound (suc n) (with_name name (array_named s old) (add_row (suc n) (what.Same (array_of_name s old)) s))
  same_enters name old clear =
      let there : IsNumberIn s.plan.arrays (array_of_name s old) × IsLive s.plan.statements (array_of_name s old) = array_there n s old sound clear.unknown in
      plain_sound n s (what.Same (array_of_name s old)) (renamed name (s.live old) s.live) sound (ready_for n (suc n) s (Same name old) sound settled refl clear) (closed_for s.opened false refl clear.place)
      (record {
        names = there.0;
        short = tt;
        stands = record { live = All_one (IsLive s.plan.statements) (array_of_name s old) there.1; last = tt };
        puts = refl;
        runs = refl;
        fits = no_move (what.Same (array_of_name s old)) s.plan.blocks s.plan (λ moved. refl);
        touches = omega (arith, sound.limits.touches);
      })
      (same_names name old (unnamed (s.live name) clear.taken) (named (s.live old) clear.unknown))

  abbrev is_last : ℕ → Bool
  is_last array = nat_eq (suc (names_ended array s.plan.statements)) (names_given array s.plan.statements)

  -- with the last name of an array no other name stands for it
  no_other : (name other : List ℕ) (array : ℕ) → s.live name ≡ Some array → s.live other ≡ Some array → is_last array ≡ true → other ≡ name
  no_other name other array here there last =
      let has : HasNames s array = sound.names.names array (sound.names.live name array here).0 in
      let e : suc (names_ended array s.plan.statements) ≡ names_given array s.plan.statements = eqb-true (suc (names_ended array s.plan.statements)) (names_given array s.plan.statements) last in
      only_one has.names other name (omega (arith, e, has.count)) ((has.exact other).0 there) ((has.exact name).0 here)

  drop_names : (name : List ℕ) → s.live name ≡ Some (array_of_name s name) → AreSoundNames (below (suc n) (what.Drop (array_of_name s name) (is_last (array_of_name s name))) (renamed name None s.live) s)
  drop_names name there = record {
    live = λ other array is. ⊎_elim
        (λ (same : other ≡ name). let none : None ≡ Some array = sym (renamed_here name None s.live other same) ∙ is in absurd (cc))
        (λ (differs : other ≢ name).
        let was : s.live other ≡ Some array = sym (renamed_other name None s.live other differs) ∙ is in (
          (sound.names.live other array was).0,
          live_push s.plan.statements (row_on (suc n) (what.Drop (array_of_name s name) (is_last (array_of_name s name)))) array (sound.names.live other array was).1
              (λ e. let same : array_of_name s name ≡ array = cc in let last : is_last (array_of_name s name) ≡ true = cc in
              differs (no_other name other array (there ∙ ap (λ (a : ℕ). Some a) same) was (subst (λ (a : ℕ). is_last a ≡ true) same last))),
        ))
        (same_name other name);
    names = λ array number. ⊎_elim
        (λ (here : array ≡ array_of_name s name).
        names_dropped s (below (suc n) (what.Drop (array_of_name s name) (is_last (array_of_name s name))) (renamed name None s.live) s) (row_on (suc n) (what.Drop (array_of_name s name) (is_last (array_of_name s name)))) name refl array
        (λ other. refl) (there ∙ ap (λ (a : ℕ). Some a) (sym here)) refl (eq-eqb (array_of_name s name) array (sym here)) (sound.names.names array number))
        (λ (other : array ≢ array_of_name s name).
        names_apart s (below (suc n) (what.Drop (array_of_name s name) (is_last (array_of_name s name))) (renamed name None s.live) s) (row_on (suc n) (what.Drop (array_of_name s name) (is_last (array_of_name s name)))) name refl array None
        (λ another. refl) (λ is. let e : Some (array_of_name s name) ≡ Some array = sym there ∙ is in let same : array ≡ array_of_name s name = cc in other same) (λ is. absurd (cc)) refl (ne_eqb (array_of_name s name) array (λ same. other (sym same))) (sound.names.names array number))
        (cases_eq array (array_of_name s name));
  }

  pub drop_enters : (name : List ℕ) → Clear (suc n) s (Drop name) → IsSound (suc n) (with_name name None (add_row (suc n) (what.Drop (array_of_name s name) (nat_eq (suc (names_ended (array_of_name s name) s.plan.statements)) (names_given (array_of_name s name) s.plan.statements))) s))
  drop_enters name clear =
      let there : IsNumberIn s.plan.arrays (array_of_name s name) × IsLive s.plan.statements (array_of_name s name) = array_there n s name sound clear.unknown in
      plain_sound n s (what.Drop (array_of_name s name) (is_last (array_of_name s name))) (renamed name None s.live) sound (ready_for n (suc n) s (Drop name) sound settled refl clear) (closed_for s.opened false refl clear.place)
      (record {
        names = there.0;
        short = tt;
        stands = record {
          live = All_one (IsLive s.plan.statements) (array_of_name s name) there.1;
          last = ((λ last. eqb-true _ _ last), (λ same. eq-eqb _ _ same));
        };
        puts = refl;
        runs = refl;
        fits = no_move (what.Drop (array_of_name s name) (is_last (array_of_name s name))) s.plan.blocks s.plan (λ moved. refl);
        touches = omega (arith, sound.limits.touches);
      })
      (drop_names name (named (s.live name) clear.unknown))
