-- What is read as a statement was spelled so, and what is spelled is read again.
use Rattle.std.proofs.Common.{◌≡◌, ℕ, ℤ, true, List, [], ◌∷◌, ◌++◌, Option, Some, None, refl, sym, ap, ◌∙◌, codes, inl, inr}
use Rattle.std.specs.List.{flat_map}
use Rattle.std.specs.Option.{option_map}
use Rattle.std.specs.Str.{bytes_eq}
use Rattle.std.specs.Cmp.Lexicographic.{bytes_decides}
use Rattle.std.proofs.lemmas.Option.{same_Some}
use Rattle.std.proofs.lemmas.List.{append-nil}
use Rattle.dd_causes.proofs.StepsLemmas.{bind_some, guard_some, chosen}
use Rattle.dd_tokens.specs.Lexeme.{Lexeme, word, number, mark}
use Rattle.dd_blocks.specs.declared.policy.Policy.{Policy}
use Rattle.dd_blocks.specs.declared.policy.Policy.TheVariants.{Lru, Mru}
use Rattle.dd_blocks.specs.declared.rule.Rule.{Rule}
use Rattle.dd_blocks.specs.declared.rule.Rule.TheVariants.{Rr, Home}
use Rattle.dd_script.specs.declared.argument.Argument.{Argument}
use Rattle.dd_script.specs.declared.filling.Filling.{Filling}
use Rattle.dd_script.specs.declared.filling.Filling.TheVariants.{Zeros, Const, Iota, Lcg}
use Rattle.dd_script.specs.declared.written.Written.{Written}
use Rattle.dd_script.specs.declared.written.Written.TheVariants as form
use Rattle.dd_script.specs.declared.keyword.Keyword.{Keyword}
use Rattle.dd_script.specs.declared.keyword.Keyword.TheVariants as key
use Rattle.dd_script.specs.Front.{word_at, numeral_at}
use Rattle.dd_script.specs.Keywords.{keyword_word}
use Rattle.dd_script.specs.ArgumentSteps.{no_token, arguments_at}
use Rattle.dd_script.specs.FormSteps.{alone, name_at, two_names_at, space_at, proc_at, same_at, move_at, policy_named, policy_at, rule_named, place_at, filling_by, filling_at, array_at, scalar_at, task_at, form_by}
use Rattle.dd_script.specs.Spelling.{argument_spelling, filling_spelling, policy_word, rule_word, scalar_spelling, spelling}
use Rattle.dd_script.proofs.FrontLemmas.{by_word, by_numeral}
use Rattle.dd_script.proofs.ViewStepsLemmas.{taken}
use Rattle.dd_script.proofs.ArgumentStepsLemmas.{arguments_takes, arguments_again, no_scalar}

alone_takes : (x : Written) (ls : List Lexeme) (y : Written) → alone x ls ≡ Some y → (ls ≡ []) × (x ≡ y)
unfolding alone
alone_takes x [] y e = (refl, same_Some _ _ e)
alone_takes x (l ∷ ls) y e = absurd cc

none_left : (ls : List Lexeme) → no_token ls ≡ true → ls ≡ []
none_left [] e = refl
none_left (l ∷ ls) e = absurd cc

name_takes : (ls : List Lexeme) (n : List ℕ) → name_at ls ≡ Some n → ls ≡ word n ∷ []
unfolding name_at
name_takes ls n e =
    let w = by_word ls _ n e in
    let g = guard_some (no_token w.0.1) (Some w.0.0) n w.2 in
    w.1 ∙ ap (λ l. word w.0.0 ∷ l) (none_left w.0.1 g.0) ∙ ap (λ m. word m ∷ []) (same_Some _ _ g.1)

two_names_takes : (ls : List Lexeme) (n : List ℕ × List ℕ) → two_names_at ls ≡ Some n → ls ≡ word n.0 ∷ word n.1 ∷ []
unfolding two_names_at
two_names_takes ls n e =
    let first = by_word ls _ n e in
    let second = bind_some (name_at first.0.1) _ n first.2 in
    first.1 ∙ ap (λ l. word first.0.0 ∷ l) (name_takes first.0.1 second.0 second.1) ∙ ap (λ (m : List ℕ × List ℕ). word m.0 ∷ word m.1 ∷ []) (same_Some _ _ second.2)

-- ---- each statement behind its first word

-- the first word and the tokens behind it spell the statement
Spells : Keyword → List Lexeme → Written → Type 0
Spells k ls y = word (keyword_word k) ∷ ls ≡ spelling y

spells_as : (k : Keyword) (ls : List Lexeme) (x y : Written) → x ≡ y → word (keyword_word k) ∷ ls ≡ spelling x → Spells k ls y
unfolding Spells
spells_as k ls x y e h = h ∙ ap spelling e

space_takes : (ls : List Lexeme) (y : Written) → space_at ls ≡ Some y → Spells key.Space ls y
unfolding space_at
space_takes ls y e =
    let name = by_word ls _ y e in
    let limit = by_numeral name.0.1 _ y name.2 in
    let end = alone_takes _ _ y limit.2 in
    spells_as key.Space ls _ y end.1 (ap (λ l. word (codes "space") ∷ l) (name.1 ∙ ap (λ l. word name.0.0 ∷ l) (limit.1 ∙ ap (λ l. number limit.0.0 ∷ l) end.0)))

proc_takes : (ls : List Lexeme) (y : Written) → proc_at ls ≡ Some y → Spells key.Proc ls y
unfolding proc_at
proc_takes ls y e =
    let n = bind_some (two_names_at ls) _ y e in
    spells_as key.Proc ls _ y (same_Some _ _ n.2) (ap (λ l. word (codes "proc") ∷ l) (two_names_takes ls n.0 n.1))

same_takes : (ls : List Lexeme) (y : Written) → same_at ls ≡ Some y → Spells key.Same ls y
unfolding same_at
same_takes ls y e =
    let n = bind_some (two_names_at ls) _ y e in
    spells_as key.Same ls _ y (same_Some _ _ n.2) (ap (λ l. word (codes "same") ∷ l) (two_names_takes ls n.0 n.1))

move_takes : (ls : List Lexeme) (y : Written) → move_at ls ≡ Some y → Spells key.Move ls y
unfolding move_at
move_takes ls y e =
    let n = bind_some (two_names_at ls) _ y e in
    spells_as key.Move ls _ y (same_Some _ _ n.2) (ap (λ l. word (codes "move") ∷ l) (two_names_takes ls n.0 n.1))

policy_takes : (w : List ℕ) (p : Policy) → policy_named w ≡ Some p → w ≡ policy_word p
unfolding policy_named
policy_takes w p e =
    elim (chosen (bytes_eq w (codes "lru")) _ _ _ e) [
      | inl t ↦ (bytes_decides w (codes "lru")).0 t.0 ∙ ap policy_word (same_Some _ _ t.1)
      | inr n ↦ let g = guard_some (bytes_eq w (codes "mru")) _ p n.1 in (bytes_decides w (codes "mru")).0 g.0 ∙ ap policy_word (same_Some _ _ g.1)
    ]

policy_line_takes : (ls : List Lexeme) (y : Written) → policy_at ls ≡ Some y → Spells key.Policy ls y
unfolding policy_at
policy_line_takes ls y e =
    let w = by_word ls _ y e in
    let p = bind_some (policy_named w.0.0) _ y w.2 in
    let end = alone_takes _ _ y p.2 in
    spells_as key.Policy ls _ y end.1 (ap (λ l. word (codes "policy") ∷ l) (w.1 ∙ ap (λ l. word w.0.0 ∷ l) end.0 ∙ ap (λ n. word n ∷ []) (policy_takes w.0.0 p.0 p.1)))

rule_takes : (w : List ℕ) (r : Rule) → rule_named w ≡ Some r → w ≡ rule_word r
unfolding rule_named
rule_takes w r e =
    elim (chosen (bytes_eq w (codes "rr")) _ _ _ e) [
      | inl t ↦ (bytes_decides w (codes "rr")).0 t.0 ∙ ap rule_word (same_Some _ _ t.1)
      | inr n ↦ let g = guard_some (bytes_eq w (codes "home")) _ r n.1 in (bytes_decides w (codes "home")).0 g.0 ∙ ap rule_word (same_Some _ _ g.1)
    ]

place_takes : (ls : List Lexeme) (y : Written) → place_at ls ≡ Some y → Spells key.Place ls y
unfolding place_at
place_takes ls y e =
    let w = by_word ls _ y e in
    let r = bind_some (rule_named w.0.0) _ y w.2 in
    let end = alone_takes _ _ y r.2 in
    spells_as key.Place ls _ y end.1 (ap (λ l. word (codes "place") ∷ l) (w.1 ∙ ap (λ l. word w.0.0 ∷ l) end.0 ∙ ap (λ n. word n ∷ []) (rule_takes w.0.0 r.0 r.1)))

-- a word that passed the test is that word
as_word : (w wanted : List ℕ) (ls : List Lexeme) → bytes_eq w wanted ≡ true → word w ∷ ls ≡ word wanted ∷ ls
as_word w wanted ls t = ap (λ n. word n ∷ ls) ((bytes_decides w wanted).0 t)

filling_by_takes : (w : List ℕ) (ls : List Lexeme) (y : Filling × List Lexeme) → filling_by w ls ≡ Some y → word w ∷ ls ≡ filling_spelling y.0 ++ y.1
unfolding filling_by
filling_by_takes w ls y e =
    elim (chosen (bytes_eq w (codes "zeros")) _ _ _ e) [
      | inl t ↦ taken filling_spelling (word w ∷ ls) Zeros ls y t.1 (as_word w (codes "zeros") ls t.0)
      | inr n ↦ elim (chosen (bytes_eq w (codes "const")) _ _ _ n.1) [
        | inl t ↦
            let k = by_numeral ls _ y t.1 in
            taken filling_spelling (word w ∷ ls) (Const k.0.0) k.0.1 y k.2 (as_word w (codes "const") ls t.0 ∙ ap (λ l. word (codes "const") ∷ l) k.1)
        | inr m ↦ elim (chosen (bytes_eq w (codes "iota")) _ _ _ m.1) [
          | inl t ↦ taken filling_spelling (word w ∷ ls) Iota ls y t.1 (as_word w (codes "iota") ls t.0)
          | inr o ↦
              let g = guard_some (bytes_eq w (codes "lcg")) _ y o.1 in
              let k = by_numeral ls _ y g.1 in
              taken filling_spelling (word w ∷ ls) (Lcg k.0.0) k.0.1 y k.2 (as_word w (codes "lcg") ls g.0 ∙ ap (λ l. word (codes "lcg") ∷ l) k.1)
        ]
      ]
    ]

filling_takes : (ls : List Lexeme) (y : Filling × List Lexeme) → filling_at ls ≡ Some y → ls ≡ filling_spelling y.0 ++ y.1
unfolding filling_at
filling_takes ls y e = let w = by_word ls _ y e in w.1 ∙ filling_by_takes w.0.0 w.0.1 y w.2

array_takes : (ls : List Lexeme) (y : Written) → array_at ls ≡ Some y → Spells key.Array ls y
unfolding array_at
array_takes ls y e =
    let name = by_word ls _ y e in
    let rows = by_numeral name.0.1 _ y name.2 in
    let cols = by_numeral rows.0.1 _ y rows.2 in
    let brows = by_numeral cols.0.1 _ y cols.2 in
    let bcols = by_numeral brows.0.1 _ y brows.2 in
    let f = bind_some (filling_at bcols.0.1) _ y bcols.2 in
    let end = alone_takes _ _ y f.2 in
    let tail : bcols.0.1 ≡ filling_spelling f.0.0 = filling_takes bcols.0.1 f.0 f.1 ∙ ap (λ l. filling_spelling f.0.0 ++ l) end.0 ∙ append-nil (filling_spelling f.0.0) in
    spells_as key.Array ls _ y end.1
    (ap (λ l. word (codes "array") ∷ l) (name.1 ∙ ap (λ l. word name.0.0 ∷ l) (rows.1 ∙ ap (λ l. number rows.0.0 ∷ l) (cols.1
    ∙ ap (λ l. number cols.0.0 ∷ l) (brows.1 ∙ ap (λ l. number brows.0.0 ∷ l) (bcols.1 ∙ ap (λ l. number bcols.0.0 ∷ l) tail))))))

scalar_takes : (ls : List Lexeme) → ls ≡ scalar_spelling (scalar_at ls).0 ++ (scalar_at ls).1
unfolding scalar_at numeral_at
scalar_takes [] = refl
scalar_takes (word w ∷ ls) = refl
scalar_takes (number z ∷ ls) = refl
scalar_takes (mark b ∷ ls) = refl

task_takes : (ls : List Lexeme) (y : Written) → task_at ls ≡ Some y → Spells key.Task ls y
unfolding task_at
task_takes ls y e =
    let kernel = by_word ls _ y e in
    let scalar = scalar_at kernel.0.1 in
    let args = bind_some (arguments_at scalar.1) _ y kernel.2 in
    spells_as key.Task ls _ y (same_Some _ _ args.2)
    (ap (λ l. word (codes "task") ∷ l) (kernel.1 ∙ ap (λ l. word kernel.0.0 ∷ l) (scalar_takes kernel.0.1 ∙ ap (λ l. scalar_spelling scalar.0 ++ l) (arguments_takes scalar.1 args.0 args.1))))

lone_takes : (k : Keyword) (x : Written) (ls : List Lexeme) (y : Written) → spelling x ≡ word (keyword_word k) ∷ [] → alone x ls ≡ Some y → Spells k ls y
lone_takes k x ls y s e = let end = alone_takes x ls y e in spells_as k ls x y end.1 (ap (λ l. word (keyword_word k) ∷ l) end.0 ∙ sym s)

named_takes : (k : Keyword) (f : List ℕ → Written) (ls : List Lexeme) (y : Written) → ((n : List ℕ) → spelling (f n) ≡ word (keyword_word k) ∷ word n ∷ []) → option_map f (name_at ls) ≡ Some y → Spells k ls y
named_takes k f ls y s e =
    let n = mapped f (name_at ls) y e in
    spells_as k ls (f n.0) y n.2 (ap (λ l. word (keyword_word k) ∷ l) (name_takes ls n.0 n.1) ∙ sym (s n.0))
  where
    mapped : (f : List ℕ → Written) (found : Option (List ℕ)) (y : Written) → option_map f found ≡ Some y → (n : List ℕ) × (found ≡ Some n) × (f n ≡ y)
    mapped f None y e = absurd cc
    mapped f (Some n) y e = (n, refl, same_Some _ _ e)

pub form_takes : (k : Keyword) (ls : List Lexeme) (y : Written) → form_by k ls ≡ Some y → word (keyword_word k) ∷ ls ≡ spelling y
unfolding form_by Spells
form_takes key.Space ls y e = space_takes ls y e
form_takes key.Proc ls y e = proc_takes ls y e
form_takes key.Policy ls y e = policy_line_takes ls y e
form_takes key.Place ls y e = place_takes ls y e
form_takes key.Array ls y e = array_takes ls y e
form_takes key.Same ls y e = same_takes ls y e
form_takes key.Drop ls y e = named_takes key.Drop form.Drop ls y (λ n. refl) e
form_takes key.Move ls y e = move_takes ls y e
form_takes key.Region ls y e = lone_takes key.Region form.Region ls y refl e
form_takes key.Task ls y e = task_takes ls y e
form_takes key.End ls y e = lone_takes key.End form.End ls y refl e
form_takes key.Print ls y e = named_takes key.Print form.Print ls y (λ n. refl) e
form_takes key.Sum ls y e = named_takes key.Sum form.Sum ls y (λ n. refl) e
form_takes key.Moved ls y e = lone_takes key.Moved form.Moved ls y refl e

-- ---- what is spelled is read again

-- the first word of a statement, and the tokens behind it
pub record IsSpelledBy (x : Written) : Type 0 where
  pub keyword : Keyword
  pub rest : List Lexeme
  pub spelled : spelling x ≡ word (keyword_word keyword) ∷ rest
  pub again : form_by keyword rest ≡ Some x

task_again_alone : (kernel : List ℕ) (args : List Argument) → task_at (word kernel ∷ flat_map argument_spelling args) ≡ Some (form.Task kernel None args)
unfolding task_at word_at scalar_at
task_again_alone kernel args = rw (no_scalar args, arguments_again args) refl

task_again_scalar : (kernel : List ℕ) (k : ℤ) (args : List Argument) → task_at (word kernel ∷ number k ∷ flat_map argument_spelling args) ≡ Some (form.Task kernel (Some k) args)
unfolding task_at word_at scalar_at numeral_at
task_again_scalar kernel k args = rw (arguments_again args) refl

pub read_again : (x : Written) → IsSpelledBy x
unfolding form_by space_at proc_at same_at move_at policy_at place_at policy_named rule_named array_at filling_at filling_by two_names_at name_at alone word_at numeral_at
read_again (form.Space name limit) = record { keyword = key.Space; rest = _; spelled = refl; again = refl }
read_again (form.Proc name on) = record { keyword = key.Proc; rest = _; spelled = refl; again = refl }
read_again (form.PolicyIs Lru) = record { keyword = key.Policy; rest = _; spelled = refl; again = refl }
read_again (form.PolicyIs Mru) = record { keyword = key.Policy; rest = _; spelled = refl; again = refl }
read_again (form.PlaceIs Rr) = record { keyword = key.Place; rest = _; spelled = refl; again = refl }
read_again (form.PlaceIs Home) = record { keyword = key.Place; rest = _; spelled = refl; again = refl }
read_again (form.Array name rows cols brows bcols Zeros) = record { keyword = key.Array; rest = _; spelled = refl; again = refl }
read_again (form.Array name rows cols brows bcols (Const k)) = record { keyword = key.Array; rest = _; spelled = refl; again = refl }
read_again (form.Array name rows cols brows bcols Iota) = record { keyword = key.Array; rest = _; spelled = refl; again = refl }
read_again (form.Array name rows cols brows bcols (Lcg k)) = record { keyword = key.Array; rest = _; spelled = refl; again = refl }
read_again (form.Same name old) = record { keyword = key.Same; rest = _; spelled = refl; again = refl }
read_again (form.Drop name) = record { keyword = key.Drop; rest = _; spelled = refl; again = refl }
read_again (form.MoveTo name to) = record { keyword = key.Move; rest = _; spelled = refl; again = refl }
read_again form.Region = record { keyword = key.Region; rest = _; spelled = refl; again = refl }
read_again (form.Task kernel None args) = record { keyword = key.Task; rest = _; spelled = refl; again = task_again_alone kernel args }
read_again (form.Task kernel (Some k) args) = record { keyword = key.Task; rest = _; spelled = refl; again = task_again_scalar kernel k args }
read_again form.End = record { keyword = key.End; rest = _; spelled = refl; again = refl }
read_again (form.Print name) = record { keyword = key.Print; rest = _; spelled = refl; again = refl }
read_again (form.Sum name) = record { keyword = key.Sum; rest = _; spelled = refl; again = refl }
read_again form.Moved = record { keyword = key.Moved; rest = _; spelled = refl; again = refl }
