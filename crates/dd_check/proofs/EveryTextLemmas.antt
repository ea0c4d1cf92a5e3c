-- No text has neither a Plan nor a fault. Nothing is said of how the one or the other is found.
use Rattle.std.proofs.Common.{◌≡◌, ℕ, suc, ◌+◌, ◌<◌, ◌≤◌, inl, inr, ⊎_elim, true, false, List, [], ◌∷◌, length, Option, None, Some, ℤ, refl, sym, subst, arith}
use Rattle.std.proofs.lemmas.Bool.{cases_Bool, cases_lt}
use Rattle.dd_tokens.specs.declared.token.Token.{Token}
use Rattle.dd_tokens.specs.Bytes.{IsText}
use Rattle.dd_tokens.specs.Tokens.{AreTokensOf}
use Rattle.dd_blocks.specs.declared.plan.Plan.{Plan}
use Rattle.dd_blocks.specs.Limits.{text_limit}
use Rattle.dd_script.specs.declared.statement.Statement.{Statement}
use Rattle.dd_script.specs.declared.statement.Statement.TheVariants.{Space, Proc, PolicyIs, PlaceIs, Array, Same, Drop, MoveTo, Region, Task, End, Print, Sum, Moved}
use Rattle.dd_script.specs.declared.piece.Piece.{Piece}
use Rattle.dd_blocks.specs.declared.task_row.TaskRow.{TaskRow}
use Rattle.dd_check.specs.Rows.{AreJoined, with_found}
use Rattle.dd_check.specs.Above.{open_tasks}
use Rattle.dd_script.specs.Numbers.{numbers_fit}
use Rattle.dd_script.specs.Reads.{Reads, meaning}
use Rattle.dd_check.specs.Lines.{lines_of}
use Rattle.dd_check.specs.declared.fault.Fault.{Fault}
use Rattle.dd_check.specs.declared.kind.Kind.{Kind}
use Rattle.dd_check.specs.declared.kind.Kind.TheVariants.{NotText, BadForm, UnknownStatement, BadNumber, UnknownPart, UnendedRegion}
use Rattle.dd_check.specs.Above.{Above, OpenRegion, found_by, nothing_above, settle}
use Rattle.dd_check.specs.Effects.{Enters, add_task}
use Rattle.dd_check.specs.Faults.{AreClear, AreTaken, IsClear, IsFault, IsFirstOf, IsPlanOf, IsRefused, IsRefusedIn, IsTaken, IsUnread, kinds, too_long}
use Rattle.dd_check.specs.Sound.{IsSound}
use Rattle.std.proofs.Common.{zero, ◌++◌, add-one}
use Rattle.dd_alias.specs.Dependencies.{AreDependenciesOfAll}
use Rattle.dd_alias.proofs.DependenciesLemmas.{AreDependenciesSoFar, so_far_all, so_far_more, so_far_none}
use Rattle.dd_alias.proofs.FoundLemmas.{AreFound, Conflicts, found_all, found_more, found_none, found_same}
use Rattle.dd_check.proofs.KeptLemmas.{taken_sound}
use Rattle.dd_check.proofs.ReadLemmas.{few_lines}
use Rattle.dd_check.proofs.MachineLemmas.{settle_sound}
use Rattle.dd_check.proofs.SomeRowsLemmas.{some_task}
use Rattle.dd_check.proofs.SoundLemmas.{sound_nothing}
use Rattle.dd_check.proofs.WithinLemmas.{lines_limit}

-- where no fault comes of some kinds, none of them holds
unfound_clear : (n : ℕ) (s : Above) (x : Statement) (asked : List Kind) → ((f : Fault) → f.line ≡ n → IsFirstOf n s x asked f → ⊥) → AreClear n s x asked
unfound_clear n s x [] unfound = tt
unfound_clear n s x (k ∷ more) unfound =
    let here : IsClear n s x k = λ a b h. unfound (record { line = n; kind = k; a = a; b = b }) refl (inl (refl, h)) in
    (here, unfound_clear n s x more (λ f line first. unfound f line (inr (here, first))))

-- the tasks of a region have dependencies
some_found : (tasks : List TaskRow) (t seen : ℕ) → ((found : List ℕ) → AreFound tasks t seen found → ⊥) → ⊥
some_found tasks t zero fails = fails [] (found_none tasks t)
some_found tasks t (suc seen) fails = some_found tasks t seen (λ found so_far.
    let other : Conflicts tasks (seen + 1) t → ⊥ = λ conflict. fails (found ++ (seen + 1) ∷ []) (subst (λ (m : ℕ). AreFound tasks t m (found ++ (seen + 1) ∷ [])) (add-one seen) (found_more tasks t seen found so_far conflict)) in
    fails found (subst (λ (m : ℕ). AreFound tasks t m found) (add-one seen) (found_same tasks t seen found so_far other)))

some_lists : (tasks : List TaskRow) (done : ℕ) → ((lists : List (List ℕ)) → AreDependenciesSoFar tasks done lists → ⊥) → ⊥
some_lists tasks zero fails = fails [] (so_far_none tasks)
some_lists tasks (suc done) fails = some_lists tasks done (λ lists so_far.
    some_found tasks (done + 1) done (λ found all.
    fails (lists ++ found ∷ []) (subst (λ (m : ℕ). AreDependenciesSoFar tasks m (lists ++ found ∷ [])) (add-one done) (so_far_more tasks done lists found so_far (found_all tasks done found all)))))

some_joined : (before : ℕ) (tasks : List TaskRow) → ((joined : List TaskRow) → ¬ AreJoined before tasks joined) → ⊥
some_joined before tasks fails = some_lists tasks (length tasks) (λ lists so_far.
    let all : AreDependenciesOfAll tasks lists = so_far_all tasks (length tasks) lists refl so_far in
    fails (with_found before tasks lists) (record { found = lists; each = all.count; exact = all.each; is = refl }))

-- a statement of which no kind holds leaves something
abbrev Leaves : ℕ → Above → Statement → Type 0
Leaves n s x = ((after : Above) → ¬ Enters (suc n) s x after) → ⊥

task_leaves : (n : ℕ) (s : Above) (word : List ℕ) (scalar : Option ℤ) (pieces : List Piece) → IsSound n s → AreClear (suc n) (settle s) (Task word scalar pieces) kinds → Leaves n (settle s) (Task word scalar pieces)
task_leaves n s word scalar pieces sound clear none =
    some_task n (settle s) word scalar pieces (settle_sound n s sound) refl clear (λ task is. none (add_task task (settle s)) (task, is, refl))

end_leaves : (n : ℕ) (s : Above) → Leaves n s End
end_leaves n s none = some_joined (length s.plan.tasks) (open_tasks s) (λ joined are. none _ (joined, are, refl))

leaves : (n : ℕ) (s : Above) (x : Statement) → IsSound n s → AreClear (suc n) (found_by s x) x kinds → Leaves n (found_by s x) x
leaves n s (Task word scalar pieces) sound clear none = task_leaves n s word scalar pieces sound clear none
leaves n s End sound clear none = end_leaves n (settle s) none
leaves n s (Space name limit) sound clear none = none _ refl
leaves n s (Proc name space) sound clear none = none _ refl
leaves n s (PolicyIs policy) sound clear none = none _ refl
leaves n s (PlaceIs rule) sound clear none = none _ refl
leaves n s (Array name rows cols brows bcols fill) sound clear none = none _ refl
leaves n s (Same name old) sound clear none = none _ refl
leaves n s (Drop name) sound clear none = none _ refl
leaves n s (MoveTo name space) sound clear none = none _ refl
leaves n s Region sound clear none = none _ refl
leaves n s (Print name) sound clear none = none _ refl
leaves n s (Sum name) sound clear none = none _ refl
leaves n s Moved sound clear none = none _ refl

-- a line is not both neither refused nor taken
unread_as : (n : ℕ) (s : Above) (line : List ℕ) → ((f : Fault) → IsRefused n s line f → ⊥) → (k : Kind) → IsUnread k line → ⊥
unread_as n s line refused k h = refused (record { line = n; kind = k; a = 0; b = 0 }) (refl, inl (h, refl, refl))

option_cases : {A : Type 0} (o : Option A) → (o ≡ None → ⊥) → ((x : A) → o ≡ Some x → ⊥) → ⊥
option_cases None none some = none refl
option_cases (Some x) none some = some x refl

every_line : (n : ℕ) (s : Above) (line : List ℕ) → n ≤ lines_limit → IsSound n s → ((f : Fault) → IsRefused (suc n) s line f → ⊥) → ((next : Above) → IsTaken (suc n) s line next → ⊥) → ⊥
every_line n s line few sound refused taken =
    let unread : (k : Kind) → IsUnread k line → ⊥ = unread_as (suc n) s line refused in
    unread NotText (λ (text : IsText line).
    unread BadForm (inl (
      text,
      λ (ts : List Token) (cut : AreTokensOf line ts).
          unread BadForm (inr (
            ts,
            cut,
            record {
              some = λ e. taken s (inl (record { tokens = ts; cut = cut; say = e }, refl));
              known = λ begins. unread UnknownStatement (ts, cut, begins);
              unspelled = λ form spelled. ⊎_elim
                  (λ (fits : numbers_fit form ≡ true). option_cases (meaning form)
                  (λ unknown. unread UnknownPart (ts, cut, record { form = form; spelled = spelled; fits = fits; unknown = unknown }))
                  (λ x means.
                  let reads : Reads line (Some x) = record { tokens = ts; cut = cut; say = record { form = form; spelled = spelled; fits = fits; means = means } } in
                  let none : AreClear (suc n) (found_by s x) x kinds = unfound_clear (suc n) (found_by s x) x kinds (λ f line_is first. refused f (line_is, inr (x, reads, first))) in
                  leaves n s x sound none (λ after enters. taken after (inr (x, reads, none, enters)))))
                  (λ (out : numbers_fit form ≡ false). unread BadNumber (ts, cut, record { form = form; spelled = spelled; out = out }))
                  (cases_Bool (numbers_fit form));
            },
          )),
    )))

every_lines : (lines : List (List ℕ)) (n : ℕ) (s : Above) → n + length lines ≤ lines_limit → IsSound n s
    → ((f : Fault) → IsRefusedIn (suc n) s lines f → ⊥) → ((after : Above) → AreTaken (suc n) s lines after → ⊥) → ⊥
every_lines [] n s few sound refused taken = taken s refl
every_lines (line ∷ lines) n s few sound refused taken =
    let more : suc n + 1 ≡ suc (suc n) = omega arith in
    every_line n s line (omega (arith, few)) sound (λ f here. refused f (inl here)) (λ next takes.
    every_lines lines (suc n) next (omega (arith, few)) (taken_sound n s line next (omega (arith, few)) sound takes)
    (λ f below. refused f (inr (next, takes, subst (λ (m : ℕ). IsRefusedIn m next lines f) (sym more) below)))
    (λ after below. taken after (next, takes, subst (λ (m : ℕ). AreTaken m next lines after) (sym more) below)))

ended : (text : List ℕ) → length text ≤ text_limit → ((f : Fault) → IsFault text f → ⊥) → ((plan : Plan) → IsPlanOf text plan → ⊥)
    → (after : Above) → AreTaken 1 nothing_above (lines_of text) after → (opened : Option OpenRegion) → after.opened ≡ opened → ⊥
ended text short faultless planless after taken None closed = planless (settle after).plan (record { short = short; after = after; taken = taken; closed = closed; is = refl })
ended text short faultless planless after taken (Some region) is_open =
    let f : Fault = record { line = region.line; kind = UnendedRegion; a = 0; b = 0 } in
    faultless f (inr (short, inr (record { after = after; taken = taken; region = region; opened = is_open; is = refl })))

-- no text has neither a fault nor a Plan
pub every_text : (text : List ℕ) → ((f : Fault) → IsFault text f → ⊥) → ((plan : Plan) → IsPlanOf text plan → ⊥) → ⊥
every_text text faultless planless = ⊎_elim
    (λ (long : text_limit < length text). faultless too_long (inl (long, refl)))
    (λ (short : length text ≤ text_limit).
    every_lines (lines_of text) 0 nothing_above (omega (arith, short, few_lines text)) sound_nothing
    (λ f refused. faultless f (inr (short, inl refused)))
    (λ after taken. ended text short faultless planless after taken after.opened refl))
    (cases_lt text_limit (length text))
