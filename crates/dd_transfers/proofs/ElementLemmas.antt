-- Visits of many elements, as seen by one of them.
use Rattle.std.proofs.Common.{◌≡◌, ◌≢◌, ℕ, ◌+◌, ◌<◌, Bool, true, false, eqb, cond, ◌||◌, List, [], ◌∷◌, ◌++◌, length, get_or, set, refl, sym, ap, ◌∙◌, subst, arith, ⊎_elim, get_or-set_other, get_or-set_same}
use Rattle.std.specs.List.{All, list_any, range_with_len, sum_by}
use Rattle.std.proofs.lemmas.Bool.{cases_eq}
use Rattle.std.proofs.lemmas.Bool.Decides.{nat_tests}
use Rattle.std.proofs.lemmas.List.{length-set}
use Rattle.std.proofs.lemmas.List.Elements.{All-head, All-tail}
use Rattle.dd_transfers.specs.declared.mark.Visit.{Visit}
use Rattle.dd_transfers.specs.Marks.{mark_after, moves_at}
use Rattle.dd_transfers.specs.Visits.{ElementVisit, marks_after, moves_along}
use Rattle.dd_transfers.proofs.MarksLemmas.{mark_again, moves_again}
use Rattle.dd_lists.proofs.SumsLemmas.{sum_by-add, sum_one, sum_same, sum_zero}

-- the mark of the element with the number q after some visits
abbrev pub element_mark : ℕ → List ElementVisit → ℕ → ℕ
element_mark q [] m = m
element_mark q (v ∷ vs) m = element_mark q vs (cond (eqb v.at q) (mark_after v.visit v.home m) m)

-- how often they move it
abbrev pub element_moves : ℕ → List ElementVisit → ℕ → ℕ
element_moves q [] m = 0
element_moves q (v ∷ vs) m = cond (eqb v.at q) (moves_at v.visit v.home m) 0 + element_moves q vs (cond (eqb v.at q) (mark_after v.visit v.home m) m)

next_mark : (v : ElementVisit) (marks : List ℕ) (q : ℕ) → q < length marks
    → get_or (set marks v.at (mark_after v.visit v.home (get_or marks v.at 0))) q 0 ≡ cond (eqb v.at q) (mark_after v.visit v.home (get_or marks q 0)) (get_or marks q 0)
next_mark v marks q lt =
    ⊎_elim
    (λ (e : v.at ≡ q).
    let test : eqb v.at q ≡ true = grind (arith, nat_tests) in
    let inside : v.at < length marks = omega arith in
    ap (λ (i : ℕ). get_or (set marks v.at (mark_after v.visit v.home (get_or marks v.at 0))) i 0) (sym e)
    ∙ get_or-set_same marks v.at (mark_after v.visit v.home (get_or marks v.at 0)) 0 inside
    ∙ ap (λ (i : ℕ). mark_after v.visit v.home (get_or marks i 0)) e
    ∙ sym (ap (λ (t : Bool). cond t (mark_after v.visit v.home (get_or marks q 0)) (get_or marks q 0)) test))
    (λ (ne : v.at ≢ q).
    let test : eqb v.at q ≡ false = grind (arith, nat_tests) in
    let other : q ≢ v.at = λ (e : q ≡ v.at). ne (sym e) in
    get_or-set_other marks v.at q (mark_after v.visit v.home (get_or marks v.at 0)) 0 other
    ∙ sym (ap (λ (t : Bool). cond t (mark_after v.visit v.home (get_or marks q 0)) (get_or marks q 0)) test))
    (cases_eq v.at q)

pub get_or-marks_after : (vs : List ElementVisit) (marks : List ℕ) (q : ℕ) → q < length marks → get_or (marks_after vs marks) q 0 ≡ element_mark q vs (get_or marks q 0)
get_or-marks_after [] marks q lt = refl
get_or-marks_after (v ∷ vs) marks q lt =
    let x : ℕ = mark_after v.visit v.home (get_or marks v.at 0) in
    get_or-marks_after vs (set marks v.at x) q (omega (arith, length-set marks v.at x))
    ∙ ap (element_mark q vs) (next_mark v marks q lt)

-- all moves are the sum over the elements
pub moves_along-sum : (vs : List ElementVisit) (marks : List ℕ) → All (λ (v : ElementVisit). v.at < length marks) vs
    → moves_along vs marks ≡ sum_by (λ q. element_moves q vs (get_or marks q 0)) (range_with_len 0 (length marks))
moves_along-sum [] marks all = sym (sum_zero (λ q. 0) 0 (length marks) (λ q low high. refl))
moves_along-sum (v ∷ vs) marks all =
    let x : ℕ = mark_after v.visit v.home (get_or marks v.at 0) in
    let next : List ℕ = set marks v.at x in
    let many : length next ≡ length marks = length-set marks v.at x in
    let head = All-head (λ (w : ElementVisit). w.at < length marks) v vs all in
    let tail = All-tail (λ (w : ElementVisit). w.at < length marks) v vs all in
    let rest : All (λ (w : ElementVisit). w.at < length next) vs = subst (λ (n : ℕ). All (λ (w : ElementVisit). w.at < n) vs) (sym many) tail in
    let here : ℕ → ℕ = λ q. cond (eqb v.at q) (moves_at v.visit v.home (get_or marks q 0)) 0 in
    let behind : ℕ → ℕ = λ q. element_moves q vs (cond (eqb v.at q) (mark_after v.visit v.home (get_or marks q 0)) (get_or marks q 0)) in
    let one : sum_by here (range_with_len 0 (length marks)) ≡ moves_at v.visit v.home (get_or marks v.at 0) =
    sum_one (λ q. moves_at v.visit v.home (get_or marks q 0)) v.at 0 (length marks) (omega arith) (omega (arith, head)) in
    let more : moves_along vs next ≡ sum_by behind (range_with_len 0 (length marks)) =
    moves_along-sum vs next rest
    ∙ ap (λ (n : ℕ). sum_by (λ q. element_moves q vs (get_or next q 0)) (range_with_len 0 n)) many
    ∙ sum_same (λ q. element_moves q vs (get_or next q 0)) behind 0 (length marks) (λ q low high. ap (element_moves q vs) (next_mark v marks q (omega arith))) in
    let both = sum_by-add here behind (range_with_len 0 (length marks)) in
    omega (arith, one, more, both)

pub element_mark-append : (q : ℕ) (vs ws : List ElementVisit) (m : ℕ) → element_mark q (vs ++ ws) m ≡ element_mark q ws (element_mark q vs m)
element_mark-append q [] ws m = refl
element_mark-append q (v ∷ vs) ws m = element_mark-append q vs ws (cond (eqb v.at q) (mark_after v.visit v.home m) m)

pub element_moves-append : (q : ℕ) (vs ws : List ElementVisit) (m : ℕ) → element_moves q (vs ++ ws) m ≡ element_moves q vs m + element_moves q ws (element_mark q vs m)
element_moves-append q [] ws m = omega arith
element_moves-append q (v ∷ vs) ws m =
    let next : ℕ = cond (eqb v.at q) (mark_after v.visit v.home m) m in
    omega (arith, element_moves-append q vs ws next)

-- visits of the element are all of one kind, by one home
abbrev pub AreAlike : ℕ → Visit → ℕ → List ElementVisit → Type 0
AreAlike q visit home vs = All (λ (v : ElementVisit). v.at ≡ q → (v.home ≡ home) × (v.visit ≡ visit)) vs

abbrev pub visits_it : ℕ → List ElementVisit → Bool
visits_it q vs = list_any (λ (v : ElementVisit). eqb v.at q) vs

settled : (b : Bool) (visit : Visit) (home m : ℕ) → cond b (mark_after visit home (mark_after visit home m)) (mark_after visit home m) ≡ mark_after visit home m
settled true visit home m = mark_again visit home m
settled false visit home m = refl

rests : (b : Bool) (visit : Visit) (home m : ℕ) → cond b (moves_at visit home (mark_after visit home m)) 0 ≡ 0
rests true visit home m = moves_again visit home m
rests false visit home m = refl

pub mark_alike : (q : ℕ) (visit : Visit) (home : ℕ) (vs : List ElementVisit) (m : ℕ) → AreAlike q visit home vs
    → element_mark q vs m ≡ cond (visits_it q vs) (mark_after visit home m) m
mark_alike q visit home [] m alike = refl
mark_alike q visit home (v ∷ vs) m alike =
    let tail = All-tail (λ (w : ElementVisit). w.at ≡ q → (w.home ≡ home) × (w.visit ≡ visit)) v vs alike in
    ⊎_elim
    (λ (e : v.at ≡ q).
    let test : eqb v.at q ≡ true = grind (arith, nat_tests) in
    let is = All-head (λ (w : ElementVisit). w.at ≡ q → (w.home ≡ home) × (w.visit ≡ visit)) v vs alike e in
    let next : cond (eqb v.at q) (mark_after v.visit v.home m) m ≡ mark_after visit home m =
    ap (λ (t : Bool). cond t (mark_after v.visit v.home m) m) test ∙ ap (λ (u : Visit). mark_after u v.home m) is.1 ∙ ap (λ (h : ℕ). mark_after visit h m) is.0 in
    ap (element_mark q vs) next
    ∙ mark_alike q visit home vs (mark_after visit home m) tail
    ∙ settled (visits_it q vs) visit home m
    ∙ sym (ap (λ (t : Bool). cond (t || visits_it q vs) (mark_after visit home m) m) test))
    (λ (ne : v.at ≢ q).
    let test : eqb v.at q ≡ false = grind (arith, nat_tests) in
    ap (λ (t : Bool). element_mark q vs (cond t (mark_after v.visit v.home m) m)) test
    ∙ mark_alike q visit home vs m tail
    ∙ sym (ap (λ (t : Bool). cond (t || visits_it q vs) (mark_after visit home m) m) test))
    (cases_eq v.at q)

pub moves_alike : (q : ℕ) (visit : Visit) (home : ℕ) (vs : List ElementVisit) (m : ℕ) → AreAlike q visit home vs
    → element_moves q vs m ≡ cond (visits_it q vs) (moves_at visit home m) 0
moves_alike q visit home [] m alike = refl
moves_alike q visit home (v ∷ vs) m alike =
    let tail = All-tail (λ (w : ElementVisit). w.at ≡ q → (w.home ≡ home) × (w.visit ≡ visit)) v vs alike in
    ⊎_elim
    (λ (e : v.at ≡ q).
    let test : eqb v.at q ≡ true = grind (arith, nat_tests) in
    let is = All-head (λ (w : ElementVisit). w.at ≡ q → (w.home ≡ home) × (w.visit ≡ visit)) v vs alike e in
    let next : cond (eqb v.at q) (mark_after v.visit v.home m) m ≡ mark_after visit home m =
    ap (λ (t : Bool). cond t (mark_after v.visit v.home m) m) test ∙ ap (λ (u : Visit). mark_after u v.home m) is.1 ∙ ap (λ (h : ℕ). mark_after visit h m) is.0 in
    let here : cond (eqb v.at q) (moves_at v.visit v.home m) 0 ≡ moves_at visit home m =
    ap (λ (t : Bool). cond t (moves_at v.visit v.home m) 0) test ∙ ap (λ (u : Visit). moves_at u v.home m) is.1 ∙ ap (λ (h : ℕ). moves_at visit h m) is.0 in
    let rest : element_moves q vs (cond (eqb v.at q) (mark_after v.visit v.home m) m) ≡ 0 =
    ap (element_moves q vs) next ∙ moves_alike q visit home vs (mark_after visit home m) tail ∙ rests (visits_it q vs) visit home m in
    let whole : cond (eqb v.at q || visits_it q vs) (moves_at visit home m) 0 ≡ moves_at visit home m = ap (λ (t : Bool). cond (t || visits_it q vs) (moves_at visit home m) 0) test in
    omega (arith, here, rest, whole))
    (λ (ne : v.at ≢ q).
    let test : eqb v.at q ≡ false = grind (arith, nat_tests) in
    let here : cond (eqb v.at q) (moves_at v.visit v.home m) 0 ≡ 0 = ap (λ (t : Bool). cond t (moves_at v.visit v.home m) 0) test in
    let rest : element_moves q vs (cond (eqb v.at q) (mark_after v.visit v.home m) m) ≡ cond (visits_it q vs) (moves_at visit home m) 0 =
    ap (λ (t : Bool). element_moves q vs (cond t (mark_after v.visit v.home m) m)) test ∙ moves_alike q visit home vs m tail in
    let whole : cond (eqb v.at q || visits_it q vs) (moves_at visit home m) 0 ≡ cond (visits_it q vs) (moves_at visit home m) 0 = ap (λ (t : Bool). cond (t || visits_it q vs) (moves_at visit home m) 0) test in
    omega (arith, here, rest, whole))
    (cases_eq v.at q)
