-- Columns of a matrix with their neighbours.
use Rattle.std.proofs.Common.{◌≡◌, ℕ, zero, suc, ◌+◌, ◌-◌, ◌<◌, ◌≤◌, ℤ, pos, List, ◌++◌, length, take, drop, inl, inr, add-one, refl, ap, sym, ◌∙◌, arith}
use Rattle.std.specs.List.{between}
use Rattle.std.proofs.lemmas.Bool.{cases_lt}
use Rattle.std.proofs.lemmas.List.{get_or_append_left, get_or-append_right, get_or-take, get_or-drop, length-append, length-take, length-drop}
use borrow.Rule.Slice.PartMut.{put_mid}
use Rattle.dd_kernels.specs.declared.shape.Shape.{Shape}
use Rattle.dd_kernels.specs.Lists.{element, tabulate}
use Rattle.dd_kernels.specs.Matrices.{bordered, cross, element_before, weighed}
use Rattle.dd_kernels.proofs.ListsLemmas.{tabulated_whole}
use Rattle.dd_kernels.proofs.MatricesLemmas.{element_part}

-- the first element, those between and the last, after a write to what is between
first_stays : (xs ys : List ℤ) (k : ℕ) → 0 < length xs → element (put_mid 1 k xs ys) 0 ≡ element xs 0
first_stays xs ys k some =
    get_or_append_left (take 1 xs) (ys ++ drop k (drop 1 xs)) (pos 0) 0 (omega (arith, length-take 1 xs)) ∙ get_or-take 1 xs 0 (pos 0) (omega arith)

between_is_new : (xs ys : List ℤ) (k i : ℕ) → 0 < length xs → 0 < i → i - 1 < length ys → element (put_mid 1 k xs ys) i ≡ element ys (i - 1)
between_is_new xs ys k i some past within =
    get_or-append_right (take 1 xs) (ys ++ drop k (drop 1 xs)) 1 i (pos 0) (omega (arith, length-take 1 xs)) (omega arith) ∙ get_or_append_left ys (drop k (drop 1 xs)) (pos 0) (i - 1) within

last_stays : (xs ys : List ℤ) (k i : ℕ) → 0 < length xs → length ys ≡ k → i ≡ k + 1 → element (put_mid 1 k xs ys) i ≡ element xs i
last_stays xs ys k i some long at =
    get_or-append_right (take 1 xs) (ys ++ drop k (drop 1 xs)) 1 i (pos 0) (omega (arith, length-take 1 xs)) (omega arith) ∙ (get_or-append_right ys (drop k (drop 1 xs)) k (i - 1) (pos 0) long (omega arith) ∙ (get_or-drop k (drop 1 xs) (i - 1 - k) (pos 0) ∙ (get_or-drop 1 xs (k + (i - 1 - k)) (pos 0) ∙ ap (element xs) (omega arith))))

-- a column of `n` places whose ends are written first, and what is between after them
pub framed : (xs ys : List ℤ) (n : ℕ) (f : ℕ → ℤ) → 2 ≤ n → length xs ≡ n → length ys ≡ n - 1 - 1 → element xs 0 ≡ f 0 → element xs (n - 1) ≡ f (n - 1) → ((i : ℕ) → i < n - 1 - 1 → element ys i ≡ f (i + 1)) → put_mid 1 (n - 1 - 1) xs ys ≡ tabulate n f
framed xs ys n f two long_x long_y first last between =
    let k : ℕ = n - 1 - 1 in
    let all = put_mid 1 k xs ys in
    let long : length all ≡ n = omega (arith, length-append (take 1 xs) (ys ++ drop k (drop 1 xs)), length-append ys (drop k (drop 1 xs)), length-take 1 xs, length-drop k (drop 1 xs), length-drop 1 xs) in
    tabulated_whole f all (λ i below.
    elim (cases_lt 0 i) [
      | inl past ↦ elim (cases_lt i (n - 1)) [
        | inl less ↦ between_is_new xs ys k i (omega arith) past (omega arith) ∙ (between (i - 1) (omega arith) ∙ ap f (omega arith))
        | inr end ↦ let at : i ≡ n - 1 = omega (arith, long) in last_stays xs ys k i (omega arith) long_y (omega arith) ∙ (ap (element xs) at ∙ (last ∙ ap f (sym at)))
      ]
      | inr none ↦ let at : i ≡ 0 = omega arith in ap (element all) at ∙ (first_stays xs ys k (omega arith) ∙ (first ∙ ap f (sym at)))
    ]) ∙ ap (λ (m : ℕ). tabulate m f) long

-- a place between the ends of a column, from the parts of the columns round it
pub between_ends : (left here right : List ℤ) (n i : ℕ) → length here ≡ n → i < n - 1 - 1 → weighed (element (take (n - 1 - 1) here) i) (element (between 2 (length here) here) i) (element (between 1 (n - 1) left) i) (element (between 1 (n - 1) right) i) (element (between 1 (n - 1) here) i) ≡ cross left here right (i + 1)
between_ends left here right n i long below =
    let above : element (take (n - 1 - 1) here) i ≡ element_before here (i + 1) = rw add-one (get_or-take (n - 1 - 1) here i (pos 0) below) in
    let lower : element (between 2 (length here) here) i ≡ element here (i + 1 + 1) = element_part here 2 (length here) i (omega arith) ∙ ap (element here) (omega arith) in
    let before : element (between 1 (n - 1) left) i ≡ element left (i + 1) = element_part left 1 (n - 1) i (omega arith) ∙ ap (element left) (omega arith) in
    let after : element (between 1 (n - 1) right) i ≡ element right (i + 1) = element_part right 1 (n - 1) i (omega arith) ∙ ap (element right) (omega arith) in
    let middle : element (between 1 (n - 1) here) i ≡ element here (i + 1) = element_part here 1 (n - 1) i (omega arith) ∙ ap (element here) (omega arith) in
    cc

before_is : (s : Shape) (y here : List ℤ) (i j : ℕ) → ((i : ℕ) → element here i ≡ bordered s y (i + 1) j) → element_before here i ≡ bordered s y i j
before_is s y here zero j each = refl
before_is s y here (suc i) j each = each i ∙ ap (λ (r : ℕ). bordered s y r j) (add-one i)

-- a column between its neighbours, in the matrix with its border
pub cross_is : (s : Shape) (y left here right : List ℤ) (i j : ℕ) → ((i : ℕ) → element left i ≡ bordered s y (i + 1) j) → ((i : ℕ) → element here i ≡ bordered s y (i + 1) (j + 1)) → ((i : ℕ) → element right i ≡ bordered s y (i + 1) (j + 2)) → cross left here right i ≡ weighed (bordered s y i (j + 1)) (bordered s y (i + 2) (j + 1)) (bordered s y (i + 1) j) (bordered s y (i + 1) (j + 2)) (bordered s y (i + 1) (j + 1))
cross_is s y left here right i j in_left in_here in_right =
    let above = before_is s y here i (j + 1) in_here in
    let next : i + 1 + 1 ≡ i + 2 = omega arith in
    let below : element here (i + 1) ≡ bordered s y (i + 2) (j + 1) = in_here (i + 1) ∙ ap (λ (r : ℕ). bordered s y r (j + 1)) next in
    let before = in_left i in
    let after = in_right i in
    let middle = in_here i in
    cc
