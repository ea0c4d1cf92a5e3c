-- The tasks of a region, as they use one element, one after the other: what their visits move, and what has to be moved.
use Rattle.std.proofs.Common.{◌≡◌, ◌≢◌, ℕ, zero, suc, ◌+◌, ◌-◌, ◌<◌, ◌≤◌, Bool, true, false, eqb, cond, not, ◌&&◌, ◌||◌, List, [], ◌∷◌, refl, sym, ap, ◌∙◌, arith, zero-add}
use Rattle.std.specs.List.{count_by, filter, list_any, range_with_len, sum_by}
use Rattle.std.proofs.lemmas.Bool.Decides.{nat_tests}
use Rattle.std.proofs.lemmas.List.Sums.{sum_by-cons}
use Rattle.dd_meaning.specs.Versions.{latest}
use Rattle.dd_meaning.proofs.LatestLemmas.{latest_ge, latest_le, latest_more}
use Rattle.dd_transfers.specs.declared.mark.Visit.TheVariants.{Read, Leave}
use Rattle.dd_transfers.specs.Marks.{mark_after, mark_of, moves_at}
use Rattle.dd_transfers.proofs.MarksLemmas.{holds, holds_read, holds_written}
use Rattle.dd_lists.proofs.SumsLemmas.{sum_by-add, sum_one, sum_same, sum_zero}

-- how tasks, by their numbers, use an element, the spaces in which they run, the element's home, and how many spaces there are
pub record History : Type 0 where
  pub reads : ℕ → Bool
  pub writes : ℕ → Bool
  pub place : ℕ → ℕ
  pub home : ℕ
  pub spaces : ℕ

pub record IsHistory (h : History) : Type 0 where
  pub home_low : 1 ≤ h.home
  pub home_high : h.home ≤ h.spaces
  pub place_low : (t : ℕ) → h.reads t ≡ true → 1 ≤ h.place t
  pub place_high : (t : ℕ) → h.reads t ≡ true → h.place t ≤ h.spaces
  pub written_low : (t : ℕ) → h.writes t ≡ true → 1 ≤ h.place t

-- the mark after a task has read, and after it has written as well
abbrev pub read_mark : History → ℕ → ℕ → ℕ
read_mark h t m = cond (h.reads t) (mark_after (Read (h.place t)) h.home m) m

abbrev pub next_mark : History → ℕ → ℕ → ℕ
next_mark h t m = cond (h.writes t) (mark_of (h.place t)) (read_mark h t m)

abbrev pub read_moves : History → ℕ → ℕ → ℕ
read_moves h t m = cond (h.reads t) (moves_at (Read (h.place t)) h.home m) 0

-- the moves of some tasks, and of the end
abbrev pub walk_moves : History → List ℕ → ℕ → ℕ
walk_moves h [] m = moves_at Leave h.home m
walk_moves h (t ∷ ts) m = read_moves h t m + walk_moves h ts (next_mark h t m)

-- a task of these runs in the space and reads the version
abbrev pub is_read : History → ℕ → ℕ → List ℕ → Bool
is_read h version space ts = list_any (λ t. eqb (h.place t) space && h.reads t && eqb (latest h.writes (t - 1)) version) ts

-- the version is wanted in the space
abbrev pub is_wanted : History → ℕ → ℕ → ℕ → List ℕ → Bool
is_wanted h last version space ts = is_read h version space ts || (eqb h.home space && eqb last version)

-- how many of the spaces pass a test
abbrev pub spaces_that : History → (ℕ → Bool) → ℕ
spaces_that h p = count_by p (range_with_len 1 h.spaces)

-- the spaces where a version is wanted that do not hold it
abbrev pub missing : History → ℕ → ℕ → ℕ → List ℕ → ℕ
missing h last m version ts = spaces_that h (λ space. not (holds h.home m space) && is_wanted h last version space ts)

-- the spaces other than that of the task that made it
abbrev pub sent : History → ℕ → ℕ → List ℕ → ℕ
sent h last version ts = spaces_that h (λ space. not (eqb (h.place version) space) && is_wanted h last version space ts)

-- a test on a space
spaces_same : (h : History) (p q : ℕ → Bool) → ((s : ℕ) → 1 ≤ s → s ≤ h.spaces → p s ≡ q s) → spaces_that h p ≡ spaces_that h q
spaces_same h p q same = sum_same (λ s. cond (p s) 1 0) (λ s. cond (q s) 1 0) 1 h.spaces (λ s low high. ap (λ (b : Bool). cond b 1 0) (same s low (omega arith)))

spaces_none : (h : History) (p : ℕ → Bool) → ((s : ℕ) → 1 ≤ s → s ≤ h.spaces → p s ≡ false) → spaces_that h p ≡ 0
spaces_none h p none = sum_zero (λ s. cond (p s) 1 0) 1 h.spaces (λ s low high. ap (λ (b : Bool). cond b 1 0) (none s low (omega arith)))

split_bits : (d e w : Bool) → cond (not d && (e || w)) 1 0 ≡ cond e (cond d 0 1) 0 + cond (not (d || e) && w) 1 0
split_bits true true true = refl
split_bits true true false = refl
split_bits true false true = refl
split_bits true false false = refl
split_bits false true true = refl
split_bits false true false = refl
split_bits false false true = refl
split_bits false false false = refl

-- one of the spaces counts apart
spaces_split : (h : History) (d w : ℕ → Bool) (a : ℕ) → 1 ≤ a → a ≤ h.spaces
    → spaces_that h (λ s. not (d s) && (eqb a s || w s)) ≡ cond (d a) 0 1 + spaces_that h (λ s. not (d s || eqb a s) && w s)
spaces_split h d w a low high =
    let one : ℕ → ℕ = λ s. cond (eqb a s) (cond (d s) 0 1) 0 in
    let rest : ℕ → ℕ = λ s. cond (not (d s || eqb a s) && w s) 1 0 in
    let both = sum_same (λ s. cond (not (d s) && (eqb a s || w s)) 1 0) (λ s. one s + rest s) 1 h.spaces (λ s l g. split_bits (d s) (eqb a s) (w s)) in
    let add = sum_by-add one rest (range_with_len 1 h.spaces) in
    let here = sum_one (λ s. cond (d s) 0 1) a 1 h.spaces low (omega arith) in
    omega (arith, both, add, here)

home_bits : (d e : Bool) → ◌≡◌ {A = ℕ} (cond (not d && (false || (e && true))) 1 0) (cond e (cond d 0 1) 0)
home_bits true true = refl
home_bits true false = refl
home_bits false true = refl
home_bits false false = refl

is_same : (a b : ℕ) → a ≡ b → eqb a b ≡ true
is_same a b e = grind (arith, nat_tests)

is_other : (a b : ℕ) → a ≢ b → eqb a b ≡ false
is_other a b ne = grind (arith, nat_tests)

-- at the end the home alone may want the last version
missing_end : (h : History) → IsHistory h → (m version last : ℕ) → last ≡ version → missing h last m version [] ≡ moves_at Leave h.home m
missing_end h is m version last e =
    let test = is_same last version e in
    sum_same (λ s. cond (not (holds h.home m s) && is_wanted h last version s []) 1 0) (λ s. cond (eqb h.home s) (cond (holds h.home m s) 0 1) 0) 1 h.spaces
    (λ s low high. ap (λ (b : Bool). cond (not (holds h.home m s) && (false || (eqb h.home s && b))) 1 0) test ∙ home_bits (holds h.home m s) (eqb h.home s))
    ∙ sum_one (λ s. cond (holds h.home m s) 0 1) h.home 1 h.spaces is.home_low (let lt : h.home < 1 + h.spaces = omega (arith, is.home_high) in lt)

-- a task that finds an earlier version does not read a later one
skip_bits : (a b w k : Bool) → ((a && b && false) || w) || k ≡ w || k
skip_bits true true w k = refl
skip_bits true false w k = refl
skip_bits false b w k = refl

wanted_skip : (h : History) (last version t s : ℕ) (ts : List ℕ) → t ≤ version → 1 ≤ t → is_wanted h last version s (t ∷ ts) ≡ is_wanted h last version s ts
wanted_skip h last version t s ts le low =
    let less = latest_le h.writes (t - 1) in
    let test = is_other (latest h.writes (t - 1)) version (omega arith) in
    ap (λ (b : Bool). ((eqb (h.place t) s && h.reads t && b) || is_read h version s ts) || (eqb h.home s && eqb last version)) test
    ∙ skip_bits (eqb (h.place t) s) (h.reads t) (is_read h version s ts) (eqb h.home s && eqb last version)

sent_skip : (h : History) (last version t : ℕ) (ts : List ℕ) → t ≤ version → 1 ≤ t → sent h last version (t ∷ ts) ≡ sent h last version ts
sent_skip h last version t ts le low =
    spaces_same h (λ s. not (eqb (h.place version) s) && is_wanted h last version s (t ∷ ts)) (λ s. not (eqb (h.place version) s) && is_wanted h last version s ts)
    (λ s l g. ap (λ (b : Bool). not (eqb (h.place version) s) && b) (wanted_skip h last version t s ts le low))

all_sent_skip : (h : History) (last t a n : ℕ) (ts : List ℕ) → t ≤ a → 1 ≤ t
    → sum_by (λ u. sent h last u (t ∷ ts)) (filter h.writes (range_with_len a n)) ≡ sum_by (λ u. sent h last u ts) (filter h.writes (range_with_len a n))
all_sent_skip h last t a zero ts le low = refl
all_sent_skip h last t a (suc n) ts le low =
    let more = all_sent_skip h last t (a + 1) n ts (omega arith) low in
    let f : ℕ → ℕ = λ u. sent h last u (t ∷ ts) in
    let g : ℕ → ℕ = λ u. sent h last u ts in
    let rest : List ℕ = filter h.writes (range_with_len (a + 1) n) in
    let one = sent_skip h last a t ts le low in
    elim (h.writes a) as (λ (b : Bool). sum_by f (cond b (a ∷ rest) rest) ≡ sum_by g (cond b (a ∷ rest) rest))
    [ true ↦ omega (arith, sum_by-cons f a rest, sum_by-cons g a rest, one, more) | false ↦ more ]

none_bits : (a b : Bool) → (a && b && false) || false ≡ false
none_bits true true = refl
none_bits true false = refl
none_bits false b = refl

-- after a write nobody reads an earlier version
read_none : (h : History) (version c s a n : ℕ) → version < c → 1 ≤ c → c < a → h.writes c ≡ true → is_read h version s (range_with_len a n) ≡ false
read_none h version c s a zero less low behind is = refl
read_none h version c s a (suc n) less low behind is =
    let late = latest_ge h.writes c (a - 1) low (omega arith) is in
    let test = is_other (latest h.writes (a - 1)) version (omega arith) in
    let more = read_none h version c s (a + 1) n less low (omega arith) is in
    ap (λ (b : Bool). (eqb (h.place a) s && h.reads a && b) || is_read h version s (range_with_len (a + 1) n)) test
    ∙ ap (λ (b : Bool). (eqb (h.place a) s && h.reads a && false) || b) more
    ∙ none_bits (eqb (h.place a) s) (h.reads a)

-- a task that reads: its space holds the version from then on
read_bits : (a w k : Bool) → ((a && true && true) || w) || k ≡ a || (w || k)
read_bits true w k = refl
read_bits false w k = refl

unread_bits : (a b w k : Bool) → ((a && false && b) || w) || k ≡ w || k
unread_bits true b w k = refl
unread_bits false b w k = refl

missing_read_by : (h : History) → IsHistory h → (last version t m : ℕ) (ts : List ℕ) (b : Bool) → h.reads t ≡ b → latest h.writes (t - 1) ≡ version
    → missing h last m version (t ∷ ts) ≡ cond b (moves_at (Read (h.place t)) h.home m) 0 + missing h last (cond b (mark_after (Read (h.place t)) h.home m) m) version ts
missing_read_by h is last version t m ts true e now =
    let test = is_same (latest h.writes (t - 1)) version now in
    let a : ℕ = h.place t in
    let wants : ℕ → Bool = λ s. is_wanted h last version s ts in
    let low = is.place_low t e in
    let high = is.place_high t e in
    let same = spaces_same h (λ s. not (holds h.home m s) && is_wanted h last version s (t ∷ ts)) (λ s. not (holds h.home m s) && (eqb a s || wants s))
    (λ s l g.
    ap (λ (b : Bool). not (holds h.home m s) && (((eqb a s && b && eqb (latest h.writes (t - 1)) version) || is_read h version s ts) || (eqb h.home s && eqb last version))) e
    ∙ ap (λ (b : Bool). not (holds h.home m s) && (((eqb a s && true && b) || is_read h version s ts) || (eqb h.home s && eqb last version))) test
    ∙ ap (λ (b : Bool). not (holds h.home m s) && b) (read_bits (eqb a s) (is_read h version s ts) (eqb h.home s && eqb last version))) in
    let split = spaces_split h (λ s. holds h.home m s) wants a low high in
    let held = spaces_same h (λ s. not (holds h.home m s || eqb a s) && wants s) (λ s. not (holds h.home (mark_after (Read a) h.home m) s) && wants s)
    (λ s l g. ap (λ (b : Bool). not b && wants s) (sym (holds_read h.home m a s low l))) in
    same ∙ split ∙ ap (λ (n : ℕ). moves_at (Read a) h.home m + n) held
missing_read_by h is last version t m ts false e now =
    let a : ℕ = h.place t in
    let same = spaces_same h (λ s. not (holds h.home m s) && is_wanted h last version s (t ∷ ts)) (λ s. not (holds h.home m s) && is_wanted h last version s ts)
    (λ s l g.
    ap (λ (b : Bool). not (holds h.home m s) && (((eqb a s && b && eqb (latest h.writes (t - 1)) version) || is_read h version s ts) || (eqb h.home s && eqb last version))) e
    ∙ ap (λ (b : Bool). not (holds h.home m s) && b) (unread_bits (eqb a s) (eqb (latest h.writes (t - 1)) version) (is_read h version s ts) (eqb h.home s && eqb last version))) in
    same ∙ sym (zero-add (missing h last m version ts))

missing_read : (h : History) → IsHistory h → (last version t m : ℕ) (ts : List ℕ) → latest h.writes (t - 1) ≡ version
    → missing h last m version (t ∷ ts) ≡ read_moves h t m + missing h last (read_mark h t m) version ts
missing_read h is last version t m ts now = missing_read_by h is last version t m ts (h.reads t) refl now

nothing_bits : (d e : Bool) → not d && (false || (e && false)) ≡ false
nothing_bits true e = refl
nothing_bits false true = refl
nothing_bits false false = refl

-- a task that writes: what is wanted of the version before it is done, and its space alone holds the one that it makes
written : (h : History) → IsHistory h → (last t m n : ℕ) → 1 ≤ t → h.writes t ≡ true → last ≡ latest h.writes (t + n) → (version : ℕ) → version < t
    → (missing h last m version (range_with_len (t + 1) n) ≡ 0)
    × (missing h last (mark_of (h.place t)) t (range_with_len (t + 1) n) ≡ sent h last t (t ∷ range_with_len (t + 1) n))
written h is last t m n low e end version less =
    let ts : List ℕ = range_with_len (t + 1) n in
    let late = latest_ge h.writes t (t + n) low (omega arith) e in
    let other = is_other last version (omega arith) in
    let a : ℕ = h.place t in
    let none = spaces_none h (λ s. not (holds h.home m s) && is_wanted h last version s ts)
    (λ s l g.
    ap (λ (b : Bool). not (holds h.home m s) && (b || (eqb h.home s && eqb last version))) (read_none h version t s (t + 1) n less low (omega arith) e)
    ∙ ap (λ (b : Bool). not (holds h.home m s) && (false || (eqb h.home s && b))) other
    ∙ nothing_bits (holds h.home m s) (eqb h.home s)) in
    let alone = spaces_same h (λ s. not (holds h.home (mark_of a) s) && is_wanted h last t s ts) (λ s. not (eqb a s) && is_wanted h last t s (t ∷ ts))
    (λ s l g.
    ap (λ (b : Bool). not b && is_wanted h last t s ts) (holds_written h.home a s (is.written_low t e) l)
    ∙ ap (λ (b : Bool). not (eqb a s) && b) (sym (wanted_skip h last t t s ts (omega arith) low))) in
    (none, alone)

written_by : (h : History) → IsHistory h → (last version t m n : ℕ) (b : Bool) → 1 ≤ t → h.writes t ≡ b → last ≡ latest h.writes (t + n) → version < t
    → missing h last (cond b (mark_of (h.place t)) m) (cond b t version) (range_with_len (t + 1) n) + sum_by (λ u. sent h last u (t ∷ range_with_len (t + 1) n)) (filter h.writes (range_with_len (t + 1) n))
    ≡ missing h last m version (range_with_len (t + 1) n)
    + sum_by (λ u. sent h last u (t ∷ range_with_len (t + 1) n)) (cond b (t ∷ filter h.writes (range_with_len (t + 1) n)) (filter h.writes (range_with_len (t + 1) n)))
written_by h is last version t m n true low e end less =
    let both = written h is last t m n low e end version less in
    let f : ℕ → ℕ = λ u. sent h last u (t ∷ range_with_len (t + 1) n) in
    omega (arith, both.0, both.1, sum_by-cons f t (filter h.writes (range_with_len (t + 1) n)))
written_by h is last version t m n false low e end less = refl

-- the walk moves what has to be moved
pub walk_is : (h : History) → IsHistory h → (n k m last : ℕ) → last ≡ latest h.writes (k + n)
    → walk_moves h (range_with_len (k + 1) n) m
    ≡ missing h last m (latest h.writes k) (range_with_len (k + 1) n) + sum_by (λ u. sent h last u (range_with_len (k + 1) n)) (filter h.writes (range_with_len (k + 1) n))
walk_is h is zero k m last end =
    let e : last ≡ latest h.writes k = end ∙ ap (latest h.writes) (let z : k + 0 ≡ k = omega arith in z) in
    omega (arith, missing_end h is m (latest h.writes k) last e)
walk_is h is (suc n) k m last end =
    let t : ℕ = k + 1 in
    let ts : List ℕ = range_with_len (t + 1) n in
    let version : ℕ = latest h.writes k in
    let less = latest_le h.writes k in
    let end_here : last ≡ latest h.writes (t + n) = end ∙ ap (latest h.writes) (let z : k + suc n ≡ k + 1 + n = omega arith in z) in
    let rest = walk_is h is n t (next_mark h t m) last end_here in
    let now : latest h.writes (t - 1) ≡ version = ap (latest h.writes) (let z : k + 1 - 1 ≡ k = omega arith in z) in
    let read = missing_read h is last version t m ts now in
    let tail = all_sent_skip h last t (t + 1) n ts (omega arith) (omega arith) in
    let write = written_by h is last version t (read_mark h t m) n (h.writes t) (omega arith) refl end_here (omega arith) in
    let current = ap (λ (v : ℕ). missing h last (next_mark h t m) v ts) (latest_more h.writes k) in
    omega (arith, rest, read, tail, write, current)
