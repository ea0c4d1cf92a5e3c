-- What the single changes of a Copy come to.
use Rattle.std.proofs.Common.{◌≡◌, ℕ, ◌+◌, get_or, Option, None, ap, sym, ◌∙◌, ⊎_elim}
use Rattle.std.proofs.Math.Path.{fun_ext}
use Rattle.dd_blocks.specs.declared.plan.Plan.{Plan}
use Rattle.dd_machine.specs.Effects.{after_copy, copy_where, given_back}
use Rattle.dd_machine.specs.Needed.{is_needed, own_space}
use Rattle.dd_machine.specs.States.{Copy, State, at_copy}
use Rattle.dd_machine.specs.Tests.{versions_of}
use Rattle.dd_machine.specs.Words.{element}
use Rattle.dd_machine.proofs.ChangesLemmas.{at_copy_other, at_copy_same, at_copy_tells}
use Rattle.dd_tables.specs.Fetches.{is_fetched}

-- the copy that is changed, and another one
hit : (copies : ℕ → ℕ → Option Copy) (space block : ℕ) (x : Option Copy) (s b : ℕ) → s ≡ space → b ≡ block → at_copy copies space block x s b ≡ x
hit copies space block x s b e f = rw (e, f) (at_copy_same copies space block x)

-- the copies once one was taken out of its cell
abbrev taken : (ℕ → ℕ → Option Copy) → ℕ → ℕ → ℕ → ℕ → Option Copy
taken copies own block = at_copy copies own block None

-- the copies once another one was made into something
abbrev made : (ℕ → ℕ → Option Copy) → (Option Copy → Option Copy) → ℕ → ℕ → ℕ → ℕ → Option Copy
made copies f from block = at_copy copies from block (f (copies from block))

-- what a copy is made into while one is out of its cell, it is made into in place too
while_out : (copies : ℕ → ℕ → Option Copy) (own from block : ℕ) (f : Option Copy → Option Copy) (x : Option Copy)
    → at_copy (made (taken copies own block) f from block) own block x ≡ at_copy (made copies f from block) own block x
while_out copies own from block f x = fun_ext (λ s. fun_ext (λ b. point s b))
  where
    other : (s b : ℕ) → (s ≡ own → b ≡ block → ⊥) → made (taken copies own block) f from block s b ≡ made copies f from block s b
    other s b ne = ⊎_elim
        (λ (e : (s ≡ from) × (b ≡ block) × (made (taken copies own block) f from block s b ≡ f (taken copies own block from block))).
        e.2 ∙ ap f (at_copy_other copies own block None from block (λ h _. ne (e.0 ∙ h) e.1))
        ∙ sym (hit copies from block (f (copies from block)) s b e.0 e.1))
        (λ (e : (s ≡ from → b ≡ block → ⊥) × (made (taken copies own block) f from block s b ≡ taken copies own block s b)).
        e.1 ∙ at_copy_other copies own block None s b ne ∙ sym (at_copy_other copies from block (f (copies from block)) s b e.0))
        (at_copy_tells (taken copies own block) from block (f (taken copies own block from block)) s b)

    point : (s b : ℕ) → at_copy (made (taken copies own block) f from block) own block x s b ≡ at_copy (made copies f from block) own block x s b
    point s b = ⊎_elim
        (λ (e : (s ≡ own) × (b ≡ block) × (at_copy (made (taken copies own block) f from block) own block x s b ≡ x)). e.2 ∙ sym (hit (made copies f from block) own block x s b e.0 e.1))
        (λ (e : (s ≡ own → b ≡ block → ⊥) × (at_copy (made (taken copies own block) f from block) own block x s b ≡ made (taken copies own block) f from block s b)).
        e.1 ∙ other s b e.0 ∙ sym (at_copy_other (made copies f from block) own block x s b e.0))
        (at_copy_tells (made (taken copies own block) f from block) own block x s b)

-- what is fetched into a copy that was taken out is what is needed in its place
pub fetched_is : (plan : Plan) (st a : State) (task block from own : ℕ) (cell x : Option Copy)
    → own ≡ own_space plan st task block
    → a ≡ record st { copies = at_copy st.copies own block None }
    → cell ≡ st.copies own block
    → x ≡ copy_where (λ i. is_fetched plan a task block from i (get_or (versions_of cell) i 0)) (λ i. a.current (element plan block i)) cell
    → x ≡ copy_where (is_needed plan st task block from) (λ i. st.current (element plan block i)) (st.copies own block)
fetched_is plan st a task block from own cell x own_is a_is cell_is x_is =
    x_is
    ∙ ap (λ (s : State). copy_where (λ i. is_fetched plan s task block from i (get_or (versions_of cell) i 0)) (λ i. s.current (element plan block i)) cell) a_is
    ∙ ap (λ (y : Option Copy). copy_where (λ i. is_fetched plan st task block from i (get_or (versions_of y) i 0)) (λ i. st.current (element plan block i)) y) cell_is
    ∙ ap (λ (o : ℕ). copy_where (λ i. is_fetched plan st task block from i (get_or (versions_of (st.copies o block)) i 0)) (λ i. st.current (element plan block i)) (st.copies own block)) own_is

-- the changes of a Copy, one after the other
pub copied : (plan : Plan) (st a b c d : State) (task block from count own : ℕ) (x : Option Copy)
    → own ≡ own_space plan st task block
    → a ≡ record st { copies = at_copy st.copies own block None }
    → b ≡ record a { copies = at_copy a.copies from block (given_back (a.copies from block)) }
    → c ≡ record b { copies = at_copy b.copies own block x }
    → d ≡ record c { moved = c.moved + count }
    → x ≡ copy_where (is_needed plan st task block from) (λ i. st.current (element plan block i)) (st.copies own block)
    → d ≡ after_copy plan st task block from count
copied plan st a b c d task block from count own x own_is a_is b_is c_is d_is x_is =
    d_is
    ∙ ap (λ (s : State). record s { moved = s.moved + count })
    (c_is ∙ ap (λ (s : State). record s { copies = at_copy s.copies own block x })
    (b_is ∙ ap (λ (s : State). record s { copies = at_copy s.copies from block (given_back (s.copies from block)) }) a_is))
    ∙ ap (λ (copies : ℕ → ℕ → Option Copy). record st { copies = copies; moved = st.moved + count })
    (while_out st.copies own from block given_back x ∙ ap (at_copy (made st.copies given_back from block) own block) x_is)
    ∙ ap (λ (o : ℕ). record st {
      copies = at_copy (made st.copies given_back from block) o block (copy_where (is_needed plan st task block from) (λ i. st.current (element plan block i)) (st.copies o block));
      moved = st.moved + count;
    }) own_is

-- the number moved stays while copies change
pub moved_stays : (st a b c : State) (x y z : ℕ → ℕ → Option Copy) → a ≡ record st { copies = x } → b ≡ record a { copies = y } → c ≡ record b { copies = z } → c.moved ≡ st.moved
moved_stays st a b c x y z a_is b_is c_is = ap (λ (s : State). s.moved) c_is ∙ ap (λ (s : State). s.moved) b_is ∙ ap (λ (s : State). s.moved) a_is

-- a copy that is taken out and put back, made into something
pub put_back : (st a b : State) (space block : ℕ) (x y : Option Copy)
    → a ≡ record st { copies = at_copy st.copies space block None }
    → b ≡ record a { copies = at_copy a.copies space block x }
    → x ≡ y → b ≡ record st { copies = at_copy st.copies space block y }
put_back st a b space block x y a_is b_is x_is =
    b_is
    ∙ ap (λ (s : State). record s { copies = at_copy s.copies space block x }) a_is
    ∙ ap (λ (copies : ℕ → ℕ → Option Copy). record st { copies = copies }) (fun_ext (λ s. fun_ext (λ b. point s b)) ∙ ap (at_copy st.copies space block) x_is)
  where
    point : (s b : ℕ) → at_copy (taken st.copies space block) space block x s b ≡ at_copy st.copies space block x s b
    point s b = ⊎_elim
        (λ (e : (s ≡ space) × (b ≡ block) × (at_copy (taken st.copies space block) space block x s b ≡ x)). e.2 ∙ sym (hit st.copies space block x s b e.0 e.1))
        (λ (e : (s ≡ space → b ≡ block → ⊥) × (at_copy (taken st.copies space block) space block x s b ≡ taken st.copies space block s b)).
        e.1 ∙ at_copy_other st.copies space block None s b e.0 ∙ sym (at_copy_other st.copies space block x s b e.0))
        (at_copy_tells (taken st.copies space block) space block x s b)
