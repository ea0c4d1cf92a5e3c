use Rattle.std.proofs.Common.{refl, ◌∷◌, []}
use Rattle.std.proofs.lemmas.Result.{on_err_weaker}
use Rattle.dd_causes.proofs.AppendedLemmas.{all_but_more, all_but_start, front_in_piece}
use Rattle.dd_causes.proofs.CountsLemmas.{anyway_on_err}
use Rattle.dd_lines.proofs.journal.write_line.Goals as goal

pub returns-in_err-write_all-clause-front : goal.returns-in_err-write_all-clause-front
returns-in_err-write_all-clause-front g c =
    anyway_on_err _ (front_in_piece (all_but_start _ _) _ _ refl c.in_err-write_all.ensures.front)

pub returns-in_err-write_numbers-clause-front : goal.returns-in_err-write_numbers-clause-front
returns-in_err-write_numbers-clause-front g c =
    let word = all_but_more (all_but_start _ _) _ _ refl c.in_ok-write_all.ensures.all in
    anyway_on_err _ (front_in_piece word _ _ refl c.in_err-write_numbers.ensures.front)

pub returns-clause-front : goal.returns-clause-front
returns-clause-front g c =
    let word = all_but_more (all_but_start _ _) _ _ refl c.in_ok-write_all.ensures.all in
    let numbers = all_but_more word _ _ refl c.in_ok-write_numbers.ensures.all in
    on_err_weaker _ (front_in_piece numbers (10 ∷ []) [] refl) c.write_all-2.ensures.front
