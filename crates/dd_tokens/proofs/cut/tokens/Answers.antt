use Rattle.std.proofs.Common.{◌≡◌, Ok, ◌+◌, ◌++◌, ◌∷◌, [], length, length-append, arith, ap, ◌∙◌, rules}
use Rattle.std.proofs.lemmas.List.{take_rest, length-drop}
use Rattle.dd_tokens.specs.Bytes.{before_comment}
use Rattle.dd_tokens.specs.Tokens.{AreTokensOf}
use Rattle.dd_tokens.proofs.CuttingLemmas.{are_cutting, cutting_are}
use Rattle.dd_tokens.proofs.TokensLemmas.{cut_more, cut_all, one_cutting, tokens_of_line_in}
use Rattle.dd_tokens.proofs.cut.tokens.Goals as goal

pub loop-done-preserved : goal.loop-done-preserved
loop-done-preserved c =
    let next = rw (c.in-Some.is, take_rest) at c.in_ok-token.ensures.next in
    let within = rw (c.in-Some.is, take_rest, length-drop) at c.in_ok-token.ensures.within in
    let pushed : c.push.new.self.items ≡ c.loop-done.done.items ++ c.in-Some.token ∷ [] = search rules in
    let longer : length c.push.new.self.items ≡ length c.loop-done.done.items + 1 = ap length pushed ∙ length-append c.loop-done.done.items (c.in-Some.token ∷ []) in
    record {
      cut = rw (pushed, c.end-at.ensures) (cut_more _ _ _ _ c.loop-done.invariant.cut next (omega arith));
      room = λ e. let none : length c.push.new.self.items ≡ 0 = ap length e in omega (arith, longer, none);
    }

-- where nothing is left, all is cut
all_cut : (c : goal.In_default) → AreTokensOf c.args.line.now c.loop-done.done.items
all_cut c =
    let blank = rw take_rest at (c.in_ok-token.ensures.blank (ap Ok c.in_default.is)) in
    rw c.before_comment-code.ensures at (cut_all _ _ _ c.loop-done.invariant.cut blank)

pub returns-clause-cut : goal.returns-clause-cut
returns-clause-cut c = (search rules, all_cut c)

pub returns-clause-only : goal.returns-clause-only
returns-clause-only c = λ us are. one_cutting 0 _ us _ are (all_cut c)

pub returns-clause-pieces : goal.returns-clause-pieces
returns-clause-pieces c = are_cutting (before_comment c.args.line.now) _ (all_cut c)

pub returns-clause-no_others : goal.returns-clause-no_others
returns-clause-no_others c = λ us are. one_cutting 0 _ us _ (cutting_are _ us are) (all_cut c)

pub returns-clause-inside : goal.returns-clause-inside
returns-clause-inside c = tokens_of_line_in c.args.line.now _ (all_cut c)
