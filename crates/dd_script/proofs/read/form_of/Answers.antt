use Rattle.std.proofs.Common.{refl, sym, ◌∙◌}
use Rattle.dd_script.proofs.ReadsLemmas.{some_lexemes, no_word, unknown, form_found, form_missing}
use Rattle.dd_script.proofs.read.form_of.Goals as goal

pub returns-in_default-clause-fault : goal.returns-in_default-clause-fault
returns-in_default-clause-fault c =
    no_word _ (some_lexemes c.args.line.now _ c.requires.some) c.in_default.ensures.value

pub returns-in_default-keyword_of-clause-fault : goal.returns-in_default-keyword_of-clause-fault
returns-in_default-keyword_of-clause-fault c =
    unknown _ _ _ c.in-Some.ensures.value (rw c.as_bytes.ensures at c.in_default-keyword_of.ensures)

pub returns-in-Some-2-clause-form : goal.returns-in-Some-2-clause-form
returns-in-Some-2-clause-form c =
    form_found _ _ _ c.in-Some-keyword_of.keyword _ c.in-Some.ensures.value (sym c.as_bytes.ensures ∙ (c.in-Some-keyword_of.ensures c.in-Some-keyword_of.keyword).0 refl) (sym c.in_ok-written.ensures ∙ c.in-Some-2.is)

pub returns-in-None-clause-fault : goal.returns-in-None-clause-fault
returns-in-None-clause-fault c =
    form_missing _ _ _ c.in-Some-keyword_of.keyword c.in-Some.ensures.value (sym c.as_bytes.ensures ∙ (c.in-Some-keyword_of.ensures c.in-Some-keyword_of.keyword).0 refl) (sym c.in_ok-written.ensures ∙ c.in-None.is)
