use Rattle.std.proofs.Common.{refl, inl, inr}
use Rattle.dd_check.specs.declared.fault.AcceptFault.TheVariants.{Script}
use Rattle.dd_check.specs.declared.kind.Kind.TheVariants.{TooMany, WrongPlace}
use Rattle.dd_check.specs.Drafts.{above_of}
use Rattle.dd_check.proofs.ChainLemmas.{all_clear, no_arguments, no_large_task, no_views, place_answer, place_clear, size_answer}
use Rattle.dd_check.proofs.admission.admit_other.Goals as goal

pub returns-then-is_misplaced-clause-fault : goal.returns-then-is_misplaced-clause-fault
returns-then-is_misplaced-clause-fault c =
    rw c.plain.ensures
    (place_answer c.args.line (above_of c.args.draft.now) c.args.x (record { line = c.args.line; kind = WrongPlace; a = 0; b = 0 }) (c.requires.named c.args.line)
    (no_arguments c.args.line (above_of c.args.draft.now) c.args.x c.requires.other) (no_views c.args.line (above_of c.args.draft.now) c.args.x c.requires.other)
    (record { line = refl; first = inl (refl, (c.if-is_misplaced.ensures.0 refl, refl, refl)) }))

pub returns-in-Some-clause-fault : goal.returns-in-Some-clause-fault
returns-in-Some-clause-fault c =
    rw c.too_many.ensures
    (size_answer (Script (record { line = c.args.line; kind = TooMany; a = c.in-Some.limit; b = 0 })) c.args.line (above_of c.args.draft.now) c.args.x (c.requires.named c.args.line)
    (no_arguments c.args.line (above_of c.args.draft.now) c.args.x c.requires.other) (no_views c.args.line (above_of c.args.draft.now) c.args.x c.requires.other)
    (place_clear c.args.line (above_of c.args.draft.now) c.args.x (λ h. absurd (cc (c.if-is_misplaced.ensures.1 h))))
    (record { line = refl; first = inl (refl, (c.in-Some.ensures c.args.line, refl)) }))

pub large_block-requires-clause-clear : goal.large_block-requires-clause-clear
large_block-requires-clause-clear c = c.requires.named c.args.line

pub returns-in-Some-large_block-clause-fault : goal.returns-in-Some-large_block-clause-fault
returns-in-Some-large_block-clause-fault c =
    size_answer (Script c.in-Some-large_block.fault) c.args.line (above_of c.args.draft.now) c.args.x (c.requires.named c.args.line)
    (no_arguments c.args.line (above_of c.args.draft.now) c.args.x c.requires.other) (no_views c.args.line (above_of c.args.draft.now) c.args.x c.requires.other)
    (place_clear c.args.line (above_of c.args.draft.now) c.args.x (λ h. absurd (cc (c.if-is_misplaced.ensures.1 h))))
    (record { line = c.in-Some-large_block.ensures.0; first = inr (c.in_default.ensures c.args.line, inl (c.in-Some-large_block.ensures.1, c.in-Some-large_block.ensures.2)) })

pub enter-requires-clause-clear : goal.enter-requires-clause-clear
enter-requires-clause-clear c =
    all_clear c.args.line (above_of c.args.draft.now) c.args.x (c.requires.named c.args.line)
    (no_arguments c.args.line (above_of c.args.draft.now) c.args.x c.requires.other) (no_views c.args.line (above_of c.args.draft.now) c.args.x c.requires.other)
    (place_clear c.args.line (above_of c.args.draft.now) c.args.x (λ h. absurd (cc (c.if-is_misplaced.ensures.1 h))))
    (c.in_default.ensures c.args.line, (c.in_default-large_block.ensures, (no_large_task c.args.line (above_of c.args.draft.now) c.args.x c.requires.other, tt)))

pub returns-clause-clear : goal.returns-clause-clear
returns-clause-clear c =
    all_clear c.args.line (above_of c.args.draft.now) c.args.x (c.requires.named c.args.line)
    (no_arguments c.args.line (above_of c.args.draft.now) c.args.x c.requires.other) (no_views c.args.line (above_of c.args.draft.now) c.args.x c.requires.other)
    (place_clear c.args.line (above_of c.args.draft.now) c.args.x (λ h. absurd (cc (c.if-is_misplaced.ensures.1 h))))
    (c.in_default.ensures c.args.line, (c.in_default-large_block.ensures, (no_large_task c.args.line (above_of c.args.draft.now) c.args.x c.requires.other, tt)))
