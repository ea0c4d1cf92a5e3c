-- The number moved in a region.
use Rattle.std.proofs.Common.{◌≡◌, ℕ, ◌+◌, Bool, List, [], ◌∷◌, ◌++◌, ap, ◌∙◌, arith}
use Rattle.dd_blocks.specs.declared.plan.Plan.{Plan}
use Rattle.dd_blocks.specs.WellFormed.{IsWellFormed}
use Rattle.dd_meaning.specs.Moves.{moved}
use Rattle.dd_machine.specs.declared.entry.Entry.{Entry}
use Rattle.dd_machine.specs.declared.event.Event.TheVariants.{Begin, Close}
use Rattle.dd_machine.specs.Bytes.{when}
use Rattle.dd_machine.specs.Effects.{after}
use Rattle.dd_machine.specs.Made.{was_closed}
use Rattle.dd_machine.specs.Owed.{made}
use Rattle.dd_machine.specs.Runs.{IsLegalRun, start, state_after, state_of_run}
use Rattle.dd_machine.specs.States.{State}
use Rattle.dd_machine.proofs.TotalsLemmas.{total_same}
use Rattle.laws_of_lives.proofs.OrderlyLemmas.{orderly}
use Rattle.laws_of_lives.proofs.RegionsLemmas.{closed_between}
use Rattle.laws_of_moved.proofs.OtherSteps.{all_made}
use Rattle.dd_machine.specs.SoundMoved.{closed_moves, open_moves, regions}
use Rattle.laws_of_machine.proofs.SoundLemmas.{keeps_sound, sound_after, sound_run}
use Rattle.dd_machine.proofs.RunsLemmas.{run_first, run_parts, state_parts}

pub every_moved : (plan : Plan) (before within : List Entry) (region first last : ℕ) → IsWellFormed plan
    → IsLegalRun plan (before ++ (record { line = first; event = Begin region } ∷ (within ++ (record { line = last; event = Close region } ∷ []))))
    → (state_of_run plan (before ++ (record { line = first; event = Begin region } ∷ (within ++ (record { line = last; event = Close region } ∷ []))))).moved ≡ (state_of_run plan before).moved + moved plan region
unfolding state_after
every_moved plan before within region first last well run =
    let end : List Entry = record { line = last; event = Close region } ∷ [] in
    let rest : List Entry = record { line = first; event = Begin region } ∷ (within ++ end) in
    let s0 = state_of_run plan before in
    let s1 = after plan s0 (Begin region) in
    let s2 = state_after plan s1 within in
    let s3 = after plan s2 (Close region) in
    let order = orderly plan well in
    let parts = run_parts plan (start plan) before rest run in
    let begin = run_first plan s0 (record { line = first; event = Begin region }) (within ++ end) parts.1 in
    let may = begin.0.1 in
    let inner = run_parts plan s1 within end begin.1 in
    let close = (run_first plan s2 (record { line = last; event = Close region }) [] inner.1).0.1 in
    let sound0 = sound_run plan before well parts.0 in
    let sound2 = sound_after plan s1 within well order (keeps_sound plan s0 (Begin region) well order sound0 may) inner.0 in
    let moved0 = sound0.moved in
    let moved2 = sound2.moved in
    let ends : state_of_run plan (before ++ rest) ≡ s3 = state_parts plan (start plan) before rest ∙ state_parts plan s1 within end in
    let zero0 = ap (open_moves plan s0) may.outside in
    let open2 = ap (open_moves plan s2) close.open_is in
    let all = all_made plan well order s2 region sound2 close in
    let same : closed_moves plan (made plan s2.progress) ≡ closed_moves plan (made plan s0.progress) =
    total_same (regions plan) (λ q. when (was_closed (made plan s2.progress) q) (moved plan q)) (λ q. when (was_closed (made plan s0.progress) q) (moved plan q))
    (λ q is. ap (λ (t : Bool). when t (moved plan q)) (closed_between plan well s0.progress s2.progress region q may.due (sound2.lives.open_next region close.open_is))) in
    ap (λ (s : State). s.moved) ends ∙ (let h : s2.moved ≡ s0.moved + moved plan region = omega (arith, moved0, moved2, zero0, open2, all, same) in h)
