-- `picked` makes a value of no bytes, whose mark is the one of the call.
use mathlib.Core.Path.{refl}
use mathlib.Core.List.{List, [], ◌∷◌}
use seplogic.Ra.Ura.{Ura}
use mir.Syntax.{Fn, Dict, a_type, dcons, dnil}
use mir.Val.{Val, vstruct, vnil}
use mir.MapTy.{inst_fn}
use base.Logic.{SProp, ent}
use base.Fml.{Fml}
use prog.Memory.{Memory}
use prog.Routine.{Routine}
use prog.Wp.{Calls, Loops, WpFn, Tables}
use types.Logic.{Logic}
use contract.Monad.{Fun}
use contract.Running.{tables, tables_of}
use sound.WpLaws.{WpFn-mono}
use types.Kit.{‵, raw, ◌⊛◌, ◌$◌, ◌∵◌, !, qed, move, keep, split, join, use0, suffices, done}
use types.Run.{no_more, returns, enter}
use types.Part.{agg}
use types.ByLocal.{alloc_all, pass_all, free_all, look_at, sets}
use denote.RattleType.{RattleType, owns}
use denote.Param.{bounded}
use denote.Shadow.{makes_shadow}
use denote.Signature.{types_at, type_at}
use denote.Steps.{nothing}
use denote.Triple.Clauses.{Clauses, closing}
use denote.Triple.Entry.{on_entry, alive}
use denote.Triple.Spec.{Meets, triple_of}
use denote.Triple.Table.{entered}
use denote.Triple.Walked.{says, Stays, walk_of, ends_at, walk_Meets}
use Rattle.dd_mark.specs.declared.told.Mark.{Ghosts}
use Rattle.dd_mark.specs.contracts.told.Told.picked.{ended, clauses}
use Rattle.dd_mark.specs.contracts.told.Told.picked.Key.{name as #self}
use Rattle.dd_mark.proofs.told.Told.picked.Statement as stated
use Rattle.dd_mark.proofs.told.Told.picked.Code as code

module _ (Y : RattleType) (G : Ghosts Y.Denot) (d : Dict) where
  abbrev function : Fn
  function = inst_fn (bounded (a_type ∷ []) (Y, tt) (dcons d dnil)) code.function

  abbrev stayed : Stays (ended Y G d).signature.params (ended Y G d).kept
  stayed = tt

module _ (Y : RattleType) (G : Ghosts Y.Denot) (d : Dict) {M : Type 1} {𝓤 : Ura M} (𝓛 : Logic 𝓤) (at_mem : Memory → SProp 𝓤) (run : Routine → Fun 𝓤) where
  open 𝓛 use {H}

  abbrev held : Clauses 𝓤 (ended Y G d)
  held = clauses Y G d 𝓛 at_mem run

  module _ (C : Calls 𝓤 H) (Λ : Loops 𝓤 H) (z : (walk_of 𝓛 (ended Y G d) (stayed Y G d) held).Ghost) where
    abbrev At : List Val → (walk_of 𝓛 (ended Y G d) (stayed Y G d) held).Ghost
    At us = ((z.0.0, z.0.1, z.0.2, z.0.3, tt), z.1)

    abbrev Post : List Val → Val → SProp 𝓤
    Post us = (walk_of 𝓛 (ended Y G d) (stayed Y G d) held).post (At us)

    abbrev toks : SProp 𝓤
    toks = alive 𝓛 (ended Y G d).signature z.0.0 z.0.1

    abbrev passed : Fml
    passed = owns (types_at (ended Y G d).signature.params z.0.0) z.0.3 tt

    walks : ent 𝓤 ((walk_of 𝓛 (ended Y G d) (stayed Y G d) held).pre (At [])) (WpFn 𝓤 H C Λ (function Y G d) [] (Post []))
    walks =
        let v : Val = vstruct vnil in let r : denote.Triple.Entry.Res (ended Y G d).signature z.0.0 = record { mark = G.told } in
        let O : Fml = (type_at (ended Y G d).signature.result z.0.0).own_val r (v ∷ []) in
        qed 𝓛 ((raw toks ⊛ ‵ passed) ∷ raw ((held z.0.0 z.0.3).requires z.1) ∷ []) ∵ split ! $ keep ! (0 ∷ []) $
        enter ! C Λ (function Y G d) [] _ $ alloc_all ! (λ l. pass_all ! refl tt $
        sets ! (agg ! (no_more !)) refl (tt, tt) $
        returns ! (look_at ! 0 refl) $ free_all ! refl $
        use0 𝓛 (‵ O) (makes_shadow 𝓛 O ((λ uss. (tt, tt)), tt) ((tt, (refl, tt)), tt)) $
        suffices ! _ (ends_at 𝓛 (ended Y G d) (stayed Y G d) held (At []) v r tt tt) $ says ! refl $
        nothing ! $ join ! $ move ! (1 ∷ 0 ∷ []) $ join ! $ done !)

  meets : (𝓣 : Tables 𝓤 H) → Meets 𝓛 (ended Y G d).signature (WpFn 𝓤 H 𝓣.C 𝓣.Λ (function Y G d)) (closing 𝓛 (ended Y G d) held)
  meets 𝓣 =
      walk_Meets 𝓛 (ended Y G d) (stayed Y G d) tt held
      (WpFn 𝓤 H 𝓣.C 𝓣.Λ (function Y G d)) (WpFn-mono 𝓤 H 𝓛.laws 𝓣 (function Y G d))
      (λ z. walks 𝓣.C 𝓣.Λ z)

pub picked_spec : {M : Type 1} → stated.statement M
unfolding tables_of
picked_spec 𝓤 𝓛 𝓜 𝓡 wired Y laws G d met =
    let 𝓣 : Tables 𝓤 𝓛.H = tables_of 𝓤 𝓛.H 𝓜 (tables 𝓤 𝓛.H 𝓜 𝓡 𝓡.env) in
    entered 𝓤 𝓛.H (triple_of 𝓛 (ended Y G d).signature (closing 𝓛 (ended Y G d) (clauses Y G d 𝓛 𝓜.mem 𝓡.returns))) 𝓣.C 𝓣.Λ (#self (bounded (a_type ∷ []) (Y, tt) (dcons d dnil))) (function Y G d) (code.unfolded 𝓤 𝓛.H 𝓜 𝓡 wired (Y, tt) d)
    (meets Y G d 𝓛 𝓜.mem 𝓡.returns 𝓣)
