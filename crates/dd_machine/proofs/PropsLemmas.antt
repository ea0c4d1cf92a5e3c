-- There is one way at most in which an event is legal, and in which entries are a run.
use Rattle.std.proofs.Common.{ℕ, zero, suc, List, [], ◌∷◌}
use Rattle.std.proofs.Props.{props}
use Rattle.std.specs.Coded.{×_prop, Unit-prop}
use Rattle.dd_blocks.specs.declared.plan.Plan.{Plan}
use Rattle.dd_machine.specs.declared.entry.Entry.{Entry}
use Rattle.dd_machine.specs.declared.event.Event.{Event}
use Rattle.dd_machine.specs.declared.event.Event.TheVariants.{Ask, Rest, Put, Shift, Free, Begin, Hold, Pick, Gone, Make, Call, Come, Lend, Copy, Claim, Finish, Back, Close}
use Rattle.dd_machine.specs.Effects.{after}
use Rattle.dd_machine.specs.Legal.{Legal, May, MayFetch}
use Rattle.dd_machine.specs.Runs.{IsRun}
use Rattle.dd_machine.specs.States.{State}

MayFetch-prop : (st : State) (task block : ℕ) → IsProp (MayFetch st task block)
MayFetch-prop st zero block = hlevel props
MayFetch-prop st (suc t) block = hlevel props

pub May-prop : (plan : Plan) (st : State) (event : Event) → IsProp (May plan st event)
May-prop plan st (Ask space block) = hlevel props
May-prop plan st Rest = hlevel props
May-prop plan st (Put block) = hlevel props
May-prop plan st (Shift block space) = hlevel props
May-prop plan st (Free space block) = hlevel props
May-prop plan st (Begin region) = hlevel props
May-prop plan st (Hold task) = hlevel props
May-prop plan st (Pick space block) = hlevel props
May-prop plan st (Gone space block) = hlevel props
May-prop plan st (Make task block) = hlevel props
May-prop plan st (Call space block) = hlevel props
May-prop plan st (Come space block) = hlevel props
May-prop plan st (Lend task block source) = hlevel (props, MayFetch-prop)
May-prop plan st (Copy task block source count) = hlevel (props, MayFetch-prop)
May-prop plan st (Claim task worker) = hlevel props
May-prop plan st (Finish task) = hlevel props
May-prop plan st (Back block source count) = hlevel (props, MayFetch-prop)
May-prop plan st (Close region) = hlevel props

pub Legal-prop : (plan : Plan) (st : State) (entry : Entry) → IsProp (Legal plan st entry)
Legal-prop plan st entry = ×_prop (hlevel props) (May-prop plan st entry.event)

pub IsRun-prop : (plan : Plan) (st : State) (entries : List Entry) → IsProp (IsRun plan st entries)
unfolding IsRun
IsRun-prop plan st [] = Unit-prop
IsRun-prop plan st (entry ∷ entries) = ×_prop (Legal-prop plan st entry) (IsRun-prop plan (after plan st entry.event) entries)
