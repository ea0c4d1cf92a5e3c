use Rattle.std.proofs.Common.{ap, inl, subst, sym, ◌∙◌}
use Rattle.dd_check.specs.declared.fault.AcceptFault.{AcceptFault}
use Rattle.dd_check.specs.Faults.{IsAcceptFault, IsOnlyFaultOf}
use Rattle.dd_session.specs.declared.status.Status.TheVariants.{Script}
use Rattle.dd_session.proofs.one_worker.run_one.Goals as goal

pub returns-in-Err-Script-clause-complete : goal.returns-in-Err-Script-clause-complete
returns-in-Err-Script-clause-complete g c = λ faultless write disk.
    let found : IsOnlyFaultOf c.args.text.now c.in-Err-Script.fault = subst (λ (e : AcceptFault). IsAcceptFault e c.args.text.now) c.in-Err-Script.field-0-is c.in-Err-Script.ensures.fault in
    absurd (faultless c.in-Err-Script.fault found.is)

pub returns-in-Err-Script-clause-refused : goal.returns-in-Err-Script-clause-refused
returns-in-Err-Script-clause-refused g c = λ fault is.
    let found : IsOnlyFaultOf c.args.text.now c.in-Err-Script.fault = subst (λ (e : AcceptFault). IsAcceptFault e c.args.text.now) c.in-Err-Script.field-0-is c.in-Err-Script.ensures.fault in
    inl (c.unrun.ensures.status ∙ ap Script (c.in-Err-Script.fault-is ∙ sym (found.only fault is)))

pub returns-clause-refused : goal.returns-clause-refused
returns-clause-refused g c = λ fault is. absurd (c.in-Ok.ensures.plan.faultless fault is)
