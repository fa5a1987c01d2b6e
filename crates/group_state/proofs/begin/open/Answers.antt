use Rattle.std.proofs.Common.{subst}
use Rattle.group_spec.specs.declared.image.Sizes.{Sizes}
use Rattle.trace_text.specs.Fronts.{RefusesFront}
use Rattle.group_state.proofs.Beginning.{ok_both, few_opened, unread}
use Rattle.group_state.proofs.begin.open.Goals as goal

pub returns-in-Ok-clause-few : goal.returns-in-Ok-clause-few
returns-in-Ok-clause-few c =
    ok_both _ _ _ c.opened.result (λ b events lines. few_opened c.sizes.result.cars c.args.text.now c.in-Ok.front.events b.events c.in-Ok.front.cut b.lines c.in-Ok.ensures events lines)
    c.opened.ensures.events c.opened.ensures.lines

pub returns-in-Err-clause-fault : goal.returns-in-Err-clause-fault
returns-in-Err-clause-fault c source =
    unread c.args.verified.config source c.args.text.now c.in-Err.fault c.fault_of.result c.requires
    (subst (λ (s : Sizes). RefusesFront s.cars c.args.text.now c.in-Err.fault) c.sizes.ensures c.in-Err.ensures) c.fault_of.ensures
