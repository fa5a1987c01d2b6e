use Rattle.load_types.proofs.Inputs.{own_more}
use Rattle.load_types.proofs.functions.own_function_fault.Goals as goal

pub returns-in-len1-up : goal.returns-in-len1-up
returns-in-len1-up g c =
    own_more (g.S.Scope.config c.args.scope.now) (g.S.Scope.unit c.args.scope.now) c.args.scalars.now c.args.operands.now c.args.before c.elementary.result c.agreement_fault.result c.unless.result c.lower.result c.inputs_fault.result c.lower-in-len1-up.result
    c.in-len1-up.len_at_least c.elementary.ensures c.agreement_fault.ensures c.unless.ensures c.lower.ensures c.inputs_fault.ensures c.lower-in-len1-up.ensures
