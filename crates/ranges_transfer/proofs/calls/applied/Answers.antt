use Rattle.std.proofs.Common.{sym, [], ◌∷◌}
use Rattle.ranges_transfer.proofs.Inputs.{applied_some, one_operand, two_operands, applied_many}
use Rattle.ranges_transfer.proofs.calls.applied.Goals as goal

pub returns-in_default : goal.returns-in_default
returns-in_default g c =
    let n = g.S.Scope.names c.args.scope.now in
    sym (applied_many n c.args.row.now n.config n.unit c.args.function c.args.first c.in_ok-first.first c.args.operands.now c.in_ok-first.was c.in_default.len_at_least)

pub returns-in-len1 : goal.returns-in-len1
returns-in-len1 g c =
    let os = c.args.operands.now in
    let same = one_operand os c.a-item.result c.in-len1.len_at_least c.in-len1.len_below c.a-item.is in
    applied_some (g.S.Scope.names c.args.scope.now) c.args.row.now c.args.function c.args.first c.in_ok-first.first os (c.a-item.result ∷ []) c.applied_with_one.result c.in_ok-first.was same c.applied_with_one.ensures

pub returns-in-len2 : goal.returns-in-len2
returns-in-len2 g c =
    let os = c.args.operands.now in
    let a = c.a-item-then-operands-lt3.result in
    let same = two_operands os a c.b-item.result c.in-len2.len_at_least c.in-len2.len_below c.a-item-then-operands-lt3.is c.b-item.is in
    applied_some (g.S.Scope.names c.args.scope.now) c.args.row.now c.args.function c.args.first c.in_ok-first.first os (a ∷ c.b-item.result ∷ []) c.applied_with_two.result c.in_ok-first.was same c.applied_with_two.ensures
