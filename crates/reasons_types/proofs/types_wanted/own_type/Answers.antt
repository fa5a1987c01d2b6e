use Rattle.std.proofs.Common.{None, sym, ap}
use Rattle.il_statics.specs.Names.{function_named}
use Rattle.reasons_types.specs.TypeReasons.{function_type}
use Rattle.reasons_types.proofs.TypeInputs.{own_is}
use Rattle.reasons_types.proofs.types_wanted.own_type.Goals as goal

pub returns-in-Some : goal.returns-in-Some
returns-in-Some c = own_is (function_named c.args.scope.now.config c.args.name.now) c.in-Some.scalars.now c.first_type.result c.in-Some.ensures.some c.first_type.ensures

pub returns-in-None : goal.returns-in-None
returns-in-None c = ap (function_type None) (sym (c.own_inputs.ensures.none c.in-None.is))
