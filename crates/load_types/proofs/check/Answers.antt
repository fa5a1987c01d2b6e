use Rattle.load_types.proofs.Units.{refused_by}
use Rattle.std.proofs.Common.{subst}
use Rattle.il_statics.specs.Written.{HasFewInstructions}
use Rattle.load_types.proofs.Short.{few_short}
use Rattle.load_types.proofs.check.Goals as goal

pub returns-in-Some-clause-refused : goal.returns-in-Some-clause-refused
returns-in-Some-clause-refused c = refused_by c.args.names.now c.in_ok-found.field-0 c.in-Some.found c.refusal.result c.in_ok-found.ensures c.in-Some.is c.refusal.ensures

pub returns-in-None-clause-accepted : goal.returns-in-None-clause-accepted
returns-in-None-clause-accepted c = c.in_ok-found.ensures.none c.in-None.is

pub types_fault-requires : goal.types_fault-requires
types_fault-requires c = record { room = few_short c.args.names.now (subst HasFewInstructions c.written.ensures c.tree-few.ensures.few) }
