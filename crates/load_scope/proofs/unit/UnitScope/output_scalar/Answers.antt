use Rattle.std.proofs.Common.{option_and_then}
use Rattle.il_statics.specs.Names.{entry_of}
use Rattle.il_statics.specs.Types.{instance_block}
use Rattle.load_scope.proofs.unit.UnitScope.output_scalar.Goals as goal

pub returns : goal.returns
returns c = c.scalar_if.ensures c.args.self.now.config (option_and_then (λ b. entry_of b.outputs c.args.word.now) (instance_block c.args.self.now.config c.args.self.now.unit c.args.name.now)) c.output.ensures
