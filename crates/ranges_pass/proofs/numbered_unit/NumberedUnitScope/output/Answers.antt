use Rattle.std.proofs.Common.{ap, ◌∙◌, option_and_then}
use Rattle.il_statics.specs.Names.{entry_of}
use Rattle.il_statics.specs.Types.{instance_block}
use Rattle.load_scope.specs.Units.{scalar_of}
use Rattle.ranges_laws.specs.Facts.{Names}
use Rattle.ranges_pass.proofs.Owned.{output_is}
use Rattle.ranges_pass.proofs.numbered_unit.NumberedUnitScope.output.Goals as goal

pub returns : goal.returns
returns c = λ block is. output_is c.args.self.now c.args.name.now block c.args.word.now c.output_scalar.result is (c.output_scalar.ensures ∙ ap (λ (n : Names). scalar_of (option_and_then (λ b. entry_of b.outputs c.args.word.now) (instance_block n.config n.unit c.args.name.now))) c.self.view_is)
