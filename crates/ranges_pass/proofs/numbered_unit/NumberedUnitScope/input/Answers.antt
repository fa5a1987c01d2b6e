use Rattle.std.proofs.Common.{ap, ◌∙◌, option_and_then}
use Rattle.il_statics.specs.Names.{entry_of}
use Rattle.il_statics.specs.Types.{instance_block}
use Rattle.load_scope.specs.Units.{scalar_of}
use Rattle.ranges_laws.specs.Facts.{Names}
use Rattle.ranges_pass.proofs.Owned.{input_is}
use Rattle.ranges_pass.proofs.numbered_unit.NumberedUnitScope.input.Goals as goal

pub returns : goal.returns
returns c = λ block is. input_is c.args.self.now c.args.name.now block c.args.word.now c.input_scalar.result is (c.input_scalar.ensures ∙ ap (λ (n : Names). scalar_of (option_and_then (λ b. entry_of b.inputs c.args.word.now) (instance_block n.config n.unit c.args.name.now))) c.self.view_is)
