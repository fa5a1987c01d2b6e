use Rattle.std.proofs.Common.{ap, ◌∙◌, option_and_then}
use Rattle.il_statics.specs.Types.{instance_block, member_form}
use Rattle.load_scope.specs.Units.{scalar_of}
use Rattle.ranges_laws.specs.Facts.{Names}
use Rattle.ranges_pass.proofs.Owned.{member_is}
use Rattle.ranges_pass.proofs.numbered_unit.NumberedUnit.member.Goals as goal

pub returns : goal.returns
returns c = λ block is. member_is c.args.self.now c.args.name.now block c.args.word.now c.member_scalar.result is (c.member_scalar.ensures ∙ ap (λ (n : Names). scalar_of (option_and_then (member_form c.args.word.now) (instance_block n.config n.unit c.args.name.now))) c.self.view_is)
