use Rattle.std.proofs.Common.{subst}
use Rattle.base_maps.specs.NameMap.{Text}
use Rattle.group_world.specs.Setting.{SetsVariable}
use Rattle.group_state.proofs.Placing.{variable_set}
use Rattle.group_state.proofs.setting.set_variable.Goals as goal

pub returns-clause-group : goal.returns-clause-group
returns-clause-group c =
    let config = c.args.verified.now.config in
    let before = c.args.core.now.group in
    variable_set config c.config-config.ensures.runnable c.args.task before c.args.cell.now c.args.value c.set_variable-set.result c.set_variable-set.new.self.group c.requires.cell c.requires.value
    (subst (λ (p : Text). SetsVariable config c.args.task before p c.args.value c.set_variable-set.result c.set_variable-set.new.self.group) c.as_str.ensures c.set_variable-set.ensures.set)
