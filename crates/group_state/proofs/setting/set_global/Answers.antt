use Rattle.std.proofs.Common.{subst}
use Rattle.base_maps.specs.NameMap.{Text}
use Rattle.group_world.specs.Setting.{SetsGlobal}
use Rattle.group_state.proofs.Placing.{global_set}
use Rattle.group_state.proofs.setting.set_global.Goals as goal

pub returns-clause-group : goal.returns-clause-group
returns-clause-group c =
    let config = c.args.verified.now.config in
    let before = c.args.core.now.group in
    global_set config c.config-config.ensures.runnable before c.args.cell.now c.args.value c.set_global-set.result c.set_global-set.new.self.group c.requires.cell c.requires.value
    (subst (λ (p : Text). SetsGlobal config before p c.args.value c.set_global-set.result c.set_global-set.new.self.group) c.as_str.ensures c.set_global-set.ensures.set)
