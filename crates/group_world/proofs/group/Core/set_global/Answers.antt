use Rattle.std.proofs.Common.{sym, refl, subst}
use Rattle.il_syntax.specs.declared.tree.Config.{Config}
use Rattle.group_spec.specs.World.{Group}
use Rattle.group_world.specs.Running.{HoldsShared, group_in}
use Rattle.group_world.specs.Setting.{SetsGlobal}
use Rattle.group_world.proofs.Grouped.{config_here, group_here}
use Rattle.group_world.proofs.Here.{holds_here}
use Rattle.group_world.proofs.Setting.{globals_hold, global_set}
use Rattle.group_world.proofs.group.Core.set_global.Goals as goal

pub set_global-requires-clause-fits : goal.set_global-requires-clause-fits
set_global-requires-clause-fits c = (holds_here c.self.inside.program.value.config c.self.inside.shared c.self.invariant c.args.self.now c.self.view_is c.args.verified.now.config c.requires.program).fits.globals

pub set_global-requires-clause-shared : goal.set_global-requires-clause-shared
set_global-requires-clause-shared c = (holds_here c.self.inside.program.value.config c.self.inside.shared c.self.invariant c.args.self.now c.self.view_is c.args.verified.now.config c.requires.program).ranges.globals

pub invariant_of-self : goal.invariant_of-self
invariant_of-self c =
    let config = c.args.verified.now.config in
    let k = c.self.inside.shared in
    let after = record k { globals = c.set_global.new.globals } in
    let e = c.set_global.ensures in
    subst (λ x. HoldsShared x after) (sym (config_here c.self.inside.program.value.config c.self.inside.shared c.args.self.now c.self.view_is config c.requires.program)) (globals_hold config k after (holds_here c.self.inside.program.value.config c.self.inside.shared c.self.invariant c.args.self.now c.self.view_is config c.requires.program) refl refl refl e.fits e.shared)

pub returns-clause-set : goal.returns-clause-set
returns-clause-set c =
    let config = c.args.verified.now.config in
    let k = c.self.inside.shared in
    let after = record k { globals = c.set_global.new.globals } in
    let path = c.args.path.now in
    let result = c.set_global.result in
    subst (λ (x : Config). SetsGlobal config c.args.self.now.group path c.args.value result (group_in x after)) (sym (config_here c.self.inside.program.value.config c.self.inside.shared c.args.self.now c.self.view_is config c.requires.program))
    (subst (λ (g : Group). SetsGlobal config g path c.args.value result (group_in config after)) (group_here c.self.inside.program.value.config c.self.inside.shared c.args.self.now c.self.view_is config c.requires.program)
    (global_set config k after (holds_here c.self.inside.program.value.config c.self.inside.shared c.self.invariant c.args.self.now c.self.view_is config c.requires.program) refl refl refl path c.args.value result c.set_global.ensures.set))
