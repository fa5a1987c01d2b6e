use Rattle.std.proofs.Common.{ap, sym, ◌∙◌, subst}
use Rattle.il_syntax.specs.declared.tree.Config.{Config}
use Rattle.base_maps.specs.NameMap.{get}
use Rattle.scan_task.specs.Sharing.{globals_in, FitsGlobals}
use Rattle.group_world.specs.Groups.{GroupOf}
use Rattle.group_world.proofs.Grouped.{config_here}
use Rattle.group_world.proofs.group.Core.global.Goals as goal

pub global-requires : goal.global-requires
global-requires c = record { fits = subst (λ (k : Config). FitsGlobals k c.self.inside.shared.globals) (config_here c.self.inside.program.value.config c.self.inside.shared c.args.self.now c.self.view_is _ c.requires) c.self.invariant.fits.globals }

pub returns : goal.returns
returns c =
    c.global.ensures ∙ ap (λ k. get (globals_in k c.self.inside.shared.globals) c.args.path.now) (sym (config_here c.self.inside.program.value.config c.self.inside.shared c.args.self.now c.self.view_is _ c.requires))
    ∙ ap (λ (k : GroupOf). get k.group.globals c.args.path.now) c.self.view_is
