use Rattle.std.proofs.Common.{ap, sym, ◌∙◌, subst}
use Rattle.std.specs.Prelude.{is_some}
use Rattle.il_syntax.specs.declared.tree.Config.{Config}
use Rattle.group_spec.specs.World.{Group, task_at}
use Rattle.group_world.specs.Groups.{GroupOf}
use Rattle.group_world.specs.Running.{memory_at, SharedFits, HoldsShared, group_in}
use Rattle.group_world.specs.Setting.{SetsTask}
use Rattle.group_world.proofs.Grouped.{config_here, group_here, task_some}
use Rattle.group_world.proofs.Setting.{variable_holds, variable_set}
use Rattle.group_world.proofs.Views.{some_of}
use Rattle.group_world.proofs.group.Core.set_variable.Goals as goal

pub set_variable-requires-clause-there : goal.set_variable-requires-clause-there
set_variable-requires-clause-there c = sym (task_some c.self.inside.program.value.config c.self.inside.shared c.args.task) ∙ ap (λ (k : GroupOf). is_some (task_at k.group c.args.task)) c.self.view_is ∙ c.requires.there

pub set_variable-requires-clause-fits : goal.set_variable-requires-clause-fits
set_variable-requires-clause-fits c = subst (λ (k : Config). SharedFits k c.self.inside.shared) (config_here c.self.inside.program.value.config c.self.inside.shared c.args.self.now c.self.view_is _ c.requires.program) c.self.invariant.fits

pub invariant_of-self : goal.invariant_of-self
invariant_of-self c =
    let config = c.args.verified.now.config in
    let same = config_here c.self.inside.program.value.config c.self.inside.shared c.args.self.now c.self.view_is _ c.requires.program in
    let holds = subst (λ k. HoldsShared k c.self.inside.shared) same c.self.invariant in
    let s = some_of (memory_at c.self.inside.shared c.args.task) (sym (task_some c.self.inside.program.value.config c.self.inside.shared c.args.task) ∙ ap (λ (k : GroupOf). is_some (task_at k.group c.args.task)) c.self.view_is ∙ c.requires.there) in
    let e = c.set_variable.ensures in
    subst (λ k. HoldsShared k c.set_variable.new.self) (sym same)
    (variable_holds config c.self.inside.shared c.set_variable.new.self holds c.args.task s.0 s.1 c.args.path.now c.args.value c.set_variable.result (e.set s.0 s.1) e.image e.calls e.globals)

pub returns-clause-set : goal.returns-clause-set
returns-clause-set c = λ x u there is.
    let config = c.args.verified.now.config in
    let here = group_here c.self.inside.program.value.config c.self.inside.shared c.args.self.now c.self.view_is config c.requires.program in
    let same = config_here c.self.inside.program.value.config c.self.inside.shared c.args.self.now c.self.view_is _ c.requires.program in
    let holds = subst (λ k. HoldsShared k c.self.inside.shared) same c.self.invariant in
    let s = some_of (memory_at c.self.inside.shared c.args.task) (sym (task_some c.self.inside.program.value.config c.self.inside.shared c.args.task) ∙ ap (λ (k : GroupOf). is_some (task_at k.group c.args.task)) c.self.view_is ∙ c.requires.there) in
    let after = c.set_variable.new.self in
    let e = c.set_variable.ensures in
    subst (λ (k : Config). SetsTask config c.args.task u x c.args.self.now.group c.args.path.now c.args.value c.set_variable.result (group_in k after)) (sym same)
    (subst (λ (g : Group). SetsTask config c.args.task u x g c.args.path.now c.args.value c.set_variable.result (group_in config after)) here
    (variable_set config c.self.inside.shared after holds c.args.task s.0 s.1 c.args.path.now c.args.value c.set_variable.result (e.set s.0 s.1) e.image e.calls e.globals x u (ap (λ g. task_at g c.args.task) here ∙ there) is))
