use Rattle.std.proofs.Common.{Some, refl, subst}
use Rattle.group_world.specs.declared.shared.TaskMemory.{TaskMemory}
use Rattle.group_world.specs.Setting.{SetsMemory}
use Rattle.group_world.proofs.Views.{the_memory}
use Rattle.group_world.proofs.shared.set_memory.Goals as goal

pub returns : goal.returns
returns c = λ s is.
    let e = c.set_variable.ensures in
    let here = c.in-Some.memory in
    let after = Some (record { variables = c.set_variable.new.variables; tickets = here.tickets }) in
    subst (λ (x : TaskMemory). SetsMemory c.args.verified.now.config c.args.task x c.args.path.now c.args.value c.set_variable.result after) (the_memory c.args.memory.now here s c.in-Some.is is) (c.set_variable.new.variables, refl, e.fits, e.own, e.set)
