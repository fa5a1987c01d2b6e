use Rattle.std.proofs.Common.{ap, sym, ◌∙◌}
use Rattle.std.specs.Prelude.{option_and_then}
use Rattle.base_maps.specs.NameMap.{get}
use Rattle.group_spec.specs.World.{TaskState}
use Rattle.group_world.proofs.Grouped.{copied_is, copied_none}
use Rattle.group_world.proofs.Here.{none_so, holds_here, task_here}
use Rattle.group_world.proofs.group.Core.variable.Goals as goal

pub variable-requires : goal.variable-requires
variable-requires c = record {
  fits =
      (let at = copied_is c.memory.result _ c.in-Some.memory c.memory.ensures c.in-Some.is in
      ((holds_here c.self.inside.program.value.config c.self.inside.shared c.self.invariant c.args.self.now c.self.view_is c.args.verified.now.config c.requires).fits.memories c.args.task c.in-Some.memory.now at).0);
}

pub returns-in-Some : goal.returns-in-Some
returns-in-Some c =
    let at = copied_is c.memory.result _ c.in-Some.memory c.memory.ensures c.in-Some.is in
    c.variable.ensures ∙ ap (option_and_then (λ (t : TaskState). get t.variables c.args.path.now)) (sym (task_here c.self.inside.program.value.config c.self.inside.shared c.self.invariant c.args.self.now c.self.view_is c.args.verified.now.config c.requires c.args.task c.in-Some.memory.now at))

pub returns-in-None : goal.returns-in-None
returns-in-None c = ap (option_and_then (λ (t : TaskState). get t.variables c.args.path.now)) (sym (none_so c.self.inside.program.value.config c.self.inside.shared c.self.invariant c.args.self.now c.self.view_is c.args.task (copied_none c.memory.result _ c.memory.ensures c.in-None.is)))
