use Rattle.std.proofs.Common.{ap, ◌∙◌}
use Rattle.group_spec.specs.World.{started_group, task_at}
use Rattle.group_world.specs.Running.{memory_at}
use Rattle.group_world.specs.Groups.{GroupOf}
use Rattle.group_world.proofs.Views.{some_of}
use Rattle.group_world.proofs.Grouped.{started_holds, group_started}
use Rattle.group_world.proofs.Here.{memory_so}
use Rattle.group_world.proofs.group.Core.start.Goals as goal

pub open-requires : goal.open-requires
open-requires c = record { there = memory_so c.self.inside.program.value.config c.self.inside.shared c.self.invariant c.args.self.now c.self.view_is c.args.task c.requires.there }

pub invariant_of-self : goal.invariant_of-self
invariant_of-self c =
    let s = some_of (memory_at c.self.inside.shared c.args.task) (memory_so c.self.inside.program.value.config c.self.inside.shared c.self.invariant c.args.self.now c.self.view_is c.args.task c.requires.there) in
    let e = c.open.ensures in
    started_holds c.self.inside.program.value.config c.self.inside.shared c.open.new.self c.self.invariant c.args.task s.0 s.1 e.shared.0 e.shared.1 e.shared.2 (e.memories s.0 s.1)

pub returns-clause-group : goal.returns-clause-group
returns-clause-group c = λ x there.
    let s = some_of (memory_at c.self.inside.shared c.args.task) (memory_so c.self.inside.program.value.config c.self.inside.shared c.self.invariant c.args.self.now c.self.view_is c.args.task c.requires.there) in
    let e = c.open.ensures in
    group_started c.self.inside.program.value.config c.self.inside.shared c.open.new.self c.self.invariant c.args.task s.0 s.1 e.shared.0 e.shared.1 e.shared.2 (e.memories s.0 s.1) x (ap (λ (k : GroupOf). task_at k.group c.args.task) c.self.view_is ∙ there)
    ∙ ap (λ (k : GroupOf). started_group k.group c.args.task x) c.self.view_is
