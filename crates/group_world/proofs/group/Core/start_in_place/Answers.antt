use Rattle.std.proofs.Common.{refl, rules, ◌≡◌, true, false, ap, sym, ◌∙◌}
use Rattle.std.specs.Prelude.{is_some}
use Rattle.group_spec.specs.Snapshot.{scan_begins}
use Rattle.group_spec.specs.World.{started_group, task_at}
use Rattle.group_world.specs.Running.{memory_at, task_in}
use Rattle.group_world.specs.Groups.{GroupOf}
use Rattle.group_world.proofs.Views.{here, some_of, within}
use Rattle.group_world.proofs.Grouped.{started_holds, group_started}
use Rattle.group_world.proofs.Here.{memory_so, task_here, begins_well, begins_here}
use Rattle.group_world.proofs.group.Core.start_in_place.Goals as goal

pub index-requires : goal.index-requires
index-requires c =
    let s = some_of _ (memory_so c.self.inside.program.value.config c.self.inside.shared c.self.invariant c.args.self.now c.self.view_is c.args.task c.requires.there) in
    let below = within c.self.inside.shared.memories.items c.args.task s.0 s.1 in
    search (rules, below, c.from.ensures)

pub unreachable-requires : goal.unreachable-requires
unreachable-requires c =
    let there = memory_so c.self.inside.program.value.config c.self.inside.shared c.self.invariant c.args.self.now c.self.view_is c.args.task c.requires.there in
    let some = ap is_some (sym (here _ _ _ _ c.from.ensures c.index.ensures there)) ∙ there in
    let bad : false ≡ true = ap is_some (sym c.in_default.is) ∙ some in
    cc

pub restart_in_place-requires-clause-begin : goal.restart_in_place-requires-clause-begin
restart_in_place-requires-clause-begin c =
    let at = here _ _ _ _ c.from.ensures c.index.ensures (memory_so c.self.inside.program.value.config c.self.inside.shared c.self.invariant c.args.self.now c.self.view_is c.args.task c.requires.there) ∙ c.in-Some.is in
    begins_well c.self.inside.program.value.config c.self.inside.shared c.self.invariant c.args.self.now c.self.view_is c.args.verified.now.config c.requires.program c.args.task c.in-Some.memory at _ refl refl refl refl

pub restart_in_place-requires-clause-kept : goal.restart_in_place-requires-clause-kept
restart_in_place-requires-clause-kept c =
    let config = c.args.verified.now.config in
    let at = here _ _ _ _ c.from.ensures c.index.ensures (memory_so c.self.inside.program.value.config c.self.inside.shared c.self.invariant c.args.self.now c.self.view_is c.args.task c.requires.there) ∙ c.in-Some.is in
    (c.requires.kept (task_in config c.args.task c.in-Some.memory) (task_here c.self.inside.program.value.config c.self.inside.shared c.self.invariant c.args.self.now c.self.view_is config c.requires.program c.args.task c.in-Some.memory at))

pub open-requires : goal.open-requires
open-requires c = record { there = memory_so c.self.inside.program.value.config c.self.inside.shared c.self.invariant c.args.self.now c.self.view_is c.args.task c.requires.there }

pub invariant_of-self : goal.invariant_of-self
invariant_of-self c =
    let s = some_of (memory_at c.self.inside.shared c.args.task) (memory_so c.self.inside.program.value.config c.self.inside.shared c.self.invariant c.args.self.now c.self.view_is c.args.task c.requires.there) in
    let e = c.open.ensures in
    started_holds c.self.inside.program.value.config c.self.inside.shared c.open.new.self c.self.invariant c.args.task s.0 s.1 e.shared.0 e.shared.1 e.shared.2 (e.memories s.0 s.1)

pub returns-clause-group : goal.returns-clause-group
returns-clause-group c = λ x there.
    let s = some_of (memory_at c.self.inside.shared c.args.task) (memory_so c.self.inside.program.value.config c.self.inside.shared c.self.invariant c.args.self.now c.self.view_is c.args.task c.requires.there) in
    let e = c.open.ensures in
    group_started c.self.inside.program.value.config c.self.inside.shared c.open.new.self c.self.invariant c.args.task s.0 s.1 e.shared.0 e.shared.1 e.shared.2 (e.memories s.0 s.1) x (ap (λ (k : GroupOf). task_at k.group c.args.task) c.self.view_is ∙ there)
    ∙ ap (λ (k : GroupOf). started_group k.group c.args.task x) c.self.view_is

pub returns-clause-begins : goal.returns-clause-begins
returns-clause-begins c = λ x there.
    let config = c.args.verified.now.config in
    let at = here _ _ _ _ c.from.ensures c.index.ensures (memory_so c.self.inside.program.value.config c.self.inside.shared c.self.invariant c.args.self.now c.self.view_is c.args.task c.requires.there) ∙ c.in-Some.is in
    c.restart_in_place.ensures.begins ∙ ap (scan_begins config c.args.task) (begins_here c.self.inside.program.value.config c.self.inside.shared c.self.invariant c.args.self.now c.self.view_is config c.requires.program c.args.task c.in-Some.memory at x there)
