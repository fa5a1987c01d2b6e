use Rattle.std.proofs.Common.{refl, rules, ◌≡◌, true, false, ap, sym, ◌∙◌, subst}
use Rattle.std.specs.Prelude.{is_some}
use Rattle.scan_task.specs.Standing.{StillHas}
use Rattle.scan_task.proofs.Keeping.{start_has}
use Rattle.group_spec.specs.Snapshot.{scan_begins}
use Rattle.group_spec.specs.World.{beginning_of}
use Rattle.group_world.proofs.Views.{here, some_of, within}
use Rattle.group_world.proofs.Here.{memory_so, holds_here, begins_well, begins_here}
use Rattle.group_world.proofs.group.Core.fill.Goals as goal

pub index-requires : goal.index-requires
index-requires c =
    let s = some_of _ (memory_so c.self.inside.program.value.config c.self.inside.shared c.self.invariant c.args.self.now c.self.view_is c.args.task c.requires.there) in
    let below = within c.self.inside.shared.memories.items c.args.task s.0 s.1 in
    search (rules, below, c.from.ensures)

pub unreachable-requires : goal.unreachable-requires
unreachable-requires c =
    let there = memory_so c.self.inside.program.value.config c.self.inside.shared c.self.invariant c.args.self.now c.self.view_is c.args.task c.requires.there in
    let some = ap is_some (sym (here _ _ _ _ c.from.ensures c.index.ensures there)) ∙ there in
    let bad : false ≡ true = ap is_some (sym c.in_default.is) ∙ some in
    cc

pub restart-requires-clause-begin : goal.restart-requires-clause-begin
restart-requires-clause-begin c =
    let at = here _ _ _ _ c.from.ensures c.index.ensures (memory_so c.self.inside.program.value.config c.self.inside.shared c.self.invariant c.args.self.now c.self.view_is c.args.task c.requires.there) ∙ c.in-Some.is in
    begins_well c.self.inside.program.value.config c.self.inside.shared c.self.invariant c.args.self.now c.self.view_is c.args.verified.now.config c.requires.program c.args.task c.in-Some.memory at _ refl refl refl refl

pub returns-clause-begins : goal.returns-clause-begins
returns-clause-begins c = λ x there.
    let config = c.args.verified.now.config in
    let at = here _ _ _ _ c.from.ensures c.index.ensures (memory_so c.self.inside.program.value.config c.self.inside.shared c.self.invariant c.args.self.now c.self.view_is c.args.task c.requires.there) ∙ c.in-Some.is in
    c.restart.ensures.begins ∙ ap (scan_begins config c.args.task) (begins_here c.self.inside.program.value.config c.self.inside.shared c.self.invariant c.args.self.now c.self.view_is config c.requires.program c.args.task c.in-Some.memory at x there)

pub returns-clause-kept : goal.returns-clause-kept
returns-clause-kept c = λ x there.
    let config = c.args.verified.now.config in
    let at = here _ _ _ _ c.from.ensures c.index.ensures (memory_so c.self.inside.program.value.config c.self.inside.shared c.self.invariant c.args.self.now c.self.view_is c.args.task c.requires.there) ∙ c.in-Some.is in
    let own = (holds_here c.self.inside.program.value.config c.self.inside.shared c.self.invariant c.args.self.now c.self.view_is config c.requires.program).fits.memories c.args.task c.in-Some.memory at in
    let begins = c.restart.ensures.begins ∙ ap (scan_begins config c.args.task) (begins_here c.self.inside.program.value.config c.self.inside.shared c.self.invariant c.args.self.now c.self.view_is config c.requires.program c.args.task c.in-Some.memory at x there) in
    subst (StillHas x.variables) (sym begins) (start_has config c.args.task own.0.0 own.0.1 (beginning_of c.args.self.now.group x))
