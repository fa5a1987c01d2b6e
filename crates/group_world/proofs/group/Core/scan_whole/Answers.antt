use Rattle.std.proofs.Common.{refl, rules, ◌≡◌, true, false, map, ap, ap₂, sym, ◌∙◌, subst}
use Rattle.std.specs.Prelude.{is_some}
use Rattle.std.proofs.lemmas.List.{length-map}
use Rattle.il_semantics.specs.State.{State}
use Rattle.il_semantics.specs.Scan.{Reaches}
use Rattle.group_spec.specs.Snapshot.{scan_begins}
use Rattle.group_spec.specs.World.{committed_group}
use Rattle.group_spec.specs.Calls.{ticket_of}
use Rattle.group_world.specs.Running.{task_in, group_in, HoldsShared}
use Rattle.group_world.proofs.Views.{here, some_of, within}
use Rattle.group_world.proofs.Grouped.{config_here, group_here, known_of, committed_holds}
use Rattle.group_world.proofs.Here.{memory_so, holds_here, task_here, task_so, begins_well, begins_here}
use Rattle.group_world.proofs.Straight.{begins_going}
use Rattle.group_world.proofs.group.Core.scan_whole.Goals as goal

pub index-requires : goal.index-requires
index-requires c =
    let s = some_of _ (memory_so c.self.inside.program.value.config c.self.inside.shared c.self.invariant c.args.self.now c.self.view_is c.args.task c.requires.there) in
    let below = within c.self.inside.shared.memories.items c.args.task s.0 s.1 in
    search (rules, below, c.from.ensures)

pub unreachable-requires : goal.unreachable-requires
unreachable-requires c =
    let there = memory_so c.self.inside.program.value.config c.self.inside.shared c.self.invariant c.args.self.now c.self.view_is c.args.task c.requires.there in
    let some = ap is_some (sym (here _ _ _ _ c.from.ensures c.index.ensures there)) ∙ there in
    let bad : false ≡ true = ap is_some (sym c.in_default.is) ∙ some in
    cc

pub restart_in_place-requires-clause-begin : goal.restart_in_place-requires-clause-begin
restart_in_place-requires-clause-begin c =
    let at = here _ _ _ _ c.from.ensures c.index.ensures (memory_so c.self.inside.program.value.config c.self.inside.shared c.self.invariant c.args.self.now c.self.view_is c.args.task c.requires.there) ∙ c.in-Some.is in
    begins_well c.self.inside.program.value.config c.self.inside.shared c.self.invariant c.args.self.now c.self.view_is c.args.verified.now.config c.requires.program c.args.task c.in-Some.memory at _ refl refl refl refl

pub restart_in_place-requires-clause-kept : goal.restart_in_place-requires-clause-kept
restart_in_place-requires-clause-kept c =
    let config = c.args.verified.now.config in
    let at = here _ _ _ _ c.from.ensures c.index.ensures (memory_so c.self.inside.program.value.config c.self.inside.shared c.self.invariant c.args.self.now c.self.view_is c.args.task c.requires.there) ∙ c.in-Some.is in
    (c.requires.kept (task_in config c.args.task c.in-Some.memory) (task_here c.self.inside.program.value.config c.self.inside.shared c.self.invariant c.args.self.now c.self.view_is config c.requires.program c.args.task c.in-Some.memory at))

pub finish-requires-clause-going : goal.finish-requires-clause-going
finish-requires-clause-going c =
    let config = c.args.verified.now.config in
    let at = here _ _ _ _ c.from.ensures c.index.ensures (memory_so c.self.inside.program.value.config c.self.inside.shared c.self.invariant c.args.self.now c.self.view_is c.args.task c.requires.there) ∙ c.in-Some.is in
    let own = (holds_here c.self.inside.program.value.config c.self.inside.shared c.self.invariant c.args.self.now c.self.view_is config c.requires.program).fits.memories c.args.task c.in-Some.memory at in
    begins_going config c.args.task own.0.0 _ c.restart_in_place.new.self.state own.0.1 c.restart_in_place.ensures.begins

pub commit_now-requires-clause-there : goal.commit_now-requires-clause-there
commit_now-requires-clause-there c = memory_so c.self.inside.program.value.config c.self.inside.shared c.self.invariant c.args.self.now c.self.view_is c.args.task c.requires.there

pub commit_now-requires-clause-fits : goal.commit_now-requires-clause-fits
commit_now-requires-clause-fits c = (holds_here c.self.inside.program.value.config c.self.inside.shared c.self.invariant c.args.self.now c.self.view_is c.args.verified.now.config c.requires.program).fits

pub commit_now-requires-clause-ranges : goal.commit_now-requires-clause-ranges
commit_now-requires-clause-ranges c = (holds_here c.self.inside.program.value.config c.self.inside.shared c.self.invariant c.args.self.now c.self.view_is c.args.verified.now.config c.requires.program).ranges

pub invariant_of-self : goal.invariant_of-self
invariant_of-self c =
    let config = c.args.verified.now.config in
    let shared = c.self.inside.shared in
    let last = c.finish.new.store in
    let at = here _ _ _ _ c.from.ensures c.index.ensures (memory_so c.self.inside.program.value.config c.self.inside.shared c.self.invariant c.args.self.now c.self.view_is c.args.task c.requires.there) ∙ c.in-Some.is in
    let holds = holds_here c.self.inside.program.value.config c.self.inside.shared c.self.invariant c.args.self.now c.self.view_is config c.requires.program in
    let left = c.commit_now.ensures in
    subst (λ k. HoldsShared k c.commit_now.new.self) (sym (config_here c.self.inside.program.value.config c.self.inside.shared c.args.self.now c.self.view_is _ c.requires.program))
    (committed_holds config shared c.commit_now.new.self holds c.args.task c.in-Some.memory at (map ticket_of shared.calls.slots) (length-map shared.calls.slots ticket_of ∙ holds.ranges.slots) last.state (known_of config c.args.task last c.finish.ensures.of c.holds.ensures)
    c.commit_now.new.report (left.group c.in-Some.memory at) left.closed left.fits)

pub returns-clause-scan : goal.returns-clause-scan
returns-clause-scan c = λ x there.
    let config = c.args.verified.now.config in
    let f = c.finish.ensures in
    let at = here _ _ _ _ c.from.ensures c.index.ensures (memory_so c.self.inside.program.value.config c.self.inside.shared c.self.invariant c.args.self.now c.self.view_is c.args.task c.requires.there) ∙ c.in-Some.is in
    let begins = c.restart_in_place.ensures.begins ∙ ap (scan_begins config c.args.task) (begins_here c.self.inside.program.value.config c.self.inside.shared c.self.invariant c.args.self.now c.self.view_is config c.requires.program c.args.task c.in-Some.memory at x there) in
    let after = c.commit_now.new.self in
    let commits =
    ap₂ (λ g y. committed_group config g c.args.task y (map ticket_of g.calls.slots) c.finish.new.store.state.values) (sym (group_here c.self.inside.program.value.config c.self.inside.shared c.args.self.now c.self.view_is config c.requires.program)) (sym (task_so c.self.inside.program.value.config c.self.inside.shared c.self.invariant c.args.self.now c.self.view_is config c.requires.program c.args.task c.in-Some.memory at x there))
    ∙ c.commit_now.ensures.group c.in-Some.memory at ∙ ap (λ k. (group_in k after, c.commit_now.new.report)) (sym (config_here c.self.inside.program.value.config c.self.inside.shared c.args.self.now c.self.view_is _ c.requires.program))
    in
    record {
      of = f.of;
      count = c.finish.result;
      some = f.some;
      steps = subst (λ (x : State). Reaches config c.finish.result x c.finish.new.store.state) begins f.steps;
      ended = f.ended;
      commits = commits;
    }
