use Rattle.std.proofs.Common.{ap, sym, ◌∙◌, subst}
use Rattle.group_spec.specs.World.{task_at, committed_group}
use Rattle.group_world.specs.Running.{group_in, HoldsShared}
use Rattle.group_world.proofs.Grouped.{config_here, group_here, known_of, open_scan, group_committed, open_holds}
use Rattle.group_world.proofs.Here.{holds_here}
use Rattle.group_world.proofs.group.Core.commit.Goals as goal

pub commit-requires-clause-open : goal.commit-requires-clause-open
commit-requires-clause-open c =
    let config = c.args.verified.now.config in
    (let (x, tickets, there, saw) = c.requires.open in open_scan config c.self.inside.shared (holds_here c.self.inside.program.value.config c.self.inside.shared c.self.invariant c.args.self.now c.self.view_is config c.requires.program) c.args.task x tickets (ap (λ g. task_at g c.args.task) (group_here c.self.inside.program.value.config c.self.inside.shared c.args.self.now c.self.view_is config c.requires.program) ∙ there) saw)

pub invariant_of-self : goal.invariant_of-self
invariant_of-self c =
    let config = c.args.verified.now.config in
    let holds = holds_here c.self.inside.program.value.config c.self.inside.shared c.self.invariant c.args.self.now c.self.view_is config c.requires.program in
    let known = known_of config c.args.task c.args.store.now c.requires.of c.holds.ensures in
    let open_so = (let (x, tickets, there, saw) = c.requires.open in open_scan config c.self.inside.shared holds c.args.task x tickets (ap (λ g. task_at g c.args.task) (group_here c.self.inside.program.value.config c.self.inside.shared c.args.self.now c.self.view_is config c.requires.program) ∙ there) saw) in
    subst (λ k. HoldsShared k c.commit.new.self) (sym (config_here c.self.inside.program.value.config c.self.inside.shared c.args.self.now c.self.view_is _ c.requires.program)) (open_holds config c.self.inside.shared c.commit.new.self holds c.args.task c.args.store.now.state c.commit.new.report c.commit.ensures open_so known)

pub returns-clause-group : goal.returns-clause-group
returns-clause-group c = λ x tickets there saw.
    let config = c.args.verified.now.config in
    let here = group_here c.self.inside.program.value.config c.self.inside.shared c.args.self.now c.self.view_is config c.requires.program in
    ap (λ g. committed_group config g c.args.task x tickets c.args.store.now.state.values) (sym here)
    ∙ group_committed config c.self.inside.shared c.commit.new.self (holds_here c.self.inside.program.value.config c.self.inside.shared c.self.invariant c.args.self.now c.self.view_is config c.requires.program) c.args.task c.args.store.now.state c.commit.new.report c.commit.ensures x tickets (ap (λ g. task_at g c.args.task) here ∙ there) saw
    ∙ ap (λ k. (group_in k c.commit.new.self, c.commit.new.report)) (sym (config_here c.self.inside.program.value.config c.self.inside.shared c.args.self.now c.self.view_is _ c.requires.program))
