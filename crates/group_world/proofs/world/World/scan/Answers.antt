use Rattle.std.proofs.Common.{rules, sym, ap, ◌∙◌}
use Rattle.std.specs.Prelude.{option_map}
use Rattle.scan_task.specs.Standing.{Standing}
use Rattle.group_world.proofs.Happening.{store_within, lent_is}
use Rattle.group_world.proofs.Standings.{scan_shut, scan_stood, task_there, lent_state, lent_of_it}
use Rattle.group_world.proofs.world.World.scan.Goals as goal

pub returns-then-not-is_open-clause-stands : goal.returns-then-not-is_open-clause-stands
returns-then-not-is_open-clause-stands c = rw (← c.self.view_is) (sym (scan_shut c.self.inside c.self.invariant c.args.task c.is_open.result c.is_open.ensures c.if-not-is_open.true))

pub index-requires : goal.index-requires
index-requires c =
    let x = task_there c.self.inside c.self.invariant c.args.task c.is_open.result c.is_open.ensures c.if-not-is_open.false in
    let below = store_within c.self.inside c.self.invariant c.args.task x in
    search (rules, below, c.from.ensures)

pub returns-clause-stands : goal.returns-clause-stands
returns-clause-stands c =
    let x = task_there c.self.inside c.self.invariant c.args.task c.is_open.result c.is_open.ensures c.if-not-is_open.false in
    rw (← c.self.view_is)
    (lent_state c.as_ref.result x.store (c.as_ref.ensures.value ∙ lent_is c.self.inside c.self.invariant c.args.task x _ _ c.from.ensures c.index.ensures)
    ∙ sym (scan_stood c.self.inside c.self.invariant c.args.task c.is_open.result c.is_open.ensures c.if-not-is_open.false ∙ ap (option_map (λ (s : Standing). s.state)) x.kept))

pub returns-clause-of : goal.returns-clause-of
returns-clause-of c =
    let x = task_there c.self.inside c.self.invariant c.args.task c.is_open.result c.is_open.ensures c.if-not-is_open.false in
    rw (← c.self.view_is)
    (lent_of_it c.self.inside.verified.config c.args.task c.as_ref.result x.store (c.as_ref.ensures.value ∙ lent_is c.self.inside c.self.invariant c.args.task x _ _ c.from.ensures c.index.ensures) x.of)
