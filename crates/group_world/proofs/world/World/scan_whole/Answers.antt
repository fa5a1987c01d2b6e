use Rattle.std.proofs.Common.{rules, ◌≡◌, ◌∙◌, sym, ap, refl, true, false, subst}
use Rattle.std.specs.Prelude.{is_some}
use Rattle.scan_task.specs.Scanning.{HasTask}
use Rattle.group_spec.specs.World.{scan_at}
use Rattle.group_world.specs.Running.{scan_events}
use Rattle.group_world.specs.Worlds.{WorldOf}
use Rattle.group_world.proofs.Happening.{store_within, lent_is, lent_of}
use Rattle.group_world.proofs.Whole.{the_task, kept_variables, scans, leaves}
use Rattle.group_world.proofs.world.World.scan_whole.Goals as goal

pub index_mut-requires : goal.index_mut-requires
index_mut-requires c =
    let x = the_task c.self.inside c.self.invariant c.args.task (subst (λ (w : WorldOf). HasTask w.program.config c.args.task) (sym c.self.view_is) c.requires.there) in
    let below = store_within c.self.inside c.self.invariant c.args.task x in
    search (rules, below, c.from.ensures)

pub unreachable-requires : goal.unreachable-requires
unreachable-requires c =
    let x = the_task c.self.inside c.self.invariant c.args.task (subst (λ (w : WorldOf). HasTask w.program.config c.args.task) (sym c.self.view_is) c.requires.there) in
    let some = ap is_some (lent_is c.self.inside c.self.invariant c.args.task x _ _ c.from.ensures c.index_mut.ensures.value) in
    let bad : false ≡ true = ap is_some (sym c.in_default.is) ∙ some in
    cc

pub scan_whole-requires-clause-program : goal.scan_whole-requires-clause-program
scan_whole-requires-clause-program c = c.self.invariant.same

pub scan_whole-requires-clause-there : goal.scan_whole-requires-clause-there
scan_whole-requires-clause-there c = ap is_some (the_task c.self.inside c.self.invariant c.args.task (subst (λ (w : WorldOf). HasTask w.program.config c.args.task) (sym c.self.view_is) c.requires.there)).there

pub scan_whole-requires-clause-of : goal.scan_whole-requires-clause-of
scan_whole-requires-clause-of c =
    let w = c.self.inside in
    let is = c.self.invariant in
    let x = the_task w is c.args.task (subst (λ (v : WorldOf). HasTask v.program.config c.args.task) (sym c.self.view_is) c.requires.there) in
    lent_of w is c.args.task x _ (lent_is w is c.args.task x _ _ c.from.ensures c.index_mut.ensures.value) c.in-Some.scan c.in-Some.is

pub scan_whole-requires-clause-kept : goal.scan_whole-requires-clause-kept
scan_whole-requires-clause-kept c = λ y there.
    let w = c.self.inside in
    let has = subst (λ (v : WorldOf). HasTask v.program.config c.args.task) (sym c.self.view_is) c.requires.there in
    let closed = ap (λ (v : WorldOf). scan_at v.world c.args.task) c.self.view_is ∙ c.requires.closed in
    kept_variables w c.self.invariant c.args.task has closed _ _ c.from.ensures c.index_mut.ensures.value y c.in-Some.scan there c.in-Some.is

pub invariant_of-self : goal.invariant_of-self
invariant_of-self c =
    let w = c.self.inside in
    let has = subst (λ (v : WorldOf). HasTask v.program.config c.args.task) (sym c.self.view_is) c.requires.there in
    let closed = ap (λ (v : WorldOf). scan_at v.world c.args.task) c.self.view_is ∙ c.requires.closed in
    leaves w c.self.invariant c.args.task has closed c.from.result c.from.ensures c.scan_whole.new.store c.scan_whole.new.self.group c.scan_whole.new.report c.scan_whole.ensures.scan _ refl c.scan_whole.ensures.config refl refl refl refl

pub returns-clause-scan : goal.returns-clause-scan
returns-clause-scan c =
    let w = c.self.inside in
    let has = subst (λ (v : WorldOf). HasTask v.program.config c.args.task) (sym c.self.view_is) c.requires.there in
    let closed = ap (λ (v : WorldOf). scan_at v.world c.args.task) c.self.view_is ∙ c.requires.closed in
    rw (← c.self.view_is) (scans w c.self.invariant c.args.task has closed c.from.result c.from.ensures c.scan_whole.new.store c.scan_whole.new.self.group c.scan_whole.new.report c.scan_whole.ensures.scan)

pub returns-clause-well : goal.returns-clause-well
returns-clause-well c = λ n. c.holds.ensures.well (scan_events c.args.task n)
