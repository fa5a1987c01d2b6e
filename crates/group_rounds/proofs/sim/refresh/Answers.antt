use Rattle.std.proofs.Common.{subst, sym, List}
use Rattle.scan_task.specs.Scanning.{Program, IsRunnable}
use Rattle.group_journal.specs.Entered.{calls, AllHaveWords}
use Rattle.group_spec.specs.declared.report.EnteredCall.{EnteredCall}
use Rattle.group_spec.specs.Hands.{IsInOrder}
use Rattle.group_rounds.proofs.Taking.{entered_fit}
use Rattle.group_rounds.proofs.sim.refresh.Goals as goal

pub calls_of-calls-requires-clause-words : goal.calls_of-calls-requires-clause-words
calls_of-calls-requires-clause-words c =
    let config = c.args.world.now.program.config in
    subst (λ (l : List EnteredCall). AllHaveWords l) (sym c.as_slice.ensures)
    (entered_fit config (subst (λ (p : Program). IsRunnable p.config) c.verified.ensures c.config-config.ensures.runnable) c.args.world.now.world c.refresh.new.self.world c.args.fields c.refresh.new.report c.refresh.ensures.reached c.refresh.ensures.model).0

pub calls_of-calls-requires-clause-order : goal.calls_of-calls-requires-clause-order
calls_of-calls-requires-clause-order c =
    let config = c.args.world.now.program.config in
    subst (λ (l : List EnteredCall). IsInOrder (calls l)) (sym c.as_slice.ensures)
    (entered_fit config (subst (λ (p : Program). IsRunnable p.config) c.verified.ensures c.config-config.ensures.runnable) c.args.world.now.world c.refresh.new.self.world c.args.fields c.refresh.new.report c.refresh.ensures.reached c.refresh.ensures.model).1
