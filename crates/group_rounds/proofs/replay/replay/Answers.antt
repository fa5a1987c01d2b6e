use Rattle.std.proofs.Common.{List, subst, arith, length, take}
use Rattle.std.specs.Prelude.{OnOk, IfErr}
use Rattle.std.proofs.lemmas.List.{take_all}
use Rattle.group_spec.specs.declared.trace.TraceEvent.{TraceEvent}
use Rattle.group_journal.specs.Rounds.{TakesAll, IsRefusedAt}
use Rattle.group_rounds.proofs.replay.replay.Goals as goal

pub returns-clause-taken : goal.returns-clause-taken
returns-clause-taken c =
    subst (λ (es : List TraceEvent). OnOk c.replay_first.result (TakesAll c.args.world.now.program.config c.args.world.now.world es c.replay_first.new.world.world)) (take_all (length c.args.events.now) c.args.events.now (omega arith))
    (subst (λ n. OnOk c.replay_first.result (TakesAll c.args.world.now.program.config c.args.world.now.world (take n c.args.events.now) c.replay_first.new.world.world)) c.len.ensures.is c.replay_first.ensures.taken)

pub returns-clause-refused : goal.returns-clause-refused
returns-clause-refused c =
    subst (λ (es : List TraceEvent). IfErr c.replay_first.result (λ r. IsRefusedAt c.args.world.now.program.config c.args.world.now.world es r.index r.fault)) (take_all (length c.args.events.now) c.args.events.now (omega arith))
    (subst (λ n. IfErr c.replay_first.result (λ r. IsRefusedAt c.args.world.now.program.config c.args.world.now.world (take n c.args.events.now) r.index r.fault)) c.len.ensures.is c.replay_first.ensures.refused)
