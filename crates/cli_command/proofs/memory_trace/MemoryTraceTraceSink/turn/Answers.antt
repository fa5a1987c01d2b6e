use Rattle.std.proofs.Common.{◌∙◌, ◌++◌, sym, ap}
use Rattle.cli_command.proofs.Tracing.{memory_turns, grown}
use Rattle.cli_command.proofs.memory_trace.MemoryTraceTraceSink.turn.Goals as goal

pub returns-clause-turns : goal.returns-clause-turns
returns-clause-turns c =
    memory_turns c.args._name.now c.args.head.now c.args.last.now c.args.self.now.bytes.items c.extend_from_slice.new.self.items c.args.self.now.is_created c.if-not-self.false
    (grown c.extend_from_slice.result c.extend_from_slice.new.self.items c.new-next.result.items (c.new-next.result.items ++ c.args.head.now) (sym c.is_err.ensures.value ∙ c.if-is_err.false) c.extend_from_slice.ensures.items ∙ ap (λ l. l ++ c.args.head.now) c.new-next.ensures.items)
