use Rattle.std.proofs.Common.{List, ℕ, Bool, Some, None, map, string_bytes, subst}
use Rattle.std.specs.Prelude.{false, if◌then◌else◌}
use Rattle.cli_shell.specs.Runs.{stream}
use Rattle.cli_command.specs.Programs.{IsProgramAnswer, taken_by, traced_by}
use Rattle.cli_command.specs.Servings.{held_trace, streams}
use Rattle.cli_command.proofs.program.tried.Goals as goal

pub returns : goal.returns
returns g c =
    let trace = c.command-status.new.trace in
    let answer = IsProgramAnswer (g.F.TextFiles.gives c.args.files.now) (g.F.TextFiles.fails c.args.files.now) false (map string_bytes c.args.words.now) in (
      Some c.command-status.new.input.now,
      subst (λ (created : Bool). answer (streams (Some c.args.input.now) (Some c.command-status.new.input.now) (taken_by c.command-status.new.out) (taken_by c.command-status.new.err)
          (held_trace (if created then Some c.new-trace.result.bytes.items else None) (traced_by trace) (record { is = λ name sync. created; ended = None; missed = None }) (record { is = λ name sync. trace.is_created; ended = None; missed = None })) trace.failed) c.command-status.result) c.new-trace.ensures.created
          (subst (λ (bytes : List ℕ). answer (streams (Some c.args.input.now) (Some c.command-status.new.input.now) (stream (Some bytes) (Some c.command-status.new.out.bytes.items) c.command-status.new.out.failed) (taken_by c.command-status.new.err)
          (held_trace (if c.new-trace.result.is_created then Some c.new-trace.result.bytes.items else None) (traced_by trace) (record { is = λ name sync. c.new-trace.result.is_created; ended = None; missed = None }) (record { is = λ name sync. trace.is_created; ended = None; missed = None })) trace.failed) c.command-status.result) c.with_limit-out.ensures.bytes
          (subst (λ (bytes : List ℕ). answer (streams (Some c.args.input.now) (Some c.command-status.new.input.now) (stream (Some c.with_limit-out.result.bytes.items) (Some c.command-status.new.out.bytes.items) c.command-status.new.out.failed)
          (stream (Some bytes) (Some c.command-status.new.err.bytes.items) c.command-status.new.err.failed)
          (held_trace (if c.new-trace.result.is_created then Some c.new-trace.result.bytes.items else None) (traced_by trace) (record { is = λ name sync. c.new-trace.result.is_created; ended = None; missed = None }) (record { is = λ name sync. trace.is_created; ended = None; missed = None })) trace.failed) c.command-status.result) c.new-err.ensures.bytes
          c.command-status.ensures)),
    )
