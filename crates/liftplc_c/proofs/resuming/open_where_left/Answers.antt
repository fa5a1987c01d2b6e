use Rattle.std.proofs.Common.{subst, sym}
use Rattle.serve_blackbox.specs.Resuming.{IsNotLeft}
use Rattle.liftplc_c.proofs.Refusing.{trace_status_is, trace_not_done}
use Rattle.liftplc_c.proofs.Traces.{of_trace}
use Rattle.liftplc_c.proofs.resuming.open_where_left.Goals as goal

pub refuse_trace-requires : goal.refuse_trace-requires
refuse_trace-requires c = of_trace c.args.verified.config c.args.text.now c.args.trace.now c.in-Err.why c.in-Err.ensures.fault

pub returns-in-Err-clause-status : goal.returns-in-Err-clause-status
returns-in-Err-clause-status c = trace_status_is c.refuse_trace.result c.refuse_trace.ensures.either

pub returns-in-Err-clause-opened : goal.returns-in-Err-clause-opened
returns-in-Err-clause-opened c zero = trace_not_done c.refuse_trace.result c.refuse_trace.ensures.either zero

pub returns-in-Err-clause-no_trace : goal.returns-in-Err-clause-no_trace
returns-in-Err-clause-no_trace c ten = subst (IsNotLeft c.args.verified.config c.args.text.now c.args.trace.now) (sym (c.refuse_trace.ensures.written ten)) c.in-Err.ensures.fault
