-- What can be wrong with a trace.
use Rattle.std.proofs.Common.{ℕ, List, Option, subst, sym, inl, inr}
use Rattle.il_syntax.specs.declared.tree.Config.{Config}
use Rattle.cli_host.specs.declared.status.Fault.{Fault}
use Rattle.cli_host.specs.declared.status.Fault.TheVariants.{Misuse, RefusedText, Refused, BadPress, TooManyPresses, BadFire, BadSpan, BadScan, BadName, CannotRead, CannotWrite, NoMemory}
use Rattle.group_spec.specs.declared.trace.TraceEvent.{TraceEvent}
use Rattle.group_spec.specs.World.{World}
use Rattle.group_state.specs.Beginnings.{IsUnbegun}
use Rattle.serve_blackbox.specs.Resuming.{LeadsNowhere, IsNotLeft}
use Rattle.liftplc_c.specs.Refusals.{IsOfTrace}

unbegun : (c : Config) (source trace : List ℕ) (f : Fault) → IsUnbegun c source trace f → IsOfTrace f
unbegun c source trace (Refused number line) is = tt
unbegun c source trace NoMemory is = tt
unbegun c source trace (Misuse text) is = is
unbegun c source trace (RefusedText number place) is = is
unbegun c source trace (BadPress word) is = is
unbegun c source trace TooManyPresses is = is
unbegun c source trace (BadFire word) is = is
unbegun c source trace (BadSpan word) is = is
unbegun c source trace (BadScan why word) is = is
unbegun c source trace (BadName word says) is = is
unbegun c source trace (CannotRead cause) is = is
unbegun c source trace CannotWrite is = is

nowhere : (c : Config) (base : World) (events : List TraceEvent) (lines : ℕ) (cut : Option ℕ) (f : Fault) → LeadsNowhere c base events lines cut f → IsOfTrace f
nowhere c base events lines cut f (inl state) = subst IsOfTrace (sym state.2) tt
nowhere c base events lines cut f (inr event) = subst IsOfTrace (sym event.3) tt

-- a trace that doesn't lead there is refused at a line, or memory is missing
pub of_trace : (c : Config) (source trace : List ℕ) (f : Fault) → IsNotLeft c source trace f → IsOfTrace f
of_trace c source trace f (inl is) = unbegun c source trace f is
of_trace c source trace f (inr is) = nowhere c is.0 is.1 is.2 is.3 f is.5
