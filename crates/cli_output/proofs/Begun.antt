-- A text that is no whole trace.
use Rattle.std.proofs.Common.{◌≡◌, ℕ, List, Option, Some, inl, inr, refl, subst}
use Rattle.scan_task.specs.Scanning.{Program}
use Rattle.cli_host.specs.declared.status.Fault.{Fault}
use Rattle.cli_host.specs.declared.status.Fault.TheVariants as fault
use Rattle.cli_output.specs.Parts.{IsTraceUnread}
use Rattle.group_spec.specs.declared.trace.TraceEvent.{TraceEvent}
use Rattle.group_spec.specs.World.{World}
use Rattle.group_state.specs.Beginnings.{BeginsTrace, IsUnbegun}

module _ (p : Program) (source text : List ℕ) where
  pub unbegun_is : (why : Fault) → IsUnbegun p.config source text why → IsTraceUnread p source text why
  unbegun_is (fault.Refused number line) is = inl is
  unbegun_is fault.NoMemory is = tt
  unbegun_is (fault.BadSpan word) is = absurd is
  unbegun_is (fault.BadName word says) is = absurd is
  unbegun_is (fault.BadScan kind word) is = absurd is
  unbegun_is (fault.Misuse words) is = absurd is
  unbegun_is (fault.RefusedText number place) is = absurd is
  unbegun_is (fault.BadPress word) is = absurd is
  unbegun_is fault.TooManyPresses is = absurd is
  unbegun_is (fault.BadFire word) is = absurd is
  unbegun_is (fault.CannotRead cause) is = absurd is
  unbegun_is fault.CannotWrite is = absurd is

  pub cut_off_is : (from : World) (events : List TraceEvent) (lines : ℕ) (cut : Option ℕ) (line : ℕ) → BeginsTrace p.config source text from events lines cut → cut ≡ Some line → IsTraceUnread p source text (fault.Refused 81 line)
  cut_off_is from events lines cut line begins at = inr (refl, record { from = from; events = events; lines = lines; begins = subst (BeginsTrace p.config source text from events lines) at begins })
