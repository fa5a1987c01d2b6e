-- A scan of a trace that was read, and words that ask for none.
use Rattle.std.proofs.Common.{◌≢◌, ℕ, List, Ok, Err, inl, inr}
use Rattle.scan_task.specs.Scanning.{Program}
use Rattle.cli_host.specs.declared.files.Reading.{Reading}
use Rattle.cli_host.specs.declared.files.Reading.TheVariants.{Text, Failed}
use Rattle.cli_host.specs.declared.request.Traced.{Traced}
use Rattle.cli_host.specs.declared.status.Fault.{Fault}
use Rattle.cli_host.specs.declared.status.Fault.TheVariants as fault
use Rattle.cli_messages.specs.Outputs.{Outcome}
use Rattle.cli_output.specs.Outcomes.{IsScanned, IsScanOutcome}
use Rattle.cli_output.specs.Parts.{AreScanned, IsTraceUnread}
use Rattle.cli_output.specs.Scans.{IsAsked, IsUnasked}
use Rattle.cli_output.specs.Traces.{IsRead}
use Rattle.show_scan.specs.declared.chosen.Asked.{Asked}

module _ (traced : Traced) (p : Program) (asked : Asked) (source text : List ℕ) (of : IsAsked traced p asked) where
  pub scanned_is : (read : IsRead p source text) (outcome : Outcome) → AreScanned traced p asked source read.from read.events read.lines outcome → IsScanned traced p source text outcome
  scanned_is read (Ok output) is = record { read = read; asked = asked; is = of; shown = is }
  scanned_is read (Err (fault.Refused number line)) is = (asked, of, inr (record { read = read; index = is.0; why = is.1; refused = is.2; numbered = is.3; lined = is.4 }))
  scanned_is read (Err (fault.BadScan kind word)) is = inr (record { read = read; asked = asked; is = of; none = is.0; word = is.1 })
  scanned_is read (Err fault.NoMemory) is = tt
  scanned_is read (Err (fault.BadSpan word)) is = absurd is
  scanned_is read (Err (fault.BadName word says)) is = absurd is
  scanned_is read (Err (fault.Misuse words)) is = absurd is
  scanned_is read (Err (fault.RefusedText number place)) is = absurd is
  scanned_is read (Err (fault.BadPress word)) is = absurd is
  scanned_is read (Err fault.TooManyPresses) is = absurd is
  scanned_is read (Err (fault.BadFire word)) is = absurd is
  scanned_is read (Err (fault.CannotRead cause)) is = absurd is
  scanned_is read (Err fault.CannotWrite) is = absurd is

  -- a text that is no whole trace, after words that ask for a scan
  pub unscanned_is : (why : Fault) → IsTraceUnread p source text why → IsScanned traced p source text (Err why)
  unscanned_is (fault.Refused number line) is = (asked, of, inl is)
  unscanned_is fault.NoMemory is = tt
  unscanned_is (fault.BadScan kind word) is = absurd is
  unscanned_is (fault.BadSpan word) is = absurd is
  unscanned_is (fault.BadName word says) is = absurd is
  unscanned_is (fault.Misuse words) is = absurd is
  unscanned_is (fault.RefusedText number place) is = absurd is
  unscanned_is (fault.BadPress word) is = absurd is
  unscanned_is fault.TooManyPresses is = absurd is
  unscanned_is (fault.BadFire word) is = absurd is
  unscanned_is (fault.CannotRead cause) is = absurd is
  unscanned_is fault.CannotWrite is = absurd is

-- words that ask for no scan
pub unasked_is : (traced : Traced) (p : Program) (source : List ℕ) (trace : Reading) (why : Fault) → IsUnasked traced p why → IsScanOutcome traced p source trace (Err why)
unasked_is traced p source (Failed reading) why is = inr is
unasked_is traced p source (Text text) (fault.BadScan kind word) is = inl is
unasked_is traced p source (Text text) fault.NoMemory is = tt
unasked_is traced p source (Text text) (fault.Refused number line) is = absurd is
unasked_is traced p source (Text text) (fault.BadSpan word) is = absurd is
unasked_is traced p source (Text text) (fault.BadName word says) is = absurd is
unasked_is traced p source (Text text) (fault.Misuse words) is = absurd is
unasked_is traced p source (Text text) (fault.RefusedText number place) is = absurd is
unasked_is traced p source (Text text) (fault.BadPress word) is = absurd is
unasked_is traced p source (Text text) fault.TooManyPresses is = absurd is
unasked_is traced p source (Text text) (fault.BadFire word) is = absurd is
unasked_is traced p source (Text text) (fault.CannotRead cause) is = absurd is
unasked_is traced p source (Text text) fault.CannotWrite is = absurd is

pub unasked_unwritten : (traced : Traced) (p : Program) (why : Fault) → IsUnasked traced p why → why ≢ fault.CannotWrite
unasked_unwritten traced p (fault.BadScan kind word) is e = cc
unasked_unwritten traced p fault.NoMemory is e = cc
unasked_unwritten traced p (fault.Refused number line) is e = absurd is
unasked_unwritten traced p (fault.BadSpan word) is e = absurd is
unasked_unwritten traced p (fault.BadName word says) is e = absurd is
unasked_unwritten traced p (fault.Misuse words) is e = absurd is
unasked_unwritten traced p (fault.RefusedText number place) is e = absurd is
unasked_unwritten traced p (fault.BadPress word) is e = absurd is
unasked_unwritten traced p fault.TooManyPresses is e = absurd is
unasked_unwritten traced p (fault.BadFire word) is e = absurd is
unasked_unwritten traced p (fault.CannotRead cause) is e = absurd is
unasked_unwritten traced p fault.CannotWrite is e = absurd is
