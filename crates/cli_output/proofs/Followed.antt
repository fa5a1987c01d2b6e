-- What is followed of a trace that was read.
use Rattle.std.proofs.Common.{◌≡◌, ◌++◌, ◌∙◌, ap, ℕ, Bool, List, Ok, Err, inl, inr}
use Rattle.scan_task.specs.Scanning.{Program}
use Rattle.cli_host.specs.declared.request.Words.{Words}
use Rattle.cli_host.specs.declared.status.Fault.{Fault}
use Rattle.cli_host.specs.declared.status.Fault.TheVariants as fault
use Rattle.cli_host.specs.Requests.{words_of}
use Rattle.cli_output.specs.declared.telling.Telling.{Telling}
use Rattle.cli_output.specs.declared.telling.Telling.TheVariants.{Values}
use Rattle.cli_output.specs.Outcomes.{IsFollowed}
use Rattle.cli_output.specs.Parts.{AreFollowed, AreValued, IsShownText, IsTraceUnread}
use Rattle.cli_output.specs.Traces.{IsRead}
use Rattle.cli_messages.specs.Outputs.{Outcome}
use Rattle.group_spec.specs.declared.trace.TraceEvent.{TraceEvent}
use Rattle.group_spec.specs.World.{World}
use Rattle.group_journal.specs.Rounds.{TakesAll}
use Rattle.show_values.specs.declared.names.Watched.{Watched}
use Rattle.show_values.specs.Changes.{shown_text}
use Rattle.show_values.specs.Following.{AreRowsAlong}
use Rattle.show_values.specs.Values.{AreWatched, header_text}
use Rattle.show_values.specs.Words.{meant}

module _ (telling : Telling) (p : Program) (source text : List ℕ) where
  pub followed_is : (read : IsRead p source text) (outcome : Outcome) → AreFollowed telling p read.from read.events read.lines outcome → IsFollowed telling p source text outcome
  followed_is read (Ok output) is = record { read = read; after = is.0; taken = is.1; is = is.2 }
  followed_is read (Err (fault.Refused number line)) is = inr (record { read = read; good = is.0; index = is.1; why = is.2; refused = is.3; numbered = is.4; lined = is.5 })
  followed_is read (Err (fault.BadSpan word)) is = (read, is)
  followed_is read (Err (fault.BadName word says)) is = (read, is)
  followed_is read (Err fault.NoMemory) is = tt
  followed_is read (Err (fault.Misuse words)) is = absurd is
  followed_is read (Err (fault.RefusedText number place)) is = absurd is
  followed_is read (Err (fault.BadPress word)) is = absurd is
  followed_is read (Err (fault.BadScan kind word)) is = absurd is
  followed_is read (Err fault.TooManyPresses) is = absurd is
  followed_is read (Err (fault.BadFire word)) is = absurd is
  followed_is read (Err (fault.CannotRead cause)) is = absurd is
  followed_is read (Err fault.CannotWrite) is = absurd is

  -- a text that is no whole trace
  pub unread_is : (why : Fault) → IsTraceUnread p source text why → IsFollowed telling p source text (Err why)
  unread_is (fault.Refused number line) is = inl is
  unread_is fault.NoMemory is = tt
  unread_is (fault.BadSpan word) is = absurd is
  unread_is (fault.BadName word says) is = absurd is
  unread_is (fault.Misuse words) is = absurd is
  unread_is (fault.RefusedText number place) is = absurd is
  unread_is (fault.BadPress word) is = absurd is
  unread_is (fault.BadScan kind word) is = absurd is
  unread_is fault.TooManyPresses is = absurd is
  unread_is (fault.BadFire word) is = absurd is
  unread_is (fault.CannotRead cause) is = absurd is
  unread_is fault.CannotWrite is = absurd is

-- names that are watched along events
pub valued_is : (names : Words) (changes : Bool) (p : Program) (from : World) (events : List TraceEvent) (lines : ℕ) (outcome : Outcome) → AreValued (meant p.config (words_of names)) changes p from events lines outcome → AreFollowed (Values names changes) p from events lines outcome
valued_is names changes p from events lines (Ok output) is = is
valued_is names changes p from events lines (Err (fault.Refused number line)) is = is
valued_is names changes p from events lines (Err (fault.BadSpan word)) is = absurd is
valued_is names changes p from events lines (Err (fault.BadScan kind word)) is = absurd is
valued_is names changes p from events lines (Err (fault.BadName word says)) is = is
valued_is names changes p from events lines (Err fault.NoMemory) is = tt
valued_is names changes p from events lines (Err (fault.Misuse words)) is = absurd is
valued_is names changes p from events lines (Err (fault.RefusedText number place)) is = absurd is
valued_is names changes p from events lines (Err (fault.BadPress word)) is = absurd is
valued_is names changes p from events lines (Err fault.TooManyPresses) is = absurd is
valued_is names changes p from events lines (Err (fault.BadFire word)) is = absurd is
valued_is names changes p from events lines (Err (fault.CannotRead cause)) is = absurd is
valued_is names changes p from events lines (Err fault.CannotWrite) is = absurd is

-- the lines of those that have values, along events that all are taken
pub shown_along : (names : List (List ℕ)) (changes : Bool) (p : Program) (from after : World) (events : List TraceEvent) (lines : ℕ) → TakesAll p.config from events after → (watched : List Watched) → AreWatched from names watched → (rows text : List ℕ)
    → AreRowsAlong watched p.config from events after rows → text ≡ header_text names ++ rows → (outcome : Outcome) → IsShownText changes text outcome → AreValued names changes p from events lines outcome
shown_along names changes p from after events lines taken watched known rows text are is (Ok output) shown =
    (after, taken, record { watched = watched; known = known; rows = rows; are = are; lines = shown ∙ ap (shown_text changes) is })
shown_along names changes p from after events lines taken watched known rows text are is (Err fault.NoMemory) shown = tt
shown_along names changes p from after events lines taken watched known rows text are is (Err (fault.Misuse words)) shown = absurd shown
shown_along names changes p from after events lines taken watched known rows text are is (Err (fault.RefusedText number place)) shown = absurd shown
shown_along names changes p from after events lines taken watched known rows text are is (Err (fault.Refused number line)) shown = absurd shown
shown_along names changes p from after events lines taken watched known rows text are is (Err (fault.BadPress word)) shown = absurd shown
shown_along names changes p from after events lines taken watched known rows text are is (Err fault.TooManyPresses) shown = absurd shown
shown_along names changes p from after events lines taken watched known rows text are is (Err (fault.BadFire word)) shown = absurd shown
shown_along names changes p from after events lines taken watched known rows text are is (Err (fault.BadSpan word)) shown = absurd shown
shown_along names changes p from after events lines taken watched known rows text are is (Err (fault.BadScan kind word)) shown = absurd shown
shown_along names changes p from after events lines taken watched known rows text are is (Err (fault.BadName word says)) shown = absurd shown
shown_along names changes p from after events lines taken watched known rows text are is (Err (fault.CannotRead cause)) shown = absurd shown
shown_along names changes p from after events lines taken watched known rows text are is (Err fault.CannotWrite) shown = absurd shown
