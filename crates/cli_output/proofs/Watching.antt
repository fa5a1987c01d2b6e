-- What `watch` gives, by its parts.
use Rattle.std.proofs.Common.{◌≡◌, ◌++◌, ◌∙◌, ap, ℕ, Bool, List, Ok, Err}
use Rattle.scan_task.specs.Scanning.{Program}
use Rattle.cli_host.specs.declared.files.Reading.{Reading}
use Rattle.cli_host.specs.declared.press.Press.{Press}
use Rattle.cli_host.specs.declared.press.Setting.{Setting}
use Rattle.cli_host.specs.declared.request.Rounds.{Rounds}
use Rattle.cli_host.specs.declared.request.Words.{Words}
use Rattle.cli_host.specs.declared.status.Fault.{Fault}
use Rattle.cli_host.specs.declared.status.Fault.TheVariants as fault
use Rattle.cli_host.specs.Requests.{AreNamesFirst, words_of}
use Rattle.cli_output.specs.Outcomes.{AreDriven, IsUndriven, IsWatchOutcome}
use Rattle.cli_output.specs.Parts.{IsShownText, IsWatched}
use Rattle.group_rounds.specs.Shown.{IsShown}
use Rattle.group_spec.specs.declared.journal.Entry.{Entry}
use Rattle.group_spec.specs.World.{opening}
use Rattle.show_values.specs.declared.names.Watched.{Watched}
use Rattle.show_values.specs.Changes.{shown_text}
use Rattle.show_values.specs.Values.{AreWatched, header_text, watching}
use Rattle.il_syntax.specs.declared.tree.Config.{Config}
use Rattle.show_values.specs.Words.{meant}
use Rattle.cli_messages.specs.Outputs.{Outcome}
use Rattle.group_spec.specs.Image.{sizes_of}

module _ (program : Program) (asked : Rounds) (calls : Reading) (names : List (List ℕ)) (behind : Words) (split : AreNamesFirst (words_of asked.presses) names (words_of behind)) where
  -- the rounds of names and presses
  pub watched_is : (presses : List Press) (settings : List Setting) → AreDriven (sizes_of program.config) (record asked { presses = behind }) calls presses settings
      → (outcome : Outcome) → IsWatched program.config (meant program.config names) presses settings asked.rounds asked.flag outcome → IsWatchOutcome program asked calls outcome
  watched_is presses settings driven (Ok output) is = record {
    names = names;
    behind = behind;
    split = split;
    watched = is.0;
    known = is.1;
    presses = presses;
    settings = settings;
    driven = driven;
    entries = is.2;
    rows = is.3;
    shown = is.4;
    lines = is.5;
  }
  watched_is presses settings driven (Err (fault.BadName word says)) is = record { names = names; behind = behind; split = split; presses = presses; settings = settings; driven = driven; unknown = is }
  watched_is presses settings driven (Err fault.NoMemory) is = record { names = names; behind = behind; split = split; undriven = tt }
  watched_is presses settings driven (Err (fault.Misuse words)) is = absurd is
  watched_is presses settings driven (Err (fault.RefusedText number place)) is = absurd is
  watched_is presses settings driven (Err (fault.Refused number line)) is = absurd is
  watched_is presses settings driven (Err (fault.BadPress word)) is = absurd is
  watched_is presses settings driven (Err fault.TooManyPresses) is = absurd is
  watched_is presses settings driven (Err (fault.BadFire word)) is = absurd is
  watched_is presses settings driven (Err (fault.BadSpan word)) is = absurd is
  watched_is presses settings driven (Err (fault.BadScan kind word)) is = absurd is
  watched_is presses settings driven (Err (fault.CannotRead cause)) is = absurd is
  watched_is presses settings driven (Err fault.CannotWrite) is = absurd is

  -- what is wrong with the words or the file
  pub unwatched_is : (why : Fault) → IsUndriven (sizes_of program.config) (record asked { presses = behind }) calls why → IsWatchOutcome program asked calls (Err why)
  unwatched_is (fault.BadName word says) is = absurd is
  unwatched_is (fault.Misuse words) is = absurd is
  unwatched_is (fault.RefusedText number place) is = absurd is
  unwatched_is (fault.BadSpan word) is = absurd is
  unwatched_is (fault.BadScan kind word) is = absurd is
  unwatched_is (fault.Refused number line) is = record { names = names; behind = behind; split = split; undriven = is }
  unwatched_is (fault.BadPress word) is = record { names = names; behind = behind; split = split; undriven = is }
  unwatched_is fault.TooManyPresses is = record { names = names; behind = behind; split = split; undriven = is }
  unwatched_is (fault.BadFire word) is = record { names = names; behind = behind; split = split; undriven = is }
  unwatched_is fault.NoMemory is = record { names = names; behind = behind; split = split; undriven = tt }
  unwatched_is (fault.CannotRead cause) is = record { names = names; behind = behind; split = split; undriven = is }
  unwatched_is fault.CannotWrite is = absurd is

-- the lines of those that have values, in rounds from the opening
pub shown_rounds : (c : Config) (names : List (List ℕ)) (presses : List Press) (settings : List Setting) (rounds : ℕ) (changes : Bool) (watched : List Watched) → AreWatched (opening c) names watched → (entries : List Entry) (rows text : List ℕ)
    → IsShown (watching watched) c presses settings rounds entries rows → text ≡ header_text names ++ rows → (outcome : Outcome) → IsShownText changes text outcome → IsWatched c names presses settings rounds changes outcome
shown_rounds c names presses settings rounds changes watched known entries rows text shown is (Ok output) printed = (watched, known, entries, rows, shown, printed ∙ ap (shown_text changes) is)
shown_rounds c names presses settings rounds changes watched known entries rows text shown is (Err fault.NoMemory) printed = tt
shown_rounds c names presses settings rounds changes watched known entries rows text shown is (Err (fault.Misuse words)) printed = absurd printed
shown_rounds c names presses settings rounds changes watched known entries rows text shown is (Err (fault.RefusedText number place)) printed = absurd printed
shown_rounds c names presses settings rounds changes watched known entries rows text shown is (Err (fault.Refused number line)) printed = absurd printed
shown_rounds c names presses settings rounds changes watched known entries rows text shown is (Err (fault.BadPress word)) printed = absurd printed
shown_rounds c names presses settings rounds changes watched known entries rows text shown is (Err fault.TooManyPresses) printed = absurd printed
shown_rounds c names presses settings rounds changes watched known entries rows text shown is (Err (fault.BadFire word)) printed = absurd printed
shown_rounds c names presses settings rounds changes watched known entries rows text shown is (Err (fault.BadSpan word)) printed = absurd printed
shown_rounds c names presses settings rounds changes watched known entries rows text shown is (Err (fault.BadScan kind word)) printed = absurd printed
shown_rounds c names presses settings rounds changes watched known entries rows text shown is (Err (fault.BadName word says)) printed = absurd printed
shown_rounds c names presses settings rounds changes watched known entries rows text shown is (Err (fault.CannotRead cause)) printed = absurd printed
shown_rounds c names presses settings rounds changes watched known entries rows text shown is (Err fault.CannotWrite) printed = absurd printed
