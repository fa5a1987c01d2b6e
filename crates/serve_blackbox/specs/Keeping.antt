-- From one trace to the next (own rules).
use Rattle.std.specs.Prelude.{◌≡◌, ℕ, ◌+◌, Bool, true, false, List, [], ◌∷◌, ◌++◌, codes, length, Option, Some, None}
use Rattle.std.specs.Io.KnownBytes.{Appends, Consumes}
use Rattle.il_syntax.specs.declared.tree.Config.{Config}
use Rattle.group_spec.specs.declared.trace.TraceEvent.{TraceEvent}
use Rattle.group_spec.specs.World.{World}
use Rattle.cli_host.specs.Files.{Made, Logs}
use Rattle.group_journal.specs.Rounds.{TakesAll}
use Rattle.trace_text.specs.Text.{last_line}
use Rattle.trace_text.specs.Writing.{events_text}
use Rattle.serve_lines.specs.Serving.{IsAsked}
use Rattle.serve_lines.specs.Saying.{AsksFor}
use Rattle.serve_lines.specs.Waiting.{waiting_events}
use Rattle.serve_blackbox.specs.Heads.{head_text, IsAgain}

-- A SINK

-- nothing is in it
abbrev pub IsNew : Option (List ℕ) → Type 0
IsNew None = Unit {0}
IsNew (Some bytes) = bytes ≡ []

-- this is in it, and nothing else
abbrev pub Holds : Option (List ℕ) → List ℕ → Type 0
Holds None head = Unit {0}
Holds (Some bytes) head = bytes ≡ head

-- A sink goes from one file to the file of this name: the one before ended with its last line, and is told so; the other has the head and nothing else, and its pieces wait for the disk as
-- those of the one before did. Or it doesn't, the name is told, and all is as it was.
abbrev pub Turns : List ℕ → List ℕ → List ℕ → Bool → Option (List ℕ) → Option (List ℕ) → Made → Made → Type 0
Turns name head last true old new was is =
    (ended : Option (List ℕ)) × Appends old ended last × Logs was.ended ended is.ended × Holds new head × (is.missed ≡ was.missed)
    × ((n : List ℕ) (sync : Bool) → was.is n sync ≡ true → (is.is name sync ≡ true) × (is.is n sync ≡ true))
Turns name head last false old new was is = (new ≡ old) × (is.is ≡ was.is) × (is.ended ≡ was.ended) × Logs was.missed (Some name) is.missed

-- A GROUP

-- `kept NAME`, or `kept NAME refused`
abbrev pub kept_line : List ℕ → Bool → List ℕ
kept_line name true = codes "kept " ++ (name ++ codes "\n")
kept_line name false = codes "kept " ++ (name ++ codes " refused\n")

-- Where a group that serves is between two lines: its world, how many events are in its trace, and how many lines came; what the reader has left; what was answered; and its trace, and as
-- which files that was made.
pub record Spot : Type 0 where
  pub world : World
  pub count : ℕ
  pub heard : ℕ
  pub left : Option (List ℕ)
  pub out : Option (List ℕ)
  pub trace : Option (List ℕ)
  pub made : Made

-- what is traced are the lines of events, which lead from a world to another, and so they are counted
abbrev pub LeadsOn : Config → World → ℕ → World → ℕ → (List ℕ → Type 0) → Type 0
LeadsOn c w count v next Trace = (events : List TraceEvent) × TakesAll c w events v × (next ≡ count + length events) × Trace (events_text events)

-- Lines are served from one spot to another, where another trace is asked for, of this name.
pub record IsAskedAt (c : Config) (s t : Spot) (name : List ℕ) : Type 0 where
  pub last : List ℕ
  pub asked : IsAsked c s.world s.count t.world t.count (Consumes s.left t.left) (Appends s.out t.out) (Appends s.trace t.trace) s.heard last t.heard
  pub asks : AsksFor last name
  pub leads : LeadsOn c s.world s.count t.world t.count (Appends s.trace t.trace)
  pub made : t.made ≡ s.made

-- the events that are in the trace after the line: those of the head of the new one, or those of the one that goes on
abbrev pub count_behind : World → ℕ → Bool → ℕ
count_behind w count true = length (waiting_events w)
count_behind w count false = count

-- The trace ends here with its last line, and the group goes on in the trace of this name, which begins with the state of this world; or that can't be made, and the present one goes on. So it
-- is answered, and nothing else comes of it.
pub record Goes (c : Config) (source : List ℕ) (s t : Spot) (name : List ℕ) (kept : Bool) : Type 0 where
  pub turns : Turns name (head_text c source s.world) (last_line s.count ++ 10 ∷ []) kept s.trace t.trace s.made t.made
  pub again : IsAgain c s.world
  pub answered : Appends s.out t.out (kept_line name kept)
  pub world : t.world ≡ s.world
  pub count : t.count ≡ count_behind s.world s.count kept
  pub heard : t.heard ≡ s.heard
  pub left : t.left ≡ s.left

-- one of the two
abbrev pub IsGone : Config → List ℕ → Spot → Spot → List ℕ → Type 0
IsGone c source s t name = (kept : Bool) × Goes c source s t name kept

-- From one spot to another lead lines, each part of which ends with one that asks for another trace.
pub data Leads (c : Config) (source : List ℕ) (s : Spot) : Spot → Type 0 where
  here : Leads c source s s
  more : (m a t : Spot) (name : List ℕ) → Leads c source s m → IsAskedAt c m a name → IsGone c source a t name → Leads c source s t
