-- A world between scans, and whose scans the events of a trace leave open (own rules).
use Rattle.std.specs.Prelude.{◌≡◌, ◌==◌, ℕ, Bool, true, false, List, [], ◌∷◌, if◌then◌else◌, is_some}
use Rattle.group_spec.specs.declared.trace.TraceEvent.{TraceEvent}
use Rattle.group_spec.specs.declared.trace.TraceEvent.TheVariants as traced
use Rattle.group_spec.specs.World.{World, scan_at}

-- no scan is open
abbrev pub IsClosed : World → Type 0
IsClosed w = (j : ℕ) → is_some (scan_at w j) ≡ false

-- whether a task's scan is open after an event of a trace, where it was so before
abbrev pub open_behind : ℕ → Bool → TraceEvent → Bool
open_behind t was (traced.Start u) = if u == t then true else was
open_behind t was (traced.Commit u) = if u == t then false else was
open_behind t was (traced.Press call) = was
open_behind t was (traced.Gather floor) = was
open_behind t was (traced.Refresh fields) = was

-- the same after events, one after the other
abbrev pub open_along : ℕ → Bool → List TraceEvent → Bool
open_along t was [] = was
open_along t was (e ∷ events) = open_along t (open_behind t was e) events
