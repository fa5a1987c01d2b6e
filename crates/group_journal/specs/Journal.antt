-- The journal of a group: what its entries mean, and its runs (own rules).
use Rattle.std.specs.Prelude.{◌≡◌, ℕ, ◌+◌, ◌%◌, ◌≤◌, Bool, true, false, List, [], ◌∷◌, ◌++◌, map, length, replicate, ◌==◌, if◌then◌else◌, is_some, Ok}
use Rattle.il_syntax.specs.declared.tree.Config.{Config}
use Rattle.group_spec.specs.declared.event.Event.{Event}
use Rattle.group_spec.specs.declared.event.Event.TheVariants.{Start, Instruction, Commit, Refresh, Press, Gather}
use Rattle.group_spec.specs.declared.image.Sizes.{Sizes}
use Rattle.group_spec.specs.declared.calls.Call.{Call}
use Rattle.group_spec.specs.declared.report.EnteredCall.{EnteredCall}
use Rattle.group_spec.specs.Calls.{Calls, IsCall, enter_all}
use Rattle.group_spec.specs.Hands.{floors_of}
use Rattle.group_spec.specs.Limits.{most_cars}
use Rattle.group_spec.specs.Replies.{Reply, Refused}
use Rattle.group_spec.specs.World.{World, run, opening, scan_at}
use Rattle.group_laws.specs.Tasks.{budget_of}
use Rattle.group_spec.specs.declared.journal.Entry.{Entry}
use Rattle.group_spec.specs.declared.journal.Entry.TheVariants as entry

-- ENTRIES

-- The events of an entry. Just before a commit are its scan's instructions, so many; before a refresh are a Press of each
-- entered call, and a Gather of each floor from which one of them comes.
abbrev pub events_of : ℕ → Entry → List Event
events_of instructions (entry.Start t) = Start t ∷ []
events_of instructions (entry.Commit t) = replicate instructions (Instruction t) ++ Commit t ∷ []
events_of instructions (entry.Refresh fields entered) = map Press entered ++ (map Gather (floors_of entered) ++ Refresh fields ∷ [])

-- a scan of the task takes at most its budget
abbrev pub IsWithin : Config → ℕ → Entry → Type 0
IsWithin c instructions (entry.Start t) = Unit {0}
IsWithin c instructions (entry.Commit t) = instructions ≤ budget_of c t
IsWithin c instructions (entry.Refresh fields entered) = Unit {0}

-- no event was refused
abbrev pub IsAccepted : Reply → Type 0
IsAccepted (Refused fault) = ⊥
IsAccepted _ = Unit {0}

abbrev pub AreAccepted : List Reply → Type 0
AreAccepted [] = Unit {0}
AreAccepted (r ∷ replies) = IsAccepted r × AreAccepted replies

-- One step of a journal: the entry's events happen in this world, none of them is refused, and they lead to that one. The last,
-- which is the entry's own, is answered so. A commit's scan takes just the instructions that bring it to its end, since
-- otherwise one of them or the commit is refused.
pub record Enters (c : Config) (w : World) (e : Entry) (v : World) (answer : Reply) : Type 0 where
  pub instructions : ℕ
  pub within : IsWithin c instructions e
  pub replies : List Reply
  pub happens : run c w [] (events_of instructions e) ≡ Ok (v, replies ++ answer ∷ [])
  pub accepted : AreAccepted (replies ++ answer ∷ [])

-- RUNS

-- the entries lead from a world to another, one step an entry
abbrev pub Runs : Config → World → List Entry → World → Type 0
Runs c w [] v = w ≡ v
Runs c w (e ∷ entries) v = (m : World) × (answer : Reply) × Enters c w e m answer × Runs c m entries v

-- the entries lead from the opening world to this one
abbrev pub IsJournalOf : Config → List Entry → World → Type 0
IsJournalOf c entries w = Runs c (opening c) entries w

-- COUNTS

-- who makes an entry: 0 is GROUP, k is CARk, and the next number refreshes
abbrev pub refresher : ℕ
refresher = 1 + most_cars

-- whose entry it is (own rule)
abbrev pub actor_of : Entry → ℕ
actor_of (entry.Start t) = t
actor_of (entry.Commit t) = t
actor_of (entry.Refresh fields entered) = refresher

-- how many entries an actor made
abbrev pub entries_by : ℕ → List Entry → ℕ
entries_by actor [] = 0
entries_by actor (e ∷ entries) = (if actor_of e == actor then 1 else 0) + entries_by actor entries

-- the calls that an entry enters
abbrev pub entered_by : Entry → List Call
entered_by (entry.Start t) = []
entered_by (entry.Commit t) = []
entered_by (entry.Refresh fields entered) = entered

-- the calls that entries enter, in their order
abbrev pub calls_entered : List Entry → List Call
calls_entered [] = []
calls_entered (e ∷ entries) = entered_by e ++ calls_entered entries

-- each is a call of the group
abbrev pub AllCalls : Sizes → List Call → Type 0
AllCalls sizes [] = Unit {0}
AllCalls sizes (call ∷ calls) = IsCall sizes call × AllCalls sizes calls

-- the calls of a hand that enter: its first in the order of (from, to), while a slot is Free
abbrev pub calls_entering : Calls → List Call → List Call
calls_entering calls hand = map (λ (d : EnteredCall). d.call) (enter_all calls [] hand).done

-- ALTERNATION

-- whether a scan of a task is open after an entry, where it was so before
abbrev pub open_after : ℕ → Bool → Entry → Bool
open_after t was (entry.Start u) = if u == t then true else was
open_after t was (entry.Commit u) = if u == t then false else was
open_after t was (entry.Refresh fields entered) = was

-- a start of the task needs that none is open, a commit that one is
abbrev pub MayFollow : ℕ → Bool → Entry → Type 0
MayFollow t was (entry.Start u) = u ≡ t → was ≡ false
MayFollow t was (entry.Commit u) = u ≡ t → was ≡ true
MayFollow t was (entry.Refresh fields entered) = Unit {0}

-- the entries of a task are a start, a commit, a start and so on; they begin with a commit where a scan of it is open
abbrev pub Alternate : ℕ → Bool → List Entry → Type 0
Alternate t was [] = Unit {0}
Alternate t was (e ∷ entries) = MayFollow t was e × Alternate t (open_after t was e) entries

-- a scan of the task is open exactly where the number of its entries is odd
abbrev pub IsOpenWhereOdd : World → List Entry → ℕ → Type 0
IsOpenWhereOdd w entries t = entries_by t entries % 2 ≡ (if is_some (scan_at w t) then 1 else 0)
