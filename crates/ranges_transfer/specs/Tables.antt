-- The table of what waits at places ahead, and what the pass answers (own rules).
use Rattle.std.specs.Prelude.{◌≡◌, ℕ, ◌<◌, ◌≤◌, ◌+◌, Bool, true, List, Option, Some, None, length, slice_get, slice_set, is_some}
use Rattle.ranges_laws.specs.Pass.{Moves, Arrived, at_entry, passed, advance, merged}
use Rattle.ranges_transfer.specs.declared.pass.Handed.{Handed}

abbrev pub flat : {K : Type 0} → Option (Option K) → Option K
flat None = None
flat (Some o) = o

-- what waits at a place
abbrev pub held : {K : Type 0} → List (Option K) → ℕ → Option K
held table place = flat (slice_get table place)

abbrev pub moved : {K : Type 0} → Handed K → Moves K
moved h = record { next = h.next; jump = h.jump }

abbrev pub IsAheadOf : {K : Type 0} → ℕ → ℕ → Option (ℕ × K) → Type 0
IsAheadOf total place None = Unit {0}
IsAheadOf total place (Some target) = (place < target.0) × (target.0 < total)

-- what came was joined with what waited, if something covers both
pub record Merges {K : Type 0} (join : K → K → Option K) (old : List (Option K)) (to : ℕ) (k : K) (found : Bool) (new : List (Option K)) : Type 0 where
  pub now : new ≡ slice_set old to (merged join (held old to) k)
  pub found_is : found ≡ is_some (merged join (held old to) k)

-- the place at which the pass stopped, and what had arrived there
pub record IsRefusedAt {K R : Type 0} (join : K → K → Option K) (moves : ℕ → K → Option (Moves K)) (refuses : ℕ → K → R → Type 0) (entry : K) (count : ℕ) (refused : R) : Type 0 where
  pub place : ℕ
  pub arrived : Arrived K
  pub facts : K
  pub inside : place < count
  pub before : passed join moves entry place ≡ Some arrived
  pub none : advance join moves place arrived ≡ None
  pub arrived_is : arrived place ≡ Some facts
  pub reason : refuses place facts refused

-- From a place on the table has what arrived.
pub record StandsFor {K : Type 0} (place : ℕ) (table : List (Option K)) (arrived : Arrived K) : Type 0 where
  pub same : (p : ℕ) → place ≤ p → p < length table → held table p ≡ arrived p

-- what the pass makes of a place
pub record Goes {K : Type 0} (join : K → K → Option K) (moves : ℕ → K → Option (Moves K)) (place : ℕ) (old new : List (Option K)) (arrived : Arrived K) : Type 0 where
  pub next : Arrived K
  pub advances : advance join moves place arrived ≡ Some next
  pub stands : StandsFor (place + 1) new next

abbrev pub GoesOver : {K : Type 0} → (K → K → Option K) → (ℕ → K → Option (Moves K)) → ℕ → List (Option K) → List (Option K) → Type 0
GoesOver {K} join moves place old new = (length new ≡ length old) × ((arrived : Arrived K) → StandsFor place old arrived → Goes join moves place old new arrived)

-- the pass stops at a place
pub record StopsHere {K R : Type 0} (join : K → K → Option K) (moves : ℕ → K → Option (Moves K)) (refuses : ℕ → K → R → Type 0) (place : ℕ) (old : List (Option K)) (refused : R) : Type 0 where
  pub none : (arrived : Arrived K) → StandsFor place old arrived → advance join moves place arrived ≡ None
  pub facts : K
  pub holds : held old place ≡ Some facts
  pub reason : refuses place facts refused

-- what a step of the pass answers
abbrev pub IsStepped : {K R : Type 0} → (K → K → Option K) → (ℕ → K → Option (Moves K)) → (ℕ → K → R → Type 0) → ℕ → List (Option K) → List (Option K) → Option R → Type 0
IsStepped join moves refuses place old new None = GoesOver join moves place old new
IsStepped join moves refuses place old new (Some refused) = StopsHere join moves refuses place old refused

-- whether it came
abbrev pub Comes : {K : Type 0} → (K → K → Option K) → Option (ℕ × K) → List (Option K) → Bool → List (Option K) → Type 0
Comes join None old found new = (found ≡ true) × (new ≡ old)
Comes join (Some target) old found new = Merges join old target.0 target.1 found new

-- a target that is in the table
abbrev pub IsInTable : {K : Type 0} → ℕ → Option (ℕ × K) → Type 0
IsInTable total None = Unit {0}
IsInTable total (Some target) = target.0 < total

-- the next place as a target
abbrev pub target_next : {K : Type 0} → ℕ → Option K → Option (ℕ × K)
target_next place None = None
target_next place (Some k) = Some (place + 1, k)

-- the entry waits at the first place, and nothing elsewhere
pub record IsFresh {K : Type 0} (entry : K) (count : ℕ) (table : List (Option K)) : Type 0 where
  pub long : length table ≡ count + 1
  pub same : (p : ℕ) → held table p ≡ at_entry entry p

-- the pass went over so many places
abbrev pub PassesOver : {K : Type 0} → (K → K → Option K) → (ℕ → K → Option (Moves K)) → K → ℕ → Type 0
PassesOver {K} join moves entry count = (arrived : Arrived K) × (passed join moves entry count ≡ Some arrived)

-- what the pass answers
abbrev pub IsPassed : {K R : Type 0} → (K → K → Option K) → (ℕ → K → Option (Moves K)) → (ℕ → K → R → Type 0) → K → ℕ → Option R → Type 0
IsPassed join moves refuses entry count None = PassesOver join moves entry count
IsPassed join moves refuses entry count (Some refused) = IsRefusedAt join moves refuses entry count refused

-- jumps go forward, to places that are there
abbrev pub IsAheadBelow : {K : Type 0} → (ℕ → K → Option (Moves K)) → ℕ → Type 0
IsAheadBelow {K} moves count = (place : ℕ) (k : K) (m : Moves K) → place < count → moves place k ≡ Some m → IsAheadOf (count + 1) place m.jump

-- what arrives is fine
abbrev pub IsFineBelow : {K : Type 0} → (K → K → Option K) → (ℕ → K → Option (Moves K)) → (K → Type 0) → K → ℕ → Type 0
IsFineBelow {K} join moves fine entry count = (place : ℕ) (arrived : Arrived K) (k : K) → place < count → passed join moves entry place ≡ Some arrived → arrived place ≡ Some k → fine k

-- the table after so many places
pub record IsAt {K : Type 0} (join : K → K → Option K) (moves : ℕ → K → Option (Moves K)) (entry : K) (count place : ℕ) (table : List (Option K)) : Type 0 where
  pub long : length table ≡ count + 1
  pub arrived : Arrived K
  pub passed_is : passed join moves entry place ≡ Some arrived
  pub stands : StandsFor place table arrived
