-- The tally of the calls that refreshes enter: what its two halves know, and how they meet (own rules).
use Rattle.std.specs.Prelude.{◌≡◌, ℕ, List, [], ◌∷◌, ◌++◌, sum_by}
use mathlib.Core.Option.{some}
use lib.ListN.{get_elem?}
use Rattle.atomic_table.specs.Table.{State, Step, Me}
use Rattle.group_spec.specs.declared.calls.Call.{Call}
use Rattle.threads_station.specs.declared.tally.View.{View}
use Rattle.threads_station.specs.declared.tally.View.TheVariants.{Half, Both, Spent}

-- how many halves a seat has
abbrev pub halves : View → ℕ
halves (Half calls) = 1
halves (Both here there) = 2
halves Spent = 0

-- it knows just these calls
abbrev pub Knows : List Call → View → Type 0
Knows calls (Half own) = own ≡ calls
Knows calls (Both here there) = (here ≡ calls) × (there ≡ calls)
Knows calls Spent = Unit {0}

-- All who know calls know the same, and there are two halves.
pub record Agrees (key : ℕ) (s : State ℕ View) : Type 0 where
  pub calls : List Call
  pub each : (id : ℕ) (v : View) → get_elem? s.views id ≡ some v → Knows calls v
  pub two : sum_by halves s.views ≡ 2

-- at first no call was entered
abbrev pub opening_view : ℕ → View
opening_view key = Both [] []

-- two halves together
abbrev pub together : View → View → View
together (Half own) (Half other) = Both own other
together v w = v

-- and what each of them has when they part
abbrev pub first_half : View → View
first_half (Both here there) = Half here
first_half v = v

abbrev pub second_half : View → View
second_half (Both here there) = Half there
second_half v = Spent

-- halves that are together know the same, and come to know these calls too
abbrev pub EntersAs : List Call → View → View → Type 0
EntersAs calls (Half own) w = Unit {0}
EntersAs calls (Both here there) w = (here ≡ there) × (w ≡ Both (here ++ calls) (there ++ calls))
EntersAs calls Spent w = Unit {0}

abbrev pub Enters : List Call → Step ℕ → Me ℕ View → ℕ → Me ℕ View → Type 0
Enters calls s v found w = (w.1 ≡ v.1) × EntersAs calls v.0 w.0

-- the calls that the one half knows
abbrev pub known : List View → List Call
known (Half calls ∷ []) = calls
known _ = []

-- it is one half
abbrev pub IsHalf : List View → Type 0
IsHalf views = views ≡ Half (known views) ∷ []
