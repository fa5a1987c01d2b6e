-- What an observer writes of the places that the pass goes over (own rules).
use Rattle.std.specs.Prelude.{◌≡◌, ℕ, zero, suc, ◌+◌, List, [], ◌++◌, Option, Some, None, option_map}
use Rattle.ranges_laws.specs.Pass.{Moves, Arrived, passed}
use Rattle.ranges_transfer.specs.Tables.{flat, IsRefusedAt, PassesOver}

-- what has arrived at a place when the pass comes to it
abbrev pub arrived_at : {K : Type 0} → (K → K → Option K) → (ℕ → K → Option (Moves K)) → K → ℕ → Option K
arrived_at {K} join moves entry place = flat (option_map (λ (arrived : Arrived K). arrived place) (passed join moves entry place))

-- what is written of so many places, from the first on
abbrev pub shown_to : {K : Type 0} → (ℕ → Option K → List ℕ) → (ℕ → Option K) → ℕ → List ℕ
shown_to shows facts zero = []
shown_to shows facts (suc n) = shown_to shows facts n ++ shows n (facts n)

-- what the pass answers, and what was written after a text: of all places, or of those up to and including the one that is refused
abbrev pub IsPassedShowing : {K R : Type 0} → (K → K → Option K) → (ℕ → K → Option (Moves K)) → (ℕ → K → R → Type 0) → K → ℕ → (ℕ → Option K → List ℕ) → List ℕ → List ℕ → Option R → Type 0
IsPassedShowing join moves refuses entry count shows old new None = PassesOver join moves entry count × (new ≡ old ++ shown_to shows (arrived_at join moves entry) count)
IsPassedShowing join moves refuses entry count shows old new (Some refused) =
    (at : IsRefusedAt join moves refuses entry count refused) × (new ≡ old ++ shown_to shows (arrived_at join moves entry) (at.place + 1))
