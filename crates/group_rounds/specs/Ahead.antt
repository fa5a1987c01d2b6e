-- What is still to come of a run, by rounds (own rules).
use Rattle.std.specs.Prelude.{◌≡◌, ℕ, ◌+◌, ◌≤◌, List, [], ◌∷◌, filter, ◌==◌}
use Rattle.cli_host.specs.declared.press.Press.{Press}
use Rattle.cli_host.specs.declared.press.Setting.{Setting}
use Rattle.group_plant.specs.declared.switches.Switches.{Switches}
use Rattle.group_rounds.specs.Driven.{switches_in}

abbrev pub press_round : Press → ℕ
press_round press = press.round

abbrev pub setting_round : Setting → ℕ
setting_round s = s.round

-- those of a round, in their order
abbrev pub of_round : {X : Type 0} → (X → ℕ) → ℕ → List X → List X
of_round round n xs = filter (λ x. round x == n) xs

-- the rounds don't fall along the list, and begin with this one at the earliest
abbrev pub Rises : {X : Type 0} → (X → ℕ) → ℕ → List X → Type 0
Rises round n [] = Unit {0}
Rises round n (x ∷ xs) = (n ≤ round x) × Rises round (round x) xs

-- The rest of all, by their rounds, before this round: those of it and of each later one, in the order that they have among all.
pub record IsAhead {X : Type 0} (round : X → ℕ) (n : ℕ) (all rest : List X) : Type 0 where
  pub rises : Rises round n rest
  pub same : (k : ℕ) → n ≤ k → of_round round k rest ≡ of_round round k all

-- what is set in a round, and the rest of all settings after it
pub record IsStanding (cars : ℕ) (all : List Setting) (n : ℕ) (switches : Switches) (later : List Setting) : Type 0 where
  pub is : switches ≡ switches_in cars all n
  pub rest : IsAhead setting_round (n + 1) all later
