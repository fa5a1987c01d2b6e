-- The table of what is left, as the code keeps it: the last place first (own rules).
use Rattle.std.specs.Prelude.{ℕ, ◌+◌, ◌-◌, max, nat_lt, if◌then◌else◌, List, [], ◌∷◌, ◌++◌, length, Option, Some, None}
use Rattle.il_syntax.specs.declared.tree.Condition.TheVariants.{Always}
use Rattle.load_budgets.specs.declared.ways.Way.{Way}
use Rattle.load_budgets.specs.declared.ways.Way.TheVariants.{Next, Jump, Return}
use Rattle.load_work.specs.declared.weights.Weighed.{Weighed}
use Rattle.load_work.specs.Sizes.{capped, number_at}

-- the work of the own unit that an instruction runs
abbrev pub called_work : List ℕ → Option ℕ → ℕ
called_work works None = 0
called_work works (Some number) = number_at works number

-- the work of an instruction, with that of the own unit that it runs
abbrev pub own_work : List ℕ → ℕ → Option ℕ → ℕ
own_work works moves callee = capped (capped (1 + moves) + called_work works callee)

-- what is left so many places after the last that was added
abbrev pub left_up : List ℕ → ℕ → ℕ
left_up lefts up = if nat_lt up (length lefts) then number_at lefts (length lefts - 1 - up) else 0

-- of a path that goes on at the next place
abbrev pub passing : ℕ → List ℕ → ℕ
passing own lefts = capped (own + left_up lefts 0)

-- of a path that jumps
abbrev pub jumping : List ℕ → ℕ → Option ℕ → ℕ
jumping lefts next None = 0
jumping lefts next (Some place) = capped (1 + left_up lefts (place - next))

-- what is left at an instruction, by what is left at the places after it
abbrev pub way_work : List ℕ → List ℕ → ℕ → ℕ → Way → ℕ
way_work works lefts next moves (Next callee) = passing (own_work works moves callee) lefts
way_work works lefts next moves (Jump Always to) = jumping lefts next to
way_work works lefts next moves (Jump _ to) = max (passing 1 lefts) (jumping lefts next to)
way_work works lefts next moves (Return Always) = 1
way_work works lefts next moves (Return _) = max (passing 1 lefts) 1

-- what is left at the places from one on
abbrev pub lefts_above : List ℕ → ℕ → List Weighed → List ℕ
lefts_above works place [] = 1 ∷ []
lefts_above works place (w ∷ ws) =
    let above : List ℕ = lefts_above works (place + 1) ws in
    above ++ way_work works above (place + 1) w.moves w.way ∷ []
