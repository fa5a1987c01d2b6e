-- The table of costs, as the code keeps it: the last place first, and no cost over one more than a unit may cost (own rules).
use Rattle.std.specs.Prelude.{ℕ, ◌+◌, ◌-◌, min, nat_lt, if◌then◌else◌, List, [], ◌∷◌, ◌++◌, length, slice_get, Option, Some, None}
use Rattle.il_syntax.specs.declared.tree.Condition.TheVariants.{Always}
use Rattle.load_budgets.specs.declared.ways.Way.{Way}
use Rattle.load_budgets.specs.declared.ways.Way.TheVariants.{Next, Jump, Return}
use Rattle.load_budgets.specs.declared.table.Rest.{Rest}

-- a cost, or one more than a unit may cost
abbrev pub capped : ℕ → ℕ
capped n = min n 1000001

abbrev pub rest : ℕ → Option ℕ → Rest
rest cost next = record { cost = cost; next = next }

-- where there is no place
abbrev pub no_rest : Rest
no_rest = rest 0 None

abbrev pub rest_or : Option Rest → Rest
rest_or None = no_rest
rest_or (Some r) = r

-- a number of a list
abbrev pub number_or : Option ℕ → ℕ
number_or None = 0
number_or (Some n) = n

abbrev pub number_at : List ℕ → ℕ → ℕ
number_at costs at = number_or (slice_get costs at)

-- what an instruction costs, with the own unit that it runs
abbrev pub callee_cost : List ℕ → Option ℕ → ℕ
callee_cost costs None = 1
callee_cost costs (Some number) = capped (1 + number_at costs number)

-- the rest so many places after the last that was added
abbrev pub rest_up : List Rest → ℕ → Rest
rest_up rests up = if nat_lt up (length rests) then rest_or (slice_get rests (length rests - 1 - up)) else no_rest

-- of two ways on, the dearer; where both cost the same, the first
abbrev pub dearer : Rest → Rest → Rest
dearer a b = if nat_lt a.cost b.cost then b else a

-- a path that goes on at the next place
abbrev pub passing : ℕ → List Rest → ℕ → Rest
passing own rests next = rest (capped (own + (rest_up rests 0).cost)) (Some next)

-- a path that jumps
abbrev pub jumping : List Rest → ℕ → Option ℕ → Rest
jumping rests next None = no_rest
jumping rests next (Some place) = rest (capped (1 + (rest_up rests (place - next)).cost)) (Some place)

-- the rest of an instruction, by those of the places after it
abbrev pub way_rest : List ℕ → List Rest → ℕ → Way → Rest
way_rest costs rests next (Next callee) = passing (callee_cost costs callee) rests next
way_rest costs rests next (Jump Always to) = jumping rests next to
way_rest costs rests next (Jump _ to) = dearer (passing 1 rests next) (jumping rests next to)
way_rest costs rests next (Return Always) = rest 1 None
way_rest costs rests next (Return _) = dearer (passing 1 rests next) (rest 1 None)

-- the rests of the places from one on
abbrev pub rests_above : List ℕ → ℕ → List Way → List Rest
rests_above costs place [] = rest 1 None ∷ []
rests_above costs place (w ∷ ws) =
    let above : List Rest = rests_above costs (place + 1) ws in
    above ++ way_rest costs above (place + 1) w ∷ []
