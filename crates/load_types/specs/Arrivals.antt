-- What arrives at places, and what a place hands on (own rules).
use Rattle.std.specs.Prelude.{ℕ, ◌+◌, ◌-◌, Bool, if◌then◌else◌, nat_lt, List, [], ◌∷◌, ◌++◌, take, length, Option, Some, None, slice_get, slice_set}
use Rattle.il_syntax.specs.declared.tree.Body.{Body}
use Rattle.il_syntax.specs.declared.tree.Elementary.{Elementary}
use Rattle.il_syntax.specs.declared.tree.Instruction.{Instruction}
use Rattle.il_syntax.specs.declared.tree.Instruction.TheVariants.{Jump, Defer, Evaluate}
use Rattle.il_syntax.specs.ElementaryTypes.{is_same_type}
use Rattle.il_statics.specs.Types.{Deferred, goes_on, label_place}
use Rattle.load_types.specs.declared.arrival.Arrival.{Arrival}
use Rattle.load_types.specs.declared.arrival.Arrival.TheVariants.{Unreached, Reached}

-- the type that two paths both give
abbrev pub join : Option Elementary → Option Elementary → Option Elementary
join (Some a) (Some b) = if is_same_type a b then Some a else None
join (Some a) None = None
join None b = None

-- a place to which something leads with this type
abbrev pub met : Arrival → Option Elementary → Arrival
met Unreached result = Reached result
met (Reached other) result = Reached (join other result)

-- nothing leads to a place that is in no table
abbrev pub or_unreached : Option Arrival → Arrival
or_unreached None = Unreached
or_unreached (Some arrival) = arrival

-- what a table has of a place
abbrev pub held : List Arrival → ℕ → Arrival
held table place = or_unreached (slice_get table place)

-- something leads to a place with this type
abbrev pub arrive : List Arrival → ℕ → Option Elementary → List Arrival
arrive table to result = slice_set table to (met (held table to) result)

-- the same of a place that may be missing
abbrev pub arrive_any : List Arrival → Option ℕ → Option Elementary → List Arrival
arrive_any table None result = table
arrive_any table (Some to) result = arrive table to result

-- a place that is ahead
abbrev pub ahead : ℕ → Option ℕ → Option ℕ
ahead at None = None
ahead at (Some to) = if nat_lt at to then Some to else None

-- the place to which an instruction can jump: that of a known label that is ahead (3.2.2)
abbrev pub target_of : Body → ℕ → Instruction → Option ℕ
target_of body at (Jump condition label) = ahead at (label_place body label.name)
target_of body at _ = None

-- the next place, where it can follow
abbrev pub next_of : ℕ → Bool → Option ℕ
next_of at on = if on then Some (at + 1) else None

-- what a place hands on, where something leads to it
abbrev pub hand_on : Body → ℕ → Instruction → Option Elementary → List Arrival → List Arrival
hand_on body at instruction after table = arrive_any (arrive_any table (next_of at (goes_on instruction)) after) (target_of body at instruction) after

-- the type of the result at a place: none where nothing leads
abbrev pub result_at : Arrival → Option Elementary
result_at Unreached = None
result_at (Reached result) = result

-- the last, which is the innermost
abbrev pub last_of : List Deferred → Option Deferred
last_of waiting = slice_get waiting (length waiting - 1)

-- all but the last
abbrev pub front_of : List Deferred → List Deferred
front_of waiting = take (length waiting - 1) waiting

-- what waits for a `)` after an instruction, the innermost last (3.2.2)
abbrev pub waiting_after : Instruction → Option Elementary → List Deferred → List Deferred
waiting_after (Defer operator first) before waiting = waiting ++ (operator, before) ∷ []
waiting_after Evaluate before waiting = front_of waiting
waiting_after _ before waiting = waiting
