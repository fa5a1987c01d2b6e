-- Control paths of a unit and what they cost (own rule): an instruction costs 1, a call of an own unit that acts also a path of that unit.
use Rattle.std.specs.Prelude.{◌≡◌, ℕ, zero, suc, ◌+◌, ◌-◌, ◌≤◌, Bool, true, false, cond, List, [], ◌∷◌, length, slice_get, Option, Some, None, nat_lt}
use Rattle.il_syntax.specs.declared.tree.Form.{Form}
use Rattle.il_syntax.specs.declared.tree.Form.TheVariants.{Block as BlockForm}
use Rattle.il_syntax.specs.declared.tree.Condition.{Condition}
use Rattle.il_syntax.specs.declared.tree.Condition.TheVariants.{Always}
use Rattle.il_syntax.specs.declared.tree.Instruction.{Instruction}
use Rattle.il_syntax.specs.declared.tree.Instruction.TheVariants.{Jump, Return, Call, Invoke}
use Rattle.il_syntax.specs.declared.tree.Step.{Step as BodyStep}
use Rattle.il_syntax.specs.declared.tree.Body.{Body}
use Rattle.il_syntax.specs.declared.tree.Unit.{Unit as ProgramUnit}
use Rattle.il_syntax.specs.declared.tree.Config.{Config}
use Rattle.il_statics.specs.Names.{function_named, function_block_named, form_named}
use Rattle.il_statics.specs.Types.{label_place}
use Rattle.il_semantics.specs.Meaning.{depth}
use Rattle.il_semantics.specs.Step.{instruction_at}

-- A place of a body, and whether its instruction acts there. What has no condition acts.
pub record Visit : Type 0 where
  pub place : ℕ
  pub acts : Bool

-- A visit, by its parts.
abbrev pub visit : ℕ → Bool → Visit
visit place acts = record { place = place; acts = acts }

-- Where a path goes on.
pub data Onward : Type 0 where
  To : ℕ → Onward
  Ends : Onward
  -- a jump to a label that is not there
  Nowhere : Onward

-- Where a jump leads.
abbrev pub landing : Option ℕ → Onward
landing None = Nowhere
landing (Some place) = To place

-- The successor of a place, whatever the values.
abbrev pub onward : Body → ℕ → Instruction → Bool → Onward
onward body place (Jump condition label) true = landing (label_place body label.name)
onward body place (Return condition) true = Ends
onward body place _ acts = To (place + 1)

-- An instruction may act or not act so.
abbrev pub may_act : Condition → Bool → Bool
may_act Always acts = acts
may_act _ acts = true

-- Whether an instruction may act so, whatever the values.
abbrev pub is_possible : Instruction → Bool → Bool
is_possible (Jump condition label) acts = may_act condition acts
is_possible (Return condition) acts = may_act condition acts
is_possible (Call condition instance arguments) acts = may_act condition acts
is_possible _ acts = acts

-- The own block of an instance.
abbrev pub block_unit : Config → Option Form → Option ProgramUnit
block_unit c (Some (BlockForm block)) = function_block_named c block
block_unit c _ = None

-- The own unit whose body an instruction runs where it acts.
abbrev pub callee : Config → ProgramUnit → Instruction → Option ProgramUnit
callee c u (Call condition instance arguments) = block_unit c (form_named c u instance.name)
callee c u (Invoke function operands) = function_named c function.name
callee c u _ = None

-- The unit, where the call acts.
abbrev pub callee_if : Option ProgramUnit → Bool → Option ProgramUnit
callee_if callee true = callee
callee_if callee false = None

-- What is run at a visit: an own unit, or none.
abbrev pub runs : Config → ProgramUnit → ℕ → Bool → Option ProgramUnit
runs c u place acts = callee_if (callee c u (instruction_at u.body place)) acts

-- A control path of a unit from a place to a RET, with its cost.
pub data IsPath (c : Config) : ProgramUnit → ℕ → List Visit → ℕ → Type 0 where
  ends : (u : ProgramUnit) (place : ℕ) (acts : Bool)
      → is_possible (instruction_at u.body place) acts ≡ true
      → onward u.body place (instruction_at u.body place) acts ≡ Ends
      → IsPath c u place (visit place acts ∷ []) 1
  goes : (u : ProgramUnit) (place : ℕ) (acts : Bool) (next : ℕ) (visits : List Visit) (cost : ℕ)
      → is_possible (instruction_at u.body place) acts ≡ true
      → onward u.body place (instruction_at u.body place) acts ≡ To next
      → runs c u place acts ≡ None
      → IsPath c u next visits cost
      → IsPath c u place (visit place acts ∷ visits) (1 + cost)
  calls : (u : ProgramUnit) (place : ℕ) (acts : Bool) (next : ℕ) (visits : List Visit) (cost : ℕ) (v : ProgramUnit) (inner : List Visit) (inner_cost : ℕ)
      → is_possible (instruction_at u.body place) acts ≡ true
      → onward u.body place (instruction_at u.body place) acts ≡ To next
      → runs c u place acts ≡ Some v
      → IsPath c v 0 inner inner_cost
      → IsPath c u next visits cost
      → IsPath c u place (visit place acts ∷ visits) (1 + inner_cost + cost)

-- The greatest cost of a control path of the unit.
pub record IsLongest (c : Config) (u : ProgramUnit) (longest : ℕ) : Type 0 where
  pub attained : (visits : List Visit) × IsPath c u 0 visits longest
  pub greatest : (visits : List Visit) (cost : ℕ) → IsPath c u 0 visits cost → cost ≤ longest

-- By a backward table --

-- The greatest cost from a place on, and the place of the path that follows, if it goes on.
pub record Rest : Type 0 where
  pub cost : ℕ
  pub next : Option ℕ

-- A rest, by its parts.
abbrev pub rest : ℕ → Option ℕ → Rest
rest cost next = record { cost = cost; next = next }

-- The rest where there is no place.
abbrev pub no_rest : Rest
no_rest = rest 0 None

-- A rest that may be missing.
abbrev pub rest_or : Option Rest → Rest
rest_or None = no_rest
rest_or (Some r) = r

-- The rest at a place, in the table of the places from `first` on.
abbrev pub rest_at : List Rest → ℕ → ℕ → Rest
rest_at table first place = rest_or (slice_get table (place - first))

-- Of two ways on, the dearer; where both cost the same, the first.
abbrev pub dearer : Rest → Rest → Rest
dearer a b = cond (nat_lt a.cost b.cost) b a

-- What a path costs that goes on at the next place.
abbrev pub passing : ℕ → List Rest → ℕ → Rest
passing own table next = rest (own + (rest_at table next next).cost) (Some next)

-- What a path costs that jumps.
abbrev pub jumping : List Rest → ℕ → Option ℕ → Rest
jumping table next None = no_rest
jumping table next (Some place) = rest (1 + (rest_at table next place).cost) (Some place)

-- The rest at a jump.
abbrev pub jump_rest : Condition → List Rest → ℕ → Option ℕ → Rest
jump_rest Always table next place = jumping table next place
jump_rest _ table next place = dearer (passing 1 table next) (jumping table next place)

-- The rest at a return.
abbrev pub return_rest : Condition → List Rest → ℕ → Rest
return_rest Always table next = rest 1 None
return_rest _ table next = dearer (passing 1 table next) (rest 1 None)

-- The rest of a place, by the table of the places after it. `own` is what the instruction costs where it acts.
abbrev pub place_rest : Body → Instruction → ℕ → List Rest → ℕ → Rest
place_rest body (Jump condition label) own table next = jump_rest condition table next (label_place body label.name)
place_rest body (Return condition) own table next = return_rest condition table next
place_rest body _ own table next = passing own table next

-- The table of the places from one on; the last is the return after the last instruction.
abbrev pub rests : (Instruction → ℕ) → Body → ℕ → List BodyStep → List Rest
rests own body place [] = rest 1 None ∷ []
rests own body place (s ∷ ss) =
    let table : List Rest = rests own body (place + 1) ss in
    place_rest body s.instruction (own s.instruction) table (place + 1) ∷ table

-- What an instruction costs, by the unit whose body it runs.
abbrev pub cost_of : (ProgramUnit → ℕ) → Option ProgramUnit → ℕ
cost_of longest None = 1
cost_of longest (Some v) = 1 + longest v

-- The table of a unit's places.
abbrev pub table_of : (ProgramUnit → ℕ) → Config → ProgramUnit → List Rest
table_of longest c u = rests (λ i. cost_of longest (callee c u i)) u.body 0 u.body.steps

-- The greatest cost, where units use one another at most so deep.
abbrev pub longest_within : ℕ → Config → ProgramUnit → ℕ
longest_within zero c u = 0
longest_within (suc n) c u = (rest_at (table_of (longest_within n c) c u) 0 0).cost

-- The greatest cost of a control path of the unit, by the table.
unfoldable pub longest : Config → ProgramUnit → ℕ
longest c u = longest_within depth c u

-- The places of the path that the table gives, so many at most.
abbrev pub followed : ℕ → List Rest → Option ℕ → List ℕ
followed zero table at = []
followed (suc n) table None = []
followed (suc n) table (Some place) = place ∷ followed n table (rest_at table 0 place).next

-- A path of the greatest cost: where both ways cost the same, it does not jump, return or call.
unfoldable pub longest_path : Config → ProgramUnit → List ℕ
longest_path c u = followed (length u.body.steps + 1) (table_of (longest_within depth c) c u) (Some 0)
