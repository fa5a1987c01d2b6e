-- Control paths by their last step, and what an instruction does to the type of the result.
use Rattle.std.specs.Prelude.{◌≡◌, ℕ, zero, suc, ◌<◌, Contains, List, [], ◌∷◌, ◌++◌, Option, Some, None, option_map, option_and_then, slice_get, refl}
use Rattle.std.proofs.Common.{arith, ap, sym, subst, ◌∙◌, ◌⊎◌, inl, inr}
use Rattle.il_syntax.specs.declared.tree.Config.{Config}
use Rattle.il_syntax.specs.declared.tree.Unit.{Unit as ProgramUnit}
use Rattle.il_syntax.specs.declared.tree.Body.{Body}
use Rattle.il_syntax.specs.declared.tree.Step.{Step}
use Rattle.il_syntax.specs.declared.tree.Operand.{Operand}
use Rattle.il_syntax.specs.declared.tree.Store.{Store}
use Rattle.il_syntax.specs.declared.tree.Store.TheVariants.{Plain, Negated, Set, Reset}
use Rattle.il_syntax.specs.declared.tree.Elementary.{Elementary}
use Rattle.il_syntax.specs.declared.tree.Elementary.TheVariants.{Bool as Boolean}
use Rattle.il_syntax.specs.declared.tree.Operator.{Operator}
use Rattle.il_syntax.specs.declared.tree.Operator.TheVariants.{Logic as LogicOperator, Arithmetic as ArithmeticOperator, Comparison as ComparisonOperator}
use Rattle.il_syntax.specs.declared.tree.Instruction.{Instruction}
use Rattle.il_syntax.specs.declared.tree.Instruction.TheVariants.{Load, Store as StoreInto, Not, Operate, Defer, Evaluate, Jump, Return, Call, Invoke}
use Rattle.il_statics.specs.declared.names.StandardFunction.{StandardFunction}
use Rattle.il_statics.specs.declared.names.StandardFunction.TheVariants.{Absolute, Minimum, Maximum, Limited, Selected, Converted}
use Rattle.il_statics.specs.Names.{standard_function, function_named}
use Rattle.il_statics.specs.Types.{type_after, type_behind, type_along, opener, kept_type, stored_type, left_type, evaluated_type, function_type, standard_type, Follows, Leads, AllGive, IsReached, IsResultAt}

-- the one element of a list
pub only_one : {X : Type 0} (x y : X) → Contains (x ∷ []) y → y ≡ x
only_one x y (zero, low, e) = sym e
only_one x y (suc k, low, e) = absurd (omega arith)

-- a change of the type of the result that keeps each, or gives one whatever was before
abbrev pub IsSimple : (Option Elementary → Option Elementary) → Type 0
IsSimple change = ((b : Option Elementary) → change b ≡ b) ⊎ ((c : Option Elementary) × ((b : Option Elementary) → change b ≡ c))

-- a path and one step more
pub leads_on : (body : Body) (from : ℕ) (path : List ℕ) (mid to : ℕ) → Leads body from path mid → Follows body mid to → Leads body from (path ++ to ∷ []) to
leads_on body from [] mid to l f = (subst (λ n. Follows body n to) (sym l) f, refl)
leads_on body from (next ∷ path) mid to l f = (l.0, leads_on body next path mid to l.1 f)

-- what a path and one step more give
pub along_on : (config : Config) (unit : ProgramUnit) (from : ℕ) (path : List ℕ) (mid to : ℕ) (before : Option Elementary) → Leads unit.body from path mid → type_along config unit from (path ++ to ∷ []) before ≡ type_behind config unit mid (type_along config unit from path before)
along_on config unit from [] mid to before l = ap (λ n. type_behind config unit n before) l
along_on config unit from (next ∷ path) mid to before l = along_on config unit next path mid to (type_behind config unit from before) l.1

-- a path that is not empty, by its last step
pub record LastStep (body : Body) (from : ℕ) (path : List ℕ) (to : ℕ) : Type 0 where
  pub mid : ℕ
  pub before : List ℕ
  pub leads : Leads body from before mid
  pub follows : Follows body mid to
  pub is : path ≡ before ++ to ∷ []

pub last_step : (body : Body) (from next : ℕ) (path : List ℕ) (to : ℕ) → Leads body from (next ∷ path) to → LastStep body from (next ∷ path) to
last_step body from next [] to l =
    record { mid = from; before = []; leads = refl; follows = subst (λ n. Follows body from n) l.1 l.0; is = ap (λ n. n ∷ []) l.1 }
last_step body from next (n ∷ path) to l =
    let r = last_step body next n path to l.1 in
    record { mid = r.mid; before = next ∷ r.before; leads = (l.0, r.leads); follows = r.follows; is = ap (λ p. next ∷ p) r.is }

left-simple : (operator : Operator) → IsSimple (left_type operator)
left-simple (LogicOperator logic negated) = inr (Some Boolean, λ b. refl)
left-simple (ArithmeticOperator arithmetic) = inl (λ b. refl)
left-simple (ComparisonOperator comparison) = inr (Some Boolean, λ b. refl)

stored-simple : (store : Store) → IsSimple (stored_type store)
stored-simple Plain = inl (λ b. refl)
stored-simple Negated = inr (Some Boolean, λ b. refl)
stored-simple Set = inr (Some Boolean, λ b. refl)
stored-simple Reset = inr (Some Boolean, λ b. refl)

evaluated-simple : (deferred : Option Operator) → IsSimple (evaluated_type deferred)
evaluated-simple None = inr (None, λ b. refl)
evaluated-simple (Some operator) = left-simple operator

standard-simple : (config : Config) (unit : ProgramUnit) (function : StandardFunction) (operands : List Operand) → IsSimple (standard_type config unit function operands)
standard-simple config unit Absolute operands = inl (λ b. refl)
standard-simple config unit Minimum operands = inl (λ b. refl)
standard-simple config unit Maximum operands = inl (λ b. refl)
standard-simple config unit Limited operands = inl (λ b. refl)
standard-simple config unit Selected operands = inr (_, λ b. refl)
standard-simple config unit (Converted from to) operands = inr (Some to, λ b. refl)

function-simple : (config : Config) (unit : ProgramUnit) (function : Option StandardFunction) (own : Option ProgramUnit) (operands : List Operand) → IsSimple (function_type config unit function own operands)
function-simple config unit (Some function) own operands = standard-simple config unit function operands
function-simple config unit None (Some own) operands = inr (_, λ b. refl)
function-simple config unit None None operands = inr (None, λ b. refl)

-- each instruction keeps the type, or gives one whatever was before
pub after-simple : (config : Config) (unit : ProgramUnit) (deferred : Option Operator) (instruction : Instruction) → IsSimple (type_after config unit deferred instruction)
unfolding type_after
after-simple config unit deferred (Load negated operand) = inr (_, λ b. refl)
after-simple config unit deferred (StoreInto store target) = stored-simple store
after-simple config unit deferred Not = inr (Some Boolean, λ b. refl)
after-simple config unit deferred (Operate operator operand) = left-simple operator
after-simple config unit deferred (Defer operator first) = inr (_, λ b. refl)
after-simple config unit deferred Evaluate = evaluated-simple deferred
after-simple config unit deferred (Jump condition label) = inr (kept_type condition, λ b. refl)
after-simple config unit deferred (Return condition) = inr (kept_type condition, λ b. refl)
after-simple config unit deferred (Call condition instance arguments) = inr (None, λ b. refl)
after-simple config unit deferred (Invoke function operands) = function-simple config unit (standard_function function.name) (function_named config function.name) operands

stepped-simple : (config : Config) (unit : ProgramUnit) (at : ℕ) (found : Option Step) → IsSimple (λ b. option_and_then (λ s. type_after config unit (option_map (λ o. o.1) (opener unit.body at)) s.instruction b) found)
stepped-simple config unit at None = inr (None, λ b. refl)
stepped-simple config unit at (Some s) = after-simple config unit (option_map (λ o. o.1) (opener unit.body at)) s.instruction

-- so does each place
pub behind-simple : (config : Config) (unit : ProgramUnit) (at : ℕ) → IsSimple (type_behind config unit at)
behind-simple config unit at = stepped-simple config unit at (slice_get unit.body.steps at)

-- the result at a place is the one type that all control paths give
pub result_is : (config : Config) (unit : ProgramUnit) (at : ℕ) (given : Elementary) → AllGive config unit at given → (before : Option Elementary) → IsResultAt config unit at before → before ≡ Some given
result_is config unit at given all None r = absurd (r given all)
result_is config unit at given all (Some other) r = sym (r.each all.reached.0 all.reached.1) ∙ all.each all.reached.0 all.reached.1

-- the result at a place is one
pub one_result : (config : Config) (unit : ProgramUnit) (at : ℕ) (t : Option Elementary) → IsResultAt config unit at t → (before : Option Elementary) → IsResultAt config unit at before → before ≡ t
one_result config unit at (Some g) r before other = result_is config unit at g r before other
one_result config unit at None r None other = refl
one_result config unit at None r (Some g) other = absurd (r g other)

-- what all paths to a place give, each path to a place before it gives after that
given_before : (config : Config) (unit : ProgramUnit) (mid to : ℕ) (given : Elementary) → AllGive config unit to given → Follows unit.body mid to → (path : List ℕ) → Leads unit.body 0 path mid → type_behind config unit mid (type_along config unit 0 path None) ≡ Some given
given_before config unit mid to given all follows path l =
    sym (along_on config unit 0 path mid to None l) ∙ all.each (path ++ to ∷ []) (leads_on unit.body 0 path mid to l follows)

joined : (config : Config) (unit : ProgramUnit) (mid to : ℕ) (given : Elementary) → AllGive config unit to given → (reached : IsReached unit.body mid) → Follows unit.body mid to → (r : Option Elementary) → IsResultAt config unit mid r → IsSimple (type_behind config unit mid) → type_behind config unit mid r ≡ Some given
joined config unit mid to given all reached follows r is (inl keeps) =
    let there : AllGive config unit mid given = record { reached = reached; each = λ path l. sym (keeps (type_along config unit 0 path None)) ∙ given_before config unit mid to given all follows path l } in
    keeps r ∙ result_is config unit mid given there r is
joined config unit mid to given all reached follows r is (inr constant) =
    constant.1 r ∙ sym (constant.1 (type_along config unit 0 reached.0 None)) ∙ given_before config unit mid to given all follows reached.0 reached.1

-- what all paths to a place give, the results at the places before it give (the forward pass joins no more than the paths do)
pub join_of_paths : (config : Config) (unit : ProgramUnit) (mid to : ℕ) (given : Elementary) → AllGive config unit to given → IsReached unit.body mid → Follows unit.body mid to → (r : Option Elementary) → IsResultAt config unit mid r → type_behind config unit mid r ≡ Some given
join_of_paths config unit mid to given all reached follows r is = joined config unit mid to given all reached follows r is (behind-simple config unit mid)

-- a reached place before another, with its result, which gives this type after it
pub record GivesBehind (config : Config) (unit : ProgramUnit) (mid : ℕ) (given : Elementary) : Type 0 where
  pub result : Option Elementary
  pub is : IsResultAt config unit mid result
  pub gives : type_behind config unit mid result ≡ Some given

passed_on : (config : Config) (unit : ProgramUnit) (mid : ℕ) (given : Elementary) (r : Option Elementary) → IsResultAt config unit mid r → r ≡ Some given → (path : List ℕ) → Leads unit.body 0 path mid → type_along config unit 0 path None ≡ Some given
passed_on config unit mid given r is e path l = (subst (λ o. IsResultAt config unit mid o) e is).each path l

supported : (config : Config) (unit : ProgramUnit) (mid : ℕ) (given : Elementary) → GivesBehind config unit mid given → (path : List ℕ) → Leads unit.body 0 path mid → IsSimple (type_behind config unit mid) → type_behind config unit mid (type_along config unit 0 path None) ≡ Some given
supported config unit mid given g path l (inl keeps) =
    keeps (type_along config unit 0 path None) ∙ passed_on config unit mid given g.result g.is (sym (keeps g.result) ∙ g.gives) path l
supported config unit mid given g path l (inr constant) = constant.1 (type_along config unit 0 path None) ∙ sym (constant.1 g.result) ∙ g.gives

along_join : (config : Config) (unit : ProgramUnit) (to : ℕ) (given : Elementary) → 0 < to → ((mid : ℕ) → IsReached unit.body mid → Follows unit.body mid to → GivesBehind config unit mid given) → (path : List ℕ) → Leads unit.body 0 path to → type_along config unit 0 path None ≡ Some given
along_join config unit to given up each [] l = absurd (omega arith)
along_join config unit to given up each (next ∷ path) l =
    let s = last_step unit.body 0 next path to l in
    ap (λ p. type_along config unit 0 p None) s.is
    ∙ along_on config unit 0 s.before s.mid to None s.leads
    ∙ supported config unit s.mid given (each s.mid (s.before, s.leads) s.follows) s.before s.leads (behind-simple config unit s.mid)

-- where each reached place before another gives one type after it, all paths give it (the forward pass joins no less)
pub paths_of_join : (config : Config) (unit : ProgramUnit) (to : ℕ) (given : Elementary) → 0 < to → IsReached unit.body to → ((mid : ℕ) → IsReached unit.body mid → Follows unit.body mid to → GivesBehind config unit mid given) → AllGive config unit to given
paths_of_join config unit to given up reached each = record { reached = reached; each = along_join config unit to given up each }

abbrev no_result : Option Elementary
no_result = None

-- at the entry there is no result
pub entry-none : (config : Config) (unit : ProgramUnit) → IsResultAt config unit 0 None
entry-none config unit given all = missing given (all.each [] refl)
  where
    missing : (g : Elementary) → no_result ≡ Some g → ⊥
    missing g e = cc
