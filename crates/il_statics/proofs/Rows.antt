-- Small configurations, checked by the definitions.
use Rattle.std.specs.Prelude.{◌≡◌, ◌≢◌, ℕ, zero, suc, ◌+◌, ◌<◌, ◌≤◌, ℤ, pos, negsuc, Bool, true, false, List, [], ◌∷◌, Option, Some, None, codes, bytes_eq, refl, Contains}
use Rattle.il_syntax.specs.declared.tree.Config.{Config}
use Rattle.il_syntax.specs.declared.tree.Unit.{Unit as ProgramUnit}
use Rattle.il_syntax.specs.declared.tree.UnitKind.TheVariants.{FunctionBlock, Program}
use Rattle.il_syntax.specs.declared.tree.Body.{Body}
use Rattle.il_syntax.specs.declared.tree.Step.{Step}
use Rattle.il_syntax.specs.declared.tree.Declaration.{Declaration}
use Rattle.il_syntax.specs.declared.tree.Named.{Named}
use Rattle.il_syntax.specs.declared.tree.Initial.{Initial}
use Rattle.il_syntax.specs.declared.tree.Place.{Place}
use Rattle.il_syntax.specs.declared.tree.Form.{Form}
use Rattle.il_syntax.specs.declared.tree.Form.TheVariants.{Scalar as OfScalar, Array as OfArray, Block as OfBlock}
use Rattle.il_syntax.specs.declared.tree.Elementary.{Elementary}
use Rattle.il_syntax.specs.declared.tree.Elementary.TheVariants.{Bool as Boolean, Sint, Int, Dint}
use Rattle.il_syntax.specs.declared.tree.Literal.TheVariants.{Truth, Bare, Time as Duration}
use Rattle.il_syntax.specs.declared.tree.Reference.TheVariants.{Literal as OfLiteral, Variable as OfVariable, Element as OfElement}
use Rattle.il_syntax.specs.declared.tree.Reference.{Reference}
use Rattle.il_syntax.specs.declared.tree.Index.TheVariants.{Number as NumberIndex}
use Rattle.il_syntax.specs.declared.tree.Argument.TheVariants.{Input, Output}
use Rattle.il_syntax.specs.declared.tree.Comparison.TheVariants.{Greater}
use Rattle.il_syntax.specs.declared.tree.Logic.TheVariants.{Conjunction}
use Rattle.il_syntax.specs.declared.tree.Operand.{Operand}
use Rattle.il_syntax.specs.declared.tree.Arithmetic.TheVariants.{Add}
use Rattle.il_syntax.specs.declared.tree.Operator.TheVariants.{Logic as LogicOperator, Arithmetic as ArithmeticOperator, Comparison as ComparisonOperator}
use Rattle.il_syntax.specs.declared.tree.Store.TheVariants.{Plain, Set}
use Rattle.il_syntax.specs.declared.tree.Condition.TheVariants.{Always, WhenTrue, WhenFalse}
use Rattle.il_syntax.specs.declared.tree.Instruction.{Instruction}
use Rattle.il_syntax.specs.declared.tree.Instruction.TheVariants.{Load, Store as StoreInto, Not, Operate, Evaluate, Jump, Return, Call, Invoke}
use Rattle.il_syntax.specs.ElementaryTypes.{plain}
use Rattle.il_statics.specs.Names.{Spelling, within, image_name, standard_function, standard_block, block_variables, meaning}
use Rattle.std.proofs.Common.{arith, ap, sym, subst, ◌∙◌}
use Rattle.il_statics.specs.Declarations.{type_numbers, name_numbers, second_variable, unknown_name, initial_outside as outside, foreign_task, initial_of_other_type, name_of_other_type}
use Rattle.il_statics.specs.Types.{typing_numbers, type_after, opener, label_place, reference_type, type_along, Follows, onward, jumped, Leads, JumpsAt, StandsAt, goes_on, backward, unreached, two_writers, StoresAt}
use Rattle.il_statics.specs.Order.{AreFunctionsOf, declares, recursive, of_task, block_slots}
use Rattle.il_statics.specs.Faults.{Broken, Declaring, Typing, Ordering, duplicate, unknown, empty_range, initial_outside, bad_task, other_type, of_instruction, backward_jump, unreached as of_unreached, recursive as of_recursive, too_many_slots as of_slots, two_writers as of_two_writers}

-- TREES

-- the place of the byte at this offset; each line has one byte here
abbrev pub place_at : ℕ → Place
place_at offset = record { offset = offset; line = offset }

abbrev pub named : ℕ → Spelling → Named
named offset name = record { place = place_at offset; name = name }

-- names of one type, with its place
abbrev pub declared : List Named → ℕ → Form → Option Initial → Declaration
declared names offset form initial = record { names = names; declared = record { place = place_at offset; form = form }; initial = initial }

abbrev pub step : ℕ → Instruction → Step
step offset instruction = record { labels = []; place = place_at offset; instruction = instruction }

abbrev pub labelled : Named → ℕ → Instruction → Step
labelled label offset instruction = record { labels = label ∷ []; place = place_at offset; instruction = instruction }

abbrev pub operand : ℕ → Reference → Operand
operand offset reference = record { place = place_at offset; reference = reference }

abbrev pub load : ℕ → Reference → Instruction
load offset reference = Load false (operand offset reference)

abbrev pub int : Form
int = OfScalar (plain Int)

-- a program with its variables and externals
abbrev pub program : ℕ → Spelling → List Declaration → List Declaration → List Step → ProgramUnit
program offset name variables externals steps =
    record { place = place_at offset; kind = Program; name = named offset name; inputs = []; outputs = []; variables = variables; externals = externals; body = record { steps = steps; last_labels = []; end = place_at (offset + 90) } }

-- one car, two floors, one slot; CAR1 runs program C
abbrev pub frame : List ProgramUnit → Config
frame units =
    record { units = units; cars = record { place = place_at 1000; value = pos 1 }; floors = record { place = place_at 1001; value = pos 2 }; slots = record { place = place_at 1002; value = pos 1 }; globals_place = None; globals = []; tasks = record { place = place_at 1010; name = named 1011 (codes "CAR1"); interval = pos 100; priority = pos 1 } ∷ []; programs = record { place = place_at 1020; name = named 1021 (codes "P1"); task = named 1022 (codes "CAR1"); program = named 1023 (codes "C") } ∷ []; end_resource = place_at 1030 }

-- program C alone
abbrev pub alone : List Declaration → List Step → Config
alone variables steps = frame (program 10 (codes "C") variables [] steps ∷ [])

-- DECLARATIONS

-- A : ARRAY [1..257] OF INT
abbrev pub too_long : Config
too_long = alone (declared (named 20 (codes "A") ∷ []) 21 (OfArray (record { lower = pos 1; upper = pos 257 }) (plain Int)) None ∷ []) []

too_long-row : Broken Declaring too_long 22 (place_at 21)
unfolding type_numbers
too_long-row = empty_range refl (_, (0, omega arith, refl), (0, omega arith, refl), refl)

-- X : INT := T#1s
abbrev pub time_in_int : Config
time_in_int = alone (declared (named 20 (codes "X") ∷ []) 21 int (Some (record { place = place_at 22; literal = Duration (pos 1000) })) ∷ []) []

time_in_int-row : Broken Declaring time_in_int 25 (place_at 22)
time_in_int-row = other_type refl (initial_of_other_type (_, _, (0, omega arith, refl), refl, (0, omega arith, refl), refl))

-- V : INT (0..9) := 10
abbrev pub ten_in_digit : Config
ten_in_digit = alone (declared (named 20 (codes "V") ∷ []) 21 (OfScalar (within (pos 0) (pos 9))) (Some (record { place = place_at 22; literal = Bare (pos 10) })) ∷ []) []

ten_in_digit-row : Broken Declaring ten_in_digit 23 (place_at 22)
ten_in_digit-row = initial_outside refl (outside (_, _, (0, omega arith, refl), refl, (0, omega arith, refl), refl))

-- A : ARRAY [1..8] OF INT, and LD A
abbrev pub whole_array : Config
whole_array =
    alone (declared (named 20 (codes "A") ∷ []) 21 (OfArray (record { lower = pos 1; upper = pos 8 }) (plain Int)) None ∷ []) (step 30 (load 31 (OfVariable (codes "A"))) ∷ [])

whole_array-row : Broken Declaring whole_array 25 (place_at 30)
unfolding name_numbers meaning image_name
whole_array-row = other_type refl (name_of_other_type (_, _, (0, omega arith, refl), (0, omega arith, refl), (0, omega arith, refl), refl))

-- X, x : INT
abbrev pub twice : Config
twice = alone (declared (named 20 (codes "X") ∷ named 21 (codes "X") ∷ []) 22 int None ∷ []) []

twice-row : Broken Declaring twice 20 (place_at 21)
twice-row = duplicate refl (second_variable _ (named 21 (codes "X")) (0, omega arith, refl) (named 20 (codes "X") ∷ [], [], refl, (0, omega arith, refl)) refl)

-- LD MOTOR in a function block
abbrev pub hidden : Config
hidden = frame (program 10 (codes "C") [] [] [] ∷ record (program 110 (codes "B") [] [] (step 130 (load 131 (OfVariable (codes "MOTOR"))) ∷ [])) { kind = FunctionBlock } ∷ [])

hidden-row : Broken Declaring hidden 21 (place_at 130)
unfolding name_numbers meaning image_name
hidden-row = unknown refl (unknown_name (_, _, (1, omega arith, refl), (0, omega arith, refl), (0, omega arith, refl), refl))

-- a task CAR2 in a group of one car
abbrev pub second_car : Config
second_car = record (alone [] []) { tasks = record { place = place_at 1010; name = named 1011 (codes "CAR1"); interval = pos 100; priority = pos 1 } ∷ record { place = place_at 1012; name = named 1013 (codes "CAR2"); interval = pos 100; priority = pos 1 } ∷ [] }

second_car-row : Broken Declaring second_car 24 (place_at 1012)
second_car-row = bad_task refl (foreign_task _ (1, omega arith, refl) refl refl)

-- INSTRUCTIONS

-- a control path only goes forward
pub follows-up : (body : Body) (from to : ℕ) → Follows body from to → from < to
follows-up body from to (onward s stands on next) = omega arith
follows-up body from to (jumped s label jumps known up) = up

pub leads-up : (body : Body) (from : ℕ) (path : List ℕ) (to : ℕ) → Leads body from path to → from ≤ to
leads-up body from [] to e = omega arith
leads-up body from (next ∷ path) to l =
    let a = follows-up body from next l.0 in
    let b = leads-up body next path to l.1 in
    omega arith

-- there is one way to the next place
pub one_step : (body : Body) (from : ℕ) (path : List ℕ) → Leads body from path (from + 1) → path ≡ (from + 1) ∷ []
one_step body from [] e = absurd (omega arith)
one_step body from (next ∷ []) l = ap (λ n. n ∷ []) l.1
one_step body from (next ∷ n ∷ path) l =
    let a = follows-up body from next l.0 in
    let b = follows-up body next n l.1.0 in
    let c = leads-up body n path (from + 1) l.1.1 in
    absurd (omega arith)

-- a type is not missing
abbrev pub no_type : Option Elementary
no_type = None

none-some : (given : Elementary) → no_type ≡ Some given → ⊥
none-some given e = cc

-- NOT
abbrev pub negates_nothing : Config
negates_nothing = alone [] (step 30 Not ∷ [])

negates_nothing-row : Broken Typing negates_nothing 32 (place_at 30)
unfolding typing_numbers opener
negates_nothing-row =
    of_instruction (record { unit = program 10 (codes "C") [] [] (step 30 Not ∷ []); at = 0; step = step 30 Not; before = None; deferred = None; is_step = record { written = (0, omega arith, refl); stands = refl }; result = λ given all. none-some given (all.each [] refl); waits = refl; broken = (0, omega arith, refl); is_place = refl })

-- LD TRUE, ST LEVEL
abbrev pub writes_level_steps : List Step
writes_level_steps = step 30 (load 31 (OfLiteral (Truth true))) ∷ step 40 (StoreInto Plain (operand 41 (OfVariable (codes "LEVEL")))) ∷ []

abbrev pub writes_level : Config
writes_level = alone [] writes_level_steps

writes_level-row : Broken Typing writes_level 33 (place_at 40)
unfolding typing_numbers type_after opener reference_type meaning image_name
writes_level-row =
    of_instruction (record { unit = program 10 (codes "C") [] [] writes_level_steps; at = 1; step = step 40 (StoreInto Plain (operand 41 (OfVariable (codes "LEVEL")))); before = Some Boolean; deferred = None; is_step = record { written = (0, omega arith, refl); stands = refl }; result = record { reached = (1 ∷ [], (onward _ refl refl refl, refl)); each = λ path l. subst (λ p. type_along writes_level (program 10 (codes "C") [] [] writes_level_steps) 0 p None ≡ Some Boolean) (sym (one_step _ 0 path l)) refl }; waits = refl; broken = (0, omega arith, refl); is_place = refl })

-- L: LD TRUE, JMP L
abbrev pub backward_steps : List Step
backward_steps = labelled (named 28 (codes "L")) 30 (load 31 (OfLiteral (Truth true))) ∷ step 40 (Jump Always (named 41 (codes "L"))) ∷ []

backward-row : Broken Typing (alone [] backward_steps) 35 (place_at 40)
unfolding label_place
backward-row =
    backward_jump refl (backward (program 10 (codes "C") [] [] backward_steps) 1 0 _ (named 41 (codes "L")) (record { written = (0, omega arith, refl); jumps = record { stands = refl; condition = Always; jumps = refl } }) refl (omega arith) refl)

-- LD TRUE, JMPC L, LD 5, L: ADD 1
abbrev pub two_ways_steps : List Step
two_ways_steps =
    step 30 (load 31 (OfLiteral (Truth true))) ∷ step 40 (Jump WhenTrue (named 41 (codes "L"))) ∷ step 50 (load 51 (OfLiteral (Bare (pos 5)))) ∷ labelled (named 58 (codes "L")) 60 (Operate (ArithmeticOperator Add) (operand 61 (OfLiteral (Bare (pos 1))))) ∷ []

abbrev pub two_ways_program : ProgramUnit
two_ways_program = program 10 (codes "C") [] [] two_ways_steps

abbrev pub two_ways : Config
two_ways = alone [] two_ways_steps

-- the types along the two ways are one type only if BOOL is INT
bool-int : (given : Elementary) → Option.Some Boolean ≡ Some given → Option.Some Int ≡ Some given → ⊥
bool-int given b i = cc

two_ways-row : Broken Typing two_ways 32 (place_at 60)
unfolding typing_numbers type_after opener label_place
two_ways-row =
    of_instruction (record { unit = two_ways_program; at = 3; step = labelled (named 58 (codes "L")) 60 (Operate (ArithmeticOperator Add) (operand 61 (OfLiteral (Bare (pos 1))))); before = None; deferred = None; is_step = record { written = (0, omega arith, refl); stands = refl }; result = λ given all. bool-int given (all.each (1 ∷ 3 ∷ []) (onward _ refl refl refl, (jumped _ (named 41 (codes "L")) (record { stands = refl; condition = WhenTrue; jumps = refl }) refl (omega arith), refl))) (all.each (1 ∷ 2 ∷ 3 ∷ []) (onward _ refl refl refl, (onward _ refl refl refl, (onward _ refl refl refl, refl)))); waits = refl; broken = (0, omega arith, refl); is_place = refl })

-- LD TRUE, JMP L, LD FALSE, L: LD TRUE
abbrev pub passed_over_steps : List Step
passed_over_steps =
    step 30 (load 31 (OfLiteral (Truth true))) ∷ step 40 (Jump Always (named 41 (codes "L"))) ∷ step 50 (load 51 (OfLiteral (Truth false))) ∷ labelled (named 58 (codes "L")) 60 (load 61 (OfLiteral (Truth true))) ∷ []

abbrev pub passed_over_program : ProgramUnit
passed_over_program = program 10 (codes "C") [] [] passed_over_steps

-- the label of a jump
abbrev pub jump_label : Instruction → Option Spelling
jump_label (Jump condition label) = Some label.name
jump_label _ = None

one_name : (a b : Spelling) → Option.Some a ≡ Some b → a ≡ b
one_name a b e = cc

abbrev pub no_label : Option Spelling
no_label = None

pub no_name : (a : Spelling) → no_label ≡ Some a → ⊥
no_name a e = cc

one_place : (a b : ℕ) → Option.Some a ≡ Some b → a ≡ b
one_place a b e = cc

pub one_instruction : (a b : Step) → Option.Some a ≡ Some b → a.instruction ≡ b.instruction
one_instruction a b e = cc

pub not_both : (b : Bool) → b ≡ true → b ≡ false → ⊥
not_both b t f = cc

-- a jump at a place has the label that is there
pub label_there : (body : Body) (at : ℕ) (s : Step) (label : Named) (there : Step) → StandsAt body at there → JumpsAt body at s label → jump_label there.instruction ≡ Some label.name
label_there body at s label there stands jump =
    let same : there.instruction ≡ s.instruction = one_instruction there s (sym stands ∙ jump.stands) in
    ap jump_label (same ∙ jump.jumps)

-- a load is followed by the next place alone, an unconditional jump by its label's
pub after_load : (body : Body) (at : ℕ) (there : Step) → StandsAt body at there → jump_label there.instruction ≡ None → (to : ℕ) → Follows body at to → to ≡ at + 1
after_load body at there stands none to (onward s st on next) = next
after_load body at there stands none to (jumped s label jump known up) = absurd (no_name label.name (sym none ∙ label_there body at s label there stands jump))

after_jump : (body : Body) (at : ℕ) (there : Step) (name : Spelling) (target : ℕ) → StandsAt body at there → goes_on there.instruction ≡ false → jump_label there.instruction ≡ Some name → label_place body name ≡ Some target → (to : ℕ) → Follows body at to → to ≡ target
after_jump body at there name target stands stops label_is known_is to (onward s st on next) =
    absurd (not_both (goes_on s.instruction) on (ap goes_on (sym (one_instruction there s (sym stands ∙ st))) ∙ stops))
after_jump body at there name target stands stops label_is known_is to (jumped s label jump known up) =
    let same : name ≡ label.name = one_name name label.name (sym label_is ∙ label_there body at s label there stands jump) in
    one_place to target (sym known ∙ ap (label_place body) (sym same) ∙ known_is)

passed_over-unreached : (path : List ℕ) → Leads passed_over_program.body 0 path 2 → ⊥
unfolding label_place
passed_over-unreached [] e = omega arith
passed_over-unreached (a ∷ []) l =
    let one = after_load passed_over_program.body 0 _ refl refl a l.0 in
    let two = l.1 in
    omega arith
passed_over-unreached (a ∷ b ∷ path) l =
    let one = after_load passed_over_program.body 0 _ refl refl a l.0 in
    let three = after_jump passed_over_program.body 1 _ (codes "L") 3 refl refl refl refl b (subst (λ n. Follows passed_over_program.body n b) one l.1.0) in
    let up = leads-up passed_over_program.body b path 2 l.1.1 in
    omega arith

passed_over-row : Broken Typing (alone [] passed_over_steps) 39 (place_at 50)
passed_over-row =
    of_unreached refl (unreached passed_over_program 2 _ (record { written = (0, omega arith, refl); stands = refl }) (λ r. passed_over-unreached r.0 r.1) refl)

-- ORDER

-- block A has an instance of block B, and B one of A
abbrev pub block_with : ℕ → Spelling → Spelling → ProgramUnit
block_with offset name inner = record (program offset name (declared (named (offset + 1) (codes "V") ∷ []) (offset + 2) (OfBlock inner) None ∷ []) [] []) { kind = FunctionBlock }

abbrev pub in_a_ring : Config
in_a_ring = frame (block_with 10 (codes "A") (codes "B") ∷ block_with 110 (codes "B") (codes "A") ∷ program 210 (codes "C") [] [] [] ∷ [])

in_a_ring-row : Broken Ordering in_a_ring 36 (place_at 10)
unfolding image_name standard_function standard_block
in_a_ring-row =
    of_recursive refl (recursive (block_with 10 (codes "A") (codes "B")) (0, omega arith, refl) (block_with 110 (codes "B") (codes "A") ∷ [], (declares _ (codes "B") (0, omega arith, refl) refl refl, declares _ (codes "A") (0, omega arith, refl) refl refl)) refl)

-- seventeen arrays of 256 elements
abbrev pub name_list : List Spelling → List Named
name_list [] = []
name_list (n ∷ names) = named 20 n ∷ name_list names

abbrev pub too_large : Config
too_large =
    alone (declared (name_list (codes "A" ∷ codes "B" ∷ codes "D" ∷ codes "E" ∷ codes "F" ∷ codes "G" ∷ codes "H" ∷ codes "I" ∷ codes "J" ∷ codes "K" ∷ codes "L" ∷ codes "M" ∷ codes "N" ∷ codes "O" ∷ codes "P" ∷ codes "Q" ∷ codes "T" ∷ [])) 21 (OfArray (record { lower = negsuc 0; upper = pos 254 }) (plain Int)) None ∷ []) []

no_functions : (program : ProgramUnit) → AreFunctionsOf too_large program []
no_functions program = record { each = λ k d low. absurd (omega arith); once = λ i j d low up. absurd (omega arith) }

too_large-row : Broken Ordering too_large 12 (place_at 1020)
unfolding image_name standard_function standard_block block_slots
too_large-row = of_slots refl (of_task _ _ [] (0, omega arith, refl) refl (no_functions _) (omega arith) refl)

-- TABLES

-- a program with variables of several types
abbrev pub workbench : ProgramUnit
workbench =
    program 10 (codes "C") (declared (named 20 (codes "B") ∷ []) 21 (OfScalar (plain Boolean)) None ∷ declared (named 22 (codes "V") ∷ []) 23 int None ∷ declared (named 24 (codes "A") ∷ []) 25 (OfArray (record { lower = negsuc 1; upper = pos 2 }) (record { elementary = Sint; subrange = Some (record { lower = negsuc 2; upper = pos 3 }) })) None ∷ declared (named 26 (codes "T") ∷ []) 27 (OfBlock (codes "TON")) None ∷ []) [] []

abbrev pub bench : Config
bench = frame (workbench ∷ [])

abbrev pub breaks : Instruction → Option Elementary → List ℕ
breaks instruction before = typing_numbers bench workbench instruction before None

abbrev pub leaves : Instruction → Option Elementary → Option Elementary
leaves instruction before = type_after bench workbench None instruction before

abbrev pub number : ℤ → Operand
number n = operand 0 (OfLiteral (Bare n))

abbrev pub the : Spelling → Operand
the name = operand 0 (OfVariable name)

-- ST A[-2] takes a SINT, and no INT
store-row : (breaks (StoreInto Plain (operand 0 (OfElement (codes "A") (NumberIndex (negsuc 1))))) (Some Int) ≡ 31 ∷ []) × (breaks (StoreInto Plain (operand 0 (OfElement (codes "A") (NumberIndex (negsuc 1))))) (Some Sint) ≡ [])
unfolding typing_numbers reference_type meaning image_name
store-row = (refl, refl)

-- JMPC, RETCN and S leave a BOOL whatever was before, ST what was
left-row : (leaves (Jump WhenTrue (named 0 (codes "L"))) None ≡ Some Boolean) × (leaves (Return WhenFalse) (Some Int) ≡ Some Boolean) × (leaves (StoreInto Set (the (codes "V"))) (Some Int) ≡ Some Boolean) × (leaves (StoreInto Plain (the (codes "V"))) (Some Int) ≡ Some Int)
unfolding type_after
left-row = (refl, refl, refl, refl)

-- ADD TRUE, AND 5, ADD V, each with and without a result
operate-row : (breaks (Operate (ArithmeticOperator Add) (operand 0 (OfLiteral (Truth true)))) None ≡ 32 ∷ []) × (breaks (Operate (ArithmeticOperator Add) (operand 0 (OfLiteral (Truth true)))) (Some Int) ≡ 30 ∷ []) × (breaks (Operate (LogicOperator Conjunction false) (number (pos 5))) None ≡ 32 ∷ 30 ∷ []) × (breaks (Operate (ArithmeticOperator Add) (the (codes "V"))) (Some Int) ≡ [])
unfolding typing_numbers reference_type meaning image_name
operate-row = (refl, refl, refl, refl)

-- a `)` is its operator on both sides
evaluate-row : (typing_numbers bench workbench Evaluate (Some Int) (Some (ArithmeticOperator Add, Some Int)) ≡ []) × (typing_numbers bench workbench Evaluate (Some Int) (Some (ArithmeticOperator Add, Some Boolean)) ≡ 30 ∷ []) × (typing_numbers bench workbench Evaluate (Some Dint) (Some (ArithmeticOperator Add, Some Int)) ≡ 31 ∷ []) × (type_after bench workbench (Some (ComparisonOperator Greater)) Evaluate (Some Int) ≡ Some Boolean)
unfolding typing_numbers type_after
evaluate-row = (refl, refl, refl, refl)

-- SEL 3, 10; LIMIT V, 9; INT_TO_SINT; ABS 1
function-row : (breaks (Invoke (named 0 (codes "SEL")) (number (pos 3) ∷ number (pos 10) ∷ [])) (Some Boolean) ≡ []) × (leaves (Invoke (named 0 (codes "SEL")) (number (pos 3) ∷ number (pos 10) ∷ [])) (Some Boolean) ≡ Some Int) × (breaks (Invoke (named 0 (codes "LIMIT")) (the (codes "V") ∷ number (pos 9) ∷ [])) (Some Int) ≡ []) × (leaves (Invoke (named 0 (codes "INT_TO_SINT")) []) (Some Int) ≡ Some Sint) × (breaks (Invoke (named 0 (codes "INT_TO_SINT")) []) (Some Sint) ≡ 31 ∷ []) × (breaks (Invoke (named 0 (codes "ABS")) (number (pos 1) ∷ [])) (Some Int) ≡ 37 ∷ [])
unfolding typing_numbers type_after reference_type meaning image_name standard_function
function-row = (refl, refl, refl, refl, refl, refl)

-- CAL T(IN := B, PT := T#1s, Q => B); IN twice; Q => V
call-row : (breaks (Call Always (named 0 (codes "T")) (Input (named 0 (codes "IN")) (the (codes "B")) ∷ Input (named 0 (codes "PT")) (operand 0 (OfLiteral (Duration (pos 1000)))) ∷ Output (named 0 (codes "Q")) (named 0 (codes "B")) ∷ [])) None ≡ []) × (breaks (Call Always (named 0 (codes "T")) (Input (named 0 (codes "IN")) (the (codes "B")) ∷ Input (named 0 (codes "IN")) (the (codes "B")) ∷ [])) None ≡ 37 ∷ []) × (breaks (Call Always (named 0 (codes "T")) (Output (named 0 (codes "Q")) (named 0 (codes "V")) ∷ [])) None ≡ 30 ∷ [])
unfolding typing_numbers reference_type meaning image_name block_variables standard_block
call-row = (refl, refl, refl)

-- TWO TASKS WRITE ONE GLOBAL

-- CAR1 runs C, CAR2 runs D, and both store into G
abbrev pub writer_step : ℕ → Step
writer_step offset = step offset (StoreInto Plain (operand offset (OfVariable (codes "G"))))

abbrev pub writer : ℕ → Spelling → ProgramUnit
writer offset name = program offset name [] (declared (named (offset + 1) (codes "G") ∷ []) (offset + 2) int None ∷ []) (writer_step (offset + 20) ∷ [])

abbrev pub contested : Config
contested =
    record (frame (writer 10 (codes "C") ∷ writer 110 (codes "D") ∷ [])) { cars = record { place = place_at 1000; value = pos 2 }; globals_place = Some (place_at 1003); globals = declared (named 1004 (codes "G") ∷ []) 1005 int None ∷ []; tasks = record { place = place_at 1010; name = named 1011 (codes "CAR1"); interval = pos 100; priority = pos 1 } ∷ record { place = place_at 1012; name = named 1013 (codes "CAR2"); interval = pos 100; priority = pos 1 } ∷ []; programs = record { place = place_at 1020; name = named 1021 (codes "P1"); task = named 1022 (codes "CAR1"); program = named 1023 (codes "C") } ∷ record { place = place_at 1024; name = named 1025 (codes "P2"); task = named 1026 (codes "CAR2"); program = named 1027 (codes "D") } ∷ [] }

-- what holds of the one element
pub only : {X : Type 0} (P : X → Type 0) (x y : X) → P x → Contains (x ∷ []) y → P y
only P x y here (zero, low, e) = subst P e here
only P x y here (suc k, low, e) = absurd (omega arith)

-- what holds of both elements
pub both : {X : Type 0} (P : X → Type 0) (x y z : X) → P x → P y → Contains (x ∷ y ∷ []) z → P z
both P x y z first second (zero, low, e) = subst P e first
both P x y z first second (suc zero, low, e) = subst P e second
both P x y z first second (suc (suc k), low, e) = absurd (omega arith)

stores-at : (offset : ℕ) (name : Spelling) → 30 ≤ offset + 20 → (other : Place) → StoresAt (writer offset name) (codes "G") other → 30 ≤ other.offset
stores-at offset name late other s =
    let at : s.step.place.offset ≡ offset + 20 = only (λ t. t.place.offset ≡ offset + 20) (writer_step (offset + 20)) s.step refl s.written in
    let here : other.offset ≡ s.step.place.offset = ap (λ p. p.offset) s.is_place in
    omega arith

two-names : codes "CAR1" ≢ codes "CAR2"
two-names e = not_both (bytes_eq (codes "CAR1") (codes "CAR2")) (ap (λ n. bytes_eq (codes "CAR1") n) (sym e)) refl

contested-row : Broken Typing contested 38 (place_at 30)
unfolding image_name standard_function standard_block
contested-row =
    of_two_writers refl (two_writers (codes "G") (codes "CAR1") (codes "CAR2") (writer 10 (codes "C")) (0, omega arith, refl) (record { external = refl; step = _; written = (0, omega arith, refl); stores = (0, omega arith, refl); is_place = refl }) (λ unit other among stores. both (λ u. StoresAt u (codes "G") other → 30 ≤ other.offset) (writer 10 (codes "C")) (writer 110 (codes "D")) unit (stores-at 10 (codes "C") (omega arith) other) (stores-at 110 (codes "D") (omega arith) other) among stores) (record { line = _; unit = writer 10 (codes "C"); place = place_at 30; listed = (0, omega arith, refl); of_task = refl; of_program = refl; stores = record { external = refl; step = _; written = (0, omega arith, refl); stores = (0, omega arith, refl); is_place = refl } }) (record { line = _; unit = writer 110 (codes "D"); place = place_at 130; listed = (1, omega arith, refl); of_task = refl; of_program = refl; stores = record { external = refl; step = _; written = (0, omega arith, refl); stores = (0, omega arith, refl); is_place = refl } }) two-names)
