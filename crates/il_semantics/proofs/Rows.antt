-- Worked rows: small programs run from the opening, by computation.
use Rattle.std.specs.Prelude.{◌≡◌, ℕ, zero, suc, true, false, List, [], ◌∷◌, ◌++◌, Option, Some, None, ℤ, pos, negsuc, codes, refl}
use Rattle.il_syntax.specs.declared.tree.Arithmetic.TheVariants.{Add, Sub, Mul, Div, Mod}
use Rattle.il_syntax.specs.declared.tree.Elementary.TheVariants.{Sint, Int, Udint}
use Rattle.il_syntax.specs.declared.tree.Literal.TheVariants.{Truth, Bare, Time as Duration}
use Rattle.il_syntax.specs.declared.tree.Form.TheVariants.{Scalar as ScalarForm, Array as ArrayForm, Block as BlockForm}
use Rattle.il_syntax.specs.declared.tree.Index.TheVariants.{Number, Variable as ByVariable}
use Rattle.il_syntax.specs.declared.tree.Reference.TheVariants.{Element, Member}
use Rattle.il_syntax.specs.declared.tree.Operand.{Operand}
use Rattle.il_syntax.specs.declared.tree.Argument.{Argument}
use Rattle.il_syntax.specs.declared.tree.Argument.TheVariants.{Input, Output}
use Rattle.il_syntax.specs.declared.tree.Condition.TheVariants.{Always, WhenTrue}
use Rattle.il_syntax.specs.declared.tree.Store.TheVariants.{Plain}
use Rattle.il_syntax.specs.declared.tree.Instruction.{Instruction}
use Rattle.il_syntax.specs.declared.tree.Instruction.TheVariants.{Store, Not, Evaluate, Return, Call}
use Rattle.il_syntax.specs.declared.tree.UnitKind.TheVariants.{Function, FunctionBlock}
use Rattle.il_syntax.specs.declared.tree.Unit.{Unit as ProgramUnit}
use Rattle.std.specs.Fmt.{digits}
use Rattle.base_maps.specs.NameMap.{Text, get, insert, empty}
use Rattle.il_semantics.specs.declared.value.Value.{Value}
use Rattle.il_semantics.specs.declared.value.Value.TheVariants.{Boolean, Integer}
use Rattle.il_semantics.specs.State.{State, Values}
use Rattle.il_statics.specs.Names.{within as bounded, meaning, image_name, standard_function, standard_block, block_variables}
use Rattle.il_statics.specs.Types.{label_place}
use Rattle.il_syntax.specs.ElementaryTypes.{plain}
use Rattle.il_semantics.specs.Step.{Outcome, Next, Trapped, step, WrongKind, NoResult, ZeroDivisor, Overflow, OutsideArray, OutsideSubrange}
use Rattle.il_semantics.specs.Paths.{longest, longest_path}
use Rattle.il_semantics.specs.Scan.{run, begins, opening_variables, restricted}
use Rattle.il_semantics.proofs.Trees.{declared, declared_with, int, time, bool, int_between, variable, number, literal, operand, named, here, ld, st, op, op_opens, jump, invoke, line, labelled, unit, program, config}

-- The image of a car at floor 1 at a time, as far as the rows read it.
abbrev pub image : ℤ → List (Text × Value)
image now = (codes "NOW", Integer now) ∷ (codes "MOTOR", Integer (pos 0)) ∷ []

-- The scan of the program C with these variables at a time.
abbrev pub scanned : List ProgramUnit → ProgramUnit → ℤ → Values → Outcome
scanned others p now variables = run 100 (config (others ++ p ∷ [])) (begins p variables (image now))

-- The value of a path at the end.
abbrev pub value_in : Outcome → Text → Option Value
value_in (Next s) path = get s.values path
value_in _ path = None

-- The value of a path after one scan from the opening.
abbrev pub after_scan : List ProgramUnit → ProgramUnit → Text → Option Value
after_scan others p path = value_in (scanned others p (pos 0) (opening_variables (config (others ++ p ∷ [])) p)) path

-- The variables after so many scans.
abbrev pub kept : Values → Outcome → Values
kept variables (Next s) = restricted variables s.values
kept variables _ = empty

abbrev pub scans : ℕ → List ProgramUnit → ProgramUnit → Values → Values
scans zero others p variables = variables
scans (suc n) others p variables = scans n others p (kept variables (scanned others p (pos 0) variables))

abbrev pub after_scans : ℕ → List ProgramUnit → ProgramUnit → Text → Option Value
after_scans n others p path = get (scans n others p (opening_variables (config (others ++ p ∷ [])) p)) path

-- How one scan from the opening ends.
abbrev pub scan_ends : List ProgramUnit → ProgramUnit → Outcome
scan_ends others p = scanned others p (pos 0) (opening_variables (config (others ++ p ∷ [])) p)

-- An empty body: one step, the RET.
abbrev pub nothing : ProgramUnit
nothing = program ([]) ([])

nothing_ends : (s : State) × (step (config (nothing ∷ [])) (begins nothing empty (image (pos 0))) ≡ Next s) × (s.frames ≡ [])
unfolding meaning image_name standard_function standard_block block_variables label_place run begins opening_variables step get insert empty digits
nothing_ends = (_, refl, refl)

nothing_costs : longest (config ([] ++ nothing ∷ [])) nothing ≡ 1
unfolding meaning image_name standard_function standard_block label_place longest
nothing_costs = refl

-- LD 0, ST MOTOR
abbrev pub stands : ProgramUnit
stands = program ([]) (line (ld (number (pos 0))) ∷ line (st (codes "MOTOR")) ∷ [])

stands_value : after_scan [] stands (codes "MOTOR") ≡ Some (Integer (pos 0))
unfolding meaning image_name standard_function standard_block block_variables label_place run begins opening_variables step get insert empty digits
stands_value = refl

stands_costs : longest (config ([] ++ stands ∷ [])) stands ≡ 3
unfolding meaning image_name standard_function standard_block label_place longest
stands_costs = refl

stands_path : longest_path (config ([] ++ stands ∷ [])) stands ≡ 0 ∷ 1 ∷ 2 ∷ []
unfolding meaning image_name standard_function standard_block label_place longest longest_path
stands_path = refl

-- LD 1, ST MOTOR: an output is read back in the scan
abbrev pub moves : ProgramUnit
moves = program (declared (codes "X") int ∷ []) (line (ld (number (pos 1))) ∷ line (st (codes "MOTOR")) ∷ line (ld (variable (codes "MOTOR"))) ∷ line (st (codes "X")) ∷ [])

moves_value : after_scan [] moves (codes "X") ≡ Some (Integer (pos 1))
unfolding meaning image_name standard_function standard_block block_variables label_place run begins opening_variables step get insert empty digits
moves_value = refl

-- V : INT := 32767; LD V, ADD 1, ST V
abbrev pub overflows : ProgramUnit
overflows = program (declared_with (codes "V") int (Bare (pos 32767)) ∷ []) (line (ld (variable (codes "V"))) ∷ line (op Add (number (pos 1))) ∷ line (st (codes "V")) ∷ [])

overflows_trap : scan_ends [] overflows ≡ Trapped Overflow
unfolding meaning image_name standard_function standard_block block_variables label_place run begins opening_variables step get insert empty digits
overflows_trap = refl

-- V : INT (0..9) := 9; LD V, ADD 1, ST V
abbrev pub leaves : ProgramUnit
leaves = program (declared_with (codes "V") (int_between (pos 0) (pos 9)) (Bare (pos 9)) ∷ []) (line (ld (variable (codes "V"))) ∷ line (op Add (number (pos 1))) ∷ line (st (codes "V")) ∷ [])

leaves_trap : scan_ends [] leaves ≡ Trapped OutsideSubrange
unfolding meaning image_name standard_function standard_block block_variables label_place run begins opening_variables step get insert empty digits
leaves_trap = refl

-- V : INT (0..9); LD V, ADD 1, MOD 10, ST V
abbrev pub counter : ProgramUnit
counter = program (declared (codes "V") (int_between (pos 0) (pos 9)) ∷ []) (line (ld (variable (codes "V"))) ∷ line (op Add (number (pos 1))) ∷ line (op Mod (number (pos 10))) ∷ line (st (codes "V")) ∷ [])

counter_one : after_scan [] counter (codes "V") ≡ Some (Integer (pos 1))
unfolding meaning image_name standard_function standard_block block_variables label_place run begins opening_variables step get insert empty digits
counter_one = refl

counter_nine : after_scans 9 [] counter (codes "V") ≡ Some (Integer (pos 9))
unfolding meaning image_name standard_function standard_block block_variables label_place run begins opening_variables step get insert empty restricted digits
counter_nine = refl

counter_ten : after_scans 10 [] counter (codes "V") ≡ Some (Integer (pos 0))
unfolding meaning image_name standard_function standard_block block_variables label_place run begins opening_variables step get insert empty restricted digits
counter_ten = refl

counter_costs : longest (config ([] ++ counter ∷ [])) counter ≡ 5
unfolding meaning image_name standard_function standard_block label_place longest
counter_costs = refl

-- D : INT (-1..1) := 0; LD 7, DIV D
abbrev pub by_zero : ProgramUnit
by_zero = program (declared_with (codes "D") (int_between (negsuc 0) (pos 1)) (Bare (pos 0)) ∷ []) (line (ld (number (pos 7))) ∷ line (op Div (variable (codes "D"))) ∷ [])

by_zero_trap : scan_ends [] by_zero ≡ Trapped ZeroDivisor
unfolding meaning image_name standard_function standard_block block_variables label_place run begins opening_variables step get insert empty digits
by_zero_trap = refl

-- D : INT (-1..-1); V : INT := -32768; LD V, DIV D
abbrev pub least_by_minus_one : ProgramUnit
least_by_minus_one = program (declared (codes "D") (int_between (negsuc 0) (negsuc 0)) ∷ declared_with (codes "V") int (Bare (negsuc 32767)) ∷ []) (line (ld (variable (codes "V"))) ∷ line (op Div (variable (codes "D"))) ∷ [])

least_by_minus_one_trap : scan_ends [] least_by_minus_one ≡ Trapped Overflow
unfolding meaning image_name standard_function standard_block block_variables label_place run begins opening_variables step get insert empty digits
least_by_minus_one_trap = refl

-- A : ARRAY [1..8] OF INT; I : INT (0..8); LD A[I]
abbrev pub outside : ProgramUnit
outside = program (declared (codes "A") (ArrayForm (record { lower = pos 1; upper = pos 8 }) (plain Int)) ∷ declared (codes "I") (int_between (pos 0) (pos 8)) ∷ []) (line (ld (operand (Element (codes "A") (ByVariable (codes "I"))))) ∷ [])

outside_trap : scan_ends [] outside ≡ Trapped OutsideArray
unfolding meaning image_name standard_function standard_block block_variables label_place run begins opening_variables step get insert empty digits
outside_trap = refl

-- LD TRUE, JMPC L, LD 5, L: ADD 1: the path that jumps brings a Boolean
abbrev pub meets : ProgramUnit
meets = program ([]) (line (ld (literal (Truth true))) ∷ line (jump WhenTrue (codes "L")) ∷ line (ld (number (pos 5))) ∷ labelled (codes "L") (op Add (number (pos 1))) ∷ [])

meets_trap : scan_ends [] meets ≡ Trapped WrongKind
unfolding meaning image_name standard_function standard_block block_variables label_place run begins opening_variables step get insert empty digits
meets_trap = refl

-- LD 5, JMP L, L: ADD 1: an unconditional jump leaves no result
abbrev pub jumps : ProgramUnit
jumps = program ([]) (line (ld (number (pos 5))) ∷ line (jump Always (codes "L")) ∷ labelled (codes "L") (op Add (number (pos 1))) ∷ [])

jumps_trap : scan_ends [] jumps ≡ Trapped NoResult
unfolding meaning image_name standard_function standard_block block_variables label_place run begins opening_variables step get insert empty digits
jumps_trap = refl

-- X : INT (0..20); LD 2, ADD( 3, MUL 4, ), ST X
abbrev pub nested : ProgramUnit
nested = program (declared (codes "X") (int_between (pos 0) (pos 20)) ∷ []) (line (ld (number (pos 2))) ∷ line (op_opens Add (Some (number (pos 3)))) ∷ line (op Mul (number (pos 4))) ∷ line Evaluate ∷ line (st (codes "X")) ∷ [])

nested_value : after_scan [] nested (codes "X") ≡ Some (Integer (pos 14))
unfolding meaning image_name standard_function standard_block block_variables label_place run begins opening_variables step get insert empty digits
nested_value = refl

nested_costs : longest (config ([] ++ nested ∷ [])) nested ≡ 6
unfolding meaning image_name standard_function standard_block label_place longest
nested_costs = refl

-- The same with LD inside the parenthesis
abbrev pub nested_long : ProgramUnit
nested_long = program (declared (codes "X") (int_between (pos 0) (pos 20)) ∷ []) (line (ld (number (pos 2))) ∷ line (op_opens Add None) ∷ line (ld (number (pos 3))) ∷ line (op Mul (number (pos 4))) ∷ line Evaluate ∷ line (st (codes "X")) ∷ [])

nested_long_value : after_scan [] nested_long (codes "X") ≡ Some (Integer (pos 14))
unfolding meaning image_name standard_function standard_block block_variables label_place run begins opening_variables step get insert empty digits
nested_long_value = refl

-- X : INT; LD TRUE, JMPC L, LD 1, ST X, L: LD 2, ST X
abbrev pub branches : ProgramUnit
branches = program (declared (codes "X") int ∷ []) (line (ld (literal (Truth true))) ∷ line (jump WhenTrue (codes "L")) ∷ line (ld (number (pos 1))) ∷ line (st (codes "X")) ∷ labelled (codes "L") (ld (number (pos 2))) ∷ line (st (codes "X")) ∷ [])

branches_value : after_scan [] branches (codes "X") ≡ Some (Integer (pos 2))
unfolding meaning image_name standard_function standard_block block_variables label_place run begins opening_variables step get insert empty digits
branches_value = refl

branches_costs : longest (config ([] ++ branches ∷ [])) branches ≡ 7
unfolding meaning image_name standard_function standard_block label_place longest
branches_costs = refl

branches_path : longest_path (config ([] ++ branches ∷ [])) branches ≡ 0 ∷ 1 ∷ 2 ∷ 3 ∷ 4 ∷ 5 ∷ 6 ∷ []
unfolding meaning image_name standard_function standard_block label_place longest longest_path
branches_path = refl

-- FUNCTION F : INT (1..10), input A : INT (0..9); LD A, ADD 1, ST F
abbrev pub one_more : ProgramUnit
one_more = unit (Function (bounded (pos 1) (pos 10)) here) (codes "F") (declared (codes "A") (int_between (pos 0) (pos 9)) ∷ []) [] [] (line (ld (variable (codes "A"))) ∷ line (op Add (number (pos 1))) ∷ line (st (codes "F")) ∷ [])

-- LD 1, F, ST X with X : INT
abbrev pub calls_function : ProgramUnit
calls_function = program (declared (codes "X") int ∷ []) (line (ld (number (pos 1))) ∷ line (invoke (codes "F") []) ∷ line (st (codes "X")) ∷ [])

calls_function_value : after_scan (one_more ∷ []) calls_function (codes "X") ≡ Some (Integer (pos 2))
unfolding meaning image_name standard_function standard_block block_variables label_place run begins opening_variables step get insert empty digits
calls_function_value = refl

function_costs : longest (config ((one_more ∷ []) ++ calls_function ∷ [])) one_more ≡ 4
unfolding meaning image_name standard_function standard_block label_place longest
function_costs = refl

calls_function_costs : longest (config ((one_more ∷ []) ++ calls_function ∷ [])) calls_function ≡ 8
unfolding meaning image_name standard_function standard_block label_place longest
calls_function_costs = refl

-- LD 10, F
abbrev pub calls_outside : ProgramUnit
calls_outside = program ([]) (line (ld (number (pos 10))) ∷ line (invoke (codes "F") []) ∷ [])

calls_outside_trap : scan_ends (one_more ∷ []) calls_outside ≡ Trapped OutsideSubrange
unfolding meaning image_name standard_function standard_block block_variables label_place run begins opening_variables step get insert empty digits
calls_outside_trap = refl

-- V : INT := 40; W : INT (0..9); LD 0, LIMIT V, 9, ST W
abbrev pub limits_value : ProgramUnit
limits_value = program (declared_with (codes "V") int (Bare (pos 40)) ∷ declared (codes "W") (int_between (pos 0) (pos 9)) ∷ []) (line (ld (number (pos 0))) ∷ line (invoke (codes "LIMIT") ((variable (codes "V")) ∷ (number (pos 9)) ∷ [])) ∷ line (st (codes "W")) ∷ [])

limits_value_row : after_scan [] limits_value (codes "W") ≡ Some (Integer (pos 9))
unfolding meaning image_name standard_function standard_block block_variables label_place run begins opening_variables step get insert empty digits
limits_value_row = refl

limits_value_costs : longest (config ([] ++ limits_value ∷ [])) limits_value ≡ 4
unfolding meaning image_name standard_function standard_block label_place longest
limits_value_costs = refl

-- V : INT := -32768; LD V, ABS
abbrev pub absolute_least : ProgramUnit
absolute_least = program (declared_with (codes "V") int (Bare (negsuc 32767)) ∷ []) (line (ld (variable (codes "V"))) ∷ line (invoke (codes "ABS") []) ∷ [])

absolute_least_trap : scan_ends [] absolute_least ≡ Trapped Overflow
unfolding meaning image_name standard_function standard_block block_variables label_place run begins opening_variables step get insert empty digits
absolute_least_trap = refl

-- X : INT (-3..0); LD -7, MOD 2, ST X
abbrev pub remainder : ProgramUnit
remainder = program (declared (codes "X") (int_between (negsuc 2) (pos 0)) ∷ []) (line (ld (number (negsuc 6))) ∷ line (op Mod (number (pos 2))) ∷ line (st (codes "X")) ∷ [])

remainder_value : after_scan [] remainder (codes "X") ≡ Some (Integer (negsuc 0))
unfolding meaning image_name standard_function standard_block block_variables label_place run begins opening_variables step get insert empty digits
remainder_value = refl

remainder_costs : longest (config ([] ++ remainder ∷ [])) remainder ≡ 4
unfolding meaning image_name standard_function standard_block label_place longest
remainder_costs = refl

remainder_leftmost : after_scans 0 [] remainder (codes "X") ≡ Some (Integer (negsuc 2))
unfolding meaning image_name standard_function standard_block block_variables label_place run begins opening_variables step get insert empty restricted digits
remainder_leftmost = refl

-- X : INT; LD 10, SUB( 2, ADD 3, ), ST X
abbrev pub differs : ProgramUnit
differs = program (declared (codes "X") int ∷ []) (line (ld (number (pos 10))) ∷ line (op_opens Sub (Some (number (pos 2)))) ∷ line (op Add (number (pos 3))) ∷ line Evaluate ∷ line (st (codes "X")) ∷ [])

differs_value : after_scan [] differs (codes "X") ≡ Some (Integer (pos 5))
unfolding meaning image_name standard_function standard_block block_variables label_place run begins opening_variables step get insert empty digits
differs_value = refl

differs_costs : longest (config ([] ++ differs ∷ [])) differs ≡ 6
unfolding meaning image_name standard_function standard_block label_place longest
differs_costs = refl

-- B : BOOL; X : INT (0..9); LD B, SEL 3, 10, ST X
abbrev pub selects : ProgramUnit
selects = program (declared (codes "B") bool ∷ declared (codes "X") (int_between (pos 0) (pos 9)) ∷ []) (line (ld (variable (codes "B"))) ∷ line (invoke (codes "SEL") ((number (pos 3)) ∷ (number (pos 10)) ∷ [])) ∷ line (st (codes "X")) ∷ [])

selects_value : after_scan [] selects (codes "X") ≡ Some (Integer (pos 3))
unfolding meaning image_name standard_function standard_block block_variables label_place run begins opening_variables step get insert empty digits
selects_value = refl

-- The same with B TRUE
abbrev pub selects_second : ProgramUnit
selects_second = program (declared_with (codes "B") bool (Truth true) ∷ declared (codes "X") (int_between (pos 0) (pos 9)) ∷ []) (line (ld (variable (codes "B"))) ∷ line (invoke (codes "SEL") ((number (pos 3)) ∷ (number (pos 10)) ∷ [])) ∷ line (st (codes "X")) ∷ [])

selects_second_trap : scan_ends [] selects_second ≡ Trapped OutsideSubrange
unfolding meaning image_name standard_function standard_block block_variables label_place run begins opening_variables step get insert empty digits
selects_second_trap = refl

-- V : INT := -128; W : SINT; LD V, INT_TO_SINT, ST W
abbrev pub converts : ProgramUnit
converts = program (declared_with (codes "V") int (Bare (negsuc 127)) ∷ declared (codes "W") (ScalarForm (plain Sint)) ∷ []) (line (ld (variable (codes "V"))) ∷ line (invoke (codes "INT_TO_SINT") []) ∷ line (st (codes "W")) ∷ [])

converts_value : after_scan [] converts (codes "W") ≡ Some (Integer (negsuc 127))
unfolding meaning image_name standard_function standard_block block_variables label_place run begins opening_variables step get insert empty digits
converts_value = refl

converts_costs : longest (config ([] ++ converts ∷ [])) converts ≡ 4
unfolding meaning image_name standard_function standard_block label_place longest
converts_costs = refl

-- V : INT := 128; LD V, INT_TO_SINT
abbrev pub converts_outside : ProgramUnit
converts_outside = program (declared_with (codes "V") int (Bare (pos 128)) ∷ []) (line (ld (variable (codes "V"))) ∷ line (invoke (codes "INT_TO_SINT") []) ∷ [])

converts_outside_trap : scan_ends [] converts_outside ≡ Trapped Overflow
unfolding meaning image_name standard_function standard_block block_variables label_place run begins opening_variables step get insert empty digits
converts_outside_trap = refl

-- FUNCTION_BLOCK B, input X : INT (0..9), output Y : INT (0..10); LD X, ADD 1, ST Y
abbrev pub adder : ProgramUnit
adder = unit FunctionBlock (codes "B") (declared (codes "X") (int_between (pos 0) (pos 9)) ∷ []) (declared (codes "Y") (int_between (pos 0) (pos 10)) ∷ []) [] (line (ld (variable (codes "X"))) ∷ line (op Add (number (pos 1))) ∷ line (st (codes "Y")) ∷ [])

-- CAL of an instance with these arguments
abbrev pub call : Text → List Argument → Instruction
call t arguments = Call Always (named t) arguments

abbrev pub input : Text → Operand → Argument
input word o = Input (named word) o

abbrev pub output : Text → Text → Argument
output word v = Output (named word) (named v)

-- T : B; V : INT (0..10); CAL T(X := 4, Y => V)
abbrev pub calls_block : ProgramUnit
calls_block = program (declared (codes "T") (BlockForm (codes "B")) ∷ declared (codes "V") (int_between (pos 0) (pos 10)) ∷ []) (line (call (codes "T") (input (codes "X") (number (pos 4)) ∷ output (codes "Y") (codes "V") ∷ [])) ∷ [])

calls_block_value : after_scan (adder ∷ []) calls_block (codes "V") ≡ Some (Integer (pos 5))
unfolding meaning image_name standard_function standard_block block_variables label_place run begins opening_variables step get insert empty digits
calls_block_value = refl

calls_block_inside : after_scan (adder ∷ []) calls_block (codes "T.X") ≡ Some (Integer (pos 4))
unfolding meaning image_name standard_function standard_block block_variables label_place run begins opening_variables step get insert empty digits
calls_block_inside = refl

block_costs : longest (config ((adder ∷ []) ++ calls_block ∷ [])) adder ≡ 4
unfolding meaning image_name standard_function standard_block label_place longest
block_costs = refl

calls_block_costs : longest (config ((adder ∷ []) ++ calls_block ∷ [])) calls_block ≡ 6
unfolding meaning image_name standard_function standard_block label_place longest
calls_block_costs = refl

-- FUNCTION F : INT (1..10), input A : INT, variable N : INT (0..9); LD N, ADD 1, ST F, LD 7, ST N
abbrev pub fresh_each_time : ProgramUnit
fresh_each_time = unit (Function (bounded (pos 1) (pos 10)) here) (codes "F") (declared (codes "A") int ∷ []) [] (declared (codes "N") (int_between (pos 0) (pos 9)) ∷ []) (line (ld (variable (codes "N"))) ∷ line (op Add (number (pos 1))) ∷ line (st (codes "F")) ∷ line (ld (number (pos 7))) ∷ line (st (codes "N")) ∷ [])

-- LD 5, F, ST X with X : INT
abbrev pub calls_fresh : ProgramUnit
calls_fresh = program (declared (codes "X") int ∷ []) (line (ld (number (pos 5))) ∷ line (invoke (codes "F") []) ∷ line (st (codes "X")) ∷ [])

calls_fresh_once : after_scans 1 (fresh_each_time ∷ []) calls_fresh (codes "X") ≡ Some (Integer (pos 1))
unfolding meaning image_name standard_function standard_block block_variables label_place run begins opening_variables step get insert empty restricted digits
calls_fresh_once = refl

calls_fresh_thrice : after_scans 3 (fresh_each_time ∷ []) calls_fresh (codes "X") ≡ Some (Integer (pos 1))
unfolding meaning image_name standard_function standard_block block_variables label_place run begins opening_variables step get insert empty restricted digits
calls_fresh_thrice = refl

-- LD 1, F, F with X : INT
abbrev pub calls_twice : ProgramUnit
calls_twice = program ([]) (line (ld (number (pos 1))) ∷ line (invoke (codes "F") []) ∷ line (invoke (codes "F") []) ∷ [])

calls_twice_costs : longest (config ((one_more ∷ []) ++ calls_twice ∷ [])) calls_twice ≡ 12
unfolding meaning image_name standard_function standard_block label_place longest
calls_twice_costs = refl

-- U : UDINT (0..65535) := 65535; W : UDINT; LD U, MUL U, ST W
abbrev pub squares : ProgramUnit
squares = program (declared_with (codes "U") (ScalarForm (record { elementary = Udint; subrange = Some (record { lower = pos 0; upper = pos 65535 }) })) (Bare (pos 65535)) ∷ declared (codes "W") (ScalarForm (plain Udint)) ∷ []) (line (ld (variable (codes "U"))) ∷ line (op Mul (variable (codes "U"))) ∷ line (st (codes "W")) ∷ [])

squares_value : after_scan [] squares (codes "W") ≡ Some (Integer (pos 4294836225))
unfolding meaning image_name standard_function standard_block block_variables label_place run begins opening_variables step get insert empty digits
squares_value = refl

squares_costs : longest (config ([] ++ squares ∷ [])) squares ≡ 4
unfolding meaning image_name standard_function standard_block label_place longest
squares_costs = refl

-- U : UDINT := 65536; LD U, MUL U
abbrev pub squares_outside : ProgramUnit
squares_outside = program (declared_with (codes "U") (ScalarForm (plain Udint)) (Bare (pos 65536)) ∷ []) (line (ld (variable (codes "U"))) ∷ line (op Mul (variable (codes "U"))) ∷ [])

squares_outside_trap : scan_ends [] squares_outside ≡ Trapped Overflow
unfolding meaning image_name standard_function standard_block block_variables label_place run begins opening_variables step get insert empty digits
squares_outside_trap = refl

-- A : ARRAY [-2..2] OF INT; LD 3, ST A[-2], LD A[-2], ADD A[-1], ST A[2]
abbrev pub elements : ProgramUnit
elements = program (declared (codes "A") (ArrayForm (record { lower = negsuc 1; upper = pos 2 }) (plain Int)) ∷ []) (line (ld (number (pos 3))) ∷ line (Store Plain (operand (Element (codes "A") (Number (negsuc 1))))) ∷ line (ld (operand (Element (codes "A") (Number (negsuc 1))))) ∷ line (op Add (operand (Element (codes "A") (Number (negsuc 0))))) ∷ line (Store Plain (operand (Element (codes "A") (Number (pos 2))))) ∷ [])

elements_value : after_scan [] elements (codes "A[2]") ≡ Some (Integer (pos 3))
unfolding meaning image_name standard_function standard_block block_variables label_place run begins opening_variables step get insert empty digits
elements_value = refl

elements_first : after_scan [] elements (codes "A[-2]") ≡ Some (Integer (pos 3))
unfolding meaning image_name standard_function standard_block block_variables label_place run begins opening_variables step get insert empty digits
elements_first = refl

-- D : TIME; LD T#1s, SUB T#2s: a difference below 0
abbrev pub earlier : ProgramUnit
earlier = program ([]) (line (ld (literal (Duration (pos 1000)))) ∷ line (op Sub (literal (Duration (pos 2000)))) ∷ [])

earlier_trap : scan_ends [] earlier ≡ Trapped Overflow
unfolding meaning image_name standard_function standard_block block_variables label_place run begins opening_variables step get insert empty digits
earlier_trap = refl

-- T : B; LD FALSE, CALC T, ADD 1: a call that does not act leaves no result
abbrev pub calls_not : ProgramUnit
calls_not = program (declared (codes "T") (BlockForm (codes "B")) ∷ []) (line (ld (literal (Truth false))) ∷ line (Call WhenTrue (named (codes "T")) []) ∷ line (op Add (number (pos 1))) ∷ [])

calls_not_trap : scan_ends (adder ∷ []) calls_not ≡ Trapped NoResult
unfolding meaning image_name standard_function standard_block block_variables label_place run begins opening_variables step get insert empty digits
calls_not_trap = refl

-- X : INT; LD TRUE, RETC, LD 1, ST X
abbrev pub returns : ProgramUnit
returns = program (declared (codes "X") int ∷ []) (line (ld (literal (Truth true))) ∷ line (Return WhenTrue) ∷ line (ld (number (pos 1))) ∷ line (st (codes "X")) ∷ [])

returns_value : after_scan [] returns (codes "X") ≡ Some (Integer (pos 0))
unfolding meaning image_name standard_function standard_block block_variables label_place run begins opening_variables step get insert empty digits
returns_value = refl

returns_costs : longest (config ([] ++ returns ∷ [])) returns ≡ 5
unfolding meaning image_name standard_function standard_block label_place longest
returns_costs = refl

-- T : B; LD 10, ST T.X: outside the input
abbrev pub stores_inside : ProgramUnit
stores_inside = program (declared (codes "T") (BlockForm (codes "B")) ∷ []) (line (ld (number (pos 10))) ∷ line (Store Plain (operand (Member (codes "T") (codes "X")))) ∷ [])

stores_inside_trap : scan_ends (adder ∷ []) stores_inside ≡ Trapped OutsideSubrange
unfolding meaning image_name standard_function standard_block block_variables label_place run begins opening_variables step get insert empty digits
stores_inside_trap = refl

-- T : B; V : INT; LD 4, ST T.X, CAL T, LD T.Y, ST V
abbrev pub reads_inside : ProgramUnit
reads_inside = program (declared (codes "T") (BlockForm (codes "B")) ∷ declared (codes "V") int ∷ []) (line (ld (number (pos 4))) ∷ line (Store Plain (operand (Member (codes "T") (codes "X")))) ∷ line (call (codes "T") []) ∷ line (ld (operand (Member (codes "T") (codes "Y")))) ∷ line (st (codes "V")) ∷ [])

reads_inside_value : after_scan (adder ∷ []) reads_inside (codes "V") ≡ Some (Integer (pos 5))
unfolding meaning image_name standard_function standard_block block_variables label_place run begins opening_variables step get insert empty digits
reads_inside_value = refl

-- T : TON; Q : BOOL; E : TIME; CAL T(IN := TRUE, PT := T#1s, Q => Q, ET => E)
abbrev pub on_delay : ProgramUnit
on_delay = program (declared (codes "T") (BlockForm (codes "TON")) ∷ declared (codes "Q") bool ∷ declared (codes "E") time ∷ []) (line (call (codes "T") (input (codes "IN") (literal (Truth true)) ∷ input (codes "PT") (literal (Duration (pos 1000))) ∷ output (codes "Q") (codes "Q") ∷ output (codes "ET") (codes "E") ∷ [])) ∷ [])

-- The variables after scans at these times.
abbrev pub timed : List ℤ → List ProgramUnit → ProgramUnit → Values → Values
timed [] others p variables = variables
timed (t ∷ ts) others p variables = timed ts others p (kept variables (scanned others p t variables))

abbrev pub after_times : List ℤ → ProgramUnit → Text → Option Value
after_times ts p path = get (timed ts [] p (opening_variables (config (p ∷ [])) p)) path

on_delay_first : after_times (pos 500 ∷ []) on_delay (codes "E") ≡ Some (Integer (pos 0))
unfolding meaning image_name standard_function standard_block block_variables label_place run begins opening_variables step get insert empty restricted digits
on_delay_first = refl

on_delay_second : after_times (pos 500 ∷ pos 300 ∷ []) on_delay (codes "E") ≡ Some (Integer (pos 0))
unfolding meaning image_name standard_function standard_block block_variables label_place run begins opening_variables step get insert empty restricted digits
on_delay_second = refl

on_delay_second_output : after_times (pos 500 ∷ pos 300 ∷ []) on_delay (codes "Q") ≡ Some (Boolean false)
unfolding meaning image_name standard_function standard_block block_variables label_place run begins opening_variables step get insert empty restricted digits
on_delay_second_output = refl

on_delay_third : after_times (pos 500 ∷ pos 300 ∷ pos 1300 ∷ []) on_delay (codes "E") ≡ Some (Integer (pos 1000))
unfolding meaning image_name standard_function standard_block block_variables label_place run begins opening_variables step get insert empty restricted digits
on_delay_third = refl

on_delay_third_output : after_times (pos 500 ∷ pos 300 ∷ pos 1300 ∷ []) on_delay (codes "Q") ≡ Some (Boolean true)
unfolding meaning image_name standard_function standard_block block_variables label_place run begins opening_variables step get insert empty restricted digits
on_delay_third_output = refl

on_delay_costs : longest (config ([] ++ on_delay ∷ [])) on_delay ≡ 2
unfolding meaning image_name standard_function standard_block label_place longest
on_delay_costs = refl

-- T : F_TRIG; Q : BOOL; CAL T(CLK := FALSE, Q => Q)
abbrev pub falls : ProgramUnit
falls = program (declared (codes "T") (BlockForm (codes "F_TRIG")) ∷ declared (codes "Q") bool ∷ []) (line (call (codes "T") (input (codes "CLK") (literal (Truth false)) ∷ output (codes "Q") (codes "Q") ∷ [])) ∷ [])

falls_first : after_scans 1 [] falls (codes "Q") ≡ Some (Boolean true)
unfolding meaning image_name standard_function standard_block block_variables label_place run begins opening_variables step get insert empty restricted digits
falls_first = refl

falls_second : after_scans 2 [] falls (codes "Q") ≡ Some (Boolean false)
unfolding meaning image_name standard_function standard_block block_variables label_place run begins opening_variables step get insert empty restricted digits
falls_second = refl

-- T : CTU; C1 : BOOL; N : INT; CAL T(CU := C1, PV := 2, CV => N), LD C1, NOT, ST C1 from C1 := TRUE
abbrev pub counts_up : ProgramUnit
counts_up = program (declared (codes "T") (BlockForm (codes "CTU")) ∷ declared_with (codes "C1") bool (Truth true) ∷ declared (codes "N") int ∷ []) (line (call (codes "T") (input (codes "CU") (variable (codes "C1")) ∷ input (codes "PV") (number (pos 2)) ∷ output (codes "CV") (codes "N") ∷ [])) ∷ line (ld (variable (codes "C1"))) ∷ line Not ∷ line (st (codes "C1")) ∷ [])

counts_up_first : after_scans 1 [] counts_up (codes "N") ≡ Some (Integer (pos 1))
unfolding meaning image_name standard_function standard_block block_variables label_place run begins opening_variables step get insert empty restricted digits
counts_up_first = refl

counts_up_second : after_scans 2 [] counts_up (codes "N") ≡ Some (Integer (pos 1))
unfolding meaning image_name standard_function standard_block block_variables label_place run begins opening_variables step get insert empty restricted digits
counts_up_second = refl

counts_up_third : after_scans 3 [] counts_up (codes "N") ≡ Some (Integer (pos 2))
unfolding meaning image_name standard_function standard_block block_variables label_place run begins opening_variables step get insert empty restricted digits
counts_up_third = refl

counts_up_output : after_scans 3 [] counts_up (codes "T.Q") ≡ Some (Boolean true)
unfolding meaning image_name standard_function standard_block block_variables label_place run begins opening_variables step get insert empty restricted digits
counts_up_output = refl
