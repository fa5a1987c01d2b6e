-- More worked rows.
use Rattle.std.specs.Prelude.{◌≡◌, true, false, [], ◌∷◌, Some, pos, codes, refl}
use Rattle.il_syntax.specs.declared.tree.Arithmetic.TheVariants.{Add}
use Rattle.il_syntax.specs.declared.tree.Elementary.TheVariants.{Dint}
use Rattle.il_syntax.specs.declared.tree.Literal.TheVariants.{Truth, Time as Duration}
use Rattle.il_syntax.specs.declared.tree.Form.TheVariants.{Scalar as ScalarForm, Block as BlockForm}
use Rattle.il_syntax.specs.declared.tree.Reference.TheVariants.{Member}
use Rattle.il_syntax.specs.declared.tree.Store.TheVariants.{Plain, Negated, Set, Reset}
use Rattle.il_syntax.specs.declared.tree.Instruction.TheVariants.{Load, Store}
use Rattle.il_syntax.specs.declared.tree.UnitKind.TheVariants.{FunctionBlock}
use Rattle.il_syntax.specs.declared.tree.Unit.{Unit as ProgramUnit}
use Rattle.std.specs.Fmt.{digits}
use Rattle.base_maps.specs.NameMap.{get, insert, empty}
use Rattle.il_semantics.specs.declared.value.Value.TheVariants.{Boolean, Integer}
use Rattle.il_statics.specs.Names.{meaning, image_name, standard_function, standard_block, block_variables}
use Rattle.il_statics.specs.Types.{label_place}
use Rattle.il_syntax.specs.ElementaryTypes.{plain}
use Rattle.il_semantics.specs.Step.{Trapped, step, WrongKind}
use Rattle.il_semantics.specs.Scan.{run, begins, opening_variables, restricted}
use Rattle.il_semantics.proofs.Trees.{declared, declared_with, int, time, bool, variable, number, literal, operand, ld, st, op, line, unit, program}
use Rattle.il_syntax.specs.declared.tree.Logic.TheVariants.{Conjunction, Disjunction, Exclusive}
use Rattle.il_syntax.specs.declared.tree.Comparison.TheVariants.{Equal, Greater}
use Rattle.il_syntax.specs.declared.tree.Operator.TheVariants.{Logic, Comparison}
use Rattle.il_syntax.specs.declared.tree.Instruction.TheVariants.{Operate}
use Rattle.il_semantics.proofs.Rows.{after_scan, after_times, scan_ends, call, input, output, adder}

-- T : TP; G, H, Q : BOOL; E : TIME; G is TRUE at NOW 100 and 400; CAL T(IN := G, PT := T#200ms, Q => Q, ET => E)
abbrev pub pulses : ProgramUnit
pulses = program (declared (codes "T") (BlockForm (codes "TP")) ∷ declared (codes "G") bool ∷ declared (codes "Q") bool ∷ declared (codes "E") time ∷ []) (line (ld (variable (codes "NOW"))) ∷ line (Operate (Comparison Equal) (literal (Duration (pos 100)))) ∷ line (st (codes "G")) ∷ line (ld (variable (codes "NOW"))) ∷ line (Operate (Comparison Equal) (literal (Duration (pos 400)))) ∷ line (Operate (Logic Disjunction false) (variable (codes "G"))) ∷ line (st (codes "G")) ∷ line (call (codes "T") (input (codes "IN") (variable (codes "G")) ∷ input (codes "PT") (literal (Duration (pos 200))) ∷ output (codes "Q") (codes "Q") ∷ output (codes "ET") (codes "E") ∷ [])) ∷ [])

pulses_output_1 : after_times (pos 100 ∷ []) pulses (codes "Q") ≡ Some (Boolean true)
unfolding meaning image_name standard_function standard_block block_variables label_place run begins opening_variables step get insert empty restricted digits
pulses_output_1 = refl

pulses_time_1 : after_times (pos 100 ∷ []) pulses (codes "E") ≡ Some (Integer (pos 0))
unfolding meaning image_name standard_function standard_block block_variables label_place run begins opening_variables step get insert empty restricted digits
pulses_time_1 = refl

pulses_output_2 : after_times (pos 100 ∷ pos 200 ∷ []) pulses (codes "Q") ≡ Some (Boolean true)
unfolding meaning image_name standard_function standard_block block_variables label_place run begins opening_variables step get insert empty restricted digits
pulses_output_2 = refl

pulses_time_2 : after_times (pos 100 ∷ pos 200 ∷ []) pulses (codes "E") ≡ Some (Integer (pos 100))
unfolding meaning image_name standard_function standard_block block_variables label_place run begins opening_variables step get insert empty restricted digits
pulses_time_2 = refl

pulses_output_3 : after_times (pos 100 ∷ pos 200 ∷ pos 300 ∷ []) pulses (codes "Q") ≡ Some (Boolean false)
unfolding meaning image_name standard_function standard_block block_variables label_place run begins opening_variables step get insert empty restricted digits
pulses_output_3 = refl

pulses_time_3 : after_times (pos 100 ∷ pos 200 ∷ pos 300 ∷ []) pulses (codes "E") ≡ Some (Integer (pos 0))
unfolding meaning image_name standard_function standard_block block_variables label_place run begins opening_variables step get insert empty restricted digits
pulses_time_3 = refl

pulses_output_4 : after_times (pos 100 ∷ pos 200 ∷ pos 300 ∷ pos 400 ∷ []) pulses (codes "Q") ≡ Some (Boolean true)
unfolding meaning image_name standard_function standard_block block_variables label_place run begins opening_variables step get insert empty restricted digits
pulses_output_4 = refl

pulses_time_4 : after_times (pos 100 ∷ pos 200 ∷ pos 300 ∷ pos 400 ∷ []) pulses (codes "E") ≡ Some (Integer (pos 0))
unfolding meaning image_name standard_function standard_block block_variables label_place run begins opening_variables step get insert empty restricted digits
pulses_time_4 = refl

-- T : TOF; G, Q : BOOL; E : TIME; G is TRUE at NOW 100; CAL T(IN := G, PT := T#100ms, Q => Q, ET => E)
abbrev pub delays_off : ProgramUnit
delays_off = program (declared (codes "T") (BlockForm (codes "TOF")) ∷ declared (codes "G") bool ∷ declared (codes "Q") bool ∷ declared (codes "E") time ∷ []) (line (ld (variable (codes "NOW"))) ∷ line (Operate (Comparison Equal) (literal (Duration (pos 100)))) ∷ line (st (codes "G")) ∷ line (call (codes "T") (input (codes "IN") (variable (codes "G")) ∷ input (codes "PT") (literal (Duration (pos 100))) ∷ output (codes "Q") (codes "Q") ∷ output (codes "ET") (codes "E") ∷ [])) ∷ [])

delays_off_output_1 : after_times (pos 100 ∷ []) delays_off (codes "Q") ≡ Some (Boolean true)
unfolding meaning image_name standard_function standard_block block_variables label_place run begins opening_variables step get insert empty restricted digits
delays_off_output_1 = refl

delays_off_time_1 : after_times (pos 100 ∷ []) delays_off (codes "E") ≡ Some (Integer (pos 0))
unfolding meaning image_name standard_function standard_block block_variables label_place run begins opening_variables step get insert empty restricted digits
delays_off_time_1 = refl

delays_off_output_2 : after_times (pos 100 ∷ pos 200 ∷ []) delays_off (codes "Q") ≡ Some (Boolean true)
unfolding meaning image_name standard_function standard_block block_variables label_place run begins opening_variables step get insert empty restricted digits
delays_off_output_2 = refl

delays_off_time_2 : after_times (pos 100 ∷ pos 200 ∷ []) delays_off (codes "E") ≡ Some (Integer (pos 0))
unfolding meaning image_name standard_function standard_block block_variables label_place run begins opening_variables step get insert empty restricted digits
delays_off_time_2 = refl

delays_off_output_3 : after_times (pos 100 ∷ pos 200 ∷ pos 250 ∷ []) delays_off (codes "Q") ≡ Some (Boolean true)
unfolding meaning image_name standard_function standard_block block_variables label_place run begins opening_variables step get insert empty restricted digits
delays_off_output_3 = refl

delays_off_time_3 : after_times (pos 100 ∷ pos 200 ∷ pos 250 ∷ []) delays_off (codes "E") ≡ Some (Integer (pos 50))
unfolding meaning image_name standard_function standard_block block_variables label_place run begins opening_variables step get insert empty restricted digits
delays_off_time_3 = refl

delays_off_output_4 : after_times (pos 100 ∷ pos 200 ∷ pos 250 ∷ pos 300 ∷ []) delays_off (codes "Q") ≡ Some (Boolean false)
unfolding meaning image_name standard_function standard_block block_variables label_place run begins opening_variables step get insert empty restricted digits
delays_off_output_4 = refl

delays_off_time_4 : after_times (pos 100 ∷ pos 200 ∷ pos 250 ∷ pos 300 ∷ []) delays_off (codes "E") ≡ Some (Integer (pos 100))
unfolding meaning image_name standard_function standard_block block_variables label_place run begins opening_variables step get insert empty restricted digits
delays_off_time_4 = refl

-- FUNCTION_BLOCK O with an instance U of B; LD 3, ST U.X, CAL U, LD U.Y, ST Z with output Z : INT
abbrev pub outer : ProgramUnit
outer = unit FunctionBlock (codes "O") [] (declared (codes "Z") int ∷ []) (declared (codes "U") (BlockForm (codes "B")) ∷ []) (line (ld (number (pos 3))) ∷ line (Store Plain (operand (Member (codes "U") (codes "X")))) ∷ line (call (codes "U") []) ∷ line (ld (operand (Member (codes "U") (codes "Y")))) ∷ line (st (codes "Z")) ∷ [])

-- T : O; V : INT; CAL T(Z => V)
abbrev pub calls_outer : ProgramUnit
calls_outer = program (declared (codes "T") (BlockForm (codes "O")) ∷ declared (codes "V") int ∷ []) (line (call (codes "T") (output (codes "Z") (codes "V") ∷ [])) ∷ [])

calls_outer_value : after_scan (adder ∷ outer ∷ []) calls_outer (codes "V") ≡ Some (Integer (pos 4))
unfolding meaning image_name standard_function standard_block block_variables label_place run begins opening_variables step get insert empty digits
calls_outer_value = refl

calls_outer_inside : after_scan (adder ∷ outer ∷ []) calls_outer (codes "T.U.Y") ≡ Some (Integer (pos 4))
unfolding meaning image_name standard_function standard_block block_variables label_place run begins opening_variables step get insert empty digits
calls_outer_inside = refl

-- B, D : BOOL := TRUE; LD TRUE, S B, R D, LD FALSE, S D
abbrev pub sets : ProgramUnit
sets = program (declared (codes "B") bool ∷ declared_with (codes "D") bool (Truth true) ∷ []) (line (ld (literal (Truth true))) ∷ line (Store Set (variable (codes "B"))) ∷ line (Store Reset (variable (codes "D"))) ∷ line (ld (literal (Truth false))) ∷ line (Store Set (variable (codes "D"))) ∷ [])

sets_value : after_scan [] sets (codes "B") ≡ Some (Boolean true)
unfolding meaning image_name standard_function standard_block block_variables label_place run begins opening_variables step get insert empty digits
sets_value = refl

sets_other : after_scan [] sets (codes "D") ≡ Some (Boolean false)
unfolding meaning image_name standard_function standard_block block_variables label_place run begins opening_variables step get insert empty digits
sets_other = refl

-- B : BOOL; LDN B, ANDN B, XOR TRUE, STN B
abbrev pub reasons : ProgramUnit
reasons = program (declared (codes "B") bool ∷ []) (line (Load true (variable (codes "B"))) ∷ line (Operate (Logic Conjunction true) (variable (codes "B"))) ∷ line (Operate (Logic Exclusive false) (literal (Truth true))) ∷ line (Store Negated (variable (codes "B"))) ∷ [])

reasons_value : after_scan [] reasons (codes "B") ≡ Some (Boolean true)
unfolding meaning image_name standard_function standard_block block_variables label_place run begins opening_variables step get insert empty digits
reasons_value = refl

-- B : BOOL; LD 3, GT 2, ST B
abbrev pub compares : ProgramUnit
compares = program (declared (codes "B") bool ∷ []) (line (ld (number (pos 3))) ∷ line (Operate (Comparison Greater) (number (pos 2))) ∷ line (st (codes "B")) ∷ [])

compares_value : after_scan [] compares (codes "B") ≡ Some (Boolean true)
unfolding meaning image_name standard_function standard_block block_variables label_place run begins opening_variables step get insert empty digits
compares_value = refl

-- D : DINT; LD 3, ADD D: types differ
abbrev pub mixes : ProgramUnit
mixes = program (declared (codes "D") (ScalarForm (plain Dint)) ∷ []) (line (ld (number (pos 3))) ∷ line (op Add (variable (codes "D"))) ∷ [])

mixes_trap : scan_ends [] mixes ≡ Trapped WrongKind
unfolding meaning image_name standard_function standard_block block_variables label_place run begins opening_variables step get insert empty digits
mixes_trap = refl
