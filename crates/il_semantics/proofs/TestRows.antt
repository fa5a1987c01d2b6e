-- Tests: which instructions are one, and units that have an annotation by what their tests leave.
use Rattle.std.proofs.Common.{◌≡◌, ℕ, Bool, true, false, cond, List, [], ◌∷◌, Option, Some, None, ℤ, pos, ◌≤ℤ◌, ◌+ℤ◌, codes, refl, sym, subst, arith, T}
use Rattle.std.specs.Prelude.{int_le}
use lib.Signed.{le_z_yes}
use Rattle.std.proofs.lemmas.Int.{ints}
use Rattle.std.specs.Fmt.{digits}
use Rattle.std.specs.Ordering.{eq_by_cmp}
use Rattle.il_syntax.specs.declared.tree.Elementary.TheVariants.{Int}
use Rattle.il_syntax.specs.declared.tree.Literal.{Literal}
use Rattle.il_syntax.specs.declared.tree.Literal.TheVariants.{Bare, Whole, Truth}
use Rattle.il_syntax.specs.declared.tree.Arithmetic.TheVariants.{Add}
use Rattle.il_syntax.specs.declared.tree.Comparison.{Comparison as ComparisonKind}
use Rattle.il_syntax.specs.declared.tree.Comparison.TheVariants.{Less, Greater, Equal}
use Rattle.il_syntax.specs.declared.tree.Operator.TheVariants.{Comparison}
use Rattle.il_syntax.specs.declared.tree.Condition.TheVariants.{Always, WhenTrue, WhenFalse}
use Rattle.il_syntax.specs.declared.tree.Instruction.{Instruction}
use Rattle.il_syntax.specs.declared.tree.Instruction.TheVariants.{Operate}
use Rattle.il_syntax.specs.declared.tree.Step.{Step as BodyStep}
use Rattle.il_syntax.specs.declared.tree.Declaration.{Declaration}
use Rattle.il_syntax.specs.declared.tree.Unit.{Unit as ProgramUnit}
use Rattle.il_syntax.specs.declared.tree.Config.{Config}
use Rattle.il_statics.specs.Names.{meaning, image_name, standard_function, standard_block}
use Rattle.il_statics.specs.Types.{label_place}
use Rattle.ranges_interval.specs.declared.Interval.{Interval}
use Rattle.ranges_interval.specs.Interval.{IsIn, IsWithin, between}
use Rattle.base_maps.specs.NameMap.{NameMap, Text, order, get, insert, empty, get-insert}
use Rattle.il_semantics.specs.Step.{instruction_at}
use Rattle.il_semantics.specs.Tests.{test_at}
use Rattle.il_semantics.specs.Paths.{longest}
use Rattle.il_semantics.specs.declared.known.Known.TheVariants.{Flag, Ranged}
use Rattle.il_semantics.specs.Annotation.{Knowledge, Annotation, knowledge, IsVariableWithin, IsPart, IsResultWithin, Passes, Spot}
use Rattle.il_semantics.proofs.Trees.{named, here, declared, int, bool, int_between, variable, number, literal, ld, st, op, jump, line, labelled, config}
use Rattle.il_semantics.proofs.AnnotationRows.{part_itself}
use Rattle.il_semantics.proofs.Rows.{after_scans}
use Rattle.il_semantics.specs.declared.value.Value.TheVariants.{Integer}
use Rattle.il_semantics.specs.Scan.{run, begins, opening_variables, restricted}
use Rattle.il_semantics.specs.Step.{step}
use Rattle.il_statics.specs.Names.{block_variables}
use Rattle.il_syntax.specs.declared.tree.UnitKind.TheVariants.{Program}

-- a program whose last label is L
abbrev to_end : List Declaration → List BodyStep → ProgramUnit
to_end variables steps = record {
  place = here;
  kind = Program;
  name = named (codes "C");
  inputs = [];
  outputs = [];
  variables = variables;
  externals = [];
  body = record { steps = steps; last_labels = named (codes "L") ∷ []; end = here };
}

abbrev compares : ComparisonKind → Literal → Instruction
compares kind l = Operate (Comparison kind) (literal l)

abbrev of : List ProgramUnit → Config
of units = config units

-- WHICH INSTRUCTIONS ARE A TEST

-- V : INT (0..9); LD V, LT 9, JMPCN L, LD V, ADD 1, ST V, L:
abbrev counts_up : ProgramUnit
counts_up = to_end (declared (codes "V") (int_between (pos 0) (pos 9)) ∷ []) (line (ld (variable (codes "V"))) ∷ line (compares Less (Bare (pos 9))) ∷ line (jump WhenFalse (codes "L")) ∷ line (ld (variable (codes "V"))) ∷ line (op Add (number (pos 1))) ∷ line (st (codes "V")) ∷ [])

a_test : test_at (of (counts_up ∷ [])) counts_up 2 ≡ Some (record { name = codes "V"; elementary = Int; comparison = Less; number = pos 9 })
unfolding meaning image_name standard_function standard_block
a_test = refl

counts_up_costs : longest (of (counts_up ∷ [])) counts_up ≡ 7
unfolding meaning image_name standard_function standard_block label_place longest
counts_up_costs = refl

nine_after_ten : after_scans 10 [] counts_up (codes "V") ≡ Some (Integer (pos 9))
unfolding meaning image_name standard_function standard_block block_variables label_place run begins opening_variables step get insert empty restricted digits
nine_after_ten = refl

nine_stays : after_scans 11 [] counts_up (codes "V") ≡ Some (Integer (pos 9))
unfolding meaning image_name standard_function standard_block block_variables label_place run begins opening_variables step get insert empty restricted digits
nine_stays = refl

-- the same with a label before the jump, and before the comparison
abbrev jump_labelled : ProgramUnit
jump_labelled = to_end (declared (codes "V") (int_between (pos 0) (pos 9)) ∷ []) (line (ld (variable (codes "V"))) ∷ line (compares Less (Bare (pos 9))) ∷ labelled (codes "J") (jump WhenFalse (codes "L")) ∷ [])

no_test_at_a_label : test_at (of (jump_labelled ∷ [])) jump_labelled 2 ≡ None
unfolding meaning image_name standard_function standard_block
no_test_at_a_label = refl

abbrev comparison_labelled : ProgramUnit
comparison_labelled = to_end (declared (codes "V") (int_between (pos 0) (pos 9)) ∷ []) (line (ld (variable (codes "V"))) ∷ labelled (codes "J") (compares Less (Bare (pos 9))) ∷ line (jump WhenFalse (codes "L")) ∷ [])

no_test_behind_a_label : test_at (of (comparison_labelled ∷ [])) comparison_labelled 2 ≡ None
unfolding meaning image_name standard_function standard_block
no_test_behind_a_label = refl

-- a typed literal, a label before LD, an image name
abbrev typed_literal : ProgramUnit
typed_literal = to_end [] (labelled (codes "J") (ld (variable (codes "MOTOR"))) ∷ line (compares Equal (Whole Int (pos 0))) ∷ line (jump WhenTrue (codes "L")) ∷ [])

a_test_of_the_image : test_at (of (typed_literal ∷ [])) typed_literal 2 ≡ Some (record { name = codes "MOTOR"; elementary = Int; comparison = Equal; number = pos 0 })
unfolding meaning image_name standard_function standard_block
a_test_of_the_image = refl

-- a Boolean, a comparison with a variable, and JMP are none
abbrev boolean : ProgramUnit
boolean = to_end (declared (codes "B") bool ∷ []) (line (ld (variable (codes "B"))) ∷ line (compares Equal (Truth true)) ∷ line (jump WhenTrue (codes "L")) ∷ [])

no_test_of_a_boolean : test_at (of (boolean ∷ [])) boolean 2 ≡ None
unfolding meaning image_name standard_function standard_block
no_test_of_a_boolean = refl

abbrev two_variables : ProgramUnit
two_variables = to_end (declared (codes "V") int ∷ []) (line (ld (variable (codes "V"))) ∷ line (Operate (Comparison Less) (variable (codes "V"))) ∷ line (jump WhenTrue (codes "L")) ∷ [])

no_test_of_two_variables : test_at (of (two_variables ∷ [])) two_variables 2 ≡ None
unfolding meaning image_name standard_function standard_block
no_test_of_two_variables = refl

abbrev always : ProgramUnit
always = to_end (declared (codes "V") int ∷ []) (line (ld (variable (codes "V"))) ∷ line (compares Less (Bare (pos 9))) ∷ line (jump Always (codes "L")) ∷ [])

no_test_of_a_jump : test_at (of (always ∷ [])) always 2 ≡ None
unfolding meaning image_name standard_function standard_block
no_test_of_a_jump = refl

-- ANNOTATIONS

abbrev entry : NameMap Interval
entry = insert empty (codes "V") (between (pos 0) (pos 9))

-- V within a range
abbrev within : ℤ → ℤ → NameMap Interval
within lower upper = insert entry (codes "V") (between lower upper)

abbrev ranged : NameMap Interval → ℤ → ℤ → Knowledge
ranged variables lower upper = knowledge variables (Some (Ranged Int (between lower upper))) []

abbrev flagged : NameMap Interval → Knowledge
flagged variables = knowledge variables (Some Flag) []

in_order : {a b : ℤ} → T (int_le a b) → a ≤ℤ b
in_order h = le_z_yes h

variable_itself : (o : Option Interval) → IsVariableWithin o o
variable_itself None = tt
variable_itself (Some i) = (omega (arith, ints), omega (arith, ints))

put_within : (m : NameMap Interval) (name : Text) (i j : Interval) → IsWithin i j → (q : Text) → IsVariableWithin (get (insert m name i) q) (get (insert m name j) q)
put_within m name i j h q = subst (λ o. IsVariableWithin o (get (insert m name j) q)) (sym (get-insert m name i q)) (subst (IsVariableWithin (cond (eq_by_cmp order q name) (Some i) (get m q))) (sym (get-insert m name j q)) (by_test (eq_by_cmp order q name)))
  where
    by_test : (b : Bool) → IsVariableWithin (cond b (Some i) (get m q)) (cond b (Some j) (get m q))
    by_test true = h
    by_test false = variable_itself (get m q)

abbrev up : Annotation
up =
    Some (knowledge entry None [])
    ∷ Some (ranged entry (pos 0) (pos 9))
    ∷ Some (flagged entry)
    ∷ Some (flagged (within (pos 0) (pos 8)))
    ∷ Some (ranged (within (pos 0) (pos 8)) (pos 0) (pos 8))
    ∷ Some (ranged (within (pos 0) (pos 8)) (pos 1) (pos 9))
    ∷ Some (knowledge (within (pos 1) (pos 9)) None [])
    ∷ []

abbrev up_spot : ℕ → Knowledge → Spot
up_spot place k = record { config = of (counts_up ∷ []); unit = counts_up; annotation = up; place = place; known = k }

-- LD V
up_0 : Passes (up_spot 0 (knowledge entry None [])) (instruction_at counts_up.body 0)
unfolding get insert empty digits meaning image_name standard_function standard_block
up_0 = (_, refl, part_itself _)

-- LT 9
up_1 : Passes (up_spot 1 (ranged entry (pos 0) (pos 9))) (instruction_at counts_up.body 1)
unfolding get insert empty digits meaning image_name standard_function standard_block
up_1 = (refl, (in_order tt, in_order tt), (refl, (_, refl, part_itself _)))

to_the_end : IsPart (flagged (within (pos 9) (pos 9))) (knowledge (within (pos 1) (pos 9)) None [])
to_the_end = record { variables = put_within entry (codes "V") (between (pos 9) (pos 9)) (between (pos 1) (pos 9)) (in_order tt, in_order tt); result = tt; deferred = tt }

-- JMPCN L: 9 goes to the label, 0 to 8 to the next place
up_2 : Passes (up_spot 2 (flagged entry)) (instruction_at counts_up.body 2)
unfolding get insert empty digits meaning image_name standard_function standard_block label_place
up_2 = (refl, refl, (_, refl, to_the_end), (_, refl, part_itself _))

sum_in : (x y : ℤ) → IsIn (between (pos 0) (pos 8)) x → IsIn (between (pos 1) (pos 1)) y → IsIn (between (pos 1) (pos 9)) (x +ℤ y)
sum_in x y h k = (omega (arith, ints), omega (arith, ints))

-- LD V
up_3 : Passes (up_spot 3 (flagged (within (pos 0) (pos 8)))) (instruction_at counts_up.body 3)
unfolding get insert empty digits meaning image_name standard_function standard_block
up_3 = (_, refl, part_itself _)

-- ADD 1
up_4 : Passes (up_spot 4 (ranged (within (pos 0) (pos 8)) (pos 0) (pos 8))) (instruction_at counts_up.body 4)
unfolding get insert empty digits meaning image_name standard_function standard_block
up_4 = (refl, (in_order tt, in_order tt), (refl, refl, (between (pos 1) (pos 9), sum_in, (in_order tt, in_order tt), (_, refl, part_itself _))))

-- ST V
up_5 : Passes (up_spot 5 (ranged (within (pos 0) (pos 8)) (pos 1) (pos 9))) (instruction_at counts_up.body 5)
unfolding get insert empty digits meaning image_name standard_function standard_block
up_5 = ((refl, (in_order tt, in_order tt)), (_, refl, record { variables = λ q. variable_itself _; result = tt; deferred = tt }))

-- V : INT (0..9); LD V, GT 20, JMPCN L, LD V, ADD 32767, L:
abbrev never_large : ProgramUnit
never_large = to_end (declared (codes "V") (int_between (pos 0) (pos 9)) ∷ []) (line (ld (variable (codes "V"))) ∷ line (compares Greater (Bare (pos 20))) ∷ line (jump WhenFalse (codes "L")) ∷ line (ld (variable (codes "V"))) ∷ line (op Add (number (pos 32767))) ∷ [])

abbrev never : Annotation
never = Some (knowledge entry None []) ∷ Some (ranged entry (pos 0) (pos 9)) ∷ Some (flagged entry) ∷ None ∷ None ∷ Some (flagged entry) ∷ []

-- JMPCN L: all values go to the label, and nothing is asked of the next place
never_2 : Passes (record { config = of (never_large ∷ []); unit = never_large; annotation = never; place = 2; known = flagged entry }) (instruction_at never_large.body 2)
unfolding get insert empty digits meaning image_name standard_function standard_block label_place
never_2 = (refl, refl, (_, refl, record { variables = λ q. variable_itself _; result = refl_flag; deferred = tt }), tt)
  where
    refl_flag : IsResultWithin (Some Flag) (Some Flag)
    refl_flag = tt
