-- One text with every construct of the language, part by part, and the tree that it spells.
use Rattle.std.specs.Prelude.{ℕ, List, [], ◌∷◌, ◌++◌, pos, negsuc, true, false, Some, None, codes}
use Rattle.il_syntax.specs.declared.tree.Elementary.TheVariants as elementary
use Rattle.il_syntax.specs.declared.tree.Literal.TheVariants as literal
use Rattle.il_syntax.specs.declared.tree.Form.TheVariants as form
use Rattle.il_syntax.specs.declared.tree.Index.TheVariants as index
use Rattle.il_syntax.specs.declared.tree.Reference.TheVariants as reference
use Rattle.il_syntax.specs.declared.tree.Operator.TheVariants as operator
use Rattle.il_syntax.specs.declared.tree.Logic.TheVariants.{Conjunction, Disjunction, Exclusive}
use Rattle.il_syntax.specs.declared.tree.Arithmetic.TheVariants.{Add, Sub, Mul, Div, Mod}
use Rattle.il_syntax.specs.declared.tree.Comparison.TheVariants.{Greater, GreaterOrEqual, Equal, NotEqual, LessOrEqual, Less}
use Rattle.il_syntax.specs.declared.tree.Store.TheVariants as store
use Rattle.il_syntax.specs.declared.tree.Condition.TheVariants.{Always, WhenTrue, WhenFalse}
use Rattle.il_syntax.specs.declared.tree.Argument.TheVariants as argument
use Rattle.il_syntax.specs.declared.tree.Instruction.TheVariants as instruction
use Rattle.il_syntax.specs.declared.tree.Step.{Step}
use Rattle.il_syntax.specs.declared.tree.UnitKind.TheVariants as unit
use Rattle.il_syntax.specs.declared.tree.Unit.{Unit as ProgramUnit}
use Rattle.il_syntax.specs.declared.tree.Config.{Config}
use Rattle.il_witnesses.specs.Trees.{lines, place, named, range, scalar, written, initial, declaration, operand, step, size, task, program_line}

-- THE TEXT

-- a function, with a comment after it
abbrev pub function_text : List ℕ
function_text =
    lines (
    codes ""
    ∷ codes "FUNCTION F : INT (1..10)"
    ∷ codes "VAR_INPUT A : INT (0..9); N : BOOL; END_VAR"
    ∷ codes "VAR B, D : SINT := -5; U : UDINT; END_VAR"
    ∷ codes "LD A"
    ∷ codes "ADD 16#1"
    ∷ codes "ST F"
    ∷ codes "END_FUNCTION (*x*)"
    ∷ [])

-- a function block with inputs and outputs
abbrev pub block_text : List ℕ
block_text =
    lines (
    codes "FUNCTION_BLOCK Q"
    ∷ codes "VAR_INPUT X : BOOL := TRUE; P : TIME := T#1s; END_VAR"
    ∷ codes "VAR_OUTPUT Y : BOOL; Z : DINT; END_VAR"
    ∷ codes "LDN x"
    ∷ codes "STN Y"
    ∷ codes "END_FUNCTION_BLOCK"
    ∷ codes ""
    ∷ [])

-- a program with an array, subranges, instances and externals
abbrev pub heading_text : List ℕ
heading_text =
    lines (
    codes "PROGRAM C"
    ∷ codes "VAR"
    ∷ codes "  V : ARRAY [1..8] OF INT (0..9);"
    ∷ codes "  I : USINT (1..8) := USINT#1;"
    ∷ codes "  T1 : Q; T2 : TON;"
    ∷ codes "END_VAR"
    ∷ codes "VAR_EXTERNAL G : BOOL;"
    ∷ codes "  H : UINT; END_VAR"
    ∷ codes ""
    ∷ [])

-- labels, loads, stores and jumps
abbrev pub labels_text : List ℕ
labels_text =
    lines (
    codes "L:"
    ∷ codes ""
    ∷ codes "M: LD INT#2"
    ∷ codes "ST V[1]"
    ∷ codes "LD 9"
    ∷ codes "ST V[ I ]"
    ∷ codes "LD T#1s\r"
    ∷ codes "ST T2.PT"
    ∷ codes "JMP K"
    ∷ codes "K: LD T1.Y"
    ∷ codes "JMPC E"
    ∷ codes "JMPCN E"
    ∷ codes "S G"
    ∷ codes "R G"
    ∷ [])

-- operators
abbrev pub operators_text : List ℕ
operators_text =
    lines (
    codes "LD TRUE"
    ∷ codes "AND G"
    ∷ codes "ANDN G"
    ∷ codes "&N G"
    ∷ codes "& G"
    ∷ codes "OR FALSE"
    ∷ codes "ORN G"
    ∷ codes "XOR G"
    ∷ codes "XORN G"
    ∷ codes "NOT"
    ∷ codes "LD 2"
    ∷ codes "ADD 1"
    ∷ codes "SUB 1"
    ∷ codes "MUL I"
    ∷ codes "DIV 2"
    ∷ codes "MOD 2"
    ∷ codes "GT 1"
    ∷ codes "LD 2"
    ∷ codes "GE 1"
    ∷ codes "LD 2"
    ∷ codes "EQ 1"
    ∷ codes "LD 2"
    ∷ codes "NE 1"
    ∷ codes "LD 2"
    ∷ codes "LE 1"
    ∷ codes "LD 2"
    ∷ codes "LT 1"
    ∷ [])

-- parentheses in both forms
abbrev pub parentheses_text : List ℕ
parentheses_text =
    lines (
    codes "LD 2"
    ∷ codes "ADD( 3"
    ∷ codes "MUL ("
    ∷ codes "LD 4"
    ∷ codes ")"
    ∷ codes ""
    ∷ codes ")"
    ∷ codes "EQ 14"
    ∷ codes "& (FALSE"
    ∷ codes ")"
    ∷ [])

-- calls of instances and functions, and returns
abbrev pub calls_text : List ℕ
calls_text =
    lines (
    codes "CAL T1 (X := V[ 1 ],"
    ∷ codes "  Y"
    ∷ codes "  => G)"
    ∷ codes "LD G"
    ∷ codes "CALC T1"
    ∷ codes "CALCN T2 ( )"
    ∷ codes "LD 1"
    ∷ codes "F G"
    ∷ codes "LIMIT V[I], 9"
    ∷ codes "ABS"
    ∷ codes "RETC"
    ∷ codes "RETCN"
    ∷ codes "RET"
    ∷ [])

-- labels of the end
abbrev pub ending_text : List ℕ
ending_text =
    lines (
    codes "E:"
    ∷ codes "E2:"
    ∷ codes ""
    ∷ codes "END_PROGRAM"
    ∷ [])

-- a program without instructions
abbrev pub group_text : List ℕ
group_text =
    lines (
    codes "PROGRAM A"
    ∷ codes "VAR END_VAR"
    ∷ codes "END_PROGRAM"
    ∷ [])

-- the configuration, its sizes and its globals
abbrev pub sizes_text : List ℕ
sizes_text =
    lines (
    codes "CONFIGURATION K"
    ∷ codes "VAR_GLOBAL CONSTANT CARS : INT := 2; FLOORS : INT := 2; SLOTS : INT := 1_0; END_VAR"
    ∷ codes "VAR_GLOBAL G : BOOL; H : UINT;"
    ∷ codes "END_VAR RESOURCE M ON PLC"
    ∷ [])

-- the tasks of two cars and of their group
abbrev pub tasks_text : List ℕ
tasks_text =
    lines (
    codes "TASK CAR1 (INTERVAL := T#100ms, PRIORITY := 1);"
    ∷ codes "TASK CAR2 (INTERVAL := TIME#1s500ms, PRIORITY := 2);"
    ∷ codes "TASK GROUP (INTERVAL := T#1m, PRIORITY := 3);"
    ∷ codes "PROGRAM P1 WITH CAR1 : C;"
    ∷ codes "PROGRAM P2 WITH CAR2 : C;"
    ∷ codes "PROGRAM P3 WITH GROUP : A;"
    ∷ codes "END_RESOURCE"
    ∷ codes "END_CONFIGURATION"
    ∷ [])

-- all of it
abbrev pub whole_text : List ℕ
whole_text = function_text ++ (block_text ++ (heading_text ++ (labels_text ++ (operators_text ++ (parentheses_text ++ (calls_text ++ (ending_text ++ (group_text ++ (sizes_text ++ (tasks_text))))))))))

-- THE TREE

-- labels, loads, stores and jumps
abbrev pub labels_steps : List Step
labels_steps =
    step ((named 443 25 (codes "L")) ∷ (named 447 27 (codes "M")) ∷ []) 450 27 (instruction.Load false (operand 453 27 (reference.Literal (literal.Whole elementary.Int (pos 2)))))
    ∷ step [] 459 28 (instruction.Store store.Plain (operand 462 28 (reference.Element (codes "V") (index.Number (pos 1)))))
    ∷ step [] 467 29 (instruction.Load false (operand 470 29 (reference.Literal (literal.Bare (pos 9)))))
    ∷ step [] 472 30 (instruction.Store store.Plain (operand 475 30 (reference.Element (codes "V") (index.Variable (codes "I")))))
    ∷ step [] 482 31 (instruction.Load false (operand 485 31 (reference.Literal (literal.Time (pos 1000)))))
    ∷ step [] 491 32 (instruction.Store store.Plain (operand 494 32 (reference.Member (codes "T2") (codes "PT"))))
    ∷ step [] 500 33 (instruction.Jump Always (named 504 33 (codes "K")))
    ∷ step ((named 506 34 (codes "K")) ∷ []) 509 34 (instruction.Load false (operand 512 34 (reference.Member (codes "T1") (codes "Y"))))
    ∷ step [] 517 35 (instruction.Jump WhenTrue (named 522 35 (codes "E")))
    ∷ step [] 524 36 (instruction.Jump WhenFalse (named 530 36 (codes "E")))
    ∷ step [] 532 37 (instruction.Store store.Set (operand 534 37 (reference.Variable (codes "G"))))
    ∷ step [] 536 38 (instruction.Store store.Reset (operand 538 38 (reference.Variable (codes "G"))))
    ∷ []

-- operators
abbrev pub operators_steps : List Step
operators_steps =
    step [] 540 39 (instruction.Load false (operand 543 39 (reference.Literal (literal.Truth true))))
    ∷ step [] 548 40 (instruction.Operate (operator.Logic Conjunction false) (operand 552 40 (reference.Variable (codes "G"))))
    ∷ step [] 554 41 (instruction.Operate (operator.Logic Conjunction true) (operand 559 41 (reference.Variable (codes "G"))))
    ∷ step [] 561 42 (instruction.Operate (operator.Logic Conjunction true) (operand 564 42 (reference.Variable (codes "G"))))
    ∷ step [] 566 43 (instruction.Operate (operator.Logic Conjunction false) (operand 568 43 (reference.Variable (codes "G"))))
    ∷ step [] 570 44 (instruction.Operate (operator.Logic Disjunction false) (operand 573 44 (reference.Literal (literal.Truth false))))
    ∷ step [] 579 45 (instruction.Operate (operator.Logic Disjunction true) (operand 583 45 (reference.Variable (codes "G"))))
    ∷ step [] 585 46 (instruction.Operate (operator.Logic Exclusive false) (operand 589 46 (reference.Variable (codes "G"))))
    ∷ step [] 591 47 (instruction.Operate (operator.Logic Exclusive true) (operand 596 47 (reference.Variable (codes "G"))))
    ∷ step [] 598 48 instruction.Not
    ∷ step [] 602 49 (instruction.Load false (operand 605 49 (reference.Literal (literal.Bare (pos 2)))))
    ∷ step [] 607 50 (instruction.Operate (operator.Arithmetic Add) (operand 611 50 (reference.Literal (literal.Bare (pos 1)))))
    ∷ step [] 613 51 (instruction.Operate (operator.Arithmetic Sub) (operand 617 51 (reference.Literal (literal.Bare (pos 1)))))
    ∷ step [] 619 52 (instruction.Operate (operator.Arithmetic Mul) (operand 623 52 (reference.Variable (codes "I"))))
    ∷ step [] 625 53 (instruction.Operate (operator.Arithmetic Div) (operand 629 53 (reference.Literal (literal.Bare (pos 2)))))
    ∷ step [] 631 54 (instruction.Operate (operator.Arithmetic Mod) (operand 635 54 (reference.Literal (literal.Bare (pos 2)))))
    ∷ step [] 637 55 (instruction.Operate (operator.Comparison Greater) (operand 640 55 (reference.Literal (literal.Bare (pos 1)))))
    ∷ step [] 642 56 (instruction.Load false (operand 645 56 (reference.Literal (literal.Bare (pos 2)))))
    ∷ step [] 647 57 (instruction.Operate (operator.Comparison GreaterOrEqual) (operand 650 57 (reference.Literal (literal.Bare (pos 1)))))
    ∷ step [] 652 58 (instruction.Load false (operand 655 58 (reference.Literal (literal.Bare (pos 2)))))
    ∷ step [] 657 59 (instruction.Operate (operator.Comparison Equal) (operand 660 59 (reference.Literal (literal.Bare (pos 1)))))
    ∷ step [] 662 60 (instruction.Load false (operand 665 60 (reference.Literal (literal.Bare (pos 2)))))
    ∷ step [] 667 61 (instruction.Operate (operator.Comparison NotEqual) (operand 670 61 (reference.Literal (literal.Bare (pos 1)))))
    ∷ step [] 672 62 (instruction.Load false (operand 675 62 (reference.Literal (literal.Bare (pos 2)))))
    ∷ step [] 677 63 (instruction.Operate (operator.Comparison LessOrEqual) (operand 680 63 (reference.Literal (literal.Bare (pos 1)))))
    ∷ step [] 682 64 (instruction.Load false (operand 685 64 (reference.Literal (literal.Bare (pos 2)))))
    ∷ step [] 687 65 (instruction.Operate (operator.Comparison Less) (operand 690 65 (reference.Literal (literal.Bare (pos 1)))))
    ∷ []

-- parentheses in both forms
abbrev pub parentheses_steps : List Step
parentheses_steps =
    step [] 692 66 (instruction.Load false (operand 695 66 (reference.Literal (literal.Bare (pos 2)))))
    ∷ step [] 697 67 (instruction.Defer (operator.Arithmetic Add) (Some (operand 702 67 (reference.Literal (literal.Bare (pos 3))))))
    ∷ step [] 704 68 (instruction.Defer (operator.Arithmetic Mul) None)
    ∷ step [] 710 69 (instruction.Load false (operand 713 69 (reference.Literal (literal.Bare (pos 4)))))
    ∷ step [] 715 70 instruction.Evaluate
    ∷ step [] 718 72 instruction.Evaluate
    ∷ step [] 720 73 (instruction.Operate (operator.Comparison Equal) (operand 723 73 (reference.Literal (literal.Bare (pos 14)))))
    ∷ step [] 726 74 (instruction.Defer (operator.Logic Conjunction false) (Some (operand 729 74 (reference.Literal (literal.Truth false)))))
    ∷ step [] 735 75 instruction.Evaluate
    ∷ []

-- calls of instances and functions, and returns
abbrev pub calls_steps : List Step
calls_steps =
    step [] 737 76 (instruction.Call Always (named 741 76 (codes "T1")) ((argument.Input (named 745 76 (codes "X")) (operand 750 76 (reference.Element (codes "V") (index.Number (pos 1))))) ∷ (argument.Output (named 760 77 (codes "Y")) (named 767 78 (codes "G"))) ∷ []))
    ∷ step [] 770 79 (instruction.Load false (operand 773 79 (reference.Variable (codes "G"))))
    ∷ step [] 775 80 (instruction.Call WhenTrue (named 780 80 (codes "T1")) [])
    ∷ step [] 783 81 (instruction.Call WhenFalse (named 789 81 (codes "T2")) [])
    ∷ step [] 796 82 (instruction.Load false (operand 799 82 (reference.Literal (literal.Bare (pos 1)))))
    ∷ step [] 801 83 (instruction.Invoke (named 801 83 (codes "F")) ((operand 803 83 (reference.Variable (codes "G"))) ∷ []))
    ∷ step [] 805 84 (instruction.Invoke (named 805 84 (codes "LIMIT")) ((operand 811 84 (reference.Element (codes "V") (index.Variable (codes "I")))) ∷ (operand 817 84 (reference.Literal (literal.Bare (pos 9)))) ∷ []))
    ∷ step [] 819 85 (instruction.Invoke (named 819 85 (codes "ABS")) [])
    ∷ step [] 823 86 (instruction.Return WhenTrue)
    ∷ step [] 828 87 (instruction.Return WhenFalse)
    ∷ step [] 834 88 (instruction.Return Always)
    ∷ []

-- the function
abbrev pub function_tree : ProgramUnit
function_tree = record {
  place = place 1 2;
  kind = unit.Function (scalar elementary.Int (Some (range (pos 1) (pos 10)))) (place 14 2);
  name = named 10 2 (codes "F");
  inputs = ((declaration ((named 36 3 (codes "A")) ∷ []) (written 40 3 (form.Scalar (scalar elementary.Int (Some (range (pos 0) (pos 9)))))) None) ∷ (declaration ((named 52 3 (codes "N")) ∷ []) (written 56 3 (form.Scalar (scalar elementary.Bool None))) None) ∷ []);
  outputs = [];
  variables = ((declaration ((named 74 4 (codes "B")) ∷ (named 77 4 (codes "D")) ∷ []) (written 81 4 (form.Scalar (scalar elementary.Sint None))) (Some (initial 89 4 (literal.Bare (negsuc 4))))) ∷ (declaration ((named 93 4 (codes "U")) ∷ []) (written 97 4 (form.Scalar (scalar elementary.Udint None))) None) ∷ []);
  externals = [];
  body = record {
    steps = (step [] 112 5 (instruction.Load false (operand 115 5 (reference.Variable (codes "A")))) ∷ step [] 117 6 (instruction.Operate (operator.Arithmetic Add) (operand 121 6 (reference.Literal (literal.Bare (pos 1))))) ∷ step [] 126 7 (instruction.Store store.Plain (operand 129 7 (reference.Variable (codes "F")))) ∷ []);
    last_labels = [];
    end = place 131 8;
  };
}

-- the function block
abbrev pub block_tree : ProgramUnit
block_tree = record {
  place = place 150 9;
  kind = unit.FunctionBlock;
  name = named 165 9 (codes "Q");
  inputs = ((declaration ((named 177 10 (codes "X")) ∷ []) (written 181 10 (form.Scalar (scalar elementary.Bool None))) (Some (initial 189 10 (literal.Truth true)))) ∷ (declaration ((named 195 10 (codes "P")) ∷ []) (written 199 10 (form.Scalar (scalar elementary.Time None))) (Some (initial 207 10 (literal.Time (pos 1000))))) ∷ []);
  outputs = ((declaration ((named 232 11 (codes "Y")) ∷ []) (written 236 11 (form.Scalar (scalar elementary.Bool None))) None) ∷ (declaration ((named 242 11 (codes "Z")) ∷ []) (written 246 11 (form.Scalar (scalar elementary.Dint None))) None) ∷ []);
  variables = [];
  externals = [];
  body = record {
    steps = (step [] 260 12 (instruction.Load true (operand 264 12 (reference.Variable (codes "X")))) ∷ step [] 266 13 (instruction.Store store.Negated (operand 270 13 (reference.Variable (codes "Y")))) ∷ []);
    last_labels = [];
    end = place 272 14;
  };
}

-- the program
abbrev pub program_tree : ProgramUnit
program_tree = record {
  place = place 292 16;
  kind = unit.Program;
  name = named 300 16 (codes "C");
  inputs = [];
  outputs = [];
  variables = ((declaration ((named 308 18 (codes "V")) ∷ []) (written 312 18 (form.Array (range (pos 1) (pos 8)) (scalar elementary.Int (Some (range (pos 0) (pos 9)))))) None) ∷ (declaration ((named 342 19 (codes "I")) ∷ []) (written 346 19 (form.Scalar (scalar elementary.Usint (Some (range (pos 1) (pos 8)))))) (Some (initial 362 19 (literal.Whole elementary.Usint (pos 1))))) ∷ (declaration ((named 373 20 (codes "T1")) ∷ []) (written 378 20 (form.Block (codes "Q"))) None) ∷ (declaration ((named 381 20 (codes "T2")) ∷ []) (written 386 20 (form.Block (codes "TON"))) None) ∷ []);
  externals = ((declaration ((named 412 22 (codes "G")) ∷ []) (written 416 22 (form.Scalar (scalar elementary.Bool None))) None) ∷ (declaration ((named 424 23 (codes "H")) ∷ []) (written 428 23 (form.Scalar (scalar elementary.Uint None))) None) ∷ []);
  body = record {
    steps = labels_steps ++ (operators_steps ++ (parentheses_steps ++ (calls_steps)));
    last_labels = ((named 838 89 (codes "E")) ∷ (named 841 90 (codes "E2")) ∷ []);
    end = place 846 92;
  };
}

-- the program of the group
abbrev pub group_tree : ProgramUnit
group_tree = record {
  place = place 858 93;
  kind = unit.Program;
  name = named 866 93 (codes "A");
  inputs = [];
  outputs = [];
  variables = [];
  externals = [];
  body = record {
    steps = [];
    last_labels = [];
    end = place 880 95;
  };
}

-- all of it
abbrev pub whole_tree : Config
whole_tree = record {
  units = (function_tree ∷ block_tree ∷ program_tree ∷ group_tree ∷ []);
  cars = size 942 97 (pos 2);
  floors = size 961 97 (pos 2);
  slots = size 979 97 (pos 10);
  globals_place = (Some (place 992 98));
  globals = ((declaration ((named 1003 98 (codes "G")) ∷ []) (written 1007 98 (form.Scalar (scalar elementary.Bool None))) None) ∷ (declaration ((named 1013 98 (codes "H")) ∷ []) (written 1017 98 (form.Scalar (scalar elementary.Uint None))) None) ∷ []);
  tasks = (task 1049 100 (named 1054 100 (codes "CAR1")) (pos 100) (pos 1) ∷ task 1097 101 (named 1102 101 (codes "CAR2")) (pos 1500) (pos 2) ∷ task 1150 102 (named 1155 102 (codes "GROUP")) (pos 60000) (pos 3) ∷ []);
  programs = (program_line 1196 103 (named 1204 103 (codes "P1")) (named 1212 103 (codes "CAR1")) (named 1219 103 (codes "C")) ∷ program_line 1222 104 (named 1230 104 (codes "P2")) (named 1238 104 (codes "CAR2")) (named 1245 104 (codes "C")) ∷ program_line 1248 105 (named 1256 105 (codes "P3")) (named 1264 105 (codes "GROUP")) (named 1272 105 (codes "A")) ∷ []);
  end_resource = place 1275 106;
}
