-- Small texts that are refused, as trees: which rule each breaks, and where. The lines of a text that matter come before its tree.
use Rattle.std.specs.Prelude.{List, [], ◌∷◌, ◌+◌, ℕ, pos, true, false, Some, None, codes}
use Rattle.il_syntax.specs.declared.tree.Elementary.TheVariants as elementary
use Rattle.il_syntax.specs.declared.tree.Literal.TheVariants as literal
use Rattle.il_syntax.specs.declared.tree.Form.TheVariants as form
use Rattle.il_syntax.specs.declared.tree.Reference.TheVariants as reference
use Rattle.il_syntax.specs.declared.tree.Operator.TheVariants as operator
use Rattle.il_syntax.specs.declared.tree.Arithmetic.TheVariants.{Add}
use Rattle.il_syntax.specs.declared.tree.Store.TheVariants as store
use Rattle.il_syntax.specs.declared.tree.Condition.TheVariants.{Always}
use Rattle.il_syntax.specs.declared.tree.Instruction.TheVariants as instruction
use Rattle.il_syntax.specs.declared.tree.UnitKind.TheVariants as unit
use Rattle.il_syntax.specs.declared.tree.Unit.{Unit as ProgramUnit}
use Rattle.il_syntax.specs.declared.tree.Config.{Config}
use Rattle.il_witnesses.specs.Trees.{place, named, range, scalar, written, declaration, operand, step, size, task, program_line}

-- the configuration after its units: one car, two floors, one slot, and task CAR1 that runs C
--     CONFIGURATION K
--     VAR_GLOBAL CONSTANT CARS : INT := 1; FLOORS : INT := 2; SLOTS : INT := 1; END_VAR
--     RESOURCE M ON PLC
--     TASK CAR1 (INTERVAL := T#100ms, PRIORITY := 1);
--     PROGRAM P1 WITH CAR1 : C;
--     END_RESOURCE
--     END_CONFIGURATION
abbrev pub one_car : ℕ → ℕ → List ProgramUnit → Config
one_car offset line units = record {
  units = units;
  cars = size (offset + 50) (line + 1) (pos 1);
  floors = size (offset + 69) (line + 1) (pos 2);
  slots = size (offset + 87) (line + 1) (pos 1);
  globals_place = None;
  globals = [];
  tasks = task (offset + 116) (line + 3) (named (offset + 121) (line + 3) (codes "CAR1")) (pos 100) (pos 1) ∷ [];
  programs = program_line (offset + 164) (line + 4) (named (offset + 172) (line + 4) (codes "P1")) (named (offset + 180) (line + 4) (codes "CAR1")) (named (offset + 187) (line + 4) (codes "C")) ∷ [];
  end_resource = place (offset + 190) (line + 5);
}

-- a unit with a predeclared name
--     FUNCTION ABS : INT
--     VAR_INPUT A : INT; END_VAR
--     END_FUNCTION
--     PROGRAM C
--     END_PROGRAM
abbrev pub predeclared_unit_a : ProgramUnit
predeclared_unit_a = record {
  place = place 0 1;
  kind = unit.Function (scalar elementary.Int None) (place 15 1);
  name = named 9 1 (codes "ABS");
  inputs =
      declaration ((named 29 2 (codes "A")) ∷ []) (written 33 2 (form.Scalar (scalar elementary.Int None))) None ∷ [];
  outputs = [];
  variables = [];
  externals = [];
  body = record {
    steps = [];
    last_labels = [];
    end = place 46 3;
  };
}

abbrev pub predeclared_unit_b : ProgramUnit
predeclared_unit_b = record {
  place = place 59 4;
  kind = unit.Program;
  name = named 67 4 (codes "C");
  inputs = [];
  outputs = [];
  variables = [];
  externals = [];
  body = record {
    steps = [];
    last_labels = [];
    end = place 69 5;
  };
}

abbrev pub predeclared_unit : Config
predeclared_unit = one_car 81 6 (predeclared_unit_a ∷ predeclared_unit_b ∷ [])

-- two units of one name
--     FUNCTION F : INT
--     VAR_INPUT A : INT; END_VAR
--     LD A
--     ST F
--     END_FUNCTION
--     FUNCTION F : INT
--     VAR_INPUT A : INT; END_VAR
--     LD A
--     ST F
--     END_FUNCTION
--     PROGRAM C
--     END_PROGRAM
abbrev pub function_f : ProgramUnit
function_f = record {
  place = place 0 1;
  kind = unit.Function (scalar elementary.Int None) (place 13 1);
  name = named 9 1 (codes "F");
  inputs =
      declaration ((named 27 2 (codes "A")) ∷ []) (written 31 2 (form.Scalar (scalar elementary.Int None))) None ∷ [];
  outputs = [];
  variables = [];
  externals = [];
  body = record {
    steps =
        step [] 44 3 (instruction.Load false (operand 47 3 (reference.Variable (codes "A"))))
        ∷ step [] 49 4 (instruction.Store store.Plain (operand 52 4 (reference.Variable (codes "F")))) ∷ [];
    last_labels = [];
    end = place 54 5;
  };
}

abbrev pub two_units_b : ProgramUnit
two_units_b = record {
  place = place 67 6;
  kind = unit.Function (scalar elementary.Int None) (place 80 6);
  name = named 76 6 (codes "F");
  inputs =
      declaration ((named 94 7 (codes "A")) ∷ []) (written 98 7 (form.Scalar (scalar elementary.Int None))) None ∷ [];
  outputs = [];
  variables = [];
  externals = [];
  body = record {
    steps =
        step [] 111 8 (instruction.Load false (operand 114 8 (reference.Variable (codes "A"))))
        ∷ step [] 116 9 (instruction.Store store.Plain (operand 119 9 (reference.Variable (codes "F")))) ∷ [];
    last_labels = [];
    end = place 121 10;
  };
}

abbrev pub two_units_c : ProgramUnit
two_units_c = record {
  place = place 134 11;
  kind = unit.Program;
  name = named 142 11 (codes "C");
  inputs = [];
  outputs = [];
  variables = [];
  externals = [];
  body = record {
    steps = [];
    last_labels = [];
    end = place 144 12;
  };
}

abbrev pub two_units : Config
two_units = one_car 156 13 (function_f ∷ two_units_b ∷ two_units_c ∷ [])

-- a variable with the name of a later unit
--     PROGRAM C
--     VAR F : INT; END_VAR
--     END_PROGRAM
--     FUNCTION F : INT
--     VAR_INPUT A : INT; END_VAR
--     END_FUNCTION
abbrev pub variable_as_unit_a : ProgramUnit
variable_as_unit_a = record {
  place = place 0 1;
  kind = unit.Program;
  name = named 8 1 (codes "C");
  inputs = [];
  outputs = [];
  variables =
      declaration ((named 14 2 (codes "F")) ∷ []) (written 18 2 (form.Scalar (scalar elementary.Int None))) None ∷ [];
  externals = [];
  body = record {
    steps = [];
    last_labels = [];
    end = place 31 3;
  };
}

abbrev pub variable_as_unit_b : ProgramUnit
variable_as_unit_b = record {
  place = place 43 4;
  kind = unit.Function (scalar elementary.Int None) (place 56 4);
  name = named 52 4 (codes "F");
  inputs =
      declaration ((named 70 5 (codes "A")) ∷ []) (written 74 5 (form.Scalar (scalar elementary.Int None))) None ∷ [];
  outputs = [];
  variables = [];
  externals = [];
  body = record {
    steps = [];
    last_labels = [];
    end = place 87 6;
  };
}

abbrev pub variable_as_unit : Config
variable_as_unit = one_car 100 7 (variable_as_unit_a ∷ variable_as_unit_b ∷ [])

-- a variable named like a standard block
--     PROGRAM C
--     VAR TON : BOOL; END_VAR
--     END_PROGRAM
abbrev pub predeclared_variable_unit : ProgramUnit
predeclared_variable_unit = record {
  place = place 0 1;
  kind = unit.Program;
  name = named 8 1 (codes "C");
  inputs = [];
  outputs = [];
  variables =
      declaration ((named 14 2 (codes "TON")) ∷ []) (written 20 2 (form.Scalar (scalar elementary.Bool None))) None ∷ [];
  externals = [];
  body = record {
    steps = [];
    last_labels = [];
    end = place 34 3;
  };
}

abbrev pub predeclared_variable : Config
predeclared_variable = one_car 46 4 (predeclared_variable_unit ∷ [])

-- a label twice
--     PROGRAM C
--     L: LD 1
--     L: LD 2
--     END_PROGRAM
abbrev pub label_twice_unit : ProgramUnit
label_twice_unit = record {
  place = place 0 1;
  kind = unit.Program;
  name = named 8 1 (codes "C");
  inputs = [];
  outputs = [];
  variables = [];
  externals = [];
  body = record {
    steps =
        step ((named 10 2 (codes "L")) ∷ []) 13 2 (instruction.Load false (operand 16 2 (reference.Literal (literal.Bare (pos 1)))))
        ∷ step ((named 18 3 (codes "L")) ∷ []) 21 3 (instruction.Load false (operand 24 3 (reference.Literal (literal.Bare (pos 2))))) ∷ [];
    last_labels = [];
    end = place 26 4;
  };
}

abbrev pub label_twice : Config
label_twice = one_car 38 5 (label_twice_unit ∷ [])

-- two globals of one name
--     PROGRAM C
--     END_PROGRAM
--     CONFIGURATION K
--     VAR_GLOBAL CONSTANT CARS : INT := 1; FLOORS : INT := 2; SLOTS : INT := 1; END_VAR
--     VAR_GLOBAL G : INT; g : BOOL; END_VAR
--     RESOURCE M ON PLC
--     TASK CAR1 (INTERVAL := T#100ms, PRIORITY := 1);
--     PROGRAM P1 WITH CAR1 : C;
--     END_RESOURCE
--     END_CONFIGURATION
abbrev pub program_c : ProgramUnit
program_c = record {
  place = place 0 1;
  kind = unit.Program;
  name = named 8 1 (codes "C");
  inputs = [];
  outputs = [];
  variables = [];
  externals = [];
  body = record {
    steps = [];
    last_labels = [];
    end = place 10 2;
  };
}

abbrev pub two_globals : Config
two_globals = record {
  units = program_c ∷ [];
  cars = size 72 4 (pos 1);
  floors = size 91 4 (pos 2);
  slots = size 109 4 (pos 1);
  globals_place = (Some (place 120 5));
  globals = (declaration ((named 131 5 (codes "G")) ∷ []) (written 135 5 (form.Scalar (scalar elementary.Int None))) None) ∷ (declaration ((named 140 5 (codes "G")) ∷ []) (written 144 5 (form.Scalar (scalar elementary.Bool None))) None) ∷ [];
  tasks = task 176 7 (named 181 7 (codes "CAR1")) (pos 100) (pos 1) ∷ [];
  programs = program_line 224 8 (named 232 8 (codes "P1")) (named 240 8 (codes "CAR1")) (named 247 8 (codes "C")) ∷ [];
  end_resource = place 250 9;
}

-- a global with a unit's name
--     PROGRAM C
--     END_PROGRAM
--     CONFIGURATION K
--     VAR_GLOBAL CONSTANT CARS : INT := 1; FLOORS : INT := 2; SLOTS : INT := 1; END_VAR
--     VAR_GLOBAL C : INT; END_VAR
--     RESOURCE M ON PLC
--     TASK CAR1 (INTERVAL := T#100ms, PRIORITY := 1);
--     PROGRAM P1 WITH CAR1 : C;
--     END_RESOURCE
--     END_CONFIGURATION
abbrev pub global_as_unit : Config
global_as_unit = record {
  units = program_c ∷ [];
  cars = size 72 4 (pos 1);
  floors = size 91 4 (pos 2);
  slots = size 109 4 (pos 1);
  globals_place = (Some (place 120 5));
  globals = (declaration ((named 131 5 (codes "C")) ∷ []) (written 135 5 (form.Scalar (scalar elementary.Int None))) None) ∷ [];
  tasks = task 166 7 (named 171 7 (codes "CAR1")) (pos 100) (pos 1) ∷ [];
  programs = program_line 214 8 (named 222 8 (codes "P1")) (named 230 8 (codes "CAR1")) (named 237 8 (codes "C")) ∷ [];
  end_resource = place 240 9;
}

-- a global with a predeclared name
--     PROGRAM C
--     END_PROGRAM
--     CONFIGURATION K
--     VAR_GLOBAL CONSTANT CARS : INT := 1; FLOORS : INT := 2; SLOTS : INT := 1; END_VAR
--     VAR_GLOBAL RUNLIMIT : INT; END_VAR
--     RESOURCE M ON PLC
--     TASK CAR1 (INTERVAL := T#100ms, PRIORITY := 1);
--     PROGRAM P1 WITH CAR1 : C;
--     END_RESOURCE
--     END_CONFIGURATION
abbrev pub predeclared_global : Config
predeclared_global = record {
  units = program_c ∷ [];
  cars = size 72 4 (pos 1);
  floors = size 91 4 (pos 2);
  slots = size 109 4 (pos 1);
  globals_place = (Some (place 120 5));
  globals = (declaration ((named 131 5 (codes "RUNLIMIT")) ∷ []) (written 142 5 (form.Scalar (scalar elementary.Int None))) None) ∷ [];
  tasks = task 173 7 (named 178 7 (codes "CAR1")) (pos 100) (pos 1) ∷ [];
  programs = program_line 221 8 (named 229 8 (codes "P1")) (named 237 8 (codes "CAR1")) (named 244 8 (codes "C")) ∷ [];
  end_resource = place 247 9;
}

-- a task twice
--     PROGRAM C
--     END_PROGRAM
--     CONFIGURATION K
--     VAR_GLOBAL CONSTANT CARS : INT := 1; FLOORS : INT := 2; SLOTS : INT := 1; END_VAR
--     RESOURCE M ON PLC
--     TASK CAR1 (INTERVAL := T#100ms, PRIORITY := 1);
--     TASK CAR1 (INTERVAL := T#100ms, PRIORITY := 1);
--     PROGRAM P1 WITH CAR1 : C;
--     END_RESOURCE
--     END_CONFIGURATION
abbrev pub task_twice : Config
task_twice = record {
  units = program_c ∷ [];
  cars = size 72 4 (pos 1);
  floors = size 91 4 (pos 2);
  slots = size 109 4 (pos 1);
  globals_place = None;
  globals = [];
  tasks = task 138 6 (named 143 6 (codes "CAR1")) (pos 100) (pos 1) ∷ task 186 7 (named 191 7 (codes "CAR1")) (pos 100) (pos 1) ∷ [];
  programs = program_line 234 8 (named 242 8 (codes "P1")) (named 250 8 (codes "CAR1")) (named 257 8 (codes "C")) ∷ [];
  end_resource = place 260 9;
}

-- two program lines of one name
--     PROGRAM C
--     END_PROGRAM
--     CONFIGURATION K
--     VAR_GLOBAL CONSTANT CARS : INT := 2; FLOORS : INT := 2; SLOTS : INT := 1; END_VAR
--     RESOURCE M ON PLC
--     TASK CAR1 (INTERVAL := T#100ms, PRIORITY := 1);
--     TASK CAR2 (INTERVAL := T#100ms, PRIORITY := 1);
--     PROGRAM P1 WITH CAR1 : C;
--     PROGRAM p1 WITH CAR2 : C;
--     END_RESOURCE
--     END_CONFIGURATION
abbrev pub line_twice : Config
line_twice = record {
  units = program_c ∷ [];
  cars = size 72 4 (pos 2);
  floors = size 91 4 (pos 2);
  slots = size 109 4 (pos 1);
  globals_place = None;
  globals = [];
  tasks = task 138 6 (named 143 6 (codes "CAR1")) (pos 100) (pos 1) ∷ task 186 7 (named 191 7 (codes "CAR2")) (pos 100) (pos 1) ∷ [];
  programs = program_line 234 8 (named 242 8 (codes "P1")) (named 250 8 (codes "CAR1")) (named 257 8 (codes "C")) ∷ program_line 260 9 (named 268 9 (codes "P1")) (named 276 9 (codes "CAR2")) (named 283 9 (codes "C")) ∷ [];
  end_resource = place 286 10;
}

-- an unknown type
--     FUNCTION F : INT
--     VAR_INPUT A : INT; END_VAR
--     LD A
--     ST F
--     END_FUNCTION
--     PROGRAM C
--     VAR X : NOPE; END_VAR
--     END_PROGRAM
abbrev pub unknown_type_b : ProgramUnit
unknown_type_b = record {
  place = place 67 6;
  kind = unit.Program;
  name = named 75 6 (codes "C");
  inputs = [];
  outputs = [];
  variables = declaration ((named 81 7 (codes "X")) ∷ []) (written 85 7 (form.Block (codes "NOPE"))) None ∷ [];
  externals = [];
  body = record {
    steps = [];
    last_labels = [];
    end = place 99 8;
  };
}

abbrev pub unknown_type : Config
unknown_type = one_car 111 9 (function_f ∷ unknown_type_b ∷ [])

-- an external of no global
--     PROGRAM C
--     VAR_EXTERNAL G : INT; END_VAR
--     END_PROGRAM
abbrev pub external_of_none_unit : ProgramUnit
external_of_none_unit = record {
  place = place 0 1;
  kind = unit.Program;
  name = named 8 1 (codes "C");
  inputs = [];
  outputs = [];
  variables = [];
  externals =
      declaration ((named 23 2 (codes "G")) ∷ []) (written 27 2 (form.Scalar (scalar elementary.Int None))) None ∷ [];
  body = record {
    steps = [];
    last_labels = [];
    end = place 40 3;
  };
}

abbrev pub external_of_none : Config
external_of_none = one_car 52 4 (external_of_none_unit ∷ [])

-- an unknown name
--     PROGRAM C
--     LD A
--     END_PROGRAM
abbrev pub unknown_name_unit : ProgramUnit
unknown_name_unit = record {
  place = place 0 1;
  kind = unit.Program;
  name = named 8 1 (codes "C");
  inputs = [];
  outputs = [];
  variables = [];
  externals = [];
  body = record {
    steps = step [] 10 2 (instruction.Load false (operand 13 2 (reference.Variable (codes "A")))) ∷ [];
    last_labels = [];
    end = place 15 3;
  };
}

abbrev pub unknown_name : Config
unknown_name = one_car 27 4 (unknown_name_unit ∷ [])

-- a subrange from above to below
--     PROGRAM C
--     VAR V : INT (5..4); END_VAR
--     END_PROGRAM
abbrev pub empty_subrange_unit : ProgramUnit
empty_subrange_unit = record {
  place = place 0 1;
  kind = unit.Program;
  name = named 8 1 (codes "C");
  inputs = [];
  outputs = [];
  variables =
      declaration ((named 14 2 (codes "V")) ∷ []) (written 18 2 (form.Scalar (scalar elementary.Int (Some (range (pos 5) (pos 4)))))) None ∷ [];
  externals = [];
  body = record {
    steps = [];
    last_labels = [];
    end = place 38 3;
  };
}

abbrev pub empty_subrange : Config
empty_subrange = one_car 50 4 (empty_subrange_unit ∷ [])

-- an array with a wrong element
--     FUNCTION F : INT
--     VAR_INPUT A : INT; END_VAR
--     LD A
--     ST F
--     END_FUNCTION
--     PROGRAM C
--     VAR X : ARRAY [1..2] OF SINT (0..200); END_VAR
--     END_PROGRAM
abbrev pub wrong_element_b : ProgramUnit
wrong_element_b = record {
  place = place 67 6;
  kind = unit.Program;
  name = named 75 6 (codes "C");
  inputs = [];
  outputs = [];
  variables =
      declaration ((named 81 7 (codes "X")) ∷ []) (written 85 7 (form.Array (range (pos 1) (pos 2)) (scalar elementary.Sint (Some (range (pos 0) (pos 200)))))) None ∷ [];
  externals = [];
  body = record {
    steps = [];
    last_labels = [];
    end = place 124 8;
  };
}

abbrev pub wrong_element : Config
wrong_element = one_car 136 9 (function_f ∷ wrong_element_b ∷ [])

-- CARS is 0
--     PROGRAM C
--     END_PROGRAM
--     CONFIGURATION K
--     VAR_GLOBAL CONSTANT CARS : INT := 0; FLOORS : INT := 2; SLOTS : INT := 1; END_VAR
--     RESOURCE M ON PLC
--     TASK CAR1 (INTERVAL := T#100ms, PRIORITY := 1);
--     PROGRAM P1 WITH CAR1 : C;
--     END_RESOURCE
--     END_CONFIGURATION
abbrev pub no_cars : Config
no_cars = record {
  units = program_c ∷ [];
  cars = size 72 4 (pos 0);
  floors = size 91 4 (pos 2);
  slots = size 109 4 (pos 1);
  globals_place = None;
  globals = [];
  tasks = task 138 6 (named 143 6 (codes "CAR1")) (pos 100) (pos 1) ∷ [];
  programs = program_line 186 7 (named 194 7 (codes "P1")) (named 202 7 (codes "CAR1")) (named 209 7 (codes "C")) ∷ [];
  end_resource = place 212 8;
}

-- a program with an unknown task
--     PROGRAM C
--     END_PROGRAM
--     CONFIGURATION K
--     VAR_GLOBAL CONSTANT CARS : INT := 1; FLOORS : INT := 2; SLOTS : INT := 1; END_VAR
--     RESOURCE M ON PLC
--     TASK CAR1 (INTERVAL := T#100ms, PRIORITY := 1);
--     PROGRAM P1 WITH CAR2 : C;
--     END_RESOURCE
--     END_CONFIGURATION
abbrev pub unknown_task : Config
unknown_task = record {
  units = program_c ∷ [];
  cars = size 72 4 (pos 1);
  floors = size 91 4 (pos 2);
  slots = size 109 4 (pos 1);
  globals_place = None;
  globals = [];
  tasks = task 138 6 (named 143 6 (codes "CAR1")) (pos 100) (pos 1) ∷ [];
  programs = program_line 186 7 (named 194 7 (codes "P1")) (named 202 7 (codes "CAR2")) (named 209 7 (codes "C")) ∷ [];
  end_resource = place 212 8;
}

-- two program lines for one task
--     PROGRAM C
--     END_PROGRAM
--     CONFIGURATION K
--     VAR_GLOBAL CONSTANT CARS : INT := 1; FLOORS : INT := 2; SLOTS : INT := 1; END_VAR
--     RESOURCE M ON PLC
--     TASK CAR1 (INTERVAL := T#100ms, PRIORITY := 1);
--     PROGRAM P1 WITH CAR1 : C;
--     PROGRAM P2 WITH CAR1 : C;
--     END_RESOURCE
--     END_CONFIGURATION
abbrev pub two_lines : Config
two_lines = record {
  units = program_c ∷ [];
  cars = size 72 4 (pos 1);
  floors = size 91 4 (pos 2);
  slots = size 109 4 (pos 1);
  globals_place = None;
  globals = [];
  tasks = task 138 6 (named 143 6 (codes "CAR1")) (pos 100) (pos 1) ∷ [];
  programs = program_line 186 7 (named 194 7 (codes "P1")) (named 202 7 (codes "CAR1")) (named 209 7 (codes "C")) ∷ program_line 212 8 (named 220 8 (codes "P2")) (named 228 8 (codes "CAR1")) (named 235 8 (codes "C")) ∷ [];
  end_resource = place 238 9;
}

-- an unknown program type
--     PROGRAM C
--     END_PROGRAM
--     CONFIGURATION K
--     VAR_GLOBAL CONSTANT CARS : INT := 2; FLOORS : INT := 2; SLOTS : INT := 1; END_VAR
--     RESOURCE M ON PLC
--     TASK CAR1 (INTERVAL := T#100ms, PRIORITY := 1);
--     TASK CAR2 (INTERVAL := T#100ms, PRIORITY := 1);
--     PROGRAM P1 WITH CAR1 : C;
--     PROGRAM P2 WITH CAR2 : D;
--     END_RESOURCE
--     END_CONFIGURATION
abbrev pub unknown_program : Config
unknown_program = record {
  units = program_c ∷ [];
  cars = size 72 4 (pos 2);
  floors = size 91 4 (pos 2);
  slots = size 109 4 (pos 1);
  globals_place = None;
  globals = [];
  tasks = task 138 6 (named 143 6 (codes "CAR1")) (pos 100) (pos 1) ∷ task 186 7 (named 191 7 (codes "CAR2")) (pos 100) (pos 1) ∷ [];
  programs = program_line 234 8 (named 242 8 (codes "P1")) (named 250 8 (codes "CAR1")) (named 257 8 (codes "C")) ∷ program_line 260 9 (named 268 9 (codes "P2")) (named 276 9 (codes "CAR2")) (named 283 9 (codes "D")) ∷ [];
  end_resource = place 286 10;
}

-- one program for a car and for the group
--     PROGRAM C
--     END_PROGRAM
--     CONFIGURATION K
--     VAR_GLOBAL CONSTANT CARS : INT := 1; FLOORS : INT := 2; SLOTS : INT := 1; END_VAR
--     RESOURCE M ON PLC
--     TASK CAR1 (INTERVAL := T#100ms, PRIORITY := 1);
--     TASK GROUP (INTERVAL := T#100ms, PRIORITY := 1);
--     PROGRAM P1 WITH CAR1 : C;
--     PROGRAM P2 WITH GROUP : C;
--     END_RESOURCE
--     END_CONFIGURATION
abbrev pub two_roles : Config
two_roles = record {
  units = program_c ∷ [];
  cars = size 72 4 (pos 1);
  floors = size 91 4 (pos 2);
  slots = size 109 4 (pos 1);
  globals_place = None;
  globals = [];
  tasks = task 138 6 (named 143 6 (codes "CAR1")) (pos 100) (pos 1) ∷ task 186 7 (named 191 7 (codes "GROUP")) (pos 100) (pos 1) ∷ [];
  programs = program_line 235 8 (named 243 8 (codes "P1")) (named 251 8 (codes "CAR1")) (named 258 8 (codes "C")) ∷ program_line 261 9 (named 269 9 (codes "P2")) (named 277 9 (codes "GROUP")) (named 285 9 (codes "C")) ∷ [];
  end_resource = place 288 10;
}

-- a missing car task
--     PROGRAM C
--     END_PROGRAM
--     CONFIGURATION K
--     VAR_GLOBAL CONSTANT CARS : INT := 2; FLOORS : INT := 2; SLOTS : INT := 1; END_VAR
--     RESOURCE M ON PLC
--     TASK CAR1 (INTERVAL := T#100ms, PRIORITY := 1);
--     PROGRAM P1 WITH CAR1 : C;
--     END_RESOURCE
--     END_CONFIGURATION
abbrev pub missing_car : Config
missing_car = record {
  units = program_c ∷ [];
  cars = size 72 4 (pos 2);
  floors = size 91 4 (pos 2);
  slots = size 109 4 (pos 1);
  globals_place = None;
  globals = [];
  tasks = task 138 6 (named 143 6 (codes "CAR1")) (pos 100) (pos 1) ∷ [];
  programs = program_line 186 7 (named 194 7 (codes "P1")) (named 202 7 (codes "CAR1")) (named 209 7 (codes "C")) ∷ [];
  end_resource = place 212 8;
}

-- a task GROUP without program line
--     PROGRAM C
--     END_PROGRAM
--     CONFIGURATION K
--     VAR_GLOBAL CONSTANT CARS : INT := 1; FLOORS : INT := 2; SLOTS : INT := 1; END_VAR
--     RESOURCE M ON PLC
--     TASK CAR1 (INTERVAL := T#100ms, PRIORITY := 1);
--     TASK GROUP (INTERVAL := T#1s, PRIORITY := 1);
--     PROGRAM P1 WITH CAR1 : C;
--     END_RESOURCE
--     END_CONFIGURATION
abbrev pub missing_line : Config
missing_line = record {
  units = program_c ∷ [];
  cars = size 72 4 (pos 1);
  floors = size 91 4 (pos 2);
  slots = size 109 4 (pos 1);
  globals_place = None;
  globals = [];
  tasks = task 138 6 (named 143 6 (codes "CAR1")) (pos 100) (pos 1) ∷ task 186 7 (named 191 7 (codes "GROUP")) (pos 1000) (pos 1) ∷ [];
  programs = program_line 232 8 (named 240 8 (codes "P1")) (named 248 8 (codes "CAR1")) (named 255 8 (codes "C")) ∷ [];
  end_resource = place 258 9;
}

-- a program that nothing uses
--     PROGRAM D
--     END_PROGRAM
--     PROGRAM C
--     END_PROGRAM
abbrev pub unused_program_a : ProgramUnit
unused_program_a = record {
  place = place 0 1;
  kind = unit.Program;
  name = named 8 1 (codes "D");
  inputs = [];
  outputs = [];
  variables = [];
  externals = [];
  body = record {
    steps = [];
    last_labels = [];
    end = place 10 2;
  };
}

abbrev pub unused_program_b : ProgramUnit
unused_program_b = record {
  place = place 22 3;
  kind = unit.Program;
  name = named 30 3 (codes "C");
  inputs = [];
  outputs = [];
  variables = [];
  externals = [];
  body = record {
    steps = [];
    last_labels = [];
    end = place 32 4;
  };
}

abbrev pub unused_program : Config
unused_program = one_car 44 5 (unused_program_a ∷ unused_program_b ∷ [])

-- a Boolean subrange
--     FUNCTION F : INT
--     VAR_INPUT A : INT; END_VAR
--     LD A
--     ST F
--     END_FUNCTION
--     PROGRAM C
--     VAR X : BOOL (0..1); END_VAR
--     END_PROGRAM
abbrev pub boolean_subrange_b : ProgramUnit
boolean_subrange_b = record {
  place = place 67 6;
  kind = unit.Program;
  name = named 75 6 (codes "C");
  inputs = [];
  outputs = [];
  variables =
      declaration ((named 81 7 (codes "X")) ∷ []) (written 85 7 (form.Scalar (scalar elementary.Bool (Some (range (pos 0) (pos 1)))))) None ∷ [];
  externals = [];
  body = record {
    steps = [];
    last_labels = [];
    end = place 106 8;
  };
}

abbrev pub boolean_subrange : Config
boolean_subrange = one_car 118 9 (function_f ∷ boolean_subrange_b ∷ [])

-- an external with another type
--     PROGRAM C
--     VAR_EXTERNAL G : DINT; END_VAR
--     END_PROGRAM
--     CONFIGURATION K
--     VAR_GLOBAL CONSTANT CARS : INT := 1; FLOORS : INT := 2; SLOTS : INT := 1; END_VAR
--     VAR_GLOBAL G : INT; END_VAR
--     RESOURCE M ON PLC
--     TASK CAR1 (INTERVAL := T#100ms, PRIORITY := 1);
--     PROGRAM P1 WITH CAR1 : C;
--     END_RESOURCE
--     END_CONFIGURATION
abbrev pub other_external_unit : ProgramUnit
other_external_unit = record {
  place = place 0 1;
  kind = unit.Program;
  name = named 8 1 (codes "C");
  inputs = [];
  outputs = [];
  variables = [];
  externals =
      declaration ((named 23 2 (codes "G")) ∷ []) (written 27 2 (form.Scalar (scalar elementary.Dint None))) None ∷ [];
  body = record {
    steps = [];
    last_labels = [];
    end = place 41 3;
  };
}

abbrev pub other_external : Config
other_external = record {
  units = other_external_unit ∷ [];
  cars = size 103 5 (pos 1);
  floors = size 122 5 (pos 2);
  slots = size 140 5 (pos 1);
  globals_place = (Some (place 151 6));
  globals = (declaration ((named 162 6 (codes "G")) ∷ []) (written 166 6 (form.Scalar (scalar elementary.Int None))) None) ∷ [];
  tasks = task 197 8 (named 202 8 (codes "CAR1")) (pos 100) (pos 1) ∷ [];
  programs = program_line 245 9 (named 253 9 (codes "P1")) (named 261 9 (codes "CAR1")) (named 268 9 (codes "C")) ∷ [];
  end_resource = place 271 10;
}

-- an array as an input
--     FUNCTION_BLOCK B
--     VAR_INPUT X : ARRAY [1..2] OF INT; END_VAR
--     END_FUNCTION_BLOCK
--     PROGRAM C
--     END_PROGRAM
abbrev pub array_input_a : ProgramUnit
array_input_a = record {
  place = place 0 1;
  kind = unit.FunctionBlock;
  name = named 15 1 (codes "B");
  inputs =
      declaration ((named 27 2 (codes "X")) ∷ []) (written 31 2 (form.Array (range (pos 1) (pos 2)) (scalar elementary.Int None))) None ∷ [];
  outputs = [];
  variables = [];
  externals = [];
  body = record {
    steps = [];
    last_labels = [];
    end = place 60 3;
  };
}

abbrev pub array_input_b : ProgramUnit
array_input_b = record {
  place = place 79 4;
  kind = unit.Program;
  name = named 87 4 (codes "C");
  inputs = [];
  outputs = [];
  variables = [];
  externals = [];
  body = record {
    steps = [];
    last_labels = [];
    end = place 89 5;
  };
}

abbrev pub array_input : Config
array_input = one_car 101 6 (array_input_a ∷ array_input_b ∷ [])

-- LDN of a number
--     PROGRAM C
--     LDN 1
--     END_PROGRAM
abbrev pub negated_number_unit : ProgramUnit
negated_number_unit = record {
  place = place 0 1;
  kind = unit.Program;
  name = named 8 1 (codes "C");
  inputs = [];
  outputs = [];
  variables = [];
  externals = [];
  body = record {
    steps = step [] 10 2 (instruction.Load true (operand 14 2 (reference.Literal (literal.Bare (pos 1))))) ∷ [];
    last_labels = [];
    end = place 16 3;
  };
}

abbrev pub negated_number : Config
negated_number = one_car 28 4 (negated_number_unit ∷ [])

-- ADD of a Boolean
--     PROGRAM C
--     LD 1
--     ADD TRUE
--     END_PROGRAM
abbrev pub added_boolean_unit : ProgramUnit
added_boolean_unit = record {
  place = place 0 1;
  kind = unit.Program;
  name = named 8 1 (codes "C");
  inputs = [];
  outputs = [];
  variables = [];
  externals = [];
  body = record {
    steps =
        step [] 10 2 (instruction.Load false (operand 13 2 (reference.Literal (literal.Bare (pos 1)))))
        ∷ step [] 15 3 (instruction.Operate (operator.Arithmetic Add) (operand 19 3 (reference.Literal (literal.Truth true)))) ∷ [];
    last_labels = [];
    end = place 24 4;
  };
}

abbrev pub added_boolean : Config
added_boolean = one_car 36 5 (added_boolean_unit ∷ [])

-- a literal too great for its type
--     PROGRAM C
--     LD 1
--     ADD 32768
--     END_PROGRAM
abbrev pub great_literal_unit : ProgramUnit
great_literal_unit = record {
  place = place 0 1;
  kind = unit.Program;
  name = named 8 1 (codes "C");
  inputs = [];
  outputs = [];
  variables = [];
  externals = [];
  body = record {
    steps =
        step [] 10 2 (instruction.Load false (operand 13 2 (reference.Literal (literal.Bare (pos 1)))))
        ∷ step [] 15 3 (instruction.Operate (operator.Arithmetic Add) (operand 19 3 (reference.Literal (literal.Bare (pos 32768))))) ∷ [];
    last_labels = [];
    end = place 25 4;
  };
}

abbrev pub great_literal : Config
great_literal = one_car 37 5 (great_literal_unit ∷ [])

-- LIMIT without result
--     PROGRAM C
--     LIMIT 1, 2
--     END_PROGRAM
abbrev pub no_result_unit : ProgramUnit
no_result_unit = record {
  place = place 0 1;
  kind = unit.Program;
  name = named 8 1 (codes "C");
  inputs = [];
  outputs = [];
  variables = [];
  externals = [];
  body = record {
    steps =
        step [] 10 2 (instruction.Invoke (named 10 2 (codes "LIMIT")) ((operand 16 2 (reference.Literal (literal.Bare (pos 1)))) ∷ (operand 19 2 (reference.Literal (literal.Bare (pos 2)))) ∷ [])) ∷ [];
    last_labels = [];
    end = place 21 3;
  };
}

abbrev pub no_result : Config
no_result = one_car 33 4 (no_result_unit ∷ [])

-- a function writes its input
--     FUNCTION F : INT
--     VAR_INPUT A : INT; END_VAR
--     LD 1
--     ST A
--     END_FUNCTION
--     PROGRAM C
--     END_PROGRAM
abbrev pub written_input_a : ProgramUnit
written_input_a = record {
  place = place 0 1;
  kind = unit.Function (scalar elementary.Int None) (place 13 1);
  name = named 9 1 (codes "F");
  inputs =
      declaration ((named 27 2 (codes "A")) ∷ []) (written 31 2 (form.Scalar (scalar elementary.Int None))) None ∷ [];
  outputs = [];
  variables = [];
  externals = [];
  body = record {
    steps =
        step [] 44 3 (instruction.Load false (operand 47 3 (reference.Literal (literal.Bare (pos 1)))))
        ∷ step [] 49 4 (instruction.Store store.Plain (operand 52 4 (reference.Variable (codes "A")))) ∷ [];
    last_labels = [];
    end = place 54 5;
  };
}

abbrev pub written_input_b : ProgramUnit
written_input_b = record {
  place = place 67 6;
  kind = unit.Program;
  name = named 75 6 (codes "C");
  inputs = [];
  outputs = [];
  variables = [];
  externals = [];
  body = record {
    steps = [];
    last_labels = [];
    end = place 77 7;
  };
}

abbrev pub written_input : Config
written_input = one_car 89 8 (written_input_a ∷ written_input_b ∷ [])

-- an unknown label
--     FUNCTION F2 : BOOL
--     VAR_INPUT P : SINT; Q : BOOL; END_VAR
--     LD Q
--     ST F2
--     END_FUNCTION
--     FUNCTION_BLOCK FB
--     VAR_INPUT X : INT (0..9); E : BOOL; END_VAR
--     VAR_OUTPUT Y : INT (0..9); END_VAR
--     LD X
--     ST Y
--     END_FUNCTION_BLOCK
--     PROGRAM C
--     VAR B : BOOL; V, W : INT; S1 : SINT; D : DINT; U : UINT; T : TIME; A : ARRAY [0..3] OF INT; T1 : TON; Q1 : CTU; N : FB; END_VAR
--     JMP L
--     END_PROGRAM
abbrev pub function_f2 : ProgramUnit
function_f2 = record {
  place = place 0 1;
  kind = unit.Function (scalar elementary.Bool None) (place 14 1);
  name = named 9 1 (codes "F2");
  inputs =
      declaration ((named 29 2 (codes "P")) ∷ []) (written 33 2 (form.Scalar (scalar elementary.Sint None))) None
      ∷ declaration ((named 39 2 (codes "Q")) ∷ []) (written 43 2 (form.Scalar (scalar elementary.Bool None))) None ∷ [];
  outputs = [];
  variables = [];
  externals = [];
  body = record {
    steps =
        step [] 57 3 (instruction.Load false (operand 60 3 (reference.Variable (codes "Q"))))
        ∷ step [] 62 4 (instruction.Store store.Plain (operand 65 4 (reference.Variable (codes "F2")))) ∷ [];
    last_labels = [];
    end = place 68 5;
  };
}

abbrev pub block_fb : ProgramUnit
block_fb = record {
  place = place 81 6;
  kind = unit.FunctionBlock;
  name = named 96 6 (codes "FB");
  inputs =
      declaration ((named 109 7 (codes "X")) ∷ []) (written 113 7 (form.Scalar (scalar elementary.Int (Some (range (pos 0) (pos 9)))))) None
      ∷ declaration ((named 125 7 (codes "E")) ∷ []) (written 129 7 (form.Scalar (scalar elementary.Bool None))) None ∷ [];
  outputs =
      declaration ((named 154 8 (codes "Y")) ∷ []) (written 158 8 (form.Scalar (scalar elementary.Int (Some (range (pos 0) (pos 9)))))) None ∷ [];
  variables = [];
  externals = [];
  body = record {
    steps =
        step [] 178 9 (instruction.Load false (operand 181 9 (reference.Variable (codes "X"))))
        ∷ step [] 183 10 (instruction.Store store.Plain (operand 186 10 (reference.Variable (codes "Y")))) ∷ [];
    last_labels = [];
    end = place 188 11;
  };
}

abbrev pub unknown_label_c : ProgramUnit
unknown_label_c = record {
  place = place 207 12;
  kind = unit.Program;
  name = named 215 12 (codes "C");
  inputs = [];
  outputs = [];
  variables =
      declaration ((named 221 13 (codes "B")) ∷ []) (written 225 13 (form.Scalar (scalar elementary.Bool None))) None
      ∷ declaration ((named 231 13 (codes "V")) ∷ (named 234 13 (codes "W")) ∷ []) (written 238 13 (form.Scalar (scalar elementary.Int None))) None
      ∷ declaration ((named 243 13 (codes "S1")) ∷ []) (written 248 13 (form.Scalar (scalar elementary.Sint None))) None
      ∷ declaration ((named 254 13 (codes "D")) ∷ []) (written 258 13 (form.Scalar (scalar elementary.Dint None))) None
      ∷ declaration ((named 264 13 (codes "U")) ∷ []) (written 268 13 (form.Scalar (scalar elementary.Uint None))) None
      ∷ declaration ((named 274 13 (codes "T")) ∷ []) (written 278 13 (form.Scalar (scalar elementary.Time None))) None
      ∷ declaration ((named 284 13 (codes "A")) ∷ []) (written 288 13 (form.Array (range (pos 0) (pos 3)) (scalar elementary.Int None))) None
      ∷ declaration ((named 309 13 (codes "T1")) ∷ []) (written 314 13 (form.Block (codes "TON"))) None
      ∷ declaration ((named 319 13 (codes "Q1")) ∷ []) (written 324 13 (form.Block (codes "CTU"))) None
      ∷ declaration ((named 329 13 (codes "N")) ∷ []) (written 333 13 (form.Block (codes "FB"))) None ∷ [];
  externals = [];
  body = record {
    steps = step [] 345 14 (instruction.Jump Always (named 349 14 (codes "L"))) ∷ [];
    last_labels = [];
    end = place 351 15;
  };
}

abbrev pub unknown_label : Config
unknown_label = one_car 363 16 (function_f2 ∷ block_fb ∷ unknown_label_c ∷ [])

-- a function that calls itself
--     FUNCTION G : INT
--     VAR_INPUT A : INT; END_VAR
--     LD A
--     G
--     ST G
--     END_FUNCTION
--     PROGRAM C
--     END_PROGRAM
abbrev pub calls_itself_a : ProgramUnit
calls_itself_a = record {
  place = place 0 1;
  kind = unit.Function (scalar elementary.Int None) (place 13 1);
  name = named 9 1 (codes "G");
  inputs =
      declaration ((named 27 2 (codes "A")) ∷ []) (written 31 2 (form.Scalar (scalar elementary.Int None))) None ∷ [];
  outputs = [];
  variables = [];
  externals = [];
  body = record {
    steps =
        step [] 44 3 (instruction.Load false (operand 47 3 (reference.Variable (codes "A"))))
        ∷ step [] 49 4 (instruction.Invoke (named 49 4 (codes "G")) [])
        ∷ step [] 51 5 (instruction.Store store.Plain (operand 54 5 (reference.Variable (codes "G")))) ∷ [];
    last_labels = [];
    end = place 56 6;
  };
}

abbrev pub calls_itself_b : ProgramUnit
calls_itself_b = record {
  place = place 69 7;
  kind = unit.Program;
  name = named 77 7 (codes "C");
  inputs = [];
  outputs = [];
  variables = [];
  externals = [];
  body = record {
    steps = [];
    last_labels = [];
    end = place 79 8;
  };
}

abbrev pub calls_itself : Config
calls_itself = one_car 91 9 (calls_itself_a ∷ calls_itself_b ∷ [])

-- LIMIT with one argument
--     PROGRAM C
--     LD 1
--     LIMIT 2
--     END_PROGRAM
abbrev pub one_argument_unit : ProgramUnit
one_argument_unit = record {
  place = place 0 1;
  kind = unit.Program;
  name = named 8 1 (codes "C");
  inputs = [];
  outputs = [];
  variables = [];
  externals = [];
  body = record {
    steps =
        step [] 10 2 (instruction.Load false (operand 13 2 (reference.Literal (literal.Bare (pos 1)))))
        ∷ step [] 15 3 (instruction.Invoke (named 15 3 (codes "LIMIT")) ((operand 21 3 (reference.Literal (literal.Bare (pos 2)))) ∷ [])) ∷ [];
    last_labels = [];
    end = place 23 4;
  };
}

abbrev pub one_argument : Config
one_argument = one_car 35 5 (one_argument_unit ∷ [])

-- one program of two cars stores into a global
--     PROGRAM C
--     VAR_EXTERNAL G : INT; END_VAR
--     LD 1
--     ST G
--     END_PROGRAM
--     CONFIGURATION K
--     VAR_GLOBAL CONSTANT CARS : INT := 2; FLOORS : INT := 2; SLOTS : INT := 1; END_VAR
--     VAR_GLOBAL G : INT; END_VAR
--     RESOURCE M ON PLC
--     TASK CAR1 (INTERVAL := T#100ms, PRIORITY := 1);
--     TASK CAR2 (INTERVAL := T#100ms, PRIORITY := 1);
--     PROGRAM P1 WITH CAR1 : C;
--     PROGRAM P2 WITH CAR2 : C;
--     END_RESOURCE
--     END_CONFIGURATION
abbrev pub two_writers_unit : ProgramUnit
two_writers_unit = record {
  place = place 0 1;
  kind = unit.Program;
  name = named 8 1 (codes "C");
  inputs = [];
  outputs = [];
  variables = [];
  externals =
      declaration ((named 23 2 (codes "G")) ∷ []) (written 27 2 (form.Scalar (scalar elementary.Int None))) None ∷ [];
  body = record {
    steps =
        step [] 40 3 (instruction.Load false (operand 43 3 (reference.Literal (literal.Bare (pos 1)))))
        ∷ step [] 45 4 (instruction.Store store.Plain (operand 48 4 (reference.Variable (codes "G")))) ∷ [];
    last_labels = [];
    end = place 50 5;
  };
}

abbrev pub two_writers : Config
two_writers = record {
  units = two_writers_unit ∷ [];
  cars = size 112 7 (pos 2);
  floors = size 131 7 (pos 2);
  slots = size 149 7 (pos 1);
  globals_place = (Some (place 160 8));
  globals = (declaration ((named 171 8 (codes "G")) ∷ []) (written 175 8 (form.Scalar (scalar elementary.Int None))) None) ∷ [];
  tasks = task 206 10 (named 211 10 (codes "CAR1")) (pos 100) (pos 1) ∷ task 254 11 (named 259 11 (codes "CAR2")) (pos 100) (pos 1) ∷ [];
  programs = program_line 302 12 (named 310 12 (codes "P1")) (named 318 12 (codes "CAR1")) (named 325 12 (codes "C")) ∷ program_line 328 13 (named 336 13 (codes "P2")) (named 344 13 (codes "CAR2")) (named 351 13 (codes "C")) ∷ [];
  end_resource = place 354 14;
}

-- a label that no jump uses, after a return
--     FUNCTION F2 : BOOL
--     VAR_INPUT P : SINT; Q : BOOL; END_VAR
--     LD Q
--     ST F2
--     END_FUNCTION
--     FUNCTION_BLOCK FB
--     VAR_INPUT X : INT (0..9); E : BOOL; END_VAR
--     VAR_OUTPUT Y : INT (0..9); END_VAR
--     LD X
--     ST Y
--     END_FUNCTION_BLOCK
--     PROGRAM C
--     VAR B : BOOL; V, W : INT; S1 : SINT; D : DINT; U : UINT; T : TIME; A : ARRAY [0..3] OF INT; T1 : TON; Q1 : CTU; N : FB; END_VAR
--     RET
--     L: LD 1
--     END_PROGRAM
abbrev pub behind_return_c : ProgramUnit
behind_return_c = record {
  place = place 207 12;
  kind = unit.Program;
  name = named 215 12 (codes "C");
  inputs = [];
  outputs = [];
  variables =
      declaration ((named 221 13 (codes "B")) ∷ []) (written 225 13 (form.Scalar (scalar elementary.Bool None))) None
      ∷ declaration ((named 231 13 (codes "V")) ∷ (named 234 13 (codes "W")) ∷ []) (written 238 13 (form.Scalar (scalar elementary.Int None))) None
      ∷ declaration ((named 243 13 (codes "S1")) ∷ []) (written 248 13 (form.Scalar (scalar elementary.Sint None))) None
      ∷ declaration ((named 254 13 (codes "D")) ∷ []) (written 258 13 (form.Scalar (scalar elementary.Dint None))) None
      ∷ declaration ((named 264 13 (codes "U")) ∷ []) (written 268 13 (form.Scalar (scalar elementary.Uint None))) None
      ∷ declaration ((named 274 13 (codes "T")) ∷ []) (written 278 13 (form.Scalar (scalar elementary.Time None))) None
      ∷ declaration ((named 284 13 (codes "A")) ∷ []) (written 288 13 (form.Array (range (pos 0) (pos 3)) (scalar elementary.Int None))) None
      ∷ declaration ((named 309 13 (codes "T1")) ∷ []) (written 314 13 (form.Block (codes "TON"))) None
      ∷ declaration ((named 319 13 (codes "Q1")) ∷ []) (written 324 13 (form.Block (codes "CTU"))) None
      ∷ declaration ((named 329 13 (codes "N")) ∷ []) (written 333 13 (form.Block (codes "FB"))) None ∷ [];
  externals = [];
  body = record {
    steps =
        step [] 345 14 (instruction.Return Always)
        ∷ step ((named 349 15 (codes "L")) ∷ []) 352 15 (instruction.Load false (operand 355 15 (reference.Literal (literal.Bare (pos 1))))) ∷ [];
    last_labels = [];
    end = place 357 16;
  };
}

abbrev pub behind_return : Config
behind_return = one_car 369 17 (function_f2 ∷ block_fb ∷ behind_return_c ∷ [])
