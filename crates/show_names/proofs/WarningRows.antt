-- Worked rows: what is said of names, of tasks' names and of a line.
use Rattle.std.proofs.Common.{◌≡◌, true, false, refl}
use Rattle.std.specs.Prelude.{Some, None, codes}
use Rattle.show_names.specs.Warnings.{variable_never, never_of, is_car_task}
use Rattle.load_scope.specs.Cars.{car_of}
use Rattle.show_names.specs.declared.never.Never.TheVariants.{Read, Written, Used}
use Rattle.show_names.specs.declared.never.Origin.TheVariants.{Input, Output, Variable, External}

-- an input that the body does not read
row_input : never_of Input false false false ≡ Some Read
row_input = refl

-- an output that the body writes and does not read: nothing is said
row_output : never_of Output false false true ≡ None
row_output = refl

-- an output that the body only reads, and one that it does not use
row_read_output : never_of Output false true false ≡ Some Written
row_read_output = refl

row_unused_output : never_of Output false false false ≡ Some Used
row_unused_output = refl

-- a variable that the body only writes, only reads, or does not use
row_written_variable : never_of Variable false false true ≡ Some Read
row_written_variable = refl

row_read_variable : never_of Variable false true false ≡ Some Written
row_read_variable = refl

row_unused_variable : never_of Variable false false false ≡ Some Used
row_unused_variable = refl

-- a variable with an initial value that the body only reads, only writes, or does not use
row_constant : never_of Variable true true false ≡ None
row_constant = refl

row_written_initial : never_of Variable true false true ≡ Some Read
row_written_initial = refl

row_unused_initial : never_of Variable true false false ≡ Some Used
row_unused_initial = refl

-- an output with an initial value that the body only reads
row_read_initial_output : never_of Output true true false ≡ Some Written
row_read_initial_output = refl

-- a global with an initial value that units only read
row_constant_global : variable_never true true false ≡ None
row_constant_global = refl

-- an external that the body writes and does not read: nothing is said
row_external : never_of External false false true ≡ None
row_external = refl

-- the tasks of cars
row_last_car : is_car_task (codes "CAR8") ≡ true
unfolding is_car_task car_of
row_last_car = refl

row_no_car : is_car_task (codes "CAR9") ≡ false
unfolding is_car_task car_of
row_no_car = refl

row_group : is_car_task (codes "GROUP") ≡ false
unfolding is_car_task car_of
row_group = refl
