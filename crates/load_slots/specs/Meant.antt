-- What the flat code and the slots of a program's task mean (own rules).
use Rattle.std.specs.Prelude.{◌≡◌, []}
use Rattle.il_syntax.specs.declared.tree.Unit.{Unit as ProgramUnit}
use Rattle.il_syntax.specs.declared.tree.Config.{Config}
use Rattle.il_semantics.specs.Scan.{opening_variables}
use Rattle.load_slots.specs.Layout.{AreOnce, view}
use Rattle.load_slots.specs.Flattened.{IsPlaced}
use Rattle.load_slots.specs.Coded.{IsCode}
use Rattle.load_slots.specs.Whole.{first_rows}
use Rattle.load_slots.specs.Program.{own_cells, program_cells, own_values, base_of, program_names, program_code}

-- The code means the tree, by the names of its units and the bases of the task's frames; names lead to their variables' slots;
-- no two slots have one path; and the first rows show the variables as they open.
pub record MeansTree (c : Config) (p : ProgramUnit) : Type 0 where
  pub code : IsCode (program_code c p)
  pub names : code.names ≡ program_names c
  pub bases : code.bases ≡ base_of c p
  pub is_placed : IsPlaced c (program_names c) (base_of c p) (program_cells c p) p [] (base_of c p p.name.name)
  pub once : AreOnce (program_cells c p)
  pub opening : view (own_cells c p) (first_rows (own_values c p)) ≡ opening_variables c p
