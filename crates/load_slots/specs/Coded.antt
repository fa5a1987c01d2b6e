-- The code of a configuration for a task, and that it means its tree (own rules).
use Rattle.std.specs.Prelude.{◌≡◌, ℕ, ◌<◌, ◌≤◌, List, slice_get, Some, codes}
use Rattle.il_syntax.specs.ElementaryTypes.{plain}
use Rattle.il_syntax.specs.declared.tree.Elementary.TheVariants.{Time}
use Rattle.il_syntax.specs.declared.tree.Form.TheVariants.{Block as BlockForm}
use Rattle.il_syntax.specs.declared.tree.Named.{Named}
use Rattle.il_syntax.specs.declared.tree.Operand.{Operand}
use Rattle.il_syntax.specs.declared.tree.Instruction.TheVariants.{Invoke}
use Rattle.il_syntax.specs.declared.tree.Unit.{Unit as ProgramUnit}
use Rattle.il_syntax.specs.declared.tree.Config.{Config}
use Rattle.il_statics.specs.Names.{unit_named, function_named, function_block_named, form_named}
use Rattle.base_maps.specs.NameMap.{Text}
use Rattle.il_semantics.specs.Step.{instruction_at}
use Rattle.load_slots.specs.declared.flat.Cell.{Cell}
use Rattle.load_slots.specs.declared.flat.UnitCode.{UnitCode}
use Rattle.load_slots.specs.Layout.{cell, AreOnce}
use Rattle.load_slots.specs.Flattened.{Names, flat_code, function_by}

-- The tree, the flat code of its units, and of a task: what each slot keeps, the base of the frame of each unit, and the slot of NOW.
pub record Code : Type 0 where
  pub config : Config
  pub units : List UnitCode
  pub cells : List Cell
  pub bases : List ℕ
  pub now : ℕ

-- a unit's code is the flat code of its body, and what its calls need
pub record IsUnit (c : Config) (names : Text → Names) (code : UnitCode) (u : ProgramUnit) : Type 0 where
  pub named : code.name ≡ u.name.name
  pub found : unit_named c code.name ≡ Some u
  pub means : code.code ≡ flat_code (names u.name.name) c u u.body.steps
  pub function : code.function ≡ function_by (names u.name.name) c u u.kind

-- the code of a unit is at its number, and so does the base of its frame
pub record IsNumbered (p : Code) (bases : Text → ℕ) (number : ℕ) (name : Text) : Type 0 where
  pub code : UnitCode
  pub stands : slice_get p.units number ≡ Some code
  pub named : code.name ≡ name
  pub base : slice_get p.bases number ≡ Some (bases name)

-- The code means the tree, by names that lead to slots: no slot is that of two paths.
pub record IsCode (p : Code) : Type 0 where
  pub names : Text → Names
  pub bases : Text → ℕ
  pub once : AreOnce p.cells
  pub now : slice_get p.cells p.now ≡ Some (cell (codes "NOW") (plain Time))
  pub units : (i : ℕ) (code : UnitCode) → slice_get p.units i ≡ Some code → (u : ProgramUnit) × IsUnit p.config names code u
  pub numbered : (unit name : Text) (v : ProgramUnit) → unit_named p.config name ≡ Some v → IsNumbered p bases ((names unit).unit name) name
  -- how long the chains of uses from a unit are at most, itself counted
  pub height : Text → ℕ
  pub counted : (name : Text) → 0 < height name
  pub falls : (u v : ProgramUnit) (instance block : Text) → unit_named p.config u.name.name ≡ Some u → form_named p.config u instance ≡ Some (BlockForm block) → function_block_named p.config block ≡ Some v
      → height v.name.name < height u.name.name
  pub falls_to : (u v : ProgramUnit) (place : ℕ) (function : Named) (operands : List Operand) → unit_named p.config u.name.name ≡ Some u → instruction_at u.body place ≡ Invoke function operands
      → function_named p.config function.name ≡ Some v → height v.name.name < height u.name.name
  pub most : (u : ProgramUnit) → unit_named p.config u.name.name ≡ Some u → height u.name.name ≤ 16
