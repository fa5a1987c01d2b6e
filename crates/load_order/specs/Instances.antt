-- Which units a unit uses where declarations without a name count, or don't. A text spells none.
use Rattle.std.specs.Prelude.{◌≡◌, Bool, false, true, ◌||◌, List, [], ◌∷◌, length, Some, Contains}
use Rattle.il_syntax.specs.declared.tree.Config.{Config}
use Rattle.il_syntax.specs.declared.tree.Unit.{Unit as ProgramUnit}
use Rattle.il_syntax.specs.declared.tree.Step.{Step}
use Rattle.il_syntax.specs.declared.tree.Declaration.{Declaration}
use Rattle.il_syntax.specs.declared.tree.Named.{Named}
use Rattle.il_syntax.specs.declared.tree.Operand.{Operand}
use Rattle.il_syntax.specs.declared.tree.Form.TheVariants.{Block as OfBlock}
use Rattle.il_syntax.specs.declared.tree.Instruction.TheVariants.{Invoke}
use Rattle.il_statics.specs.Names.{Spelling, function_named, function_block_named}
use Rattle.load_order.specs.Used.{has_name, uses}
use Rattle.load_order.specs.Related.{closed}

-- a unit calls a function, or declares instances of a block (2.5.1, 2.5.2)
pub data UsesBy (config : Config) (nameless : Bool) (user used : ProgramUnit) : Type 0 where
  calls : (step : Step) (function : Named) (operands : List Operand) → Contains user.body.steps step → step.instruction ≡ Invoke function operands → function_named config function.name ≡ Some used → UsesBy config nameless user used
  declares : (d : Declaration) (name : Spelling) → Contains user.variables d → (nameless || has_name d.names) ≡ true → d.declared.form ≡ OfBlock name → function_block_named config name ≡ Some used → UsesBy config nameless user used

-- a unit leads to another through units between them, one after another
abbrev pub LeadsThrough : (ProgramUnit → ProgramUnit → Type 0) → ProgramUnit → List ProgramUnit → ProgramUnit → Type 0
LeadsThrough leads unit [] other = leads unit other
LeadsThrough leads unit (next ∷ between) other = leads unit next × LeadsThrough leads next between other

-- a unit needs another: it uses it, directly or through others, by calls and by instances that have a name (2.5)
abbrev pub Needs : Config → ProgramUnit → ProgramUnit → Type 0
Needs config unit other = (between : List ProgramUnit) × LeadsThrough (UsesBy config false) unit between other

-- the relation of the units that need which
abbrev pub needed : Config → List (List Bool)
needed config = closed (length config.units) (uses config false) (length config.units)
