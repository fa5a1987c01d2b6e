-- How control paths go on after each instruction, by the numbers of units and by places (own rules).
use Rattle.std.specs.Prelude.{ℕ, Option, Some, None, option_map}
use Rattle.il_syntax.specs.declared.tree.Config.{Config}
use Rattle.il_syntax.specs.declared.tree.Unit.{Unit as ProgramUnit}
use Rattle.il_syntax.specs.declared.tree.Instruction.{Instruction}
use Rattle.il_syntax.specs.declared.tree.Instruction.TheVariants.{Load, Store, Not, Operate, Defer, Evaluate, Jump, Return, Call, Invoke}
use Rattle.il_statics.specs.Names.{meaning}
use Rattle.il_statics.specs.Types.{label_place}
use Rattle.load_scope.specs.declared.entry.Binding.{Binding}
use Rattle.load_scope.specs.declared.entry.Binding.TheVariants.{Variable as MeansVariable, Unit as MeansUnit, Standard as MeansStandard}
use Rattle.load_scope.specs.declared.entry.VariableType.{VariableType}
use Rattle.load_scope.specs.declared.entry.VariableType.TheVariants.{Scalar, Array, Instance}
use Rattle.load_scope.specs.declared.entry.BlockType.TheVariants.{Standard, Own}
use Rattle.load_scope.specs.Views.{function_number, binding_of}
use Rattle.load_budgets.specs.declared.ways.Way.{Way}
use Rattle.load_budgets.specs.declared.ways.Way.TheVariants as way

-- the own block of a variable's type
abbrev pub own_of : VariableType → Option ℕ
own_of (Instance (Some (Own number))) = Some number
own_of (Instance (Some (Standard block))) = None
own_of (Instance None) = None
own_of (Scalar s) = None
own_of (Array bounds element) = None

-- the own block of what a name means
abbrev pub callee_of : Option Binding → Option ℕ
callee_of (Some (MeansVariable v)) = own_of v.declared
callee_of (Some MeansUnit) = None
callee_of (Some MeansStandard) = None
callee_of None = None

-- the way of an instruction of a unit
abbrev pub way_of : Config → ProgramUnit → Instruction → Way
way_of c u (Jump condition label) = way.Jump condition (label_place u.body label.name)
way_of c u (Return condition) = way.Return condition
way_of c u (Call condition instance arguments) = way.Next (callee_of (option_map (binding_of c) (meaning c u instance.name)))
way_of c u (Invoke function operands) = way.Next (function_number c function.name)
way_of c u (Load negated operand) = way.Next None
way_of c u (Store store target) = way.Next None
way_of c u Not = way.Next None
way_of c u (Operate operator operand) = way.Next None
way_of c u (Defer operator first) = way.Next None
way_of c u Evaluate = way.Next None
