-- A unit of a configuration, and the types of its inputs.
use Rattle.std.specs.Prelude.{◌≡◌, Bool, true, false, List, Option, Some, None, map, flat_map, option_and_then, refl}
use Rattle.std.specs.Coded.{Coded, code_by, coded×}
use Rattle.il_syntax.specs.declared.tree.Config.{Config}
use Rattle.il_syntax.specs.declared.tree.Unit.{Unit as ProgramUnit}
use Rattle.il_syntax.specs.declared.tree.UnitKind.{UnitKind}
use Rattle.il_syntax.specs.declared.tree.UnitKind.TheVariants.{Function, FunctionBlock, Program}
use Rattle.il_syntax.specs.declared.tree.Declaration.{Declaration}
use Rattle.il_syntax.specs.declared.tree.Scalar.{Scalar}
use Rattle.il_syntax.specs.declared.tree.Form.{Form}
use Rattle.il_syntax.specs.declared.tree.Form.TheVariants.{Scalar as OfScalar, Block as OfBlock}
use Rattle.il_statics.specs.Names.{Spelling, named_forms}
use Rattle.il_syntax.specs.contracts.tree.Config as config
use Rattle.il_syntax.specs.contracts.tree.Unit as unit

-- a configuration, and one of its units
pub record InUnit : Type 0 where
  pub config : Config
  pub unit : ProgramUnit

-- its code
abbrev pub in_unit_code : Coded InUnit
in_unit_code = code_by (Config × ProgramUnit) (coded× config.the_row.coded unit.the_row.coded) (λ u. (u.config, u.unit)) (λ c. record { config = c.0; unit = c.1 }) (λ _. refl)

-- the scalar type of a variable, if it is a scalar (2.4.3)
abbrev pub scalar_of : Option Form → Option Scalar
scalar_of (Some (OfScalar s)) = Some s
scalar_of _ = None

-- whether a variable is an instance (2.5.2.1)
abbrev pub is_block : Option Form → Bool
is_block (Some (OfBlock block)) = true
is_block _ = false

-- the scalar types of a unit's inputs, in their order (2.4.3)
abbrev pub input_scalars : ProgramUnit → List (Option Scalar)
input_scalars unit = map (λ input. scalar_of (Some input.1)) (named_forms unit.inputs)

-- the scalar types of declared variables, one for each name
abbrev pub declared_scalars : List Declaration → List (Option Scalar)
declared_scalars declarations = flat_map (λ d. map (λ n. scalar_of (Some d.declared.form)) d.names) declarations

-- the scalar types of an own function's inputs, in their order (2.5.1)
pub record AreInputsOf (own : Option ProgramUnit) (scalars : List (Option Scalar)) : Type 0 where
  pub unit : ProgramUnit
  pub is : own ≡ Some unit
  pub each : scalars ≡ map (λ input. scalar_of (Some input.1)) (named_forms unit.inputs)

-- the type of a function's result (2.5.1)
abbrev pub kind_result : UnitKind → Option Scalar
kind_result (Function scalar place) = Some scalar
kind_result FunctionBlock = None
kind_result Program = None

-- the type of an own function's result
abbrev pub own_scalar : Option ProgramUnit → Option Scalar
own_scalar own = option_and_then (λ u. kind_result u.kind) own
