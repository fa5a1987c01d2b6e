-- What names in instructions break, by what they mean.
use Rattle.std.specs.Prelude.{ℕ, List, [], ◌∷◌, Option, Some, None, option_and_then}
use Rattle.il_syntax.specs.declared.tree.Config.{Config}
use Rattle.il_statics.specs.Names.{Spelling}
use Rattle.il_statics.specs.Declarations as rule
use Rattle.il_statics.specs.Declarations.{unless, is_visible}
use Rattle.load_scope.specs.declared.entry.VariableType.{VariableType}
use Rattle.load_scope.specs.declared.entry.VariableType.TheVariants.{Scalar, Array, Instance}
use Rattle.load_scope.specs.declared.entry.Binding.{Binding}
use Rattle.load_scope.specs.declared.entry.Binding.TheVariants.{Variable, Unit as UnitName, Standard}
use Rattle.load_scope.specs.Views.{variables_of_block}
use Rattle.load_declarations.specs.declared.mentions.Access.{Access}
use Rattle.load_declarations.specs.declared.mentions.Access.TheVariants.{Reads, Stores}

-- whether the rules read or store
abbrev pub shown_access : Access → rule.Access
shown_access Reads = rule.Reads
shown_access Stores = rule.Stores

-- a variable of this type where a scalar one is
abbrev pub scalar_type_numbers : VariableType → List ℕ
scalar_type_numbers (Scalar scalar) = []
scalar_type_numbers (Array bounds element) = 25 ∷ []
scalar_type_numbers (Instance block) = 21 ∷ []

-- a name where a scalar variable is
abbrev pub scalar_of : Option VariableType → List ℕ
scalar_of (Some declared) = scalar_type_numbers declared
scalar_of None = 21 ∷ []

-- a variable of this type before an index
abbrev pub array_type_numbers : VariableType → List ℕ
array_type_numbers (Scalar scalar) = 25 ∷ []
array_type_numbers (Array bounds element) = []
array_type_numbers (Instance block) = 25 ∷ []

-- a name before an index
abbrev pub array_of : Option Binding → List ℕ
array_of (Some (Variable v)) = array_type_numbers v.declared
array_of (Some UnitName) = 25 ∷ []
array_of (Some Standard) = 25 ∷ []
array_of None = 21 ∷ []

-- a variable of this type after CAL
abbrev pub called_type_numbers : VariableType → List ℕ
called_type_numbers (Scalar scalar) = 25 ∷ []
called_type_numbers (Array bounds element) = 25 ∷ []
called_type_numbers (Instance block) = []

-- a name after CAL
abbrev pub called_of : Option Binding → List ℕ
called_of (Some (Variable v)) = called_type_numbers v.declared
called_of (Some UnitName) = 25 ∷ []
called_of (Some Standard) = 25 ∷ []
called_of None = 21 ∷ []

-- a variable of this type before a dot
abbrev pub member_type_numbers : Config → rule.Access → Spelling → VariableType → List ℕ
member_type_numbers config access word (Scalar scalar) = 21 ∷ []
member_type_numbers config access word (Array bounds element) = 21 ∷ []
member_type_numbers config access word (Instance block) = unless (is_visible access (option_and_then (variables_of_block config) block) word) 21

-- a name before a dot
abbrev pub member_of : Config → rule.Access → Spelling → Option Binding → List ℕ
member_of config access word (Some (Variable v)) = member_type_numbers config access word v.declared
member_of config access word (Some UnitName) = 21 ∷ []
member_of config access word (Some Standard) = 21 ∷ []
member_of config access word None = 21 ∷ []
