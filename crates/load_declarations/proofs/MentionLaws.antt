-- What names in instructions break is what the rules say.
use Rattle.std.proofs.Common.{◌≡◌, ℕ, Bool, true, false, not, List, [], ◌++◌, refl, sym, ap, ◌∙◌, Option, Some, None, is_some, option_map, if◌then◌else◌}
use Rattle.il_syntax.specs.declared.tree.Config.{Config}
use Rattle.std.specs.Prelude.{flat_map}
use Rattle.il_syntax.specs.declared.tree.Unit.{Unit as ProgramUnit}
use Rattle.il_syntax.specs.declared.tree.Named.{Named}
use Rattle.il_syntax.specs.declared.tree.Operand.{Operand}
use Rattle.il_syntax.specs.declared.tree.Instruction.{Instruction}
use Rattle.il_syntax.specs.declared.tree.Instruction.TheVariants.{Invoke}
use Rattle.il_syntax.specs.declared.tree.Place.{Place}
use Rattle.il_syntax.specs.declared.tree.Form.{Form}
use Rattle.il_syntax.specs.declared.tree.Form.TheVariants.{Scalar as OfScalar, Array as OfArray, Block as OfBlock}
use Rattle.il_statics.specs.Names as rule
use Rattle.il_statics.specs.Names.{Spelling, BlockVariables, entry_of, Meaning, MeansVariable, MeansUnit, MeansStandard, meant_variable, standard_function, function_named}
use Rattle.il_statics.specs.Declarations.{Access, Reads, unless, reference_numbers, name_numbers, is_visible, scalar_numbers, scalar_form_numbers, array_numbers, array_form_numbers, called_numbers, called_form_numbers, member_numbers, member_form_numbers}
use Rattle.load_scope.specs.Views.{type_of, binding_of, function_number}
use Rattle.il_statics.specs.declared.names.StandardFunction.{StandardFunction}
use Rattle.load_scope.proofs.Laws.{block_found, function_there}
use Rattle.il_statics.specs.Least.{NumberedFault, fault_of}
use Rattle.load_declarations.specs.Places.{lowest_at}
use Rattle.load_declarations.specs.Mentions.{scalar_type_numbers, scalar_of, array_type_numbers, array_of, called_type_numbers, called_of, member_type_numbers, member_of}
use Rattle.load_declarations.proofs.Lowest.{at_unless}

scalar_type_is : (config : Config) (form : Form) → scalar_type_numbers (type_of config form) ≡ scalar_form_numbers form
scalar_type_is config (OfScalar s) = refl
scalar_type_is config (OfArray b e) = refl
scalar_type_is config (OfBlock n) = refl

-- where a scalar variable is
pub scalar_is : (config : Config) (m : Option Meaning) → scalar_of (option_map (type_of config) (option_map (λ v. v.form) (meant_variable m))) ≡ scalar_numbers m
scalar_is config (Some (MeansVariable v)) = scalar_type_is config v.form
scalar_is config (Some (MeansUnit u)) = refl
scalar_is config (Some MeansStandard) = refl
scalar_is config None = refl

array_type_is : (config : Config) (form : Form) → array_type_numbers (type_of config form) ≡ array_form_numbers form
array_type_is config (OfScalar s) = refl
array_type_is config (OfArray b e) = refl
array_type_is config (OfBlock n) = refl

-- before an index
pub array_is : (config : Config) (m : Option Meaning) → array_of (option_map (binding_of config) m) ≡ array_numbers m
array_is config (Some (MeansVariable v)) = array_type_is config v.form
array_is config (Some (MeansUnit u)) = refl
array_is config (Some MeansStandard) = refl
array_is config None = refl

called_type_is : (config : Config) (form : Form) → called_type_numbers (type_of config form) ≡ called_form_numbers form
called_type_is config (OfScalar s) = refl
called_type_is config (OfArray b e) = refl
called_type_is config (OfBlock n) = refl

-- after CAL
pub called_is : (config : Config) (m : Option Meaning) → called_of (option_map (binding_of config) m) ≡ called_numbers m
called_is config (Some (MeansVariable v)) = called_type_is config v.form
called_is config (Some (MeansUnit u)) = refl
called_is config (Some MeansStandard) = refl
called_is config None = refl

member_type_is : (config : Config) (access : Access) (word : Spelling) (form : Form) → member_type_numbers config access word (type_of config form) ≡ member_form_numbers config access word form
member_type_is config access word (OfScalar s) = refl
member_type_is config access word (OfArray b e) = refl
member_type_is config access word (OfBlock n) = ap (λ b. unless (is_visible access b word) 21) (block_found config n)

-- before a dot
pub member_is : (config : Config) (access : Access) (word : Spelling) (m : Option Meaning) → member_of config access word (option_map (binding_of config) m) ≡ member_numbers config access word m
member_is config access word (Some (MeansVariable v)) = member_type_is config access word v.form
member_is config access word (Some (MeansUnit u)) = refl
member_is config access word (Some MeansStandard) = refl
member_is config access word None = refl

-- a function
pub function_unknown : (config : Config) (name : Spelling) (place : Place) (s : Option StandardFunction) (o : Option ℕ) (standard known : Bool) (r : Option NumberedFault) → s ≡ standard_function name → standard ≡ is_some s → standard ≡ false → o ≡ function_number config name → known ≡ is_some o → r ≡ fault_of (not known) 21 place
    → r ≡ lowest_at (if is_some (standard_function name) then [] else unless (is_some (function_named config name)) 21) place
function_unknown config name place s o standard known r word test other number there is =
    is ∙ at_unless known 21 place ∙ ap (λ b. lowest_at (unless b 21) place) (there ∙ ap is_some number ∙ function_there config name) ∙ ap (λ b. lowest_at (if b then [] else unless (is_some (function_named config name)) 21) place) (sym (sym (ap is_some word) ∙ sym test ∙ other))

pub function_standard : (config : Config) (name : Spelling) (place : Place) (s : Option StandardFunction) (standard : Bool) → s ≡ standard_function name → standard ≡ is_some s → standard ≡ true
    → None ≡ lowest_at (if is_some (standard_function name) then [] else unless (is_some (function_named config name)) 21) place
function_standard config name place s standard word test there =
    ap (λ b. lowest_at (if b then [] else unless (is_some (function_named config name)) 21) place) (sym (sym (ap is_some word) ∙ sym test ∙ there))

-- whether what is changed is there
pub there_changed : {A B : Type 0} (f : A → B) (o : Option A) (r : Option B) (b : Bool) → b ≡ is_some r → r ≡ option_map f o → b ≡ is_some o
there_changed f (Some x) r b e is = e ∙ ap is_some is
there_changed f None r b e is = e ∙ ap is_some is

-- the names of a function's call
pub invoke_is : (config : Config) (unit : ProgramUnit) (place : Place) (instruction : Instruction) (function : Named) (operands passed : List Operand) (r : Option NumberedFault) → instruction ≡ Invoke function operands → passed ≡ operands
    → r ≡ lowest_at ((if is_some (standard_function function.name) then [] else unless (is_some (function_named config function.name)) 21) ++ flat_map (λ o. reference_numbers config unit Reads o.reference) passed) place → r ≡ lowest_at (name_numbers config unit instruction) place
unfolding name_numbers
invoke_is config unit place instruction function operands passed r is same e =
    e ∙ ap (λ l. lowest_at ((if is_some (standard_function function.name) then [] else unless (is_some (function_named config function.name)) 21) ++ flat_map (λ (o : Operand). reference_numbers config unit Reads o.reference) l) place) same
    ∙ ap (λ i. lowest_at (name_numbers config unit i) place) (sym is)
