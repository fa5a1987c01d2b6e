-- What is found by number is what is found by name.
use Rattle.std.proofs.Common.{◌≡◌, ℕ, Bool, true, false, refl, sym, ap, ◌∙◌, Option, Some, None, is_some, option_map, option_and_then, bytes_eq, slice_get, if◌then◌else◌}
use Rattle.std.specs.Prelude.{find}
use Rattle.il_syntax.specs.declared.tree.Config.{Config}
use Rattle.il_syntax.specs.declared.tree.Unit.{Unit as ProgramUnit}
use Rattle.il_statics.specs.declared.names.StandardBlock.{StandardBlock}
use Rattle.il_statics.specs.Names as rule
use Rattle.il_statics.specs.Names.{Spelling, or_else, BlockVariables, is_predeclared, unit_named, is_function, is_function_block, is_program, function_named, function_block_named, program_named, standard_block, standard_variables, own_block_variables, block_variables}
use Rattle.il_statics.specs.Declarations.{names_of_units}
use Rattle.load_scope.specs.Views.{place_of, unit_number, passes, number_where, function_number, function_block_number, program_number, block_type, variables_of_block}
use Rattle.load_scope.specs.declared.entry.BlockType.TheVariants.{Standard as StandardType, Own}
use Rattle.load_scope.proofs.Seen.{unit_found}

-- a unit that passes a test
abbrev if_passes : (ProgramUnit → Bool) → ProgramUnit → Option ProgramUnit
if_passes test u = if test u then Some u else None

-- the unit of a number that passes a test
pub kind_found : (test : ProgramUnit → Bool) (config : Config) (name : Spelling) → option_and_then (slice_get config.units) (number_where test config name) ≡ option_and_then (λ u. if test u then Some u else None) (unit_named config name)
unfolding unit_number
kind_found test config name = by_predeclared (is_predeclared config name)
  where
    number : ℕ → Option ℕ
    number k = if passes test (slice_get config.units k) then Some k else None

    by_test : (k : ℕ) (u : ProgramUnit) (b : Bool) → slice_get config.units k ≡ Some u → option_and_then (slice_get config.units) (if b then Some k else None) ≡ (if b then Some u else None)
    by_test k u true e = e
    by_test k u false e = refl

    by_unit : (k : ℕ) (o : Option ProgramUnit) → slice_get config.units k ≡ o → option_and_then (slice_get config.units) (if passes test o then Some k else None) ≡ option_and_then (if_passes test) o
    by_unit k None e = refl
    by_unit k (Some u) e = by_test k u (test u) e

    by_place : (o : Option ℕ) → option_and_then (slice_get config.units) (option_and_then number o) ≡ option_and_then (if_passes test) (option_and_then (slice_get config.units) o)
    by_place None = refl
    by_place (Some k) = by_unit k (slice_get config.units k) refl

    by_predeclared : (b : Bool) → option_and_then (slice_get config.units) (option_and_then number (if b then None else place_of (names_of_units config) name)) ≡ option_and_then (if_passes test) (if b then None else find (λ u. bytes_eq u.name.name name) config.units)
    by_predeclared true = refl
    by_predeclared false = by_place (place_of (names_of_units config) name) ∙ ap (option_and_then (if_passes test)) (sym (unit_found config.units name))

-- a number that passes a test is a unit's
number_in : (test : ProgramUnit → Bool) (config : Config) (name : Spelling) → is_some (number_where test config name) ≡ is_some (option_and_then (slice_get config.units) (number_where test config name))
number_in test config name = by_number (unit_number config name)
  where
    by_unit : (k : ℕ) (o : Option ProgramUnit) → slice_get config.units k ≡ o → is_some (if passes test o then Some k else None) ≡ is_some (option_and_then (slice_get config.units) (if passes test o then Some k else None))
    by_unit k None e = refl
    by_unit k (Some u) e = by_test (test u)
      where
        by_test : (b : Bool) → is_some (if b then Some k else None) ≡ is_some (option_and_then (slice_get config.units) (if b then Some k else None))
        by_test true = sym (ap is_some e)
        by_test false = refl

    by_number : (o : Option ℕ) → is_some (option_and_then (λ k. if passes test (slice_get config.units k) then Some k else None) o) ≡ is_some (option_and_then (slice_get config.units) (option_and_then (λ k. if passes test (slice_get config.units k) then Some k else None) o))
    by_number None = refl
    by_number (Some k) = by_unit k (slice_get config.units k) refl

-- own functions
pub function_found : (config : Config) (name : Spelling) → option_and_then (slice_get config.units) (function_number config name) ≡ function_named config name
unfolding function_number
function_found config name = kind_found is_function config name

pub function_there : (config : Config) (name : Spelling) → is_some (function_number config name) ≡ is_some (function_named config name)
unfolding function_number
function_there config name = number_in is_function config name ∙ ap is_some (kind_found is_function config name)

-- own function blocks
pub function_block_found : (config : Config) (name : Spelling) → option_and_then (slice_get config.units) (function_block_number config name) ≡ function_block_named config name
unfolding function_block_number
function_block_found config name = kind_found is_function_block config name

-- programs
pub program_found : (config : Config) (name : Spelling) → option_and_then (slice_get config.units) (program_number config name) ≡ program_named config name
unfolding program_number
program_found config name = kind_found is_program config name

pub program_there : (config : Config) (name : Spelling) → is_some (program_number config name) ≡ is_some (program_named config name)
unfolding program_number
program_there config name = number_in is_program config name ∙ ap is_some (kind_found is_program config name)

-- blocks
pub block_found : (config : Config) (name : Spelling) → option_and_then (variables_of_block config) (block_type config name) ≡ block_variables config name
unfolding block_type block_variables
block_found config name = by_standard (standard_block name)
  where
    by_number : (o : Option ℕ) → option_and_then (variables_of_block config) (option_map Own o) ≡ option_map own_block_variables (option_and_then (slice_get config.units) o)
    by_number None = refl
    by_number (Some k) = refl

    by_standard : (o : Option StandardBlock) → option_and_then (variables_of_block config) (or_else (option_map StandardType o) (option_map Own (function_block_number config name))) ≡ or_else (option_map standard_variables o) (option_map own_block_variables (function_block_named config name))
    by_standard (Some b) = refl
    by_standard None = by_number (function_block_number config name) ∙ ap (option_map own_block_variables) (function_block_found config name)

pub block_there : (config : Config) (name : Spelling) → is_some (block_type config name) ≡ is_some (block_variables config name)
unfolding block_type block_variables function_block_number
block_there config name = by_standard (standard_block name)
  where
    mapped : {A B : Type 0} (f : A → B) (o : Option A) → is_some (option_map f o) ≡ is_some o
    mapped f (Some x) = refl
    mapped f None = refl

    by_standard : (o : Option StandardBlock) → is_some (or_else (option_map StandardType o) (option_map Own (number_where is_function_block config name))) ≡ is_some (or_else (option_map standard_variables o) (option_map own_block_variables (function_block_named config name)))
    by_standard (Some b) = refl
    by_standard None = mapped Own (number_where is_function_block config name) ∙ number_in is_function_block config name ∙ ap is_some (kind_found is_function_block config name) ∙ sym (mapped own_block_variables (function_block_named config name))
