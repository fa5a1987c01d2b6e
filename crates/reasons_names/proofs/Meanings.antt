-- What the code has of a name's meaning.
use Rattle.std.proofs.Common.{◌≡◌, true, refl, Option, Some, None, is_some, option_map, option_and_then, if◌then◌else◌}
use Rattle.il_syntax.specs.declared.tree.Config.{Config}
use Rattle.il_syntax.specs.declared.tree.Form.{Form}
use Rattle.il_syntax.specs.declared.tree.Form.TheVariants.{Scalar as OfScalar, Array as OfArray, Block as OfBlock}
use Rattle.il_statics.specs.Names.{Spelling, BlockVariables, entry_of, Meaning, MeansVariable, MeansUnit, MeansStandard}
use Rattle.il_statics.specs.Declarations.{is_visible, Reads, Stores}
use Rattle.load_scope.specs.Views.{type_of, binding_of, variable_of}
use Rattle.il_statics.specs.Names as rule
use Rattle.reasons_names.specs.NamesUnknown.{meant_by, meant_by_form, type_meant, binding_meant}

type_is_meant : (config : Config) (form : Form) → type_meant (type_of config form) ≡ meant_by_form form
type_is_meant config (OfScalar s) = refl
type_is_meant config (OfArray b e) = refl
type_is_meant config (OfBlock n) = refl

-- what a name means, as the code has it
pub binding_is_meant : (config : Config) (m : Option Meaning) → binding_meant (option_map (binding_of config) m) ≡ meant_by m
binding_is_meant config (Some (MeansVariable v)) = type_is_meant config v.form
binding_is_meant config (Some (MeansUnit u)) = refl
binding_is_meant config (Some MeansStandard) = refl
binding_is_meant config None = refl

-- what is changed is there where it was
pub some_changed : {X Y : Type 0} (f : X → Y) (o : Option X) → is_some (option_map f o) ≡ is_some o
some_changed f (Some x) = refl
some_changed f None = refl

-- a word that is read
pub visible_read : (block : Option BlockVariables) (word : Spelling) → is_visible Reads block word ≡ is_some (option_and_then (λ b. entry_of b.outputs word) block)
visible_read None word = refl
visible_read (Some block) word = refl

-- a word that is stored into
pub visible_stored : (block : Option BlockVariables) (word : Spelling) → is_visible Stores block word ≡ (if is_some (option_and_then (λ b. entry_of b.outputs word) block) then true else is_some (option_and_then (λ b. entry_of b.inputs word) block))
visible_stored None word = refl
visible_stored (Some block) word = refl

-- where a variable is, as the code has it
pub origin_kept : (config : Config) (o : Option rule.Variable) → option_map (λ v. v.origin) (option_map (variable_of config) o) ≡ option_map (λ (v : rule.Variable). v.origin) o
origin_kept config (Some v) = refl
origin_kept config None = refl
