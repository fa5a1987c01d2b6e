-- What names mean in a unit, as instructions ask for it.
use Rattle.std.proofs.Common.{◌≡◌, Option, Some, None, option_and_then, option_map, refl, sym, ap, ◌∙◌}
use Rattle.il_syntax.specs.declared.tree.Config.{Config}
use Rattle.il_syntax.specs.declared.tree.Unit.{Unit as ProgramUnit}
use Rattle.il_syntax.specs.declared.tree.Scalar.{Scalar}
use Rattle.il_syntax.specs.declared.tree.Form.{Form}
use Rattle.il_syntax.specs.declared.tree.Form.TheVariants.{Block as BlockForm}
use Rattle.il_syntax.specs.declared.tree.Index.{Index}
use Rattle.il_syntax.specs.declared.tree.Reference.{Reference}
use Rattle.il_syntax.specs.declared.tree.Reference.TheVariants.{Element}
use Rattle.il_statics.specs.Names.{Spelling, Variable, or_else, entry_of, BlockVariables, block_variables, variable_named, form_named}
use Rattle.il_statics.specs.Types.{block_of, instance_block, member_form}
use Rattle.il_semantics.specs.Meaning.{element_of, inputs_of, outputs_of}
use Rattle.load_scope.specs.Units.{scalar_of}
use Rattle.ranges_laws.specs.Facts.{Names}
use Rattle.ranges_laws.proofs.Least.{same_some}
use Rattle.ranges_transfer.specs.declared.meant.Meant.{Meant}
use Rattle.ranges_transfer.specs.Meant.{resolved}
use Rattle.ranges_transfer.specs.Scopes.{denoted, form_in, input_form, output_form}

-- what an element means
pub element_is : (n : Names) (r : Reference) (name q : Spelling) (index : Index) (m : Meant) → r ≡ Element name index → q ≡ name → m ≡ resolved n (element_of (form_in n) q index (form_in n q)) → m ≡ resolved n (denoted n r)
element_is n r name q index m is same found = found ∙ ap (λ t. resolved n (element_of (form_in n) t index (form_in n t))) same ∙ ap (λ t. resolved n (denoted n t)) (sym is)

-- THE WORDS OF INSTANCES

-- the block of an instance is that of its name's form
instance_is : (c : Config) (u : ProgramUnit) (name block : Spelling) → form_named c u name ≡ Some (BlockForm block) → instance_block c u name ≡ block_variables c block
instance_is c u name block is = by_variable (variable_named c u name) is
  where
    by_variable : (o : Option Variable) → option_map (λ v. v.form) o ≡ Some (BlockForm block) → option_and_then (λ v. block_of c v.form) o ≡ block_variables c block
    by_variable None e = absurd (let bad : ◌≡◌ {A = Option Form} None (Some (BlockForm block)) = e in cc)
    by_variable (Some v) e = ap (block_of c) (same_some v.form (BlockForm block) e)

input_of : (o : Option BlockVariables) (word : Spelling) → option_and_then (λ b. entry_of b.inputs word) o ≡ entry_of (inputs_of o) word
input_of None word = refl
input_of (Some b) word = refl

output_of : (o : Option BlockVariables) (word : Spelling) → option_and_then (λ b. entry_of b.outputs word) o ≡ entry_of (outputs_of o) word
output_of None word = refl
output_of (Some b) word = refl

member_of_block : (o : Option BlockVariables) (word : Spelling) → option_and_then (member_form word) o ≡ or_else (entry_of (outputs_of o) word) (entry_of (inputs_of o) word)
member_of_block None word = refl
member_of_block (Some b) word = refl

-- an input, an output, and either
pub input_is : (n : Names) (name block word : Spelling) (r : Option Scalar) → form_in n name ≡ Some (BlockForm block) → r ≡ scalar_of (option_and_then (λ b. entry_of b.inputs word) (instance_block n.config n.unit name)) → r ≡ scalar_of (input_form n block word)
input_is n name block word r form is = is ∙ ap (λ o. scalar_of (option_and_then (λ b. entry_of b.inputs word) o)) (instance_is n.config n.unit name block form) ∙ ap scalar_of (input_of (block_variables n.config block) word)

pub output_is : (n : Names) (name block word : Spelling) (r : Option Scalar) → form_in n name ≡ Some (BlockForm block) → r ≡ scalar_of (option_and_then (λ b. entry_of b.outputs word) (instance_block n.config n.unit name)) → r ≡ scalar_of (output_form n block word)
output_is n name block word r form is = is ∙ ap (λ o. scalar_of (option_and_then (λ b. entry_of b.outputs word) o)) (instance_is n.config n.unit name block form) ∙ ap scalar_of (output_of (block_variables n.config block) word)

pub member_is : (n : Names) (name block word : Spelling) (r : Option Scalar) → form_in n name ≡ Some (BlockForm block) → r ≡ scalar_of (option_and_then (member_form word) (instance_block n.config n.unit name)) → r ≡ scalar_of (or_else (output_form n block word) (input_form n block word))
member_is n name block word r form is = is ∙ ap (λ o. scalar_of (option_and_then (member_form word) o)) (instance_is n.config n.unit name block form) ∙ ap scalar_of (member_of_block (block_variables n.config block) word)
