-- Types by the names of blocks, and initial values.
use Rattle.std.proofs.Common.{◌≡◌, Bool, true, false, not, Option, Some, None, is_some, sym, ap, ◌∙◌, subst}
use Rattle.il_syntax.specs.declared.tree.Config.{Config}
use Rattle.il_syntax.specs.declared.tree.Place.{Place}
use Rattle.il_syntax.specs.declared.tree.Form.{Form}
use Rattle.il_syntax.specs.declared.tree.Initial.{Initial}
use Rattle.il_statics.specs.Names.{Spelling, BlockVariables, block_variables}
use Rattle.il_statics.specs.Declarations as rule
use Rattle.il_statics.specs.Declarations.{instance_numbers, admits_instances, initial_numbers}
use Rattle.load_scope.specs.declared.entry.BlockType.{BlockType}
use Rattle.load_scope.specs.Views.{block_type}
use Rattle.load_scope.proofs.Laws.{block_there}
use Rattle.il_statics.specs.Least.{NumberedFault, fault_of, IsLeast}
use Rattle.il_statics.proofs.Least.{least_same}
use Rattle.load_declarations.specs.Places.{lowest_at, At}
use Rattle.load_declarations.specs.Written.{BreaksInitial}
use Rattle.load_declarations.proofs.Lowest.{at_unless, least_at}

-- no block
pub not_block : (config : Config) (admitted : rule.Admitted) (name : Spelling) (place : Place) (o : Option BlockType) (none : Bool) (r : Option NumberedFault) → o ≡ block_type config name → is_some o ≡ not none → none ≡ true → r ≡ fault_of true 21 place → r ≡ lowest_at (instance_numbers admitted (block_variables config name)) place
not_block config admitted name place o none r found is there e = go (block_variables config name) (sym (block_there config name) ∙ ap is_some (sym found) ∙ is ∙ ap not there)
  where
    go : (b : Option BlockVariables) → is_some b ≡ false → r ≡ lowest_at (instance_numbers admitted b) place
    go None h = e
    go (Some v) h = let bad : true ≡ false = h in cc

-- a block
pub some_block : (config : Config) (admitted : rule.Admitted) (name : Spelling) (place : Place) (o : Option BlockType) (none admits : Bool) (r : Option NumberedFault) → o ≡ block_type config name → is_some o ≡ not none → none ≡ false → admits ≡ admits_instances admitted → r ≡ fault_of (not admits) 25 place → r ≡ lowest_at (instance_numbers admitted (block_variables config name)) place
some_block config admitted name place o none admits r found is there allows e = go (block_variables config name) (sym (block_there config name) ∙ ap is_some (sym found) ∙ is ∙ ap not there)
  where
    go : (b : Option BlockVariables) → is_some b ≡ true → r ≡ lowest_at (instance_numbers admitted b) place
    go None h = let bad : false ≡ true = h in cc
    go (Some v) h = e ∙ at_unless admits 25 place ∙ ap (λ b. lowest_at (rule.unless b 25) place) allows

-- an initial value
pub least_initial : (form : Form) (initial : Option Initial) (i : Initial) (r : Option NumberedFault) → initial ≡ Some i → r ≡ lowest_at (initial_numbers form i.literal) i.place → IsLeast r (BreaksInitial form initial)
least_initial form initial i r is e = least_same (At (initial_numbers form i.literal) i.place) (BreaksInitial form initial) r (least_at (initial_numbers form i.literal) i.place r e)
    (λ n p h. (i, is, h.0, h.1))
    (λ n p h. let same : i ≡ h.0 = (let both : Some i ≡ Some h.0 = sym is ∙ h.1 in cc) in subst (λ j. At (initial_numbers form j.literal) j.place n p) (sym same) (h.2, h.3))
