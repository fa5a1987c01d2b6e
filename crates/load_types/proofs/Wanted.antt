-- What an operand breaks that is no literal.
use Rattle.std.proofs.Common.{◌≡◌, ℕ, Option, refl, sym, ap, ◌∙◌}
use Rattle.il_syntax.specs.declared.tree.Config.{Config}
use Rattle.il_syntax.specs.declared.tree.Unit.{Unit as ProgramUnit}
use Rattle.il_syntax.specs.declared.tree.Elementary.{Elementary}
use Rattle.il_syntax.specs.declared.tree.Literal.{Literal}
use Rattle.il_syntax.specs.declared.tree.Reference.{Reference}
use Rattle.il_syntax.specs.declared.tree.Reference.TheVariants.{Literal as OfLiteral, Variable as OfVariable, Element as OfElement, Member as OfMember}
use Rattle.il_statics.specs.Types.{index_numbers, any_difference_numbers, reference_type, wanted_numbers}
use Rattle.il_statics.specs.Lowest.{lowest, lower_of}
use Rattle.il_statics.proofs.Lowest.{lowest_append}

pub wanted_is : (config : Config) (unit : ProgramUnit) (r : Reference) (wanted : Elementary) (i d : Option ℕ) → ((l : Literal) → r ≡ OfLiteral l → ⊥) → i ≡ lowest (index_numbers config unit r)
    → d ≡ lowest (any_difference_numbers (reference_type config unit r) wanted) → lower_of i d ≡ lowest (wanted_numbers config unit r wanted)
wanted_is config unit (OfLiteral l) wanted i d named is difference = absurd (named l refl)
wanted_is config unit (OfVariable name) wanted i d named is difference = ap (λ x. lower_of x d) is ∙ difference
wanted_is config unit (OfElement name index) wanted i d named is difference =
    ap (λ x. lower_of x d) is ∙ ap (lower_of (lowest (index_numbers config unit (OfElement name index)))) difference
    ∙ sym (lowest_append (index_numbers config unit (OfElement name index)) (any_difference_numbers (reference_type config unit (OfElement name index)) wanted))
wanted_is config unit (OfMember name word) wanted i d named is difference = ap (λ x. lower_of x d) is ∙ difference
