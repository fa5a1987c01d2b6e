-- A variable of a type without a range has no number.
use Rattle.std.proofs.Common.{◌≡◌, ℕ, Option, Some, None, option_and_then, refl, ap, ◌∙◌}
use Rattle.ranges_interval.specs.declared.Interval.{Interval}
use Rattle.il_syntax.specs.declared.tree.Form.{Form}
use Rattle.il_syntax.specs.declared.tree.Form.TheVariants.{Scalar as OfScalar, Array as OfArray, Block as OfBlock}
use Rattle.il_syntax.specs.declared.tree.Scalar.{Scalar}
use Rattle.il_statics.specs.Names.{form_named}
use Rattle.base_maps.specs.NameMap.{NameMap, Text, get}
use Rattle.il_semantics.specs.Annotation.{range, form_range}
use Rattle.load_scope.specs.Units.{InUnit, scalar_of}
use Rattle.ranges_pass.specs.Numbering.{HaveRanges}

same : (t s : Scalar) → Some t ≡ Some s → t ≡ s
same t s e = cc

unranged : (o : Option Form) (s : Scalar) → scalar_of o ≡ Some s → range s ≡ None → option_and_then form_range o ≡ None
unranged None s is none = refl
unranged (Some (OfScalar t)) s is none = ap range (same t s is) ∙ none
unranged (Some (OfArray bounds element)) s is none = refl
unranged (Some (OfBlock block)) s is none = refl

pub has_none : (u : InUnit) (numbers : NameMap ℕ) (name : Text) (s : Scalar) → HaveRanges u numbers → scalar_of (form_named u.config u.unit name) ≡ Some s → range s ≡ None → get numbers name ≡ None
has_none u numbers name s have is none = have name (unranged (form_named u.config u.unit name) s is none)
