use Rattle.std.proofs.Common.{subst, sym, ◌∙◌}
use Rattle.group_spec.specs.declared.image.Sizes.{Sizes}
use Rattle.group_spec.specs.Image.{FieldsInRange}
use Rattle.group_spec.proofs.Laws.{range_test}
use Rattle.liftplc_c.proofs.stepping.step_counted.Goals as goal

pub go_round-requires-clause-inside : goal.go_round-requires-clause-inside
go_round-requires-clause-inside c =
    subst (λ (s : Sizes). FieldsInRange s c.fields_of-taken.result) c.sizes.ensures ((range_test c.sizes.result c.fields_of-taken.result).0 (sym c.in_range.ensures ∙ c.if-not-in_range.false))
