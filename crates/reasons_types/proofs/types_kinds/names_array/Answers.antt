use Rattle.std.proofs.Common.{ap, ◌∙◌}
use Rattle.il_statics.specs.Names.{meaning}
use Rattle.load_declarations.specs.Mentions.{scalar_of}
use Rattle.load_declarations.proofs.MentionLaws.{scalar_is}
use Rattle.reasons_types.specs.KindReasons.{is_other_kind}
use Rattle.reasons_types.proofs.types_kinds.names_array.Goals as goal

pub returns : goal.returns
returns c =
    let s = c.args.scope.now in
    c.is_array.ensures ∙ ap (λ b. is_other_kind (scalar_of b)) c.declared_type.ensures ∙ ap is_other_kind (scalar_is s.config (meaning s.config s.unit c.args.name.now))
