use Rattle.std.proofs.Common.{ap, ◌∙◌}
use Rattle.il_statics.specs.Names.{meaning}
use Rattle.load_declarations.specs.Places.{lowest_at}
use Rattle.load_declarations.specs.Mentions.{called_of}
use Rattle.load_declarations.proofs.MentionLaws.{called_is}
use Rattle.load_declarations.proofs.mentions.called_name_fault.Goals as goal

pub returns : goal.returns
returns c = c.called_fault.ensures ∙ ap (λ b. lowest_at (called_of b) c.args.place) c.meaning.ensures ∙ ap (λ l. lowest_at l c.args.place) (called_is c.args.here.now.config (meaning c.args.here.now.config c.args.here.now.unit c.args.name.now))
