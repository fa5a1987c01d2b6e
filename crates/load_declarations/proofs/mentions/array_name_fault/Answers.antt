use Rattle.std.proofs.Common.{ap, ◌∙◌}
use Rattle.il_statics.specs.Names.{meaning}
use Rattle.load_declarations.specs.Places.{lowest_at}
use Rattle.load_declarations.specs.Mentions.{array_of}
use Rattle.load_declarations.proofs.MentionLaws.{array_is}
use Rattle.load_declarations.proofs.mentions.array_name_fault.Goals as goal

pub returns : goal.returns
returns c = c.array_fault.ensures ∙ ap (λ b. lowest_at (array_of b) c.args.place) c.meaning.ensures ∙ ap (λ l. lowest_at l c.args.place) (array_is c.args.here.now.config (meaning c.args.here.now.config c.args.here.now.unit c.args.name.now))
