use Rattle.std.proofs.Common.{ap, ◌∙◌}
use Rattle.il_statics.specs.Names.{meaning}
use Rattle.load_declarations.specs.Places.{lowest_at}
use Rattle.load_declarations.specs.Mentions.{shown_access, member_of}
use Rattle.load_declarations.proofs.MentionLaws.{member_is}
use Rattle.load_declarations.proofs.mentions.member_name_fault.Goals as goal

pub returns : goal.returns
returns c =
    c.member_fault.ensures ∙ ap (λ d. lowest_at (member_of d (shown_access c.args.access) c.args.word.now c.meaning.result) c.args.place) c.names.ensures ∙ ap (λ b. lowest_at (member_of c.args.here.now.config (shown_access c.args.access) c.args.word.now b) c.args.place) c.meaning.ensures
    ∙ ap (λ l. lowest_at l c.args.place) (member_is c.args.here.now.config (shown_access c.args.access) c.args.word.now (meaning c.args.here.now.config c.args.here.now.unit c.args.name.now))
