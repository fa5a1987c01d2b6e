use Rattle.std.proofs.Common.{sym, ap, ◌∙◌}
use Rattle.std.specs.Option.{option_copied}
use Rattle.load_scope.proofs.Seen.{seen_of, variable_is}
use Rattle.load_scope.proofs.meaning.variable_in.Goals as goal

pub returns-in-Some : goal.returns-in-Some
returns-in-Some c = λ config unit scope. c.as_ref.ensures.value ∙ ap seen_of (ap option_copied (sym c.in-Some.is) ∙ c.find.ensures ∙ scope.own c.args.name.now) ∙ variable_is config unit c.args.name.now

pub returns-in-None : goal.returns-in-None
returns-in-None c = λ config unit scope. ap seen_of (ap option_copied (sym c.in-None.is) ∙ c.find.ensures ∙ scope.own c.args.name.now) ∙ variable_is config unit c.args.name.now
