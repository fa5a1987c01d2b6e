use Rattle.std.proofs.Common.{sym, ap, ◌∙◌}
use Rattle.load_scope.proofs.Seen.{meant_by, meaning_is}
use Rattle.load_scope.proofs.meaning.meaning_in.Goals as goal

pub returns-in-Some : goal.returns-in-Some
returns-in-Some c = λ unit scope. c.variable_binding.ensures ∙ ap (meant_by c.args.config.now c.args.name.now) (sym c.in-Some.is ∙ c.get.ensures ∙ scope.own c.args.name.now) ∙ meaning_is c.args.config.now unit c.args.name.now

pub returns-in-None : goal.returns-in-None
returns-in-None c = λ unit scope. c.global_meaning.ensures ∙ ap (meant_by c.args.config.now c.args.name.now) (sym c.in-None.is ∙ c.get.ensures ∙ scope.own c.args.name.now) ∙ meaning_is c.args.config.now unit c.args.name.now
