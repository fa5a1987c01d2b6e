use Rattle.std.proofs.Common.{refl}
use Rattle.il_syntax.specs.Grammar.{TheSign}
use Rattle.il_syntax_laws.proofs.Local.{sign_told}
use Rattle.load_lines.specs.declared.stop.SyntaxError.TheVariants.{Unexpected}
use Rattle.load_lines.proofs.Chain.{unmet_part, was_missing}
use Rattle.load_lines.proofs.source.Source.sign.Goals as goal

pub returns-else-eat_sign-clause-refused : goal.returns-else-eat_sign-clause-refused
returns-else-eat_sign-clause-refused c =
    let none = was_missing (TheSign c.args.sign) c.args.tokens.now _ c.eat_sign.new.tokens c.eat_sign.ensures.eaten c.if-eat_sign.false in
    unmet_part Unexpected refl (sign_told c.args.sign) none.1 (rw none.0 at c.outside.ensures)
