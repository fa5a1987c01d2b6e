use Rattle.std.proofs.Common.{refl}
use Rattle.il_syntax.specs.Grammar.{TheWord}
use Rattle.il_syntax_laws.proofs.Local.{word_told}
use Rattle.load_lines.specs.declared.stop.SyntaxError.TheVariants.{Unexpected}
use Rattle.load_lines.proofs.Chain.{unmet_part, was_missing}
use Rattle.load_lines.proofs.source.Source.word.Goals as goal

pub returns-else-eat_word-clause-refused : goal.returns-else-eat_word-clause-refused
returns-else-eat_word-clause-refused c =
    let none = was_missing (TheWord c.args.self.now c.args.keyword) c.args.tokens.now _ c.eat_word.new.tokens c.eat_word.ensures.eaten c.if-eat_word.false in
    unmet_part Unexpected refl (word_told c.args.keyword) none.1 (rw none.0 at c.outside.ensures)
