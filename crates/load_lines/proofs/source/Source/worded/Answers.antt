use Rattle.load_lines.proofs.Instructions.{none_refused, no_word}
use Rattle.load_lines.proofs.Completions.{roomy_first}
use Rattle.load_lines.proofs.source.Source.worded.Goals as goal

pub returns-in_default-clause-refused : goal.returns-in_default-clause-refused
returns-in_default-clause-refused c =
    none_refused c.args.self.now _ _ _ _ c.requires
    (no_word c.args.keyword c.in_default.not-Load c.in_default.not-Store c.in_default.not-Not c.in_default.not-Operate c.in_default.not-Jump c.in_default.not-Return c.in_default.not-Call) c.outside.ensures

pub returns-in_default-clause-begins : goal.returns-in_default-clause-begins
returns-in_default-clause-begins c = roomy_first _ (λ _. c.outside.ensures)
