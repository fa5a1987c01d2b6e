use Rattle.load_lines.proofs.Chain.{up}
use Rattle.load_lines.proofs.Alternatives.{word_refused, passed_refused, argument_read}
use Rattle.load_lines.proofs.Completions.{any_named_filling, any_passed_sampled, argument_is}
use Rattle.il_syntax_laws.proofs.GoesOn.{any_sampled}
use Rattle.il_syntax_laws.proofs.Samples.{argument_sampled}
use Rattle.load_lines.proofs.Breaks.{at_first, later_loose, map_breaks, up_breaks}
use Rattle.std.proofs.Common.{refl}
use Rattle.load_lines.specs.Operands.{argument_of}
use Rattle.load_lines.proofs.source.Source.argument.Goals as goal

pub returns-in_err-word-clause-refused : goal.returns-in_err-word-clause-refused
returns-in_err-word-clause-refused c = up _ c.from_residual.ensures.1 (word_refused c.args.self.now _ _ c.in_err-word.ensures.refused)

pub returns-in_err-passed-clause-refused : goal.returns-in_err-passed-clause-refused
returns-in_err-passed-clause-refused c =
    up _ c.from_residual-in_err-passed.ensures.1 (passed_refused c.args.self.now _ _ _ _ c.in_ok-word.ensures.reads (rw c.skip_lines.ensures.rest at c.in_err-passed.ensures.refused))

pub returns-clause-reads : goal.returns-clause-reads
returns-clause-reads c = rw c.argument_of.ensures (argument_read c.args.self.now _ _ _ _ _ c.in_ok-word.ensures.reads (rw c.skip_lines.ensures.rest at c.in_ok-passed.ensures.reads))

pub returns-in_err-word-clause-begins : goal.returns-in_err-word-clause-begins
returns-in_err-word-clause-begins c = up_breaks _ c.from_residual.ensures.1 (at_first (any_sampled argument_sampled) c.in_err-word.ensures.first)

pub returns-in_err-passed-clause-begins : goal.returns-in_err-passed-clause-begins
returns-in_err-passed-clause-begins c = up_breaks _ c.from_residual-in_err-passed.ensures.1 (map_breaks (λ x. argument_of x.0 x.1) argument_is (later_loose any_named_filling c.in_ok-word.ensures.reads any_passed_sampled refl (rw c.skip_lines.ensures.rest at c.in_err-passed.ensures.begins)))
