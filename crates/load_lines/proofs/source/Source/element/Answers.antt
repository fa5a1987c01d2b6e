use Rattle.std.proofs.Common.{arith, refl}
use Rattle.il_syntax.specs.declared.token.Sign.TheVariants.{CloseBracket}
use Rattle.il_syntax.specs.Grammar.{TheSign}
use Rattle.load_lines.specs.Reads.{gap_of}
use Rattle.load_lines.proofs.Chain.{up, first, later, last_missing}
use Rattle.load_lines.proofs.Through.{ok_both, ok_through, err_through}
use Rattle.il_syntax_laws.proofs.Local.{index_local}
use Rattle.load_lines.proofs.Alternatives.{gap_is}
use Rattle.load_lines.proofs.Breaks.{at_first, map_breaks, up_breaks}
use Rattle.load_lines.proofs.Completions.{element_sampled, index_filling, later_gap}
use Rattle.il_syntax_laws.proofs.Samples.{sign_sampled}
use Rattle.load_lines.specs.Operands.{SpellsElement}
use Rattle.load_lines.proofs.source.Source.element.Goals as goal

pub returns-in_err-index-clause-refused : goal.returns-in_err-index-clause-refused
returns-in_err-index-clause-refused c = up _ c.from_residual.ensures.1 (first (λ i. i) (gap_of c.args.gap) (λ text i. TheSign CloseBracket) c.in_err-index.ensures.refused)

pub returns-clause-refused : goal.returns-clause-refused
returns-clause-refused c = err_through c.closed.result c.closed.ensures.misses (λ e bad.
    (later (λ i. i) (gap_is c.args.gap) (λ text i. TheSign CloseBracket) index_local c.in_ok-index.ensures.reads (last_missing (rw c.pass.ensures.rest at bad))))

pub returns-clause-reads : goal.returns-clause-reads
returns-clause-reads c = ok_both c.closed.result c.closed.ensures.value c.closed.ensures.stands (λ x same end. rw same
    (record { found = (_, c.in_ok-index.ensures.reads.found, (rw c.pass.ensures.rest at end).found) }))

pub returns-clause-shorter : goal.returns-clause-shorter
returns-clause-shorter c = ok_through c.closed.result c.closed.ensures.shorter (λ x less. omega (arith, less, c.in_ok-index.ensures.shorter, c.pass.ensures.shorter))

pub returns-in_err-index-clause-begins : goal.returns-in_err-index-clause-begins
returns-in_err-index-clause-begins c = up_breaks _ c.from_residual.ensures.1 (at_first (element_sampled c.args.gap) c.in_err-index.ensures.first)

pub returns-clause-begins : goal.returns-clause-begins
returns-clause-begins c = err_through c.closed.result c.closed.ensures.first (λ e bad.
    (map_breaks {Q = λ text. SpellsElement text (gap_of c.args.gap)} (λ x. x.0) (λ x other us r w. w) (later_gap {Q = λ text (u : Unit {0}). TheSign CloseBracket} c.args.gap index_filling c.in_ok-index.ensures.reads (sign_sampled CloseBracket) refl (at_first (sign_sampled CloseBracket) (rw c.pass.ensures.rest at bad)))))
