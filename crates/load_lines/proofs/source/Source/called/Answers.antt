use Rattle.il_syntax.specs.Grammar.{tight, SpellsArguments}
use Rattle.load_lines.proofs.Chain.{up, first, later, part}
use Rattle.il_syntax_laws.proofs.Local.{the_name_local}
use Rattle.il_syntax_laws.proofs.Alike.{tight_gap}
use Rattle.il_syntax_laws.proofs.Samples.{arguments_sampled, the_name_sampled}
use Rattle.load_lines.proofs.Breaks.{at_first, later_tight, map_breaks, s_tight, up_breaks}
use Rattle.load_lines.proofs.Completions.{the_name_filling}
use Rattle.load_lines.proofs.source.Source.called.Goals as goal

pub returns-in_err-instance-clause-refused : goal.returns-in_err-instance-clause-refused
returns-in_err-instance-clause-refused c = up _ c.from_residual.ensures.1 (first (λ x. x.0) tight (λ text x. SpellsArguments text x.1) c.in_err-instance.ensures.refused)

pub returns-in_err-arguments-clause-refused : goal.returns-in_err-arguments-clause-refused
returns-in_err-arguments-clause-refused c =
    up _ c.from_residual-in_err-arguments.ensures.1 (later (λ x. x.0) tight_gap (λ text x. SpellsArguments text x.1) the_name_local c.in_ok-instance.ensures.reads (part (λ x. x.1) c.in_err-arguments.ensures.refused))

pub returns-in_err-instance-clause-begins : goal.returns-in_err-instance-clause-begins
returns-in_err-instance-clause-begins c =
    up_breaks _ c.from_residual.ensures.1 (map_breaks (λ x. x) (λ x other us r w. w) (at_first (s_tight (the_name_sampled) (arguments_sampled)) c.in_err-instance.ensures.first))

pub returns-in_err-arguments-clause-begins : goal.returns-in_err-arguments-clause-begins
returns-in_err-arguments-clause-begins c =
    up_breaks _ c.from_residual-in_err-arguments.ensures.1 (map_breaks (λ x. x) (λ x other us r w. w) (later_tight (the_name_filling) c.in_ok-instance.ensures.reads (arguments_sampled) c.in_err-arguments.ensures.begins))
