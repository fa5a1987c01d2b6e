use Rattle.il_syntax.specs.Grammar.{loose, SpellsInitial}
use Rattle.load_lines.proofs.Chain.{up, first, part, later_lines}
use Rattle.il_syntax_laws.proofs.Local.{type_local}
use Rattle.load_lines.proofs.Breaks.{first_type, later_type, map_breaks, up_breaks}
use Rattle.il_syntax_laws.proofs.Samples.{initial_sampled}
use Rattle.std.proofs.Common.{refl}
use Rattle.load_lines.proofs.Completions.{type_filling}
use Rattle.load_lines.proofs.source.Source.typed.Goals as goal

pub returns-in_err-declared-clause-refused : goal.returns-in_err-declared-clause-refused
returns-in_err-declared-clause-refused c =
    up _ c.from_residual.ensures.1 (first (λ x. x.0) loose (λ text x. SpellsInitial text x.1) c.in_err-declared.ensures.refused)

pub returns-in_err-initial-clause-refused : goal.returns-in_err-initial-clause-refused
returns-in_err-initial-clause-refused c =
    up _ c.from_residual-in_err-initial.ensures.1
    (later_lines (λ x. x.0) (λ text x. SpellsInitial text x.1) type_local c.in_ok-declared.ensures.reads (part (λ x. x.1) (rw c.skip_lines.ensures.rest at c.in_err-initial.ensures.refused)))

pub returns-clause-reads : goal.returns-clause-reads
returns-clause-reads c = record { found = (_, c.in_ok-declared.ensures.reads.found, (rw c.skip_lines.ensures.rest at c.in_ok-initial.ensures.reads).found) }

pub returns-in_err-declared-clause-begins : goal.returns-in_err-declared-clause-begins
returns-in_err-declared-clause-begins c =
    up_breaks _ c.from_residual.ensures.1 (map_breaks (λ x. x) (λ x other us r w. w) (first_type (initial_sampled) refl refl c.in_err-declared.ensures.begins))

pub returns-in_err-initial-clause-begins : goal.returns-in_err-initial-clause-begins
returns-in_err-initial-clause-begins c =
    up_breaks _ c.from_residual-in_err-initial.ensures.1 (map_breaks (λ x. x) (λ x other us r w. w) (later_type (type_filling) c.in_ok-declared.ensures.reads (initial_sampled) refl refl (rw c.skip_lines.ensures.rest at c.in_err-initial.ensures.begins)))
