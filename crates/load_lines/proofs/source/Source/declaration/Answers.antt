use Rattle.il_syntax.specs.Grammar.{loose}
use Rattle.load_lines.specs.Reads.{SpellsTyped}
use Rattle.load_lines.proofs.Chain.{up, first, later, part}
use Rattle.il_syntax_laws.proofs.Alike.{loose_gap}
use Rattle.load_lines.proofs.Alternatives.{names_local}
use Rattle.load_lines.proofs.Breaks.{first_loose, later_loose, map_breaks, up_breaks}
use Rattle.load_lines.proofs.Completions.{names_filling}
use Rattle.std.proofs.Common.{refl}
use Rattle.il_syntax_laws.proofs.Samples.{typed_sampled}
use Rattle.load_lines.proofs.source.Source.declaration.Goals as goal

pub returns-in_err-names-clause-refused : goal.returns-in_err-names-clause-refused
returns-in_err-names-clause-refused c =
    up _ c.from_residual.ensures.1 (first (λ d. d.names) loose (λ text d. SpellsTyped text (d.declared, d.initial)) c.in_err-names.ensures.refused)

pub returns-in_err-declared-clause-refused : goal.returns-in_err-declared-clause-refused
returns-in_err-declared-clause-refused c =
    up _ c.from_residual-in_err-declared.ensures.1
    (later (λ d. d.names) loose_gap (λ text d. SpellsTyped text (d.declared, d.initial)) names_local c.in_ok-names.ensures.reads
    (part (λ d. (d.declared, d.initial)) (rw c.skip_lines.ensures.rest at c.in_err-declared.ensures.refused)))

pub returns-clause-reads : goal.returns-clause-reads
returns-clause-reads c = record { found = (_, c.in_ok-names.ensures.reads.found, (rw c.skip_lines.ensures.rest at c.in_ok-declared.ensures.reads).found) }

pub returns-in_err-names-clause-begins : goal.returns-in_err-names-clause-begins
returns-in_err-names-clause-begins c =
    up_breaks _ c.from_residual.ensures.1 (map_breaks (λ x. record { names = x.0; declared = x.1.0; initial = x.1.1 }) (λ x other us r w. w) (first_loose (typed_sampled) refl c.in_err-names.ensures.begins))

pub returns-in_err-declared-clause-begins : goal.returns-in_err-declared-clause-begins
returns-in_err-declared-clause-begins c =
    up_breaks _ c.from_residual-in_err-declared.ensures.1 (map_breaks (λ x. record { names = x.0; declared = x.1.0; initial = x.1.1 }) (λ x other us r w. w) (later_loose (names_filling) c.in_ok-names.ensures.reads (typed_sampled) refl (rw c.skip_lines.ensures.rest at c.in_err-declared.ensures.begins)))
