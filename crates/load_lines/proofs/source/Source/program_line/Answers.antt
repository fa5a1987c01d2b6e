use Rattle.il_syntax.specs.declared.keyword.Keyword.TheVariants as word
use Rattle.il_syntax.specs.Grammar.{loose, ◌⋯◌, TheName}
use Rattle.load_lines.specs.Settings.{SpellsWith}
use Rattle.load_lines.proofs.Chain.{up, first, later, part}
use Rattle.il_syntax_laws.proofs.Local.{the_name_local, placed_word_local}
use Rattle.il_syntax_laws.proofs.Alike.{loose_gap}
use Rattle.load_lines.proofs.Breaks.{at_first, later_loose, map_breaks, s_loose, up_breaks}
use Rattle.load_lines.proofs.Completions.{placed_word_filling, the_name_filling, with_sampled}
use Rattle.il_syntax_laws.proofs.Samples.{placed_word_sampled, the_name_sampled}
use Rattle.std.proofs.Common.{refl}
use Rattle.load_lines.proofs.source.Source.program_line.Goals as goal

pub returns-in_err-place-clause-refused : goal.returns-in_err-place-clause-refused
returns-in_err-place-clause-refused c =
    up _ c.from_residual.ensures.1
    (first (λ b. b.place) loose (λ text b. TheName text b.name ⋯ SpellsWith text (b.task, b.program)) c.in_err-place.ensures.refused)

pub returns-in_err-name-clause-refused : goal.returns-in_err-name-clause-refused
returns-in_err-name-clause-refused c =
    up _ c.from_residual-in_err-name.ensures.1
    (later (λ b. b.place) loose_gap (λ text b. TheName text b.name ⋯ SpellsWith text (b.task, b.program)) (placed_word_local word.Program) c.in_ok-place.ensures.reads
    (first (λ b. b.name) loose (λ text b. SpellsWith text (b.task, b.program)) (rw c.skip_lines.ensures.rest at c.in_err-name.ensures.refused)))

pub returns-in_err-task-clause-refused : goal.returns-in_err-task-clause-refused
returns-in_err-task-clause-refused c =
    up _ c.from_residual-in_err-task.ensures.1
    (later (λ b. b.place) loose_gap (λ text b. TheName text b.name ⋯ SpellsWith text (b.task, b.program)) (placed_word_local word.Program) c.in_ok-place.ensures.reads
    (later (λ b. b.name) loose_gap (λ text b. SpellsWith text (b.task, b.program)) the_name_local (rw c.skip_lines.ensures.rest at c.in_ok-name.ensures.reads)
    (part (λ b. (b.task, b.program)) (rw c.skip_lines-2.ensures.rest at c.in_err-task.ensures.refused))))

pub returns-clause-reads : goal.returns-clause-reads
returns-clause-reads c = record { found = (_, c.in_ok-place.ensures.reads.found, (_, (rw c.skip_lines.ensures.rest at c.in_ok-name.ensures.reads).found, (rw c.skip_lines-2.ensures.rest at c.in_ok-task.ensures.reads).found)) }

pub returns-in_err-place-clause-begins : goal.returns-in_err-place-clause-begins
returns-in_err-place-clause-begins c =
    up_breaks _ c.from_residual.ensures.1 (map_breaks (λ x. record { place = x.0; name = x.1.0; task = x.1.1.0; program = x.1.1.1 }) (λ x other us r w. w) (at_first (s_loose (placed_word_sampled word.Program) (s_loose (the_name_sampled) (with_sampled) refl) refl) c.in_err-place.ensures.first))

pub returns-in_err-name-clause-begins : goal.returns-in_err-name-clause-begins
returns-in_err-name-clause-begins c =
    up_breaks _ c.from_residual-in_err-name.ensures.1 (map_breaks (λ x. record { place = x.0; name = x.1.0; task = x.1.1.0; program = x.1.1.1 }) (λ x other us r w. w) (later_loose (placed_word_filling word.Program) c.in_ok-place.ensures.reads (s_loose (the_name_sampled) (with_sampled) refl) refl (at_first (s_loose (the_name_sampled) (with_sampled) refl) (rw c.skip_lines.ensures.rest at c.in_err-name.ensures.first))))

pub returns-in_err-task-clause-begins : goal.returns-in_err-task-clause-begins
returns-in_err-task-clause-begins c =
    up_breaks _ c.from_residual-in_err-task.ensures.1 (map_breaks (λ x. record { place = x.0; name = x.1.0; task = x.1.1.0; program = x.1.1.1 }) (λ x other us r w. w) (later_loose (placed_word_filling word.Program) c.in_ok-place.ensures.reads (s_loose (the_name_sampled) (with_sampled) refl) refl (later_loose (the_name_filling) (rw c.skip_lines.ensures.rest at c.in_ok-name.ensures.reads) (with_sampled) refl (rw c.skip_lines-2.ensures.rest at c.in_err-task.ensures.begins))))
