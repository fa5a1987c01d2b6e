use Rattle.il_syntax.specs.declared.keyword.Keyword.TheVariants as word
use Rattle.il_syntax.specs.Grammar.{tight, ◌⨾◌}
use Rattle.load_tree.specs.Parts.{SpellsPrograms, SpellsLines}
use Rattle.load_lines.specs.Settings.{PlacedWord}
use Rattle.load_lines.proofs.Chain.{up, first, later, part}
use Rattle.il_syntax_laws.proofs.Alike.{tight_gap}
use Rattle.load_tree.proofs.Parts.{tasks_local, programs_local}
use Rattle.std.proofs.Common.{[]}
use Rattle.load_lines.proofs.Breaks.{at_first, map_breaks, up_breaks}
use Rattle.load_tree.proofs.Rests.{first_asked, lines_rest_sampled, passes_stopped, programs_later, tasks_later}
use Rattle.il_syntax_laws.proofs.Samples.{placed_word_sampled}
use Rattle.load_tree.proofs.configuration.lines.Goals as goal

pub returns-in_err-tasks-clause-refused : goal.returns-in_err-tasks-clause-refused
returns-in_err-tasks-clause-refused c =
    up _ c.from_residual.ensures.1
    (first (λ b. b.0) tight (λ text b. SpellsPrograms text b.1 ⨾ PlacedWord text word.EndResource b.2) c.in_err-tasks.ensures.refused)

pub returns-in_err-programs-clause-refused : goal.returns-in_err-programs-clause-refused
returns-in_err-programs-clause-refused c =
    up _ c.from_residual-in_err-programs.ensures.1
    (later (λ b. b.0) tight_gap (λ text b. SpellsPrograms text b.1 ⨾ PlacedWord text word.EndResource b.2) tasks_local c.in_ok-tasks.ensures.reads
    (first (λ b. b.1) tight (λ text b. PlacedWord text word.EndResource b.2) c.in_err-programs.ensures.refused))

pub returns-in_err-end-clause-refused : goal.returns-in_err-end-clause-refused
returns-in_err-end-clause-refused c =
    up _ c.from_residual-in_err-end.ensures.1
    (later (λ b. b.0) tight_gap (λ text b. SpellsPrograms text b.1 ⨾ PlacedWord text word.EndResource b.2) tasks_local c.in_ok-tasks.ensures.reads
    (later (λ b. b.1) tight_gap (λ text b. PlacedWord text word.EndResource b.2) programs_local c.in_ok-programs.ensures.reads
    (part (λ b. b.2) c.in_err-end.ensures.refused)))

pub returns-clause-reads : goal.returns-clause-reads
returns-clause-reads c = record { found = (_, c.in_ok-tasks.ensures.reads.found, (_, c.in_ok-programs.ensures.reads.found, c.in_ok-end.ensures.reads.found)) }

pub returns-in_err-tasks-clause-begins : goal.returns-in_err-tasks-clause-begins
returns-in_err-tasks-clause-begins c = up_breaks _ c.from_residual.ensures.1 (map_breaks {Q = SpellsLines} (λ x. (x.0, x.1.0, x.1.1)) (λ x other us r w. w) (first_asked lines_rest_sampled (passes_stopped word.Task word.EndResource [] (λ e. cc)) c.in_err-tasks.ensures.begins))

pub returns-in_err-programs-clause-begins : goal.returns-in_err-programs-clause-begins
returns-in_err-programs-clause-begins c = up_breaks _ c.from_residual-in_err-programs.ensures.1 (map_breaks {Q = SpellsLines} (λ x. (x.0, x.1.0, x.1.1)) (λ x other us r w. w) (tasks_later c.in_ok-tasks.ensures.reads lines_rest_sampled (passes_stopped word.Task word.EndResource [] (λ e. cc)) (first_asked (placed_word_sampled word.EndResource) (passes_stopped word.Program word.EndResource [] (λ e. cc)) c.in_err-programs.ensures.begins)))

pub returns-in_err-end-clause-begins : goal.returns-in_err-end-clause-begins
returns-in_err-end-clause-begins c = up_breaks _ c.from_residual-in_err-end.ensures.1 (map_breaks {Q = SpellsLines} (λ x. (x.0, x.1.0, x.1.1)) (λ x other us r w. w) (tasks_later c.in_ok-tasks.ensures.reads lines_rest_sampled (passes_stopped word.Task word.EndResource [] (λ e. cc)) (programs_later c.in_ok-programs.ensures.reads (placed_word_sampled word.EndResource) (passes_stopped word.Program word.EndResource [] (λ e. cc)) (at_first (placed_word_sampled word.EndResource) c.in_err-end.ensures.first))))
