use Rattle.il_syntax.specs.declared.token.Sign.TheVariants.{Colon}
use Rattle.il_syntax.specs.Grammar.{loose, ◌⋯◌, TheSign}
use Rattle.load_lines.specs.Settings.{SpellsProgramName}
use Rattle.load_lines.proofs.Chain.{up, first, later, first_missing, behind, part}
use Rattle.il_syntax_laws.proofs.Local.{sign_local, the_name_local}
use Rattle.il_syntax_laws.proofs.Alike.{loose_gap}
use Rattle.load_lines.proofs.Breaks.{at_first, later_loose, map_breaks, part_loose, s_loose, s_part, up_breaks}
use Rattle.load_lines.proofs.Completions.{program_name_sampled, the_name_filling}
use Rattle.std.proofs.Common.{refl}
use Rattle.il_syntax_laws.proofs.Open.{sign_fills}
use Rattle.il_syntax_laws.proofs.Samples.{sign_sampled, the_name_sampled}
use Rattle.load_lines.proofs.source.Source.bound.Goals as goal

pub returns-in_err-task-clause-refused : goal.returns-in_err-task-clause-refused
returns-in_err-task-clause-refused c =
    up _ c.from_residual.ensures.1 (first (λ b. b.0) loose (λ text b. TheSign Colon ⋯ SpellsProgramName text b.1) c.in_err-task.ensures.refused)

pub returns-in_err-sign-clause-refused : goal.returns-in_err-sign-clause-refused
returns-in_err-sign-clause-refused c =
    up _ c.from_residual-in_err-sign.ensures.1
    (later (λ b. b.0) loose_gap (λ text b. TheSign Colon ⋯ SpellsProgramName text b.1) the_name_local c.in_ok-task.ensures.reads
    (first_missing loose (λ text b. SpellsProgramName text b.1) (rw c.skip_lines.ensures.rest at c.in_err-sign.ensures.refused)))

pub returns-in_err-program-clause-refused : goal.returns-in_err-program-clause-refused
returns-in_err-program-clause-refused c =
    up _ c.from_residual-in_err-program.ensures.1
    (later (λ b. b.0) loose_gap (λ text b. TheSign Colon ⋯ SpellsProgramName text b.1) the_name_local c.in_ok-task.ensures.reads
    (behind loose_gap (λ text b. SpellsProgramName text b.1) (sign_local Colon) (rw c.skip_lines.ensures.rest at c.in_ok-sign.ensures.reads)
    (part (λ b. b.1) (rw c.skip_lines-2.ensures.rest at c.in_err-program.ensures.refused))))

pub returns-clause-reads : goal.returns-clause-reads
returns-clause-reads c =
    record { found = (_, c.in_ok-task.ensures.reads.found, (_, (rw c.skip_lines.ensures.rest at c.in_ok-sign.ensures.reads).found, (rw c.skip_lines-2.ensures.rest at c.in_ok-program.ensures.reads).found)) }

pub returns-in_err-task-clause-begins : goal.returns-in_err-task-clause-begins
returns-in_err-task-clause-begins c =
    up_breaks _ c.from_residual.ensures.1 (map_breaks (λ x. x) (λ x other us r w. w) (at_first (s_loose (the_name_sampled) (s_part (sign_sampled Colon) (program_name_sampled) refl) refl) c.in_err-task.ensures.first))

pub returns-in_err-sign-clause-begins : goal.returns-in_err-sign-clause-begins
returns-in_err-sign-clause-begins c =
    up_breaks _ c.from_residual-in_err-sign.ensures.1 (map_breaks (λ x. x) (λ x other us r w. w) (later_loose (the_name_filling) c.in_ok-task.ensures.reads (s_part (sign_sampled Colon) (program_name_sampled) refl) refl (at_first (s_part (sign_sampled Colon) (program_name_sampled) refl) (rw c.skip_lines.ensures.rest at c.in_err-sign.ensures.first))))

pub returns-in_err-program-clause-begins : goal.returns-in_err-program-clause-begins
returns-in_err-program-clause-begins c =
    up_breaks _ c.from_residual-in_err-program.ensures.1 (map_breaks (λ x. x) (λ x other us r w. w) (later_loose (the_name_filling) c.in_ok-task.ensures.reads (s_part (sign_sampled Colon) (program_name_sampled) refl) refl (part_loose (sign_fills Colon) (rw c.skip_lines.ensures.rest at c.in_ok-sign.ensures.reads) (program_name_sampled) refl (rw c.skip_lines-2.ensures.rest at c.in_err-program.ensures.begins))))
