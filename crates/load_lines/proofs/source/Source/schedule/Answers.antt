use Rattle.std.proofs.Common.{arith, refl}
use Rattle.il_syntax.specs.declared.token.Sign.TheVariants.{Comma}
use Rattle.il_syntax.specs.Grammar.{loose, ◌⋯◌, TheSign}
use Rattle.load_lines.specs.Settings.{SpellsPriority}
use Rattle.load_lines.proofs.Chain.{up, first, later, first_missing, behind, part}
use Rattle.il_syntax_laws.proofs.Local.{sign_local, interval_local}
use Rattle.il_syntax_laws.proofs.Alike.{loose_gap}
use Rattle.load_lines.proofs.Breaks.{at_first, later_loose, map_breaks, part_loose, s_loose, s_part, up_breaks}
use Rattle.load_lines.proofs.Completions.{interval_filling, priority_sampled}
use Rattle.il_syntax_laws.proofs.Samples.{interval_sampled, sign_sampled}
use Rattle.il_syntax_laws.proofs.Open.{sign_fills}
use Rattle.load_lines.proofs.source.Source.schedule.Goals as goal

pub returns-in_err-interval-clause-refused : goal.returns-in_err-interval-clause-refused
returns-in_err-interval-clause-refused c =
    up _ c.from_residual.ensures.1 (first (λ x. x.0) loose (λ text x. TheSign Comma ⋯ SpellsPriority text x.1) c.in_err-interval.ensures.refused)

pub returns-in_err-sign-clause-refused : goal.returns-in_err-sign-clause-refused
returns-in_err-sign-clause-refused c =
    up _ c.from_residual-in_err-sign.ensures.1
    (later (λ x. x.0) loose_gap (λ text x. TheSign Comma ⋯ SpellsPriority text x.1) interval_local c.in_ok-interval.ensures.reads
    (first_missing loose (λ text x. SpellsPriority text x.1) (rw c.skip_lines.ensures.rest at c.in_err-sign.ensures.refused)))

pub returns-in_err-priority-clause-refused : goal.returns-in_err-priority-clause-refused
returns-in_err-priority-clause-refused c =
    up _ c.from_residual-in_err-priority.ensures.1
    (later (λ x. x.0) loose_gap (λ text x. TheSign Comma ⋯ SpellsPriority text x.1) interval_local c.in_ok-interval.ensures.reads
    (behind loose_gap (λ text x. SpellsPriority text x.1) (sign_local Comma) (rw c.skip_lines.ensures.rest at c.in_ok-sign.ensures.reads)
    (part (λ x. x.1) (rw c.skip_lines-2.ensures.rest at c.in_err-priority.ensures.refused))))

pub returns-clause-shorter : goal.returns-clause-shorter
returns-clause-shorter c = omega (arith, c.in_ok-interval.ensures.shorter, c.skip_lines.ensures.shorter, c.in_ok-sign.ensures.shorter, c.skip_lines-2.ensures.shorter, c.in_ok-priority.ensures.shorter)

pub returns-in_err-interval-clause-begins : goal.returns-in_err-interval-clause-begins
returns-in_err-interval-clause-begins c =
    up_breaks _ c.from_residual.ensures.1 (map_breaks (λ x. x) (λ x other us r w. w) (at_first (s_loose (interval_sampled) (s_part (sign_sampled Comma) (priority_sampled) refl) refl) c.in_err-interval.ensures.first))

pub returns-in_err-sign-clause-begins : goal.returns-in_err-sign-clause-begins
returns-in_err-sign-clause-begins c =
    up_breaks _ c.from_residual-in_err-sign.ensures.1 (map_breaks (λ x. x) (λ x other us r w. w) (later_loose (interval_filling) c.in_ok-interval.ensures.reads (s_part (sign_sampled Comma) (priority_sampled) refl) refl (at_first (s_part (sign_sampled Comma) (priority_sampled) refl) (rw c.skip_lines.ensures.rest at c.in_err-sign.ensures.first))))

pub returns-in_err-priority-clause-begins : goal.returns-in_err-priority-clause-begins
returns-in_err-priority-clause-begins c =
    up_breaks _ c.from_residual-in_err-priority.ensures.1 (map_breaks (λ x. x) (λ x other us r w. w) (later_loose (interval_filling) c.in_ok-interval.ensures.reads (s_part (sign_sampled Comma) (priority_sampled) refl) refl (part_loose (sign_fills Comma) (rw c.skip_lines.ensures.rest at c.in_ok-sign.ensures.reads) (priority_sampled) refl (rw c.skip_lines-2.ensures.rest at c.in_err-priority.ensures.begins))))
