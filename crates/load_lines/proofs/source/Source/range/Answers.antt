use Rattle.std.proofs.Common.{arith, refl}
use Rattle.il_syntax.specs.declared.token.Sign.TheVariants.{Range}
use Rattle.il_syntax.specs.Grammar.{loose, ◌⋯◌, TheSign, ANumber}
use Rattle.load_lines.proofs.Chain.{up, first, later, first_missing, behind, part}
use Rattle.il_syntax_laws.proofs.Local.{sign_local, number_local}
use Rattle.il_syntax_laws.proofs.Alike.{loose_gap}
use Rattle.load_lines.proofs.Breaks.{at_first, later_loose, map_breaks, part_loose, s_loose, s_part, up_breaks}
use Rattle.load_lines.proofs.Completions.{number_filling}
use Rattle.il_syntax_laws.proofs.Samples.{number_sampled, sign_sampled}
use Rattle.il_syntax_laws.proofs.Open.{sign_fills}
use Rattle.load_lines.proofs.source.Source.range.Goals as goal

pub returns-in_err-lower-clause-refused : goal.returns-in_err-lower-clause-refused
returns-in_err-lower-clause-refused c = up _ c.from_residual.ensures.1 (first (λ s. s.lower) loose (λ text s. TheSign Range ⋯ ANumber s.upper) c.in_err-lower.ensures.refused)

pub returns-in_err-sign-clause-refused : goal.returns-in_err-sign-clause-refused
returns-in_err-sign-clause-refused c =
    up _ c.from_residual-in_err-sign.ensures.1
    (later (λ s. s.lower) loose_gap (λ text s. TheSign Range ⋯ ANumber s.upper) number_local c.in_ok-lower.ensures.reads
    (first_missing loose (λ text s. ANumber s.upper) (rw c.skip_lines.ensures.rest at c.in_err-sign.ensures.refused)))

pub returns-in_err-upper-clause-refused : goal.returns-in_err-upper-clause-refused
returns-in_err-upper-clause-refused c =
    up _ c.from_residual-in_err-upper.ensures.1
    (later (λ s. s.lower) loose_gap (λ text s. TheSign Range ⋯ ANumber s.upper) number_local c.in_ok-lower.ensures.reads
    (behind loose_gap (λ text s. ANumber s.upper) (sign_local Range) (rw c.skip_lines.ensures.rest at c.in_ok-sign.ensures.reads)
    (part (λ s. s.upper) (rw c.skip_lines-2.ensures.rest at c.in_err-upper.ensures.refused))))

pub returns-clause-shorter : goal.returns-clause-shorter
returns-clause-shorter c = omega (arith, c.in_ok-lower.ensures.shorter, c.skip_lines.ensures.shorter, c.in_ok-sign.ensures.shorter, c.skip_lines-2.ensures.shorter, c.in_ok-upper.ensures.shorter)

pub returns-in_err-lower-clause-begins : goal.returns-in_err-lower-clause-begins
returns-in_err-lower-clause-begins c =
    up_breaks _ c.from_residual.ensures.1 (map_breaks (λ x. record { lower = x.0; upper = x.1 }) (λ x other us r w. w) (at_first (s_loose (number_sampled) (s_part (sign_sampled Range) (number_sampled) refl) refl) c.in_err-lower.ensures.first))

pub returns-in_err-sign-clause-begins : goal.returns-in_err-sign-clause-begins
returns-in_err-sign-clause-begins c =
    up_breaks _ c.from_residual-in_err-sign.ensures.1 (map_breaks (λ x. record { lower = x.0; upper = x.1 }) (λ x other us r w. w) (later_loose (number_filling) c.in_ok-lower.ensures.reads (s_part (sign_sampled Range) (number_sampled) refl) refl (at_first (s_part (sign_sampled Range) (number_sampled) refl) (rw c.skip_lines.ensures.rest at c.in_err-sign.ensures.first))))

pub returns-in_err-upper-clause-begins : goal.returns-in_err-upper-clause-begins
returns-in_err-upper-clause-begins c =
    up_breaks _ c.from_residual-in_err-upper.ensures.1 (map_breaks (λ x. record { lower = x.0; upper = x.1 }) (λ x other us r w. w) (later_loose (number_filling) c.in_ok-lower.ensures.reads (s_part (sign_sampled Range) (number_sampled) refl) refl (part_loose (sign_fills Range) (rw c.skip_lines.ensures.rest at c.in_ok-sign.ensures.reads) (number_sampled) refl (at_first (number_sampled) (rw c.skip_lines-2.ensures.rest at c.in_err-upper.ensures.first)))))
