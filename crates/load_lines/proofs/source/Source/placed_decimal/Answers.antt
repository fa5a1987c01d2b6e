use Rattle.il_syntax.specs.declared.token.Sign.TheVariants.{Semicolon}
use Rattle.il_syntax.specs.Grammar.{loose, TheSign}
use Rattle.il_syntax_laws.proofs.Alike.{loose_gap}
use Rattle.il_syntax_laws.proofs.Local.{decimal_local}
use Rattle.load_lines.proofs.Chain.{up, first, last_missing, at_refused, at_later}
use Rattle.load_lines.proofs.Breaks.{at_first, later_loose, map_breaks, s_loose, up_breaks}
use Rattle.load_lines.proofs.Completions.{decimal_filling, placed_filling, placed_read, placed_sampled}
use Rattle.il_syntax_laws.proofs.Samples.{decimal_sampled, sign_sampled}
use Rattle.std.proofs.Common.{refl}
use Rattle.load_lines.proofs.source.Source.placed_decimal.Goals as goal

pub returns-in_err-value-clause-refused : goal.returns-in_err-value-clause-refused
returns-in_err-value-clause-refused c =
    up _ c.from_residual.ensures.1 (first (λ s. s) loose (λ text s. TheSign Semicolon) (at_refused (λ s. s.place) (λ s. s.value) c.in_err-value.ensures.refused))

pub returns-in_err-sign-clause-refused : goal.returns-in_err-sign-clause-refused
returns-in_err-sign-clause-refused c =
    up _ c.from_residual-in_err-sign.ensures.1
    (at_later (λ s. s.place) (λ s. s.value) loose_gap (λ text s. TheSign Semicolon) decimal_local c.in_ok-value.ensures.reads (last_missing (rw c.skip_lines.ensures.rest at c.in_err-sign.ensures.refused)))

pub returns-in_default-clause-begins : goal.returns-in_default-clause-begins
returns-in_default-clause-begins c = (map_breaks (λ x. record { place = x.0.0; value = x.0.1 }) (λ x other us r w. w) (at_first (s_loose (placed_sampled decimal_filling decimal_sampled) (sign_sampled Semicolon) refl) (λ _. c.outside.ensures)))

pub returns-in_err-value-clause-begins : goal.returns-in_err-value-clause-begins
returns-in_err-value-clause-begins c =
    up_breaks _ c.from_residual.ensures.1 (map_breaks (λ x. record { place = x.0.0; value = x.0.1 }) (λ x other us r w. w) (at_first (s_loose (placed_sampled decimal_filling decimal_sampled) (sign_sampled Semicolon) refl) c.in_err-value.ensures.first))

pub returns-in_err-sign-clause-begins : goal.returns-in_err-sign-clause-begins
returns-in_err-sign-clause-begins c =
    up_breaks _ c.from_residual-in_err-sign.ensures.1 (map_breaks (λ x. record { place = x.0.0; value = x.0.1 }) (λ x other us r w. w) (later_loose (placed_filling decimal_filling) (placed_read decimal_filling c.in_ok-value.ensures.reads) (sign_sampled Semicolon) refl (at_first (sign_sampled Semicolon) (rw c.skip_lines.ensures.rest at c.in_err-sign.ensures.first))))
