use Rattle.il_syntax.specs.declared.token.Sign.TheVariants.{Semicolon}
use Rattle.il_syntax.specs.Grammar.{TheSign}
use Rattle.il_syntax_laws.proofs.Alike.{loose_gap}
use Rattle.il_syntax_laws.proofs.Local.{literal_local}
use Rattle.load_lines.proofs.Chain.{up, last_missing, at_later}
use Rattle.load_lines.proofs.Breaks.{at_first, later_loose, map_breaks, s_loose, up_breaks}
use Rattle.load_lines.proofs.Completions.{literal_filling, placed_filling, placed_read, placed_sampled}
use Rattle.il_syntax_laws.proofs.Samples.{literal_sampled, sign_sampled}
use Rattle.std.proofs.Common.{refl}
use Rattle.load_lines.proofs.source.Source.value.Goals as goal

pub returns-in_err-sign-clause-refused : goal.returns-in_err-sign-clause-refused
returns-in_err-sign-clause-refused c =
    up _ c.from_residual-in_err-sign.ensures.1
    (at_later (λ i. i.place) (λ i. i.literal) loose_gap (λ text i. TheSign Semicolon) literal_local c.in_ok-literal.ensures.reads (last_missing (rw c.skip_lines.ensures.rest at c.in_err-sign.ensures.refused)))

pub returns-in_default-clause-begins : goal.returns-in_default-clause-begins
returns-in_default-clause-begins c = (map_breaks (λ x. record { place = x.0.0; literal = x.0.1 }) (λ x other us r w. w) (at_first (s_loose (placed_sampled literal_filling literal_sampled) (sign_sampled Semicolon) refl) (λ _. c.outside.ensures)))

pub returns-in_err-literal-clause-begins : goal.returns-in_err-literal-clause-begins
returns-in_err-literal-clause-begins c =
    up_breaks _ c.from_residual.ensures.1 (map_breaks (λ x. record { place = x.0.0; literal = x.0.1 }) (λ x other us r w. w) (at_first (s_loose (placed_sampled literal_filling literal_sampled) (sign_sampled Semicolon) refl) c.in_err-literal.ensures.first))

pub returns-in_err-sign-clause-begins : goal.returns-in_err-sign-clause-begins
returns-in_err-sign-clause-begins c =
    up_breaks _ c.from_residual-in_err-sign.ensures.1 (map_breaks (λ x. record { place = x.0.0; literal = x.0.1 }) (λ x other us r w. w) (later_loose (placed_filling literal_filling) (placed_read literal_filling c.in_ok-literal.ensures.reads) (sign_sampled Semicolon) refl (at_first (sign_sampled Semicolon) (rw c.skip_lines.ensures.rest at c.in_err-sign.ensures.first))))
