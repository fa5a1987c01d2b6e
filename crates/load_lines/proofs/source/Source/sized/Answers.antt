use Rattle.std.proofs.Common.{arith, refl}
use Rattle.il_syntax.specs.declared.token.Sign.TheVariants.{Assign}
use Rattle.il_syntax.specs.declared.keyword.Keyword.TheVariants as word
use Rattle.il_syntax.specs.declared.tree.Elementary.TheVariants.{Int}
use Rattle.il_syntax.specs.Grammar.{loose, ◌⋯◌, TheSign}
use Rattle.load_lines.specs.Settings.{PlacedDecimal}
use Rattle.load_lines.proofs.Chain.{up, first_missing, behind}
use Rattle.load_lines.proofs.Through.{ok_through, err_through}
use Rattle.il_syntax_laws.proofs.Local.{sign_local, word_local}
use Rattle.il_syntax_laws.proofs.Alike.{loose_gap}
use Rattle.il_syntax.specs.declared.tree.Elementary.TheVariants as elementary
use Rattle.load_lines.proofs.Breaks.{at_first, map_breaks, part_loose, s_part, up_breaks}
use Rattle.load_lines.proofs.Completions.{placed_decimal_sampled}
use Rattle.il_syntax_laws.proofs.Open.{sign_fills, word_fills}
use Rattle.il_syntax_laws.proofs.Samples.{sign_sampled, word_sampled}
use Rattle.load_lines.proofs.source.Source.sized.Goals as goal

pub returns-in_err-word-clause-refused : goal.returns-in_err-word-clause-refused
returns-in_err-word-clause-refused c =
    up _ c.from_residual.ensures.1 (first_missing loose (λ text s. TheSign Assign ⋯ PlacedDecimal text s) c.in_err-word.ensures.refused)

pub returns-in_err-sign-clause-refused : goal.returns-in_err-sign-clause-refused
returns-in_err-sign-clause-refused c =
    up _ c.from_residual-in_err-sign.ensures.1
    (behind loose_gap (λ text s. TheSign Assign ⋯ PlacedDecimal text s) (word_local (word.Elementary Int)) c.in_ok-word.ensures.reads
    (first_missing loose (λ text s. PlacedDecimal text s) (rw c.skip_lines.ensures.rest at c.in_err-sign.ensures.refused)))

pub returns-clause-refused : goal.returns-clause-refused
returns-clause-refused c = err_through c.placed_decimal.result c.placed_decimal.ensures.refused (λ e bad.
    (behind loose_gap (λ text s. TheSign Assign ⋯ PlacedDecimal text s) (word_local (word.Elementary Int)) c.in_ok-word.ensures.reads
    (behind loose_gap (λ text s. PlacedDecimal text s) (sign_local Assign) (rw c.skip_lines.ensures.rest at c.in_ok-sign.ensures.reads)
    (rw c.skip_lines-2.ensures.rest at bad))))

pub returns-clause-reads : goal.returns-clause-reads
returns-clause-reads c = ok_through c.placed_decimal.result c.placed_decimal.ensures.reads (λ x here.
    record { found = (_, c.in_ok-word.ensures.reads.found, (_, (rw c.skip_lines.ensures.rest at c.in_ok-sign.ensures.reads).found, (rw c.skip_lines-2.ensures.rest at here).found)) })

pub returns-clause-shorter : goal.returns-clause-shorter
returns-clause-shorter c = ok_through c.placed_decimal.result c.placed_decimal.ensures.shorter (λ x less. omega (arith, less, c.in_ok-word.ensures.shorter, c.skip_lines.ensures.shorter, c.in_ok-sign.ensures.shorter, c.skip_lines-2.ensures.shorter))

pub returns-in_err-word-clause-begins : goal.returns-in_err-word-clause-begins
returns-in_err-word-clause-begins c =
    up_breaks _ c.from_residual.ensures.1 (map_breaks (λ x. x) (λ x other us r w. w) (at_first (s_part (word_sampled (word.Elementary elementary.Int)) (s_part (sign_sampled Assign) (placed_decimal_sampled) refl) refl) c.in_err-word.ensures.first))

pub returns-in_err-sign-clause-begins : goal.returns-in_err-sign-clause-begins
returns-in_err-sign-clause-begins c =
    up_breaks _ c.from_residual-in_err-sign.ensures.1 (map_breaks (λ x. x) (λ x other us r w. w) (part_loose (word_fills (word.Elementary elementary.Int)) c.in_ok-word.ensures.reads (s_part (sign_sampled Assign) (placed_decimal_sampled) refl) refl (at_first (s_part (sign_sampled Assign) (placed_decimal_sampled) refl) (rw c.skip_lines.ensures.rest at c.in_err-sign.ensures.first))))

pub returns-clause-begins : goal.returns-clause-begins
returns-clause-begins c = err_through c.placed_decimal.result c.placed_decimal.ensures.begins (λ e bad.
    (map_breaks (λ x. x) (λ x other us r w. w) (part_loose (word_fills (word.Elementary elementary.Int)) c.in_ok-word.ensures.reads (s_part (sign_sampled Assign) (placed_decimal_sampled) refl) refl (part_loose (sign_fills Assign) (rw c.skip_lines.ensures.rest at c.in_ok-sign.ensures.reads) (placed_decimal_sampled) refl (rw c.skip_lines-2.ensures.rest at bad)))))
