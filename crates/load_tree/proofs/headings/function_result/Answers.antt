use Rattle.il_syntax.specs.Grammar.{loose}
use Rattle.il_syntax.specs.declared.token.Sign.TheVariants.{Colon}
use Rattle.load_lines.proofs.Chain.{first_missing, behind, up}
use Rattle.load_tree.specs.Headings.{PlacedScalar}
use Rattle.il_syntax_laws.proofs.Local.{sign_local}
use Rattle.il_syntax_laws.proofs.Alike.{loose_gap}
use Rattle.load_tree.proofs.Repeated.{after_refused}
use Rattle.load_lines.proofs.Breaks.{at_first, part_loose, s_part, up_breaks}
use Rattle.load_lines.proofs.Completions.{lines_break, placed_sampled}
use Rattle.std.proofs.Common.{refl}
use Rattle.load_tree.proofs.Rests.{scalar_filling}
use Rattle.il_syntax_laws.proofs.Samples.{scalar_sampled, sign_sampled}
use Rattle.il_syntax_laws.proofs.Open.{sign_fills}
use Rattle.load_tree.proofs.headings.function_result.Goals as goal

pub returns-in_err-placed_scalar-clause-refused : goal.returns-in_err-placed_scalar-clause-refused
returns-in_err-placed_scalar-clause-refused c =
    up _ c.from_residual-in_err-placed_scalar.ensures.1
    (after_refused (behind loose_gap (λ text x. PlacedScalar text x) (sign_local Colon) (rw c.skip_lines.ensures.rest at c.in_ok-sign.ensures.reads) (rw c.skip_lines-2.ensures.rest at c.in_err-placed_scalar.ensures.refused)))

pub returns-in_err-sign-clause-refused : goal.returns-in_err-sign-clause-refused
returns-in_err-sign-clause-refused c =
    up _ c.from_residual.ensures.1 (after_refused (first_missing loose (λ text x. PlacedScalar text x) (rw c.skip_lines.ensures.rest at c.in_err-sign.ensures.refused)))

pub returns-in_err-sign-clause-begins : goal.returns-in_err-sign-clause-begins
returns-in_err-sign-clause-begins c = up_breaks _ c.from_residual.ensures.1 (lines_break (s_part (sign_sampled Colon) (placed_sampled scalar_filling scalar_sampled) refl) refl (at_first (s_part (sign_sampled Colon) (placed_sampled scalar_filling scalar_sampled) refl) (rw c.skip_lines.ensures.rest at c.in_err-sign.ensures.first)))

pub returns-in_err-placed_scalar-clause-begins : goal.returns-in_err-placed_scalar-clause-begins
returns-in_err-placed_scalar-clause-begins c = up_breaks _ c.from_residual-in_err-placed_scalar.ensures.1 (lines_break (s_part (sign_sampled Colon) (placed_sampled scalar_filling scalar_sampled) refl) refl (part_loose (sign_fills Colon) (rw c.skip_lines.ensures.rest at c.in_ok-sign.ensures.reads) (placed_sampled scalar_filling scalar_sampled) refl (rw c.skip_lines-2.ensures.rest at c.in_err-placed_scalar.ensures.begins)))
