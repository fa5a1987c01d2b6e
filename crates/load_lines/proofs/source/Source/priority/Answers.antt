use Rattle.il_syntax.specs.declared.token.Sign.TheVariants.{Assign, Semicolon, CloseParenthesis}
use Rattle.il_syntax.specs.declared.keyword.Keyword.TheVariants as word
use Rattle.il_syntax.specs.Grammar.{loose, ◌⋯◌, TheSign, ADecimal}
use Rattle.load_lines.proofs.Chain.{up, first, later, first_missing, last_missing, behind}
use Rattle.il_syntax_laws.proofs.Local.{sign_local, word_local, decimal_local}
use Rattle.il_syntax_laws.proofs.Alike.{loose_gap}
use Rattle.load_lines.proofs.Breaks.{at_first, later_loose, map_breaks, part_loose, s_loose, s_part, up_breaks}
use Rattle.load_lines.proofs.Completions.{decimal_filling}
use Rattle.il_syntax_laws.proofs.Samples.{decimal_sampled, sign_sampled, word_sampled}
use Rattle.std.proofs.Common.{refl}
use Rattle.il_syntax_laws.proofs.Open.{sign_fills, word_fills}
use Rattle.load_lines.proofs.source.Source.priority.Goals as goal

pub returns-in_err-word-clause-refused : goal.returns-in_err-word-clause-refused
returns-in_err-word-clause-refused c =
    up _ c.from_residual.ensures.1
    (first_missing loose (λ text b. TheSign Assign ⋯ ADecimal text b ⋯ TheSign CloseParenthesis ⋯ TheSign Semicolon) c.in_err-word.ensures.refused)

pub returns-in_err-sign-clause-refused : goal.returns-in_err-sign-clause-refused
returns-in_err-sign-clause-refused c =
    up _ c.from_residual-in_err-sign.ensures.1
    (behind loose_gap (λ text b. TheSign Assign ⋯ ADecimal text b ⋯ TheSign CloseParenthesis ⋯ TheSign Semicolon) (word_local word.Priority) c.in_ok-word.ensures.reads
    (first_missing loose (λ text b. ADecimal text b ⋯ TheSign CloseParenthesis ⋯ TheSign Semicolon) (rw c.skip_lines.ensures.rest at c.in_err-sign.ensures.refused)))

pub returns-in_err-value-clause-refused : goal.returns-in_err-value-clause-refused
returns-in_err-value-clause-refused c =
    up _ c.from_residual-in_err-value.ensures.1
    (behind loose_gap (λ text b. TheSign Assign ⋯ ADecimal text b ⋯ TheSign CloseParenthesis ⋯ TheSign Semicolon) (word_local word.Priority) c.in_ok-word.ensures.reads
    (behind loose_gap (λ text b. ADecimal text b ⋯ TheSign CloseParenthesis ⋯ TheSign Semicolon) (sign_local Assign) (rw c.skip_lines.ensures.rest at c.in_ok-sign.ensures.reads)
    (first (λ b. b) loose (λ text b. TheSign CloseParenthesis ⋯ TheSign Semicolon) (rw c.skip_lines-2.ensures.rest at c.in_err-value.ensures.refused))))

pub returns-in_err-sign-2-clause-refused : goal.returns-in_err-sign-2-clause-refused
returns-in_err-sign-2-clause-refused c =
    up _ c.from_residual-in_err-sign-2.ensures.1
    (behind loose_gap (λ text b. TheSign Assign ⋯ ADecimal text b ⋯ TheSign CloseParenthesis ⋯ TheSign Semicolon) (word_local word.Priority) c.in_ok-word.ensures.reads
    (behind loose_gap (λ text b. ADecimal text b ⋯ TheSign CloseParenthesis ⋯ TheSign Semicolon) (sign_local Assign) (rw c.skip_lines.ensures.rest at c.in_ok-sign.ensures.reads)
    (later (λ b. b) loose_gap (λ text b. TheSign CloseParenthesis ⋯ TheSign Semicolon) decimal_local (rw c.skip_lines-2.ensures.rest at c.in_ok-value.ensures.reads)
    (first_missing loose (λ text b. TheSign Semicolon) (rw c.skip_lines-3.ensures.rest at c.in_err-sign-2.ensures.refused)))))

pub returns-in_err-sign-3-clause-refused : goal.returns-in_err-sign-3-clause-refused
returns-in_err-sign-3-clause-refused c =
    up _ c.from_residual-in_err-sign-3.ensures.1
    (behind loose_gap (λ text b. TheSign Assign ⋯ ADecimal text b ⋯ TheSign CloseParenthesis ⋯ TheSign Semicolon) (word_local word.Priority) c.in_ok-word.ensures.reads
    (behind loose_gap (λ text b. ADecimal text b ⋯ TheSign CloseParenthesis ⋯ TheSign Semicolon) (sign_local Assign) (rw c.skip_lines.ensures.rest at c.in_ok-sign.ensures.reads)
    (later (λ b. b) loose_gap (λ text b. TheSign CloseParenthesis ⋯ TheSign Semicolon) decimal_local (rw c.skip_lines-2.ensures.rest at c.in_ok-value.ensures.reads)
    (behind loose_gap (λ text b. TheSign Semicolon) (sign_local CloseParenthesis) (rw c.skip_lines-3.ensures.rest at c.in_ok-sign-2.ensures.reads)
    (last_missing (rw c.skip_lines-4.ensures.rest at c.in_err-sign-3.ensures.refused))))))

pub returns-in_err-word-clause-begins : goal.returns-in_err-word-clause-begins
returns-in_err-word-clause-begins c =
    up_breaks _ c.from_residual.ensures.1 (map_breaks (λ x. x.0) (λ x other us r w. w) (at_first (s_part (word_sampled word.Priority) (s_part (sign_sampled Assign) (s_loose (decimal_sampled) (s_part (sign_sampled CloseParenthesis) (sign_sampled Semicolon) refl) refl) refl) refl) c.in_err-word.ensures.first))

pub returns-in_err-sign-clause-begins : goal.returns-in_err-sign-clause-begins
returns-in_err-sign-clause-begins c =
    up_breaks _ c.from_residual-in_err-sign.ensures.1 (map_breaks (λ x. x.0) (λ x other us r w. w) (part_loose (word_fills word.Priority) c.in_ok-word.ensures.reads (s_part (sign_sampled Assign) (s_loose (decimal_sampled) (s_part (sign_sampled CloseParenthesis) (sign_sampled Semicolon) refl) refl) refl) refl (at_first (s_part (sign_sampled Assign) (s_loose (decimal_sampled) (s_part (sign_sampled CloseParenthesis) (sign_sampled Semicolon) refl) refl) refl) (rw c.skip_lines.ensures.rest at c.in_err-sign.ensures.first))))

pub returns-in_err-value-clause-begins : goal.returns-in_err-value-clause-begins
returns-in_err-value-clause-begins c =
    up_breaks _ c.from_residual-in_err-value.ensures.1 (map_breaks (λ x. x.0) (λ x other us r w. w) (part_loose (word_fills word.Priority) c.in_ok-word.ensures.reads (s_part (sign_sampled Assign) (s_loose (decimal_sampled) (s_part (sign_sampled CloseParenthesis) (sign_sampled Semicolon) refl) refl) refl) refl (part_loose (sign_fills Assign) (rw c.skip_lines.ensures.rest at c.in_ok-sign.ensures.reads) (s_loose (decimal_sampled) (s_part (sign_sampled CloseParenthesis) (sign_sampled Semicolon) refl) refl) refl (at_first (s_loose (decimal_sampled) (s_part (sign_sampled CloseParenthesis) (sign_sampled Semicolon) refl) refl) (rw c.skip_lines-2.ensures.rest at c.in_err-value.ensures.first)))))

pub returns-in_err-sign-2-clause-begins : goal.returns-in_err-sign-2-clause-begins
returns-in_err-sign-2-clause-begins c =
    up_breaks _ c.from_residual-in_err-sign-2.ensures.1 (map_breaks (λ x. x.0) (λ x other us r w. w) (part_loose (word_fills word.Priority) c.in_ok-word.ensures.reads (s_part (sign_sampled Assign) (s_loose (decimal_sampled) (s_part (sign_sampled CloseParenthesis) (sign_sampled Semicolon) refl) refl) refl) refl (part_loose (sign_fills Assign) (rw c.skip_lines.ensures.rest at c.in_ok-sign.ensures.reads) (s_loose (decimal_sampled) (s_part (sign_sampled CloseParenthesis) (sign_sampled Semicolon) refl) refl) refl (later_loose (decimal_filling) (rw c.skip_lines-2.ensures.rest at c.in_ok-value.ensures.reads) (s_part (sign_sampled CloseParenthesis) (sign_sampled Semicolon) refl) refl (at_first (s_part (sign_sampled CloseParenthesis) (sign_sampled Semicolon) refl) (rw c.skip_lines-3.ensures.rest at c.in_err-sign-2.ensures.first))))))

pub returns-in_err-sign-3-clause-begins : goal.returns-in_err-sign-3-clause-begins
returns-in_err-sign-3-clause-begins c =
    up_breaks _ c.from_residual-in_err-sign-3.ensures.1 (map_breaks (λ x. x.0) (λ x other us r w. w) (part_loose (word_fills word.Priority) c.in_ok-word.ensures.reads (s_part (sign_sampled Assign) (s_loose (decimal_sampled) (s_part (sign_sampled CloseParenthesis) (sign_sampled Semicolon) refl) refl) refl) refl (part_loose (sign_fills Assign) (rw c.skip_lines.ensures.rest at c.in_ok-sign.ensures.reads) (s_loose (decimal_sampled) (s_part (sign_sampled CloseParenthesis) (sign_sampled Semicolon) refl) refl) refl (later_loose (decimal_filling) (rw c.skip_lines-2.ensures.rest at c.in_ok-value.ensures.reads) (s_part (sign_sampled CloseParenthesis) (sign_sampled Semicolon) refl) refl (part_loose (sign_fills CloseParenthesis) (rw c.skip_lines-3.ensures.rest at c.in_ok-sign-2.ensures.reads) (sign_sampled Semicolon) refl (at_first (sign_sampled Semicolon) (rw c.skip_lines-4.ensures.rest at c.in_err-sign-3.ensures.first)))))))
