use Rattle.il_syntax.specs.declared.token.Sign.TheVariants.{Range, OpenBracket}
use Rattle.il_syntax.specs.declared.keyword.Keyword.TheVariants as word
use Rattle.il_syntax.specs.Grammar.{loose, ◌⋯◌, TheSign, ANumber}
use Rattle.load_lines.specs.Reads.{SpellsElementType}
use Rattle.load_lines.proofs.Chain.{up, first, later, first_missing, behind, part}
use Rattle.load_lines.proofs.Alternatives.{range_refused, range_local}
use Rattle.il_syntax_laws.proofs.Local.{sign_local, word_local}
use Rattle.il_syntax_laws.proofs.Alike.{loose_gap}
use Rattle.load_lines.proofs.Breaks.{at_first, first_loose, later_loose, map_breaks, part_loose, s_loose, s_part, up_breaks}
use Rattle.load_lines.proofs.Completions.{element_type_sampled, range_filling, range_sampled}
use Rattle.std.proofs.Common.{refl}
use Rattle.il_syntax_laws.proofs.Open.{sign_fills, word_fills}
use Rattle.il_syntax_laws.proofs.Samples.{sign_sampled, word_sampled}
use Rattle.load_lines.proofs.source.Source.array.Goals as goal

pub returns-in_err-word-clause-refused : goal.returns-in_err-word-clause-refused
returns-in_err-word-clause-refused c =
    up _ c.from_residual.ensures.1 (first_missing loose (λ text a. TheSign OpenBracket ⋯ ANumber a.0.lower ⋯ TheSign Range ⋯ ANumber a.0.upper ⋯ SpellsElementType text a.1) c.in_err-word.ensures.refused)

pub returns-in_err-sign-clause-refused : goal.returns-in_err-sign-clause-refused
returns-in_err-sign-clause-refused c =
    up _ c.from_residual-in_err-sign.ensures.1
    (behind loose_gap (λ text a. TheSign OpenBracket ⋯ ANumber a.0.lower ⋯ TheSign Range ⋯ ANumber a.0.upper ⋯ SpellsElementType text a.1) (word_local word.Array) c.in_ok-word.ensures.reads
    (first_missing loose (λ text a. ANumber a.0.lower ⋯ TheSign Range ⋯ ANumber a.0.upper ⋯ SpellsElementType text a.1) (rw c.skip_lines.ensures.rest at c.in_err-sign.ensures.refused)))

pub returns-in_err-bounds-clause-refused : goal.returns-in_err-bounds-clause-refused
returns-in_err-bounds-clause-refused c =
    up _ c.from_residual-in_err-bounds.ensures.1
    (behind loose_gap (λ text a. TheSign OpenBracket ⋯ ANumber a.0.lower ⋯ TheSign Range ⋯ ANumber a.0.upper ⋯ SpellsElementType text a.1) (word_local word.Array) c.in_ok-word.ensures.reads
    (behind loose_gap (λ text a. ANumber a.0.lower ⋯ TheSign Range ⋯ ANumber a.0.upper ⋯ SpellsElementType text a.1) (sign_local OpenBracket) (rw c.skip_lines.ensures.rest at c.in_ok-sign.ensures.reads)
    (range_refused (λ a. a.0) (λ text a. SpellsElementType text a.1)
    (first (λ a. a.0) loose (λ text a. SpellsElementType text a.1) (rw c.skip_lines-2.ensures.rest at c.in_err-bounds.ensures.refused)))))

pub returns-in_err-element-clause-refused : goal.returns-in_err-element-clause-refused
returns-in_err-element-clause-refused c =
    up _ c.from_residual-in_err-element.ensures.1
    (behind loose_gap (λ text a. TheSign OpenBracket ⋯ ANumber a.0.lower ⋯ TheSign Range ⋯ ANumber a.0.upper ⋯ SpellsElementType text a.1) (word_local word.Array) c.in_ok-word.ensures.reads
    (behind loose_gap (λ text a. ANumber a.0.lower ⋯ TheSign Range ⋯ ANumber a.0.upper ⋯ SpellsElementType text a.1) (sign_local OpenBracket) (rw c.skip_lines.ensures.rest at c.in_ok-sign.ensures.reads)
    (range_refused (λ a. a.0) (λ text a. SpellsElementType text a.1)
    (later (λ a. a.0) loose_gap (λ text a. SpellsElementType text a.1) range_local (rw c.skip_lines-2.ensures.rest at c.in_ok-bounds.ensures.reads)
    (part (λ a. a.1) (rw c.skip_lines-3.ensures.rest at c.in_err-element.ensures.refused))))))

pub returns-clause-reads : goal.returns-clause-reads
returns-clause-reads c =
    let r = (rw c.skip_lines-2.ensures.rest at c.in_ok-bounds.ensures.reads).found in
    record {
      found = (
        _,
        c.in_ok-word.ensures.reads.found,
        (
          _,
          (rw c.skip_lines.ensures.rest at c.in_ok-sign.ensures.reads).found,
          (r.0, r.1, (r.2.0, r.2.1, (_, r.2.2, (rw c.skip_lines-3.ensures.rest at c.in_ok-element.ensures.reads).found))),
        ),
      );
    }

pub returns-in_err-word-clause-begins : goal.returns-in_err-word-clause-begins
returns-in_err-word-clause-begins c =
    up_breaks _ c.from_residual.ensures.1 (map_breaks (λ x. x) (λ x other us r w. (w.0, w.1, (w.2.0, w.2.1, (w.2.2.1.0, w.2.2.1.1, (w.2.2.1.2.0, w.2.2.1.2.1, (w.2.2.0, w.2.2.1.2.2, w.2.2.2)))))) (at_first (s_part (word_sampled word.Array) (s_part (sign_sampled OpenBracket) (s_loose (range_sampled) (element_type_sampled) refl) refl) refl) c.in_err-word.ensures.first))

pub returns-in_err-sign-clause-begins : goal.returns-in_err-sign-clause-begins
returns-in_err-sign-clause-begins c =
    up_breaks _ c.from_residual-in_err-sign.ensures.1 (map_breaks (λ x. x) (λ x other us r w. (w.0, w.1, (w.2.0, w.2.1, (w.2.2.1.0, w.2.2.1.1, (w.2.2.1.2.0, w.2.2.1.2.1, (w.2.2.0, w.2.2.1.2.2, w.2.2.2)))))) (part_loose (word_fills word.Array) c.in_ok-word.ensures.reads (s_part (sign_sampled OpenBracket) (s_loose (range_sampled) (element_type_sampled) refl) refl) refl (at_first (s_part (sign_sampled OpenBracket) (s_loose (range_sampled) (element_type_sampled) refl) refl) (rw c.skip_lines.ensures.rest at c.in_err-sign.ensures.first))))

pub returns-in_err-bounds-clause-begins : goal.returns-in_err-bounds-clause-begins
returns-in_err-bounds-clause-begins c =
    up_breaks _ c.from_residual-in_err-bounds.ensures.1 (map_breaks (λ x. x) (λ x other us r w. (w.0, w.1, (w.2.0, w.2.1, (w.2.2.1.0, w.2.2.1.1, (w.2.2.1.2.0, w.2.2.1.2.1, (w.2.2.0, w.2.2.1.2.2, w.2.2.2)))))) (part_loose (word_fills word.Array) c.in_ok-word.ensures.reads (s_part (sign_sampled OpenBracket) (s_loose (range_sampled) (element_type_sampled) refl) refl) refl (part_loose (sign_fills OpenBracket) (rw c.skip_lines.ensures.rest at c.in_ok-sign.ensures.reads) (s_loose (range_sampled) (element_type_sampled) refl) refl (first_loose (element_type_sampled) refl (rw c.skip_lines-2.ensures.rest at c.in_err-bounds.ensures.begins)))))

pub returns-in_err-element-clause-begins : goal.returns-in_err-element-clause-begins
returns-in_err-element-clause-begins c =
    up_breaks _ c.from_residual-in_err-element.ensures.1 (map_breaks (λ x. x) (λ x other us r w. (w.0, w.1, (w.2.0, w.2.1, (w.2.2.1.0, w.2.2.1.1, (w.2.2.1.2.0, w.2.2.1.2.1, (w.2.2.0, w.2.2.1.2.2, w.2.2.2)))))) (part_loose (word_fills word.Array) c.in_ok-word.ensures.reads (s_part (sign_sampled OpenBracket) (s_loose (range_sampled) (element_type_sampled) refl) refl) refl (part_loose (sign_fills OpenBracket) (rw c.skip_lines.ensures.rest at c.in_ok-sign.ensures.reads) (s_loose (range_sampled) (element_type_sampled) refl) refl (later_loose (range_filling) (rw c.skip_lines-2.ensures.rest at c.in_ok-bounds.ensures.reads) (element_type_sampled) refl (rw c.skip_lines-3.ensures.rest at c.in_err-element.ensures.begins)))))
