use Rattle.std.proofs.Common.{arith, codes, inl, refl}
use Rattle.il_syntax.specs.declared.keyword.Keyword.TheVariants as word
use Rattle.il_syntax.specs.Grammar.{loose, ◌⋯◌, TheWord, SpellsSize}
use Rattle.load_lines.specs.Settings.{SpellsFloors}
use Rattle.load_lines.proofs.Chain.{up, first_missing, behind, first, later, part}
use Rattle.il_syntax_laws.proofs.Local.{word_local, size_local}
use Rattle.il_syntax_laws.proofs.Alike.{loose_gap}
use Rattle.load_lines.proofs.Completions.{a_size_sampled, floors_sampled, size_filling}
use Rattle.load_lines.proofs.Breaks.{at_first, first_loose, later_loose, map_breaks, part_loose, s_loose, s_part, up_breaks}
use Rattle.il_syntax_laws.proofs.Open.{word_fills}
use Rattle.il_syntax_laws.proofs.Samples.{word_sampled}
use Rattle.load_lines.proofs.source.Source.sizes.Goals as goal

pub returns-in_err-word-clause-refused : goal.returns-in_err-word-clause-refused
returns-in_err-word-clause-refused c =
    up _ c.from_residual.ensures.1 (first_missing loose (λ text b. TheWord text word.Constant ⋯ SpellsSize text (codes "CARS") b.0 ⋯ SpellsFloors text b.1) c.in_err-word.ensures.refused)

pub returns-in_err-word-2-clause-refused : goal.returns-in_err-word-2-clause-refused
returns-in_err-word-2-clause-refused c =
    up _ c.from_residual-in_err-word-2.ensures.1
    (behind loose_gap (λ text b. TheWord text word.Constant ⋯ SpellsSize text (codes "CARS") b.0 ⋯ SpellsFloors text b.1) (word_local word.VarGlobal) c.in_ok-word.ensures.reads
    (first_missing loose (λ text b. SpellsSize text (codes "CARS") b.0 ⋯ SpellsFloors text b.1) (rw c.skip_lines.ensures.rest at c.in_err-word-2.ensures.refused)))

pub returns-in_err-cars-clause-refused : goal.returns-in_err-cars-clause-refused
returns-in_err-cars-clause-refused c =
    up _ c.from_residual-in_err-cars.ensures.1
    (behind loose_gap (λ text b. TheWord text word.Constant ⋯ SpellsSize text (codes "CARS") b.0 ⋯ SpellsFloors text b.1) (word_local word.VarGlobal) c.in_ok-word.ensures.reads
    (behind loose_gap (λ text b. SpellsSize text (codes "CARS") b.0 ⋯ SpellsFloors text b.1) (word_local word.Constant) (rw c.skip_lines.ensures.rest at c.in_ok-word-2.ensures.reads)
    (first (λ b. b.0) loose (λ text b. SpellsFloors text b.1) (rw c.skip_lines-2.ensures.rest at c.in_err-cars.ensures.refused))))

pub returns-in_err-others-clause-refused : goal.returns-in_err-others-clause-refused
returns-in_err-others-clause-refused c =
    up _ c.from_residual-in_err-others.ensures.1
    (behind loose_gap (λ text b. TheWord text word.Constant ⋯ SpellsSize text (codes "CARS") b.0 ⋯ SpellsFloors text b.1) (word_local word.VarGlobal) c.in_ok-word.ensures.reads
    (behind loose_gap (λ text b. SpellsSize text (codes "CARS") b.0 ⋯ SpellsFloors text b.1) (word_local word.Constant) (rw c.skip_lines.ensures.rest at c.in_ok-word-2.ensures.reads)
    (later (λ b. b.0) loose_gap (λ text b. SpellsFloors text b.1) (size_local (codes "CARS")) (rw c.skip_lines-2.ensures.rest at c.in_ok-cars.ensures.reads)
    (part (λ b. b.1) (rw c.skip_lines-3.ensures.rest at c.in_err-others.ensures.refused)))))

pub returns-clause-reads : goal.returns-clause-reads
returns-clause-reads c = record { found = (_, c.in_ok-word.ensures.reads.found, (_, (rw c.skip_lines.ensures.rest at c.in_ok-word-2.ensures.reads).found, (_, (rw c.skip_lines-2.ensures.rest at c.in_ok-cars.ensures.reads).found, (rw c.skip_lines-3.ensures.rest at c.in_ok-others.ensures.reads).found))) }

pub returns-clause-shorter : goal.returns-clause-shorter
returns-clause-shorter c = omega (arith, c.in_ok-word.ensures.shorter, c.skip_lines.ensures.shorter, c.in_ok-word-2.ensures.shorter, c.skip_lines-2.ensures.shorter, c.in_ok-cars.ensures.shorter, c.skip_lines-3.ensures.shorter, c.in_ok-others.ensures.shorter)

pub returns-in_err-word-clause-begins : goal.returns-in_err-word-clause-begins
returns-in_err-word-clause-begins c =
    up_breaks _ c.from_residual.ensures.1 (map_breaks (λ x. x) (λ x other us r w. w) (at_first (s_part (word_sampled word.VarGlobal) (s_part (word_sampled word.Constant) (s_loose (a_size_sampled (codes "CARS") (inl refl)) (floors_sampled) refl) refl) refl) c.in_err-word.ensures.first))

pub returns-in_err-word-2-clause-begins : goal.returns-in_err-word-2-clause-begins
returns-in_err-word-2-clause-begins c =
    up_breaks _ c.from_residual-in_err-word-2.ensures.1 (map_breaks (λ x. x) (λ x other us r w. w) (part_loose (word_fills word.VarGlobal) c.in_ok-word.ensures.reads (s_part (word_sampled word.Constant) (s_loose (a_size_sampled (codes "CARS") (inl refl)) (floors_sampled) refl) refl) refl (at_first (s_part (word_sampled word.Constant) (s_loose (a_size_sampled (codes "CARS") (inl refl)) (floors_sampled) refl) refl) (rw c.skip_lines.ensures.rest at c.in_err-word-2.ensures.first))))

pub returns-in_err-cars-clause-begins : goal.returns-in_err-cars-clause-begins
returns-in_err-cars-clause-begins c =
    up_breaks _ c.from_residual-in_err-cars.ensures.1 (map_breaks (λ x. x) (λ x other us r w. w) (part_loose (word_fills word.VarGlobal) c.in_ok-word.ensures.reads (s_part (word_sampled word.Constant) (s_loose (a_size_sampled (codes "CARS") (inl refl)) (floors_sampled) refl) refl) refl (part_loose (word_fills word.Constant) (rw c.skip_lines.ensures.rest at c.in_ok-word-2.ensures.reads) (s_loose (a_size_sampled (codes "CARS") (inl refl)) (floors_sampled) refl) refl (first_loose (floors_sampled) refl (rw c.skip_lines-2.ensures.rest at (c.in_err-cars.ensures.begins (inl refl)))))))

pub returns-in_err-others-clause-begins : goal.returns-in_err-others-clause-begins
returns-in_err-others-clause-begins c =
    up_breaks _ c.from_residual-in_err-others.ensures.1 (map_breaks (λ x. x) (λ x other us r w. w) (part_loose (word_fills word.VarGlobal) c.in_ok-word.ensures.reads (s_part (word_sampled word.Constant) (s_loose (a_size_sampled (codes "CARS") (inl refl)) (floors_sampled) refl) refl) refl (part_loose (word_fills word.Constant) (rw c.skip_lines.ensures.rest at c.in_ok-word-2.ensures.reads) (s_loose (a_size_sampled (codes "CARS") (inl refl)) (floors_sampled) refl) refl (later_loose (size_filling (codes "CARS")) (rw c.skip_lines-2.ensures.rest at c.in_ok-cars.ensures.reads) (floors_sampled) refl (rw c.skip_lines-3.ensures.rest at c.in_err-others.ensures.begins)))))
