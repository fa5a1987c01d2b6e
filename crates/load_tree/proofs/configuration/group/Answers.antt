use Rattle.il_syntax.specs.Grammar.{tight, loose, ◌⨾◌, ◌⋯◌}
use Rattle.load_tree.specs.Parts.{SpellsSomeGlobals, SpellsEnding, SpellsGroup}
use Rattle.load_lines.specs.Settings.{SpellsThree}
use Rattle.load_lines.proofs.Chain.{up, behind, first, first_missing, later, part, later_lines}
use Rattle.il_syntax_laws.proofs.Local.{some_name_local, globals_local}
use Rattle.il_syntax_laws.proofs.Alike.{tight_gap, loose_gap}
use Rattle.load_tree.proofs.Parts.{three_sizes_local}
use Rattle.load_lines.proofs.Breaks.{at_first, first_loose, first_tight, later_tight, map_breaks, part_loose, up_breaks}
use Rattle.load_tree.proofs.Rests.{ending_all_sampled, ending_later, globals_ending_sampled, group_sampled, sizes_rest_sampled, three_filling}
use Rattle.std.proofs.Common.{refl}
use Rattle.il_syntax_laws.proofs.Open.{some_name_fills}
use Rattle.load_tree.proofs.configuration.group.Goals as goal

pub returns-in_err-some_name-clause-refused : goal.returns-in_err-some_name-clause-refused
returns-in_err-some_name-clause-refused c =
    up _ c.from_residual.ensures.1
    (first_missing loose (λ text b. SpellsThree text b.0 ⨾ SpellsSomeGlobals text b.1 ⋯ SpellsEnding text b.2) c.in_err-some_name.ensures.refused)

pub returns-in_err-sizes-clause-refused : goal.returns-in_err-sizes-clause-refused
returns-in_err-sizes-clause-refused c =
    up _ c.from_residual-in_err-sizes.ensures.1
    (behind loose_gap (λ text b. SpellsThree text b.0 ⨾ SpellsSomeGlobals text b.1 ⋯ SpellsEnding text b.2) some_name_local c.in_ok-some_name.ensures.reads
    (first (λ b. b.0) tight (λ text b. SpellsSomeGlobals text b.1 ⋯ SpellsEnding text b.2) (rw c.skip_lines.ensures.rest at c.in_err-sizes.ensures.refused)))

pub returns-in_err-globals-clause-refused : goal.returns-in_err-globals-clause-refused
returns-in_err-globals-clause-refused c =
    up _ c.from_residual-in_err-globals.ensures.1
    (behind loose_gap (λ text b. SpellsThree text b.0 ⨾ SpellsSomeGlobals text b.1 ⋯ SpellsEnding text b.2) some_name_local c.in_ok-some_name.ensures.reads
    (later (λ b. b.0) tight_gap (λ text b. SpellsSomeGlobals text b.1 ⋯ SpellsEnding text b.2) three_sizes_local (rw c.skip_lines.ensures.rest at c.in_ok-sizes.ensures.reads)
    (first (λ b. b.1) loose (λ text b. SpellsEnding text b.2) c.in_err-globals.ensures.refused)))

pub returns-in_err-lines-clause-refused : goal.returns-in_err-lines-clause-refused
returns-in_err-lines-clause-refused c =
    up _ c.from_residual-in_err-lines.ensures.1
    (behind loose_gap (λ text b. SpellsThree text b.0 ⨾ SpellsSomeGlobals text b.1 ⋯ SpellsEnding text b.2) some_name_local c.in_ok-some_name.ensures.reads
    (later (λ b. b.0) tight_gap (λ text b. SpellsSomeGlobals text b.1 ⋯ SpellsEnding text b.2) three_sizes_local (rw c.skip_lines.ensures.rest at c.in_ok-sizes.ensures.reads)
    (later_lines (λ b. b.1) (λ text b. SpellsEnding text b.2) globals_local c.in_ok-globals.ensures.reads
    (part (λ b. b.2) (rw c.skip_lines-2.ensures.rest at c.in_err-lines.ensures.refused)))))

pub returns-clause-reads : goal.returns-clause-reads
returns-clause-reads c = record { found = (_, c.in_ok-some_name.ensures.reads.found, (_, (rw c.skip_lines.ensures.rest at c.in_ok-sizes.ensures.reads).found, (_, c.in_ok-globals.ensures.reads.found, (rw c.skip_lines-2.ensures.rest at c.in_ok-lines.ensures.reads).found))) }

pub returns-in_err-some_name-clause-begins : goal.returns-in_err-some_name-clause-begins
returns-in_err-some_name-clause-begins c = up_breaks _ c.from_residual.ensures.1 (at_first group_sampled c.in_err-some_name.ensures.first)

pub returns-in_err-sizes-clause-begins : goal.returns-in_err-sizes-clause-begins
returns-in_err-sizes-clause-begins c = up_breaks _ c.from_residual-in_err-sizes.ensures.1 (map_breaks {Q = SpellsGroup} (λ x. (x.0, x.1.0, x.1.1)) (λ x other us r w. w) (part_loose some_name_fills c.in_ok-some_name.ensures.reads sizes_rest_sampled refl (first_tight globals_ending_sampled (rw c.skip_lines.ensures.rest at c.in_err-sizes.ensures.begins))))

pub returns-in_err-globals-clause-begins : goal.returns-in_err-globals-clause-begins
returns-in_err-globals-clause-begins c = up_breaks _ c.from_residual-in_err-globals.ensures.1 (map_breaks {Q = SpellsGroup} (λ x. (x.0, x.1.0, x.1.1)) (λ x other us r w. w) (part_loose some_name_fills c.in_ok-some_name.ensures.reads sizes_rest_sampled refl (later_tight three_filling (rw c.skip_lines.ensures.rest at c.in_ok-sizes.ensures.reads) globals_ending_sampled (first_loose ending_all_sampled refl c.in_err-globals.ensures.begins))))

pub returns-in_err-lines-clause-begins : goal.returns-in_err-lines-clause-begins
returns-in_err-lines-clause-begins c = up_breaks _ c.from_residual-in_err-lines.ensures.1 (map_breaks {Q = SpellsGroup} (λ x. (x.0, x.1.0, x.1.1)) (λ x other us r w. w) (part_loose some_name_fills c.in_ok-some_name.ensures.reads sizes_rest_sampled refl (later_tight three_filling (rw c.skip_lines.ensures.rest at c.in_ok-sizes.ensures.reads) globals_ending_sampled (ending_later c.in_ok-globals.ensures.reads (rw c.skip_lines-2.ensures.rest at c.in_err-lines.ensures.begins)))))
