use Rattle.std.proofs.Common.{refl}
use Rattle.il_syntax.specs.declared.keyword.Keyword.TheVariants as word
use Rattle.il_syntax.specs.Grammar.{tight, loose, ◌⨾◌, TheName}
use Rattle.il_syntax_laws.proofs.Local.{the_name_local, placed_word_local}
use Rattle.il_syntax_laws.proofs.Alike.{tight_gap, loose_gap}
use Rattle.il_syntax_laws.proofs.Samples.{the_name_sampled}
use Rattle.load_lines.proofs.Chain.{first, later, part}
use Rattle.load_lines.proofs.ByError.{up_by}
use Rattle.load_lines.proofs.Breaks.{at_first, s_tight}
use Rattle.load_tree.specs.GoesOn.{SpellsBlockRest, SpellsWholeBlock}
use Rattle.load_tree.specs.Headings.{SpellsBlockBy}
use Rattle.load_tree.specs.Insides.{SpellsBlockInsideBy}
use Rattle.load_tree.proofs.Begun.{plainly}
use Rattle.load_tree.proofs.Shallow.{Headed, mapped, headed_sampled, headed_name, headed_on, block_within}
use Rattle.load_tree.proofs.Ahead.{up_so, forget}
use Rattle.load_lines.specs.declared.stop.SyntaxError.TheVariants.{Unexpected}
use Rattle.load_tree.proofs.Late.{leaves_as}
use Rattle.load_tree.proofs.LateUnits.{late_place, late_name, late_inside, block_spreads}
use Rattle.load_tree.proofs.headings.block.Goals as goal

pub returns-in_err-place-clause-refused : goal.returns-in_err-place-clause-refused
returns-in_err-place-clause-refused c =
    up_by SpellsBlockBy _ c.from_residual.ensures.1
    (first (λ b. b.0) loose (λ text b. TheName text b.1 ⨾ SpellsBlockInsideBy _ text b.2) c.in_err-place.ensures.refused)

pub returns-in_err-name-clause-refused : goal.returns-in_err-name-clause-refused
returns-in_err-name-clause-refused c =
    up_by SpellsBlockBy _ c.from_residual-in_err-name.ensures.1
    (later (λ b. b.0) loose_gap (λ text b. TheName text b.1 ⨾ SpellsBlockInsideBy _ text b.2) (placed_word_local word.FunctionBlock) c.in_ok-place.ensures.reads
    (first (λ b. b.1) tight (λ text b. SpellsBlockInsideBy _ text b.2) (rw c.skip_lines.ensures.rest at c.in_err-name.ensures.refused)))

pub returns-in_err-inside-clause-refused : goal.returns-in_err-inside-clause-refused
returns-in_err-inside-clause-refused c =
    up_by SpellsBlockBy _ c.from_residual-in_err-inside.ensures.1
    (later (λ b. b.0) loose_gap (λ text b. TheName text b.1 ⨾ SpellsBlockInsideBy _ text b.2) (placed_word_local word.FunctionBlock) c.in_ok-place.ensures.reads
    (later (λ b. b.1) tight_gap (λ text b. SpellsBlockInsideBy _ text b.2) the_name_local (rw c.skip_lines.ensures.rest at c.in_ok-name.ensures.reads)
    (part (λ b. b.2) (forget c.in_err-inside.ensures.refused))))

pub returns-clause-reads : goal.returns-clause-reads
returns-clause-reads c = record { found = (_, c.in_ok-place.ensures.reads.found, (_, (rw c.skip_lines.ensures.rest at c.in_ok-name.ensures.reads).found, c.in_ok-inside.ensures.reads.found)) }

pub returns-in_err-place-clause-begins : goal.returns-in_err-place-clause-begins
returns-in_err-place-clause-begins c = up_so _ _ c.from_residual.ensures.1 (mapped (Headed word.FunctionBlock SpellsBlockRest) SpellsWholeBlock (λ x. x.1.1.3) (λ x. x.2.3) (λ x. (x.0, x.1.0, x.1.1)) (λ x. refl) (λ x other us r w. w) (plainly (at_first (headed_sampled word.FunctionBlock SpellsBlockRest (λ x. x.3) block_within) c.in_err-place.ensures.first)))

pub returns-in_err-name-clause-begins : goal.returns-in_err-name-clause-begins
returns-in_err-name-clause-begins c =
    up_so _ _ c.from_residual-in_err-name.ensures.1 (mapped (Headed word.FunctionBlock SpellsBlockRest) SpellsWholeBlock (λ x. x.1.1.3) (λ x. x.2.3) (λ x. (x.0, x.1.0, x.1.1)) (λ x. refl) (λ x other us r w. w) (headed_name word.FunctionBlock SpellsBlockRest (λ x. x.3) block_within c.in_ok-place.ensures.reads (at_first (s_tight the_name_sampled block_within) (rw c.skip_lines.ensures.rest at c.in_err-name.ensures.first))))

pub returns-in_err-inside-clause-begins : goal.returns-in_err-inside-clause-begins
returns-in_err-inside-clause-begins c =
    up_so _ _ c.from_residual-in_err-inside.ensures.1 (mapped (Headed word.FunctionBlock SpellsBlockRest) SpellsWholeBlock (λ x. x.1.1.3) (λ x. x.2.3) (λ x. (x.0, x.1.0, x.1.1)) (λ x. refl) (λ x other us r w. w) (headed_on word.FunctionBlock SpellsBlockRest (λ x. x.3) block_within c.in_ok-place.ensures.reads (rw c.skip_lines.ensures.rest at c.in_ok-name.ensures.reads) c.in_err-inside.ensures.begins))

pub returns-in_err-place-clause-late : goal.returns-in_err-place-clause-late
returns-in_err-place-clause-late c = up_so _ _ c.from_residual.ensures.1 (leaves_as {Q = SpellsBlockBy Unexpected} (λ x. (x.0, (x.1, x.2))) (λ x other us r w. w) (λ vs x h. h) (late_place word.FunctionBlock (SpellsBlockInsideBy Unexpected) (λ x. x.3) block_spreads c.in_err-place.ensures.refused))

pub returns-in_err-name-clause-late : goal.returns-in_err-name-clause-late
returns-in_err-name-clause-late c =
    up_so _ _ c.from_residual-in_err-name.ensures.1 (leaves_as {Q = SpellsBlockBy Unexpected} (λ x. (x.0, (x.1, x.2))) (λ x other us r w. w) (λ vs x h. h) (late_name word.FunctionBlock (SpellsBlockInsideBy Unexpected) (λ x. x.3) block_spreads c.in_ok-place.ensures.reads (rw c.skip_lines.ensures.rest at c.in_err-name.ensures.refused)))

pub returns-in_err-inside-clause-late : goal.returns-in_err-inside-clause-late
returns-in_err-inside-clause-late c =
    up_so _ _ c.from_residual-in_err-inside.ensures.1
    (leaves_as {Q = SpellsBlockBy Unexpected} (λ x. (x.0, (x.1, x.2))) (λ x other us r w. w) (λ vs x h. h) (late_inside word.FunctionBlock (SpellsBlockInsideBy Unexpected) (λ x. x.3) block_spreads c.in_ok-place.ensures.reads (rw c.skip_lines.ensures.rest at c.in_ok-name.ensures.reads) c.in_err-inside.ensures.late))
