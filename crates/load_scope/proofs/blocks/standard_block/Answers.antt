use Rattle.std.proofs.Common.{option_map, ap, sym, ◌∙◌}
use Rattle.il_statics.specs.declared.standard.NamedBlock.{NamedBlock}
use Rattle.load_scope.proofs.Known.{block_is}
use Rattle.load_scope.proofs.blocks.standard_block.Goals as goal

pub returns-in-Some : goal.returns-in-Some
returns-in-Some c =
    sym (ap (λ o. option_map (λ (r : NamedBlock). r.block) (option_map (λ r. r.now) o)) c.in-Some.is)
    ∙ ap (option_map (λ (r : NamedBlock). r.block)) c.row_named.ensures
    ∙ block_is c.standard_blocks.result.now c.args.name.now c.standard_blocks.ensures

pub returns-in-None : goal.returns-in-None
returns-in-None c =
    sym (ap (λ o. option_map (λ (r : NamedBlock). r.block) (option_map (λ r. r.now) o)) c.in-None.is)
    ∙ ap (option_map (λ (r : NamedBlock). r.block)) c.row_named.ensures
    ∙ block_is c.standard_blocks.result.now c.args.name.now c.standard_blocks.ensures
