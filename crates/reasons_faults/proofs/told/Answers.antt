use Rattle.std.proofs.Common.{subst, sym, ◌∙◌}
use Rattle.il_syntax.specs.declared.tree.Config.{Config}
use Rattle.reasons_faults.specs.ChainReasons.{AreToldOfChains}
use Rattle.reasons_faults.specs.Reasons.{of_chains}
use Rattle.reasons_names.proofs.Pieces.{if_ok}
use Rattle.reasons_faults.proofs.told.Goals as goal

pub returns-then-is_of_chains : goal.returns-then-is_of_chains
returns-then-is_of_chains c =
    if_ok c.told.result _ _ (λ lines told. of_chains (sym c.is_of_chains.ensures ∙ c.if-is_of_chains.true) (subst (λ (k : Config). AreToldOfChains k c.args.number c.args.place lines.items) c.in_ok-names.ensures told)) c.told.ensures
