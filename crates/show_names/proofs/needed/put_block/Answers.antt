use Rattle.std.proofs.Common.{true, ap, ◌∙◌}
use Rattle.std.proofs.lemmas.Result.{on_ok_weaker}
use Rattle.base_maps.specs.NameMap.{insert}
use Rattle.show_names.proofs.WarningTables.{block_put}
use Rattle.show_names.proofs.needed.put_block.Goals as goal

pub returns-in-Block : goal.returns-in-Block
returns-in-Block c =
    on_ok_weaker c.put.result (λ put. block_put c.args.table.now c.put.new.self c.args.form.now c.in-Block.block c.in-Block.is (put ∙ ap (λ name. insert c.args.table.now name true) c.as_str.ensures)) c.put.ensures.ok
