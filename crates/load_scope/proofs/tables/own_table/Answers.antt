use Rattle.std.proofs.Common.{ap, ◌∙◌}
use Rattle.base_maps.specs.NameMap.{get}
use Rattle.load_scope.proofs.Seen.{own_seen_is}
use Rattle.load_scope.proofs.tables.own_table.Goals as goal

pub returns : goal.returns
returns c =
    own_seen_is c.args.config.now c.args.unit.now c.in_ok-own.own c.put_images.new.own c.image_rows.result.now c.get-role.result c.in_ok-own.ensures (c.get-role.ensures ∙ ap (get c.args.roles.now) c.as_str.ensures ∙ c.requires.roles c.args.unit.now.name.name) (c.image_rows.ensures c.args.config.now) c.in_ok-put_images.ensures
