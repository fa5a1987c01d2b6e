use Rattle.std.proofs.Common.{◌∙◌, arith, ap, map, sym}
use Rattle.base_maps.specs.NameMap.{get, get-empty}
use Rattle.load_scope.specs.Views.{place_of}
use Rattle.load_scope.proofs.Filled.{unit_next, take_all}
use Rattle.load_scope.proofs.tables.unit_table.Goals as goal

pub loop-index-init : goal.loop-index-init
loop-index-init c = λ q. ap (λ m. get m q) c.new-table.ensures ∙ get-empty q

pub loop-index-preserved : goal.loop-index-preserved
loop-index-preserved c = unit_next c.args.units.now c.loop-index.index c.index-units-index.result c.loop-index.table c.put_new.new.self c.as_str.result.now (omega arith) c.index-units-index.is (c.as_str.ensures ∙ ap (λ u. u.name.name) (sym c.index-units-index.is)) c.in_ok-put_new.ensures.ok c.loop-index.invariant

pub returns : goal.returns
returns c = λ q. c.loop-index.invariant q ∙ ap (λ l. place_of (map (λ u. u.name.name) l) q) (take_all c.args.units.now c.loop-index.index (omega arith))
