use Rattle.std.proofs.Common.{◌∙◌, arith, ap, sym}
use Rattle.base_maps.specs.NameMap.{get, get-empty}
use Rattle.load_code.proofs.Indexed.{place_next, indexed}
use Rattle.load_slots.specs.declared.flat.Cell.{Cell}
use Rattle.load_code.proofs.slots.index_of.Goals as goal

pub loop-slot-init : goal.loop-slot-init
loop-slot-init c = λ q. ap (λ m. get m q) c.new-table.ensures ∙ get-empty q

pub loop-slot-preserved : goal.loop-slot-preserved
loop-slot-preserved c =
    place_next (λ (x : Cell). x.path) c.args.cells.now c.loop-slot.slot c.index-cells-slot.result c.loop-slot.table c.put_new.new.self c.as_str.result.now (omega arith) c.index-cells-slot.is (c.as_str.ensures ∙ ap (λ x. x.path) (sym c.index-cells-slot.is))
    c.in_ok-put_new.ensures.ok c.loop-slot.invariant

pub returns : goal.returns
returns c = indexed c.args.cells.now c.loop-slot.slot c.loop-slot.table (omega arith) c.loop-slot.invariant
