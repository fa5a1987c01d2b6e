use Rattle.std.proofs.Common.{arith, ap, refl, subst, ◌∙◌}
use Rattle.load_scope.specs.Meanings.{image_seen}
use Rattle.load_scope.specs.Tables.{HasImages}
use Rattle.load_scope.proofs.Filled.{images_none, images_next, take_all}
use Rattle.load_scope.proofs.tables.put_images.Goals as goal

pub loop-row-init : goal.loop-row-init
loop-row-init c = images_none c.args.config.now c.args.kind c.args.role c.args.rows.now c.args.own.now

pub loop-row-preserved : goal.loop-row-preserved
loop-row-preserved c =
    images_next c.args.config.now c.args.kind c.args.role c.args.rows.now c.loop-row.row-index _ _ _ c.image_seen-seen.result c.args.own.now c.loop-row.own c.put_new.new.self (omega arith) refl refl (c.image_seen-seen.ensures ∙ ap (image_seen c.args.kind c.args.role) c.image_in.ensures) c.in_ok-put_new.ensures.ok c.loop-row.invariant

pub returns : goal.returns
returns c = subst (λ l. HasImages c.args.config.now c.args.kind c.args.role l c.args.own.now c.loop-row.own) (take_all c.args.rows.now c.loop-row.row-index (omega arith)) c.loop-row.invariant
