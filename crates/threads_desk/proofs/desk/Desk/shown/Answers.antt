use Rattle.std.proofs.Common.{◌≡◌, ◌<◌, sym, ap, ◌∙◌, arith}
use Rattle.threads_desk.specs.declared.rule.Size.{Size}
use Rattle.threads_desk.specs.Passes.{Layout, Holding}
use Rattle.threads_desk.proofs.Told.{look-of}
use Rattle.threads_desk.proofs.desk.Desk.shown.Goals as goal

pub load-word-requires : goal.load-word-requires
load-word-requires c =
    let desk = c.self.view_is in
    let table : c.pass.inside.seat.table_id ≡ c.self.inside.table.shared.table_id = ap (λ (p : Holding). p.table) c.pass.view_is ∙ c.requires.table ∙ sym (ap (λ (d : Layout). d.table) desk) in
    let floors : c.args.self.now.floors ≡ c.self.inside.floors = sym (ap (λ (d : Layout). d.floors) desk) in
    let key = ap (λ (s : Size). s.floors) c.self.invariant.0 in
    let words = c.self.invariant.1 in
    let seat = c.pass.inside.seat in
    let low : c.from.result < c.self.inside.floors = omega (arith, c.from.ensures, c.requires.from.0, c.requires.from.1, floors) in (
      table,
      omega (arith, low, words),
      look-of c.self.inside.table.shared.key c.self.inside.table.shared.table_id.slots c.from.result seat.id seat.me.0 seat.me.1 seat.table_id.words c.pass.invariant.0 (omega (arith, low, key)),
    )
