use Rattle.std.proofs.Common.{◌≡◌, ◌<◌, sym, ap, ◌∙◌, arith}
use Rattle.threads_desk.specs.declared.rule.Size.{Size}
use Rattle.threads_desk.specs.Passes.{Layout, Holding}
use Rattle.threads_desk.proofs.Told.{gather-of, gathered-one}
use Rattle.threads_desk.proofs.desk.Desk.gather_from.Goals as goal

pub swap-word-requires : goal.swap-word-requires
swap-word-requires c =
    let desk = c.self.view_is in
    let table : c.pass.inside.seat.table_id ≡ c.self.inside.table.shared.table_id = ap (λ (p : Holding). p.table) c.pass.view_is ∙ c.requires.table ∙ sym (ap (λ (d : Layout). d.table) desk) in
    let floors : c.args.self.now.floors ≡ c.self.inside.floors = sym (ap (λ (d : Layout). d.floors) desk) in
    let key = ap (λ (s : Size). s.floors) c.self.invariant.0 in
    let words = c.self.invariant.1 in
    let most = c.self.invariant.4 in
    let seat = c.pass.inside.seat in
    let low : c.from.result < c.self.inside.floors = omega (arith, c.from.ensures, c.requires.from.0, c.requires.from.1, floors) in (
      table,
      omega (arith, low, words),
      gather-of c.self.inside.table.shared.key c.self.inside.table.shared.table_id.slots c.from.result seat.id seat.me.0 seat.me.1 seat.table_id.words c.pass.invariant.0 (omega (arith, most, key)) (omega (arith, low, key)),
    )

pub invariant_of-pass : goal.invariant_of-pass
invariant_of-pass c =
    let seat = c.pass.inside.seat in
    let new = c.swap-word.new.seat in
    let table : seat.table_id ≡ c.self.inside.table.shared.table_id = ap (λ (p : Holding). p.table) c.pass.view_is ∙ c.requires.table ∙ sym (ap (λ (d : Layout). d.table) c.self.view_is) in
    let floors : c.args.self.now.floors ≡ c.self.inside.floors = sym (ap (λ (d : Layout). d.floors) c.self.view_is) in
    let words : seat.table_id.words ≡ c.self.inside.floors = ap (λ t. t.words) table ∙ c.self.invariant.1 in
    let told = c.swap-word.ensures in
    let all = gathered-one c.self.inside.table.shared.table_id.slots c.from.result c.args.from c.swap-word.result seat.table_id new.table_id seat.me.0 new.me.0 c.pass.inside.hand c.insert_from.new.self told.0
    (omega (arith, c.from.ensures, c.requires.from.0)) c.pass.invariant.0 told.2.1 c.insert_from.ensures (sym c.if-not-has_from.ensures) (omega (arith, words, c.self.invariant.4)) (omega (arith, words, floors, c.requires.from.1)) c.pass.invariant.2 c.pass.invariant.3 in
    (all.1, told.2.0 ∙ c.pass.invariant.1, all.2, all.3)

pub returns-then-not-has_from : goal.returns-then-not-has_from
returns-then-not-has_from c =
    let seat = c.pass.inside.seat in
    let new = c.swap-word.new.seat in
    let table : seat.table_id ≡ c.self.inside.table.shared.table_id = ap (λ (p : Holding). p.table) c.pass.view_is ∙ c.requires.table ∙ sym (ap (λ (d : Layout). d.table) c.self.view_is) in
    let floors : c.args.self.now.floors ≡ c.self.inside.floors = sym (ap (λ (d : Layout). d.floors) c.self.view_is) in
    let words : seat.table_id.words ≡ c.self.inside.floors = ap (λ t. t.words) table ∙ c.self.invariant.1 in
    let told = c.swap-word.ensures in
    let all = gathered-one c.self.inside.table.shared.table_id.slots c.from.result c.args.from c.swap-word.result seat.table_id new.table_id seat.me.0 new.me.0 c.pass.inside.hand c.insert_from.new.self told.0
    (omega (arith, c.from.ensures, c.requires.from.0)) c.pass.invariant.0 told.2.1 c.insert_from.ensures (sym c.if-not-has_from.ensures) (omega (arith, words, c.self.invariant.4)) (omega (arith, words, floors, c.requires.from.1)) c.pass.invariant.2 c.pass.invariant.3 in
    rw (← c.pass.view_is) all.0
