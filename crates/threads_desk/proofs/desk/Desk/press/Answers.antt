use Rattle.std.proofs.Common.{◌≡◌, ◌≢◌, ◌-◌, ◌≤◌, suc, sym, ap, ◌∙◌, arith}
use Rattle.std.proofs.lemmas.Nat.{one_shl}
use Rattle.threads_desk.specs.declared.rule.Size.{Size}
use Rattle.threads_desk.specs.Passes.{Layout, Panel}
use Rattle.threads_desk.proofs.Told.{press-of, answers-new, answers-already}
use Rattle.threads_desk.proofs.desk.Desk.press.Goals as goal
use Rattle.threads_desk.proofs.desk.Desk.press.Goals.{then-found-mask-eq0, else-found-mask-eq0}

pub fetch_or-found-requires : goal.fetch_or-found-requires
fetch_or-found-requires c =
    let desk = c.self.view_is in
    let table : c.pass.inside.seat.table_id ≡ c.self.inside.table.shared.table_id = ap (λ (p : Panel). p.table) c.pass.view_is ∙ c.requires.table ∙ sym (ap (λ (d : Layout). d.table) desk) in
    let floors : c.args.self.now.floors ≡ c.self.inside.floors = sym (ap (λ (d : Layout). d.floors) desk) in
    let key = ap (λ (s : Size). s.floors) c.self.invariant.0 in
    let words = c.self.invariant.1 in
    let most = c.self.invariant.4 in
    let seat = c.pass.inside.seat in
    let low : c.pass.inside.floor ≤ c.self.inside.floors = omega (arith, c.pass.invariant.3, ap (λ t. t.words) table, words) in
    let to : c.args.to ≤ c.self.inside.floors = omega (arith, c.requires.to.1, floors) in
    let mask = one_shl (c.args.to - 1) 64 (omega (arith, to, most)) in
    let i-is : c.pass.inside.floor ≡ suc c.from.result = omega (arith, c.from.ensures, c.pass.invariant.2) in
    let differs : c.args.to - 1 ≢ c.from.result = λ e. c.if-floor-to.false (omega (arith, e, i-is, c.requires.to.0)) in (
      table,
      omega (arith, low, words, i-is),
      press-of c.self.inside.table.shared.key c.self.inside.table.shared.table_id.slots c.from.result (c.args.to - 1) seat.id seat.me.0 seat.me.1 _ c.pass.inside.floor c.pass.invariant.0 mask i-is (omega (arith, low, i-is, key)) (omega (arith, to, key, c.requires.to.0)) differs,
    )

pub returns : goal.returns
returns c =
    let seat = c.pass.inside.seat in
    let new = c.fetch_or-found.new.seat in
    let told = c.fetch_or-found.ensures in
    let floors : c.args.self.now.floors ≡ c.self.inside.floors = sym (ap (λ (d : Layout). d.floors) c.self.view_is) in
    let to : c.args.to ≤ c.self.inside.floors = omega (arith, c.requires.to.1, floors) in
    let most = c.self.invariant.4 in
    let mask = one_shl (c.args.to - 1) 64 (omega (arith, to, most)) in
    elim c.if-found-mask-eq0.branch [
      | then-found-mask-eq0 w ↦
          rw (← c.pass.view_is, w.answer-is)
          (answers-new seat.table_id new.table_id c.pass.inside.floor c.pass.inside.panel c.args.to c.self.inside.table.shared.table_id.slots c.from.result _ c.fetch_or-found.result seat.me.0 new.me.0 told.0 c.if-floor-to.false c.pass.invariant.0 mask c.requires.to.0 told.2.1 w.if-found-mask-eq0.true)
      | else-found-mask-eq0 w ↦
          rw (← c.pass.view_is, w.answer-is)
          (answers-already seat.table_id new.table_id c.pass.inside.floor c.pass.inside.panel c.args.to c.self.inside.table.shared.table_id.slots c.from.result _ c.fetch_or-found.result seat.me.0 new.me.0 told.0 c.if-floor-to.false c.pass.invariant.0 mask c.requires.to.0 told.2.1 w.if-found-mask-eq0.false)
    ]
