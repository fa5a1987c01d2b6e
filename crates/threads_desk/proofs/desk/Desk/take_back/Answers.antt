use Rattle.std.proofs.Common.{◌≡◌, sym, ap, ◌∙◌, arith, subst}
use Rattle.std.specs.Prelude.{All}
use Rattle.threads_desk.specs.Account.{gathered_of, with_panel_back}
use Rattle.threads_desk.specs.Passes.{Layout, Panel}
use Rattle.threads_desk.proofs.Told.{IsTakenBack, join-of, one-back}
use Rattle.threads_desk.proofs.Closing.{all-last, all-others}
use Rattle.threads_desk.proofs.desk.Desk.take_back.Goals as goal

pub join_seat-requires : goal.join_seat-requires
join_seat-requires c =
    let own = c.loop-pass.invariant in
    let desk = sym (ap (λ (d : Layout). d.table) c.self.view_is) in
    let all = subst (All (λ (p : Panel). p.table ≡ c.args.self.now.table)) c.in-Some.ensures.items own.4 in
    let last = all-last (λ (p : Panel). p.table ≡ c.args.self.now.table) c.pop.new.self.items c.in-Some.pass all in (
      own.0 ∙ c.requires.table ∙ desk,
      ap (λ (p : Panel). p.table) c.pass.view_is ∙ last ∙ desk,
      c.pass.invariant.1,
      omega (arith, c.self.invariant.1, c.self.invariant.3),
      join-of c.self.inside.table.shared.key c.loop-pass.seat.id c.pass.inside.seat.id c.loop-pass.seat.me.0 c.pass.inside.seat.me.0 c.args.self.now.floors c.pass.inside.floor c.args.panels.items c.loop-pass.panels.items own.2 c.pass.invariant.0,
    )

pub loop-pass-preserved : goal.loop-pass-preserved
loop-pass-preserved c =
    let own = c.loop-pass.invariant in
    let told = c.join_seat.ensures in
    let items = c.in-Some.ensures.items in
    let all = subst (All (λ (p : Panel). p.table ≡ c.args.self.now.table)) items own.4 in
    let left = subst (λ xs. IsTakenBack c.args.self.now.floors c.args.panels.items xs c.loop-pass.seat.me.0) items own.2 in
    let back = one-back c.loop-pass.seat.me.0 c.pass.inside.seat.me.0 c.args.self.now.floors c.pass.inside.floor c.args.panels.items c.pop.new.self.items c.in-Some.pass left c.pass.invariant.0 (sym (ap (λ (p : Panel). p.news) c.pass.view_is)) (sym (ap (λ (p : Panel). p.pressed) c.pass.view_is)) in
    let view : c.join_seat.new.seat.me.0 ≡ with_panel_back c.loop-pass.seat.me.0 c.pass.inside.seat.me.0 = ap (λ m. m.0) told.2 in (
      told.0 ∙ own.0,
      ap (λ m. m.1) told.2 ∙ own.1,
      rw view back.0,
      ap gathered_of view ∙ back.1 ∙ own.3,
      all-others (λ (p : Panel). p.table ≡ c.args.self.now.table) c.pop.new.self.items c.in-Some.pass all,
    )
