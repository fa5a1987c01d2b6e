use Rattle.std.proofs.Common.{◌≡◌, ◌+◌, ◌/◌, ◌%◌, ℕ, [], ◌∷◌, length, sym, ap, ◌∙◌, arith, subst}
use Rattle.std.specs.Prelude.{slice_get, Some}
use Rattle.std.proofs.lemmas.List.{length-append}
use Rattle.threads_desk.specs.Account.{news_of, pressed_of, next_panel}
use Rattle.threads_desk.specs.Passes.{Layout, Panel, IsOpening, panels_of}
use Rattle.threads_desk.proofs.Told.{split-of, opening-more, next-is}
use Rattle.threads_desk.proofs.Closing.{panels-more}
use Rattle.threads_desk.proofs.desk.Desk.make_panels.Goals as goal

pub split_seat-next-requires : goal.split_seat-next-requires
split_seat-next-requires c =
    let own = c.loop-number.invariant in
    let seat = c.loop-number.seat in (
      own.0 ∙ c.requires.table ∙ sym (ap (λ (d : Layout). d.table) c.self.view_is),
      omega (arith, c.self.invariant.1, c.self.invariant.3),
      split-of c.self.inside.table.shared.key seat.id seat.me.0 c.args.self.now.floors c.args.self.now.panels c.loop-number.number own.2,
    )

pub loop-number-preserved : goal.loop-number-preserved
loop-number-preserved c =
    let own = c.loop-number.invariant in
    let told = c.split_seat-next.ensures in
    let n = c.loop-number.number in
    let before = c.loop-number.seat.me.0 in
    let panels = c.args.self.now.panels in
    let next = next-is before c.args.self.now.floors panels n own.2 in
    let of : c.split_seat-next.result.me.0 ≡ next_panel before = ap (λ m. m.0) told.4 in
    let each : c.self.inside.panels ≡ panels = ap (λ (d : Layout). d.panels) c.self.view_is in
    let table : c.split_seat-next.result.table_id ≡ c.args.self.now.table = told.3 ∙ own.0 ∙ c.requires.table in
    let has : panels_of c.split_seat-next.result.me.0 ≡ panels = ap panels_of of ∙ next.1 in
    let none : news_of c.split_seat-next.result.me.0 ≡ [] = ap news_of of ∙ next.2 in
    let idle : pressed_of c.split_seat-next.result.me.0 ≡ [] = ap pressed_of of ∙ next.3 in
    let made : ℕ → Panel = λ k. record { table = c.args.self.now.table; panels = panels; floor = k / panels + 1; panel = k % panels + 1; news = []; pressed = [] } in
    let items = c.in_ok-push.ensures.items in
    let one : Panel = record { table = c.split_seat-next.result.table_id; panels = panels_of c.split_seat-next.result.me.0; floor = n / c.self.inside.panels + 1; panel = n % c.self.inside.panels + 1; news = news_of c.split_seat-next.result.me.0; pressed = pressed_of c.split_seat-next.result.me.0 } in
    let one-is : one ≡ made (length c.loop-number.passes.items) =
    (λ j. record { table = table j; panels = has j; floor = n / each j + 1; panel = n % each j + 1; news = none j; pressed = idle j }) ∙ ap made (sym own.3) in (
      told.0 ∙ own.0,
      ap (λ m. m.1) told.2 ∙ own.1,
      subst (IsOpening c.args.self.now.floors panels (n + 1)) (sym (ap (λ m. m.0) told.2)) (opening-more before c.args.self.now.floors panels n own.2),
      ap (λ xs. length xs) items ∙ omega (arith, length-append c.loop-number.passes.items (one ∷ []), own.3),
      subst (λ xs. (k : ℕ) (p : Panel) → slice_get xs k ≡ Some p → p ≡ made k) (sym items) (panels-more made c.loop-number.passes.items one own.4 one-is),
    )
