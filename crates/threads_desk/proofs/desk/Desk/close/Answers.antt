use Rattle.std.proofs.Common.{◌≡◌, ◌+◌, ◌*◌, ℕ, List, suc, length, sym, ap, ◌∙◌, arith, subst}
use Rattle.std.specs.Prelude.{slice_index, sum_by}
use Rattle.std.specs.Int.{bit_at}
use Rattle.threads_desk.specs.declared.rule.Size.{Size}
use Rattle.threads_desk.specs.Account.{call, times, gathered_of, IsWord}
use Rattle.threads_desk.specs.Passes.{Layout, Panel, Holding}
use Rattle.std.proofs.Common.{w16}
use Rattle.std.proofs.Math.Facts.{Fits-of_lt}
use Rattle.threads_desk.proofs.Steps.{below-16}
use Rattle.threads_desk.proofs.Told.{closes-of, answered-of}
use Rattle.threads_desk.proofs.Closing.{get-is, IsRead, read-more, read-balances}
use Rattle.threads_desk.proofs.desk.Desk.close.Goals as goal

pub overflow_cast-word : goal.overflow_cast-word
overflow_cast-word c =
    let final = c.close_with-closed.ensures.values.2 in
    let floors = ap (λ (s : Size). s.floors) c.self.invariant.0 in
    let here = ap (λ xs. slice_index xs c.from.result) final.2 ∙ get-is _ c.from.result c.word.result c.word.ensures in
    let ok : IsWord c.self.inside.floors c.from.result c.word.result = subst (λ n. IsWord n c.from.result c.word.result) floors (subst (IsWord c.self.inside.table.shared.key.floors c.from.result) here (final.1.0.are_words c.from.result)) in
    Fits-of_lt {w = w16} (below-16 c.self.inside.floors c.word.result c.self.invariant.4 ok.0)

pub loop-index-preserved : goal.loop-index-preserved
loop-index-preserved c =
    let final = c.close_with-closed.ensures.values.2 in
    let floors = ap (λ (s : Size). s.floors) c.self.invariant.0 in
    let n = c.loop-index.index in
    let there = subst (λ i. slice_index c.close_with-closed.result.words.items i ≡ c.word.result) c.from.ensures (get-is c.close_with-closed.result.words.items c.from.result c.word.result c.word.ensures) in
    let here = ap (λ xs. slice_index xs n) final.2 ∙ there in
    let ok : IsWord c.self.inside.floors n c.word.result = subst (λ m. IsWord m n c.word.result) floors (subst (IsWord c.self.inside.table.shared.key.floors n) here (final.1.0.are_words n)) in
    read-more c.self.inside.floors c.close_with-closed.result.words.items n (n + 1) c.loop-index.desk c.insert_from.new.self c.word.result c.loop-index.invariant c.loop-index-test.true c.self.invariant.4 (omega arith) there ok c.insert_from.ensures

pub returns-clause-balanced : goal.returns-clause-balanced
returns-clause-balanced c =
    let final = c.close_with-closed.ensures.values.2 in
    let key = c.self.inside.table.shared.key in
    let floors : key.floors ≡ c.args.self.floors = ap (λ (s : Size). s.floors) c.self.invariant.0 ∙ ap (λ (d : Layout). d.floors) c.self.view_is in
    let panels : key.panels ≡ c.args.self.panels = ap (λ (s : Size). s.panels) c.self.invariant.0 ∙ ap (λ (d : Layout). d.panels) c.self.view_is in
    let whole : length c.args.panels.items ≡ key.floors * key.panels = c.requires.panels.0 ∙ sym (ap (λ n. n * key.panels) floors ∙ ap (λ n. c.args.self.floors * n) panels) in
    let at-end : c.loop-index.index ≡ c.args.self.floors = omega (arith, c.loop-index-test.false, c.loop-index.invariant.within, ap (λ (d : Layout). d.floors) c.self.view_is) in
    let seat = c.take_back-seat.result in
    let taken : gathered_of seat.me.0 ≡ c.args.pass.gathered = c.take_back-seat.ensures.gathered ∙ ap (λ (h : Holding). h.gathered) c.pass.view_is in
    let all = closes-of key seat.id seat.me.0 final.0 c.args.self.floors c.args.panels.items c.take_back-seat.ensures.back whole final.1 in
    let all' : (i k : ℕ) → sum_by (λ (p : Panel). times (call (suc i) (suc k)) p.news) c.args.panels.items ≡ times (call (suc i) (suc k)) c.args.pass.gathered + bit_at (slice_index c.close_with-closed.result.words.items i) k =
    λ i k. all i k ∙ ap (λ xs. times (call (suc i) (suc k)) xs + bit_at (slice_index final.0.words i) k) taken ∙ ap (λ (ws : List ℕ). times (call (suc i) (suc k)) c.args.pass.gathered + bit_at (slice_index ws i) k) final.2 in
    let read = subst (λ f. IsRead f c.close_with-closed.result.words.items c.loop-index.index c.loop-index.desk) (ap (λ (d : Layout). d.floors) c.self.view_is) c.loop-index.invariant in
    read-balances c.args.self.floors c.close_with-closed.result.words.items c.loop-index.index c.loop-index.desk c.args.panels.items c.args.pass.gathered at-end read all'

pub returns-clause-pressed : goal.returns-clause-pressed
returns-clause-pressed c =
    let final = c.close_with-closed.ensures.values.2 in
    let key = c.self.inside.table.shared.key in
    let floors : key.floors ≡ c.args.self.floors = ap (λ (s : Size). s.floors) c.self.invariant.0 ∙ ap (λ (d : Layout). d.floors) c.self.view_is in
    let panels : key.panels ≡ c.args.self.panels = ap (λ (s : Size). s.panels) c.self.invariant.0 ∙ ap (λ (d : Layout). d.panels) c.self.view_is in
    let whole : length c.args.panels.items ≡ key.floors * key.panels = c.requires.panels.0 ∙ sym (ap (λ n. n * key.panels) floors ∙ ap (λ n. c.args.self.floors * n) panels) in
    let seat = c.take_back-seat.result in
    answered-of key seat.id seat.me.0 final.0 c.args.self.floors c.args.panels.items c.take_back-seat.ensures.back whole final.1
