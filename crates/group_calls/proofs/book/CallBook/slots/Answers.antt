use Rattle.std.proofs.Common.{◌++◌, ◌∷◌, [], ◌∙◌, sym, ap, take, arith}
use Rattle.std.proofs.lemmas.List.{take_more}
use Rattle.std.proofs.lemmas.Option.{get_or_from_slice_get}
use Rattle.group_calls.proofs.book.CallBook.slots.Goals as goal

pub loop-index-preserved : goal.loop-index-preserved
loop-index-preserved c =
    let slots = c.args.self.now.slots in
    let i = c.loop-index.index in
    c.push.ensures ∙ ap (λ xs. xs ++ c.slot_of.result ∷ []) c.loop-index.invariant
    ∙ sym (take_more slots i c.slot_of.result (omega (arith, c.loop-index-test.true, c.from-index-end.ensures, c.count.ensures.value)) ∙ ap (λ x. take i slots ++ x ∷ []) (get_or_from_slice_get slots i c.slot_of.result c.slot_of.result c.slot_of.ensures))
