use Rattle.std.proofs.Common.{◌<◌, ◌∙◌, sym, ap, length, arith}
use Rattle.group_spec.specs.Calls.{Calls}
use Rattle.group_calls.specs.Sets.{slots_of}
use Rattle.group_calls.proofs.Sets.{slots_long, reads, reads_free, reads_waiting, reads_told}
use Rattle.group_calls.proofs.book.CallBook.slot_of.Goals as goal

pub overflow_cast-index : goal.overflow_cast-index
overflow_cast-index c = omega (arith, c.requires, ap (λ (calls : Calls). length calls.slots) c.self.view_is, slots_long c.self.inside, c.self.invariant.few)

pub has_bit-requires : goal.has_bit-requires
has_bit-requires c = omega (arith, c.requires, ap (λ (calls : Calls). length calls.slots) c.self.view_is, slots_long c.self.inside, c.self.invariant.few)

pub returns-then-has_bit : goal.returns-then-has_bit
returns-then-has_bit c =
    let within : c.args.index < length (slots_of c.self.inside) = omega (arith, c.requires, ap (λ (calls : Calls). length calls.slots) c.self.view_is) in
    rw (← c.self.view_is) (reads c.self.inside c.args.index _ within (reads_free c.self.inside c.args.index (sym c.has_bit.ensures ∙ c.if-has_bit.true)))

pub offset_bounds-self-inside-index : goal.offset_bounds-self-inside-index
offset_bounds-self-inside-index c = omega (arith, c.requires, ap (λ (calls : Calls). length calls.slots) c.self.view_is, slots_long c.self.inside, c.self.invariant.few)

pub bounds-self-inside-index : goal.bounds-self-inside-index
bounds-self-inside-index c = omega (arith, c.requires, ap (λ (calls : Calls). length calls.slots) c.self.view_is, slots_long c.self.inside, c.self.invariant.few)

pub offset_bounds-self-inside-index-2 : goal.offset_bounds-self-inside-index-2
offset_bounds-self-inside-index-2 c = omega (arith, c.requires, ap (λ (calls : Calls). length calls.slots) c.self.view_is, slots_long c.self.inside, c.self.invariant.few)

pub bounds-self-inside-index-2 : goal.bounds-self-inside-index-2
bounds-self-inside-index-2 c = omega (arith, c.requires, ap (λ (calls : Calls). length calls.slots) c.self.view_is, slots_long c.self.inside, c.self.invariant.few)

pub overflow_cast-index-2 : goal.overflow_cast-index-2
overflow_cast-index-2 c = omega (arith, c.requires, ap (λ (calls : Calls). length calls.slots) c.self.view_is, slots_long c.self.inside, c.self.invariant.few)

pub has_bit-requires-2 : goal.has_bit-requires-2
has_bit-requires-2 c = omega (arith, c.requires, ap (λ (calls : Calls). length calls.slots) c.self.view_is, slots_long c.self.inside, c.self.invariant.few)

pub returns-then-has_bit-2 : goal.returns-then-has_bit-2
returns-then-has_bit-2 c =
    let within : c.args.index < length (slots_of c.self.inside) = omega (arith, c.requires, ap (λ (calls : Calls). length calls.slots) c.self.view_is) in
    rw (← c.self.view_is) (reads c.self.inside c.args.index _ within (reads_waiting c.self.inside c.args.index (sym c.has_bit.ensures ∙ c.if-has_bit.false) (sym c.has_bit-2.ensures ∙ c.if-has_bit-2.true)))

pub bounds-self-inside-index-3 : goal.bounds-self-inside-index-3
bounds-self-inside-index-3 c = omega (arith, c.requires, ap (λ (calls : Calls). length calls.slots) c.self.view_is, slots_long c.self.inside, c.self.invariant.few)

pub returns : goal.returns
returns c =
    let within : c.args.index < length (slots_of c.self.inside) = omega (arith, c.requires, ap (λ (calls : Calls). length calls.slots) c.self.view_is) in
    rw (← c.self.view_is) (reads c.self.inside c.args.index _ within (reads_told c.self.inside c.args.index (sym c.has_bit.ensures ∙ c.if-has_bit.false) (sym c.has_bit-2.ensures ∙ c.if-has_bit-2.false)))
