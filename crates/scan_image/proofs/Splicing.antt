-- Rows into which numbers and Booleans are copied.
use Rattle.std.proofs.Common.{◌≡◌, ℕ, zero, suc, ◌+◌, ◌≤◌, List, [], ◌∷◌, map, set, length, refl, sym, ap, ap₂, ◌∙◌, arith, take-append-drop, length-set}
use Rattle.il_semantics.specs.declared.value.Value.{Value}
use Rattle.load_slots.specs.Layout.{Rows, rows, number_part, flag_part}
use Rattle.scan_image.specs.Image.{with_slot, filled, spliced}

-- an item before others
set_spliced : {A : Type 0} (xs : List A) (at : ℕ) (y : A) (ys : List A) → suc at ≤ length xs → spliced (set xs at y) (suc at) ys ≡ spliced xs at (y ∷ ys)
set_spliced [] at y ys fits = absurd (omega (arith, fits))
set_spliced (x ∷ xs) zero y ys fits = refl
set_spliced (x ∷ xs) (suc at) y ys fits = ap (λ l. x ∷ l) (set_spliced xs at y ys (omega (arith, fits)))

-- values from a slot on, by what the two rows keep of them
pub filled_spliced :
    (r : Rows) (at : ℕ) (vs : List Value) → at + length vs ≤ length r.numbers → at + length vs ≤ length r.flags
    → filled r at vs ≡ rows (spliced r.numbers at (map number_part vs)) (spliced r.flags at (map flag_part vs))
filled_spliced r at [] numbers flags = ap₂ rows (sym (take-append-drop at r.numbers)) (sym (take-append-drop at r.flags))
filled_spliced r at (v ∷ vs) numbers flags =
    let next : at + 1 ≡ suc at = omega arith in
    let n = length-set r.numbers at (number_part v) in
    let f = length-set r.flags at (flag_part v) in
    filled_spliced (with_slot r at v) (at + 1) vs (omega (arith, numbers, n)) (omega (arith, flags, f))
    ∙ ap (λ k. rows (spliced (set r.numbers at (number_part v)) k (map number_part vs)) (spliced (set r.flags at (flag_part v)) k (map flag_part vs))) next
    ∙ ap₂ rows (set_spliced r.numbers at (number_part v) (map number_part vs) (omega (arith, numbers))) (set_spliced r.flags at (flag_part v) (map flag_part vs) (omega (arith, flags)))
