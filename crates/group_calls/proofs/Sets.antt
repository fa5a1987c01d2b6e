-- What the sets say of the slots.
use Rattle.std.specs.Prelude.{◌≡◌, ℕ, ℤ, Option, zero, suc, ◌+◌, ◌-◌, ◌/◌, ◌^◌, ◌<◌, ◌≤◌, Bool, true, false, List, [], ◌∷◌, length, get_or, set, replicate, slice_get, Some, None, nat_lt, ◌==◌, refl}
use Rattle.std.specs.Int.{bit_at, w64, trailing_zeros}
use Rattle.std.proofs.Common.{sym, ◌∙◌, ap, ap₂, subst, inl, inr, arith, eq-eqb, ne_eqb, lt-ltb}
use Rattle.std.proofs.lemmas.Bool.{cases_eq, cases_Bool, cond-true, cond-false, ltb-true, ltb-false}
use Rattle.std.proofs.lemmas.List.{ext_get_or, get_or-set_same, get_or-set_other, get_or-replicate, length-set, length-replicate}
use Rattle.std.proofs.lemmas.List.FromFn.{length-map-range_with_len, get_or-map-range_with_len}
use Rattle.std.proofs.lemmas.Nat.Bits.{ones_shr, bit_at_ones, bit_at_ones_above, bit_at-trailing_zeros, bit_at-zero}
use Rattle.std.proofs.lemmas.Option.{slice_get-get_or}
use Rattle.group_spec.specs.declared.calls.Call.{Call}
use Rattle.group_spec.specs.declared.calls.Slot.{Slot}
use Rattle.group_spec.specs.declared.calls.Slot.TheVariants.{Free, Waiting, Told}
use Rattle.group_spec.specs.declared.calls.Entering.TheVariants.{Done as EntersAt}
use Rattle.group_spec.specs.Bits.{flag, IsWithBit}
use Rattle.group_spec.specs.Calls.{Calls, greatest_ticket, lowest_free_from, with_slot, enter, enter_into}
use Rattle.group_spec.proofs.Bits.{bit_own, bit_other}
use Rattle.group_spec.proofs.Interlock.{false_true}
use Rattle.group_calls.specs.Columns.{shown_of}
use Rattle.group_calls.specs.Sets.{no_call, slot_by, slot_of, slots_of, AreSlots, is_free, is_waiting, is_told, kept_of, IsLowest}
use Rattle.group_calls.specs.declared.book.CallBook.TheInside.{Inside}

-- BITS

-- the first slots are the bits below their count
pub first_bits : (count k : ℕ) → count ≤ 64 → bit_at (18446744073709551615 / 2 ^ (64 - count)) k ≡ flag (nat_lt k count)
first_bits count k few =
    let left : 64 - (64 - count) ≡ count = omega (arith, few) in
    let ones : 18446744073709551615 / 2 ^ (64 - count) ≡ 2 ^ count - 1 = ones_shr 64 (64 - count) (omega arith) ∙ ap (λ n. 2 ^ n - 1) left in
    elim (cases_Bool (nat_lt k count)) [
      | inl e ↦ ap (λ n. bit_at n k) ones ∙ bit_at_ones count k (ltb-true k count e) ∙ sym (ap flag e)
      | inr e ↦ ap (λ n. bit_at n k) ones ∙ bit_at_ones_above count k (ltb-false k count e) ∙ sym (ap flag e)
    ]

pub lowest_is : (word : ℕ) → (word ≡ 0 → ⊥) → word < 2 ^ 64 → IsLowest word (trailing_zeros w64 word)
lowest_is word some fits =
    let all = bit_at-trailing_zeros w64 word (omega (arith, some)) fits in
    record { within = all.0; member = all.1; first = all.2 }

-- THE SLOTS

pub slots_long : (b : Inside) → length (slots_of b) ≡ b.count
unfolding slots_of
slots_long b = length-map-range_with_len (slot_of b) 0 b.count

slot_there : (b : Inside) (k : ℕ) → k < b.count → get_or (slots_of b) k Free ≡ slot_of b k
unfolding slots_of
slot_there b k below = get_or-map-range_with_len (slot_of b) 0 b.count k k Free below (omega arith)

pub reads : (b : Inside) (k : ℕ) (slot : Slot) → k < length (slots_of b) → slot_of b k ≡ slot → slice_get (slots_of b) k ≡ Some slot
reads b k slot below is =
    slice_get-get_or (slots_of b) k Free below ∙ ap Some (slot_there b k (omega (arith, below, slots_long b)) ∙ is)

pub reads_free : (b : Inside) (k : ℕ) → (bit_at b.free k == 1) ≡ true → slot_of b k ≡ Free
unfolding slot_of
reads_free b k e = cond-true _ _ _ e

pub reads_waiting : (b : Inside) (k : ℕ) → (bit_at b.free k == 1) ≡ false → (bit_at b.waiting k == 1) ≡ true → slot_of b k ≡ Waiting (get_or b.tickets k 0) (get_or b.calls k no_call)
unfolding slot_of
reads_waiting b k e f = cond-false _ _ _ e ∙ cond-true _ _ _ f

pub reads_told : (b : Inside) (k : ℕ) → (bit_at b.free k == 1) ≡ false → (bit_at b.waiting k == 1) ≡ false → slot_of b k ≡ Told (get_or b.tickets k 0) (get_or b.calls k no_call) (get_or b.cars k 0)
unfolding slot_of
reads_told b k e f = cond-false _ _ _ e ∙ cond-false _ _ _ f

-- the ticket that was given last doesn't show in the slots
pub given_apart : (b : Inside) (ticket : ℕ) → slots_of (record { free = b.free; waiting = b.waiting; told = b.told; tickets = b.tickets; calls = b.calls; cars = b.cars; count = b.count; given = ticket; columns = b.columns }) ≡ slots_of b
unfolding slots_of slot_of
given_apart b ticket = refl

pub opens : (b : Inside) → ((k : ℕ) → bit_at b.free k ≡ flag (nat_lt k b.count)) → slots_of b ≡ replicate b.count Free
opens b all =
    ext_get_or Free (slots_of b) (replicate b.count Free) (slots_long b ∙ sym (length-replicate b.count Free))
    (λ k below.
    let within : k < b.count = omega (arith, below, slots_long b) in
    slot_there b k within ∙ reads_free b k (eq-eqb _ 1 (all k ∙ ap flag (lt-ltb k b.count within))) ∙ sym (get_or-replicate b.count k Free Free within))

-- all slots Free are slots, with their columns
pub opening_slots :
    (free count : ℕ) (columns : List ℤ × (List Bool × List (Option ℕ))) → count ≤ 64 → ((k : ℕ) → bit_at free k ≡ flag (nat_lt k count)) → columns ≡ shown_of (replicate count Free)
    → AreSlots (record { free = free; waiting = 0; told = 0; tickets = replicate 64 0; calls = replicate 64 no_call; cars = replicate 64 0; count = count; given = 0; columns = columns })
opening_slots free count columns few all shown =
    let b : Inside = record { free = free; waiting = 0; told = 0; tickets = replicate 64 0; calls = replicate 64 no_call; cars = replicate 64 0; count = count; given = 0; columns = columns } in
    record {
      few = few;
      given = omega arith;
      tickets = length-replicate {A = ℕ} 64 0;
      calls = length-replicate 64 no_call;
      cars = length-replicate {A = ℕ} 64 0;
      sets = λ k below. let one = all k in let none : bit_at 0 k ≡ 0 = bit_at-zero k in omega (arith, one, none);
      columns = shown ∙ sym (ap shown_of (opens b all));
    }

-- the ticket that was given last may be another
pub given_slots :
    (b : Inside) (ticket : ℕ) → AreSlots b → ticket ≤ greatest_ticket
    → AreSlots (record { free = b.free; waiting = b.waiting; told = b.told; tickets = b.tickets; calls = b.calls; cars = b.cars; count = b.count; given = ticket; columns = b.columns })
given_slots b ticket are given =
    record { few = are.few; given = given; tickets = are.tickets; calls = are.calls; cars = are.cars; sets = are.sets; columns = are.columns ∙ sym (ap shown_of (given_apart b ticket)) }

-- THE LOWEST FREE ONE

first_free :
    (slots : List Slot) (i at : ℕ) → i < length slots → is_free (get_or slots i Free) ≡ true → ((k : ℕ) → k < i → is_free (get_or slots k Free) ≡ false)
    → lowest_free_from at slots ≡ Some (at + i)
first_free [] i at below own others = absurd (omega (arith, below))
first_free (Free ∷ slots) zero at below own others = let same : at ≡ at + 0 = omega arith in ap Some same
first_free (Free ∷ slots) (suc i) at below own others = false_true (sym (others 0 (omega arith)))
first_free (Waiting ticket call ∷ slots) zero at below own others = false_true own
first_free (Waiting ticket call ∷ slots) (suc i) at below own others =
    let same : at + 1 + i ≡ at + suc i = omega arith in
    first_free slots i (at + 1) (omega (arith, below)) own (λ k under. others (suc k) (omega (arith, under))) ∙ ap Some same
first_free (Told ticket call car ∷ slots) zero at below own others = false_true own
first_free (Told ticket call car ∷ slots) (suc i) at below own others =
    let same : at + 1 + i ≡ at + suc i = omega arith in
    first_free slots i (at + 1) (omega (arith, below)) own (λ k under. others (suc k) (omega (arith, under))) ∙ ap Some same

none_free : (slots : List Slot) (at : ℕ) → ((k : ℕ) → k < length slots → is_free (get_or slots k Free) ≡ false) → lowest_free_from at slots ≡ None
none_free [] at others = refl
none_free (Free ∷ slots) at others = false_true (sym (others 0 (omega arith)))
none_free (Waiting ticket call ∷ slots) at others = none_free slots (at + 1) (λ k under. others (suc k) (omega (arith, under)))
none_free (Told ticket call car ∷ slots) at others = none_free slots (at + 1) (λ k under. others (suc k) (omega (arith, under)))

-- a slot is free where its bit is 1
free_tells : (b : Inside) (k : ℕ) (tells : Bool) → (bit_at b.free k == 1) ≡ tells → is_free (slot_of b k) ≡ tells
free_tells b k true e = ap is_free (reads_free b k e)
free_tells b k false e =
    elim (cases_Bool (bit_at b.waiting k == 1)) [
      | inl f ↦ ap is_free (reads_waiting b k e f)
      | inr f ↦ ap is_free (reads_told b k e f)
    ]

free_in : (b : Inside) (k : ℕ) (tells : Bool) → k < length (slots_of b) → (bit_at b.free k == 1) ≡ tells → is_free (get_or (slots_of b) k Free) ≡ tells
free_in b k tells below e = ap is_free (slot_there b k (omega (arith, below, slots_long b))) ∙ free_tells b k tells e

-- a member of a set is one of the slots
pub member_within : (b : Inside) (k : ℕ) → AreSlots b → k < 64 → bit_at b.free k ≡ 1 → k < length (slots_of b)
member_within b k are below member =
    elim (cases_Bool (nat_lt k b.count)) [
      | inl e ↦ omega (arith, ltb-true k b.count e, slots_long b)
      | inr e ↦ let none : bit_at b.free k + bit_at b.waiting k + bit_at b.told k ≡ 0 = are.sets k below ∙ ap flag e in absurd (omega (arith, none, member))
    ]

pub lowest_free_is : (b : Inside) (i : ℕ) → AreSlots b → IsLowest b.free i → lowest_free_from 1 (slots_of b) ≡ Some (i + 1)
lowest_free_is b i are lowest =
    let within : i < length (slots_of b) = member_within b i are lowest.within lowest.member in
    let same : 1 + i ≡ i + 1 = omega arith in
    first_free (slots_of b) i 1 within (free_in b i true within (eq-eqb _ 1 lowest.member))
    (λ k under. free_in b k false (omega (arith, under, within)) (ne_eqb _ 1 (λ one. omega (arith, one, lowest.first k under))))
    ∙ ap Some same

pub none_free_is : (b : Inside) → b.free ≡ 0 → lowest_free_from 1 (slots_of b) ≡ None
none_free_is b none =
    none_free (slots_of b) 1 (λ k under. free_in b k false under (ne_eqb _ 1 (λ one. let zero_bit : bit_at b.free k ≡ 0 = ap (λ n. bit_at n k) none ∙ bit_at-zero k in omega (arith, one, zero_bit))))

-- ONE SLOT REPLACED

-- the sets and what is kept beside them, with a slot at an index
pub record IsWithSlot (b b' : Inside) (i : ℕ) (place : Slot) : Type 0 where
  pub within : i < b.count
  pub free : IsWithBit 64 b.free i (is_free place) b'.free
  pub waiting : IsWithBit 64 b.waiting i (is_waiting place) b'.waiting
  pub told : IsWithBit 64 b.told i (is_told place) b'.told
  pub tickets : b'.tickets ≡ set b.tickets i (kept_of place).0
  pub calls : b'.calls ≡ set b.calls i (kept_of place).1
  pub cars : b'.cars ≡ set b.cars i (kept_of place).2
  pub count : b'.count ≡ b.count
  pub given : b'.given ≡ b.given
  pub columns : (slots : List Slot) → b.columns ≡ shown_of slots → b'.columns ≡ shown_of (set slots i place)

-- what bits of a kind say
slot_says :
    (place : Slot) (free waiting ticket car : ℕ) (call : Call) → free ≡ flag (is_free place) → waiting ≡ flag (is_waiting place)
    → ticket ≡ (kept_of place).0 → call ≡ (kept_of place).1 → car ≡ (kept_of place).2 → slot_by free waiting ticket call car ≡ place
slot_says Free free waiting ticket car call f w t c r = cond-true _ _ _ (eq-eqb free 1 f)
slot_says (Waiting ticket' call') free waiting ticket car call f w t c r =
    cond-false _ _ _ (ap (λ n. n == 1) f) ∙ cond-true _ _ _ (eq-eqb waiting 1 w) ∙ ap (λ n. Waiting n call) t ∙ ap (λ x. Waiting ticket' x) c
slot_says (Told ticket' call' car') free waiting ticket car call f w t c r =
    cond-false _ _ _ (ap (λ n. n == 1) f) ∙ cond-false _ _ _ (ap (λ n. n == 1) w) ∙ ap (λ n. Told n call car) t ∙ ap (λ x. Told ticket' x car) c ∙ ap (λ n. Told ticket' call' n) r

own_slot : (b b' : Inside) (i : ℕ) (place : Slot) → AreSlots b → IsWithSlot b b' i place → slot_of b' i ≡ place
unfolding slot_of
own_slot b b' i place are is =
    let below : i < 64 = omega (arith, is.within, are.few) in
    slot_says place (bit_at b'.free i) (bit_at b'.waiting i) (get_or b'.tickets i 0) (get_or b'.cars i 0) (get_or b'.calls i no_call)
    (bit_own 64 b.free i b'.free i (is_free place) is.free below refl) (bit_own 64 b.waiting i b'.waiting i (is_waiting place) is.waiting below refl)
    (ap (λ xs. get_or xs i 0) is.tickets ∙ get_or-set_same b.tickets i (kept_of place).0 0 (omega (arith, below, are.tickets)))
    (ap (λ xs. get_or xs i no_call) is.calls ∙ get_or-set_same b.calls i (kept_of place).1 no_call (omega (arith, below, are.calls)))
    (ap (λ xs. get_or xs i 0) is.cars ∙ get_or-set_same b.cars i (kept_of place).2 0 (omega (arith, below, are.cars)))

other_slot : (b b' : Inside) (i k : ℕ) (place : Slot) → IsWithSlot b b' i place → k < 64 → (k ≡ i → ⊥) → slot_of b' k ≡ slot_of b k
unfolding slot_of
other_slot b b' i k place is below other =
    ap (λ n. slot_by n (bit_at b'.waiting k) (get_or b'.tickets k 0) (get_or b'.calls k no_call) (get_or b'.cars k 0)) (bit_other 64 b.free i b'.free k (is_free place) is.free below other)
    ∙ ap (λ n. slot_by (bit_at b.free k) n (get_or b'.tickets k 0) (get_or b'.calls k no_call) (get_or b'.cars k 0)) (bit_other 64 b.waiting i b'.waiting k (is_waiting place) is.waiting below other)
    ∙ ap (λ n. slot_by (bit_at b.free k) (bit_at b.waiting k) n (get_or b'.calls k no_call) (get_or b'.cars k 0)) (ap (λ xs. get_or xs k 0) is.tickets ∙ get_or-set_other b.tickets i k (kept_of place).0 0 other)
    ∙ ap (λ x. slot_by (bit_at b.free k) (bit_at b.waiting k) (get_or b.tickets k 0) x (get_or b'.cars k 0)) (ap (λ xs. get_or xs k no_call) is.calls ∙ get_or-set_other b.calls i k (kept_of place).1 no_call other)
    ∙ ap (λ n. slot_by (bit_at b.free k) (bit_at b.waiting k) (get_or b.tickets k 0) (get_or b.calls k no_call) n) (ap (λ xs. get_or xs k 0) is.cars ∙ get_or-set_other b.cars i k (kept_of place).2 0 other)

-- the slots are those before, with that one
pub slots_with : (b b' : Inside) (i : ℕ) (place : Slot) → AreSlots b → IsWithSlot b b' i place → slots_of b' ≡ set (slots_of b) i place
slots_with b b' i place are is =
    ext_get_or Free (slots_of b') (set (slots_of b) i place) (slots_long b' ∙ is.count ∙ sym (length-set (slots_of b) i place ∙ slots_long b))
    (λ k under.
    let below' : k < b'.count = omega (arith, under, slots_long b') in
    let below : k < b.count = omega (arith, below', is.count) in
    let fits : k < 64 = omega (arith, below, are.few) in
    elim (cases_eq k i) [
      | inl same ↦
          slot_there b' k below' ∙ ap (slot_of b') same ∙ own_slot b b' i place are is
          ∙ sym (ap (λ n. get_or (set (slots_of b) i place) n Free) same ∙ get_or-set_same (slots_of b) i place Free (omega (arith, is.within, slots_long b)))
      | inr other ↦
          slot_there b' k below' ∙ other_slot b b' i k place is fits other ∙ sym (slot_there b k below)
          ∙ sym (get_or-set_other (slots_of b) i k place Free other)
    ])

one_kind : (place : Slot) → flag (is_free place) + flag (is_waiting place) + flag (is_told place) ≡ 1
one_kind Free = refl
one_kind (Waiting ticket call) = refl
one_kind (Told ticket call car) = refl

-- and the sets are still pairwise disjoint
pub still_slots : (b b' : Inside) (i : ℕ) (place : Slot) → AreSlots b → IsWithSlot b b' i place → AreSlots b'
still_slots b b' i place are is =
    record {
      few = omega (arith, is.count, are.few);
      given = omega (arith, is.given, are.given);
      tickets = ap length is.tickets ∙ length-set b.tickets i (kept_of place).0 ∙ are.tickets;
      calls = ap length is.calls ∙ length-set b.calls i (kept_of place).1 ∙ are.calls;
      cars = ap length is.cars ∙ length-set b.cars i (kept_of place).2 ∙ are.cars;
      sets = λ k below.
          elim (cases_eq k i) [
            | inl same ↦
                let f = bit_own 64 b.free i b'.free k (is_free place) is.free below same in
                let w = bit_own 64 b.waiting i b'.waiting k (is_waiting place) is.waiting below same in
                let t = bit_own 64 b.told i b'.told k (is_told place) is.told below same in
                let one : bit_at b'.free k + bit_at b'.waiting k + bit_at b'.told k ≡ 1 = omega (arith, f, w, t, one_kind place) in
                one ∙ sym (ap flag (lt-ltb k b'.count (omega (arith, same, is.within, is.count))))
            | inr other ↦
                let f = bit_other 64 b.free i b'.free k (is_free place) is.free below other in
                let w = bit_other 64 b.waiting i b'.waiting k (is_waiting place) is.waiting below other in
                let t = bit_other 64 b.told i b'.told k (is_told place) is.told below other in
                let same : bit_at b'.free k + bit_at b'.waiting k + bit_at b'.told k ≡ bit_at b.free k + bit_at b.waiting k + bit_at b.told k = omega (arith, f, w, t) in
                same ∙ are.sets k below ∙ ap (λ n. flag (nat_lt k n)) (sym is.count)
          ];
      columns = is.columns (slots_of b) are.columns ∙ sym (ap shown_of (slots_with b b' i place are is));
    }

-- what a write of the sets and of what is kept beside them gives
pub written :
    (b : Inside) (slot index : ℕ) (place : Slot) (free waiting told : ℕ) (f w t : Bool) (kept : ℕ × Call × ℕ) (columns : List ℤ × (List Bool × List (Option ℕ))) → slot - 1 < b.count → index ≡ slot - 1
    → IsWithBit 64 b.free (slot - 1) f free → f ≡ is_free place → IsWithBit 64 b.waiting (slot - 1) w waiting → w ≡ is_waiting place
    → IsWithBit 64 b.told (slot - 1) t told → t ≡ is_told place → kept ≡ kept_of place
    → ((slots : List Slot) → b.columns ≡ shown_of slots → columns ≡ shown_of (set slots index place))
    → IsWithSlot b (record { free = free; waiting = waiting; told = told; tickets = set b.tickets index kept.0; calls = set b.calls index kept.1; cars = set b.cars index kept.2; count = b.count; given = b.given; columns = columns }) (slot - 1) place
written b slot index place free waiting told f w t kept columns within at is_f f_is is_w w_is is_t t_is kept_is columns_are =
    record {
      within = within;
      free = subst (λ on. IsWithBit 64 b.free (slot - 1) on free) f_is is_f;
      waiting = subst (λ on. IsWithBit 64 b.waiting (slot - 1) on waiting) w_is is_w;
      told = subst (λ on. IsWithBit 64 b.told (slot - 1) on told) t_is is_t;
      tickets = ap (λ n. set b.tickets n kept.0) at ∙ ap (λ (k : ℕ × Call × ℕ). set b.tickets (slot - 1) k.0) kept_is;
      calls = ap (λ n. set b.calls n kept.1) at ∙ ap (λ (k : ℕ × Call × ℕ). set b.calls (slot - 1) k.1) kept_is;
      cars = ap (λ n. set b.cars n kept.2) at ∙ ap (λ (k : ℕ × Call × ℕ). set b.cars (slot - 1) k.2) kept_is;
      count = refl;
      given = refl;
      columns = λ slots is. columns_are slots is ∙ ap (λ n. shown_of (set slots n place)) at;
    }

-- a slot that counts from 1 in place of another
pub placed : (slots : List Slot) (slot : ℕ) (place : Slot) → 1 ≤ slot → set slots (slot - 1) place ≡ with_slot slots slot place
placed slots zero place one = absurd (omega (arith, one))
placed slots (suc k) place one = let same : suc k - 1 ≡ k = omega arith in ap (λ n. set slots n place) same

-- a call enters the lowest free slot
pub entered :
    (calls after : Calls) (call : Call) (slot given : ℕ) → calls.last_ticket ≡ given → (given ≡ greatest_ticket → ⊥) → lowest_free_from 1 calls.slots ≡ Some slot
    → after.slots ≡ with_slot calls.slots slot (Waiting (given + 1) call) → after.last_ticket ≡ given + 1 → enter calls call ≡ (after, EntersAt slot (given + 1))
unfolding enter
entered calls after call slot given given_is left lowest slots_are ticket_is =
    let next : calls.last_ticket + 1 ≡ given + 1 = ap (λ n. n + 1) given_is in
    ap (enter_into calls call) (cond-false _ None (lowest_free_from 1 calls.slots) (ne_eqb calls.last_ticket greatest_ticket (λ e. left (sym given_is ∙ e))) ∙ lowest)
    ∙ ap₂ (λ xs n. let new : Calls = record { slots = xs; last_ticket = n } in (new, EntersAt slot n)) (ap (λ n. with_slot calls.slots slot (Waiting n call)) next ∙ sym slots_are) next
    ∙ ap (λ n. let new : Calls = record { slots = after.slots; last_ticket = n } in (new, EntersAt slot (given + 1))) (sym ticket_is)
