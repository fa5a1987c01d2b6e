-- The slots of a book as three sets of bits, beside what is kept of each slot (own rules). Slot s is at index s - 1.
use Rattle.std.specs.Prelude.{◌≡◌, ℕ, ◌+◌, ◌<◌, ◌≤◌, Bool, true, false, List, map, get_or, length, nat_lt, ◌==◌, if◌then◌else◌}
use Rattle.std.specs.Int.{bit_at}
use Rattle.std.specs.List.{range_with_len}
use Rattle.group_spec.specs.declared.calls.Call.{Call}
use Rattle.group_spec.specs.declared.calls.Slot.{Slot}
use Rattle.group_spec.specs.declared.calls.Slot.TheVariants.{Free, Waiting, Told}
use Rattle.group_spec.specs.Bits.{flag}
use Rattle.group_spec.specs.Calls.{greatest_ticket}
use Rattle.group_calls.specs.Columns.{shown_of}
use Rattle.group_calls.specs.declared.book.CallBook.TheInside.{Inside}

-- what is where no call is
abbrev pub no_call : Call
no_call = record { from = 0; to = 0 }

-- what the bits of a slot in the sets, and what is kept of it, say
abbrev pub slot_by : ℕ → ℕ → ℕ → Call → ℕ → Slot
slot_by free waiting ticket call car = if free == 1 then Free else (if waiting == 1 then Waiting ticket call else Told ticket call car)

-- the slot at an index
unfoldable pub slot_of : Inside → ℕ → Slot
slot_of b k = slot_by (bit_at b.free k) (bit_at b.waiting k) (get_or b.tickets k 0) (get_or b.calls k no_call) (get_or b.cars k 0)

-- the slots, slot 1 first
unfoldable pub slots_of : Inside → List Slot
slots_of b = map (slot_of b) (range_with_len 0 b.count)

-- the sets are pairwise disjoint, and together those of all slots; a ticket, a call and a car is kept for each, and what programs see of them
pub record AreSlots (b : Inside) : Type 0 where
  pub few : b.count ≤ 64
  pub given : b.given ≤ greatest_ticket
  pub tickets : length b.tickets ≡ 64
  pub calls : length b.calls ≡ 64
  pub cars : length b.cars ≡ 64
  pub sets : (k : ℕ) → k < 64 → bit_at b.free k + bit_at b.waiting k + bit_at b.told k ≡ flag (nat_lt k b.count)
  pub columns : b.columns ≡ shown_of (slots_of b)

-- whether a slot is of a kind
abbrev pub is_free : Slot → Bool
is_free Free = true
is_free (Waiting ticket call) = false
is_free (Told ticket call car) = false

abbrev pub is_waiting : Slot → Bool
is_waiting Free = false
is_waiting (Waiting ticket call) = true
is_waiting (Told ticket call car) = false

abbrev pub is_told : Slot → Bool
is_told Free = false
is_told (Waiting ticket call) = false
is_told (Told ticket call car) = true

-- what is kept of a slot beside the sets: its ticket, its call and its car, 0 for what it hasn't
abbrev pub kept_of : Slot → ℕ × Call × ℕ
kept_of Free = (0, no_call, 0)
kept_of (Waiting ticket call) = (ticket, call, 0)
kept_of (Told ticket call car) = (ticket, call, car)

-- the lowest bit of a word that has one
pub record IsLowest (word bit : ℕ) : Type 0 where
  pub within : bit < 64
  pub member : bit_at word bit ≡ 1
  pub first : (k : ℕ) → k < bit → bit_at word k ≡ 0
