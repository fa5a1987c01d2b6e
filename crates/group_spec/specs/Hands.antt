-- Sets of calls, as lists of their members in the order of (from, to), each once.
use Rattle.std.specs.Prelude.{◌≡◌, ℕ, zero, suc, ◌+◌, ◌-◌, ◌/◌, ◌%◌, ◌^◌, ◌<◌, ◌≤◌, Bool, true, false, ◌&&◌, ◌||◌, not, List, [], ◌∷◌, ◌++◌, length, get_or, filter, sum_by, nat_lt, ◌==◌, if◌then◌else◌}
use Rattle.std.specs.Int.{bit_at}
use Rattle.group_spec.specs.declared.calls.Call.{Call}

-- whether two calls have the same floors (own rule)
abbrev pub same_call : Call → Call → Bool
same_call a b = (a.from == b.from) && (a.to == b.to)

-- whether a call comes before another in the order of (from, to)
abbrev pub is_before : Call → Call → Bool
is_before a b = nat_lt a.from b.from || ((a.from == b.from) && nat_lt a.to b.to)

-- whether the call is a member
abbrev pub has_call : List Call → Call → Bool
has_call [] call = false
has_call (member ∷ set) call = same_call member call || has_call set call

-- the set with the call
abbrev pub with_call : List Call → Call → List Call
with_call [] call = call ∷ []
with_call (member ∷ set) call =
    if is_before call member then call ∷ member ∷ set
    else (if same_call member call then member ∷ set else member ∷ with_call set call)

-- the set with all these calls
abbrev pub with_calls : List Call → List Call → List Call
with_calls set [] = set
with_calls set (call ∷ calls) = with_calls (with_call set call) calls

-- whether a call is from this floor (own rule)
abbrev pub is_from : ℕ → Call → Bool
is_from floor call = call.from == floor

-- whether a call from this floor is a member (own rule)
abbrev pub has_from : List Call → ℕ → Bool
has_from [] floor = false
has_from (member ∷ set) floor = is_from floor member || has_from set floor

-- the members from this floor, and the others
abbrev pub calls_from : ℕ → List Call → List Call
calls_from floor set = filter (is_from floor) set

-- the members from other floors (own rule)
abbrev pub calls_not_from : ℕ → List Call → List Call
calls_not_from floor set = filter (λ call. not (is_from floor call)) set

-- floor `to` of each call as bit `to - 1`
abbrev pub mask_of : List Call → ℕ
mask_of calls = sum_by (λ call. 2 ^ (call.to - 1)) calls

-- the members are in the order of (from, to), each once
abbrev pub FirstIsBehind : Call → List Call → Type 0
FirstIsBehind call [] = Unit {0}
FirstIsBehind call (next ∷ calls) = is_before call next ≡ true

-- the members are in the order of (from, to), each once (own rule)
abbrev pub IsInOrder : List Call → Type 0
IsInOrder [] = Unit {0}
IsInOrder (call ∷ calls) = FirstIsBehind call calls × IsInOrder calls

-- the floors from which there are calls, rising, each once, of calls in order
abbrev pub floors_after : ℕ → List Call → List ℕ
floors_after last [] = []
floors_after last (call ∷ calls) = if call.from == last then floors_after last calls else call.from ∷ floors_after call.from calls

-- the floors from which there are calls (own rule)
abbrev pub floors_of : List Call → List ℕ
floors_of calls = floors_after 0 calls

-- Words of bits: a word for each floor, in which bit `to - 1` is the call to `to`.
unfoldable pub calls_of_bits : ℕ → ℕ → ℕ → ℕ → List Call
calls_of_bits zero from to word = []
calls_of_bits (suc count) from to word =
    if word % 2 == 1 then record { from = from; to = to } ∷ calls_of_bits count from (to + 1) (word / 2) else calls_of_bits count from (to + 1) (word / 2)

-- the calls of words, of which the first is that of this floor (own rule)
unfoldable pub calls_of_words_from : ℕ → List ℕ → List Call
calls_of_words_from from [] = []
calls_of_words_from from (word ∷ words) = calls_of_bits 16 from 1 word ++ calls_of_words_from (from + 1) words

-- the set that words hold
abbrev pub calls_of_words : List ℕ → List Call
calls_of_words words = calls_of_words_from 1 words

-- the words of a set, of which the first is that of this floor (own rule)
abbrev pub words_of_calls_from : ℕ → ℕ → List Call → List ℕ
words_of_calls_from zero from calls = []
words_of_calls_from (suc count) from calls = mask_of (calls_from from calls) ∷ words_of_calls_from count (from + 1) calls

-- the words that hold a set
unfoldable pub words_of_calls : List Call → List ℕ
words_of_calls calls = words_of_calls_from 16 1 calls

-- a word for each of the 16 floors
abbrev pub IsWords : List ℕ → Type 0
IsWords words = (length words ≡ 16) × ((k : ℕ) → get_or words k 0 < 2 ^ 16)

-- a floor that has a word and a bit
abbrev pub HasWord : ℕ → Type 0
HasWord floor = (1 ≤ floor) × (floor ≤ 16)

-- no word before this one has a bit
abbrev pub IsBlankBefore : List ℕ → ℕ → Type 0
IsBlankBefore words index = (k : ℕ) → k < index → get_or words k 0 ≡ 0

-- the lowest bit of the first word that has one
pub record IsLowestBit (words : List ℕ) (index bit : ℕ) : Type 0 where
  pub within : index < length words
  pub narrow : bit < 16
  pub before : IsBlankBefore words index
  pub set : bit_at (get_or words index 0) bit ≡ 1
  pub lowest : (k : ℕ) → k < bit → bit_at (get_or words index 0) k ≡ 0
