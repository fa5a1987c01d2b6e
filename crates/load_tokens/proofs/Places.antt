-- Places of a text, and the bytes that are there.
use Rattle.std.proofs.Common.{◌≡◌, ◌≢◌, ℕ, suc, ◌+◌, ◌-◌, ◌<◌, ◌≤◌, Bool, true, false, List, [], ◌∷◌, length, get_or, take, drop, arith, sym, ap, ◌∙◌, ◌⊎◌, inl, inr, cond, length-take, length-drop, get_or-take, get_or-drop, drop-cons}
use Rattle.std.specs.Prelude.{◌==◌, slice_range, count_by}
use Rattle.std.proofs.str.Laws.{order}
use Rattle.std.proofs.Math.Seq.{take-add}
use Rattle.std.proofs.lemmas.List.{get_or_past}
use Rattle.std.proofs.lemmas.List.Sums.{prefix_len-le-length, sum_by-append}
use Rattle.il_syntax.proofs.TextLemmas.{run_end-goes}
use Rattle.il_syntax.specs.Text.{byte_at, run_end, after_minus, line_at, minus}

-- where a byte other than 0 is, the text has not ended
pub in_text : (text : List ℕ) (i b : ℕ) → byte_at text i ≡ b → b ≢ 0 → i < length text
in_text text i b is some = elim (order i (length text)) as (λ _. i < length text) [
  | inl up ↦ omega arith
  | inr low ↦ absurd (some (sym is ∙ get_or_past text i 0 low))
]

-- where a byte passes that 0 does not, the text has not ended
pub passes_in_text : (test : ℕ → Bool) (text : List ℕ) (i : ℕ) → test 0 ≡ false → test (byte_at text i) ≡ true → i < length text
passes_in_text test text i zero_fails passes = elim (order i (length text)) as (λ _. i < length text) [
  | inl up ↦ omega arith
  | inr low ↦
      let e : test (byte_at text i) ≡ test 0 = ap test (get_or_past text i 0 low) in
      cc
]

-- a run does not end before it begins
pub run_from : (test : ℕ → Bool) (text : List ℕ) (i : ℕ) → i ≤ run_end test text i
unfolding run_end
run_from test text i = omega arith

-- a run does not go past the text
pub run_within : (test : ℕ → Bool) (text : List ℕ) (i : ℕ) → i ≤ length text → run_end test text i ≤ length text
unfolding run_end
run_within test text i h = omega (arith, prefix_len-le-length test (drop i text), length-drop i text)

-- a run that a byte begins is not empty
pub run_some : (test : ℕ → Bool) (text : List ℕ) (i : ℕ) → i < length text → test (byte_at text i) ≡ true → i < run_end test text i
run_some test text i h passes = omega (arith, run_end-goes test text i h passes, run_from test text (i + 1))

-- after a minus, or at the place itself
pub minus_from : (text : List ℕ) (i : ℕ) → i ≤ after_minus text i
minus_from text i = grind arith

-- a minus is within the text
pub minus_within : (text : List ℕ) (i : ℕ) → i ≤ length text → after_minus text i ≤ length text
minus_within text i h = elim (order i (length text)) [
  | inl up ↦ grind arith
  | inr low ↦
      let e : byte_at text i ≡ 0 = get_or_past text i 0 low in
      let t : (byte_at text i == minus) ≡ false = ap (λ b. b == minus) e in
      rw t h
]

-- a byte of a part
pub part_byte : (text : List ℕ) (i n k : ℕ) → k < n → get_or (slice_range text i (i + n)) k 0 ≡ byte_at text (i + k)
part_byte text i n k h =
    let less : k < i + n - i = omega arith in
    rw (get_or-take (i + n - i) (drop i text) k 0 less) (get_or-drop i text k 0)

-- the length of a part
pub part_length : (text : List ℕ) (i n m : ℕ) → length (slice_range text i (i + n)) ≡ m → m ≡ n → i + n ≤ length text ⊎ (n ≡ 0)
part_length text i n m h e =
    let long = simp (length-take, length-drop) at h in
    elim (order 0 n) [
      | inl up ↦ elim (order (length text) (i + n)) [ inl far ↦ absurd (omega arith) | inr fits ↦ inl (omega arith) ]
      | inr low ↦ inr (omega arith)
    ]

-- the line of a place further on
pub line_on : (text : List ℕ) (i j : ℕ) → i ≤ j → line_at text j ≡ line_at text i + count_by (λ b. b == 10) (slice_range text i j)
line_on text i j h =
    let e : j ≡ i + (j - i) = omega arith in
    let parts : take j text ≡ take (i + (j - i)) text = ap (λ n. take n text) e in
    let counts = sum_by-append (λ b. cond (b == 10) 1 0) (take i text) (take (j - i) (drop i text)) in
    omega (arith, ap (count_by (λ b. b == 10)) (parts ∙ take-add i (j - i) text), counts)

-- one byte, and two
pub slice_one : (text : List ℕ) (i : ℕ) → i < length text → slice_range text i (i + 1) ≡ byte_at text i ∷ []
slice_one text i h =
    let n : i + 1 - i ≡ 1 = omega arith in
    ap (λ x. take x (drop i text)) n ∙ ap (take 1) (drop-cons text i 0 h)

pub slice_two : (text : List ℕ) (i : ℕ) → i + 1 < length text → slice_range text i (i + 2) ≡ byte_at text i ∷ byte_at text (i + 1) ∷ []
slice_two text i h =
    let n : i + 2 - i ≡ 2 = omega arith in
    let s : suc i ≡ i + 1 = omega arith in
    ap (λ x. take x (drop i text)) n ∙ ap (take 2) (drop-cons text i 0 (omega arith) ∙ ap (λ x. byte_at text i ∷ x) (ap (λ x. drop x text) s ∙ drop-cons text (i + 1) 0 h))
