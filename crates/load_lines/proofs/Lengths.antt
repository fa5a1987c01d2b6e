-- A reserved word, looked for among those of its length.
use Rattle.std.proofs.Common.{◌≡◌, ℕ, zero, suc, List, [], ◌∷◌, length, Bool, true, false, Some, None, refl, ap}
use Rattle.std.specs.Prelude.{bytes_eq, ◌==◌, if◌then◌else◌}
use Rattle.il_syntax.specs.Text.{entry_of}
use Rattle.il_syntax.specs.Words.{reserved_words, keyword_of}
use Rattle.load_lines.specs.Lengths.{one_letter_words, two_letter_words, three_letter_words, four_letter_words, five_letter_words, longer_words}
use Rattle.load_tokens.proofs.Cases.{unlike}

-- the entries of these lengths
abbrev kept : {A : Type 0} → (ℕ → Bool) → List (List ℕ × A) → List (List ℕ × A)
kept p [] = []
kept p (e ∷ es) = if p (length e.0) then e ∷ kept p es else kept p es

-- entries of other lengths may be left out
kept_same : {A : Type 0} (p : ℕ → Bool) (es : List (List ℕ × A)) (w : List ℕ) → p (length w) ≡ true → entry_of (kept p es) w ≡ entry_of es w
unfolding entry_of
kept_same p [] w h = refl
kept_same p (e ∷ es) w h = step (p (length e.0)) refl (kept_same p es w h)
  where
    step : (b : Bool) → p (length e.0) ≡ b → entry_of (kept p es) w ≡ entry_of es w → entry_of (if b then e ∷ kept p es else kept p es) w ≡ entry_of (e ∷ es) w
    step true q rest = ap (λ o. if bytes_eq w e.0 then Some e.1 else o) rest
    step false q rest =
        let other : bytes_eq w e.0 ≡ false = unlike w e.0 (λ same. let x : p (length w) ≡ p (length e.0) = ap p same in cc) in
        rw other rest

-- whether a length is none of one to five
abbrev is_longer : ℕ → Bool
is_longer zero = true
is_longer (suc zero) = false
is_longer (suc (suc zero)) = false
is_longer (suc (suc (suc zero))) = false
is_longer (suc (suc (suc (suc zero)))) = false
is_longer (suc (suc (suc (suc (suc zero))))) = false
is_longer (suc (suc (suc (suc (suc (suc n)))))) = true

other_length : (n : ℕ) → (n ≡ 1 → ⊥) → (n ≡ 2 → ⊥) → (n ≡ 3 → ⊥) → (n ≡ 4 → ⊥) → (n ≡ 5 → ⊥) → is_longer n ≡ true
other_length zero a b c d e = refl
other_length (suc zero) a b c d e = absurd (a refl)
other_length (suc (suc zero)) a b c d e = absurd (b refl)
other_length (suc (suc (suc zero))) a b c d e = absurd (c refl)
other_length (suc (suc (suc (suc zero)))) a b c d e = absurd (d refl)
other_length (suc (suc (suc (suc (suc zero))))) a b c d e = absurd (e refl)
other_length (suc (suc (suc (suc (suc (suc n)))))) a b c d e = refl

pub one_letter : (w : List ℕ) → length w ≡ 1 → entry_of one_letter_words w ≡ keyword_of w
unfolding keyword_of
one_letter w n = kept_same (λ k. k == 1) reserved_words w (rw n refl)

pub two_letters : (w : List ℕ) → length w ≡ 2 → entry_of two_letter_words w ≡ keyword_of w
unfolding keyword_of
two_letters w n = kept_same (λ k. k == 2) reserved_words w (rw n refl)

pub three_letters : (w : List ℕ) → length w ≡ 3 → entry_of three_letter_words w ≡ keyword_of w
unfolding keyword_of
three_letters w n = kept_same (λ k. k == 3) reserved_words w (rw n refl)

pub four_letters : (w : List ℕ) → length w ≡ 4 → entry_of four_letter_words w ≡ keyword_of w
unfolding keyword_of
four_letters w n = kept_same (λ k. k == 4) reserved_words w (rw n refl)

pub five_letters : (w : List ℕ) → length w ≡ 5 → entry_of five_letter_words w ≡ keyword_of w
unfolding keyword_of
five_letters w n = kept_same (λ k. k == 5) reserved_words w (rw n refl)

pub six_letters : (w : List ℕ) → length w ≡ 6 → None ≡ keyword_of w
unfolding keyword_of entry_of
six_letters w n = kept_same (λ k. k == 6) reserved_words w (rw n refl)

pub other_letters : (w : List ℕ) → (length w ≡ 1 → ⊥) → (length w ≡ 2 → ⊥) → (length w ≡ 3 → ⊥) → (length w ≡ 4 → ⊥) → (length w ≡ 5 → ⊥) → entry_of longer_words w ≡ keyword_of w
unfolding keyword_of
other_letters w a b c d e = kept_same is_longer reserved_words w (other_length (length w) a b c d e)
