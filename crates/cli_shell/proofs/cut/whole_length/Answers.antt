use Rattle.std.proofs.Common.{arith, ℕ, ◌≡◌, ◌+◌, ◌<◌, ◌≤◌, Bool, true, false, List, [], ◌∷◌, zero, suc, length, slice_index, refl, sym, ap, ◌∙◌}
use Rattle.std.proofs.lemmas.Bool.{cond-true, cond-false, eq-eqb, ne_eqb}
use Rattle.cli_shell.specs.Cuts.{is_feed, whole_length}
use Rattle.cli_shell.proofs.cut.whole_length.Goals as goal

not_true : (b : Bool) → (b ≡ true → ⊥) → b ≡ false
not_true true never = absurd (never refl)
not_true false never = refl

-- a byte in front of bytes without a line feed
on_feed : (b : ℕ) (bs : List ℕ) → whole_length bs ≡ 0 → is_feed b ≡ true → whole_length (b ∷ bs) ≡ 1
on_feed b bs none is = cond-true _ _ _ (eq-eqb (whole_length bs) 0 none) ∙ cond-true _ _ _ is

on_other : (b : ℕ) (bs : List ℕ) → whole_length bs ≡ 0 → is_feed b ≡ false → whole_length (b ∷ bs) ≡ 0
on_other b bs none is = cond-true _ _ _ (eq-eqb (whole_length bs) 0 none) ∙ cond-false _ _ _ is

-- a byte in front of others
on_more : (b : ℕ) (bs : List ℕ) (e : ℕ) → whole_length bs ≡ e + 1 → whole_length (b ∷ bs) ≡ suc e + 1
on_more b bs e more = cond-false _ _ _ (ne_eqb (whole_length bs) 0 (λ none. omega (arith, none, more))) ∙ ap (λ n. 1 + n) more ∙ omega arith

-- bytes without a line feed
whole_none : (bs : List ℕ) → ((k : ℕ) → k < length bs → is_feed (slice_index bs k) ≡ true → ⊥) → whole_length bs ≡ 0
whole_none [] none = refl
whole_none (b ∷ bs) none = on_other b bs (whole_none bs (λ k low. none (suc k) (omega (arith, low)))) (not_true (is_feed b) (none 0 (omega arith)))

-- bytes with a last line feed
whole_last : (bs : List ℕ) (e : ℕ) → e < length bs → is_feed (slice_index bs e) ≡ true → ((k : ℕ) → e + 1 ≤ k → k < length bs → is_feed (slice_index bs k) ≡ true → ⊥) → whole_length bs ≡ e + 1
whole_last [] e low is after = absurd (omega (arith, low))
whole_last (b ∷ bs) zero low is after = on_feed b bs (whole_none bs (λ k less. after (suc k) (omega arith) (omega (arith, less)))) is
whole_last (b ∷ bs) (suc e) low is after = on_more b bs e (whole_last bs e (omega (arith, low)) is (λ k least less. after (suc k) (omega (arith, least)) (omega (arith, less))))

pub returns-in-Some-clause-is : goal.returns-in-Some-clause-is
returns-in-Some-clause-is c = sym (whole_last c.args.text.now c.in-Some.place c.in-Some.ensures.0.high c.in-Some.ensures.1 c.in-Some.ensures.0.after)

pub returns-in-None-clause-is : goal.returns-in-None-clause-is
returns-in-None-clause-is c = sym (whole_none c.args.text.now (λ k low. c.in-None.ensures k (omega arith) low))
