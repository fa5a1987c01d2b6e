-- Bytes with single underscores between them, as a loop over them takes its steps.
use Rattle.std.proofs.Common.{◌≡◌, ◌≢◌, ℕ, ◌+◌, ◌<◌, ◌≤◌, Bool, true, false, List, length, get_or, drop, arith, refl, ◌∙◌}
use Rattle.std.specs.Prelude.{not, ◌&&◌, ◌==◌, if◌then◌else◌}
use Rattle.std.proofs.lemmas.Bool.Decides.{nat_tests}
use Rattle.std.proofs.lemmas.List.{at_drop_more, at_drop_all}
use Rattle.il_syntax.specs.Text.{is_grouped_after}

-- one byte on
grouped_more : (test : ℕ → Bool) (inside : Bool) (bs : List ℕ) (i : ℕ) → i < length bs
    → is_grouped_after test inside (drop i bs) ≡ ((if get_or bs i 0 == 95 then inside else test (get_or bs i 0)) && is_grouped_after test (not (get_or bs i 0 == 95)) (drop (i + 1) bs))
unfolding is_grouped_after
grouped_more test inside bs i h = at_drop_more (is_grouped_after test inside) bs i 0 h

is_underscore : (b : ℕ) → b ≡ 95 → (b == 95) ≡ true
is_underscore b e = grind (arith, nat_tests)

pub is_no_underscore : (b : ℕ) → b ≢ 95 → (b == 95) ≡ false
is_no_underscore b e = grind (arith, nat_tests)

-- after an underscore that follows a byte that passes
pub grouped_gap : (test : ℕ → Bool) (bs : List ℕ) (i : ℕ) → i < length bs → get_or bs i 0 ≡ 95
    → is_grouped_after test true (drop i bs) ≡ is_grouped_after test false (drop (i + 1) bs)
grouped_gap test bs i h e = grouped_more test true bs i h ∙ rw (is_underscore (get_or bs i 0) e) refl

-- another underscore is none of them
pub grouped_bad_gap : (test : ℕ → Bool) (bs : List ℕ) (i : ℕ) → i < length bs → get_or bs i 0 ≡ 95
    → is_grouped_after test false (drop i bs) ≡ false
grouped_bad_gap test bs i h e = grouped_more test false bs i h ∙ rw (is_underscore (get_or bs i 0) e) refl

-- after a byte that passes
pub grouped_pass : (test : ℕ → Bool) (inside : Bool) (bs : List ℕ) (i : ℕ) → i < length bs → get_or bs i 0 ≢ 95 → test (get_or bs i 0) ≡ true
    → is_grouped_after test inside (drop i bs) ≡ is_grouped_after test true (drop (i + 1) bs)
grouped_pass test inside bs i h e p = grouped_more test inside bs i h ∙ rw (is_no_underscore (get_or bs i 0) e, p) refl

-- a byte that does not pass
pub grouped_fail : (test : ℕ → Bool) (inside : Bool) (bs : List ℕ) (i : ℕ) → i < length bs → get_or bs i 0 ≢ 95 → test (get_or bs i 0) ≡ false
    → is_grouped_after test inside (drop i bs) ≡ false
grouped_fail test inside bs i h e p = grouped_more test inside bs i h ∙ rw (is_no_underscore (get_or bs i 0) e, p) refl

-- at the end
pub grouped_end : (test : ℕ → Bool) (inside : Bool) (bs : List ℕ) (i : ℕ) → length bs ≤ i → is_grouped_after test inside (drop i bs) ≡ inside
unfolding is_grouped_after
grouped_end test inside bs i h = at_drop_all (is_grouped_after test inside) bs i h
