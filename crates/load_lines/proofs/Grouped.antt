-- Groups of digits, as a loop over them takes its steps.
use Rattle.std.proofs.Common.{◌≡◌, ℕ, ◌+◌, ◌<◌, Bool, ◌&&◌, not, List, length, drop, get_or, refl, arith}
use Rattle.std.proofs.lemmas.List.{drop_more, drop_all}
use Rattle.std.specs.Prelude.{◌==◌, if◌then◌else◌}
use Rattle.il_syntax.specs.Text.{is_grouped_after}

-- a group goes on at its next byte
pub grouped_more : (test : ℕ → Bool) (inside : Bool) (xs : List ℕ) (i : ℕ) → i < length xs
    → is_grouped_after test inside (drop i xs) ≡ ((if get_or xs i 0 == 95 then inside else test (get_or xs i 0)) && is_grouped_after test (not (get_or xs i 0 == 95)) (drop (i + 1) xs))
unfolding is_grouped_after
grouped_more test inside xs i h = rw (drop_more xs i 0 h) refl

-- at the end a group is whole if something comes before
pub grouped_end : (test : ℕ → Bool) (inside : Bool) (xs : List ℕ) (i : ℕ) → length xs < i + 1 → is_grouped_after test inside (drop i xs) ≡ inside
unfolding is_grouped_after
grouped_end test inside xs i h = rw (drop_all i xs (omega arith)) refl
