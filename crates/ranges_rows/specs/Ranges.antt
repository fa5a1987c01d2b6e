-- Rows of ranges: joined range by range, and as they are kept (own rules).
use Rattle.std.specs.Prelude.{List, [], ◌∷◌, ℤ, pos, ◌-ℤ◌}
use Rattle.ranges_interval.specs.declared.Interval.{Interval}
use Rattle.ranges_interval.specs.Interval.{interval_join}

-- each item with that of the same number
abbrev pub paired : {A : Type 0} → (A → A → A) → List A → List A → List A
paired f [] ys = []
paired f (x ∷ xs) [] = []
paired f (x ∷ xs) (y ∷ ys) = f x y ∷ paired f xs ys

-- each range joined with that of the same number
abbrev pub row_joined : List Interval → List Interval → List Interval
row_joined = paired interval_join

-- the range of two words: its lower end, and what its upper end and 2147483647 lie apart
abbrev pub range_of : ℤ → ℤ → Interval
range_of low high = record { lo = low; hi = pos 2147483647 -ℤ high }

-- the ranges of words, two for each
abbrev pub widened : List ℤ → List Interval
widened [] = []
widened (low ∷ []) = []
widened (low ∷ high ∷ words) = range_of low high ∷ widened words

-- the ranges of a row: the wide ones, as soon as there are some
abbrev pub ranges_of : List ℤ → List Interval → List Interval
ranges_of words [] = widened words
ranges_of words (i ∷ wide) = i ∷ wide
