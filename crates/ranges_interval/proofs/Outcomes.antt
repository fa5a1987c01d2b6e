-- What an outcome of a comparison leaves of a range.
use Rattle.std.proofs.Common.{◌≡◌, ℤ, pos, ◌≤ℤ◌, ◌+ℤ◌, ◌-ℤ◌, Bool, true, false, cond, not, ◌&&◌, Option, Some, None, refl, sym, ap, ◌∙◌, subst, inl, inr, arith, T, ◌⊎◌}
use Rattle.std.proofs.lemmas.Int.{ints, clamps}
use Rattle.std.specs.Prelude.{int_le, int_lt, if◌then◌else◌}
use Rattle.std.specs.Int.{int_min, int_max}
use Rattle.il_syntax.specs.declared.tree.Comparison.{Comparison}
use Rattle.il_syntax.specs.declared.tree.Comparison.TheVariants.{Greater, GreaterOrEqual, Equal, NotEqual, LessOrEqual, Less}
use Rattle.ranges_interval.specs.declared.Interval.{Interval}
use Rattle.ranges_interval.specs.Interval.{IsIn, IsWithin, IsOrdered, IsEnd, IsOperand, between}
use Rattle.ranges_interval.specs.Compared.{integer_equal, compared, unless_empty, at_least, at_most, equal_to, other_than, interval_narrow, IsLeft, LeavesAll, IsUnequal, LeavesOnly, LeavesLeast, IsLeftWithin, GrowsNarrowed}

-- TESTS

both : (a b : Bool) → (a && b) ≡ true → (a ≡ true) × (b ≡ true)
both true b e = (refl, e)
both false b e = cc

all : (a b : Bool) → a ≡ true → b ≡ true → (a && b) ≡ true
all true b p q = q
all false b p q = p

pub le_yes : (x y : ℤ) → x ≤ℤ y → int_le x y ≡ true
le_yes x y h = by_test (int_le x y) h.le
  where
    by_test : (b : Bool) → T b → b ≡ true
    by_test true h = refl
    by_test false h = absurd h

pub equal_is : (x y : ℤ) → integer_equal x y ≡ true → x ≡ y
equal_is x y e = let h = both (int_le x y) (int_le y x) e in let a = h.0 in let b = h.1 in omega (arith, ints)

pub equal_itself : (x y : ℤ) → x ≡ y → integer_equal x y ≡ true
equal_itself x y e = all (int_le x y) (int_le y x) (le_yes x y (omega (arith, ints))) (le_yes y x (omega (arith, ints)))

not_equal : (x y : ℤ) → integer_equal x y ≡ false → x ≡ y → ⊥
not_equal x y e h = let bad : true ≡ false = sym (equal_itself x y h) ∙ e in cc

-- NUMBERS THAT ARE LEFT

-- a number lies in what is left
abbrev Left : (low high z : ℤ) → Type 0
Left low high z = IsLeft (unless_empty (between low high)) z

is_left : (low high z : ℤ) → low ≤ℤ z → z ≤ℤ high → Left low high z
is_left low high z p q = subst (λ b. IsLeft (if b then Some (between low high) else None) z) (sym (le_yes low high (omega (arith, ints)))) (p, q)

left_is : (low high z : ℤ) → Left low high z → (low ≤ℤ z) × (z ≤ℤ high)
left_is low high z h = by_test (int_le low high) h
  where
    by_test : (b : Bool) → IsLeft (if b then Some (between low high) else None) z → (low ≤ℤ z) × (z ≤ℤ high)
    by_test true h = h
    by_test false h = absurd h

cond_cases : (b : Bool) (x y : ℤ) → ((b ≡ true) × (cond b x y ≡ x)) ⊎ ((b ≡ false) × (cond b x y ≡ y))
cond_cases true x y = inl (refl, refl)
cond_cases false x y = inr (refl, refl)

-- AT LEAST, AT MOST

at_least_all : (i : Interval) (c z : ℤ) → IsIn i z → c ≤ℤ z → IsLeft (at_least i c) z
at_least_all i c z h k = is_left (int_max i.lo c) i.hi z (omega (arith, ints, clamps)) h.1

at_least_only : (i : Interval) (c z : ℤ) → IsLeft (at_least i c) z → IsIn i z × (c ≤ℤ z)
at_least_only i c z h = let l = left_is (int_max i.lo c) i.hi z h in let p = l.0 in let q = l.1 in ((omega (arith, ints, clamps), q), omega (arith, ints, clamps))

at_most_all : (i : Interval) (c z : ℤ) → IsIn i z → z ≤ℤ c → IsLeft (at_most i c) z
at_most_all i c z h k = is_left i.lo (int_min i.hi c) z h.0 (omega (arith, ints, clamps))

at_most_only : (i : Interval) (c z : ℤ) → IsLeft (at_most i c) z → IsIn i z × (z ≤ℤ c)
at_most_only i c z h = let l = left_is i.lo (int_min i.hi c) z h in let p = l.0 in let q = l.1 in ((p, omega (arith, ints, clamps)), omega (arith, ints, clamps))

-- EQUAL, OTHER

equal_to_all : (i : Interval) (c z : ℤ) → IsIn i z → z ≡ c → IsLeft (equal_to i c) z
equal_to_all i c z h e =
    subst (λ b. IsLeft (if b then Some (between c c) else None) z) (sym (all (int_le i.lo c) (int_le c i.hi) (le_yes i.lo c (omega (arith, ints))) (le_yes c i.hi (omega (arith, ints))))) (omega (arith, ints), omega (arith, ints))

equal_to_only : (i : Interval) (c z : ℤ) → IsLeft (equal_to i c) z → IsIn i z × (z ≡ c)
equal_to_only i c z h = by_test (int_le i.lo c && int_le c i.hi) refl h
  where
    by_test : (b : Bool) → (int_le i.lo c && int_le c i.hi) ≡ b → IsLeft (if b then Some (between c c) else None) z → IsIn i z × (z ≡ c)
    by_test true e h = let t = both (int_le i.lo c) (int_le c i.hi) e in let p = t.0 in let q = t.1 in ((omega (arith, ints), omega (arith, ints)), omega (arith, ints))
    by_test false e h = absurd h

low_end : (i : Interval) (c z : ℤ) → IsIn i z → (z ≡ c → ⊥) → cond (integer_equal i.lo c) (i.lo +ℤ pos 1) i.lo ≤ℤ z
low_end i c z h other = elim (cond_cases (integer_equal i.lo c) (i.lo +ℤ pos 1) i.lo) [
  | inl y ↦ let e = equal_is i.lo c y.0 in rw y.1 (omega (arith, ints))
  | inr n ↦ rw n.1 h.0
]

high_end : (i : Interval) (c z : ℤ) → IsIn i z → (z ≡ c → ⊥) → z ≤ℤ cond (integer_equal i.hi c) (i.hi -ℤ pos 1) i.hi
high_end i c z h other = elim (cond_cases (integer_equal i.hi c) (i.hi -ℤ pos 1) i.hi) [
  | inl y ↦ let e = equal_is i.hi c y.0 in rw y.1 (omega (arith, ints))
  | inr n ↦ rw n.1 h.1
]

other_than_all : (i : Interval) (c z : ℤ) → IsIn i z → (z ≡ c → ⊥) → IsLeft (other_than i c) z
other_than_all i c z h other = is_left (cond (integer_equal i.lo c) (i.lo +ℤ pos 1) i.lo) (cond (integer_equal i.hi c) (i.hi -ℤ pos 1) i.hi) z (low_end i c z h other) (high_end i c z h other)

low_within : (i : Interval) (c z : ℤ) → cond (integer_equal i.lo c) (i.lo +ℤ pos 1) i.lo ≤ℤ z → i.lo ≤ℤ z
low_within i c z h = elim (cond_cases (integer_equal i.lo c) (i.lo +ℤ pos 1) i.lo) [
  | inl y ↦ let k = subst (λ x. x ≤ℤ z) y.1 h in omega (arith, ints)
  | inr n ↦ subst (λ x. x ≤ℤ z) n.1 h
]

high_within : (i : Interval) (c z : ℤ) → z ≤ℤ cond (integer_equal i.hi c) (i.hi -ℤ pos 1) i.hi → z ≤ℤ i.hi
high_within i c z h = elim (cond_cases (integer_equal i.hi c) (i.hi -ℤ pos 1) i.hi) [
  | inl y ↦ let k = subst (λ x. z ≤ℤ x) y.1 h in omega (arith, ints)
  | inr n ↦ subst (λ x. z ≤ℤ x) n.1 h
]

other_than_only : (i : Interval) (c z : ℤ) → IsLeft (other_than i c) z → IsIn i z
other_than_only i c z h = let l = left_is (cond (integer_equal i.lo c) (i.lo +ℤ pos 1) i.lo) (cond (integer_equal i.hi c) (i.hi -ℤ pos 1) i.hi) z h in (low_within i c z l.0, high_within i c z l.1)

-- ALL OF THEM

above : (x y : ℤ) → int_lt x y ≡ true → (x +ℤ pos 1) ≤ℤ y
above x y e = omega (arith, ints)

not_above : (x y : ℤ) → int_lt x y ≡ false → y ≤ℤ x
not_above x y e = omega (arith, ints)

not_below : (x y : ℤ) → int_le x y ≡ false → (y +ℤ pos 1) ≤ℤ x
not_below x y e = omega (arith, ints)

negated : (b : Bool) → not b ≡ true → b ≡ false
negated true e = cc
negated false e = refl

restored : (b : Bool) → not b ≡ false → b ≡ true
restored true e = refl
restored false e = cc

pub leaves_all : (comparison : Comparison) (holds : Bool) (i : Interval) (c : ℤ) → LeavesAll comparison holds i c (interval_narrow comparison holds i c)
leaves_all Greater true i c z h e = at_least_all i (c +ℤ pos 1) z h (above c z e)
leaves_all Greater false i c z h e = at_most_all i c z h (not_above c z e)
leaves_all GreaterOrEqual true i c z h e = at_least_all i c z h (omega (arith, ints))
leaves_all GreaterOrEqual false i c z h e = at_most_all i (c -ℤ pos 1) z h (let k = not_below c z e in omega (arith, ints))
leaves_all Less true i c z h e = at_most_all i (c -ℤ pos 1) z h (let k = above z c e in omega (arith, ints))
leaves_all Less false i c z h e = at_least_all i c z h (not_above z c e)
leaves_all LessOrEqual true i c z h e = at_most_all i c z h (omega (arith, ints))
leaves_all LessOrEqual false i c z h e = at_least_all i (c +ℤ pos 1) z h (not_below z c e)
leaves_all Equal true i c z h e = equal_to_all i c z h (equal_is z c e)
leaves_all Equal false i c z h e = other_than_all i c z h (not_equal z c e)
leaves_all NotEqual true i c z h e = other_than_all i c z h (not_equal z c (negated (integer_equal z c) e))
leaves_all NotEqual false i c z h e = equal_to_all i c z h (equal_is z c (restored (integer_equal z c) e))

-- a comparison's outcome, from the order of the numbers
lt_yes : (x y : ℤ) → (x +ℤ pos 1) ≤ℤ y → int_lt x y ≡ true
lt_yes x y h = by_test (int_lt x y) refl
  where
    by_test : (b : Bool) → int_lt x y ≡ b → int_lt x y ≡ true
    by_test true e = e
    by_test false e = absurd (omega (arith, ints))

lt_no : (x y : ℤ) → y ≤ℤ x → int_lt x y ≡ false
lt_no x y h = by_test (int_lt x y) refl
  where
    by_test : (b : Bool) → int_lt x y ≡ b → int_lt x y ≡ false
    by_test true e = absurd (omega (arith, ints))
    by_test false e = e

le_no : (x y : ℤ) → (y +ℤ pos 1) ≤ℤ x → int_le x y ≡ false
le_no x y h = by_test (int_le x y) refl
  where
    by_test : (b : Bool) → int_le x y ≡ b → int_le x y ≡ false
    by_test true e = absurd (omega (arith, ints))
    by_test false e = e

-- an outcome that is that of all numbers but one
either : (comparison : Comparison) (holds : Bool) (z c : ℤ) → IsUnequal comparison holds → ((z ≡ c → ⊥) → compared comparison z c ≡ holds) → (compared comparison z c ≡ holds) ⊎ (IsUnequal comparison holds × (z ≡ c))
either comparison holds z c u other = by_test (integer_equal z c) refl
  where
    by_test : (b : Bool) → integer_equal z c ≡ b → (compared comparison z c ≡ holds) ⊎ (IsUnequal comparison holds × (z ≡ c))
    by_test true e = inr (u, equal_is z c e)
    by_test false e = inl (other (not_equal z c e))

unequal : (z c : ℤ) → (z ≡ c → ⊥) → integer_equal z c ≡ false
unequal z c other = by_test (integer_equal z c) refl
  where
    by_test : (b : Bool) → integer_equal z c ≡ b → integer_equal z c ≡ false
    by_test true e = absurd (other (equal_is z c e))
    by_test false e = e

pub cond_yes : (x y u v : ℤ) → x ≡ y → cond (integer_equal x y) u v ≡ u
cond_yes x y u v e = ap (λ b. cond b u v) (equal_itself x y e)

pub cond_no : (x y u v : ℤ) → (x ≡ y → ⊥) → cond (integer_equal x y) u v ≡ v
cond_no x y u v e = ap (λ b. cond b u v) (unequal x y e)

pub leaves_only : (comparison : Comparison) (holds : Bool) (i : Interval) (c : ℤ) → LeavesOnly comparison holds i c (interval_narrow comparison holds i c)
leaves_only Greater true i c z h = let k = at_least_only i (c +ℤ pos 1) z h in (k.0, inl (lt_yes c z k.1))
leaves_only Greater false i c z h = let k = at_most_only i c z h in (k.0, inl (lt_no c z k.1))
leaves_only GreaterOrEqual true i c z h = let k = at_least_only i c z h in (k.0, inl (le_yes c z k.1))
leaves_only GreaterOrEqual false i c z h = let k = at_most_only i (c -ℤ pos 1) z h in let l = k.1 in (k.0, inl (le_no c z (omega (arith, ints))))
leaves_only Less true i c z h = let k = at_most_only i (c -ℤ pos 1) z h in let l = k.1 in (k.0, inl (lt_yes z c (omega (arith, ints))))
leaves_only Less false i c z h = let k = at_least_only i c z h in (k.0, inl (lt_no z c k.1))
leaves_only LessOrEqual true i c z h = let k = at_most_only i c z h in (k.0, inl (le_yes z c k.1))
leaves_only LessOrEqual false i c z h = let k = at_least_only i (c +ℤ pos 1) z h in (k.0, inl (le_no z c k.1))
leaves_only Equal true i c z h = let k = equal_to_only i c z h in (k.0, inl (equal_itself z c k.1))
leaves_only Equal false i c z h = (other_than_only i c z h, either Equal false z c refl (unequal z c))
leaves_only NotEqual true i c z h = (other_than_only i c z h, either NotEqual true z c refl (λ other. ap not (unequal z c other)))
leaves_only NotEqual false i c z h = let k = equal_to_only i c z h in (k.0, inl (ap not (equal_itself z c k.1)))

-- WHAT IS LEFT IS A RANGE

unless_ordered : (j r : Interval) → unless_empty j ≡ Some r → (j ≡ r) × IsOrdered r
unless_ordered j r e = by_test (int_le j.lo j.hi) refl e
  where
    same : Some j ≡ Some r → j ≡ r
    same e = cc

    by_test : (b : Bool) → int_le j.lo j.hi ≡ b → (if b then Some j else None) ≡ Some r → (j ≡ r) × IsOrdered r
    by_test true t e = let s = same e in (s, subst IsOrdered s (let o : j.lo ≤ℤ j.hi = omega (arith, ints) in o))
    by_test false t e = cc

equal_ordered : (i r : Interval) (c : ℤ) → equal_to i c ≡ Some r → IsOrdered r
equal_ordered i r c e = by_test (int_le i.lo c && int_le c i.hi) e
  where
    same : Some (between c c) ≡ Some r → between c c ≡ r
    same e = cc

    by_test : (b : Bool) → (if b then Some (between c c) else None) ≡ Some r → IsOrdered r
    by_test true e = subst IsOrdered (same e) (let o : c ≤ℤ c = omega (arith, ints) in o)
    by_test false e = cc

at_least_ordered : (i r : Interval) (c : ℤ) → at_least i c ≡ Some r → IsOrdered r
at_least_ordered i r c e = (unless_ordered (between (int_max i.lo c) i.hi) r e).1

at_most_ordered : (i r : Interval) (c : ℤ) → at_most i c ≡ Some r → IsOrdered r
at_most_ordered i r c e = (unless_ordered (between i.lo (int_min i.hi c)) r e).1

-- what is left of a range but one number
abbrev low_other : Interval → ℤ → ℤ
low_other i c = cond (integer_equal i.lo c) (i.lo +ℤ pos 1) i.lo

abbrev high_other : Interval → ℤ → ℤ
high_other i c = cond (integer_equal i.hi c) (i.hi -ℤ pos 1) i.hi

other_ordered : (i r : Interval) (c : ℤ) → other_than i c ≡ Some r → IsOrdered r
other_ordered i r c e = (unless_ordered (between (low_other i c) (high_other i c)) r e).1

pub left_ordered : (comparison : Comparison) (holds : Bool) (i r : Interval) (c : ℤ) → interval_narrow comparison holds i c ≡ Some r → IsOrdered r
left_ordered Greater true i r c e = at_least_ordered i r (c +ℤ pos 1) e
left_ordered Greater false i r c e = at_most_ordered i r c e
left_ordered GreaterOrEqual true i r c e = at_least_ordered i r c e
left_ordered GreaterOrEqual false i r c e = at_most_ordered i r (c -ℤ pos 1) e
left_ordered Less true i r c e = at_most_ordered i r (c -ℤ pos 1) e
left_ordered Less false i r c e = at_least_ordered i r c e
left_ordered LessOrEqual true i r c e = at_most_ordered i r c e
left_ordered LessOrEqual false i r c e = at_least_ordered i r (c +ℤ pos 1) e
left_ordered Equal true i r c e = equal_ordered i r c e
left_ordered Equal false i r c e = other_ordered i r c e
left_ordered NotEqual true i r c e = other_ordered i r c e
left_ordered NotEqual false i r c e = equal_ordered i r c e

-- of a range with such ends
pub left_within : (comparison : Comparison) (holds : Bool) (i r : Interval) (c : ℤ) → interval_narrow comparison holds i c ≡ Some r → IsWithin r i
left_within comparison holds i r c e =
    let ordered = left_ordered comparison holds i r c e in
    let low = leaves_only comparison holds i c r.lo (subst (λ o. IsLeft o r.lo) (sym e) (let o : r.lo ≤ℤ r.lo = omega (arith, ints) in (o, ordered))) in
    let high = leaves_only comparison holds i c r.hi (subst (λ o. IsLeft o r.hi) (sym e) (let o : r.hi ≤ℤ r.hi = omega (arith, ints) in (ordered, o))) in
    (low.0.0, high.0.1)

pub left_operand : (comparison : Comparison) (holds : Bool) (i r : Interval) (c : ℤ) → IsOperand i → interval_narrow comparison holds i c ≡ Some r → IsOperand r
left_operand comparison holds i r c o e =
    let w = left_within comparison holds i r c e in
    let p = left_ordered comparison holds i r c e in
    let low = o.low in
    let high = o.high in
    let a = w.0 in
    let b = w.1 in
    record { low = (omega (arith, ints), omega (arith, ints)); high = (omega (arith, ints), omega (arith, ints)); ordered = p }

-- THE LEAST

-- the ends of what other_than leaves are not the number
other_low : (i r : Interval) (c : ℤ) → other_than i c ≡ Some r → r.lo ≡ c → ⊥
other_low i r c e h =
    let u = unless_ordered (between (low_other i c) (high_other i c)) r e in
    let low = ap (λ (x : Interval). x.lo) u.0 in
    let high = ap (λ (x : Interval). x.hi) u.0 in
    let p = u.1 in
    elim (cond_cases (integer_equal i.lo c) (i.lo +ℤ pos 1) i.lo) [
      | inl y ↦ let k = equal_is i.lo c y.0 in let l = y.1 in omega (arith, ints)
      | inr n ↦ let l = n.1 in not_equal i.lo c n.0 (omega (arith, ints))
    ]

other_high : (i r : Interval) (c : ℤ) → other_than i c ≡ Some r → r.hi ≡ c → ⊥
other_high i r c e h =
    let u = unless_ordered (between (low_other i c) (high_other i c)) r e in
    let low = ap (λ (x : Interval). x.lo) u.0 in
    let high = ap (λ (x : Interval). x.hi) u.0 in
    let p = u.1 in
    elim (cond_cases (integer_equal i.hi c) (i.hi -ℤ pos 1) i.hi) [
      | inl y ↦ let k = equal_is i.hi c y.0 in let l = y.1 in omega (arith, ints)
      | inr n ↦ let l = n.1 in not_equal i.hi c n.0 (omega (arith, ints))
    ]

-- both ends of what is left have the outcome
Ends : (comparison : Comparison) (holds : Bool) (i r : Interval) (c : ℤ) → Type 0
Ends comparison holds i r c = (compared comparison r.lo c ≡ holds) × (compared comparison r.hi c ≡ holds)

exact : (comparison : Comparison) (holds : Bool) (z c : ℤ) → (IsUnequal comparison holds → z ≡ c → ⊥) → (compared comparison z c ≡ holds) ⊎ (IsUnequal comparison holds × (z ≡ c)) → compared comparison z c ≡ holds
exact comparison holds z c other (inl e) = e
exact comparison holds z c other (inr e) = absurd (other e.0 e.1)

not_amid : (comparison : Comparison) (holds : Bool) (i r : Interval) (c : ℤ) → interval_narrow comparison holds i c ≡ Some r → IsUnequal comparison holds → ((r.lo ≡ c → ⊥) × (r.hi ≡ c → ⊥))
not_amid Greater holds i r c e u = absurd u
not_amid GreaterOrEqual holds i r c e u = absurd u
not_amid Less holds i r c e u = absurd u
not_amid LessOrEqual holds i r c e u = absurd u
not_amid Equal true i r c e u = cc
not_amid Equal false i r c e u = (other_low i r c e, other_high i r c e)
not_amid NotEqual true i r c e u = (other_low i r c e, other_high i r c e)
not_amid NotEqual false i r c e u = cc

pub leaves_least : (comparison : Comparison) (holds : Bool) (i : Interval) (c : ℤ) → LeavesLeast comparison holds i c (interval_narrow comparison holds i c)
leaves_least comparison holds i c = by_left (interval_narrow comparison holds i c) refl
  where
    by_left : (o : Option Interval) → interval_narrow comparison holds i c ≡ o → LeavesLeast comparison holds i c o
    by_left None e = tt
    by_left (Some r) e = λ s h.
        let ordered = left_ordered comparison holds i r c e in
        let low = leaves_only comparison holds i c r.lo (subst (λ o. IsLeft o r.lo) (sym e) (let o : r.lo ≤ℤ r.lo = omega (arith, ints) in (o, ordered))) in
        let high = leaves_only comparison holds i c r.hi (subst (λ o. IsLeft o r.hi) (sym e) (let o : r.hi ≤ℤ r.hi = omega (arith, ints) in (ordered, o))) in
        let a = h r.lo low.0 (exact comparison holds r.lo c (λ u. (not_amid comparison holds i r c e u).0) low.1) in
        let b = h r.hi high.0 (exact comparison holds r.hi c (λ u. (not_amid comparison holds i r c e u).1) high.1) in
        (a.0, b.1)

-- GROWTH

pub narrow_grows : (comparison : Comparison) (holds : Bool) (c : ℤ) → GrowsNarrowed (λ i. interval_narrow comparison holds i c)
narrow_grows comparison holds c i wide w = by_left (interval_narrow comparison holds i c) (interval_narrow comparison holds wide c) refl refl
  where
    wider : (z : ℤ) → IsIn i z → IsIn wide z
    wider z h = (omega (arith, ints), omega (arith, ints))

    by_left : (o p : Option Interval) → interval_narrow comparison holds i c ≡ o → interval_narrow comparison holds wide c ≡ p → IsLeftWithin o p
    by_left None p e f = tt
    by_left (Some r) None e f =
        let ordered = left_ordered comparison holds i r c e in
        let low = leaves_only comparison holds i c r.lo (subst (λ o. IsLeft o r.lo) (sym e) (let o : r.lo ≤ℤ r.lo = omega (arith, ints) in (o, ordered))) in
        subst (λ o. IsLeft o r.lo) f (leaves_all comparison holds wide c r.lo (wider r.lo low.0) (exact comparison holds r.lo c (λ u. (not_amid comparison holds i r c e u).0) low.1))
    by_left (Some r) (Some s) e f =
        subst (λ o. LeavesLeast comparison holds i c o) e (leaves_least comparison holds i c) s (λ z h k. subst (λ o. IsLeft o z) f (leaves_all comparison holds wide c z (wider z h) k))
