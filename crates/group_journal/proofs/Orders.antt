-- Calls in the order of (from, to): those before a call, and those from a floor.
use Rattle.std.proofs.Common.{◌≡◌, ℕ, ◌<◌, ◌≤◌, ◌⊎◌, inl, inr, Bool, true, false, ◌&&◌, ◌||◌, ◌==◌, nat_lt, List, [], ◌∷◌, ◌++◌, filter, cond, refl, sym, ap, ◌∙◌, arith, eqb-true, eq-eqb, ne_eqb, lt→ltb, ltb→lt}
use Rattle.std.proofs.lemmas.List.{append_assoc}
use Rattle.group_spec.specs.declared.calls.Call.{Call}
use Rattle.group_spec.specs.Hands.{with_call, with_calls, has_call, has_from, is_from, calls_from, calls_not_from, is_before, same_call, IsInOrder}
use Rattle.group_spec.proofs.Laws.{both_true}
use Rattle.group_laws.proofs.Sets.{before_means, means_before}

-- BEFORE

-- a call comes before another in the order of (from, to)
abbrev pub Before : Call → Call → Type 0
Before a b = (a.from < b.from) ⊎ ((a.from ≡ b.from) × (a.to < b.to))

below_yes : (m n : ℕ) → nat_lt m n ≡ true → m < n
below_yes m n h = grind (arith, ltb→lt, h)

pub before_both : (a b c : Call) → Before a b → Before b c → Before a c
before_both a b c (inl p) (inl q) = inl (omega (arith, p, q))
before_both a b c (inl p) (inr q) = inl (omega (arith, p, q.0))
before_both a b c (inr p) (inl q) = inl (omega (arith, p.0, q))
before_both a b c (inr p) (inr q) = inr (p.0 ∙ q.0, omega (arith, p.1, q.1))

-- a call that comes before another is another, and doesn't follow it
not_below : (m n : ℕ) → n ≤ m → nat_lt m n ≡ false
not_below m n h = by (nat_lt m n) refl
  where
    by : (x : Bool) → nat_lt m n ≡ x → x ≡ false
    by true e = let below = below_yes m n e in absurd (omega (arith, h, below))
    by false e = refl

not_same : (m n : ℕ) → (m ≡ n → ⊥) → (m == n) ≡ false
not_same m n h = ne_eqb m n h

pub is_other : (a b : Call) → Before a b → same_call a b ≡ false
is_other a b (inl h) = ap (λ x. x && (a.to == b.to)) (not_same a.from b.from (λ e. omega (arith, h, e)))
is_other a b (inr h) = by (a.from == b.from)
  where
    none : (a.to == b.to) ≡ false
    none = not_same a.to b.to (λ e. omega (arith, h.1, e))

    by : (x : Bool) → (x && (a.to == b.to)) ≡ false
    by true = none
    by false = refl

pub is_behind : (a b : Call) → Before a b → is_before b a ≡ false
is_behind a b (inl h) = ap (λ x. x || ((b.from == a.from) && nat_lt b.to a.to)) (not_below b.from a.from (omega (arith, h))) ∙ ap (λ x. x && nat_lt b.to a.to) (not_same b.from a.from (λ e. omega (arith, h, e)))
is_behind a b (inr h) = ap (λ x. x || ((b.from == a.from) && nat_lt b.to a.to)) (not_below b.from a.from (omega (arith, h.0))) ∙ by (b.from == a.from)
  where
    by : (x : Bool) → (x && nat_lt b.to a.to) ≡ false
    by true = not_below b.to a.to (omega (arith, h.1))
    by false = refl

-- LISTS IN ORDER

-- each of these is so
abbrev pub Each : (Call → Type 0) → List Call → Type 0
Each P [] = Unit {0}
Each P (x ∷ xs) = P x × Each P xs

pub each_map : (P Q : Call → Type 0) → ((x : Call) → P x → Q x) → (xs : List Call) → Each P xs → Each Q xs
each_map P Q f [] h = tt
each_map P Q f (x ∷ xs) h = (f x h.0, each_map P Q f xs h.1)

pub each_append : (P : Call → Type 0) (xs ys : List Call) → Each P xs → Each P ys → Each P (xs ++ ys)
each_append P [] ys a b = b
each_append P (x ∷ xs) ys a b = (a.0, each_append P xs ys a.1 b)

pub each_left : (P : Call → Type 0) (xs ys : List Call) → Each P (xs ++ ys) → Each P xs
each_left P [] ys h = tt
each_left P (x ∷ xs) ys h = (h.0, each_left P xs ys h.1)

pub each_right : (P : Call → Type 0) (xs ys : List Call) → Each P (xs ++ ys) → Each P ys
each_right P [] ys h = h
each_right P (x ∷ xs) ys h = each_right P xs ys h.1

-- the first of a list in order comes before all others
pub before_all : (x : Call) (xs : List Call) → IsInOrder (x ∷ xs) → Each (Before x) xs
before_all x [] h = tt
before_all x (y ∷ ys) h =
    let first = before_means x y h.0 in
    (first, each_map (Before y) (Before x) (λ z after. before_both x y z first after) ys (before_all y ys h.1))

pub order_left : (xs ys : List Call) → IsInOrder (xs ++ ys) → IsInOrder xs
order_left [] ys h = tt
order_left (x ∷ []) ys h = (tt, tt)
order_left (x ∷ y ∷ xs) ys h = (h.0, order_left (y ∷ xs) ys h.1)

pub order_right : (xs ys : List Call) → IsInOrder (xs ++ ys) → IsInOrder ys
order_right [] ys h = h
order_right (x ∷ xs) ys h = order_right xs ys h.1

-- each of the former comes before the first of the latter
pub all_before : (xs : List Call) (y : Call) (ys : List Call) → IsInOrder (xs ++ y ∷ ys) → Each (λ x. Before x y) xs
all_before [] y ys h = tt
all_before (x ∷ xs) y ys h = ((each_right (Before x) xs (y ∷ ys) (before_all x (xs ++ y ∷ ys) h)).0, all_before xs y ys h.1)

-- A CALL BEHIND OTHERS

pub with_last : (xs : List Call) (y : Call) → Each (λ x. Before x y) xs → with_call xs y ≡ xs ++ y ∷ []
with_last [] y h = refl
with_last (x ∷ xs) y h = rw (is_behind x y h.0, is_other x y h.0) (ap (λ rest. x ∷ rest) (with_last xs y h.1))

pub has_not : (xs : List Call) (y : Call) → Each (λ x. Before x y) xs → has_call xs y ≡ false
has_not [] y h = refl
has_not (x ∷ xs) y h = rw (is_other x y h.0) (has_not xs y h.1)

pub with_behind : (xs ys : List Call) → IsInOrder (xs ++ ys) → with_calls xs ys ≡ xs ++ ys
with_behind xs [] h = sym (append_nil xs)
  where
    append_nil : (xs : List Call) → xs ++ [] ≡ xs
    append_nil [] = refl
    append_nil (x ∷ xs) = ap (λ rest. x ∷ rest) (append_nil xs)
with_behind xs (y ∷ ys) h =
    ap (λ set. with_calls set ys) (with_last xs y (all_before xs y ys h)) ∙ with_behind (xs ++ y ∷ []) ys (rw (append_assoc xs (y ∷ []) ys) h) ∙ append_assoc xs (y ∷ []) ys

-- THOSE FROM A FLOOR

pub has_none : (xs : List Call) (floor : ℕ) → Each (λ x. x.from < floor) xs → has_from xs floor ≡ false
has_none [] floor h = refl
has_none (x ∷ xs) floor h = rw (not_same x.from floor (λ e. omega (arith, h.0, e))) (has_none xs floor h.1)

-- where all are from higher floors, none is from this one
pub none_from : (floor : ℕ) (xs : List Call) → Each (λ x. floor < x.from) xs → (calls_from floor xs ≡ []) × (calls_not_from floor xs ≡ xs)
none_from floor [] h = (refl, refl)
none_from floor (x ∷ xs) h =
    let rest = none_from floor xs h.1 in
    let other : (x.from == floor) ≡ false = not_same x.from floor (λ e. omega (arith, h.0, e)) in
    (rw other rest.0, rw other (ap (λ l. x ∷ l) rest.1))

-- PARTS IN ORDER

yes_below : (m n : ℕ) → m < n → nat_lt m n ≡ true
yes_below m n h = grind (arith, lt→ltb, h)

pub first_order : (x : Call) (xs : List Call) → Each (Before x) xs → IsInOrder xs → IsInOrder (x ∷ xs)
first_order x [] h order = (tt, tt)
first_order x (y ∷ xs) h order = (means_before x y h.0, order)

pub each_part : (P : Call → Type 0) (p : Call → Bool) (xs : List Call) → Each P xs → Each P (filter p xs)
each_part P p [] h = tt
each_part P p (x ∷ xs) h = by (p x) (each_part P p xs h.1)
  where
    by : (b : Bool) → Each P (filter p xs) → Each P (cond b (x ∷ filter p xs) (filter p xs))
    by true rest = (h.0, rest)
    by false rest = rest

pub part_order : (p : Call → Bool) (xs : List Call) → IsInOrder xs → IsInOrder (filter p xs)
part_order p [] h = tt
part_order p (x ∷ xs) h = by (p x) (part_order p xs h.1)
  where
    by : (b : Bool) → IsInOrder (filter p xs) → IsInOrder (cond b (x ∷ filter p xs) (filter p xs))
    by true rest = first_order x (filter p xs) (each_part (Before x) p xs (before_all x xs h)) rest
    by false rest = rest

-- some after others in order, and fewer of the same
pub fewer_behind : (h ys zs : List Call) → ((x : Call) → Each (Before x) ys → Each (Before x) zs) → IsInOrder zs → IsInOrder (h ++ ys) → IsInOrder (h ++ zs)
fewer_behind [] ys zs fewer order all = order
fewer_behind (x ∷ h) ys zs fewer order all =
    let before = before_all x (h ++ ys) all in
    first_order x (h ++ zs) (each_append (Before x) h zs (each_left (Before x) h ys before) (fewer x (each_right (Before x) h ys before))) (fewer_behind h ys zs fewer order all.1)

-- those from its own floor after a call
pub same_floor_order : (h : List Call) (call : Call) (calls : List Call) → IsInOrder (h ++ call ∷ calls) → IsInOrder (h ++ call ∷ calls_from call.from calls)
same_floor_order h call calls order =
    let behind = order_right h (call ∷ calls) order in
    fewer_behind h (call ∷ calls) (call ∷ calls_from call.from calls) (λ x before. (before.0, each_part (Before x) (is_from call.from) calls before.1))
    (first_order call (calls_from call.from calls) (each_part (Before call) (is_from call.from) calls (before_all call calls behind)) (part_order (is_from call.from) calls behind.1)) order
