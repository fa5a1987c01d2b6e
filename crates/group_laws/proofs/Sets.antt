-- Desk and hand stay sets of calls of the group, in their order.
use Rattle.std.proofs.Common.{◌≡◌, ℕ, zero, suc, ◌<◌, ◌⊎◌, inl, inr, Bool, true, false, ◌&&◌, ◌||◌, ◌==◌, nat_lt, List, [], ◌∷◌, filter, cond, if◌then◌else◌, refl, sym, ap, ◌∙◌, All, arith, eqb-true, eq-eqb, lt→ltb, ltb→lt}
use Rattle.std.proofs.lemmas.List.Elements.{All-cons, All-head, All-tail, All-filter}
use Rattle.group_spec.specs.declared.image.Sizes.{Sizes}
use Rattle.group_spec.specs.declared.calls.Call.{Call}
use Rattle.group_spec.specs.Calls.{IsCall}
use Rattle.group_spec.specs.Hands.{with_call, with_calls, is_before, same_call, FirstIsBehind, IsInOrder}
use Rattle.group_laws.specs.Holding.{IsSetOf}
use Rattle.group_laws.proofs.Lists.{false_true}
use Rattle.group_spec.proofs.Laws.{both_true}

-- MEMBERS

module _ (P : Call → Type 0) where
  with_by : (member call : Call) (set rest : List Call) (a b : Bool) → P call → P member → All P set → All P rest → All P (if a then call ∷ member ∷ set else (if b then member ∷ set else member ∷ rest))
  with_by member call set rest true b new old all more = All-cons P call (member ∷ set) new (All-cons P member set old all)
  with_by member call set rest false true new old all more = All-cons P member set old all
  with_by member call set rest false false new old all more = All-cons P member rest old more

  with_call_all : (set : List Call) (call : Call) → P call → All P set → All P (with_call set call)
  with_call_all [] call new all = All-cons P call [] new all
  with_call_all (member ∷ set) call new all =
      with_by member call set (with_call set call) (is_before call member) (same_call member call) new (All-head P member set all) (All-tail P member set all) (with_call_all set call new (All-tail P member set all))

-- ORDER

abbrev Before : Call → Call → Type 0
Before a b = (a.from < b.from) ⊎ ((a.from ≡ b.from) × (a.to < b.to))

below_yes : (m n : ℕ) → nat_lt m n ≡ true → m < n
below_yes m n h = grind (arith, ltb→lt, h)

yes_below : (m n : ℕ) → m < n → nat_lt m n ≡ true
yes_below m n h = grind (arith, lt→ltb, h)

pub before_means : (a b : Call) → is_before a b ≡ true → Before a b
before_means a b h = by (nat_lt a.from b.from) refl h
  where
    by : (x : Bool) → nat_lt a.from b.from ≡ x → (x || ((a.from == b.from) && nat_lt a.to b.to)) ≡ true → Before a b
    by true e h = inl (below_yes a.from b.from e)
    by false e h = let parts = both_true (a.from == b.from) (nat_lt a.to b.to) h in inr (eqb-true a.from b.from parts.0, below_yes a.to b.to parts.1)

or_true : (a b : Bool) → b ≡ true → (a || b) ≡ true
or_true true b h = refl
or_true false b h = h

pub means_before : (a b : Call) → Before a b → is_before a b ≡ true
means_before a b (inl h) = ap (λ x. x || ((a.from == b.from) && nat_lt a.to b.to)) (yes_below a.from b.from h)
means_before a b (inr h) = or_true (nat_lt a.from b.from) ((a.from == b.from) && nat_lt a.to b.to) (ap (λ x. x && nat_lt a.to b.to) (eq-eqb a.from b.from h.0) ∙ yes_below a.to b.to h.1)

before_both : (a b c : Call) → is_before a b ≡ true → is_before b c ≡ true → is_before a c ≡ true
before_both a b c h k = means_before a c (by (before_means a b h) (before_means b c k))
  where
    by : Before a b → Before b c → Before a c
    by (inl p) (inl q) = inl (omega (arith, p, q))
    by (inl p) (inr q) = inl (omega (arith, p, q.0))
    by (inr p) (inl q) = inl (omega (arith, p.0, q))
    by (inr p) (inr q) = inr (p.0 ∙ q.0, omega (arith, p.1, q.1))

compare : (a b : ℕ) → (a < b) ⊎ ((a ≡ b) ⊎ (b < a))
compare zero zero = inr (inl refl)
compare zero (suc b) = inl (omega arith)
compare (suc a) zero = inr (inr (omega arith))
compare (suc a) (suc b) = by (compare a b)
  where
    by : (a < b) ⊎ ((a ≡ b) ⊎ (b < a)) → (suc a < suc b) ⊎ ((suc a ≡ suc b) ⊎ (suc b < suc a))
    by (inl h) = inl (omega (arith, h))
    by (inr (inl h)) = inr (inl (ap suc h))
    by (inr (inr h)) = inr (inr (omega (arith, h)))

-- of two calls that are not the same, one comes before the other
other_before : (call member : Call) → is_before call member ≡ false → same_call member call ≡ false → is_before member call ≡ true
other_before call member not_before not_same = by (compare member.from call.from) (compare member.to call.to)
  where
    by : (member.from < call.from) ⊎ ((member.from ≡ call.from) ⊎ (call.from < member.from)) → (member.to < call.to) ⊎ ((member.to ≡ call.to) ⊎ (call.to < member.to)) → is_before member call ≡ true
    by (inl p) to = means_before member call (inl p)
    by (inr (inr p)) to = false_true (sym not_before ∙ means_before call member (inl p))
    by (inr (inl p)) (inl q) = means_before member call (inr (p, q))
    by (inr (inl p)) (inr (inr q)) = false_true (sym not_before ∙ means_before call member (inr (sym p, q)))
    by (inr (inl p)) (inr (inl q)) = false_true (sym not_same ∙ ap (λ x. x && (member.to == call.to)) (eq-eqb member.from call.from p) ∙ eq-eqb member.to call.to q)

first_with : (x member call : Call) (set rest : List Call) (a b : Bool) → is_before x call ≡ true → is_before x member ≡ true → FirstIsBehind x (if a then call ∷ member ∷ set else (if b then member ∷ set else member ∷ rest))
first_with x member call set rest true b new old = new
first_with x member call set rest false true new old = old
first_with x member call set rest false false new old = old

first_behind : (x call : Call) (set : List Call) → is_before x call ≡ true → FirstIsBehind x set → FirstIsBehind x (with_call set call)
first_behind x call [] new old = new
first_behind x call (member ∷ set) new old = first_with x member call set (with_call set call) (is_before call member) (same_call member call) new old

with_call_in_order : (set : List Call) (call : Call) → IsInOrder set → IsInOrder (with_call set call)
with_call_in_order [] call h = (tt, tt)
with_call_in_order (member ∷ set) call h = by (is_before call member) (same_call member call) refl refl (with_call_in_order set call h.1)
  where
    by : (a b : Bool) → is_before call member ≡ a → same_call member call ≡ b → IsInOrder (with_call set call) → IsInOrder (if a then call ∷ member ∷ set else (if b then member ∷ set else member ∷ with_call set call))
    by true b is same rest = (is, h)
    by false true is same rest = h
    by false false is same rest = (first_behind member call set (other_before call member is same) h.0, rest)

-- a call before the first of a list in order is before the first of each part of it
first_kept : (p : Call → Bool) (x : Call) (set : List Call) → FirstIsBehind x set → IsInOrder set → FirstIsBehind x (filter p set)
first_kept p x [] first h = tt
first_kept p x (member ∷ set) first h = by (p member) (first_kept p x set (next set h.0) h.1)
  where
    next : (set : List Call) → FirstIsBehind member set → FirstIsBehind x set
    next [] behind = tt
    next (y ∷ ys) behind = before_both x member y first behind

    by : (b : Bool) → FirstIsBehind x (filter p set) → FirstIsBehind x (cond b (member ∷ filter p set) (filter p set))
    by true rest = first
    by false rest = rest

filter_in_order : (p : Call → Bool) (set : List Call) → IsInOrder set → IsInOrder (filter p set)
filter_in_order p [] h = tt
filter_in_order p (member ∷ set) h = by (p member) (filter_in_order p set h.1)
  where
    by : (b : Bool) → IsInOrder (filter p set) → IsInOrder (cond b (member ∷ filter p set) (filter p set))
    by true rest = (first_kept p member set h.0 h.1, rest)
    by false rest = rest

-- SETS

pub with_call_set : (sizes : Sizes) (set : List Call) (call : Call) → IsCall sizes call → IsSetOf sizes set → IsSetOf sizes (with_call set call)
with_call_set sizes set call is h = record { each = with_call_all (IsCall sizes) set call is h.each; in_order = with_call_in_order set call h.in_order }

pub with_calls_set : (sizes : Sizes) (calls set : List Call) → All (IsCall sizes) calls → IsSetOf sizes set → IsSetOf sizes (with_calls set calls)
with_calls_set sizes [] set new h = h
with_calls_set sizes (call ∷ calls) set new h = with_calls_set sizes calls (with_call set call) (All-tail (IsCall sizes) call calls new) (with_call_set sizes set call (All-head (IsCall sizes) call calls new) h)

pub filter_set : (sizes : Sizes) (p : Call → Bool) (set : List Call) → IsSetOf sizes set → IsSetOf sizes (filter p set)
filter_set sizes p set h = record { each = All-filter p (IsCall sizes) set h.each; in_order = filter_in_order p set h.in_order }
