-- Hands of the desk's collector, as a refresh takes them.
use Rattle.std.proofs.Common.{◌≡◌, ℕ, Bool, true, false, List, [], ◌∷◌, ◌++◌, refl, sym, ap, ◌∙◌, subst, arith, ne_eqb, eqb-true, ◌+◌, ◌⊎◌, inl, inr}
use Rattle.std.specs.Prelude.{◌||◌, ◌==◌, if◌then◌else◌, Result, Ok, Err, OnOk, OnErr}
use Rattle.group_journal.specs.declared.fault.StationFault.{StationFault}
use Rattle.std.proofs.lemmas.Bool.Decides.{nat_tests}
use Rattle.group_spec.specs.declared.calls.Call.{Call}
use Rattle.group_spec.specs.declared.image.Sizes.{Sizes}
use Rattle.group_spec.specs.Hands.{has_call, same_call, IsInOrder}
use Rattle.group_journal.specs.Journal.{AllCalls}
use Rattle.threads_desk.specs.Account.{times, membership}
use Rattle.threads_desk.specs.Passes.{AreCalls, IsPart}
use Rattle.threads_desk.proofs.Sums.{times-append}
use Rattle.group_journal.proofs.Orders.{Before, Each, before_all, order_right}
use Rattle.std.proofs.lemmas.Bool.{and_left, and_right}
use Rattle.group_spec.proofs.Laws.{both_true}

same_self : (c : Call) → same_call c c ≡ true
same_self c = grind (arith, nat_tests)

or_first : (a b : Bool) → a ≡ true → (a || b) ≡ true
or_first a b e = ap (λ x. x || b) e

or_second : (a b : Bool) → b ≡ true → (a || b) ≡ true
or_second true b e = refl
or_second false b e = e

-- each call of a hand has two different floors of the group
pub all_calls : (sizes : Sizes) (floors : ℕ) → floors ≡ sizes.floors → (hand : List Call) → AreCalls floors hand → AllCalls sizes hand
all_calls sizes floors same [] are = tt
all_calls sizes floors same (x ∷ xs) are =
    let own = are x (or_first (same_call x x) (has_call xs x) (same_self x)) in
    let high : floors ≡ sizes.floors = same in (
      record {
        from = (own.0.0, omega (arith, own.0.1, same));
        to = (own.1.0, omega (arith, own.1.1, same));
        differs = ne_eqb x.from x.to own.2;
      },
      all_calls sizes floors same xs (λ c there. are c (or_second (same_call x c) (has_call xs c) there)),
    )

-- what stays after the first calls of a hand is a part of it
pub rest_is_part : (first rest hand : List Call) → hand ≡ first ++ rest → IsPart rest hand
rest_is_part first rest hand is = subst (IsPart rest) (sym is) (by first)
  where
    by : (xs : List Call) → IsPart rest (xs ++ rest)
    by [] c there = there
    by (x ∷ xs) c there = or_second (same_call x c) (has_call (xs ++ rest) c) (by xs c there)

pub all_is_part : (rest hand : List Call) → rest ≡ hand → IsPart rest hand
all_is_part rest hand same c there = subst (λ h. has_call h c ≡ true) same there

-- what a refresh leaves of a hand is a part of it, whatever it answers
pub part_kept : (X Y Z : Type 0) (r : Result (Unit {0}) StationFault) (first rest hand whole : List Call) → hand ≡ whole → OnOk r (hand ≡ first ++ rest) → OnErr r (X × Y × (rest ≡ hand) × Z) → IsPart rest whole
part_kept X Y Z (Ok x) first rest hand whole is done refused = rest_is_part first rest whole (sym is ∙ done)
part_kept X Y Z (Err e) first rest hand whole is done refused = all_is_part rest whole (refused.2 ∙ is)

-- COUNTS OF A SET

-- a call that follows another is no other call with its floors
other_call : (x y c : Call) → Before x y → x.from ≡ c.from → x.to ≡ c.to → same_call y c ≡ false
other_call x y c (inl less) from to = and_left _ _ (ne_eqb y.from c.from (λ same. absurd (omega (arith, less, from, same))))
other_call x y c (inr less) from to = and_right _ _ (ne_eqb y.to c.to (λ same. absurd (omega (arith, less.1, to, same))))

none_behind : (x c : Call) (xs : List Call) → x.from ≡ c.from → x.to ≡ c.to → Each (Before x) xs → times c xs ≡ 0
none_behind x c [] from to each = refl
none_behind x c (y ∷ ys) from to each =
    let rest = none_behind x c ys from to each.1 in
    ap (λ (b : Bool). (if b then 1 else 0) + times c ys) (other_call x y c each.0 from to) ∙ omega (arith, rest)

-- each call of a set is there once
once : (xs : List Call) (c : Call) → IsInOrder xs → times c xs ≡ membership xs c
once [] c order = refl
once (x ∷ xs) c order = by (same_call x c) refl (once xs c order.1)
  where
    by : (b : Bool) → same_call x c ≡ b → times c xs ≡ membership xs c → times c (x ∷ xs) ≡ membership (x ∷ xs) c
    by true e rest =
        let parts = both_true (x.from == c.from) (x.to == c.to) e in
        rw e (ap (λ n. 1 + n) (none_behind x c xs (eqb-true x.from c.from parts.0) (eqb-true x.to c.to parts.1) (before_all x xs order)))
    by false e rest = rw e (omega (arith, rest))

counts_left : (first rest hand : List Call) → hand ≡ first ++ rest → IsInOrder hand → (c : Call) → times c first + membership rest c ≡ membership hand c
counts_left first rest hand is order c =
    omega (arith, once rest c (order_right first rest (subst IsInOrder is order)), once hand c order, ap (times c) is ∙ times-append c first rest)

-- of a hand from which the first calls were entered, the others are left
pub left_kept : (r : Result (Unit {0}) StationFault) (first rest after hand whole : List Call) → hand ≡ whole → after ≡ rest → IsInOrder whole → OnOk r (hand ≡ first ++ rest) → OnOk r ((c : Call) → times c first + membership after c ≡ membership whole c)
left_kept (Ok x) first rest after hand whole is same order done = λ c. ap (λ l. times c first + membership l c) same ∙ counts_left first rest whole (sym is ∙ done) order c
left_kept (Err e) first rest after hand whole is same order done = tt
