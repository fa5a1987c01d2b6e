-- What keeps a way from going on keeps longer ones from it, too, and those with more units on them.
use Rattle.std.proofs.Common.{◌≡◌, ℕ, zero, suc, ◌+◌, ◌<◌, ◌≤◌, ◌⊎◌, inl, inr, Bool, true, false, ◌||◌, ◌&&◌, if◌then◌else◌, List, [], ◌∷◌, ◌++◌, length, get_or, slice_get, Option, Some, None, refl, sym, ap, ◌∙◌, subst, append_assoc, arith}
use Rattle.std.specs.Prelude.{not, nat_eq, slice_set, IfSome, is_some}
use Rattle.std.proofs.lemmas.Bool.Decides.{nat_tests}
use Rattle.std.proofs.lemmas.Bool.{cases_lt}
use Rattle.std.proofs.lemmas.Option.{slice_get-get_or, slice_get_within}
use Rattle.load_order.specs.declared.dead_ends.DeadEnd.{DeadEnd}
use Rattle.load_order.specs.Related.{any_below, holds, tabulate}
use Rattle.load_order.specs.Used.{is_among}
use Rattle.load_order.specs.Chained.{leads_on, is_long, are_among, merged, without, AreAmong, is_shut, AreDead}
use Rattle.load_order.proofs.Tabled.{or_left, or_right, from_or, and_both, not_both, some_same, some_below, below_some}
use Rattle.load_order.proofs.Ways.{among_cases, among_last, among_more, not_of, of_not}
use Rattle.load_types.proofs.Sharing.{both_true as from_and}

-- LISTS OF NUMBERS

pub among_push : (xs ys : List ℕ) (u : ℕ) → AreAmong xs ys → AreAmong (xs ++ u ∷ []) (ys ++ u ∷ [])
among_push xs ys u are k e = elim (among_cases xs u k e) [ inl a ↦ among_more ys (u ∷ []) k (are k a) | inr same ↦ subst (λ x. is_among (ys ++ u ∷ []) x ≡ true) (sym same) (among_last ys u) ]

pub all_among : (xs ys : List ℕ) → are_among xs ys ≡ true → AreAmong xs ys
all_among [] ys e k a = let bad : false ≡ true = a in cc
all_among (x ∷ xs) ys e k a = let both = from_and (is_among ys x) (are_among xs ys) e in elim (from_or (nat_eq x k) (is_among xs k) a) [ inl s ↦ subst (λ y. is_among ys y ≡ true) (same s) both.0 | inr b ↦ all_among xs ys both.1 k b ]
  where
    same : nat_eq x k ≡ true → x ≡ k
    same e = grind (arith, nat_tests)

added : (xs : List ℕ) (n : ℕ) → AreAmong xs (if is_among xs n then xs else xs ++ n ∷ [])
added xs n k a = by_test (is_among xs n)
  where
    by_test : (t : Bool) → is_among (if t then xs else xs ++ n ∷ []) k ≡ true
    by_test true = a
    by_test false = among_more xs (n ∷ []) k a

there : (xs : List ℕ) (n : ℕ) → is_among (if is_among xs n then xs else xs ++ n ∷ []) n ≡ true
there xs n = by_test (is_among xs n) refl
  where
    by_test : (t : Bool) → is_among xs n ≡ t → is_among (if t then xs else xs ++ n ∷ []) n ≡ true
    by_test true e = e
    by_test false e = among_last xs n

from_added : (xs : List ℕ) (n k : ℕ) → is_among (if is_among xs n then xs else xs ++ n ∷ []) k ≡ true → (is_among xs k ≡ true) ⊎ (k ≡ n)
from_added xs n k = by_test (is_among xs n)
  where
    by_test : (t : Bool) → is_among (if t then xs else xs ++ n ∷ []) k ≡ true → (is_among xs k ≡ true) ⊎ (k ≡ n)
    by_test true e = inl e
    by_test false e = among_cases xs n k e

pub merged_first : (xs ys : List ℕ) → AreAmong xs (merged xs ys)
merged_first xs [] k a = a
merged_first xs (y ∷ ys) k a = merged_first (if is_among xs y then xs else xs ++ y ∷ []) ys k (added xs y k a)

pub merged_second : (xs ys : List ℕ) → AreAmong ys (merged xs ys)
merged_second xs [] k a = let bad : false ≡ true = a in cc
merged_second xs (y ∷ ys) k a = elim (from_or (nat_eq y k) (is_among ys k) a) [
  | inl s ↦ merged_first (if is_among xs y then xs else xs ++ y ∷ []) ys k (subst (λ z. is_among (if is_among xs y then xs else xs ++ y ∷ []) z ≡ true) (same s) (there xs y))
  | inr b ↦ merged_second (if is_among xs y then xs else xs ++ y ∷ []) ys k b
]
  where
    same : nat_eq y k ≡ true → y ≡ k
    same e = grind (arith, nat_tests)

pub merged_both : (xs ys way : List ℕ) → AreAmong xs way → AreAmong ys way → AreAmong (merged xs ys) way
merged_both xs [] way a b = a
merged_both xs (y ∷ ys) way a b = merged_both (if is_among xs y then xs else xs ++ y ∷ []) ys way first (λ k e. b k (or_right (nat_eq y k) (is_among ys k) e))
  where
    itself : is_among (y ∷ ys) y ≡ true
    itself = or_left (nat_eq y y) (is_among ys y) (grind (arith, nat_tests))

    first : AreAmong (if is_among xs y then xs else xs ++ y ∷ []) way
    first k e = elim (from_added xs y k e) [ inl old ↦ a k old | inr new ↦ subst (λ z. is_among way z ≡ true) (sym new) (b y itself) ]

pub one_among : (xs : List ℕ) (u : ℕ) → is_among xs u ≡ true → AreAmong (u ∷ []) xs
one_among xs u e k a = elim (from_or (nat_eq u k) false a) [ inl s ↦ subst (λ z. is_among xs z ≡ true) (same s) e | inr b ↦ (let bad : false ≡ true = b in cc) ]
  where
    same : nat_eq u k ≡ true → u ≡ k
    same e = grind (arith, nat_tests)

-- what was left out is put back
pub back : (u : ℕ) (xs : List ℕ) → AreAmong xs (without u xs ++ u ∷ [])
back u [] k a = let bad : false ≡ true = a in cc
back u (x ∷ xs) k a = by_test (back u xs k) (nat_eq x u) refl (from_or (nat_eq x k) (is_among xs k) a)
  where
    by_test : (is_among xs k ≡ true → is_among (without u xs ++ u ∷ []) k ≡ true) → (t : Bool) → nat_eq x u ≡ t → (nat_eq x k ≡ true) ⊎ (is_among xs k ≡ true) → is_among ((if t then without u xs else x ∷ without u xs) ++ u ∷ []) k ≡ true
    by_test rest true is (inl s) = subst (λ z. is_among (without u xs ++ u ∷ []) z ≡ true) (same is s) (among_last (without u xs) u)
      where
        same : nat_eq x u ≡ true → nat_eq x k ≡ true → u ≡ k
        same a b = grind (arith, nat_tests)
    by_test rest true is (inr b) = rest b
    by_test rest false is (inl s) = or_left (nat_eq x k) (is_among (without u xs ++ u ∷ []) k) s
    by_test rest false is (inr b) = or_right (nat_eq x k) (is_among (without u xs ++ u ∷ []) k) (rest b)

-- what is left is one of those before it
pub left_over : (u : ℕ) (xs way : List ℕ) → AreAmong xs (way ++ u ∷ []) → AreAmong (without u xs) way
left_over u [] way are k a = let bad : false ≡ true = a in cc
left_over u (x ∷ xs) way are k a = by_test (left_over u xs way (λ j e. are j (or_right (nat_eq x j) (is_among xs j) e)) k) (nat_eq x u) refl a
  where
    itself : nat_eq x x ≡ true
    itself = grind (arith, nat_tests)

    by_test : (is_among (without u xs) k ≡ true → is_among way k ≡ true) → (t : Bool) → nat_eq x u ≡ t → is_among (if t then without u xs else x ∷ without u xs) k ≡ true → is_among way k ≡ true
    by_test rest true is a = rest a
    by_test rest false is a = elim (from_or (nat_eq x k) (is_among (without u xs) k) a) [ inl s ↦ subst (λ z. is_among way z ≡ true) (same s) (before (among_cases way u x (are x (or_left (nat_eq x x) (is_among xs x) itself)))) | inr b ↦ rest b ]
      where
        same : nat_eq x k ≡ true → x ≡ k
        same e = grind (arith, nat_tests)

        before : (is_among way x ≡ true) ⊎ (x ≡ u) → is_among way x ≡ true
        before (inl e) = e
        before (inr e) = absurd (not_both (nat_eq x u) (ap (nat_eq x) (sym e) ∙ itself) is)

-- PLACES

pub one_itself : (u : ℕ) → is_among (u ∷ []) u ≡ true
one_itself u = or_left (nat_eq u u) false (grind (arith, nat_tests))

place_cases : {A : Type 0} (xs : List A) (u v : ℕ) (y x : A) → u < length xs → slice_get (slice_set xs u y) v ≡ Some x → (slice_get xs v ≡ Some x) ⊎ ((v ≡ u) × (x ≡ y))
place_cases [] u v y x low e = absurd (omega (arith, low))
place_cases (z ∷ xs) zero zero y x low e = inr (refl, sym (some_same y x e))
place_cases (z ∷ xs) zero (suc v) y x low e = inl e
place_cases (z ∷ xs) (suc u) zero y x low e = inl e
place_cases (z ∷ xs) (suc u) (suc v) y x low e = elim (place_cases xs u v y x (omega (arith, low)) e) [ inl a ↦ inl a | inr (same, is) ↦ inr (ap suc same, is) ]

push_cases : {A : Type 0} (xs : List A) (y x : A) (i : ℕ) → slice_get (xs ++ y ∷ []) i ≡ Some x → (slice_get xs i ≡ Some x) ⊎ (x ≡ y)
push_cases [] y x zero e = inr (sym (some_same y x e))
push_cases [] y x (suc i) e = let bad : None ≡ Some x = e in cc
push_cases (z ∷ xs) y x zero e = inl e
push_cases (z ∷ xs) y x (suc i) e = push_cases xs y x i e

-- CHAINS

module _ (n : ℕ) (uses : List (List Bool)) where
  -- fewer uses lead on, and with fewer units on the way
  pub easier : (left less : ℕ) → less ≤ left → (before sub : List ℕ) (u : ℕ) → AreAmong sub before → leads_on n uses left before u ≡ true → leads_on n uses less sub u ≡ true
  easier left zero le before sub u are e = refl
  easier zero (suc less) le before sub u are e = absurd (omega (arith, le))
  easier (suc left) (suc less) le before sub u are e =
      let r = some_below (λ to. holds uses u to && not (is_among (before ++ u ∷ []) to) && leads_on n uses left (before ++ u ∷ []) to) n e in
      let both = from_and (holds uses u r.0 && not (is_among (before ++ u ∷ []) r.0)) (leads_on n uses left (before ++ u ∷ []) r.0) r.2 in
      let on = from_and (holds uses u r.0) (not (is_among (before ++ u ∷ []) r.0)) both.0 in
      below_some (λ to. holds uses u to && not (is_among (sub ++ u ∷ []) to) && leads_on n uses less (sub ++ u ∷ []) to) n r.0 r.1
      (and_both (holds uses u r.0 && not (is_among (sub ++ u ∷ []) r.0)) (leads_on n uses less (sub ++ u ∷ []) r.0)
      (and_both (holds uses u r.0) (not (is_among (sub ++ u ∷ []) r.0)) on.0 (not_of (is_among (sub ++ u ∷ []) r.0) (off r.0 (is_among (sub ++ u ∷ []) r.0) refl (of_not (is_among (before ++ u ∷ []) r.0) on.1))))
      (easier left less (omega (arith, le)) (before ++ u ∷ []) (sub ++ u ∷ []) r.0 (among_push sub before u are) both.1))
    where
      off : (k : ℕ) (t : Bool) → is_among (sub ++ u ∷ []) k ≡ t → is_among (before ++ u ∷ []) k ≡ false → t ≡ false
      off k false is out = refl
      off k true is out = absurd (not_both (is_among (before ++ u ∷ []) k) (among_push sub before u are k is) out)

  pub harder : (left less : ℕ) → less ≤ left → (before sub : List ℕ) (u : ℕ) → AreAmong sub before → leads_on n uses less sub u ≡ false → leads_on n uses left before u ≡ false
  harder left less le before sub u are e = by_test (leads_on n uses left before u) refl
    where
      by_test : (t : Bool) → leads_on n uses left before u ≡ t → leads_on n uses left before u ≡ false
      by_test false is = is
      by_test true is = absurd (not_both (leads_on n uses less sub u) (easier left less le before sub u are is) e)

  -- what is shut stays shut
  pub shut_more : (left : ℕ) (sub way : List ℕ) (to : ℕ) → AreAmong sub way → is_shut n uses left sub to ≡ true → is_shut n uses left way to ≡ true
  shut_more left sub way to are e = elim (from_or (is_among sub to) (not (leads_on n uses left sub to)) e) [
    | inl a ↦ or_left (is_among way to) (not (leads_on n uses left way to)) (are to a)
    | inr b ↦ or_right (is_among way to) (not (leads_on n uses left way to)) (not_of (leads_on n uses left way to) (harder left left (omega arith) way sub to are (of_not (leads_on n uses left sub to) b)))
  ]

  pub shut_on : (left : ℕ) (way : List ℕ) (to : ℕ) → is_among way to ≡ true → is_shut n uses left way to ≡ true
  shut_on left way to e = or_left (is_among way to) (not (leads_on n uses left way to)) e

  pub shut_dead : (left less : ℕ) (sub way : List ℕ) (to : ℕ) → less ≤ left → AreAmong sub way → leads_on n uses less sub to ≡ false → is_shut n uses left way to ≡ true
  shut_dead left less sub way to le are e = or_right (is_among way to) (not (leads_on n uses left way to)) (not_of (leads_on n uses left way to) (harder left less le way sub to are e))

  -- where all that a unit uses are shut, it is a dead end
  pub all_shut : (left : ℕ) (reason : List ℕ) (u : ℕ) → ((k : ℕ) → k < n → holds uses u k ≡ true → is_shut n uses left reason k ≡ true) → leads_on n uses (suc left) (without u reason) u ≡ false
  all_shut left reason u shut = by_test (leads_on n uses (suc left) (without u reason) u) refl
    where
      way : List ℕ
      way = without u reason ++ u ∷ []

      bad : leads_on n uses (suc left) (without u reason) u ≡ true → ⊥
      bad e =
          let r = some_below (λ to. holds uses u to && not (is_among way to) && leads_on n uses left way to) n e in
          let both = from_and (holds uses u r.0 && not (is_among way r.0)) (leads_on n uses left way r.0) r.2 in
          let on = from_and (holds uses u r.0) (not (is_among way r.0)) both.0 in
          elim (from_or (is_among way r.0) (not (leads_on n uses left way r.0)) (shut_more left reason way r.0 (back u reason) (shut r.0 r.1 on.0))) [
            | inl a ↦ not_both (is_among way r.0) a (of_not (is_among way r.0) on.1)
            | inr b ↦ not_both (leads_on n uses left way r.0) both.1 (of_not (leads_on n uses left way r.0) b)
          ]

      by_test : (t : Bool) → leads_on n uses (suc left) (without u reason) u ≡ t → leads_on n uses (suc left) (without u reason) u ≡ false
      by_test false is = is
      by_test true is = absurd (bad is)

  -- one use more leads on
  pub goes : (left : ℕ) (before : List ℕ) (u to : ℕ) → to < n → holds uses u to ≡ true → is_among (before ++ u ∷ []) to ≡ false → leads_on n uses left (before ++ u ∷ []) to ≡ true → leads_on n uses (suc left) before u ≡ true
  goes left before u to low used off e =
      below_some (λ k. holds uses u k && not (is_among (before ++ u ∷ []) k) && leads_on n uses left (before ++ u ∷ []) k) n to low
      (and_both (holds uses u to && not (is_among (before ++ u ∷ []) to)) (leads_on n uses left (before ++ u ∷ []) to) (and_both (holds uses u to) (not (is_among (before ++ u ∷ []) to)) used (not_of (is_among (before ++ u ∷ []) to) off)) e)

  -- a dead end that was noted
  pub dead_at : (ends : List (List DeadEnd)) (to : ℕ) (row known : List DeadEnd) (at : ℕ) (e : DeadEnd) (left : ℕ) (way on : List ℕ) → AreDead n uses ends → to < length ends → row ≡ get_or ends to row → known ≡ row → at < length known
      → ((d : DeadEnd) → ((get_or known at d).left ≤ left) × (are_among (get_or known at d).on_way way ≡ true)) → on ≡ (get_or known at e).on_way
      → AreAmong on way × ((new : List ℕ) → AreAmong on new → is_shut n uses left new to ≡ true)
  dead_at ends to row known at e left way on dead low row_is known_is there fits is =
      (subst (λ x. AreAmong x way) (sym is) (all_among (get_or known at e).on_way way (fits e).1), λ new are. shut_dead left (get_or known at e).left (get_or known at e).on_way new to (fits e).0 (subst (λ x. AreAmong x new) is are) ends_here)
    where
      ends_here : leads_on n uses (get_or known at e).left (get_or known at e).on_way to ≡ false
      ends_here = dead to row at (get_or known at e) (slice_get-get_or ends to row low ∙ ap Some (sym row_is)) (ap (λ x. slice_get x at) (sym known_is) ∙ slice_get-get_or known at e there)

  -- with one noted more
  pub dead_more : (ends new : List (List DeadEnd)) (u : ℕ) (e : DeadEnd) → AreDead n uses ends → u < length ends → ((d : List DeadEnd) → new ≡ slice_set ends u (get_or ends u d ++ e ∷ [])) → leads_on n uses e.left e.on_way u ≡ false → AreDead n uses new
  dead_more ends new u e dead low is shut v row i f row_at at = elim (place_cases ends u v (get_or ends u [] ++ e ∷ []) row low (ap (λ x. slice_get x v) (sym (is [])) ∙ row_at)) [
    | inl other ↦ dead v row i f other at
    | inr (same, row_is) ↦ elim (push_cases (get_or ends u []) e f i (ap (λ x. slice_get x i) (sym row_is) ∙ at)) [
      | inl old ↦ subst (λ x. leads_on n uses f.left f.on_way x ≡ false) (sym same) (dead u (get_or ends u []) i f (slice_get-get_or ends u [] low) old)
      | inr last ↦ subst (λ (x : DeadEnd). leads_on n uses x.left x.on_way v ≡ false) (sym last) (subst (λ x. leads_on n uses e.left e.on_way x ≡ false) (sym same) shut)
    ]
  ]

  -- the next of the units that a unit uses
  pub shut_step : (left from to : ℕ) (old new : List ℕ) → AreAmong old new → ((k : ℕ) → k < to → holds uses from k ≡ true → is_shut n uses left old k ≡ true) → (holds uses from to ≡ true → is_shut n uses left new to ≡ true)
      → (k : ℕ) → k < to + 1 → holds uses from k ≡ true → is_shut n uses left new k ≡ true
  shut_step left from to old new are before here k low used = elim (cases_lt k to) [
    | inl l ↦ shut_more left old new k are (before k l used)
    | inr h ↦ (let same : k ≡ to = omega (arith, h, low) in subst (λ x. is_shut n uses left new x ≡ true) (sym same) (here (subst (λ x. holds uses from x ≡ true) same used)))
  ]

  pub goes_at : (left less : ℕ) → suc less ≡ left → (before : List ℕ) (u to : ℕ) → to < n → holds uses u to ≡ true → is_among (before ++ u ∷ []) to ≡ false → leads_on n uses less (before ++ u ∷ []) to ≡ true → leads_on n uses left before u ≡ true
  goes_at left less is before u to low used off e = subst (λ x. leads_on n uses x before u ≡ true) is (goes less before u to low used off e)

  pub all_shut_at : (left less : ℕ) → suc less ≡ left → (reason others : List ℕ) (u : ℕ) → others ≡ without u reason → ((k : ℕ) → k < n → holds uses u k ≡ true → is_shut n uses less reason k ≡ true) → leads_on n uses left others u ≡ false
  all_shut_at left less is reason others u others_are shut = subst (λ x. leads_on n uses x others u ≡ false) is (subst (λ x. leads_on n uses (suc less) x u ≡ false) (sym others_are) (all_shut less reason u shut))

-- at as many units
pub dead_as : (a b : ℕ) (uses : List (List Bool)) (e f : List (List DeadEnd)) → a ≡ b → f ≡ e → AreDead a uses e → AreDead b uses f
dead_as a b uses e f same is dead = subst (λ x. AreDead x uses f) same (subst (λ x. AreDead a uses x) (sym is) dead)

-- no dead end
pub none_dead : (n m : ℕ) (uses : List (List Bool)) → AreDead n uses (tabulate m (λ _. []))
none_dead n m uses u row i e row_at at = absurd (bad (none m u row row_at) at)
  where
    none : (m v : ℕ) (row : List DeadEnd) → slice_get (tabulate m (λ _. [])) v ≡ Some row → row ≡ []
    none zero v row e = let bad : None ≡ Some row = e in cc
    none (suc m) v row e = elim (push_cases (tabulate m (λ _. [])) [] row v e) [ inl a ↦ none m v row a | inr b ↦ b ]

    bad : row ≡ [] → slice_get row i ≡ Some e → ⊥
    bad is at = let no : None ≡ Some e = sym (ap (λ x. slice_get x i) is) ∙ at in cc

-- what the search finds is whether a long chain leads from a unit
pub long_is : (n : ℕ) (uses : List (List Bool)) (unit : ℕ) (way : List ℕ) (o : Option (List ℕ)) (r : Bool) → way ≡ [] → is_some o ≡ not r → (o ≡ None → leads_on n uses 16 way unit ≡ true) → IfSome o (λ reason. AreAmong reason way) → IfSome o (λ reason. leads_on n uses 16 reason unit ≡ false) → r ≡ is_long n uses unit
unfolding is_long
long_is n uses unit way None true none is found among shut = sym (subst (λ x. leads_on n uses 16 x unit ≡ true) none (found refl))
long_is n uses unit way None false none is found among shut = let bad : false ≡ true = is in cc
long_is n uses unit way (Some reason) true none is found among shut = let bad : true ≡ false = is in cc
long_is n uses unit way (Some reason) false none is found among shut = sym (harder n uses 16 16 (omega arith) [] reason unit (subst (AreAmong reason) none among) shut)
