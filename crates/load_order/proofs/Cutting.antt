-- No more uses lead on from a unit than a cover has names that are not after it.
use Rattle.std.proofs.Common.{◌≡◌, ℕ, zero, suc, ◌+◌, ◌<◌, ◌≤◌, ◌⊎◌, inl, inr, Bool, true, false, ◌||◌, ◌&&◌, if◌then◌else◌, List, [], ◌∷◌, ◌++◌, refl, sym, ap, ◌∙◌, subst, arith}
use Rattle.std.specs.Prelude.{not, nat_eq, nat_lt}
use Rattle.std.proofs.lemmas.Bool.Decides.{nat_tests}
use Rattle.std.proofs.lemmas.Bool.{cases_lt, ltb-true}
use Rattle.load_order.specs.Related.{any_below, is_entry, is_set, holds, closed, tabulate}
use Rattle.load_order.specs.Used.{is_among}
use Rattle.load_order.specs.Chained.{leads_on, AreAmong}
use Rattle.load_order.specs.Bounded.{count_below, AreLimits, users_left, used_left, others_left, is_left, uses_many, is_used_by_few, reached_of, named_of}
use Rattle.load_order.specs.declared.limits.Limits.{Limits}
use Rattle.load_order.proofs.Tabled.{or_left, or_right, from_or, and_both, not_both, tabulated, some_below, below_some}
use Rattle.load_order.proofs.Closing.{at_first, transitive}
use Rattle.load_order.proofs.Ways.{among_cases, among_last, among_more, not_of, of_not}
use Rattle.load_types.proofs.Sharing.{both_true as from_and}

-- HOW MANY

one_more : (a b : Bool) → (a ≡ true → b ≡ true) → (if a then 1 else 0) ≤ (if b then 1 else 0)
one_more true true is = omega arith
one_more true false is = let bad : false ≡ true = is refl in cc
one_more false true is = omega arith
one_more false false is = omega arith

-- what passes fewer tests is counted no more often
count_le : (f g : ℕ → Bool) → (n : ℕ) → ((i : ℕ) → i < n → g i ≡ true → f i ≡ true) → count_below n g ≤ count_below n f
count_le f g zero is = omega arith
count_le f g (suc n) is = let before = count_le f g n (λ i l. is i (omega (arith, l))) in let here = one_more (g n) (f n) (is n (omega arith)) in omega (arith, before, here)

-- and less often, where one fails
count_less : (f g : ℕ → Bool) → ((i : ℕ) → g i ≡ true → f i ≡ true) → (k : ℕ) → f k ≡ true → g k ≡ false → (n : ℕ) → k < n → count_below n g < count_below n f
count_less f g is k passes fails zero low = absurd (omega (arith, low))
count_less f g is k passes fails (suc n) low = by_place (count_less f g is k passes fails n) (cases_lt k n)
  where
    at_last : n ≡ k → (if g n then 1 else 0) < (if f n then 1 else 0)
    at_last e = one (g n) (f n) (ap g e ∙ fails) (ap f e ∙ passes)
      where
        one : (a b : Bool) → a ≡ false → b ≡ true → (if a then 1 else 0) < (if b then 1 else 0)
        one false true x y = omega arith
        one true b x y = let bad : true ≡ false = x in cc
        one false false x y = let bad : false ≡ true = y in cc

    by_place : (k < n → count_below n g < count_below n f) → (k < n) ⊎ (n ≤ k) → count_below (suc n) g < count_below (suc n) f
    by_place below (inl l) = let before = below l in let here = one_more (g n) (f n) (is n) in omega (arith, before, here)
    by_place below (inr h) = let before = count_le f g n (λ i _. is i) in let here = at_last (omega (arith, h, low)) in omega (arith, before, here)

-- COVERS

-- fewer are off a longer list
off_more : (before more : List ℕ) (x : ℕ) → not (is_among (before ++ more) x) ≡ true → not (is_among before x) ≡ true
off_more before more x e = by_test (is_among before x) refl
  where
    by_test : (t : Bool) → is_among before x ≡ t → not (is_among before x) ≡ true
    by_test false is = not_of (is_among before x) is
    by_test true is = absurd (not_both (is_among (before ++ more) x) (among_more before more x is) (of_not (is_among (before ++ more) x) e))

module _ (n : ℕ) (uses : List (List Bool)) (near users used : ℕ → Bool)
    (on : (w k : ℕ) → w < n → k < n → near w ≡ true → holds uses w k ≡ true → near k ≡ true)
    (covers : (w k : ℕ) → w < n → k < n → holds uses w k ≡ true → (users w || used k) ≡ true) where
  names : (ℕ → Bool) → List ℕ → ℕ → Bool
  names cover before x = near x && cover x && not (is_among before x)

  abbrev left_of : (ℕ → Bool) → List ℕ → ℕ
  left_of cover before = count_below n (λ x. near x && cover x && not (is_among before x))

  fewer : (cover : ℕ → Bool) (before : List ℕ) (w i : ℕ) → (near i && cover i && not (is_among (before ++ w ∷ []) i)) ≡ true → (near i && cover i && not (is_among before i)) ≡ true
  fewer cover before w i e =
      let both = from_and (near i && cover i) (not (is_among (before ++ w ∷ []) i)) e in
      and_both (near i && cover i) (not (is_among before i)) both.0 (off_more before (w ∷ []) i both.1)

  left_le : (cover : ℕ → Bool) (before : List ℕ) (w : ℕ) → left_of cover (before ++ w ∷ []) ≤ left_of cover before
  left_le cover before w = count_le (λ x. near x && cover x && not (is_among before x)) (λ x. near x && cover x && not (is_among (before ++ w ∷ []) x)) n (λ i _. fewer cover before w i)

  left_less : (cover : ℕ → Bool) (before : List ℕ) (w : ℕ) → w < n → near w ≡ true → cover w ≡ true → is_among before w ≡ false → left_of cover (before ++ w ∷ []) < left_of cover before
  left_less cover before w low is named off =
      count_less (λ x. near x && cover x && not (is_among before x)) (λ x. near x && cover x && not (is_among (before ++ w ∷ []) x)) (fewer cover before w) w
      (and_both (near w && cover w) (not (is_among before w)) (and_both (near w) (cover w) is named) (not_of (is_among before w) off)) (fails (near w && cover w) (is_among (before ++ w ∷ []) w) (among_last before w)) n low
    where
      fails : (a b : Bool) → b ≡ true → (a && not b) ≡ false
      fails true true e = refl
      fails false true e = refl
      fails a false e = let bad : false ≡ true = e in cc

  pub no_more : (left : ℕ) (before : List ℕ) (w : ℕ) → w < n → near w ≡ true → is_among before w ≡ false → leads_on n uses left before w ≡ true → left ≤ left_of users before + left_of used (before ++ w ∷ [])
  no_more zero before w low is off e = omega arith
  no_more (suc left) before w low is off e =
      let r = some_below (λ to. holds uses w to && not (is_among (before ++ w ∷ []) to) && leads_on n uses left (before ++ w ∷ []) to) n e in
      let both = from_and (holds uses w r.0 && not (is_among (before ++ w ∷ []) r.0)) (leads_on n uses left (before ++ w ∷ []) r.0) r.2 in
      let go = from_and (holds uses w r.0) (not (is_among (before ++ w ∷ []) r.0)) both.0 in
      let next = on w r.0 low r.1 is go.0 in
      let away = of_not (is_among (before ++ w ∷ []) r.0) go.1 in
      let rest = no_more left (before ++ w ∷ []) r.0 r.1 next away both.1 in
      elim (from_or (users w) (used r.0) (covers w r.0 low r.1 go.0)) [
        | inl a ↦ (let less = left_less users before w low is a off in let same = left_le used (before ++ w ∷ []) r.0 in omega (arith, rest, less, same))
        | inr b ↦ (let less = left_less used (before ++ w ∷ []) r.0 r.1 next b away in let same = left_le users before w in omega (arith, rest, less, same))
      ]

-- LIMITS

none_passes : (n : ℕ) (f : ℕ → Bool) → ((i : ℕ) → f i ≡ false) → count_below n f ≡ 0
none_passes zero f none = refl
none_passes (suc n) f none = let before = none_passes n f none in let here = ap {B = ℕ} (λ (t : Bool). if t then 1 else 0) (none n) in omega (arith, before, here)

module _ (n : ℕ) (uses : List (List Bool)) (limits : Limits) (are : AreLimits n uses limits) (way : List ℕ) (from : ℕ) (low : from < n) where
  near : ℕ → Bool
  near x = nat_eq x from || holds limits.reached from x

  reach : (w k : ℕ) → w < n → k < n → holds uses w k ≡ true → holds limits.reached w k ≡ true
  reach w k lw lk e = subst (λ r. holds r w k ≡ true) (sym are.closing) (at_first n uses n w k lw lk e)

  further : (w k : ℕ) → w < n → k < n → holds limits.reached from w ≡ true → holds limits.reached w k ≡ true → holds limits.reached from k ≡ true
  further w k lw lk a b =
      subst (λ r. holds r from k ≡ true) (sym are.closing)
      (transitive n uses n (omega arith) from w k low lw lk (subst (λ r. holds r from w ≡ true) are.closing a) (subst (λ r. holds r w k ≡ true) are.closing b))

  nears : (w k : ℕ) → w < n → k < n → (nat_eq w from || holds limits.reached from w) ≡ true → holds uses w k ≡ true → (nat_eq k from || holds limits.reached from k) ≡ true
  nears w k lw lk is used = or_right (nat_eq k from) (holds limits.reached from k) (elim (from_or (nat_eq w from) (holds limits.reached from w) is) [
    | inl a ↦ subst (λ x. holds limits.reached x k ≡ true) (same a) (reach w k lw lk used)
    | inr b ↦ further w k lw lk b (reach w k lw lk used)
  ])
    where
      same : nat_eq w from ≡ true → w ≡ from
      same e = grind (arith, nat_tests)

  itself : (nat_eq from from || holds limits.reached from from) ≡ true
  itself = or_left (nat_eq from from) (holds limits.reached from from) (grind (arith, nat_tests))

  -- one that is near and off the way is another one that is left
  left_is : (x : ℕ) → (nat_eq x from || holds limits.reached from x) ≡ true → not (is_among (way ++ from ∷ []) x) ≡ true → is_left limits way from x ≡ true
  left_is x is off =
      and_both (holds limits.reached from x && not (nat_eq x from)) (not (is_among way x))
      (and_both (holds limits.reached from x) (not (nat_eq x from)) (reached (from_or (nat_eq x from) (holds limits.reached from x) is)) (not_of (nat_eq x from) (other (nat_eq x from) refl)))
      (off_more way (from ∷ []) x off)
    where
      other : (t : Bool) → nat_eq x from ≡ t → t ≡ false
      other false e = refl
      other true e = absurd (not_both (is_among (way ++ from ∷ []) x) (subst (λ y. is_among (way ++ from ∷ []) y ≡ true) (same e) (among_last way from)) (of_not (is_among (way ++ from ∷ []) x) off))
        where
          same : nat_eq x from ≡ true → from ≡ x
          same e = grind (arith, nat_tests)

      reached : (nat_eq x from ≡ true) ⊎ (holds limits.reached from x ≡ true) → holds limits.reached from x ≡ true
      reached (inl a) = let bad : true ≡ false = sym a ∙ other (nat_eq x from) refl in cc
      reached (inr b) = b

  in_others : (left : ℕ) → is_among way from ≡ false → leads_on n uses left way from ≡ true → left ≤ others_left n limits way from
  in_others left off e =
      let all = no_more n uses (λ x. nat_eq x from || holds limits.reached from x) (λ _. false) (λ _. true) nears (λ _ _ _ _ _. refl) left way from low itself off e in
      let none = none_passes n (λ x. (nat_eq x from || holds limits.reached from x) && false && not (is_among way x)) (λ x. never (nat_eq x from || holds limits.reached from x) (not (is_among way x))) in
      let rest = count_le (λ x. is_left limits way from x) (λ x. (nat_eq x from || holds limits.reached from x) && true && not (is_among (way ++ from ∷ []) x)) n (λ x _ p. fits x p) in
      omega (arith, all, none, rest)
    where
      never : (a b : Bool) → (a && false && b) ≡ false
      never true b = refl
      never false b = refl

      fits : (x : ℕ) → ((nat_eq x from || holds limits.reached from x) && true && not (is_among (way ++ from ∷ []) x)) ≡ true → is_left limits way from x ≡ true
      fits x p =
          let both = from_and ((nat_eq x from || holds limits.reached from x) && true) (not (is_among (way ++ from ∷ []) x)) p in
          left_is x (from_and (nat_eq x from || holds limits.reached from x) true both.0).0 both.1

  in_cover : (left : ℕ) → is_among way from ≡ false → leads_on n uses left way from ≡ true → left ≤ users_left n limits way from + used_left n limits way from
  in_cover left off e =
      let all = no_more n uses (λ x. nat_eq x from || holds limits.reached from x) (λ x. is_set limits.users x) (λ x. is_set limits.used x) nears are.covers left way from low itself off e in
      let rest = count_le (λ x. is_left limits way from x && is_set limits.used x) (λ x. (nat_eq x from || holds limits.reached from x) && is_set limits.used x && not (is_among (way ++ from ∷ []) x)) n (λ x _ p. fits x p) in
      omega (arith, all, rest)
    where
      fits : (x : ℕ) → ((nat_eq x from || holds limits.reached from x) && is_set limits.used x && not (is_among (way ++ from ∷ []) x)) ≡ true → (is_left limits way from x && is_set limits.used x) ≡ true
      fits x p =
          let both = from_and ((nat_eq x from || holds limits.reached from x) && is_set limits.used x) (not (is_among (way ++ from ∷ []) x)) p in
          let first = from_and (nat_eq x from || holds limits.reached from x) (is_set limits.used x) both.0 in
          and_both (is_left limits way from x) (is_set limits.used x) (left_is x first.0 both.1) first.1

  -- with fewer names left than uses, so many uses don't lead on
  pub cut : (left : ℕ) → is_among way from ≡ false → (nat_lt (others_left n limits way from) left || nat_lt (users_left n limits way from + used_left n limits way from) left) ≡ true → leads_on n uses left way from ≡ false
  cut left off e = by_test (leads_on n uses left way from) refl
    where
      by_test : (t : Bool) → leads_on n uses left way from ≡ t → t ≡ false
      by_test false is = refl
      by_test true is = elim (from_or (nat_lt (others_left n limits way from) left) (nat_lt (users_left n limits way from + used_left n limits way from) left) e) [
        | inl a ↦ (let few = ltb-true _ _ a in let most = in_others left off is in absurd (omega (arith, few, most)))
        | inr b ↦ (let few = ltb-true _ _ b in let most = in_cover left off is in absurd (omega (arith, few, most)))
      ]

-- those of a list that a unit reaches, and those of them that a cover names
pub reached_among : (reached : List (List Bool)) (from : ℕ) (xs : List ℕ) → AreAmong (reached_of reached from xs) xs
reached_among reached from [] k a = a
reached_among reached from (x ∷ xs) k a = by_test (holds reached from x) (reached_among reached from xs k) a
  where
    by_test : (t : Bool) → (is_among (reached_of reached from xs) k ≡ true → is_among xs k ≡ true) → is_among (if t then x ∷ reached_of reached from xs else reached_of reached from xs) k ≡ true → (nat_eq x k || is_among xs k) ≡ true
    by_test true rest a = elim (from_or (nat_eq x k) (is_among (reached_of reached from xs) k) a) [ inl s ↦ or_left (nat_eq x k) (is_among xs k) s | inr b ↦ or_right (nat_eq x k) (is_among xs k) (rest b) ]
    by_test false rest a = or_right (nat_eq x k) (is_among xs k) (rest a)

pub named_among : (limits : Limits) (xs : List ℕ) → AreAmong (named_of limits xs) xs
named_among limits [] k a = a
named_among limits (x ∷ xs) k a = by_test (is_set limits.users x || is_set limits.used x) (named_among limits xs k) a
  where
    by_test : (t : Bool) → (is_among (named_of limits xs) k ≡ true → is_among xs k ≡ true) → is_among (if t then x ∷ named_of limits xs else named_of limits xs) k ≡ true → (nat_eq x k || is_among xs k) ≡ true
    by_test true rest a = elim (from_or (nat_eq x k) (is_among (named_of limits xs) k) a) [ inl s ↦ or_left (nat_eq x k) (is_among xs k) s | inr b ↦ or_right (nat_eq x k) (is_among xs k) (rest b) ]
    by_test false rest a = or_right (nat_eq x k) (is_among xs k) (rest a)

-- what is not on the way is in no part of it
pub off_part : (part way : List ℕ) (from : ℕ) → AreAmong part way → is_among way from ≡ false → is_among part from ≡ false
off_part part way from are off = by_test (is_among part from) refl
  where
    by_test : (t : Bool) → is_among part from ≡ t → t ≡ false
    by_test false is = refl
    by_test true is = absurd (not_both (is_among way from) (are from is) off)

-- users of many, and what the others use, are a cover
pub cover_is : (n most : ℕ) (uses : List (List Bool)) (made : List ℕ) (users used : List Bool) → users ≡ tabulate n (λ u. uses_many made most u) → used ≡ tabulate n (λ u. is_used_by_few n uses made most u)
    → (u v : ℕ) → u < n → v < n → holds uses u v ≡ true → (is_set users u || is_set used v) ≡ true
cover_is n most uses made users used users_are used_are u v lu lv e = by_test (uses_many made most u) refl
  where
    user : is_set users u ≡ uses_many made most u
    user = ap (λ row. is_set row u) users_are ∙ ap is_entry (tabulated (λ x. uses_many made most x) n u lu)

    by_test : (t : Bool) → uses_many made most u ≡ t → (is_set users u || is_set used v) ≡ true
    by_test true is = or_left (is_set users u) (is_set used v) (user ∙ is)
    by_test false is =
        or_right (is_set users u) (is_set used v)
        (ap (λ row. is_set row v) used_are ∙ ap is_entry (tabulated (λ x. is_used_by_few n uses made most x) n v lv)
        ∙ below_some (λ w. holds uses w v && not (uses_many made most w)) n u lu (and_both (holds uses u v) (not (uses_many made most u)) e (not_of (uses_many made most u) is)))

-- with a part of the way
pub cut_at : (n : ℕ) (uses : List (List Bool)) (limits : Limits) → AreLimits n uses limits → (from : ℕ) → from < n → (way part arg : List ℕ) (left count : ℕ) (r : Bool) → is_among way from ≡ false → AreAmong part way → arg ≡ part → count ≡ n
    → r ≡ (nat_lt (others_left count limits arg from) left || nat_lt (users_left count limits arg from + used_left count limits arg from) left) → r ≡ true → leads_on n uses left part from ≡ false
cut_at n uses limits are from low way part arg left count r off among arg_is count_is is e =
    cut n uses limits are part from low left (off_part part way from among off)
    (subst (λ x. (nat_lt (others_left n limits x from) left || nat_lt (users_left n limits x from + used_left n limits x from) left) ≡ true) arg_is
    (subst (λ k. (nat_lt (others_left k limits arg from) left || nat_lt (users_left k limits arg from + used_left k limits arg from) left) ≡ true) count_is (sym is ∙ e)))

pub none_among : (xs way : List ℕ) → xs ≡ [] → AreAmong xs way
none_among [] way is k a = let bad : false ≡ true = a in cc
none_among (x ∷ xs) way is k a = let bad : (x ∷ xs) ≡ [] = is in cc
