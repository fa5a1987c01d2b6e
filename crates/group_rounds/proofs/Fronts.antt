-- Lists by the rounds of their items, and what is set in a round.
use Rattle.std.proofs.Common.{◌≡◌, ℕ, zero, suc, ◌+◌, ◌-◌, ◌<◌, ◌≤◌, Bool, true, false, ◌&&◌, ◌==◌, nat_lt, List, [], ◌∷◌, ◌++◌, filter, take, drop, length, None, Some, refl, sym, ap, ap₂, ◌∙◌, subst, arith, if◌then◌else◌, eq-eqb, ne_eqb, ltb-false, ltb-true}
use Rattle.std.proofs.lemmas.List.{take_all, length-drop}
use Rattle.std.specs.Prelude.{not, slice_get, slice_index_or}
use Rattle.std.specs.List.Sorted.{IsNonDecreasingBy, IsStableByKey}
use Rattle.std.specs.Ordering.{is_lt, nat_cmp}
use Rattle.std.specs.declared.cmp.Ordering.TheVariants.{Less, Equal, Greater}
use Rattle.cli_host.specs.declared.press.Press.{Press}
use Rattle.cli_host.specs.declared.press.Set.{Set}
use Rattle.cli_host.specs.declared.press.Set.TheVariants.{Fire, RunLimit}
use Rattle.cli_host.specs.declared.press.Setting.{Setting}
use Rattle.group_plant.specs.declared.switches.Switches.{Switches}
use Rattle.group_plant.specs.Switches.{opening_switches}
use Rattle.group_spec.specs.declared.image.Sizes.{Sizes}
use Rattle.group_rounds.specs.Ahead.{setting_round, press_round, of_round, Rises, IsAhead, IsStanding}
use Rattle.group_rounds.specs.Driven.{ArePressed, AreSettings, IsSettable, set_of, set_all, settings_in, switches_in}

-- LISTS

pub take_next : {X : Type 0} (xs : List X) (i : ℕ) (x : X) → slice_get xs i ≡ Some x → take (i + 1) xs ≡ take i xs ++ x ∷ []
take_next [] i x at = let no : None ≡ Some x = at in cc
take_next (y ∷ xs) zero x at = let same : y ≡ x = cc in ap (λ z. z ∷ []) same
take_next (y ∷ xs) (suc i) x at = let next : suc i + 1 ≡ suc (i + 1) = omega arith in ap (λ n. take n (y ∷ xs)) next ∙ ap (λ l. y ∷ l) (take_next xs i x at)

-- the item at an index
pub read : {X : Type 0} (xs : List X) (i : ℕ) (d : X) → i < length xs → slice_get xs i ≡ Some (slice_index_or xs i d)
read [] i d below = absurd (omega (arith, below))
read (x ∷ xs) zero d below = refl
read (x ∷ xs) (suc i) d below = read xs i d (omega (arith, below))

-- BY ROUNDS

less_is : (m k : ℕ) → is_lt (nat_cmp m k) ≡ nat_lt m k
less_is m k = by (nat_lt m k) (m == k)
  where
    by : (a b : Bool) → is_lt (if a then Less else (if b then Equal else Greater)) ≡ a
    by true b = refl
    by false true = refl
    by false false = refl

-- keys of which neither is less are equal
ties_are : (m k : ℕ) → (not (is_lt (nat_cmp m k)) && not (is_lt (nat_cmp k m))) ≡ (k == m)
ties_are m k = by (nat_lt m k) (nat_lt k m) refl refl
  where
    by : (a b : Bool) → nat_lt m k ≡ a → nat_lt k m ≡ b → (not (is_lt (nat_cmp m k)) && not (is_lt (nat_cmp k m))) ≡ (k == m)
    by true b l r =
        let less = ltb-true m k l in (λ i. not ((less_is m k ∙ l) i) && not (is_lt (nat_cmp k m))) ∙ sym (ne_eqb k m (λ e. omega (arith, e, less)))
    by false true l r =
        let less = ltb-true k m r in (λ i. not ((less_is m k ∙ l) i) && not ((less_is k m ∙ r) i)) ∙ sym (ne_eqb k m (λ e. omega (arith, e, less)))
    by false false l r =
        let low = ltb-false m k l in
        let high = ltb-false k m r in
        (λ i. not ((less_is m k ∙ l) i) && not ((less_is k m ∙ r) i)) ∙ sym (eq-eqb k m (omega (arith, low, high)))

filter_same : {X : Type 0} (p q : X → Bool) → ((x : X) → p x ≡ q x) → (xs : List X) → filter p xs ≡ filter q xs
filter_same p q h xs = ap (λ f. filter f xs) (λ i x. h x i)

rises_behind : {X : Type 0} (round : X → ℕ) (x : X) (xs : List X) → IsNonDecreasingBy round (x ∷ xs) → Rises round (round x) xs
rises_behind round x [] h = tt
rises_behind round x (y ∷ ys) h = (h 0 1 x (omega arith) (omega arith), rises_behind round y ys (λ i j d low below. h (suc i) (suc j) d (omega (arith, low)) (omega (arith, below))))

rises_first : {X : Type 0} (round : X → ℕ) (xs : List X) → IsNonDecreasingBy round xs → Rises round 0 xs
rises_first round [] h = tt
rises_first round (x ∷ xs) h = (omega arith, rises_behind round x xs h)

-- a stable sort by rounds keeps those of each round in their order; there is an item of each round
pub sorted_ahead : {X : Type 0} (round : X → ℕ) (some : ℕ → X) → ((n : ℕ) → round (some n) ≡ n) → (xs ys : List X) → IsNonDecreasingBy round ys → IsStableByKey round nat_cmp xs ys → IsAhead round 0 xs ys
sorted_ahead {X} round some is xs ys up stable = record {
  rises = rises_first round ys up;
  same = λ k low. sym (filter_same _ _ (same k) ys) ∙ stable (some k) ∙ filter_same _ _ (same k) xs;
}
  where
    same : (k : ℕ) (y : X) → (not (is_lt (nat_cmp (round (some k)) (round y))) && not (is_lt (nat_cmp (round y) (round (some k))))) ≡ (round y == k)
    same k y = ties_are (round (some k)) (round y) ∙ ap (λ n. round y == n) (is k)

-- a press and a setting of each round
abbrev pub a_press : ℕ → Press
a_press n = record { round = n; from = 0; to = 0; panel = 0 }

abbrev pub a_setting : ℕ → Setting
a_setting n = record { round = n; set = Fire false }

-- what is ahead of what is ahead is ahead
pub ahead_on : {X : Type 0} (round : X → ℕ) (n m : ℕ) (all rest later : List X) → n ≤ m → IsAhead round n all rest → IsAhead round m rest later → IsAhead round m all later
ahead_on round n m all rest later low first next = record { rises = next.rises; same = λ k high. next.same k high ∙ first.same k (omega (arith, low, high)) }

pub ahead_same : {X : Type 0} (round : X → ℕ) (n : ℕ) (xs : List X) → Rises round n xs → IsAhead round n xs xs
ahead_same round n xs rises = record { rises = rises; same = λ k low. refl }

-- what is left of a copy, after its first
pub ahead_of_copy : {X : Type 0} (round : X → ℕ) (all copy xs ys : List X) (k : ℕ) → IsAhead round 0 all copy → xs ≡ copy → ys ≡ copy → IsAhead round (0 + 1) xs (drop k xs) → IsAhead round 1 all (take (length ys - k) (drop k ys))
ahead_of_copy {X} round all copy xs ys k first same also next =
    let whole : take (length ys - k) (drop k ys) ≡ drop k ys = take_all (length ys - k) (drop k ys) (omega (arith, length-drop k ys)) in
    let here : IsAhead round 1 copy (drop k copy) = subst (λ l. IsAhead round 1 l (drop k l)) same next in
    subst (IsAhead round 1 all) (sym (whole ∙ ap (drop k) also)) (ahead_on round 0 1 all copy (drop k copy) (omega arith) first here)

-- THE FRONT

-- each is of this round
abbrev pub AreOf : {X : Type 0} → (X → ℕ) → ℕ → List X → Type 0
AreOf round n [] = Unit {0}
AreOf round n (x ∷ xs) = (round x ≡ n) × AreOf round n xs

-- the first is of another
abbrev pub StopsAt : {X : Type 0} → (X → ℕ) → ℕ → List X → Type 0
StopsAt round n [] = Unit {0}
StopsAt round n (x ∷ xs) = (round x == n) ≡ false

of_own : {X : Type 0} (round : X → ℕ) (n : ℕ) (x : X) (xs : List X) → (round x == n) ≡ true → of_round round n (x ∷ xs) ≡ x ∷ of_round round n xs
of_own round n x xs is = ap (λ (b : Bool). if b then x ∷ of_round round n xs else of_round round n xs) is

of_other : {X : Type 0} (round : X → ℕ) (n : ℕ) (x : X) (xs : List X) → (round x == n) ≡ false → of_round round n (x ∷ xs) ≡ of_round round n xs
of_other round n x xs is = ap (λ (b : Bool). if b then x ∷ of_round round n xs else of_round round n xs) is

none_before : {X : Type 0} (round : X → ℕ) (n m : ℕ) (xs : List X) → n < m → Rises round m xs → of_round round n xs ≡ []
none_before round n m [] low r = refl
none_before round n m (x ∷ xs) low r =
    let here = r.0 in
    of_other round n x xs (ne_eqb (round x) n (λ e. omega (arith, e, here, low))) ∙ none_before round n (round x) xs (omega (arith, here, low)) r.1

-- those of a round, and what is ahead after them
pub record IsFront {X : Type 0} (round : X → ℕ) (n : ℕ) (xs due later : List X) : Type 0 where
  pub own : due ≡ of_round round n xs
  pub ahead : IsAhead round (n + 1) xs later

pub front_is : {X : Type 0} (round : X → ℕ) (n : ℕ) (xs : List X) (count : ℕ) → Rises round n xs → AreOf round n (take count xs) → StopsAt round n (drop count xs) → IsFront round n xs (take count xs) (drop count xs)
front_is round n [] zero r a s = record { own = refl; ahead = record { rises = tt; same = λ k low. refl } }
front_is round n [] (suc c) r a s = record { own = refl; ahead = record { rises = tt; same = λ k low. refl } }
front_is round n (x ∷ xs) zero r a s = record {
  own = sym (of_other round n x xs s ∙ none_before round n (round x) xs above r.1);
  ahead = record { rises = (omega (arith, above), r.1); same = λ k low. refl };
}
  where
    by : (b : Bool) → nat_lt n (round x) ≡ b → n < round x
    by true e = ltb-true n (round x) e
    by false e =
        let low = ltb-false n (round x) e in
        let here = r.0 in
        let same : round x ≡ n = omega (arith, low, here) in
        let no : true ≡ false = sym (eq-eqb (round x) n same) ∙ s in cc

    above : n < round x
    above = by (nat_lt n (round x)) refl
front_is round n (x ∷ xs) (suc c) r a s =
    let own = a.0 in
    let rest = front_is round n xs c (subst (λ m. Rises round m xs) own r.1) a.1 s in
    record {
      own = ap (λ l. x ∷ l) rest.own ∙ sym (of_own round n x xs (eq-eqb (round x) n own));
      ahead = record { rises = rest.ahead.rises; same = λ k low. rest.ahead.same k low ∙ sym (of_other round k x xs (ne_eqb (round x) k (λ e. omega (arith, own, e, low)))) };
    }

are_more : {X : Type 0} (round : X → ℕ) (n : ℕ) (xs : List X) (x : X) → AreOf round n xs → round x ≡ n → AreOf round n (xs ++ x ∷ [])
are_more round n [] x all is = (is, tt)
are_more round n (y ∷ xs) x all is = (all.0, are_more round n xs x all.1 is)

-- a further one
pub are_next : {X : Type 0} (round : X → ℕ) (n : ℕ) (xs : List X) (i : ℕ) (x : X) → slice_get xs i ≡ Some x → AreOf round n (take i xs) → round x ≡ n → AreOf round n (take (i + 1) xs)
are_next round n xs i x at all is = subst (AreOf round n) (sym (take_next xs i x at)) (are_more round n (take i xs) x all is)

-- where it stops: at one of another round, or at the end
pub stops_here : {X : Type 0} (round : X → ℕ) (n : ℕ) (xs : List X) (i : ℕ) (x : X) → slice_get xs i ≡ Some x → (round x == n) ≡ false → StopsAt round n (drop i xs)
stops_here round n [] i x at other = let no : None ≡ Some x = at in cc
stops_here round n (y ∷ xs) zero x at other = let same : y ≡ x = cc in subst (λ z. (round z == n) ≡ false) (sym same) other
stops_here round n (y ∷ xs) (suc i) x at other = stops_here round n xs i x at other

pub stops_at_end : {X : Type 0} (round : X → ℕ) (n : ℕ) (xs : List X) (i : ℕ) → length xs ≤ i → StopsAt round n (drop i xs)
stops_at_end round n [] zero low = tt
stops_at_end round n [] (suc i) low = tt
stops_at_end round n (x ∷ xs) zero low = absurd (omega (arith, low))
stops_at_end round n (x ∷ xs) (suc i) low = stops_at_end round n xs i (omega (arith, low))

pub next_are : {X : Type 0} (round : X → ℕ) (n : ℕ) (xs : List X) (i : ℕ) (d : X) → i < length xs → AreOf round n (take i xs) → round (slice_index_or xs i d) ≡ n → AreOf round n (take (i + 1) xs)
next_are round n xs i d below all is = are_next round n xs i (slice_index_or xs i d) (read xs i d below) all is

pub stopped : {X : Type 0} (round : X → ℕ) (n : ℕ) (xs : List X) (i : ℕ) (d : X) → i < length xs → (round (slice_index_or xs i d) ≡ n → ⊥) → StopsAt round n (drop i xs)
stopped round n xs i d below other = stops_here round n xs i (slice_index_or xs i d) (read xs i d below) (ne_eqb _ n other)

-- WHAT IS SET

pub opening_stands : (cars : ℕ) (all settings due later : List Setting) → IsFront setting_round 0 settings due later → IsAhead setting_round 0 all settings → IsStanding cars all 0 (opening_switches cars) later
opening_stands cars all settings due later front ahead = record { is = refl; rest = ahead_on setting_round 0 (0 + 1) all settings later (omega arith) ahead front.ahead }

pub next_stands :
    (cars n round : ℕ) (all : List Setting) (before : Switches) (rest due later : List Setting) → round ≡ n + 1 → IsStanding cars all n before rest → IsFront setting_round round rest due later → IsStanding cars all round (set_all before due) later
next_stands cars n round all before rest due later number stands front =
    let next : suc n ≡ round = omega (arith, number) in
    let here : due ≡ settings_in all (suc n) = front.own ∙ stands.rest.same round (omega (arith, number)) ∙ ap (settings_in all) (sym next) in
    record {
      is = ap₂ set_all stands.is here ∙ ap (switches_in cars all) next;
      rest = ahead_on setting_round (n + 1) (round + 1) all rest later (omega (arith, number)) stands.rest front.ahead;
    }

settable : (cars : ℕ) (before : Switches) (s : Set) → IsSettable cars s → before.run_limit ≤ cars → (set_of before s).run_limit ≤ cars
settable cars before (Fire fire) is low = low
settable cars before (RunLimit run_limit) is low = is

all_settable : (cars : ℕ) (before : Switches) (settings : List Setting) → AreSettings cars settings → before.run_limit ≤ cars → (set_all before settings).run_limit ≤ cars
all_settable cars before [] are low = low
all_settable cars before (s ∷ settings) are low = all_settable cars (set_of before s.set) settings are.1 (settable cars before s.set are.0 low)

part_settable : (cars : ℕ) (p : Setting → Bool) (settings : List Setting) → AreSettings cars settings → AreSettings cars (filter p settings)
part_settable cars p [] are = tt
part_settable cars p (s ∷ settings) are = by (p s) (part_settable cars p settings are.1)
  where
    by : (b : Bool) → AreSettings cars (filter p settings) → AreSettings cars (if b then s ∷ filter p settings else filter p settings)
    by true rest = (are.0, rest)
    by false rest = rest

-- no more cars may run than there are
pub limit_in : (cars : ℕ) (settings : List Setting) → AreSettings cars settings → (n : ℕ) → (switches_in cars settings n).run_limit ≤ cars
limit_in cars settings are zero = omega arith
limit_in cars settings are (suc n) = all_settable cars (switches_in cars settings n) (settings_in settings (suc n)) (part_settable cars (λ (s : Setting). s.round == suc n) settings are) (limit_in cars settings are n)

-- the same is set by the settings in another order of rounds
pub set_alike : (cars : ℕ) (all settings : List Setting) → IsAhead setting_round 0 all settings → (n : ℕ) → switches_in cars settings n ≡ switches_in cars all n
set_alike cars all settings ahead zero = refl
set_alike cars all settings ahead (suc n) = ap₂ set_all (set_alike cars all settings ahead n) (ahead.same (suc n) (omega arith))

-- PRESSES OF A ROUND

pub part_pressed : (sizes : Sizes) (p : Press → Bool) (presses : List Press) → ArePressed sizes presses → ArePressed sizes (filter p presses)
part_pressed sizes p [] are = tt
part_pressed sizes p (x ∷ presses) are = by (p x) (part_pressed sizes p presses are.1)
  where
    by : (b : Bool) → ArePressed sizes (filter p presses) → ArePressed sizes (if b then x ∷ filter p presses else filter p presses)
    by true rest = (are.0, rest)
    by false rest = rest

pub due_pressed : (sizes : Sizes) (n : ℕ) (all due : List Press) → due ≡ of_round press_round n all → ArePressed sizes all → ArePressed sizes due
due_pressed sizes n all due is are = subst (ArePressed sizes) (sym is) (part_pressed sizes (λ (p : Press). p.round == n) all are)
