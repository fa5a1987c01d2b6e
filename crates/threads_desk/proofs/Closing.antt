-- The words of a closed desk, read one after another into a set of calls; and rows of panels.
use Rattle.std.proofs.Common.{◌≡◌, ◌≢◌, ⊎_elim, inl, inr, ℕ, ◌+◌, ◌-◌, ◌<◌, ◌≤◌, ◌^◌, Bool, true, false, List, [], ◌∷◌, ◌++◌, length, refl, sym, ap, ◌∙◌, arith, subst, zero, suc}
use Rattle.std.specs.Prelude.{slice_index, slice_get, sum_by, Option, Some, None, All, ◌==◌, if◌then◌else◌}
use Rattle.std.specs.Int.{bit_at}
use Rattle.std.proofs.lemmas.Bool.{cases_Bool}
use Rattle.std.proofs.lemmas.Bool.Decides.{nat_tests}
use mathlib.Core.Option.{some, some-injective, some-ne-none}
use lib.ListN.{get_elem?}
use Rattle.group_spec.specs.declared.calls.Call.{Call}
use Rattle.group_spec.specs.Hands.{has_call, with_calls, calls_of_bits}
use Rattle.threads_desk.specs.Account.{call, times, membership, IsWord}
use Rattle.threads_desk.specs.Passes.{Panel, AreCalls, IsBalanced}
use Rattle.threads_desk.proofs.Steps.{times-word, below-16}
use Rattle.threads_desk.proofs.Sets.{members-more, times-member, word-calls, has-with-all, either}

-- READING

pub get-is : (xs : List ℕ) (i x : ℕ) → get_elem? xs i ≡ some x → slice_index xs i ≡ x
get-is [] i x e = absurd (some-ne-none x (sym e))
get-is (y ∷ ys) zero x e = some-injective y x e
get-is (y ∷ ys) (suc i) x e = get-is ys i x e

-- the words below the n-th were read
pub record IsRead (floors : ℕ) (words : List ℕ) (n : ℕ) (desk : List Call) : Type 0 where
  pub within : n ≤ floors
  pub low : (i k : ℕ) → i < n → membership desk (call (suc i) (suc k)) ≡ bit_at (slice_index words i) k
  pub members : (c : Call) → has_call desk c ≡ true → (1 ≤ c.from) × (c.from ≤ n) × (1 ≤ c.to) × (c.to ≤ floors) × (c.from ≢ c.to)

pub read-none : (floors : ℕ) (words : List ℕ) → IsRead floors words 0 []
read-none floors words = record { within = omega arith; low = λ i k less. absurd (omega (arith, less)); members = λ c e. absurd (cc) }

module _ (floors : ℕ) (words : List ℕ) (n : ℕ) (desk : List Call) (r : IsRead floors words n desk) (less : n < floors) (most : floors ≤ 16) (word : ℕ) (is : slice_index words n ≡ word) (ok : IsWord floors n word) where
  abbrev its : List Call
  its = calls_of_bits 16 (suc n) 1 word

  small : word < 2 ^ 16
  small = below-16 floors word most ok.0

  its-floor : (c : Call) → has_call its c ≡ true → (c.from ≡ suc n) × (1 ≤ c.to) × (c.to ≤ floors) × (suc n ≢ c.to)
  its-floor c e =
      let same : n ≡ suc n - 1 = omega arith in
      word-calls floors (suc n) word c most (omega arith, omega arith) small (subst (λ i. IsWord floors i word) same ok) e

  not-there : (c : Call) → c.from ≡ suc n → has_call desk c ≡ false
  not-there c from =
      elim (cases_Bool (has_call desk c)) [
        | inl e ↦ absurd (let m = r.members c e in omega (arith, m.1, from))
        | inr e ↦ e
      ]

  more : (c : Call) → membership (with_calls desk its) c ≡ membership its c + membership desk c
  more = members-more desk its (λ c e. not-there c (its-floor c e).0)

  low-at : (i k : ℕ) → i < n + 1 → (b : Bool) → (n == i) ≡ b → membership (with_calls desk its) (call (suc i) (suc k)) ≡ bit_at (slice_index words i) k
  low-at i k below true same =
      let here : n ≡ i = grind (arith, nat_tests) in
      let m = more (call (suc i) (suc k)) in
      let t : times (call (suc i) (suc k)) its ≡ bit_at word k = times-word n i k word small true same in
      let c = times-member 16 (suc n) 1 word (call (suc i) (suc k)) in
      let z : membership desk (call (suc i) (suc k)) ≡ 0 = ap (λ (b : Bool). if b then 1 else 0) (not-there (call (suc i) (suc k)) (ap suc (sym here))) in
      let w : bit_at (slice_index words i) k ≡ bit_at word k = ap (λ j. bit_at (slice_index words j) k) (sym here) ∙ ap (λ x. bit_at x k) is in
      omega (arith, m, t, c, z, w)
  low-at i k below false same =
      let other : n ≢ i = grind (arith, nat_tests) in
      let m = more (call (suc i) (suc k)) in
      let t : times (call (suc i) (suc k)) its ≡ 0 = times-word n i k word small false same in
      let c = times-member 16 (suc n) 1 word (call (suc i) (suc k)) in
      let l = r.low i k (omega (arith, below, other)) in
      omega (arith, m, t, c, l)

  read-on : IsRead floors words (n + 1) (with_calls desk its)
  read-on = record {
    within = omega (arith, less);
    low = λ i k below. low-at i k below (n == i) refl;
    members =
        λ c e.
        ⊎_elim
        (λ (has : has_call its c ≡ true). let m = its-floor c has in (omega (arith, m.0), omega (arith, m.0), m.1, m.2, λ same. m.3 (sym m.0 ∙ same)))
        (λ (has : has_call desk c ≡ true). let m = r.members c has in (m.0, omega (arith, m.1), m.2, m.3, m.4))
        (either (has_call its c) (has_call desk c) (sym (has-with-all desk its c) ∙ e));
  }

pub read-more : (floors : ℕ) (words : List ℕ) (n floor : ℕ) (desk after : List Call) (word : ℕ) → IsRead floors words n desk → n < floors → floors ≤ 16 → floor ≡ suc n → slice_index words n ≡ word → IsWord floors n word
    → after ≡ with_calls desk (calls_of_bits 16 floor 1 word) → IsRead floors words (n + 1) after
read-more floors words n floor desk after word r less most at is ok after-is = rw (after-is, at) (read-on floors words n desk r less most word is ok)

pub read-calls : (floors : ℕ) (words : List ℕ) (n : ℕ) (desk : List Call) → IsRead floors words n desk → AreCalls floors desk
read-calls floors words n desk r c e = let m = r.members c e in let w = r.within in ((m.0, omega (arith, m.1, w)), (m.2, m.3), m.4)

-- what balances with the words balances with the calls read
pub read-balances : (floors : ℕ) (words : List ℕ) (n : ℕ) (desk : List Call) (passes : List Panel) (gathered : List Call) → n ≡ floors → IsRead floors words n desk
    → ((i k : ℕ) → sum_by (λ (p : Panel). times (call (suc i) (suc k)) p.news) passes ≡ times (call (suc i) (suc k)) gathered + bit_at (slice_index words i) k)
    → IsBalanced floors passes gathered desk
read-balances floors words n desk passes gathered whole r all c from to =
    let i : ℕ = c.from - 1 in
    let k : ℕ = c.to - 1 in
    let p : suc i ≡ c.from = omega (arith, from.0) in
    let q : suc k ≡ c.to = omega (arith, to.0) in
    let same : call (suc i) (suc k) ≡ c = (λ j. record { from = p j; to = q j }) in
    let b = r.low i k (omega (arith, p, from.1, whole)) in
    let a = all i k in
    subst (λ (c : Call). sum_by (λ (p : Panel). times c p.news) passes ≡ times c gathered + membership desk c) same (omega (arith, a, b))

-- ROWS OF PANELS

abbrev value-of : Panel → Option Panel → Panel
value-of d None = d
value-of d (Some p) = p

-- a row of which each has its place, and one more
pub panels-more : (f : ℕ → Panel) (xs : List Panel) (x : Panel) → ((k : ℕ) (p : Panel) → slice_get xs k ≡ Some p → p ≡ f k) → x ≡ f (length xs) → (k : ℕ) (p : Panel) → slice_get (xs ++ x ∷ []) k ≡ Some p → p ≡ f k
panels-more f [] x all here zero p e = sym (ap (value-of x) e) ∙ here
panels-more f [] x all here (suc k) p e = absurd (cc)
panels-more f (y ∷ ys) x all here zero p e = all 0 p e
panels-more f (y ∷ ys) x all here (suc k) p e = panels-more (λ k. f (suc k)) ys x (λ k p e. all (suc k) p e) here k p e

-- what holds of all holds of the last and of the others
pub all-last : (P : Panel → Type 0) (xs : List Panel) (x : Panel) → All P (xs ++ x ∷ []) → P x
all-last P [] x all = all 0 x (omega arith)
all-last P (y ∷ ys) x all = all-last P ys x (λ k d low. all (suc k) d (omega (arith, low)))

pub all-others : (P : Panel → Type 0) (xs : List Panel) (x : Panel) → All P (xs ++ x ∷ []) → All P xs
all-others P [] x all k d low = absurd (omega (arith, low))
all-others P (y ∷ ys) x all zero d low = all 0 d (omega arith)
all-others P (y ∷ ys) x all (suc k) d low = all-others P ys x (λ k d low. all (suc k) d (omega (arith, low))) k d (omega (arith, low))
