-- Sets of calls by their members, and what a gathering makes of the hand.
use Rattle.std.proofs.Common.{◌≡◌, ◌≢◌, ◌⊎◌, ⊎_elim, inl, inr, ℕ, ◌+◌, ◌-◌, ◌/◌, ◌%◌, ◌<◌, ◌≤◌, ◌^◌, Bool, true, false, ◌||◌, ◌&&◌, not, List, [], ◌∷◌, ◌++◌, refl, sym, ap, ◌∙◌, arith, set, subst, zero, suc, eqb, eq-eqb, ne_eqb, drop}
use Rattle.std.specs.Prelude.{◌==◌, if◌then◌else◌}
use Rattle.std.specs.Int.{bit_at}
use Rattle.std.proofs.lemmas.Bool.{cond_both, cond-true, cond-false, and_right, cases_Bool, cases_lt, eqb-true}
use Rattle.std.proofs.lemmas.Nat.Bits.{bit_at_above}
use Rattle.std.proofs.lemmas.List.{append-nil, append_assoc}
use Rattle.group_spec.specs.declared.calls.Call.{Call}
use Rattle.group_spec.specs.Hands.{same_call, is_before, has_call, with_call, with_calls, is_from, has_from, calls_from, calls_of_bits, mask_of}
use Rattle.group_spec.proofs.Hands.{has_from_by_mask}
use Rattle.group_spec.specs.Words.{Every, every_bits}
use Rattle.threads_desk.specs.Account.{call, times, membership, IsWord}
use Rattle.threads_desk.specs.Passes.{Holding, Gathered, IsFloorOf, AreCalls, IsPart, IsAccounted, entered}
use Rattle.threads_desk.proofs.Sums.{times-append, times-lacks, times-bits}
use Rattle.group_spec.proofs.Laws.{both_true as both}

-- TRUTH

or-again : (x r : Bool) → (x || r) ≡ (x || (x || r))
or-again true r = refl
or-again false r = refl

or-swap : (x y z : Bool) → (x || (y || z)) ≡ (y || (x || z))
or-swap true true z = refl
or-swap true false z = refl
or-swap false true z = refl
or-swap false false z = refl

or-groups : (x y z : Bool) → (x || (y || z)) ≡ ((y || x) || z)
or-groups true true z = refl
or-groups true false z = refl
or-groups false true z = refl
or-groups false false z = refl

pub either : (x y : Bool) → (x || y) ≡ true → (x ≡ true) ⊎ (y ≡ true)
either true y e = inl refl
either false y e = inr e

or-with : (x y : Bool) → y ≡ true → (x || y) ≡ true
or-with true y e = refl
or-with false y e = e

-- one of two that are not both
count-or : (x y : Bool) → (x ≡ true → y ≡ false) → (if x || y then 1 else 0) ≡ (if x then 1 else 0) + (if y then 1 else 0)
count-or true true h = absurd (let e = h refl in cc)
count-or true false h = omega arith
count-or false true h = omega arith
count-or false false h = omega arith

is-counted : (b : Bool) → b ≡ true → ◌≡◌ {A = ℕ} (if b then 1 else 0) 1
is-counted b e = ap (λ (b : Bool). if b then 1 else 0) e

-- MEMBERS

pub same-is : (a b : Call) → same_call a b ≡ true → a ≡ b
same-is a b e =
    let h = both (a.from == b.from) (a.to == b.to) e in
    let p = eqb-true a.from b.from h.0 in
    let q = eqb-true a.to b.to h.1 in
    λ i. record { from = p i; to = q i }

has-with : (calls : List Call) (added wanted : Call) → has_call (with_call calls added) wanted ≡ (same_call added wanted || has_call calls wanted)
has-with [] added wanted = refl
has-with (member ∷ calls) added wanted =
    elim (cases_Bool (is_before added member)) [
      | inl e ↦ ap (λ set. has_call set wanted) (cond-true _ (added ∷ member ∷ calls) _ e)
      | inr e ↦
          elim (cases_Bool (same_call member added)) [
            | inl s ↦
                ap (λ set. has_call set wanted) (cond-false _ (added ∷ member ∷ calls) _ e ∙ cond-true _ (member ∷ calls) _ s)
                ∙ ap (λ (c : Call). same_call c wanted || has_call calls wanted) (same-is member added s)
                ∙ or-again (same_call added wanted) (has_call calls wanted)
                ∙ ap (λ (c : Call). same_call added wanted || (same_call c wanted || has_call calls wanted)) (sym (same-is member added s))
            | inr s ↦
                ap (λ set. has_call set wanted) (cond-false _ (added ∷ member ∷ calls) _ e ∙ cond-false _ (member ∷ calls) (member ∷ with_call calls added) s)
                ∙ ap (λ b. same_call member wanted || b) (has-with calls added wanted)
                ∙ or-swap (same_call member wanted) (same_call added wanted) (has_call calls wanted)
          ]
    ]

pub has-with-all : (calls added : List Call) (wanted : Call) → has_call (with_calls calls added) wanted ≡ (has_call added wanted || has_call calls wanted)
has-with-all calls [] wanted = refl
has-with-all calls (one ∷ added) wanted =
    has-with-all (with_call calls one) added wanted ∙ ap (λ b. has_call added wanted || b) (has-with calls one wanted)
    ∙ or-groups (has_call added wanted) (same_call one wanted) (has_call calls wanted)

-- what holds of each of these holds of a member
has-every : (P : Call → Type 0) (calls : List Call) (wanted : Call) → Every P calls → has_call calls wanted ≡ true → P wanted
has-every P [] wanted all e = absurd (cc)
has-every P (member ∷ calls) wanted all e =
    ⊎_elim (λ s. subst P (same-is member wanted s) all.0) (λ h. has-every P calls wanted all.1 h) (either (same_call member wanted) (has_call calls wanted) e)

-- a member is from its floor
has-from : (calls : List Call) (wanted : Call) → has_call calls wanted ≡ true → has_from calls wanted.from ≡ true
has-from [] wanted e = absurd (cc)
has-from (member ∷ calls) wanted e =
    ⊎_elim
    (λ s. ap (λ b. b || has_from calls wanted.from) (eq-eqb member.from wanted.from (ap (λ (c : Call). c.from) (same-is member wanted s))))
    (λ h. or-with (is_from wanted.from member) (has_from calls wanted.from) (has-from calls wanted h))
    (either (same_call member wanted) (has_call calls wanted) e)

-- a call from another floor doesn't change the calls from this one
from-with : (calls : List Call) (added : Call) (floor : ℕ) → is_from floor added ≡ false → calls_from floor (with_call calls added) ≡ calls_from floor calls
from-with [] added floor other = cond-false _ (added ∷ []) [] other
from-with (member ∷ calls) added floor other =
    elim (cases_Bool (is_before added member)) [
      | inl e ↦ ap (calls_from floor) (cond-true _ (added ∷ member ∷ calls) _ e) ∙ cond-false _ (added ∷ calls_from floor (member ∷ calls)) (calls_from floor (member ∷ calls)) other
      | inr e ↦
          elim (cases_Bool (same_call member added)) [
            | inl s ↦ ap (calls_from floor) (cond-false _ (added ∷ member ∷ calls) _ e ∙ cond-true _ (member ∷ calls) _ s)
            | inr s ↦
                ap (calls_from floor) (cond-false _ (added ∷ member ∷ calls) _ e ∙ cond-false _ (member ∷ calls) (member ∷ with_call calls added) s)
                ∙ ap (λ rest. if is_from floor member then member ∷ rest else rest) (from-with calls added floor other)
          ]
    ]

from-with-all : (calls added : List Call) (floor : ℕ) → Every (λ c. is_from floor c ≡ false) added → calls_from floor (with_calls calls added) ≡ calls_from floor calls
from-with-all calls [] floor all = refl
from-with-all calls (one ∷ added) floor all = from-with-all (with_call calls one) added floor all.1 ∙ from-with calls one floor all.0

-- calls that are none of the members are more members
pub members-more : (hand added : List Call) → ((c : Call) → has_call added c ≡ true → has_call hand c ≡ false) → (c : Call) → membership (with_calls hand added) c ≡ membership added c + membership hand c
members-more hand added apart c = ap (λ (b : Bool). if b then 1 else 0) (has-with-all hand added c) ∙ count-or (has_call added c) (has_call hand c) (apart c)

-- THE CALLS OF A WORD

-- each is there once
pub times-member : (count from to word : ℕ) (wanted : Call) → times wanted (calls_of_bits count from to word) ≡ membership (calls_of_bits count from to word) wanted
unfolding calls_of_bits
times-member zero from to word wanted = refl
times-member (suc count) from to word wanted =
    let rest = times-member count from (to + 1) (word / 2) wanted in
    let more = calls_of_bits count from (to + 1) (word / 2) in
    cond_both (eqb (word % 2) 1) _ _ (λ calls. times wanted calls ≡ membership calls wanted)
    (λ e.
    elim (cases_Bool (same_call (call from to) wanted)) [
      | inl s ↦
          let same = same-is (call from to) wanted s in
          let floor : to ≡ wanted.to = ap (λ (c : Call). c.to) same in
          let none = times-lacks more wanted (every_bits (λ member. same_call member wanted ≡ false) count from (to + 1) (word / 2) (λ k above. and_right _ _ (ne_eqb k wanted.to (λ e. omega arith)))) in
          ap (λ (b : Bool). (if b then 1 else 0) + times wanted more) s ∙ omega (arith, none) ∙ sym (ap (λ (b : Bool). if b || has_call more wanted then 1 else 0) s)
      | inr s ↦
          ap (λ (b : Bool). (if b then 1 else 0) + times wanted more) s ∙ omega (arith, rest) ∙ sym (ap (λ (b : Bool). if b || has_call more wanted then 1 else 0) s)
    ])
    (λ e. rest)

-- a call of a word is from its floor to another floor of the desk
pub word-calls : (floors from word : ℕ) (wanted : Call) → floors ≤ 16 → IsFloorOf floors from → word < 2 ^ 16 → IsWord floors (from - 1) word → has_call (calls_of_bits 16 from 1 word) wanted ≡ true
    → (wanted.from ≡ from) × (1 ≤ wanted.to) × (wanted.to ≤ floors) × (from ≢ wanted.to)
word-calls floors from word wanted most floor small ok has =
    let own : (wanted.from ≡ from) × (1 ≤ wanted.to) = has-every (λ c. (c.from ≡ from) × (1 ≤ c.to)) (calls_of_bits 16 from 1 word) wanted (every_bits (λ c. (c.from ≡ from) × (1 ≤ c.to)) 16 from 1 word (λ k above. (refl, above))) has in
    let k : ℕ = wanted.to - 1 in
    let to-is : 1 + k ≡ wanted.to = omega (arith, own.1) in
    let wanted-is : call from (1 + k) ≡ wanted = (λ i. record { from = sym own.0 i; to = to-is i }) in
    let there : bit_at word k ≡ 1 =
    sym (times-bits 16 from 1 word k small) ∙ ap (λ c. times c (calls_of_bits 16 from 1 word)) wanted-is ∙ times-member 16 from 1 word wanted ∙ is-counted (has_call (calls_of_bits 16 from 1 word) wanted) has in (
      own.0,
      own.1,
      ⊎_elim (λ (low : k < floors). omega (arith, low, to-is)) (λ (high : floors ≤ k). absurd (let z = bit_at_above word floors k ok.0 high in omega (arith, z, there))) (cases_lt k floors),
      λ same. let here : k ≡ from - 1 = omega (arith, same) in let z : bit_at word k ≡ 0 = ap (bit_at word) here ∙ ok.1 in absurd (omega (arith, z, there)),
    )

-- A GATHERING

module _ (hand : List Call) (from word : ℕ) (free : has_from hand from ≡ false) where
  abbrev its-calls : List Call
  its-calls = calls_of_bits 16 from 1 word

  abbrev after : List Call
  after = with_calls hand its-calls

  all-from : Every (λ c. c.from ≡ from) its-calls
  all-from = every_bits (λ c. c.from ≡ from) 16 from 1 word (λ k above. refl)

  apart : (c : Call) → has_call its-calls c ≡ true → has_call hand c ≡ false
  apart c has =
      let own = has-every (λ c. c.from ≡ from) its-calls c all-from has in
      elim (cases_Bool (has_call hand c)) [
        | inl e ↦ absurd (let there = sym (ap (has_from hand) own) ∙ has-from hand c e in let none = free in cc)
        | inr e ↦ e
      ]

  member-more : (c : Call) → membership after c ≡ times c its-calls + membership hand c
  member-more c =
      let n = times-member 16 from 1 word c in
      let m = members-more hand its-calls apart c in
      omega (arith, m, n)

  still-has : IsPart hand after
  still-has c e = has-with-all hand its-calls c ∙ or-with (has_call its-calls c) (has_call hand c) e

  still-held : (floor : ℕ) → has_from hand floor ≡ true → calls_from floor after ≡ calls_from floor hand
  still-held floor some =
      let other : from ≢ floor = λ e. (let there = ap (has_from hand) e ∙ some in let none = free in absurd (cc)) in
      from-with-all hand its-calls floor (every_bits (λ c. is_from floor c ≡ false) 16 from 1 word (λ k above. ne_eqb from floor other))

  still-calls : (floors : ℕ) → floors ≤ 16 → IsFloorOf floors from → word < 2 ^ 16 → IsWord floors (from - 1) word → AreCalls floors hand → AreCalls floors after
  still-calls floors most floor small ok before c e =
      ⊎_elim
      (λ (has : has_call its-calls c ≡ true).
      let is = word-calls floors from word c most floor small ok has in
      (rw is.0 floor, (is.1, is.2), λ same. is.3 (sym is.0 ∙ same)))
      (λ (has : has_call hand c ≡ true). before c has)
      (either (has_call its-calls c) (has_call hand c) (sym (has-with-all hand its-calls c) ∙ e))

pub gathers : (h k : Holding) (from word : ℕ) → k.table ≡ h.table → k.floors ≡ h.floors → k.hand ≡ with_calls h.hand (calls_of_bits 16 from 1 word) → k.gathered ≡ h.gathered ++ calls_of_bits 16 from 1 word
    → has_from h.hand from ≡ false → Gathered h k
gathers h k from word table floors hand taken free = record {
  table = table;
  floors = floors;
  counted = (calls_of_bits 16 from 1 word, taken);
  pairs =
      λ c.
      let m = member-more h.hand from word free c in
      let t = times-append c h.gathered (calls_of_bits 16 from 1 word) in
      rw (hand, taken) (omega (arith, m, t));
  kept = rw hand (still-has h.hand from word free);
  held = rw hand (still-held h.hand from word free);
}

pub gathered-accounts : (h k : Holding) → Gathered h k → IsAccounted h.gathered h.hand → IsAccounted k.gathered k.hand
gathered-accounts h k g ok c = let p = g.pairs c in let q = ok c in omega arith

pub gathered-calls : (floors from word : ℕ) (hand after : List Call) → after ≡ with_calls hand (calls_of_bits 16 from 1 word) → has_from hand from ≡ false → floors ≤ 16 → IsFloorOf floors from → word < 2 ^ 16 → IsWord floors (from - 1) word → AreCalls floors hand
    → AreCalls floors after
gathered-calls floors from word hand after is free most floor small ok before = rw is (still-calls hand from word free floors most floor small ok before)

-- a gathering of nothing, and one after another
pub gathered-none : (h : Holding) → Gathered h h
gathered-none h = record {
  table = refl;
  floors = refl;
  counted = ([], sym (append-nil h.gathered));
  pairs = λ c. refl;
  kept = λ c e. e;
  held = λ from some. refl;
}

-- a floor that is held is held on
from-kept : (h k : Holding) → Gathered h k → (floor : ℕ) → has_from h.hand floor ≡ true → has_from k.hand floor ≡ true
from-kept h k g floor some = has_from_by_mask k.hand floor ∙ ap (λ set. not (eqb (mask_of set) 0)) (g.held floor some) ∙ sym (has_from_by_mask h.hand floor) ∙ some

pub gathered-on : (h k l : Holding) → Gathered h k → Gathered k l → Gathered h l
gathered-on h k l f g = record {
  table = g.table ∙ f.table;
  floors = g.floors ∙ f.floors;
  counted = (f.counted.0 ++ g.counted.0, g.counted.1 ∙ ap (λ xs. xs ++ g.counted.0) f.counted.1 ∙ append_assoc h.gathered f.counted.0 g.counted.0);
  pairs = λ c. let p = f.pairs c in let q = g.pairs c in omega arith;
  kept = λ c e. g.kept c (f.kept c e);
  held = λ from some. g.held from (from-kept h k f from some) ∙ f.held from some;
}

-- the calls after the first ones are a part of the set
pub rest-is-part : (count : ℕ) (set : List Call) → IsPart (drop count set) set
rest-is-part zero set c e = e
rest-is-part (suc count) [] c e = e
rest-is-part (suc count) (member ∷ set) c e = or-with (same_call member c) (has_call set c) (rest-is-part count set c e)

-- a part has no more members
member-less : (part set : List Call) (c : Call) → IsPart part set → membership part c ≤ membership set c
member-less part set c of =
    elim (cases_Bool (has_call part c)) [
      | inl e ↦ let p = is-counted (has_call part c) e in let q = is-counted (has_call set c) (of c e) in omega (arith, p, q)
      | inr e ↦ let p : membership part c ≡ 0 = ap (λ (b : Bool). if b then 1 else 0) e in omega (arith, p)
    ]

-- a call that leaves the hand, and no other, is entered once more
pub entered-by-keep : (h : Holding) (part : List Call) → IsAccounted h.gathered h.hand → IsPart part h.hand → (c : Call) → entered (record h { hand = part }) c + membership part c ≡ entered h c + membership h.hand c
entered-by-keep h part ok of c = let less = member-less part h.hand c of in let all = ok c in omega (arith, less, all)
