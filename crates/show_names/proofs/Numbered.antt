-- Lists by name: what is pushed at one name leaves the others.
use Rattle.std.proofs.Common.{◌≡◌, ℕ, zero, suc, ◌+◌, ◌<◌, Bool, true, false, if◌then◌else◌, List, [], ◌∷◌, ◌++◌, length, Option, Some, None, refl, sym, ap, ◌∙◌, subst, arith}
use Rattle.std.proofs.lemmas.List.{append-nil, length_push, length-set, get_or-set_same}
use Rattle.std.proofs.lemmas.Option.{slice_get-get_or}
use Rattle.std.specs.Prelude.{slice_get, slice_set, slice_index_or, bytes_eq}
use Rattle.base_maps.specs.NameMap.{NameMap, get, insert, empty, get-empty}
use Rattle.il_statics.specs.Names.{Spelling}
use Rattle.show_names.specs.Gathered.{items_of, numbered, AreNumbers, items_at, IsPushed}
use Rattle.show_names.proofs.Bytes.{same_bytes, bytes_same}
use Rattle.show_names.proofs.Seen.{get_after-same, get_after-other}

-- LISTS OF LISTS

slice_get_other : {X : Type 0} (xs : List X) (n k : ℕ) (w : X) → (k ≡ n → ⊥) → slice_get (slice_set xs n w) k ≡ slice_get xs k
slice_get_other [] n k w h = refl
slice_get_other (x ∷ xs) zero zero w h = absurd (h refl)
slice_get_other (x ∷ xs) zero (suc k) w h = refl
slice_get_other (x ∷ xs) (suc n) zero w h = refl
slice_get_other (x ∷ xs) (suc n) (suc k) w h = slice_get_other xs n k w (λ e. h (ap suc e))

slice_get_here : {X : Type 0} (xs : List X) (n : ℕ) (w : X) → n < length xs → slice_get (slice_set xs n w) n ≡ Some w
slice_get_here xs n w h = slice_get-get_or (slice_set xs n w) n w (omega (arith, length-set xs n w)) ∙ ap Some (get_or-set_same xs n w w h)

slice_get_before : {X : Type 0} (xs ys : List X) (k : ℕ) → k < length xs → slice_get (xs ++ ys) k ≡ slice_get xs k
slice_get_before [] ys k h = absurd (omega arith)
slice_get_before (x ∷ xs) ys zero h = refl
slice_get_before (x ∷ xs) ys (suc k) h = slice_get_before xs ys k (omega arith)

slice_get_last : {X : Type 0} (xs : List X) (y : X) → slice_get (xs ++ y ∷ []) (length xs) ≡ Some y
slice_get_last [] y = refl
slice_get_last (x ∷ xs) y = slice_get_last xs y

-- a list that is replaced by a longer one
pub pushed_at : {T : Type 0} (lists after : List (List T)) (n : ℕ) (s w : List T) (piece : List T)
    → n < length lists → s ≡ slice_index_or lists n s → w ≡ s ++ piece → after ≡ slice_set lists n w → IsPushed lists n piece after
pushed_at lists after n s w piece h is grown set = record {
  here = ap (λ l. items_of (slice_get l n)) set ∙ ap items_of (slice_get_here lists n w h) ∙ grown ∙ ap (λ o. items_of o ++ piece) (sym (slice_get-get_or lists n s h ∙ ap Some (sym is)));
  others = λ k other. ap (λ l. slice_get l k) set ∙ slice_get_other lists n k w other;
  count = ap length set ∙ length-set lists n w;
}

-- NUMBERS

-- no name has a number at first
pub no_numbers : AreNumbers empty 0
no_numbers = record {
  within = λ name number h. absurd (none_is_some (sym (get-empty name) ∙ h));
  apart = λ name other number h k. absurd (none_is_some (sym (get-empty name) ∙ h));
}
  where
    none_is_some : {number : ℕ} → ◌≡◌ {A = Option ℕ} None (Some number) → ⊥
    none_is_some e = cc

pub first_numbers : {T : Type 0} (m : NameMap ℕ) (lists : List T) → m ≡ empty → lists ≡ [] → AreNumbers m (length lists)
first_numbers m lists none blank = subst (λ l. AreNumbers m (length l)) (sym blank) (subst (λ t. AreNumbers t 0) (sym none) no_numbers)

-- a new name gets the next number
module _ (m : NameMap ℕ) (most : ℕ) (name : Spelling) (sound : AreNumbers m most) where
  within-case : (other : Spelling) (number : ℕ) (b : Bool) → bytes_eq name other ≡ b → get (insert m name most) other ≡ Some number → number < most + 1
  within-case other number true e h =
      let same : Some most ≡ Some number = sym (get_after-same m name most other e) ∙ h in
      let number_is : most ≡ number = cc in
      omega arith
  within-case other number false e h =
      let below = sound.within other number (sym (get_after-other m name most other e) ∙ h) in
      omega arith

  apart-case : (one other : Spelling) (number : ℕ) (b d : Bool) → bytes_eq name one ≡ b → bytes_eq name other ≡ d
      → get (insert m name most) one ≡ Some number → get (insert m name most) other ≡ Some number → one ≡ other
  apart-case one other number true true e f h k = sym (same_bytes name one e) ∙ same_bytes name other f
  apart-case one other number true false e f h k =
      let same : Some most ≡ Some number = sym (get_after-same m name most one e) ∙ h in
      let number_is : most ≡ number = cc in
      let below = sound.within other number (sym (get_after-other m name most other f) ∙ k) in
      absurd (omega arith)
  apart-case one other number false true e f h k =
      let same : Some most ≡ Some number = sym (get_after-same m name most other f) ∙ k in
      let number_is : most ≡ number = cc in
      let below = sound.within one number (sym (get_after-other m name most one e) ∙ h) in
      absurd (omega arith)
  apart-case one other number false false e f h k =
      sound.apart one other number (sym (get_after-other m name most one e) ∙ h) (sym (get_after-other m name most other f) ∙ k)

  next_number : AreNumbers (insert m name most) (most + 1)
  next_number = record {
    within = λ other number h. within-case other number (bytes_eq name other) refl h;
    apart = λ one other number h k. apart-case one other number (bytes_eq name one) (bytes_eq name other) refl refl h k;
  }

-- LISTS OF NAMES

-- the empty list of a new name adds nothing
module _ {T : Type 0} (lists : List (List T)) (m : NameMap ℕ) (name : Spelling) (s : List T) (sound : AreNumbers m (length lists)) (new : get m name ≡ None) (blank : s ≡ []) where
  old_text : (other : Spelling) (o : Option ℕ) → get m other ≡ o → numbered (lists ++ s ∷ []) o ≡ numbered lists o
  old_text other None h = refl
  old_text other (Some number) h = ap items_of (slice_get_before lists (s ∷ []) number (sound.within other number h))

  text-case : (other : Spelling) (b : Bool) → bytes_eq name other ≡ b → numbered (lists ++ s ∷ []) (get (insert m name (length lists)) other) ≡ numbered lists (get m other)
  text-case other true e =
      ap (numbered (lists ++ s ∷ [])) (get_after-same m name (length lists) other e) ∙ ap items_of (slice_get_last lists s) ∙ blank
      ∙ sym (ap (numbered lists) (ap (get m) (sym (same_bytes name other e)) ∙ new))
  text-case other false e = ap (numbered (lists ++ s ∷ [])) (get_after-other m name (length lists) other e) ∙ old_text other (get m other) refl

  same_lists : (other : Spelling) → numbered (lists ++ s ∷ []) (get (insert m name (length lists)) other) ≡ numbered lists (get m other)
  same_lists other = text-case other (bytes_eq name other) refl

pub new_lists : {T : Type 0} (lists after : List (List T)) (m n : NameMap ℕ) (name : Spelling) (s : List T) → AreNumbers m (length lists) → get m name ≡ None → s ≡ []
    → after ≡ lists ++ s ∷ [] → n ≡ insert m name (length lists) → (other : Spelling) → numbered after (get n other) ≡ numbered lists (get m other)
new_lists lists after m n name s sound new blank items numbers other =
    ap (λ l. numbered l (get n other)) items ∙ ap (λ t. numbered (lists ++ s ∷ []) (get t other)) numbers ∙ same_lists lists m name s sound new blank other

pub new_numbers : {T : Type 0} (lists after : List (List T)) (m n : NameMap ℕ) (name : Spelling) (s : List T) → AreNumbers m (length lists)
    → after ≡ lists ++ s ∷ [] → n ≡ insert m name (length lists) → AreNumbers n (length after)
new_numbers lists after m n name s sound items numbers =
    subst (λ l. AreNumbers n (length l)) (sym items)
    (subst (λ t. AreNumbers t (length (lists ++ s ∷ []))) (sym numbers)
    (subst (λ most. AreNumbers (insert m name (length lists)) most) (sym (length_push lists s)) (next_number m (length lists) name sound)))

pub new_found : (m n : NameMap ℕ) (name : Spelling) (most : ℕ) → n ≡ insert m name most → get n name ≡ Some most
new_found m n name most numbers = ap (λ t. get t name) numbers ∙ get_after-same m name most name (bytes_same name)

-- a piece that is pushed at a name's number
module _ {T : Type 0} (lists after : List (List T)) (m : NameMap ℕ) (name : Spelling) (number : ℕ) (piece : List T) (sound : AreNumbers m (length lists)) (found : get m name ≡ Some number) (pushed : IsPushed lists number piece after) where
  pushed-case : (other : Spelling) (o : Option ℕ) (b : Bool) → get m other ≡ o → bytes_eq name other ≡ b → numbered after o ≡ numbered lists o ++ (if b then piece else [])
  pushed-case other None true h e =
      let none : ◌≡◌ {A = Option ℕ} None (Some number) = sym h ∙ ap (get m) (sym (same_bytes name other e)) ∙ found in
      absurd cc
  pushed-case other None false h e = refl
  pushed-case other (Some k) true h e =
      let one : Some k ≡ Some number = sym h ∙ ap (get m) (sym (same_bytes name other e)) ∙ found in
      let number_is : k ≡ number = cc in
      ap (λ i. items_of (slice_get after i)) number_is ∙ pushed.here ∙ ap (λ i. items_of (slice_get lists i) ++ piece) (sym number_is)
  pushed-case other (Some k) false h e =
      let differs : k ≡ number → ⊥ = λ i. false_is_true (sym e ∙ ap (bytes_eq name) (sound.apart other name k h (found ∙ ap Some (sym i))) ∙ bytes_same name) in
      ap items_of (pushed.others k differs) ∙ sym (append-nil _)
    where
      false_is_true : false ≡ true → ⊥
      false_is_true i = cc

pub pushed_lists : {T : Type 0} (lists after : List (List T)) (m n : NameMap ℕ) (name : Spelling) (number : ℕ) (piece : List T) → AreNumbers m (length lists) → get m name ≡ Some number → IsPushed lists number piece after → n ≡ m
    → (other : Spelling) → numbered after (get n other) ≡ numbered lists (get m other) ++ items_at name piece other
pushed_lists lists after m n name number piece sound found pushed numbers other =
    ap (λ t. numbered after (get t other)) numbers ∙ pushed-case lists after m name number piece sound found pushed other (get m other) (bytes_eq name other) refl refl

pub pushed_numbers : {T : Type 0} (lists after : List (List T)) (m n : NameMap ℕ) (number : ℕ) (piece : List T) → AreNumbers m (length lists) → IsPushed lists number piece after → n ≡ m → AreNumbers n (length after)
pushed_numbers lists after m n number piece sound pushed numbers = subst (λ t. AreNumbers t (length after)) (sym numbers) (subst (λ most. AreNumbers m most) (sym pushed.count) sound)
