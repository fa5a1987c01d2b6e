-- Each step keeps the account.
use Rattle.std.proofs.Common.{◌≡◌, ◌≢◌, ⊎_elim, ℕ, ◌+◌, ◌/◌, ◌<◌, ◌≤◌, ◌^◌, Bool, true, false, List, [], ◌∷◌, ◌++◌, length, refl, sym, ap, ◌∙◌, arith, set, subst, get_or, zero, suc}
use Rattle.std.specs.Prelude.{◌==◌, if◌then◌else◌, slice_index, sum_by, bit_or, bit_and}
use Rattle.std.specs.Int.{bit_at}
use Rattle.std.proofs.lemmas.List.{length-set}
use Rattle.std.proofs.lemmas.Bool.Decides.{nat_tests}
use Rattle.std.proofs.lemmas.Nat.Bits.{bit_at-pow_same, bit_at-pow_other, bit_at-zero, bit_at_or}
use Rattle.std.proofs.lemmas.Nat.{or_lt, pow_pos}
use Rattle.std.proofs.Math.Pow.{pow-lt, pow_mono}
use mathlib.Core.Option.{none, some}
use lib.ListN.{get_elem?}
use Rattle.atomic_table.specs.Table.{State, step, stepped, Allows, Act, keeps, Valid, carried_after}
use Rattle.atomic_table.proofs.Lists.{at_set, set_again, at_index}
use Rattle.group_spec.specs.declared.calls.Call.{Call}
use Rattle.group_spec.specs.Hands.{calls_of_bits}
use Rattle.threads_desk.specs.declared.rule.View.{View}
use Rattle.threads_desk.specs.declared.rule.View.TheVariants.{OfPanel, OfHand, Spent}
use Rattle.threads_desk.specs.declared.rule.Size.{Size}
use Rattle.threads_desk.specs.Account.{call, times, news_of, pressed_of, gathered_of, is_out, has_number, Seats, IsPanel, IsHand, Fits, IsWord, Accounts, Presses, Gathers, Looks}
use Rattle.threads_desk.proofs.Sums.{sum-set, sum-only, times-append, times-same, times-other-from, times-other-to, times-bits, times-bits-other, or-new, or-old, word-at, free-bit, taken-bit}

-- WORDS

-- what holds of each word holds after a write of a word of which it holds
each-word-at : (P : ℕ → ℕ → Type 0) (words : List ℕ) (i x : ℕ) → i < length words → P i x → ((j : ℕ) → P j (slice_index words j)) → (j : ℕ) (b : Bool) → (i == j) ≡ b → P j (slice_index (set words i x) j)
each-word-at P words i x low here all j true is =
    let same : i ≡ j = grind (arith, nat_tests) in
    subst (P j) (sym (word-at words i x j true is low)) (subst (λ n. P n x) same here)
each-word-at P words i x low here all j false is = subst (P j) (sym (word-at words i x j false is low)) (all j)

each-word : (P : ℕ → ℕ → Type 0) (words : List ℕ) (i x : ℕ) → i < length words → P i x → ((j : ℕ) → P j (slice_index words j)) → (j : ℕ) → P j (slice_index (set words i x) j)
each-word P words i x low here all j = each-word-at P words i x low here all j (i == j) refl

-- a bit of another floor comes in
word-or : (floors i t word : ℕ) → t < floors → t ≢ i → IsWord floors i word → IsWord floors i (bit_or word (2 ^ t))
word-or floors i t word small apart ok =
    let e = bit_at_or word (2 ^ t) i in
    let z = bit_at-pow_other t i (λ s. apart (sym s)) in
    let free = ok.1 in
    (or_lt floors word (2 ^ t) ok.0 (pow-lt small), omega arith)

-- the bits after a bit came in that was 0
bit-more : (k i j to : ℕ) (words : List ℕ) (b : Bool) → (i == j) ≡ b → i < length words → bit_at (bit_or (slice_index words i) k) to ≡ bit_at (slice_index words i) to + bit_at k to
    → bit_at (slice_index (set words i (bit_or (slice_index words i) k)) j) to ≡ bit_at (slice_index words j) to + (if b then bit_at k to else 0)
bit-more k i j to words true is low more =
    let same : i ≡ j = grind (arith, nat_tests) in
    let e = word-at words i (bit_or (slice_index words i) k) j true is low in
    let there : slice_index words j ≡ slice_index words i = ap (slice_index words) (sym same) in
    rw (e, there) more
bit-more k i j to words false is low more =
    let e = word-at words i (bit_or (slice_index words i) k) j false is low in rw e (omega arith)

-- the bits after a word was taken
bit-none : (i j to : ℕ) (words : List ℕ) (b : Bool) → (i == j) ≡ b → i < length words
    → bit_at (slice_index (set words i 0) j) to + (if b then bit_at (slice_index words i) to else 0) ≡ bit_at (slice_index words j) to
bit-none i j to words true is low =
    let same : i ≡ j = grind (arith, nat_tests) in
    let e = ap (λ n. bit_at n to) (word-at words i 0 j true is low) in
    let there = ap (λ n. bit_at (slice_index words n) to) same in
    let z = bit_at-zero to in omega arith
bit-none i j to words false is low = let e = ap (λ n. bit_at n to) (word-at words i 0 j false is low) in omega arith

-- COUNTS

times-one-at : (t k from : ℕ) (b : Bool) → (t == k) ≡ b → times (call from (suc k)) (call from (suc t) ∷ []) ≡ bit_at (2 ^ t) k
times-one-at t k from true is =
    let same : t ≡ k = grind (arith, nat_tests) in
    rw (← same) (times-same from (suc t) ∙ sym (bit_at-pow_same t))
times-one-at t k from false is =
    let other : t ≢ k = grind (arith, nat_tests) in
    times-other-to from (suc t) from (suc k) (λ e. other (omega arith)) ∙ sym (bit_at-pow_other t k (λ e. other (sym e)))

-- one call is one bit
times-one : (floor i t j k : ℕ) → floor ≡ suc i → (b : Bool) → (i == j) ≡ b → times (call (suc j) (suc k)) (call floor (suc t) ∷ []) ≡ (if b then bit_at (2 ^ t) k else 0)
times-one floor i t j k own true is =
    let same : floor ≡ suc j = (let e : i ≡ j = grind (arith, nat_tests) in omega arith) in
    ap (λ f. times (call (suc j) (suc k)) (call f (suc t) ∷ [])) same ∙ times-one-at t k (suc j) (t == k) refl
times-one floor i t j k own false is =
    let other : i ≢ j = grind (arith, nat_tests) in
    times-other-from floor (suc t) (suc j) (suc k) (λ e. other (omega arith))

-- a word of few floors
pub below-16 : (floors word : ℕ) → floors ≤ 16 → word < 2 ^ floors → word < 2 ^ 16
below-16 floors word le h = let most = pow_mono le in omega (arith, most, h)

-- the calls of a word are its bits
pub times-word : (i j k word : ℕ) → word < 2 ^ 16 → (b : Bool) → (i == j) ≡ b → times (call (suc j) (suc k)) (calls_of_bits 16 (suc i) 1 word) ≡ (if b then bit_at word k else 0)
times-word i j k word small true is =
    let same : i ≡ j = grind (arith, nat_tests) in
    let floor : suc k ≡ 1 + k = omega arith in
    ap (λ f. times (call (suc j) (suc k)) (calls_of_bits 16 (suc f) 1 word)) same ∙ ap (λ t. times (call (suc j) t) (calls_of_bits 16 (suc j) 1 word)) floor ∙ times-bits 16 (suc j) 1 word k small
times-word i j k word small false is =
    let other : i ≢ j = grind (arith, nat_tests) in
    times-bits-other 16 (suc i) 1 word (call (suc j) (suc k)) (λ e. other (omega arith))

-- SEATS

-- a step of one seat leaves the others
fit-set : (size : Size) (z : Seats) (views : List View) (id : ℕ) (w : View) → ((j : ℕ) (u : View) → get_elem? views j ≡ some u → Fits size z j u) → Fits size z id w
    → (j : ℕ) (u : View) → get_elem? (set views id w) j ≡ some u → Fits size z j u
fit-set size z views id w all here j u e =
    ⊎_elim (λ (t : (j ≡ id) × (w ≡ u)). rw (t.0, ← t.1) here) (λ (t : (j ≢ id) × (get_elem? views j ≡ some u)). all j u t.1) (at_set views id j w u e)

any-default : (xs : List ℕ) (i a b : ℕ) → i < length xs → get_or xs i a ≡ get_or xs i b
any-default [] i a b low = absurd (omega arith)
any-default (x ∷ xs) zero a b low = refl
any-default (x ∷ xs) (suc i) a b low = any-default xs i a b (omega arith)

-- a write of what is there already
same-words : (words : List ℕ) (i : ℕ) (x : ℕ) → i < length words → x ≡ slice_index words i → set words i x ≡ words
same-words words i x low e = set_again words i x (at_index words i x low (e ∙ any-default words i 0 x low))

state-is : (s : State ℕ View) (words : List ℕ) (views : List View) → words ≡ s.words → views ≡ s.views → record { words = words; homes = s.homes; views = views } ≡ s
state-is s words views p q = rw (p, q) refl

-- PRESSES

-- a bit that is set counts for itself alone
bit-there : (t k word : ℕ) (b : Bool) → (t == k) ≡ b → bit_at word t ≡ 1 → bit_at (2 ^ t) k ≤ bit_at word k
bit-there t k word true is one =
    let same : t ≡ k = grind (arith, nat_tests) in
    rw (← same) (let p = bit_at-pow_same t in omega (arith, p, one))
bit-there t k word false is one =
    let other : t ≢ k = grind (arith, nat_tests) in
    let z = bit_at-pow_other t k (λ e. other (sym e)) in omega (arith, z)

there-at : (i j t k : ℕ) (words : List ℕ) (b : Bool) → (i == j) ≡ b → bit_at (slice_index words i) t ≡ 1 → (if b then bit_at (2 ^ t) k else 0) ≤ bit_at (slice_index words j) k
there-at i j t k words true is one =
    let same : i ≡ j = grind (arith, nat_tests) in
    subst (λ n. bit_at (2 ^ t) k ≤ bit_at (slice_index words n) k) same (bit-there t k (slice_index words i) (t == k) refl one)
there-at i j t k words false is one = omega arith

module _ (size : Size) (i t id panels number floor : ℕ) (news pressed : List Call) (c : List (ℕ × ℕ)) (s : State ℕ View)
    (a : Accounts size s) (at : get_elem? s.views id ≡ some (OfPanel panels number floor news pressed)) (own : floor ≡ suc i) (low : i < size.floors) (small : t < size.floors) (apart : t ≢ i) where
  abbrev new-view : View
  new-view = OfPanel panels number floor (news ++ call floor (suc t) ∷ []) (pressed ++ call floor (suc t) ∷ [])

  -- a press that is New
  pressed-new : bit_at (slice_index s.words i) t ≡ 0 → Accounts size (stepped s i (bit_or (slice_index s.words i) (2 ^ t)) id c new-view keeps)
  pressed-new free =
      let v = OfPanel panels number floor news pressed in
      let w = new-view in
      let word = slice_index s.words i in
      let inside : i < length s.words = omega (arith, a.words) in
      let mine : IsPanel size a.seats id panels number floor news = a.fit id v at in
      record {
        words = length-set s.words i (bit_or word (2 ^ t)) ∙ a.words;
        account =
            λ j k.
            let f = λ (u : View). times (call (suc j) (suc k)) (news_of u) in
            let g = λ (u : View). times (call (suc j) (suc k)) (gathered_of u) in
            let p = sum-set f s.views id v w at in
            let q = sum-set g s.views id v w at in
            let r = times-append (call (suc j) (suc k)) news (call floor (suc t) ∷ []) in
            let one = times-one floor i t j k own (i == j) refl in
            let h = a.account j k in
            let b = bit-more (2 ^ t) i j k s.words (i == j) refl inside (or-new word t k free) in
            omega arith;
        made =
            λ j k none.
            let f = λ (u : View). times (call (suc j) (suc k)) (news_of u) in
            let g = λ (u : View). times (call (suc j) (suc k)) (pressed_of u) in
            let p = sum-set f s.views id v w at in
            let q = sum-set g s.views id v w at in
            let r = times-append (call (suc j) (suc k)) news (call floor (suc t) ∷ []) in
            let r' = times-append (call (suc j) (suc k)) pressed (call floor (suc t) ∷ []) in
            let before : sum_by f s.views ≡ 0 = omega (arith, none) in
            let h = a.made j k before in
            omega arith;
        are_words = each-word (IsWord size.floors) s.words i (bit_or word (2 ^ t)) inside (word-or size.floors i t word small apart (a.are_words i)) a.are_words;
        seats = a.seats;
        fit = fit-set size a.seats s.views id w a.fit record {
          panels_are = mine.panels_are;
          seat_is = mine.seat_is;
          made = mine.made;
          out = mine.out;
          floor_is = mine.floor_is;
          own_floor =
              λ j k other.
              let r = times-append (call (suc j) (suc k)) news (call floor (suc t) ∷ []) in
              let h = mine.own_floor j k other in
              let z = times-other-from floor (suc t) (suc j) (suc k) (λ e. other (sym e)) in
              omega arith;
        };
        out = let p = sum-set is_out s.views id v w at in let h = a.out in omega arith;
      }

  -- of the only panel of a floor no other seat knows of New answers
  not-mine : size.panels ≡ 1 → (j : ℕ) (u : View) → Fits size a.seats j u → j ≢ id → times (call (suc i) (suc t)) (news_of u) ≡ 0
  not-mine one j (OfPanel panels' number' floor' news' pressed') f other = not-mine-at (floor' == suc i) refl
    where
      not-mine-at : (b : Bool) → (floor' == suc i) ≡ b → times (call (suc i) (suc t)) news' ≡ 0
      not-mine-at true is =
          let mine : IsPanel size a.seats id panels number floor news = a.fit id (OfPanel panels number floor news pressed) at in
          let here : floor' ≡ suc i = grind (arith, nat_tests) in
          let mine-is : floor ≡ number / 1 + 1 = mine.floor_is ∙ ap (λ p. number / p + 1) one in
          let its : floor' ≡ number' / 1 + 1 = f.floor_is ∙ ap (λ p. number' / p + 1) one in
          let same : number' ≡ number = omega arith in
          absurd (other (sym f.seat_is ∙ ap a.seats.seat same ∙ mine.seat_is))
      not-mine-at false is =
          let differs : floor' ≢ suc i = grind (arith, nat_tests) in f.own_floor i t (λ e. differs (sym e))
  not-mine one j (OfHand floors' panels' gathered' made' back' news' pressed') f other =
      let mine : IsPanel size a.seats id panels number floor news = a.fit id (OfPanel panels number floor news pressed) at in
      let mine-is : floor ≡ number / 1 + 1 = mine.floor_is ∙ ap (λ p. number / p + 1) one in
      let same : i ≡ number = omega arith in
      f.came_back one i t (ap (λ b. has_number b i) f.back_is ∙ ap (has_number a.seats.back) same ∙ mine.out)
  not-mine one j Spent f other = refl

  -- the only panel of a floor was answered New for each call of it that is on the desk
  had-new : panels ≡ 1 → bit_at (slice_index s.words i) t ≡ 1 → 0 < times (call floor (suc t)) news
  had-new single there =
      let mine : IsPanel size a.seats id panels number floor news = a.fit id (OfPanel panels number floor news pressed) at in
      let f = λ (u : View). times (call (suc i) (suc t)) (news_of u) in
      let only = sum-only f s.views id (OfPanel panels number floor news pressed) at (λ j u here other. not-mine (sym mine.panels_are ∙ single) j u (a.fit j u here) other) in
      let h = a.account i t in
      let e = ap (λ n. times (call n (suc t)) news) own in
      omega arith

  abbrev again-view : View
  again-view = OfPanel panels number floor news (pressed ++ call floor (suc t) ∷ [])

  -- a press of what is on the desk
  pressed-again : bit_at (slice_index s.words i) t ≡ 1 → Accounts size (record { words = s.words; homes = s.homes; views = set s.views id again-view })
  pressed-again taken =
      let v = OfPanel panels number floor news pressed in
      let w = again-view in
      let mine : IsPanel size a.seats id panels number floor news = a.fit id v at in
      record {
        words = a.words;
        account =
            λ j k.
            let f = λ (u : View). times (call (suc j) (suc k)) (news_of u) in
            let g = λ (u : View). times (call (suc j) (suc k)) (gathered_of u) in
            let p = sum-set f s.views id v w at in
            let q = sum-set g s.views id v w at in
            let h = a.account j k in
            omega arith;
        made =
            λ j k none.
            let f = λ (u : View). times (call (suc j) (suc k)) (news_of u) in
            let g = λ (u : View). times (call (suc j) (suc k)) (pressed_of u) in
            let p = sum-set f s.views id v w at in
            let q = sum-set g s.views id v w at in
            let r = times-append (call (suc j) (suc k)) pressed (call floor (suc t) ∷ []) in
            let one = times-one floor i t j k own (i == j) refl in
            let most = there-at i j t k s.words (i == j) refl taken in
            let before : sum_by f s.views ≡ 0 = omega (arith, none) in
            let h = a.made j k before in
            let b = a.account j k in
            omega arith;
        are_words = a.are_words;
        seats = a.seats;
        fit = fit-set size a.seats s.views id w a.fit mine;
        out = let p = sum-set is_out s.views id v w at in let h = a.out in omega arith;
      }

  press-at : (slots : ℕ) (b : Bool) → (bit_and (slice_index s.words i) (2 ^ t) == 0) ≡ b
      → (w : View) × (act : Act ℕ) × Valid s.homes c act × Accounts size (stepped s i (bit_or (slice_index s.words i) (2 ^ t)) id c w act)
      × Presses (step slots i (2 ^ t) 0 none) (OfPanel panels number floor news pressed, c) (slice_index s.words i) (w, carried_after c act)
  press-at slots true is = (
    new-view,
    keeps,
    tt,
    pressed-new (free-bit (slice_index s.words i) t is),
    (refl, (t, refl, rw is refl)),
  )
  press-at slots false is =
      let word = slice_index s.words i in
      let one = taken-bit word t is in
      let inside : i < length s.words = omega (arith, a.words) in
      let words = same-words s.words i (bit_or word (2 ^ t)) inside (or-old word t one) in (
        again-view,
        keeps,
        tt,
        subst (λ ws. Accounts size (record { words = ws; homes = s.homes; views = set s.views id again-view })) (sym words) (pressed-again one),
        (refl, (t, refl, rw is (refl, λ single. had-new single one))),
      )

pub press-allows : (size : Size) (slots i t id : ℕ) (v : View) (c : List (ℕ × ℕ)) (k panels number floor : ℕ) (news pressed : List Call) → v ≡ OfPanel panels number floor news pressed → k ≡ 2 ^ t → floor ≡ suc i → i < size.floors → t < size.floors → t ≢ i
    → Allows (Accounts size) slots id (v, c) i (λ x. bit_or x k) (Presses (step slots i k 0 none) (v, c))
press-allows size slots i t id v c k panels number floor news pressed is mask own low small apart =
    rw (is, mask) (λ s a homes at fits. press-at size i t id panels number floor news pressed c s a at own low small apart slots (bit_and (slice_index s.words i) (2 ^ t) == 0) refl)

-- THE COLLECTOR

pub gather-allows : (size : Size) (slots i id : ℕ) (c : List (ℕ × ℕ)) (floors panels made : ℕ) (gathered : List Call) (back : List ℕ) (news pressed : List Call) → size.floors ≤ 16 → i < size.floors
    → Allows (Accounts size) slots id (OfHand floors panels gathered made back news pressed, c) i (λ _. 0) (Gathers (step slots i 0 0 none) (OfHand floors panels gathered made back news pressed, c))
gather-allows size slots i id c floors panels made gathered back news pressed most low s a homes at fits =
    let v = OfHand floors panels gathered made back news pressed in
    let word = slice_index s.words i in
    let w = OfHand floors panels (gathered ++ calls_of_bits 16 (suc i) 1 word) made back news pressed in
    let inside : i < length s.words = omega (arith, a.words) in
    let ok = a.are_words i in
    let mine : IsHand size a.seats id floors panels made back news = a.fit id v at in (
      w,
      keeps,
      tt,
      record {
        words = length-set s.words i 0 ∙ a.words;
        account =
            λ j k.
            let f = λ (u : View). times (call (suc j) (suc k)) (news_of u) in
            let g = λ (u : View). times (call (suc j) (suc k)) (gathered_of u) in
            let p = sum-set f s.views id v w at in
            let q = sum-set g s.views id v w at in
            let r = times-append (call (suc j) (suc k)) gathered (calls_of_bits 16 (suc i) 1 word) in
            let more = times-word i j k word (below-16 size.floors word most ok.0) (i == j) refl in
            let h = a.account j k in
            let b = bit-none i j k s.words (i == j) refl inside in
            omega arith;
        made =
            λ j k none.
            let f = λ (u : View). times (call (suc j) (suc k)) (news_of u) in
            let g = λ (u : View). times (call (suc j) (suc k)) (pressed_of u) in
            let p = sum-set f s.views id v w at in
            let q = sum-set g s.views id v w at in
            let before : sum_by f s.views ≡ 0 = omega (arith, none) in
            let h = a.made j k before in
            omega arith;
        are_words = each-word (IsWord size.floors) s.words i 0 inside (pow_pos size.floors, bit_at-zero i) a.are_words;
        seats = a.seats;
        fit = fit-set size a.seats s.views id w a.fit mine;
        out = let p = sum-set is_out s.views id v w at in let h = a.out in omega arith;
      },
      (refl, (refl, rw mine.floors_are ok)),
    )

pub look-allows : (size : Size) (slots i id : ℕ) (c : List (ℕ × ℕ)) (floors panels made : ℕ) (gathered : List Call) (back : List ℕ) (news pressed : List Call) → i < size.floors
    → Allows (Accounts size) slots id (OfHand floors panels gathered made back news pressed, c) i (λ n. n) (Looks (step slots i 0 0 none) (OfHand floors panels gathered made back news pressed, c))
look-allows size slots i id c floors panels made gathered back news pressed low s a homes at fits =
    let v = OfHand floors panels gathered made back news pressed in
    let inside : i < length s.words = omega (arith, a.words) in
    let mine : IsHand size a.seats id floors panels made back news = a.fit id v at in
    let words = same-words s.words i (slice_index s.words i) inside refl in
    let same = state-is s (set s.words i (slice_index s.words i)) (set s.views id v) words (set_again s.views id v at) in
    (v, keeps, tt, rw same a, (refl, refl, rw mine.floors_are (a.are_words i)))
