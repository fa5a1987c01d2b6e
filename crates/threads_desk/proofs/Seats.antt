-- Seats that are made and that come back keep the account, and at the end it is that of all panels.
use Rattle.std.proofs.Common.{◌≡◌, ◌≢◌, ◌⊎◌, ⊎_elim, inl, inr, ℕ, ◌+◌, ◌/◌, ◌<◌, ◌≤◌, Bool, true, false, ◌||◌, List, [], ◌∷◌, ◌++◌, length, refl, sym, ap, ◌∙◌, arith, set, subst, zero, suc, take, replicate}
use Rattle.std.specs.Prelude.{◌==◌, if◌then◌else◌, slice_index, sum_by}
use Rattle.std.specs.Int.{bit_at}
use Rattle.std.proofs.lemmas.List.{length-take, length-replicate}
use Rattle.std.proofs.lemmas.List.Sums.{sum_by-cons}
use Rattle.std.proofs.lemmas.Bool.Decides.{nat_tests}
use Rattle.std.proofs.lemmas.Nat.Bits.{bit_at-zero}
use Rattle.std.proofs.lemmas.Nat.{pow_pos}
use mathlib.Core.Option.{some, some-injective, some-ne-none}
use lib.ListN.{get_elem?}
use Rattle.atomic_table.specs.Table.{State, Splits, Joins, Seen, opening}
use Rattle.atomic_table.proofs.Lists.{at_set, set_else}
use Rattle.group_spec.specs.declared.calls.Call.{Call}
use Rattle.threads_desk.specs.declared.rule.View.{View}
use Rattle.threads_desk.specs.declared.rule.View.TheVariants.{OfPanel, OfHand, Spent}
use Rattle.threads_desk.specs.declared.rule.Size.{Size}
use Rattle.threads_desk.specs.Account.{call, times, news_of, pressed_of, gathered_of, is_out, opening_view, has_number, Seats, IsPanel, IsHand, Fits, IsWord, Accounts}
use Rattle.threads_desk.proofs.Sums.{sum-set, sum-push, sum-only, sum-holds, times-append}

-- OPENING

zeros-at : (n m i : ℕ) → slice_index (take n (replicate m 0)) i ≡ 0
zeros-at zero m i = refl
zeros-at (suc n) zero i = refl
zeros-at (suc n) (suc m) zero = refl
zeros-at (suc n) (suc m) (suc i) = zeros-at n m i

opens-fit : (size : Size) (id : ℕ) (v : View) → get_elem? (opening_view size ∷ []) id ≡ some v → Fits size (record { seat = λ k. 0; hand = 0; made = 0; back = [] }) id v
opens-fit size zero v e = subst (Fits size (record { seat = λ k. 0; hand = 0; made = 0; back = [] }) 0) (some-injective _ v e) record {
  floors_are = refl;
  panels_are = refl;
  hand_is = refl;
  made_is = refl;
  back_is = refl;
  came_back = λ one i k out. refl;
}
opens-fit size (suc id) v e = absurd (some-ne-none v (sym e))

-- the account of an empty desk
pub opens : (size : Size) (n : ℕ) → n ≡ size.floors → n ≤ 16 → Accounts size (opening {S = ℕ} (take {A = ℕ} n (replicate 16 0)) [] (opening_view size))
opens size n same most =
    let words : List ℕ = take n (replicate 16 0) in
    let v = opening_view size in
    record {
      words = length-take n (replicate {A = ℕ} 16 0) ∙ omega (arith, length-replicate {A = ℕ} 16 0, same);
      account =
          λ i k.
          let z = ap (λ word. bit_at word k) (zeros-at n 16 i) ∙ bit_at-zero k in
          omega (arith, sum_by-cons (λ u. times (call (suc i) (suc k)) (news_of u)) v [], sum_by-cons (λ u. times (call (suc i) (suc k)) (gathered_of u)) v [], z);
      made = λ i k none. omega (arith, sum_by-cons (λ u. times (call (suc i) (suc k)) (pressed_of u)) v []);
      are_words = λ i. subst (IsWord size.floors i) (sym (zeros-at n 16 i)) (pow_pos size.floors, bit_at-zero i);
      seats = record { seat = λ k. 0; hand = 0; made = 0; back = [] };
      fit = opens-fit size;
      out = omega (arith, sum_by-cons is_out v []);
    }

-- A PANEL MORE

at-push : (xs : List View) (x u : View) (j : ℕ) → get_elem? (xs ++ x ∷ []) j ≡ some u → (get_elem? xs j ≡ some u) ⊎ ((j ≡ length xs) × (x ≡ u))
at-push [] x u zero e = inr (refl, some-injective x u e)
at-push [] x u (suc j) e = absurd (some-ne-none u (sym e))
at-push (y ∷ ys) x u zero e = inl e
at-push (y ∷ ys) x u (suc j) e = ⊎_elim (λ p. inl p) (λ (p : (j ≡ length ys) × (x ≡ u)). inr (ap suc p.0, p.1)) (at-push ys x u j e)

with-seat : (ℕ → ℕ) → ℕ → ℕ → ℕ → ℕ
with-seat seat made next k = if k == made then next else seat k

seat-old : (seat : ℕ → ℕ) (made next k : ℕ) (b : Bool) → (k == made) ≡ b → k < made → (if b then next else seat k) ≡ seat k
seat-old seat made next k true is low = let same : k ≡ made = grind (arith, nat_tests) in absurd (omega arith)
seat-old seat made next k false is low = refl

seat-new : (seat : ℕ → ℕ) (made next : ℕ) (b : Bool) → (made == made) ≡ b → (if b then next else seat made) ≡ next
seat-new seat made next true is = refl
seat-new seat made next false is = let differs : made ≢ made = grind (arith, nat_tests) in absurd (differs refl)

module _ (size : Size) (id floors panels made : ℕ) (gathered : List Call) (s : State ℕ View)
    (a : Accounts size s) (at : get_elem? s.views id ≡ some (OfHand floors panels gathered made [] [] [])) where
  abbrev old-view : View
  old-view = OfHand floors panels gathered made [] [] []

  abbrev more-view : View
  more-view = OfHand floors panels gathered (made + 1) [] [] []

  abbrev panel-view : View
  panel-view = OfPanel panels made (made / panels + 1) [] []

  mine : IsHand size a.seats id floors panels made [] []
  mine = a.fit id old-view at

  abbrev next : ℕ
  next = length (set s.views id more-view)

  abbrev more-seats : Seats
  more-seats = record { seat = λ k. if k == made then next else a.seats.seat k; hand = a.seats.hand; made = made + 1; back = a.seats.back }

  -- the seats that were there keep their places
  old-fits : (j : ℕ) (u : View) → Fits size a.seats j u → j ≢ id → Fits size more-seats j u
  old-fits j (OfPanel panels' number floor news pressed) f other = record {
    panels_are = f.panels_are;
    seat_is = seat-old a.seats.seat made next number (number == made) refl (omega (arith, f.made, mine.made_is)) ∙ f.seat_is;
    made = omega (arith, f.made, mine.made_is);
    out = f.out;
    floor_is = f.floor_is;
    own_floor = f.own_floor;
  }
  old-fits j (OfHand floors' panels' gathered' made' back' news' pressed') f other = absurd (other (f.hand_is ∙ sym mine.hand_is))
  old-fits j Spent f other = tt

  new-fits : Fits size more-seats next panel-view
  new-fits = record {
    panels_are = mine.panels_are;
    seat_is = seat-new a.seats.seat made next (made == made) refl;
    made = omega arith;
    out = ap (λ back. has_number back made) (sym mine.back_is);
    floor_is = ap (λ p. made / p + 1) mine.panels_are;
    own_floor = λ i k other. refl;
  }

  hand-fits : Fits size more-seats id more-view
  hand-fits = record {
    floors_are = mine.floors_are;
    panels_are = mine.panels_are;
    hand_is = mine.hand_is;
    made_is = refl;
    back_is = mine.back_is;
    came_back = λ one i k out. refl;
  }

  all-fits : (j : ℕ) (u : View) → get_elem? (set s.views id more-view ++ panel-view ∷ []) j ≡ some u → Fits size more-seats j u
  all-fits j u e =
      ⊎_elim
      (λ (t : get_elem? (set s.views id more-view) j ≡ some u).
      ⊎_elim
      (λ (r : (j ≡ id) × (more-view ≡ u)). rw (r.0, ← r.1) hand-fits)
      (λ (r : (j ≢ id) × (get_elem? s.views j ≡ some u)). old-fits j u (a.fit j u r.1) r.0)
      (at_set s.views id j more-view u t))
      (λ (t : (j ≡ next) × (panel-view ≡ u)). rw (t.0, ← t.1) new-fits)
      (at-push (set s.views id more-view) panel-view u j e)

  panel-made : Accounts size (record { words = s.words; homes = s.homes; views = set s.views id more-view ++ panel-view ∷ [] })
  panel-made = record {
    words = a.words;
    account =
        λ i k.
        let f = λ (u : View). times (call (suc i) (suc k)) (news_of u) in
        let g = λ (u : View). times (call (suc i) (suc k)) (gathered_of u) in
        let p = sum-set f s.views id old-view more-view at in
        let q = sum-set g s.views id old-view more-view at in
        let h = a.account i k in
        omega (arith, sum-push f (set s.views id more-view) panel-view, sum-push g (set s.views id more-view) panel-view);
    made =
        λ i k none.
        let f = λ (u : View). times (call (suc i) (suc k)) (news_of u) in
        let g = λ (u : View). times (call (suc i) (suc k)) (pressed_of u) in
        let p = sum-set f s.views id old-view more-view at in
        let q = sum-set g s.views id old-view more-view at in
        let before : sum_by f s.views ≡ 0 = omega (arith, none, sum-push f (set s.views id more-view) panel-view) in
        let h = a.made i k before in
        omega (arith, sum-push g (set s.views id more-view) panel-view);
    are_words = a.are_words;
    seats = more-seats;
    fit = all-fits;
    out =
        let p = sum-set is_out s.views id old-view more-view at in
        let h = a.out in
        let m = mine.made_is in
        omega (arith, sum-push is_out (set s.views id more-view) panel-view);
  }

-- the collector makes the next panel
pub panel-splits : (size : Size) (id floors panels made : ℕ) (gathered : List Call)
    → Splits {S = ℕ} (Accounts size) id (OfHand floors panels gathered made [] [] []) (OfHand floors panels gathered (made + 1) [] [] []) (OfPanel panels made (made / panels + 1) [] [])
panel-splits size id floors panels made gathered s a at = panel-made size id floors panels made gathered s a at

-- A PANEL BACK

neither : (a b : Bool) → (a || b) ≡ false → (a ≡ false) × (b ≡ false)
neither true b e = absurd (cc)
neither false b e = (refl, e)

module _ (size : Size) (id other floors panels made panels' number floor : ℕ) (gathered : List Call) (back : List ℕ) (news pressed more again : List Call) (s : State ℕ View)
    (a : Accounts size s) (at : get_elem? s.views id ≡ some (OfHand floors panels gathered made back news pressed))
    (apart : other ≢ id) (there : get_elem? s.views other ≡ some (OfPanel panels' number floor more again)) where
  abbrev hand-view : View
  hand-view = OfHand floors panels gathered made back news pressed

  abbrev back-view : View
  back-view = OfHand floors panels gathered made (number ∷ back) (news ++ more) (pressed ++ again)

  abbrev gone-view : View
  gone-view = OfPanel panels' number floor more again

  hand : IsHand size a.seats id floors panels made back news
  hand = a.fit id hand-view at

  gone : IsPanel size a.seats other panels' number floor more
  gone = a.fit other gone-view there

  abbrev back-seats : Seats
  back-seats = record { seat = a.seats.seat; hand = a.seats.hand; made = a.seats.made; back = number ∷ back }

  still-out : (j number' : ℕ) → a.seats.seat number' ≡ j → j ≢ other → has_number a.seats.back number' ≡ false → (b : Bool) → (number == number') ≡ b → (b || has_number back number') ≡ false
  still-out j number' seat differs out true is =
      let same : number ≡ number' = grind (arith, nat_tests) in
      absurd (differs (sym seat ∙ ap a.seats.seat (sym same) ∙ gone.seat_is))
  still-out j number' seat differs out false is = ap (λ b. has_number b number') hand.back_is ∙ out

  others-fit : (j : ℕ) (u : View) → Fits size a.seats j u → j ≢ id → j ≢ other → Fits size back-seats j u
  others-fit j (OfPanel panels'' number' floor' news' pressed') f differs differs' = record {
    panels_are = f.panels_are;
    seat_is = f.seat_is;
    made = f.made;
    out = still-out j number' f.seat_is differs' f.out (number == number') refl;
    floor_is = f.floor_is;
    own_floor = f.own_floor;
  }
  others-fit j (OfHand floors' panels'' gathered' made' back' news' pressed') f differs differs' = absurd (differs (f.hand_is ∙ sym hand.hand_is))
  others-fit j Spent f differs differs' = tt

  own-back : size.panels ≡ 1 → (i k : ℕ) → has_number (number ∷ back) i ≡ false → times (call (suc i) (suc k)) (news ++ more) ≡ 0
  own-back one i k out =
      let both = neither (number == i) (has_number back i) out in
      let differs : number ≢ i = (let e = both.0 in grind (arith, nat_tests)) in
      let its : floor ≡ number / 1 + 1 = gone.floor_is ∙ ap (λ p. number / p + 1) one in
      let n = hand.came_back one i k both.1 in
      let m = gone.own_floor i k (λ e. differs (omega arith)) in
      omega (arith, times-append (call (suc i) (suc k)) news more)

  back-fits : Fits size back-seats id back-view
  back-fits = record {
    floors_are = hand.floors_are;
    panels_are = hand.panels_are;
    hand_is = hand.hand_is;
    made_is = hand.made_is;
    back_is = refl;
    came_back = own-back;
  }

  joined-fit : (j : ℕ) (u : View) → get_elem? (set (set s.views id back-view) other Spent) j ≡ some u → Fits size back-seats j u
  joined-fit j u e =
      ⊎_elim
      (λ (t : (j ≡ other) × (Spent ≡ u)). subst (Fits size back-seats j) t.1 tt)
      (λ (t : (j ≢ other) × (get_elem? (set s.views id back-view) j ≡ some u)).
      ⊎_elim
      (λ (r : (j ≡ id) × (back-view ≡ u)). rw (r.0, ← r.1) back-fits)
      (λ (r : (j ≢ id) × (get_elem? s.views j ≡ some u)). others-fit j u (a.fit j u r.1) r.0 t.0)
      (at_set s.views id j back-view u t.1))
      (at_set (set s.views id back-view) other j Spent u e)

  still-there : get_elem? (set s.views id back-view) other ≡ some gone-view
  still-there = set_else s.views id other back-view apart ∙ there

  panel-joined : Accounts size (record { words = s.words; homes = s.homes; views = set (set s.views id back-view) other Spent })
  panel-joined = record {
    words = a.words;
    account =
        λ i k.
        let f = λ (u : View). times (call (suc i) (suc k)) (news_of u) in
        let g = λ (u : View). times (call (suc i) (suc k)) (gathered_of u) in
        let p = sum-set f s.views id hand-view back-view at in
        let q = sum-set g s.views id hand-view back-view at in
        let p' = sum-set f (set s.views id back-view) other gone-view Spent still-there in
        let q' = sum-set g (set s.views id back-view) other gone-view Spent still-there in
        let h = a.account i k in
        omega (arith, times-append (call (suc i) (suc k)) news more);
    made =
        λ i k none.
        let f = λ (u : View). times (call (suc i) (suc k)) (news_of u) in
        let g = λ (u : View). times (call (suc i) (suc k)) (pressed_of u) in
        let p = sum-set f s.views id hand-view back-view at in
        let q = sum-set g s.views id hand-view back-view at in
        let p' = sum-set f (set s.views id back-view) other gone-view Spent still-there in
        let q' = sum-set g (set s.views id back-view) other gone-view Spent still-there in
        let n = times-append (call (suc i) (suc k)) news more in
        let before : sum_by f s.views ≡ 0 = omega (arith, none) in
        let h = a.made i k before in
        omega (arith, times-append (call (suc i) (suc k)) pressed again);
    are_words = a.are_words;
    seats = back-seats;
    fit = joined-fit;
    out =
        let p = sum-set is_out s.views id hand-view back-view at in
        let p' = sum-set is_out (set s.views id back-view) other gone-view Spent still-there in
        let h = a.out in
        let n : length back ≡ length a.seats.back = ap (λ (b : List ℕ). length b) hand.back_is in
        omega arith;
  }

-- the collector takes in a panel's seat
pub panel-joins : (size : Size) (id other floors panels made panels' number floor : ℕ) (gathered : List Call) (back : List ℕ) (news pressed more again : List Call)
    → Joins {S = ℕ} (Accounts size) id (OfHand floors panels gathered made back news pressed) other (OfPanel panels' number floor more again) (OfHand floors panels gathered made (number ∷ back) (news ++ more) (pressed ++ again)) Spent
panel-joins size id other floors panels made panels' number floor gathered back news pressed more again s a at apart there =
    panel-joined size id other floors panels made panels' number floor gathered back news pressed more again s a at apart (sym (set_else s.views id other (OfHand floors panels gathered made (number ∷ back) (news ++ more) (pressed ++ again)) apart) ∙ there)

-- CLOSING

module _ (size : Size) (id floors panels made : ℕ) (gathered : List Call) (back : List ℕ) (news pressed : List Call) (s : State ℕ View)
    (a : Accounts size s) (at : get_elem? s.views id ≡ some (OfHand floors panels gathered made back news pressed)) where
  closing : IsHand size a.seats id floors panels made back news
  closing = a.fit id (OfHand floors panels gathered made back news pressed) at

  no-gathered : (i k j : ℕ) (u : View) → Fits size a.seats j u → j ≢ id → times (call (suc i) (suc k)) (gathered_of u) ≡ 0
  no-gathered i k j (OfPanel panels' number floor news' pressed') f other = refl
  no-gathered i k j (OfHand floors' panels' gathered' made' back' news' pressed') f other = absurd (other (f.hand_is ∙ sym closing.hand_is))
  no-gathered i k j Spent f other = refl

  no-news : (i k j : ℕ) (u : View) → Fits size a.seats j u → is_out u ≡ 0 → j ≢ id → times (call (suc i) (suc k)) (news_of u) ≡ 0
  no-news i k j (OfPanel panels' number floor news' pressed') f gone other = absurd (omega (arith, gone))
  no-news i k j (OfHand floors' panels' gathered' made' back' news' pressed') f gone other = absurd (other (f.hand_is ∙ sym closing.hand_is))
  no-news i k j Spent f gone other = refl

  no-pressed : (i k j : ℕ) (u : View) → Fits size a.seats j u → is_out u ≡ 0 → j ≢ id → times (call (suc i) (suc k)) (pressed_of u) ≡ 0
  no-pressed i k j (OfPanel panels' number floor news' pressed') f gone other = absurd (omega (arith, gone))
  no-pressed i k j (OfHand floors' panels' gathered' made' back' news' pressed') f gone other = absurd (other (f.hand_is ∙ sym closing.hand_is))
  no-pressed i k j Spent f gone other = refl

  none-out : length back ≡ made → (j : ℕ) (u : View) → get_elem? s.views j ≡ some u → is_out u ≡ 0
  none-out all j u here =
      let n : length back ≡ length a.seats.back = ap (λ (b : List ℕ). length b) closing.back_is in
      let m = closing.made_is in
      let sum : sum_by is_out s.views ≡ 0 = (let h = a.out in omega (arith, all)) in
      omega (arith, sum-holds is_out s.views j u here)

  news-sum : length back ≡ made → (i k : ℕ) → sum_by (λ (u : View). times (call (suc i) (suc k)) (news_of u)) s.views ≡ times (call (suc i) (suc k)) news
  news-sum all i k =
      sum-only (λ (u : View). times (call (suc i) (suc k)) (news_of u)) s.views id (OfHand floors panels gathered made back news pressed) at
      (λ j u here other. no-news i k j u (a.fit j u here) (none-out all j u here) other)

  -- once all panels came back, their New answers are the times that a call was gathered, and the bit on the desk
  all-back : length back ≡ made → (i k : ℕ) → times (call (suc i) (suc k)) news ≡ times (call (suc i) (suc k)) gathered + bit_at (slice_index s.words i) k
  all-back all i k =
      let g = λ (u : View). times (call (suc i) (suc k)) (gathered_of u) in
      let v = OfHand floors panels gathered made back news pressed in
      let q = sum-only g s.views id v at (λ j u here other. no-gathered i k j u (a.fit j u here) other) in
      let h = a.account i k in
      omega (arith, news-sum all i k)

  -- and what none of them was answered New, none of them pressed
  all-made : length back ≡ made → (i k : ℕ) → times (call (suc i) (suc k)) news ≡ 0 → times (call (suc i) (suc k)) pressed ≡ 0
  all-made all i k none =
      sym
      (sum-only (λ (u : View). times (call (suc i) (suc k)) (pressed_of u)) s.views id (OfHand floors panels gathered made back news pressed) at
      (λ j u here other. no-pressed i k j u (a.fit j u here) (none-out all j u here) other))
      ∙ a.made i k (news-sum all i k ∙ none)

pub closes : (size : Size) (id floors panels made : ℕ) (gathered : List Call) (back : List ℕ) (news pressed : List Call) (s : State ℕ View) → Seen (Accounts size) id (OfHand floors panels gathered made back news pressed) s
    → length back ≡ made → (i k : ℕ) → times (call (suc i) (suc k)) news ≡ times (call (suc i) (suc k)) gathered + bit_at (slice_index s.words i) k
closes size id floors panels made gathered back news pressed s seen all i k = all-back size id floors panels made gathered back news pressed s seen.0 seen.1 all i k

pub closes-made : (size : Size) (id floors panels made : ℕ) (gathered : List Call) (back : List ℕ) (news pressed : List Call) (s : State ℕ View) → Seen (Accounts size) id (OfHand floors panels gathered made back news pressed) s
    → length back ≡ made → (i k : ℕ) → times (call (suc i) (suc k)) news ≡ 0 → times (call (suc i) (suc k)) pressed ≡ 0
closes-made size id floors panels made gathered back news pressed s seen all i k none = all-made size id floors panels made gathered back news pressed s seen.0 seen.1 all i k none
