-- The forward pass finds what lies below all annotations, and an annotation where it isn't refused.
use Rattle.std.proofs.Common.{inl, inr, ◌≡◌, ◌≢◌, ℕ, zero, suc, ◌+◌, ◌<◌, ◌≤◌, Bool, true, false, cond, List, [], ◌∷◌, Option, Some, None, option_map, refl, sym, ap, ◌∙◌, subst, slice_get, arith}
use Rattle.std.specs.Prelude.{nat_eq, option_and_then}
use Rattle.std.proofs.lemmas.Bool.{eq-eqb, ne_eqb}
use Rattle.std.proofs.lemmas.Bool.Decides.{eqb_tells}
use Rattle.ranges_laws.specs.Pass.{Moves, Arrived, at_entry, with_known, merged, arrive, go_on, jump_on, spread, moves_at, advance, passed}

-- what an option has, where a step on it succeeded
pub record Came {A B : Type 0} (f : A → Option B) (o : Option A) (y : B) : Type 0 where
  pub from : A
  pub was : o ≡ Some from
  pub gives : f from ≡ Some y

pub came : {A B : Type 0} (f : A → Option B) (o : Option A) (y : B) → option_and_then f o ≡ Some y → Came f o y
came f None y e = cc
came f (Some x) y e = record { from = x; was = refl; gives = e }

pub record Mapped {A B : Type 0} (f : A → B) (o : Option A) (y : B) : Type 0 where
  pub from : A
  pub was : o ≡ Some from
  pub gives : f from ≡ y

pub mapped : {A B : Type 0} (f : A → B) (o : Option A) (y : B) → option_map f o ≡ Some y → Mapped f o y
mapped f None y e = cc
mapped f (Some x) y e = record { from = x; was = refl; gives = (cc) }

pub same_some : {A : Type 0} (x y : A) → Some x ≡ Some y → x ≡ y
same_some x y e = cc

-- ANNOTATIONS

-- something at a place of an annotation lies over this
pub record Over {K L : Type 0} (Under : K → L → Type 0) (a : List (Option L)) (place : ℕ) (k : K) : Type 0 where
  pub wide : L
  pub stands : slice_get a place ≡ Some (Some wide)
  pub under : Under k wide

abbrev pub OverNext : {K L : Type 0} → (K → L → Type 0) → List (Option L) → ℕ → Option K → Type 0
OverNext under a place None = Unit {0}
OverNext under a place (Some k) = Over under a (place + 1) k

abbrev pub OverJump : {K L : Type 0} → (K → L → Type 0) → List (Option L) → Option (ℕ × K) → Type 0
OverJump under a None = Unit {0}
OverJump under a (Some target) = Over under a target.0 target.1

-- all that a place hands on
pub record AllOver {K L : Type 0} (Under : K → L → Type 0) (a : List (Option L)) (place : ℕ) (m : Moves K) : Type 0 where
  pub next : OverNext Under a place m.next
  pub jump : OverJump Under a m.jump

abbrev pub IsAhead : {K : Type 0} → ℕ → ℕ → Option (ℕ × K) → Type 0
IsAhead total place None = Unit {0}
IsAhead total place (Some target) = (place < target.0) × (target.0 < total)

abbrev pub IsInside : {K : Type 0} → ℕ → ℕ → Option K → Type 0
IsInside total place None = Unit {0}
IsInside total place (Some k) = place + 1 < total

abbrev pub HoldsOf : {K : Type 0} → (K → Type 0) → Option K → Type 0
HoldsOf P None = Unit {0}
HoldsOf P (Some k) = P k

abbrev pub HoldsOfJump : {K : Type 0} → (K → Type 0) → Option (ℕ × K) → Type 0
HoldsOfJump P None = Unit {0}
HoldsOfJump P (Some target) = P target.1

-- moves that are good: they go forward, to places that are there, with what is good
pub record AreGood {K : Type 0} (Fine : K → Type 0) (total place : ℕ) (m : Moves K) : Type 0 where
  pub inside : IsInside total place m.next
  pub ahead : IsAhead total place m.jump
  pub fine_next : HoldsOf Fine m.next
  pub fine_jump : HoldsOfJump Fine m.jump

-- a join that both lie under
pub record Joined {K L : Type 0} (Fine : K → Type 0) (Under : K → L → Type 0) (shown : K → L) (a b j : K) : Type 0 where
  pub fine : Fine j
  pub first : Under a (shown j)
  pub second : Under b (shown j)

-- What the pass relies on.
pub record IsPass {K L : Type 0} (join : K → K → Option K) (moves : ℕ → K → Option (Moves K)) (shown : K → L) (Under : K → L → Type 0) (Fine : K → Type 0) (Passes : List (Option L) → ℕ → L → Type 0) (count total : ℕ) : Type 0 where
  pub room : count ≤ total
  pub itself : (k : K) → Under k (shown k)
  pub through : (k l : K) (m : L) → Under k (shown l) → Under l m → Under k m
  pub joined : (a b j : K) → Fine a → Fine b → join a b ≡ Some j → Joined Fine Under shown a b j
  pub least : (a b : K) (l : L) → Fine a → Fine b → Under a l → Under b l → (j : K) × (join a b ≡ Some j) × Under j l
  pub good : (place : ℕ) (k : K) (m : Moves K) → place < count → Fine k → moves place k ≡ Some m → AreGood Fine total place m
  pub sound : (a : List (Option L)) (place : ℕ) (k : K) (m : Moves K) → place < count → Fine k → moves place k ≡ Some m → AllOver Under a place m → Passes a place (shown k)
  pub complete : (a : List (Option L)) (place : ℕ) (k : K) (l : L) → place < count → Fine k → Under k l → Passes a place l → (m : Moves K) × (moves place k ≡ Some m) × AllOver Under a place m

-- ARRIVALS

known_there : {K : Type 0} (arrived : Arrived K) (to : ℕ) (k : K) (place : ℕ) → place ≡ to → with_known arrived to k place ≡ Some k
known_there arrived to k place e = ap (λ b. cond b (Some k) (arrived place)) (eq-eqb place to e)

known_elsewhere : {K : Type 0} (arrived : Arrived K) (to : ℕ) (k : K) (place : ℕ) → place ≢ to → with_known arrived to k place ≡ arrived place
known_elsewhere arrived to k place e = ap (λ b. cond b (Some k) (arrived place)) (ne_eqb place to e)

module _ {K L : Type 0} (join : K → K → Option K) (moves : ℕ → K → Option (Moves K)) (shown : K → L) (Under : K → L → Type 0) (Fine : K → Type 0) (Passes : List (Option L) → ℕ → L → Type 0) (count total : ℕ) (laws : IsPass join moves shown Under Fine Passes count total) where
  -- at a place is something over this
  pub record Has (arrived : Arrived K) (place : ℕ) (k : K) : Type 0 where
    pub now : K
    pub stands : arrived place ≡ Some now
    pub under : Under k (shown now)

  abbrev pub HasNext : Arrived K → ℕ → Option K → Type 0
  HasNext arrived place None = Unit {0}
  HasNext arrived place (Some k) = Has arrived (place + 1) k

  abbrev pub HasJump : Arrived K → Option (ℕ × K) → Type 0
  HasJump arrived None = Unit {0}
  HasJump arrived (Some target) = Has arrived target.0 target.1

  -- each place that is ahead has no less than before
  pub record Grows (place : ℕ) (old new : Arrived K) : Type 0 where
    pub kept : (p : ℕ) → p ≤ place → new p ≡ old p
    pub more : (p : ℕ) (k : K) → old p ≡ Some k → Has new p k
    pub fine : ((p : ℕ) (k : K) → old p ≡ Some k → Fine k) → (p : ℕ) (k : K) → new p ≡ Some k → Fine k

  grows_none : (place : ℕ) (old : Arrived K) → Grows place old old
  grows_none place old = record { kept = λ p h. refl; more = λ p k e. record { now = k; stands = e; under = laws.itself k }; fine = λ h. h }

  has_more : (place : ℕ) (old new : Arrived K) (p : ℕ) (k : K) → Grows place old new → Has old p k → Has new p k
  has_more place old new p k g h =
      let m = g.more p h.now h.stands in record { now = m.now; stands = m.stands; under = laws.through k h.now (shown m.now) h.under m.under }

  grows_on : (place : ℕ) (a b c : Arrived K) → Grows place a b → Grows place b c → Grows place a c
  grows_on place a b c f g = record {
    kept = λ p h. g.kept p h ∙ f.kept p h;
    more = λ p k e. has_more place b c p k g (f.more p k e);
    fine = λ h. g.fine (f.fine h);
  }

  pub record Arrives (place to : ℕ) (k : K) (old new : Arrived K) : Type 0 where
    pub grows : Grows place old new
    pub has : Has new to k

  merged_over : (o : Option K) (k j : K) → HoldsOf Fine o → Fine k → merged join o k ≡ Some j → (Fine j) × Under k (shown j) × ((l : K) → o ≡ Some l → Under l (shown j))
  merged_over None k j fo fk e = let s = same_some k j e in (subst Fine s fk, subst (λ x. Under k (shown x)) s (laws.itself k), λ l n. let bad : None ≡ Some l = n in cc)
  merged_over (Some l) k j fo fk e =
      let m = laws.joined l k j fo fk e in (m.fine, m.second, λ l' n. subst (λ x. Under x (shown j)) (same_some l l' n) m.first)

  holds_of : (o : Option K) → ((k : K) → o ≡ Some k → Fine k) → HoldsOf Fine o
  holds_of None h = tt
  holds_of (Some k) h = h k refl

  arrives : (place to : ℕ) (k : K) (old new : Arrived K) → place < to → Fine k → ((p : ℕ) (l : K) → old p ≡ Some l → Fine l) → arrive join to k old ≡ Some new → Arrives place to k old new
  arrives place to k old new ahead fk fo e = subst (Arrives place to k old) h.gives (by_join h.from (merged_over (old to) k h.from (holds_of (old to) (fo to)) fk h.was))
    where
      h : Mapped (with_known old to) (merged join (old to) k) new
      h = mapped (with_known old to) (merged join (old to) k) new e

      by_join : (j : K) → (Fine j) × Under k (shown j) × ((l : K) → old to ≡ Some l → Under l (shown j)) → Arrives place to k old (with_known old to j)
      by_join j (fj, under, over) = record {
        grows = record { kept = λ p le. known_elsewhere old to j p (λ q. omega arith); more = more; fine = λ was. fine };
        has = record { now = j; stands = known_there old to j to refl; under = under };
      }
        where
          more : (p : ℕ) (l : K) → old p ≡ Some l → Has (with_known old to j) p l
          more p l is = elim (eqb_tells p to) [
            | inl y ↦ record { now = j; stands = known_there old to j p y.1; under = over l (ap old (sym y.1) ∙ is) }
            | inr n ↦ record { now = l; stands = known_elsewhere old to j p n.1 ∙ is; under = laws.itself l }
          ]

          fine : (p : ℕ) (l : K) → with_known old to j p ≡ Some l → Fine l
          fine p l is = elim (eqb_tells p to) [
            | inl y ↦ subst Fine (same_some j l (sym (known_there old to j p y.1) ∙ is)) fj
            | inr n ↦ fo p l (sym (known_elsewhere old to j p n.1) ∙ is)
          ]

  IsFine : Arrived K → Type 0
  IsFine arrived = (p : ℕ) (k : K) → arrived p ≡ Some k → Fine k

  pub record Spreads (place : ℕ) (m : Moves K) (old new : Arrived K) : Type 0 where
    pub grows : Grows place old new
    pub next : HasNext new place m.next
    pub jump : HasJump new m.jump

  going : (place : ℕ) (o : Option K) (old new : Arrived K) → HoldsOf Fine o → ((p : ℕ) (l : K) → old p ≡ Some l → Fine l) → go_on join place o old ≡ Some new → Grows place old new × HasNext new place o
  going place None old new f fo e = let s = same_some old new e in (subst (Grows place old) s (grows_none place old), tt)
  going place (Some k) old new f fo e = let r = arrives place (place + 1) k old new (omega arith) f fo e in (r.grows, r.has)

  jumping : (place : ℕ) (o : Option (ℕ × K)) (old new : Arrived K) → IsAhead total place o → HoldsOfJump Fine o → ((p : ℕ) (l : K) → old p ≡ Some l → Fine l) → jump_on join o old ≡ Some new → Grows place old new × HasJump new o
  jumping place None old new i f fo e = let s = same_some old new e in (subst (Grows place old) s (grows_none place old), tt)
  jumping place (Some target) old new i f fo e = let r = arrives place target.0 target.1 old new i.0 f fo e in (r.grows, r.has)

  next_more : (place : ℕ) (old new : Arrived K) (o : Option K) → Grows place old new → (p : ℕ) → HasNext old p o → HasNext new p o
  next_more place old new None g p h = tt
  next_more place old new (Some k) g p h = has_more place old new (p + 1) k g h

  jump_more : (place : ℕ) (old new : Arrived K) (o : Option (ℕ × K)) → Grows place old new → HasJump old o → HasJump new o
  jump_more place old new None g h = tt
  jump_more place old new (Some target) g h = has_more place old new target.0 target.1 g h

  spreads : (place : ℕ) (m : Moves K) (old new : Arrived K) → AreGood Fine total place m → ((p : ℕ) (l : K) → old p ≡ Some l → Fine l) → spread join place m old ≡ Some new → Spreads place m old new
  spreads place m old new good fo e =
      let c = came (jump_on join m.jump) (go_on join place m.next old) new e in
      let g = going place m.next old c.from good.fine_next fo c.was in
      let j = jumping place m.jump c.from new good.ahead good.fine_jump (g.0.fine fo) c.gives in
      record { grows = grows_on place old c.from new g.0 j.0; next = next_more place c.from new m.next j.0 place g.1; jump = j.1 }

  -- A PLACE THAT THE PASS WENT OVER

  pub record Done (arrived : Arrived K) (place : ℕ) (known : K) : Type 0 where
    pub handed : Moves K
    pub moves_are : moves place known ≡ Some handed
    pub next : HasNext arrived place handed.next
    pub jump : HasJump arrived handed.jump

  pub record Settled (entry : K) (n : ℕ) (arrived : Arrived K) : Type 0 where
    pub fine : (p : ℕ) (k : K) → arrived p ≡ Some k → Fine k
    pub first : arrived 0 ≡ Some entry
    pub each : (p : ℕ) (k : K) → p < n → arrived p ≡ Some k → Done arrived p k

  done_more : (place : ℕ) (old new : Arrived K) (p : ℕ) (k : K) → Grows place old new → Done old p k → Done new p k
  done_more place old new p k g d = record {
    handed = d.handed;
    moves_are = d.moves_are;
    next = next_more place old new d.handed.next g p d.next;
    jump = jump_more place old new d.handed.jump g d.jump;
  }

  -- what a step of the pass found, where something had arrived
  pub record Stepped (place : ℕ) (old new : Arrived K) (known : K) : Type 0 where
    pub handed : Moves K
    pub moves_are : moves place known ≡ Some handed
    pub spread_is : spread join place handed old ≡ Some new

  stepped : (place : ℕ) (old new : Arrived K) (k : K) → old place ≡ Some k → advance join moves place old ≡ Some new → Stepped place old new k
  stepped place old new k is e =
      let c = came (λ m. spread join place m old) (moves place k) new (ap (λ o. option_and_then (λ m. spread join place m old) (moves_at (moves place) o)) (sym is) ∙ e) in
      record { handed = c.from; moves_are = c.was; spread_is = c.gives }

  -- a place at which nothing arrived hands nothing on
  skipped : (place : ℕ) (old new : Arrived K) → old place ≡ None → advance join moves place old ≡ Some new → old ≡ new
  skipped place old new is e = same_some old new (sym (ap (λ o. option_and_then (λ m. spread join place m old) (moves_at (moves place) o)) is) ∙ e)

  settled_on : (entry : K) (n : ℕ) (old new : Arrived K) → n < count → Settled entry n old → advance join moves n old ≡ Some new → Settled entry (suc n) new
  settled_on entry place old new low s e = by_known (old place) refl
    where
      by_known : (o : Option K) → old place ≡ o → Settled entry (suc place) new
      by_known None is = subst (Settled entry (suc place)) (skipped place old new is e) (record {
        fine = s.fine;
        first = s.first;
        each = λ p k h stands. elim (eqb_tells p place) [
          | inl y ↦ absurd (let bad : None ≡ Some k = sym is ∙ ap old (sym y.1) ∙ stands in cc)
          | inr n ↦ s.each p k (omega (arith, n.1)) stands
        ];
      })
      by_known (Some known) is =
          let t = stepped place old new known is e in
          let w = spreads place t.handed old new (laws.good place known t.handed low (s.fine place known is) t.moves_are) s.fine t.spread_is in
          let here : Done new place known = record { handed = t.handed; moves_are = t.moves_are; next = w.next; jump = w.jump } in
          record {
            fine = w.grows.fine s.fine;
            first = w.grows.kept 0 (omega arith) ∙ s.first;
            each = λ p k h stands. elim (eqb_tells p place) [
              | inl y ↦ subst (λ q. Done new q k) (sym y.1) (subst (Done new place) (same_some known k (sym is ∙ sym (w.grows.kept place (omega arith)) ∙ ap new (sym y.1) ∙ stands)) here)
              | inr n ↦ let below : p < place = omega (arith, n.1) in done_more place old new p k w.grows (s.each p k below (sym (w.grows.kept p (omega arith)) ∙ stands))
            ];
          }

  settled_first : (entry : K) → Fine entry → Settled entry 0 (at_entry entry)
  settled_first entry f = record {
    fine = λ p k e. by_place k (nat_eq p 0) e;
    first = refl;
    each = λ p k h. absurd (omega arith);
  }
    where
      by_place : (k : K) (b : Bool) → cond b (Some entry) None ≡ Some k → Fine k
      by_place k true e = subst Fine (same_some entry k e) f
      by_place k false e = let bad : None ≡ Some k = e in cc

  pub settled : (entry : K) → Fine entry → (n : ℕ) (arrived : Arrived K) → n ≤ count → passed join moves entry n ≡ Some arrived → Settled entry n arrived
  settled entry f zero arrived low e = subst (Settled entry 0) (same_some (at_entry entry) arrived e) (settled_first entry f)
  settled entry f (suc n) arrived low e =
      let c = came (advance join moves n) (passed join moves entry n) arrived e in
      settled_on entry n c.from arrived (omega arith) (settled entry f n c.from (omega arith) c.was) c.gives

  -- AN ANNOTATION

  places_from : ℕ → ℕ → (ℕ → Option L) → List (Option L)
  places_from zero p f = []
  places_from (suc n) p f = f p ∷ places_from n (p + 1) f

  place_is : (n p q : ℕ) (f : ℕ → Option L) → q < n → slice_get (places_from n p f) q ≡ Some (f (p + q))
  unfolding places_from
  place_is zero p q f h = absurd (omega arith)
  place_is (suc n) p zero f h = ap (λ x. Some (f x)) (omega arith)
  place_is (suc n) p (suc q) f h =
      let same : (p + 1) + q ≡ p + suc q = omega arith in
      place_is n (p + 1) q f (omega arith) ∙ ap (λ x. Some (f x)) same

  -- what arrived at each place
  pub annotation : Arrived K → List (Option L)
  annotation arrived = places_from total 0 (λ p. option_map shown (arrived p))

  pub annotation_is : (arrived : Arrived K) (p : ℕ) → p < total → slice_get (annotation arrived) p ≡ Some (option_map shown (arrived p))
  unfolding annotation
  annotation_is arrived p low =
      let same : 0 + p ≡ p = omega arith in
      place_is total 0 p (λ q. option_map shown (arrived q)) low ∙ ap (λ q. Some (option_map shown (arrived q))) same

  pub annotation_at : (arrived : Arrived K) (p : ℕ) (k : K) → p < total → arrived p ≡ Some k → slice_get (annotation arrived) p ≡ Some (Some (shown k))
  annotation_at arrived p k low is = annotation_is arrived p low ∙ ap (λ o. Some (option_map shown o)) is

  over_has : (arrived : Arrived K) (p : ℕ) (k : K) → p < total → Has arrived p k → Over Under (annotation arrived) p k
  over_has arrived p k low h = record { wide = shown h.now; stands = annotation_at arrived p h.now low h.stands; under = h.under }

  over_next : (arrived : Arrived K) (p : ℕ) (o : Option K) → IsInside total p o → HasNext arrived p o → OverNext Under (annotation arrived) p o
  over_next arrived p None i h = tt
  over_next arrived p (Some k) i h = over_has arrived (p + 1) k i h

  over_jump : (arrived : Arrived K) (p : ℕ) (o : Option (ℕ × K)) → IsAhead total p o → HasJump arrived o → OverJump Under (annotation arrived) o
  over_jump arrived p None i h = tt
  over_jump arrived p (Some target) i h = over_has arrived target.0 target.1 i.1 h

  -- what arrived is an annotation as far as the pass came
  pub annotates : (entry : K) (n : ℕ) (arrived : Arrived K) → n ≤ count → Settled entry n arrived → (p : ℕ) (l : L) → p < n → slice_get (annotation arrived) p ≡ Some (Some l) → Passes (annotation arrived) p l
  annotates entry n arrived low s p l below is = by_known (arrived p) refl
    where
      there : p < total
      there = omega (arith, laws.room)

      by_known : (o : Option K) → arrived p ≡ o → Passes (annotation arrived) p l
      by_known None none = absurd (let bad : ◌≡◌ {A = Option (Option L)} (Some None) (Some (Some l)) = sym (annotation_is arrived p there ∙ ap (λ o. Some (option_map shown o)) none) ∙ is in cc)
      by_known (Some k) stands =
          let d = s.each p k below stands in
          let inside : p < count = omega arith in
          let fine = s.fine p k stands in
          let good = laws.good p k d.handed inside fine d.moves_are in
          let same = same_some (Some (shown k)) (Some l) (sym (annotation_at arrived p k there stands) ∙ is) in
          subst (Passes (annotation arrived) p) (same_some (shown k) l same)
          (laws.sound (annotation arrived) p k d.handed inside fine d.moves_are (record { next = over_next arrived p d.handed.next good.inside d.next; jump = over_jump arrived p d.handed.jump good.ahead d.jump }))

  -- BELOW EACH ANNOTATION

  abbrev pub Below : List (Option L) → Arrived K → Type 0
  Below a arrived = (p : ℕ) (k : K) → arrived p ≡ Some k → Over Under a p k

  pub record Lowered (a : List (Option L)) (o : Option (Arrived K)) : Type 0 where
    pub new : Arrived K
    pub is : o ≡ Some new
    pub below : Below a new
    pub fine : (p : ℕ) (k : K) → new p ≡ Some k → Fine k

  merged_least : (o : Option K) (k : K) (l : L) → HoldsOf Fine o → Fine k → ((x : K) → o ≡ Some x → Under x l) → Under k l → (j : K) × (merged join o k ≡ Some j) × Under j l
  merged_least None k l fo fk below under = (k, refl, under)
  merged_least (Some x) k l fo fk below under = laws.least x k l fo fk (below x refl) under

  arrive_below : (a : List (Option L)) (old : Arrived K) (place to : ℕ) (k : K) → place < to → Below a old → ((p : ℕ) (l : K) → old p ≡ Some l → Fine l) → Fine k → Over Under a to k → Lowered a (arrive join to k old)
  arrive_below a old place to k ahead below fo fk over = by_join (merged_least (old to) k over.wide (holds_of (old to) (fo to)) fk same over.under)
    where
      same : (x : K) → old to ≡ Some x → Under x over.wide
      same x is = let b = below to x is in subst (Under x) (same_some b.wide over.wide (same_some (Some b.wide) (Some over.wide) (sym b.stands ∙ over.stands))) b.under

      by_join : ((j : K) × (merged join (old to) k ≡ Some j) × Under j over.wide) → Lowered a (arrive join to k old)
      by_join (j, is, under) =
          let e = ap (option_map (with_known old to)) is in
          record { new = with_known old to j; is = e; below = below_new; fine = (arrives place to k old (with_known old to j) ahead fk fo e).grows.fine fo }
        where
          below_new : Below a (with_known old to j)
          below_new p l at = elim (eqb_tells p to) [
            | inl y ↦ record {
              wide = over.wide;
              stands = ap (slice_get a) y.1 ∙ over.stands;
              under = subst (λ x. Under x over.wide) (same_some j l (sym (known_there old to j p y.1) ∙ at)) under;
            }
            | inr n ↦ below p l (sym (known_elsewhere old to j p n.1) ∙ at)
          ]

  go_below : (a : List (Option L)) (old : Arrived K) (place : ℕ) (o : Option K) → Below a old → ((p : ℕ) (l : K) → old p ≡ Some l → Fine l) → HoldsOf Fine o → OverNext Under a place o → Lowered a (go_on join place o old)
  go_below a old place None below fo fk over = record { new = old; is = refl; below = below; fine = fo }
  go_below a old place (Some k) below fo fk over = arrive_below a old place (place + 1) k (omega arith) below fo fk over

  jump_below : (a : List (Option L)) (old : Arrived K) (place : ℕ) (o : Option (ℕ × K)) → Below a old → ((p : ℕ) (l : K) → old p ≡ Some l → Fine l) → IsAhead total place o → HoldsOfJump Fine o → OverJump Under a o → Lowered a (jump_on join o old)
  jump_below a old place None below fo i fk over = record { new = old; is = refl; below = below; fine = fo }
  jump_below a old place (Some target) below fo i fk over = arrive_below a old place target.0 target.1 i.0 below fo fk over

  spread_below : (a : List (Option L)) (old : Arrived K) (place : ℕ) (m : Moves K) → Below a old → ((p : ℕ) (l : K) → old p ≡ Some l → Fine l) → AreGood Fine total place m → AllOver Under a place m → Lowered a (spread join place m old)
  spread_below a old place m below fo good over =
      let g = go_below a old place m.next below fo good.fine_next over.next in
      let j = jump_below a g.new place m.jump g.below g.fine good.ahead good.fine_jump over.jump in
      record { new = j.new; is = ap (option_and_then (jump_on join m.jump)) g.is ∙ j.is; below = j.below; fine = j.fine }

  -- where an annotation holds at a place, the pass goes over it
  pub goes_over : (a : List (Option L)) (place : ℕ) (old : Arrived K) (k : K) → place < count → old place ≡ Some k → Below a old → ((p : ℕ) (l : K) → old p ≡ Some l → Fine l)
      → ((l : L) → slice_get a place ≡ Some (Some l) → Passes a place l) → Lowered a (advance join moves place old)
  goes_over a place old k low is below fo passes =
      let o = below place k is in
      by_moves (laws.complete a place k o.wide low (fo place k is) o.under (passes o.wide o.stands))
    where
      by_moves : ((m : Moves K) × (moves place k ≡ Some m) × AllOver Under a place m) → Lowered a (advance join moves place old)
      by_moves (m, e, over) =
          let s = spread_below a old place m below fo (laws.good place k m low (fo place k is) e) over in
          let at : moves_at (moves place) (old place) ≡ Some m = ap (moves_at (moves place)) is ∙ e in
          record { new = s.new; is = ap (option_and_then (λ x. spread join place x old)) at ∙ s.is; below = s.below; fine = s.fine }

  below_first : (a : List (Option L)) (entry : K) → Over Under a 0 entry → Below a (at_entry entry)
  below_first a entry over p k e = elim (eqb_tells p 0) [
    | inl y ↦ subst (λ q. Over Under a q k) (sym y.1) (subst (Over Under a 0) (same_some entry k (sym (ap (λ b. cond b (Some entry) None) y.0) ∙ e)) over)
    | inr n ↦ let bad : None ≡ Some k = sym (ap (λ b. cond b (Some entry) None) n.0) ∙ e in cc
  ]

  below_on : (a : List (Option L)) (n : ℕ) (old new : Arrived K) → n < count → advance join moves n old ≡ Some new → ((p : ℕ) (k : K) → old p ≡ Some k → Fine k) → ((l : L) → slice_get a n ≡ Some (Some l) → Passes a n l) → Below a old → Below a new
  below_on a n old new low e fine passes b = by_known (old n) refl
    where
      by_known : (o : Option K) → old n ≡ o → Below a new
      by_known None is = subst (Below a) (skipped n old new is e) b
      by_known (Some k) is = let g = goes_over a n old k low is b fine passes in subst (Below a) (same_some g.new new (sym g.is ∙ e)) g.below

  -- what arrives lies below each annotation of the places that were gone over
  pub lies_below : (a : List (Option L)) (entry : K) → Fine entry → Over Under a 0 entry → (n : ℕ) (arrived : Arrived K) → n ≤ count → passed join moves entry n ≡ Some arrived → ((p : ℕ) (l : L) → p < n → slice_get a p ≡ Some (Some l) → Passes a p l) → Below a arrived
  lies_below a entry f over zero arrived low e passes = subst (Below a) (same_some (at_entry entry) arrived e) (below_first a entry over)
  lies_below a entry f over (suc n) arrived low e passes =
      let c = came (advance join moves n) (passed join moves entry n) arrived e in
      let s = settled entry f n c.from (omega arith) c.was in
      below_on a n c.from arrived (omega arith) c.gives s.fine (λ l. passes n l (omega arith)) (lies_below a entry f over n c.from (omega arith) c.was (λ p l h. passes p l (omega arith)))

  -- where the pass is refused, something had arrived
  pub refused_with : (place : ℕ) (arrived : Arrived K) → advance join moves place arrived ≡ None → (k : K) × (arrived place ≡ Some k)
  refused_with place arrived none = by_known (arrived place) refl
    where
      by_known : (o : Option K) → arrived place ≡ o → (k : K) × (arrived place ≡ Some k)
      by_known None is = absurd (let bad : None ≡ Some arrived = sym none ∙ ap (λ o. option_and_then (λ m. spread join place m arrived) (moves_at (moves place) o)) is in cc)
      by_known (Some k) is = (k, is)

  -- where the pass is refused, no annotation holds up to the place
  pub refused : (entry : K) → Fine entry → (n : ℕ) (arrived : Arrived K) → n < count → passed join moves entry n ≡ Some arrived → advance join moves n arrived ≡ None
      → (a : List (Option L)) → Over Under a 0 entry → ((p : ℕ) (l : L) → p < suc n → slice_get a p ≡ Some (Some l) → Passes a p l) → ⊥
  refused entry f n arrived low is none a over passes =
      let at = refused_with n arrived none in
      let s = settled entry f n arrived (omega arith) is in
      let b = lies_below a entry f over n arrived (omega arith) is (λ p l h. passes p l (omega arith)) in
      let g = goes_over a n arrived at.0 low at.1 b s.fine (λ l. passes n l (omega arith)) in
      let bad : None ≡ Some g.new = sym none ∙ g.is in cc
