-- The table of what waits represents what arrived.
use Rattle.std.proofs.Common.{◌≡◌, ℕ, zero, suc, ◌+◌, ◌<◌, ◌≤◌, Bool, true, false, cond, List, [], ◌∷◌, ◌++◌, length, get_or, Option, Some, None, option_map, refl, sym, ap, ◌∙◌, subst, slice_get, add-one, arith, inl, inr}
use Rattle.std.specs.Prelude.{if◌then◌else◌, slice_set, is_some, option_and_then}
use Rattle.std.proofs.lemmas.Option.{slice_get-get_or}
use Rattle.std.proofs.lemmas.Bool.{ne_eqb}
use Rattle.std.proofs.lemmas.Bool.Decides.{eqb_tells}
use Rattle.ranges_laws.proofs.Rows.{set_again, set_here, set_there, set_length}
use Rattle.ranges_laws.specs.Pass.{Moves, Arrived, at_entry, with_known, merged, arrive, go_on, jump_on, spread, moves_at, advance, passed}
use Rattle.ranges_transfer.specs.Tables.{IsFresh, IsAt, IsFineBelow, IsAheadBelow, PassesOver, target_next, IsRefusedAt, IsStepped, IsPassed, IsInTable, flat, held, Merges, IsAheadOf, StandsFor, Goes, GoesOver, StopsHere, Comes}

pub merges_of : {K : Type 0} (join : K → K → Option K) (old : List (Option K)) (to : ℕ) (k : K) (item x joined : Option K) (found : Bool) → to < length old → item ≡ get_or old to item → joined ≡ merged join item k → found ≡ is_some joined
    → Merges join old to k found (slice_set (slice_set old to x) to joined)
merges_of join old to k item x joined found low is j f =
    let there : held old to ≡ item = ap flat (slice_get-get_or old to item low) ∙ sym is in
    let same : joined ≡ merged join (held old to) k = j ∙ ap (λ o. merged join o k) (sym there) in
    record { now = set_again old to x joined ∙ ap (λ o. slice_set old to o) same; found_is = f ∙ ap is_some same }

-- FROM A PLACE ON THE TABLE HAS WHAT ARRIVED

-- the place that is gone over is emptied
pub taken_out : {K : Type 0} (place : ℕ) (table : List (Option K)) (arrived : Arrived K) (o : Option K) → StandsFor place table arrived → StandsFor (place + 1) (slice_set table place o) arrived
taken_out place table arrived o s = record {
  same = λ p le in_. ap flat (set_there table place p o (λ e. omega arith)) ∙ s.same p (omega arith) (omega (arith, set_length table place o));
}

-- what arrives in the table arrives
pub record Arrival {K : Type 0} (join : K → K → Option K) (from to : ℕ) (k : K) (found : Bool) (old new : List (Option K)) (arrived : Arrived K) : Type 0 where
  pub long : length new ≡ length old
  pub yes : found ≡ true → (next : Arrived K) × (arrive join to k arrived ≡ Some next) × StandsFor from new next
  pub no : found ≡ false → arrive join to k arrived ≡ None

pub arrival : {K : Type 0} (join : K → K → Option K) (from to : ℕ) (k : K) (found : Bool) (old new : List (Option K)) (arrived : Arrived K) → from ≤ to → to < length old → StandsFor from old arrived → Merges join old to k found new → Arrival join from to k found old new arrived
arrival {K = K} join from to k found old new arrived le in_ s m = by_merged (merged join (held old to) k) refl
  where
    same : merged join (arrived to) k ≡ merged join (held old to) k
    same = ap (λ o. merged join o k) (sym (s.same to le in_))

    long_is : length new ≡ length old
    long_is = ap length m.now ∙ set_length old to (merged join (held old to) k)

    by_merged : (o : Option K) → merged join (held old to) k ≡ o → Arrival join from to k found old new arrived
    by_merged None is = record {
      long = ap length m.now ∙ set_length old to (merged join (held old to) k);
      yes = λ e. absurd (let bad : true ≡ false = sym e ∙ m.found_is ∙ ap is_some is in cc);
      no = λ e. ap (option_map (with_known arrived to)) (same ∙ is);
    }
    by_merged (Some j) is = record {
      long = ap length m.now ∙ set_length old to (merged join (held old to) k);
      yes = λ e. (
        with_known arrived to j,
        ap (option_map (with_known arrived to)) (same ∙ is),
        record {
          same = λ p u v. ap (λ t. held t p) m.now ∙ ap (λ o. held (slice_set old to o) p) is ∙ elim (eqb_tells p to) [
            | inl y ↦ ap (held (slice_set old to (Some j))) y.1 ∙ ap flat (set_here old to (Some j) in_) ∙ sym (ap (λ b. cond b (Some j) (arrived p)) y.0)
            | inr n ↦
                let w : p < length old = omega (arith, ap length m.now ∙ set_length old to (merged join (held old to) k)) in
                ap flat (set_there old to p (Some j) n.1) ∙ s.same p u w ∙ sym (ap (λ b. cond b (Some j) (arrived p)) n.0)
          ];
        },
      );
      no = λ e. absurd (let bad : false ≡ true = sym e ∙ m.found_is ∙ ap is_some is in cc);
    }

-- WHAT A PLACE HANDS ON

-- the same of a target that may be missing
pub record Onward {K : Type 0} (join : K → K → Option K) (from : ℕ) (target : Option (ℕ × K)) (found : Bool) (old new : List (Option K)) (arrived : Arrived K) : Type 0 where
  pub long : length new ≡ length old
  pub yes : found ≡ true → (next : Arrived K) × (jump_on join target arrived ≡ Some next) × StandsFor from new next
  pub no : found ≡ false → jump_on join target arrived ≡ None

pub coming : {K : Type 0} (join : K → K → Option K) (place : ℕ) (target : Option (ℕ × K)) (found : Bool) (old new : List (Option K)) (arrived : Arrived K) → IsAheadOf (length old) place target → StandsFor (place + 1) old arrived → Comes join target old found new → Onward join (place + 1) target found old new arrived
coming join place None found old new arrived ahead s c = record {
  long = ap length c.1;
  yes = λ e. (arrived, refl, subst (λ t. StandsFor (place + 1) t arrived) (sym c.1) s);
  no = λ e. absurd (let bad : true ≡ false = sym c.0 ∙ e in cc);
}
coming join place (Some target) found old new arrived ahead s c =
    let a = arrival join (place + 1) target.0 target.1 found old new arrived (omega (arith, ahead.0)) ahead.1 s c in
    record { long = a.long; yes = a.yes; no = a.no }

next_same : {K : Type 0} (join : K → K → Option K) (place : ℕ) (o : Option K) (arrived : Arrived K) → go_on join place o arrived ≡ jump_on join (target_next place o) arrived
next_same join place None arrived = refl
next_same join place (Some k) arrived = refl

next_ahead : {K : Type 0} (total place : ℕ) (o : Option K) → place + 1 < total → IsAheadOf total place (target_next place o)
next_ahead total place None low = tt
next_ahead total place (Some k) low = (omega arith, low)

advance_is : {K : Type 0} (join : K → K → Option K) (moves : ℕ → K → Option (Moves K)) (place : ℕ) (arrived : Arrived K) (k : K) (m : Moves K) → arrived place ≡ Some k → moves place k ≡ Some m
    → advance join moves place arrived ≡ option_and_then (jump_on join m.jump) (jump_on join (target_next place m.next) arrived)
advance_is join moves place arrived k m is e =
    ap (λ o. option_and_then (λ x. spread join place x arrived) (moves_at (moves place) o)) is ∙ ap (option_and_then (λ x. spread join place x arrived)) e ∙ ap (option_and_then (jump_on join m.jump)) (next_same join place m.next arrived)

-- all of a place, by what the two arrivals found
pub record Both {K : Type 0} (join : K → K → Option K) (moves : ℕ → K → Option (Moves K)) (place : ℕ) (old : List (Option K)) (k : K) (m : Moves K) (first : Bool) (mid : List (Option K)) : Type 0 where
  pub low : place + 1 < length old
  pub holds : held old place ≡ Some k
  pub moves_are : moves place k ≡ Some m
  pub ahead : IsAheadOf (length old) place m.jump
  pub comes : Comes join (target_next place m.next) (slice_set old place None) first mid

held_at : {K : Type 0} (place : ℕ) (old : List (Option K)) (arrived : Arrived K) (k : K) → place + 1 < length old → StandsFor place old arrived → held old place ≡ Some k → arrived place ≡ Some k
held_at place old arrived k low s h = sym (s.same place (omega arith) (omega arith)) ∙ h

first_on : {K : Type 0} (join : K → K → Option K) (moves : ℕ → K → Option (Moves K)) (place : ℕ) (old : List (Option K)) (k : K) (m : Moves K) (first : Bool) (mid : List (Option K)) → Both join moves place old k m first mid → (arrived : Arrived K) → StandsFor place old arrived
    → Onward join (place + 1) (target_next place m.next) first (slice_set old place None) mid arrived
first_on join moves place old k m first mid b arrived s =
    let l = set_length old place None in
    coming join place (target_next place m.next) first (slice_set old place None) mid arrived (next_ahead (length (slice_set old place None)) place m.next (omega (arith, b.low))) (taken_out place old arrived None s) b.comes

pub goes_over : {K : Type 0} (join : K → K → Option K) (moves : ℕ → K → Option (Moves K)) (place : ℕ) (old : List (Option K)) (k : K) (m : Moves K) (mid new : List (Option K)) → Both join moves place old k m true mid → length mid ≡ length old → Comes join m.jump mid true new → GoesOver join moves place old new
goes_over {K = K} join moves place old k m mid new b long c = (by_length, by_arrived)
  where
    ahead : IsAheadOf (length mid) place m.jump
    ahead = subst (λ n. IsAheadOf n place m.jump) (sym long) b.ahead

    by_length : length new ≡ length old
    by_length = longer m.jump c
      where
        longer : (o : Option (ℕ × K)) → Comes join o mid true new → length new ≡ length old
        longer None c = ap length c.1 ∙ long
        longer (Some t) c = ap length c.now ∙ set_length mid t.0 (merged join (held mid t.0) t.1) ∙ long

    by_arrived : (arrived : Arrived K) → StandsFor place old arrived → Goes join moves place old new arrived
    by_arrived arrived s =
        let f = (first_on join moves place old k m true mid b arrived s).yes refl in
        let g = (coming join place m.jump true mid new f.0 ahead f.2 c).yes refl in
        record { next = g.0; advances = advance_is join moves place arrived k m (held_at place old arrived k b.low s b.holds) b.moves_are ∙ ap (option_and_then (jump_on join m.jump)) f.1 ∙ g.1; stands = g.2 }

pub stops_first : {K : Type 0} (join : K → K → Option K) (moves : ℕ → K → Option (Moves K)) (place : ℕ) (old : List (Option K)) (k : K) (m : Moves K) (mid : List (Option K)) → Both join moves place old k m false mid → (arrived : Arrived K) → StandsFor place old arrived → advance join moves place arrived ≡ None
stops_first join moves place old k m mid b arrived s =
    let f = (first_on join moves place old k m false mid b arrived s).no refl in
    advance_is join moves place arrived k m (held_at place old arrived k b.low s b.holds) b.moves_are ∙ ap (option_and_then (jump_on join m.jump)) f

pub stops_second : {K : Type 0} (join : K → K → Option K) (moves : ℕ → K → Option (Moves K)) (place : ℕ) (old : List (Option K)) (k : K) (m : Moves K) (mid new : List (Option K)) → Both join moves place old k m true mid → length mid ≡ length old → Comes join m.jump mid false new
    → (arrived : Arrived K) → StandsFor place old arrived → advance join moves place arrived ≡ None
stops_second join moves place old k m mid new b long c arrived s =
    let f = (first_on join moves place old k m true mid b arrived s).yes refl in
    let ahead = subst (λ n. IsAheadOf n place m.jump) (sym long) b.ahead in
    let g = (coming join place m.jump false mid new f.0 ahead f.2 c).no refl in
    advance_is join moves place arrived k m (held_at place old arrived k b.low s b.holds) b.moves_are ∙ ap (option_and_then (jump_on join m.jump)) f.1 ∙ g

pub stops_moves : {K : Type 0} (join : K → K → Option K) (moves : ℕ → K → Option (Moves K)) (place : ℕ) (old : List (Option K)) (k : K) → place + 1 < length old → held old place ≡ Some k → moves place k ≡ None → (arrived : Arrived K) → StandsFor place old arrived → advance join moves place arrived ≡ None
stops_moves join moves place old k low h none arrived s =
    ap (λ o. option_and_then (λ x. spread join place x arrived) (moves_at (moves place) o)) (held_at place old arrived k low s h) ∙ ap (option_and_then (λ x. spread join place x arrived)) none

-- a refusal of the place, whichever it is
pub stop_with : {K R : Type 0} (join : K → K → Option K) (moves : ℕ → K → Option (Moves K)) (refuses : ℕ → K → R → Type 0) (place : ℕ) (old : List (Option K)) (k : K) → held old place ≡ Some k
    → ((arrived : Arrived K) → StandsFor place old arrived → advance join moves place arrived ≡ None) → (r : R) → refuses place k r → StopsHere join moves refuses place old r
stop_with join moves refuses place old k h none r p = record { none = none; facts = k; holds = h; reason = p }

-- a place at which nothing waits
pub goes_past : {K : Type 0} (join : K → K → Option K) (moves : ℕ → K → Option (Moves K)) (place : ℕ) (old : List (Option K)) (x : Option K) → place + 1 < length old → held old place ≡ None → GoesOver join moves place old (slice_set old place x)
goes_past join moves place old x low h = (
  set_length old place x,
  λ arrived s.
      let nothing = sym (s.same place (omega arith) (omega arith)) ∙ h in
      record { next = arrived; advances = ap (λ o. option_and_then (λ m. spread join place m arrived) (moves_at (moves place) o)) nothing; stands = taken_out place old arrived x s },
)

-- the pass stops where a step does
pub stopped_at : {K R : Type 0} (join : K → K → Option K) (moves : ℕ → K → Option (Moves K)) (refuses : ℕ → K → R → Type 0) (entry : K) (count place : ℕ) (table : List (Option K)) → place < count → IsAt join moves entry count place table
    → (r : R) → StopsHere join moves refuses place table r → IsRefusedAt join moves refuses entry count r
stopped_at join moves refuses entry count place table low at r p = record {
  place = place;
  arrived = at.arrived;
  facts = p.facts;
  inside = low;
  before = at.passed_is;
  none = p.none at.arrived at.stands;
  arrived_is = sym (at.stands.same place (omega arith) (omega (arith, at.long))) ∙ p.holds;
  reason = p.reason;
}

pub goes_on : {K : Type 0} (join : K → K → Option K) (moves : ℕ → K → Option (Moves K)) (entry : K) (count place : ℕ) (old new : List (Option K)) → IsAt join moves entry count place old → GoesOver join moves place old new → IsAt join moves entry count (place + 1) new
goes_on join moves entry count place old new at g =
    let h = g.1 at.arrived at.stands in
    record { long = g.0 ∙ at.long; arrived = h.next; passed_is = ap (passed join moves entry) (add-one place) ∙ ap (option_and_then (advance join moves place)) at.passed_is ∙ h.advances; stands = h.stands }

pub gone_over : {K : Type 0} (join : K → K → Option K) (moves : ℕ → K → Option (Moves K)) (entry : K) (count place : ℕ) (table : List (Option K)) → IsAt join moves entry count place table → place ≡ count → PassesOver join moves entry count
gone_over join moves entry count place table at e = (at.arrived, subst (λ n. passed join moves entry n ≡ Some at.arrived) e at.passed_is)

pub held_is : {K : Type 0} (old : List (Option K)) (place : ℕ) (item : Option K) → place < length old → item ≡ get_or old place item → held old place ≡ item
held_is old place item low is = ap flat (slice_get-get_or old place item low) ∙ sym is

pub in_table : {K : Type 0} (total place : ℕ) (o : Option (ℕ × K)) → IsAheadOf total place o → IsInTable total o
in_table total place None h = tt
in_table total place (Some t) h = h.1

pub both_of : {K : Type 0} (join : K → K → Option K) (moves : ℕ → K → Option (Moves K)) (place : ℕ) (old mid : List (Option K)) (item taken x : Option K) (k : K) (m : Moves K) (target : Option (ℕ × K)) (found b : Bool) → place + 1 < length old → item ≡ get_or old place item → taken ≡ item → taken ≡ Some k → x ≡ None
    → moves place k ≡ Some m → IsAheadOf (length old) place m.jump → target ≡ target_next place m.next → Comes join target (slice_set old place x) found mid → found ≡ b → Both join moves place old k m b mid
both_of join moves place old mid item taken x k m target found b low is t s none moves_are ahead ti comes f =
    let inside : place < length old = omega arith in
    record {
      low = low;
      holds = ap flat (slice_get-get_or old place item inside) ∙ sym is ∙ sym t ∙ s;
      moves_are = moves_are;
      ahead = ahead;
      comes = subst (λ o. Comes join o (slice_set old place None) b mid) ti (subst (λ y. Comes join target (slice_set old place y) b mid) none (subst (λ y. Comes join target (slice_set old place x) y mid) f comes));
    }

comes_length : {K : Type 0} (join : K → K → Option K) (target : Option (ℕ × K)) (old new : List (Option K)) (found : Bool) → Comes join target old found new → length new ≡ length old
comes_length join None old new found c = ap length c.1
comes_length join (Some t) old new found c = ap length c.now ∙ set_length old t.0 (merged join (held old t.0) t.1)

pub both_length : {K : Type 0} (join : K → K → Option K) (moves : ℕ → K → Option (Moves K)) (place : ℕ) (old : List (Option K)) (k : K) (m : Moves K) (first : Bool) (mid : List (Option K)) → Both join moves place old k m first mid → length mid ≡ length old
both_length join moves place old k m first mid b = comes_length join (target_next place m.next) (slice_set old place None) mid first b.comes ∙ set_length old place None

-- ONE MORE PLACE

get_front : {X : Type 0} (xs : List X) (x : X) (p : ℕ) → p < length xs → slice_get (xs ++ x ∷ []) p ≡ slice_get xs p
get_front [] x p h = absurd (omega arith)
get_front (y ∷ xs) x zero h = refl
get_front (y ∷ xs) x (suc p) h = get_front xs x p (omega arith)

held_more : {K : Type 0} (xs : List (Option K)) (p : ℕ) → held (xs ++ None ∷ []) p ≡ held xs p
held_more [] zero = refl
held_more [] (suc p) = refl
held_more (y ∷ xs) zero = refl
held_more (y ∷ xs) (suc p) = held_more xs p

length_more : {X : Type 0} (xs : List X) (x : X) → length (xs ++ x ∷ []) ≡ length xs + 1
length_more [] x = refl
length_more (y ∷ xs) x = let h = length_more xs x in omega arith

pub fresh_one : {K : Type 0} (entry : K) (new : List (Option K)) → new ≡ Some entry ∷ [] → IsFresh entry 0 new
fresh_one {K = K} entry new e = subst (IsFresh entry 0) (sym e) (record { long = refl; same = same })
  where
    same : (p : ℕ) → held (Some entry ∷ []) p ≡ at_entry entry p
    same zero = refl
    same (suc p) = sym (ap (λ b. cond b (Some entry) None) (ne_eqb (suc p) 0 (λ e. omega arith)))

pub fresh_more : {K : Type 0} (entry : K) (n : ℕ) (old new : List (Option K)) → IsFresh entry n old → new ≡ old ++ None ∷ [] → IsFresh entry (n + 1) new
fresh_more entry n old new f e = record {
  long = ap length e ∙ length_more old None ∙ ap (λ k. k + 1) f.long;
  same = λ p. ap (λ t. held t p) e ∙ held_more old p ∙ f.same p;
}

pub fresh_is : {K : Type 0} (join : K → K → Option K) (moves : ℕ → K → Option (Moves K)) (entry : K) (count : ℕ) (table : List (Option K)) → IsFresh entry count table → IsAt join moves entry count 0 table
fresh_is join moves entry count table f = record { long = f.long; arrived = at_entry entry; passed_is = refl; stands = record { same = λ p le low. f.same p } }

pub pushed : {X : Type 0} (old new : List X) (x : X) (t : Bool) → new ≡ (if t then old ++ x ∷ [] else old) → t ≡ true → new ≡ old ++ x ∷ []
pushed old new x t e is = e ∙ ap (λ b. if b then old ++ x ∷ [] else old) is

-- a step that goes on, and one that stops
pub stepped_on : {K R : Type 0} (join : K → K → Option K) (moves : ℕ → K → Option (Moves K)) (refuses : ℕ → K → R → Type 0) (entry : K) (count place : ℕ) (old new : List (Option K)) (o : Option R) → IsAt join moves entry count place old → IsStepped join moves refuses place old new o → is_some o ≡ false → IsAt join moves entry count (place + 1) new
stepped_on join moves refuses entry count place old new None at s e = goes_on join moves entry count place old new at s
stepped_on join moves refuses entry count place old new (Some r) at s e = let bad : true ≡ false = e in cc

pub stepped_off : {K R : Type 0} (join : K → K → Option K) (moves : ℕ → K → Option (Moves K)) (refuses : ℕ → K → R → Type 0) (entry : K) (count place : ℕ) (old new : List (Option K)) (o : Option R) → place < count → IsAt join moves entry count place old → IsStepped join moves refuses place old new o → is_some o ≡ true → IsPassed join moves refuses entry count o
stepped_off join moves refuses entry count place old new None low at s e = let bad : false ≡ true = e in cc
stepped_off join moves refuses entry count place old new (Some r) low at s e = stopped_at join moves refuses entry count place old low at r s

-- what a step asks for
pub at_fine : {K : Type 0} (join : K → K → Option K) (moves : ℕ → K → Option (Moves K)) (takes : K → Type 0) (entry : K) (count place : ℕ) (table : List (Option K)) → IsFineBelow join moves takes entry count → IsAt join moves entry count place table → place < count → (k : K) → held table place ≡ Some k → takes k
at_fine join moves takes entry count place table fine at low k is = fine place at.arrived k low at.passed_is (sym (at.stands.same place (omega arith) (omega (arith, at.long))) ∙ is)

pub at_ahead : {K : Type 0} (join : K → K → Option K) (moves : ℕ → K → Option (Moves K)) (entry : K) (count place : ℕ) (table : List (Option K)) → IsAheadBelow moves count → IsAt join moves entry count place table → place < count → (k : K) (m : Moves K) → moves place k ≡ Some m → IsAheadOf (length table) place m.jump
at_ahead join moves entry count place table ahead at low k m is = subst (λ t. IsAheadOf t place m.jump) (sym at.long) (ahead place k m low is)
