-- The tally's halves agree, whatever they do.
use Rattle.std.proofs.Common.{◌≡◌, ◌≢◌, ◌⊎◌, ⊎_elim, inl, inr, ℕ, ◌+◌, ◌≤◌, List, [], ◌∷◌, ◌++◌, length, refl, sym, ap, ◌∙◌, arith, set, subst, zero, suc}
use Rattle.std.specs.Prelude.{sum_by, slice_index}
use Rattle.std.proofs.lemmas.List.Sums.{sum_by-cons}
use mathlib.Core.Option.{none, some, some-injective, some-ne-none}
use lib.ListN.{get_elem?}
use Rattle.atomic_table.specs.Table.{State, step, Allows, keeps, Splits, Joins, opening}
use Rattle.atomic_table.proofs.Lists.{at_set, set_else}
use Rattle.group_spec.specs.declared.calls.Call.{Call}
use Rattle.threads_desk.proofs.Sums.{sum-set, sum-push, sum-holds}
use Rattle.threads_station.specs.declared.tally.View.{View}
use Rattle.threads_station.specs.declared.tally.View.TheVariants.{Half, Both, Spent}
use Rattle.threads_station.specs.Halves.{halves, Knows, Agrees, opening_view, together, first_half, second_half, Enters, EntersAs, known, IsHalf}

opens-each : (key id : ℕ) (v : View) → get_elem? (opening_view key ∷ []) id ≡ some v → Knows [] v
opens-each key zero v e = subst (Knows []) (some-injective _ v e) (refl, refl)
opens-each key (suc id) v e = absurd (some-ne-none v (sym e))

pub opens : (key : ℕ) (words : List ℕ) → Agrees key (opening {S = ℕ} words [] (opening_view key))
opens key words = record { calls = []; each = opens-each key; two = omega (arith, sum_by-cons halves (opening_view key) []) }

-- who has no half knows any calls
spent-knows : (calls : List Call) (u : View) → halves u ≡ 0 → Knows calls u
spent-knows calls (Half own) idle = absurd (omega (arith, idle))
spent-knows calls (Both here there) idle = absurd (omega (arith, idle))
spent-knows calls Spent idle = tt

-- beside both halves no one has any
alone : (views : List View) (id : ℕ) (here there : List Call) → sum_by halves views ≡ 2 → get_elem? views id ≡ some (Both here there) → (j : ℕ) (u : View) → get_elem? views j ≡ some u → j ≢ id → halves u ≡ 0
alone views id here there two at j u is other =
    let gone = sum-set halves views id (Both here there) Spent at in
    let least = sum-holds halves (set views id Spent) j u (set_else views id j Spent other ∙ is) in
    omega arith

pub enter-allows : (key slots i id : ℕ) (here there calls : List Call) (c : List (ℕ × ℕ)) → Allows (Agrees key) slots id (Both here there, c) i (λ n. n) (Enters calls (step slots i 0 0 none) (Both here there, c))
enter-allows key slots i id here there calls c s a homes at fits =
    let v = Both here there in
    let w = Both (here ++ calls) (there ++ calls) in
    let own : (here ≡ a.calls) × (there ≡ a.calls) = a.each id v at in (
      w,
      keeps,
      tt,
      record {
        calls = a.calls ++ calls;
        each =
            λ j u e.
            ⊎_elim
            (λ (t : (j ≡ id) × (w ≡ u)). subst (Knows (a.calls ++ calls)) t.1 (ap (λ l. l ++ calls) own.0, ap (λ l. l ++ calls) own.1))
            (λ (t : (j ≢ id) × (get_elem? s.views j ≡ some u)). spent-knows (a.calls ++ calls) u (alone s.views id here there a.two at j u t.1 t.0))
            (at_set s.views id j w u e);
        two = (let p = sum-set halves s.views id v w at in omega (arith, a.two));
      },
      (refl, (own.0 ∙ sym own.1, refl)),
    )

at-push : (xs : List View) (x u : View) (j : ℕ) → get_elem? (xs ++ x ∷ []) j ≡ some u → (get_elem? xs j ≡ some u) ⊎ (x ≡ u)
at-push [] x u zero e = inr (some-injective x u e)
at-push [] x u (suc j) e = absurd (some-ne-none u (sym e))
at-push (y ∷ ys) x u zero e = inl e
at-push (y ∷ ys) x u (suc j) e = at-push ys x u j e

pub parts : (key id : ℕ) (here there : List Call) → Splits {S = ℕ} (Agrees key) id (Both here there) (Half here) (Half there)
parts key id here there s a at =
    let v = Both here there in
    let own : (here ≡ a.calls) × (there ≡ a.calls) = a.each id v at in
    record {
      calls = a.calls;
      each =
          λ j u e.
          ⊎_elim
          (λ (r : get_elem? (set s.views id (Half here)) j ≡ some u).
          ⊎_elim
          (λ (t : (j ≡ id) × (Half here ≡ u)). subst (Knows a.calls) t.1 own.0)
          (λ (t : (j ≢ id) × (get_elem? s.views j ≡ some u)). a.each j u t.1)
          (at_set s.views id j (Half here) u r))
          (λ (t : Half there ≡ u). subst (Knows a.calls) t own.1)
          (at-push (set s.views id (Half here)) (Half there) u j e);
      two = (let p = sum-set halves s.views id v (Half here) at in omega (arith, a.two, sum-push halves (set s.views id (Half here)) (Half there)));
    }

pub joins : (key id other : ℕ) (own its : List Call) → Joins {S = ℕ} (Agrees key) id (Half own) other (Half its) (Both own its) Spent
joins key id other own its s a at apart there =
    let w = Both own its in
    let was : get_elem? s.views other ≡ some (Half its) = sym (set_else s.views id other w apart) ∙ there in
    let mine : own ≡ a.calls = a.each id (Half own) at in
    let yours : its ≡ a.calls = a.each other (Half its) was in
    record {
      calls = a.calls;
      each =
          λ j u e.
          ⊎_elim
          (λ (t : (j ≡ other) × (Spent ≡ u)). subst (Knows a.calls) t.1 tt)
          (λ (r : (j ≢ other) × (get_elem? (set s.views id w) j ≡ some u)).
          ⊎_elim
          (λ (t : (j ≡ id) × (w ≡ u)). subst (Knows a.calls) t.1 (mine, yours))
          (λ (t : (j ≢ id) × (get_elem? s.views j ≡ some u)). a.each j u t.1)
          (at_set s.views id j w u r.1))
          (at_set (set s.views id w) other j Spent u e);
      two =
          (let p = sum-set halves s.views id (Half own) w at in
          let q = sum-set halves (set s.views id w) other (Half its) Spent there in
          omega (arith, a.two));
    }

-- BY WHAT A BADGE SHOWS

same_view : (v w : View) → ◌≡◌ {A = List View} (v ∷ []) (w ∷ []) → v ≡ w
same_view v w e = cc

-- a badge that is one half gives a seat that is one
pub half_is : (views : List View) (v : View) → IsHalf views → views ≡ v ∷ [] → v ≡ Half (known views)
half_is views v half is = same_view v (Half (known views)) (sym is ∙ half)

pub both_is : (views : List View) (v : View) (key : ℕ) → views ≡ opening_view key ∷ [] → views ≡ v ∷ [] → v ≡ Both [] []
both_is views v key opened is = same_view v (Both [] []) (sym is ∙ opened)

pub known_is : (views : List View) (v : View) (calls : List Call) → views ≡ v ∷ [] → v ≡ Half calls → known views ≡ calls
known_is views v calls is half = ap known (is ∙ ap (λ u. u ∷ []) half)

pub is_half : (views : List View) (v : View) (calls : List Call) → views ≡ v ∷ [] → v ≡ Half calls → IsHalf views
is_half views v calls is half = let whole : views ≡ Half calls ∷ [] = is ∙ ap (λ u. u ∷ []) half in rw whole refl

pub joins_so : (key id other : ℕ) (v w : View) (own its : List Call) → v ≡ Half own → w ≡ Half its → Joins {S = ℕ} (Agrees key) id v other w (together v w) Spent
joins_so key id other v w own its first second = rw (first, second) (joins key id other own its)

pub together_is : (v w : View) (own its : List Call) → v ≡ Half own → w ≡ Half its → together v w ≡ Both own its
together_is v w own its first second = rw (first, second) refl

pub enter_so : (key slots i id : ℕ) (m : View) (own its calls : List Call) (c : List (ℕ × ℕ)) → m ≡ Both own its → Allows (Agrees key) slots id (m, c) i (λ n. n) (Enters calls (step slots i 0 0 none) (m, c))
enter_so key slots i id m own its calls c is = rw is (enter-allows key slots i id own its calls c)

pub entered_so : (m w : View) (own its calls : List Call) → m ≡ Both own its → EntersAs calls m w → (own ≡ its) × (w ≡ Both (own ++ calls) (its ++ calls))
entered_so m w own its calls is told = subst (λ v. EntersAs calls v w) is told

pub parts_so : (key id : ℕ) (m : View) (own its : List Call) → m ≡ Both own its → Splits {S = ℕ} (Agrees key) id m (first_half m) (second_half m)
parts_so key id m own its is = rw is (parts key id own its)

pub first_is : (m : View) (own its : List Call) → m ≡ Both own its → first_half m ≡ Half own
first_is m own its is = ap first_half is

pub second_is : (m : View) (own its : List Call) → m ≡ Both own its → second_half m ≡ Half its
second_is m own its is = ap second_half is
