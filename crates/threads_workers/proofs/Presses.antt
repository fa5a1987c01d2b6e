-- What panels make of the presses of a run.
use Rattle.std.proofs.Common.{◌≡◌, ◌≢◌, ℕ, zero, suc, ◌+◌, ◌-◌, ◌*◌, ◌/◌, ◌%◌, ◌<◌, ◌≤◌, Bool, true, false, ◌&&◌, ◌==◌, List, [], ◌∷◌, ◌++◌, length, map, filter, refl, sym, ap, ap₂, ◌∙◌, arith, subst, append_assoc, append-nil, ne_eqb, eqb-true, take, get_or}
use Rattle.std.specs.Prelude.{All, slice_get, Some, sum_by, if◌then◌else◌}
use Rattle.std.proofs.lemmas.Bool.{and_left, and_right}
use Rattle.std.proofs.lemmas.Bool.Decides.{nat_tests}
use Rattle.std.proofs.lemmas.List.{take_more}
use Rattle.std.proofs.lemmas.List.Elements.{All-head, All-tail, All-nil, All-cons}
use Rattle.std.proofs.lemmas.List.Sums.{sum_by-cons}
use Rattle.threads_desk.specs.Account.{call, times}
use Rattle.threads_desk.specs.Passes.{Layout, Panel, AreNewPanels, Answered, IsFloorOf}
use Rattle.threads_desk.specs.declared.desk.Pressed.{Pressed}
use Rattle.threads_desk.specs.declared.desk.Pressed.TheVariants.{New, Already, SameFloor}
use Rattle.threads_desk.proofs.Sums.{times-append}
use Rattle.cli_host.specs.declared.press.Press.{Press}
use Rattle.group_rounds.specs.Driven.{call_of}
use Rattle.group_spec.specs.declared.calls.Call.{Call}
use Rattle.threads_workers.specs.Panels.{IsPressAt, is_at, calls_at, HasPressed, IsIdle, at_panel, pressed}
use Rattle.group_spec.proofs.Laws.{both_true}

-- CALLS OF A PANEL

calls_none : (floor panel : ℕ) (press : Press) → is_at floor panel press ≡ false → calls_at floor panel (press ∷ []) ≡ []
calls_none floor panel press is = rw is refl

calls_one : (floor panel : ℕ) (press : Press) → is_at floor panel press ≡ true → calls_at floor panel (press ∷ []) ≡ call_of press ∷ []
calls_one floor panel press is = rw is refl

pub calls_append : (floor panel : ℕ) (xs ys : List Press) → calls_at floor panel (xs ++ ys) ≡ calls_at floor panel xs ++ calls_at floor panel ys
calls_append floor panel [] ys = refl
calls_append floor panel (x ∷ xs) ys = by (is_at floor panel x) refl (calls_append floor panel xs ys)
  where
    by : (b : Bool) → is_at floor panel x ≡ b → calls_at floor panel (xs ++ ys) ≡ calls_at floor panel xs ++ calls_at floor panel ys → calls_at floor panel ((x ∷ xs) ++ ys) ≡ calls_at floor panel (x ∷ xs) ++ calls_at floor panel ys
    by true e rest = rw e (ap (λ cs. call_of x ∷ cs) rest)
    by false e rest = rw e rest

at_more : (c : Call) (x : Press) (xs : List Press) (p : Panel) → at_panel c (x ∷ xs) p ≡ at_panel c (x ∷ []) p + at_panel c xs p
at_more c x xs p = ap (times c) (calls_append p.floor p.panel (x ∷ []) xs) ∙ times-append c (calls_at p.floor p.panel (x ∷ [])) (calls_at p.floor p.panel xs)

-- ONE PRESS

pub pressed_none : (p : Panel) (press : Press) → is_at p.floor p.panel press ≡ false → HasPressed p p (press ∷ [])
pressed_none p press is = record {
  table = refl;
  floor = refl;
  panel = refl;
  pressed = sym (append-nil p.pressed) ∙ ap (λ cs. p.pressed ++ cs) (sym (calls_none p.floor p.panel press is));
  news = λ c. omega arith;
}

module _ (p : Panel) (press : Press) (to : ℕ) (to-is : to ≡ press.to) (differ : press.from ≢ press.to) (is : is_at p.floor p.panel press ≡ true) where
  own : press.from ≡ p.floor
  own = eqb-true press.from p.floor (both_true (press.from == p.floor) (press.panel == p.panel) is).0

  one : calls_at p.floor p.panel (press ∷ []) ≡ call p.floor to ∷ []
  one = calls_one p.floor p.panel press is ∙ (λ j. record { from = own j; to = sym to-is j } ∷ [])

  more : (q : Panel) → q.pressed ≡ p.pressed ++ call p.floor to ∷ [] → q.pressed ≡ p.pressed ++ calls_at p.floor p.panel (press ∷ [])
  more q e = e ∙ ap (λ cs. p.pressed ++ cs) (sym one)

  pub pressed_one : (q : Panel) (answer : Pressed) → Answered p to answer q → HasPressed p q (press ∷ [])
  pressed_one q New told = record {
    table = ap (λ (x : Panel). x.table) told.1;
    floor = ap (λ (x : Panel). x.floor) told.1;
    panel = ap (λ (x : Panel). x.panel) told.1;
    pressed = more q (ap (λ (x : Panel). x.pressed) told.1);
    news =
        λ c.
        let n = ap (λ (x : Panel). times c x.news) told.1 ∙ times-append c p.news (call p.floor to ∷ []) in
        let m = ap (λ (x : Panel). times c x.pressed) told.1 ∙ times-append c p.pressed (call p.floor to ∷ []) in
        omega (arith, n, m);
  }
  pressed_one q Already told = record {
    table = ap (λ (x : Panel). x.table) told.1;
    floor = ap (λ (x : Panel). x.floor) told.1;
    panel = ap (λ (x : Panel). x.panel) told.1;
    pressed = more q (ap (λ (x : Panel). x.pressed) told.1);
    news =
        λ c.
        let n = ap (λ (x : Panel). times c x.news) told.1 in
        let m = ap (λ (x : Panel). times c x.pressed) told.1 ∙ times-append c p.pressed (call p.floor to ∷ []) in
        omega (arith, n, m);
  }
  pressed_one q SameFloor told = absurd (differ (own ∙ told.0 ∙ to-is))

-- ONE AFTER ANOTHER

pub pressed_nothing : (p : Panel) → HasPressed p p []
pressed_nothing p = record { table = refl; floor = refl; panel = refl; pressed = sym (append-nil p.pressed); news = λ c. omega arith }

pub pressed_on : (p q r : Panel) (xs : List Press) (x : Press) → HasPressed p q xs → HasPressed q r (x ∷ []) → HasPressed p r (xs ++ x ∷ [])
pressed_on p q r xs x first next = record {
  table = next.table ∙ first.table;
  floor = next.floor ∙ first.floor;
  panel = next.panel ∙ first.panel;
  pressed =
      next.pressed ∙ ap₂ (λ f n. q.pressed ++ calls_at f n (x ∷ [])) first.floor first.panel ∙ ap (λ cs. cs ++ calls_at p.floor p.panel (x ∷ [])) first.pressed
      ∙ append_assoc p.pressed (calls_at p.floor p.panel xs) (calls_at p.floor p.panel (x ∷ [])) ∙ ap (λ cs. p.pressed ++ cs) (sym (calls_append p.floor p.panel xs (x ∷ [])));
  news = λ c. omega (arith, first.news c, next.news c);
}

-- nothing is for a panel where no press is
pub calls_lack : (floor panel : ℕ) (xs : List Press) (x : Press) → calls_at floor panel xs ≡ [] → is_at floor panel x ≡ false → calls_at floor panel (xs ++ x ∷ []) ≡ []
calls_lack floor panel xs x none is = calls_append floor panel xs (x ∷ []) ∙ ap₂ (λ a b. a ++ b) none (calls_none floor panel x is)

-- ALL PANELS

sum_both : (f g h : Panel → ℕ) → ((p : Panel) → h p ≡ f p + g p) → (ps : List Panel) → sum_by h ps ≡ sum_by f ps + sum_by g ps
sum_both f g h each [] = refl
sum_both f g h each (p ∷ ps) = omega (arith, each p, sum_both f g h each ps, sum_by-cons f p ps, sum_by-cons g p ps, sum_by-cons h p ps)

sum_zero : (f : Panel → ℕ) (ps : List Panel) → ((k : ℕ) (p : Panel) → slice_get ps k ≡ Some p → f p ≡ 0) → sum_by f ps ≡ 0
sum_zero f [] none = refl
sum_zero f (p ∷ ps) none = omega (arith, none 0 p refl, sum_zero f ps (λ k q at. none (suc k) q at), sum_by-cons f p ps)

-- just one of them counts
sum_one : (f : Panel → ℕ) (ps : List Panel) (id t : ℕ) → id < length ps → ((k : ℕ) (p : Panel) → slice_get ps k ≡ Some p → k ≡ id → f p ≡ t) → ((k : ℕ) (p : Panel) → slice_get ps k ≡ Some p → k ≢ id → f p ≡ 0) → sum_by f ps ≡ t
sum_one f [] id t low own others = absurd (omega (arith, low))
sum_one f (p ∷ ps) zero t low own others =
    let rest = sum_zero f ps (λ k q at. others (suc k) q at (λ same. absurd (omega (arith, same)))) in
    omega (arith, own 0 p refl refl, rest, sum_by-cons f p ps)
sum_one f (p ∷ ps) (suc id) t low own others =
    let first : f p ≡ 0 = others 0 p refl (λ same. absurd (omega (arith, same))) in
    let rest = sum_one f ps id t (omega (arith, low)) (λ k q at same. own (suc k) q at (ap suc same)) (λ k q at other. others (suc k) q at (λ same. other (omega (arith, same)))) in
    omega (arith, first, rest, sum_by-cons f p ps)

module _ (d : Layout) (ps : List Panel) (new : AreNewPanels d ps) (four : d.panels ≡ 4) where
  floor_is : (k : ℕ) (p : Panel) → slice_get ps k ≡ Some p → p.floor ≡ k / 4 + 1
  floor_is k p at = ap (λ (x : Panel). x.floor) (new.1 k p at) ∙ ap (λ n. k / n + 1) four

  panel_is : (k : ℕ) (p : Panel) → slice_get ps k ≡ Some p → p.panel ≡ k % 4 + 1
  panel_is k p at = ap (λ (x : Panel). x.panel) (new.1 k p at) ∙ ap (λ n. k % n + 1) four

  module _ (c : Call) (press : Press) (fits : IsPressAt d.floors press) where
    abbrev place : ℕ
    place = (press.from - 1) * 4 + (press.panel - 1)

    within : place < length ps
    within = let many : length ps ≡ d.floors * 4 = new.0 ∙ ap (λ n. d.floors * n) four in omega (arith, many, fits.0.0, fits.0.1, fits.3, fits.4)

    is_place : (p : Panel) (k : ℕ) → p.floor ≡ k / 4 + 1 → p.panel ≡ k % 4 + 1 → is_at p.floor p.panel press ≡ true → k ≡ place
    is_place p k f n is =
        let parts = both_true (press.from == p.floor) (press.panel == p.panel) is in
        let from = eqb-true press.from p.floor parts.0 in
        let panel = eqb-true press.panel p.panel parts.1 in
        omega (arith, f, n, from, panel)

    here : (p : Panel) (k : ℕ) → p.floor ≡ k / 4 + 1 → p.panel ≡ k % 4 + 1 → k ≡ place → is_at p.floor p.panel press ≡ true
    here p k f n same =
        let from : press.from ≡ p.floor = omega (arith, f, same, fits.0.0, fits.3, fits.4) in
        let panel : press.panel ≡ p.panel = omega (arith, n, same, fits.0.0, fits.3, fits.4) in
        grind (arith, nat_tests)

    elsewhere : (p : Panel) (k : ℕ) → p.floor ≡ k / 4 + 1 → p.panel ≡ k % 4 + 1 → k ≢ place → (b : Bool) → is_at p.floor p.panel press ≡ b → b ≡ false
    elsewhere p k f n other true is = absurd (other (is_place p k f n is))
    elsewhere p k f n other false is = refl

    one_panel : sum_by (λ (p : Panel). at_panel c (press ∷ []) p) ps ≡ times c (call_of press ∷ [])
    one_panel =
        sum_one (λ (p : Panel). at_panel c (press ∷ []) p) ps place (times c (call_of press ∷ [])) within
        (λ k p at same. ap (times c) (calls_one p.floor p.panel press (here p k (floor_is k p at) (panel_is k p at) same)))
        (λ k p at other. let no = elsewhere p k (floor_is k p at) (panel_is k p at) other (is_at p.floor p.panel press) refl in ap (times c) (calls_none p.floor p.panel press no))

  -- each press is at one of the panels
  pub all_pressed : (c : Call) (presses : List Press) → All (λ (press : Press). IsPressAt d.floors press) presses → sum_by (λ (p : Panel). at_panel c presses p) ps ≡ pressed presses c
  all_pressed c [] all = sum_zero (λ (p : Panel). at_panel c [] p) ps (λ k p at. refl)
  all_pressed c (press ∷ presses) all =
      let first = one_panel c press (All-head (λ (x : Press). IsPressAt d.floors x) press presses all) in
      let rest = all_pressed c presses (All-tail (λ (x : Press). IsPressAt d.floors x) press presses all) in
      let both = sum_both (λ (p : Panel). at_panel c (press ∷ []) p) (λ (p : Panel). at_panel c presses p) (λ (p : Panel). at_panel c (press ∷ presses) p) (at_more c press presses) ps in
      omega (arith, first, rest, both, times-append c (call_of press ∷ []) (map call_of presses))

  all_by : (P : Panel → Type 0) (xs : List Panel) → ((k : ℕ) (p : Panel) → slice_get xs k ≡ Some p → P p) → All P xs
  all_by P [] each = All-nil P
  all_by P (x ∷ xs) each = All-cons P x xs (each 0 x refl) (all_by P xs (λ k p at. each (suc k) p at))

  -- at first no panel pressed anything
  pub all_idle : All (λ (p : Panel). IsIdle d.table p) ps
  all_idle =
      all_by (λ (p : Panel). IsIdle d.table p) ps
      (λ k p at. (ap (λ (x : Panel). x.table) (new.1 k p at), ap (λ (x : Panel). x.news) (new.1 k p at), ap (λ (x : Panel). x.pressed) (new.1 k p at)))

-- A SLICE, PRESS BY PRESS

pub pressed_next : (p q r : Panel) (presses : List Press) (i : ℕ) (x : Press) → i < length presses → x ≡ get_or presses i x → HasPressed p q (take i presses) → HasPressed q r (x ∷ []) → HasPressed p r (take (i + 1) presses)
pressed_next p q r presses i x low is first next = subst (HasPressed p r) (sym (take_more presses i x low ∙ ap (λ y. take i presses ++ y ∷ []) (sym is))) (pressed_on p q r (take i presses) x first next)

pub lack_next : (floor panel : ℕ) (presses : List Press) (i : ℕ) (x : Press) → i < length presses → x ≡ get_or presses i x → calls_at floor panel (take i presses) ≡ [] → is_at floor panel x ≡ false → calls_at floor panel (take (i + 1) presses) ≡ []
lack_next floor panel presses i x low is lack other = ap (calls_at floor panel) (take_more presses i x low ∙ ap (λ y. take i presses ++ y ∷ []) (sym is)) ∙ calls_lack floor panel (take i presses) x lack other
