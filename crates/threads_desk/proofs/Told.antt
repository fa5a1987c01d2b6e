-- Steps by the views that passes keep, and what they tell.
use Rattle.std.proofs.Common.{◌≡◌, ◌≢◌, ℕ, ◌+◌, ◌-◌, ◌*◌, ◌/◌, ◌<◌, ◌≤◌, ◌^◌, Bool, true, false, List, [], ◌∷◌, ◌++◌, length, refl, sym, ap, ◌∙◌, arith, subst, zero, suc, eq-eqb, ne_eqb}
use Rattle.std.specs.Prelude.{◌==◌, bit_or, bit_and, slice_index, sum_by, MatchBool}
use Rattle.std.specs.Int.{bit_at}
use Rattle.std.proofs.lemmas.List.{length-append}
use Rattle.std.proofs.lemmas.List.Sums.{sum_by-cons, sum_by-append}
use mathlib.Core.Option.{none}
use Rattle.atomic_table.specs.Table.{State, step, Allows, Splits, Joins, Seen}
use Rattle.group_spec.specs.declared.calls.Call.{Call}
use Rattle.group_spec.specs.Hands.{has_from, with_calls, calls_of_bits}
use Rattle.threads_desk.specs.declared.rule.View.{View}
use Rattle.threads_desk.specs.declared.rule.View.TheVariants.{OfPanel, OfHand, Spent}
use Rattle.threads_desk.specs.declared.rule.Size.{Size}
use Rattle.threads_desk.specs.Account.{IsHand, call, times, news_of, pressed_of, gathered_of, Accounts, IsWord, PressesAs, Presses, GathersAs, Gathers, LooksAs, Looks, with_panel_more, next_panel, with_panel_back}
use Rattle.atomic_table.specs.Seated.{TableId}
use Rattle.threads_desk.specs.declared.desk.Pressed.TheVariants.{New, Already}
use Rattle.threads_desk.specs.Passes.{Panel, Answered, Holding, Gathered, IsAccounted, AreCalls, panels_of, IsPanelOf, IsHandOf, IsOpening, IsAllBack, IsFloorOf, AreAnsweredNew}
use Rattle.threads_desk.proofs.Sums.{pow-only, times-append}
use Rattle.threads_desk.proofs.Steps.{press-allows, gather-allows, look-allows, below-16}
use Rattle.threads_desk.proofs.Sets.{gathers, gathered-accounts, gathered-calls}
use Rattle.threads_desk.proofs.Seats.{panel-splits, panel-joins, closes, closes-made}

-- PRESSES

pub press-of : (size : Size) (slots i t id : ℕ) (v : View) (c : List (ℕ × ℕ)) (k floor : ℕ) → IsPanelOf floor v → k ≡ 2 ^ t → floor ≡ suc i → i < size.floors → t < size.floors → t ≢ i
    → Allows (Accounts size) slots id (v, c) i (λ x. bit_or x k) (Presses (step slots i k 0 none) (v, c))
press-of size slots i t id (OfPanel panels number floor' news pressed) c k floor own mask at low small apart =
    press-allows size slots i t id (OfPanel panels number floor' news pressed) c k panels number floor' news pressed refl mask (own ∙ at) low small apart
press-of size slots i t id (OfHand floors panels gathered made back news pressed) c k floor own mask at low small apart = absurd own
press-of size slots i t id Spent c k floor own mask at low small apart = absurd own

-- a panel's seat stays one
pub still-panel : (slots i k found floor : ℕ) (v w : View) → IsPanelOf floor v → PressesAs (step slots i k 0 none) v found w → (b : Bool) → (bit_and found k == 0) ≡ b → IsPanelOf floor w
still-panel slots i k found floor (OfPanel panels number floor' news pressed) w own told true is = subst (IsPanelOf floor) (sym (subst (λ b. MatchBool b (w ≡ OfPanel panels number floor' (news ++ call floor' (suc told.0) ∷ []) (pressed ++ call floor' (suc told.0) ∷ [])) ((w ≡ OfPanel panels number floor' news (pressed ++ call floor' (suc told.0) ∷ [])) × (panels ≡ 1 → 0 < times (call floor' (suc told.0)) news))) is told.2)) own
still-panel slots i k found floor (OfPanel panels number floor' news pressed) w own told false is = subst (IsPanelOf floor) (sym (subst (λ b. MatchBool b (w ≡ OfPanel panels number floor' (news ++ call floor' (suc told.0) ∷ []) (pressed ++ call floor' (suc told.0) ∷ [])) ((w ≡ OfPanel panels number floor' news (pressed ++ call floor' (suc told.0) ∷ [])) × (panels ≡ 1 → 0 < times (call floor' (suc told.0)) news))) is told.2).0) own
still-panel slots i k found floor (OfHand floors panels gathered made back news pressed) w own told b is = absurd own
still-panel slots i k found floor Spent w own told b is = absurd own

-- what a press of this floor tells, by the bit found
pub told-press : (slots i k found floor to : ℕ) (v w : View) → IsPanelOf floor v → k ≡ 2 ^ (to - 1) → 1 ≤ to → PressesAs (step slots i k 0 none) v found w
    → MatchBool (bit_and found k == 0)
    ((panels_of w ≡ panels_of v) × (news_of w ≡ news_of v ++ call floor to ∷ []) × (pressed_of w ≡ pressed_of v ++ call floor to ∷ []))
    ((panels_of w ≡ panels_of v) × (news_of w ≡ news_of v) × (pressed_of w ≡ pressed_of v ++ call floor to ∷ []) × (panels_of v ≡ 1 → 0 < times (call floor to) (news_of v)))
told-press slots i k found floor to (OfPanel panels number floor' news pressed) w own mask positive told = by-bit (bit_and found k == 0) told.2
  where
    to-is : suc told.0 ≡ to
    to-is = let e = pow-only (to - 1) told.0 (sym told.1 ∙ mask) in omega (arith, e, positive)

    call-is : call floor' (suc told.0) ≡ call floor to
    call-is = ap (λ f. call f (suc told.0)) own ∙ ap (call floor) to-is

    by-bit : (b : Bool) → MatchBool b (w ≡ OfPanel panels number floor' (news ++ call floor' (suc told.0) ∷ []) (pressed ++ call floor' (suc told.0) ∷ [])) ((w ≡ OfPanel panels number floor' news (pressed ++ call floor' (suc told.0) ∷ [])) × (panels ≡ 1 → 0 < times (call floor' (suc told.0)) news))
        → MatchBool b
        ((panels_of w ≡ panels) × (news_of w ≡ news ++ call floor to ∷ []) × (pressed_of w ≡ pressed ++ call floor to ∷ []))
        ((panels_of w ≡ panels) × (news_of w ≡ news) × (pressed_of w ≡ pressed ++ call floor to ∷ []) × (panels ≡ 1 → 0 < times (call floor to) news))
    by-bit true e = (ap panels_of e, ap news_of e ∙ ap (λ c. news ++ c ∷ []) call-is, ap pressed_of e ∙ ap (λ c. pressed ++ c ∷ []) call-is)
    by-bit false e = (ap panels_of e.0, ap news_of e.0, ap pressed_of e.0 ∙ ap (λ c. pressed ++ c ∷ []) call-is, λ one. subst (λ c. 0 < times c news) call-is (e.1 one))
told-press slots i k found floor to (OfHand floors panels gathered made back news pressed) w own mask positive told = absurd own
told-press slots i k found floor to Spent w own mask positive told = absurd own

-- THE COLLECTOR

pub gather-of : (size : Size) (slots i id : ℕ) (v : View) (c : List (ℕ × ℕ)) (floors : ℕ) → IsHandOf floors v → size.floors ≤ 16 → i < size.floors
    → Allows (Accounts size) slots id (v, c) i (λ _. 0) (Gathers (step slots i 0 0 none) (v, c))
gather-of size slots i id (OfPanel panels number floor' news pressed) c floors own most low = absurd own
gather-of size slots i id (OfHand floors' panels gathered made back news pressed) c floors own most low = gather-allows size slots i id c floors' panels made gathered back news pressed most low
gather-of size slots i id Spent c floors own most low = absurd own

pub told-gather : (slots i found floors : ℕ) (v w : View) → IsHandOf floors v → GathersAs (step slots i 0 0 none) v found w
    → IsHandOf floors w × (gathered_of w ≡ gathered_of v ++ calls_of_bits 16 (suc i) 1 found) × IsWord floors i found
told-gather slots i found floors (OfPanel panels number floor' news pressed) w own told = absurd own
told-gather slots i found floors (OfHand floors' panels gathered made back news pressed) w own told =
    (subst (IsHandOf floors) (sym told.0) own, ap gathered_of told.0, rw (← own.0) told.1)
told-gather slots i found floors Spent w own told = absurd own

pub look-of : (size : Size) (slots i id : ℕ) (v : View) (c : List (ℕ × ℕ)) (floors : ℕ) → IsHandOf floors v → i < size.floors
    → Allows (Accounts size) slots id (v, c) i (λ n. n) (Looks (step slots i 0 0 none) (v, c))
look-of size slots i id (OfPanel panels number floor' news pressed) c floors own low = absurd own
look-of size slots i id (OfHand floors' panels gathered made back news pressed) c floors own low = look-allows size slots i id c floors' panels made gathered back news pressed low
look-of size slots i id Spent c floors own low = absurd own

pub told-look : (slots i found floors : ℕ) (v : View) → IsHandOf floors v → LooksAs (step slots i 0 0 none) v found → IsWord floors i found
told-look slots i found floors (OfPanel panels number floor' news pressed) own told = absurd own
told-look slots i found floors (OfHand floors' panels gathered made back news pressed) own told = rw (← own.0) told
told-look slots i found floors Spent own told = absurd own

-- ANSWERS

picks : (A B : Type 0) (b : Bool) → b ≡ true → MatchBool b A B → A
picks A B true e h = h
picks A B false e h = absurd (cc)

picks-not : (A B : Type 0) (b : Bool) → b ≡ false → MatchBool b A B → B
picks-not A B true e h = absurd (cc)
picks-not A B false e h = h

abbrev pub panel-seen : TableId → ℕ → ℕ → View → Panel
panel-seen table floor panel v = record { table = table; panels = panels_of v; floor = floor; panel = panel; news = news_of v; pressed = pressed_of v }

pub answers-new : (t u : TableId) (floor panel to slots i k found : ℕ) (v w : View) → u ≡ t → floor ≢ to → IsPanelOf floor v → k ≡ 2 ^ (to - 1) → 1 ≤ to → PressesAs (step slots i k 0 none) v found w → bit_and found k ≡ 0
    → Answered (panel-seen t floor panel v) to New (panel-seen u floor panel w)
answers-new t u floor panel to slots i k found v w same differs own mask positive told is =
    let e = picks _ _ (bit_and found k == 0) (eq-eqb _ 0 is) (told-press slots i k found floor to v w own mask positive told) in
    (differs, λ j. record { table = same j; panels = e.0 j; floor = floor; panel = panel; news = e.1 j; pressed = e.2 j })

pub answers-already : (t u : TableId) (floor panel to slots i k found : ℕ) (v w : View) → u ≡ t → floor ≢ to → IsPanelOf floor v → k ≡ 2 ^ (to - 1) → 1 ≤ to → PressesAs (step slots i k 0 none) v found w → bit_and found k ≢ 0
    → Answered (panel-seen t floor panel v) to Already (panel-seen u floor panel w)
answers-already t u floor panel to slots i k found v w same differs own mask positive told is =
    let e = picks-not _ _ (bit_and found k == 0) (ne_eqb _ 0 is) (told-press slots i k found floor to v w own mask positive told) in
    (differs, (λ j. record { table = same j; panels = e.0 j; floor = floor; panel = panel; news = e.1 j; pressed = e.2 j }), e.3)

abbrev pub holding-seen : TableId → List Call → View → Holding
holding-seen table hand v = record { table = table; floors = table.words; hand = hand; gathered = gathered_of v }

-- a gathering of one floor, and what the pass keeps
pub gathered-one : (slots i from found : ℕ) (t u : TableId) (v w : View) (hand after : List Call) → u ≡ t → from ≡ suc i → IsHandOf t.words v → GathersAs (step slots i 0 0 none) v found w
    → after ≡ with_calls hand (calls_of_bits 16 from 1 found) → has_from hand from ≡ false → t.words ≤ 16 → from ≤ t.words → IsAccounted (gathered_of v) hand → AreCalls t.words hand
    → Gathered (holding-seen t hand v) (holding-seen u after w) × IsHandOf u.words w × IsAccounted (gathered_of w) after × AreCalls u.words after
gathered-one slots i from found t u v w hand after same at own told whole free most low accounted calls =
    let told' = told-gather slots i found t.words v w own told in
    let small = below-16 t.words found most told'.2.0 in
    let taken : gathered_of w ≡ gathered_of v ++ calls_of_bits 16 from 1 found = told'.1 ∙ ap (λ f. gathered_of v ++ calls_of_bits 16 f 1 found) (sym at) in
    let word : IsWord t.words (from - 1) found = (let i-is : i ≡ from - 1 = omega (arith, at) in subst (λ n. IsWord t.words n found) i-is told'.2) in
    let g = gathers (holding-seen t hand v) (holding-seen t after w) from found refl refl whole taken free in
    rw same (
      g,
      told'.0,
      gathered-accounts (holding-seen t hand v) (holding-seen t after w) g accounted,
      gathered-calls t.words from found hand after whole free most (omega (arith, at), low) small word calls,
    )

-- PANELS MADE

pub split-of : (size : Size) (id : ℕ) (v : View) (floors panels count : ℕ) → IsOpening floors panels count v → Splits {S = ℕ} (Accounts size) id v (with_panel_more v) (next_panel v)
split-of size id (OfPanel panels' number floor news pressed) floors panels count own = absurd own
split-of size id (OfHand floors' panels' gathered made back news pressed) floors panels count own = rw (own.4, own.5, own.6) (panel-splits size id floors' panels' made gathered)
split-of size id Spent floors panels count own = absurd own

pub opening-more : (v : View) (floors panels count : ℕ) → IsOpening floors panels count v → IsOpening floors panels (count + 1) (with_panel_more v)
opening-more (OfPanel panels' number floor news pressed) floors panels count own = absurd own
opening-more (OfHand floors' panels' gathered made back news pressed) floors panels count own = (own.0, own.1, ap (λ n. n + 1) own.2, own.3, own.4, own.5, own.6)
opening-more Spent floors panels count own = absurd own

pub next-is : (v : View) (floors panels count : ℕ) → IsOpening floors panels count v → IsPanelOf (count / panels + 1) (next_panel v) × (panels_of (next_panel v) ≡ panels) × (news_of (next_panel v) ≡ []) × (pressed_of (next_panel v) ≡ [])
next-is (OfPanel panels' number floor news pressed) floors panels count own = absurd own
next-is (OfHand floors' panels' gathered made back news pressed) floors panels count own = (rw (own.1, own.2) refl, own.1, refl, refl)
next-is Spent floors panels count own = absurd own

pub opening-hand : (v : View) (floors panels : ℕ) → IsOpening floors panels (floors * panels) v → IsHandOf floors v × (gathered_of v ≡ [])
opening-hand (OfPanel panels' number floor news pressed) floors panels own = absurd own
opening-hand (OfHand floors' panels' gathered made back news pressed) floors panels own = ((own.0, rw (own.0, own.1) own.2, own.4, own.5, own.6), own.3)
opening-hand Spent floors panels own = absurd own

-- PANELS BACK

-- the seat is the collector's, all panels were made, and of these passes those that are not left came back
abbrev pub IsTakenBack : ℕ → List Panel → List Panel → View → Type 0
IsTakenBack at passes left (OfPanel panels number floor news pressed) = ⊥
IsTakenBack at passes left (OfHand floors panels gathered made back news pressed) =
    (floors ≡ at) × (made ≡ floors * panels) × (length back + length left ≡ length passes)
    × ((c : Call) → times c news + sum_by (λ (p : Panel). times c p.news) left ≡ sum_by (λ (p : Panel). times c p.news) passes)
    × ((c : Call) → times c pressed + sum_by (λ (p : Panel). times c p.pressed) left ≡ sum_by (λ (p : Panel). times c p.pressed) passes)
IsTakenBack at passes left Spent = ⊥

pub none-back : (at : ℕ) (passes : List Panel) (v : View) → IsHandOf at v → IsTakenBack at passes passes v
none-back at passes (OfPanel panels number floor news pressed) own = absurd own
none-back at passes (OfHand floors panels gathered made back news pressed) own =
    (own.0, own.1, (let e : length back ≡ 0 = ap (λ (b : List ℕ). length b) own.2 in omega (arith, e)), λ c. let e = ap (times c) own.3 in omega (arith, e), λ c. let e = ap (times c) own.4 in omega (arith, e))
none-back at passes Spent own = absurd own

pub all-taken : (at : ℕ) (passes : List Panel) (v : View) → IsTakenBack at passes [] v → IsAllBack at passes v
all-taken at passes (OfPanel panels number floor news pressed) own = absurd own
all-taken at passes (OfHand floors panels gathered made back news pressed) own = (own.0, own.1, (let e = own.2 in omega (arith, e)), λ c. let e = own.3 c in omega (arith, e), λ c. let e = own.4 c in omega (arith, e))
all-taken at passes Spent own = absurd own

pub join-of : (size : Size) (id other : ℕ) (v w : View) (at floor : ℕ) (passes left : List Panel) → IsTakenBack at passes left v → IsPanelOf floor w → Joins {S = ℕ} (Accounts size) id v other w (with_panel_back v w) Spent
join-of size id other (OfPanel panels number floor' news pressed) w at floor passes left own panel = absurd own
join-of size id other (OfHand floors panels gathered made back news pressed) (OfPanel panels' number floor' more again) at floor passes left own panel = panel-joins size id other floors panels made panels' number floor' gathered back news pressed more again
join-of size id other (OfHand floors panels gathered made back news pressed) (OfHand floors' panels' gathered' made' back' news' pressed') at floor passes left own panel = absurd panel
join-of size id other (OfHand floors panels gathered made back news pressed) Spent at floor passes left own panel = absurd panel
join-of size id other Spent w at floor passes left own panel = absurd own

pub one-back : (v w : View) (at floor : ℕ) (passes left : List Panel) (p : Panel) → IsTakenBack at passes (left ++ p ∷ []) v → IsPanelOf floor w → p.news ≡ news_of w → p.pressed ≡ pressed_of w
    → IsTakenBack at passes left (with_panel_back v w) × (gathered_of (with_panel_back v w) ≡ gathered_of v)
one-back (OfPanel panels number floor' news pressed) w at floor passes left p own panel same all = absurd own
one-back (OfHand floors panels gathered made back news pressed) (OfPanel panels' number floor' more again) at floor passes left p own panel same all = (
  (
    own.0,
    own.1,
    (let e = own.2 in omega (arith, e, length-append left (p ∷ []))),
    λ c.
        let e = own.3 c in
        let n = ap (times c) same in
        omega (arith, e, n, times-append c news more, sum_by-append (λ (p : Panel). times c p.news) left (p ∷ []), sum_by-cons (λ (p : Panel). times c p.news) p []),
    λ c.
        let e = own.4 c in
        let n = ap (times c) all in
        omega (arith, e, n, times-append c pressed again, sum_by-append (λ (p : Panel). times c p.pressed) left (p ∷ []), sum_by-cons (λ (p : Panel). times c p.pressed) p []),
  ),
  refl,
)
one-back (OfHand floors panels gathered made back news pressed) (OfHand floors' panels' gathered' made' back' news' pressed') at floor passes left p own panel same all = absurd panel
one-back (OfHand floors panels gathered made back news pressed) Spent at floor passes left p own panel same all = absurd panel
one-back Spent w at floor passes left p own panel same all = absurd own

-- CLOSED

pub closes-of : (size : Size) (id : ℕ) (v : View) (s : State ℕ View) (at : ℕ) (passes : List Panel) → IsAllBack at passes v → length passes ≡ size.floors * size.panels → Seen (Accounts size) id v s
    → (i k : ℕ) → sum_by (λ (p : Panel). times (call (suc i) (suc k)) p.news) passes ≡ times (call (suc i) (suc k)) (gathered_of v) + bit_at (slice_index s.words i) k
closes-of size id (OfPanel panels number floor news pressed) s at passes own whole seen = absurd own
closes-of size id (OfHand floors panels gathered made back news pressed) s at passes own whole seen =
    let hand : IsHand size seen.0.seats id floors panels made back news = seen.0.fit id (OfHand floors panels gathered made back news pressed) seen.1 in
    let all : length back ≡ made = own.2 ∙ whole ∙ sym (own.1 ∙ ap (λ n. n * panels) hand.floors_are ∙ ap (λ n. size.floors * n) hand.panels_are) in
    λ i k. sym (own.3 (call (suc i) (suc k))) ∙ closes size id floors panels made gathered back news pressed s seen all i k
closes-of size id Spent s at passes own whole seen = absurd own

some-of : (n p : ℕ) → (n ≡ 0 → p ≡ 0) → 0 < p → 0 < n
some-of zero p same more = let z = same refl in absurd (omega (arith, z, more))
some-of (suc n) p same more = omega arith

-- what a panel pressed, some panel was answered New
pub answered-of : (size : Size) (id : ℕ) (v : View) (s : State ℕ View) (at : ℕ) (passes : List Panel) → IsAllBack at passes v → length passes ≡ size.floors * size.panels → Seen (Accounts size) id v s → AreAnsweredNew at passes
answered-of size id (OfPanel panels number floor news pressed) s at passes own whole seen = absurd own
answered-of size id (OfHand floors panels gathered made back news pressed) s at passes own whole seen =
    let hand : IsHand size seen.0.seats id floors panels made back news = seen.0.fit id (OfHand floors panels gathered made back news pressed) seen.1 in
    let all : length back ≡ made = own.2 ∙ whole ∙ sym (own.1 ∙ ap (λ n. n * panels) hand.floors_are ∙ ap (λ n. size.floors * n) hand.panels_are) in
    λ c from to.
    let i : ℕ = c.from - 1 in
    let k : ℕ = c.to - 1 in
    let p : suc i ≡ c.from = omega (arith, from.0) in
    let q : suc k ≡ c.to = omega (arith, to.0) in
    let same : call (suc i) (suc k) ≡ c = (λ j. record { from = p j; to = q j }) in
    let still : times c news ≡ 0 → times c pressed ≡ 0 = subst (λ (x : Call). times x news ≡ 0 → times x pressed ≡ 0) same (closes-made size id floors panels made gathered back news pressed s seen all i k) in
    some-of _ _ (λ e. sym (own.4 c) ∙ still (own.3 c ∙ e))
answered-of size id Spent s at passes own whole seen = absurd own
