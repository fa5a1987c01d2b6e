-- The account of the desk: the calls that panels were answered New are those that were gathered and those on the desk.
use Rattle.std.specs.Prelude.{◌≡◌, ◌≢◌, ℕ, suc, ◌+◌, ◌/◌, ◌^◌, ◌<◌, Bool, false, ◌||◌, List, [], ◌∷◌, ◌++◌, length, slice_index, sum_by, ◌==◌, if◌then◌else◌, bit_and, MatchBool}
use Rattle.std.specs.Int.{bit_at}
use mathlib.Core.Option.{some}
use lib.ListN.{get_elem?}
use Rattle.atomic_table.specs.Table.{State, Step, Me}
use Rattle.group_spec.specs.declared.calls.Call.{Call}
use Rattle.group_spec.specs.Hands.{same_call, has_call, calls_of_bits}
use Rattle.threads_desk.specs.declared.rule.View.{View}
use Rattle.threads_desk.specs.declared.rule.View.TheVariants.{OfPanel, OfHand, Spent}
use Rattle.threads_desk.specs.declared.rule.Size.{Size}

-- COUNTS

-- a call of two floors
abbrev pub call : ℕ → ℕ → Call
call from to = record { from = from; to = to }

-- how often a call is in a list
abbrev pub times : Call → List Call → ℕ
times wanted [] = 0
times wanted (c ∷ calls) = (if same_call c wanted then 1 else 0) + times wanted calls

-- 1 for a member of a set of calls, and 0 for any other call
abbrev pub membership : List Call → Call → ℕ
membership set wanted = if has_call set wanted then 1 else 0

-- VIEWS

-- the calls that a panel was answered New; the collector has those of the panels that came back
abbrev pub news_of : View → List Call
news_of (OfPanel panels number floor news pressed) = news
news_of (OfHand floors panels gathered made back news pressed) = news
news_of Spent = []

-- the calls that a panel pressed, whether New or Already; the collector has those of the panels that came back
abbrev pub pressed_of : View → List Call
pressed_of (OfPanel panels number floor news pressed) = pressed
pressed_of (OfHand floors panels gathered made back news pressed) = pressed
pressed_of Spent = []

-- the calls that a seat gathered
abbrev pub gathered_of : View → List Call
gathered_of (OfPanel panels number floor news pressed) = []
gathered_of (OfHand floors panels gathered made back news pressed) = gathered
gathered_of Spent = []

-- 1 for a panel's seat that has not come back
abbrev pub is_out : View → ℕ
is_out (OfPanel panels number floor news pressed) = 1
is_out (OfHand floors panels gathered made back news pressed) = 0
is_out Spent = 0

-- the collector's view before the first panel is made
abbrev pub opening_view : Size → View
opening_view size = OfHand size.floors size.panels [] 0 [] [] []

-- the collector's view once it has made a panel more
abbrev pub with_panel_more : View → View
with_panel_more (OfPanel panels number floor news pressed) = OfPanel panels number floor news pressed
with_panel_more (OfHand floors panels gathered made back news pressed) = OfHand floors panels gathered (made + 1) back news pressed
with_panel_more Spent = Spent

-- the view of the panel that the collector makes next: floor 1 has the first `panels`
abbrev pub next_panel : View → View
next_panel (OfPanel panels number floor news pressed) = Spent
next_panel (OfHand floors panels gathered made back news pressed) = OfPanel panels made (made / panels + 1) [] []
next_panel Spent = Spent

-- the collector's view once a panel came back
abbrev pub with_panel_back : View → View → View
with_panel_back (OfHand floors panels gathered made back news pressed) (OfPanel of number floor more again) = OfHand floors panels gathered made (number ∷ back) (news ++ more) (pressed ++ again)
with_panel_back v w = v

-- THE RULE

-- whether a panel's number is among these
abbrev pub has_number : List ℕ → ℕ → Bool
has_number [] number = false
has_number (n ∷ numbers) number = (n == number) || has_number numbers number

-- which seat each panel has, which the collector has, how many panels were made, and which came back
pub record Seats : Type 0 where
  pub seat : ℕ → ℕ
  pub hand : ℕ
  pub made : ℕ
  pub back : List ℕ

-- a panel's seat: it is the only one of this number, and was answered for its own floor alone
pub record IsPanel (size : Size) (z : Seats) (id panels number floor : ℕ) (news : List Call) : Type 0 where
  pub panels_are : panels ≡ size.panels
  pub seat_is : z.seat number ≡ id
  pub made : number < z.made
  pub out : has_number z.back number ≡ false
  pub floor_is : floor ≡ number / size.panels + 1
  pub own_floor : (i k : ℕ) → suc i ≢ floor → times (call (suc i) (suc k)) news ≡ 0

-- the collector's seat: it is the only one, and has news of panels alone that came back
pub record IsHand (size : Size) (z : Seats) (id floors panels made : ℕ) (back : List ℕ) (news : List Call) : Type 0 where
  pub floors_are : floors ≡ size.floors
  pub panels_are : panels ≡ size.panels
  pub hand_is : id ≡ z.hand
  pub made_is : made ≡ z.made
  pub back_is : back ≡ z.back
  pub came_back : size.panels ≡ 1 → (i k : ℕ) → has_number back i ≡ false → times (call (suc i) (suc k)) news ≡ 0

abbrev pub Fits : Size → Seats → ℕ → View → Type 0
Fits size z id (OfPanel panels number floor news pressed) = IsPanel size z id panels number floor news
Fits size z id (OfHand floors panels gathered made back news pressed) = IsHand size z id floors panels made back news
Fits size z id Spent = Unit {0}

-- a word of the floor of this index: no bit for the floor itself or beyond the floors
abbrev pub IsWord : ℕ → ℕ → ℕ → Type 0
IsWord floors index word = (word < 2 ^ floors) × (bit_at word index ≡ 0)

-- For each call the New answers of all panels are the times that it was gathered, and 1 if it is on the desk; and a call that no panel
-- was answered New was pressed by none
pub record Accounts (size : Size) (s : State ℕ View) : Type 0 where
  pub words : length s.words ≡ size.floors
  pub account : (i k : ℕ) → sum_by (λ v. times (call (suc i) (suc k)) (news_of v)) s.views ≡ sum_by (λ v. times (call (suc i) (suc k)) (gathered_of v)) s.views + bit_at (slice_index s.words i) k
  pub made : (i k : ℕ) → sum_by (λ v. times (call (suc i) (suc k)) (news_of v)) s.views ≡ 0 → sum_by (λ v. times (call (suc i) (suc k)) (pressed_of v)) s.views ≡ 0
  pub are_words : (i : ℕ) → IsWord size.floors i (slice_index s.words i)
  pub seats : Seats
  pub fit : (id : ℕ) (v : View) → get_elem? s.views id ≡ some v → Fits size seats id v
  pub out : sum_by is_out s.views + length seats.back ≡ seats.made

-- WHAT A STEP TELLS

-- a press of the bit t is New where the bit was 0; otherwise, where its floor has one panel, this one was answered New for the call before
abbrev pub PressesAs : Step ℕ → View → ℕ → View → Type 0
PressesAs s (OfPanel panels number floor news pressed) found w =
    (t : ℕ) × (s.first ≡ 2 ^ t)
    × MatchBool (bit_and found s.first == 0)
    (w ≡ OfPanel panels number floor (news ++ call floor (suc t) ∷ []) (pressed ++ call floor (suc t) ∷ []))
    ((w ≡ OfPanel panels number floor news (pressed ++ call floor (suc t) ∷ [])) × (panels ≡ 1 → 0 < times (call floor (suc t)) news))
PressesAs s (OfHand floors panels gathered made back news pressed) found w = Unit {0}
PressesAs s Spent found w = Unit {0}

abbrev pub Presses : Step ℕ → Me ℕ View → ℕ → Me ℕ View → Type 0
Presses s v found w = (w.1 ≡ v.1) × PressesAs s v.0 found w.0

-- the calls of the word found are gathered
abbrev pub GathersAs : Step ℕ → View → ℕ → View → Type 0
GathersAs s (OfPanel panels number floor news pressed) found w = Unit {0}
GathersAs s (OfHand floors panels gathered made back news pressed) found w =
    (w ≡ OfHand floors panels (gathered ++ calls_of_bits 16 (suc s.word) 1 found) made back news pressed) × IsWord floors s.word found
GathersAs s Spent found w = Unit {0}

abbrev pub Gathers : Step ℕ → Me ℕ View → ℕ → Me ℕ View → Type 0
Gathers s v found w = (w.1 ≡ v.1) × GathersAs s v.0 found w.0

-- a load tells that a word is found, and changes nothing
abbrev pub LooksAs : Step ℕ → View → ℕ → Type 0
LooksAs s (OfPanel panels number floor news pressed) found = Unit {0}
LooksAs s (OfHand floors panels gathered made back news pressed) found = IsWord floors s.word found
LooksAs s Spent found = Unit {0}

abbrev pub Looks : Step ℕ → Me ℕ View → ℕ → Me ℕ View → Type 0
Looks s v found w = (w.1 ≡ v.1) × (w.0 ≡ v.0) × LooksAs s v.0 found
