-- The desk and its passes as contracts see them, and what a press, a gathering and a close make of them.
use Rattle.std.specs.Prelude.{◌≡◌, ◌≢◌, ℕ, ◌+◌, ◌-◌, ◌*◌, ◌/◌, ◌%◌, ◌<◌, ◌≤◌, true, List, [], ◌∷◌, ◌++◌, length, slice_get, sum_by, All, Some, refl}
use Rattle.atomic_table.specs.Seated.{TableId, table_id_coded}
use Rattle.std.specs.Coded.{Coded, code_by, coded×, coded_ℕ, coded_list}
use Rattle.group_spec.specs.declared.calls.Call.{Call}
use Rattle.group_spec.specs.Hands.{has_call, has_from, calls_from}
use Rattle.threads_desk.specs.declared.rule.View.{View}
use Rattle.threads_desk.specs.declared.rule.View.TheVariants.{OfPanel, OfHand, Spent}
use Rattle.threads_desk.specs.declared.desk.Pressed.{Pressed}
use Rattle.threads_desk.specs.declared.desk.Pressed.TheVariants.{New, Already, SameFloor}
use Rattle.threads_desk.specs.Account.{call, times, membership}

-- a desk: which one it is, its floors, and how many panels each floor has
pub record Layout : Type 0 where
  pub table : TableId
  pub floors : ℕ
  pub panels : ℕ

-- a panel's pass: of which desk it is, how many panels its floor has, its floor, its number there, the calls that it was answered New, and
-- all that it pressed, whether New or Already
pub record Panel : Type 0 where
  pub table : TableId
  pub panels : ℕ
  pub floor : ℕ
  pub panel : ℕ
  pub news : List Call
  pub pressed : List Call

-- the collector's pass: of which desk it is, the floors, the calls in the hand, and those that were gathered, in all
pub record Holding : Type 0 where
  pub table : TableId
  pub floors : ℕ
  pub hand : List Call
  pub gathered : List Call

-- what a closed desk leaves: which one it was, the calls on it, and those in the collector's hand
pub record Left : Type 0 where
  pub table : TableId
  pub desk : List Call
  pub hand : List Call

abbrev pub call_code : Coded Call
call_code = code_by (ℕ × ℕ) (coded× coded_ℕ coded_ℕ) (λ c. (c.from, c.to)) (λ p. record { from = p.0; to = p.1 }) (λ _. refl)

abbrev pub layout_code : Coded Layout
layout_code =
    code_by (TableId × (ℕ × ℕ)) (coded× table_id_coded (coded× coded_ℕ coded_ℕ)) (λ d. (d.table, (d.floors, d.panels)))
    (λ p. record { table = p.0; floors = p.1.0; panels = p.1.1 }) (λ _. refl)

abbrev pub panel_code : Coded Panel
panel_code =
    code_by (TableId × (ℕ × (ℕ × (ℕ × (List Call × List Call))))) (coded× table_id_coded (coded× coded_ℕ (coded× coded_ℕ (coded× coded_ℕ (coded× (coded_list call_code) (coded_list call_code))))))
    (λ p. (p.table, (p.panels, (p.floor, (p.panel, (p.news, p.pressed))))))
    (λ c. record { table = c.0; panels = c.1.0; floor = c.1.1.0; panel = c.1.1.1.0; news = c.1.1.1.1.0; pressed = c.1.1.1.1.1 }) (λ _. refl)

abbrev pub holding_code : Coded Holding
holding_code =
    code_by (TableId × (ℕ × (List Call × List Call))) (coded× table_id_coded (coded× coded_ℕ (coded× (coded_list call_code) (coded_list call_code))))
    (λ h. (h.table, (h.floors, (h.hand, h.gathered)))) (λ c. record { table = c.0; floors = c.1.0; hand = c.1.1.0; gathered = c.1.1.1 }) (λ _. refl)

abbrev pub left_code : Coded Left
left_code =
    code_by (TableId × (List Call × List Call)) (coded× table_id_coded (coded× (coded_list call_code) (coded_list call_code)))
    (λ l. (l.table, (l.desk, l.hand))) (λ c. record { table = c.0; desk = c.1.0; hand = c.1.1 }) (λ _. refl)

-- VIEWS OF SEATS

-- how many panels a floor has, as a seat knows it (own rule)
abbrev pub panels_of : View → ℕ
panels_of (OfPanel panels number floor news pressed) = panels
panels_of (OfHand floors panels gathered made back news pressed) = panels
panels_of Spent = 0

-- the number of a panel over all floors (own rule)
abbrev pub number_of : View → ℕ
number_of (OfPanel panels number floor news pressed) = number
number_of (OfHand floors panels gathered made back news pressed) = 0
number_of Spent = 0

-- the seat is a panel's of this floor
abbrev pub IsPanelOf : ℕ → View → Type 0
IsPanelOf at (OfPanel panels number floor news pressed) = floor ≡ at
IsPanelOf at (OfHand floors panels gathered made back news pressed) = ⊥
IsPanelOf at Spent = ⊥

-- the seat is the collector's, all panels of these floors were made, and none came back
abbrev pub IsHandOf : ℕ → View → Type 0
IsHandOf at (OfPanel panels number floor news pressed) = ⊥
IsHandOf at (OfHand floors panels gathered made back news pressed) = (floors ≡ at) × (made ≡ floors * panels) × (back ≡ []) × (news ≡ []) × (pressed ≡ [])
IsHandOf at Spent = ⊥

-- the seat is the collector's, so many panels were made, and none came back
abbrev pub IsOpening : ℕ → ℕ → ℕ → View → Type 0
IsOpening at each count (OfPanel panels number floor news pressed) = ⊥
IsOpening at each count (OfHand floors panels gathered made back news pressed) = (floors ≡ at) × (panels ≡ each) × (made ≡ count) × (gathered ≡ []) × (back ≡ []) × (news ≡ []) × (pressed ≡ [])
IsOpening at each count Spent = ⊥

-- the seat is the collector's, all panels of these floors were made, and those of these passes came back
abbrev pub IsAllBack : ℕ → List Panel → View → Type 0
IsAllBack at passes (OfPanel panels number floor news pressed) = ⊥
IsAllBack at passes (OfHand floors panels gathered made back news pressed) =
    (floors ≡ at) × (made ≡ floors * panels) × (length back ≡ length passes) × ((c : Call) → times c news ≡ sum_by (λ p. times c p.news) passes)
    × ((c : Call) → times c pressed ≡ sum_by (λ p. times c p.pressed) passes)
IsAllBack at passes Spent = ⊥

-- CALLS

-- a floor of the desk
abbrev pub IsFloorOf : ℕ → ℕ → Type 0
IsFloorOf floors floor = (1 ≤ floor) × (floor ≤ floors)

-- each call of the set has two different floors of the desk
abbrev pub AreCalls : ℕ → List Call → Type 0
AreCalls floors set = (c : Call) → has_call set c ≡ true → IsFloorOf floors c.from × IsFloorOf floors c.to × (c.from ≢ c.to)

-- each call of the one set is in the other
abbrev pub IsPart : List Call → List Call → Type 0
IsPart part set = (c : Call) → has_call part c ≡ true → has_call set c ≡ true

-- how often a call was entered by a refresh: the times that it was gathered, but for the one that is still in the hand
abbrev pub entered : Holding → Call → ℕ
entered h c = times c h.gathered - membership h.hand c

-- the times that a call was gathered are those that it was entered, and 1 if it is in the hand
abbrev pub IsAccounted : List Call → List Call → Type 0
IsAccounted gathered hand = (c : Call) → membership hand c ≤ times c gathered

-- WHAT A CALL DOES

-- the answer to a press, and the pass after it
abbrev pub Answered : Panel → ℕ → Pressed → Panel → Type 0
Answered before to New after =
    (before.floor ≢ to) × (after ≡ record before { news = before.news ++ call before.floor to ∷ []; pressed = before.pressed ++ call before.floor to ∷ [] })
Answered before to Already after =
    (before.floor ≢ to) × (after ≡ record before { pressed = before.pressed ++ call before.floor to ∷ [] })
    × (before.panels ≡ 1 → 0 < times (call before.floor to) before.news)
Answered before to SameFloor after = (before.floor ≡ to) × (after ≡ before)

-- a gathering adds the same calls to the hand and to the counts, and leaves the floors from which the hand has a call
pub record Gathered (h k : Holding) : Type 0 where
  pub table : k.table ≡ h.table
  pub floors : k.floors ≡ h.floors
  pub counted : (calls : List Call) × (k.gathered ≡ h.gathered ++ calls)
  pub pairs : (c : Call) → times c k.gathered + membership h.hand c ≡ times c h.gathered + membership k.hand c
  pub kept : IsPart h.hand k.hand
  pub held : (from : ℕ) → has_from h.hand from ≡ true → calls_from from k.hand ≡ calls_from from h.hand

-- the panels of a new desk: by floor and panel, each with its number there, and answered nothing yet
abbrev pub AreNewPanels : Layout → List Panel → Type 0
AreNewPanels d passes =
    (length passes ≡ d.floors * d.panels)
    × ((k : ℕ) (p : Panel) → slice_get passes k ≡ Some p → p ≡ record { table = d.table; panels = d.panels; floor = k / d.panels + 1; panel = k % d.panels + 1; news = []; pressed = [] })

-- all panels of the desk
abbrev pub AreAllPanels : Layout → List Panel → Type 0
AreAllPanels d passes = (length passes ≡ d.floors * d.panels) × All (λ p. p.table ≡ d.table) passes

-- for each call of two floors of the desk the New answers of all panels are the times that it was gathered, and 1 if it is on the desk
abbrev pub IsBalanced : ℕ → List Panel → List Call → List Call → Type 0
IsBalanced floors passes gathered desk = (c : Call) → IsFloorOf floors c.from → IsFloorOf floors c.to → sum_by (λ p. times c p.news) passes ≡ times c gathered + membership desk c

-- a call of two floors of the desk that a panel pressed, some panel was answered New
abbrev pub AreAnsweredNew : ℕ → List Panel → Type 0
AreAnsweredNew floors passes =
    (c : Call) → IsFloorOf floors c.from → IsFloorOf floors c.to → 0 < sum_by (λ p. times c p.pressed) passes → 0 < sum_by (λ p. times c p.news) passes
