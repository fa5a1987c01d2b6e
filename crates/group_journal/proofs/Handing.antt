-- From an empty desk and hand: calls that are pressed and gathered are those of the hand.
use Rattle.std.proofs.Common.{◌≡◌, ℕ, ◌<◌, ◌≤◌, Bool, true, false, ◌&&◌, ◌==◌, List, [], ◌∷◌, ◌++◌, map, if◌then◌else◌, refl, sym, ap, ◌∙◌, subst, Option, Result, Ok, arith, eqb-true, inl, inr, eq-eqb}
use Rattle.std.proofs.lemmas.List.{append_assoc}
use Rattle.std.proofs.lemmas.Bool.Decides.{nat_tests}
use Rattle.il_syntax.specs.declared.tree.Config.{Config}
use Rattle.il_semantics.specs.State.{State}
use Rattle.group_spec.specs.declared.image.Sizes.{Sizes}
use Rattle.group_spec.specs.declared.calls.Call.{Call}
use Rattle.group_spec.specs.declared.event.Event.{Event}
use Rattle.group_spec.specs.declared.event.Event.TheVariants.{Press, Gather}
use Rattle.group_spec.specs.Image.{sizes_of, is_floor}
use Rattle.group_spec.specs.Hands.{has_from, with_calls, calls_from, calls_not_from, mask_of, floors_of, floors_after, IsInOrder}
use Rattle.group_spec.specs.Calls.{IsCall}
use Rattle.group_spec.specs.Replies.{Reply, New, Gathered}
use Rattle.group_spec.specs.World.{World, Group, Halt, happens, run, and_then, presses, presses_floors, presses_new, gathers, gathers_from}
use Rattle.group_journal.specs.Journal.{AreAccepted}
use Rattle.group_journal.proofs.Orders.{Before, Each, each_map, each_append, before_all, all_before, order_right, with_last, has_not, with_behind, has_none, none_from, same_floor_order}

pub append_nil : {A : Type 0} (xs : List A) → xs ++ [] ≡ xs
append_nil [] = refl
append_nil (x ∷ xs) = ap (λ rest. x ∷ rest) (append_nil xs)

pub accepted_append : (xs ys : List Reply) → AreAccepted xs → AreAccepted ys → AreAccepted (xs ++ ys)
accepted_append [] ys a b = b
accepted_append (x ∷ xs) ys a b = (a.0, accepted_append xs ys a.1 b)

pub floor_so : (sizes : Sizes) (n : ℕ) → 1 ≤ n → n ≤ sizes.floors → is_floor sizes n ≡ true
floor_so sizes n low high = grind (arith, nat_tests)

pub both_so : (a b : Bool) → a ≡ true → b ≡ true → (a && b) ≡ true
both_so a b e f = rw (e, f) refl

-- where a run goes on
abbrev pub Ran : Type 0
Ran = Result (World × List Reply) Halt

module _ (c : Config) (g : Group) (scans : List (Option State)) where
  -- the world with this desk and hand
  abbrev pub at : List Call → List Call → World
  at desk hand = record { group = g; scans = scans; desk = desk; hand = hand }

  -- A call of the group that follows all that are pressed is pressed.
  one_press : (desk hand : List Call) (call : Call) → IsCall (sizes_of c) call → Each (λ x. Before x call) desk → happens c (at desk hand) (Press call) ≡ Ok (at (desk ++ call ∷ []) hand, New)
  unfolding happens
  one_press desk hand call is behind =
      ap (presses (at desk hand) call) (both_so _ _ (floor_so (sizes_of c) call.from is.from.0 is.from.1) (floor_so (sizes_of c) call.to is.to.0 is.to.1)) ∙ ap (presses_floors (at desk hand) call) is.differs
      ∙ ap (presses_new (at desk hand) call) (has_not desk call behind) ∙ ap (λ d. Ok (at d hand, New)) (with_last desk call behind)

  -- so are calls in order
  pub all_pressed : (calls desk hand : List Call) (earlier : List Reply) (rest : List Event) → Each (IsCall (sizes_of c)) calls → IsInOrder (desk ++ calls)
      → (replies : List Reply) × AreAccepted replies × (run c (at desk hand) earlier (map Press calls ++ rest) ≡ run c (at (desk ++ calls) hand) (earlier ++ replies) rest)
  all_pressed [] desk hand earlier rest are order = ([], tt, ap (λ d. run c (at d hand) earlier rest) (sym (append_nil desk)) ∙ ap (λ rs. run c (at (desk ++ []) hand) rs rest) (sym (append_nil earlier)))
  all_pressed (call ∷ calls) desk hand earlier rest are order =
      let more = all_pressed calls (desk ++ call ∷ []) hand (earlier ++ New ∷ []) rest are.1 (subst IsInOrder (sym (append_assoc desk (call ∷ []) calls)) order) in (
        New ∷ more.0,
        (tt, more.1),
        ap (λ n. and_then n (λ m. run c m.0 (earlier ++ m.1 ∷ []) (map Press calls ++ rest))) (one_press desk hand call are.0 (all_before desk call calls order)) ∙ more.2
            ∙ ap (λ d. run c (at d hand) ((earlier ++ New ∷ []) ++ more.0) rest) (append_assoc desk (call ∷ []) calls) ∙ ap (λ rs. run c (at (desk ++ call ∷ calls) hand) rs rest) (append_assoc earlier (New ∷ []) more.0),
      )

  -- The calls from a floor are gathered, where the hand has none from there.
  one_gather : (desk hand : List Call) (floor : ℕ) → is_floor (sizes_of c) floor ≡ true → has_from hand floor ≡ false
      → happens c (at desk hand) (Gather floor) ≡ Ok (at (calls_not_from floor desk) (with_calls hand (calls_from floor desk)), Gathered (mask_of (calls_from floor desk)))
  unfolding happens
  one_gather desk hand floor is none = ap (gathers (at desk hand) floor) is ∙ ap (gathers_from (at desk hand) floor) none

  abbrev Gathers : ℕ → List Call → List Call → List Reply → List Event → Type 0
  Gathers last calls h earlier rest = (replies : List Reply) × AreAccepted replies × (run c (at (calls_not_from last calls) (h ++ calls_from last calls)) earlier (map Gather (floors_after last calls) ++ rest) ≡ run c (at [] (h ++ calls)) (earlier ++ replies) rest)

  -- the same, as it follows for fewer calls
  abbrev Follows : List Call → List Event → Type 0
  Follows calls rest = (last : ℕ) (h : List Call) (earlier : List Reply) → Each (IsCall (sizes_of c)) calls → IsInOrder (h ++ calls) → Each (λ x. last ≤ x.from) calls → Each (λ x. x.from ≤ last) h → Gathers last calls h earlier rest

  module _ (last : ℕ) (call : Call) (calls h : List Call) (earlier : List Reply) (rest : List Event) (are : Each (IsCall (sizes_of c)) (call ∷ calls)) (order : IsInOrder (h ++ call ∷ calls)) (low : Each (λ x. last ≤ x.from) (call ∷ calls)) (high : Each (λ x. x.from ≤ last) h) (follow : Follows calls rest) where
    order_more : IsInOrder ((h ++ call ∷ []) ++ calls)
    order_more = subst IsInOrder (sym (append_assoc h (call ∷ []) calls)) order

    not_above : (x : Call) → Before call x → call.from ≤ x.from
    not_above x (inl p) = omega (arith, p)
    not_above x (inr p) = omega (arith, p.0)

    from_this : Each (λ x. call.from ≤ x.from) calls
    from_this = each_map (Before call) (λ x. call.from ≤ x.from) not_above calls (before_all call calls (order_right h (call ∷ calls) order))

    -- the next call is from the floor that was gathered last
    same_floor : (call.from == last) ≡ true → Gathers last (call ∷ calls) h earlier rest
    same_floor e =
        let same : call.from ≡ last = eqb-true call.from last e in
        let up_to : Each (λ x. x.from ≤ last) (h ++ call ∷ []) = each_append (λ x. x.from ≤ last) h (call ∷ []) high (omega (arith, same), tt) in
        let more = follow last (h ++ call ∷ []) earlier are.1 order_more low.1 up_to in
        rw e (
          more.0,
          more.1,
          ap (λ hand. run c (at (calls_not_from last calls) hand) earlier (map Gather (floors_after last calls) ++ rest)) (sym (append_assoc h (call ∷ []) (calls_from last calls))) ∙ more.2
              ∙ ap (λ hand. run c (at [] hand) (earlier ++ more.0) rest) (append_assoc h (call ∷ []) calls),
        )

    -- or from a floor above it, which is gathered now
    starts : (calls_from last (call ∷ calls) ≡ []) × (calls_not_from last (call ∷ calls) ≡ call ∷ calls) → (call.from == last) ≡ false
        → run c (at (calls_not_from last (call ∷ calls)) (h ++ calls_from last (call ∷ calls))) earlier (map Gather (floors_after last (call ∷ calls)) ++ rest) ≡ run c (at (call ∷ calls) h) earlier (Gather call.from ∷ (map Gather (floors_after call.from calls) ++ rest))
    starts none e =
        ap (λ d. run c (at d (h ++ calls_from last (call ∷ calls))) earlier (map Gather (floors_after last (call ∷ calls)) ++ rest)) none.1 ∙ ap (λ l. run c (at (call ∷ calls) (h ++ l)) earlier (map Gather (floors_after last (call ∷ calls)) ++ rest)) none.0
        ∙ ap (λ l. run c (at (call ∷ calls) l) earlier (map Gather (floors_after last (call ∷ calls)) ++ rest)) (append_nil h)
        ∙ ap (λ (b : Bool). run c (at (call ∷ calls) h) earlier (map Gather (if b then floors_after last calls else call.from ∷ floors_after call.from calls) ++ rest)) e

    moved : IsInOrder (h ++ call ∷ calls_from call.from calls) → at (calls_not_from call.from (call ∷ calls)) (with_calls h (calls_from call.from (call ∷ calls))) ≡ at (calls_not_from call.from calls) ((h ++ call ∷ []) ++ calls_from call.from calls)
    moved in_order =
        rw (eq-eqb call.from call.from refl) (ap (at (calls_not_from call.from calls)) (with_behind h (call ∷ calls_from call.from calls) in_order ∙ sym (append_assoc h (call ∷ []) (calls_from call.from calls))))

    other_floor : (call.from == last) ≡ false → Gathers last (call ∷ calls) h earlier rest
    other_floor e =
        let at_least : last ≤ call.from = low.0 in
        let above : last < call.from = grind (arith, nat_tests) in
        let all_above : Each (λ x. last < x.from) (call ∷ calls) = (above, each_map (λ x. call.from ≤ x.from) (λ x. last < x.from) (λ x p. omega (arith, p, above)) calls from_this) in
        let none = none_from last (call ∷ calls) all_above in
        let below : Each (λ x. x.from < call.from) h = each_map (λ x. x.from ≤ last) (λ x. x.from < call.from) (λ x p. omega (arith, p, above)) h high in
        let up_to : Each (λ x. x.from ≤ call.from) (h ++ call ∷ []) = each_append (λ x. x.from ≤ call.from) h (call ∷ []) (each_map (λ x. x.from < call.from) (λ x. x.from ≤ call.from) (λ x p. omega (arith, p)) h below) (omega arith, tt) in
        let floor : is_floor (sizes_of c) call.from ≡ true = floor_so (sizes_of c) call.from are.0.from.0 are.0.from.1 in
        let mask : ℕ = mask_of (calls_from call.from (call ∷ calls)) in
        let more = follow call.from (h ++ call ∷ []) (earlier ++ Gathered mask ∷ []) are.1 order_more from_this up_to in
        let step = one_gather (call ∷ calls) h call.from floor (has_none h call.from below) in (
          Gathered mask ∷ more.0,
          (tt, more.1),
          starts none e ∙ ap (λ n. and_then n (λ m. run c m.0 (earlier ++ m.1 ∷ []) (map Gather (floors_after call.from calls) ++ rest))) step
              ∙ ap (λ w. run c w (earlier ++ Gathered mask ∷ []) (map Gather (floors_after call.from calls) ++ rest)) (moved (same_floor_order h call calls order)) ∙ more.2
              ∙ ap (λ hand. run c (at [] hand) ((earlier ++ Gathered mask ∷ []) ++ more.0) rest) (append_assoc h (call ∷ []) calls) ∙ ap (λ rs. run c (at [] (h ++ call ∷ calls)) rs rest) (append_assoc earlier (Gathered mask ∷ []) more.0),
        )

    next : Gathers last (call ∷ calls) h earlier rest
    next = by (call.from == last) refl
      where
        by : (b : Bool) → (call.from == last) ≡ b → Gathers last (call ∷ calls) h earlier rest
        by true e = same_floor e
        by false e = other_floor e

  -- Of calls in order those from the floors up to one are in the hand, the others on the desk: once the other floors are gathered, all are in the hand.
  gathered_after : (rest : List Event) (calls : List Call) → Follows calls rest
  gathered_after rest [] last h earlier are order low high = ([], tt, ap (λ rs. run c (at [] (h ++ [])) rs rest) (sym (append_nil earlier)))
  gathered_after rest (call ∷ calls) last h earlier are order low high = next last call calls h earlier rest are order low high (gathered_after rest calls)

  -- so all that are pressed are gathered
  pub all_gathered : (calls : List Call) (earlier : List Reply) (rest : List Event) → Each (IsCall (sizes_of c)) calls → IsInOrder calls
      → (replies : List Reply) × AreAccepted replies × (run c (at calls []) earlier (map Gather (floors_of calls) ++ rest) ≡ run c (at [] calls) (earlier ++ replies) rest)
  all_gathered calls earlier rest are order =
      let above : Each (λ x. 0 < x.from) calls = each_map (IsCall (sizes_of c)) (λ x. 0 < x.from) (λ x is. omega (arith, is.from.0)) calls are in
      let none = none_from 0 calls above in
      let all = gathered_after rest calls 0 [] earlier are order (each_map (λ x. 0 < x.from) (λ x. 0 ≤ x.from) (λ x p. omega arith) calls above) tt in
      (all.0, all.1, ap (λ d. run c (at d []) earlier (map Gather (floors_of calls) ++ rest)) (sym none.1) ∙ ap (λ l. run c (at (calls_not_from 0 calls) l) earlier (map Gather (floors_of calls) ++ rest)) (sym none.0) ∙ all.2)
