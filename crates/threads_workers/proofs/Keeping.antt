-- No press of a run is lost, and none is doubled.
use Rattle.std.proofs.Common.{◌≡◌, ℕ, zero, suc, ◌+◌, ◌<◌, ◌≤◌, Bool, true, false, List, [], ◌∷◌, ◌++◌, map, refl, sym, ap, ◌∙◌, arith, subst}
use Rattle.std.specs.Prelude.{All, sum_by, if◌then◌else◌, IsPermutation, Result, Ok, Err, IfOk, OnOk}
use Rattle.std.proofs.lemmas.List.Elements.{All-head, All-tail}
use Rattle.std.proofs.lemmas.List.Sums.{sum_by-cons}
use Rattle.std.proofs.lemmas.List.Sorted.{sum_by-IsPermutation}
use Rattle.atomic_table.specs.Seated.{TableId}
use Rattle.threads_desk.specs.Account.{times, membership}
use Rattle.threads_desk.specs.Passes.{Panel, Holding, Left, Gathered, IsBalanced, AreAnsweredNew, IsFloorOf}
use Rattle.threads_desk.proofs.Sums.{times-append, sum-push}
use Rattle.cli_host.specs.declared.press.Press.{Press}
use Rattle.group_journal.specs.Journal.{calls_entered}
use Rattle.group_rounds.specs.Driven.{call_of}
use Rattle.group_spec.specs.declared.calls.Call.{Call}
use Rattle.group_spec.specs.declared.journal.Entry.{Entry}
use Rattle.group_spec.specs.Hands.{same_call}
use Rattle.group_plant.specs.declared.switches.Switches.{Switches}
use Rattle.threads_workers.specs.Panels.{HasPressed, IsIdle, calls_at, at_panel, pressed, ArePressed}
use Rattle.threads_workers.specs.Ran.{IsEntered, found, AreKept, IsRun}
use Rattle.threads_workers.specs.declared.run.Ran.{Ran}
use Rattle.il_syntax.specs.declared.tree.Config.{Config}

-- PANELS

-- who pressed nothing was answered nothing
pub idle_pressed : (table : TableId) (ps : List Panel) → All (λ (p : Panel). IsIdle table p) ps → (c : Call) → sum_by (λ (p : Panel). times c p.pressed) ps ≡ 0
idle_pressed table [] all c = refl
idle_pressed table (p ∷ ps) all c =
    let first = All-head (λ (x : Panel). IsIdle table x) p ps all in
    let rest = idle_pressed table ps (All-tail (λ (x : Panel). IsIdle table x) p ps all) c in
    omega (arith, ap (times c) first.2, rest, sum_by-cons (λ (x : Panel). times c x.pressed) p ps)

pub idle_news : (table : TableId) (ps : List Panel) → All (λ (p : Panel). IsIdle table p) ps → (c : Call) → sum_by (λ (p : Panel). times c p.news) ps ≡ 0
idle_news table [] all c = refl
idle_news table (p ∷ ps) all c =
    let first = All-head (λ (x : Panel). IsIdle table x) p ps all in
    let rest = idle_news table ps (All-tail (λ (x : Panel). IsIdle table x) p ps all) c in
    omega (arith, ap (times c) first.1, rest, sum_by-cons (λ (x : Panel). times c x.news) p ps)

-- a panel that was idle pressed its own calls alone
pub own_pressed : (table : TableId) (p q : Panel) (presses : List Press) → IsIdle table p → HasPressed p q presses → (c : Call) → times c q.pressed ≡ at_panel c presses p
own_pressed table p q presses idle has c = ap (times c) has.pressed ∙ ap (λ cs. times c (cs ++ calls_at p.floor p.panel presses)) idle.2

pub own_news : (table : TableId) (p q : Panel) (presses : List Press) → IsIdle table p → HasPressed p q presses → (c : Call) → times c q.news ≤ times c q.pressed
own_news table p q presses idle has c = omega (arith, has.news c, ap (times c) idle.1, ap (times c) idle.2)

-- THE HAND

-- a round of the collector: it gathers, and a refresh enters some calls of its hand
pub entered_on : (entered after calls : List Call) (h k m : Holding) → IsEntered entered h → Gathered h k → after ≡ entered ++ calls → m.gathered ≡ k.gathered → ((c : Call) → times c calls + membership m.hand c ≡ membership k.hand c) → IsEntered after m
entered_on entered after calls h k m own gathered is same left =
    λ c. omega (arith, own c, gathered.pairs c, left c, ap (times c) is ∙ times-append c entered calls, ap (times c) same)

-- THE END

pub kept_so : (floors : ℕ) (presses : List Press) (entries : List Entry) (left : Left) (panels : List Panel) (entered : List Call) (h : Holding) → entered ≡ calls_entered entries → IsEntered entered h → left.hand ≡ h.hand
    → IsBalanced floors panels h.gathered left.desk → AreAnsweredNew floors panels → ArePressed presses panels → AreKept floors presses entries left
kept_so floors presses entries left panels entered h is own same balanced answered all =
    let news : (c : Call) → IsFloorOf floors c.from → IsFloorOf floors c.to → found entries left c ≡ sum_by (λ (p : Panel). times c p.news) panels =
    λ c from to. omega (arith, ap (times c) is, own c, ap (λ l. membership l c) same, balanced c from to)
    in
    record {
      lost = λ c from to more. (let one = answered c from to (omega (arith, more, all.all c)) in omega (arith, news c from to, one));
      doubled = λ c from to. omega (arith, news c from to, all.news c, all.all c);
    }

-- IN ANY ORDER

abbrev one_of : Call → Press → ℕ
one_of c press = if same_call (call_of press) c then 1 else 0

pressed_sum : (c : Call) (presses : List Press) → pressed presses c ≡ sum_by (one_of c) presses
pressed_sum c [] = refl
pressed_sum c (p ∷ presses) = omega (arith, pressed_sum c presses, sum_by-cons (one_of c) p presses)

pub pressed_same : (xs ys : List Press) → IsPermutation xs ys → (c : Call) → pressed ys c ≡ pressed xs c
pressed_same xs ys same c = pressed_sum c ys ∙ sum_by-IsPermutation (one_of c) xs ys same ∙ sym (pressed_sum c xs)

pub kept_same : (floors : ℕ) (xs ys : List Press) (entries : List Entry) (left : Left) → IsPermutation xs ys → AreKept floors ys entries left → AreKept floors xs entries left
kept_same floors xs ys entries left same kept = record {
  lost = λ c from to more. kept.lost c from to (omega (arith, more, pressed_same xs ys same c));
  doubled = λ c from to. omega (arith, kept.doubled c from to, pressed_same xs ys same c);
}

run_same : (c : Config) (switches : ℕ → Switches) (rounds : ℕ) (xs ys : List Press) (entries : List Entry) (left : Left) → IsPermutation xs ys → IsRun c switches rounds ys entries left → IsRun c switches rounds xs entries left
run_same c switches rounds xs ys entries left same run = record {
  world = run.world;
  journal = run.journal;
  tasks = run.tasks;
  refreshes = run.refreshes;
  plant = run.plant;
  safe = run.safe;
  kept = kept_same _ xs ys entries left same run.kept;
}

pub ran_same : {E : Type 0} (c : Config) (switches : ℕ → Switches) (rounds : ℕ) (xs ys : List Press) (r : Result Ran E) → IsPermutation xs ys
    → IfOk r (λ (ran : Ran). IsRun c switches rounds ys ran.journal.items ran.left) → IfOk r (λ (ran : Ran). IsRun c switches rounds xs ran.journal.items ran.left)
ran_same c switches rounds xs ys (Ok ran) same run = run_same c switches rounds xs ys ran.journal.items ran.left same run
ran_same c switches rounds xs ys (Err e) same run = tt

-- LOOPS

-- what was started makes what was left to be made
pub made_more : {H : Type 0} (started now : List H) (h : H) (f : H → ℕ) (rest here left all : ℕ) → now ≡ started ++ h ∷ [] → sum_by f started + left ≡ all → left ≡ rest + here → f h ≡ here → sum_by f now + rest ≡ all
made_more started now h f rest here left all is was split one = omega (arith, was, split, one, ap (sum_by f) is ∙ sum-push f started h)

-- what holds where a call is done holds where it was
pub on_ok : {A E : Type 0} (r : Result A E) (x : A) (Q : Type 0) → r ≡ Ok x → OnOk r Q → Q
on_ok r x Q is done = subst (λ t. OnOk t Q) is done

pub sum_last : {X : Type 0} (now xs : List X) (x : X) (f : X → ℕ) → now ≡ xs ++ x ∷ [] → sum_by f now ≡ sum_by f xs + f x
sum_last now xs x f is = ap (sum_by f) is ∙ sum-push f xs x

all_last : {X : Type 0} (P : X → Type 0) (xs : List X) (x : X) → All P (xs ++ x ∷ []) → P x
all_last P [] x all = all 0 x (omega arith)
all_last P (y ∷ ys) x all = all_last P ys x (λ k d low. all (suc k) d (omega (arith, low)))

all_others : {X : Type 0} (P : X → Type 0) (xs : List X) (x : X) → All P (xs ++ x ∷ []) → All P xs
all_others P [] x all k d low = absurd (omega (arith, low))
all_others P (y ∷ ys) x all zero d low = all 0 d (omega arith)
all_others P (y ∷ ys) x all (suc k) d low = all_others P ys x (λ k d low. all (suc k) d (omega (arith, low))) k d (omega (arith, low))

-- what holds of all holds of the others and of the last
pub all_but_last : {X : Type 0} (now xs : List X) (x : X) → now ≡ xs ++ x ∷ [] → (P : X → Type 0) → All P now → All P xs × P x
all_but_last now xs x is P all = let a = subst (All P) is all in (all_others P xs x a, all_last P xs x a)
