-- What is printed along a trace, by one event more.
use Rattle.std.proofs.Common.{◌≡◌, ℕ, ◌+◌, ◌≤◌, List, [], ◌∷◌, ◌++◌, take, length, Bool, refl, ap, ap₂, ◌∙◌, sym, subst, arith}
use Rattle.std.proofs.lemmas.List.{append_assoc, append-nil, take_all}
use Rattle.std.specs.Prelude.{Some, slice_get}
use Rattle.base_json.specs.declared.form.Form.{Form}
use Rattle.il_syntax.specs.declared.tree.Config.{Config}
use Rattle.group_rounds.specs.Along.{Step, AreStepsOf, Lead, TakesWith}
use Rattle.group_rounds.proofs.Stepping.{step_more}
use Rattle.group_spec.specs.declared.trace.TraceEvent.{TraceEvent}
use Rattle.group_spec.specs.declared.trace.TraceEvent.TheVariants as traced
use Rattle.group_spec.specs.Replies.{Reply}
use Rattle.group_spec.specs.World.{World}
use Rattle.show_values.specs.declared.asked.Asked.{Asked}
use Rattle.show_values.specs.declared.names.Watched.{Watched}
use Rattle.show_values.specs.Asked.{nothing_asked, asked_at}
use Rattle.show_values.specs.Following.{round_behind, denied_at, denied_along, row_of, row_before, rows_along, IsDeniedIn, AreRowsAlong}

-- ROUNDS

-- the round after steps
abbrev pub round_along : List Step → ℕ → ℕ
round_along [] round = round
round_along (s ∷ steps) round = round_along steps (round_behind s.event round)

round_more : (steps : List Step) (s : Step) (round : ℕ) → round_along (steps ++ s ∷ []) round ≡ round_behind s.event (round_along steps round)
round_more [] s round = refl
round_more (x ∷ steps) s round = round_more steps s (round_behind x.event round)

-- one event more begins one round more at most
pub round_most : (e : TraceEvent) (round n : ℕ) → round ≤ n → round_behind e round ≤ n + 1
round_most (traced.Start t) round n most = omega (arith, most)
round_most (traced.Commit t) round n most = omega (arith, most)
round_most (traced.Press call) round n most = omega (arith, most)
round_most (traced.Gather floor) round n most = omega (arith, most)
round_most (traced.Refresh fields) round n most = omega (arith, most)

-- the steps of one event more
abbrev and_then : List Step → TraceEvent → Reply → World → List Step
and_then steps e reply v = steps ++ record { event = e; reply = reply; after = v } ∷ []

-- DENIALS

denied_more : (form : Form) (all : Bool) (steps : List Step) (s : Step) (round : ℕ) → denied_along form all (steps ++ s ∷ []) round ≡ denied_along form all steps round ++ denied_at form all s.event s.reply (round_behind s.event (round_along steps round))
denied_more form all [] s round = append-nil (denied_at form all s.event s.reply (round_behind s.event round))
denied_more form all (x ∷ steps) s round =
    let next = round_behind x.event round in
    ap (λ (l : List ℕ). denied_at form all x.event x.reply next ++ l) (denied_more form all steps s next)
    ∙ sym (append_assoc (denied_at form all x.event x.reply next) (denied_along form all steps next) (denied_at form all s.event s.reply (round_behind s.event (round_along steps next))))

-- what is printed of the events so far, and their last round
pub record IsDeniedTo (form : Form) (all : Bool) (c : Config) (w : World) (events : List TraceEvent) (v : World) (text : List ℕ) (round : ℕ) : Type 0 where
  pub steps : List Step
  pub are : AreStepsOf c w events v steps
  pub is : text ≡ denied_along form all steps 0
  pub at : round ≡ round_along steps 0

-- none yet
pub denied_none : (form : Form) (all : Bool) (c : Config) (w : World) (text : List ℕ) → text ≡ [] → IsDeniedTo form all c w [] w text 0
denied_none form all c w text is = record { steps = []; are = record { of = refl; lead = refl }; is = is; at = refl }

-- one event more
pub denied_next : (form : Form) (all : Bool) (c : Config) (w m v : World) (events : List TraceEvent) (i : ℕ) (text now : List ℕ) (round next : ℕ) (e : TraceEvent) (reply : Reply) → slice_get events i ≡ Some e → IsDeniedTo form all c w (take i events) m text round
    → TakesWith c m e reply v → next ≡ round_behind e round → now ≡ text ++ denied_at form all e reply next → IsDeniedTo form all c w (take (i + 1) events) v now next
denied_next form all c w m v events i text now round next e reply there to last behind is =
    let s : Step = record { event = e; reply = reply; after = v } in
    let same : next ≡ round_behind e (round_along to.steps 0) = behind ∙ ap (round_behind e) to.at in
    record {
      steps = and_then to.steps e reply v;
      are = step_more c w m v events i to.steps e reply there to.are last;
      is = is ∙ ap₂ (λ (l r : List ℕ). l ++ r) to.is (ap (denied_at form all e reply) same) ∙ sym (denied_more form all to.steps s 0);
      at = same ∙ sym (round_more to.steps s 0);
    }

-- all of them
pub denied_all : (form : Form) (all : Bool) (c : Config) (w v : World) (events : List TraceEvent) (n : ℕ) (text : List ℕ) (round : ℕ) → length events ≤ n → IsDeniedTo form all c w (take n events) v text round → IsDeniedIn form all c w events v text
denied_all form all c w v events n text round e to = record { steps = to.steps; are = subst (λ (l : List TraceEvent). AreStepsOf c w l v to.steps) (take_all n events e) to.are; is = to.is }

-- ROWS

-- what is asked for after steps
abbrev pub asked_along : List Step → Asked → Asked
asked_along [] asked = asked
asked_along (s ∷ steps) asked = asked_along steps (asked_at s.event s.reply asked)

asked_more : (steps : List Step) (s : Step) (asked : Asked) → asked_along (steps ++ s ∷ []) asked ≡ asked_at s.event s.reply (asked_along steps asked)
asked_more [] s asked = refl
asked_more (x ∷ steps) s asked = asked_more steps s (asked_at x.event x.reply asked)

-- the rows of the rounds that steps end
abbrev pub rows_before : List Watched → List Step → ℕ → Asked → World → List ℕ
rows_before watched [] round asked w = []
rows_before watched (s ∷ steps) round asked w = row_before watched s.event round asked w ++ rows_before watched steps (round_behind s.event round) (asked_at s.event s.reply asked) s.after

rows_more : (watched : List Watched) (c : Config) (w m : World) (steps : List Step) (s : Step) (round : ℕ) (asked : Asked) → Lead c w steps m
    → rows_before watched (steps ++ s ∷ []) round asked w ≡ rows_before watched steps round asked w ++ row_before watched s.event (round_along steps round) (asked_along steps asked) m
rows_more watched c w m [] s round asked lead = append-nil (row_before watched s.event round asked w) ∙ ap (row_before watched s.event round asked) lead
rows_more watched c w m (x ∷ steps) s round asked lead =
    let next = round_behind x.event round in
    let wish = asked_at x.event x.reply asked in
    ap (λ (l : List ℕ). row_before watched x.event round asked w ++ l) (rows_more watched c x.after m steps s next wish lead.1)
    ∙ sym (append_assoc (row_before watched x.event round asked w) (rows_before watched steps next wish x.after) (row_before watched s.event (round_along steps next) (asked_along steps wish) m))

rows_last : (watched : List Watched) (c : Config) (w v : World) (steps : List Step) (round : ℕ) (asked : Asked) → Lead c w steps v
    → rows_along watched steps round asked w ≡ rows_before watched steps round asked w ++ row_of watched (round_along steps round) (asked_along steps asked) v
rows_last watched c w v [] round asked lead = ap (row_of watched round asked) lead
rows_last watched c w v (x ∷ steps) round asked lead =
    let next = round_behind x.event round in
    let wish = asked_at x.event x.reply asked in
    ap (λ (l : List ℕ). row_before watched x.event round asked w ++ l) (rows_last watched c x.after v steps next wish lead.1)
    ∙ sym (append_assoc (row_before watched x.event round asked w) (rows_before watched steps next wish x.after) (row_of watched (round_along steps next) (asked_along steps wish) v))

-- after a text are the rows of the rounds that ended so far; the round that has not, and what is asked for
pub record AreRowsTo (watched : List Watched) (c : Config) (w : World) (events : List TraceEvent) (v : World) (before text : List ℕ) (round : ℕ) (asked : Asked) : Type 0 where
  pub steps : List Step
  pub are : AreStepsOf c w events v steps
  pub is : text ≡ before ++ rows_before watched steps 0 nothing_asked w
  pub at : round ≡ round_along steps 0
  pub asks : asked ≡ asked_along steps nothing_asked

-- none yet
pub rows_none : (watched : List Watched) (c : Config) (w : World) (text : List ℕ) (asked : Asked) → asked ≡ nothing_asked → AreRowsTo watched c w [] w text text 0 asked
rows_none watched c w text asked none = record { steps = []; are = record { of = refl; lead = refl }; is = sym (append-nil text); at = refl; asks = none }

-- one event more
pub rows_next : (watched : List Watched) (c : Config) (w m v : World) (events : List TraceEvent) (i : ℕ) (before text now : List ℕ) (round next : ℕ) (asked wish : Asked) (e : TraceEvent) (reply : Reply) → slice_get events i ≡ Some e
    → AreRowsTo watched c w (take i events) m before text round asked → TakesWith c m e reply v → next ≡ round_behind e round → wish ≡ asked_at e reply asked → now ≡ text ++ row_before watched e round asked m
    → AreRowsTo watched c w (take (i + 1) events) v before now next wish
rows_next watched c w m v events i before text now round next asked wish e reply there to last behind after is =
    let s : Step = record { event = e; reply = reply; after = v } in
    let row = row_before watched e (round_along to.steps 0) (asked_along to.steps nothing_asked) m in
    record {
      steps = and_then to.steps e reply v;
      are = step_more c w m v events i to.steps e reply there to.are last;
      is =
          is ∙ ap₂ (λ (l r : List ℕ). l ++ r) to.is (ap₂ (λ n (a : Asked). row_before watched e n a m) to.at to.asks) ∙ append_assoc before (rows_before watched to.steps 0 nothing_asked w) row
          ∙ ap (λ (l : List ℕ). before ++ l) (sym (rows_more watched c w m to.steps s 0 nothing_asked to.are.lead));
      at = behind ∙ ap (round_behind e) to.at ∙ sym (round_more to.steps s 0);
      asks = after ∙ ap (asked_at e reply) to.asks ∙ sym (asked_more to.steps s nothing_asked);
    }

-- all of them, and the row of the last
pub rows_all : (watched : List Watched) (c : Config) (w v : World) (events : List TraceEvent) (n : ℕ) (before text now : List ℕ) (round : ℕ) (asked : Asked) → length events ≤ n → AreRowsTo watched c w (take n events) v before text round asked
    → now ≡ text ++ row_of watched round asked v → (rows : List ℕ) × (now ≡ before ++ rows) × AreRowsAlong watched c w events v rows
rows_all watched c w v events n before text now round asked e to is = (
  rows_along watched to.steps 0 nothing_asked w,
  is ∙ ap₂ (λ (l r : List ℕ). l ++ r) to.is (ap₂ (λ k (a : Asked). row_of watched k a v) to.at to.asks)
      ∙ append_assoc before (rows_before watched to.steps 0 nothing_asked w) (row_of watched (round_along to.steps 0) (asked_along to.steps nothing_asked) v) ∙ ap (λ (l : List ℕ). before ++ l) (sym (rows_last watched c w v to.steps 0 nothing_asked to.are.lead)),
  record { steps = to.steps; are = subst (λ (l : List TraceEvent). AreStepsOf c w l v to.steps) (take_all n events e) to.are; is = refl },
)
