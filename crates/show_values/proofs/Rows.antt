-- Rows of a small trace, computed: two refreshes, with a press before the first and a start after it.
use Rattle.std.proofs.Common.{◌≡◌, ℕ, List, [], ◌∷◌, ◌++◌, Bool, None, refl}
use Rattle.std.specs.Prelude.{codes, decimal}
use Rattle.base_json.specs.declared.form.Form.{Form}
use Rattle.base_json.specs.declared.form.Form.TheVariants.{Json}
use Rattle.base_json.specs.Objects.{line_of}
use Rattle.json.specs.Token.{begin_object, end_object, key, string, number}
use Rattle.group_rounds.specs.Along.{Step}
use Rattle.group_rounds.specs.Shown.{Commit}
use Rattle.group_spec.specs.declared.calls.Answer.TheVariants.{Stale}
use Rattle.group_spec.specs.declared.calls.Call.{Call}
use Rattle.group_spec.specs.declared.image.Fields.{Fields}
use Rattle.group_spec.specs.declared.image.CarOutputs.{CarOutputs}
use Rattle.group_spec.specs.declared.report.Answered.{Answered}
use Rattle.group_spec.specs.declared.report.Report.{Report}
use Rattle.group_spec.specs.declared.trace.TraceEvent.TheVariants as traced
use Rattle.group_spec.specs.Replies.{New, Refreshed, Committed}
use Rattle.group_spec.specs.World.{World}
use Rattle.show_values.specs.declared.asked.Asked.{Asked}
use Rattle.show_values.specs.declared.names.Watched.{Watched}
use Rattle.show_values.specs.Asked.{nothing_asked, asked_behind, serve_in, serve_at, assign_of}
use Rattle.show_values.specs.Denials.{refresh_rows, denials_rows, answers_rows, event_members, answer_members}
use Rattle.show_values.specs.Following.{denied_along, rows_along}
use Rattle.show_values.specs.Values.{row_text}

module _ (call : Call) (fields later : Fields) (a b c : Report) (w m n o p q : World) (watched : List Watched) (form : Form) (all : Bool) where
  abbrev steps : List Step
  steps =
      record { event = traced.Press call; reply = New; after = m } ∷ record { event = traced.Commit 0; reply = Committed a; after = n } ∷ record { event = traced.Refresh fields; reply = Refreshed b; after = o }
      ∷ record { event = traced.Commit 1; reply = Committed c; after = p } ∷ record { event = traced.Refresh later; reply = Refreshed a; after = q } ∷ []

  abbrev asked : Asked
  asked = record { serves = serve_in c.answers ∷ 0 ∷ 0 ∷ 0 ∷ 0 ∷ 0 ∷ 0 ∷ 0 ∷ []; tells = a.answers }

  rows : rows_along watched steps 0 nothing_asked w ≡ row_text watched 1 asked p ++ row_text watched 2 asked q
  rows = refl

  denied : denied_along form all steps 0 ≡ (denials_rows form 0 a.denials ++ answers_rows form 0 0 a.answers) ++ (refresh_rows form all 1 b.denials ++ ((denials_rows form 1 c.denials ++ answers_rows form 1 1 c.answers) ++ (refresh_rows form all 2 a.denials ++ [])))
  denied = refl

-- A serve of GROUP that was not done, as an object.
stale : answers_rows Json 3 0 (record { slot = 1; ticket = None; car = 1; answer = Stale } ∷ []) ≡ line_of (begin_object ∷ key (codes "round") ∷ number (decimal 3) ∷ key (codes "by") ∷ string (codes "commit") ∷ key (codes "task") ∷ string (codes "GROUP") ∷ key (codes "slot") ∷ number (decimal 1) ∷ key (codes "answer") ∷ string (codes "stale") ∷ end_object ∷ []) ++ []
unfolding event_members answer_members
stale = refl

-- What is asked for after commits of a small group, computed.
module _ (outputs : List CarOutputs) where
  abbrev tell : ℕ → ℕ → Answered
  tell slot car = record { slot = slot; ticket = None; car = car; answer = Stale }

  -- a commit with these answers
  abbrev commit : ℕ → List Answered → Commit
  commit t answers = record { task = t; report = record { outputs = outputs; denials = []; answers = answers; entered = [] } }

  -- GROUP tells slot 3 to car 2 and slot 5 to car 1; then car 2 serves slot 3, and car 1 nothing
  abbrev first : Asked
  first = asked_behind (commit 0 (tell 3 2 ∷ tell 5 1 ∷ []) ∷ commit 2 (tell 3 2 ∷ []) ∷ commit 1 [] ∷ []) nothing_asked

  told : (assign_of 3 first ≡ 2) × (assign_of 5 first ≡ 1) × (assign_of 4 first ≡ 0)
  told = (refl, refl, refl)

  served : (serve_at 1 first ≡ 3) × (serve_at 0 first ≡ 0) × (serve_at 7 first ≡ 0)
  served = (refl, refl, refl)

  -- then GROUP tells slot 4 to car 1, and car 2 serves nothing
  abbrev later : Asked
  later = asked_behind (commit 0 (tell 4 1 ∷ []) ∷ commit 2 [] ∷ []) first

  told_later : (assign_of 3 later ≡ 0) × (assign_of 5 later ≡ 0) × (assign_of 4 later ≡ 1)
  told_later = (refl, refl, refl)

  served_later : (serve_at 1 later ≡ 0) × (serve_at 0 later ≡ 0)
  served_later = (refl, refl)
