-- What is done in a round.
use Rattle.std.proofs.Common.{◌≡◌, ℕ, ◌+◌, List, [], ◌∷◌, ◌++◌, take, Some, refl, sym, ap, ◌∙◌, subst}
use Rattle.std.specs.Prelude.{slice_get}
use Rattle.std.proofs.lemmas.List.{append_assoc}
use Rattle.il_syntax.specs.declared.tree.Config.{Config}
use Rattle.group_spec.specs.declared.report.Report.{Report}
use Rattle.group_spec.specs.World.{World}
use Rattle.group_rounds.specs.Shown.{ScansReporting}
use Rattle.group_rounds.proofs.Driving.{take_next}
use Rattle.group_rounds.specs.declared.notice.Notice.{Notice}
use Rattle.group_rounds.specs.Notices.{commit_notices}
use Rattle.group_rounds.specs.Rounds.{ScansNoticed}

nil : (xs : List Notice) → xs ++ [] ≡ xs
nil [] = refl
nil (x ∷ xs) = ap (λ l. x ∷ l) (nil xs)

noticed_more : (c : Config) (tasks : List ℕ) (t : ℕ) (w m v : World) (scanned : List Notice) (report : Report) → ScansNoticed c tasks w m scanned → ScansReporting c t m v report → ScansNoticed c (tasks ++ t ∷ []) w v (scanned ++ commit_notices t report)
noticed_more c [] t w m v scanned report (same, none) scan = (
  v,
  report,
  [],
  subst (λ x. ScansReporting c t x v report) (sym same) scan,
  (refl, refl),
  ap (λ l. l ++ commit_notices t report) none ∙ sym (nil (commit_notices t report)),
)
noticed_more c (x ∷ tasks) t w m v scanned report (u, first, rest, scan_first, others, is) scan = (
  u,
  first,
  rest ++ commit_notices t report,
  scan_first,
  noticed_more c tasks t u m v rest report others scan,
  ap (λ l. l ++ commit_notices t report) is ∙ append_assoc (commit_notices x first) rest (commit_notices t report),
)

-- one scan more
pub noticed_next : (c : Config) (tasks : List ℕ) (i t : ℕ) (w m v : World) (scanned : List Notice) (report : Report) → slice_get tasks i ≡ Some t → ScansNoticed c (take i tasks) w m scanned → ScansReporting c t m v report
    → ScansNoticed c (take (i + 1) tasks) w v (scanned ++ commit_notices t report)
noticed_next c tasks i t w m v scanned report at before scan =
    subst (λ l. ScansNoticed c l w v (scanned ++ commit_notices t report)) (sym (take_next tasks i t at)) (noticed_more c (take i tasks) t w m v scanned report before scan)
