-- Replies and their reports, one after another.
use Rattle.std.proofs.Common.{◌≡◌, suc, ◌+◌, List, [], ◌∷◌, ◌++◌, ◌⊎◌, inl, inr, map, flat_map, length, refl, sym, ap, ◌∙◌, arith}
use Rattle.group_spec.specs.declared.report.Report.{Report}
use Rattle.group_spec.specs.declared.event.Reply.{Reply as Answer}
use Rattle.group_spec.specs.declared.event.Reply.TheVariants as answer
use Rattle.group_spec.specs.Replies.{Reply, reply_with}
use Rattle.group_world.specs.Running.{replies_of, answer_of, report_of, reports_by, reports_of, AreReports}

-- one more answer, without a report
pub plain_more : (answers : List Answer) (reports : List Report) (a : Answer) (r : Report) → AreReports answers reports → reports_by a ≡ 0 → replies_of (answers ++ a ∷ []) reports ≡ replies_of answers reports ++ reply_with a r ∷ []
plain_more [] [] a r fit plain = by a plain
  where
    by : (b : Answer) → reports_by b ≡ 0 → replies_of (b ∷ []) [] ≡ reply_with b r ∷ []
    by answer.Committed p = absurd (omega (arith, p))
    by answer.Refreshed p = absurd (omega (arith, p))
    by answer.Started p = refl
    by answer.More p = refl
    by answer.End p = refl
    by answer.New p = refl
    by answer.Already p = refl
    by (answer.Gathered mask) p = refl
    by answer.Held p = refl
    by (answer.Refused fault) p = refl
plain_more [] (x ∷ reports) a r fit plain = absurd (omega (arith, fit))
plain_more (answer.Committed ∷ answers) [] a r fit plain = absurd (omega (arith, fit))
plain_more (answer.Committed ∷ answers) (x ∷ reports) a r fit plain = ap (λ l. reply_with answer.Committed x ∷ l) (plain_more answers reports a r (omega (arith, fit)) plain)
plain_more (answer.Refreshed ∷ answers) [] a r fit plain = absurd (omega (arith, fit))
plain_more (answer.Refreshed ∷ answers) (x ∷ reports) a r fit plain = ap (λ l. reply_with answer.Refreshed x ∷ l) (plain_more answers reports a r (omega (arith, fit)) plain)
plain_more (answer.Started ∷ answers) reports a r fit plain = ap (λ l. reply_with answer.Started r ∷ l) (plain_more answers reports a r (omega (arith, fit)) plain)
plain_more (answer.More ∷ answers) reports a r fit plain = ap (λ l. reply_with answer.More r ∷ l) (plain_more answers reports a r (omega (arith, fit)) plain)
plain_more (answer.End ∷ answers) reports a r fit plain = ap (λ l. reply_with answer.End r ∷ l) (plain_more answers reports a r (omega (arith, fit)) plain)
plain_more (answer.New ∷ answers) reports a r fit plain = ap (λ l. reply_with answer.New r ∷ l) (plain_more answers reports a r (omega (arith, fit)) plain)
plain_more (answer.Already ∷ answers) reports a r fit plain = ap (λ l. reply_with answer.Already r ∷ l) (plain_more answers reports a r (omega (arith, fit)) plain)
plain_more (answer.Gathered mask ∷ answers) reports a r fit plain = ap (λ l. reply_with (answer.Gathered mask) r ∷ l) (plain_more answers reports a r (omega (arith, fit)) plain)
plain_more (answer.Held ∷ answers) reports a r fit plain = ap (λ l. reply_with answer.Held r ∷ l) (plain_more answers reports a r (omega (arith, fit)) plain)
plain_more (answer.Refused fault ∷ answers) reports a r fit plain = ap (λ l. reply_with (answer.Refused fault) r ∷ l) (plain_more answers reports a r (omega (arith, fit)) plain)

-- one more, with its report
pub reported_more : (answers : List Answer) (reports : List Report) (a : Answer) (r : Report) → AreReports answers reports → reports_by a ≡ 1 → replies_of (answers ++ a ∷ []) (reports ++ r ∷ []) ≡ replies_of answers reports ++ reply_with a r ∷ []
reported_more [] [] a r fit one = by a one
  where
    by : (b : Answer) → reports_by b ≡ 1 → replies_of (b ∷ []) (r ∷ []) ≡ reply_with b r ∷ []
    by answer.Committed p = refl
    by answer.Refreshed p = refl
    by answer.Started p = absurd (omega (arith, p))
    by answer.More p = absurd (omega (arith, p))
    by answer.End p = absurd (omega (arith, p))
    by answer.New p = absurd (omega (arith, p))
    by answer.Already p = absurd (omega (arith, p))
    by (answer.Gathered mask) p = absurd (omega (arith, p))
    by answer.Held p = absurd (omega (arith, p))
    by (answer.Refused fault) p = absurd (omega (arith, p))
reported_more [] (x ∷ reports) a r fit one = absurd (omega (arith, fit))
reported_more (answer.Committed ∷ answers) [] a r fit one = absurd (omega (arith, fit))
reported_more (answer.Committed ∷ answers) (x ∷ reports) a r fit one = ap (λ l. reply_with answer.Committed x ∷ l) (reported_more answers reports a r (omega (arith, fit)) one)
reported_more (answer.Refreshed ∷ answers) [] a r fit one = absurd (omega (arith, fit))
reported_more (answer.Refreshed ∷ answers) (x ∷ reports) a r fit one = ap (λ l. reply_with answer.Refreshed x ∷ l) (reported_more answers reports a r (omega (arith, fit)) one)
reported_more (answer.Started ∷ answers) reports a r fit one = ap (λ l. reply_with answer.Started r ∷ l) (reported_more answers reports a r (omega (arith, fit)) one)
reported_more (answer.More ∷ answers) reports a r fit one = ap (λ l. reply_with answer.More r ∷ l) (reported_more answers reports a r (omega (arith, fit)) one)
reported_more (answer.End ∷ answers) reports a r fit one = ap (λ l. reply_with answer.End r ∷ l) (reported_more answers reports a r (omega (arith, fit)) one)
reported_more (answer.New ∷ answers) reports a r fit one = ap (λ l. reply_with answer.New r ∷ l) (reported_more answers reports a r (omega (arith, fit)) one)
reported_more (answer.Already ∷ answers) reports a r fit one = ap (λ l. reply_with answer.Already r ∷ l) (reported_more answers reports a r (omega (arith, fit)) one)
reported_more (answer.Gathered mask ∷ answers) reports a r fit one = ap (λ l. reply_with (answer.Gathered mask) r ∷ l) (reported_more answers reports a r (omega (arith, fit)) one)
reported_more (answer.Held ∷ answers) reports a r fit one = ap (λ l. reply_with answer.Held r ∷ l) (reported_more answers reports a r (omega (arith, fit)) one)
reported_more (answer.Refused fault ∷ answers) reports a r fit one = ap (λ l. reply_with (answer.Refused fault) r ∷ l) (reported_more answers reports a r (omega (arith, fit)) one)

-- the reports of one answer more
pub reports_more : (answers : List Answer) (a : Answer) → reports_of (answers ++ a ∷ []) ≡ reports_of answers + reports_by a
reports_more [] a = omega arith
reports_more (x ∷ answers) a = let rest = reports_more answers a in omega (arith, rest)

-- the answers and the reports of replies are those that they were made of
pub answers_again : (answers : List Answer) (reports : List Report) → AreReports answers reports → answers ≡ map answer_of (replies_of answers reports)
answers_again [] reports fit = refl
answers_again (answer.Committed ∷ answers) [] fit = absurd (omega (arith, fit))
answers_again (answer.Committed ∷ answers) (x ∷ reports) fit = ap (λ l. answer.Committed ∷ l) (answers_again answers reports (omega (arith, fit)))
answers_again (answer.Refreshed ∷ answers) [] fit = absurd (omega (arith, fit))
answers_again (answer.Refreshed ∷ answers) (x ∷ reports) fit = ap (λ l. answer.Refreshed ∷ l) (answers_again answers reports (omega (arith, fit)))
answers_again (answer.Started ∷ answers) reports fit = ap (λ l. answer.Started ∷ l) (answers_again answers reports (omega (arith, fit)))
answers_again (answer.More ∷ answers) reports fit = ap (λ l. answer.More ∷ l) (answers_again answers reports (omega (arith, fit)))
answers_again (answer.End ∷ answers) reports fit = ap (λ l. answer.End ∷ l) (answers_again answers reports (omega (arith, fit)))
answers_again (answer.New ∷ answers) reports fit = ap (λ l. answer.New ∷ l) (answers_again answers reports (omega (arith, fit)))
answers_again (answer.Already ∷ answers) reports fit = ap (λ l. answer.Already ∷ l) (answers_again answers reports (omega (arith, fit)))
answers_again (answer.Gathered mask ∷ answers) reports fit = ap (λ l. answer.Gathered mask ∷ l) (answers_again answers reports (omega (arith, fit)))
answers_again (answer.Held ∷ answers) reports fit = ap (λ l. answer.Held ∷ l) (answers_again answers reports (omega (arith, fit)))
answers_again (answer.Refused fault ∷ answers) reports fit = ap (λ l. answer.Refused fault ∷ l) (answers_again answers reports (omega (arith, fit)))

pub reports_again : (answers : List Answer) (reports : List Report) → AreReports answers reports → reports ≡ flat_map report_of (replies_of answers reports)
reports_again [] [] fit = refl
reports_again [] (x ∷ reports) fit = absurd (omega (arith, fit))
reports_again (answer.Committed ∷ answers) [] fit = absurd (omega (arith, fit))
reports_again (answer.Committed ∷ answers) (x ∷ reports) fit = ap (λ l. x ∷ l) (reports_again answers reports (omega (arith, fit)))
reports_again (answer.Refreshed ∷ answers) [] fit = absurd (omega (arith, fit))
reports_again (answer.Refreshed ∷ answers) (x ∷ reports) fit = ap (λ l. x ∷ l) (reports_again answers reports (omega (arith, fit)))
reports_again (answer.Started ∷ answers) reports fit = reports_again answers reports (omega (arith, fit))
reports_again (answer.More ∷ answers) reports fit = reports_again answers reports (omega (arith, fit))
reports_again (answer.End ∷ answers) reports fit = reports_again answers reports (omega (arith, fit))
reports_again (answer.New ∷ answers) reports fit = reports_again answers reports (omega (arith, fit))
reports_again (answer.Already ∷ answers) reports fit = reports_again answers reports (omega (arith, fit))
reports_again (answer.Gathered mask ∷ answers) reports fit = reports_again answers reports (omega (arith, fit))
reports_again (answer.Held ∷ answers) reports fit = reports_again answers reports (omega (arith, fit))
reports_again (answer.Refused fault ∷ answers) reports fit = reports_again answers reports (omega (arith, fit))

-- one more reply, where its report, if it has one, was kept
pub one_reply_more : (answers after : List Answer) (reports kept : List Report) (a : Answer) (r : Report) → AreReports answers reports → after ≡ answers ++ a ∷ [] → (reports_by a ≡ 0 → kept ≡ reports) → (reports_by a ≡ 1 → kept ≡ reports ++ r ∷ [])
    → replies_of after kept ≡ replies_of answers reports ++ reply_with a r ∷ []
one_reply_more answers after reports kept a r fit more plain one =
    elim (none_or_one a) [
      | inl none ↦ rw (more, plain none) (plain_more answers reports a r fit none)
      | inr some ↦ rw (more, one some) (reported_more answers reports a r fit some)
    ]
  where
    none_or_one : (b : Answer) → (reports_by b ≡ 0) ⊎ (reports_by b ≡ 1)
    none_or_one answer.Committed = inr refl
    none_or_one answer.Refreshed = inr refl
    none_or_one answer.Started = inl refl
    none_or_one answer.More = inl refl
    none_or_one answer.End = inl refl
    none_or_one answer.New = inl refl
    none_or_one answer.Already = inl refl
    none_or_one (answer.Gathered mask) = inl refl
    none_or_one answer.Held = inl refl
    none_or_one (answer.Refused fault) = inl refl

pub still_reports : (answers after : List Answer) (reports kept : List Report) (a : Answer) → AreReports answers reports → after ≡ answers ++ a ∷ [] → length kept ≡ length reports + reports_by a → AreReports after kept
still_reports answers after reports kept a fit more many = many ∙ ap (λ n. n + reports_by a) fit ∙ sym (reports_more answers a) ∙ ap reports_of (sym more)

map_length : (replies : List Reply) → length (map answer_of replies) ≡ length replies
map_length [] = refl
map_length (r ∷ replies) = ap suc (map_length replies)

-- as many replies as answers
pub replies_many : (answers : List Answer) (reports : List Report) → AreReports answers reports → length (replies_of answers reports) ≡ length answers
replies_many answers reports fit = sym (map_length (replies_of answers reports)) ∙ sym (ap length (answers_again answers reports fit))
