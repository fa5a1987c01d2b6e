-- The totals after one entry more.
use Rattle.std.proofs.Common.{◌≡◌, ◌≢◌, ℕ, ◌+◌, ◌<◌, Bool, true, false, List, [], ◌∷◌, ◌++◌, length, refl, sym, ap, ◌∙◌, arith, append-nil}
use Rattle.std.specs.Prelude.{◌==◌, if◌then◌else◌, slice_index_or, slice_set}
use Rattle.std.proofs.lemmas.List.{get_or-set_same, get_or-set_other, length-set}
use Rattle.std.proofs.lemmas.Bool.Decides.{nat_tests}
use Rattle.group_spec.specs.declared.calls.Call.{Call}
use Rattle.group_spec.specs.declared.journal.Entry.{Entry}
use Rattle.group_journal.specs.Journal.{actor_of, entries_by, entered_by, calls_entered}
use Rattle.group_journal.proofs.Journals.{entries_more, entered_more}
use Rattle.threads_station.specs.Counted.{Counted}

total_at : (totals : List ℕ) (a b : ℕ) (t : Bool) → (a == b) ≡ t → a < length totals → slice_index_or (slice_set totals a (slice_index_or totals a 0 + 1)) b 0 ≡ slice_index_or totals b 0 + (if t then 1 else 0)
total_at totals a b true is low =
    let same : b ≡ a = grind (arith, nat_tests) in
    rw same (get_or-set_same totals a (slice_index_or totals a 0 + 1) 0 low)
total_at totals a b false is low =
    let other : b ≢ a = grind (arith, nat_tests) in
    get_or-set_other totals a b (slice_index_or totals a 0 + 1) 0 other ∙ omega arith

-- one entry more of the actor a
pub counted_more : (totals : List ℕ) (es now : List Entry) (e : Entry) (a : ℕ) → Counted totals es → now ≡ es ++ e ∷ [] → actor_of e ≡ a → a < 10 → Counted (slice_set totals a (slice_index_or totals a 0 + 1)) now
counted_more totals es now e a c is by low =
    let n = slice_index_or totals a 0 + 1 in
    let within : a < length totals = omega (arith, low, c.many) in
    rw is (record {
      many = length-set totals a n ∙ c.many;
      actors = λ b small.
          total_at totals a b (a == b) refl within ∙ ap (λ k. k + (if a == b then 1 else 0)) (c.actors b small) ∙ ap (λ k. entries_by b es + (if k == b then 1 else 0)) (sym by) ∙ sym (entries_more b es e);
    })

-- that a refresh came from the plant changes none of them
pub counted_driven : (totals : List ℕ) (es : List Entry) (n : ℕ) → Counted totals es → Counted (slice_set totals 10 n) es
counted_driven totals es n c = record {
  many = length-set totals 10 n ∙ c.many;
  actors = λ b small.
      (let apart : b ≢ 10 = λ same. absurd (omega (arith, same, small)) in
      get_or-set_other totals 10 b n 0 apart ∙ c.actors b small);
}

-- the calls that are entered after one entry more
pub tally_more : (known : List Call) (es now : List Entry) (e : Entry) → known ≡ calls_entered es → now ≡ es ++ e ∷ [] → known ++ entered_by e ≡ calls_entered now
tally_more known es now e same is = ap (λ cs. cs ++ entered_by e) same ∙ sym (entered_more es e) ∙ ap calls_entered (sym is)

-- a scan enters none
pub tally_stays : (known : List Call) (es now : List Entry) (e : Entry) → known ≡ calls_entered es → now ≡ es ++ e ∷ [] → entered_by e ≡ [] → known ≡ calls_entered now
tally_stays known es now e same is none = sym (append-nil known) ∙ ap (λ cs. known ++ cs) (sym none) ∙ tally_more known es now e same is
