-- What the words of `serve` give.
use Rattle.std.proofs.Common.{ℕ, ◌≡◌, ◌<◌, List, [], ◌∷◌, length, refl, sym, ap, ◌∙◌, subst, arith}
use Rattle.std.specs.Prelude.{codes, slice_index}
use Rattle.cli_host.specs.Requests.{IsOption}
use Rattle.cli_host.specs.Servings.{Taken, GiveWord, GiveValue, GiveFirst, Give}
use Rattle.cli_host.specs.Servings.GiveWord.{of_file, of_sync}
use Rattle.cli_host.specs.Servings.GiveValue.{of_from, of_trace}
use Rattle.cli_host.specs.Servings.GiveFirst.{one_word, two_words}
use Rattle.cli_host.specs.Servings.Give.{no_words, more_words}

pub cut : {x y : List ℕ} {xs ys : List (List ℕ)} → x ∷ xs ≡ y ∷ ys → (x ≡ y) × (xs ≡ ys)
cut e = (cc, cc)

pub no_more : {x : List ℕ} {xs : List (List ℕ)} → x ∷ xs ≡ [] → ⊥
no_more e = cc

from_or_trace : codes "--from" ≡ codes "--trace" → ⊥
from_or_trace e = let other : 102 ≡ 116 = ap (λ word. slice_index word 2) e in omega (arith, other)

from_or_sync : codes "--from" ≡ codes "--sync" → ⊥
from_or_sync e = let other : 102 ≡ 115 = ap (λ word. slice_index word 2) e in omega (arith, other)

trace_or_sync : codes "--trace" ≡ codes "--sync" → ⊥
trace_or_sync e = let other : 116 ≡ 115 = ap (λ word. slice_index word 2) e in omega (arith, other)

-- a word that gives something alone is no option with a value
no_both : (word value : List ℕ) (before next other : Taken) → GiveWord word before next → GiveValue word value before other → ⊥
no_both word value before next other (of_file plain yet is) (of_from option _ _ _) = plain (subst IsOption (sym option) refl)
no_both word value before next other (of_file plain yet is) (of_trace option _ _ _) = plain (subst IsOption (sym option) refl)
no_both word value before next other (of_sync sync yet is) (of_from option _ _ _) = from_or_sync (sym option ∙ sync)
no_both word value before next other (of_sync sync yet is) (of_trace option _ _ _) = trace_or_sync (sym option ∙ sync)

same_word : (word : List ℕ) (before a b : Taken) → GiveWord word before a → GiveWord word before b → a ≡ b
same_word word before a b (of_file plain yet is) (of_file _ _ too) = is ∙ sym too
same_word word before a b (of_file plain yet is) (of_sync sync _ _) = absurd (plain (subst IsOption (sym sync) refl))
same_word word before a b (of_sync sync yet is) (of_file plain _ _) = absurd (plain (subst IsOption (sym sync) refl))
same_word word before a b (of_sync sync yet is) (of_sync _ _ too) = is ∙ sym too

same_value : (option value : List ℕ) (before a b : Taken) → GiveValue option value before a → GiveValue option value before b → a ≡ b
same_value option value before a b (of_from from plain yet is) (of_from _ _ _ too) = is ∙ sym too
same_value option value before a b (of_from from plain yet is) (of_trace trace _ _ _) = absurd (from_or_trace (sym from ∙ trace))
same_value option value before a b (of_trace trace plain yet is) (of_from from _ _ _) = absurd (from_or_trace (sym from ∙ trace))
same_value option value before a b (of_trace trace plain yet is) (of_trace _ _ _ too) = is ∙ sym too

-- the first words give one thing
same_first : (words : List (List ℕ)) (before a b : Taken) (rest more : List (List ℕ)) → GiveFirst words before a rest → GiveFirst words before b more → (a ≡ b) × (rest ≡ more)
same_first words before a b rest more (one_word word are gives) (one_word other too give) =
    let e = cut (sym are ∙ too) in (same_word word before a b gives (subst (λ w. GiveWord w before b) (sym e.0) give), e.1)
same_first words before a b rest more (one_word word are gives) (two_words option value too give) =
    let e = cut (sym are ∙ too) in absurd (no_both word value before a b gives (subst (λ w. GiveValue w value before b) (sym e.0) give))
same_first words before a b rest more (two_words option value are gives) (one_word other too give) =
    let e = cut (sym are ∙ too) in absurd (no_both option value before b a (subst (λ w. GiveWord w before b) (sym e.0) give) gives)
same_first words before a b rest more (two_words option value are gives) (two_words option2 value2 too give) =
    let e = cut (sym are ∙ too) in
    let f = cut e.1 in
    (same_value option value before a b gives (subst (λ w. GiveValue w value before b) (sym e.0) (subst (λ v. GiveValue option2 v before b) (sym f.0) give)), f.1)

-- there is a first word
pub no_first : (words : List (List ℕ)) (before next : Taken) (rest : List (List ℕ)) → words ≡ [] → GiveFirst words before next rest → ⊥
no_first words before next rest is (one_word word are gives) = no_more (sym are ∙ is)
no_first words before next rest is (two_words option value are gives) = no_more (sym are ∙ is)

-- a word that gives nothing alone has its value after it
pub value_behind : (words : List (List ℕ)) (word : List ℕ) (behind : List (List ℕ)) (before next : Taken) (rest : List (List ℕ)) → words ≡ word ∷ behind → ((next : Taken) → GiveWord word before next → ⊥)
    → GiveFirst words before next rest → (value : List ℕ) × (behind ≡ value ∷ rest) × GiveValue word value before next
value_behind words word behind before next rest are none (one_word other too give) = let e = cut (sym are ∙ too) in absurd (none next (subst (λ w. GiveWord w before next) (sym e.0) give))
value_behind words word behind before next rest are none (two_words option value too give) =
    let e = cut (sym are ∙ too) in (value, e.1, subst (λ w. GiveValue w value before next) (sym e.0) give)

-- the words after the first ones are fewer
pub fewer : (words : List (List ℕ)) (before next : Taken) (rest : List (List ℕ)) → GiveFirst words before next rest → length rest < length words
fewer words before next rest (one_word word are gives) = let long : length words ≡ length (word ∷ rest) = ap length are in omega (arith, long)
fewer words before next rest (two_words option value are gives) = let long : length words ≡ length (option ∷ value ∷ rest) = ap length are in omega (arith, long)

-- what is left once the first words are read
pub left : (words : List (List ℕ)) (before next after : Taken) (rest : List (List ℕ)) → GiveFirst words before next rest → Give words before after → Give rest next after
left words before next after rest first (no_words _) = absurd (no_first words before next rest refl first)
left words before next after rest first (more_words _ more _ other _ gives give) =
    let same = same_first words before next other rest more first gives in
    subst (λ n. Give rest n after) (sym same.0) (subst (λ r. Give r other after) (sym same.1) give)

-- where words are left, the first of them give something
pub must_give : (words : List (List ℕ)) (before after : Taken) → (words ≡ [] → ⊥) → ((next : Taken) (rest : List (List ℕ)) → GiveFirst words before next rest → ⊥) → Give words before after → ⊥
must_give words before after some none (no_words _) = some refl
must_give words before after some none (more_words _ rest _ next _ gives give) = none next rest gives

-- no words give nothing more
pub at_end : (words : List (List ℕ)) (before after : Taken) → words ≡ [] → Give words before after → after ≡ before
at_end words before after is (no_words _) = refl
at_end words before after is (more_words _ rest _ next _ gives give) = absurd (no_first words before next rest is gives)

pub nothing_more : (words : List (List ℕ)) (taken : Taken) → words ≡ [] → Give words taken taken
nothing_more words taken is = subst (λ ws. Give ws taken taken) (sym is) (no_words taken)
