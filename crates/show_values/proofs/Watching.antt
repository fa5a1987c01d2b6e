-- Names that are watched.
use Rattle.std.proofs.Common.{◌≡◌, ℕ, ◌<◌, List, [], ◌∷◌, ◌++◌, length, get_or, map, true, Option, Some, None, refl, sym, ap, subst, ◌∙◌}
use Rattle.std.specs.Prelude.{is_some, is_none, option_map, String, string_bytes}
use Rattle.std.specs.Global.{Global}
use Rattle.std.proofs.lemmas.Option.{slice_get-map, slice_get_read}
use Rattle.il_syntax.specs.declared.tree.Config.{Config}
use Rattle.group_spec.specs.World.{World}
use Rattle.show_values.specs.declared.names.Watched.{Watched}
use Rattle.show_values.specs.Asked.{nothing_asked}
use Rattle.show_values.specs.Names.{IsReadAs}
use Rattle.show_values.specs.Unnamed.{unnamed_sentence}
use Rattle.show_values.specs.Values.{AreWatched, IsUnknown, value_of}

-- one more
pub one_watched : (w : World) (names : List (List ℕ)) (watched : List Watched) (name : List ℕ) (it : Watched) → AreWatched w names watched → IsReadAs name it → (value_of it nothing_asked w ≡ None → ⊥) → AreWatched w (names ++ name ∷ []) (watched ++ it ∷ [])
one_watched w [] [] name it are read known = (read, known, tt)
one_watched w [] (x ∷ watched) name it are read known = absurd are
one_watched w (n ∷ names) [] name it are read known = absurd are
one_watched w (n ∷ names) (x ∷ watched) name it are read known = (are.0, are.1, one_watched w names watched name it are.2 read known)

-- a value that is there
pub there : {X : Type 0} (o : Option X) → is_some o ≡ true → o ≡ None → ⊥
there None is e = cc
there (Some x) is e = cc

-- one of the names has no value
pub one_unknown : (c : Config) (w : World) (names : List (String Global)) (k : ℕ) (item : String Global) → k < length names → item ≡ get_or names k item → (it : Watched) (name word says : List ℕ) → name ≡ string_bytes item → word ≡ name → IsReadAs name it
    → value_of it nothing_asked w ≡ None → says ≡ unnamed_sentence c name → IsUnknown c w (map string_bytes names) word says
one_unknown c w names k item low at it name word says is same read none said = record {
  place = k;
  stands = slice_get-map string_bytes names k ∙ ap (option_map string_bytes) (slice_get_read names (length names) k item refl low at) ∙ ap (λ (n : List ℕ). Some n) (sym (same ∙ is));
  it = it;
  read = subst (λ (n : List ℕ). IsReadAs n it) (sym same) read;
  none = none;
  said = said ∙ ap (unnamed_sentence c) (sym same);
}

-- a value that isn't there
pub missing : {X : Type 0} (o : Option X) → is_none o ≡ true → o ≡ None
missing None is = refl
missing (Some x) is = cc
