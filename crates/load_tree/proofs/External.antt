-- External declarations: one name, a type and a semicolon.
use Rattle.std.proofs.Common.{◌≡◌, ℕ, List, [], ◌∷◌, length, refl, Option, Some, None, arith}
use Rattle.il_syntax.specs.declared.token.Token.{Token}
use Rattle.il_syntax.specs.declared.token.Sign.TheVariants.{Colon, Semicolon}
use Rattle.il_syntax.specs.declared.tree.Named.{Named}
use Rattle.il_syntax.specs.declared.tree.WrittenType.{WrittenType}
use Rattle.il_syntax.specs.declared.tree.Initial.{Initial}
use Rattle.il_syntax.specs.Grammar.{loose, ◌⋯◌, Listed, TheSign, TheName, SpellsType, SpellsInitial, SpellsExternal}
use Rattle.il_syntax_laws.proofs.Alike.{tight_gap, loose_gap}
use Rattle.il_syntax_laws.proofs.Local.{sign_local, the_name_local, type_local}
use Rattle.load_lines.specs.Reads.{Reads, Refuses, Stands, Misses}
use Rattle.load_lines.specs.declared.stop.Stop.{Stop}
use Rattle.load_lines.proofs.Chain.{past, first, later, later_lines, behind, first_missing, last_missing}

module _ (text : List ℕ) where
  -- an external declaration, as its name and its type
  abbrev SpellsOne : Named × WrittenType → List Token → List Token → Type 0
  SpellsOne x = TheName text x.0 ⋯ TheSign Colon ⋯ SpellsType text x.1 ⋯ TheSign Semicolon

  names_of : (ns : List Named) (t : WrittenType) (ts r : List Token) → length ns ≡ 1 → (Listed loose (TheName text) ns (TheSign Colon) ⋯ SpellsType text t ⋯ TheSign Semicolon) ts r → (n : Named) × SpellsOne (n, t) ts r
  names_of [] t ts r one w = absurd w.1
  names_of (n ∷ []) t ts r one w = (n, (w.1.0, w.1.1, (w.0, w.1.2, w.2)))
  names_of (n ∷ o ∷ ns) t ts r one w = absurd (omega (arith, one))

  parts : (ns : List Named) (t : WrittenType) (i : Option Initial) (ts r : List Token) → length ns ≡ 1 → i ≡ None → (Listed loose (TheName text) ns (TheSign Colon) ⋯ SpellsType text t ⋯ SpellsInitial text i) ts r → (n : Named) × SpellsOne (n, t) ts r
  parts ns t None ts r one none w = names_of ns t ts r one w
  parts ns t (Some i) ts r one none w = absurd cc

module _ (text : List ℕ) where
  refused : (ts : List Token) (e : Stop) → Refuses SpellsOne text ts e → Refuses SpellsExternal text ts e
  refused ts e bad = past tight_gap (λ other us back a gone d r w. let x = parts other d.names d.declared d.initial us r w.0 w.1 w.2 in gone (x.0, d.declared) r x.1) bad

  pub name_refused : (ts : List Token) (e : Stop) → Refuses TheName text ts e → Refuses SpellsExternal text ts e
  name_refused ts e bad = refused ts e (first (λ x. x.0) loose (λ text x. TheSign Colon ⋯ SpellsType text x.1 ⋯ TheSign Semicolon) bad)

  pub colon_refused : (ts m : List Token) (n : Named) (e : Stop) → Reads (TheName text) ts n m → Misses (λ text. TheSign Colon) text (loose m) e → Refuses SpellsExternal text ts e
  colon_refused ts m n e name bad =
      refused ts e (later (λ x. x.0) loose_gap (λ text x. TheSign Colon ⋯ SpellsType text x.1 ⋯ TheSign Semicolon) the_name_local name (first_missing loose (λ text x. SpellsType text x.1 ⋯ TheSign Semicolon) bad))

  pub type_refused : (ts m k : List Token) (n : Named) (e : Stop) → Reads (TheName text) ts n m → Stands (TheSign Colon) (loose m) k → Refuses SpellsType text (loose k) e → Refuses SpellsExternal text ts e
  type_refused ts m k n e name colon bad =
      refused ts e (later (λ x. x.0) loose_gap (λ text x. TheSign Colon ⋯ SpellsType text x.1 ⋯ TheSign Semicolon) the_name_local name
      (behind loose_gap (λ text x. SpellsType text x.1 ⋯ TheSign Semicolon) (sign_local Colon) colon (first (λ x. x.1) loose (λ text x. TheSign Semicolon) bad)))

  pub semicolon_refused : (ts m k l : List Token) (n : Named) (t : WrittenType) (e : Stop) → Reads (TheName text) ts n m → Stands (TheSign Colon) (loose m) k → Reads (SpellsType text) (loose k) t l → Misses (λ text. TheSign Semicolon) text (loose l) e
      → Refuses SpellsExternal text ts e
  semicolon_refused ts m k l n t e name colon type bad =
      refused ts e (later (λ x. x.0) loose_gap (λ text x. TheSign Colon ⋯ SpellsType text x.1 ⋯ TheSign Semicolon) the_name_local name
      (behind loose_gap (λ text x. SpellsType text x.1 ⋯ TheSign Semicolon) (sign_local Colon) colon (later_lines (λ x. x.1) (λ text x. TheSign Semicolon) type_local type (last_missing bad))))

  pub external_read : (ts m k l r : List Token) (n : Named) (t : WrittenType) → Reads (TheName text) ts n m → Stands (TheSign Colon) (loose m) k → Reads (SpellsType text) (loose k) t l → Stands (TheSign Semicolon) (loose l) r
      → Reads (SpellsExternal text) ts (record { names = n ∷ []; declared = t; initial = None }) r
  external_read ts m k l r n t name colon type end = record { found = (refl, refl, (k, (m, name.found, colon.found), (l, type.found, end.found))) }
