-- Definitions, providers and needs, one after the other.
use Rattle.std.proofs.Common.{◌≡◌, ◌≢◌, ℕ, ◌+◌, ◌<◌, ◌≤◌, List, [], ◌∷◌, true, false, Bool, drop, get_or, length, map, Some, None, Result, Ok, Err, if◌then◌else◌, refl, ap, sym, ◌∙◌}
use Rattle.std.proofs.lemmas.Bool.{eq-eqb, ne_eqb}
use Rattle.std.proofs.lemmas.List.{drop_all, drop_more}
use Rattle.std.specs.Borrow.{Bor}
use Rattle.std.specs.Cmp.Lexicographic.{pointwise}
use Rattle.std.specs.List.{list_any}
use Rattle.std.specs.Prelude.{nat_eq}
use Rattle.std.specs.Str.{bytes_eq}
use Rattle.elf_linking.specs.VersionTables.{DefinitionParts, NeedParts}
use Rattle.elf_linking.specs.declared.error.LinkError.{LinkError}
use Rattle.elf_search.specs.MissingVersions.{MissingParts, ProviderParts, behind_missing, defines, has_name, missing_in, missing_of, provider_parts, provider_with}
use Rattle.elf_search.specs.declared.error.SearchError.{SearchError}
use Rattle.elf_search.specs.declared.error.SearchError.TheVariants as fault
use Rattle.elf_search.specs.declared.versions.Provider.{Provider}

-- some names have these bytes
abbrev pub has_bytes : List ℕ → List (Bor (List ℕ)) → Bool
has_bytes name names = list_any (λ other. pointwise nat_eq other name) (map (λ other. other.now) names)

module _ (name : List ℕ) (names : List (Bor (List ℕ))) (place : ℕ) where
  pub name_end : length names ≤ place → has_bytes name (drop place names) ≡ false
  name_end past = ap (has_bytes name) (drop_all place names past)

  pub name_hit : (other : Bor (List ℕ)) → place < length names → other ≡ get_or names place other → pointwise nat_eq other.now name ≡ true → has_bytes name (drop place names) ≡ true
  name_hit other below is hit = ap (has_bytes name) (drop_more names place other below) ∙ rw (sym is) (rw hit refl)

  pub name_other : (other : Bor (List ℕ)) → place < length names → other ≡ get_or names place other → pointwise nat_eq other.now name ≡ false → has_bytes name (drop place names) ≡ has_bytes name (drop (place + 1) names)
  name_other other below is miss = ap (has_bytes name) (drop_more names place other below) ∙ rw (sym is) (rw miss refl)

module _ (hash : ℕ) (name : List ℕ) where
  pub defines_end : (items : List (Result DefinitionParts LinkError)) → items ≡ [] → defines hash name items ≡ Ok false
  defines_end items is = ap (defines hash name) is

  pub defines_fault : (items others : List (Result DefinitionParts LinkError)) (error : LinkError) → items ≡ Err error ∷ others → defines hash name items ≡ Err error
  defines_fault items others error is = ap (defines hash name) is

  pub defines_hit : (items others : List (Result DefinitionParts LinkError)) (item : DefinitionParts) (other : List ℕ) → items ≡ Ok item ∷ others → item.hash ≡ hash → item.name ≡ Ok other → bytes_eq other name ≡ true → defines hash name items ≡ Ok true
  defines_hit items others item other is same named hit = ap (defines hash name) is ∙ (rw (eq-eqb item.hash hash same, named) (ap (λ b. if b then Ok true else defines hash name others) hit))

  pub defines_bad : (items others : List (Result DefinitionParts LinkError)) (item : DefinitionParts) (error : LinkError) → items ≡ Ok item ∷ others → item.hash ≡ hash → item.name ≡ Err error → defines hash name items ≡ Err error
  defines_bad items others item error is same named = ap (defines hash name) is ∙ (rw (eq-eqb item.hash hash same, named) refl)

  pub defines_other_hash : (items others : List (Result DefinitionParts LinkError)) (item : DefinitionParts) → items ≡ Ok item ∷ others → item.hash ≢ hash → defines hash name items ≡ defines hash name others
  defines_other_hash items others item is other = ap (defines hash name) is ∙ rw (ne_eqb item.hash hash other) refl

  pub defines_other_name : (items others : List (Result DefinitionParts LinkError)) (item : DefinitionParts) (other : List ℕ) → items ≡ Ok item ∷ others → item.hash ≡ hash → item.name ≡ Ok other → bytes_eq other name ≡ false → defines hash name items ≡ defines hash name others
  defines_other_name items others item other is same named miss = ap (defines hash name) is ∙ (rw (eq-eqb item.hash hash same, named) (ap (λ b. if b then Ok true else defines hash name others) miss))

module _ (name : List ℕ) (providers : List Provider) (place : ℕ) where
  pub with_end : length providers ≤ place → provider_with name place (map provider_parts (drop place providers)) ≡ None
  with_end past = ap (λ others. provider_with name place (map provider_parts others)) (drop_all place providers past)

  pub with_hit : (provider : Provider) → place < length providers → provider ≡ get_or providers place provider → has_name name (provider_parts provider) ≡ true → provider_with name place (map provider_parts (drop place providers)) ≡ Some (place, (provider_parts provider).provided)
  with_hit provider below is hit = ap (λ others. provider_with name place (map provider_parts others)) (drop_more providers place provider below)
      ∙ rw (sym is) (ap (λ b. if b then Some (place, (provider_parts provider).provided) else provider_with name (place + 1) (map provider_parts (drop (place + 1) providers))) hit)

  pub with_other : (provider : Provider) → place < length providers → provider ≡ get_or providers place provider → has_name name (provider_parts provider) ≡ false → provider_with name place (map provider_parts (drop place providers)) ≡ provider_with name (place + 1) (map provider_parts (drop (place + 1) providers))
  with_other provider below is miss = ap (λ others. provider_with name place (map provider_parts others)) (drop_more providers place provider below)
      ∙ rw (sym is) (ap (λ b. if b then Some (place, (provider_parts provider).provided) else provider_with name (place + 1) (map provider_parts (drop (place + 1) providers))) miss)

module _ (providers : List ProviderParts) where
  pub missing_end : (needs : List (Result NeedParts LinkError)) → needs ≡ [] → missing_in providers needs ≡ []
  missing_end needs is = ap (missing_in providers) is

  pub missing_fault : (needs others : List (Result NeedParts LinkError)) (error : LinkError) → needs ≡ Err error ∷ others → missing_in providers needs ≡ Err (fault.Link error) ∷ missing_in providers others
  missing_fault needs others error is = ap (missing_in providers) is

  pub missing_none : (needs others : List (Result NeedParts LinkError)) (need : NeedParts) → needs ≡ Ok need ∷ others → missing_of providers need ≡ Ok None → missing_in providers needs ≡ missing_in providers others
  missing_none needs others need is none = ap (missing_in providers) is ∙ ap (λ found. behind_missing found (missing_in providers others)) none

  pub missing_some : (needs others : List (Result NeedParts LinkError)) (need : NeedParts) (missing : MissingParts) → needs ≡ Ok need ∷ others → missing_of providers need ≡ Ok (Some missing) → missing_in providers needs ≡ Ok missing ∷ missing_in providers others
  missing_some needs others need missing is some = ap (missing_in providers) is ∙ ap (λ found. behind_missing found (missing_in providers others)) some

  pub missing_error : (needs others : List (Result NeedParts LinkError)) (need : NeedParts) (error : SearchError) → needs ≡ Ok need ∷ others → missing_of providers need ≡ Err error → missing_in providers needs ≡ Err error ∷ missing_in providers others
  missing_error needs others need error is faulty = ap (missing_in providers) is ∙ ap (λ found. behind_missing found (missing_in providers others)) faulty
