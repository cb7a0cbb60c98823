-- What a reference accepts, in words.
use Rattle.std.proofs.Common.{◌≡◌, ◌≢◌, ◌⊎◌, inl, inr, ℕ, Bool, true, false, List, Option, Some, None, Result, Ok, Err, IfOk, IsOkAnd, IsTrue, ◌↔◌, refl, sym, ap, subst, ◌∙◌, if◌then◌else◌}
use Rattle.std.proofs.lemmas.Bool.Decides.{eqb_tells}
use Rattle.std.proofs.lemmas.Slice.Eq.{bytes_eq-Decides}
use Rattle.std.proofs.Math.Dec.{eqb}
use Rattle.std.specs.Prelude.{not, ◌&&◌, ◌||◌}
use Rattle.std.specs.Str.{bytes_eq}
use Rattle.elf_base.specs.FirstError.{and_then}
use Rattle.elf_linking.specs.Find.{IsAccepted, IsAcceptedBy, accepted, accepts_version, has_no_hash, is_below, is_open, is_version, nameless, same, unnumbered}
use Rattle.elf_linking.specs.VersionTables.{result_map}
use Rattle.elf_linking.specs.Versions.{VersionParts, number_of, version_at}
use Rattle.elf_linking.specs.VersionList.{VersionEntry, VersionList}
use Rattle.elf_linking.specs.declared.error.LinkError.{LinkError}
use Rattle.elf_linking.specs.declared.find.Wanted.{Wanted}
use Rattle.elf_linking.specs.declared.find.Wanted.TheVariants.{Newest, Unversioned, Version}

-- a number is that of a result, if there is no error
below : (least : ℕ) (number : Result (Option ℕ) LinkError) → IfOk (result_map (is_below least) number) (λ held. IsTrue held ↔ IsOkAnd number (λ n. is_below least n ≡ true))
below least (Ok n) = (λ held. held, λ held. held)
below least (Err error) = tt

module _ (name : List ℕ) (hash : ℕ) (hidden : Bool) where
  -- the version has the hash number and the name
  abbrev HasVersion : Option VersionEntry → Type 0
  HasVersion named = (n : VersionEntry) × (named ≡ Some n) × (n.hash ≡ hash) × (n.name ≡ Ok name)

  by_name : (n : VersionEntry) (read : Result (List ℕ) LinkError) → n.name ≡ read → n.hash ≡ hash → IfOk (result_map (λ other. bytes_eq other name) read) (λ held. IsTrue held ↔ HasVersion (Some n))
  by_name n (Ok other) is agrees = (
    λ held. (n, refl, agrees, is ∙ ap (λ t. Ok t) ((bytes_eq-Decides other name).0 held)),
    λ (m, one, hashed, named). let same_part : n ≡ m = cc in
        let found : n.name ≡ Ok name = subst (λ p. p.name ≡ Ok name) (sym same_part) named in
        let text : other ≡ name = cc in
        (bytes_eq-Decides other name).1 text,
  )
  by_name n (Err error) is agrees = tt

  numbered : (named : Option VersionEntry) → IfOk (is_version name hash named) (λ held. IsTrue held ↔ HasVersion named)
  numbered None = (λ no. absurd (cc), λ (m, one, hashed, read). absurd (cc))
  numbered (Some n) = go (eqb n.hash hash) refl (eqb_tells n.hash hash)
    where
      go : (agrees : Bool) → eqb n.hash hash ≡ agrees → ((eqb n.hash hash ≡ true) × (n.hash ≡ hash)) ⊎ ((eqb n.hash hash ≡ false) × (n.hash ≢ hash)) → IfOk (if agrees then result_map (λ other. bytes_eq other name) n.name else Ok false) (λ held. IsTrue held ↔ HasVersion (Some n))
      go true is (inl (_, agrees)) = by_name n n.name refl agrees
      go true is (inr (other, _)) = absurd (cc)
      go false is (inl (other, _)) = absurd (cc)
      go false is (inr (_, differs)) = (λ no. absurd (cc), λ (m, one, hashed, read). (let same_part : n ≡ m = cc in absurd (differs (subst (λ p. p.hash ≡ hash) (sym same_part) hashed))))

  both : (a b c : Bool) → (a && (not b && not c)) ≡ true → (a ≡ true) × (b ≡ false) × (c ≡ false)
  both true false false is = (refl, refl, refl)
  both true false true is = absurd (cc)
  both true true c is = absurd (cc)
  both false b c is = absurd (cc)

  both_back : (a b c : Bool) → a ≡ true → b ≡ false → c ≡ false → (a && (not b && not c)) ≡ true
  both_back true false false one two three = refl
  both_back true false true one two three = absurd (cc)
  both_back true true c one two three = absurd (cc)
  both_back false b c one two three = absurd (cc)

  either : (a b : Bool) → (a || b) ≡ true → (a ≡ true) ⊎ (b ≡ true)
  either true b is = inl refl
  either false b is = inr is

  or_left : (a b : Bool) → a ≡ true → (a || b) ≡ true
  or_left true b is = refl
  or_left false b is = absurd (cc)

  or_right : (a b : Bool) → b ≡ true → (a || b) ≡ true
  or_right true b is = refl
  or_right false b is = is

  version_law : (version : VersionParts VersionEntry) (answer : Result Bool LinkError) → IfOk answer (λ held. IsTrue held ↔ HasVersion version.named) → IfOk (result_map (λ held. held || is_open hidden version) answer) (λ held. IsTrue held ↔ IsAcceptedBy name hash hidden (Some version))
  version_law version (Ok held) law = (to, back)
    where
      to : (held || is_open hidden version) ≡ true → IsAcceptedBy name hash hidden (Some version)
      to is = go (either held (is_open hidden version) is)
        where
          go : (held ≡ true) ⊎ (is_open hidden version ≡ true) → IsAcceptedBy name hash hidden (Some version)
          go (inl one) = let (n, named, hashed, read) = law.0 one in same version n named hashed read
          go (inr opened) = let (no_hash, shown, visible) = both (has_no_hash version.named) hidden version.hidden opened in nameless version no_hash shown visible

      back : IsAcceptedBy name hash hidden (Some version) → (held || is_open hidden version) ≡ true
      back (same _ n named hashed read) = or_left held (is_open hidden version) (law.1 (n, named, hashed, read))
      back (nameless _ no_hash shown visible) = or_right held (is_open hidden version) (both_back (has_no_hash version.named) hidden version.hidden no_hash shown visible)
  version_law version (Err error) law = tt

  accepts_law : (version : Option (VersionParts VersionEntry)) → IfOk (accepts_version name hash hidden version) (λ held. IsTrue held ↔ IsAcceptedBy name hash hidden version)
  accepts_law None = (λ held. unnumbered, λ has. refl)
  accepts_law (Some version) = version_law version (is_version name hash version.named) (numbered version.named)

  at_law : (read : Result (Option (VersionParts VersionEntry)) LinkError) → IfOk (and_then read (accepts_version name hash hidden)) (λ held. IsTrue held ↔ IsOkAnd read (λ version. IsAcceptedBy name hash hidden version))
  at_law (Ok version) = accepts_law version
  at_law (Err error) = tt

-- whether a reference accepts a symbol at once
pub accepted_law : (list : VersionList) (wanted : Wanted) (index : ℕ) → IfOk (accepted list wanted index) (λ held. IsTrue held ↔ IsAccepted list wanted index)
accepted_law list (Version name hash hidden) index = at_law name.now hash hidden (version_at list index)
accepted_law list Unversioned index = below 3 (number_of list.numbers index)
accepted_law list Newest index = below 2 (number_of list.numbers index)
