-- A search for the symbol that a reference gets has only one result; and what it says of the list of symbols, in a
-- table whose look-ups find what they must.
use Rattle.std.proofs.Common.{◌≡◌, ℕ, Bool, List, Option, Some, None, Result, Ok, Err, refl, sym, ap, subst, ◌∙◌}
use Rattle.std.proofs.lemmas.Option.{slice_get_within}
use Rattle.elf_base.specs.declared.error.ElfError.{ElfError}
use Rattle.elf_linking.specs.AnyTable.{FindsAllWhereBy, IsGoodBy, LooksWhereBy}
use Rattle.elf_linking.specs.DynamicView.{as_link_error}
use Rattle.elf_linking.specs.Find.{AreReadable, DynamicSymbols, FindsRight, IsAsked, IsDefaultBy, IsFound, IsShown, Seeks, accepted, asked_first, faulty, none_shown, one_shown, otherwise, two_shown}
use Rattle.elf_linking.specs.GnuHash as hashes
use Rattle.elf_linking.specs.VersionTables.{result_map}
use Rattle.elf_linking.specs.declared.any_table.AnyTable.{AnyTable}
use Rattle.elf_linking.specs.declared.any_table.AnyTable.TheVariants.{Gnu, Sysv}
use Rattle.elf_linking.specs.declared.error.LinkError.{LinkError}
use Rattle.elf_linking.specs.declared.find.Use as uses
use Rattle.elf_linking.specs.declared.find.Wanted.{Wanted}
use Rattle.elf_linking.proofs.AnyTables.{looks_once_by}
use Rattle.elf_linking.proofs.Looks as gnu
use Rattle.elf_linking.proofs.VersionsRead.{accepted_read, not_failed}
use Rattle.xmas_elf.specs.HashTable.{FindsAllWhere, start_of}
use Rattle.xmas_elf.specs.Symbol.{Symbols}
use Rattle.xmas_elf.proofs.ChainFinds as chain_finds

-- the default by look-ups in the hash table
abbrev pub IsDefault : {E : Type 0} → DynamicSymbols E → List ℕ → Wanted → uses.Use → Option (ℕ × E) → Type 0
IsDefault file name wanted purpose = IsDefaultBy (λ P. Seeks P file name) (IsShown file name wanted purpose)

-- a look-up has only one result
seeks_once : {E : Type 0} (P : ℕ × E → Type 0) (table : AnyTable) (symbols : List E) (name : List ℕ) (a b : Result (Option (ℕ × E)) LinkError) → (n : ℕ) × LooksWhereBy P table symbols name a n → (m : ℕ) × LooksWhereBy P table symbols name b m → a ≡ b
seeks_once P table symbols name a b (n, looks) (m, looks') = (looks_once_by P table symbols name a b n m looks looks').0

-- in a table whose look-ups find what they must, a look-up finds it
seeks_finds : {E : Type 0} (P : ℕ × E → Type 0) (table : AnyTable) (symbols : Symbols E) (name : List ℕ) (a : Result (Option (ℕ × E)) LinkError) → IsGoodBy table symbols → (n : ℕ) × LooksWhereBy P table symbols.items name a n → FindsAllWhereBy table symbols name P a
seeks_finds {E} P (Sysv table) symbols name a good (n, (found, looks, is)) =
    subst (FindsAllWhereBy (Sysv table) symbols name P) (sym is) (by found (chain_finds.finds_all P table symbols name (start_of table name) found n refl good looks))
  where
    by : (found : Result (Option (ℕ × E)) ElfError) → FindsAllWhere symbols name P found → FindsAllWhereBy (Sysv table) symbols name P (as_link_error found)
    by (Ok None) none = λ i e must has. none (i, e, must, has)
    by (Ok (Some p)) some = some
    by (Err error) never = never
seeks_finds {E} P (Gnu table) symbols name a good (n, looks) = by a (gnu.finds_all P table symbols name a n good looks)
  where
    by : (a : Result (Option (ℕ × E)) LinkError) → hashes.FindsAllWhere table symbols name P a → FindsAllWhereBy (Gnu table) symbols name P a
    by (Ok None) none = λ i e must has. none (i, e, must, has)
    by (Ok (Some p)) some = ((some.0, some.1), some.2, some.3)
    by (Err error) never = never

-- a search has only one result
module _ {E : Type 0} (file : DynamicSymbols E) (name : List ℕ) (wanted : Wanted) (purpose : uses.Use) where
  asked_once : (a b : Result (Option (ℕ × E)) LinkError) → Seeks (IsAsked file name wanted purpose) file name a → Seeks (IsAsked file name wanted purpose) file name b → a ≡ b
  asked_once a b = seeks_once (IsAsked file name wanted purpose) file.table file.symbols.items name a b

  shown_once : (but : Option ℕ) (a b : Result (Option (ℕ × E)) LinkError) → Seeks (IsShown file name wanted purpose but) file name a → Seeks (IsShown file name wanted purpose but) file name b → a ≡ b
  shown_once but a b = seeks_once (IsShown file name wanted purpose but) file.table file.symbols.items name a b

  -- there is a second such candidate, or there is none
  one_or_two : (at at' other : ℕ × E) → Seeks (IsShown file name wanted purpose None) file name (Ok (Some at)) → Seeks (IsShown file name wanted purpose None) file name (Ok (Some at')) → Seeks (IsShown file name wanted purpose (Some at.0)) file name (Ok None) → Seeks (IsShown file name wanted purpose (Some at'.0)) file name (Ok (Some other)) → ⊥
  one_or_two at at' other s t none some =
      let same = shown_once None (Ok (Some at)) (Ok (Some at')) s t in
      let here : at' ≡ at = cc in
      let differs = shown_once (Some at.0) (Ok None) (Ok (Some other)) none (subst (λ (x : ℕ × E). Seeks (IsShown file name wanted purpose (Some x.0)) file name (Ok (Some other))) here some) in
      cc

  default_once : (a b : Option (ℕ × E)) → IsDefault file name wanted purpose a → IsDefault file name wanted purpose b → a ≡ b
  default_once _ _ (none_shown s) (none_shown t) = refl
  default_once _ _ (none_shown s) (one_shown at t t') = absurd (let same = shown_once None (Ok None) (Ok (Some at)) s t in cc)
  default_once _ _ (none_shown s) (two_shown at other t t') = refl
  default_once _ _ (one_shown at s s') (none_shown t) = absurd (let same = shown_once None (Ok (Some at)) (Ok None) s t in cc)
  default_once _ _ (one_shown at s s') (one_shown at' t t') = let same = shown_once None (Ok (Some at)) (Ok (Some at')) s t in cc
  default_once _ _ (one_shown at s s') (two_shown at' other t t') = absurd (one_or_two at at' other s t s' t')
  default_once _ _ (two_shown at other s s') (none_shown t) = refl
  default_once _ _ (two_shown at other s s') (one_shown at' t t') = absurd (one_or_two at' at other t s t' s')
  default_once _ _ (two_shown at other s s') (two_shown at' other' t t') = refl

  pub found_once : (a b : Result (Option (ℕ × E)) LinkError) → IsFound file name wanted purpose a → IsFound file name wanted purpose b → a ≡ b
  found_once _ _ (asked_first at a s is) (asked_first at' b t is') =
      let same = asked_once (Ok (Some at)) (Ok (Some at')) s t in
      let here : at' ≡ at = cc in
      is ∙ sym (subst (λ (x : ℕ × E). b ≡ result_map (λ _. Some x) (accepted file.versions wanted x.0)) here is')
  found_once _ _ (asked_first at a s is) (faulty error t) = absurd (let same = asked_once (Ok (Some at)) (Err error) s t in cc)
  found_once _ _ (asked_first at a s is) (otherwise found t default) = absurd (let same = asked_once (Ok (Some at)) (Ok None) s t in cc)
  found_once _ _ (faulty error s) (asked_first at b t is) = absurd (let same = asked_once (Err error) (Ok (Some at)) s t in cc)
  found_once _ _ (faulty error s) (faulty error' t) = asked_once (Err error) (Err error') s t
  found_once _ _ (faulty error s) (otherwise found t default) = absurd (let same = asked_once (Err error) (Ok None) s t in cc)
  found_once _ _ (otherwise found s default) (asked_first at b t is) = absurd (let same = asked_once (Ok None) (Ok (Some at)) s t in cc)
  found_once _ _ (otherwise found s default) (faulty error t) = absurd (let same = asked_once (Ok None) (Err error) s t in cc)
  found_once _ _ (otherwise found s one) (otherwise found' t other) = ap (λ x. Ok x) (default_once found found' one other)

-- in a table whose check passed, and with versions that can be read, a search finds what the list of symbols says
module _ {E : Type 0} (file : DynamicSymbols E) (name : List ℕ) (wanted : Wanted) (purpose : uses.Use) (good : IsGoodBy file.table file.symbols) (readable : AreReadable file) where
  finds : (P : ℕ × E → Type 0) (a : Result (Option (ℕ × E)) LinkError) → Seeks P file name a → FindsAllWhereBy file.table file.symbols name P a
  finds P a = seeks_finds P file.table file.symbols name a good

  abbrev Shown : Option ℕ → ℕ × E → Type 0
  Shown but = IsShown file name wanted purpose but

  default_right : (found : Option (ℕ × E)) → IsDefault file name wanted purpose found → IsDefaultBy (FindsAllWhereBy file.table file.symbols name) Shown found
  default_right _ (none_shown none) = none_shown (finds (Shown None) (Ok None) none)
  default_right _ (one_shown at some none) = one_shown at (finds (Shown None) (Ok (Some at)) some) (finds (Shown (Some at.0)) (Ok None) none)
  default_right _ (two_shown at second some more) = two_shown at second (finds (Shown None) (Ok (Some at)) some) (finds (Shown (Some at.0)) (Ok (Some second)) more)

  pub found_right : (answer : Result (Option (ℕ × E)) LinkError) → IsFound file name wanted purpose answer → FindsRight file name wanted purpose answer
  found_right _ (asked_first at answer seeks is) = go (accepted file.versions wanted at.0) refl
    where
      found : FindsAllWhereBy file.table file.symbols name (IsAsked file name wanted purpose) (Ok (Some at))
      found = finds (IsAsked file name wanted purpose) (Ok (Some at)) seeks

      go : (r : Result Bool LinkError) → accepted file.versions wanted at.0 ≡ r → FindsRight file name wanted purpose answer
      go (Ok b) read =
          let here : answer ≡ Ok (Some at) = is ∙ ap (result_map (λ _. Some at)) read in
          subst (FindsRight file name wanted purpose) (sym here) (asked_first at (Ok (Some at)) found (sym here ∙ is))
      go (Err error) read = absurd (not_failed _ (accepted_read file readable wanted at.0 (slice_get_within _ _ _ found.1)) error read)
  found_right _ (faulty error seeks) = absurd (finds (IsAsked file name wanted purpose) (Err error) seeks)
  found_right _ (otherwise found seeks default) = otherwise found (finds (IsAsked file name wanted purpose) (Ok None) seeks) (default_right found default)
