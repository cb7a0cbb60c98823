-- The first section with a name, as it is computed.
use Rattle.std.proofs.Common.{◌≡◌, ◌≢◌, ℕ, Bool, true, false, Decides, List, [], ◌∷◌, length, slice_get, get_or, Option, None, Some, Result, Ok, Err, refl, sym, ap, ◌∙◌, subst, arith}
use Rattle.std.specs.List.{HoldsAt, find, position_or_len}
use Rattle.std.proofs.lemmas.List.Folds.{find_at}
use Rattle.std.proofs.lemmas.List.Sums.{position_or_len_is}
use Rattle.std.proofs.lemmas.Option.{slice_get-get_or, slice_get_past}
use Rattle.std.proofs.lemmas.Slice.Eq.{bytes_eq-Decides}
use Rattle.elf_base.proofs.lemmas.TextLemmas.{is-text_of, text_of-is}
use Rattle.elf_records.specs.SectionNumbers.{is_sh_type}
use Rattle.elf_records.specs.declared.sections.ShType.TheVariants.{Null}
use Rattle.xmas_elf.specs.Prelude.{ElfError, ElfFile, SectionHeader, ShType}
use Rattle.xmas_elf.specs.First.{FindsFirst, NoneBelow}
use Rattle.xmas_elf.specs.NameTable.{HasName, FindsNamed, IsFirstNamed, IsNameAt, is_name, name_of, name_table_of, section_named, shstr_of}
use Rattle.xmas_elf.specs.SectionHeader.{section_count_of, section_fields, section_list, section_of, section_type}
use Rattle.xmas_elf.proofs.FirstNamed.{is-name_table, name_at, not_failed, went_on}
use Rattle.xmas_elf.proofs.HeaderLists.{header_list-longest}
use Rattle.xmas_elf.proofs.SectionLists.{section_in_list}

-- a search by a test that decides a property finds the first item that has it
module _ {H : Type 0} (test : H → Bool) (P : H → Type 0) (decides : (h : H) → Decides (test h) (P h)) where
  fails : (h : H) (r : Bool) → test h ≡ r → ¬ P h → test h ≡ false
  fails h true is never = absurd (never ((decides h).0 is))
  fails h false is never = is

  finds : (items : List H) (r : Option H) → FindsFirst P items r → find test items ≡ r
  finds [] None none = refl
  finds (item ∷ items) None none =
      let position : position_or_len test (item ∷ items) ≡ length (item ∷ items) = position_or_len_is test (item ∷ items) (length (item ∷ items)) item (omega arith) (λ k below. fails _ _ refl (none k item (omega arith) below)) (λ below. absurd (omega arith)) in
      find_at test (item ∷ items) ∙ slice_get_past (item ∷ items) (position_or_len test (item ∷ items)) (omega arith)
  finds items (Some h) (has, (i, below, at, none)) =
      let position : position_or_len test items ≡ i = position_or_len_is test items i h (omega arith) (λ k low. fails _ _ refl (none k h (omega arith) low)) (λ within. (decides _).1 (subst P (sym (at h)) has)) in
      find_at test items ∙ ap (slice_get items) position ∙ slice_get-get_or items i h below ∙ ap Some (at h)

-- if `shstr_of` is a text, it is the text at that index of the name table
pub shstr_of-is : (file : ElfFile) (index : ℕ) (name : List ℕ) → shstr_of file index ≡ Ok name → IsNameAt file index name
unfolding shstr_of
shstr_of-is file index name is =
    let (table, names, text) = went_on (name_table_of file) _ name is in
    (name_at file index table name names).1 (text_of-is table index name text)

pub is-shstr_of : (file : ElfFile) (index : ℕ) (name : List ℕ) → IsNameAt file index name → shstr_of file index ≡ Ok name
unfolding shstr_of
is-shstr_of file index name at =
    let table : name_table_of file ≡ Ok at.table = is-name_table file at.table at.in_table in
    rw table (is-text_of at.table index name at.is_text)

-- if `name_of` is a text, it is the name of the section
pub null_test : (kind : ShType) → kind ≢ Null → is_sh_type Null kind ≡ false
null_test Null other = absurd (other refl)
null_test _ other = refl

pub name_of-has_name : (file : ElfFile) (section : SectionHeader) (name : List ℕ) → name_of file section ≡ Ok name → HasName file section name
unfolding name_of
name_of-has_name file section name is =
    let (kind, typed, answered) = went_on (section_type section) _ name is in
    let (test, text) = not_failed (is_sh_type Null kind) _ _ name answered in
    record {
      kind = kind;
      typed = typed;
      not_null = λ same. let null : is_sh_type Null kind ≡ true = ap (is_sh_type Null) same in cc;
      named = shstr_of-is file (section_fields section).name name text;
    }

pub has_name-name_of : (file : ElfFile) (section : SectionHeader) (name : List ℕ) → HasName file section name → name_of file section ≡ Ok name
unfolding name_of
has_name-name_of file section name has =
    let typed : section_type section ≡ Ok has.kind = has.typed in
    let other : is_sh_type Null has.kind ≡ false = null_test has.kind has.not_null in
    rw (typed, other) (is-shstr_of file (section_fields section).name name has.named)

-- the test of a name decides whether the section has it
is_name-ok : (name : List ℕ) (r : Result (List ℕ) ElfError) → Decides (is_name name r) (r ≡ Ok name)
is_name-ok name (Ok text) = (λ test. ap Ok ((bytes_eq-Decides text name).0 test), λ same. (bytes_eq-Decides text name).1 (cc))
is_name-ok name (Err error) = (λ test. cc, λ same. cc)

is_name-Decides : (file : ElfFile) (name : List ℕ) (section : SectionHeader) → Decides (is_name name (name_of file section)) (HasName file section name)
is_name-Decides file name section =
    let (here, named) = is_name-ok name (name_of file section) in
    (λ test. name_of-has_name file section name (here test), λ has. named (has_name-name_of file section name has))

-- the result of a search in the list of sections is the computed one
pub is-section_named : (file : ElfFile) (name : List ℕ) (r : Option SectionHeader) → FindsNamed file name r → r ≡ section_named file name
unfolding section_named
is-section_named file name r found =
    sym (finds (λ s. is_name name (name_of file s)) (λ s. HasName file s name) (is_name-Decides file name) (section_list file) r found)

-- a search finds the first section with a name
pub first_named-is : (file : ElfFile) (name : List ℕ) (index : ℕ) (section : SectionHeader) → IsFirstNamed file name index section → section_named file name ≡ Some section
first_named-is file name index section first =
    let longest = header_list-longest (section_of file) (section_count_of file) in
    let within = section_in_list file index section first.below first.is_header in
    let at : HoldsAt (λ item. item ≡ section) (section_list file) index = λ d. (let is = longest.each index within d in let header = first.is_header in cc) in
    let none : NoneBelow (λ earlier. HasName file earlier name) (section_list file) index =
    λ i d low below. first.first i (get_or (section_list file) i d) below (longest.each i (omega arith) d) in
    sym (is-section_named file name (Some section) (first.named, (index, within, at, none)))
