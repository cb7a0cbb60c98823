-- A section by its name, in the list of sections and by its index.
use Rattle.std.proofs.Common.{◌≡◌, ℕ, ◌↔◌, nat_lt, Bool, true, false, Result, Err, List, refl, length, Ok, if◌then◌else◌, Option, None, Some, IfSome, IfNone, ap, sym, subst, ◌∙◌, arith}
use Rattle.std.proofs.lemmas.Bool.{le-ltb, ltb-false}
use Rattle.std.specs.Borrow.{Bor}
use Rattle.std.specs.Result.{ForErr, ForOk}
use Rattle.elf_base.specs.Lent.{Answers, IfPart}
use Rattle.elf_base.specs.FirstError.{and_then}
use Rattle.elf_base.specs.Text.{IsText}
use Rattle.xmas_elf.specs.Prelude.{ElfError, ElfFile, SectionHeader}
use Rattle.xmas_elf.specs.SectionHeader.{section_count_of, section_fields, section_list, section_of}
use Rattle.xmas_elf.specs.HeaderTable.{EachBelow}
use Rattle.xmas_elf.specs.NameTable.{HasName, FindsNamed, IsFirstNamed, IsNameAt, IsNameTable, name_table_of, names_section_of}
use Rattle.xmas_elf.proofs.HeaderLists.{header_list-longest}
use Rattle.xmas_elf.proofs.lemmas.HeaderList.{sections_within}

-- if `and_then` returns a value, the first call returned one, from which the second returned this one
pub went_on : {A B : Type 0} (r : Result A ElfError) (next : A → Result B ElfError) (y : B) → and_then r next ≡ Ok y → (x : A) × (r ≡ Ok x) × (next x ≡ Ok y)
went_on (Ok x) next y is = (x, refl, is)
went_on (Err error) next y is = cc

pub not_failed : {A : Type 0} (failed : Bool) (error : ElfError) (r : Result A ElfError) (y : A) → (if failed then Err error else r) ≡ Ok y → (failed ≡ false) × (r ≡ Ok y)
not_failed true error r y is = cc
not_failed false error r y is = (refl, is)

-- if `name_table_of` is a table, it is the name table
pub name_table-is : (file : ElfFile) (t : List ℕ) → name_table_of file ≡ Ok t → IsNameTable file t
unfolding name_table_of
name_table-is file t is =
    let (section, names, answered) = went_on (names_section_of file) _ t is in
    let (placed, table) = not_failed _ _ _ t answered in
    record { section = section; names = names; within = ltb-false _ _ placed; table_is = cc }

pub is-name_table : (file : ElfFile) (t : List ℕ) → IsNameTable file t → name_table_of file ≡ Ok t
unfolding name_table_of
is-name_table file t is =
    let names = is.names in
    let within : nat_lt (length file.input.now) (section_fields is.section).offset ≡ false = le-ltb _ _ is.within in
    rw (names, within) (ap Ok (sym is.table_is))

-- the text at an index of the name table is the text at that index of `name_table_of`
pub name_at : (file : ElfFile) (index : ℕ) (names name : List ℕ) → name_table_of file ≡ Ok names → IsNameAt file index name ↔ IsText names index name
name_at file index names name table = (
  λ at. let own = is-name_table file at.table at.in_table in let same : at.table ≡ names = cc in subst (λ t. IsText t index name) same at.is_text,
  λ is. record { table = names; in_table = name_table-is file names table; is_text = is },
)

-- a stored result that equals a computed one has the property that the computed one has
pub kept : (Is : List ℕ → Type 0) (answer : Result (List ℕ) ElfError) (r : Result (Bor (List ℕ)) ElfError) → ((part : List ℕ) → answer ≡ Ok part → Is part) → ForOk r (λ part. answer ≡ Ok part.now) → ForErr r (λ error. answer ≡ Err error) → IfPart Is r × Answers answer r
kept Is answer (Ok part) has is isnt = let here = is part refl in (has part.now here, here)
kept Is answer (Err error) has is isnt = (tt, isnt error refl)

-- if a search finds nothing, no section has the name; what it finds is the first section that has it
pub missing_named : (file : ElfFile) (name : List ℕ) (r : Option SectionHeader) → FindsNamed file name r → IfNone r (EachBelow (section_of file) (λ section. ¬ HasName file section name) (length (section_list file)))
missing_named file name None none = sections_within file (λ section. ¬ HasName file section name) (length (section_list file)) (omega arith) none
missing_named file name (Some section) found = tt

pub found_named : (file : ElfFile) (name : List ℕ) (r : Option SectionHeader) → FindsNamed file name r → IfSome r (λ section. (index : ℕ) × IsFirstNamed file name index section)
found_named file name None none = tt
found_named file name (Some section) (has, (i, below, at, none)) =
    let longest = header_list-longest (section_of file) (section_count_of file) in
    let counted = longest.counted in (
      i,
      record {
        below = omega arith;
        is_header = longest.each i below section ∙ ap Ok (at section);
        named = has;
        first = sections_within file (λ earlier. ¬ HasName file earlier name) i (omega arith) none;
      },
    )
