-- Names as bytes, and as texts.
use Rattle.std.proofs.Common.{◌≡◌, ◌+◌, ℕ, Bool, true, false, not, List, [], ◌∷◌, refl, Option, None, Some, Result, Ok, Err, IfOk, IsOkAnd, MatchResult, Bor, ap, subst, sym, ◌∙◌, arith}
use Rattle.std.specs.Result.{result_ok}
use Rattle.std.specs.Str.{IsUtf8, is_utf8}
use Rattle.std.proofs.lemmas.Str.{is_utf8-from_IsUtf8}
use Rattle.elf_base.specs.FirstError.{unless}
use Rattle.elf_base.proofs.lemmas.TextLemmas.{lent_texts}
use Rattle.elf_base.proofs.Texts.{text_of-bytes, text_of-error}
use Rattle.elf_base.specs.Lent.{Answers, LiesAt}
use Rattle.elf_base.specs.Text.{TextIfUtf8, bytes_up_to_zero_of, lent_text, text_of}
use Rattle.elf_base.specs.declared.error.ElfError.TheVariants.{TextUtf8}
use Rattle.xmas_elf.specs.NameTable.{LiesAsName, LiesAsNameTable, names_section_of}
use Rattle.xmas_elf.specs.Prelude.{ElfError, ElfFile, SectionHeader}
use Rattle.xmas_elf.specs.SectionHeader.{section_fields}
use Rattle.xmas_elf.specs.SymbolTable.{IsNoText}
use Rattle.xmas_elf.proofs.SymbolNames.{ok_of_some}

-- the place of a part of the name table
lies_behind : (whole table name : Bor (List ℕ)) (start index : ℕ) → LiesAt whole start table → LiesAt table index name → LiesAt whole (start + index) name
lies_behind whole table name start index outer inner = record {
  block = inner.block ∙ outer.block;
  place_is = omega (arith, outer.place_is, inner.place_is);
}

lies_by : (whole table name : Bor (List ℕ)) (index : ℕ) (section : Result SectionHeader ElfError) → IsOkAnd section (λ s. LiesAt whole (section_fields s).offset table) → LiesAt table index name → IsOkAnd section (λ s. LiesAt whole ((section_fields s).offset + index) name)
lies_by whole table name index (Ok section) outer inner = lies_behind whole table name (section_fields section).offset index outer inner
lies_by whole table name index (Err error) outer inner = absurd outer

pub lies_as_name : (file : ElfFile) (index : ℕ) (table : Bor (List ℕ)) (r : Result (Bor (List ℕ)) ElfError) → LiesAsNameTable file table → IfOk r (LiesAt table index) → IfOk r (LiesAsName file index)
lies_as_name file index table (Ok name) outer inner = lies_by file.input table name index (names_section_of file) outer inner
lies_as_name file index table (Err error) outer inner = tt

-- the name of a symbol in its string table is what is lent of it, if that is UTF-8
pub by_text : (table : List ℕ) (index : ℕ) (r : Result (Bor (List ℕ)) ElfError) → text_of table index ≡ lent_text r → TextIfUtf8 (λ name. result_ok (text_of table index) ≡ Some name) r
by_text table index r exact = lent_texts (λ name. result_ok (text_of table index) ≡ Some name) (text_of table index) r exact (λ name is. ap result_ok is) (ok_of_some (text_of table index))

-- the name of a symbol without a string table is its text
pub own_texts : (text : Option (List ℕ)) (name_is r : Result (Bor (List ℕ)) ElfError) → MatchResult name_is (λ t. text ≡ Some t.now) (λ e. text ≡ None) → MatchResult name_is (λ t. IsOkAnd r (λ b. (b.now ≡ t.now) × IsUtf8 b.now)) (λ e. r ≡ Err e) → TextIfUtf8 (λ name. text ≡ Some name) r
own_texts text (Ok t) (Ok b) is same name =
    let front = same.0 in (
      λ said. let alike : b.now ≡ name = cc in (alike, subst IsUtf8 alike same.1),
      λ lent. is ∙ ap Some (sym same.0 ∙ lent.0),
    )
own_texts text (Ok t) (Err e) is same name = absurd same
own_texts text (Err e) (Ok b) is same name = absurd (cc)
own_texts text (Err e) (Err o) is same name = (λ said. absurd (cc), λ none. absurd none)

pub own_bytes : (text : Option (List ℕ)) (name_is r : Result (Bor (List ℕ)) ElfError) → MatchResult name_is (λ t. text ≡ Some t.now) (λ e. text ≡ None) → MatchResult name_is (λ t. IsOkAnd r (λ b. (b.now ≡ t.now) × IsUtf8 b.now)) (λ e. r ≡ Err e) → MatchResult r (λ b. text ≡ Some b.now) (λ e. text ≡ None)
own_bytes text (Ok t) (Ok b) is same = is ∙ ap Some (sym same.0)
own_bytes text (Ok t) (Err e) is same = absurd same
own_bytes text (Err e) (Ok b) is same = absurd (cc)
own_bytes text (Err e) (Err o) is same = is

-- the text of a name that is bytes, by whether these are UTF-8
text_by_utf8 : (bytes : List ℕ) (utf8 : Bool) (r : Result (Bor (List ℕ)) ElfError) → is_utf8 bytes ≡ utf8 → Answers (unless ((not utf8, TextUtf8) ∷ []) bytes) r → MatchResult r (λ name. Some bytes ≡ Some name.now) (λ error. IsNoText true (Some bytes))
text_by_utf8 bytes true (Ok name) valid is = cc
text_by_utf8 bytes true (Err error) valid is = cc
text_by_utf8 bytes false (Ok name) valid is = cc
text_by_utf8 bytes false (Err error) valid is = λ text same utf8.
    let valid_text = is_utf8-from_IsUtf8 text utf8 in let alike : bytes ≡ text = cc in cc

text_by_bytes : (table : List ℕ) (index : ℕ) (found : Result (List ℕ) ElfError) (r : Result (Bor (List ℕ)) ElfError) → bytes_up_to_zero_of table index ≡ found → Answers (text_of table index) r → MatchResult r (λ name. result_ok found ≡ Some name.now) (λ error. IsNoText true (result_ok found))
text_by_bytes table index (Ok bytes) r is exact =
    text_by_utf8 bytes (is_utf8 bytes) r refl (subst (λ answer. Answers answer r) (text_of-bytes table index bytes is) exact)
text_by_bytes table index (Err error) (Ok name) is exact = let none = text_of-error table index error is in cc
text_by_bytes table index (Err error) (Err other) is exact = λ text same utf8. cc

-- the text of such a name is what is returned; otherwise there is no name, or its bytes aren't UTF-8
pub text_of_name : (table : List ℕ) (index : ℕ) (r : Result (Bor (List ℕ)) ElfError) → Answers (text_of table index) r → MatchResult r (λ name. result_ok (bytes_up_to_zero_of table index) ≡ Some name.now) (λ error. IsNoText true (result_ok (bytes_up_to_zero_of table index)))
text_of_name table index r exact = text_by_bytes table index (bytes_up_to_zero_of table index) r refl exact
