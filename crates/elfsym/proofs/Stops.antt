-- Why the lines end before the last, by why one of them isn't written.
use Rattle.std.proofs.Common.{◌≡◌, ◌<◌, ◌++◌, ◌∷◌, [], ℕ, zero, suc, List, get_or, length, take, Result, Ok, Err, refl, sym, ap, ◌∙◌, subst}
use Rattle.std.specs.Borrow.{Bor}
use Rattle.std.specs.List.{AllZip}
use Rattle.std.specs.Prelude.{IsOk, IsOkAnd}
use Rattle.std.proofs.lemmas.Option.{slice_get_read}
use Rattle.elf_base.specs.FileHeader.{header_of}
use Rattle.elf_linking.specs.Find.{DynamicSymbols}
use Rattle.elf_linking.specs.declared.error.LinkError.{LinkError}
use Rattle.elfsym.specs.Libraries.{HasFirstLibrary, IsLibraryLine, IsNameError}
use Rattle.elfsym.specs.Lines.{HasFirstLine, IsLine, IsSearchError, IsSearchFailed}
use Rattle.elfsym.proofs.LibraryLines.{AreLinesSoFar}
use Rattle.program_ends.specs.Stops.{IsStop}
use Rattle.program_ends.specs.declared.json.Form.{Form}
use Rattle.program_ends.specs.declared.Stop.{Stop}
use Rattle.program_ends.specs.declared.Stop.TheVariants.{Memory, Failed, Write}
use Rattle.xmas_elf.specs.Types.{ElfError, ElfFile, Header}

-- what holds of a file holds of it by its input
pub of_input : (P : ElfFile → Type 0) (input : Bor (List ℕ)) (file : ElfFile) → file.input ≡ input → P file → P (record { input = input; header = file.header })
of_input P input file same holds = subst (λ (i : Bor (List ℕ)). P (record { input = i; header = file.header })) same holds

pub ok_of_input : (P : ElfFile → Type 0) (input : Bor (List ℕ)) (file : ElfFile) → file.input ≡ input → header_of input.now ≡ Ok file.header → P file → IsOkAnd (header_of input.now) (λ header. P (record { input = input; header = header }))
ok_of_input P input file same header holds =
    subst (λ (r : Result Header ElfError). IsOkAnd r (λ h. P (record { input = input; header = h }))) (sym header) (of_input P input file same holds)

module _ {E S : Type 0} (form : Form) (text_of : S → List ℕ) (file : DynamicSymbols E) where
  -- the first reference has a line if each before one has, and that one
  pub first_line : (references : List S) (index : ℕ) (item : S) (lines : List (List ℕ)) → item ≡ get_or references index item → AllZip (λ reference line. IsLine form file (text_of reference) line) (take index references) lines → ((line : List ℕ) × IsLine form file (text_of item) line) → HasFirstLine form text_of file references
  first_line [] index item lines is each own = tt
  first_line (first ∷ others) zero item lines is each own = subst (λ reference. (line : List ℕ) × IsLine form file (text_of reference) line) is own
  first_line (first ∷ others) (suc index) item [] is each own = absurd each
  first_line (first ∷ others) (suc index) item (line ∷ lines) is each own = (line, each.0)

  pub stop_at : (references : List S) (index : ℕ) (item : S) (lines : List (List ℕ)) (stop : Stop LinkError) → index < length references → item ≡ get_or references index item → AllZip (λ reference line. IsLine form file (text_of reference) line) (take index references) lines
      → IsStop (IsSearchError file (text_of item)) ((line : List ℕ) × IsLine form file (text_of item) line) ⊥ stop
      → IsStop (IsSearchFailed form text_of file references) (HasFirstLine form text_of file references) ⊥ stop
  stop_at references index item lines (Failed error) below is each why = record {
    index = index;
    reference = item;
    reference_is = slice_get_read references (length references) index item refl below is;
    lines = lines;
    each = each;
    error_is = why;
  }
  stop_at references index item lines Write below is each own = first_line references index item lines is each own
  stop_at references index item lines Memory below is each why = why

ok_of_and : {A B : Type 0} (P : A → Type 0) (r : Result A B) → IsOkAnd r P → IsOk r
ok_of_and P (Ok value) holds = refl
ok_of_and P (Err error) holds = absurd holds

first_of_lines : (form : Form) (libraries : List (Result (List ℕ) LinkError)) (lines : List (List ℕ)) → AllZip (IsLibraryLine form) libraries lines → HasFirstLibrary libraries
first_of_lines form [] lines each = tt
first_of_lines form (first ∷ others) [] each = absurd each
first_of_lines form (first ∷ others) (line ∷ lines) each = ok_of_and _ first each.0

-- the first name can be read if each before one can, and that one
first_name : (earlier others : List (Result (List ℕ) LinkError)) (item : Result (List ℕ) LinkError) → HasFirstLibrary earlier → IsOk item → HasFirstLibrary (earlier ++ (item ∷ others))
first_name [] others item first own = own
first_name (one ∷ earlier) others item first own = first

pub stop_at_name : (form : Form) (all rest others : List (Result (List ℕ) LinkError)) (item : Result (List ℕ) LinkError) (text : List ℕ) (stop : Stop LinkError) → rest ≡ item ∷ others → AreLinesSoFar form all rest text → IsStop (λ error. item ≡ Err error) (IsOk item) ⊥ stop → IsStop (IsNameError form all) (HasFirstLibrary all) ⊥ stop
stop_at_name form all rest others item text (Failed error) is before why = record {
  earlier = before.earlier;
  later = others;
  split = ap (λ name. before.earlier ++ (name ∷ others)) (sym why) ∙ ap (λ left. before.earlier ++ left) (sym is) ∙ before.split;
  text = text;
  lines = before.so_far;
}
stop_at_name form all rest others item text Write is before own =
    subst HasFirstLibrary (ap (λ left. before.earlier ++ left) (sym is) ∙ before.split)
    (first_name before.earlier others item (first_of_lines form before.earlier before.so_far.lines before.so_far.each) own)
stop_at_name form all rest others item text Memory is before why = why
