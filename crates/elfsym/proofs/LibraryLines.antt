-- How a loop over the libraries writes a line for each.
use Rattle.std.proofs.Common.{◌≡◌, ℕ, List, [], ◌∷◌, ◌++◌, Result, Ok, append_assoc, append-nil, refl, sym, ap, ◌∙◌, subst}
use Rattle.std.specs.Borrow.{Bor}
use Rattle.std.specs.Prelude.{IsOkAnd}
use Rattle.elf_base.specs.FileHeader.{header_of}
use Rattle.elf_linking.specs.declared.error.LinkError.{LinkError}
use Rattle.elfsym.specs.Libraries.{AreFileLibraries, AreInputLibraries, AreLibraryLines, IsLibraryLine}
use Rattle.program_ends.proofs.LineLists.{concat_one_more, zip_one_more}
use Rattle.program_ends.specs.declared.json.Form.{Form}
use Rattle.xmas_elf.specs.Types.{ElfError, ElfFile, Header}

-- with `rest` still left of all libraries, the text is the lines of those before it
pub record AreLinesSoFar (form : Form) (all rest : List (Result (List ℕ) LinkError)) (text : List ℕ) : Type 0 where
  pub earlier : List (Result (List ℕ) LinkError)
  pub split : earlier ++ rest ≡ all
  pub so_far : AreLibraryLines form earlier text

-- no line yet
pub no_line_so_far : (form : Form) (all rest : List (Result (List ℕ) LinkError)) → rest ≡ all → AreLinesSoFar form all rest []
no_line_so_far form all rest same = record { earlier = []; split = same; so_far = record { lines = []; each = tt; text_is = refl } }

-- one more line
pub one_more_line : (form : Form) (all rest others : List (Result (List ℕ) LinkError)) (item : Result (List ℕ) LinkError) (text line : List ℕ) → rest ≡ item ∷ others → IsLibraryLine form item line → AreLinesSoFar form all rest text → AreLinesSoFar form all others (text ++ line)
one_more_line form all rest others item text line is own before = record {
  earlier = before.earlier ++ item ∷ [];
  split = append_assoc before.earlier (item ∷ []) others ∙ ap (λ left. before.earlier ++ left) (sym is) ∙ before.split;
  so_far = record {
    lines = before.so_far.lines ++ line ∷ [];
    each = zip_one_more (IsLibraryLine form) before.earlier before.so_far.lines item line before.so_far.each own;
    text_is = ap (λ t. t ++ line) before.so_far.text_is ∙ sym (concat_one_more before.so_far.lines line);
  };
}

-- at the end all lines
pub all_lines : (form : Form) (all rest : List (Result (List ℕ) LinkError)) (text : List ℕ) → rest ≡ [] → AreLinesSoFar form all rest text → AreLibraryLines form all text
all_lines form all rest text end before =
    subst (λ found. AreLibraryLines form found text) (sym (append-nil before.earlier) ∙ ap (λ left. before.earlier ++ left) (sym end) ∙ before.split) before.so_far

-- the lines for a file are those for its input
pub for_library_input : (form : Form) (input : Bor (List ℕ)) (file : ElfFile) (text : List ℕ) → file.input ≡ input → header_of input.now ≡ Ok file.header → AreFileLibraries form file text → AreInputLibraries form input text
for_library_input form input file text same header are =
    subst (λ (r : Result Header ElfError). IsOkAnd r (λ h. AreFileLibraries form (record { input = input; header = h }) text)) (sym header)
    (subst (λ (i : Bor (List ℕ)). AreFileLibraries form (record { input = i; header = file.header }) text) same are)
