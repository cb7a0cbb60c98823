-- The texts of a string table in order (gABI, "String Table"; where they end is this project's own).
use Rattle.std.specs.Prelude.{◌≢◌, ℕ, zero, suc, List, [], ◌∷◌, ◌++◌, length, Option, None, Some, Result, Ok, Err}
use Rattle.std.specs.Borrow.{Bor}
use Rattle.elf_base.specs.Text.{IsText, TextError, text_of}
use Rattle.xmas_elf.specs.Prelude.{ElfError, SectionStrings}
use Rattle.xmas_elf.specs.Content.{Content, strings}

-- `items` are the texts at the front of the bytes, each followed by a zero byte, up to the end of the bytes
-- or an empty text; if the bytes after them begin with no text, the error for it is the last item
pub data AreStringItems : List ℕ → List (Result (List ℕ) ElfError) → Type 0 where
  at_end : AreStringItems [] []
  at_empty : (bytes : List ℕ) → IsText bytes 0 [] → AreStringItems bytes []
  failed : (bytes : List ℕ) (error : ElfError) → bytes ≢ [] → TextError bytes 0 error → AreStringItems bytes (Err error ∷ [])
  text : (first rest : List ℕ) (items : List (Result (List ℕ) ElfError)) → first ≢ []
      → IsText (first ++ (0 ∷ rest)) 0 first → AreStringItems rest items
      → AreStringItems (first ++ (0 ∷ rest)) (Ok first ∷ items)

-- the items of bytes, by the text at their front or the error for it; `after` are the items after the zero
-- byte of a text of `count` bytes
abbrev pub items_by_text : Result (List ℕ) ElfError → (ℕ → List (Result (List ℕ) ElfError)) → List (Result (List ℕ) ElfError)
items_by_text (Ok []) after = []
items_by_text (Ok (byte ∷ bytes)) after = Ok (byte ∷ bytes) ∷ after (length (byte ∷ bytes))
items_by_text (Err error) after = Err error ∷ []

-- the items after the first `count` bytes; after the first byte of a text `count` is its length, so that its
-- zero byte is passed too
unfoldable pub string_items_after : ℕ → List ℕ → List (Result (List ℕ) ElfError)
string_items_after count [] = []
string_items_after (suc count) (byte ∷ bytes) = string_items_after count bytes
string_items_after zero (byte ∷ bytes) = items_by_text (text_of (byte ∷ bytes) 0) (λ count. string_items_after count bytes)

-- the items of bytes, as a function
abbrev pub string_items : List ℕ → List (Result (List ℕ) ElfError)
string_items bytes = string_items_after 0 bytes

-- the bytes that an iterator has not yet passed
abbrev pub strings_bytes : SectionStrings → List ℕ
strings_bytes iter = iter.rest.now

-- the items that an iterator has not yet returned
abbrev pub string_items_left : SectionStrings → List (Result (List ℕ) ElfError)
string_items_left iter = string_items (strings_bytes iter)

-- the bytes of a string table
abbrev pub string_data : Content → Option (List ℕ)
string_data (strings bytes) = Some bytes
string_data _ = None

-- an item, with its bytes
abbrev pub string_item : Result (Bor (List ℕ)) ElfError → Result (List ℕ) ElfError
string_item (Ok lent) = Ok lent.now
string_item (Err error) = Err error
