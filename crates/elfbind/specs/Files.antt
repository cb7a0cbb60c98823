-- What holds of the files that the program is given, and what is written of them in order (this project's own).
use Rattle.std.specs.Prelude.{ℕ, ◌++◌, ◌||◌, Bool, false, List, [], ◌∷◌, IfSome, IsOk, length, slice_get}
use Rattle.elf_base.specs.FileHeader.{header_of}
use Rattle.linking_programs.specs.declared.Input.{Input}

-- each input begins with the magic number and a whole header of class 32 or 64
abbrev pub AreAccepted : List Input → Type 0
AreAccepted inputs = (i : ℕ) → IfSome (slice_get inputs i) (λ input. IsOk (header_of input.bytes.items))

-- what is written of some items in order: for each, by its index, a text, and whether something is wrong with it
pub data AreWritten {A : Type 0} (Is : ℕ → A → Bool → List ℕ → Type 0) : List A → Bool → List ℕ → Type 0 where
  nothing : AreWritten Is [] false []
  further : (items : List A) (item : A) (wrong own : Bool) (text line : List ℕ) → AreWritten Is items wrong text
      → Is (length items) item own line → AreWritten Is (items ++ (item ∷ [])) (wrong || own) (text ++ line)
