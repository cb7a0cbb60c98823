-- The slots of a checked object that get addresses of symbols (this project's own).
use Rattle.std.specs.Prelude.{◌≡◌, ◌⊎◌, ℕ, ◌+◌, ◌-◌, ◌<◌, ◌≤◌, ◌||◌, nat_lt, false, IfSome, List, length, slice_index, Option, None, Some, if◌then◌else◌}
use Rattle.std.specs.Borrow.{Bor}
use Rattle.std.specs.List.{Contains, count_by}
use Rattle.elf_base.specs.Number.{number}
use Rattle.elf_linking.specs.CheckedScope.{bound_in}
use Rattle.elf_linking.specs.RelocationTypes.{row_of}
use Rattle.elf_linking.specs.declared.references.types.Formula.TheVariants.{Symbol, SymbolAlone}
use Rattle.elf_loading.specs.CheckedImage.{ImageParts, image_words, relocated_at, start_in}
use Rattle.elf_loading.specs.ImageWords.{covers}
use Rattle.elf_loading.specs.Relocate.{place_at, plus}
use Rattle.elf_loading.specs.Types.{Bound, Formula, Place, Reference}
use Rattle.elf_loading.specs.Values.{is_elsewhere}
use Rattle.xmas_elf.specs.Symbol.{SymbolFields}

-- the number in the 8 bytes at an address of an object's image, if it has them
abbrev pub word_in : ImageParts → List ℕ → ℕ → Option ℕ
word_in parts memory address = let start = start_in parts parts.index in
    if nat_lt address start || nat_lt (length memory) (address - start + 8) then None
    else Some (number parts.order 8 (address - start) memory)

-- a formula is that of the symbol: `S`, as for R_X86_64_JUMP_SLOT and R_X86_64_GLOB_DAT, or `S + A` where the addend is 0
abbrev pub IsOfSymbol : Option Formula → ℕ → Type 0
IsOfSymbol formula addend = (formula ≡ Some SymbolAlone) ⊎ ((formula ≡ Some Symbol) × (addend ≡ 0))

-- one of an object's relocations writes the 8 bytes at an address by such a formula, and the scope binds it to this symbol,
-- which is neither absolute nor an indirect function
pub record IsSymbolSlot (parts : ImageParts) (address : ℕ) (reference : Reference) (bound : Bound SymbolFields) : Type 0 where
  pub listed : Contains parts.references reference
  pub place : reference.offset ≡ address
  pub formula : IsOfSymbol (row_of parts.own.machine reference.kind).formula reference.addend
  pub width : (row_of parts.own.machine reference.kind).width ≡ 8
  pub bound_is : bound_in parts.objects parts.index reference ≡ Some bound
  pub plain : is_elsewhere (λ symbol. symbol) (Some bound) ≡ false

-- memory holds the words of an object's relocations, which are apart: each byte is that of the one word over its address,
-- otherwise any byte
pub record HasWords (parts : ImageParts) (places : List Place) (images : List (Bor (List ℕ))) (memory : List ℕ) : Type 0 where
  pub apart : (address : ℕ) → count_by (covers address) (image_words parts) ≤ 1
  pub bytes : (i : ℕ) → i < length memory → (old : ℕ)
      × (slice_index memory i ≡ relocated_at parts places images (image_words parts) (start_in parts parts.index + i) old)

-- a word is that of the slot of each symbol at an address: the address of the definition that the scope binds, which is the
-- base of its object plus its value
abbrev pub HoldsSymbol : ImageParts → List Place → ℕ → Option ℕ → Type 0
HoldsSymbol parts places address word = (reference : Reference) (bound : Bound SymbolFields)
    → IsSymbolSlot parts address reference bound
    → IfSome word (λ number. number ≡ plus (place_at places bound.object).base bound.symbol.value)
