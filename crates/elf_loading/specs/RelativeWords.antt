-- Words that are written without a look-up: those of relative relocations, and those of a symbol that was looked up before
-- (the processor supplements of the System V ABI; this project's own).
use Rattle.std.specs.Prelude.{◌≡◌, ℕ, ◌+◌, ◌-◌, ◌^◌, ◌==◌, ◌&&◌, ◌++◌, ◌∷◌, not, min, Bool, true, false, List, map, length, slice_index, Option, None, Some, Result, Ok, IfErr, IfOk, if◌then◌else◌}
use Rattle.elf_linking.specs.DynamicObject.{object_file}
use Rattle.elf_loading.specs.InOrder.{first_left}
use Rattle.elf_loading.specs.Types.{DynamicObject, LoadError, Records, Relocated, Relocation, Row, Word}
use Rattle.elf_loading.specs.Relocate.{AreItemsWritten, image_start, word_byte, write_item, write_word}
use Rattle.elf_loading.specs.Values.{low}
use Rattle.elf_loading.specs.Words.{HasWord}
use Rattle.elf_loading.specs.WordsLeft.{relocation_of}
use Rattle.elf_loading.specs.declared.relocate.Sources.{Sources}
use Rattle.elf_loading.specs.declared.value.Origin.TheVariants.{Base}
use Rattle.elf_loading.specs.declared.value.Value.TheVariants.{Sum}
use Rattle.xmas_elf.specs.Symbol.{SymbolFields}

-- the word of a relative relocation of the object at index `of`, by the row of their type, if its addend is in its record
abbrev pub relative_word : ℕ → Option Row → Relocation → Option Word
relative_word of None relocation = None
relative_word of (Some relative) relocation =
    if relocation.reference.kind == relative.kind && not relocation.in_place then Some (record {
      address = relocation.reference.offset;
      width = relative.width;
      value = Sum (Base of) (low relative.width relocation.reference.addend);
    }) else None

-- two relocations ask alike: the indices of their symbols and their types are the same, both are slots or neither is, and both
-- have their addends in place or neither has
abbrev pub asks_as : Relocation → Relocation → Bool
asks_as one other = one.reference.symbol == other.reference.symbol
    && (one.reference.kind == other.reference.kind && ((if one.slot then other.slot else not other.slot)
    && (if one.in_place then other.in_place else not other.in_place)))

-- a call wrote the word of a relocation to an image, or returned why not
pub record IsItemWritten {E : Type 0} {r : _} (fields : E → SymbolFields) (sources : Sources E r) (own : DynamicObject E r) (lazy : Bool) (relocation : Relocation) (before after : List ℕ) (result : Result Bool LoadError) : Type 0 where
  pub item : Relocated E
  pub relocation_is : item.relocation ≡ relocation
  pub has_word : HasWord fields sources.objects.now (object_file own) own sources.of lazy item
  pub result_is : result ≡ write_item fields sources own lazy (length before) item
  pub bytes : IfOk result (λ lacks. (i : ℕ) → slice_index after i
      ≡ word_byte sources (image_start sources sources.of + i) item.word (slice_index before i))
  pub same : IfErr result (λ error. after ≡ before)

-- the word of the first of some records, a relative relocation, was written to an image, and `later` are the records after it
pub record IsFirstWritten {E : Type 0} {r : _} (sources : Sources E r) (relative : Option Row) (records later : Records) (before after : List ℕ) : Type 0 where
  pub relocation : Relocation
  pub word : Word
  pub lacks : Bool
  pub first : first_left records records.at ≡ relocation ∷ first_left later later.at
  pub word_is : relative_word sources.of relative relocation ≡ Some word
  pub can_be : write_word sources (length before) word ≡ Ok lacks
  pub bytes : (i : ℕ) → slice_index after i ≡ word_byte sources (image_start sources sources.of + i) (Ok word) (slice_index before i)

-- the same, if a call says so; otherwise nothing was written
abbrev pub IsRecordWritten : {E : Type 0} → {r : _} → Sources E r → Option Row → Records → Records → List ℕ → List ℕ → Bool → Type 0
IsRecordWritten sources relative records later before after true = IsFirstWritten sources relative records later before after
IsRecordWritten sources relative records later before after false = (later ≡ records) × (after ≡ before)

-- the words of the first `index` relocations are written to an image, `count` of them have no number, and `left` are those
-- after them
pub record IsWrittenSoFar {E : Type 0} {r : _} (fields : E → SymbolFields) (sources : Sources E r) (own : DynamicObject E r) (lazy : Bool) (relocations : List Relocation) (before : List ℕ) (left : List Relocation) (after : List ℕ) (count index : ℕ) : Type 0 where
  pub items : List (Relocated E)
  pub passed : index ≡ min (length items) (2 ^ 64 - 1)
  pub split : relocations ≡ map relocation_of items ++ left
  pub written : AreItemsWritten fields sources own lazy before after items count
