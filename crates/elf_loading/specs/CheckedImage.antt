-- An object of a scope whose checks passed, as plain lists: which words its relocations write, and the bytes of its memory
-- after that (the processor supplements of the System V ABI, "Relocation Types").
use Rattle.std.specs.Prelude.{◌≡◌, ℕ, ◌+◌, ◌-◌, ◌^◌, ◌<◌, ◌==◌, ◌&&◌, ◌||◌, not, is_none, min, Bool, true, false, List, [], ◌∷◌, map, length, filter_map, slice_get, slice_index, Option, Some, None, option_map, option_and_then, unwrap_or, Result, Ok, Err, if◌then◌else◌}
use Rattle.std.specs.Borrow.{Bor}
use Rattle.std.specs.List.{count_by, find, take_while}
use Rattle.std.specs.Result.{result_ok}
use Rattle.elf_base.specs.FileHeader.{file_order}
use Rattle.elf_loading.specs.Types.{Bound, DynamicObject, Formula, ImageError, LoadError, Loader, Order, Place, Reference, Relocation, Segment, Value, Word}
use Rattle.elf_linking.specs.CheckedScope.{bound_in}
use Rattle.elf_linking.specs.DynamicObject.{object_file}
use Rattle.elf_linking.specs.Exports.{ObjectParts, SymbolParts, object_parts}
use Rattle.elf_linking.specs.References.{file_machine}
use Rattle.elf_linking.specs.RelocationTypes.{row_of}
use Rattle.elf_linking.specs.Scope.{AreGood}
use Rattle.elf_loading.specs.Bytes.{byte_number, byte_of}
use Rattle.elf_loading.specs.ImageWords.{AreWordsApart, covers}
use Rattle.elf_loading.specs.Plan.{plan_loads, plan_page, plan_size, plan_span}
use Rattle.elf_loading.specs.Relocate.{has_no_number, image_in, is_outside, is_weak, number_byte, value_number}
use Rattle.elf_loading.specs.Words.{addend_of, size_in_own, formula_has_symbol, takes_symbol, value_word}
use Rattle.elf_loading.specs.WordsLeft.{own_relocations}
use Rattle.elf_loading.specs.declared.checked.image.ImageError.TheVariants as error
use Rattle.elf_loading.specs.declared.error.LoadError.TheVariants as load
use Rattle.elf_loading.specs.declared.plan.LoadPlan.{LoadPlan}
use Rattle.elf_loading.specs.declared.value.Value.TheVariants.{Copy}
use Rattle.xmas_elf.specs.Symbol.{SymbolFields}

-- an object of a scope whose checks passed: its index; the object itself, and all objects of the scope; its relocations in
-- the order in which they are applied, each with its addend; its byte order; the first address of each object's image; and
-- by its plan the size of its image, its load segments, the page size, and the bytes of its file
pub record ImageParts : Type 0 where
  pub index : ℕ
  pub own : ObjectParts
  pub objects : List ObjectParts
  pub references : List Reference
  pub order : Order
  pub starts : List ℕ
  pub size : ℕ
  pub loads : List Segment
  pub page : ℕ
  pub file : List ℕ

-- the first address of the image of an object
abbrev pub start_in : ImageParts → ℕ → ℕ
start_in parts object = unwrap_or (slice_get parts.starts object) 0

-- The words that the relocations write.

-- the symbol that a relocation gets, if its formula has one: that which the scope binds
abbrev pub symbol_for : ImageParts → Reference → Formula → Option (Bound SymbolFields)
symbol_for parts reference formula = if takes_symbol formula then bound_in parts.objects parts.index reference else None

-- the symbol of the object that a relocation names
abbrev pub own_symbol : ImageParts → Reference → Option SymbolParts
own_symbol parts reference = slice_get parts.own.symbols reference.symbol

-- the word of a relocation by its formula: at the address of the relocation the value of the formula
abbrev pub word_by : ImageParts → Reference → Formula → Word
word_by parts reference formula = value_word (λ symbol. symbol) (record {
  own = parts.index;
  address = reference.offset;
  addend = reference.addend;
  size = size_in_own (λ (symbol : SymbolParts). symbol.fields) (own_symbol parts reference);
  width = (row_of parts.own.machine reference.kind).width;
}) (symbol_for parts reference formula) formula

-- the word of a relocation, by the formula of its type
abbrev pub word_for : ImageParts → Reference → Option Word
word_for parts reference = option_map (word_by parts reference) (row_of parts.own.machine reference.kind).formula

-- the words of all relocations
abbrev pub image_words : ImageParts → List Word
image_words parts = filter_map (word_for parts) parts.references

-- The bytes of memory.

-- byte j of what a word of `width` bytes writes, where `old` is the byte that is there: of the bytes of another object, or of
-- a number
abbrev pub written_byte : ImageParts → List Place → List (Bor (List ℕ)) → ℕ → Value → ℕ → ℕ → ℕ
written_byte parts places images width (Copy object offset size) j old =
    slice_index (image_in (slice_get images object)) (offset - start_in parts object + j)
written_byte parts places images width value j old =
    number_byte parts.order width (value_number places parts.index value) j old

-- the byte at an address that a word has, if there is one; otherwise the one before
abbrev pub byte_under : ImageParts → List Place → List (Bor (List ℕ)) → ℕ → Option Word → ℕ → ℕ
byte_under parts places images address None old = old
byte_under parts places images address (Some word) old =
    written_byte parts places images word.width word.value (address - word.address) old

-- the byte at an address after words are written: that of the word over it, otherwise the one before
abbrev pub relocated_at : ImageParts → List Place → List (Bor (List ℕ)) → List Word → ℕ → ℕ → ℕ
relocated_at parts places images words address old =
    byte_under parts places images address (find (covers address) words) old

-- the byte at an address before relocation, as a loader maps the file
abbrev pub mapped_at : ImageParts → Loader → ℕ → ℕ
mapped_at parts by address = byte_number parts.file (byte_of parts.page by (length parts.file) address parts.loads)

-- an image has the bytes that a loader maps: byte i is that at its first address plus i
pub record IsMappedImage (parts : ImageParts) (by : Loader) (image : List ℕ) : Type 0 where
  pub size : length image ≡ parts.size
  pub bytes : (i : ℕ) → i < length image → slice_index image i ≡ mapped_at parts by (start_in parts parts.index + i)

-- words are written to an image: each byte is that of the one word over its address, otherwise the one before; where the
-- image was mapped, the one that the loader maps
pub record AreWordsWritten (parts : ImageParts) (places : List Place) (images : List (Bor (List ℕ))) (words : List Word) (before after : List ℕ) : Type 0 where
  pub size : length after ≡ length before
  pub bytes : (i : ℕ) → i < length before → slice_index after i
      ≡ relocated_at parts places images words (start_in parts parts.index + i) (slice_index before i)
  pub of_plan : (by : Loader) → IsMappedImage parts by before → (i : ℕ) → i < length before → slice_index after i
      ≡ relocated_at parts places images words (start_in parts parts.index + i) (mapped_at parts by (start_in parts parts.index + i))

-- Why an image is not relocated.

-- a relocation needs a symbol that no object has, and that is not weak
abbrev pub is_missing : ImageParts → Reference → Bool
is_missing parts reference = is_none (bound_in parts.objects parts.index reference)
    && formula_has_symbol (row_of parts.own.machine reference.kind).formula
    && not (is_weak (λ (symbol : SymbolParts). symbol.fields) (own_symbol parts reference))

-- the `width` bytes that a value copies are not all in the image of their object
abbrev pub is_without_source : ImageParts → List (Bor (List ℕ)) → ℕ → Value → Bool
is_without_source parts images width (Copy object offset size) =
    is_outside (start_in parts object) (length (image_in (slice_get images object))) offset width
is_without_source parts images width value = false

-- why the word of a relocation can't be written
abbrev pub fault_of : ImageParts → List (Bor (List ℕ)) → Reference → Option ImageError
fault_of parts images reference = if is_missing parts reference then Some error.Unresolved
    else option_and_then (λ word. if is_without_source parts images word.width word.value then Some error.CopySource else None) (word_for parts reference)

-- an image is not of the size of the span, or there are not as many plans, places or images as objects
abbrev pub is_size_wrong : ImageParts → List Place → List (Bor (List ℕ)) → ℕ → Bool
is_size_wrong parts places images len = let count = length parts.objects in
    not (len == parts.size) || (not (length parts.starts == count) || (not (length places == count) || not (length images == count)))

-- the first of some faults, or a number if there is none
abbrev pub first_or : List ImageError → ℕ → Result ℕ ImageError
first_or [] count = Ok count
first_or (fault ∷ faults) count = Err fault

-- the result for an image of `len` bytes: the first reason why it isn't relocated, or the number of words without a number
abbrev pub image_result : ImageParts → List Place → List (Bor (List ℕ)) → ℕ → Result ℕ ImageError
image_result parts places images len = if is_size_wrong parts places images len then Err error.Size
    else first_or (filter_map (fault_of parts images) parts.references)
    (min (count_by (λ word. has_no_number word.value) (image_words parts)) (2 ^ 64 - 1))

-- the words that are written to an image of `len` bytes: those of the relocations before the first whose word can't be
-- written; none if a size is wrong
abbrev pub written_words : ImageParts → List Place → List (Bor (List ℕ)) → ℕ → List Word
written_words parts places images len = if is_size_wrong parts places images len then []
    else filter_map (word_for parts) (take_while (λ reference. is_none (fault_of parts images reference)) parts.references)

-- a fault of an image, as the error of a scope
abbrev pub load_error : ImageError → LoadError
load_error error.Size = load.ImageSize
load_error error.Unresolved = load.Unresolved
load_error error.CopySource = load.CopySource

-- an error of a scope is one of these
abbrev pub is_fault : LoadError → Bool
is_fault load.ImageSize = true
is_fault load.Unresolved = true
is_fault load.CopySource = true
is_fault _ = false

-- What an object and its plan are, as these lists.

-- the addend of a relocation by its formula, if there is one: that of the record, or the word in place before relocation
abbrev pub addend_in : {E : Type 0} → {r : _} → DynamicObject E r → Relocation → Option Formula → ℕ
addend_in own relocation None = relocation.reference.addend
addend_in own relocation (Some formula) =
    unwrap_or (result_ok (addend_of (object_file own) relocation.in_place formula relocation.reference)) 0

-- a relocation with its addend
abbrev pub with_addend : {E : Type 0} → {r : _} → DynamicObject E r → Relocation → Reference
with_addend own relocation = let reference = relocation.reference in record {
  offset = reference.offset;
  kind = reference.kind;
  symbol = reference.symbol;
  addend = addend_in own relocation (row_of (file_machine (object_file own)) reference.kind).formula;
}

-- an object with its plan
abbrev pub image_parts : {E : Type 0} → {r : _} → (E → SymbolFields) → List (DynamicObject E r) → List LoadPlan → ℕ → DynamicObject E r → LoadPlan → ImageParts
image_parts fields objects plans index own plan = record {
  index = index;
  own = object_parts fields own;
  objects = map (object_parts fields) objects;
  references = map (with_addend own) (unwrap_or (result_ok (own_relocations (Some own))) []);
  order = file_order (object_file own).header;
  starts = map (λ plan. (plan_span plan).start) plans;
  size = plan_size plan;
  loads = plan_loads plan;
  page = plan_page plan;
  file = plan.input.now;
}

-- the object and the plan at an index of a scope, if there are both
abbrev pub image_at_index : {E : Type 0} → {r : _} → (E → SymbolFields) → List (DynamicObject E r) → List LoadPlan → ℕ → Option ImageParts
image_at_index fields objects plans index = option_and_then (λ own.
    option_map (image_parts fields objects plans index own) (slice_get plans index)) (slice_get objects index)

-- all objects of a scope passed their checks, and the words of the one at an index are apart, each in a load segment
pub record IsCheckedImage {E : Type 0} {r : _} (fields : E → SymbolFields) (objects : List (DynamicObject E r)) (plans : List LoadPlan) (index : ℕ) (own : DynamicObject E r) (plan : LoadPlan) : Type 0 where
  pub good : AreGood fields objects
  pub own_is : slice_get objects index ≡ Some own
  pub plan_is : slice_get plans index ≡ Some plan
  pub apart : AreWordsApart fields objects index own (plan_loads plan)
