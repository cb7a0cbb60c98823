-- The bytes that relocations leave in memory (the processor supplements of the System V ABI; which words have no number,
-- as glibc 2.36 writes them).
use Rattle.std.specs.Prelude.{◌≡◌, ℕ, ◌+◌, ◌-◌, ◌*◌, ◌/◌, ◌%◌, ◌^◌, ◌<◌, ◌==◌, ◌&&◌, ◌||◌, not, min, nat_lt, slice_get, slice_index, Bool, true, false, List, [], ◌∷◌, ◌++◌, All, map, length, Option, None, Some, option_map, unwrap_or, Result, Ok, Err, IsOk, MatchResult, if◌then◌else◌}
use Rattle.std.specs.Borrow.{Bor}
use Rattle.std.specs.List.{count_by}
use Rattle.elf_base.specs.FileHeader.{file_order}
use Rattle.elf_base.specs.FirstError.{and_then, unless}
use Rattle.elf_base.specs.Table.{table_items}
use Rattle.elf_loading.specs.Types.{Binding, Bound, DynamicObject, LinkError, LoadError, Order, Origin, Place, Relocated, Relocation, Value, Word}
use Rattle.elf_base.specs.declared.bytes.Order.TheVariants.{Big, Little}
use Rattle.elf_linking.specs.DynamicObject.{object_file, object_records, object_view}
use Rattle.elf_linking.specs.DynamicView.{view_entries}
use Rattle.elf_linking.specs.References.{file_machine}
use Rattle.elf_linking.specs.declared.error.LinkError.TheVariants.{ObjectIndex}
use Rattle.elf_loading.specs.ImageWords.{MatchBoth, as_load_error, covers}
use Rattle.elf_loading.specs.Plan.{plan_size, plan_span}
use Rattle.elf_loading.specs.Words.{HasWord, binds_lazily, is_later, needs_symbol}
use Rattle.elf_loading.specs.WordsLeft.{relocation_of, words_objects, own_relocations}
use Rattle.elf_loading.specs.declared.error.LoadError.TheVariants as error
use Rattle.elf_loading.specs.declared.plan.LoadPlan.{LoadPlan}
use Rattle.elf_loading.specs.declared.relocate.Sources.{Sources}
use Rattle.elf_loading.specs.declared.value.Origin.TheVariants.{Base, Call, Zero}
use Rattle.elf_loading.specs.declared.value.Value.TheVariants.{Copy, Descriptor, Distance, Module, Sum, Thread, ThreadNegated}
use Rattle.elf_loading.specs.declared.words.Words.{Words}
use Rattle.xmas_elf.specs.Symbol.{SymbolFields}

-- The number of a value, modulo 2 to the 64.

-- the place of an object; zeros if there is none
abbrev pub place_at : List Place → ℕ → Place
place_at places object = unwrap_or (slice_get places object) (record { base = 0; «module» = 0; thread = 0 })

-- the sum of two numbers
abbrev pub plus : ℕ → ℕ → ℕ
plus one other = (one + other) % 2 ^ 64

-- a number less another
abbrev pub less : ℕ → ℕ → ℕ
less other number = (number + (2 ^ 64 - other)) % 2 ^ 64

-- an origin plus a number; none for what a function returns
abbrev pub origin_sum : List Place → Origin → ℕ → Option ℕ
origin_sum places Zero offset = Some offset
origin_sum places (Base object) offset = Some (plus (place_at places object).base offset)
origin_sum places (Call object function) offset = None

-- the number of a value; none for what a function returns, for a descriptor, and for bytes of an object. `own` is the index
-- of the object with the relocation
abbrev pub value_number : List Place → ℕ → Value → Option ℕ
value_number places own (Sum origin offset) = origin_sum places origin offset
value_number places own (Distance origin offset) =
    option_map (less (place_at places own).base) (origin_sum places origin offset)
value_number places own (Module object) = Some (place_at places object).«module»
value_number places own (Thread object offset) = Some (plus (place_at places object).thread offset)
value_number places own (ThreadNegated object offset) = Some (less (place_at places object).thread offset)
value_number places own _ = None

-- The bytes of a word.

-- byte j of a number in `width` bytes
abbrev pub byte_of_number : Order → ℕ → ℕ → ℕ → ℕ
byte_of_number Little width number j = number / 2 ^ (8 * j) % 256
byte_of_number Big width number j = number / 2 ^ (8 * (width - 1 - j)) % 256

-- byte j of a number, if there is one, otherwise the byte that is there
abbrev pub number_byte : Order → ℕ → Option ℕ → ℕ → ℕ → ℕ
number_byte order width None j old = old
number_byte order width (Some number) j old = byte_of_number order width number j

-- the bytes of an image, if there is one
abbrev pub image_in : Option (Bor (List ℕ)) → List ℕ
image_in None = []
image_in (Some image) = image.now

-- the bytes of the image of an object
abbrev pub image_at : {E : Type 0} → {r : _} → Sources E r → ℕ → List ℕ
image_at sources object = image_in (slice_get sources.images.now object)

-- the first address of a plan; 0 if there is none
abbrev pub plan_start : Option LoadPlan → ℕ
plan_start None = 0
plan_start (Some plan) = (plan_span plan).start

-- the first address of the image of an object
abbrev pub image_start : {E : Type 0} → {r : _} → Sources E r → ℕ → ℕ
image_start sources object = plan_start (slice_get sources.plans.now object)

-- byte j of what a word of `width` bytes writes, where `old` is the byte that is there: of an object's bytes, or of a number
abbrev pub value_byte : {E : Type 0} → {r : _} → Sources E r → ℕ → Value → ℕ → ℕ → ℕ
value_byte sources width (Copy object offset size) j old =
    slice_index (image_at sources object) (offset - image_start sources object + j)
value_byte sources width value j old = number_byte sources.order width (value_number sources.places.now sources.of value) j old

-- the byte at an address after a word was written, where `old` is the one before
abbrev pub word_byte : {E : Type 0} → {r : _} → Sources E r → ℕ → Result Word LoadError → ℕ → ℕ
word_byte sources address (Err error) old = old
word_byte sources address (Ok word) old = if covers address word
    then value_byte sources word.width word.value (address - word.address) old else old

-- the byte at an address after the words of items, in order
unfoldable pub relocated_byte : {E : Type 0} → {r : _} → Sources E r → ℕ → List (Relocated E) → ℕ → ℕ
relocated_byte sources address [] old = old
relocated_byte sources address (item ∷ items) old =
    relocated_byte sources address items (word_byte sources address item.word old)

-- Why a word can't be written.

-- a symbol is weak (STB_WEAK, 2)
abbrev pub is_weak : {E : Type 0} → (E → SymbolFields) → Option E → Bool
is_weak fields None = false
is_weak fields (Some symbol) = (fields symbol).info / 16 == 2

-- a look-up found no symbol, and had no error
abbrev pub is_absent : {E : Type 0} → Result (Option (Bound E)) LinkError → Bool
is_absent (Ok None) = true
is_absent _ = false

-- a relocation needs a symbol that no object has, and that is not weak
abbrev pub is_unresolved : {E : Type 0} → {r : _} → (E → SymbolFields) → DynamicObject E r → Bool → Relocated E → Bool
is_unresolved fields own lazy item = is_absent item.bound
    && needs_symbol (file_machine (object_file own)) (is_later fields (object_file own) own lazy item.relocation) item.relocation
    && not (is_weak fields (slice_get (table_items (object_records own)) item.relocation.reference.symbol))

-- bytes from an address on are not all in an image of `len` bytes that begins at `start`; no bytes are in each
abbrev pub is_outside : ℕ → ℕ → ℕ → ℕ → Bool
is_outside start len address width = not (width == 0)
    && (nat_lt address start || nat_lt (start + len) (address + width))

-- the `width` bytes that a value copies are not all in the image of their object
abbrev pub is_copy_outside : {E : Type 0} → {r : _} → Sources E r → ℕ → Value → Bool
is_copy_outside sources width (Copy object offset size) =
    is_outside (image_start sources object) (length (image_at sources object)) offset width
is_copy_outside sources width value = false

-- a value that is written has no number: what a function returns, and a descriptor
abbrev pub has_no_number : Value → Bool
has_no_number (Sum (Call object function) offset) = true
has_no_number (Distance (Call object function) offset) = true
has_no_number (Descriptor object offset) = true
has_no_number _ = false

-- whether a word has no number, or why it can't be written to an image of `len` bytes
abbrev pub write_word : {E : Type 0} → {r : _} → Sources E r → ℕ → Word → Result Bool LoadError
write_word sources len word = unless ((is_outside (image_start sources sources.of) len word.address word.width, error.WordAddress)
    ∷ (is_copy_outside sources word.width word.value, error.CopySource) ∷ []) (has_no_number word.value)

-- the same for the word of an item: its own error comes first, and then that of its symbol
abbrev pub write_item : {E : Type 0} → {r : _} → (E → SymbolFields) → Sources E r → DynamicObject E r → Bool → ℕ → Relocated E → Result Bool LoadError
write_item fields sources own lazy len item = and_then item.word (λ word.
    if is_unresolved fields own lazy item then Err error.Unresolved else write_word sources len word)

-- The relocation of an image.

-- an iterator is over the words of an object, which is at index `of` of these, with its slots bound lazily or not
pub record AreWordsFor {E : Type 0} {r : _} (objects : List (DynamicObject E r)) (own : DynamicObject E r) (of : ℕ) (lazy : Bool) (words : Words E r) : Type 0 where
  pub objects_are : (words_objects words).now ≡ objects
  pub own_is : words.own.now ≡ own
  pub file_is : words.file ≡ object_file own
  pub index_is : words.of ≡ of
  pub lazy_is : words.lazy ≡ lazy

-- a word is known, and has no number
abbrev pub lacks_number : Result Word LoadError → Bool
lacks_number (Ok word) = has_no_number word.value
lacks_number (Err error) = false

-- the words of these items are written to the image of an object, in order, and `count` of them have no number
pub record AreItemsWritten {E : Type 0} {r : _} (fields : E → SymbolFields) (sources : Sources E r) (own : DynamicObject E r) (lazy : Bool) (before after : List ℕ) (items : List (Relocated E)) (count : ℕ) : Type 0 where
  pub have_words : All (HasWord fields sources.objects.now (object_file own) own sources.of lazy) items
  pub can_be : All (λ item. IsOk (write_item fields sources own lazy (length before) item)) items
  pub counted : count ≡ min (count_by (λ item. lacks_number item.word) items) (2 ^ 64 - 1)
  pub same_size : length after ≡ length before
  pub bytes : (i : ℕ) → i < length before
      → slice_index after i ≡ relocated_byte sources (image_start sources sources.of + i) items (slice_index before i)

-- what a call does to an image by the relocations of its object: it writes all words and returns how many have no number,
-- or it writes those before the first one that can't be written, and returns why not
pub data IsWriting {E : Type 0} {r : _} (fields : E → SymbolFields) (sources : Sources E r) (own : DynamicObject E r) (lazy : Bool) (relocations : List Relocation) (before after : List ℕ) (result : Result ℕ LoadError) : Type 0 where
  all : (items : List (Relocated E)) (count : ℕ) → relocations ≡ map relocation_of items
      → AreItemsWritten fields sources own lazy before after items count → result ≡ Ok count
      → IsWriting fields sources own lazy relocations before after result
  some : (items : List (Relocated E)) (count : ℕ) (item : Relocated E) (rest : List Relocation) (error : LoadError)
      → relocations ≡ map relocation_of items ++ (item.relocation ∷ rest)
      → AreItemsWritten fields sources own lazy before after items count
      → HasWord fields sources.objects.now (object_file own) own sources.of lazy item
      → write_item fields sources own lazy (length before) item ≡ Err error → result ≡ Err error
      → IsWriting fields sources own lazy relocations before after result

-- the image is not of the size of the span, or there are not as many plans, places or images as objects
abbrev pub is_wrong_size : {E : Type 0} → {r : _} → Sources E r → LoadPlan → ℕ → Bool
is_wrong_size sources plan len = let count = length sources.objects.now in
    not (len == plan_size plan) || (not (length sources.plans.now == count)
    || (not (length sources.places.now == count) || not (length sources.images.now == count)))

-- the relocations of an object, or why its image can't be relocated: the sizes, or an error of the relocations
abbrev pub sized_relocations : {E : Type 0} → {r : _} → Sources E r → DynamicObject E r → LoadPlan → ℕ → Result (List Relocation) LoadError
sized_relocations sources own plan len =
    if is_wrong_size sources plan len then Err error.ImageSize else as_load_error (own_relocations (Some own))

-- what a call does to the image of an object with this plan, and its result
abbrev pub IsRelocation : {E : Type 0} → {r : _} → (E → SymbolFields) → Sources E r → DynamicObject E r → LoadPlan → Bool → List ℕ → List ℕ → Result ℕ LoadError → Type 0
IsRelocation fields sources own plan lazy before after result = MatchResult (sized_relocations sources own plan (length before))
    (λ relocations. IsWriting fields sources own lazy relocations before after result)
    (λ error. (result ≡ Err error) × (after ≡ before))

-- what the words of an object of a scope are written by
abbrev pub sources_of : {E : Type 0} → {r : _} → Bor (List (DynamicObject E r)) → Bor (List LoadPlan) → ℕ → Bor (List Place) → Bor (List (Bor (List ℕ))) → DynamicObject E r → Sources E r
sources_of objects plans of places images own = record {
  objects = objects;
  plans = plans;
  of = of;
  order = file_order (object_file own).header;
  places = places;
  images = images;
}

-- the same for the object at an index, of which the scope may have no object or no plan
abbrev pub IsRelocationIn : {E : Type 0} → {r : _} → (E → SymbolFields) → Bor (List (DynamicObject E r)) → Bor (List LoadPlan) → ℕ → Binding → Bor (List Place) → Bor (List (Bor (List ℕ))) → List ℕ → List ℕ → Result ℕ LoadError → Type 0
IsRelocationIn fields objects plans of when places images before after result =
    MatchBoth (slice_get objects.now of) (slice_get plans.now of) ((result ≡ Err (error.Link ObjectIndex)) × (after ≡ before))
    (λ own plan. IsRelocation fields (sources_of objects plans of places images own) own plan
    (binds_lazily (view_entries (object_view own)) when) before after result)
