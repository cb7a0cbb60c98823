-- The words that relocations write when a file is loaded (the processor supplements of the System V ABI; which symbol
-- a relocation gets, as `bind` of elf_linking says; what jump slots hold before they are called, as glibc 2.36 has it).
use Rattle.std.specs.Prelude.{◌≡◌, ℕ, ◌+◌, ◌*◌, ◌/◌, ◌%◌, ◌^◌, ◌==◌, ◌&&◌, not, nat_le, is_none, is_some, Bool, true, false, List, [], ◌∷◌, slice_get, Option, None, Some, option_map, unwrap_or, Result, Ok, Err, if◌then◌else◌}
use Rattle.std.specs.List.{list_any}
use Rattle.elf_base.specs.FileHeader.{file_class}
use Rattle.elf_base.specs.FirstError.{and_then, unless}
use Rattle.elf_base.specs.Table.{table_items}
use Rattle.elf_linking.specs.DynamicObject.{object_records, object_view}
use Rattle.elf_linking.specs.DynamicView.{flag_in, number_with, view_entries}
use Rattle.elf_linking.specs.Loaded.{word_at_of}
use Rattle.elf_linking.specs.References.{file_machine}
use Rattle.elf_linking.specs.Scope.{IsReferenceBound}
use Rattle.elf_loading.specs.Types.{Binding, Bound, Dynamic, DynamicObject, ElfFile, Formula, LinkError, LoadError, Reference, Relocated, Relocation, Segment, Terms, Word}
use Rattle.elf_linking.specs.declared.view.tags.TheConstants.{DT_BIND_NOW, DT_FLAGS, DT_FLAGS_1, DT_PLTGOT}
use Rattle.elf_linking.specs.RelocationTypes.{row_of}
use Rattle.elf_loading.specs.Segments.{loads_of}
use Rattle.elf_loading.specs.Values.{bytes_of, difference, is_elsewhere, low, value_of}
use Rattle.elf_loading.specs.declared.error.LoadError.TheVariants.{CallSymbol, CopyKind, Link, NoSize, WordType}
use Rattle.elf_linking.specs.declared.references.types.Formula.TheVariants as formulas
use Rattle.elf_loading.specs.declared.value.Origin.TheVariants.{Base}
use Rattle.elf_loading.specs.declared.value.Value.TheVariants.{Sum}
use Rattle.elf_loading.specs.declared.words.Binding.TheVariants.{Lazy, Now}
use Rattle.xmas_elf.specs.Symbol.{SymbolFields}

-- Jump slots that get their symbols when they are called first.

-- this is asked for, and the file doesn't ask for the contrary: by an entry DT_BIND_NOW, by the flag DF_BIND_NOW (8) in
-- DT_FLAGS, or by the flag DF_1_NOW (1) in DT_FLAGS_1
abbrev pub binds_lazily : List (Dynamic ℕ) → Binding → Bool
binds_lazily entries Now = false
binds_lazily entries Lazy = not (is_some (number_with DT_BIND_NOW entries))
    && (not (flag_in (number_with DT_FLAGS entries) 8) && not (flag_in (number_with DT_FLAGS_1 entries) 1))

-- The formula of a relocation, and what it is made of.

-- a formula has a symbol
abbrev pub takes_symbol : Formula → Bool
takes_symbol formulas.Unchanged = false
takes_symbol formulas.Base = false
takes_symbol formulas.Call = false
takes_symbol _ = true

-- a formula has an addend
abbrev pub takes_addend : Formula → Bool
takes_addend formulas.Unchanged = false
takes_addend formulas.SymbolAlone = false
takes_addend formulas.Module = false
takes_addend formulas.OffsetAlone = false
takes_addend formulas.Copy = false
takes_addend _ = true

-- there is a formula, and it has a symbol
abbrev pub formula_has_symbol : Option Formula → Bool
formula_has_symbol None = false
formula_has_symbol (Some formula) = takes_symbol formula

-- the word of a relocation depends on a symbol: not if its slot gets it later
abbrev pub needs_symbol : ℕ → Bool → Relocation → Bool
needs_symbol machine later relocation = not later && formula_has_symbol (row_of machine relocation.reference.kind).formula

-- the address of the word in place that is the addend: the second word of a descriptor (on 386, of 4 bytes); otherwise
-- the word itself
abbrev pub addend_place : Formula → ℕ → ℕ
addend_place formulas.Descriptor address = (address + 4) % 2 ^ 64
addend_place _ address = address

-- the bytes of a word at an address are zeros after the bytes that a load has in the file
abbrev pub has_zeros : ℕ → ℕ → Segment → Bool
has_zeros address width load = nat_le (load.address + load.file_size) address
    && nat_le (address + width) (load.address + load.mem_size)

-- the size of an address in bytes, by the class
abbrev pub address_size : ElfFile → ℕ
address_size file = if file_class file.header == 1 then 4 else 8

-- a number, or 0 for zeros of memory, or the error
abbrev pub or_zeros : Bool → Result ℕ LinkError → Result ℕ LinkError
or_zeros zeros (Ok number) = Ok number
or_zeros zeros (Err error) = if zeros then Ok 0 else Err error

-- the word at an address in memory before relocation
abbrev pub word_in_memory : ElfFile → ℕ → Result ℕ LinkError
word_in_memory file address =
    or_zeros (list_any (has_zeros address (address_size file)) (loads_of file)) (word_at_of file address)

-- the addend, if the formula has one: that of the record, or the word in place
abbrev pub addend_of : ElfFile → Bool → Formula → Reference → Result ℕ LinkError
addend_of file in_place formula reference =
    if in_place && takes_addend formula then word_in_memory file (addend_place formula reference.offset) else Ok reference.addend

-- the size of a symbol, if there is one; 0 otherwise
abbrev pub size_in_own : {E : Type 0} → (E → SymbolFields) → Option E → ℕ
size_in_own fields None = 0
size_in_own fields (Some symbol) = (fields symbol).size

-- the size of the symbol at an index of an object; 0 if there is none
abbrev pub own_size : {E : Type 0} → {r : _} → (E → SymbolFields) → DynamicObject E r → ℕ → ℕ
own_size fields object index = size_in_own fields (slice_get (table_items (object_records object)) index)

-- The word of a relocation.

-- the word with the value of a formula
abbrev pub value_word : {E : Type 0} → (E → SymbolFields) → Terms → Option (Bound E) → Formula → Word
value_word fields terms bound formula = let value = value_of fields terms bound formula in
    record { address = terms.address; width = bytes_of terms.width value; value = value }

-- why the value of a formula isn't modelled, by the symbol that is named, and the one that its relocation gets: the size of
-- none; a copy that isn't of bytes of an object; what a function returns, with a symbol
abbrev pub value_rows : {E : Type 0} → (E → SymbolFields) → ℕ → Option (Bound E) → Formula → List (Bool × LoadError)
value_rows fields named bound formulas.Size = (is_none bound, NoSize) ∷ []
value_rows fields named bound formulas.Copy = (is_elsewhere fields bound, CopyKind) ∷ []
value_rows fields named bound formulas.Call = (not (named == 0), CallSymbol) ∷ []
value_rows fields named bound _ = []

-- a result after one that may be an error of elf_linking
abbrev pub and_link : {A B : Type 0} → Result A LinkError → (A → Result B LoadError) → Result B LoadError
and_link (Ok value) next = next value
and_link (Err error) next = Err (Link error)

-- the word of a relocation of the object at index `of`, by its formula and the symbol that it gets
abbrev pub formula_word : {E : Type 0} → {r : _} → (E → SymbolFields) → ElfFile → DynamicObject E r → ℕ → Bool → Reference → Result (Option (Bound E)) LinkError → Option Formula → Result Word LoadError
formula_word fields file own of in_place reference bound None = Err WordType
formula_word fields file own of in_place reference bound (Some formula) =
    and_link (addend_of file in_place formula reference) (λ addend. and_link bound (λ symbol.
    unless (value_rows fields reference.symbol symbol formula) (value_word fields (record {
      own = of;
      address = reference.offset;
      addend = addend;
      size = own_size fields own reference.symbol;
      width = (row_of (file_machine file) reference.kind).width;
    }) symbol formula)))

-- The word of a relocation, which may be of a jump slot that gets its symbol when it is called first.

-- glibc binds a slot at once although others get their symbols later: on 386 (3) one with an addend in its record
-- (elf/do-rel.h), on AArch64 (183) one whose symbol has the flag STO_AARCH64_VARIANT_PCS (0x80), in a file with an entry
-- DT_AARCH64_VARIANT_PCS (0x70000005; dl-machine.h)
abbrev pub is_bound_at_once : {E : Type 0} → {r : _} → (E → SymbolFields) → ElfFile → DynamicObject E r → Relocation → Bool
is_bound_at_once fields file own relocation = if file_machine file == 3 then not relocation.in_place else
    file_machine file == 183 && (is_some (number_with 0x70000005 (view_entries (object_view own))) && unwrap_or (option_map
    (λ symbol. (fields symbol).other / 128 % 2 == 1) (slice_get (table_items (object_records own)) relocation.reference.symbol)) false)

-- a relocation is of a slot that gets its symbol later: it is of the procedure linkage table, and its type is that of slots
abbrev pub is_later : {E : Type 0} → {r : _} → (E → SymbolFields) → ElfFile → DynamicObject E r → Bool → Relocation → Bool
is_later fields file own lazy relocation = lazy && (relocation.slot && ((row_of (file_machine file) relocation.reference.kind).slot && not (is_bound_at_once fields file own relocation)))

-- the entry of the procedure linkage table for the slot of `width` bytes at an address, by that of the first slot, which is
-- after three words: entries have twice the size of slots on x86-64 (62), four times that on 386 (3); elsewhere glibc takes
-- the first entry for each slot (dl-machine.h, elf_machine_lazy_rel)
abbrev pub entry_of_slot : ℕ → ℕ → ℕ → ℕ → ℕ → ℕ
entry_of_slot machine width table first address = low width (first + (if machine == 62 then 2 else (if machine == 3 then 4 else 0)) * difference width address (low width (table + 3 * width)))

-- what such a slot is, less the base: the word in place, or, if the second word at DT_PLTGOT isn't 0, the entry by this word
abbrev pub slot_number : ElfFile → List (Dynamic ℕ) → ℕ → ℕ → Result ℕ LinkError
slot_number file entries width address = unwrap_or (option_map (λ table.
    and_then (word_in_memory file ((table + width) % 2 ^ 64)) (λ first. if first == 0 then word_in_memory file address
    else Ok (entry_of_slot (file_machine file) width table first address))) (number_with DT_PLTGOT entries)) (word_in_memory file address)

-- the word of a relocation of the object at index `of`, by the symbol that it gets
abbrev pub word_of : {E : Type 0} → {r : _} → (E → SymbolFields) → ElfFile → DynamicObject E r → ℕ → Bool → Relocation → Result (Option (Bound E)) LinkError → Result Word LoadError
word_of fields file own of later relocation bound = let row = row_of (file_machine file) relocation.reference.kind in
    if later then and_link (slot_number file (view_entries (object_view own)) row.width relocation.reference.offset) (λ number.
    Ok (record { address = relocation.reference.offset; width = row.width; value = Sum (Base of) (low row.width number) }))
    else formula_word fields file own of relocation.in_place relocation.reference bound row.formula

-- the symbol that a relocation gets, if its word depends on one
abbrev pub IsBoundIf : {E : Type 0} → {r : _} → Bool → (E → SymbolFields) → List (DynamicObject E r) → ℕ → Reference → Result (Option (Bound E)) LinkError → Type 0
IsBoundIf true fields objects of reference bound = IsReferenceBound fields objects of reference bound
IsBoundIf false fields objects of reference bound = bound ≡ Ok None

-- an item has the symbol that its relocation gets, and the word that it writes
abbrev pub HasWord : {E : Type 0} → {r : _} → (E → SymbolFields) → List (DynamicObject E r) → ElfFile → DynamicObject E r → ℕ → Bool → Relocated E → Type 0
HasWord fields objects file own of lazy item = let later = is_later fields file own lazy item.relocation in
    IsBoundIf (needs_symbol (file_machine file) later item.relocation) fields objects of item.relocation.reference item.bound
    × (item.word ≡ word_of fields file own of later item.relocation item.bound)
