-- The symbols that name addresses by their parts.
use Rattle.std.proofs.Common.{◌≡◌, ℕ, None, Some, ap, length, refl}
use Rattle.elf_addresses.specs.SymbolClaims.{claim_of_symbols, has_claim}
use Rattle.elf_addresses.specs.declared.symbols.AddressSymbols.{AddressSymbols}
use Rattle.elf_base.proofs.lemmas.RecordLemmas.{records-none}
use Rattle.elf_base.specs.FileHeader.{file_order}
use Rattle.elf_base.specs.Number.{number}
use Rattle.elf_base.specs.Table.{records, table_data, table_items, table_order}
use Rattle.elf_linking.proofs.lemmas.Objects.{symbols_of_object}
use Rattle.elf_linking.specs.DynamicObject.{IsObjectFor, object_dynamic_symbols, object_records}
use Rattle.elf_linking.specs.declared.object.DynamicObject.{DynamicObject}
use Rattle.elfaddr.specs.Asked.{AreDynamicParts, ArePartsAt, FromFile, claims_of, from_dynamic, from_symtab, in_no_symtab, in_symtab, kind, parts_in}
use Rattle.elfaddr.specs.Lines.{name_in}
use Rattle.elf_addresses.specs.OfFile as files
use Rattle.elf_addresses.specs.OfFile.{AreDynamic, AreAddressSymbols}
use Rattle.elf_addresses.specs.Symtab.{IsSymtab}
use Rattle.xmas_elf.specs.Symbol.{SymbolFields}
use Rattle.xmas_elf.specs.Types.{ElfFile}

pub same_claims : {E : Type 0} {r : _} (fields : E → SymbolFields) (symbols : AddressSymbols E r) → claim_of_symbols fields symbols None ≡ claims_of fields (parts_in symbols)
unfolding has_claim
same_claims fields symbols = refl

pub parts_at : {E : Type 0} {r : _} (fields : E → SymbolFields) (file : ElfFile) (index : ℕ) (symbols : AddressSymbols E r) → IsSymtab file index symbols → ArePartsAt (kind r.SIZE r.value fields) file index (parts_in symbols)
parts_at {E} {r} fields file index symbols is = record {
  bytes = table_data symbols.table;
  bytes_are = is.parts;
  items_are = ap (λ order. records r.SIZE (r.value order) (table_data symbols.table)) is.order;
  index_bytes = table_data symbols.indices;
  index_bytes_are = is.indices;
  words_are = ap (λ order. records 4 (number order 4 0) (table_data symbols.indices)) is.index_order;
  machine_is = is.machine;
}

pub object_items : {E : Type 0} {r : _} (object : DynamicObject E r) (count class : ℕ) (file : ElfFile) → IsObjectFor (Some count) class r.SIZE file object → table_items (object_records object) ≡ records r.SIZE (r.value (file_order file.header)) (table_data (object_records object))
object_items {E} {r} object count class file is = ap (λ order. records r.SIZE (r.value order) (table_data (object_records object))) is.order_is

pub dynamic_parts : {E : Type 0} {r : _} (class : ℕ) (fields : E → SymbolFields) (file : ElfFile) (symbols : AddressSymbols E r) → AreDynamic class r.SIZE file symbols → AreDynamicParts class (kind r.SIZE r.value fields) file (parts_in symbols)
dynamic_parts {E} {r} class fields file symbols are = record {
  all = object_dynamic_symbols fields are.object;
  all_are = symbols_of_object are.object class fields file are.is_object;
  items_are = ap (λ table. table_items table) are.table;
  strings_are = are.strings;
  words_are = records-none 4 (number (table_order symbols.indices) 4 0) (table_data symbols.indices) (ap length are.indices);
  machine_is = are.machine;
}

pub from_file : {E : Type 0} {r : _} (class : ℕ) (fields : E → SymbolFields) (file : ElfFile) (symbols : AddressSymbols E r) → AreAddressSymbols class r.SIZE file symbols
    → FromFile class (kind r.SIZE r.value fields) file (claims_of fields (parts_in symbols)) (name_in fields (parts_in symbols).items (parts_in symbols).strings)
from_file class fields file symbols (files.in_symtab index same first is lie) = in_symtab index first (from_symtab (parts_in symbols) (parts_at fields file index symbols is))
from_file class fields file symbols (files.in_dynamic same none are) = in_no_symtab none (from_dynamic (parts_in symbols) (dynamic_parts class fields file symbols are))
