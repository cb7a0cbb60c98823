-- The data of a section of type Hash is a hash table.
use Rattle.std.proofs.Common.{◌≡◌, ℕ, List, Result, Ok, Err, refl, arith}
use Rattle.elf_base.specs.FileHeader.{file_class, file_order}
use Rattle.elf_base.specs.FirstError.{and_then}
use Rattle.elf_records.specs.declared.sections.ShType.TheVariants.{Hash}
use Rattle.xmas_elf.specs.Prelude.{ElfError, ElfFile, HashTable, Order, SectionData, SectionHeader}
use Rattle.xmas_elf.specs.Content.{Content, hash_table}
use Rattle.xmas_elf.specs.Ranges.{range_of}
use Rattle.xmas_elf.specs.SectionContent.{content_in, content_of_section, section_content, section_content_of}
use Rattle.xmas_elf.specs.SectionHeader.{section_fields, section_type}
use Rattle.xmas_elf.specs.declared.sections.content.SectionData.TheVariants as section_data

read_table : (class : ℕ) (order : Order) (r : Result (List ℕ) ElfError) (c : Content) → and_then r (content_of_section Hash class order) ≡ Ok c → (bytes : List ℕ) × (c ≡ hash_table order bytes)
read_table class order (Ok bytes) c e = (bytes, grind (arith, e))
read_table class order (Err error) c e = cc

only_table : (d : SectionData) (order : Order) (bytes : List ℕ) → section_content d ≡ hash_table order bytes → ((table : HashTable) → d ≡ section_data.HashTable table → ⊥) → ⊥
only_table (section_data.HashTable table) order b e other = other table refl
only_table _ order b e other = cc

pub hash_data_is_table : (file : ElfFile) (section : SectionHeader) (d : SectionData) → section_type section ≡ Ok Hash → section_content_of file section ≡ Ok (section_content d) → ((table : HashTable) → d ≡ section_data.HashTable table → ⊥) → ⊥
unfolding section_content_of
hash_data_is_table file section d typed e other =
    let whole : content_in file section Hash ≡ Ok (section_content d) = rw typed at e in
    let (bytes, same) = read_table (file_class file.header) (file_order file.header) (range_of file.input.now (section_fields section).offset (section_fields section).size) (section_content d) whole in
    only_table d (file_order file.header) bytes same other
