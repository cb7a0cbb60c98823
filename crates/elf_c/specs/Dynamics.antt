-- The dynamic entries of a section and of the dynamic segment, as numbers (gABI, "Dynamic Section").
use Rattle.std.specs.Prelude.{ℕ, ◌==◌, List, Result, Ok, Err, if◌then◌else◌}
use Rattle.elf_base.specs.FileHeader.{file_class, file_order}
use Rattle.elf_base.specs.Table.{records}
use Rattle.elf_base.specs.declared.bytes.Order.{Order}
use Rattle.elf_base.specs.declared.error.ElfError.TheVariants.{UnknownClass}
use Rattle.elf_linking.specs.DynamicView.{dynamic_bytes_of}
use Rattle.elf_linking.specs.declared.error.LinkError.{LinkError}
use Rattle.elf_records.specs.Dynamic as entry
use Rattle.elf_records.specs.declared.dynamic.Dynamic.{Dynamic}
use Rattle.xmas_elf.specs.Content.{Content, dynamic_32, dynamic_64, table_of}
use Rattle.xmas_elf.specs.declared.ElfFile.{ElfFile}
use Rattle.elf_c.specs.Records.{record_in, record_among}
use Rattle.elf_c.specs.declared.dynamic.DynamicEntry.{DynamicEntry}
use Rattle.elf_c.specs.declared.status.AnyError.{AnyError}
use Rattle.elf_c.specs.declared.status.AnyError.TheVariants.{Elf, Link, OtherData}

-- the numbers of a dynamic entry
abbrev pub dynamic_record : Dynamic ℕ → DynamicEntry
dynamic_record item = record { tag = entry.dynamic_tag item; value = entry.dynamic_value item }

-- the dynamic entry at an index of the contents of a section, or why there is none
abbrev pub dynamic_entry_in : ℕ → Content → Result DynamicEntry AnyError
dynamic_entry_in index (table_of dynamic_32 order bytes) =
    record_in dynamic_record (records 8 (entry.dynamic_32 order) bytes) index
dynamic_entry_in index (table_of dynamic_64 order bytes) =
    record_in dynamic_record (records 16 (entry.dynamic_64 order) bytes) index
dynamic_entry_in index _ = Err OtherData

-- the dynamic entry at an index of bytes in the layout of a class
abbrev pub entry_among : ℕ → Order → List ℕ → ℕ → Result DynamicEntry AnyError
entry_among class order bytes index =
    if class == 1 then record_among dynamic_record 8 (entry.dynamic_32 order) bytes index
    else (if class == 2 then record_among dynamic_record 16 (entry.dynamic_64 order) bytes index
    else Err (Elf UnknownClass))

-- the dynamic entry at an index of the bytes of the dynamic segment, if there are any
abbrev pub segment_entry : ElfFile → ℕ → Result (List ℕ) LinkError → Result DynamicEntry AnyError
segment_entry file index (Err error) = Err (Link error)
segment_entry file index (Ok bytes) = entry_among (file_class file.header) (file_order file.header) bytes index

-- the dynamic entry at an index of the dynamic segment, or why there is none
abbrev pub dynamic_entry_at : ElfFile → ℕ → Result DynamicEntry AnyError
dynamic_entry_at file index = segment_entry file index (dynamic_bytes_of file)
