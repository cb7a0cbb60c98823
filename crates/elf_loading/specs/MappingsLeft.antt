-- An iterator over the mappings of a file.
use Rattle.std.specs.Prelude.{List}
use Rattle.elf_loading.specs.Loads.{loads_left}
use Rattle.elf_loading.specs.MappingParts.{parts_before}
use Rattle.elf_loading.specs.Mappings.{mappings_of}
use Rattle.elf_loading.specs.declared.mapping.Mapping.{Mapping}
use Rattle.elf_loading.specs.declared.mappings.Mappings.{Mappings}

-- the mappings that an iterator has not yet returned
unfoldable pub mappings_left : Mappings → List Mapping
mappings_left iter = parts_before iter.parts (mappings_of iter.page iter.by iter.before (loads_left iter.loads))
