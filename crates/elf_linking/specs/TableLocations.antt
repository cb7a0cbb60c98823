-- Where the tables of a file are by the entries of its dynamic segment (gABI, "Dynamic Section").
use Rattle.std.specs.Prelude.{ℕ, ◌==◌, List, None, Some, option_and_then, if◌then◌else◌}
use Rattle.elf_linking.specs.DynamicView.{number_with}
use Rattle.elf_linking.specs.declared.view.location.TableLocation.{TableLocation}
use Rattle.elf_records.specs.declared.dynamic.Dynamic.{Dynamic}

-- a table at the number of one entry, with as many bytes as the number of another
abbrev pub table_by : List (Dynamic ℕ) → ℕ → ℕ → TableLocation
table_by entries start size = record { start = number_with start entries; size = number_with size entries }

-- a table at the number of one entry, with as many bytes as the number of another; none at address 0 (DT_RELA and DT_REL, as
-- glibc 2.36 has them)
abbrev pub table_but_zero : List (Dynamic ℕ) → ℕ → ℕ → TableLocation
table_but_zero entries start size = record {
  start = option_and_then (λ address. if address == 0 then None else Some address) (number_with start entries);
  size = number_with size entries;
}
