-- The relocation types that a dynamic linker applies: the rows are constants of the code (the processor supplements of the
-- System V ABI, tables of relocation types; which of them take an addend, and which want a defined symbol, as glibc 2.36
-- has it).
use Rattle.std.specs.Prelude.{ℕ, ◌==◌, Bool, true, false, List, [], Option, None, Some, unwrap_or, if◌then◌else◌}
use Rattle.std.specs.List.{find}
use Rattle.elf_linking.specs.declared.find.Use.TheVariants.{Any}
use Rattle.elf_linking.specs.declared.references.types.Formula.{Formula}
use Rattle.elf_linking.specs.declared.references.types.Formula.TheVariants.{Base}
use Rattle.elf_linking.specs.declared.references.types.Row.{Row}
use Rattle.elf_linking.specs.declared.references.types.TheConstants.{AARCH64, I386, X86_64}

-- the types of a machine (e_machine): x86-64 (62), 386 (3) or AArch64 (183)
abbrev pub rows_of : ℕ → List Row
rows_of machine = if machine == 62 then X86_64 else (if machine == 3 then I386 else (if machine == 183 then AARCH64 else []))

-- the row of a type in a file for a machine; without one it has no formula, and may name any symbol
abbrev pub row_of : ℕ → ℕ → Row
row_of machine kind = unwrap_or (find (λ (row : Row). row.kind == kind) (rows_of machine)) (record {
  kind = kind;
  formula = None;
  width = if machine == 3 then 4 else 8;
  use_ = Any;
  names = true;
  slot = false;
})

-- the formula of a type is that of relative relocations, `B + A`
abbrev pub is_relative : Option Formula → Bool
is_relative (Some Base) = true
is_relative _ = false

-- the row of the relative relocations of a machine
abbrev pub relative_of : ℕ → Option Row
relative_of machine = find (λ (row : Row). is_relative row.formula) (rows_of machine)

-- the type of the relative relocations of a machine: R_AARCH64_RELATIVE is 1027; R_X86_64_RELATIVE and R_386_RELATIVE are
-- 8, which is also taken for machines whose types have no rows
abbrev pub relative_kind : ℕ → ℕ
relative_kind machine = if machine == 183 then 1027 else 8
