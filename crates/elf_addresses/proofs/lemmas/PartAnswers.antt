-- The bytes of a result that is returned.
use Rattle.std.proofs.Common.{◌≡◌, ℕ, List, Result, Ok, Err, sym}
use Rattle.std.specs.Borrow.{Bor}
use Rattle.elf_base.specs.Lent.{Answers}
use Rattle.elf_addresses.specs.Symtab.{lent_bytes}
use Rattle.xmas_elf.specs.Types.{ElfError}

-- bytes that are returned are those of the definition
pub lent_answer : (answer : Result (List ℕ) ElfError) (result : Result (Bor (List ℕ)) ElfError) → Answers answer result → lent_bytes result ≡ answer
lent_answer answer (Ok part) is = sym is
lent_answer answer (Err error) is = sym is
