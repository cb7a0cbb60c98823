-- `==` of errors is equality, which `search` doesn't find for an enum of that many variants.
use denote.Enum.Bare.{sameb, same_true, true_same}
use Rattle.std.proofs.Common.{◌≡◌, true}
use Rattle.elf_base.specs.contracts.error.ElfError.{the_type}
use Rattle.xmas_elf.specs.Prelude.{ElfError}

-- `sameb the_type` is the test that `==` of two errors computes
pub same_error : (one other : ElfError) → sameb the_type one other ≡ true → one ≡ other
same_error one other test = same_true the_type tt one other test

pub error_same : (one other : ElfError) → one ≡ other → sameb the_type one other ≡ true
error_same one other same = true_same the_type one other same
