-- For callers: a clause of a call holds of only one result.
pub use Rattle.elf_linking.proofs.AnyTables.{looks_once_by}
pub use Rattle.elf_linking.proofs.Finds.{found_once}
pub use Rattle.elf_linking.proofs.GnuChecks.{check_once}
pub use Rattle.elf_linking.proofs.GnuCounts.{count_once}
pub use Rattle.elf_linking.proofs.Looks.{looks_once}
pub use Rattle.elf_linking.proofs.SymbolCounts.{symbol_count_once, symbols_once}
