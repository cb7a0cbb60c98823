-- For callers of `Versions::check`: the version of each symbol can be read, and the name of what has it.
pub use Rattle.elf_linking.proofs.VersionsRead.{version_readable}
