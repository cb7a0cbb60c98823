use Rattle.std.proofs.Common.{◌≡◌, true, false, rules}
use Rattle.xmas_elf.specs.SymbolName.{IsSymbolString}
use Rattle.xmas_elf.proofs.symbol_table.entries.AnyEntry.get_name.Goals as goal

pub returns-then-DYNAMIC : goal.returns-then-DYNAMIC
returns-then-DYNAMIC g c = let is : g.K.Kept.DYNAMIC ≡ true = cc in rw (is, IsSymbolString) (search rules)

pub returns-else-DYNAMIC : goal.returns-else-DYNAMIC
returns-else-DYNAMIC g c = let is : g.K.Kept.DYNAMIC ≡ false = cc in rw (is, IsSymbolString) (search rules)
