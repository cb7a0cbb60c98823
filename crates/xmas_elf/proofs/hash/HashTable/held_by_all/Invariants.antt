use Rattle.std.proofs.Common.{◌≤◌, ◌*◌}
use Rattle.xmas_elf.specs.Counted.{IsCount}
use Rattle.xmas_elf.specs.HashTable.{EndsBelow, IsHeldBelow}
use Rattle.xmas_elf.specs.SymbolTable.{table_symbols}
use Rattle.xmas_elf.proofs.hash.HashTable.held_by_all.Given as goal

abbrev pub invariant-loop-bucket : goal.invariant-loop-bucket
invariant-loop-bucket g l =
    let all = table_symbols l.symbols in
    record {
      few : l.held ≤ l.bucket * 4294967296;
      short : l.steps ≤ l.bucket * 4294967296;
      ends : EndsBelow l.self all.items l.bucket;
      count : IsCount (IsHeldBelow l.self all l.bucket) l.held;
    }
