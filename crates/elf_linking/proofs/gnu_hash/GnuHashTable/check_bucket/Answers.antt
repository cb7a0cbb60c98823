use Rattle.std.proofs.Common.{◌≡◌, subst, arith}
use Rattle.elf_linking.specs.GnuHash.{IsCut, before_first, bucket_word, cut}
use Rattle.xmas_elf.specs.SymbolTable.{table_symbols}
use Rattle.elf_linking.proofs.gnu_hash.GnuHashTable.check_bucket.Goals as goal

pub returns-then-from-first_symbol : goal.returns-then-from-first_symbol
returns-then-from-first_symbol g c =
    let same : c.bucket-from.result ≡ bucket_word c.args.self.now c.args.bucket = c.bucket-from.ensures in
    before_first (omega arith) (omega arith)

pub returns : goal.returns
returns g c =
    let same : c.bucket-from.result ≡ bucket_word c.args.self.now c.args.bucket = c.bucket-from.ensures in
    cut c.reason.result (omega arith) (omega arith) (subst (λ from. IsCut c.args.self.now (table_symbols c.args.symbols.now).items from c.reason.result) same c.reason.ensures)
