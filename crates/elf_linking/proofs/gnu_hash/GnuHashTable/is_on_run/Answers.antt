use Rattle.std.proofs.Common.{◌≡◌, ◌≤◌, ◌<◌, ◌/◌, Some, refl, sym, subst, arith}
use Rattle.std.proofs.lemmas.Bool.{eq-eqb, eqb-true}
use Rattle.elf_linking.specs.GnuHash.{HasChain, chain_word, gnu_start_of, symbol_end}
use Rattle.elf_linking.specs.Layouts.{gnu_hash_number}
use Rattle.xmas_elf.specs.SymbolTable.{table_symbols}
use Rattle.elf_linking.proofs.Looks.{start_bucket}
use Rattle.elf_linking.proofs.gnu_hash.GnuHashTable.is_on_run.Goals as goal
use Rattle.elf_linking.proofs.gnu_hash.GnuHashTable.is_on_run.Goals.{then-start-from-via-then-start-from, then-start-from-via-else-start-from+then-start-index, then-start-from-via-else-start-from+else-start-index+then-index}

pub returns-then-start-from : goal.returns-then-start-from
returns-then-start-from g c = (
  λ no. absurd (cc),
  λ held.
      let items = (table_symbols c.args.symbols.now).items in
      let starts : gnu_start_of c.args.self.now c.args.name.now ≡ Some c.in-Some.start = cc in
      let starts' : gnu_start_of c.args.self.now c.args.name.now ≡ Some held.from = held.starts in
      let same : held.from ≡ c.in-Some.start = cc in
      let positive : 0 < held.from = (start_bucket _ _ _ starts').2 in
      let above : c.args.from ≤ held.from = c.requires.runs.only held.from positive held.run in
      let ordered : held.from ≤ c.args.index = held.run.ordered in
      let below : c.args.index < symbol_end items = held.there.symbol in
      elim c.then-start-from.branch [
        | then-start-from-via-then-start-from w ↦ absurd (omega arith)
        | then-start-from-via-else-start-from+then-start-index w ↦ absurd (omega arith)
        | then-start-from-via-else-start-from+else-start-index+then-index w ↦ absurd (omega arith)
      ],
)

pub returns-in-Ok : goal.returns-in-Ok
returns-in-Ok g c =
    let items = (table_symbols c.args.symbols.now).items in
    let starts : gnu_start_of c.args.self.now c.args.name.now ≡ Some c.in-Some.start = cc in
    let word : HasChain c.args.self.now c.args.index = c.in-Ok.ensures.readable.0 refl in
    let same : c.in-Ok.word ≡ chain_word c.args.self.now c.args.index = c.in-Ok.ensures.value in
    let number : c.gnu_hash_of_bytes-hash.result ≡ gnu_hash_number c.args.name.now = c.gnu_hash_of_bytes-hash.ensures in
    let below : c.args.index < symbol_end items = omega arith in (
      λ yes.
          let equal : c.in-Ok.word / 2 ≡ c.gnu_hash_of_bytes-hash.result / 2 = eqb-true _ _ yes in
          record {
            from = c.in-Some.start;
            starts = starts;
            run = c.requires.runs.come c.in-Some.start (omega arith) (omega arith);
            there = record { symbol = below; word = word };
            agrees = subst (λ w. w / 2 ≡ gnu_hash_number c.args.name.now / 2) same (subst (λ h. c.in-Ok.word / 2 ≡ h / 2) number equal);
          },
      λ held.
          let agrees : chain_word c.args.self.now c.args.index / 2 ≡ gnu_hash_number c.args.name.now / 2 = held.agrees in
          let one : c.in-Ok.word / 2 ≡ gnu_hash_number c.args.name.now / 2 = subst (λ w. w / 2 ≡ gnu_hash_number c.args.name.now / 2) (sym same) agrees in
          eq-eqb _ _ (subst (λ h. c.in-Ok.word / 2 ≡ h / 2) (sym number) one),
    )
