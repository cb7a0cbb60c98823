-- A look-up for a name, by a test that passes every symbol.
use Rattle.std.proofs.Common.{◌≡◌, ℕ, List, Option, Some, Result, Bool, true, refl}
use Rattle.std.specs.Borrow.{Bor}
use Rattle.std.specs.Fn.{Shared}
use Rattle.elf_linking.proofs.lemmas.Looking.{finds_so, looks_so}
use Rattle.elf_linking.specs.AnyTable.{FindsAllBy, LooksBy}
use Rattle.elf_linking.specs.declared.any_table.AnyTable.{AnyTable}
use Rattle.elf_linking.specs.declared.error.LinkError.{LinkError}
use Rattle.xmas_elf.specs.Symbol.{Symbols}
use Rattle.xmas_elf.specs.Symbols.{IsMatch}

-- a symbol has a name exactly if it matches by a test that passes every symbol
module _ {F E : Type 0} (test : Shared F (Bor E × Unit {0}) Bool) (f : F) (passes : (e : Bor E) → test.post f (e, tt) true) where
  matches : (symbols : Symbols E) (name : List ℕ) (e : E) → symbols.text e ≡ Some name → IsMatch symbols test f name e
  matches symbols name e has_version = (has_version, record { shown = record { ref_ptr = (0, 0); now = e }; shows = refl; says = record { met = passes (record { ref_ptr = (0, 0); now = e }) } })

  pub looks_for_name : (table : AnyTable) (symbols : Symbols E) (name : List ℕ) (answer : Result (Option (ℕ × E)) LinkError) (n : ℕ) → LooksBy (IsMatch symbols test f name) table symbols.items name answer n → LooksBy (λ e. symbols.text e ≡ Some name) table symbols.items name answer n
  looks_for_name table symbols name answer n =
      looks_so (IsMatch symbols test f name) (λ e. symbols.text e ≡ Some name) (λ e is. is.0) (matches symbols name) table symbols.items name answer n

  pub finds_name : (table : AnyTable) (symbols : Symbols E) (name : List ℕ) (answer : Result (Option (ℕ × E)) LinkError) → FindsAllBy table symbols name (IsMatch symbols test f name) answer → FindsAllBy table symbols name (λ e. symbols.text e ≡ Some name) answer
  finds_name table symbols name answer = finds_so (IsMatch symbols test f name) (λ e. symbols.text e ≡ Some name) (λ e is. is.0) (matches symbols name) table symbols name answer
