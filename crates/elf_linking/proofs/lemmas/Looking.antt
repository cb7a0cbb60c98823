-- A look-up for one property is a look-up for any equivalent one.
use Rattle.std.proofs.Common.{◌≡◌, ℕ, List, Option, None, Some, Result, Ok, Err, Bool, true, refl, subst}
use Rattle.std.specs.Borrow.{Bor}
use Rattle.std.specs.Fn.{Shared}
use Rattle.elf_linking.specs.AnyTable.{FindsAllBy, LooksBy, LooksWhereBy}
use Rattle.elf_linking.proofs.lemmas.GnuTables as gnu
use Rattle.elf_linking.specs.declared.any_table.AnyTable.{AnyTable}
use Rattle.elf_linking.specs.declared.any_table.AnyTable.TheVariants.{Gnu, Sysv}
use Rattle.elf_linking.specs.declared.error.LinkError.{LinkError}
use Rattle.xmas_elf.specs.HashTable.{chains_of, start_of}
use Rattle.xmas_elf.proofs.lemmas.Traversals as gabi
use Rattle.xmas_elf.specs.Symbol.{Symbols}
use Rattle.xmas_elf.specs.Symbols.{IsMatch}

pub looks_where_so : {E : Type 0} (P Q : ℕ × E → Type 0) → ((at : ℕ × E) → P at → Q at) → ((at : ℕ × E) → Q at → P at) → (table : AnyTable) (symbols : List E) (name : List ℕ) (answer : Result (Option (ℕ × E)) LinkError) (n : ℕ) → LooksWhereBy P table symbols name answer n → LooksWhereBy Q table symbols name answer n
looks_where_so P Q to back (Sysv table) symbols name answer n looks =
    (looks.0, gabi.looks_alike P Q (chains_of table symbols) to back (start_of table name) looks.0 n looks.1, looks.2)
looks_where_so P Q to back (Gnu table) symbols name answer n looks = gnu.looks_alike P Q to back table symbols name answer n looks

pub looks_so : {E : Type 0} (P Q : E → Type 0) → ((e : E) → P e → Q e) → ((e : E) → Q e → P e) → (table : AnyTable) (symbols : List E) (name : List ℕ) (answer : Result (Option (ℕ × E)) LinkError) (n : ℕ) → LooksBy P table symbols name answer n → LooksBy Q table symbols name answer n
looks_so P Q to back = looks_where_so (λ at. P at.1) (λ at. Q at.1) (λ at. to at.1) (λ at. back at.1)

pub finds_so : {E : Type 0} (P Q : E → Type 0) → ((e : E) → P e → Q e) → ((e : E) → Q e → P e) → (table : AnyTable) (symbols : Symbols E) (name : List ℕ) (answer : Result (Option (ℕ × E)) LinkError) → FindsAllBy table symbols name P answer → FindsAllBy table symbols name Q answer
finds_so P Q to back table symbols name (Ok None) none = λ i e must has. none i e must (back e has)
finds_so P Q to back table symbols name (Ok (Some p)) some = (some.0, some.1, to p.1 some.2)
finds_so P Q to back table symbols name (Err error) never = never

-- with a test that passes exactly the symbols with P: a look-up by the test is one for the name and P
module _ {F E : Type 0} (test : Shared F (Bor E × Unit {0}) Bool) (f : F) (P : E → Type 0) (passes : (e : Bor E) → P e.now → test.post f (e, tt) true) (passed : (e : Bor E) → test.post f (e, tt) true → P e.now) where
  with_match : (symbols : Symbols E) (name : List ℕ) (e : E) → (symbols.text e ≡ Some name) × P e → IsMatch symbols test f name e
  with_match symbols name e is = (is.0, record { shown = record { ref_ptr = (0, 0); now = e }; shows = refl; says = record { met = passes (record { ref_ptr = (0, 0); now = e }) is.1 } })

  match_with : (symbols : Symbols E) (name : List ℕ) (e : E) → IsMatch symbols test f name e → (symbols.text e ≡ Some name) × P e
  match_with symbols name e is = (is.0, subst P is.1.shows (passed is.1.shown is.1.says.met))

  pub looks_with : (table : AnyTable) (symbols : Symbols E) (name : List ℕ) (answer : Result (Option (ℕ × E)) LinkError) (n : ℕ) → LooksBy (IsMatch symbols test f name) table symbols.items name answer n → LooksBy (λ e. (symbols.text e ≡ Some name) × P e) table symbols.items name answer n
  looks_with table symbols name answer n =
      looks_so (IsMatch symbols test f name) (λ e. (symbols.text e ≡ Some name) × P e) (match_with symbols name) (with_match symbols name) table symbols.items name answer n
