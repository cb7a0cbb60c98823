-- What a look-up by a record finds is one of the symbols of the record.
use Rattle.std.proofs.Common.{◌≡◌, ◌<◌, ℕ, List, length, slice_get, Option, None, Some, Result, Ok, Err, IsOk, MatchResult, refl, sym, ap, subst, ◌∙◌, arith}
use Rattle.std.proofs.lemmas.Option.{slice_get-get_or, slice_get_within}
use Rattle.elf_base.specs.declared.error.ElfError.{ElfError}
use Rattle.elf_linking.specs.AnyTable.{LooksBy as LooksAmong}
use Rattle.elf_linking.specs.declared.any_table.AnyTable.{AnyTable}
use Rattle.elf_linking.specs.declared.error.LinkError.{LinkError}
use Rattle.xmas_elf.specs.Ranges.{range_of}
use Rattle.xmas_elf.specs.Symbol.{Symbols, dyn_entry_32_fields, dyn_entry_64_fields}
use Rattle.xmas_elf.specs.Symbols.{named_symbols}
use Rattle.elf_c.specs.HashTables.{ArePartsBy, AreTogether}
use Rattle.elf_c.specs.LookUps.{AreAnswered, IfUtf8, IsForRange, IsLookUp, LooksByRecord, LooksIfRead, OfSymbols, answered, look_up_answer, look_up_record}
use Rattle.elf_c.specs.Records.{range_at, record_or_none}
use Rattle.elf_c.specs.SymbolTables.{symbol_by}
use Rattle.elf_c.specs.Symbols.{symbol_record}
use Rattle.elf_c.specs.declared.hash_tables.HashParts.{HashParts}
use Rattle.elf_c.specs.declared.hash_tables.OpenedTable.{OpenedTable}
use Rattle.elf_c.specs.declared.look_ups.Answer.{Answer}
use Rattle.elf_c.specs.declared.look_ups.LookUp.{LookUp}
use Rattle.elf_c.specs.declared.names.Range.{Range}
use Rattle.elf_c.specs.declared.status.AnyError.{AnyError}
use Rattle.elf_c.specs.declared.status.AnyError.TheVariants.{Elf}
use Rattle.elf_c.specs.declared.symbol_tables.AnySymbols.{AnySymbols}
use Rattle.elf_c.specs.declared.symbol_tables.AnySymbols.TheVariants.{Narrow, Wide}
use Rattle.elf_c.proofs.OpenedFound.{by_table, if_text}
use Rattle.elf_c.proofs.OpenedSymbols.{symbols_value, value_at}

-- a symbol that a look-up finds is one of the symbols
in_items : {E : Type 0} (table : AnyTable) (name : List ℕ) (symbols : Symbols E) (said : LookUp) → IsLookUp table name symbols (Ok said) → said.found ≡ 1 → (e : E) × (slice_get symbols.items said.index ≡ Some e)
in_items {E} table name symbols said (found, count, looks, bounded, few, right, numbers) one = by_found found looks numbers
  where
    by_found : (found : Result (Option (ℕ × E)) LinkError) → LooksAmong (λ e. symbols.text e ≡ Some name) table symbols.items name found count → Ok said ≡ look_up_answer found count → (e : E) × (slice_get symbols.items said.index ≡ Some e)
    by_found (Err error) looks numbers = absurd (cc)
    by_found (Ok None) looks numbers = absurd (let same : said ≡ look_up_record {E = E} None count = cc in let none : said.found ≡ 0 = ap (λ s. s.found) same in cc)
    by_found (Ok (Some at)) looks numbers =
        let same : said ≡ look_up_record (Some at) count = cc in
        (at.1, subst (λ i. slice_get symbols.items i ≡ Some at.1) (sym (ap (λ s. s.index) same)) (by_table (λ p. symbols.text p.1 ≡ Some name) at table symbols.items name count looks))

module _ (input : List ℕ) (opened : OpenedTable) where
  -- what was found can be read by the record
  found_by : (name : List ℕ) (said : LookUp) → LooksByRecord input opened name (Ok said) → said.found ≡ 1 → IsOk (symbol_by symbol_record input opened.symbols said.index)
  found_by name said (found, parts, looks) one = by_found found parts looks
    where
      by_symbols : (table : AnyTable) (strings : List ℕ) (symbols : AnySymbols) → OfSymbols (λ E all. IsLookUp table name all) strings symbols (Ok said) → IsOk (value_at symbol_record (Ok symbols) said.index)
      by_symbols table strings (Narrow all) here =
          let there = in_items table name (named_symbols dyn_entry_32_fields strings all) said here one in
          subst (λ o. IsOk (record_or_none (λ e. symbol_record (dyn_entry_32_fields e)) o)) (sym there.1) refl
      by_symbols table strings (Wide all) here =
          let there = in_items table name (named_symbols dyn_entry_64_fields strings all) said here one in
          subst (λ o. IsOk (record_or_none (λ e. symbol_record (dyn_entry_64_fields e)) o)) (sym there.1) refl

      by_parts : (all : HashParts) (table : Result AnyTable AnyError) (symbols : Result AnySymbols AnyError) (strings : Result (List ℕ) ElfError) → AreTogether table symbols strings (Ok all) → LooksIfRead (Ok all) name (Ok said) → IsOk (value_at symbol_record symbols said.index)
      by_parts all (Ok table) (Ok symbols) (Ok strings) together here =
          by_symbols all.table all.strings.now symbols (subst (λ s. OfSymbols (λ E items. IsLookUp all.table name items) all.strings.now s (Ok said)) together.1 here)
      by_parts all (Err why) symbols strings together here = absurd (cc)
      by_parts all (Ok table) (Err why) strings together here = absurd (cc)
      by_parts all (Ok table) (Ok symbols) (Err error) together here = absurd (cc)

      by_found : (r : Result HashParts AnyError) → ArePartsBy input opened r → LooksIfRead r name (Ok said) → IsOk (symbol_by symbol_record input opened.symbols said.index)
      by_found (Err why) are here = absurd (cc)
      by_found (Ok all) are here = subst IsOk (sym (symbols_value symbol_record input opened.symbols are.symbols are.are_symbols said.index))
          (by_parts all are.table are.symbols (range_of input opened.symbols.strings.offset opened.symbols.strings.size) are.together here)

  pub answers_found : (names : List ℕ) (ranges : List Range) (old new : List Answer) → AreAnswered (IfUtf8 (LooksByRecord input opened)) names ranges old new → (k : ℕ) (one : Answer) → k < length ranges → slice_get new k ≡ Some one → one.found ≡ 1 → IsOk (symbol_by symbol_record input opened.symbols one.index)
  answers_found names ranges old new are k one below here found =
      let inside = slice_get_within new k one here in
      let long = are.long in
      let range = slice_get-get_or ranges k (range_at 0 0) below in
      let (answer, is, stored) = are.each k _ range (omega (arith, inside, long)) in
      let same : answered answer ≡ one = same_one (answered answer) one (sym stored ∙ here) in
      subst (λ (a : Answer). IsOk (symbol_by symbol_record input opened.symbols a.index)) same (by_answer answer _ is (ap (λ a. a.found) same ∙ found))
    where
      by_name : (name : List ℕ) (said : LookUp) → IfUtf8 (LooksByRecord input opened) name (Ok said) → said.found ≡ 1 → IsOk (symbol_by symbol_record input opened.symbols said.index)
      by_name name said is some = found_by name said (if_text (LooksByRecord input opened) name said is) some

      by_range : (bytes : Result (List ℕ) ElfError) (said : LookUp) → MatchResult bytes (λ name. IfUtf8 (LooksByRecord input opened) name (Ok said)) (λ error. Ok said ≡ Err (Elf error)) → said.found ≡ 1 → IsOk (symbol_by symbol_record input opened.symbols said.index)
      by_range (Ok name) said is some = by_name name said is some
      by_range (Err error) said is some = absurd (cc)

      by_answer : (answer : Result LookUp AnyError) (range : Range) → IsForRange (IfUtf8 (LooksByRecord input opened)) names range answer → (answered answer).found ≡ 1 → IsOk (symbol_by symbol_record input opened.symbols (answered answer).index)
      by_answer (Ok said) range is some = by_range (range_of names range.offset range.size) said is some
      by_answer (Err why) range is some = absurd (omega (arith, some))

      same_one : (a b : Answer) → Some a ≡ Some b → a ≡ b
      same_one a b is = cc
