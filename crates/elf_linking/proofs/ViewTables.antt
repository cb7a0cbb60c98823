-- The hash tables of a dynamic segment, and the calls that read them.
use Rattle.std.proofs.Common.{◌≡◌, ℕ, ◌+◌, ◌*◌, ◌%◌, ◌<◌, arith, nat_lt, not, Bool, true, false, Bor, List, [], ◌∷◌, length, Result, Ok, Err, IfOk, refl, sym, ap, ◌∙◌}
use Rattle.std.proofs.lemmas.Bool.{le-ltb}
use Rattle.std.proofs.lemmas.Nat.{mod-mul-add}
use Rattle.std.specs.Int.{is_power_of_two}
use Rattle.elf_base.specs.declared.bytes.Order.{Order}
use Rattle.elf_base.specs.declared.header.numbers.Class.{Class}
use Rattle.elf_base.specs.Number.{number}
use Rattle.elf_linking.specs.Layouts.{IsGnuTable, bloom_count_in, chains_in, gnu_table_of, is_known}
use Rattle.elf_linking.specs.Loaded.{IsAt}
use Rattle.elf_base.specs.FirstError.{and_then, unless}
use Rattle.elf_linking.specs.declared.error.LinkError.{LinkError}
use Rattle.elf_linking.specs.declared.error.LinkError.TheVariants.{BloomCount, ShortTable, UnknownClass}
use Rattle.xmas_elf.specs.declared.ElfFile.{ElfFile}

-- if no condition holds, there is no error
none_holds : (a b c d : Bool) (done : Unit {0}) → a ≡ true → b ≡ false → c ≡ true → d ≡ false → unless ((not a, UnknownClass) ∷ (b, ShortTable) ∷ (not c, BloomCount) ∷ (d, ShortTable) ∷ []) done ≡ Ok done
none_holds true false true false done e f g h = refl
none_holds true false true true done e f g h = absurd (cc)
none_holds true false false d done e f g h = absurd (cc)
none_holds true true c d done e f g h = absurd (cc)
none_holds false b c d done e f g h = absurd (cc)

-- GNU's hash table is accepted
pub gnu_accepted : (class : Class) (order : Order) (bytes : List ℕ) → IsGnuTable class order bytes → gnu_table_of class order bytes ≡ Ok tt
unfolding gnu_table_of
gnu_accepted class order bytes is =
    none_holds (is_known class) (nat_lt (length bytes) 16) (is_power_of_two (bloom_count_in order bytes)) (nat_lt (length bytes) (chains_in class order bytes)) tt
    is.known (le-ltb (length bytes) 16 is.long) is.bloom (le-ltb (length bytes) (chains_in class order bytes) is.whole)

-- the chain count of the table that was found
pub count_read : (found : Result (List ℕ) LinkError) (kept order : Order) (bytes : List ℕ) (n : ℕ) → found ≡ Ok bytes → kept ≡ order → n ≡ number kept 4 4 bytes → Ok n ≡ and_then found (λ own. Ok (number order 4 4 own))
count_read found kept order bytes n e same is = ap (λ m. Ok m) (is ∙ ap (λ w. number w 4 4 bytes) same) ∙ sym (ap (λ r. and_then r (λ own. Ok (number order 4 4 own))) e)

-- the bytes of a number of symbols are a whole number of symbols
pub whole_at : (file : ElfFile) (address count size : ℕ) → 0 < size → (found : Result (Bor (List ℕ)) LinkError) → IfOk found (λ part. IsAt file address (count * size) part.now) → IfOk found (λ part. length part.now % size ≡ 0)
whole_at file address count size above (Ok part) is =
    let bytes : ℕ = count * size in
    let none : bytes ≡ bytes + 0 = omega arith in
    ap (λ n. n % size) (is.count_is ∙ none) ∙ mod-mul-add count size 0 above
whole_at file address count size above (Err error) is = tt
