-- Lines of stacks, as glibc's backtrace_symbols writes them (debug/backtracesyms.c in glibc 2.36): `PATH(+0xOFFSET) [0xADDRESS]`;
-- and lines `PATH 0xOFFSET` (this project's own).
use Rattle.std.specs.Prelude.{◌≡◌, ℕ, ◌+◌, ◌-◌, ◌≤◌, ◌++◌, ◌⊎◌, List, [], ◌∷◌, Option, None, Some, codes, drop, if◌then◌else◌, length, nat_eq, slice_range, take, unwrap_or}
use Rattle.memchr.specs.Find.{IsFirstByte, IsLastByte, is_byte}
use Rattle.std.specs.Borrow.{Bor}
use Rattle.std.specs.List.{starts_with}
use Rattle.std.specs.Str.Parse.{IsNumeral, digits_value, without_leading_plus}
use Rattle.elfaddr.specs.Ends.{AreInputLines}
use Rattle.elfaddr.specs.declared.Source.TheVariants.{Symtab}
use Rattle.elfaddr.specs.declared.stack.Place.{Place}
use Rattle.program_ends.specs.declared.json.Form.TheVariants.{Text}

-- the digits of a number in hexadecimal after `+0x`, `0x` or a plus sign
abbrev pub digits_of : List ℕ → Option (List ℕ)
digits_of word =
    if starts_with nat_eq word (codes "+0x") then Some (drop 3 word)
    else (if starts_with nat_eq word (codes "0x") then Some (drop 2 word)
    else (if starts_with nat_eq word (codes "+") then Some (drop 1 word) else None))

-- a word is an address
abbrev pub IsAddress : List ℕ → ℕ → Type 0
IsAddress word address = (digits : List ℕ) × (digits_of word ≡ Some digits)
    × IsNumeral 16 (without_leading_plus digits) × (digits_value 16 (without_leading_plus digits) ≡ address)

-- a word of a line is between the last opening parenthesis and the first closing one after it
abbrev pub InParentheses : List ℕ → Place → Type 0
InParentheses line place = IsLastByte (is_byte 40) line (Some place.path_end)
    × IsFirstByte (is_byte 41) (drop place.begin line) (Some (place.end - place.begin))

-- it is what comes after the last blank, up to the first line feed after it or the end
abbrev pub AfterBlank : List ℕ → Place → Type 0
AfterBlank line place = IsLastByte (is_byte 32) line (Some place.path_end)
    × (feed : Option ℕ) × IsFirstByte (is_byte 10) (drop place.begin line) feed
    × (place.end ≡ place.begin + unwrap_or feed (length line - place.begin))

-- a place in a line: a word that is an address, after a path and the opening parenthesis or the blank that ends it
pub record IsPlace (line : List ℕ) (place : Place) : Type 0 where
  pub path : place.begin ≡ place.path_end + 1
  pub order : place.begin ≤ place.end
  pub within : place.end ≤ length line
  pub word : InParentheses line place ⊎ AfterBlank line place
  pub address : IsAddress (slice_range line place.begin place.end) place.address

-- what is written of a line: it stays as it is, or the line of the address, without its end, is in place of the word
pub data IsStackLine (input : Bor (List ℕ)) (line : List ℕ) : List ℕ → Type 0 where
  kept : IsStackLine input line line
  replaced : (place : Place) (found : List ℕ) → IsPlace line place
      → AreInputLines Text Symtab (place.address ∷ []) input found
      → IsStackLine input line (take place.begin line ++ (take (length found - 1) found ++ drop place.end line))
