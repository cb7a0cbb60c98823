-- Places in lines of stacks.
use Rattle.std.proofs.Common.{◌≡◌, ℕ, ◌+◌, ◌-◌, ◌≤◌, inr, List, [], ◌∷◌, ◌++◌, Option, Some, drop, length, take, ap, sym, subst, ◌∙◌, append_assoc}
use Rattle.std.specs.Borrow.{Bor}
use Rattle.std.specs.Io.KnownBytes.{Appends}
use Rattle.std.proofs.lemmas.List.{take_rest}
use Rattle.elfaddr.specs.Ends.{AreInputLines}
use Rattle.elfaddr.specs.Stack.{IsAddress, IsPlace, IsStackLine, kept, replaced}
use Rattle.memchr.specs.Find.{IsFirstByte, IsLastByte, is_byte}
use Rattle.std.specs.Prelude.{slice_range, unwrap_or}
use Rattle.elfaddr.specs.declared.Source.TheVariants.{Symtab}
use Rattle.elfaddr.specs.declared.stack.Place.{Place}
use Rattle.program_ends.specs.Appended.{AppendsSome}
use Rattle.program_ends.specs.declared.json.Form.TheVariants.{Text}

-- the bytes from an index on
pub rest_is : (bytes : List ℕ) (from : ℕ) → take (length bytes - from) (drop from bytes) ≡ drop from bytes
rest_is bytes from = take_rest bytes from

-- a line with a text in place of a word
pub replaced_is : (line text : List ℕ) (begin end : ℕ) → (take begin line ++ take (length text - 1) text) ++ take (length line - end) (drop end line) ≡ take begin line ++ (take (length text - 1) text ++ drop end line)
replaced_is line text begin end =
    append_assoc (take begin line) (take (length text - 1) text) (take (length line - end) (drop end line))
    ∙ ap (λ (rest : List ℕ). take begin line ++ (take (length text - 1) text ++ rest)) (take_rest line end)

-- the word after the last blank
pub blank_place : (line : List ℕ) (place : Place) (feed : Option ℕ) → IsLastByte (is_byte 32) line (Some place.path_end) → IsFirstByte (is_byte 10) (drop place.begin line) feed → place.begin ≡ place.path_end + 1
    → place.end ≡ place.begin + unwrap_or feed (length line - place.begin) → place.begin ≤ place.end → place.end ≤ length line → IsAddress (slice_range line place.begin place.end) place.address → IsPlace line place
blank_place line place feed last first begin end order within address = record {
  path = begin;
  order = order;
  within = within;
  word = inr (last, feed, first, end);
  address = address;
}

-- a line that stays as it is
pub line_kept : (input : Bor (List ℕ)) (line : List ℕ) (old new : Option (List ℕ)) → Appends old new line → AppendsSome (IsStackLine input line) old new
line_kept input line old new grown = (line, kept, grown)

-- a line with a name in place of an address
pub line_replaced : (input : Bor (List ℕ)) (line : List ℕ) (place : Place) (found : List ℕ) (old new : Option (List ℕ)) → IsPlace line place → AreInputLines Text Symtab (place.address ∷ []) input found
    → Appends old new (take place.begin line ++ (take (length found - 1) found ++ drop place.end line)) → AppendsSome (IsStackLine input line) old new
line_replaced input line place found old new is are grown =
    (take place.begin line ++ (take (length found - 1) found ++ drop place.end line), replaced place found is are, grown)

-- the line of an address in a list that was empty
pub only_line : (Is : List ℕ → Type 0) (old new : List ℕ) → old ≡ [] → AppendsSome Is (Some old) (Some new) → Is new
only_line Is old new empty (text, is, grown) = subst Is (sym (grown ∙ ap (λ (l : List ℕ). l ++ text) empty)) is
