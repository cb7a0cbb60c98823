-- Printed forms shared by several items (this project's own).
use Rattle.std.specs.Prelude.{ℕ, true, false, List, [], ◌∷◌, ◌++◌, ◌-◌, Option, Some, Result, Ok, Err, codes, decimal, length, replicate}
use Rattle.std.specs.Fmt.{◌++?◌, digits}
use Rattle.elf_base.specs.Message.{message_of}
use Rattle.elf_base.specs.declared.error.ElfError.{ElfError}

-- a name with a number in parentheses, as `Other(7)`
abbrev pub numbered : List ℕ → ℕ → List ℕ
numbered name n = name ++ (codes "(" ++ (decimal n ++ codes ")"))

-- a number in hexadecimal, as `0x7f`
abbrev pub hex_text : ℕ → List ℕ
hex_text n = codes "0x" ++ digits 16 false n

-- a number in hexadecimal with capital letters, as `0x7F`
abbrev pub upper_hex_text : ℕ → List ℕ
upper_hex_text n = codes "0x" ++ digits 16 true n

-- the bytes after the first one, each after a comma and a space
abbrev pub more_bytes : List ℕ → List ℕ
more_bytes [] = codes "]"
more_bytes (b ∷ bs) = codes ", " ++ (decimal b ++ more_bytes bs)

-- bytes in decimal, as `[127, 69]`
abbrev pub bytes_text : List ℕ → List ℕ
bytes_text [] = codes "[]"
bytes_text (b ∷ bs) = codes "[" ++ (decimal b ++ more_bytes bs)

-- a result, as `Ok(StrTab)` or `Err("Invalid sh type")`, by the text of its value
abbrev pub result_text : {T : Type 0} → (T → List ℕ) → Result T ElfError → List ℕ
result_text text (Ok value) = codes "Ok(" ++ (text value ++ codes ")")
result_text text (Err error) = codes "Err(\"" ++ (message_of error ++ codes "\")")

-- a result, where the text of its value may be unknown
abbrev pub printed_result : {T : Type 0} → (T → Option (List ℕ)) → Result T ElfError → Option (List ℕ)
printed_result text (Ok value) = Some (codes "Ok(") ++? text value ++? Some (codes ")")
printed_result text (Err error) = Some (codes "Err(\"" ++ (message_of error ++ codes "\")"))

-- a field's line: four spaces, the label with a colon, filled with spaces up to 18 columns, the value
unfoldable pub field_line : List ℕ → List ℕ → List ℕ
field_line label value = codes "    " ++ (label ++ (codes ":"
    ++ (replicate (17 - length label) 32 ++ (value ++ codes "\n"))))

-- the lines, concatenated
abbrev pub joined : List (List ℕ) → List ℕ
joined [] = []
joined (line ∷ []) = line
joined (line ∷ next ∷ others) = line ++ joined (next ∷ others)
