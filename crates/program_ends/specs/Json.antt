-- The JSON text (RFC 8259) of a record: an object on a line, with no space between its tokens.
use Rattle.std.specs.Prelude.{ℕ, ◌/◌, ◌%◌, ◌==◌, ◌||◌, nat_lt, Bool, true, false, List, [], ◌∷◌, ◌++◌, Option, None, Some, codes, decimal, if◌then◌else◌}
use Rattle.std.specs.Fmt.{digit_glyph}
use Rattle.std.specs.List.{flat_map, join_by}
use Rattle.std.specs.Str.{is_utf8}
use Rattle.program_ends.specs.declared.json.Member.{Member}
use Rattle.program_ends.specs.declared.json.Value.{Value}
use Rattle.program_ends.specs.declared.json.Value.TheVariants as values

-- Strings (RFC 8259, section 7).

-- the bytes that a string has only in an escape: the control characters below 0x20, the quotation mark, and the
-- reverse solidus
abbrev pub is_escaped : ℕ → Bool
is_escaped byte = nat_lt byte 32 || byte == 34 || byte == 92

-- a byte in two hexadecimal digits, in lower case
abbrev pub hex_byte : ℕ → List ℕ
hex_byte byte = digit_glyph false (byte / 16) ∷ digit_glyph false (byte % 16) ∷ []

-- an escape: a reverse solidus before the mark, or `\u` and the four hexadecimal digits of a control character
abbrev pub escape_of : ℕ → List ℕ
escape_of byte = if nat_lt byte 32 then codes "\\u00" ++ hex_byte byte else 92 ∷ byte ∷ []

-- a byte in a string; one that needs no escape, as those of UTF-8, is itself
abbrev pub string_byte : ℕ → List ℕ
string_byte byte = if is_escaped byte then escape_of byte else byte ∷ []

-- quotation marks around characters
abbrev pub quoted : List ℕ → List ℕ
quoted characters = 34 ∷ (characters ++ 34 ∷ [])

-- a text as a string
abbrev pub json_string : List ℕ → List ℕ
json_string text = quoted (flat_map string_byte text)

-- Objects (RFC 8259, sections 3, 4 and 6).

-- what the key of a value has at its end: `_bytes` if it is a name that isn't UTF-8, which no string can contain
abbrev pub key_end : Value → List ℕ
key_end (values.Name name) = if is_utf8 name.now then [] else codes "_bytes"
key_end value = []

-- a value: a number in decimal, a literal name, or a string, which for a name that isn't UTF-8 is its bytes in
-- hexadecimal digits
abbrev pub json_value : Value → List ℕ
json_value (values.Number number) = decimal number
json_value (values.Negative number) = if number == 0 then codes "0" else 45 ∷ decimal number
json_value (values.Bool true) = codes "true"
json_value (values.Bool false) = codes "false"
json_value values.Null = codes "null"
json_value (values.Text text) = json_string text.now
json_value (values.Name name) = if is_utf8 name.now then json_string name.now else quoted (flat_map hex_byte name.now)

-- a member: its key, a colon and its value
abbrev pub json_member : Member → List ℕ
json_member member = json_string (member.key.now ++ key_end member.value) ++ 58 ∷ json_value member.value

-- a member by its key and its value
abbrev pub member : List ℕ → Value → Member
member key value = record { key = record { ref_ptr = (0, 0); now = key }; value = value }

-- the value of a text: a string
abbrev pub text_value : List ℕ → Value
text_value text = values.Text (record { ref_ptr = (0, 0); now = text })

-- the value of a name of a file, of any bytes
abbrev pub name_value : List ℕ → Value
name_value name = values.Name (record { ref_ptr = (0, 0); now = name })

-- the value of a number that may be missing: null without it
abbrev pub number_or_null : Option ℕ → Value
number_or_null None = values.Null
number_or_null (Some number) = values.Number number

-- the value of a text that may be missing: null without it
abbrev pub text_or_null : Option (List ℕ) → Value
text_or_null None = values.Null
text_or_null (Some text) = text_value text

-- the value of a name that may be missing: null without it
abbrev pub name_or_null : Option (List ℕ) → Value
name_or_null None = values.Null
name_or_null (Some name) = name_value name

-- an object, whose members have commas between them, and a line feed
abbrev pub json_line : List Member → List ℕ
json_line members = codes "{" ++ (join_by json_member (codes ",") members ++ codes "}\n")
