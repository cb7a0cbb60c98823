-- Dynamic string tokens (`ld.so`'s manual page, "Dynamic string tokens"; what may follow a name without braces, and that a
-- text with an unknown value is empty, as in glibc 2.36).
use Rattle.std.specs.Prelude.{ℕ, zero, suc, ◌+◌, ◌==◌, ◌&&◌, ◌||◌, not, nat_lt, true, false, codes, Bool, List, [], ◌∷◌, ◌++◌, length, nat_eq, Option, None, Some, is_none, option_map, slice_index, if◌then◌else◌}
use Rattle.std.specs.Char.{is_ascii_alphanumeric}
use Rattle.std.specs.List.{starts_with}
use Rattle.elf_search.specs.declared.tokens.Expanded.{Expanded}
use Rattle.elf_search.specs.declared.tokens.Token.{Token}
use Rattle.elf_search.specs.declared.tokens.TokenValues as struct

-- the values of the tokens for an object, as far as they are known
pub record Values : Type 0 where
  pub origin : Option (List ℕ)
  pub lib : Option (List ℕ)
  pub platform : Option (List ℕ)

-- those of a value of the code
abbrev pub values_of : struct.TokenValues → Values
values_of values = record {
  origin = option_map (λ value. value.now) values.origin;
  lib = option_map (λ value. value.now) values.lib;
  platform = option_map (λ value. value.now) values.platform;
}

-- a letter, a digit or an underscore
abbrev pub is_word : ℕ → Bool
is_word byte = is_ascii_alphanumeric byte || byte == 95

-- a text begins with a name, and no such byte follows it
abbrev pub begins_with_word : List ℕ → List ℕ → Bool
begins_with_word text name = starts_with nat_eq text name
    && (length text == length name || not (is_word (slice_index text (length name))))

-- a text begins with a name and a closing brace
abbrev pub begins_with_closed : List ℕ → List ℕ → Bool
begins_with_closed text name = starts_with nat_eq text name
    && (nat_lt (length name) (length text) && slice_index text (length name) == 125)

-- the number of bytes of a name at the front of the text after a dollar sign, with its braces if it has some (123 is the
-- opening one); 0 if it is not there
abbrev pub token_length : List ℕ → List ℕ → ℕ
token_length [] name = 0
token_length (byte ∷ inner) name = if byte == 123
    then (if begins_with_closed inner name then length name + 2 else 0)
    else (if begins_with_word (byte ∷ inner) name then length name else 0)

-- a token: the number of its bytes after the dollar sign, and its value if that is known
pub record TokenParts : Type 0 where
  pub length : ℕ
  pub value : Option (List ℕ)

-- those of a value of the code
abbrev pub token_parts : Token → TokenParts
token_parts token = record { length = token.length; value = option_map (λ value. value.now) token.value }

-- the first of some tokens at the front of the text after a dollar sign
abbrev pub token_among : List (List ℕ × Option (List ℕ)) → List ℕ → Option TokenParts
token_among [] text = None
token_among (row ∷ rows) text = if token_length text row.0 == 0 then token_among rows text
    else Some (record { length = token_length text row.0; value = row.1 })

-- the token there
abbrev pub token_at : Values → List ℕ → Option TokenParts
token_at values text = token_among
    ((codes "ORIGIN", values.origin) ∷ (codes "LIB", values.lib) ∷ (codes "PLATFORM", values.platform) ∷ []) text

-- a token, if there is one, has a value that is not known
abbrev pub is_unknown : Option TokenParts → Bool
is_unknown None = false
is_unknown (Some token) = is_none token.value

-- the text after a dollar sign begins with a token whose value is not known
abbrev pub is_unknown_at : Values → List ℕ → Bool
is_unknown_at values text = is_unknown (token_at values text)

-- the values of all tokens in a text are known (36 is the dollar sign)
abbrev pub is_known : Values → List ℕ → Bool
is_known values [] = true
is_known values (byte ∷ text) = if byte == 36 && is_unknown_at values text then false else is_known values text

-- what a token is replaced by, which is nothing where its value is not known
abbrev pub value_of : Option (List ℕ) → List ℕ
value_of None = []
value_of (Some value) = value

-- a dollar sign, or the value of the token that it begins, and then what is made of the text after it
abbrev pub at_dollar : Option TokenParts → (ℕ → List ℕ) → List ℕ
at_dollar None later = 36 ∷ later 0
at_dollar (Some token) later = value_of token.value ++ later token.length

-- the bytes of a text with its tokens replaced, without as many bytes at its front as are passed over
abbrev pub replaced : Values → ℕ → List ℕ → List ℕ
replaced values skip [] = []
replaced values zero (byte ∷ text) = if byte == 36 then at_dollar (token_at values text) (λ skip. replaced values skip text)
    else byte ∷ replaced values 0 text
replaced values (suc skip) (byte ∷ text) = replaced values skip text

-- a text with its tokens replaced; nothing if a value is not known
abbrev pub expanded : Values → List ℕ → List ℕ
expanded values text = if is_known values text then replaced values 0 text else []

-- the bytes that an iterator has not yet returned
abbrev pub expanded_left : Expanded → List ℕ
expanded_left iter = iter.value.now ++ replaced (values_of iter.values) 0 iter.text.now
