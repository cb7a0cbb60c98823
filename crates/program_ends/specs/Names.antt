-- How the programs print the bytes of a name: as GNU binutils 2.40 does in the C locale (print_symbol of
-- binutils/readelf.c).
use Rattle.std.specs.Prelude.{◌+◌, ℕ, List, [], ◌∷◌, if◌then◌else◌}
use Rattle.std.specs.Char.{is_ascii_control}
use Rattle.std.specs.List.{flat_map}

-- a control character (0 to 31, or 127) is '^' and the byte 64 above it; any other byte is itself
abbrev pub escaped_byte : ℕ → List ℕ
escaped_byte byte = if is_ascii_control byte then 94 ∷ (byte + 64) ∷ [] else byte ∷ []

-- the bytes in order
abbrev pub escaped : List ℕ → List ℕ
escaped name = flat_map escaped_byte name
