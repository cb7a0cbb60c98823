-- The lines of a header.
use Rattle.std.proofs.Common.{◌≡◌, ℕ, ◌-◌, List, Option, None, Some, refl, codes, length, replicate}
use Rattle.std.specs.Option.{option_map}
use Rattle.std.specs.Fmt.{◌++?◌}
use Rattle.elf_base.specs.Printed.{field_line}

-- the pieces of a field's line, concatenated
pub field_line_of : (label : List ℕ) (value : Option (List ℕ)) → Some (codes "    ") ++? Some label ++? Some (codes ":") ++? Some (replicate (17 - length label) 32) ++? value ++? Some (codes "\n") ≡ option_map (field_line label) value
unfolding field_line
field_line_of label None = refl
field_line_of label (Some text) = refl
