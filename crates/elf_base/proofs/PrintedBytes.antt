-- What `{:?}` writes for bytes.
use Rattle.std.proofs.Common.{◌≡◌, ℕ, List, [], ◌∷◌, Option, Some, refl, ap, ◌∙◌, codes, decimal}
use Rattle.std.specs.Fmt.{debug_list, debug_items, comma_space, option_append}
use Rattle.std.proofs.Output.{then_text_assoc}
use Rattle.elf_base.specs.Printed.{bytes_text, more_bytes}

-- the text of a byte
abbrev byte_text : ℕ → Option (List ℕ)
byte_text b = Some (decimal b)

more_items : (bs : List ℕ) → option_append (debug_items byte_text comma_space bs) (Some (codes "]")) ≡ Some (more_bytes bs)
more_items [] = refl
more_items (b ∷ bs) =
    then_text_assoc (Some comma_space) (option_append (Some (decimal b)) (debug_items byte_text comma_space bs)) (Some (codes "]"))
    ∙ ap (option_append (Some comma_space)) (then_text_assoc (Some (decimal b)) (debug_items byte_text comma_space bs) (Some (codes "]"))
    ∙ ap (option_append (Some (decimal b))) (more_items bs))

pub debug_list-bytes : (bs : List ℕ) → debug_list (λ b. Some (decimal b)) bs ≡ Some (bytes_text bs)
debug_list-bytes [] = refl
debug_list-bytes (b ∷ bs) =
    ap (option_append (Some (codes "["))) (then_text_assoc (Some []) (option_append (Some (decimal b)) (debug_items byte_text comma_space bs)) (Some (codes "]"))
    ∙ ap (option_append (Some [])) (then_text_assoc (Some (decimal b)) (debug_items byte_text comma_space bs) (Some (codes "]"))
    ∙ ap (option_append (Some (decimal b))) (more_items bs)))
