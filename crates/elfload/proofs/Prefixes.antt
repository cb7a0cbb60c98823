-- A text without what it begins with.
use Rattle.std.proofs.Common.{◌≡◌, ℕ, List, ap, drop, length, refl, sym, true, false, ◌∙◌}
use Rattle.std.specs.Prelude.{None, nat_eq, if◌then◌else◌}
use Rattle.std.specs.List.{starts_with}
use Rattle.std.specs.Str.Pattern.{FindsTextPrefix, StripsPrefix}
use Rattle.std.proofs.lemmas.Bool.Decides.{Decides-eqb}
use Rattle.std.proofs.lemmas.Slice.Eq.{starts_is}
use Rattle.std.proofs.lemmas.Str.Pattern.{starts_text}
use Rattle.elfload.specs.Words.{without_prefix}

pub without_some : (prefix text rest : List ℕ) → StripsPrefix (FindsTextPrefix prefix) text rest → rest ≡ without_prefix prefix text
without_some prefix text rest (n, (n_is, split, boundary), rest_is, len) =
    let found : starts_with nat_eq text prefix ≡ true = (starts_is Decides-eqb text prefix _ refl).1 _ split in
    rest_is ∙ ap (λ k. drop k text) n_is ∙ sym (ap (λ b. if b then drop (length prefix) text else text) found)

pub without_none : (prefix text : List ℕ) → FindsTextPrefix prefix text None → text ≡ without_prefix prefix text
without_none prefix text lacks = ap (λ b. if b then drop (length prefix) text else text) (starts_text false prefix text lacks)
