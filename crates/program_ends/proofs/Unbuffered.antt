-- Known bytes behind which nothing is buffered.
use Rattle.std.proofs.Common.{◌≡◌, List, [], Option, None, Some, ℕ, refl, ap}
use Rattle.std.proofs.lemmas.List.{append-nil}
use Rattle.std.specs.Io.KnownBytes.{append_known}

pub none_buffered : (known : Option (List ℕ)) (buffer : List ℕ) → buffer ≡ [] → append_known known buffer ≡ known
none_buffered None buffer is = refl
none_buffered (Some bytes) buffer is = rw is (ap (λ b. Some b) (append-nil bytes))
