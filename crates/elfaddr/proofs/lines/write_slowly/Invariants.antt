use Rattle.std.proofs.Common.{List, ℕ, take}
use Rattle.std.specs.Io.KnownBytes.{Appends}
use Rattle.std.specs.List.{AllZip, concat}
use Rattle.elfaddr.specs.Lines.{IsLine}
use Rattle.elfaddr.proofs.lines.write_slowly.Given as goal

-- a line for each address so far
abbrev pub invariant-loop-address : goal.invariant-loop-address
invariant-loop-address g l = (texts : List (List ℕ))
    × AllZip (λ address text. IsLine l.lines.form (g.C.Claims.claim_of l.lines.claims.now) (g.C.Named.name_of l.lines.claims.now) l.lines.file.now address text) (take l.address-index l.lines.addresses.now) texts
    × Appends (g.W.Write.contents l.fn.out) (g.W.Write.contents l.out) (concat texts)
