use Rattle.std.proofs.Common.{◌≡◌, ◌≤◌, ◌<◌, ◌+◌, max, length, slice_index, IfSome, MatchOption, refl, subst}
use Rattle.std.proofs.lemmas.Option.{slice_get-get_or}
use Rattle.elf_addresses.specs.Index.{NoneCovers}
use Rattle.elf_addresses.proofs.Ask.{none_reached}
use Rattle.elf_addresses.proofs.Known.{spans_over}
use Rattle.elf_addresses.proofs.Near.{index_there, none_there, rising_begins}
use Rattle.elf_addresses.proofs.index.ClaimIndex.innermost_index.Goals as goal

pub returns-in-Some-clause-listed : goal.returns-in-Some-clause-listed
returns-in-Some-clause-listed g c =
    let begins = c.args.self.now.begins.now in
    let sizes = c.args.self.now.sizes.now in
    let address = c.args.address in
    let covers = subst (λ o. IfSome o (λ k. (k < length begins) × (slice_index begins k ≤ address) × (address < slice_index begins k + max (slice_index sizes k) 1))) c.in-Some.is c.reach_place-place.ensures.covers in
    spans_over c.args.self.now.sized.now begins sizes address c.in-Some.place c.index_at.result c.index_at.ensures covers.1 covers.2

pub returns-in-Some-clause-innermost : goal.returns-in-Some-clause-innermost
returns-in-Some-clause-innermost g c = λ wb.
    let wf = wb.order in
    let are = wb.ranges in
    let blocks = wb.blocks in
    let claims = c.args.self.now.claims.now in
    let claim_of = g.C.Claims.claim_of claims in
    let range_of = g.C.Claims.range_of claims in
    let words = c.args.self.now.sized.now in
    let begins = c.args.self.now.begins.now in
    let sizes = c.args.self.now.sizes.now in
    let address = c.args.address in
    let place = c.in-Some.place in
    let rising = rising_begins claim_of range_of (λ i claim is. g.C.Claims.ranged claims i claim is) words begins sizes are wf in
    let covers = subst (λ o. IfSome o (λ k. (k < length begins) × (slice_index begins k ≤ address) × (address < slice_index begins k + max (slice_index sizes k) 1))) c.in-Some.is c.reach_place-place.ensures.covers in
    let none = subst (λ o. MatchOption o (NoneCovers begins sizes 0 address) (λ k. NoneCovers begins sizes (k + 1) address)) c.in-Some.is (c.reach_place-place.ensures.last range_of words are blocks rising) in
    let within : place < length words = subst (λ n. place < n) are.begin_count covers.0 in
    rw (c.index_at.ensures, slice_get-get_or words place 0 within) (index_there claim_of range_of (λ i claim is. g.C.Claims.ranged claims i claim is) words begins sizes are (λ i claim is. g.C.Claims.own claims i claim is) place address wf within covers.1 covers.2 none)

pub returns-in-None-clause-innermost : goal.returns-in-None-clause-innermost
returns-in-None-clause-innermost g c = λ wb.
    let wf = wb.order in
    let are = wb.ranges in
    let blocks = wb.blocks in
    let claims = c.args.self.now.claims.now in
    let claim_of = g.C.Claims.claim_of claims in
    let range_of = g.C.Claims.range_of claims in
    let words = c.args.self.now.sized.now in
    let begins = c.args.self.now.begins.now in
    let sizes = c.args.self.now.sizes.now in
    let address = c.args.address in
    let rising = rising_begins claim_of range_of (λ i claim is. g.C.Claims.ranged claims i claim is) words begins sizes are wf in
    let none = subst (λ o. MatchOption o (NoneCovers begins sizes 0 address) (λ k. NoneCovers begins sizes (k + 1) address)) c.in-None.is (c.reach_place-place.ensures.last range_of words are blocks rising) in
    none_reached claim_of range_of (λ i claim is. g.C.Claims.ranged claims i claim is) words 0 address refl wf
    (none_there claim_of range_of (λ i claim is. g.C.Claims.ranged claims i claim is) words begins sizes are 0 address none)
