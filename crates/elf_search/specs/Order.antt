-- The state of a list of objects that is being made (this project's own).
use Rattle.std.specs.Prelude.{◌≡◌, ℕ, ◌+◌, ◌-◌, ◌*◌, ◌==◌, min, nat_lt, slice_index, true, List, [], take, drop, if◌then◌else◌}
use Rattle.elf_search.specs.LoadOrder.{IsPlain, end_of, start_of}
use Rattle.elf_search.specs.declared.order.Order.{Order}
use Rattle.elf_search.specs.declared.order.TheConstants.{NO_OBJECT}

-- the list is that of the numbers, and its entries are a load order
pub record IsPlainOrder (order : Order) : Type 0 where
  pub plain : order.plain ≡ true
  pub gone : order.gone ≡ order.current + 1
  pub words : IsPlain order.objects.now order.edges.now order.count order.used order.current order.start order.place order.end

-- the numbers of objects and of words and the edges are as they were, and so are the words of objects in a plain list
pub record KeepsLists (old new : Order) : Type 0 where
  pub edges : new.edges.now ≡ old.edges.now
  pub count : new.count ≡ old.count
  pub used : new.used ≡ old.used
  pub plain : new.plain ≡ old.plain
  pub objects : old.plain ≡ true → new.objects.now ≡ old.objects.now

-- also the place is as it was, and the object whose entries are asked for
pub record KeepsState (old new : Order) : Type 0 where
  pub lists : KeepsLists old new
  pub current : new.current ≡ old.current
  pub place : new.place ≡ old.place
  pub end : new.end ≡ old.end
  pub gone : new.gone ≡ old.gone

-- the edges and all numbers of the state are as they were
pub record KeepsFields (old new : Order) : Type 0 where
  pub edges : new.edges.now ≡ old.edges.now
  pub count : new.count ≡ old.count
  pub used : new.used ≡ old.used
  pub current : new.current ≡ old.current
  pub start : new.start ≡ old.start
  pub place : new.place ≡ old.place
  pub end : new.end ≡ old.end
  pub gone : new.gone ≡ old.gone

-- all but the edges and the place is as it was
pub record KeepsOthers (old new : Order) : Type 0 where
  pub objects : new.objects.now ≡ old.objects.now
  pub count : new.count ≡ old.count
  pub used : new.used ≡ old.used
  pub current : new.current ≡ old.current
  pub start : new.start ≡ old.start
  pub end : new.end ≡ old.end
  pub gone : new.gone ≡ old.gone
  pub plain : new.plain ≡ old.plain

-- the edges and what is asked for are as they were
pub record KeepsPlace (old new : Order) : Type 0 where
  pub edges : new.edges.now ≡ old.edges.now
  pub current : new.current ≡ old.current
  pub start : new.start ≡ old.start
  pub place : new.place ≡ old.place
  pub end : new.end ≡ old.end
  pub gone : new.gone ≡ old.gone
  pub plain : new.plain ≡ old.plain

-- what the entries of an object found
abbrev pub edges_of : Order → ℕ → List ℕ
edges_of order k = if nat_lt k order.count
    then (let end = min (end_of order.objects.now order.count order.used k) order.used in
    let start = min (start_of order.objects.now k) end in take (end - start) (drop start order.edges.now)) else []

-- the object before another one in the list
abbrev pub before_of : Order → ℕ → ℕ
before_of order k = if order.plain then (if k == 0 then NO_OBJECT else k - 1) else slice_index order.objects.now (4 * k + 2)

-- the last object in the list
abbrev pub last_of : Order → ℕ
last_of order = if order.plain then order.count - 1 else order.last
