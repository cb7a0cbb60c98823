-- The definitions and the needs, item by item: the computed items are those of the longest lists.
use Rattle.std.proofs.Common.{◌≡◌, ◌≢◌, ℕ, zero, suc, ◌-◌, ◌^◌, ◌≤◌, ◌<◌, List, [], ◌∷◌, length, map, Result, Ok, Err, refl, ap, ◌∙◌, arith}
use Rattle.std.proofs.lemmas.List.{length-map}
use Rattle.elf_linking.specs.declared.error.LinkError.{LinkError}
use Rattle.elf_linking.specs.declared.error.LinkError.TheVariants.{VersionCount}
use Rattle.elf_linking.specs.VersionTables.{AreDefinitions, AreNeeds, AreParts, ended, cut_off, begun, NeedParts, VersionRecords, definition_at, definitions_in, first_part, result_map, joined, need_at, needs_in, parts_at, parts_of, places_of, room_of, within_room}
use Rattle.elf_linking.proofs.VersionPlaces.{places_are, places_fit}

pub items_end : {A B : Type 0} (make : Result A LinkError → B) (items : List (Result A LinkError)) → items ≡ [] → map make items ≡ []
items_end make items is = ap (map make) is

pub items_first : {A B : Type 0} (make : Result A LinkError → B) (items others : List (Result A LinkError)) (item : Result A LinkError) → items ≡ item ∷ others → map make items ≡ make item ∷ map make others
items_first make items others item is = ap (map make) is

pub definitions_are : (records : VersionRecords) → AreDefinitions records (definitions_in records)
definitions_are records = record {
  places = places_of records 16 0 (length records.bytes);
  are_places = places_are records 16 0 (length records.bytes);
  items_are = refl;
}

-- there are no more items than places, and no more places than records
items_few : {A : Type 0} (make : ℕ → A) (records : VersionRecords) (offset start count : ℕ) → length (map (result_map make) (places_of records offset start count)) ≤ count
items_few make records offset start count =
    let same = length-map (places_of records offset start count) (result_map make) in
    let few = places_fit records offset start count in omega (arith, same, few)

pub definitions_fit : (records : VersionRecords) (bound : ℕ) → length records.bytes < bound → length (definitions_in records) < bound
definitions_fit records bound fits =
    let few = items_few (definition_at records) records 16 0 (length records.bytes) in omega (arith, few, fits)

-- the parts of needs, need by need
pub parts_end : (records : VersionRecords) (needs : List (Result ℕ LinkError)) → needs ≡ [] → parts_of records needs ≡ []
unfolding parts_of
parts_end records needs is = rw is refl

pub parts_cut : (records : VersionRecords) (needs others : List (Result ℕ LinkError)) (error : LinkError) → needs ≡ Err error ∷ others → parts_of records needs ≡ Err error ∷ []
unfolding parts_of
parts_cut records needs others error is = rw is refl

pub parts_more : (records : VersionRecords) (place : ℕ) (needs others : List (Result ℕ LinkError)) → needs ≡ Ok place ∷ others
    → parts_of records needs ≡ joined (parts_at records place) (parts_of records others)
unfolding parts_of
parts_more records place needs others is = rw is refl

-- the items for which there is room, item by item
module _ {A : Type 0} (room : ℕ) (items others : List (Result A LinkError)) where
  pub room_end : items ≡ [] → within_room room items ≡ []
  room_end is = ap (within_room room) is

  pub room_cut : (error : LinkError) → items ≡ Err error ∷ others → within_room room items ≡ Err error ∷ []
  room_cut error is = ap (within_room room) is

  pub room_full : (item : A) → room ≡ 0 → items ≡ Ok item ∷ others → within_room room items ≡ Err VersionCount ∷ []
  room_full item none is = ap (within_room room) is ∙ ap (λ n. within_room n (Ok item ∷ others)) none

  pub room_first : (item : A) → room ≢ 0 → items ≡ Ok item ∷ others → within_room room items ≡ Ok item ∷ within_room (room - 1) others
  room_first item some is =
      let one : room ≡ suc (room - 1) = omega (arith, some) in
      ap (within_room room) is ∙ ap (λ n. within_room n (Ok item ∷ others)) one

-- there are no more than that, but for an error at the end
room_fits : {A : Type 0} (room : ℕ) (items : List (Result A LinkError)) → length (within_room room items) ≤ suc room
room_fits room [] = omega arith
room_fits room (Err error ∷ items) = omega arith
room_fits zero (Ok item ∷ items) = omega arith
room_fits (suc room) (Ok item ∷ items) = let few = room_fits room items in omega (arith, few)

-- the parts of a need before the others
pub joined_end : {A : Type 0} (items rest : List (Result A LinkError)) → items ≡ [] → joined items rest ≡ rest
joined_end items rest is = ap (λ front. joined front rest) is

pub joined_first : {A : Type 0} (items others rest : List (Result A LinkError)) (item : A) → items ≡ Ok item ∷ others → joined items rest ≡ Ok item ∷ joined others rest
joined_first items others rest item is = ap (λ front. joined front rest) is

pub joined_cut : {A : Type 0} (items others rest : List (Result A LinkError)) (error : LinkError) → items ≡ Err error ∷ others → joined items rest ≡ Err error ∷ []
joined_cut items others rest error is = ap (λ front. joined front rest) is

-- the items left behind the last part of a need: those of the next one, and of the others
pub left_entered : (records : VersionRecords) (file room place : ℕ) (parts needs others : List (Result ℕ LinkError)) → parts ≡ [] → needs ≡ Ok place ∷ others
    → within_room room (joined (map (result_map (need_at records file)) parts) (parts_of records needs)) ≡ within_room room (joined (parts_at records place) (parts_of records others))
left_entered records file room place parts needs others bare begins =
    ap (within_room room) (joined_end (map (result_map (need_at records file)) parts) (parts_of records needs) (items_end (result_map (need_at records file)) parts bare)
    ∙ parts_more records place needs others begins)

-- no parts are left at the start
pub needs_start : (records : VersionRecords) (make : ℕ → NeedParts) (start : ℕ) (rest : List (Result NeedParts LinkError)) → joined (map (result_map make) (places_of records 12 start 0)) rest ≡ rest
unfolding places_of
needs_start records make start rest = refl

-- nothing is left behind an error
pub needs_ended : (records : VersionRecords) (make : ℕ → NeedParts) (room place start : ℕ) → within_room room (joined (map (result_map make) (places_of records 12 start 0)) (parts_of records (places_of records 12 place 0))) ≡ []
unfolding places_of parts_of
needs_ended records make room place start = refl

-- the computed items are the parts of the needs
parts_are : (records : VersionRecords) (needs : List (Result ℕ LinkError)) → AreParts records needs (parts_of records needs)
unfolding parts_of
parts_are records [] = ended
parts_are records (Err error ∷ needs) = cut_off error needs
parts_are records (Ok place ∷ needs) =
    begun place needs (places_of records 12 (first_part records place) (length records.bytes)) (parts_of records needs)
    (places_are records 12 (first_part records place) (length records.bytes)) (parts_are records needs)

pub needs_are : (records : VersionRecords) → AreNeeds records (needs_in records)
needs_are records = record {
  places = places_of records 12 0 (length records.bytes);
  parts = parts_of records (places_of records 12 0 (length records.bytes));
  are_places = places_are records 12 0 (length records.bytes);
  are_parts = parts_are records (places_of records 12 0 (length records.bytes));
  items_are = refl;
}

pub needs_fit : (records : VersionRecords) → length records.bytes < 2 ^ 64 → length (needs_in records) < 2 ^ 64
needs_fit records fits =
    let few = room_fits (room_of records) (parts_of records (places_of records 12 0 (length records.bytes))) in omega (arith, few, fits)
