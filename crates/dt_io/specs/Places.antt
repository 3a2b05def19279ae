-- Places of a folder in memory, each for a file of one name.
use Rattle.std.specs.Prelude.{ℕ, ◌≡◌, ◌<◌, ◌-◌, min, max, Bool, true, false, ◌==◌, ◌&&◌, ◌||◌, nat_eq, nat_lt}
use Rattle.std.specs.Prelude.{List, [], ◌∷◌, ◌++◌, length, take, slice_index_or, slice_set}
use Rattle.std.specs.Prelude.{Option, Some, None, unwrap_or, if◌then◌else◌}
use Rattle.std.specs.Cmp.Lexicographic.{pointwise}
use Rattle.std.specs.FinMap as finite
use Rattle.dt_io.specs.Files.{Files}

-- a place for a file: its name, the file if it is held, and how many bytes it has room for
pub record Place : Type 0 where
  pub name : List ℕ
  pub content : Option (List ℕ)
  pub room : ℕ

abbrev pub file_place : ℕ → List ℕ × List ℕ → Place
file_place room file = record { name = file.0; content = Some file.1; room = max room (length file.1) }

abbrev pub output_place : ℕ → List ℕ → Place
output_place room name = record { name = name; content = None; room = room }

abbrev pub is_named : List ℕ → List ℕ → Bool
is_named name other = pointwise nat_eq other name

-- the files with this one of a name, or with none
abbrev pub with_content : Files → List ℕ → Option (List ℕ) → Files
with_content files name None = finite.remove files name
with_content files name (Some bytes) = finite.insert files name bytes

-- the files by their names: of places of one name the first holds
abbrev pub files_of : List Place → Files
files_of [] = finite.empty
files_of (place ∷ places) = with_content (files_of places) place.name place.content

abbrev pub has_place : List ℕ → List Place → Bool
has_place name [] = false
has_place name (place ∷ places) = is_named name place.name || has_place name places

-- what the first place of a name holds, and its room
abbrev pub content_of : List ℕ → List Place → Option (List ℕ)
content_of name [] = None
content_of name (place ∷ places) = if is_named name place.name then place.content else content_of name places

abbrev pub bytes_of : List ℕ → List Place → List ℕ
bytes_of name places = unwrap_or (content_of name places) []

abbrev pub room_of : List ℕ → List Place → ℕ
room_of name [] = 0
room_of name (place ∷ places) = if is_named name place.name then place.room else room_of name places

-- the places, where the first of a name holds this
abbrev pub changed : List ℕ → Option (List ℕ) → List Place → List Place
changed name content [] = []
changed name content (place ∷ places) =
    if is_named name place.name then record place { content = content } ∷ places
    else place ∷ changed name content places

-- how many bytes of a piece a place takes, if it has room
abbrev pub taken_in : ℕ → ℕ → ℕ → Option ℕ
taken_in room step piece = if (room == 0) && nat_lt 0 piece then None else Some (min (min piece step) room)

abbrev pub appended_to : Place → List ℕ → ℕ → Option ℕ
appended_to place piece step = taken_in (place.room - length (unwrap_or place.content [])) step (length piece)

-- the same of the first place of a name, if there is one
abbrev pub appended_in : List ℕ → List Place → List ℕ → ℕ → Option ℕ
appended_in name places piece step =
    if has_place name places then taken_in (room_of name places - length (bytes_of name places)) step
    (length piece) else None

-- what an append leaves that takes so much, if it does
abbrev pub grown_in : List ℕ → List Place → List ℕ → Option ℕ → List Place
grown_in name places piece None = places
grown_in name places piece (Some n) = changed name (Some (bytes_of name places ++ take n piece)) places

-- the first place of a name has this number
pub record IsPlaceOf (name : List ℕ) (places : List Place) (i : ℕ) : Type 0 where
  pub within : i < length places
  pub there : has_place name places ≡ true
  pub content : (d : Place) → content_of name places ≡ (slice_index_or places i d).content
  pub room : (d : Place) → room_of name places ≡ (slice_index_or places i d).room
  pub set : (d : Place) (content : Option (List ℕ))
      → slice_set places i (record (slice_index_or places i d) { content = content }) ≡ changed name content places

-- no place has this name
pub record IsNoPlace (name : List ℕ) (places : List Place) : Type 0 where
  pub none : has_place name places ≡ false
  pub same : (content : Option (List ℕ)) → changed name content places ≡ places
