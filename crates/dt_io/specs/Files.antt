-- Files by their names, where they are known, what a read of one gives, and what a change of one leaves.
use Rattle.std.specs.Prelude.{ℕ, ◌≡◌, ◌<◌, ◌≤◌, ◌-◌, Bool, true, List, [], ◌++◌, length, take, drop}
use Rattle.std.specs.Prelude.{Option, Some, None, is_some, unwrap_or, IfSome, Result, Ok, Err}
use Rattle.std.specs.Option.{option_map}
use Rattle.std.specs.Ordering.{nat_cmp}
use Rattle.std.specs.Cmp.Lexicographic.{slice_cmp}
use Rattle.std.specs.FinMap as map
use Rattle.std.specs.FinMap.{FinMap}

-- from the bytes of a name to those of the file
abbrev pub Files : Type 0
Files = FinMap (slice_cmp nat_cmp) (List ℕ)

-- where the files are known, one has this name, and it has P
abbrev pub Held : Option Files → List ℕ → (List ℕ → Type 0) → Type 0
Held None name P = Unit {0}
Held (Some files) name P = HeldIn (map.get files name)
  where
    HeldIn : Option (List ℕ) → Type 0
    HeldIn None = ⊥
    HeldIn (Some file) = P file

-- where the files are known, none has this name
abbrev pub NotHeld : Option Files → List ℕ → Type 0
NotHeld known name = IfSome known (λ files. map.get files name ≡ None)

-- where the files are known and one has this name, it has P
abbrev pub IfHeld : Option Files → List ℕ → (List ℕ → Type 0) → Type 0
IfHeld known name P = IfSome known (λ files. IfSome (map.get files name) P)

-- where the files are known and none has this name, P holds
abbrev pub IfNotHeld : Option Files → List ℕ → Type 0 → Type 0
IfNotHeld known name P = IfSome known (λ files. map.get files name ≡ None → P)

-- what a read of n bytes at a place in a file leaves in the buffer
pub record ReadsAt (file : List ℕ) (at n : ℕ) (old new : List ℕ) : Type 0 where
  pub bytes : take n new ≡ take n (drop at file)
  pub within : n ≤ length file - at
  pub end : n ≡ 0 → 0 < length old → length file ≤ at

-- what the file of this name holds, and nothing where there is none
abbrev pub content : Files → List ℕ → List ℕ
content files name = unwrap_or (map.get files name) []

-- the files, where they are known, with these bytes in the one of this name
abbrev pub with_file : Option Files → List ℕ → List ℕ → Option Files
with_file known name bytes = option_map (λ files. map.insert files name bytes) known

-- the files, where they are known, without the one of this name
abbrev pub without : Option Files → List ℕ → Option Files
without known name = option_map (λ files. map.remove files name) known

-- the file of this name, where the files are known and there is one
abbrev pub file_at : Option Files → List ℕ → Option (List ℕ)
file_at None name = None
file_at (Some files) name = map.get files name

-- where the files aren't known, any is held
abbrev pub is_held : Option Files → List ℕ → Bool
is_held None name = true
is_held (Some files) name = is_some (map.get files name)

-- where the files are known, one has this name
abbrev pub IsHeld : Option Files → List ℕ → Type 0
IsHeld known name = is_held known name ≡ true

-- what a change with this answer leaves of the files: a created one is empty
abbrev pub created : {T E : Type 0} → Option Files → List ℕ → Result T E → Option Files
created known name (Ok t) = with_file known name []
created known name (Err e) = known

-- the answered number of bytes from the piece's start come behind the file; one that isn't held is made
abbrev pub grown : {E : Type 0} → Option Files → List ℕ → List ℕ → Result ℕ E → Option Files
grown known name piece (Ok n) =
    option_map (λ files. map.insert files name (content files name ++ take n piece)) known
grown known name piece (Err e) = known

-- a removed one is no more
abbrev pub removed : {T E : Type 0} → Option Files → List ℕ → Result T E → Option Files
removed known name (Ok t) = without known name
removed known name (Err e) = known
