-- What is read of the files that a command names, one after another (docs/COMMANDS.md, "Outcomes").
use Rattle.std.specs.Prelude.{ℕ, ◌≡◌, ◌<◌, nat_lt, List, [], ◌∷◌, map, length, All, Option, None, Some, IsSomeAnd}
use Rattle.std.specs.Prelude.{Result, Ok, Err, if◌then◌else◌}
use Rattle.std.specs.FinMap as files_by_name
use Rattle.dt_io.specs.Files.{Files}

-- a file by its name, with what it holds if it is there
pub record Input : Type 0 where
  pub name : List ℕ
  pub content : Option (List ℕ)

-- why reading stops at the file of this name: it isn't there; it is over the limit
pub data Unread : Type 0 where
  missing : List ℕ → Unread
  too_large : List ℕ → Unread

-- a file has so many bytes at most
abbrev pub text_unless : ℕ → List ℕ → Option (List ℕ) → Result (List ℕ) Unread
text_unless limit name None = Err (missing name)
text_unless limit name (Some bytes) = if nat_lt limit (length bytes) then Err (too_large name) else Ok bytes

-- what is read of an input
abbrev pub text_in : ℕ → Input → Result (List ℕ) Unread
text_in limit input = text_unless limit input.name input.content

abbrev pub with_first : Result (List ℕ) Unread → Result (List (List ℕ)) Unread → Result (List (List ℕ)) Unread
with_first (Err unread) others = Err unread
with_first (Ok text) (Err unread) = Err unread
with_first (Ok text) (Ok texts) = Ok (text ∷ texts)

-- what is read of all, up to the first where the reading stops
abbrev pub texts_in : ℕ → List Input → Result (List (List ℕ)) Unread
texts_in limit [] = Ok []
texts_in limit (input ∷ inputs) = with_first (text_in limit input) (texts_in limit inputs)

-- the inputs of these names over files that are known
abbrev pub inputs_of : Files → List (List ℕ) → List Input
inputs_of files names = map (λ name. record { name = name; content = files_by_name.get files name }) names

-- inputs of these names that hold some bytes
pub record AreSomeInputs (names : List (List ℕ)) (inputs : List Input) : Type 0 where
  pub named : map (λ (i : Input). i.name) inputs ≡ names
  pub bytes : All (λ (i : Input). IsSomeAnd i.content (All (λ b. b < 256))) inputs
