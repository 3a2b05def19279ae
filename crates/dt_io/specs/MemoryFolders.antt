-- A folder in memory, and what its next call does.
use Rattle.std.specs.Prelude.{ℕ, ◌-◌, min, Bool, ◌==◌, ◌||◌, nat_eq, not, String, Vec, List, [], ◌++◌, map, length}
use Rattle.std.specs.Prelude.{take, Option, Some, None, is_none, Result, Ok, Err, if◌then◌else◌}
use Rattle.std.specs.List.{list_any, IsDistinct}
use Rattle.std.specs.Cmp.Lexicographic.{pointwise}
use Rattle.std.specs.FinMap as finite
use Rattle.std.specs.declared.alloc.Global.{Global}
use Rattle.std.specs.String.{string_bytes}
use Rattle.dt_io.specs.Causes.{one_more}
use Rattle.dt_io.specs.Folders.{FolderSeen}
use Rattle.dt_io.specs.Places.{Place, appended_in, bytes_of, changed, files_of, has_place}
use Rattle.dt_io.specs.declared.folders.FolderFault.{FolderFault}
use Rattle.dt_io.specs.declared.folders.FolderFault.TheVariants as cases
use Rattle.dt_io.specs.declared.sinks.Failed.{Failed}

pub record FolderMemory : Type 0 where
  pub places : List Place
  -- how many bytes a read or an append takes at most
  pub step : ℕ
  -- the numbers of the calls that fail, counted from 1
  pub failing : List ℕ
  pub calls : ℕ
  pub reads : ℕ
  pub misses : ℕ
  pub read_faults : ℕ
  pub write_faults : ℕ

-- the names and bytes of files
abbrev pub pairs_of : List (String Global × Vec ℕ Global) → List (List ℕ × List ℕ)
pairs_of files = map (λ file. (string_bytes file.0, file.1.items)) files

abbrev pub names_of : List (String Global) → List (List ℕ)
names_of names = map string_bytes names

-- no two of the files and outputs have the same name
abbrev pub HaveDistinctNames : List (List ℕ × List ℕ) → List (List ℕ) → Type 0
HaveDistinctNames pairs outputs = IsDistinct (pointwise nat_eq) (map (λ pair. pair.0) pairs ++ outputs)

-- what is seen of it
abbrev pub folder_seen : FolderMemory → FolderSeen
folder_seen memory = record {
  files = Some (files_of memory.places);
  misses = memory.misses;
  read_faults = memory.read_faults;
  write_faults = memory.write_faults;
  reads = memory.reads;
}

-- whether the next call is one that fails
abbrev pub is_listed : FolderMemory → Bool
is_listed memory = list_any (λ n. n == one_more memory.calls) memory.failing

-- what the next read answers, of a file from a place on, into so much room
abbrev pub answer_of : FolderMemory → List ℕ → ℕ → ℕ → Result ℕ FolderFault
answer_of memory name at room =
    if is_listed memory then Err cases.Failed else found (finite.get (files_of memory.places) name)
  where
    found : Option (List ℕ) → Result ℕ FolderFault
    found None = Err cases.Missing
    found (Some file) = Ok (min (min memory.step room) (length file - at))

-- what the next read leaves
abbrev pub with_read : FolderMemory → FolderMemory
with_read memory = record memory { calls = one_more memory.calls; reads = one_more memory.reads }

abbrev pub after_read : FolderMemory → List ℕ → FolderMemory
after_read memory name =
    if is_listed memory then record (with_read memory) { read_faults = one_more memory.read_faults }
    else if is_none (finite.get (files_of memory.places) name)
    then record (with_read memory) { misses = one_more memory.misses }
    else with_read memory

-- what a change leaves that fails, and one that doesn't
abbrev pub after_fault : FolderMemory → FolderMemory
after_fault memory = record memory { calls = one_more memory.calls; write_faults = one_more memory.write_faults }

abbrev pub after_change_to : FolderMemory → List Place → FolderMemory
after_change_to memory places = record memory { calls = one_more memory.calls; places = places }

abbrev pub fails_create : FolderMemory → List ℕ → Bool
fails_create memory name = is_listed memory || not (has_place name memory.places)

abbrev pub after_create : FolderMemory → List ℕ → FolderMemory
after_create memory name =
    if fails_create memory name then after_fault memory
    else after_change_to memory (changed name (Some []) memory.places)

-- how much of a piece an append takes, if it doesn't fail
abbrev pub append_count : FolderMemory → List ℕ → List ℕ → Option ℕ
append_count memory name piece = if is_listed memory then None else appended_in name memory.places piece memory.step

abbrev pub after_append : FolderMemory → List ℕ → List ℕ → FolderMemory
after_append memory name piece = left (append_count memory name piece)
  where
    left : Option ℕ → FolderMemory
    left None = after_fault memory
    left (Some n) = after_change_to memory
        (changed name (Some (bytes_of name memory.places ++ take n piece)) memory.places)

abbrev pub after_remove : FolderMemory → List ℕ → FolderMemory
after_remove memory name =
    if is_listed memory then after_fault memory
    else after_change_to memory (changed name None memory.places)

-- how much an append says that it took
abbrev pub count_said : Result ℕ Failed → Option ℕ
count_said (Ok n) = Some n
count_said (Err e) = None
