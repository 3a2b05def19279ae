-- Files that are loaded one after another, and where the reading stops.
use Rattle.std.proofs.Common.{◌≡◌, ℕ, zero, suc, ◌+◌, ◌<◌, ◌≤◌, cond, List, [], ◌∷◌, ◌++◌, length, take, drop}
use Rattle.std.proofs.Common.{get_or, replicate}
use Rattle.std.proofs.Common.{Option, Some, None, Result, Ok, Err, refl, ap, sym, ◌∙◌, subst, arith, inl, inr, ◌⊎◌}
use Rattle.std.proofs.Math.Seq.{take-suc, split_at}
use Rattle.std.proofs.lemmas.Bool.{le-ltb, lt-ltb}
use Rattle.std.proofs.lemmas.List.{map-append, length-append, length-replicate}
use Rattle.std.proofs.lemmas.List.Elements.{All-nil, All-cons, All-head, All-tail, All-push, All-replicate}
use Rattle.std.specs.Prelude.{All, IfSome, IsOk, IsSomeAnd, Vec}
use Rattle.std.specs.FinMap as files_by_name
use Rattle.dt_io.specs.Causes.{Rose}
use Rattle.dt_io.specs.Files.{Files, Held, NotHeld}
use Rattle.dt_io.specs.Folders.{FolderSeen, IsOnlyRead, Missed, ReadFailed}
use Rattle.dt_tool.specs.Inputs.{Input, Unread, missing, too_large, text_unless, text_in, texts_in, with_first}
use Rattle.dt_tool.specs.Inputs.{inputs_of, AreSomeInputs}
use Rattle.dt_tool.specs.Stops.{AreLoaded, StopsLoad, StopsLoading}
use Rattle.dt_tool.specs.View.{contents}
use Rattle.dt_tool.specs.declared.stop.Stop.{Stop}
use Rattle.dt_tool.specs.declared.stop.Stop.TheVariants as stops

abbrev Read : Type 0
Read = Result (List (List ℕ)) Unread

-- what is read of some, and then of others
abbrev joined : Read → Read → Read
joined (Err unread) others = Err unread
joined (Ok texts) (Err unread) = Err unread
joined (Ok texts) (Ok others) = Ok (texts ++ others)

joined_nothing : (read : Read) → joined (Ok []) read ≡ read
joined_nothing (Ok texts) = refl
joined_nothing (Err unread) = refl

joined_first : (first : Result (List ℕ) Unread) (some others : Read)
    → with_first first (joined some others) ≡ joined (with_first first some) others
joined_first (Err unread) some others = refl
joined_first (Ok text) (Err unread) others = refl
joined_first (Ok text) (Ok texts) (Err unread) = refl
joined_first (Ok text) (Ok texts) (Ok others) = refl

still : (folder : FolderSeen) → IsOnlyRead folder folder
still folder = record {
  files = refl;
  misses = omega arith;
  read_faults = omega arith;
  write_faults = refl;
  reads = omega arith;
}

module _ (limit : ℕ) where
  texts_joined : (inputs others : List Input) → texts_in limit (inputs ++ others) ≡ joined (texts_in limit inputs) (texts_in limit others)
  texts_joined [] others = sym (joined_nothing (texts_in limit others))
  texts_joined (input ∷ inputs) others = ap (with_first (text_in limit input)) (texts_joined inputs others)
      ∙ joined_first (text_in limit input) (texts_in limit inputs) (texts_in limit others)

  -- what is read of one file
  abbrev IsThis : (List ℕ → Type 0) → Option (List ℕ) → Type 0
  IsThis P None = ⊥
  IsThis P (Some file) = P file

  within : (name bytes : List ℕ) → length bytes ≤ limit → text_unless limit name (Some bytes) ≡ Ok bytes
  within name bytes small = ap (λ b. cond b (Err (too_large name)) (Ok bytes)) (le-ltb limit (length bytes) small)

  over : (name bytes : List ℕ) → limit < length bytes → text_unless limit name (Some bytes) ≡ Err (too_large name)
  over name bytes large = ap (λ b. cond b (Err (too_large name)) (Ok bytes)) (lt-ltb limit (length bytes) large)

  text_held : (name bytes : List ℕ) (held : Option (List ℕ)) → IsThis (λ file. bytes ≡ file) held
      → length bytes ≤ limit → text_unless limit name held ≡ Ok bytes
  text_held name bytes None h small = absurd h
  text_held name bytes (Some file) h small =
      subst (λ (f : List ℕ). text_unless limit name (Some f) ≡ Ok bytes) h (within name bytes small)

  large_held : (name : List ℕ) (held : Option (List ℕ)) → IsThis (λ file. limit < length file) held
      → text_unless limit name held ≡ Err (too_large name)
  large_held name None h = absurd h
  large_held name (Some file) h = over name file h

  -- one name of a list, and those before and behind it
  abbrev input_of : Files → List ℕ → Input
  input_of files name = record { name = name; content = files_by_name.get files name }

  inputs_more : (files : Files) (names : List (List ℕ)) (i : ℕ) (d : List ℕ) → i < length names
      → inputs_of files (take (suc i) names) ≡ inputs_of files (take i names) ++ input_of files (get_or names i d) ∷ []
  inputs_more files names i d h = ap (inputs_of files) (take-suc names i d h)
      ∙ map-append (input_of files) (take i names) (get_or names i d ∷ [])

  inputs_around : (files : Files) (names : List (List ℕ)) (i : ℕ) (d : List ℕ) → i < length names
      → inputs_of files names ≡ inputs_of files (take i names) ++ input_of files (get_or names i d) ∷ inputs_of files
      (drop (suc i) names)
  inputs_around files names i d h = ap (inputs_of files) (split_at names i d h)
      ∙ map-append (input_of files) (take i names) (get_or names i d ∷ drop (suc i) names)

  texts_more : (files : Files) (names : List (List ℕ)) (i : ℕ) (d : List ℕ) (texts : List (List ℕ)) (bytes : List ℕ)
      → i < length names → texts_in limit (inputs_of files (take i names)) ≡ Ok texts
      → text_unless limit (get_or names i d) (files_by_name.get files (get_or names i d)) ≡ Ok bytes
      → texts_in limit (inputs_of files (take (suc i) names)) ≡ Ok (texts ++ bytes ∷ [])
  texts_more files names i d texts bytes h read next =
      ap (texts_in limit) (inputs_more files names i d h)
      ∙ texts_joined (inputs_of files (take i names)) (input_of files (get_or names i d) ∷ [])
      ∙ ap (λ r. joined r (with_first (text_in limit (input_of files (get_or names i d))) (Ok []))) read
      ∙ ap (λ r. joined (Ok texts) (with_first r (Ok []))) next

  texts_stop : (files : Files) (names : List (List ℕ)) (i : ℕ) (d : List ℕ) (texts : List (List ℕ)) (unread : Unread)
      → i < length names → texts_in limit (inputs_of files (take i names)) ≡ Ok texts
      → text_unless limit (get_or names i d) (files_by_name.get files (get_or names i d)) ≡ Err unread
      → texts_in limit (inputs_of files names) ≡ Err unread
  texts_stop files names i d texts unread h read next =
      ap (texts_in limit) (inputs_around files names i d h)
      ∙ texts_joined (inputs_of files (take i names))
      (input_of files (get_or names i d) ∷ inputs_of files (drop (suc i) names))
      ∙ ap (λ r. joined r (with_first (text_in limit (input_of files (get_or names i d)))
      (texts_in limit (inputs_of files (drop (suc i) names))))) read
      ∙ ap (λ r. joined (Ok texts) (with_first r (texts_in limit (inputs_of files (drop (suc i) names))))) next

  held_more : (known : Option Files) (names : List (List ℕ)) (i : ℕ) (d : List ℕ) (texts : List (List ℕ))
      (bytes : List ℕ) → i < length names
      → IfSome known (λ files. texts_in limit (inputs_of files (take i names)) ≡ Ok texts)
      → Held known (get_or names i d) (λ file. bytes ≡ file) → length bytes ≤ limit
      → IfSome known (λ files. texts_in limit (inputs_of files (take (suc i) names)) ≡ Ok (texts ++ bytes ∷ []))
  held_more None names i d texts bytes h read held small = tt
  held_more (Some files) names i d texts bytes h read held small =
      texts_more files names i d texts bytes h read
      (text_held (get_or names i d) bytes (files_by_name.get files (get_or names i d)) held small)

  loaded_next : (known : Option Files) (names : List (List ℕ)) (i : ℕ) (name : List ℕ) (texts : List (List ℕ))
      (bytes : List ℕ) → i < length names → name ≡ get_or names i name → AreLoaded limit known (take i names) texts
      → Held known name (λ file. bytes ≡ file) → length bytes ≤ limit → All (λ b. b < 256) bytes
      → AreLoaded limit known (take (suc i) names) (texts ++ bytes ∷ [])
  loaded_next known names i name texts bytes h here loaded held small below = record {
    all = length-append texts (bytes ∷ []) ∙ ap (λ n. n + 1) loaded.all
        ∙ sym (ap length (take-suc names i name h) ∙ length-append (take i names) (get_or names i name ∷ []));
    small = All-push (λ text. length text ≤ limit) texts bytes loaded.small small;
    bytes = All-push (All (λ b. b < 256)) texts bytes loaded.bytes below;
    held = held_more known names i name texts bytes h loaded.held
        (subst (λ (n : List ℕ). Held known n (λ file. bytes ≡ file)) here held) small;
  }

  one_more_than : (i : ℕ) → suc i ≡ i + 1
  one_more_than i = omega arith

  -- one more is loaded
  pub loaded_more : (known : Option Files) (names : List (List ℕ)) (i : ℕ) (name : List ℕ) (texts : List (List ℕ))
      (bytes : List ℕ) → i < length names → name ≡ get_or names i name → AreLoaded limit known (take i names) texts
      → Held known name (λ file. bytes ≡ file) → length bytes ≤ limit → All (λ b. b < 256) bytes
      → AreLoaded limit known (take (i + 1) names) (texts ++ bytes ∷ [])
  loaded_more known names i name texts bytes h here loaded held small below =
      subst (λ (n : ℕ). AreLoaded limit known (take n names) (texts ++ bytes ∷ [])) (one_more_than i)
      (loaded_next known names i name texts bytes h here loaded held small below)

  -- the same of lists of the code
  pub loaded_pushed : {A : Type 0} (mid known : Option Files) (names : List (List ℕ)) (i : ℕ) (name : List ℕ)
      (files new : List (Vec ℕ A)) (bytes : Vec ℕ A) → new ≡ files ++ bytes ∷ [] → mid ≡ known → i < length names
      → name ≡ get_or names i name → AreLoaded limit known (take i names) (contents files)
      → Held mid name (λ file. bytes.items ≡ file) → length bytes.items ≤ limit
      → All (λ b. b < 256) bytes.items
      → AreLoaded limit known (take (i + 1) names) (contents new)
  loaded_pushed mid known names i name files new bytes pushed same h here loaded held small below =
      subst (λ (texts : List (List ℕ)). AreLoaded limit known (take (i + 1) names) texts)
      (sym (ap contents pushed ∙ map-append (λ file. file.items) files (bytes ∷ [])))
      (loaded_more known names i name (contents files) bytes.items h here loaded
      (subst (λ (k : Option Files). Held k name (λ file. bytes.items ≡ file)) same held) small below)

  rose_earlier : (before mid after : ℕ) → before ≤ mid → Rose mid after → Rose before after
  rose_earlier before mid after h rose = let r : Rose mid after = rose in omega (arith, r, h)

  missing_stop : (known : Option Files) (names : List (List ℕ)) (i : ℕ) (d : List ℕ) (texts : List (List ℕ))
      (Failed : Type 0) → i < length names
      → IfSome known (λ files. texts_in limit (inputs_of files (take i names)) ≡ Ok texts)
      → NotHeld known (get_or names i d) ⊎ Failed
      → IfSome known (λ files. (texts_in limit (inputs_of files names) ≡ Err (missing (get_or names i d))) ⊎ Failed)
  missing_stop None names i d texts Failed h read stop = tt
  missing_stop (Some files) names i d texts Failed h read (inl none) =
      inl (texts_stop files names i d texts (missing (get_or names i d)) h read
      (ap (text_unless limit (get_or names i d)) none))
  missing_stop (Some files) names i d texts Failed h read (inr failed) = inr failed

  large_stop : (known : Option Files) (names : List (List ℕ)) (i : ℕ) (d : List ℕ) (texts : List (List ℕ))
      → i < length names
      → IfSome known (λ files. texts_in limit (inputs_of files (take i names)) ≡ Ok texts)
      → Held known (get_or names i d) (λ file. limit < length file)
      → IfSome known (λ files. texts_in limit (inputs_of files names) ≡ Err (too_large (get_or names i d)))
  large_stop None names i d texts h read held = tt
  large_stop (Some files) names i d texts h read held =
      texts_stop files names i d texts (too_large (get_or names i d)) h read
      (large_held (get_or names i d) (files_by_name.get files (get_or names i d)) held)

  sooner : (before mid after : FolderSeen) → IsOnlyRead before mid → Missed mid after ⊎ ReadFailed mid after
      → Missed before after ⊎ ReadFailed before after
  sooner before mid after only (inl missed) = inl (rose_earlier before.misses mid.misses after.misses only.misses missed)
  sooner before mid after only (inr failed) =
      inr (rose_earlier before.read_faults mid.read_faults after.read_faults only.read_faults failed)

  failed_sooner : (before mid after : FolderSeen) (name : List ℕ) → IsOnlyRead before mid
      → NotHeld mid.files name ⊎ ReadFailed mid after → NotHeld before.files name ⊎ ReadFailed before after
  failed_sooner before mid after name only (inl none) =
      inl (subst (λ (known : Option Files). NotHeld known name) only.files none)
  failed_sooner before mid after name only (inr failed) =
      inr (rose_earlier before.read_faults mid.read_faults after.read_faults only.read_faults failed)

  -- those before it were read
  earlier_read : (known : Option Files) (names texts : List (List ℕ))
      → IfSome known (λ files. texts_in limit (inputs_of files names) ≡ Ok texts)
      → IfSome known (λ files. IsOk (texts_in limit (inputs_of files names)))
  earlier_read None names texts h = tt
  earlier_read (Some files) names texts h = let P : Read → Type 0 = λ r. IsOk r in subst P (sym h) refl

  stops_there : (before mid after : FolderSeen) (names : List (List ℕ)) (i : ℕ) (texts : List (List ℕ)) (stop : Stop)
      → i < length names → AreLoaded limit before.files (take i names) texts
      → IsOnlyRead before mid → StopsLoad limit mid after (get_or names i []) stop → StopsLoading limit before after names stop
  stops_there before mid after names i texts (stops.ReadFault message) h loaded only stop = record {
    place = i;
    unread = record {
      named = h;
      cause = sooner before mid after only stop.cause;
      stops = missing_stop before.files names i [] texts (ReadFailed before after) h loaded.held
          (failed_sooner before mid after (get_or names i []) only stop.missing);
      earlier = earlier_read before.files (take i names) texts loaded.held;
    };
    said = stop.said;
  }
  stops_there before mid after names i texts (stops.Refused message) h loaded only stop = record {
    place = i;
    named = h;
    said = stop.0;
    stops = large_stop before.files names i [] texts h loaded.held
        (subst (λ (known : Option Files). Held known (get_or names i []) (λ file. limit < length file))
        only.files stop.1);
  }
  stops_there before mid after names i texts stops.NoMemory h loaded only stop = tt

  same_item : (names : List (List ℕ)) (i : ℕ) (d e : List ℕ) → i < length names → get_or names i d ≡ get_or names i e
  same_item [] i d e h = absurd (omega arith)
  same_item (name ∷ names) zero d e h = refl
  same_item (name ∷ names) (suc i) d e h = same_item names i d e (omega arith)

  -- the reading stops at one
  pub stops_at : (before mid after : FolderSeen) (names : List (List ℕ)) (i : ℕ) (name : List ℕ) (texts : List (List ℕ))
      (stop : Stop) → i < length names → name ≡ get_or names i name → AreLoaded limit before.files (take i names) texts
      → IsOnlyRead before mid → StopsLoad limit mid after name stop → StopsLoading limit before after names stop
  stops_at before mid after names i name texts stop h here loaded only load =
      stops_there before mid after names i texts stop h loaded only
      (subst (λ (n : List ℕ). StopsLoad limit mid after n stop) (here ∙ same_item names i name [] h) load)

  -- inputs of these names that hold these texts, and nothing where there is none
  abbrev holding : List ℕ → List ℕ → Input
  holding name text = record { name = name; content = Some text }

  abbrev inputs_with : List (List ℕ) → List (List ℕ) → List Input
  inputs_with [] texts = []
  inputs_with (name ∷ names) [] = holding name [] ∷ inputs_with names []
  inputs_with (name ∷ names) (text ∷ texts) = holding name text ∷ inputs_with names texts

  abbrev HoldsBytes : Input → Type 0
  HoldsBytes input = IsSomeAnd input.content (All (λ b. b < 256))

  one_more : (name text : List ℕ) (names : List (List ℕ)) (inputs : List Input) → All (λ b. b < 256) text
      → AreSomeInputs names inputs → AreSomeInputs (name ∷ names) (holding name text ∷ inputs)
  one_more name text names inputs below rest = record {
    named = ap (λ ns. name ∷ ns) rest.named;
    bytes = All-cons HoldsBytes (holding name text) inputs below rest.bytes;
  }

  some_inputs : (names texts : List (List ℕ)) → All (All (λ b. b < 256)) texts
      → AreSomeInputs names (inputs_with names texts)
  some_inputs [] texts below = record { named = refl; bytes = All-nil HoldsBytes }
  some_inputs (name ∷ names) [] below =
      one_more name [] names (inputs_with names []) (All-nil (λ b. b < 256)) (some_inputs names [] below)
  some_inputs (name ∷ names) (text ∷ texts) below =
      one_more name text names (inputs_with names texts) (All-head (All (λ b. b < 256)) text texts below)
      (some_inputs names texts (All-tail (All (λ b. b < 256)) text texts below))

  -- what is read is read of some inputs
  pub record ReadOfSome (names : List (List ℕ)) (read : Result (List (List ℕ)) Unread) : Type 0 where
    pub inputs : List Input
    pub some : AreSomeInputs names inputs
    pub is : texts_in limit inputs ≡ read

  texts_with : (names texts : List (List ℕ)) → length texts ≡ length names
      → All (λ text. length text ≤ limit) texts → texts_in limit (inputs_with names texts) ≡ Ok texts
  texts_with [] [] all small = refl
  texts_with [] (text ∷ texts) all small = absurd (omega arith)
  texts_with (name ∷ names) [] all small = absurd (omega arith)
  texts_with (name ∷ names) (text ∷ texts) all small =
      ap (λ r. with_first r (texts_in limit (inputs_with names texts)))
      (within name text (All-head (λ t. length t ≤ limit) text texts small))
      ∙ ap (with_first (Ok text)) (texts_with names texts (omega arith)
      (All-tail (λ t. length t ≤ limit) text texts small))

  pub loaded_of_some : (known : Option Files) (names texts : List (List ℕ)) → AreLoaded limit known names texts
      → ReadOfSome names (Ok texts)
  loaded_of_some known names texts loaded = record {
    inputs = inputs_with names texts;
    some = some_inputs names texts loaded.bytes;
    is = texts_with names texts loaded.all loaded.small;
  }

  -- some bytes of this length
  record OfLength (n : ℕ) : Type 0 where
    pub bytes : List ℕ
    pub below : All (λ b. b < 256) bytes
    pub length : length bytes ≡ n

  of_length : (n : ℕ) → OfLength n
  of_length n = record {
    bytes = replicate n 0;
    below = All-replicate (λ b. b < 256) n 0 (omega arith);
    length = length-replicate n 0;
  }

  -- a file is too large for some bytes in it
  pub large_of_some : (names : List (List ℕ)) (k : ℕ) (d : List ℕ) → k < length names
      → ReadOfSome names (Err (too_large (get_or names k d)))
  large_of_some [] k d h = absurd (omega arith)
  large_of_some (name ∷ names) zero d h =
      let long : OfLength (limit + 1) = of_length (limit + 1) in
      let size : length long.bytes ≡ limit + 1 = long.length in
      record {
        inputs = holding name long.bytes ∷ inputs_with names [];
        some = one_more name long.bytes names (inputs_with names []) long.below
            (some_inputs names [] (All-nil (All (λ b. b < 256))));
        is = ap (λ r. with_first r (texts_in limit (inputs_with names []))) (over name long.bytes (omega arith));
      }
  large_of_some (name ∷ names) (suc k) d h =
      let rest = large_of_some names k d (omega arith) in
      record {
        inputs = holding name [] ∷ rest.inputs;
        some = one_more name [] names rest.inputs (All-nil (λ b. b < 256)) rest.some;
        is = ap (λ r. with_first r (texts_in limit rest.inputs)) (within name [] (omega arith))
            ∙ ap (with_first (Ok [])) rest.is;
      }

  -- one file alone
  held_one : (known : Option Files) (name bytes : List ℕ) → Held known name (λ file. bytes ≡ file)
      → length bytes ≤ limit → IfSome known (λ files. texts_in limit (inputs_of files (name ∷ [])) ≡ Ok (bytes ∷ []))
  held_one None name bytes held small = tt
  held_one (Some files) name bytes held small =
      ap (λ r. with_first r (Ok [])) (text_held name bytes (files_by_name.get files name) held small)

  pub loaded_one : (known : Option Files) (name bytes : List ℕ) → Held known name (λ file. bytes ≡ file)
      → length bytes ≤ limit → All (λ b. b < 256) bytes → AreLoaded limit known (name ∷ []) (bytes ∷ [])
  loaded_one known name bytes held small below = record {
    all = refl;
    small = All-cons (λ text. length text ≤ limit) bytes [] small (All-nil (λ text. length text ≤ limit));
    bytes = All-cons (All (λ b. b < 256)) bytes [] below (All-nil (All (λ b. b < 256)));
    held = held_one known name bytes held small;
  }

  none_loaded : (known : Option Files) → AreLoaded limit known [] []
  none_loaded known = record {
    all = refl;
    small = All-nil (λ text. length text ≤ limit);
    bytes = All-nil (All (λ b. b < 256));
    held = none_held known;
  }
    where
      none_held : (known : Option Files) → IfSome known (λ files. texts_in limit (inputs_of files []) ≡ Ok [])
      none_held None = tt
      none_held (Some files) = refl

  pub stops_one : (before after : FolderSeen) (name : List ℕ) (stop : Stop) → StopsLoad limit before after name stop
      → StopsLoading limit before after (name ∷ []) stop
  stops_one before after name stop load =
      stops_at before before after (name ∷ []) 0 name [] stop (omega arith) refl (none_loaded before.files)
      (still before) load
