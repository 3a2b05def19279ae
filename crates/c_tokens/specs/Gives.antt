-- What a function that reads tokens and takes memory answers: what its reader finds, unless memory ran out.
use Rattle.std.specs.Prelude.{◌≡◌, Option, Some, None, Result, Ok, Err}
use Rattle.c_tokens.specs.declared.fault.ReadFault.{ReadFault}
use Rattle.c_tokens.specs.declared.fault.ReadFault.TheVariants as fault

abbrev pub Fails : {Y : Type 0} → ReadFault → Option Y → Type 0
Fails fault.NotSubset read = read ≡ None
Fails fault.NoMemory read = Unit {0}

-- the result, under another form, is what is read
abbrev pub Gives : {X Y : Type 0} → (X → Y) → Result X ReadFault → Option Y → Type 0
Gives view (Ok x) read = read ≡ Some (view x)
Gives view (Err e) read = Fails e read
