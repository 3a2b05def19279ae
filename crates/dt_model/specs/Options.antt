-- What a command line may give (docs/devel/decodetree.rst, "--decode" and "--translate").
use Rattle.std.specs.Prelude.{ℕ, ◌≡◌, Bool, true, false, IsTrue, List, [], ◌∷◌, ◌==◌, ◌||◌, nat_le, not, length, codes}
use Rattle.std.specs.Char.{is_ascii_alphabetic}
use Rattle.std.specs.List.{list_all}
use Rattle.dt_values.specs.Names.{is_name_byte}
use Rattle.dt_values.specs.declared.width.Width.TheVariants.{W32}
use Rattle.dt_fields.specs.CNames.{is_keyword}
use Rattle.dt_model.specs.declared.options.Options.{Options}

-- a letter or an underscore, and then name bytes
abbrev pub begins_as_name : List ℕ → Bool
begins_as_name [] = false
begins_as_name (b ∷ bs) = is_ascii_alphabetic b || (b == 95)

-- a record, so that each of its facts has a name
pub record IsOptionName (name : List ℕ) : Type 0 where
  pub begins : IsTrue (begins_as_name name)
  pub name_bytes : IsTrue (list_all is_name_byte name)
  pub short : IsTrue (nat_le (length name) 100)
  pub no_keyword : IsTrue (not (is_keyword name))

-- options that a reader takes: words of one width, and names that C text can have
pub record IsOptions (options : Options) : Type 0 where
  pub fixed : options.variable ≡ false
  pub decode : IsOptionName options.decode
  pub translate : IsOptionName options.translate

-- what holds where no word says otherwise
abbrev pub default_options : Options
default_options = record {
  width = W32;
  variable = false;
  decode = codes "decode";
  decode_static = true;
  translate = codes "trans";
  translate_static = true;
}
