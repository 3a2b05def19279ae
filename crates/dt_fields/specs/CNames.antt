-- Identifiers (docs/devel/decodetree.rst, "Fields"), C names (C17, 6.4.2.1) and the keywords, which are no C names.
use Rattle.std.specs.Prelude.{ℕ, Bool, false, IsTrue, List, [], ◌∷◌, ◌&&◌, not, codes}
use Rattle.std.specs.Char.{is_ascii_alphabetic}
use Rattle.std.specs.List.{list_any}
use Rattle.dt_values.specs.Names.{is_name}
use Rattle.dt_values.specs.Types.{is_text}

-- the keywords of C (C17, 6.4.1) without those that begin with an underscore
abbrev pub keywords : List (List ℕ)
keywords =
    codes "auto" ∷ codes "break" ∷ codes "case" ∷ codes "char" ∷ codes "const" ∷ codes "continue" ∷ codes "default"
    ∷ codes "do" ∷ codes "double" ∷ codes "else" ∷ codes "enum" ∷ codes "extern" ∷ codes "float" ∷ codes "for"
    ∷ codes "goto" ∷ codes "if" ∷ codes "inline" ∷ codes "int" ∷ codes "long" ∷ codes "register" ∷ codes "restrict"
    ∷ codes "return" ∷ codes "short" ∷ codes "signed" ∷ codes "sizeof" ∷ codes "static" ∷ codes "struct"
    ∷ codes "switch" ∷ codes "typedef" ∷ codes "union" ∷ codes "unsigned" ∷ codes "void" ∷ codes "volatile"
    ∷ codes "while" ∷ []

abbrev pub is_keyword : List ℕ → Bool
is_keyword name = list_any (is_text name) keywords

abbrev pub begins_with_letter : List ℕ → Bool
begins_with_letter [] = false
begins_with_letter (b ∷ bs) = is_ascii_alphabetic b

-- an identifier: a name that begins with a letter
abbrev pub is_ident : List ℕ → Bool
is_ident text = begins_with_letter text && is_name text

-- a C name: an identifier that is no keyword
abbrev pub is_c_name : List ℕ → Bool
is_c_name text = is_ident text && not (is_keyword text)

abbrev pub IsCName : List ℕ → Type 0
IsCName text = IsTrue (is_c_name text)
