-- Which tokens a C text has, as rules (C17, 6.4 and 6.4.9; the C subset, docs/C_SUBSET.md).
use Rattle.std.specs.Prelude.{◌≡◌, ℕ, IsTrue, List, [], ◌∷◌, ◌++◌, codes}
use Rattle.dt_values.specs.Names.{is_name_byte}
use Rattle.c_tokens.specs.Bytes.{is_white, is_mark, IsWord}
use Rattle.c_tokens.specs.Tokens.{Token, word, mark, double_equals, arrow}

-- the text has a first byte, and P holds of it
abbrev pub Begins : (ℕ → Type 0) → List ℕ → Type 0
Begins P [] = ⊥
Begins P (byte ∷ text) = P byte

-- no star with a slash behind it is among the bytes
abbrev pub HasNoEnd : List ℕ → Type 0
HasNoEnd bytes = (prefix suffix : List ℕ) → ¬ (bytes ≡ prefix ++ codes "*/" ++ suffix)

-- Each rule but the first says what stands at the start of a text: white space and comments add no token, all else
-- adds one. 61 is `=`, 45 is `-` and 62 is `>`.
pub data IsLexed : List ℕ → List Token → Type 0 where
  nothing : IsLexed [] []
  white : (byte : ℕ) (text : List ℕ) (tokens : List Token) → IsTrue (is_white byte)
      → IsLexed text tokens → IsLexed (byte ∷ text) tokens
  comment : (inside text : List ℕ) (tokens : List Token) → HasNoEnd inside
      → IsLexed text tokens → IsLexed (codes "/*" ++ inside ++ codes "*/" ++ text) tokens
  longest_word : (bytes text : List ℕ) (tokens : List Token) → IsWord bytes
      → ¬ Begins (λ byte. IsTrue (is_name_byte byte)) text
      → IsLexed text tokens → IsLexed (bytes ++ text) (word bytes ∷ tokens)
  two_equals : (text : List ℕ) (tokens : List Token)
      → IsLexed text tokens → IsLexed (codes "==" ++ text) (double_equals ∷ tokens)
  one_equals : (text : List ℕ) (tokens : List Token) → ¬ Begins (λ byte. byte ≡ 61) text
      → IsLexed text tokens → IsLexed (codes "=" ++ text) (mark 61 ∷ tokens)
  dash_above : (text : List ℕ) (tokens : List Token)
      → IsLexed text tokens → IsLexed (codes "->" ++ text) (arrow ∷ tokens)
  one_dash : (text : List ℕ) (tokens : List Token) → ¬ Begins (λ byte. byte ≡ 62) text
      → IsLexed text tokens → IsLexed (codes "-" ++ text) (mark 45 ∷ tokens)
  one_mark : (byte : ℕ) (text : List ℕ) (tokens : List Token) → IsTrue (is_mark byte)
      → IsLexed text tokens → IsLexed (byte ∷ text) (mark byte ∷ tokens)
