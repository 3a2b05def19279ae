-- Texts with their tokens.
use Rattle.std.specs.Prelude.{◌≡◌, [], ◌∷◌, Some, None, codes}
use Rattle.c_tokens.specs.Tokens.{word, mark, double_equals, arrow, tokens_of}

pub record TokenExamples : Type 0 where
  pub all_kinds : tokens_of (codes "a/* x **/b==c->d= ===/***/-\t1_Z") ≡ Some
      (word (codes "a") ∷ word (codes "b") ∷ double_equals ∷ word (codes "c") ∷ arrow ∷ word
      (codes "d") ∷ mark 61 ∷ double_equals ∷ mark 61 ∷ mark 45 ∷ word (codes "1_Z") ∷ [])
  pub lone_slash : tokens_of (codes "a / b") ≡ None
  pub open_comment : tokens_of (codes "a /* b") ≡ None
  pub shortest_comment : tokens_of (codes "/*/ a") ≡ None
  pub lone_above : tokens_of (codes "a > b") ≡ None
