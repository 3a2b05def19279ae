-- What holds of each item of a list, by index and by recursion.
use Rattle.std.proofs.Common.{List, [], ◌∷◌}
use Rattle.std.specs.List.{All, AllByRecursion}
use Rattle.std.proofs.lemmas.List.Elements.{All-nil, All-cons, All-head, All-tail}

pub each_there : {A : Type 0} (P : A → Type 0) (xs : List A) → All P xs → AllByRecursion P xs
each_there P [] h = tt
each_there P (x ∷ xs) h = (All-head P x xs h, each_there P xs (All-tail P x xs h))

pub each_back : {A : Type 0} (P : A → Type 0) (xs : List A) → AllByRecursion P xs → All P xs
each_back P [] h = All-nil P
each_back P (x ∷ xs) h = All-cons P x xs h.0 (each_back P xs h.1)

-- two facts of each item
pub both_there : {A : Type 0} (P Q R : A → Type 0) → ((x : A) → P x → Q x → R x)
    → (xs : List A) → All P xs → All Q xs → AllByRecursion R xs
both_there P Q R f [] h k = tt
both_there P Q R f (x ∷ xs) h k =
    (f x (All-head P x xs h) (All-head Q x xs k), both_there P Q R f xs (All-tail P x xs h) (All-tail Q x xs k))

pub one_of_both : {A : Type 0} (P R : A → Type 0) → ((x : A) → R x → P x)
    → (xs : List A) → AllByRecursion R xs → All P xs
one_of_both P R f [] h = All-nil P
one_of_both P R f (x ∷ xs) h = All-cons P x xs (f x h.0) (one_of_both P R f xs h.1)
