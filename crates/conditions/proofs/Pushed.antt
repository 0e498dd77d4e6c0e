-- What a list shows once it has one item more.
use Rattle.std.proofs.Common.{◌≡◌, List, [], ◌∷◌, ◌++◌, map, ap, ◌∙◌}
use mathlib.Core.List.{map-append}

pub one_more_of : {A B : Type 0} (f : A → B) (xs ys : List A) (x : A) → ys ≡ xs ++ (x ∷ []) → map f ys ≡ map f xs ++ (f x ∷ [])
one_more_of f xs ys x e = ap (map f) e ∙ map-append f xs (x ∷ [])
