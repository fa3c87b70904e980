-- Lists that are made of others, item by item.
use Rattle.std.proofs.Common.{◌≡◌, ℕ, ◌+◌, ◌<◌, ◌≤◌, List, [], ◌∷◌, ◌++◌, drop, length, map, get_or, ap, sym, ◌∙◌}
use Rattle.std.proofs.lemmas.List.{append_assoc, append-nil, drop_all, drop_more}

module _ {X Y : Type 0} (f : X → Y) (xs : List X) (i : ℕ) (so_far : List Y) where
  -- so many are made, and the others are to come
  abbrev pub MadeSoFar : Type 0
  MadeSoFar = so_far ++ map f (drop i xs) ≡ map f xs

  pub made-more : (x : X) (y : Y) → i < length xs → x ≡ get_or xs i x → y ≡ f x → MadeSoFar → (so_far ++ y ∷ []) ++ map f (drop (i + 1) xs) ≡ map f xs
  made-more x y inside is made so =
      append_assoc so_far (y ∷ []) (map f (drop (i + 1) xs))
      ∙ ap (λ (z : Y). so_far ++ z ∷ map f (drop (i + 1) xs)) made
      ∙ ap (λ (ys : List X). so_far ++ map f ys) (sym (drop_more xs i x inside ∙ ap (λ (first : X). first ∷ drop (i + 1) xs) (sym is)))
      ∙ so

  pub made-all : length xs ≤ i → MadeSoFar → so_far ≡ map f xs
  made-all past so = sym (append-nil so_far) ∙ ap (λ (ys : List X). so_far ++ map f ys) (sym (drop_all i xs past)) ∙ so
