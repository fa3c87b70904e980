-- The tree that was made again is the same.
use Rattle.std.proofs.Common.{◌≡◌, ℕ, Bool, true, false, List, [], ◌∷◌, ◌++◌, map, subst, refl, ap, sym, ◌∙◌, inl, inr, append_assoc}
use Rattle.std.specs.Prelude.{◌||◌, Option, Some, None, option_and_then}
use Rattle.std.specs.List.{AllByRecursion, list_any}
use Rattle.std.specs.Option.{option_map, unwrap_or}
use Rattle.std.proofs.lemmas.Bool.{and_parts}
use Rattle.std.proofs.lemmas.List.Folds.{list_all-append}
use Rattle.hac_model.specs.Query.Formula.{Formula}
use Rattle.hac_model.specs.Query.Formula as query
use Rattle.hac_model.specs.Query.QueryText.{referred_by}
use Rattle.hac_model.specs.Query.Queries.{is_query}
use Rattle.hac_model.specs.Tree.Depends.{Among, named_in}
use Rattle.hac_model.specs.Tree.Events.{are_directories}
use Rattle.hac_model.specs.Tree.Links.{has}
use Rattle.hac_model.specs.Tree.Looks.{body_of, stands_at}
use Rattle.std.proofs.lemmas.List.{append-nil}
use Rattle.hac_model.specs.Tree.{child, entry_at, is_directory_at, is_document, is_mount, path_of, permanent_in, prohibited_in}
use Rattle.hac_model.specs.Tree.Valid.{AsksWell, IsLayout, IsSoundQuery, IsValid}
use Rattle.hac_model.specs.declared.states.Body.{Body}
use Rattle.hac_model.specs.declared.states.Body.TheVariants.{File, Dir, Symlink, Semantic, Mount, Document}
use Rattle.hac_model.specs.declared.states.Entry.{Entry}
use Rattle.hac_model.specs.declared.states.State.{State}
use Rattle.hac_model.proofs.AmongLemmas.{among-has, has-among}
use Rattle.hac_model.proofs.CycleLemmas.{among-any, any-among}
use Rattle.hac_model.proofs.LookLemmas.{child-path, child-lives}
use Rattle.hac_model.proofs.PathLemmas.{path_of-root, root-none}
use Rattle.hac_model.proofs.PlainLemmas.{stands-path}
use Rattle.hac_model.proofs.TreeLemmas.{Lives, directory-lives, entry_at-all, entry_at-number}
use Rattle.hac_model.specs.Tree.Same.{Names, Same, Sight, semantic, is_among_paths, is_same_path, sight, sight_at}
use Rattle.hac_dump.proofs.FinalLemmas.{final, final-marks}
use Rattle.hac_dump.proofs.PartLemmas.{IsPart, IsStage, Stages, made-entry, made-lives, made-path, made-root, made-there, moved-back, part, stages-all}
use Rattle.hac_dump.proofs.StageLemmas.{IsPlainKind}

-- what a path leads to has it
stands-found : (s : State) (dir : ℕ) (names : List (List ℕ)) (n : ℕ) → IsLayout s → Lives s.entries dir → stands_at s.entries dir names ≡ Some n → (path_of s n ≡ path_of s dir ++ names) × Lives s.entries n
stands-found s dir [] n h lives is = let same : dir ≡ n = cc in (ap (path_of s) (sym same) ∙ sym (append-nil (path_of s dir)), subst (λ (k : ℕ). Lives s.entries k) same lives)
stands-found s dir (name ∷ names) n h lives is = at (child s.entries dir name) refl is (λ m. stands-found s m names n h)
  where
    at : (o : Option ℕ) → child s.entries dir name ≡ o → option_and_then (λ number. stands_at s.entries number names) o ≡ Some n
        → ((m : ℕ) → Lives s.entries m → stands_at s.entries m names ≡ Some n → (path_of s n ≡ path_of s m ++ names) × Lives s.entries n)
        → (path_of s n ≡ path_of s dir ++ name ∷ names) × Lives s.entries n
    at None found is on = absurd cc
    at (Some m) found is on =
        let rest = on m (child-lives s.entries dir name m found) is in
        (rest.0 ∙ ap (λ (path : Names). path ++ names) (child-path s dir m name h found) ∙ append_assoc (path_of s dir) (name ∷ []) names, rest.1)

-- two lists of the same numbers pass the same tests
any-same : (p : ℕ → Bool) (xs ys : List ℕ) → ((m : ℕ) → has xs m ≡ has ys m) → list_any p xs ≡ list_any p ys
any-same p xs ys same = both (list_any p xs) (list_any p ys) (one xs ys same) (one ys xs (λ m. sym (same m)))
  where
    one : (xs ys : List ℕ) → ((m : ℕ) → has xs m ≡ has ys m) → list_any p xs ≡ true → list_any p ys ≡ true
    one xs ys same is = let found = among-any p xs is in any-among p ys found.0 (has-among ys found.0 (sym (same found.0) ∙ among-has xs found.0 found.1)) found.2

    both : (a b : Bool) → (a ≡ true → b ≡ true) → (b ≡ true → a ≡ true) → a ≡ b
    both true b to back = sym (to refl)
    both false true to back = back refl
    both false false to back = refl

module _ (s : State) (ρ : ℕ → ℕ) (es : List Entry) (h : IsValid s) (plain : (e : Entry) → entry_at s.entries e.number ≡ Some e → IsPlainKind e.body) (p : IsPart s ρ es) (complete : (n : ℕ) → Lives s.entries n → Lives es n)
    (stages : Stages s (λ e. final ρ e.body))
    (kept : (e : Entry) (k : ℕ) → entry_at s.entries e.number ≡ Some e → Among (permanent_in e.body) k → Lives s.entries k)
    (removed : (e : Entry) (k : ℕ) → entry_at s.entries e.number ≡ Some e → Among (prohibited_in e.body) k → Lives s.entries k)
    (apart : (e : Entry) (k : ℕ) → entry_at s.entries e.number ≡ Some e → Among (prohibited_in e.body) k → has (map ρ (permanent_in e.body)) (ρ k) ≡ false)
    (layout : IsLayout (part ρ (λ e. final ρ e.body) [] es)) where
  abbrev t : State
  t = part ρ (λ e. final ρ e.body) [] es

  fits : AllByRecursion (λ e. IsStage (final ρ e.body) e.body) es
  fits = stages-all s (λ e. final ρ e.body) es stages p.from

  path-same : (n : ℕ) → Lives s.entries n → path_of t (ρ n) ≡ path_of s n
  path-same n lives = made-path s ρ (λ e. final ρ e.body) [] es h.layout p fits layout n lives (complete n lives)

  query-same : (q : Formula ℕ) → are_directories s (named_in q) ≡ true → referred_by (path_of t) (referred_by ρ q) ≡ referred_by (path_of s) q
  query-same (query.Term term) there = refl
  query-same (query.Dir dir) there = ap (λ (path : Names). query.Dir path) (path-same dir (directory-lives s.entries dir (and_parts (is_directory_at s.entries dir) true there).0))
  query-same (query.Not q) there = ap (λ (f : Formula Names). query.Not f) (query-same q there)
  query-same (query.And left right) there =
      let parts = and_parts (are_directories s (named_in left)) (are_directories s (named_in right)) (sym (list_all-append (λ dir. is_directory_at s.entries dir) (named_in left) (named_in right)) ∙ there) in
      λ i. query.And (query-same left parts.0 i) (query-same right parts.1 i)
  query-same (query.Or left right) there =
      let parts = and_parts (are_directories s (named_in left)) (are_directories s (named_in right)) (sym (list_all-append (λ dir. is_directory_at s.entries dir) (named_in left) (named_in right)) ∙ there) in
      λ i. query.Or (query-same left parts.0 i) (query-same right parts.1 i)

  marks-same : (ns : List ℕ) (path : Names) → ((k : ℕ) → Among ns k → Lives s.entries k) → is_among_paths t (map ρ ns) path ≡ is_among_paths s ns path
  marks-same [] path lives = refl
  marks-same (n ∷ ns) path lives = λ i. is_same_path (path-same n (lives n (inl refl)) i) path || marks-same ns path (λ k later. lives k (inr later)) i

  -- what stands there is the same
  body-same : (e : Entry) → entry_at s.entries e.number ≡ Some e → sight t (final ρ e.body) ≡ sight s e.body
  body-same e there = at e.body refl
    where
      at : (body : Body) → e.body ≡ body → sight t (final ρ body) ≡ sight s body
      at (File text dirty shown) is = refl
      at Dir is = refl
      at (Symlink target) is = refl
      at (Mount space kept) is = let kind = plain e there in let no = sym (ap is_mount is) ∙ kind.mount in absurd cc
      at Document is = let kind = plain e there in let no = sym (ap is_document is) ∙ kind.document in absurd cc
      at (Semantic q permanent prohibited) is =
          let m = final-marks ρ q permanent prohibited (λ k inside. ap (λ (b : Body). has (map ρ (permanent_in b)) (ρ k)) (sym is) ∙ apart e k there (subst (λ (b : Body). Among (prohibited_in b) k) (sym is) inside)) in
          ap (sight t) m.is
          ∙ (λ i. semantic (query-same q named i)
          (λ path. (any-same (λ n. is_same_path (path_of t n) path) m.permanent (map ρ permanent) m.adds_all ∙ marks-same permanent path (λ k inside. kept e k there (subst (λ (b : Body). Among (permanent_in b) k) (sym is) inside))) i)
          (λ path. (any-same (λ n. is_same_path (path_of t n) path) m.prohibited (map ρ prohibited) m.removes_all ∙ marks-same prohibited path (λ k inside. removed e k there (subst (λ (b : Body). Among (prohibited_in b) k) (sym is) inside))) i))
        where
          sound : IsSoundQuery s q permanent prohibited
          sound = subst (λ (b : Body). AsksWell s b) is (entry_at-all (λ e. AsksWell s e.body) s.entries e.number e h.queries there)

          named : are_directories s (named_in q) ≡ true
          named = (and_parts (is_query q) (are_directories s (named_in q)) sound.fits).1

  number-same : (n : ℕ) → Lives s.entries n → sight t (body_of t (ρ n)) ≡ sight s (body_of s n)
  number-same n (inl root) =
      ap (λ (o : Option Entry). sight t (unwrap_or (option_map (λ (e : Entry). e.body) o) Dir)) (ap (λ (k : ℕ). entry_at t.entries (ρ k)) root ∙ ap (entry_at t.entries) p.root ∙ made-root s ρ (λ e. final ρ e.body) [] es h.layout p fits)
      ∙ sym (ap (λ (o : Option Entry). sight s (unwrap_or (option_map (λ (e : Entry). e.body) o) Dir)) (ap (entry_at s.entries) root ∙ root-none s h.layout))
  number-same n (inr (e, there)) =
      ap (λ (o : Option Entry). sight t (unwrap_or (option_map (λ (e : Entry). e.body) o) Dir)) (made-entry s ρ (λ e. final ρ e.body) [] es h.layout p fits n e (own (complete n (inr (e, there)))))
      ∙ body-same e (ap (entry_at s.entries) (entry_at-number s.entries n e there) ∙ there)
      ∙ sym (ap (λ (o : Option Entry). sight s (unwrap_or (option_map (λ (e : Entry). e.body) o) Dir)) there)
    where
      own : Lives es n → entry_at es n ≡ Some e
      own (inl root) = let none : None ≡ Some e = sym (ap (entry_at s.entries) root ∙ root-none s h.layout) ∙ there in absurd cc
      own (inr (f, other)) = let both : Some f ≡ Some e = sym (made-there s ρ (λ e. final ρ e.body) [] es h.layout p fits n f other) ∙ there in other ∙ both

  pub made-same : Same s t
  made-same path = at (stands_at s.entries 0 path) refl
    where
      at : (o : Option ℕ) → stands_at s.entries 0 path ≡ o → option_map (λ n. sight s (body_of s n)) o ≡ sight_at t path
      at (Some n) is =
          let found = stands-found s 0 path n h.layout (inl refl) is in
          let here : path_of s n ≡ path = found.0 ∙ ap (λ (base : Names). base ++ path) (path_of-root s h.layout) in
          let there : stands_at t.entries 0 path ≡ Some (ρ n) =
          ap (stands_at t.entries 0) (sym here ∙ sym (path-same n found.1)) ∙ stands-path t (ρ n) layout (made-lives s ρ (λ e. final ρ e.body) [] es h.layout p fits n (complete n found.1)) in
          sym (ap (λ (o : Option ℕ). option_map (λ n. sight t (body_of t n)) o) there ∙ ap (λ (x : Sight). Some x) (number-same n found.1))
      at None is = none (stands_at t.entries 0 path) refl
        where
          -- what stands in the new tree stands in the old one
          from : (m : ℕ) → path_of t m ≡ path → Lives t.entries m → ⊥
          from m here (inl root) =
              let empty : path ≡ [] = sym here ∙ ap (path_of t) root ∙ path_of-root t layout in
              let never : Some 0 ≡ None = sym (ap (stands_at s.entries 0) empty) ∙ is in absurd cc
          from m here (inr (f, found)) =
              let back = moved-back ρ (λ e. final ρ e.body) 1 es m f p.counted found in
              let old : Lives s.entries back.0.number = inr (back.0, made-there s ρ (λ e. final ρ e.body) [] es h.layout p fits back.0.number back.0 back.1) in
              let same : path_of s back.0.number ≡ path = sym (path-same back.0.number old) ∙ ap (path_of t) back.2 ∙ here in
              let never : Some back.0.number ≡ None = sym (ap (stands_at s.entries 0) (sym same) ∙ stands-path s back.0.number h.layout old) ∙ is in
              absurd cc

          none : (o : Option ℕ) → stands_at t.entries 0 path ≡ o → None ≡ sight_at t path
          none None there = sym (ap (λ (o : Option ℕ). option_map (λ n. sight t (body_of t n)) o) there)
          none (Some m) there =
              let found = stands-found t 0 path m layout (inl refl) there in
              absurd (from m (found.0 ∙ ap (λ (base : Names). base ++ path) (path_of-root t layout)) found.1)
