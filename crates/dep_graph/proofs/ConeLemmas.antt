-- A pass over all numbers in order, which keeps those that reach some of the directories.
use Rattle.std.proofs.Common.{◌≡◌, ◌≢◌, ℕ, zero, suc, Bool, true, false, List, [], ◌∷◌, ◌++◌, subst, refl, sym, ◌∙◌, append_assoc, inl, inr}
use Rattle.std.specs.Prelude.{◌⊎◌, ◌||◌}
use Rattle.std.specs.List.{list_any}
use Rattle.std.proofs.lemmas.List.{append-nil}
use Rattle.hac_model.specs.Tree.Depends.{Among}
use Rattle.hac_model.proofs.AmongLemmas.{among-append, among-left, among-right}
use Rattle.hac_model.proofs.CycleLemmas.{among-any, any-among}
use Rattle.dep_graph.specs.Searches.{IsCone, IsOrdered, ReachesAny}
use Rattle.dep_graph.specs.Steps.{Marks}
use Rattle.dep_graph.proofs.OwedLemmas.{marks-more, marks-same}
use Rattle.dep_graph.proofs.ReachLemmas.{marks-cases}
use Rattle.std.proofs.lemmas.Bool.{or_cases, or_left, or_right}

-- those kept and those that are left are in order, the set has the directories and those kept, and what reaches a directory is kept or left
pub record Keeping (edges : ℕ → List ℕ) (dirs cone left : List ℕ) (set : ℕ → Bool) : Type 0 where
  pub ordered : IsOrdered edges (cone ++ left)
  pub from_set : (n : ℕ) → set n ≡ true → Among dirs n ⊎ Among cone n
  pub in_set : (n : ℕ) → Among dirs n ⊎ Among cone n → set n ≡ true
  pub reaching : (n : ℕ) → Among cone n → (edges n ≢ []) × ReachesAny edges n dirs
  pub some : (n : ℕ) → Among left n → edges n ≢ []
  pub all : (n : ℕ) → edges n ≢ [] → ReachesAny edges n dirs → Among cone n ⊎ Among left n

-- the number is in the set, or some of its edges leads there
abbrev pub leads_in : (ℕ → List ℕ) → (ℕ → Bool) → ℕ → Bool
leads_in edges set n = set n || list_any (λ edge. set edge) (edges n)

-- ---- one that reaches none is passed by

among-wider : (xs left : List ℕ) (n m : ℕ) → Among (xs ++ left) m → Among (xs ++ n ∷ left) m
among-wider [] left n m h = inr h
among-wider (x ∷ xs) left n m (inl same) = inl same
among-wider (x ∷ xs) left n m (inr there) = inr (among-wider xs left n m there)

ordered-without : (edges : ℕ → List ℕ) (xs left : List ℕ) (n : ℕ) → IsOrdered edges (xs ++ n ∷ left) → IsOrdered edges (xs ++ left)
ordered-without edges [] left n h = h.2
ordered-without edges (x ∷ xs) left n h = (λ there. h.0 (among-wider xs left n x there), λ next edge there. h.1 next edge (among-wider (x ∷ xs) left n next there), ordered-without edges xs left n h.2)

ordered-off : (edges : ℕ → List ℕ) (xs left : List ℕ) (n next : ℕ) → IsOrdered edges (xs ++ n ∷ left) → Among (edges n) next → Among (n ∷ left) next → ⊥
ordered-off edges [] left n next h edge there = h.1 next edge there
ordered-off edges (x ∷ xs) left n next h edge there = ordered-off edges xs left n next h.2 edge there

pub bare-or-some : (xs : List ℕ) → (xs ≡ []) ⊎ (xs ≢ [])
bare-or-some [] = inl refl
bare-or-some (x ∷ xs) = inr (λ never. absurd cc)

-- a number with no edges reaches nothing but itself
bare-reaches : (edges : ℕ → List ℕ) (dirs : List ℕ) (n : ℕ) → edges n ≡ [] → ReachesAny edges n dirs → Among dirs n
bare-reaches edges dirs n none (to, there, (zero, here)) = subst (λ (x : ℕ). Among dirs x) (sym here) there
bare-reaches edges dirs n none (to, there, (suc k, (next, edge, more))) = let never : Among [] next = subst (λ (ns : List ℕ). Among ns next) none edge in absurd never

-- what a number with edges leads to and reaches a directory is in the set
next-in : (edges : ℕ → List ℕ) (dirs cone left : List ℕ) (set : ℕ → Bool) (n next : ℕ) → Keeping edges dirs cone (n ∷ left) set → Among (edges n) next → ReachesAny edges next dirs → set next ≡ true
next-in edges dirs cone left set n next h edge reach = by_edges (bare-or-some (edges next))
  where
    by_place : Among cone next ⊎ Among (n ∷ left) next → set next ≡ true
    by_place (inl there) = h.in_set next (inr there)
    by_place (inr later) = absurd (ordered-off edges cone left n next h.ordered edge later)

    by_edges : (edges next ≡ []) ⊎ (edges next ≢ []) → set next ≡ true
    by_edges (inl none) = h.in_set next (inl (bare-reaches edges dirs next none reach))
    by_edges (inr some) = by_place (h.all next some reach)

reaching-in : (edges : ℕ → List ℕ) (dirs cone left : List ℕ) (set : ℕ → Bool) (n : ℕ) → Keeping edges dirs cone (n ∷ left) set → ReachesAny edges n dirs → leads_in edges set n ≡ true
reaching-in edges dirs cone left set n h (to, there, (zero, here)) = or_left (set n) (list_any (λ edge. set edge) (edges n)) (h.in_set n (inl (subst (λ (x : ℕ). Among dirs x) (sym here) there)))
reaching-in edges dirs cone left set n h (to, there, (suc k, (next, edge, more))) = or_right (set n) (list_any (λ edge. set edge) (edges n)) (any-among (λ edge. set edge) (edges n) next edge (next-in edges dirs cone left set n next h edge (to, there, (k, more))))

pub keeping-passes : (edges : ℕ → List ℕ) (dirs cone left : List ℕ) (set : ℕ → Bool) (n : ℕ) → Keeping edges dirs cone (n ∷ left) set → leads_in edges set n ≡ false → Keeping edges dirs cone left set
keeping-passes edges dirs cone left set n h out = record {
  ordered = ordered-without edges cone left n h.ordered;
  from_set = h.from_set;
  in_set = h.in_set;
  reaching = h.reaching;
  some = λ m there. h.some m (inr there);
  all = λ m some reach. later m reach (h.all m some reach);
}
  where
    later : (m : ℕ) → ReachesAny edges m dirs → Among cone m ⊎ Among (n ∷ left) m → Among cone m ⊎ Among left m
    later m reach (inl there) = inl there
    later m reach (inr (inr there)) = inr there
    later m reach (inr (inl same)) = let never : false ≡ true = sym out ∙ reaching-in edges dirs cone left set n h (subst (λ (x : ℕ). ReachesAny edges x dirs) (sym same) reach) in absurd cc

-- ---- one that leads to what was kept is kept

pub keeping-keeps : (edges : ℕ → List ℕ) (dirs cone left : List ℕ) (old new : ℕ → Bool) (n : ℕ) → Keeping edges dirs cone (n ∷ left) old → Marks n old new → leads_in edges old n ≡ true → Keeping edges dirs (cone ++ n ∷ []) left new
keeping-keeps edges dirs cone left old new n h marks is = record {
  ordered = subst (λ (ns : List ℕ). IsOrdered edges ns) (sym (append_assoc cone (n ∷ []) left)) h.ordered;
  from_set = λ m seen. told m (marks-cases n old new marks m seen);
  in_set = λ m there. marked m there;
  reaching = λ m there. reaching m (among-append cone (n ∷ []) m there);
  some = λ m there. h.some m (inr there);
  all = λ m some reach. later m (h.all m some reach);
}
  where
    last : (m : ℕ) → n ≡ m → Among (cone ++ n ∷ []) m
    last m same = among-right cone (n ∷ []) m (inl same)

    wider : (m : ℕ) → Among dirs m ⊎ Among cone m → Among dirs m ⊎ Among (cone ++ n ∷ []) m
    wider m (inl there) = inl there
    wider m (inr there) = inr (among-left cone (n ∷ []) m there)

    told : (m : ℕ) → (n ≡ m) ⊎ (old m ≡ true) → Among dirs m ⊎ Among (cone ++ n ∷ []) m
    told m (inl same) = inr (last m same)
    told m (inr seen) = wider m (h.from_set m seen)

    in_cone : (m : ℕ) → Among cone m ⊎ Among (n ∷ []) m → new m ≡ true
    in_cone m (inl there) = marks-more n old new marks m (h.in_set m (inr there))
    in_cone m (inr (inl same)) = subst (λ (x : ℕ). new x ≡ true) same (marks-same n old new marks)
    in_cone m (inr (inr never)) = absurd never

    marked : (m : ℕ) → Among dirs m ⊎ Among (cone ++ n ∷ []) m → new m ≡ true
    marked m (inl there) = marks-more n old new marks m (h.in_set m (inl there))
    marked m (inr there) = in_cone m (among-append cone (n ∷ []) m there)

    onward : (m : ℕ) → Among dirs m ⊎ Among cone m → ReachesAny edges m dirs
    onward m (inl there) = (m, there, (zero, refl))
    onward m (inr there) = (h.reaching m there).1

    over : (next : ℕ) → Among (edges n) next → ReachesAny edges next dirs → ReachesAny edges n dirs
    over next edge (to, there, (k, more)) = (to, there, (suc k, (next, edge, more)))

    from : (old n ≡ true) ⊎ (list_any (λ edge. old edge) (edges n) ≡ true) → ReachesAny edges n dirs
    from (inl seen) = onward n (h.from_set n seen)
    from (inr some) = let found = among-any (λ edge. old edge) (edges n) some in over found.0 found.1 (onward found.0 (h.from_set found.0 found.2))

    here : ReachesAny edges n dirs
    here = from (or_cases (old n) (list_any (λ edge. old edge) (edges n)) is)

    reaching : (m : ℕ) → Among cone m ⊎ Among (n ∷ []) m → (edges m ≢ []) × ReachesAny edges m dirs
    reaching m (inl there) = h.reaching m there
    reaching m (inr (inl same)) = subst (λ (x : ℕ). (edges x ≢ []) × ReachesAny edges x dirs) same (h.some n (inl refl), here)
    reaching m (inr (inr never)) = absurd never

    later : (m : ℕ) → Among cone m ⊎ Among (n ∷ left) m → Among (cone ++ n ∷ []) m ⊎ Among left m
    later m (inl there) = inl (among-left cone (n ∷ []) m there)
    later m (inr (inl same)) = inl (last m same)
    later m (inr (inr there)) = inr there

-- with none left, those kept are all
pub keeping-ends : (edges : ℕ → List ℕ) (dirs cone left : List ℕ) (set : ℕ → Bool) → Keeping edges dirs cone left set → left ≡ [] → IsCone edges dirs cone
keeping-ends edges dirs cone left set given none = record {
  reached = h.reaching;
  all = λ n some reach. there n (h.all n some reach);
  ordered = subst (λ (ns : List ℕ). IsOrdered edges ns) (append-nil cone) h.ordered;
}
  where
    h : Keeping edges dirs cone [] set
    h = subst (λ (l : List ℕ). Keeping edges dirs cone l set) none given

    there : (n : ℕ) → Among cone n ⊎ Among [] n → Among cone n
    there n (inl is) = is
    there n (inr never) = absurd never
