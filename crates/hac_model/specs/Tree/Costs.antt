-- How often terms may be asked of items: one question is whether one item has one word, or one beginning of a word.
use Rattle.std.specs.Prelude.{◌≡◌, ℕ, Bool, false, ◌+◌, ◌*◌, not, List, [], ◌∷◌, filter, length, sum_by, codes}
use Rattle.std.specs.List.{range_with_len}
use Rattle.std.specs.Option.{option_map_or, option_or}
use Rattle.std.proofs.Math.Bool.{beq}
use Rattle.hac_model.specs.Query.Formula.{Formula}
use Rattle.hac_model.specs.Query.Formula as query
use Rattle.hac_model.specs.Query.Queries.{terms}
use Rattle.hac_model.specs.Tree.{root_alone}
use Rattle.hac_model.specs.Tree.Events.{apply, apply_all}
use Rattle.hac_model.specs.Tree.Links.{column, items, links, provide, query_at}
use Rattle.hac_model.specs.Tree.Touched.{changed, tied, touched}
use Rattle.hac_model.specs.declared.events.Event.{Event}
use Rattle.hac_model.specs.declared.events.Event.TheVariants.{Mkdir, NewFile, Rewrite, Ln, Smkdir, Rm, Step}
use Rattle.hac_model.specs.declared.states.State.{State}
use Rattle.hac_model.specs.declared.terms.Term.TheVariants.{Word}
use Rattle.hac_model.specs.declared.versions.Version.TheVariants.{Two}

-- how many terms the query of a directory has; none where it isn't semantic
abbrev pub terms_at : State → ℕ → ℕ
terms_at s dir = option_map_or terms (query_at s dir) 0

-- how many all queries have
abbrev pub weight : State → ℕ
weight s = sum_by (terms_at s) (range_with_len 0 s.next)

-- the directory provides the item in just one of two states
abbrev pub is_shifted : State → State → ℕ → ℕ → Bool
is_shifted s t item dir = not (beq (provide s (column (links s) item) dir item) (provide t (column (links t) item) dir item))

-- the items that come to or leave what is provided by the semantic directory that the event changes, or to which it adds a
-- directory, or from which it takes one
abbrev pub shift : State → Event → List ℕ
shift s event =
    filter (λ item. option_map_or (is_shifted s (apply s event) item) (option_or (changed s event) (tied s event)) false) (range_with_len 0 (apply s event).next)

-- how many questions an event may take: each item that it touches or shifts is judged in any directory, before and behind
-- it; all items are judged by the query that it changes
abbrev pub cost : State → Event → ℕ
cost s event =
    (length (touched s event) + length (shift s event)) * (weight s + weight (apply s event))
    + option_map_or (λ dir. length (items (apply s event)) * terms_at (apply s event) dir) (changed s event) 0

-- how many several may take, one behind the other
abbrev pub costs : State → List Event → ℕ
costs s [] = 0
costs s (event ∷ events) = cost s event + costs (apply s event) events

-- how many it may take to find what a query finds anywhere
abbrev pub finding : State → Formula ℕ → ℕ
finding s query = length (items s) * terms query

-- how many it may take to find all links of a state, of which none is known
abbrev pub opening : State → ℕ
opening s = length (items s) * weight s

-- ---- a first example

-- a directory with two files that were indexed, and a semantic directory that links both
abbrev pub two_matches : State
two_matches = apply_all (root_alone Two) (
    Mkdir 0 (codes "docs") ∷ NewFile 1 (codes "a") (codes "fingerprint matching") ∷ NewFile 1 (codes "b") (codes "Fingerprint glimpse")
    ∷ Smkdir 0 (codes "fp") (query.Term (Word (codes "fingerprint"))) [] ∷ Step ∷ Step ∷ [])

-- a file that gets another text costs nothing, and two questions at most once it is indexed. A new directory costs five at
-- most: its term is asked of two items, and one of them comes to it, so that three may be asked of that one. To remove a file
-- costs two at most, and a symbolic link to it nothing
abbrev pub FirstCosts : Type 0
FirstCosts =
    (cost two_matches (Rewrite 2 (codes "other")) ≡ 0)
    × (cost (apply two_matches (Rewrite 2 (codes "other"))) Step ≡ 2)
    × (cost two_matches (Smkdir 0 (codes "k") (query.Term (Word (codes "glimpse"))) []) ≡ 5)
    × (cost two_matches (Rm 2) ≡ 2)
    × (cost (apply two_matches (Ln 0 (codes "l") (codes "/docs/a"))) (Rm 5) ≡ 0)
