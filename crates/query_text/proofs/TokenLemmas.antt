-- Tokens lead from state to state as the trees of the grammar say.
use Rattle.std.proofs.Common.{◌≡◌, ℕ, zero, suc, List, [], ◌∷◌, ◌++◌, Option, Some, None, refl, ap, sym, ◌∙◌, append_assoc, append-nil}
use Rattle.std.specs.Prelude.{option_and_then}
use Rattle.std.specs.Option.{option_map, IfSome}
use Rattle.hac_model.specs.Query.Grammar.{Rule, query, and_rule, not_rule, prim, Tree, of_and, or, of_not, and, of_prim, negation, group, leaf, Token, Open, Close, And, Or, Not, Of, tokens, meaning, leaf_part, not_part, and_part, or_part, group_part}
use Rattle.hac_model.specs.Query.QueryReading.{join_and, join_or, nots_part, empty_level, enter, negate, receive, after_and, after_or, grouped, leave, ungrouped, ended_token}
use Rattle.hac_model.specs.declared.reading.Level.{Level}
use Rattle.hac_model.specs.declared.reading.Part.{Part}
use Rattle.hac_model.specs.declared.reading.Stack.{Stack}
use Rattle.hac_model.specs.declared.reading.Stack.TheVariants.{Wanting, Ending}
use Rattle.hac_model.specs.declared.reading.Wanted.{Wanted}

-- a token behind what was read
abbrev pub feed : Token → Stack → Option Stack
feed Open (Wanting w) = Some (Wanting (enter w))
feed Not (Wanting w) = Some (Wanting (negate w))
feed (Of l) (Wanting w) = Some (Ending (receive (leaf_part l) w))
feed And (Ending h) = Some (Wanting (after_and h))
feed Or (Ending h) = Some (Wanting (after_or h))
feed Close (Ending h) = option_map Ending (leave h)
feed other stack = None

-- the query to which tokens lead behind what was read
abbrev pub feeds : List Token → Stack → Option Part
feeds [] s = ended_token s
feeds (t ∷ ts) s = option_and_then (feeds ts) (feed t s)

abbrev level : Option Part → Option Part → ℕ → Level
level ors ands nots = record { ors = ors; ands = ands; nots = nots }

abbrev wanting : Level → List Level → Stack
wanting l outer = Wanting (record { level = l; outer = outer })

abbrev holding : Option Part → Part → List Level → Stack
holding ors part outer = Ending (record { ors = ors; part = part; outer = outer })

-- The tokens of a tree lead to its meaning.

abbrev LeadsTo : (rule : Rule) → Tree rule → Type 0
LeadsTo query t =
    (outer : List Level) (rest : List Token) → (ors : Option Part) × (part : Part) × (join_or ors part ≡ meaning t)
    × (feeds (tokens t ++ rest) (wanting empty_level outer) ≡ feeds rest (holding ors part outer))
LeadsTo and_rule t =
    (ors : Option Part) (outer : List Level) (rest : List Token) →
    feeds (tokens t ++ rest) (wanting (level ors None 0) outer) ≡ feeds rest (holding ors (meaning t) outer)
LeadsTo not_rule t = (w : Wanted) (rest : List Token) → feeds (tokens t ++ rest) (Wanting w) ≡ feeds rest (Ending (receive (meaning t) w))
LeadsTo prim t = (w : Wanted) (rest : List Token) → feeds (tokens t ++ rest) (Wanting w) ≡ feeds rest (Ending (receive (meaning t) w))

leads : {rule : Rule} (t : Tree rule) → LeadsTo rule t
leads (of_and t) = λ outer rest. (None, meaning t, refl, leads t None outer rest)
leads (or t u) = λ outer rest.
    let left = leads t outer (Or ∷ (tokens u ++ rest)) in
    let right = leads u (Some (join_or left.0 left.1)) outer rest in (
      Some (join_or left.0 left.1),
      meaning u,
      ap (λ (p : Part). or_part p (meaning u)) left.2,
      ap (λ (ts : List Token). feeds ts (wanting empty_level outer)) (append_assoc (tokens t) (Or ∷ tokens u) rest) ∙ left.3 ∙ right,
    )
leads (of_not t) = λ ors outer rest. leads t (record { level = level ors None 0; outer = outer }) rest
leads (and t u) = λ ors outer rest.
    ap (λ (ts : List Token). feeds ts (wanting (level ors None 0) outer)) (append_assoc (tokens t) (And ∷ tokens u) rest)
    ∙ leads t ors outer (And ∷ (tokens u ++ rest))
    ∙ leads u (record { level = level ors (Some (meaning t)) 0; outer = outer }) rest
leads (of_prim t) = λ w rest. leads t w rest
leads (negation t) = λ w rest. leads t (negate w) rest
leads (group t) = λ w rest.
    let inner = leads t (w.level ∷ w.outer) (Close ∷ rest) in
    ap (λ (ts : List Token). feeds ts (Wanting (enter w))) (append_assoc (tokens t) (Close ∷ []) rest)
    ∙ inner.3
    ∙ ap (λ (p : Part). feeds rest (Ending (receive (group_part p) w))) inner.2
leads (leaf l) = λ w rest. refl

pub complete : (t : Tree query) → feeds (tokens t) (wanting empty_level []) ≡ Some (meaning t)
complete t =
    let all = leads t [] [] in
    ap (λ (ts : List Token). feeds ts (wanting empty_level [])) (sym (append-nil (tokens t))) ∙ all.3 ∙ ap Some all.2

-- Tokens that lead to a query are those of a tree.

-- a tree has these tokens and this meaning
abbrev pub Grown : Rule → List Token → Part → Type 0
Grown rule ts part = (t : Tree rule) × (tokens t ≡ ts) × (meaning t ≡ part)

abbrev nots : ℕ → List Token
nots zero = []
nots (suc n) = nots n ++ (Not ∷ [])

abbrev OrsOf : Option Part → List Token → Type 0
OrsOf None ts = ts ≡ []
OrsOf (Some part) ts = (a : List Token) × Grown query a part × (ts ≡ a ++ (Or ∷ []))

abbrev AndsOf : Option Part → List Token → Type 0
AndsOf None ts = ts ≡ []
AndsOf (Some part) ts = (a : List Token) × Grown and_rule a part × (ts ≡ a ++ (And ∷ []))

abbrev LevelOf : Level → List Token → Type 0
LevelOf l ts = (a : List Token) × (b : List Token) × OrsOf l.ors a × AndsOf l.ands b × (ts ≡ a ++ (b ++ nots l.nots))

abbrev OuterOf : List Level → List Token → Type 0
OuterOf [] ts = ts ≡ []
OuterOf (l ∷ outer) ts = (a : List Token) × (b : List Token) × OuterOf outer a × LevelOf l b × (ts ≡ a ++ (b ++ (Open ∷ [])))

-- the tokens were read to this state
abbrev Stands : Stack → List Token → Type 0
Stands (Wanting w) ts = (a : List Token) × (b : List Token) × OuterOf w.outer a × LevelOf w.level b × (ts ≡ a ++ b)
Stands (Ending h) ts =
    (a : List Token) × (b : List Token) × (c : List Token) × OuterOf h.outer a × OrsOf h.ors b × Grown and_rule c h.part × (ts ≡ a ++ (b ++ c))

grow-nots : (n : ℕ) (c : List Token) (part : Part) → Grown not_rule c part → Grown not_rule (nots n ++ c) (nots_part n part)
grow-nots zero c part grown = grown
grow-nots (suc n) c part (t, e, m) =
    let more = grow-nots n (Not ∷ c) (not_part part) (negation t, ap (λ (ts : List Token). Not ∷ ts) e, ap not_part m) in
    (more.0, more.1 ∙ sym (append_assoc (nots n) (Not ∷ []) c), more.2)

grow-and : (ands : Option Part) (b c : List Token) (part : Part) → AndsOf ands b → Grown not_rule c part → Grown and_rule (b ++ c) (join_and ands part)
grow-and None b c part none (t, e, m) = (of_not t, e ∙ ap (λ (x : List Token). x ++ c) (sym none), m)
grow-and (Some left) b c part (a, (u, f, n), is) (t, e, m) = (
  and u t,
  ap (λ (x : List Token). x ++ (And ∷ tokens t)) f ∙ ap (λ (x : List Token). a ++ (And ∷ x)) e ∙ sym (append_assoc a (And ∷ []) c) ∙ ap (λ (x : List Token). x ++ c) (sym is),
  ap (λ (p : Part). and_part p (meaning t)) n ∙ ap (λ (p : Part). and_part left p) m,
)

grow-or : (ors : Option Part) (b c : List Token) (part : Part) → OrsOf ors b → Grown and_rule c part → Grown query (b ++ c) (join_or ors part)
grow-or None b c part none (t, e, m) = (of_and t, e ∙ ap (λ (x : List Token). x ++ c) (sym none), m)
grow-or (Some left) b c part (a, (u, f, n), is) (t, e, m) = (
  or u t,
  ap (λ (x : List Token). x ++ (Or ∷ tokens t)) f ∙ ap (λ (x : List Token). a ++ (Or ∷ x)) e ∙ sym (append_assoc a (Or ∷ []) c) ∙ ap (λ (x : List Token). x ++ c) (sym is),
  ap (λ (p : Part). or_part p (meaning t)) n ∙ ap (λ (p : Part). or_part left p) m,
)

rearranged : (a b c d e : List Token) → (a ++ (b ++ (c ++ d))) ++ e ≡ a ++ (b ++ (c ++ (d ++ e)))
rearranged a b c d e = simp append_assoc

-- an operand behind the tokens
received : (w : Wanted) (ts c : List Token) (part : Part) → Stands (Wanting w) ts → Grown prim c part → Stands (Ending (receive part w)) (ts ++ c)
received w ts c part (a, b, outer, (x, y, ors, ands, is), all) (t, e, m) =
    let negated = grow-nots w.level.nots c part (of_prim t, e, m) in
    let joined = grow-and w.level.ands y (nots w.level.nots ++ c) (nots_part w.level.nots part) ands negated in (
      a,
      x,
      y ++ (nots w.level.nots ++ c),
      outer,
      ors,
      joined,
      ap (λ (ts : List Token). ts ++ c) (all ∙ ap (λ (b : List Token). a ++ b) is) ∙ rearranged a x y (nots w.level.nots) c,
    )

opened : (a b : List Token) → (a ++ b) ++ (Open ∷ []) ≡ (a ++ (b ++ (Open ∷ []))) ++ []
opened a b = simp (append_assoc, append-nil)

negated : (a x y n : List Token) → (a ++ (x ++ (y ++ n))) ++ (Not ∷ []) ≡ a ++ (x ++ (y ++ (n ++ (Not ∷ []))))
negated a x y n = simp append_assoc

joined : (a b c : List Token) (t : Token) → (a ++ (b ++ c)) ++ (t ∷ []) ≡ a ++ (b ++ ((c ++ (t ∷ [])) ++ []))
joined a b c t = simp (append_assoc, append-nil)

chosen : (a b c : List Token) (t : Token) → (a ++ (b ++ c)) ++ (t ∷ []) ≡ a ++ (((b ++ c) ++ (t ∷ [])) ++ ([] ++ []))
chosen a b c t = simp (append_assoc, append-nil)

shut : (a b c d : List Token) → ((a ++ (b ++ (Open ∷ []))) ++ (c ++ d)) ++ (Close ∷ []) ≡ (a ++ b) ++ (Open ∷ ((c ++ d) ++ (Close ∷ [])))
shut a b c d = simp append_assoc

closed : (ors : Option Part) (part : Part) (outer : List Level) (ts : List Token) → Stands (holding ors part outer) ts
    → IfSome (option_map Ending (grouped (join_or ors part) outer)) (λ s. Stands s (ts ++ (Close ∷ [])))
closed ors part [] ts stands = tt
closed ors part (l ∷ outer) ts (a, b, c, (x, y, below, lev, is), joins, grown, all) =
    let inner = grow-or ors b c part joins grown in
    let tree : Grown prim (Open ∷ ((b ++ c) ++ (Close ∷ []))) (group_part (join_or ors part)) = (group inner.0, ap (λ (u : List Token). Open ∷ (u ++ (Close ∷ []))) inner.1, ap group_part inner.2) in
    let moved = received (record { level = l; outer = outer }) (x ++ y) (Open ∷ ((b ++ c) ++ (Close ∷ []))) (group_part (join_or ors part)) (x, y, below, lev, refl) tree in (
      moved.0,
      moved.1,
      moved.2,
      moved.3,
      moved.4,
      moved.5,
      ap (λ (ts : List Token). ts ++ (Close ∷ [])) (all ∙ ap (λ (a : List Token). a ++ (b ++ c)) is) ∙ shut x y b c ∙ moved.6,
    )

-- a token more
fed : (t : Token) (s : Stack) (ts : List Token) → Stands s ts → IfSome (feed t s) (λ next. Stands next (ts ++ (t ∷ [])))
fed Open (Wanting w) ts (a, b, outer, lev, all) = (
  a ++ (b ++ (Open ∷ [])),
  [],
  (a, b, outer, lev, refl),
  ([], [], refl, refl, refl),
  ap (λ (ts : List Token). ts ++ (Open ∷ [])) all ∙ opened a b,
)
fed Not (Wanting w) ts (a, b, outer, (x, y, ors, ands, is), all) = (
  a,
  x ++ (y ++ nots (suc w.level.nots)),
  outer,
  (x, y, ors, ands, refl),
  ap (λ (ts : List Token). ts ++ (Not ∷ [])) (all ∙ ap (λ (b : List Token). a ++ b) is) ∙ negated a x y (nots w.level.nots),
)
fed (Of l) (Wanting w) ts stands = received w ts (Of l ∷ []) (leaf_part l) stands (leaf l, refl, refl)
fed Close (Wanting w) ts stands = tt
fed And (Wanting w) ts stands = tt
fed Or (Wanting w) ts stands = tt
fed And (Ending h) ts (a, b, c, outer, ors, grown, all) = (
  a,
  b ++ ((c ++ (And ∷ [])) ++ []),
  outer,
  (b, c ++ (And ∷ []), ors, (c, grown, refl), refl),
  ap (λ (ts : List Token). ts ++ (And ∷ [])) all ∙ joined a b c And,
)
fed Or (Ending h) ts (a, b, c, outer, ors, grown, all) = (
  a,
  ((b ++ c) ++ (Or ∷ [])) ++ ([] ++ []),
  outer,
  ((b ++ c) ++ (Or ∷ []), [], (b ++ c, grow-or h.ors b c h.part ors grown, refl), refl, refl),
  ap (λ (ts : List Token). ts ++ (Or ∷ [])) all ∙ chosen a b c Or,
)
fed Close (Ending h) ts stands = closed h.ors h.part h.outer ts stands
fed Open (Ending h) ts stands = tt
fed Not (Ending h) ts stands = tt
fed (Of l) (Ending h) ts stands = tt

finished : (ors : Option Part) (part : Part) (outer : List Level) (ts : List Token) (read : Part) → Stands (holding ors part outer) ts
    → ungrouped (join_or ors part) outer ≡ Some read → Grown query (ts ++ []) read
finished ors part [] ts read (a, b, c, none, joins, grown, all) e =
    let tree = grow-or ors b c part joins grown in
    let same : join_or ors part ≡ read = cc in
    (tree.0, tree.1 ∙ sym (append-nil (b ++ c)) ∙ ap (λ (x : List Token). x ++ []) (sym (all ∙ ap (λ (x : List Token). x ++ (b ++ c)) none)), tree.2 ∙ same)
finished ors part (l ∷ outer) ts read stands e = cc

module _ (read : Part) (ts : List Token) (done : List Token) where
  goes : (o : Option Stack) → IfSome o (λ s. Stands s done) → ((s : Stack) → Stands s done → feeds ts s ≡ Some read → Grown query (done ++ ts) read)
      → option_and_then (feeds ts) o ≡ Some read → Grown query (done ++ ts) read
  goes None stands next e = cc
  goes (Some s) stands next e = next s stands e

grown : (ts : List Token) (s : Stack) (done : List Token) (read : Part) → Stands s done → feeds ts s ≡ Some read → Grown query (done ++ ts) read
grown [] (Wanting w) done read stands e = cc
grown [] (Ending h) done read stands e = finished h.ors h.part h.outer done read stands e
grown (t ∷ ts) s done read stands e =
    let tree = goes read ts (done ++ (t ∷ [])) (feed t s) (fed t s done stands) (λ s stands e. grown ts s (done ++ (t ∷ [])) read stands e) e in
    (tree.0, tree.1 ∙ append_assoc done (t ∷ []) ts, tree.2)

pub sound : (ts : List Token) (read : Part) → feeds ts (wanting empty_level []) ≡ Some read → Grown query ts read
sound ts read e = grown ts (wanting empty_level []) [] read ([], [], refl, ([], [], refl, refl, refl), refl) e
