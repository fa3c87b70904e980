-- The verdicts on one item, directory by directory, on a way that leads to each behind those on which it depends.
use Rattle.std.proofs.Common.{◌≡◌, ℕ, zero, suc, Bool, true, false, List, [], ◌∷◌, refl, ap, sym, subst, ◌∙◌, arith, eq-eqb, inl, inr}
use Rattle.std.proofs.Math.Bool.{beq}
use Rattle.std.proofs.lemmas.Bool.{and_parts, eqb-true}
use Rattle.std.specs.Prelude.{◌&&◌, ◌||◌, ◌==◌, ◌++◌, ◌⊎◌, not, if◌then◌else◌, Some, None, drop, is_some, length}
use Rattle.std.specs.List.{list_any}
use Rattle.std.specs.Option.{option_map_or}
use Rattle.dep_graph.specs.Searches.{IsOrdered}
use Rattle.hac_model.specs.Query.Formula.{Formula}
use Rattle.hac_model.specs.Tree.Costs.{is_shifted}
use Rattle.hac_model.specs.Tree.Depends.{Among, depends, named_in}
use Rattle.hac_model.specs.Tree.Links.{column, has, is_item, is_lent, is_semantic, lenders, links, parent_of, passes, provide, query_at}
use Rattle.hac_model.specs.declared.states.State.{State}
use Rattle.hac_model.proofs.AmongLemmas.{among-has, among-left, among-right, has-among}
use Rattle.hac_model.proofs.CycleLemmas.{any-among}
use Rattle.hac_model.proofs.LinkLemmas.{lent-same, passes-same, provide-same}
use Rattle.reeval.specs.Judging.{is_linked, judgement, verdict_of}
use Rattle.reeval.specs.Routes.{Covers, begins_at, dirs_of, ties_at}
use Rattle.reeval.specs.declared.settling.Stop.{Stop}
use Rattle.reeval.specs.declared.verdicts.Verdict.{Verdict}
use Rattle.reeval.proofs.JudgeLemmas.{verdicts-only}

pub absent : (ns : List ℕ) (n : ℕ) → ¬ Among ns n → has ns n ≡ false
absent ns n out = elim (has ns n) as (λ b. has ns n ≡ b → b ≡ false) [ true ↦ (λ is. absurd (out (has-among ns n is))) | false ↦ (λ _. refl) ] refl

-- where none moved, nothing leans on any
pub none-moved : (dirs : List ℕ) → list_any (has []) dirs ≡ false
none-moved [] = refl
none-moved (dir ∷ dirs) = none-moved dirs

pub leans-nowhere : (empty : Bool) (moved dirs : List ℕ) → empty ≡ (length moved == 0) → empty ≡ true → not empty ≡ list_any (has moved) dirs
leans-nowhere empty [] dirs is none = ap not none ∙ sym (none-moved dirs)
leans-nowhere empty (first ∷ moved) dirs is none = let same : length (first ∷ moved) ≡ 0 = eqb-true (length (first ∷ moved)) 0 (sym is ∙ none) in absurd (omega (arith, same))

-- what a directory says of an item looks at those on which it depends
judge-local : (t : State) (a b : ℕ → Bool) (item dir : ℕ) → ((e : ℕ) → Among (depends t dir) e → a e ≡ b e) → judgement t a item dir ≡ judgement t b item dir
judge-local t a b item dir same =
    elim (query_at t dir) as (λ o. query_at t dir ≡ o → ((e : ℕ) → Among (option_map_or (λ q. parent_of t dir ∷ named_in q ++ lenders t dir) o []) e → a e ≡ b e) → judgement t a item dir ≡ judgement t b item dir) [
      | None ↦ (λ at same. none at)
      | Some q ↦ (λ at same. λ i. record {
        found = (is_semantic t dir && is_item t item) && passes-same t a b dir item q at (λ e edge. same e (early q e edge)) i;
        lent = (is_semantic t dir && is_item t item) && lent-same t a b dir item (λ e edge. same e (inr (among-right (named_in q) (lenders t dir) e edge))) i;
      })
    ] refl same
  where
    early : (q : Formula ℕ) (e : ℕ) → Among (parent_of t dir ∷ named_in q) e → Among (parent_of t dir ∷ named_in q ++ lenders t dir) e
    early q e (inl parent) = inl parent
    early q e (inr named) = inr (among-left (named_in q) (lenders t dir) e named)

    plain : query_at t dir ≡ None → is_semantic t dir ≡ false
    plain at = ap is_some at

    none : query_at t dir ≡ None → judgement t a item dir ≡ judgement t b item dir
    none at = λ i. record {
      found = (ap (λ (x : Bool). (x && is_item t item) && passes t a dir item) (plain at) ∙ sym (ap (λ (x : Bool). (x && is_item t item) && passes t b dir item) (plain at))) i;
      lent = (ap (λ (x : Bool). (x && is_item t item) && is_lent t a dir item) (plain at) ∙ sym (ap (λ (x : Bool). (x && is_item t item) && is_lent t b dir item) (plain at))) i;
    }

-- judging begins nowhere but on the way
begins-inside : (stops : List Stop) (dir : ℕ) → has (dirs_of stops) dir ≡ false → begins_at stops dir ≡ false
begins-inside [] dir out = refl
begins-inside (stop ∷ stops) dir out = elim (stop.dir == dir) as (λ b. (b || has (dirs_of stops) dir) ≡ false → ((b && stop.begins) || begins_at stops dir) ≡ false) [
  | true ↦ (λ never. absurd cc)
  | false ↦ (λ out. begins-inside stops dir out)
] out

-- each directory is on the way once, so where the stop at a place doesn't begin, judging doesn't begin
pub begins-there : (edges : ℕ → List ℕ) (stops : List Stop) (i : ℕ) (stop : Stop) (rest : List Stop) → IsOrdered edges (dirs_of stops) → drop i stops ≡ stop ∷ rest → stop.begins ≡ false → begins_at stops stop.dir ≡ false
begins-there edges [] zero stop rest ordered is out = refl
begins-there edges [] (suc i) stop rest ordered is out = refl
begins-there edges (first ∷ stops) zero stop rest ordered is out =
    ap (λ (all : List Stop). begins_at all stop.dir) is
    ∙ (λ i. (stop.dir == stop.dir && out i) || begins_at rest stop.dir)
    ∙ both (stop.dir == stop.dir) (begins_at rest stop.dir) (begins-inside rest stop.dir (absent (dirs_of rest) stop.dir (alone (subst (λ (all : List Stop). IsOrdered edges (dirs_of all)) is ordered))))
  where
    alone : IsOrdered edges (stop.dir ∷ dirs_of rest) → ¬ Among (dirs_of rest) stop.dir
    alone h = h.0

    both : (a b : Bool) → b ≡ false → ((a && false) || b) ≡ false
    both true b h = h
    both false b h = h
begins-there edges (first ∷ stops) (suc i) stop rest ordered is out =
    elim (first.dir == stop.dir) as (λ b. (first.dir == stop.dir) ≡ b → ((b && first.begins) || begins_at stops stop.dir) ≡ false) [
      | true ↦ (λ same. absurd (ordered.0 (subst (λ (n : ℕ). Among (dirs_of stops) n) (sym (eqb-true first.dir stop.dir same)) (there stops i is))))
      | false ↦ (λ _. begins-there edges stops i stop rest ordered.2 is out)
    ] refl
  where
    there : (stops : List Stop) (i : ℕ) → drop i stops ≡ stop ∷ rest → Among (dirs_of stops) stop.dir
    there stops zero is = subst (λ (all : List Stop). Among (dirs_of all) stop.dir) (sym is) (inl refl)
    there [] (suc i) is = absurd cc
    there (first ∷ stops) (suc i) is = inr (there stops i is)

-- a stop at a place is one of all
pub any-there : (p : Stop → Bool) (stops : List Stop) (i : ℕ) (stop : Stop) (rest : List Stop) → drop i stops ≡ stop ∷ rest → p stop ≡ true → list_any p stops ≡ true
any-there p [] zero stop rest is passes = absurd cc
any-there p [] (suc i) stop rest is passes = absurd cc
any-there p (first ∷ stops) zero stop rest is passes = ap (list_any p) is ∙ ap (λ (b : Bool). b || list_any p rest) passes
any-there p (first ∷ stops) (suc i) stop rest is passes =
    elim (p first) as (λ b. (b || list_any p stops) ≡ true) [ true ↦ refl | false ↦ any-there p stops i stop rest is passes ]

-- so it fails a test that all fail
pub none-there : (p : Stop → Bool) (stops : List Stop) (i : ℕ) (stop : Stop) (rest : List Stop) → drop i stops ≡ stop ∷ rest → list_any p stops ≡ false → p stop ≡ false
none-there p stops i stop rest is none = elim (p stop) as (λ b. p stop ≡ b → b ≡ false) [
  | true ↦ (λ passes. let any = any-there p stops i stop rest is passes in absurd cc)
  | false ↦ (λ _. refl)
] refl

-- where no number is among them, there are none
pub none-left : (ns : List ℕ) → ((n : ℕ) → has ns n ≡ false) → ns ≡ []
none-left [] none = refl
none-left (n ∷ ns) none = let is : has (n ∷ ns) n ≡ true = ap (λ (b : Bool). b || has ns n) (eq-eqb n n refl) in let not_it = none n in absurd cc

-- no number passes a test that each of them fails
none-any : (p : ℕ → Bool) (ns : List ℕ) → ((n : ℕ) → Among ns n → p n ≡ false) → list_any p ns ≡ false
none-any p [] fails = refl
none-any p (n ∷ ns) fails = λ i. fails n (inl refl) i || none-any p ns (λ m among. fails m (inr among)) i

module _ (s t : State) (item : ℕ) (stops : List Stop) (covers : Covers s t stops item) where
  abbrev pub before : ℕ → Verdict
  before = verdict_of s item

  abbrev pub dirs : List ℕ
  dirs = dirs_of stops

  -- the directory was passed, when these are left
  abbrev pub passed : List ℕ → ℕ → Bool
  passed left dir = has dirs dir && not (has left dir)

  -- a directory that was passed says what is known of it; those that aren't moved provide the item as they did, or say
  -- what they said
  pub record Settled (left : List ℕ) (known : ℕ → Verdict) (moved : List ℕ) : Type 0 where
    pub ordered : IsOrdered (depends t) left
    pub within : (e : ℕ) → has moved e ≡ true → has dirs e ≡ true
    pub inside : (dir : ℕ) → has left dir ≡ true → has dirs dir ≡ true
    pub judged : (dir : ℕ) → passed left dir ≡ true → known dir ≡ judgement t (is_linked known) item dir
    pub others : (dir : ℕ) → passed left dir ≡ false → known dir ≡ before dir
    pub ahead : (dir e : ℕ) → passed left dir ≡ true → Among (depends t dir) e → has left e ≡ false
    pub still : (e : ℕ) → passed left e ≡ true → has moved e ≡ false →
        (provide s (is_linked before) e item ≡ provide t (is_linked known) e item) ⊎ ((known e ≡ before e) × (begins_at stops e ≡ false))

  pub settled-none : Settled dirs before []
  settled-none = record {
    ordered = covers.route.ordered;
    within = λ e never. absurd cc;
    inside = λ dir is. is;
    judged = λ dir is. absurd (never dir is);
    others = λ dir out. refl;
    ahead = λ dir e is edge. absurd (never dir is);
    still = λ e is out. absurd (never e is);
  }
    where
      never : (dir : ℕ) → passed dirs dir ≡ true → ⊥
      never dir is = elim (has dirs dir) as (λ b. (b && not b) ≡ true → ⊥) [ true ↦ (λ h. absurd cc) | false ↦ (λ h. absurd cc) ] is

  -- where nothing begins, a directory says what it said if those on which it depends provide the item as they did
  stays : (known : ℕ → Verdict) (dir : ℕ) → begins_at stops dir ≡ false → known dir ≡ before dir →
      ((e : ℕ) → Among (depends t dir) e → provide s (is_linked before) e item ≡ provide t (is_linked known) e item) → known dir ≡ judgement t (is_linked known) item dir
  stays known dir begins same alike =
      same ∙ covers.before dir ∙ covers.alike.judges dir begins (is_linked before) (is_linked known) alike

  linked-same : (known : ℕ → Verdict) (e : ℕ) → known e ≡ before e → is_linked before e ≡ is_linked known e
  linked-same known e same = ap (λ (v : Verdict). v.found || v.lent) (sym same)

  -- when all are passed
  pub settled-all : (known : ℕ → Verdict) (moved : List ℕ) → Settled [] known moved → (dir : ℕ) → known dir ≡ verdict_of t item dir
  settled-all known moved h = verdicts-only t covers.after item known own
    where
      unpassed : (dir : ℕ) → has dirs dir ≡ false → passed [] dir ≡ false
      unpassed dir out = ap (λ (b : Bool). b && true) out

      provided : (dir e : ℕ) → has dirs dir ≡ false → Among (depends t dir) e → provide s (is_linked before) e item ≡ provide t (is_linked known) e item
      provided dir e out edge =
          let apart : has dirs e ≡ false = absent dirs e (λ is. let in_it = among-has dirs dir (covers.route.closed dir e edge is) in absurd cc) in
          covers.alike.provides dir e (begins-inside stops dir out) edge (begins-inside stops e apart) (is_linked before) (is_linked known) (linked-same known e (h.others e (unpassed e apart)))

      own : (dir : ℕ) → known dir ≡ judgement t (is_linked known) item dir
      own dir = elim (has dirs dir) as (λ b. has dirs dir ≡ b → known dir ≡ judgement t (is_linked known) item dir) [
        | true ↦ (λ is. h.judged dir (ap (λ (b : Bool). b && true) is))
        | false ↦ (λ out. stays known dir (begins-inside stops dir out) (h.others dir (unpassed dir out)) (λ e edge. provided dir e out edge))
      ] refl

  -- one directory more
  module _ (dir : ℕ) (left : List ℕ) (known : ℕ → Verdict) (moved : List ℕ) (h : Settled (dir ∷ left) known moved) where
    gone : has left dir ≡ false
    gone = absent left dir h.ordered.0

    here : has dirs dir ≡ true
    here = h.inside dir (ap (λ (b : Bool). b || has left dir) (eq-eqb dir dir refl))

    now-passed : passed left dir ≡ true
    now-passed = λ i. here i && not (gone i)

    was-left : passed (dir ∷ left) dir ≡ false
    was-left = (λ i. here i && not (eq-eqb dir dir refl i || has left dir))

    -- what it depends on comes before it
    early : (e : ℕ) → Among (depends t dir) e → has (dir ∷ left) e ≡ false
    early e edge = absent (dir ∷ left) e (h.ordered.1 e edge)

    -- nothing new is known of it yet
    pub still-unsaid : known dir ≡ before dir
    still-unsaid = h.others dir was-left

    -- another that is passed was passed before
    cases : (d : ℕ) → passed left d ≡ true → (dir ≡ d) ⊎ (passed (dir ∷ left) d ≡ true)
    cases d is = elim (dir == d) as (λ b. (dir == d) ≡ b → (dir ≡ d) ⊎ ((has dirs d && not (b || has left d)) ≡ true)) [
      | true ↦ (λ same. inl (eqb-true dir d same))
      | false ↦ (λ other. inr is)
    ] refl

    unpassed : (d : ℕ) → passed left d ≡ false → ((dir ≡ d) → ⊥) × (passed (dir ∷ left) d ≡ false)
    unpassed d out = (apart, more)
      where
        apart : (dir ≡ d) → ⊥
        apart same = let is : passed left d ≡ true = ap (passed left) (sym same) ∙ now-passed in absurd cc

        more : passed (dir ∷ left) d ≡ false
        more = elim (dir == d) as (λ b. (dir == d) ≡ b → (has dirs d && not (b || has left d)) ≡ false) [
          | true ↦ (λ same. absurd (apart (eqb-true dir d same)))
          | false ↦ (λ other. out)
        ] refl

    narrower : (e : ℕ) → has (dir ∷ left) e ≡ false → has left e ≡ false
    narrower e out = elim (dir == e) as (λ b. (b || has left e) ≡ false → has left e ≡ false) [ true ↦ (λ never. absurd cc) | false ↦ (λ out. out) ] out

    ahead-still : (d e : ℕ) → passed left d ≡ true → Among (depends t d) e → has left e ≡ false
    ahead-still d e is edge = elim (cases d is) as (λ _. has left e ≡ false) [
      | inl same ↦ narrower e (early e (subst (λ (n : ℕ). Among (depends t n) e) (sym same) edge))
      | inr was ↦ narrower e (h.ahead d e was edge)
    ]

    -- it depends on nothing that moved, if none of the way is leant on
    pub leans-none : (leans : Bool) → (leans ≡ false → (e : ℕ) → Among (depends t dir) e → ¬ Among dirs e) → (leans && list_any (has moved) (depends t dir)) ≡ false → list_any (has moved) (depends t dir) ≡ false
    leans-none true alone out = out
    leans-none false alone out = none-any (has moved) (depends t dir) (λ e edge. elim (has moved e) as (λ b. has moved e ≡ b → b ≡ false) [
      | true ↦ (λ is. absurd (alone refl e edge (has-among dirs e (h.within e is))))
      | false ↦ (λ _. refl)
    ] refl)

    unmoved : list_any (has moved) (depends t dir) ≡ false → (e : ℕ) → Among (depends t dir) e → has moved e ≡ false
    unmoved leans e edge = elim (has moved e) as (λ b. has moved e ≡ b → b ≡ false) [
      | true ↦ (λ is. let any = any-among (has moved) (depends t dir) e edge is in absurd cc)
      | false ↦ (λ _. refl)
    ] refl

    -- what it depends on provides the item as before, where it leans on nothing that moved
    provided : list_any (has moved) (depends t dir) ≡ false →
        ((e : ℕ) → Among (depends t dir) e → known e ≡ before e → begins_at stops e ≡ false → provide s (is_linked before) e item ≡ provide t (is_linked known) e item)
        → (e : ℕ) → Among (depends t dir) e → provide s (is_linked before) e item ≡ provide t (is_linked known) e item
    provided leans outside e edge = elim (has dirs e) as (λ b. has dirs e ≡ b → provide s (is_linked before) e item ≡ provide t (is_linked known) e item) [
      | true ↦ (λ is. elim (h.still e (λ i. is i && not (early e edge i)) (unmoved leans e edge)) as (λ _. provide s (is_linked before) e item ≡ provide t (is_linked known) e item) [
        | inl same ↦ same
        | inr both ↦ outside e edge both.0 both.1
      ])
      | false ↦ (λ out. outside e edge (h.others e (ap (λ (b : Bool). b && not (has (dir ∷ left) e)) out)) (begins-inside stops e out))
    ] refl

    -- it finds what it found, where only what is lent to it may be new
    found-stays : ties_at stops dir ≡ true → list_any (has moved) (depends t dir) ≡ false → (known dir).found ≡ (judgement t (is_linked known) item dir).found
    found-stays ties leans =
        let tied = covers.tied dir ties in
        ap (λ (v : Verdict). v.found) (h.others dir was-left ∙ covers.before dir)
        ∙ tied.finds (is_linked before) (is_linked known) (provided leans (λ e edge same none. tied.provides e edge none (is_linked before) (is_linked known) (linked-same known e same)))

    -- where its query is not asked, what it finds is known
    pub asked-found : (leans ties : Bool) → (leans ≡ false → (e : ℕ) → Among (depends t dir) e → ¬ Among dirs e) → (ties ≡ true → ties_at stops dir ≡ true)
        → (not ties || (leans && list_any (has moved) (depends t dir))) ≡ false → (known dir).found ≡ (judgement t (is_linked known) item dir).found
    asked-found leans true alone there out = found-stays (there refl) (leans-none leans alone out)
    asked-found leans false alone there out = absurd cc

    -- it was not judged: nothing begins there, and it leans on nothing that moved
    pub settled-by : begins_at stops dir ≡ false → list_any (has moved) (depends t dir) ≡ false → Settled left known moved
    settled-by begins leans = record {
      ordered = h.ordered.2;
      within = h.within;
      inside = λ d is. h.inside d (wider d is);
      judged = λ d is. elim (cases d is) as (λ _. known d ≡ judgement t (is_linked known) item d) [
        | inl same ↦ subst (λ (n : ℕ). known n ≡ judgement t (is_linked known) item n) same own
        | inr was ↦ h.judged d was
      ];
      others = λ d out. h.others d (unpassed d out).1;
      ahead = ahead-still;
      still = λ e is out. elim (cases e is) as (λ _. (provide s (is_linked before) e item ≡ provide t (is_linked known) e item) ⊎ ((known e ≡ before e) × (begins_at stops e ≡ false))) [
        | inl same ↦ inr (subst (λ (n : ℕ). known n ≡ before n) same (h.others dir was-left), ap (begins_at stops) (sym same) ∙ begins)
        | inr was ↦ h.still e was out
      ];
    }
      where
        wider : (d : ℕ) → has left d ≡ true → has (dir ∷ left) d ≡ true
        wider d is = elim (dir == d) as (λ b. (b || has left d) ≡ true) [ true ↦ refl | false ↦ is ]

        outside : (e : ℕ) → Among (depends t dir) e → known e ≡ before e → begins_at stops e ≡ false → provide s (is_linked before) e item ≡ provide t (is_linked known) e item
        outside e edge same none = covers.alike.provides dir e begins edge none (is_linked before) (is_linked known) (linked-same known e same)

        own : known dir ≡ judgement t (is_linked known) item dir
        own = stays known dir begins (h.others dir was-left) (provided leans outside)

    -- it was judged
    module _ (more : ℕ → Verdict) (moves : List ℕ)
        (told : (d : ℕ) → more d ≡ (if d == dir then judgement t (is_linked known) item dir else known d))
        (noted : (d : ℕ) → has moves d ≡ (has moved d || (dir == d && not (beq (provide s (is_linked before) dir item) (provide t (is_linked more) dir item))))) where
      other : (d : ℕ) → ((dir ≡ d) → ⊥) → more d ≡ known d
      other d apart = told d ∙ (elim (d == dir) as (λ b. (d == dir) ≡ b → (if b then judgement t (is_linked known) item dir else known d) ≡ known d) [
        | true ↦ (λ same. absurd (apart (sym (eqb-true d dir same))))
        | false ↦ (λ _. refl)
      ] refl)

      -- what depends on nothing that is left says what it said
      same-judgement : (d : ℕ) → ((e : ℕ) → Among (depends t d) e → has (dir ∷ left) e ≡ false) → judgement t (is_linked known) item d ≡ judgement t (is_linked more) item d
      same-judgement d out = judge-local t (is_linked known) (is_linked more) item d (λ e edge. ap (λ (v : Verdict). v.found || v.lent) (sym (other e (apart e (out e edge)))))
        where
          apart : (e : ℕ) → has (dir ∷ left) e ≡ false → (dir ≡ e) → ⊥
          apart e out same = let is : has (dir ∷ left) e ≡ true = ap (λ (b : Bool). b || has left e) (eq-eqb dir e same) in absurd cc

      own : more dir ≡ judgement t (is_linked more) item dir
      own = told dir ∙ ap (λ (b : Bool). if b then judgement t (is_linked known) item dir else known dir) (eq-eqb dir dir refl) ∙ same-judgement dir early

      apart-passed : (d : ℕ) → passed (dir ∷ left) d ≡ true → (dir ≡ d) → ⊥
      apart-passed d is same = let never : passed (dir ∷ left) d ≡ false = ap (passed (dir ∷ left)) (sym same) ∙ was-left in absurd cc

      even : (a b : Bool) → not (beq a b) ≡ false → a ≡ b
      even true true h = refl
      even true false h = absurd cc
      even false true h = absurd cc
      even false false h = refl

      -- no test that fails adds anything
      parts : (a b : Bool) → (a || b) ≡ false → (a ≡ false) × (b ≡ false)
      parts true b h = absurd cc
      parts false b h = (refl, h)

      provides-same : (e : ℕ) → ((dir ≡ e) → ⊥) → provide t (is_linked known) e item ≡ provide t (is_linked more) e item
      provides-same e apart = provide-same t (is_linked known) (is_linked more) e item (ap (λ (v : Verdict). v.found || v.lent) (sym (other e apart)))

      pub settled-judged : Settled left more moves
      settled-judged = record {
        ordered = h.ordered.2;
        within = λ e is. elim (has moved e) as (λ b. has moved e ≡ b → has dirs e ≡ true) [
          | true ↦ (λ was. h.within e was)
          | false ↦ (λ out. subst (λ (n : ℕ). has dirs n ≡ true) (first-here e (sym (ap (λ (b : Bool). b || (dir == e && not (beq (provide s (is_linked before) dir item) (provide t (is_linked more) dir item)))) out) ∙ sym (noted e) ∙ is)) here)
        ] refl;
        inside = λ d is. h.inside d (wider d is);
        judged = λ d is. elim (cases d is) as (λ _. more d ≡ judgement t (is_linked more) item d) [
          | inl same ↦ subst (λ (n : ℕ). more n ≡ judgement t (is_linked more) item n) same own
          | inr was ↦ other d (apart-passed d was) ∙ h.judged d was ∙ same-judgement d (λ e edge. h.ahead d e was edge)
        ];
        others = λ d out. other d (unpassed d out).0 ∙ h.others d (unpassed d out).1;
        ahead = ahead-still;
        still = λ e is out. elim (cases e is) as (λ _. (provide s (is_linked before) e item ≡ provide t (is_linked more) e item) ⊎ ((more e ≡ before e) × (begins_at stops e ≡ false))) [
          | inl same ↦ inl (subst (λ (n : ℕ). provide s (is_linked before) n item ≡ provide t (is_linked more) n item) same (unmoved-here (ap (has moves) same ∙ out)))
          | inr was ↦ elim (h.still e was (parts (has moved e) _ (sym (noted e) ∙ out)).0) as (λ _. (provide s (is_linked before) e item ≡ provide t (is_linked more) e item) ⊎ ((more e ≡ before e) × (begins_at stops e ≡ false))) [
            | inl same ↦ inl (same ∙ provides-same e (apart-passed e was))
            | inr both ↦ inr (other e (apart-passed e was) ∙ both.0, both.1)
          ]
        ];
      }
        where
          wider : (d : ℕ) → has left d ≡ true → has (dir ∷ left) d ≡ true
          wider d is = elim (dir == d) as (λ b. (b || has left d) ≡ true) [ true ↦ refl | false ↦ is ]

          first-here : (e : ℕ) → (dir == e && not (beq (provide s (is_linked before) dir item) (provide t (is_linked more) dir item))) ≡ true → dir ≡ e
          first-here e is = eqb-true dir e (and_parts (dir == e) (not (beq (provide s (is_linked before) dir item) (provide t (is_linked more) dir item))) is).0

          unmoved-here : has moves dir ≡ false → provide s (is_linked before) dir item ≡ provide t (is_linked more) dir item
          unmoved-here out =
              even (provide s (is_linked before) dir item) (provide t (is_linked more) dir item)
              (sym (ap (λ (b : Bool). b && not (beq (provide s (is_linked before) dir item) (provide t (is_linked more) dir item))) (eq-eqb dir dir refl))
              ∙ (parts (has moved dir) _ (sym (noted dir) ∙ out)).1)

  -- a directory that was passed is passed when fewer are left
  wider-passed : (dir : ℕ) (left : List ℕ) (d : ℕ) → passed (dir ∷ left) d ≡ true → passed left d ≡ true
  wider-passed dir left d is =
      elim (has dirs d) as (λ a. (a && not (dir == d || has left d)) ≡ true → (a && not (has left d)) ≡ true) [
        | true ↦ elim (dir == d) as (λ b. not (b || has left d) ≡ true → not (has left d) ≡ true) [ true ↦ (λ never. absurd cc) | false ↦ (λ is. is) ]
        | false ↦ (λ never. absurd cc)
      ] is

  -- what is said by a directory that was passed is what the second state says
  passed-final : (left : List ℕ) (known : ℕ → Verdict) (moved : List ℕ) → Settled left known moved → (d : ℕ) → passed left d ≡ true → known d ≡ verdict_of t item d
  passed-final [] known moved h d is = settled-all known moved h d
  passed-final (dir ∷ left) known moved h d is =
      sym (other dir left known moved h more moves told noted d (apart-passed dir left known moved h more moves told noted d is))
      ∙ passed-final left more moves (settled-judged dir left known moved h more moves told noted) d (wider-passed dir left d is)
    where
      more : ℕ → Verdict
      more d = if d == dir then judgement t (is_linked known) item dir else known d

      differs : Bool
      differs = not (beq (provide s (is_linked before) dir item) (provide t (is_linked more) dir item))

      moves : List ℕ
      moves = if differs then dir ∷ moved else moved

      told : (d : ℕ) → more d ≡ (if d == dir then judgement t (is_linked known) item dir else known d)
      told d = refl

      noted : (d : ℕ) → has moves d ≡ (has moved d || (dir == d && differs))
      noted d = elim differs as (λ b. has (if b then dir ∷ moved else moved) d ≡ (has moved d || (dir == d && b))) [
        | true ↦ either (dir == d) (has moved d)
        | false ↦ neither (dir == d) (has moved d)
      ]
        where
          either : (a b : Bool) → (a || b) ≡ (b || (a && true))
          either true true = refl
          either true false = refl
          either false true = refl
          either false false = refl

          neither : (a b : Bool) → b ≡ (b || (a && false))
          neither true true = refl
          neither true false = refl
          neither false true = refl
          neither false false = refl

  -- where it is judged and provides the item in both states or in neither, nothing moves
  pub none-moves : (dir : ℕ) (left : List ℕ) (known : ℕ → Verdict) (moved : List ℕ) (h : Settled (dir ∷ left) known moved) (more : ℕ → Verdict) (moves : List ℕ)
      (told : (d : ℕ) → more d ≡ (if d == dir then judgement t (is_linked known) item dir else known d))
      (noted : (d : ℕ) → has moves d ≡ (has moved d || (dir == d && not (beq (provide s (is_linked before) dir item) (provide t (is_linked more) dir item)))))
      → is_shifted s t item dir ≡ false → moved ≡ [] → moves ≡ []
  none-moves dir left known moved h more moves told noted even none = none-left moves (λ d.
      noted d
      ∙ (λ i. has (none i) d || (dir == d && not (beq (provide s (is_linked before) dir item) (said i))))
      ∙ ap (λ (b : Bool). dir == d && b) even
      ∙ off (dir == d))
    where
      final : more dir ≡ verdict_of t item dir
      final = passed-final left more moves (settled-judged dir left known moved h more moves told noted) dir (now-passed dir left known moved h)

      said : provide t (is_linked more) dir item ≡ provide t (column (links t) item) dir item
      said = provide-same t (is_linked more) (column (links t) item) dir item (ap (λ (v : Verdict). v.found || v.lent) final)

      off : (a : Bool) → (a && false) ≡ false
      off true = refl
      off false = refl
