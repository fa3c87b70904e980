-- Which entry has a number after an event.
use Rattle.std.proofs.Common.{◌≡◌, ℕ, ◌+◌, ◌<◌, ◌≤◌, Bool, true, false, cond, List, [], ◌∷◌, ◌++◌, length, subst, refl, ap, sym, ◌∙◌, arith, inl, inr}
use Rattle.std.specs.Prelude.{◌==◌, ◌&&◌, nat_le, nat_lt, not, filter, Option, Some, None}
use Rattle.std.specs.Option.{option_map, option_map_or}
use Rattle.std.proofs.lemmas.Bool.{and_parts, cases_lt, eqb-true, eqb-false, leb-true}
use Rattle.std.proofs.lemmas.Bool.Decides.{nat_tests}
use Rattle.hac_model.specs.Tree.Changes.{added, asking, changed_at, edited, indexed, plain_body, removed, reseated, rewritten}
use Rattle.hac_model.specs.Tree.Events.{next_dirty}
use Rattle.hac_model.specs.Tree.Facts.{bare_after}
use Rattle.hac_model.specs.Tree.Mounting.{documents_from, fresh, is_gone, is_of_mount, is_such_at, mounted, without_such}
use Rattle.hac_model.specs.Tree.Valid.{IsLayout, NumbersRise}
use Rattle.hac_model.specs.Tree.{entry_at}
use Rattle.hac_model.specs.declared.events.Event.{Event}
use Rattle.hac_model.specs.declared.events.Event.TheVariants.{Mkdir, NewFile, Rewrite, Ln, Smkdir, Setq, Unq, Mark, Mv, Rm, Rmdir, Smount, Ssync, Sumount, Step, Cd}
use Rattle.hac_model.specs.declared.states.Body.{Body}
use Rattle.hac_model.specs.declared.states.Body.TheVariants.{File, Dir, Symlink, Semantic, Mount, Document}
use Rattle.hac_model.specs.declared.states.Entry.{Entry}
use Rattle.hac_model.specs.declared.states.State.{State}
use Rattle.hac_model.proofs.ChangeLemmas.{entry_at-changed, entry_at-gone, entry_at-kept, entry_at-new, entry_at-other, is_kept, numbers-filter, touched}
use Rattle.hac_model.proofs.MountLayoutLemmas.{entry_at-documents}
use Rattle.hac_model.proofs.TreeLemmas.{entry_at-low, entry_at-next}
use Rattle.scope_rules.specs.Fates.{goes, new_body, new_parent}

-- what the event makes of an entry that stays
abbrev pub stayed : Event → List Entry → Entry → Entry
stayed (Rewrite file text) entries = touched file (edited (rewritten text))
stayed (Setq dir query told) entries = touched dir (edited (asking query))
stayed (Unq dir) entries = touched dir (edited plain_body)
stayed (Mv entry dir name) entries = touched entry (reseated dir name)
stayed Step entries = option_map_or (λ file. touched file (edited indexed)) (next_dirty entries) (λ e. e)
stayed other entries = λ e. e

-- the entry of a number after the event, where the number isn't new
abbrev pub left_at : Event → State → ℕ → Option Entry
left_at e t n = cond (goes e t n) None (option_map (stayed e t.entries) (entry_at t.entries n))

-- an entry that the event brings
pub record IsNew (e : Event) (t : State) (n : ℕ) (x : Entry) : Type 0 where
  pub found : entry_at (bare_after e t).entries n ≡ Some x
  pub parent : x.parent ≡ new_parent e t.next n
  pub body : Some x.body ≡ new_body e t.next n

same-option : (o : Option Entry) → o ≡ option_map (λ (e : Entry). e) o
same-option None = refl
same-option (Some e) = refl

-- Entries go.

-- all that pass a test, and no others
without-at : (test : Entry → Bool) (above : ℕ) (es : List Entry) (next n : ℕ) → NumbersRise above es next → entry_at (filter (λ e. not (test e)) es) n ≡ cond (is_such_at test es n) None (entry_at es n)
without-at test above [] next n rise = refl
without-at test above (e ∷ es) next n rise =
    elim (e.number == n) as (λ b. (e.number == n) ≡ b → entry_at (cond (not (test e)) (e ∷ filter (λ e. not (test e)) es) (filter (λ e. not (test e)) es)) n ≡ cond (option_map_or test (cond b (Some e) (entry_at es n)) false) None (cond b (Some e) (entry_at es n))) [
      | true ↦ (λ here. elim (test e) as (λ t. entry_at (cond (not t) (e ∷ filter (λ e. not (test e)) es) (filter (λ e. not (test e)) es)) n ≡ cond t None (Some e)) [
        | true ↦ entry_at-low e.number (filter (λ e. not (test e)) es) next n (numbers-filter (λ e. not (test e)) e.number es next rise.1) (let same : e.number ≡ n = eqb-true e.number n here in omega arith)
        | false ↦ ap (λ (b : Bool). cond b (Some e) (entry_at (filter (λ e. not (test e)) es) n)) here
      ])
      | false ↦ (λ other.
          let rest = without-at test e.number es next n rise.1 in
          elim (test e) as (λ t. entry_at (cond (not t) (e ∷ filter (λ e. not (test e)) es) (filter (λ e. not (test e)) es)) n ≡ cond (is_such_at test es n) None (entry_at es n)) [
            | true ↦ rest
            | false ↦ ap (λ (b : Bool). cond b (Some e) (entry_at (filter (λ e. not (test e)) es) n)) other ∙ rest
          ])
    ] refl

removed-at : (es : List Entry) (k n : ℕ) → entry_at (filter (is_kept k) es) n ≡ cond (n == k) None (entry_at es n)
removed-at es k n = elim (n == k) as (λ b. (n == k) ≡ b → entry_at (filter (is_kept k) es) n ≡ cond b None (entry_at es n)) [
  | true ↦ (λ here. ap (entry_at (filter (is_kept k) es)) (eqb-true n k here) ∙ entry_at-gone k es)
  | false ↦ (λ other. entry_at-kept k es n (λ same. eqb-false n k other (sym same)))
] refl

-- Entries come.

behind : (es fs : List Entry) (n : ℕ) → entry_at es n ≡ None → entry_at (es ++ fs) n ≡ entry_at fs n
behind [] fs n none = refl
behind (e ∷ es) fs n none = elim (e.number == n) as (λ b. cond b (Some e) (entry_at es n) ≡ None → cond b (Some e) (entry_at (es ++ fs) n) ≡ entry_at fs n) [
  | true ↦ (λ none. absurd cc)
  | false ↦ (λ none. behind es fs n none)
] none

-- one of several documents
document-at : (first mount n : ℕ) (names : List (List ℕ)) → first ≤ n → n < first + length names →
    (x : Entry) × (entry_at (documents_from first mount names) n ≡ Some x) × (x.parent ≡ mount) × (x.body ≡ Document)
document-at first mount n [] low high = absurd (omega arith)
document-at first mount n (name ∷ names) low high =
    let new : Entry = record { number = first; parent = mount; name = name; body = Document } in
    elim (first == n) as (λ b. (first == n) ≡ b → (x : Entry) × (cond b (Some new) (entry_at (documents_from (first + 1) mount names) n) ≡ Some x) × (x.parent ≡ mount) × (x.body ≡ Document)) [
      | true ↦ (λ here. (new, refl, refl, refl))
      | false ↦ (λ other.
          let apart : first ≡ n → ⊥ = eqb-false first n other in
          let more : first + 1 ≤ n = (elim (cases_lt first n) [ inl less ↦ omega arith | inr less ↦ absurd (apart (omega arith)) ]) in
          document-at (first + 1) mount n names more (omega arith))
    ] refl

document-behind : (es : List Entry) (first mount n : ℕ) (names : List (List ℕ)) → entry_at es n ≡ None → first ≤ n → n < first + length names →
    (x : Entry) × (entry_at (es ++ documents_from first mount names) n ≡ Some x) × (x.parent ≡ mount) × (x.body ≡ Document)
document-behind es first mount n names none low high =
    let found = document-at first mount n names low high in
    (found.0, behind es (documents_from first mount names) n none ∙ found.1, found.2, found.3)

lt-true : (m n : ℕ) → nat_lt m n ≡ true → m < n
lt-true m n h = grind (arith, nat_tests)

module _ (t : State) (h : IsLayout t) where
  none-above : (n : ℕ) → t.next ≤ n → entry_at t.entries n ≡ None
  none-above n high = entry_at-next 0 t.entries t.next n h.numbers high

  -- the one that is added
  added-at : (n dir : ℕ) (name : List ℕ) (body : Body) → t.next ≤ n → n < t.next + 1 → (x : Entry) × (entry_at (added t dir name body).entries n ≡ Some x) × (x.parent ≡ dir) × (x.body ≡ body)
  added-at n dir name body low high =
      let new : Entry = record { number = t.next; parent = dir; name = name; body = body } in
      let same : t.next ≡ n = omega arith in
      (new, ap (λ (k : ℕ). entry_at (added t dir name body).entries k) (sym same) ∙ entry_at-new t.entries new (none-above t.next (omega arith)), refl, refl)

  new-added : (e : Event) (n dir : ℕ) (name : List ℕ) (body : Body) → bare_after e t ≡ added t dir name body → new_parent e t.next n ≡ dir → new_body e t.next n ≡ Some body → t.next ≤ n → n < (bare_after e t).next → (x : Entry) × IsNew e t n x
  new-added e n dir name body after parent is low high =
      let made = added-at n dir name body low (subst (λ (s : State). n < s.next) after high) in
      (made.0, record { found = ap (λ (s : State). entry_at s.entries n) after ∙ made.1; parent = made.2 ∙ sym parent; body = ap (λ (b : Body). Some b) made.3 ∙ sym is })

  new-mounted : (n dir : ℕ) (name space : List ℕ) (documents told : List (List ℕ)) → t.next ≤ n → n < t.next + 1 + length documents → (x : Entry) × IsNew (Smount dir name space documents told) t n x
  new-mounted n dir name space documents told low high =
      elim (n == t.next) as (λ b. (n == t.next) ≡ b → (x : Entry) × IsNew (Smount dir name space documents told) t n x) [
        | true ↦ (λ here.
            let same : n ≡ t.next = eqb-true n t.next here in (
              mount,
              record {
                found = entry_at-documents (t.entries ++ mount ∷ []) (t.next + 1) t.next n documents (omega arith) ∙ ap (entry_at (t.entries ++ mount ∷ [])) same ∙ entry_at-new t.entries mount (none-above t.next (omega arith));
                parent = ap (λ (b : Bool). cond b dir t.next) (sym here);
                body = ap (λ (b : Bool). Some (cond b (Mount space []) Document)) (sym here);
              },
            ))
        | false ↦ (λ other.
            let apart : n ≡ t.next → ⊥ = eqb-false n t.next other in
            let more : t.next + 1 ≤ n = (elim (cases_lt t.next n) [ inl less ↦ omega arith | inr less ↦ absurd (apart (omega arith)) ]) in
            let none : entry_at (t.entries ++ mount ∷ []) n ≡ None = entry_at-other t.entries mount n (λ same. apart (sym same)) ∙ none-above n low in
            let found = document-behind (t.entries ++ mount ∷ []) (t.next + 1) t.next n documents none more high in (
              found.0,
              record {
                found = found.1;
                parent = found.2 ∙ ap (λ (b : Bool). cond b dir t.next) (sym other);
                body = ap (λ (b : Body). Some b) found.3 ∙ ap (λ (b : Bool). Some (cond b (Mount space []) Document)) (sym other);
              },
            ))
      ] refl
    where
      mount : Entry
      mount = record { number = t.next; parent = dir; name = name; body = Mount space [] }

  new-synced : (n mount : ℕ) (documents told : List (List ℕ)) → t.next ≤ n → n < t.next + length (fresh t mount documents) → (x : Entry) × IsNew (Ssync mount documents told) t n x
  new-synced n mount documents told low high =
      let none : entry_at (without_such (is_gone mount documents) t).entries n ≡ None =
      without-at (is_gone mount documents) 0 t.entries t.next n h.numbers ∙ ap (λ (o : Option Entry). cond (is_such_at (is_gone mount documents) t.entries n) None o) (none-above n low) ∙ never (is_such_at (is_gone mount documents) t.entries n) in
      let found = document-behind (without_such (is_gone mount documents) t).entries t.next mount n (fresh t mount documents) none low high in
      (found.0, record { found = found.1; parent = found.2; body = ap (λ (b : Body). Some b) found.3 })
    where
      never : (b : Bool) → cond {A = Option Entry} b None None ≡ None
      never true = refl
      never false = refl

  step-next : (bare_after Step t).next ≡ t.next
  step-next = elim (next_dirty t.entries) as (λ o. (option_map_or (λ file. changed_at t file (edited indexed)) o t).next ≡ t.next) [ None ↦ refl | Some file ↦ refl ]

  -- the numbers that an event takes are those of new entries
  new-at : (e : Event) (n : ℕ) → t.next ≤ n → n < (bare_after e t).next → (x : Entry) × IsNew e t n x
  new-at (Mkdir dir name) n low high = new-added (Mkdir dir name) n dir name Dir refl refl refl low high
  new-at (NewFile dir name text) n low high = new-added (NewFile dir name text) n dir name (File text true None) refl refl refl low high
  new-at (Ln dir name target) n low high = new-added (Ln dir name target) n dir name (Symlink target) refl refl refl low high
  new-at (Smkdir dir name query told) n low high = new-added (Smkdir dir name query told) n dir name (Semantic query [] []) refl refl refl low high
  new-at (Smount dir name space documents told) n low high = new-mounted n dir name space documents told low high
  new-at (Ssync mount documents told) n low high = new-synced n mount documents told low high
  new-at Step n low high = absurd (omega (arith, step-next, low, high))
  new-at other n low high = absurd (omega arith)

  -- Entries stay.

  plain-left : (n : ℕ) → entry_at t.entries n ≡ option_map (λ (e : Entry). e) (entry_at t.entries n)
  plain-left n = same-option (entry_at t.entries n)

  added-left : (n dir : ℕ) (name : List ℕ) (body : Body) → n < t.next → entry_at (added t dir name body).entries n ≡ option_map (λ (e : Entry). e) (entry_at t.entries n)
  added-left n dir name body low = entry_at-other t.entries (record { number = t.next; parent = dir; name = name; body = body }) n (λ same. omega arith) ∙ plain-left n

  step-left : (n : ℕ) → entry_at (bare_after Step t).entries n ≡ option_map (stayed Step t.entries) (entry_at t.entries n)
  step-left n = elim (next_dirty t.entries) as (λ o. entry_at (option_map_or (λ file. changed_at t file (edited indexed)) o t).entries n ≡ option_map (option_map_or (λ file. touched file (edited indexed)) o (λ e. e)) (entry_at t.entries n)) [
    | None ↦ plain-left n
    | Some file ↦ entry_at-changed file (edited indexed) t.entries n (λ e. refl)
  ]

  mounted-left : (n dir : ℕ) (name space : List ℕ) (documents : List (List ℕ)) → n < t.next → entry_at (mounted t dir name space [] documents).entries n ≡ option_map (λ (e : Entry). e) (entry_at t.entries n)
  mounted-left n dir name space documents low =
      entry_at-documents (added t dir name (Mount space [])).entries (t.next + 1) t.next n documents (omega arith) ∙ added-left n dir name (Mount space []) low

  such-left : (test : Entry → Bool) (n : ℕ) → entry_at (without_such test t).entries n ≡ cond (is_such_at test t.entries n) None (option_map (λ (e : Entry). e) (entry_at t.entries n))
  such-left test n = without-at test 0 t.entries t.next n h.numbers ∙ ap (λ (o : Option Entry). cond (is_such_at test t.entries n) None o) (plain-left n)

  removed-left : (k n : ℕ) → entry_at (removed t k).entries n ≡ cond (n == k) None (option_map (λ (e : Entry). e) (entry_at t.entries n))
  removed-left k n = removed-at t.entries k n ∙ ap (λ (o : Option Entry). cond (n == k) None o) (plain-left n)

  low-left : (e : Event) (n : ℕ) → n < t.next → entry_at (bare_after e t).entries n ≡ left_at e t n
  low-left (Mkdir dir name) n low = added-left n dir name Dir low
  low-left (NewFile dir name text) n low = added-left n dir name (File text true None) low
  low-left (Ln dir name target) n low = added-left n dir name (Symlink target) low
  low-left (Smkdir dir name query told) n low = added-left n dir name (Semantic query [] []) low
  low-left (Rewrite file text) n low = entry_at-changed file (edited (rewritten text)) t.entries n (λ e. refl)
  low-left (Setq dir query told) n low = entry_at-changed dir (edited (asking query)) t.entries n (λ e. refl)
  low-left (Unq dir) n low = entry_at-changed dir (edited plain_body) t.entries n (λ e. refl)
  low-left (Mv entry dir name) n low = entry_at-changed entry (reseated dir name) t.entries n (λ e. refl)
  low-left (Rm entry) n low = removed-left entry n
  low-left (Rmdir dir) n low = removed-left dir n
  low-left (Smount dir name space documents told) n low = mounted-left n dir name space documents low
  low-left (Ssync mount documents told) n low = entry_at-documents (without_such (is_gone mount documents) t).entries t.next mount n (fresh t mount documents) low ∙ such-left (is_gone mount documents) n
  low-left (Sumount mount) n low = such-left (is_of_mount mount) n
  low-left Step n low = step-left n
  low-left (Mark mark) n low = plain-left n
  low-left (Cd session dir) n low = plain-left n

  -- no event gives numbers back
  next-grows : (e : Event) → t.next ≤ (bare_after e t).next
  next-grows Step = omega (arith, step-next)
  next-grows other = omega arith

  left-none : (e : Event) (n : ℕ) → entry_at t.entries n ≡ None → left_at e t n ≡ None
  left-none e n none = ap (λ (o : Option Entry). cond (goes e t n) None (option_map (stayed e t.entries) o)) none ∙ (elim (goes e t n) as (λ b. cond {A = Option Entry} b None None ≡ None) [ true ↦ refl | false ↦ refl ])

  -- the entry of a number that isn't new
  pub left : (e : Event) (n : ℕ) → IsLayout (bare_after e t) → (nat_le t.next n && nat_lt n (bare_after e t).next) ≡ false → entry_at (bare_after e t).entries n ≡ left_at e t n
  left e n after old = elim (cases_lt n t.next) [
    | inl low ↦ low-left e n low
    | inr high ↦ elim (cases_lt n (bare_after e t).next) [
      | inl less ↦ absurd (grind (arith, nat_tests, old, high, less))
      | inr above ↦ entry_at-next 0 (bare_after e t).entries (bare_after e t).next n after.numbers above ∙ sym (left-none e n (none-above n high))
    ]
  ]

  -- the entry of a new one
  pub new : (e : Event) (n : ℕ) → (nat_le t.next n && nat_lt n (bare_after e t).next) ≡ true → (x : Entry) × IsNew e t n x
  new e n is = let parts = and_parts (nat_le t.next n) (nat_lt n (bare_after e t).next) is in new-at e n (leb-true t.next n parts.0) (lt-true n (bare_after e t).next parts.1)
