-- Mounts come, are synced and go: what directories ask, how items are marked and where sessions stand stay sound.
use Rattle.std.proofs.Common.{◌≡◌, ℕ, ◌+◌, inl, inr, Bool, true, false, cond, List, [], ◌∷◌, ◌++◌, length, refl, ap, sym, ◌∙◌, arith}
use Rattle.std.specs.Prelude.{◌⊎◌, ◌==◌, ◌&&◌, ◌||◌, if◌then◌else◌, not, filter, Option, Some, None, IsTrue, option_and_then}
use Rattle.std.specs.Option.{option_map, option_map_or}
use Rattle.std.specs.List.{AllByRecursion, list_all}
use Rattle.std.proofs.lemmas.Bool.{and_parts, eqb-false, eqb-true, ne_eqb, not-true, or_parts}
use Rattle.hac_model.specs.Tree.Changes.{added, changed_at, edited}
use Rattle.hac_model.specs.Tree.Depends.{named_in, names_directory, refers_to}
use Rattle.hac_model.specs.Tree.Events.{is_unreferenced}
use Rattle.hac_model.specs.Tree.Links.{can_be_added, has, is_item}
use Rattle.hac_model.specs.Tree.Mounting.{cleared, documents_from, forgetting_such, fresh, is_gone, is_of_mount, is_such_at, keeping, mounted, numbers_without, redocumented, synced, unmounted, without_such}
use Rattle.hac_model.specs.Tree.Sessions.{is_busy}
use Rattle.hac_model.specs.Tree.{body_at, entry_at, is_directory, is_directory_at, is_document, is_file, is_holder_at, is_linkable, is_made_directory, is_mount_at, permanent_in, query_in}
use Rattle.hac_model.specs.Tree.Valid.{AreMarks, AreSessions, AsksWell, IsLayout, IsValid, NumbersRise, is_in_place}
use Rattle.hac_model.specs.declared.states.Answer.{Answer}
use Rattle.hac_model.specs.declared.states.Body.{Body}
use Rattle.hac_model.specs.declared.states.Body.TheVariants.{Semantic, Mount}
use Rattle.hac_model.specs.declared.states.Entry.{Entry}
use Rattle.hac_model.specs.declared.states.Session.{Session}
use Rattle.hac_model.specs.declared.states.State.{State}
use Rattle.hac_model.proofs.ChangeLemmas.{all-both, all-changed, all-filter, all-joined, all-weaker, directory-changed, entry_at-none, test-changed}
use Rattle.hac_model.proofs.MapLemmas.{all-map, test-mapped}
use Rattle.hac_model.proofs.MarkLemmas.{all-passes, has-filter, rise-filter}
use Rattle.hac_model.proofs.PathLemmas.{root-none}
use Rattle.hac_model.proofs.StayLemmas.{DirectoriesStay, ItemsStay, all-stay, ask-stays, sessions-stay, sessions-there}
use Rattle.hac_model.proofs.TreeLemmas.{directory-no_item, entry_at-all, entry_at-cases, entry_at-low, entry_at-number}
use Rattle.hac_model.proofs.KindLemmas.{role-keeping, role-such, keeps-directory, keeps-item}
use Rattle.hac_model.proofs.BoolLemmas.{and-false}

-- Entries come that ask nothing.

-- a state with more entries
abbrev pub extended : State → ℕ → List Entry → State
extended s next new = record s { next = next; entries = s.entries ++ new }

-- none of them has a query
abbrev pub AskNothing : List Entry → Type 0
AskNothing es = AllByRecursion (λ e. query_in e.body ≡ None) es

-- documents have none
pub documents-ask_nothing : (n m : ℕ) (names : List (List ℕ)) → AskNothing (documents_from n m names)
documents-ask_nothing n m [] = tt
documents-ask_nothing n m (name ∷ names) = (refl, documents-ask_nothing (n + 1) m names)

-- what was there before is found first
pub entry_at-joined : (es new : List Entry) (n : ℕ) (found : Entry) → entry_at es n ≡ Some found → entry_at (es ++ new) n ≡ Some found
entry_at-joined [] new n found h = absurd cc
entry_at-joined (x ∷ es) new n found h = elim (x.number == n) as (λ b. cond b (Some x) (entry_at es n) ≡ Some found → cond b (Some x) (entry_at (es ++ new) n) ≡ Some found) [ true ↦ (λ h. h) | false ↦ (λ h. entry_at-joined es new n found h) ] h

-- a test that the entry of a number passes is passed once others came
pub test-joined : (test : Body → Bool) (es new : List Entry) (n : ℕ) → option_map_or test (body_at es n) false ≡ true → option_map_or test (body_at (es ++ new) n) false ≡ true
test-joined test es new n h = elim (entry_at es n) as (λ o. entry_at es n ≡ o → option_map_or test (option_map (λ (e : Entry). e.body) o) false ≡ true → option_map_or test (body_at (es ++ new) n) false ≡ true) [
  | None ↦ (λ found h. absurd cc)
  | Some there ↦ (λ found h. ap (λ (o : Option Entry). option_map_or test (option_map (λ (e : Entry). e.body) o) false) (entry_at-joined es new n there found) ∙ h)
] refl h

pub extended-directories : (s : State) (next : ℕ) (new : List Entry) → DirectoriesStay s (extended s next new)
extended-directories s next new d h = elim (d == 0) as (λ b. (b || is_made_directory s.entries d) ≡ true → (b || is_made_directory (s.entries ++ new) d) ≡ true) [
  | true ↦ (λ h. refl)
  | false ↦ (λ h. test-joined is_directory s.entries new d h)
] h

pub extended-items : (s : State) (next : ℕ) (new : List Entry) → ItemsStay s (extended s next new)
extended-items s next new n h = test-joined is_linkable s.entries new n h

no_query-asks : (s : State) (body : Body) → query_in body ≡ None → AsksWell s body
no_query-asks s (Semantic query permanent prohibited) none = absurd cc
no_query-asks s other none = tt

pub extended-asks : (s : State) (next : ℕ) (new : List Entry) → AskNothing new → AllByRecursion (λ e. AsksWell s e.body) s.entries → AllByRecursion (λ e. AsksWell (extended s next new) e.body) (extended s next new).entries
extended-asks s next new nothing asks =
    let t : State = extended s next new in
    all-joined (λ e. AsksWell t e.body) s.entries new
    (all-stay s t (extended-directories s next new) (extended-items s next new) asks)
    (all-weaker (λ e. query_in e.body ≡ None) (λ e. AsksWell t e.body) new (λ e none. no_query-asks t e.body none) nothing)

-- Entries go, several at once.

-- what a filter leaves of what is found
abbrev pub passing : (Entry → Bool) → Entry → Option Entry
passing p e = if p e then Some e else None

-- where numbers rise there is no second entry of a number
pub entry_at-filter : (p : Entry → Bool) (above : ℕ) (es : List Entry) (next n : ℕ) → NumbersRise above es next → entry_at (filter p es) n ≡ option_and_then (passing p) (entry_at es n)
entry_at-filter p above [] next n h = refl
entry_at-filter p above (x ∷ es) next n h =
    elim (x.number == n) as (λ b. (x.number == n) ≡ b → entry_at (cond (p x) (x ∷ filter p es) (filter p es)) n ≡ option_and_then (passing p) (cond b (Some x) (entry_at es n))) [
      | true ↦ (λ here. elim (p x) as (λ k. entry_at (cond k (x ∷ filter p es) (filter p es)) n ≡ cond k (Some x) None) [
        | true ↦ ap (λ (b : Bool). cond b (Some x) (entry_at (filter p es) n)) here
        | false ↦ entry_at-none p es n (entry_at-low x.number es next n h.1 (let same : x.number ≡ n = eqb-true x.number n here in omega arith))
      ])
      | false ↦ (λ other. elim (p x) as (λ k. entry_at (cond k (x ∷ filter p es) (filter p es)) n ≡ option_and_then (passing p) (entry_at es n)) [
        | true ↦ ap (λ (b : Bool). cond b (Some x) (entry_at (filter p es) n)) other ∙ entry_at-filter p x.number es next n h.1
        | false ↦ entry_at-filter p x.number es next n h.1
      ])
    ] refl

-- an entry that fails the test is found as before
pub entry_at-stays : (test : Entry → Bool) (s : State) (n : ℕ) → IsLayout s → is_such_at test s.entries n ≡ false → entry_at (without_such test s).entries n ≡ entry_at s.entries n
entry_at-stays test s n h other =
    entry_at-filter (λ e. not (test e)) 0 s.entries s.next n h.numbers
    ∙ (elim (entry_at s.entries n) as (λ o. option_map_or test o false ≡ false → option_and_then (passing (λ e. not (test e))) o ≡ o) [
      | None ↦ (λ other. refl)
      | Some e ↦ (λ other. ap (λ (b : Bool). cond (not b) (Some e) None) other)
    ] other)

-- a body keeps its kind where marks go
-- the query of a body names no directory that goes
abbrev pub NamesLeft : (Entry → Bool) → State → Body → Type 0
NamesLeft test s body = (d : ℕ) → option_map_or (λ query. has (named_in query) d) (query_in body) false ≡ true → is_directory_at s.entries d ≡ true → is_such_at test s.entries d ≡ false

module _ (test : Entry → Bool) (s : State) (h : IsLayout s) where
  abbrev gone : ℕ → Bool
  gone n = is_such_at test s.entries n

  -- a test that the entry of a number passes or fails still, where the entry stays
  pub cleared-test : (of : Body → Bool) (n : ℕ) → ((body : Body) → of (forgetting_such gone body) ≡ of body) → gone n ≡ false → option_map_or of (body_at (cleared test s).entries n) false ≡ option_map_or of (body_at s.entries n) false
  cleared-test of n same other =
      test-mapped of (forgetting_such gone) (without_such test s).entries n same
      ∙ ap (λ (o : Option Entry). option_map_or of (option_map (λ (e : Entry). e.body) o) false) (entry_at-stays test s n h other)

  pub cleared-directory : (d : ℕ) → gone d ≡ false → is_directory_at (cleared test s).entries d ≡ is_directory_at s.entries d
  cleared-directory d other = ap (λ (b : Bool). d == 0 || b) (cleared-test is_directory d (keeps-directory (forgetting_such gone) (role-such gone)) other)

  -- what may be added, and what is an item, is so still where it stays
  pub cleared-item : (n : ℕ) → gone n ≡ false → is_item (cleared test s) n ≡ is_item s n
  cleared-item n other = cleared-test is_linkable n (keeps-item (forgetting_such gone) (role-such gone)) other

  pub cleared-added : (n : ℕ) → gone n ≡ false → can_be_added (cleared test s) n ≡ can_be_added s n
  cleared-added n other = λ i. cleared-item n other i || cleared-directory n other i

  -- what a body asks stays sound without marks on what goes
  cleared-body : (body : Body) → NamesLeft test s body → AsksWell s body → AsksWell (cleared test s) (forgetting_such gone body)
  cleared-body (Semantic query permanent prohibited) left asks = record {
    fits = ask-stays s (cleared test s) query (λ d inside there. cleared-directory d (left d inside there) ∙ there) asks.fits;
    added = marks (can_be_added s) (can_be_added (cleared test s)) cleared-added permanent asks.added;
    removed = marks (is_item s) (is_item (cleared test s)) cleared-item prohibited asks.removed;
    apart = all-filter (λ n. has (numbers_without gone prohibited) n ≡ false) (λ n. not (gone n)) permanent
        (all-weaker (λ n. has prohibited n ≡ false) (λ n. has (numbers_without gone prohibited) n ≡ false) permanent (λ n absent. has-filter (λ n. not (gone n)) prohibited n ∙ ap (λ (b : Bool). not (gone n) && b) absent ∙ and-false (not (gone n))) asks.apart);
  }
    where
      marks : (of kept : ℕ → Bool) → ((n : ℕ) → gone n ≡ false → kept n ≡ of n) → (ns : List ℕ) → AreMarks of ns → AreMarks kept (numbers_without gone ns)
      marks of kept same ns m = record {
        rise = rise-filter (λ n. not (gone n)) 0 ns m.rise;
        there = all-both (λ n. of n ≡ true) (λ n. not (gone n) ≡ true) (λ n. kept n ≡ true) (numbers_without gone ns)
            (λ n there left. same n (not-true (gone n) left) ∙ there)
            (all-filter (λ n. of n ≡ true) (λ n. not (gone n)) ns m.there) (all-passes (λ n. not (gone n)) ns);
      }
  cleared-body other left asks = tt

  pub cleared-asks : AllByRecursion (λ e. NamesLeft test s e.body) s.entries → AllByRecursion (λ e. AsksWell s e.body) s.entries → AllByRecursion (λ e. AsksWell (cleared test s) e.body) (cleared test s).entries
  cleared-asks left asks =
      all-map (λ e. AsksWell (cleared test s) e.body) (edited (forgetting_such gone)) (without_such test s).entries
      (all-filter (λ e. AsksWell (cleared test s) (forgetting_such gone e.body)) (λ e. not (test e)) s.entries
      (all-both (λ e. NamesLeft test s e.body) (λ e. AsksWell s e.body) (λ e. AsksWell (cleared test s) (forgetting_such gone e.body)) s.entries (λ e left asks. cleared-body e.body left asks) left asks))

-- Which directories go.

-- a directory is no document
directory-no_document : (s : State) (d : ℕ) (e : Entry) → IsLayout s → is_directory_at s.entries d ≡ true → entry_at s.entries d ≡ Some e → is_document e.body ≡ false
directory-no_document s d e h there found =
    let other : is_item s d ≡ false = directory-no_item s.entries d (root-none s h) there in
    right (is_file e.body) (is_document e.body) (sym (ap (λ (o : Option Entry). option_map_or is_linkable (option_map (λ (e : Entry). e.body) o) false) found) ∙ other)
  where
    right : (a b : Bool) → (a || b) ≡ false → b ≡ false
    right true b h = absurd cc
    right false b h = h

-- where documents go, no directory does
pub gone-directory : (s : State) (mount : ℕ) (names : List (List ℕ)) (d : ℕ) → IsLayout s → is_directory_at s.entries d ≡ true → is_such_at (is_gone mount names) s.entries d ≡ false
gone-directory s mount names d h there = at (entry_at-cases s.entries d)
  where
    at : (entry_at s.entries d ≡ None) ⊎ ((e : Entry) × (entry_at s.entries d ≡ Some e)) → is_such_at (is_gone mount names) s.entries d ≡ false
    at (inl none) = ap (λ (o : Option Entry). option_map_or (is_gone mount names) o false) none
    at (inr (e, found)) =
        let kind : is_document e.body ≡ false = directory-no_document s d e h there found in
        let fails : is_gone mount names e ≡ false = rw kind in
        ap (λ (o : Option Entry). option_map_or (is_gone mount names) o false) found ∙ fails

-- where a mount goes, no other directory does
pub of_mount-directory : (s : State) (mount d : ℕ) → IsLayout s → is_mount_at s.entries mount ≡ true → is_directory_at s.entries d ≡ true → (d ≡ mount → ⊥) → is_such_at (is_of_mount mount) s.entries d ≡ false
of_mount-directory s mount d h here there other = at (entry_at-cases s.entries d)
  where
    at : (entry_at s.entries d ≡ None) ⊎ ((e : Entry) × (entry_at s.entries d ≡ Some e)) → is_such_at (is_of_mount mount) s.entries d ≡ false
    at (inl none) = ap (λ (o : Option Entry). option_map_or (is_of_mount mount) o false) none
    at (inr (e, found)) =
        ap (λ (o : Option Entry). option_map_or (is_of_mount mount) o false) found
        ∙ ap (λ (b : Bool). b || e.parent == mount) (ne_eqb e.number mount (λ same. other (sym (entry_at-number s.entries d e found) ∙ same)))
        ∙ outside
      where
        place : is_holder_at s.entries e.parent ≡ true
        place =
            ap (λ (b : Bool). if b then is_mount_at s.entries e.parent else is_holder_at s.entries e.parent) (sym (directory-no_document s d e h there found))
            ∙ entry_at-all (λ e. IsTrue (is_in_place s.entries e)) s.entries d e h.places found

        outside : (e.parent == mount) ≡ false
        outside = ne_eqb e.parent mount (λ same.
            let plain : is_mount_at s.entries e.parent ≡ false = not-true (is_mount_at s.entries e.parent) (and_parts (is_directory_at s.entries e.parent) (not (is_mount_at s.entries e.parent)) place).1 in
            let never : true ≡ false = sym here ∙ ap (is_mount_at s.entries) (sym same) ∙ plain in cc)

-- What directories ask.

-- a mount is added
abbrev pub with_mount : State → ℕ → List ℕ → List ℕ → List Answer → State
with_mount s dir name space answers = added s dir name (Mount space answers)

pub mounted-queries : (s : State) (dir : ℕ) (name space : List ℕ) (answers : List Answer) (documents : List (List ℕ)) → IsValid s →
    AllByRecursion (λ e. AsksWell (mounted s dir name space answers documents) e.body) (mounted s dir name space answers documents).entries
mounted-queries s dir name space answers documents h =
    let u : State = with_mount s dir name space answers in
    extended-asks u (u.next + length documents) (documents_from u.next s.next documents) (documents-ask_nothing u.next s.next documents)
    (extended-asks s u.next (record { number = s.next; parent = dir; name = name; body = Mount space answers } ∷ []) (refl, tt) h.queries)

keeping-asks : (s : State) (answers : List Answer) (body : Body) → AsksWell s body → AsksWell s (keeping answers body)
keeping-asks s answers (Semantic query permanent prohibited) h = h
keeping-asks s answers other h = tt

-- directories and items of a state in which a mount keeps other answers
pub keeping-directories : (s : State) (mount : ℕ) (answers : List Answer) → DirectoriesStay s (changed_at s mount (edited (keeping answers)))
keeping-directories s mount answers d there = directory-changed mount (edited (keeping answers)) s.entries d (λ e. refl) (λ e. (keeps-directory (keeping answers) (role-keeping answers)) e.body) ∙ there

pub keeping-items : (s : State) (mount : ℕ) (answers : List Answer) → ItemsStay s (changed_at s mount (edited (keeping answers)))
keeping-items s mount answers n there = test-changed is_linkable mount (edited (keeping answers)) s.entries n (λ e. refl) (λ e. (keeps-item (keeping answers) (role-keeping answers)) e.body) ∙ there

pub synced-queries : (s : State) (mount : ℕ) (answers : List Answer) (documents : List (List ℕ)) → IsValid s →
    AllByRecursion (λ e. AsksWell (synced s mount answers documents) e.body) (synced s mount answers documents).entries
synced-queries s mount answers documents h =
    let u : State = cleared (is_gone mount documents) s in
    let new = documents_from u.next mount (fresh s mount documents) in
    let v : State = redocumented s mount documents in
    let left = all-weaker (λ e. AsksWell s e.body) (λ e. NamesLeft (is_gone mount documents) s e.body) s.entries (λ e asks d inside there. gone-directory s mount documents d h.layout there) h.queries in
    let asks = extended-asks u v.next new (documents-ask_nothing u.next mount (fresh s mount documents)) (cleared-asks (is_gone mount documents) s h.layout left h.queries) in
    let t : State = synced s mount answers documents in
    all-changed (λ e. AsksWell t e.body) mount (edited (keeping answers)) v.entries (λ e there. keeping-asks t answers e.body there)
    (all-stay v t (keeping-directories v mount answers) (keeping-items v mount answers) asks)

pub unmounted-queries : (s : State) (mount : ℕ) → IsValid s → is_mount_at s.entries mount ≡ true → is_unreferenced s mount ≡ true →
    AllByRecursion (λ e. AsksWell (unmounted s mount) e.body) (unmounted s mount).entries
unmounted-queries s mount h here apart = cleared-asks (is_of_mount mount) s h.layout (each s.entries apart) h.queries
  where
    first : (a b : Bool) → (a || b) ≡ false → a ≡ false
    first true b h = absurd cc
    first false b h = refl

    each : (es : List Entry) → list_all (λ e. not (refers_to mount e)) es ≡ true → AllByRecursion (λ e. NamesLeft (is_of_mount mount) s e.body) es
    each [] apart = tt
    each (e ∷ es) apart =
        let parts = and_parts (not (refers_to mount e)) (list_all (λ e. not (refers_to mount e)) es) apart in (
          λ d inside there. of_mount-directory s mount d h.layout here there (λ same.
              let named : names_directory mount e ≡ true = ap (λ (n : ℕ). names_directory n e) (sym same) ∙ inside in
              let never : true ≡ false = sym named ∙ first (names_directory mount e) (has (permanent_in e.body) mount) (not-true (refers_to mount e) parts.0) in cc),
          each es parts.1,
        )

-- Where sessions stand.

pub mounted-sessions : (s : State) (dir : ℕ) (name space : List ℕ) (answers : List Answer) (documents : List (List ℕ)) → IsValid s → AreSessions (mounted s dir name space answers documents)
mounted-sessions s dir name space answers documents h =
    let u : State = with_mount s dir name space answers in
    sessions-stay s (mounted s dir name space answers documents) refl refl h.sessions (λ d there.
    extended-directories u (u.next + length documents) (documents_from u.next s.next documents) d
    (extended-directories s u.next (record { number = s.next; parent = dir; name = name; body = Mount space answers } ∷ []) d there))

pub synced-sessions : (s : State) (mount : ℕ) (answers : List Answer) (documents : List (List ℕ)) → IsValid s → AreSessions (synced s mount answers documents)
synced-sessions s mount answers documents h =
    let u : State = cleared (is_gone mount documents) s in
    let v : State = redocumented s mount documents in
    sessions-stay s (synced s mount answers documents) refl refl h.sessions (λ d there.
    keeping-directories v mount answers d
    (extended-directories u v.next (documents_from u.next mount (fresh s mount documents)) d
    (cleared-directory (is_gone mount documents) s h.layout d (gone-directory s mount documents d h.layout there) ∙ there)))

pub unmounted-sessions : (s : State) (mount : ℕ) → IsValid s → is_mount_at s.entries mount ≡ true → is_busy s.sessions mount ≡ false → AreSessions (unmounted s mount)
unmounted-sessions s mount h here idle = sessions-there s (unmounted s mount) refl refl h.sessions (each s.sessions idle h.sessions.there)
  where
    each : (sessions : List Session) → is_busy sessions mount ≡ false → AllByRecursion (λ session. IsTrue (is_directory_at s.entries session.dir)) sessions → AllByRecursion (λ session. IsTrue (is_directory_at (unmounted s mount).entries session.dir)) sessions
    each [] idle there = tt
    each (session ∷ sessions) idle there =
        let parts = or_parts (session.dir == mount) (is_busy sessions mount) idle in
        let left = of_mount-directory s mount session.dir h.layout here there.0 (eqb-false session.dir mount parts.0) in
        (cleared-directory (is_of_mount mount) s h.layout session.dir left ∙ there.0, each sessions parts.1 there.1)
