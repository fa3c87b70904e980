-- Events keep what mounts keep sound: their documents stay theirs, and each term in use has an answer.
use Rattle.hac_model.specs.declared.events.Event.TheVariants.{Smount, Ssync, Sumount}
use Rattle.hac_model.specs.Tree.Asking.{with_told}
use Rattle.hac_model.proofs.GainLemmas.{mount-told, told-knows, told-valid}
use Rattle.hac_model.proofs.LayoutLemmas.{apply-layout, smount-parts, ssync-parts, sumount-parts}
use Rattle.hac_model.proofs.MountKeptLemmas.{mounted-keeps, synced-keeps, unmounted-keeps}
use Rattle.std.proofs.Common.{◌≡◌, ℕ, Bool, true, false, List, [], ◌∷◌, length, refl, ap, sym, ◌∙◌, subst}
use Rattle.std.specs.Prelude.{◌==◌, ◌&&◌, not, if◌then◌else◌, filter, nat_le, Option, Some, None, IsTrue}
use Rattle.std.specs.Option.{option_map, option_map_or}
use Rattle.std.specs.List.{AllByRecursion}
use Rattle.std.proofs.lemmas.Bool.{and_parts, eqb-true, ne_eqb, not-true}
use Rattle.hac_model.specs.Query.Formula.{Formula}
use Rattle.hac_model.specs.Query.Queries.{terms_of}
use Rattle.hac_model.specs.Tree.Events.{is_free, accepted, added, apply, asking, changed_at, changed_in, edited, forgetting, forgotten, indexed, is_possible, marked, next_dirty, plain_body, removed, reseated, rewritten}
use Rattle.hac_model.specs.Tree.Limits.{is_text, passed_limit}
use Rattle.hac_model.specs.Script.PathWords.{is_target}
use Rattle.hac_model.specs.Tree.Links.{parent_of}
use Rattle.hac_model.specs.Tree.Mounts.{terms_in, terms_in_use}
use Rattle.hac_model.specs.Tree.{entry_at, is_directory, is_directory_at, is_document, is_document_at, is_leaf, is_leaf_at, is_made_directory, is_mount, is_mount_at, query_in}
use Rattle.hac_model.specs.Tree.Valid.{IsAnswer, IsValid, KeepsWell, has_few}
use Rattle.hac_model.specs.declared.events.Event.{Event}
use Rattle.hac_model.specs.declared.events.Event.TheVariants.{Mkdir, NewFile, Rewrite, Ln, Mark, Mv, Rm, Rmdir, Setq, Smkdir, Step, Unq, Cd}
use Rattle.hac_model.specs.Versions.{docs_limit}
use Rattle.hac_model.specs.declared.marks.Kind.{Kind}
use Rattle.hac_model.specs.declared.marks.Kind.TheVariants.{Transient, Permanent, Prohibited, Unlinked}
use Rattle.hac_model.specs.declared.states.Answer.{Answer}
use Rattle.hac_model.specs.declared.states.Body.{Body}
use Rattle.hac_model.specs.declared.states.Body.TheVariants.{File, Dir, Symlink, Semantic, Mount, Document}
use Rattle.hac_model.specs.declared.states.Entry.{Entry}
use Rattle.hac_model.specs.declared.states.State.{State}
use Rattle.hac_model.proofs.ChangeLemmas.{all-append, all-changed, all-filter, all-weaker, entry_at-append, entry_at-changed, entry_at-kept, is_kept as is_left, touched}
use Rattle.hac_model.proofs.KeepingLemmas.{AreKept, DocumentsStay, TermsStay, all-kept, answer-stays, document-entry, document_by, each-kept, fewer, inside, inside-added, inside-changed, inside-left, inside-mapped, keeps-stays, same-document}
use Rattle.hac_model.proofs.MapLemmas.{all-map, entry_at-mapped}
use Rattle.hac_model.proofs.TreeLemmas.{entry_at-number}
use Rattle.hac_model.proofs.ValidLemmas.{accepted-parts, found-all, free-holder, move-parts, rmdir-parts, setq-parts, smkdir-parts}
use Rattle.hac_model.proofs.KindLemmas.{KeepsRole, role-asking, role-forgetting, role-indexed, role-marked, role-plain, role-rewritten, keeps-document, keeps-mount}

-- An entry is added.

module _ (s : State) (dir : ℕ) (name : List ℕ) (body : Body) where
  abbrev new-entry : Entry
  new-entry = record { number = s.next; parent = dir; name = name; body = body }

  added-documents : DocumentsStay s (added s dir name body)
  added-documents m n there =
      let found = document-entry s m n there in
      same-document s (added s dir name body) m n (entry_at-append s.entries new-entry n found.0 found.1 ∙ sym found.1) there

  added-terms : (answers : List Answer) → AreKept answers (terms_in body) → AreKept answers (terms_in_use s.entries) → AreKept answers (terms_in_use (added s dir name body).entries)
  added-terms answers new old =
      all-kept answers (added s dir name body).entries (all-append (λ e. AreKept answers (terms_in e.body)) s.entries new-entry (each-kept answers s.entries old) new)

  -- where the directory is no mount, and each mount has an answer for each term of what is added
  added-keeps : IsValid s → is_mount_at s.entries dir ≡ false → is_mount body ≡ false → ((e : Entry) → entry_at s.entries e.number ≡ Some e → (space : List ℕ) (answers : List Answer) → e.body ≡ Mount space answers → AreKept answers (terms_in body)) →
      AllByRecursion (λ e. KeepsWell (added s dir name body) e.number e.body) (added s dir name body).entries
  added-keeps h holder plain known = all-append (λ e. KeepsWell (added s dir name body) e.number e.body) s.entries new-entry (old s.entries (found-all 0 s.entries s.next h.layout.numbers) h.answers) (new body plain)
    where
      new : (b : Body) → is_mount b ≡ false → KeepsWell (added s dir name body) s.next b
      new (Mount space answers) plain = absurd cc
      new (File text dirty shown) plain = tt
      new Dir plain = tt
      new (Symlink target) plain = tt
      new (Semantic query permanent prohibited) plain = tt
      new Document plain = tt

      old : (es : List Entry) → AllByRecursion (λ e. entry_at s.entries e.number ≡ Some e) es → AllByRecursion (λ e. KeepsWell s e.number e.body) es → AllByRecursion (λ e. KeepsWell (added s dir name body) e.number e.body) es
      old [] found keeps = tt
      old (e ∷ es) found keeps = (each e.body refl keeps.0, old es found.1 keeps.1)
        where
          each : (b : Body) → e.body ≡ b → KeepsWell s e.number b → KeepsWell (added s dir name body) e.number b
          each (Mount space answers) is sound = record {
            few = ap (λ (es : List Entry). nat_le (length es) (docs_limit s.version)) (inside-added e.number s.entries new-entry (apart is)) ∙ sound.few;
            rise = sound.rise;
            sound = all-weaker (IsAnswer s e.number) (IsAnswer (added s dir name body) e.number) answers (λ answer well. answer-stays s (added s dir name body) e.number answer added-documents well) sound.sound;
            all = added-terms answers (known e found.0 space answers is) sound.all;
          }
            where
              apart : e.body ≡ Mount space answers → (dir == e.number) ≡ false
              apart is = ne_eqb dir e.number (λ same.
                  let mount : is_mount_at s.entries dir ≡ true = ap (is_mount_at s.entries) same ∙ ap (λ (o : Option Entry). option_map_or is_mount (option_map (λ (e : Entry). e.body) o) false) found.0 ∙ ap is_mount is in
                  let never : true ≡ false = sym mount ∙ holder in cc)
          each (File text dirty shown) is sound = tt
          each Dir is sound = tt
          each (Symlink target) is sound = tt
          each (Semantic query permanent prohibited) is sound = tt
          each Document is sound = tt

-- An entry is changed: it stays what it is, and its directory isn't made a mount's.

changed-keeps : (s : State) (n : ℕ) (change : Entry → Entry) → ((e : Entry) → (change e).number ≡ e.number) → DocumentsStay s (changed_at s n change) → ((m : ℕ) → is_mount_at s.entries m ≡ true → (e : Entry) → ((change e).parent == m) ≡ true → (e.parent == m) ≡ true) →
    ((e : Entry) → entry_at s.entries e.number ≡ Some e → (space : List ℕ) (answers : List Answer) → e.body ≡ Mount space answers → AreKept answers (terms_in_use s.entries) → AreKept answers (terms_in_use (changed_at s n change).entries)) →
    ((e : Entry) → KeepsWell (changed_at s n change) e.number e.body → KeepsWell (changed_at s n change) (change e).number (change e).body) → IsValid s →
    AllByRecursion (λ e. KeepsWell (changed_at s n change) e.number e.body) (changed_at s n change).entries
changed-keeps s n change numbers documents parents terms keeps h =
    all-changed (λ e. KeepsWell (changed_at s n change) e.number e.body) n change s.entries keeps (old s.entries (found-all 0 s.entries s.next h.layout.numbers) h.answers)
  where
    old : (es : List Entry) → AllByRecursion (λ e. entry_at s.entries e.number ≡ Some e) es → AllByRecursion (λ e. KeepsWell s e.number e.body) es → AllByRecursion (λ e. KeepsWell (changed_at s n change) e.number e.body) es
    old [] found keeps = tt
    old (e ∷ es) found keeps = (each e.body refl keeps.0, old es found.1 keeps.1)
      where
        each : (b : Body) → e.body ≡ b → KeepsWell s e.number b → KeepsWell (changed_at s n change) e.number b
        each (Mount space answers) is sound = record {
          few = fewer (docs_limit s.version) (length (inside e.number s.entries)) (length (inside e.number (changed_in n change s.entries)))
              (inside-changed e.number n change s.entries (parents e.number (ap (λ (o : Option Entry). option_map_or is_mount (option_map (λ (e : Entry). e.body) o) false) found.0 ∙ ap is_mount is))) sound.few;
          rise = sound.rise;
          sound = all-weaker (IsAnswer s e.number) (IsAnswer (changed_at s n change) e.number) answers (λ answer well. answer-stays s (changed_at s n change) e.number answer documents well) sound.sound;
          all = terms e found.0 space answers is sound.all;
        }
        each (File text dirty shown) is sound = tt
        each Dir is sound = tt
        each (Symlink target) is sound = tt
        each (Semantic query permanent prohibited) is sound = tt
        each Document is sound = tt

-- documents stay where an entry is changed that keeps its number, and its directory if it is a document
changed-documents : (s : State) (n : ℕ) (change : Entry → Entry) → ((e : Entry) → (change e).number ≡ e.number) → ((e : Entry) → is_document (change e).body ≡ is_document e.body) → ((e : Entry) → is_document e.body ≡ true → entry_at s.entries n ≡ Some e → (change e).parent ≡ e.parent) → DocumentsStay s (changed_at s n change)
changed-documents s n change numbers kinds parents m k there =
    let found = document-entry s m k there in
    let moved : entry_at (changed_at s n change).entries k ≡ Some (touched n change found.0) = entry_at-changed n change s.entries k numbers ∙ ap (option_map (touched n change)) found.1 in
    ap (document_by m) moved ∙ own found.0 found.1 found.2 ∙ ap (document_by m) (sym found.1) ∙ there
  where
    own : (e : Entry) → entry_at s.entries k ≡ Some e → is_document e.body ≡ true → document_by m (Some (touched n change e)) ≡ document_by m (Some e)
    own e found is = elim (e.number == n) as (λ b. (e.number == n) ≡ b → document_by m (Some (if b then change e else e)) ≡ document_by m (Some e)) [
      | true ↦ (λ here. λ i. kinds e i && (parents e is (ap (entry_at s.entries) (sym (eqb-true e.number n here) ∙ entry_at-number s.entries k e found) ∙ found) i == m))
      | false ↦ (λ other. refl)
    ] refl

-- A body is edited.

-- the edit leaves mounts and documents as they are
pub record LeavesMounts (edit : Body → Body) : Type 0 where
  pub mounts : (space : List ℕ) (answers : List Answer) → edit (Mount space answers) ≡ Mount space answers
  pub role : KeepsRole edit

-- what is no mount keeps nothing
no-mount : (t : State) (m : ℕ) (body : Body) → is_mount body ≡ false → KeepsWell t m body
no-mount t m (Mount space answers) other = absurd cc
no-mount t m (File text dirty shown) other = tt
no-mount t m Dir other = tt
no-mount t m (Symlink target) other = tt
no-mount t m (Semantic query permanent prohibited) other = tt
no-mount t m Document other = tt

edit-keeps : (edit : Body → Body) → LeavesMounts edit → (t : State) (m : ℕ) (body : Body) → KeepsWell t m body → KeepsWell t m (edit body)
edit-keeps edit leaves t m (Mount space answers) h = subst (KeepsWell t m) (sym (leaves.mounts space answers)) h
edit-keeps edit leaves t m (File text dirty shown) h = no-mount t m (edit (File text dirty shown)) (keeps-mount edit leaves.role (File text dirty shown))
edit-keeps edit leaves t m Dir h = no-mount t m (edit Dir) (keeps-mount edit leaves.role Dir)
edit-keeps edit leaves t m (Symlink target) h = no-mount t m (edit (Symlink target)) (keeps-mount edit leaves.role (Symlink target))
edit-keeps edit leaves t m (Semantic query permanent prohibited) h = no-mount t m (edit (Semantic query permanent prohibited)) (keeps-mount edit leaves.role (Semantic query permanent prohibited))
edit-keeps edit leaves t m Document h = no-mount t m (edit Document) (keeps-mount edit leaves.role Document)

-- the terms of all entries after a change, from those of each
changed-terms : (answers : List Answer) (n : ℕ) (change : Entry → Entry) (es : List Entry) → ((e : Entry) → AreKept answers (terms_in e.body) → AreKept answers (terms_in (change e).body)) → AreKept answers (terms_in_use es) → AreKept answers (terms_in_use (changed_in n change es))
changed-terms answers n change es stay h =
    all-kept answers (changed_in n change es) (all-changed (λ e. AreKept answers (terms_in e.body)) n change es stay (each-kept answers es h))

-- where each mount has an answer for each term that the edit brings
edited-keeps : (s : State) (n : ℕ) (edit : Body → Body) → LeavesMounts edit → ((e : Entry) → entry_at s.entries e.number ≡ Some e → (space : List ℕ) (answers : List Answer) → e.body ≡ Mount space answers → (body : Body) → AreKept answers (terms_in body) → AreKept answers (terms_in (edit body))) → IsValid s →
    AllByRecursion (λ e. KeepsWell (changed_at s n (edited edit)) e.number e.body) (changed_at s n (edited edit)).entries
edited-keeps s n edit leaves known h =
    changed-keeps s n (edited edit) (λ e. refl) (changed-documents s n (edited edit) (λ e. refl) (λ e. keeps-document edit leaves.role e.body) (λ e is found. refl)) (λ m mount e here. here)
    (λ e found space answers is old. changed-terms answers n (edited edit) s.entries (λ f kept. known e found space answers is f.body kept) old)
    (λ e keeps. edit-keeps edit leaves (changed_at s n (edited edit)) e.number e.body keeps) h

-- terms that stay the same
same-terms : (edit : Body → Body) → ((body : Body) → terms_in (edit body) ≡ terms_in body) → (answers : List Answer) (body : Body) → AreKept answers (terms_in body) → AreKept answers (terms_in (edit body))
same-terms edit same answers body kept = subst (AreKept answers) (sym (same body)) kept

-- The edits of events.

rewritten-leaves : (text : List ℕ) → LeavesMounts (rewritten text)
rewritten-leaves text = record { mounts = λ space answers. refl; role = role-rewritten text }

rewritten-terms : (text : List ℕ) (body : Body) → terms_in (rewritten text body) ≡ terms_in body
rewritten-terms text (File old dirty shown) = refl
rewritten-terms text other = refl

indexed-leaves : LeavesMounts indexed
indexed-leaves = record { mounts = λ space answers. refl; role = role-indexed }

indexed-terms : (body : Body) → terms_in (indexed body) ≡ terms_in body
indexed-terms (File old dirty shown) = refl
indexed-terms other = refl

asking-leaves : (query : Formula ℕ) → LeavesMounts (asking query)
asking-leaves query = record { mounts = λ space answers. refl; role = role-asking query }

plain-leaves : LeavesMounts plain_body
plain-leaves = record { mounts = λ space answers. refl; role = role-plain }

forgetting-leaves : (n : ℕ) → LeavesMounts (forgetting n)
forgetting-leaves n = record { mounts = λ space answers. refl; role = role-forgetting n }

forgetting-terms : (n : ℕ) (body : Body) → terms_in (forgetting n body) ≡ terms_in body
forgetting-terms n (Semantic old permanent prohibited) = refl
forgetting-terms n other = refl

marked-leaves : (n : ℕ) (kind : Kind) → LeavesMounts (marked n kind)
marked-leaves n kind = record { mounts = mounts kind; role = role-marked n kind }
  where
    mounts : (kind : Kind) (space : List ℕ) (answers : List Answer) → marked n kind (Mount space answers) ≡ Mount space answers
    mounts Transient space answers = refl
    mounts Permanent space answers = refl
    mounts Prohibited space answers = refl
    mounts Unlinked space answers = refl

marked-terms : (n : ℕ) (kind : Kind) (body : Body) → terms_in (marked n kind body) ≡ terms_in body
marked-terms n Transient (Semantic old permanent prohibited) = refl
marked-terms n Transient other = refl
marked-terms n Permanent (Semantic old permanent prohibited) = refl
marked-terms n Permanent other = refl
marked-terms n Prohibited (Semantic old permanent prohibited) = refl
marked-terms n Prohibited other = refl
marked-terms n Unlinked (Semantic old permanent prohibited) = refl
marked-terms n Unlinked other = refl

asking-terms : (query : Formula ℕ) (answers : List Answer) → AreKept answers (terms_of query) → (body : Body) → AreKept answers (terms_in body) → AreKept answers (terms_in (asking query body))
asking-terms query answers new Dir old = new
asking-terms query answers new (Semantic query_was permanent prohibited) old = new
asking-terms query answers new (File text dirty shown) old = old
asking-terms query answers new (Symlink target) old = old
asking-terms query answers new (Mount space kept) old = old
asking-terms query answers new Document old = old

plain-terms : (answers : List Answer) (body : Body) → AreKept answers (terms_in body) → AreKept answers (terms_in (plain_body body))
plain-terms answers (Semantic query permanent prohibited) old = tt
plain-terms answers Dir old = old
plain-terms answers (File text dirty shown) old = old
plain-terms answers (Symlink target) old = old
plain-terms answers (Mount space kept) old = old
plain-terms answers Document old = old

-- An entry goes.

-- where no document goes
removed-documents : (s : State) (n : ℕ) → is_document_at s.entries n ≡ false → DocumentsStay s (removed s n)
removed-documents s n other m k there =
    same-document s (removed s n) m k (entry_at-kept n s.entries k (λ same.
    let here : is_document_at s.entries n ≡ true = ap (is_document_at s.entries) same ∙ (and_parts (is_document_at s.entries k) (parent_of s k == m) there).0 in
    let never : true ≡ false = sym here ∙ other in cc)) there

removed-terms : (answers : List Answer) (n : ℕ) (es : List Entry) → AreKept answers (terms_in_use es) → AreKept answers (terms_in_use (filter (is_left n) es))
removed-terms answers n es h = all-kept answers (filter (is_left n) es) (all-filter (λ e. AreKept answers (terms_in e.body)) (is_left n) es (each-kept answers es h))

removed-few : (s : State) (n m : ℕ) → has_few s.version s.entries m ≡ true → has_few (removed s n).version (removed s n).entries m ≡ true
removed-few s n m few = fewer (docs_limit s.version) (length (inside m s.entries)) (length (inside m (filter (is_left n) s.entries))) (inside-left m n s.entries) few

removed-keeps : (s : State) (n : ℕ) → is_document_at s.entries n ≡ false → IsValid s → AllByRecursion (λ e. KeepsWell (removed s n) e.number e.body) (removed s n).entries
removed-keeps s n other h =
    all-filter (λ e. KeepsWell (removed s n) e.number e.body) (is_left n) s.entries
    (all-weaker (λ e. KeepsWell s e.number e.body) (λ e. KeepsWell (removed s n) e.number e.body) s.entries
    (λ e keeps. keeps-stays s (removed s n) e.number e.body (removed-documents s n other) (removed-few s n) (λ m answers old. removed-terms answers n s.entries old) keeps) h.answers)

-- marks go from all entries
forgotten-keeps : (s : State) (n : ℕ) → AllByRecursion (λ e. KeepsWell s e.number e.body) s.entries → AllByRecursion (λ e. KeepsWell (forgotten s n) e.number e.body) (forgotten s n).entries
forgotten-keeps s n h =
    all-map (λ e. KeepsWell (forgotten s n) e.number e.body) (edited (forgetting n)) s.entries
    (all-weaker (λ e. KeepsWell s e.number e.body) (λ e. KeepsWell (forgotten s n) e.number (forgetting n e.body)) s.entries
    (λ e keeps. edit-keeps (forgetting n) (forgetting-leaves n) (forgotten s n) e.number e.body (keeps-stays s (forgotten s n) e.number e.body documents few terms keeps)) h)
  where
    documents : DocumentsStay s (forgotten s n)
    documents m k there =
        ap (document_by m) (entry_at-mapped (forgetting n) s.entries k)
        ∙ (elim (entry_at s.entries k) as (λ o. document_by m (option_map (edited (forgetting n)) o) ≡ document_by m o) [ None ↦ refl | Some e ↦ ap (λ (b : Bool). b && (e.parent == m)) (keeps-document (forgetting n) (role-forgetting n) e.body) ])
        ∙ there

    few : (m : ℕ) → has_few s.version s.entries m ≡ true → has_few (forgotten s n).version (forgotten s n).entries m ≡ true
    few m h = ap (λ (k : ℕ). nat_le k (docs_limit s.version)) (inside-mapped m (forgetting n) s.entries) ∙ h

    terms : TermsStay s (forgotten s n)
    terms m answers old = all-kept answers (forgotten s n).entries
        (all-map (λ e. AreKept answers (terms_in e.body)) (edited (forgetting n)) s.entries
        (all-weaker (λ e. AreKept answers (terms_in e.body)) (λ e. AreKept answers (terms_in (forgetting n e.body))) s.entries (λ e kept. same-terms (forgetting n) (forgetting-terms n) answers e.body kept) (each-kept answers s.entries old)))

-- All events.

-- a leaf is no document
leaf-document : (s : State) (n : ℕ) → is_leaf_at s.entries n ≡ true → is_document_at s.entries n ≡ false
leaf-document s n h = elim (entry_at s.entries n) as (λ o. option_map_or is_leaf (option_map (λ (e : Entry). e.body) o) false ≡ true → option_map_or is_document (option_map (λ (e : Entry). e.body) o) false ≡ false) [
  | None ↦ (λ h. refl)
  | Some e ↦ (λ h. body e.body h)
] h
  where
    body : (b : Body) → is_leaf b ≡ true → is_document b ≡ false
    body (File text dirty shown) h = refl
    body (Symlink target) h = refl
    body other h = absurd cc

-- nor is a directory
made-document : (s : State) (n : ℕ) → is_made_directory s.entries n ≡ true → is_document_at s.entries n ≡ false
made-document s n h = elim (entry_at s.entries n) as (λ o. option_map_or is_directory (option_map (λ (e : Entry). e.body) o) false ≡ true → option_map_or is_document (option_map (λ (e : Entry). e.body) o) false ≡ false) [
  | None ↦ (λ h. refl)
  | Some e ↦ (λ h. body e.body h)
] h
  where
    body : (b : Body) → is_directory b ≡ true → is_document b ≡ false
    body Dir h = refl
    body (Semantic query permanent prohibited) h = refl
    body (Mount space answers) h = refl
    body other h = absurd cc

-- what stands at a free place's directory is no mount
free-plain : (s : State) (dir : ℕ) (name : List ℕ) → is_free s dir name ≡ true → is_mount_at s.entries dir ≡ false
free-plain s dir name free = not-true (is_mount_at s.entries dir) (and_parts (is_directory_at s.entries dir) (not (is_mount_at s.entries dir)) (free-holder s dir name free)).1

-- an entry without a query is added
plain-added : (s : State) (dir : ℕ) (name : List ℕ) (body : Body) → IsValid s → is_free s dir name ≡ true → is_mount body ≡ false → query_in body ≡ None → AllByRecursion (λ e. KeepsWell (added s dir name body) e.number e.body) (added s dir name body).entries
plain-added s dir name body h free plain none =
    added-keeps s dir name body h (free-plain s dir name free) plain (λ e found space answers is. subst (AreKept answers) (sym (ap (λ (o : Option (Formula ℕ)). option_map_or terms_of o []) none)) tt)

pub apply-answers : (s : State) (event : Event) → IsValid s → IsTrue (accepted s event) → AllByRecursion (λ e. KeepsWell (apply s event) e.number e.body) (apply s event).entries
apply-answers s (Mkdir dir name) h ok =
    plain-added s dir name Dir h (accepted-parts (is_free s dir name) (passed_limit (added s dir name Dir)) ok).0 refl refl
apply-answers s (NewFile dir name text) h ok =
    let parts = accepted-parts (is_free s dir name && is_text text) (passed_limit (added s dir name (File text true None))) ok in
    plain-added s dir name (File text true None) h (and_parts (is_free s dir name) (is_text text) parts.0).0 refl refl
apply-answers s (Ln dir name target) h ok =
    let parts = accepted-parts (is_free s dir name && is_target target) (passed_limit (added s dir name (Symlink target))) ok in
    plain-added s dir name (Symlink target) h (and_parts (is_free s dir name) (is_target target) parts.0).0 refl refl
apply-answers s (Rewrite file text) h ok = edited-keeps s file (rewritten text) (rewritten-leaves text) (λ e found space answers is body kept. same-terms (rewritten text) (rewritten-terms text) answers body kept) h
apply-answers s (Smkdir dir name query told) h ok =
    let parts = accepted-parts (is_possible s (Smkdir dir name query told)) (passed_limit (apply s (Smkdir dir name query told))) ok in
    let fits = smkdir-parts s dir name query told parts.0 in
    let t : State = with_told query told s in
    added-keeps t dir name (Semantic query [] []) (told-valid s query told h fits.1 fits.2 fits.3) (mount-told s query told dir ∙ free-plain s dir name fits.0) refl (told-knows s query told h fits.1 fits.2)
apply-answers s (Setq dir query told) h ok =
    let parts = accepted-parts (is_possible s (Setq dir query told)) (passed_limit (apply s (Setq dir query told))) ok in
    let fits = setq-parts s dir query told parts.0 in
    let t : State = with_told query told s in
    edited-keeps t dir (asking query) (asking-leaves query) (λ e found space answers is body kept. asking-terms query answers (told-knows s query told h fits.1 fits.3 e found space answers is) body kept) (told-valid s query told h fits.1 fits.3 fits.5)
apply-answers s (Unq dir) h ok = edited-keeps s dir plain_body plain-leaves (λ e found space answers is body kept. plain-terms answers body kept) h
apply-answers s (Mark mark) h ok =
    edited-keeps s mark.dir (marked mark.item mark.kind) (marked-leaves mark.item mark.kind) (λ e found space answers is body kept. same-terms (marked mark.item mark.kind) (marked-terms mark.item mark.kind) answers body kept) h
apply-answers s (Mv entry dir name) h ok =
    let parts = accepted-parts (is_possible s (Mv entry dir name)) (passed_limit (changed_at s entry (reseated dir name))) ok in
    let fits = move-parts s entry dir name parts.0 in
    let holder = free-plain s dir name fits.1 in
    changed-keeps s entry (reseated dir name) (λ e. refl)
    (changed-documents s entry (reseated dir name) (λ e. refl) (λ e. refl) (λ e is found.
    let document : is_document_at s.entries entry ≡ true = ap (λ (o : Option Entry). option_map_or is_document (option_map (λ (e : Entry). e.body) o) false) found ∙ is in
    let never : true ≡ false = sym document ∙ fits.4 in absurd cc))
    (λ m mount e here. let same : dir ≡ m = eqb-true dir m here in let never : true ≡ false = sym mount ∙ ap (is_mount_at s.entries) (sym same) ∙ holder in absurd cc)
    (λ e found space answers is old. changed-terms answers entry (reseated dir name) s.entries (λ f kept. kept) old)
    (λ e keeps. keeps) h
apply-answers s (Rm leaf) h ok =
    let parts = accepted-parts (is_leaf_at s.entries leaf) (passed_limit (forgotten (removed s leaf) leaf)) ok in
    forgotten-keeps (removed s leaf) leaf (removed-keeps s leaf (leaf-document s leaf parts.0) h)
apply-answers s (Rmdir dir) h ok =
    let parts = accepted-parts (is_possible s (Rmdir dir)) (passed_limit (removed s dir)) ok in
    removed-keeps s dir (made-document s dir (rmdir-parts s dir parts.0).0) h
apply-answers s Step h ok = elim (next_dirty s.entries) as (λ o. AllByRecursion (λ e. KeepsWell (option_map_or (λ file. changed_at s file (edited indexed)) o s) e.number e.body) (option_map_or (λ file. changed_at s file (edited indexed)) o s).entries) [
  | None ↦ h.answers
  | Some file ↦ edited-keeps s file indexed indexed-leaves (λ e found space answers is body kept. same-terms indexed indexed-terms answers body kept) h
]
apply-answers s (Cd session dir) h ok =
    all-weaker (λ e. KeepsWell s e.number e.body) (λ e. KeepsWell (apply s (Cd session dir)) e.number e.body) s.entries (λ e keeps. keeps-stays s (apply s (Cd session dir)) e.number e.body (λ m n there. there) (λ m few. few) (λ m answers old. old) keeps) h.answers
apply-answers s (Smount dir name space documents told) h ok =
    let parts = accepted-parts (is_possible s (Smount dir name space documents told)) (passed_limit (apply s (Smount dir name space documents told))) ok in
    let fits = smount-parts s dir name space documents told parts.0 in
    let layout = apply-layout s (Smount dir name space documents told) h.layout ok in
    mounted-keeps s dir name space told documents h fits.0 (free-plain s dir name fits.0) fits.3 fits.5 layout.numbers
apply-answers s (Ssync mount documents told) h ok =
    let parts = accepted-parts (is_possible s (Ssync mount documents told)) (passed_limit (apply s (Ssync mount documents told))) ok in
    let fits = ssync-parts s mount documents told parts.0 in
    let layout = apply-layout s (Ssync mount documents told) h.layout ok in
    synced-keeps s mount told documents h fits.0 fits.2 fits.4 layout.numbers layout.differ
apply-answers s (Sumount mount) h ok =
    let parts = accepted-parts (is_possible s (Sumount mount)) (passed_limit (apply s (Sumount mount))) ok in
    unmounted-keeps s mount h (sumount-parts s mount parts.0).0 (apply-layout s (Sumount mount) h.layout ok).numbers
