-- Events change the tree alone as they change the state whose tree it is.
use Rattle.std.proofs.Common.{◌≡◌, ℕ, ◌+◌, Bool, true, false, cond, List, [], ◌∷◌, ◌++◌, refl, ap, sym, ◌∙◌}
use Rattle.std.specs.Prelude.{◌==◌, ◌&&◌, if◌then◌else◌, length, not, filter, map, Option, Some, None, is_none}
use Rattle.std.specs.Option.{option_map_or}
use Rattle.std.proofs.lemmas.List.{map-append}
use Rattle.hac_model.specs.Tree.Bare.{bare, bare_body}
use Rattle.hac_model.specs.Tree.Events.{added, apply, asking, changed_in, changed_at, edited, forgetting, forgotten, indexed, marked, next_dirty, plain_body, removed, reseated, rewritten}
use Rattle.hac_model.specs.Query.Formula.{Formula}
use Rattle.hac_model.specs.Tree.Mounting.{answers_to, cleared, documents_from, forgetting_such, fresh, is_among, is_gone, is_of_mount, is_such_at, keeping, mounted, synced, unmounted, without_such}
use Rattle.hac_model.specs.Tree.Mounts.{terms_to_ask}
use Rattle.hac_model.specs.Tree.{child}
use Rattle.hac_model.specs.declared.events.Event.{Event}
use Rattle.hac_model.specs.declared.events.Event.TheVariants.{Mkdir, NewFile, Rewrite, Ln, Mark, Mv, Rm, Rmdir, Setq, Smkdir, Smount, Ssync, Sumount, Step, Unq}
use Rattle.hac_model.specs.declared.marks.Kind.{Kind}
use Rattle.hac_model.specs.declared.marks.Kind.TheVariants.{Transient, Permanent, Prohibited, Unlinked}
use Rattle.hac_model.specs.declared.states.Answer.{Answer}
use Rattle.hac_model.specs.declared.states.Body.{Body}
use Rattle.hac_model.specs.declared.states.Body.TheVariants.{File, Dir, Symlink, Semantic, Mount, Document}
use Rattle.hac_model.specs.declared.states.Entry.{Entry}
use Rattle.hac_model.specs.declared.states.State.{State}
use Rattle.hac_model.proofs.ChangeLemmas.{is_kept, touched}
use Rattle.hac_model.specs.Tree.Asking.{with_told}
use Rattle.hac_model.proofs.GainLemmas.{bare-told}
use Rattle.hac_model.proofs.MapLemmas.{child-mapped}
use Rattle.hac_model.specs.declared.versions.Version.{Version}
use Rattle.hac_model.proofs.AlikeLemmas.{bare-dirty}
use Rattle.hac_model.proofs.KindLemmas.{role-bare, keeps-document}

-- what is bare stays so
bare-again : (body : Body) → bare_body (bare_body body) ≡ bare_body body
bare-again (Semantic query permanent prohibited) = refl
bare-again (Mount space answers) = refl
bare-again other = refl

entries-again : (es : List Entry) → map (edited bare_body) (map (edited bare_body) es) ≡ map (edited bare_body) es
entries-again [] = refl
entries-again (e ∷ es) = λ i. record e { body = bare-again e.body i } ∷ entries-again es i

-- a change of an entry goes on without what was taken from it
abbrev Passes : (Entry → Entry) → Type 0
Passes change = (e : Entry) → edited bare_body (change e) ≡ edited bare_body (change (edited bare_body e))

changed-bare : (n : ℕ) (change : Entry → Entry) (es : List Entry) → Passes change → map (edited bare_body) (changed_in n change es) ≡ map (edited bare_body) (changed_in n change (map (edited bare_body) es))
changed-bare n change [] passes = refl
changed-bare n change (e ∷ es) passes = λ i. one i ∷ changed-bare n change es passes i
  where
    one : edited bare_body (touched n change e) ≡ edited bare_body (touched n change (edited bare_body e))
    one = elim (e.number == n) as (λ b. edited bare_body (cond b (change e) e) ≡ edited bare_body (cond b (change (edited bare_body e)) (edited bare_body e))) [
      | true ↦ passes e
      | false ↦ sym (ap (λ (body : Body). record e { body = body }) (bare-again e.body))
    ]

-- an edit of what isn't bare changes nothing
pub changed-kept : (n : ℕ) (edit : Body → Body) (es : List Entry) → ((body : Body) → bare_body (edit body) ≡ bare_body body) → map (edited bare_body) (changed_in n (edited edit) es) ≡ map (edited bare_body) es
changed-kept n edit [] same = refl
changed-kept n edit (e ∷ es) same = λ i. one (e.number == n) i ∷ changed-kept n edit es same i
  where
    one : (b : Bool) → edited bare_body (cond b (edited edit e) e) ≡ edited bare_body e
    one true = ap (λ (body : Body). record e { body = body }) (same e.body)
    one false = refl

kept-bare : (n : ℕ) (es : List Entry) → map (edited bare_body) (filter (is_kept n) es) ≡ map (edited bare_body) (filter (is_kept n) (map (edited bare_body) es))
kept-bare n [] = refl
kept-bare n (e ∷ es) = elim (e.number == n) as (λ b. map (edited bare_body) (cond (not b) (e ∷ filter (is_kept n) es) (filter (is_kept n) es)) ≡ map (edited bare_body) (cond (not b) (edited bare_body e ∷ filter (is_kept n) (map (edited bare_body) es)) (filter (is_kept n) (map (edited bare_body) es)))) [
  | true ↦ kept-bare n es
  | false ↦ (λ i. record e { body = sym (bare-again e.body) i } ∷ kept-bare n es i)
]

pub next_dirty-bare : (es : List Entry) → next_dirty (map (edited bare_body) es) ≡ next_dirty es
next_dirty-bare [] = refl
next_dirty-bare (e ∷ es) = λ i. cond (bare-dirty e.body i) (Some e.number) (next_dirty-bare es i)

rewritten-passes : (text : List ℕ) → Passes (edited (rewritten text))
rewritten-passes text e = ap (λ (body : Body). record e { body = body }) (same e.body)
  where
    same : (body : Body) → bare_body (rewritten text body) ≡ bare_body (rewritten text (bare_body body))
    same (File old dirty shown) = refl
    same Dir = refl
    same (Symlink target) = refl
    same (Semantic query permanent prohibited) = refl
    same (Mount space answers) = refl
    same Document = refl

indexed-passes : Passes (edited indexed)
indexed-passes e = ap (λ (body : Body). record e { body = body }) (same e.body)
  where
    same : (body : Body) → bare_body (indexed body) ≡ bare_body (indexed (bare_body body))
    same (File old dirty shown) = refl
    same Dir = refl
    same (Symlink target) = refl
    same (Semantic query permanent prohibited) = refl
    same (Mount space answers) = refl
    same Document = refl

pub asking-passes : (query : Formula ℕ) → Passes (edited (asking query))
asking-passes query e = ap (λ (body : Body). record e { body = body }) (same e.body)
  where
    same : (body : Body) → bare_body (asking query body) ≡ bare_body (asking query (bare_body body))
    same (File old dirty shown) = refl
    same Dir = refl
    same (Symlink target) = refl
    same (Semantic old permanent prohibited) = refl
    same (Mount space answers) = refl
    same Document = refl

plain-passes : Passes (edited plain_body)
plain-passes e = ap (λ (body : Body). record e { body = body }) (same e.body)
  where
    same : (body : Body) → bare_body (plain_body body) ≡ bare_body (plain_body (bare_body body))
    same (File old dirty shown) = refl
    same Dir = refl
    same (Symlink target) = refl
    same (Semantic query permanent prohibited) = refl
    same (Mount space answers) = refl
    same Document = refl

-- marks are taken away with what is bare
forgetting-bare : (n : ℕ) (body : Body) → bare_body (forgetting n body) ≡ bare_body body
forgetting-bare n (Semantic query permanent prohibited) = refl
forgetting-bare n other = refl

pub marked-bare : (n : ℕ) (kind : Kind) (body : Body) → bare_body (marked n kind body) ≡ bare_body body
marked-bare n Permanent (Semantic query permanent prohibited) = refl
marked-bare n Prohibited (Semantic query permanent prohibited) = refl
marked-bare n Transient (Semantic query permanent prohibited) = refl
marked-bare n Unlinked (Semantic query permanent prohibited) = refl
marked-bare n Permanent other = refl
marked-bare n Prohibited other = refl
marked-bare n Transient other = refl
marked-bare n Unlinked other = refl

marked-passes : (n : ℕ) (kind : Kind) → Passes (edited (marked n kind))
marked-passes n kind e = ap (λ (body : Body). record e { body = body }) (marked-bare n kind e.body ∙ sym (bare-again e.body) ∙ sym (marked-bare n kind (bare_body e.body)))

-- the bodies of a state without an item's marks are bare as they were
pub forgotten-entries : (n : ℕ) (es : List Entry) → map (edited bare_body) (map (edited (forgetting n)) es) ≡ map (edited bare_body) es
forgotten-entries n [] = refl
forgotten-entries n (e ∷ es) = λ i. record e { body = forgetting-bare n e.body i } ∷ forgotten-entries n es i

reseated-passes : (dir : ℕ) (name : List ℕ) → Passes (reseated dir name)
reseated-passes dir name e = ap (λ (body : Body). record (reseated dir name e) { body = body }) (sym (bare-again e.body))

-- states with these entries are bare alike
alike : (version : Version) (next : ℕ) (es fs : List Entry) (s t : State) → map (edited bare_body) es ≡ map (edited bare_body) fs → bare (record { version = version; next = next; entries = es; sessions = s.sessions }) ≡ bare (record { version = version; next = next; entries = fs; sessions = t.sessions })
alike version next es fs s t same = λ i. record { version = version; next = next; entries = same i; sessions = [] }

pub added-bare : (s : State) (dir : ℕ) (name : List ℕ) (body : Body) → bare (added s dir name body) ≡ bare (added (bare s) dir name body)
added-bare s dir name body = alike s.version (s.next + 1) (s.entries ++ new ∷ []) (map (edited bare_body) s.entries ++ new ∷ []) s (bare s) (
    map-append (edited bare_body) s.entries (new ∷ [])
    ∙ ap (λ (es : List Entry). es ++ edited bare_body new ∷ []) (sym (entries-again s.entries))
    ∙ sym (map-append (edited bare_body) (map (edited bare_body) s.entries) (new ∷ [])))
  where
    new : Entry
    new = record { number = s.next; parent = dir; name = name; body = body }

pub changed_at-bare : (s : State) (n : ℕ) (change : Entry → Entry) → Passes change → bare (changed_at s n change) ≡ bare (changed_at (bare s) n change)
changed_at-bare s n change passes = alike s.version s.next (changed_in n change s.entries) (changed_in n change (map (edited bare_body) s.entries)) s (bare s) (changed-bare n change s.entries passes)

removed-bare : (s : State) (n : ℕ) → bare (removed s n) ≡ bare (removed (bare s) n)
removed-bare s n = alike s.version s.next (filter (is_kept n) s.entries) (filter (is_kept n) (map (edited bare_body) s.entries)) s (bare s) (kept-bare n s.entries)

forgotten-bare : (s : State) (n : ℕ) → bare (forgotten (removed s n) n) ≡ bare (forgotten (removed (bare s) n) n)
forgotten-bare s n = alike s.version s.next (map (edited (forgetting n)) (filter (is_kept n) s.entries)) (map (edited (forgetting n)) (filter (is_kept n) (map (edited bare_body) s.entries))) s (bare s)
    (forgotten-entries n (filter (is_kept n) s.entries) ∙ kept-bare n s.entries ∙ sym (forgotten-entries n (filter (is_kept n) (map (edited bare_body) s.entries))))

step-bare : (s : State) (o : Option ℕ) → bare (option_map_or (λ file. changed_at s file (edited indexed)) o s) ≡ bare (option_map_or (λ file. changed_at (bare s) file (edited indexed)) o (bare s))
step-bare s None = alike s.version s.next s.entries (map (edited bare_body) s.entries) s (bare s) (sym (entries-again s.entries))
step-bare s (Some file) = changed_at-bare s file (edited indexed) indexed-passes

-- Mounts come, are synced and go.

-- marks on several items are taken away with what is bare
such-bare : (test : ℕ → Bool) (body : Body) → bare_body (forgetting_such test body) ≡ bare_body body
such-bare test (Semantic query permanent prohibited) = refl
such-bare test other = refl

pub such-entries : (test : ℕ → Bool) (es : List Entry) → map (edited bare_body) (map (edited (forgetting_such test)) es) ≡ map (edited bare_body) es
such-entries test [] = refl
such-entries test (e ∷ es) = λ i. record e { body = such-bare test e.body i } ∷ such-entries test es i

pub keeping-bare : (answers : List Answer) (body : Body) → bare_body (keeping answers body) ≡ bare_body body
keeping-bare answers (Mount space kept) = refl
keeping-bare answers other = refl

-- a test that what is bare passes as before
abbrev pub PassesBare : (Entry → Bool) → Type 0
PassesBare test = (e : Entry) → test (edited bare_body e) ≡ test e

without-bare : (test : Entry → Bool) (es : List Entry) → PassesBare test →
    map (edited bare_body) (filter (λ e. not (test e)) es) ≡ map (edited bare_body) (filter (λ e. not (test e)) (map (edited bare_body) es))
without-bare test [] same = refl
without-bare test (e ∷ es) same =
    let rest = without-bare test es same in
    elim (test e) as (λ b. map (edited bare_body) (if not b then e ∷ filter (λ e. not (test e)) es else filter (λ e. not (test e)) es)
    ≡ map (edited bare_body) (if not b then edited bare_body e ∷ filter (λ e. not (test e)) (map (edited bare_body) es) else filter (λ e. not (test e)) (map (edited bare_body) es))) [
      | true ↦ rest
      | false ↦ (λ i. record e { body = sym (bare-again e.body) i } ∷ rest i)
    ] ∙ ap (λ (b : Bool). map (edited bare_body) (if not b then edited bare_body e ∷ filter (λ e. not (test e)) (map (edited bare_body) es) else filter (λ e. not (test e)) (map (edited bare_body) es))) (sym (same e))

pub gone-bare : (mount : ℕ) (names : List (List ℕ)) → PassesBare (is_gone mount names)
gone-bare mount names e = ap (λ (b : Bool). b && (e.parent == mount && not (is_among names e.name))) (keeps-document bare_body role-bare e.body)

fresh-bare : (es : List Entry) (mount : ℕ) (names : List (List ℕ)) → filter (λ name. is_none (child (map (edited bare_body) es) mount name)) names ≡ filter (λ name. is_none (child es mount name)) names
fresh-bare es mount [] = refl
fresh-bare es mount (name ∷ names) = λ i. if is_none (child-mapped bare_body es mount name i) then name ∷ fresh-bare es mount names i else fresh-bare es mount names i

pub mounted-bare : (s : State) (dir : ℕ) (name space : List ℕ) (answers others : List Answer) (documents : List (List ℕ)) → bare (mounted s dir name space answers documents) ≡ bare (mounted (bare s) dir name space others documents)
mounted-bare s dir name space answers others documents =
    alike s.version (s.next + 1 + length documents) ((s.entries ++ one answers ∷ []) ++ behind) ((map (edited bare_body) s.entries ++ one others ∷ []) ++ behind) s (bare s) (
    map-append (edited bare_body) (s.entries ++ one answers ∷ []) behind
    ∙ ap (λ (es : List Entry). es ++ map (edited bare_body) behind) (
    map-append (edited bare_body) s.entries (one answers ∷ [])
    ∙ ap (λ (es : List Entry). es ++ edited bare_body (one others) ∷ []) (sym (entries-again s.entries))
    ∙ sym (map-append (edited bare_body) (map (edited bare_body) s.entries) (one others ∷ [])))
    ∙ sym (map-append (edited bare_body) (map (edited bare_body) s.entries ++ one others ∷ []) behind))
  where
    one : List Answer → Entry
    one answers = record { number = s.next; parent = dir; name = name; body = Mount space answers }

    behind : List Entry
    behind = documents_from (s.next + 1) s.next documents

cleared-bare : (s : State) (test : Entry → Bool) → PassesBare test → map (edited bare_body) (cleared test s).entries ≡ map (edited bare_body) (cleared test (bare s)).entries
cleared-bare s test same =
    such-entries (is_such_at test s.entries) (without_such test s).entries
    ∙ without-bare test s.entries same
    ∙ sym (such-entries (is_such_at test (bare s).entries) (without_such test (bare s)).entries)

pub synced-bare : (s : State) (mount : ℕ) (answers others : List Answer) (documents : List (List ℕ)) → bare (synced s mount answers documents) ≡ bare (synced (bare s) mount others documents)
synced-bare s mount answers others documents =
    (λ i. record { version = s.version; next = s.next + length (names i); entries = entries i; sessions = [] })
  where
    test : Entry → Bool
    test = is_gone mount documents

    names : fresh s mount documents ≡ fresh (bare s) mount documents
    names = sym (fresh-bare s.entries mount documents)

    left : List Entry
    left = (cleared test s).entries

    bare-left : List Entry
    bare-left = (cleared test (bare s)).entries

    come : List (List ℕ) → List Entry
    come names = documents_from s.next mount names

    entries : map (edited bare_body) (synced s mount answers documents).entries ≡ map (edited bare_body) (synced (bare s) mount others documents).entries
    entries =
        changed-kept mount (keeping answers) (left ++ come (fresh s mount documents)) (keeping-bare answers)
        ∙ map-append (edited bare_body) left (come (fresh s mount documents))
        ∙ (λ i. cleared-bare s test (gone-bare mount documents) i ++ map (edited bare_body) (come (names i)))
        ∙ sym (map-append (edited bare_body) bare-left (come (fresh (bare s) mount documents)))
        ∙ sym (changed-kept mount (keeping others) (bare-left ++ come (fresh (bare s) mount documents)) (keeping-bare others))

unmounted-bare : (s : State) (mount : ℕ) → bare (unmounted s mount) ≡ bare (unmounted (bare s) mount)
unmounted-bare s mount = alike s.version s.next (unmounted s mount).entries (unmounted (bare s) mount).entries s (bare s) (cleared-bare s (is_of_mount mount) (λ e. refl))

bare-twice : (s : State) → bare (bare s) ≡ bare s
bare-twice s = λ i. record { version = s.version; next = s.next; entries = entries-again s.entries i; sessions = [] }

pub bare-commutes : (s : State) (event : Event) → bare (apply s event) ≡ bare (apply (bare s) event)
bare-commutes s (Mkdir dir name) = added-bare s dir name Dir
bare-commutes s (NewFile dir name text) = added-bare s dir name (File text true None)
bare-commutes s (Rewrite file text) = changed_at-bare s file (edited (rewritten text)) (rewritten-passes text)
bare-commutes s (Ln dir name target) = added-bare s dir name (Symlink target)
bare-commutes s (Smkdir dir name query told) =
    added-bare (with_told query told s) dir name (Semantic query [] [])
    ∙ ap (λ (x : State). bare (added x dir name (Semantic query [] []))) (bare-told s query told ∙ sym (bare-told (bare s) query told ∙ bare-twice s))
    ∙ sym (added-bare (with_told query told (bare s)) dir name (Semantic query [] []))
bare-commutes s (Mv entry dir name) = changed_at-bare s entry (reseated dir name) (reseated-passes dir name)
bare-commutes s (Setq dir query told) =
    changed_at-bare (with_told query told s) dir (edited (asking query)) (asking-passes query)
    ∙ ap (λ (x : State). bare (changed_at x dir (edited (asking query)))) (bare-told s query told ∙ sym (bare-told (bare s) query told ∙ bare-twice s))
    ∙ sym (changed_at-bare (with_told query told (bare s)) dir (edited (asking query)) (asking-passes query))
bare-commutes s (Unq dir) = changed_at-bare s dir (edited plain_body) plain-passes
bare-commutes s (Mark mark) = changed_at-bare s mark.dir (edited (marked mark.item mark.kind)) (marked-passes mark.item mark.kind)
bare-commutes s (Rm entry) = forgotten-bare s entry
bare-commutes s (Rmdir dir) = removed-bare s dir
bare-commutes s Step = step-bare s (next_dirty s.entries) ∙ ap (λ (o : Option ℕ). bare (option_map_or (λ file. changed_at (bare s) file (edited indexed)) o (bare s))) (sym (next_dirty-bare s.entries))
bare-commutes s (Smount dir name space documents told) =
    mounted-bare s dir name space (answers_to (terms_to_ask s.entries) told) (answers_to (terms_to_ask (bare s).entries) told) documents
bare-commutes s (Ssync mount documents told) =
    synced-bare s mount (answers_to (terms_to_ask s.entries) told) (answers_to (terms_to_ask (bare s).entries) told) documents
bare-commutes s (Sumount mount) = unmounted-bare s mount
bare-commutes s other = alike s.version s.next s.entries (map (edited bare_body) s.entries) s (bare s) (sym (entries-again s.entries))
