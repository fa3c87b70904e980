-- What mounts keep stays sound where mounts come, are synced and go.
use Rattle.std.proofs.Common.{◌≡◌, ℕ, suc, ◌+◌, ◌<◌, ◌≤◌, Bool, true, false, List, [], ◌∷◌, ◌++◌, length, subst, refl, ap, sym, ◌∙◌, arith, inl, inr}
use Rattle.std.specs.Prelude.{◌⊎◌, ◌&&◌, ◌||◌, ◌==◌, not, filter, if◌then◌else◌, nat_le, Option, Some, None, IsTrue, is_none, option_and_then}
use Rattle.std.specs.Option.{option_map, option_map_or}
use Rattle.std.specs.Cmp.Lexicographic.{nat_list_eq_equiv}
use Rattle.std.specs.List.{AllByRecursion, list_all}
use Rattle.std.specs.Str.{bytes_eq}
use Rattle.std.proofs.lemmas.Bool.{and_parts, eq-eqb, eqb-true, le-leb, leb-true, ne_eqb, not-true, or_right}
use Rattle.std.proofs.lemmas.Slice.Eq.{bytes_eq-Decides}
use Rattle.hac_model.specs.Query.Queries.{is_askable}
use Rattle.hac_model.specs.Tree.Events.{changed_in, edited, is_free}
use Rattle.hac_model.specs.Tree.Mounting.{answers_to, are_told, cleared, do_rise_from, documents_from, forgetting_such, fresh, is_among, is_document_of, is_gone, is_of_mount, is_such_at, is_told, keeping, mounted, redocumented, synced, unmounted, without_such}
use Rattle.hac_model.specs.Tree.Mounts.{terms_in, terms_in_use, terms_to_ask}
use Rattle.hac_model.specs.Tree.{child, entry_at, is_directory_at, is_document, is_holder_at, is_mount, is_mount_at}
use Rattle.hac_model.specs.Tree.Valid.{has_few, is_in_place, IsAnswer, IsSoundMount, IsValid, KeepsWell, NamesDiffer, NumbersRise, RiseFrom}
use Rattle.hac_model.specs.Versions.{docs_limit}
use Rattle.hac_model.specs.declared.versions.Version.{Version}
use Rattle.hac_model.specs.declared.states.Answer.{Answer}
use Rattle.hac_model.specs.declared.states.Body.{Body}
use Rattle.hac_model.specs.declared.states.Body.TheVariants.{File, Dir, Symlink, Semantic, Mount, Document}
use Rattle.hac_model.specs.declared.states.Entry.{Entry}
use Rattle.hac_model.specs.declared.states.State.{State}
use Rattle.hac_model.specs.declared.terms.Term.{Term}
use Rattle.hac_model.proofs.ChangeLemmas.{all-append, all-changed, all-filter, all-joined, all-weaker, entry_at-append, entry_at-changed, first_apart, touched}
use Rattle.hac_model.proofs.FittingLemmas.{all-passed}
use Rattle.hac_model.proofs.KeepingLemmas.{AreKept, EachKept, all-kept, document-entry, document_by, each-kept, inside, inside-mapped, same-document}
use Rattle.hac_model.proofs.MapLemmas.{all-map, entry_at-mapped}
use Rattle.hac_model.proofs.MountAskLemmas.{entry_at-filter, passing}
use Rattle.hac_model.proofs.MountLayoutLemmas.{all-documents, all-tested, entry_at-documents}
use Rattle.hac_model.proofs.TermLemmas.{all-order, answers-rise, asked-kept, in_use-askable, order-chain}
use Rattle.hac_model.proofs.TreeLemmas.{all-entries, entry_at-all, entry_at-below, entry_at-number, place-directory}
use Rattle.hac_model.proofs.ValidLemmas.{directory-below, free-parts}
use Rattle.hac_model.proofs.SuchLemmas.{such-terms}
use Rattle.hac_model.proofs.KindLemmas.{role-keeping, role-such, keeps-document}
use Rattle.hac_model.proofs.BoolLemmas.{and-false}

-- What is found where entries come.

found-joined : (es fs : List Entry) (n : ℕ) (e : Entry) → entry_at (es ++ fs) n ≡ Some e → (entry_at es n ≡ Some e) ⊎ (entry_at fs n ≡ Some e)
found-joined [] fs n e found = inr found
found-joined (x ∷ es) fs n e found =
    elim (x.number == n) as (λ b. (if b then Some x else entry_at (es ++ fs) n) ≡ Some e → ((if b then Some x else entry_at es n) ≡ Some e) ⊎ (entry_at fs n ≡ Some e)) [
      | true ↦ (λ found. inl found)
      | false ↦ (λ found. found-joined es fs n e found)
    ] found

-- documents are what comes
found-document : (next mount n : ℕ) (names : List (List ℕ)) (e : Entry) → entry_at (documents_from next mount names) n ≡ Some e → e.body ≡ Document
found-document next mount n [] e found = absurd cc
found-document next mount n (name ∷ names) e found =
    elim (next == n) as (λ b. (if b then Some (record { number = next; parent = mount; name = name; body = Document }) else entry_at (documents_from (next + 1) mount names) n) ≡ Some e → e.body ≡ Document) [
      | true ↦ (λ found. let same : record { number = next; parent = mount; name = name; body = Document } ≡ e = cc in ap (λ (x : Entry). x.body) (sym same))
      | false ↦ (λ found. found-document (next + 1) mount n names e found)
    ] found

-- How many entries a directory has.

inside-joined : (m : ℕ) (es fs : List Entry) → length (inside m (es ++ fs)) ≡ length (inside m es) + length (inside m fs)
inside-joined m [] fs = omega arith
inside-joined m (e ∷ es) fs =
    let rest = inside-joined m es fs in
    elim (e.parent == m) as (λ b. length (if b then e ∷ inside m (es ++ fs) else inside m (es ++ fs)) ≡ length (if b then e ∷ inside m es else inside m es) + length (inside m fs)) [ true ↦ omega (arith, rest) | false ↦ rest ]

inside-some : (m : ℕ) (p : Entry → Bool) (es : List Entry) → length (inside m (filter p es)) ≤ length (inside m es)
inside-some m p [] = omega arith
inside-some m p (e ∷ es) =
    let rest = inside-some m p es in
    elim (p e) as (λ b. length (inside m (if b then e ∷ filter p es else filter p es)) ≤ length (inside m (e ∷ es))) [
      | true ↦ elim (e.parent == m) as (λ b. length (if b then e ∷ inside m (filter p es) else inside m (filter p es)) ≤ length (if b then e ∷ inside m es else inside m es)) [ true ↦ omega (arith, rest) | false ↦ rest ]
      | false ↦ elim (e.parent == m) as (λ b. length (inside m (filter p es)) ≤ length (if b then e ∷ inside m es else inside m es)) [ true ↦ omega (arith, rest) | false ↦ rest ]
    ]

inside-own : (next mount : ℕ) (names : List (List ℕ)) → length (inside mount (documents_from next mount names)) ≡ length names
inside-own next mount [] = refl
inside-own next mount (name ∷ names) =
    let rest = inside-own (next + 1) mount names in
    ap (λ (b : Bool). length (if b then record { number = next; parent = mount; name = name; body = Document } ∷ inside mount (documents_from (next + 1) mount names) else inside mount (documents_from (next + 1) mount names))) (eq-eqb mount mount refl)
    ∙ omega (arith, rest)

inside-other : (m next mount : ℕ) (names : List (List ℕ)) → (mount == m) ≡ false → length (inside m (documents_from next mount names)) ≡ 0
inside-other m next mount [] other = refl
inside-other m next mount (name ∷ names) other =
    ap (λ (b : Bool). length (if b then record { number = next; parent = mount; name = name; body = Document } ∷ inside m (documents_from (next + 1) mount names) else inside m (documents_from (next + 1) mount names))) other
    ∙ inside-other m (next + 1) mount names other

-- an edit of bodies leaves places
inside-edited : (m n : ℕ) (edit : Body → Body) (es : List Entry) → length (inside m (changed_in n (edited edit) es)) ≡ length (inside m es)
inside-edited m n edit [] = refl
inside-edited m n edit (e ∷ es) =
    let rest = inside-edited m n edit es in
    elim (e.number == n) as (λ b. length (inside m ((if b then edited edit e else e) ∷ changed_in n (edited edit) es)) ≡ length (inside m (e ∷ es))) [
      | true ↦ elim (e.parent == m) as (λ b. length (if b then edited edit e ∷ inside m (changed_in n (edited edit) es) else inside m (changed_in n (edited edit) es)) ≡ length (if b then e ∷ inside m es else inside m es)) [ true ↦ omega (arith, rest) | false ↦ rest ]
      | false ↦ elim (e.parent == m) as (λ b. length (if b then e ∷ inside m (changed_in n (edited edit) es) else inside m (changed_in n (edited edit) es)) ≡ length (if b then e ∷ inside m es else inside m es)) [ true ↦ omega (arith, rest) | false ↦ rest ]
    ]

few-less : (most n : ℕ) → n ≤ most → nat_le n most ≡ true
few-less most n less = le-leb n most less

-- A mount that keeps what it kept.

keeps-old : (s t : State) → t.version ≡ s.version → (e : Entry) (space : List ℕ) (answers : List Answer) → IsValid s → entry_at s.entries e.number ≡ Some e → e.body ≡ Mount space answers → ((k : ℕ) → is_document_of s e.number k ≡ true → is_document_of t e.number k ≡ true) → length (inside e.number t.entries) ≤ length (inside e.number s.entries)
    → (EachKept answers s.entries → EachKept answers t.entries) → KeepsWell t e.number (Mount space answers)
keeps-old s t even e space answers h found is documents fewer terms =
    let old : KeepsWell s e.number e.body = entry_at-all (λ e. KeepsWell s e.number e.body) s.entries e.number e h.answers found in
    let sound : IsSoundMount s e.number answers = subst (KeepsWell s e.number) is old in
    record {
      few = ap (λ (v : Version). has_few v t.entries e.number) even ∙ few-less (docs_limit s.version) (length (inside e.number t.entries)) (let within : length (inside e.number s.entries) ≤ docs_limit s.version = leb-true (length (inside e.number s.entries)) (docs_limit s.version) sound.few in omega (arith, within, fewer));
      rise = sound.rise;
      sound = all-weaker (IsAnswer s e.number) (IsAnswer t e.number) answers (λ answer well. record { fits = well.fits; rise = well.rise; documents = all-weaker (λ k. IsTrue (is_document_of s e.number k)) (λ k. IsTrue (is_document_of t e.number k)) answer.documents documents well.documents }) sound.sound;
      all = all-kept answers t.entries (terms (each-kept answers s.entries sound.all));
    }

-- A mount that keeps what was told.

pub rise-told : (bound : ℕ) (numbers : List ℕ) → do_rise_from bound numbers ≡ true → RiseFrom bound numbers
rise-told bound [] h = tt
rise-told bound (number ∷ numbers) h =
    let parts = and_parts (nat_le bound number) (do_rise_from (number + 1) numbers) h in
    (leb-true bound number parts.0, rise-told (number + 1) numbers parts.1)

pub answers-sound : (t : State) (m : ℕ) (terms : List Term) (told : List (List ℕ)) → AllByRecursion (λ term. is_askable term ≡ true) terms → list_all (is_told t m) told ≡ true → AllByRecursion (IsAnswer t m) (answers_to terms told)
answers-sound t m [] told askable h = tt
answers-sound t m (term ∷ terms) [] askable h = tt
answers-sound t m (term ∷ terms) (numbers ∷ told) askable h =
    let parts = and_parts (is_told t m numbers) (list_all (is_told t m) told) h in
    let own = and_parts (do_rise_from 0 numbers) (list_all (is_document_of t m) numbers) parts.0 in
    (record { fits = askable.0; rise = rise-told 0 numbers own.0; documents = all-tested (is_document_of t m) numbers own.1 }, answers-sound t m terms told askable.1 parts.1)

keeps-told : (s t : State) (m : ℕ) (space : List ℕ) (told : List (List ℕ)) → IsValid s → are_told t m (terms_to_ask s.entries) told ≡ true → length (inside m t.entries) ≤ docs_limit t.version → ((answers : List Answer) → EachKept answers s.entries → EachKept answers t.entries) → KeepsWell t m (Mount space (answers_to (terms_to_ask s.entries) told))
keeps-told s t m space told h well few terms =
    let parts = and_parts (length told == length (terms_to_ask s.entries)) (list_all (is_told t m) told) well in
    let even : length told ≡ length (terms_to_ask s.entries) = eqb-true (length told) (length (terms_to_ask s.entries)) parts.0 in
    let answers : List Answer = answers_to (terms_to_ask s.entries) told in
    record {
      few = few-less (docs_limit t.version) (length (inside m t.entries)) few;
      rise = answers-rise None (terms_to_ask s.entries) told (order-chain (terms_in_use s.entries));
      sound = answers-sound t m (terms_to_ask s.entries) told (all-order (λ term. is_askable term ≡ true) (terms_in_use s.entries) (in_use-askable s s.entries h.queries)) parts.1;
      all = all-kept answers t.entries (terms answers (each-kept answers s.entries (asked-kept s.entries told even)));
    }

-- what is no mount keeps nothing
keeps-none : (t : State) (m : ℕ) (body : Body) → ((space : List ℕ) (answers : List Answer) → body ≡ Mount space answers → KeepsWell t m (Mount space answers)) → KeepsWell t m body
keeps-none t m (Mount space answers) mounts = mounts space answers refl
keeps-none t m (File text dirty shown) mounts = tt
keeps-none t m Dir mounts = tt
keeps-none t m (Symlink target) mounts = tt
keeps-none t m (Semantic query permanent prohibited) mounts = tt
keeps-none t m Document mounts = tt

document-no_mount : (body : Body) (space : List ℕ) (answers : List Answer) → body ≡ Document → body ≡ Mount space answers → ⊥
document-no_mount body space answers document mount = let never : Document ≡ Mount space answers = sym document ∙ mount in absurd cc

come-kept : (answers : List Answer) (next mount : ℕ) (names : List (List ℕ)) → EachKept answers (documents_from next mount names)
come-kept answers next mount [] = tt
come-kept answers next mount (name ∷ names) = (tt, come-kept answers (next + 1) mount names)

-- A mount comes.

module _ (s : State) (dir : ℕ) (name space : List ℕ) (told : List (List ℕ)) (documents : List (List ℕ)) (h : IsValid s) (free : is_free s dir name ≡ true) (plain : is_mount_at s.entries dir ≡ false) where
  abbrev new-answers : List Answer
  new-answers = answers_to (terms_to_ask s.entries) told

  abbrev new-mount : Entry
  new-mount = record { number = s.next; parent = dir; name = name; body = Mount space new-answers }

  abbrev with-mount : State
  with-mount = mounted s dir name space new-answers documents

  mounted-kept : (answers : List Answer) → EachKept answers s.entries → EachKept answers with-mount.entries
  mounted-kept answers old = all-joined (λ e. AreKept answers (terms_in e.body)) (s.entries ++ new-mount ∷ []) (documents_from (s.next + 1) s.next documents) (all-append (λ e. AreKept answers (terms_in e.body)) s.entries new-mount old tt) (come-kept answers (s.next + 1) s.next documents)

  mounted-found : (k : ℕ) (e : Entry) → entry_at s.entries k ≡ Some e → entry_at with-mount.entries k ≡ Some e
  mounted-found k e found =
      let low : k < s.next = entry_at-below 0 s.entries s.next k e h.layout.numbers found in
      entry_at-documents (s.entries ++ new-mount ∷ []) (s.next + 1) s.next k documents (omega (arith, low)) ∙ entry_at-append s.entries new-mount k e found

  mounted-documents : (m k : ℕ) → is_document_of s m k ≡ true → is_document_of with-mount m k ≡ true
  mounted-documents m k there = let found = document-entry s m k there in same-document s with-mount m k (mounted-found k found.0 found.1 ∙ sym found.1) there

  mounted-inside : (m : ℕ) → (dir == m) ≡ false → length (inside m with-mount.entries) ≡ length (inside m s.entries) + length (inside m (documents_from (s.next + 1) s.next documents))
  mounted-inside m other =
      let all = inside-joined m (s.entries ++ new-mount ∷ []) (documents_from (s.next + 1) s.next documents) in
      let front = inside-joined m s.entries (new-mount ∷ []) in
      let one : length (inside m (new-mount ∷ [])) ≡ 0 = ap (λ (b : Bool). length (if b then new-mount ∷ [] else [])) other in
      omega (arith, all, front, one)

  -- no entry is in the next number yet
  mounted-empty : length (inside s.next s.entries) ≡ 0
  mounted-empty = each s.entries h.layout.places
    where
      each : (es : List Entry) → AllByRecursion (λ e. IsTrue (is_in_place s.entries e)) es → length (inside s.next es) ≡ 0
      each [] places = refl
      each (e ∷ es) places =
          let below : e.parent < s.next = directory-below s e.parent h.layout (place-directory s.entries e places.0) in
          let other : (e.parent == s.next) ≡ false = ne_eqb e.parent s.next (λ same. omega (arith, same, below)) in
          ap (λ (b : Bool). length (if b then e ∷ inside s.next es else inside s.next es)) other ∙ each es places.1

  pub mounted-keeps : are_told with-mount s.next (terms_to_ask s.entries) told ≡ true → nat_le (length documents) (docs_limit s.version) ≡ true → NumbersRise 0 with-mount.entries with-mount.next → AllByRecursion (λ e. KeepsWell with-mount e.number e.body) with-mount.entries
  mounted-keeps well few rise = all-entries (λ e. KeepsWell with-mount e.number e.body) 0 with-mount.entries with-mount.next rise (λ e found. keeps-none with-mount e.number e.body (λ shown answers is. at e shown answers is (found-joined (s.entries ++ new-mount ∷ []) (documents_from (s.next + 1) s.next documents) e.number e found)))
    where
      old : (e : Entry) (shown : List ℕ) (answers : List Answer) → e.body ≡ Mount shown answers → entry_at s.entries e.number ≡ Some e → KeepsWell with-mount e.number (Mount shown answers)
      old e shown answers is found = keeps-old s with-mount refl e shown answers h found is (mounted-documents e.number) fewer (mounted-kept answers)
        where
          low : e.number < s.next
          low = entry_at-below 0 s.entries s.next e.number e h.layout.numbers found

          apart : (dir == e.number) ≡ false
          apart = ne_eqb dir e.number (λ same.
              let mount : is_mount_at s.entries dir ≡ true = ap (is_mount_at s.entries) same ∙ ap (λ (o : Option Entry). option_map_or is_mount (option_map (λ (e : Entry). e.body) o) false) found ∙ ap is_mount is in
              let never : true ≡ false = sym mount ∙ plain in cc)

          fewer : length (inside e.number with-mount.entries) ≤ length (inside e.number s.entries)
          fewer =
              let all = mounted-inside e.number apart in
              let none = inside-other e.number (s.next + 1) s.next documents (ne_eqb s.next e.number (λ same. omega (arith, same, low))) in
              omega (arith, all, none)

      own : (e : Entry) (shown : List ℕ) (answers : List Answer) → e.body ≡ Mount shown answers → new-mount ≡ e → KeepsWell with-mount e.number (Mount shown answers)
      own e shown answers is same =
          subst (KeepsWell with-mount e.number) is (subst (λ (x : Entry). KeepsWell with-mount x.number x.body) same
          (keeps-told s with-mount s.next space told h well (let all = mounted-inside s.next apart in let mine = inside-own (s.next + 1) s.next documents in let none = mounted-empty in let within : length documents ≤ docs_limit s.version = leb-true (length documents) (docs_limit s.version) few in omega (arith, all, mine, none, within)) mounted-kept))
        where
          apart : (dir == s.next) ≡ false
          apart = ne_eqb dir s.next (λ same. let low : dir < s.next = directory-below s dir h.layout (free-parts s dir name free).0 in omega (arith, same, low))

      at : (e : Entry) (shown : List ℕ) (answers : List Answer) → e.body ≡ Mount shown answers → (entry_at (s.entries ++ new-mount ∷ []) e.number ≡ Some e) ⊎ (entry_at (documents_from (s.next + 1) s.next documents) e.number ≡ Some e) → KeepsWell with-mount e.number (Mount shown answers)
      at e shown answers is (inr document) = absurd (document-no_mount e.body shown answers (found-document (s.next + 1) s.next e.number documents e document) is)
      at e shown answers is (inl front) = before (found-joined s.entries (new-mount ∷ []) e.number e front)
        where
          before : (entry_at s.entries e.number ≡ Some e) ⊎ (entry_at (new-mount ∷ []) e.number ≡ Some e) → KeepsWell with-mount e.number (Mount shown answers)
          before (inl found) = old e shown answers is found
          before (inr last) = own e shown answers is (one last)
            where
              one : entry_at (new-mount ∷ []) e.number ≡ Some e → new-mount ≡ e
              one last = elim (s.next == e.number) as (λ b. (if b then Some new-mount else None) ≡ Some e → new-mount ≡ e) [ true ↦ (λ last. cc) | false ↦ (λ last. absurd cc) ] last

-- Names of documents.

-- the names without the first that is this one
abbrev without-name : List ℕ → List (List ℕ) → List (List ℕ)
without-name name [] = []
without-name name (other ∷ names) = if bytes_eq name other then names else other ∷ without-name name names

without-less : (name : List ℕ) (names : List (List ℕ)) → is_among names name ≡ true → suc (length (without-name name names)) ≡ length names
without-less name [] h = absurd cc
without-less name (other ∷ names) h =
    elim (bytes_eq name other) as (λ b. (b || is_among names name) ≡ true → suc (length (if b then names else other ∷ without-name name names)) ≡ length (other ∷ names)) [
      | true ↦ (λ _. refl)
      | false ↦ (λ h. ap suc (without-less name names h))
    ] h

without-among : (name other : List ℕ) (names : List (List ℕ)) → bytes_eq name other ≡ false → is_among names other ≡ true → is_among (without-name name names) other ≡ true
without-among name other [] apart h = h
without-among name other (x ∷ names) apart h =
    elim (bytes_eq name x) as (λ b. bytes_eq name x ≡ b → is_among (if b then names else x ∷ without-name name names) other ≡ true) [
      | true ↦ (λ same.
          let here : name ≡ x = (bytes_eq-Decides name x).0 same in
          let no : bytes_eq other x ≡ false = nat_list_eq_equiv.symm other x ∙ ap (λ (y : List ℕ). bytes_eq y other) (sym here) ∙ apart in
          sym (ap (λ (b : Bool). b || is_among names other) no) ∙ h)
      | false ↦ (λ _. elim (bytes_eq other x) as (λ b. (b || is_among names other) ≡ true → (b || is_among (without-name name names) other) ≡ true) [
        | true ↦ (λ _. refl)
        | false ↦ (λ h. without-among name other names apart h)
      ] h)
    ] refl

-- entries of the directory have names among these
abbrev AreNamed : ℕ → List (List ℕ) → List Entry → Type 0
AreNamed m names es = AllByRecursion (λ e. (e.parent == m) ≡ true → is_among names e.name ≡ true) es

-- another name goes, and theirs stay among the names
named-still : (m : ℕ) (name : List ℕ) (names : List (List ℕ)) (es : List Entry) → child es m name ≡ None → AreNamed m names es → AreNamed m (without-name name names) es
named-still m name names [] none h = tt
named-still m name names (e ∷ es) none h =
    let parts = first_apart (e.parent == m && bytes_eq e.name name) e.number (child es m name) none in
    (λ here. without-among name e.name names (nat_list_eq_equiv.symm name e.name ∙ other (e.parent == m) here parts.0) (h.0 here), named-still m name names es parts.1 h.1)
  where
    other : (b : Bool) → b ≡ true → (b && bytes_eq e.name name) ≡ false → bytes_eq e.name name ≡ false
    other true here none = none
    other false here none = absurd cc

-- so there are no more of them than names, since they differ
pub few-named : (m : ℕ) (names : List (List ℕ)) (es : List Entry) → NamesDiffer es → AreNamed m names es → length (inside m es) ≤ length names
few-named m names [] differ h = omega arith
few-named m names (e ∷ es) differ h =
    elim (e.parent == m) as (λ b. (e.parent == m) ≡ b → length (if b then e ∷ inside m es else inside m es) ≤ length names) [
      | true ↦ (λ here.
          let none : child es m e.name ≡ None = subst (λ (d : ℕ). child es d e.name ≡ None) (eqb-true e.parent m here) differ.0 in
          let less = without-less e.name names (h.0 here) in
          let rest = few-named m (without-name e.name names) es differ.1 (named-still m e.name names es none h.1) in
          omega (arith, less, rest))
      | false ↦ (λ _. few-named m names es differ.1 h.1)
    ] refl

all-self : (names : List (List ℕ)) → AllByRecursion (λ name. is_among names name ≡ true) names
all-self [] = tt
all-self (name ∷ names) = (
  ap (λ (b : Bool). b || is_among names name) ((bytes_eq-Decides name name).1 refl),
  all-weaker (λ other. is_among names other ≡ true) (λ other. is_among (name ∷ names) other ≡ true) names (λ other inside. or_right (bytes_eq other name) (is_among names other) inside) (all-self names),
)

-- Entries go.

-- what keeps answers kept them before
such-mounts : (test : ℕ → Bool) (body : Body) (space : List ℕ) (answers : List Answer) → forgetting_such test body ≡ Mount space answers → body ≡ Mount space answers
such-mounts test (Mount shown kept) space answers h = h
such-mounts test other space answers h = absurd cc

left-of : (test : Entry → Bool) (s : State) (n : ℕ) (e : Entry) → NumbersRise 0 s.entries s.next → entry_at (without_such test s).entries n ≡ Some e → (entry_at s.entries n ≡ Some e) × (test e ≡ false)
left-of test s n e rise found = at (entry_at s.entries n) refl (sym (entry_at-filter (λ e. not (test e)) 0 s.entries s.next n rise) ∙ found)
  where
    at : (o : Option Entry) → entry_at s.entries n ≡ o → option_and_then (passing (λ e. not (test e))) o ≡ Some e → (entry_at s.entries n ≡ Some e) × (test e ≡ false)
    at None is h = absurd cc
    at (Some x) is h = elim (test x) as (λ b. test x ≡ b → (if not b then Some x else None) ≡ Some e → (entry_at s.entries n ≡ Some e) × (test e ≡ false)) [
      | true ↦ (λ _ h. absurd cc)
      | false ↦ (λ fails h. let same : x ≡ e = cc in (is ∙ ap (λ (y : Entry). Some y) same, ap test (sym same) ∙ fails))
    ] refl h

left-found : (test : Entry → Bool) (s : State) (n : ℕ) (e : Entry) → NumbersRise 0 s.entries s.next → entry_at s.entries n ≡ Some e → test e ≡ false → entry_at (without_such test s).entries n ≡ Some e
left-found test s n e rise found fails =
    entry_at-filter (λ e. not (test e)) 0 s.entries s.next n rise ∙ ap (option_and_then (passing (λ e. not (test e)))) found ∙ ap (λ (b : Bool). if not b then Some e else None) fails

module _ (test : Entry → Bool) (s : State) (h : IsValid s) where
  abbrev at : ℕ → Bool
  at = is_such_at test s.entries

  abbrev left : State
  left = cleared test s

  cleared-of : (n : ℕ) (e : Entry) → entry_at left.entries n ≡ Some e → (g : Entry) × (entry_at s.entries n ≡ Some g) × (test g ≡ false) × (edited (forgetting_such at) g ≡ e)
  cleared-of n e found = from (entry_at (without_such test s).entries n) refl (sym (entry_at-mapped (forgetting_such at) (without_such test s).entries n) ∙ found)
    where
      from : (o : Option Entry) → entry_at (without_such test s).entries n ≡ o → option_map (edited (forgetting_such at)) o ≡ Some e → (g : Entry) × (entry_at s.entries n ≡ Some g) × (test g ≡ false) × (edited (forgetting_such at) g ≡ e)
      from None is k = absurd cc
      from (Some g) is k = let was = left-of test s n g h.layout.numbers is in let same : edited (forgetting_such at) g ≡ e = cc in (g, was.0, was.1, same)

  cleared-found : (n : ℕ) (g : Entry) → entry_at s.entries n ≡ Some g → test g ≡ false → entry_at left.entries n ≡ Some (edited (forgetting_such at) g)
  cleared-found n g found fails = entry_at-mapped (forgetting_such at) (without_such test s).entries n ∙ ap (option_map (edited (forgetting_such at))) (left-found test s n g h.layout.numbers found fails)

  cleared-kept : (answers : List Answer) → EachKept answers s.entries → EachKept answers left.entries
  cleared-kept answers old =
      all-map (λ e. AreKept answers (terms_in e.body)) (edited (forgetting_such at)) (without_such test s).entries
      (all-weaker (λ e. AreKept answers (terms_in e.body)) (λ e. AreKept answers (terms_in (forgetting_such at e.body))) (without_such test s).entries
      (λ e kept. subst (AreKept answers) (sym (such-terms at e.body)) kept) (all-filter (λ e. AreKept answers (terms_in e.body)) (λ e. not (test e)) s.entries old))

  cleared-inside : (m : ℕ) → length (inside m left.entries) ≤ length (inside m s.entries)
  cleared-inside m =
      let same = inside-mapped m (forgetting_such at) (without_such test s).entries in
      let less = inside-some m (λ e. not (test e)) s.entries in
      omega (arith, same, less)

-- A mount goes.

module _ (s : State) (mount : ℕ) (h : IsValid s) (there : is_mount_at s.entries mount ≡ true) where
  of_mount-apart : (e : Entry) → is_of_mount mount e ≡ false → ((e.number == mount) ≡ false) × ((e.parent == mount) ≡ false)
  of_mount-apart e fails = elim (e.number == mount) as (λ b. (b || e.parent == mount) ≡ false → (b ≡ false) × ((e.parent == mount) ≡ false)) [ true ↦ (λ fails. absurd cc) | false ↦ (λ fails. (refl, fails)) ] fails

  unmounted-documents : (m k : ℕ) → (m == mount) ≡ false → is_document_of s m k ≡ true → is_document_of (unmounted s mount) m k ≡ true
  unmounted-documents m k other is =
      ap (document_by m) (cleared-found (is_of_mount mount) s h k d found.1 (ap (λ (b : Bool). b || d.parent == mount) apart-number ∙ apart-parent))
      ∙ ap (λ (b : Bool). b && (d.parent == m)) (keeps-document (forgetting_such (is_such_at (is_of_mount mount) s.entries)) (role-such (is_such_at (is_of_mount mount) s.entries)) d.body)
      ∙ sym (ap (document_by m) found.1) ∙ is
    where
      found : (e : Entry) × (entry_at s.entries k ≡ Some e) × (is_document e.body ≡ true)
      found = document-entry s m k is

      d : Entry
      d = found.0

      parent : d.parent ≡ m
      parent = eqb-true d.parent m ((and_parts (is_document d.body) (d.parent == m) (sym (ap (document_by m) found.1) ∙ is)).1)

      apart-parent : (d.parent == mount) ≡ false
      apart-parent = ap (λ (x : ℕ). x == mount) parent ∙ other

      apart-number : (d.number == mount) ≡ false
      apart-number = ne_eqb d.number mount (λ same.
          let here : entry_at s.entries mount ≡ Some d = ap (entry_at s.entries) (sym same ∙ entry_at-number s.entries k d found.1) ∙ found.1 in
          let is-mount : is_mount d.body ≡ true = sym (ap (λ (o : Option Entry). option_map_or is_mount (option_map (λ (e : Entry). e.body) o) false) here) ∙ there in
          never d.body found.2 is-mount)
        where
          never : (b : Body) → is_document b ≡ true → is_mount b ≡ true → ⊥
          never Document h k = absurd cc
          never other h k = absurd cc

  pub unmounted-keeps : NumbersRise 0 (unmounted s mount).entries s.next → AllByRecursion (λ e. KeepsWell (unmounted s mount) e.number e.body) (unmounted s mount).entries
  unmounted-keeps rise = all-entries (λ e. KeepsWell (unmounted s mount) e.number e.body) 0 (unmounted s mount).entries s.next rise (λ e found. keeps-none (unmounted s mount) e.number e.body (λ shown answers is. from e shown answers is (cleared-of (is_of_mount mount) s h e.number e found)))
    where
      from : (e : Entry) (shown : List ℕ) (answers : List Answer) → e.body ≡ Mount shown answers → (g : Entry) × (entry_at s.entries e.number ≡ Some g) × (is_of_mount mount g ≡ false) × (edited (forgetting_such (is_such_at (is_of_mount mount) s.entries)) g ≡ e) → KeepsWell (unmounted s mount) e.number (Mount shown answers)
      from e shown answers is was =
          let g = was.0 in
          let number : g.number ≡ e.number = ap (λ (x : Entry). x.number) was.3 in
          let body : g.body ≡ Mount shown answers = such-mounts (is_such_at (is_of_mount mount) s.entries) g.body shown answers (ap (λ (x : Entry). x.body) was.3 ∙ is) in
          subst (λ (n : ℕ). KeepsWell (unmounted s mount) n (Mount shown answers)) number
          (keeps-old s (unmounted s mount) refl g shown answers h (ap (entry_at s.entries) number ∙ was.1) body
          (λ k there. unmounted-documents g.number k (of_mount-apart g was.2).0 there)
          (cleared-inside (is_of_mount mount) s h g.number) (cleared-kept (is_of_mount mount) s h answers))

-- A mount is synced.

keeping-terms : (answers : List Answer) (body : Body) → terms_in (keeping answers body) ≡ terms_in body
keeping-terms answers (Mount space kept) = refl
keeping-terms answers other = refl

module _ (s : State) (mount : ℕ) (told : List (List ℕ)) (documents : List (List ℕ)) (h : IsValid s) (there : is_mount_at s.entries mount ≡ true) where
  abbrev synced-answers : List Answer
  synced-answers = answers_to (terms_to_ask s.entries) told

  abbrev gone : Entry → Bool
  gone = is_gone mount documents

  abbrev forget : Body → Body
  forget = forgetting_such (is_such_at gone s.entries)

  abbrev u : State
  u = redocumented s mount documents

  abbrev v : State
  v = synced s mount synced-answers documents

  abbrev come : List Entry
  come = documents_from s.next mount (fresh s mount documents)

  synced-at : (n : ℕ) → entry_at v.entries n ≡ option_map (touched mount (edited (keeping synced-answers))) (entry_at u.entries n)
  synced-at n = entry_at-changed mount (edited (keeping synced-answers)) u.entries n (λ e. refl)

  synced-kept : (answers : List Answer) → EachKept answers s.entries → EachKept answers v.entries
  synced-kept answers old =
      all-changed (λ e. AreKept answers (terms_in e.body)) mount (edited (keeping synced-answers)) u.entries (λ e kept. subst (AreKept answers) (sym (keeping-terms synced-answers e.body)) kept)
      (all-joined (λ e. AreKept answers (terms_in e.body)) (cleared gone s).entries come (cleared-kept gone s h answers old) (come-kept answers s.next mount (fresh s mount documents)))

  synced-inside : (m : ℕ) → (mount == m) ≡ false → length (inside m v.entries) ≤ length (inside m s.entries)
  synced-inside m other =
      let same = inside-edited m mount (keeping synced-answers) u.entries in
      let all = inside-joined m (cleared gone s).entries come in
      let less = cleared-inside gone s h m in
      let none = inside-other m s.next mount (fresh s mount documents) other in
      omega (arith, same, all, less, none)

  synced-documents : (m k : ℕ) → (m == mount) ≡ false → is_document_of s m k ≡ true → is_document_of v m k ≡ true
  synced-documents m k other is =
      ap (document_by m) (synced-at k ∙ ap (option_map (touched mount (edited (keeping synced-answers)))) (entry_at-documents (cleared gone s).entries s.next mount k (fresh s mount documents) low ∙ cleared-found gone s h k d found.1 stays))
      ∙ touched-document (edited forget d)
      ∙ ap (λ (b : Bool). b && (d.parent == m)) (keeps-document (forgetting_such (is_such_at gone s.entries)) (role-such (is_such_at gone s.entries)) d.body)
      ∙ sym (ap (document_by m) found.1) ∙ is
    where
      found : (e : Entry) × (entry_at s.entries k ≡ Some e) × (is_document e.body ≡ true)
      found = document-entry s m k is

      d : Entry
      d = found.0

      low : k < s.next
      low = entry_at-below 0 s.entries s.next k d h.layout.numbers found.1

      parent : d.parent ≡ m
      parent = eqb-true d.parent m ((and_parts (is_document d.body) (d.parent == m) (sym (ap (document_by m) found.1) ∙ is)).1)

      stays : gone d ≡ false
      stays = ap (λ (b : Bool). is_document d.body && (b && not (is_among documents d.name))) (ap (λ (x : ℕ). x == mount) parent ∙ other) ∙ and-false (is_document d.body)

      touched-document : (e : Entry) → document_by m (Some (touched mount (edited (keeping synced-answers)) e)) ≡ document_by m (Some e)
      touched-document e = elim (e.number == mount) as (λ b. document_by m (Some (if b then edited (keeping synced-answers) e else e)) ≡ document_by m (Some e)) [
        | true ↦ ap (λ (b : Bool). b && (e.parent == m)) (keeps-document (keeping synced-answers) (role-keeping synced-answers) e.body)
        | false ↦ refl
      ]

  -- what is in the mount has names that were told
  synced-named : AreNamed mount documents v.entries
  synced-named =
      all-changed (λ e. (e.parent == mount) ≡ true → is_among documents e.name ≡ true) mount (edited (keeping synced-answers)) u.entries (λ e named. named)
      (all-joined (λ e. (e.parent == mount) ≡ true → is_among documents e.name ≡ true) (cleared gone s).entries come
      (all-map (λ e. (e.parent == mount) ≡ true → is_among documents e.name ≡ true) (edited forget) (without_such gone s).entries
      (all-passed (λ e. (e.parent == mount) ≡ true → is_among documents e.name ≡ true) (λ e. not (gone e)) s.entries
      (all-weaker (λ e. IsTrue (is_in_place s.entries e)) (λ e. not (gone e) ≡ true → (e.parent == mount) ≡ true → is_among documents e.name ≡ true) s.entries stayed h.layout.places)))
      (all-documents (λ e. (e.parent == mount) ≡ true → is_among documents e.name ≡ true) (λ name. is_among documents name ≡ true) s.next mount (fresh s mount documents) (λ number name is _. is)
      (all-filter (λ name. is_among documents name ≡ true) (λ name. is_none (child s.entries mount name)) documents (all-self documents))))
    where
      stayed : (e : Entry) → is_in_place s.entries e ≡ true → not (gone e) ≡ true → (e.parent == mount) ≡ true → is_among documents e.name ≡ true
      stayed e place left here =
          elim (is_among documents e.name) as (λ b. (is_document e.body && ((e.parent == mount) && not b)) ≡ false → b ≡ true) [
            | true ↦ (λ _. refl)
            | false ↦ (λ fails.
                let never : true ≡ false = sym (ap (λ (b : Bool). b && ((e.parent == mount) && true)) document ∙ ap (λ (b : Bool). b && true) here) ∙ fails in absurd cc)
          ] (not-true (gone e) left)
        where
          mounted-here : is_mount_at s.entries e.parent ≡ true
          mounted-here = ap (is_mount_at s.entries) (eqb-true e.parent mount here) ∙ there

          document : is_document e.body ≡ true
          document = elim (is_document e.body) as (λ b. (if b then is_mount_at s.entries e.parent else is_holder_at s.entries e.parent) ≡ true → b ≡ true) [
            | true ↦ (λ _. refl)
            | false ↦ (λ holder. let no = (and_parts (is_directory_at s.entries e.parent) (not (is_mount_at s.entries e.parent)) holder).1 in let never : true ≡ false = sym no ∙ ap not mounted-here in absurd cc)
          ] place

  pub synced-keeps : are_told v mount (terms_to_ask s.entries) told ≡ true → nat_le (length documents) (docs_limit s.version) ≡ true → NumbersRise 0 v.entries v.next → NamesDiffer v.entries → AllByRecursion (λ e. KeepsWell v e.number e.body) v.entries
  synced-keeps well few rise differ = all-entries (λ e. KeepsWell v e.number e.body) 0 v.entries v.next rise (λ e found. keeps-none v e.number e.body (λ shown answers is. from e shown answers is (entry_at u.entries e.number) refl (sym (synced-at e.number) ∙ found)))
    where
      own : (shown : List ℕ) → KeepsWell v mount (Mount shown synced-answers)
      own shown = keeps-told s v mount shown told h well (let named = few-named mount documents v.entries differ synced-named in let within : length documents ≤ docs_limit s.version = leb-true (length documents) (docs_limit s.version) few in omega (arith, named, within)) synced-kept

      -- a mount in the synced state is one of those before
      was-mount : (e f : Entry) (shown : List ℕ) (answers : List Answer) → e.body ≡ Mount shown answers → touched mount (edited (keeping synced-answers)) f ≡ e → (g : Entry) → entry_at s.entries e.number ≡ Some g → edited forget g ≡ f → KeepsWell v e.number (Mount shown answers)
      was-mount e f shown answers is same g found left =
          elim (f.number == mount) as (λ b. (f.number == mount) ≡ b → (if b then edited (keeping synced-answers) f else f) ≡ e → KeepsWell v e.number (Mount shown answers)) [
            | true ↦ (λ here same.
                let number : mount ≡ e.number = sym (eqb-true f.number mount here) ∙ ap (λ (x : Entry). x.number) same in
                let kept : keeping synced-answers f.body ≡ Mount shown answers = ap (λ (x : Entry). x.body) same ∙ is in
                subst (λ (b : Body). KeepsWell v e.number b) (told-kept f.body kept) (subst (λ (n : ℕ). KeepsWell v n (Mount shown synced-answers)) number (own shown)))
            | false ↦ (λ other same.
                let even : g.number ≡ e.number = ap (λ (x : Entry). x.number) (left ∙ same) in
                let body : g.body ≡ Mount shown answers = such-mounts (is_such_at gone s.entries) g.body shown answers (ap (λ (x : Entry). x.body) (left ∙ same) ∙ is) in
                let apart : (g.number == mount) ≡ false = ap (λ (x : Entry). x.number == mount) left ∙ other in
                let turned : (mount == g.number) ≡ false = ne_eqb mount g.number (λ eq. let never : true ≡ false = sym (eq-eqb g.number mount (sym eq)) ∙ apart in absurd cc) in
                subst (λ (n : ℕ). KeepsWell v n (Mount shown answers)) even
                (keeps-old s v refl g shown answers h (ap (entry_at s.entries) even ∙ found) body (λ k is. synced-documents g.number k apart is) (synced-inside g.number turned) (synced-kept answers)))
          ] refl same
        where
          told-kept : (b : Body) → keeping synced-answers b ≡ Mount shown answers → Mount shown synced-answers ≡ Mount shown answers
          told-kept (Mount space kept) k = let same : synced-answers ≡ answers = cc in ap (λ (a : List Answer). Mount shown a) same
          told-kept other k = absurd cc

      from : (e : Entry) (shown : List ℕ) (answers : List Answer) → e.body ≡ Mount shown answers → (o : Option Entry) → entry_at u.entries e.number ≡ o → option_map (touched mount (edited (keeping synced-answers))) o ≡ Some e → KeepsWell v e.number (Mount shown answers)
      from e shown answers is None at k = absurd cc
      from e shown answers is (Some f) at k =
          let same : touched mount (edited (keeping synced-answers)) f ≡ e = cc in
          before same (found-joined (cleared gone s).entries come e.number f at)
        where
          before : touched mount (edited (keeping synced-answers)) f ≡ e → (entry_at (cleared gone s).entries e.number ≡ Some f) ⊎ (entry_at come e.number ≡ Some f) → KeepsWell v e.number (Mount shown answers)
          before same (inl front) = let was = cleared-of gone s h e.number f front in was-mount e f shown answers is same was.0 was.1 was.3
          before same (inr document) = absurd (document-no_mount e.body shown answers (still f (found-document s.next mount e.number (fresh s mount documents) f document) same) is)
            where
              still : (f : Entry) → f.body ≡ Document → touched mount (edited (keeping synced-answers)) f ≡ e → e.body ≡ Document
              still f doc same = sym (ap (λ (x : Entry). x.body) same) ∙ (elim (f.number == mount) as (λ b. (if b then edited (keeping synced-answers) f else f).body ≡ Document) [ true ↦ ap (keeping synced-answers) doc | false ↦ doc ])
