-- Mounts come, are synced and go: what is known of each number.
use Rattle.std.proofs.Common.{◌≡◌, ℕ, ◌+◌, Bool, true, false, cond, List, [], ◌∷◌, ◌++◌, map, refl, ap, sym, ◌∙◌}
use Rattle.std.specs.List.{AllByRecursion}
use Rattle.std.specs.Prelude.{◌==◌, ◌&&◌, ◌||◌, not, filter, if◌then◌else◌, Option, Some, None, IsTrue, option_and_then}
use Rattle.std.specs.Option.{option_map, option_map_or}
use Rattle.std.proofs.lemmas.Bool.{and_parts, eq-eqb, eqb-false, eqb-true, ne_eqb, not-true}
use Rattle.hac_model.specs.Query.Formula.{Formula}
use Rattle.hac_model.specs.Query.Queries.{terms_of}
use Rattle.hac_model.specs.Tree.Bare.{bare, bare_body}
use Rattle.hac_model.specs.Tree.Changes.{edited}
use Rattle.hac_model.specs.Tree.Depends.{named_in}
use Rattle.hac_model.specs.Tree.Facts.{Facts, facts_at, facts_in, facts_without, marks_without, no_facts, put_at}
use Rattle.hac_model.specs.Tree.Mounting.{cleared, documents_from, forgetting_such, fresh, is_among, is_gone, is_of_mount, is_such_at, keeping, mounted, numbers_without, redocumented, synced, unmounted, without_such}
use Rattle.hac_model.specs.Tree.Mounts.{terms_in_order, terms_in_use, terms_to_ask}
use Rattle.hac_model.specs.Tree.{entry_at, is_directory_at, is_document, is_holder_at, is_mount, is_mount_at, permanent_in}
use Rattle.hac_model.specs.Tree.Valid.{IsLayout, NumbersRise, is_in_place}
use Rattle.hac_model.specs.declared.states.Answer.{Answer}
use Rattle.hac_model.specs.declared.states.Body.{Body}
use Rattle.hac_model.specs.declared.states.Body.TheVariants.{File, Dir, Symlink, Semantic, Mount, Document}
use Rattle.hac_model.specs.declared.states.Entry.{Entry}
use Rattle.hac_model.specs.declared.states.State.{State}
use Rattle.hac_model.proofs.AlikeLemmas.{bare-query, entry_at-bare}
use Rattle.hac_model.proofs.BareLemmas.{PassesBare, gone-bare}
use Rattle.hac_model.proofs.FittingLemmas.{layout-fits}
use Rattle.hac_model.proofs.MapLemmas.{entry_at-mapped}
use Rattle.hac_model.proofs.MountAskLemmas.{entry_at-filter, passing, test-joined}
use Rattle.hac_model.proofs.MountLayoutLemmas.{cleared-mount}
use Rattle.hac_model.proofs.TreeLemmas.{entry_at-all, entry_at-number}
use Rattle.hac_model.proofs.ViewLemmas.{seen-added, seen-changed}

-- Below it is given which numbers are those of directories.
module _ (is_dir : ℕ → Bool) where
  -- the facts of each number
  abbrev pub facts_by : State → ℕ → Facts
  facts_by s n = facts_at is_dir (entry_at s.entries n)

  -- Documents come and go: nothing is known of them.

  document-untold : (dir : ℕ) (body : Body) → is_document body ≡ true → facts_in is_dir dir body ≡ no_facts
  document-untold dir Document is = refl
  document-untold dir other is = absurd cc

  come-untold : (next mount n : ℕ) (names : List (List ℕ)) → facts_at is_dir (entry_at (documents_from next mount names) n) ≡ no_facts
  come-untold next mount n [] = refl
  come-untold next mount n (name ∷ names) =
      elim (next == n) as (λ b. facts_at is_dir (if b then Some (record { number = next; parent = mount; name = name; body = Document }) else entry_at (documents_from (next + 1) mount names) n) ≡ no_facts) [
        | true ↦ refl
        | false ↦ come-untold (next + 1) mount n names
      ]

  pub documents-facts : (es : List Entry) (next mount n : ℕ) (names : List (List ℕ)) → facts_at is_dir (entry_at (es ++ documents_from next mount names) n) ≡ facts_at is_dir (entry_at es n)
  documents-facts [] next mount n names = come-untold next mount n names
  documents-facts (e ∷ es) next mount n names =
      elim (e.number == n) as (λ b. facts_at is_dir (if b then Some e else entry_at (es ++ documents_from next mount names) n) ≡ facts_at is_dir (if b then Some e else entry_at es n)) [
        | true ↦ refl
        | false ↦ documents-facts es next mount n names
      ]

  -- Entries go, several at once.

  -- the facts without marks on what goes
  abbrev left_of : (ℕ → Bool) → Facts → Facts
  left_of gone facts = record facts { marks = marks_without gone facts.marks }

  -- no directory among the numbers goes
  abbrev pub AreLeft : (ℕ → Bool) → List ℕ → Type 0
  AreLeft gone numbers = AllByRecursion (λ k. is_dir k ≡ true → gone k ≡ false) numbers

  left-directories : (gone : ℕ → Bool) (ks : List ℕ) → AreLeft gone ks → filter is_dir (numbers_without gone ks) ≡ filter is_dir ks
  left-directories gone [] left = refl
  left-directories gone (k ∷ ks) left =
      elim (is_dir k) as (λ b. is_dir k ≡ b → (b ≡ true → gone k ≡ false) → filter is_dir (numbers_without gone (k ∷ ks)) ≡ cond b (k ∷ filter is_dir ks) (filter is_dir ks)) [
        | true ↦ (λ is stays.
            ap (λ (b : Bool). filter is_dir (cond (not b) (k ∷ numbers_without gone ks) (numbers_without gone ks))) (stays refl)
            ∙ ap (λ (b : Bool). cond b (k ∷ filter is_dir (numbers_without gone ks)) (filter is_dir (numbers_without gone ks))) is
            ∙ ap (λ (rest : List ℕ). k ∷ rest) (left-directories gone ks left.1))
        | false ↦ (λ is stays. elim (gone k) as (λ b. filter is_dir (cond (not b) (k ∷ numbers_without gone ks) (numbers_without gone ks)) ≡ filter is_dir ks) [
          | true ↦ left-directories gone ks left.1
          | false ↦ ap (λ (b : Bool). cond b (k ∷ filter is_dir (numbers_without gone ks)) (filter is_dir (numbers_without gone ks))) is ∙ left-directories gone ks left.1
        ])
      ] refl left.0

  such-body : (gone : ℕ → Bool) (dir : ℕ) (b : Body) → AreLeft gone (permanent_in b) → facts_in is_dir dir (forgetting_such gone b) ≡ left_of gone (facts_in is_dir dir b)
  such-body gone dir (Semantic query permanent prohibited) left =
      ap (λ (linked : List ℕ). record (left_of gone (facts_in is_dir dir (Semantic query permanent prohibited))) { edges = dir ∷ named_in query ++ linked }) (left-directories gone permanent left)
  such-body gone dir (File text dirty shown) left = refl
  such-body gone dir Dir left = refl
  such-body gone dir (Symlink target) left = refl
  such-body gone dir (Mount space answers) left = refl
  such-body gone dir Document left = refl

  module _ (test : Entry → Bool) (s : State) (rise : NumbersRise 0 s.entries s.next) (left : (n : ℕ) → AreLeft (is_such_at test s.entries) (facts_by s n).marks.permanent) where
    abbrev gone : ℕ → Bool
    gone n = is_such_at test s.entries n

    -- of what goes nothing is known any more
    cleared-facts : (n : ℕ) → facts_by (cleared test s) n ≡ cond (gone n) no_facts (facts_without gone (facts_by s) n)
    cleared-facts n =
        ap (facts_at is_dir) (entry_at-mapped (forgetting_such gone) (without_such test s).entries n)
        ∙ ap (λ (o : Option Entry). facts_at is_dir (option_map (edited (forgetting_such gone)) o)) (entry_at-filter (λ e. not (test e)) 0 s.entries s.next n rise)
        ∙ at (entry_at s.entries n) (left n)
      where
        at : (o : Option Entry) → AreLeft gone (facts_at is_dir o).marks.permanent → facts_at is_dir (option_map (edited (forgetting_such gone)) (option_and_then (passing (λ e. not (test e))) o)) ≡ cond (option_map_or test o false) no_facts (left_of gone (facts_at is_dir o))
        at None all = refl
        at (Some e) all = elim (test e) as (λ b. facts_at is_dir (option_map (edited (forgetting_such gone)) (cond (not b) (Some e) None)) ≡ cond b no_facts (left_of gone (facts_at is_dir (Some e)))) [ true ↦ refl | false ↦ such-body gone e.parent e.body all ]

    -- and where nothing was known of it before, facts only lose marks
    cleared-untold : (n : ℕ) → ((e : Entry) → entry_at s.entries n ≡ Some e → test e ≡ true → is_document e.body ≡ true) → facts_by (cleared test s) n ≡ facts_without gone (facts_by s) n
    cleared-untold n documents = cleared-facts n ∙ same (entry_at s.entries n) documents
      where
        same : (o : Option Entry) → ((e : Entry) → o ≡ Some e → test e ≡ true → is_document e.body ≡ true) → cond (option_map_or test o false) no_facts (left_of gone (facts_at is_dir o)) ≡ left_of gone (facts_at is_dir o)
        same None documents = refl
        same (Some e) documents = elim (test e) as (λ b. test e ≡ b → cond b no_facts (left_of gone (facts_in is_dir e.parent e.body)) ≡ left_of gone (facts_in is_dir e.parent e.body)) [
          | true ↦ (λ goes. ap (left_of gone) (sym (document-untold e.parent e.body (documents e refl goes))))
          | false ↦ (λ _. refl)
        ] refl

  -- A mount comes.

  pub mounted-facts : (s : State) (dir : ℕ) (name space : List ℕ) (answers : List Answer) (documents : List (List ℕ)) → NumbersRise 0 s.entries s.next → (n : ℕ) →
      facts_by (mounted s dir name space answers documents) n ≡ put_at (facts_by s) s.next (record no_facts { answers = answers }) n
  mounted-facts s dir name space answers documents rise n =
      let mount : Entry = record { number = s.next; parent = dir; name = name; body = Mount space answers } in
      documents-facts (s.entries ++ mount ∷ []) (s.next + 1) s.next n documents ∙ seen-added (facts_at is_dir) s.entries mount rise n

  -- A mount is synced.

  keeping-facts : (answers : List Answer) (o : Option Entry) → option_map_or is_mount (option_map (λ (e : Entry). e.body) o) false ≡ true → facts_at is_dir (option_map (edited (keeping answers)) o) ≡ record no_facts { answers = answers }
  keeping-facts answers None is = absurd cc
  keeping-facts answers (Some e) is = body e.body is
    where
      body : (b : Body) → is_mount b ≡ true → facts_in is_dir e.parent (keeping answers b) ≡ record no_facts { answers = answers }
      body (Mount space kept) is = refl
      body other is = absurd cc

  pub synced-facts : (s : State) (mount : ℕ) (answers : List Answer) (documents : List (List ℕ)) → IsLayout s → is_mount_at s.entries mount ≡ true → ((n : ℕ) → AreLeft (is_such_at (is_gone mount documents) s.entries) (facts_by s n).marks.permanent) → (n : ℕ) →
      facts_by (synced s mount answers documents) n ≡ put_at (facts_without (is_such_at (is_gone mount documents) s.entries) (facts_by s)) mount (record no_facts { answers = answers }) n
  synced-facts s mount answers documents h there left n =
      seen-changed (facts_at is_dir) v.entries mount (edited (keeping answers)) (λ e. refl) n
      ∙ (λ i. cond (n == mount) (keeping-facts answers (entry_at v.entries mount) stays i) (others i))
    where
      u : State
      u = cleared (is_gone mount documents) s

      v : State
      v = redocumented s mount documents

      stays : is_mount_at v.entries mount ≡ true
      stays = test-joined is_mount u.entries (documents_from s.next mount (fresh s mount documents)) mount (cleared-mount s mount documents (layout-fits s h) there)

      others : facts_by v n ≡ facts_without (is_such_at (is_gone mount documents) s.entries) (facts_by s) n
      others =
          documents-facts u.entries s.next mount n (fresh s mount documents)
          ∙ cleared-untold (is_gone mount documents) s h.numbers left n (λ e found goes. (and_parts (is_document e.body) (e.parent == mount && not (is_among documents e.name)) goes).0)

  -- A mount goes.

  pub unmounted-facts : (s : State) (mount : ℕ) → IsLayout s → is_mount_at s.entries mount ≡ true → ((n : ℕ) → AreLeft (is_such_at (is_of_mount mount) s.entries) (facts_by s n).marks.permanent) → (n : ℕ) →
      facts_by (unmounted s mount) n ≡ put_at (facts_without (is_such_at (is_of_mount mount) s.entries) (facts_by s)) mount no_facts n
  unmounted-facts s mount h there left n =
      elim (n == mount) as (λ b. (n == mount) ≡ b → facts_by (unmounted s mount) n ≡ cond b no_facts (facts_without (is_such_at (is_of_mount mount) s.entries) (facts_by s) n)) [
        | true ↦ (λ here. cleared-facts (is_of_mount mount) s h.numbers left n ∙ own (entry_at s.entries n) (λ e found. entry_at-number s.entries n e found ∙ eqb-true n mount here))
        | false ↦ (λ other. cleared-untold (is_of_mount mount) s h.numbers left n (λ e found goes. inside e found (apart e (λ same. eqb-false n mount other (sym (entry_at-number s.entries n e found) ∙ same)) goes)))
      ] refl
    where
      own : (o : Option Entry) → ((e : Entry) → o ≡ Some e → e.number ≡ mount) → cond (option_map_or (is_of_mount mount) o false) no_facts (left_of (is_such_at (is_of_mount mount) s.entries) (facts_at is_dir o)) ≡ no_facts
      own None same = refl
      own (Some e) same = ap (λ (b : Bool). cond (b || e.parent == mount) no_facts (left_of (is_such_at (is_of_mount mount) s.entries) (facts_at is_dir (Some e)))) (eq-eqb e.number mount (same e refl))

      apart : (e : Entry) → (e.number ≡ mount → ⊥) → is_of_mount mount e ≡ true → (e.parent == mount) ≡ true
      apart e other goes = sym (ap (λ (b : Bool). b || e.parent == mount) (ne_eqb e.number mount other)) ∙ goes

      -- nothing but documents is in a mount
      inside : (e : Entry) → entry_at s.entries n ≡ Some e → (e.parent == mount) ≡ true → is_document e.body ≡ true
      inside e found here = elim (is_document e.body) as (λ b. (if b then is_mount_at s.entries e.parent else is_holder_at s.entries e.parent) ≡ true → b ≡ true) [
        | true ↦ (λ _. refl)
        | false ↦ (λ holder.
            let plain : is_mount_at s.entries e.parent ≡ false = not-true (is_mount_at s.entries e.parent) (and_parts (is_directory_at s.entries e.parent) (not (is_mount_at s.entries e.parent)) holder).1 in
            sym plain ∙ ap (is_mount_at s.entries) (eqb-true e.parent mount here) ∙ there)
      ] (entry_at-all (λ e. IsTrue (is_in_place s.entries e)) s.entries n e h.places found)

-- The bare tree is asked as well.

pub terms-bare : (s : State) → terms_to_ask (bare s).entries ≡ terms_to_ask s.entries
terms-bare s = ap terms_in_order (each s.entries)
  where
    each : (es : List Entry) → terms_in_use (map (edited bare_body) es) ≡ terms_in_use es
    each [] = refl
    each (e ∷ es) = λ i. option_map_or (λ (query : Formula ℕ). terms_of query) (bare-query e.body i) [] ++ each es i

such_at-bare : (test : Entry → Bool) (s : State) → PassesBare test → (n : ℕ) → is_such_at test (bare s).entries n ≡ is_such_at test s.entries n
such_at-bare test s same n = ap (λ (o : Option Entry). option_map_or test o false) (entry_at-bare s n) ∙ seen (entry_at s.entries n)
  where
    seen : (o : Option Entry) → option_map_or test (option_map (edited bare_body) o) false ≡ option_map_or test o false
    seen None = refl
    seen (Some e) = same e

pub gone_at-bare : (mount : ℕ) (names : List (List ℕ)) (s : State) (n : ℕ) → is_such_at (is_gone mount names) (bare s).entries n ≡ is_such_at (is_gone mount names) s.entries n
gone_at-bare mount names s n = such_at-bare (is_gone mount names) s (gone-bare mount names) n

pub of_mount_at-bare : (mount : ℕ) (s : State) (n : ℕ) → is_such_at (is_of_mount mount) (bare s).entries n ≡ is_such_at (is_of_mount mount) s.entries n
of_mount_at-bare mount s n = such_at-bare (is_of_mount mount) s (λ e. refl) n
