-- A state in which mounts keep what they were told for a query: the same tree, and valid, and no mount has to be asked
-- for the query then.
use Rattle.std.proofs.Common.{◌≡◌, ℕ, Bool, true, false, cond, List, [], ◌∷◌, length, map, refl, ap, sym, ◌∙◌, arith, subst}
use Rattle.std.specs.Prelude.{◌++◌, not, ◌==◌, ◌&&◌, if◌then◌else◌, drop, filter, nat_le, take, Option, Some, None, IsTrue}
use Rattle.std.specs.List.{AllByRecursion, list_all}
use Rattle.std.specs.Option.{option_map, option_map_or}
use Rattle.std.proofs.lemmas.Bool.{and_from, and_parts, eqb-true}
use Rattle.hac_model.specs.Query.Formula.{Formula}
use Rattle.hac_model.specs.Query.Queries.{is_askable, terms_of}
use Rattle.hac_model.specs.Tree.Asking.{are_all_told, asked_by, gained, gaining, unanswered, with_answers, with_told}
use Rattle.hac_model.specs.Tree.Bare.{bare, bare_body}
use Rattle.hac_model.specs.Tree.Depends.{NeverReturns, cycle_over, depends, first_reaching, leads_within, named_in, reaches}
use Rattle.hac_model.specs.Tree.Events.{edited, is_free, may_ask}
use Rattle.hac_model.specs.Tree.Limits.{are_answers_few, counts}
use Rattle.hac_model.specs.Tree.Links.{answers_at, is_item, parent_of, permanent_at, query_at}
use Rattle.hac_model.specs.Tree.Mounting.{answers_to, are_told, do_rise_from, is_told}
use Rattle.hac_model.specs.Tree.Mounts.{terms_in_order, is_kept, terms_in, terms_in_use}
use Rattle.hac_model.specs.Tree.{answers_in, body_at, entry_at, is_directory, is_directory_at, is_document, is_linkable, is_made_directory, is_mount, is_mount_at, permanent_in}
use Rattle.hac_model.specs.Tree.Valid.{AsksWell, IsAnswer, IsLayout, IsSoundMount, IsValid, KeepsWell, is_document_of}
use Rattle.hac_model.specs.Versions.{docs_limit}
use Rattle.hac_model.specs.declared.states.Answer.{Answer}
use Rattle.hac_model.specs.declared.states.Body.{Body}
use Rattle.hac_model.specs.declared.states.Body.TheVariants.{File, Dir, Symlink, Semantic, Mount, Document}
use Rattle.hac_model.specs.declared.states.Entry.{Entry}
use Rattle.hac_model.specs.declared.states.State.{State}
use Rattle.hac_model.specs.declared.terms.Term.{Term}
use Rattle.hac_model.proofs.AlikeLemmas.{counts-bare, directory-bare, is_free-bare, layout-bare, layout-unbare, may_ask-bare, mount-bare, parent_of-bare, query_at-bare}
use Rattle.hac_model.proofs.ChangeLemmas.{all-both, all-filter, all-weaker}
use Rattle.hac_model.proofs.KeepingLemmas.{AreKept, DocumentsStay, TermsStay, answer-stays, document_by, inside}
use Rattle.hac_model.proofs.MapLemmas.{all-map}
use Rattle.hac_model.proofs.MountKeptLemmas.{answers-sound}
use Rattle.hac_model.proofs.StayLemmas.{all-stay, sessions-stay}
use Rattle.hac_model.proofs.TermLemmas.{query-askable, all-order}
use Rattle.hac_model.proofs.ToldLemmas.{told-kept, told-rise, told-sound, told-still}
use Rattle.hac_model.proofs.TreeLemmas.{entry_at-number}
use Rattle.hac_model.proofs.ValidLemmas.{found-all}
use Rattle.hac_model.proofs.KindLemmas.{role-gaining, keeps-directory, keeps-document, keeps-item}

-- Bodies that gain answers.

gaining-bare : (more : List Answer) (body : Body) → bare_body (gaining more body) ≡ bare_body body
gaining-bare more (Mount space answers) = refl
gaining-bare more other = refl

gaining-terms : (more : List Answer) (body : Body) → terms_in (gaining more body) ≡ terms_in body
gaining-terms more (Mount space answers) = refl
gaining-terms more other = refl

gaining-permanent : (more : List Answer) (body : Body) → permanent_in (gaining more body) ≡ permanent_in body
gaining-permanent more (Mount space answers) = refl
gaining-permanent more other = refl

gaining-asks : (t : State) (more : List Answer) (body : Body) → AsksWell t body → AsksWell t (gaining more body)
gaining-asks t more (Semantic query permanent prohibited) h = h
gaining-asks t more (Mount space answers) h = tt
gaining-asks t more (File text dirty shown) h = tt
gaining-asks t more Dir h = tt
gaining-asks t more (Symlink target) h = tt
gaining-asks t more Document h = tt

-- Entries that gain answers, each as many as its number says.

module _ (more : ℕ → List Answer) where
  abbrev gains : Entry → Entry
  gains e = edited (gaining (more e.number)) e

  pub entry_at-gains : (es : List Entry) (n : ℕ) → entry_at (map gains es) n ≡ option_map gains (entry_at es n)
  entry_at-gains [] n = refl
  entry_at-gains (e ∷ es) n =
      ap (λ (o : Option Entry). cond (e.number == n) (Some (gains e)) o) (entry_at-gains es n)
      ∙ (elim (e.number == n) as (λ b. cond b (Some (gains e)) (option_map gains (entry_at es n)) ≡ option_map gains (cond b (Some e) (entry_at es n))) [ true ↦ refl | false ↦ refl ])

  bare-gains : (es : List Entry) → map (edited bare_body) (map gains es) ≡ map (edited bare_body) es
  bare-gains [] = refl
  bare-gains (e ∷ es) = λ i. record e { body = gaining-bare (more e.number) e.body i } ∷ bare-gains es i

  terms-gains : (es : List Entry) → terms_in_use (map gains es) ≡ terms_in_use es
  terms-gains [] = refl
  terms-gains (e ∷ es) = λ i. gaining-terms (more e.number) e.body i ++ terms-gains es i

  inside-gains : (m : ℕ) (es : List Entry) → length (inside m (map gains es)) ≡ length (inside m es)
  inside-gains m [] = refl
  inside-gains m (e ∷ es) =
      let rest = inside-gains m es in
      elim (e.parent == m) as (λ b. length (if b then gains e ∷ inside m (map gains es) else inside m (map gains es)) ≡ length (if b then e ∷ inside m es else inside m es)) [ true ↦ omega (arith, rest) | false ↦ rest ]

-- What a mount is told.

-- of what was told no more is taken than was asked
answers-taken : (terms : List Term) (told : List (List ℕ)) → answers_to terms told ≡ answers_to terms (take (length terms) told)
answers-taken [] told = refl
answers-taken (term ∷ terms) [] = refl
answers-taken (term ∷ terms) (numbers ∷ told) = ap (λ (rest : List Answer). record { term = term; documents = numbers } ∷ rest) (answers-taken terms told)

-- each term that a mount has to be asked for was told, by documents of its own
pub record IsToldTo (s : State) (query : Formula ℕ) (mount : ℕ) (answers gain : List Answer) : Type 0 where
  pub told : List (List ℕ)
  pub is : gain ≡ answers_to (unanswered query answers) told
  pub even : length told ≡ length (unanswered query answers)
  pub own : list_all (is_told s mount) told ≡ true

module _ (s : State) (query : Formula ℕ) where
  pub told-to : (es : List Entry) (told : List (List ℕ)) (n : ℕ) (e : Entry) (space : List ℕ) (answers : List Answer) → are_all_told s query told es ≡ true → entry_at es n ≡ Some e → e.body ≡ Mount space answers → answers_at s n ≡ answers →
      IsToldTo s query n answers (gained (answers_at s) query told es n)
  told-to [] told n e space answers all found is keeps = absurd cc
  told-to (x ∷ es) told n e space answers all found is keeps =
      let asked : List Term = asked_by (answers_at s) query x in
      let parts = and_parts (are_told s x.number asked (take (length asked) told)) (are_all_told s query (drop (length asked) told) es) all in
      elim (x.number == n) as (λ b. (x.number == n) ≡ b → (if b then Some x else entry_at es n) ≡ Some e → IsToldTo s query n answers (if b then answers_to asked told else gained (answers_at s) query (drop (length asked) told) es n)) [
        | true ↦ (λ here found.
            let same : x ≡ e = cc in
            let number : x.number ≡ n = eqb-true x.number n here in
            let terms : asked ≡ unanswered query answers =
            (λ i. if is_mount ((ap (λ (y : Entry). y.body) same ∙ is) i) then unanswered query ((ap (answers_at s) number ∙ keeps) i) else []) in
            let even = and_parts (length (take (length asked) told) == length asked) (list_all (is_told s x.number) (take (length asked) told)) parts.0 in
            record {
              told = take (length asked) told;
              is = answers-taken asked told ∙ ap (λ (ts : List Term). answers_to ts (take (length asked) told)) terms;
              even = eqb-true (length (take (length asked) told)) (length asked) even.0 ∙ ap (λ (ts : List Term). length ts) terms;
              own = ap (λ (m : ℕ). list_all (is_told s m) (take (length asked) told)) (sym number) ∙ even.1;
            })
        | false ↦ (λ other found. told-to es (drop (length asked) told) n e space answers parts.1 found is keeps)
      ] refl found

-- what mounts keep is seen by their entries
answers-of : (s : State) (n : ℕ) (e : Entry) (space : List ℕ) (answers : List Answer) → entry_at s.entries n ≡ Some e → e.body ≡ Mount space answers → answers_at s n ≡ answers
answers-of s n e space answers found is = ap (λ (o : Option Entry). option_map_or answers_in (option_map (λ (e : Entry). e.body) o) []) found ∙ ap answers_in is

module _ (s : State) (query : Formula ℕ) (told : List (List ℕ)) where
  abbrev more : ℕ → List Answer
  more = gained (answers_at s) query told s.entries

  abbrev t : State
  t = with_told query told s

  pub bare-told : bare t ≡ bare s
  bare-told = λ i. record { version = s.version; next = s.next; entries = bare-gains more s.entries i; sessions = [] }

  pub counts-told : counts t ≡ counts s
  counts-told = sym (counts-bare t) ∙ ap counts bare-told ∙ counts-bare s

  pub layout-told : IsLayout s → IsLayout t
  layout-told h = layout-unbare t (subst IsLayout (sym bare-told) (layout-bare s h))

  pub directory-told : (d : ℕ) → is_directory_at t.entries d ≡ is_directory_at s.entries d
  directory-told d = sym (directory-bare t d) ∙ ap (λ (x : State). is_directory_at x.entries d) bare-told ∙ directory-bare s d

  pub mount-told : (d : ℕ) → is_mount_at t.entries d ≡ is_mount_at s.entries d
  mount-told d = sym (mount-bare t d) ∙ ap (λ (x : State). is_mount_at x.entries d) bare-told ∙ mount-bare s d

  pub free-told : (dir : ℕ) (name : List ℕ) → is_free t dir name ≡ is_free s dir name
  free-told dir name = sym (is_free-bare t dir name) ∙ ap (λ (x : State). is_free x dir name) bare-told ∙ is_free-bare s dir name

  pub ask-told : (asked : Formula ℕ) → may_ask t asked ≡ may_ask s asked
  ask-told asked = sym (may_ask-bare t asked) ∙ ap (λ (x : State). may_ask x asked) bare-told ∙ may_ask-bare s asked

  pub parent-told : (n : ℕ) → parent_of t n ≡ parent_of s n
  parent-told n = sym (parent_of-bare t n) ∙ ap (λ (x : State). parent_of x n) bare-told ∙ parent_of-bare s n

  query-told : (n : ℕ) → query_at t n ≡ query_at s n
  query-told n = sym (query_at-bare t n) ∙ ap (λ (x : State). query_at x n) bare-told ∙ query_at-bare s n

  permanent-told : (n : ℕ) → permanent_at t n ≡ permanent_at s n
  permanent-told n =
      ap (λ (o : Option Entry). option_map_or permanent_in (option_map (λ (e : Entry). e.body) o) []) (entry_at-gains more s.entries n)
      ∙ (elim (entry_at s.entries n) as (λ o. option_map_or permanent_in (option_map (λ (e : Entry). e.body) (option_map (gains more) o)) [] ≡ option_map_or permanent_in (option_map (λ (e : Entry). e.body) o) []) [
        | None ↦ refl
        | Some e ↦ gaining-permanent (more e.number) e.body
      ])

  depends-told : depends t ≡ depends s
  depends-told = λ i n. option_map_or (λ query. parent-told n i ∷ named_in query ++ filter (λ d. directory-told d i) (permanent-told n i)) (query-told n i) []

  pub cycle-told : (dir : ℕ) (asked : Formula ℕ) → cycle_over t dir (parent_of t dir) asked ≡ cycle_over s dir (parent_of s dir) asked
  unfolding first_reaching reaches
  cycle-told dir asked =
      reaching (parent_of t dir ∷ named_in asked) ∙ ap (λ (parent : ℕ). first_reaching s dir (parent ∷ named_in asked)) (parent-told dir)
    where
      reaching : (ds : List ℕ) → first_reaching t dir ds ≡ first_reaching s dir ds
      reaching [] = refl
      reaching (d ∷ ds) = λ i. if leads_within (depends-told i) ((counts-told i).semantics) d dir then Some d else reaching ds i

  -- a test that doesn't depend on what is kept
  tested-told : (test : Body → Bool) → ((gain : List Answer) (body : Body) → test (gaining gain body) ≡ test body) → (n : ℕ) → option_map_or test (body_at t.entries n) false ≡ option_map_or test (body_at s.entries n) false
  tested-told test same n =
      ap (λ (o : Option Entry). option_map_or test (option_map (λ (e : Entry). e.body) o) false) (entry_at-gains more s.entries n)
      ∙ (elim (entry_at s.entries n) as (λ o. option_map_or test (option_map (λ (e : Entry). e.body) (option_map (gains more) o)) false ≡ option_map_or test (option_map (λ (e : Entry). e.body) o) false) [
        | None ↦ refl
        | Some e ↦ same (more e.number) e.body
      ])

  pub item-told : (n : ℕ) → is_item t n ≡ is_item s n
  item-told n = tested-told is_linkable (λ more. keeps-item (gaining more) (role-gaining more)) n

  pub made-told : (n : ℕ) → is_made_directory t.entries n ≡ is_made_directory s.entries n
  made-told n = tested-told is_directory (λ more. keeps-directory (gaining more) (role-gaining more)) n

  queries-told : IsValid s → AllByRecursion (λ e. AsksWell t e.body) t.entries
  queries-told h =
      all-map (λ e. AsksWell t e.body) (gains more) s.entries
      (all-weaker (λ e. AsksWell t e.body) (λ e. AsksWell t (gaining (more e.number) e.body)) s.entries (λ e asks. gaining-asks t (more e.number) e.body asks)
      (all-stay s t (λ d there. directory-told d ∙ there) (λ n there. item-told n ∙ there) h.queries))

  pub documents-told : (m n : ℕ) → is_document_of t m n ≡ is_document_of s m n
  documents-told m n =
      ap (document_by m) (entry_at-gains more s.entries n)
      ∙ (elim (entry_at s.entries n) as (λ o. document_by m (option_map (gains more) o) ≡ document_by m o) [ None ↦ refl | Some e ↦ ap (λ (b : Bool). b && (e.parent == m)) (keeps-document (gaining (more e.number)) (role-gaining (more e.number)) e.body) ])

  stay-told : DocumentsStay s t
  stay-told m n there = documents-told m n ∙ there

  terms-stay : TermsStay s t
  terms-stay m answers old = subst (AreKept answers) (sym (terms-gains more s.entries)) old

  module _ (h : IsValid s) (may : may_ask s query ≡ true) (all : are_all_told s query told s.entries ≡ true) where
    -- what the mount of a number is told
    told-at : (e : Entry) (space : List ℕ) (answers : List Answer) → entry_at s.entries e.number ≡ Some e → e.body ≡ Mount space answers → IsToldTo s query e.number answers (more e.number)
    told-at e space answers found is = told-to s query s.entries told e.number e space answers all found is (answers-of s e.number e space answers found is)

    mount-keeps : (m : ℕ) (space : List ℕ) (answers : List Answer) → IsToldTo s query m answers (more m) → IsSoundMount s m answers → KeepsWell t m (Mount space (with_answers (more m) answers))
    mount-keeps m space answers gain sound =
        subst (λ (new : List Answer). KeepsWell t m (Mount space (with_answers new answers))) (sym gain.is) (record {
          few = ap (λ (k : ℕ). nat_le k (docs_limit s.version)) (inside-gains more m s.entries) ∙ sound.few;
          rise = told-rise query answers gain.told sound.rise;
          sound = told-sound (IsAnswer t m) query answers gain.told
              (answers-sound t m (unanswered query answers) gain.told askable (all-told gain.told gain.own))
              (all-weaker (IsAnswer s m) (IsAnswer t m) answers (λ answer well. answer-stays s t m answer stay-told well) sound.sound);
          all = all-weaker (λ term. IsTrue (is_kept answers term)) (λ term. IsTrue (is_kept (with_answers (answers_to (unanswered query answers) gain.told) answers) term)) (terms_in_use t.entries)
              (λ term old. told-still query answers gain.told term old) (terms-stay m answers sound.all);
        })
      where
        askable : AllByRecursion (λ term. is_askable term ≡ true) (unanswered query answers)
        askable = all-filter (λ term. is_askable term ≡ true) (λ term. not (is_kept answers term)) (terms_in_order (terms_of query)) (all-order (λ term. is_askable term ≡ true) (terms_of query) (query-askable s query may))

        each-told : (numbers : List ℕ) → is_told s m numbers ≡ true → is_told t m numbers ≡ true
        each-told numbers h = (λ i. do_rise_from 0 numbers && list_all (λ n. documents-told m n i) numbers) ∙ h

        all-told : (told : List (List ℕ)) → list_all (is_told s m) told ≡ true → list_all (is_told t m) told ≡ true
        all-told [] h = refl
        all-told (numbers ∷ told) h =
            let parts = and_parts (is_told s m numbers) (list_all (is_told s m) told) h in
            and_from (is_told t m numbers) (list_all (is_told t m) told) (each-told numbers parts.0) (all-told told parts.1)

    answers-told : AllByRecursion (λ e. KeepsWell t e.number e.body) t.entries
    answers-told =
        all-map (λ e. KeepsWell t e.number e.body) (gains more) s.entries
        (all-both (λ e. entry_at s.entries e.number ≡ Some e) (λ e. KeepsWell s e.number e.body) (λ e. KeepsWell t e.number (gaining (more e.number) e.body)) s.entries (λ e found keeps. each e found e.body refl keeps)
        (found-all 0 s.entries s.next h.layout.numbers) h.answers)
      where
        each : (e : Entry) → entry_at s.entries e.number ≡ Some e → (b : Body) → e.body ≡ b → KeepsWell s e.number b → KeepsWell t e.number (gaining (more e.number) b)
        each e found (Mount space answers) is keeps = mount-keeps e.number space answers (told-at e space answers found is) keeps
        each e found (File text dirty shown) is keeps = tt
        each e found Dir is keeps = tt
        each e found (Symlink target) is keeps = tt
        each e found (Semantic asked permanent prohibited) is keeps = tt
        each e found Document is keeps = tt

    -- the state is valid, where it keeps no more than it may
    pub told-valid : are_answers_few t.entries ≡ true → IsValid t
    told-valid few = record {
      layout = layout-told h.layout;
      queries = queries-told h;
      answers = answers-told;
      few = few;
      acyclic = subst NeverReturns (sym depends-told) h.acyclic;
      sessions = sessions-stay s t refl refl h.sessions (λ d there. directory-told d ∙ there);
    }

    -- and each mount keeps an answer for each term of the query
    pub told-knows : (e : Entry) → entry_at t.entries e.number ≡ Some e → (space : List ℕ) (answers : List Answer) → e.body ≡ Mount space answers → AreKept answers (terms_of query)
    told-knows e found space answers is =
        elim (entry_at s.entries e.number) as (λ o. entry_at s.entries e.number ≡ o → option_map (gains more) o ≡ Some e → AreKept answers (terms_of query)) [
          | None ↦ (λ _ same. absurd cc)
          | Some x ↦ (λ there same. known x there (entry_at-number s.entries e.number x there) x.body refl (let even : gains more x ≡ e = cc in ap (λ (y : Entry). y.body) even ∙ is))
        ] refl (sym (entry_at-gains more s.entries e.number) ∙ found)
      where
        known : (x : Entry) → entry_at s.entries e.number ≡ Some x → x.number ≡ e.number → (b : Body) → x.body ≡ b → gaining (more x.number) b ≡ Mount space answers → AreKept answers (terms_of query)
        known x there number (Mount old was) is gain =
            let told = told-at x old was (ap (entry_at s.entries) number ∙ there) is in
            let new : with_answers (answers_to (unanswered query was) told.told) was ≡ answers = ap (λ (more : List Answer). with_answers more was) (sym told.is) ∙ ap answers_in gain in
            subst (λ (xs : List Answer). AreKept xs (terms_of query)) new (told-kept query was told.told told.even)
        known x there number other is gain = absurd cc
