-- The text of a dump is read as its commands, so it makes the same tree.
use Rattle.std.proofs.Common.{◌≡◌, ℕ, ◌+◌, ◌≤◌, Bool, true, false, cond, List, [], ◌∷◌, ◌++◌, length, map, subst, refl, ap, sym, ◌∙◌, arith, inl, inr, eq-eqb}
use Rattle.std.specs.Prelude.{◌&&◌, ◌==◌, not, if◌then◌else◌, Option, Some, None, Result, Ok, Err, IsTrue, is_ok, is_some, max, nat_le}
use Rattle.std.specs.List.{AllByRecursion, flat_map, list_all}
use Rattle.std.specs.Option.{option_map_or, unwrap_or}
use Rattle.std.proofs.lemmas.Bool.{and_from, and_parts, eqb-true}
use Rattle.std.proofs.lemmas.List.Folds.{list_all-append}
use Rattle.hac_model.specs.Query.Formula.{Formula}
use Rattle.hac_model.specs.Query.Formula as query
use Rattle.hac_model.specs.Query.Queries.{are_terms, is_query, letter_count, not_count, term_count}
use Rattle.hac_model.specs.Query.QueryReading.{are_rooted, is_spelled_query, read_query}
use Rattle.hac_model.specs.Query.QueryText.{referred_by, query_text}
use Rattle.hac_model.specs.Run.Play.{Setting, given_spaces, turns}
use Rattle.hac_model.specs.Script.{script}
use Rattle.hac_model.specs.Script.Lines.{Item}
use Rattle.hac_model.specs.Script.CommandTexts.{word_text}
use Rattle.hac_model.specs.Tree.Depends.{Among, named_in}
use Rattle.hac_model.specs.Tree.Events.{are_directories}
use Rattle.hac_model.specs.Tree.Paths.{are_names, path_text}
use Rattle.hac_model.specs.Tree.{entry_at, is_directory, is_directory_at, is_dirty, is_mount, is_symlink, path_of, permanent_in, prohibited_in, query_in, shown_text, target_in, text_in}
use Rattle.hac_model.specs.Tree.Valid.{AsksWell, IsSoundQuery, IsValid}
use Rattle.hac_model.specs.declared.commands.Command.{Command}
use Rattle.hac_model.specs.declared.commands.Command.TheVariants as command
use Rattle.hac_model.specs.declared.limits.TheConstants.{NESTING_LIMIT, QUERY_LIMIT, TERMS_LIMIT}
use Rattle.hac_model.specs.declared.paths.PathWord.{PathWord}
use Rattle.hac_model.specs.declared.replies.Refusal.{Refusal}
use Rattle.hac_model.specs.declared.states.Body.{Body}
use Rattle.hac_model.specs.declared.states.Body.TheVariants.{File, Dir, Symlink, Semantic, Mount, Document}
use Rattle.hac_model.specs.declared.states.Entry.{Entry}
use Rattle.hac_model.specs.declared.states.State.{State}
use Rattle.hac_model.proofs.LookLemmas.{path-named}
use Rattle.hac_model.proofs.PathLemmas.{few-ancestors, length-path, limit}
use Rattle.hac_model.proofs.TreeLemmas.{Lives, all-entries, directory-lives, entry_at-all}
use Rattle.query_text.specs.Laws.{IsReadBack, word_to as word_by}
use Rattle.query_text.specs.Printing.{are_known, path_at, pathed}
use Rattle.query_text.specs.declared.paths.NamedDir.{NamedDir}
use Rattle.query_text.proofs.BackLemmas.{read_back}
use Rattle.hac_model.specs.Script.Dump.{add_here, dump_commands, dump_text, first_unprintable, go_back, going_to, is_printable, is_shown, mark_here, printed_query, remove_here, set_marks, set_query, such_by_path, word_at}
use Rattle.hac_dump.specs.Laws.{DumpsMake, Makes}
use Rattle.hac_dump.proofs.DumpLemmas.{HasNoMount, all-two, dump-leads, dump-same, dump_events, kept, none-such, plain, removed, shown-fits, sound-body, such-pass, target-fits, text-fits}
use Rattle.hac_model.specs.Tree.Same.{Same}
use Rattle.hac_dump.proofs.OrderLemmas.{such-there}
use Rattle.hac_dump.proofs.StageLemmas.{IsPlainKind}
use Rattle.hac_dump.proofs.ReadLemmas.{IsFine, all-read, fine-add, fine-back, fine-cd, fine-index, fine-link, fine-mkdir, fine-put, fine-query, fine-remove}
use Rattle.hac_dump.proofs.TurnLemmas.{main_line}

-- ---- queries

-- a query's words are printed as the paths
pub printed-is : (s : State) (q : Formula ℕ) → referred_by word_text (referred_by (word_at s) q) ≡ referred_by (λ dir. path_text (path_of s dir)) q
printed-is s (query.Term term) = refl
printed-is s (query.Dir dir) = refl
printed-is s (query.Not q) = ap (λ (f : Formula (List ℕ)). query.Not f) (printed-is s q)
printed-is s (query.And left right) = λ i. query.And (printed-is s left i) (printed-is s right i)
printed-is s (query.Or left right) = λ i. query.Or (printed-is s left i) (printed-is s right i)

-- it is as large under any names
record IsRenamed (s : State) (q : Formula ℕ) : Type 0 where
  terms : are_terms (referred_by (word_at s) q) ≡ are_terms q
  count : term_count (referred_by (word_at s) q) ≡ term_count q
  letters : letter_count (referred_by (word_at s) q) ≡ letter_count q
  nots : not_count (referred_by (word_at s) q) ≡ not_count q

renamed : (s : State) (q : Formula ℕ) → IsRenamed s q
renamed s (query.Term term) = record { terms = refl; count = refl; letters = refl; nots = refl }
renamed s (query.Dir dir) = record { terms = refl; count = refl; letters = refl; nots = refl }
renamed s (query.Not q) = let r = renamed s q in record { terms = r.terms; count = r.count; letters = r.letters; nots = ap (λ (n : ℕ). n + 1) r.nots }
renamed s (query.And left right) =
    let l = renamed s left in
    let r = renamed s right in
    record { terms = λ i. l.terms i && r.terms i; count = λ i. l.count i + r.count i; letters = λ i. l.letters i + r.letters i; nots = λ i. max (l.nots i) (r.nots i) }
renamed s (query.Or left right) =
    let l = renamed s left in
    let r = renamed s right in
    record { terms = λ i. l.terms i && r.terms i; count = λ i. l.count i + r.count i; letters = λ i. l.letters i + r.letters i; nots = λ i. max (l.nots i) (r.nots i) }

abbrev ArePrintable : State → Type 0
ArePrintable s = AllByRecursion (λ e. IsTrue (is_printable s e.body)) s.entries

module _ (s : State) (h : IsValid s) where
  -- the paths of all directories
  abbrev rows : List NamedDir
  rows = record { dir = 0; path = path_of s 0 } ∷ map (λ e. record { dir = e.number; path = path_of s e.number }) s.entries

  row-path : (n : ℕ) → Lives s.entries n → path_at rows n ≡ Some (path_of s n)
  row-path n (inl root) =
      ap (λ (b : Bool). if b then Some (path_of s 0) else path_at (map (λ e. record { dir = e.number; path = path_of s e.number }) s.entries) n) (eq-eqb 0 n (sym root))
      ∙ ap (λ (k : ℕ). Some (path_of s k)) (sym root)
  row-path n (inr (e, found)) = elim (0 == n) as (λ b. (0 == n) ≡ b → (if b then Some (path_of s 0) else path_at (map (λ e. record { dir = e.number; path = path_of s e.number }) s.entries) n) ≡ Some (path_of s n)) [
    | true ↦ (λ root. ap (λ (k : ℕ). Some (path_of s k)) (eqb-true 0 n root))
    | false ↦ (λ _. each s.entries e found)
  ] refl
    where
      each : (es : List Entry) (e : Entry) → entry_at es n ≡ Some e → path_at (map (λ e. record { dir = e.number; path = path_of s e.number }) es) n ≡ Some (path_of s n)
      each [] e found = absurd cc
      each (x ∷ es) e found = elim (x.number == n) as (λ b. (x.number == n) ≡ b → cond b (Some x) (entry_at es n) ≡ Some e → (if b then Some (path_of s x.number) else path_at (map (λ e. record { dir = e.number; path = path_of s e.number }) es) n) ≡ Some (path_of s n)) [
        | true ↦ (λ same _. ap (λ (k : ℕ). Some (path_of s k)) (eqb-true x.number n same))
        | false ↦ (λ _ found. each es e found)
      ] refl found

  rows-named : list_all {X = NamedDir} (λ told. are_names told.path) rows ≡ true
  rows-named = and_from (are_names (path_of s 0)) (list_all {X = NamedDir} (λ told. are_names told.path) (map (λ e. record { dir = e.number; path = path_of s e.number }) s.entries)) (path-named s 0 h.layout (inl refl))
      (each s.entries (all-entries (λ e. entry_at s.entries e.number ≡ Some e) 0 s.entries s.next h.layout.numbers (λ e here. here)))
    where
      each : (es : List Entry) → AllByRecursion (λ e. entry_at s.entries e.number ≡ Some e) es → list_all {X = NamedDir} (λ told. are_names told.path) (map (λ e. record { dir = e.number; path = path_of s e.number }) es) ≡ true
      each [] there = refl
      each (e ∷ es) there = and_from (are_names (path_of s e.number)) (list_all {X = NamedDir} (λ told. are_names told.path) (map (λ e. record { dir = e.number; path = path_of s e.number }) es)) (path-named s e.number h.layout (inr (e, there.0))) (each es there.1)

  -- what is known of a query whose directories are there
  record IsPathed (q : Formula ℕ) : Type 0 where
    known : are_known rows q ≡ true
    words : referred_by (word_by rows) q ≡ referred_by (word_at s) q
    text : pathed rows q ≡ referred_by (λ dir. path_text (path_of s dir)) q

  is_pathed : (q : Formula ℕ) → are_directories s (named_in q) ≡ true → IsPathed q
  is_pathed (query.Term term) there = record { known = refl; words = refl; text = refl }
  is_pathed (query.Dir dir) there =
      let row = row-path dir (directory-lives s.entries dir (and_parts (is_directory_at s.entries dir) true there).0) in
      record {
        known = ap (λ (o : Option (List (List ℕ))). is_some o) row;
        words = ap (λ (o : Option (List (List ℕ))). query.Dir (record { absolute = true; ups = 0; names = option_map_or (λ path. path) o [] })) row;
        text = ap (λ (o : Option (List (List ℕ))). query.Dir (option_map_or path_text o [])) row;
      }
  is_pathed (query.Not q) there =
      let inner = is_pathed q there in
      record { known = inner.known; words = ap (λ (f : Formula PathWord). query.Not f) inner.words; text = ap (λ (f : Formula (List ℕ)). query.Not f) inner.text }
  is_pathed (query.And left right) there =
      let parts = and_parts (are_directories s (named_in left)) (are_directories s (named_in right)) (sym (list_all-append (λ dir. is_directory_at s.entries dir) (named_in left) (named_in right)) ∙ there) in
      let l = is_pathed left parts.0 in
      let r = is_pathed right parts.1 in
      record { known = and_from (are_known rows left) (are_known rows right) l.known r.known; words = λ i. query.And (l.words i) (r.words i); text = λ i. query.And (l.text i) (r.text i) }
  is_pathed (query.Or left right) there =
      let parts = and_parts (are_directories s (named_in left)) (are_directories s (named_in right)) (sym (list_all-append (λ dir. is_directory_at s.entries dir) (named_in left) (named_in right)) ∙ there) in
      let l = is_pathed left parts.0 in
      let r = is_pathed right parts.1 in
      record { known = and_from (are_known rows left) (are_known rows right) l.known r.known; words = λ i. query.Or (l.words i) (r.words i); text = λ i. query.Or (l.text i) (r.text i) }

  sound-query : (e : Entry) (q : Formula ℕ) → entry_at s.entries e.number ≡ Some e → query_in e.body ≡ Some q → (is_query q ≡ true) × (are_directories s (named_in q) ≡ true)
  sound-query e q there is = at e.body refl is
    where
      at : (body : Body) → e.body ≡ body → query_in body ≡ Some q → (is_query q ≡ true) × (are_directories s (named_in q) ≡ true)
      at (Semantic other permanent prohibited) same is =
          let even : other ≡ q = cc in
          let sound : IsSoundQuery s other permanent prohibited = subst (λ (b : Body). AsksWell s b) same (entry_at-all (λ e. AsksWell s e.body) s.entries e.number e h.queries there) in
          let parts = and_parts (is_query other) (are_directories s (named_in other)) sound.fits in
          (ap is_query (sym even) ∙ parts.0, ap (λ (f : Formula ℕ). are_directories s (named_in f)) (sym even) ∙ parts.1)
      at (File text dirty shown) same is = absurd cc
      at Dir same is = absurd cc
      at (Symlink target) same is = absurd cc
      at (Mount space kept) same is = absurd cc
      at Document same is = absurd cc

  -- a query that is printed within limits is read back
  query-back : (e : Entry) (q : Formula ℕ) → entry_at s.entries e.number ≡ Some e → query_in e.body ≡ Some q → is_printable s e.body ≡ true → read_query (query_text (referred_by word_text (referred_by (word_at s) q))) ≡ Ok (referred_by (word_at s) q)
  query-back e q there is fits =
      let sound = sound-query e q there is in
      let p = is_pathed q sound.1 in
      let terms = are-terms sound.0 in
      ap (λ (f : Formula (List ℕ)). read_query (query_text f)) (printed-is s q)
      ∙ back (read_query (printed_query s q)) (sym (ap (λ (o : Option (Formula ℕ)). option_map_or (λ query. is_ok (read_query (printed_query s query))) o true) is) ∙ fits)
      (subst (λ (f : Formula PathWord). IsReadBack f (read_query (printed_query s q))) p.words
      (subst (λ (f : Formula (List ℕ)). IsReadBack (referred_by (word_by rows) q) (read_query (query_text f))) p.text (read_back rows q rows-named p.known terms)))
    where
      are-terms : is_query q ≡ true → are_terms q ≡ true
      are-terms is =
          let a = (and_parts (are_terms q && nat_le (term_count q) TERMS_LIMIT && nat_le (letter_count q) QUERY_LIMIT) (nat_le (not_count q) NESTING_LIMIT) is).0 in
          let b = (and_parts (are_terms q && nat_le (term_count q) TERMS_LIMIT) (nat_le (letter_count q) QUERY_LIMIT) a).0 in
          (and_parts (are_terms q) (nat_le (term_count q) TERMS_LIMIT) b).0

      back : (r : Result (Formula PathWord) Refusal) → is_ok r ≡ true → IsReadBack (referred_by (word_at s) q) r → r ≡ Ok (referred_by (word_at s) q)
      back (Ok read) ok is = ap (λ (f : Formula PathWord). Ok f) is
      back (Err refusal) ok is = absurd cc

  rooted : (q : Formula ℕ) → are_directories s (named_in q) ≡ true → are_rooted (referred_by (word_at s) q) ≡ true
  rooted (query.Term term) there = refl
  rooted (query.Dir dir) there = path-named s dir h.layout (directory-lives s.entries dir (and_parts (is_directory_at s.entries dir) true there).0)
  rooted (query.Not q) there = rooted q there
  rooted (query.And left right) there =
      let parts = and_parts (are_directories s (named_in left)) (are_directories s (named_in right)) (sym (list_all-append (λ dir. is_directory_at s.entries dir) (named_in left) (named_in right)) ∙ there) in
      and_from (are_rooted (referred_by (word_at s) left)) (are_rooted (referred_by (word_at s) right)) (rooted left parts.0) (rooted right parts.1)
  rooted (query.Or left right) there =
      let parts = and_parts (are_directories s (named_in left)) (are_directories s (named_in right)) (sym (list_all-append (λ dir. is_directory_at s.entries dir) (named_in left) (named_in right)) ∙ there) in
      and_from (are_rooted (referred_by (word_at s) left)) (are_rooted (referred_by (word_at s) right)) (rooted left parts.0) (rooted right parts.1)

  -- each query of a valid state is one that a line can spell
  pub readable : (e : Entry) (q : Formula ℕ) → entry_at s.entries e.number ≡ Some e → query_in e.body ≡ Some q → is_spelled_query (referred_by (word_at s) q) ≡ true
  readable e q there is =
      let sound = sound-query e q there is in
      let r = renamed s q in
      and_from (is_query (referred_by (word_at s) q)) (are_rooted (referred_by (word_at s) q))
      ((λ i. r.terms i && nat_le (r.count i) TERMS_LIMIT && nat_le (r.letters i) QUERY_LIMIT && nat_le (r.nots i) NESTING_LIMIT) ∙ sound.0)
      (rooted q sound.1)

  -- ---- the lines

  module _ (no_mount : HasNoMount s) (printable : ArePrintable s) where
    abbrev IsThere : Entry → Type 0
    IsThere e = entry_at s.entries e.number ≡ Some e

    plain-is : (e : Entry) → IsThere e → IsPlainKind e.body
    plain-is e there = plain s h no_mount readable e there

    named : (n : ℕ) → Lives s.entries n → are_names (path_of s n) ≡ true
    named n lives = path-named s n h.layout lives

    few : (n : ℕ) → Lives s.entries n → length (path_of s n) ≤ 64
    unfolding limit
    few n lives = omega (arith, few-ancestors s n h.layout lives, length-path s n)

    of_map : (f : Entry → Command) (es : List Entry) → AllByRecursion (λ e. IsFine (f e)) es → AllByRecursion IsFine (map f es)
    of_map f [] fine = tt
    of_map f (e ∷ es) fine = (fine.0, of_map f es fine.1)

    joined : (xs ys : List Command) → AllByRecursion IsFine xs → AllByRecursion IsFine ys → AllByRecursion IsFine (xs ++ ys)
    joined [] ys h k = k
    joined (x ∷ xs) ys h k = (h.0, joined xs ys h.1 k)

    of_flat_map : (f : Entry → List Command) (es : List Entry) → AllByRecursion (λ e. AllByRecursion IsFine (f e)) es → AllByRecursion IsFine (flat_map f es)
    of_flat_map f [] fine = tt
    of_flat_map f (e ∷ es) fine = joined (f e) (flat_map f es) fine.0 (of_flat_map f es fine.1)

    all-there : AllByRecursion IsThere s.entries
    all-there = all-entries IsThere 0 s.entries s.next h.layout.numbers (λ e here. here)

    such : (test : Body → Bool) (f : Entry → Command) → ((e : Entry) → test e.body ≡ true → IsThere e → IsFine (f e)) → AllByRecursion IsFine (map f (such_by_path s test))
    such test f fine = of_map f (such_by_path s test) (all-two (λ e. test e.body ≡ true) IsThere (λ e. IsFine (f e)) (such_by_path s test) fine (such-pass s test) (such-there s h.layout plain-is test))

    query-fine : (e : Entry) → IsThere e × (is_printable s e.body ≡ true) → AllByRecursion IsFine (set_query s e)
    query-fine e (there, fits) = at (query_in e.body) refl
      where
        at : (o : Option (Formula ℕ)) → query_in e.body ≡ o → AllByRecursion IsFine (option_map_or (λ query. command.Setq (word_at s e.number) (referred_by (word_at s) query) ∷ []) o [])
        at None is = tt
        at (Some q) is = (fine-query (path_of s e.number) (named e.number (inr (e, there))) (few e.number (inr (e, there))) (referred_by (word_at s) q) (query-back e q there is fits), tt)

    marks-fine : (e : Entry) → IsThere e → AllByRecursion IsFine (set_marks s e)
    marks-fine e there = going (mark_here s e.body) (joined (map (add_here s) (permanent_in e.body)) (flat_map (remove_here s) (prohibited_in e.body)) (adds (permanent_in e.body) (λ k inside. kept s h no_mount readable e k there inside)) (removes (prohibited_in e.body) (λ k inside. (removed s h no_mount readable e k there inside).0)))
      where
        going : (cs : List Command) → AllByRecursion IsFine cs → AllByRecursion IsFine (going_to (word_at s e.number) cs)
        going [] fine = tt
        going (c ∷ cs) fine = (fine-cd (path_of s e.number) (named e.number (inr (e, there))) (few e.number (inr (e, there))), fine)

        adds : (ns : List ℕ) → ((k : ℕ) → Among ns k → Lives s.entries k) → AllByRecursion IsFine (map (add_here s) ns)
        adds [] lives = tt
        adds (n ∷ ns) lives = let live = lives n (inl refl) in (fine-add (path_of s n) (named n live) (few n live), adds ns (λ k later. lives k (inr later)))

        removes : (ns : List ℕ) → ((k : ℕ) → Among ns k → Lives s.entries k) → AllByRecursion IsFine (flat_map (remove_here s) ns)
        removes [] lives = tt
        removes (n ∷ ns) lives =
            let live = lives n (inl refl) in
            (fine-add (path_of s n) (named n live) (few n live), (fine-remove (path_of s n) (named n live) (few n live), removes ns (λ k later. lives k (inr later))))

    back-fine : (cs : List Command) → AllByRecursion IsFine cs → AllByRecursion IsFine (go_back cs)
    back-fine [] fine = tt
    back-fine (c ∷ cs) fine = joined (c ∷ cs) (command.Cd None ∷ []) fine (fine-back, tt)

    -- each line of the dump is read as its command
    lines-fine : AllByRecursion IsFine (dump_commands s)
    unfolding dump_commands
    lines-fine =
        joined _ _ (such is_directory _ (λ e _ there. fine-mkdir (path_of s e.number) (named e.number (inr (e, there))) (few e.number (inr (e, there)))))
        (joined _ _ (such is_shown _ (λ e is there. fine-put (path_of s e.number) (named e.number (inr (e, there))) (few e.number (inr (e, there))) (unwrap_or (shown_text e.body) []) (shown-fits e.body (sound-body s h no_mount readable e there) is))) (
          fine-index,
          joined _ _ (such is_dirty _ (λ e is there. fine-put (path_of s e.number) (named e.number (inr (e, there))) (few e.number (inr (e, there))) (unwrap_or (text_in e.body) []) (text-fits e.body (sound-body s h no_mount readable e there))))
              (joined _ _ (such is_symlink _ (λ e is there. fine-link (path_of s e.number) (named e.number (inr (e, there))) (few e.number (inr (e, there))) (unwrap_or (target_in e.body) []) (target-fits e.body (sound-body s h no_mount readable e there) is)))
              (joined _ _ (of_flat_map (set_query s) s.entries (all-two IsThere (λ e. IsTrue (is_printable s e.body)) (λ e. AllByRecursion IsFine (set_query s e)) s.entries (λ e there fits. query-fine e (there, fits)) all-there printable))
              (back-fine _ (of_flat_map (set_marks s) s.entries (all-two IsThere IsThere (λ e. AllByRecursion IsFine (set_marks s e)) s.entries (λ e there _. marks-fine e there) all-there all-there))))),
        ))

    text-read : script (dump_text s) ≡ map (λ command. Ok (main_line command)) (dump_commands s)
    unfolding dump_text
    text-read = all-read (dump_commands s) lines-fine

-- all queries can be printed
are-printable : (s : State) → first_unprintable s ≡ None → ArePrintable s
are-printable s none = each s.entries (none-such (λ body. not (is_printable s body)) s.entries none)
  where
    each : (es : List Entry) → AllByRecursion (λ e. not (is_printable s e.body) ≡ false) es → AllByRecursion (λ e. IsTrue (is_printable s e.body)) es
    each [] h = tt
    each (e ∷ es) h = (one (is_printable s e.body) h.0, each es h.1)
      where
        one : (b : Bool) → not b ≡ false → b ≡ true
        one true h = refl
        one false h = absurd cc

-- the law of the dump
pub dumps-make : DumpsMake
dumps-make s h mounts unprintable =
    let no_mount = none-such is_mount s.entries mounts in
    let printable = are-printable s unprintable in
    let events = dump_events s h no_mount (readable s h) in (
      events,
      λ spaces setting is room.
          let fine = (dump-leads s h no_mount (readable s h)).plays spaces setting is room in
          subst (λ (l : List Item). Makes s events setting (turns (given_spaces spaces) setting l)) (sym (text-read s h no_mount printable))
          (record {
            ok = fine.ok;
            made = fine.made;
            same = subst (λ (t : Setting). Same s t.state) (sym fine.left) (dump-same s h no_mount (readable s h));
          }),
    )
