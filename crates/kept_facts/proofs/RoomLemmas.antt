-- How much mounts keep after an event, by what they keep and what was told.
use Rattle.std.proofs.Common.{◌≡◌, ℕ, zero, suc, ◌+◌, ◌≤◌, Bool, true, false, cond, List, [], ◌∷◌, ◌++◌, drop, length, map, take, refl, ap, sym, ◌∙◌, arith}
use Rattle.std.specs.Prelude.{◌==◌, ◌&&◌, not, filter, if◌then◌else◌, nat_le, Option, Some, None, sum_by}
use Rattle.std.specs.List.{AllByRecursion, list_all}
use Rattle.std.specs.Option.{option_map, option_map_or}
use Rattle.std.proofs.lemmas.Bool.{and_parts, eq-eqb, eqb-true, le-leb, leb-true, ne_eqb}
use Rattle.std.proofs.lemmas.List.Sums.{sum_by-append, sum_by-cons}
use Rattle.hac_model.specs.Query.Formula.{Formula}
use Rattle.hac_model.specs.Query.Terms.{is_term_before}
use Rattle.hac_model.specs.Tree.Asking.{are_all_told, asked_by, gained, gaining, put_answer, unanswered, with_answers, with_told}
use Rattle.hac_model.specs.Tree.Changes.{changed_in, edited}
use Rattle.hac_model.specs.Tree.Limits.{are_answers_few}
use Rattle.hac_model.specs.Tree.Links.{answers_at}
use Rattle.hac_model.specs.Tree.Mounting.{answers_to, are_told, documents_from, forgetting_such, fresh, is_gone, is_such_at, is_told, keeping, mounted, synced}
use Rattle.hac_model.specs.Tree.Valid.{NumbersRise}
use Rattle.hac_model.specs.Tree.{answers_in, entry_at, is_document, is_mount, is_mount_at}
use Rattle.hac_model.specs.declared.limits.TheConstants.{ANSWERS_LIMIT, PAIRS_LIMIT}
use Rattle.hac_model.specs.declared.states.Answer.{Answer}
use Rattle.hac_model.specs.declared.states.Body.{Body}
use Rattle.hac_model.specs.declared.states.Body.TheVariants.{File, Dir, Symlink, Semantic, Mount, Document}
use Rattle.hac_model.specs.declared.states.Entry.{Entry}
use Rattle.hac_model.specs.declared.states.State.{State}
use Rattle.hac_model.specs.declared.terms.Term.{Term}
use Rattle.hac_model.proofs.ChangeLemmas.{touched}
use Rattle.hac_model.proofs.CountLemmas.{measured, measured-added, measured-changed, measured-cons}
use Rattle.kept_facts.specs.Room.{all_answers, all_documents, are_few_then, documents_in, numbers_in}
use Rattle.kept_facts.proofs.GainLemmas.{answers-taken}

-- A measure of answers: of each, by its documents, as of what was told.
record IsMeasure (one : List ℕ → ℕ) (of : List Answer → ℕ) (told_of : List (List ℕ) → ℕ) : Type 0 where
  pub none : of [] ≡ 0
  pub more : (answer : Answer) (answers : List Answer) → of (answer ∷ answers) ≡ one answer.documents + of answers
  pub none_told : told_of [] ≡ 0
  pub more_told : (numbers : List ℕ) (told : List (List ℕ)) → told_of (numbers ∷ told) ≡ one numbers + told_of told

documents-measure : IsMeasure (λ numbers. length numbers) documents_in numbers_in
documents-measure = record {
  none = refl;
  more = λ answer answers. sum_by-cons (λ (answer : Answer). length answer.documents) answer answers;
  none_told = refl;
  more_told = λ numbers told. sum_by-cons (λ (list : List ℕ). length list) numbers told;
}

answers-measure : IsMeasure (λ numbers. 1) (λ answers. length answers) (λ told. length told)
answers-measure = record {
  none = refl;
  more = λ answer answers. omega arith;
  none_told = refl;
  more_told = λ numbers told. omega arith;
}

module _ (one : List ℕ → ℕ) (of : List Answer → ℕ) (told_of : List (List ℕ) → ℕ) (m : IsMeasure one of told_of) where
  -- of a body
  abbrev kept : Body → ℕ
  kept body = of (answers_in body)

  put-more : (answer : Answer) (answers : List Answer) → of (put_answer answer answers) ≡ one answer.documents + of answers
  put-more answer [] = m.more answer []
  put-more answer (first ∷ answers) =
      elim (is_term_before answer.term first.term) as (λ b. of (if b then answer ∷ first ∷ answers else first ∷ put_answer answer answers) ≡ one answer.documents + of (first ∷ answers)) [
        | true ↦ m.more answer (first ∷ answers)
        | false ↦ omega (arith, m.more first (put_answer answer answers), m.more first answers, put-more answer answers)
      ]

  with-more : (more answers : List Answer) → of (with_answers more answers) ≡ of more + of answers
  with-more [] answers = omega (arith, m.none)
  with-more (answer ∷ more) answers = omega (arith, put-more answer (with_answers more answers), m.more answer more, with-more more answers)

  to-told : (terms : List Term) (told : List (List ℕ)) → length told ≡ length terms → of (answers_to terms told) ≡ told_of told
  to-told [] [] even = omega (arith, m.none, m.none_told)
  to-told [] (numbers ∷ told) even = absurd (omega (arith, even))
  to-told (term ∷ terms) [] even = absurd (omega (arith, even))
  to-told (term ∷ terms) (numbers ∷ told) even =
      omega (arith, m.more (record { term = term; documents = numbers }) (answers_to terms told), m.more_told numbers told, to-told terms told (omega (arith, even)))

  told-split : (count : ℕ) (told : List (List ℕ)) → told_of (take count told) + told_of (drop count told) ≡ told_of told
  told-split zero told = omega (arith, m.none_told)
  told-split (suc count) [] = omega (arith, m.none_told)
  told-split (suc count) (numbers ∷ told) = omega (arith, m.more_told numbers (take count told), m.more_told numbers told, told-split count told)

  -- Mounts are told for a query.

  module _ (s : State) (query : Formula ℕ) where
    abbrev asked : Entry → List Term
    asked e = asked_by (answers_at s) query e

    -- what an entry keeps then
    gains-kept : (e : Entry) (told : List (List ℕ)) → length (take (length (asked e)) told) ≡ length (asked e) → kept (gaining (answers_to (asked e) told) e.body) ≡ kept e.body + told_of (take (length (asked e)) told)
    gains-kept e told even = by e.body refl
      where
        gain : of (answers_to (asked e) told) ≡ told_of (take (length (asked e)) told)
        gain = ap of (sym (answers-taken (asked e) told)) ∙ to-told (asked e) (take (length (asked e)) told) even

        nothing : is_mount e.body ≡ false → told_of (take (length (asked e)) told) ≡ 0
        nothing plain = ap (λ (b : Bool). told_of (take (length (if b then unanswered query (answers_at s e.number) else [])) told)) plain ∙ m.none_told

        by : (body : Body) → e.body ≡ body → kept (gaining (answers_to (asked e) told) body) ≡ kept body + told_of (take (length (asked e)) told)
        by (Mount space answers) is = omega (arith, with-more (answers_to (asked e) told) answers, gain)
        by (File text dirty shown) is = omega (arith, nothing (ap is_mount is))
        by Dir is = omega (arith, nothing (ap is_mount is))
        by (Symlink target) is = omega (arith, nothing (ap is_mount is))
        by (Semantic asked permanent prohibited) is = omega (arith, nothing (ap is_mount is))
        by Document is = omega (arith, nothing (ap is_mount is))

    -- these entries gain what is told to them alone
    abbrev Gain : (ℕ → List Answer) → List (List ℕ) → List Entry → List Entry → Type 0
    Gain more told all es = AllByRecursion (λ e. more e.number ≡ gained (answers_at s) query told all e.number) es

    behind : (more : ℕ → List Answer) (told : List (List ℕ)) (e : Entry) (all es : List Entry) (above next : ℕ) → e.number ≤ above → NumbersRise above es next → Gain more told (e ∷ all) es → Gain more (drop (length (asked e)) told) all es
    behind more told e all [] above next low rise h = tt
    behind more told e all (first ∷ es) above next low rise h =
        let other : (e.number == first.number) ≡ false = ne_eqb e.number first.number (λ same. omega (arith, same, rise.0, low)) in (
          h.0 ∙ ap (λ (b : Bool). if b then answers_to (asked e) told else gained (answers_at s) query (drop (length (asked e)) told) all first.number) other,
          behind more told e all es first.number next (omega (arith, rise.0, low)) rise.1 h.1,
        )

    gains-all : (more : ℕ → List Answer) (told : List (List ℕ)) (es : List Entry) (above next : ℕ) → NumbersRise above es next → Gain more told es es → are_all_told s query told es ≡ true →
        measured kept (map (λ e. edited (gaining (more e.number)) e) es) ≡ measured kept es + told_of told
    gains-all more told [] above next rise gain all =
        let none : length told ≡ 0 = eqb-true (length told) 0 all in
        empty told none
      where
        empty : (told : List (List ℕ)) → length told ≡ 0 → 0 ≡ 0 + told_of told
        empty [] none = omega (arith, m.none_told)
        empty (numbers ∷ told) none = absurd (omega (arith, none))
    gains-all more told (e ∷ es) above next rise gain all =
        let parts = and_parts (are_told s e.number (asked e) (take (length (asked e)) told)) (are_all_told s query (drop (length (asked e)) told) es) all in
        let even = and_parts (length (take (length (asked e)) told) == length (asked e)) (list_all (is_told s e.number) (take (length (asked e)) told)) parts.0 in
        let here : more e.number ≡ answers_to (asked e) told =
        gain.0 ∙ ap (λ (b : Bool). if b then answers_to (asked e) told else gained (answers_at s) query (drop (length (asked e)) told) es e.number) (eq-eqb e.number e.number refl) in
        let first : kept (gaining (more e.number) e.body) ≡ kept e.body + told_of (take (length (asked e)) told) =
        ap (λ (answers : List Answer). kept (gaining answers e.body)) here ∙ gains-kept e told (eqb-true (length (take (length (asked e)) told)) (length (asked e)) even.0) in
        omega (
          arith,
          measured-cons kept (edited (gaining (more e.number)) e) (map (λ e. edited (gaining (more e.number)) e) es),
          measured-cons kept e es,
          first,
          told-split (length (asked e)) told,
          gains-all more (drop (length (asked e)) told) es e.number next rise.1 (behind more told e es es e.number next (omega arith) rise.1 gain.1) parts.1,
        )

  query-keeps : (s : State) (query : Formula ℕ) (told : List (List ℕ)) → NumbersRise 0 s.entries s.next → are_all_told s query told s.entries ≡ true → measured kept (with_told query told s).entries ≡ measured kept s.entries + told_of told
  query-keeps s query told rise all = gains-all s query more told s.entries 0 s.next rise (same s.entries) all
    where
      more : ℕ → List Answer
      more = gained (answers_at s) query told s.entries

      same : (es : List Entry) → AllByRecursion (λ e. more e.number ≡ gained (answers_at s) query told s.entries e.number) es
      same [] = tt
      same (e ∷ es) = (refl, same es)

  -- A mount comes.

  documents-keep : (number mount : ℕ) (names : List (List ℕ)) → measured kept (documents_from number mount names) ≡ 0
  documents-keep number mount [] = refl
  documents-keep number mount (name ∷ names) =
      omega (arith, measured-cons kept (record { number = number; parent = mount; name = name; body = Document }) (documents_from (number + 1) mount names), m.none, documents-keep (number + 1) mount names)

  mount-keeps : (s : State) (dir : ℕ) (name space : List ℕ) (terms : List Term) (told documents : List (List ℕ)) → length told ≡ length terms → measured kept (mounted s dir name space (answers_to terms told) documents).entries ≡ measured kept s.entries + told_of told
  mount-keeps s dir name space terms told documents even =
      let mount : Entry = record { number = s.next; parent = dir; name = name; body = Mount space (answers_to terms told) } in
      omega (
        arith,
        sum_by-append (λ (e : Entry). kept e.body) (s.entries ++ mount ∷ []) (documents_from (s.next + 1) s.next documents),
        measured-added kept s.entries mount,
        documents-keep (s.next + 1) s.next documents,
        to-told terms told even,
      )

  -- A mount is synced.

  module _ (mount : ℕ) (answers : List Answer) where
    -- what an entry keeps once the mount of the number keeps these answers
    abbrev kept_now : Entry → ℕ
    kept_now e = kept (touched mount (edited (keeping answers)) e).body

    document-none : (e : Entry) → is_document e.body ≡ true → kept_now e ≡ 0
    document-none e is = elim (e.number == mount) as (λ b. kept (cond b (edited (keeping answers) e) e).body ≡ 0) [ true ↦ ap of (changed e.body is) ∙ m.none | false ↦ ap of (none e.body is) ∙ m.none ]
      where
        none : (body : Body) → is_document body ≡ true → answers_in body ≡ []
        none (Mount space kept) is = absurd cc
        none (File text dirty shown) is = refl
        none Dir is = refl
        none (Symlink target) is = refl
        none (Semantic query permanent prohibited) is = refl
        none Document is = refl

        changed : (body : Body) → is_document body ≡ true → answers_in (keeping answers body) ≡ []
        changed (Mount space kept) is = absurd cc
        changed (File text dirty shown) is = refl
        changed Dir is = refl
        changed (Symlink target) is = refl
        changed (Semantic query permanent prohibited) is = refl
        changed Document is = refl

    forgetting-none : (test : ℕ → Bool) (e : Entry) → kept_now (edited (forgetting_such test) e) ≡ kept_now e
    forgetting-none test e = elim (e.number == mount) as (λ b. kept (cond b (edited (keeping answers) (edited (forgetting_such test) e)) (edited (forgetting_such test) e)).body ≡ kept (cond b (edited (keeping answers) e) e).body) [ true ↦ changed e.body | false ↦ same e.body ]
      where
        same : (body : Body) → kept (forgetting_such test body) ≡ kept body
        same (Semantic query permanent prohibited) = refl
        same other = refl

        changed : (body : Body) → kept (keeping answers (forgetting_such test body)) ≡ kept (keeping answers body)
        changed (Semantic query permanent prohibited) = refl
        changed other = refl

    cleared-keeps : (test : ℕ → Bool) (names : List (List ℕ)) (es : List Entry) → sum_by kept_now (map (edited (forgetting_such test)) (filter (λ e. not (is_gone mount names e)) es)) ≡ sum_by kept_now es
    cleared-keeps test names [] = refl
    cleared-keeps test names (e ∷ es) =
        elim (is_gone mount names e) as (λ b. is_gone mount names e ≡ b → sum_by kept_now (map (edited (forgetting_such test)) (cond (not b) (e ∷ filter (λ e. not (is_gone mount names e)) es) (filter (λ e. not (is_gone mount names e)) es))) ≡ sum_by kept_now (e ∷ es)) [
          | true ↦ (λ gone. omega (arith, sum_by-cons kept_now e es, document-none e (and_parts (is_document e.body) _ gone).0, cleared-keeps test names es))
          | false ↦ (λ stays. omega (
            arith,
            sum_by-cons kept_now (edited (forgetting_such test) e) (map (edited (forgetting_such test)) (filter (λ e. not (is_gone mount names e)) es)),
            sum_by-cons kept_now e es,
            forgetting-none test e,
            cleared-keeps test names es,
          ))
        ] refl

    new-keep : (number : ℕ) (names : List (List ℕ)) → sum_by kept_now (documents_from number mount names) ≡ 0
    new-keep number [] = refl
    new-keep number (name ∷ names) =
        let new : Entry = record { number = number; parent = mount; name = name; body = Document } in
        omega (arith, sum_by-cons kept_now new (documents_from (number + 1) mount names), document-none new refl, new-keep (number + 1) names)

    changed-keeps : (es : List Entry) → measured kept (changed_in mount (edited (keeping answers)) es) ≡ sum_by kept_now es
    changed-keeps [] = refl
    changed-keeps (e ∷ es) = omega (arith, measured-cons kept (touched mount (edited (keeping answers)) e) (changed_in mount (edited (keeping answers)) es), sum_by-cons kept_now e es, changed-keeps es)

  sync-keeps : (s : State) (mount : ℕ) (answers : List Answer) (documents : List (List ℕ)) → NumbersRise 0 s.entries s.next → is_mount_at s.entries mount ≡ true → measured kept (synced s mount answers documents).entries + of (answers_at s mount) ≡ measured kept s.entries + of answers
  sync-keeps s mount answers documents rise there =
      let names = fresh s mount documents in
      let left : List Entry = map (edited (forgetting_such (is_such_at (is_gone mount documents) s.entries))) (filter (λ e. not (is_gone mount documents e)) s.entries) in
      omega (
        arith,
        changed-keeps mount answers (left ++ documents_from s.next mount names),
        sum_by-append (kept_now mount answers) left (documents_from s.next mount names),
        new-keep mount answers s.next names,
        cleared-keeps mount answers (is_such_at (is_gone mount documents) s.entries) documents s.entries,
        changed-keeps mount answers s.entries,
        at (entry_at s.entries mount) refl there,
      )
    where
      now : List Entry
      now = changed_in mount (edited (keeping answers)) s.entries

      body : (e : Entry) → entry_at s.entries mount ≡ Some e → (b : Body) → e.body ≡ b → is_mount b ≡ true → measured kept now + kept b ≡ measured kept s.entries + of answers
      body e found (Mount space old) is mounts =
          let changed : kept (keeping answers e.body) ≡ of answers = ap (λ (b : Body). kept (keeping answers b)) is in
          omega (arith, measured-changed kept mount (edited (keeping answers)) 0 s.entries s.next e rise found, changed, ap kept is)
      body e found (File text dirty shown) is mounts = absurd cc
      body e found Dir is mounts = absurd cc
      body e found (Symlink target) is mounts = absurd cc
      body e found (Semantic query permanent prohibited) is mounts = absurd cc
      body e found Document is mounts = absurd cc

      at : (o : Option Entry) → entry_at s.entries mount ≡ o → option_map_or is_mount (option_map (λ (e : Entry). e.body) o) false ≡ true → measured kept now + of (option_map_or answers_in (option_map (λ (e : Entry). e.body) o) []) ≡ measured kept s.entries + of answers
      at None found there = absurd cc
      at (Some e) found there = body e found e.body refl there

-- The limits.

pub le-same : (a b c d : ℕ) → a + d ≡ c + b → nat_le a b ≡ nat_le c d
le-same a b c d even = by (nat_le c d) refl
  where
    by : (v : Bool) → nat_le c d ≡ v → nat_le a b ≡ v
    by true is = le-leb a b (omega (arith, leb-true c d is, even))
    by false is = not_le (nat_le a b) refl
      where
        not_le : (v : Bool) → nat_le a b ≡ v → v ≡ false
        not_le false less = refl
        not_le true less = sym (le-leb c d (omega (arith, leb-true a b less, even))) ∙ is

swapped : (a b : Bool) → (a && b) ≡ (b && a)
swapped true true = refl
swapped true false = refl
swapped false true = refl
swapped false false = refl

few-then : (old new : List Entry) (gone : List Answer) (told : List (List ℕ)) → all_documents new + documents_in gone ≡ all_documents old + numbers_in told → all_answers new + length gone ≡ all_answers old + length told → are_few_then old gone told ≡ are_answers_few new
few-then old new gone told documents answers =
    (λ i. le-same (all_answers old + length told) (PAIRS_LIMIT + length gone) (all_answers new) PAIRS_LIMIT (omega (arith, answers)) i
    && le-same (all_documents old + numbers_in told) (ANSWERS_LIMIT + documents_in gone) (all_documents new) ANSWERS_LIMIT (omega (arith, documents)) i)
    ∙ swapped (nat_le (all_answers new) PAIRS_LIMIT) (nat_le (all_documents new) ANSWERS_LIMIT)

-- mounts keep what they are told for a query
pub few-told : (s : State) (query : Formula ℕ) (told : List (List ℕ)) → NumbersRise 0 s.entries s.next → are_all_told s query told s.entries ≡ true → are_few_then s.entries [] told ≡ are_answers_few (with_told query told s).entries
few-told s query told rise all =
    let documents = query-keeps (λ numbers. length numbers) documents_in numbers_in documents-measure s query told rise all in
    let answers = query-keeps (λ numbers. 1) (λ answers. length answers) (λ told. length told) answers-measure s query told rise all in
    few-then s.entries (with_told query told s).entries [] told (omega (arith, documents)) (omega (arith, answers))

-- a new mount keeps what it is told
pub few-mounted : (s : State) (dir : ℕ) (name space : List ℕ) (terms : List Term) (told documents : List (List ℕ)) → length told ≡ length terms → are_few_then s.entries [] told ≡ are_answers_few (mounted s dir name space (answers_to terms told) documents).entries
few-mounted s dir name space terms told documents even =
    let named = mount-keeps (λ numbers. length numbers) documents_in numbers_in documents-measure s dir name space terms told documents even in
    let answers = mount-keeps (λ numbers. 1) (λ answers. length answers) (λ told. length told) answers-measure s dir name space terms told documents even in
    few-then s.entries (mounted s dir name space (answers_to terms told) documents).entries [] told (omega (arith, named)) (omega (arith, answers))

-- a mount that is synced keeps what it is told, in place of what it kept
pub few-synced : (s : State) (mount : ℕ) (terms : List Term) (told documents : List (List ℕ)) → NumbersRise 0 s.entries s.next → is_mount_at s.entries mount ≡ true → length told ≡ length terms →
    are_few_then s.entries (answers_at s mount) told ≡ are_answers_few (synced s mount (answers_to terms told) documents).entries
few-synced s mount terms told documents rise there even =
    let named = sync-keeps (λ numbers. length numbers) documents_in numbers_in documents-measure s mount (answers_to terms told) documents rise there in
    let answers = sync-keeps (λ numbers. 1) (λ answers. length answers) (λ told. length told) answers-measure s mount (answers_to terms told) documents rise there in
    let named_told : documents_in (answers_to terms told) ≡ numbers_in told = to-told (λ numbers. length numbers) documents_in numbers_in documents-measure terms told even in
    let told_all : length (answers_to terms told) ≡ length told = to-told (λ numbers. 1) (λ answers. length answers) (λ told. length told) answers-measure terms told even in
    few-then s.entries (synced s mount (answers_to terms told) documents).entries (answers_at s mount) told (omega (arith, named, named_told)) (omega (arith, answers, told_all))
