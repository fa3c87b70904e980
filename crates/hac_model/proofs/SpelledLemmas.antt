-- Each event that can happen to a valid state, and is stored, has a spelling: its numbers have their bytes, its names, texts and
-- queries are no longer than such may be, and what it tells of a space's documents is no more than four bytes can count.
use Rattle.std.proofs.Common.{inl, inr, ◌≡◌, ℕ, zero, suc, ◌<◌, Bool, true, false, List, [], ◌∷◌, ◌++◌, length, refl, ap, subst, sym, ◌∙◌, arith}
use Rattle.std.specs.Prelude.{not, option_and_then, ◌&&◌, ◌||◌, if◌then◌else◌, nat_le, Option, Some, None, IsTrue, is_some, is_none}
use Rattle.std.proofs.lemmas.Bool.{and_from, and_parts, or_cases}
use Rattle.std.proofs.lemmas.List.Folds.{list_all-append}
use Rattle.std.specs.Option.{option_map, option_map_or}
use Rattle.hac_model.specs.Tree.Depends.{cycle_of_mark, cycle_over, first_reaching, named_in, reaches}
use Rattle.hac_model.specs.Tree.Events.{accepted, apply, are_directories, can_have_mark, changed_at, edited, indexed, is_clear, is_free, is_placed, is_possible, is_unreferenced, may_ask, may_mark, next_dirty}
use Rattle.hac_model.specs.Payload.Fields.{num}
use Rattle.hac_model.specs.Query.Formula.{Formula}
use Rattle.hac_model.specs.Query.Formula as formula
use Rattle.hac_model.specs.Tree.Asking.{with_told}
use Rattle.hac_model.specs.Tree.Limits.{are_answers_few, is_text, passed_limit, semantic_count}
use Rattle.hac_model.specs.Tree.Links.{DirLinks, can_be_added, has, is_item, is_permanent, is_semantic, links, parent_of, query_at, round, rounds}
use Rattle.hac_model.specs.Script.PathWords.{is_target}
use Rattle.hac_model.specs.Script.SpaceNames.{is_space_name}
use Rattle.hac_model.specs.Tree.Mounting.{answers_to, are_documents, are_documents_few, are_told, mounted, synced}
use Rattle.hac_model.specs.Tree.Mounts.{terms_to_ask}
use Rattle.hac_model.specs.Payload.Payloads.{docs_field, is_spellable, mark_field, name_field, space_field, target_field, text_field, told_field}
use Rattle.hac_model.specs.Query.Queries.{is_query}
use Rattle.hac_model.specs.Payload.QueryFields.{are_nums, query_field}
use Rattle.hac_model.specs.Tree.Sessions.{is_busy, is_stored, sessionless, stored}
use Rattle.hac_model.specs.Tree.{body_at, entry_at, is_directory, is_directory_at, is_file, is_file_at, is_leaf, is_mount_at, path_of, query_in, is_linkable, is_mount}
use Rattle.hac_model.specs.Tree.Valid.{AsksWell, IsLayout, IsValid, KeepsWell}
use Rattle.hac_model.specs.declared.versions.Version.{Version}
use Rattle.hac_model.specs.declared.versions.Version.TheVariants.{Two}
use Rattle.hac_model.proofs.RaisedLemmas.{raised-limits}
use Rattle.hac_model.specs.declared.events.Event.{Event}
use Rattle.hac_model.specs.declared.events.Event.TheVariants.{Mkdir, NewFile, Rewrite, Ln, Mv, Rm, Rmdir, Smkdir, Setq, Unq, Mark, Smount, Ssync, Sumount, Step, Cd}
use Rattle.hac_model.specs.declared.limits.LimitWord.{LimitWord}
use Rattle.hac_model.specs.declared.limits.TheConstants.{TEXT_LIMIT}
use Rattle.hac_model.specs.declared.marks.Kind.{Kind}
use Rattle.hac_model.specs.declared.marks.Kind.TheVariants.{Transient, Permanent, Prohibited, Unlinked}
use Rattle.hac_model.specs.declared.states.Body.{Body}
use Rattle.hac_model.specs.declared.states.Entry.{Entry}
use Rattle.hac_model.specs.declared.states.State.{State}
use Rattle.hac_model.proofs.StayLemmas.{asks-stays}
use Rattle.hac_model.proofs.ChangeLemmas.{all-weaker}
use Rattle.hac_model.proofs.LayoutLemmas.{smount-parts, ssync-parts, sumount-parts}
use Rattle.hac_model.proofs.MountLayoutLemmas.{mounted-layout, synced-layout}
use Rattle.hac_model.proofs.SpellableLemmas.{docs-fit, name-fits, small-fits, space-fits, all-told-fit, told-fit}
use Rattle.hac_model.proofs.TreeLemmas.{Lives, directory-lives, entry_at-below}
use Rattle.hac_model.proofs.ValidLemmas.{accepted-parts, free-parts, mark-parts, move-parts, rmdir-parts, setq-parts, smkdir-parts}
use Rattle.hac_model.proofs.KeepingLemmas.{keeps-stays}
use Rattle.hac_model.proofs.VersionLemmas.{apply-version, few-any, none-few, root-fits}

module _ (s : State) (h : IsValid s) where
  -- the numbers of a valid state have their bytes
  pub number-fits : (n : ℕ) → Lives s.entries n → (num s.version).fits n ≡ true
  number-fits n (inl root) = ap (λ (m : ℕ). (num s.version).fits m) root ∙ root-fits s.version
  number-fits n (inr found) =
      let below : n < s.next = entry_at-below 0 s.entries s.next n found.0 h.layout.numbers found.1 in
      small-fits s h.layout n (omega (arith, below))

  directory-fits : (d : ℕ) → is_directory_at s.entries d ≡ true → (num s.version).fits d ≡ true
  directory-fits d is = number-fits d (directory-lives s.entries d is)

  -- a number at which a test of its entry passes
  tested-fits : (n : ℕ) (p : Body → Bool) → option_map_or p (body_at s.entries n) false ≡ true → (num s.version).fits n ≡ true
  tested-fits n p passes =
      elim (entry_at s.entries n) as (λ o. entry_at s.entries n ≡ o → option_map_or p (option_map (λ (e : Entry). e.body) o) false ≡ true → (num s.version).fits n ≡ true) [
        | None ↦ (λ found passes. absurd cc)
        | Some e ↦ (λ found passes. number-fits n (inr (e, found)))
      ] refl passes

  -- a query that may be asked
  pub query-fits : (q : Formula ℕ) → may_ask s q ≡ true → (query_field s.version).fits q ≡ true
  query-fits q may =
      let asks = and_parts (is_query q) (are_directories s (named_in q)) may in
      and_from (is_query q) (are_nums s.version q) asks.0 (nums-fit q asks.1)
    where
      both-fit : (left right : Formula ℕ) → (are_directories s (named_in left) ≡ true → are_nums s.version left ≡ true) → (are_directories s (named_in right) ≡ true → are_nums s.version right ≡ true)
          → are_directories s (named_in left ++ named_in right) ≡ true → (are_nums s.version left && are_nums s.version right) ≡ true
      both-fit left right one other named =
          let dirs = and_parts (are_directories s (named_in left)) (are_directories s (named_in right)) (sym (list_all-append (λ d. is_directory_at s.entries d) (named_in left) (named_in right)) ∙ named) in
          and_from (are_nums s.version left) (are_nums s.version right) (one dirs.0) (other dirs.1)

      nums-fit : (q : Formula ℕ) → are_directories s (named_in q) ≡ true → are_nums s.version q ≡ true
      nums-fit (formula.Term term) named = refl
      nums-fit (formula.Dir dir) named = directory-fits dir (and_parts (is_directory_at s.entries dir) true named).0
      nums-fit (formula.Not q) named = nums-fit q named
      nums-fit (formula.And left right) named = both-fit left right (nums-fit left) (nums-fit right) named
      nums-fit (formula.Or left right) named = both-fit left right (nums-fit left) (nums-fit right) named

  pub text-fits : (text : List ℕ) → is_text text ≡ true → text_field.fits text ≡ true
  text-fits text is = and_from (nat_le (length text) TEXT_LIMIT) true is refl

  -- a place that is free
  place-fits : (dir : ℕ) (name : List ℕ) → is_free s dir name ≡ true → ((num s.version).fits dir ≡ true) × (name_field.fits name ≡ true)
  place-fits dir name free = let parts = free-parts s dir name free in (directory-fits dir parts.0, name-fits name parts.1)

  mark-fits : (dir item : ℕ) (kind : Kind) → may_mark s dir item kind ≡ true → mark_field.fits kind ≡ true
  mark-fits dir item Transient may = absurd cc
  mark-fits dir item Permanent may = refl
  mark-fits dir item Prohibited may = refl
  mark-fits dir item Unlinked may = refl

  there-fits : (n : ℕ) → is_some (entry_at s.entries n) ≡ true → (num s.version).fits n ≡ true
  there-fits n there =
      elim (entry_at s.entries n) as (λ o. entry_at s.entries n ≡ o → is_some o ≡ true → (num s.version).fits n ≡ true) [
        | None ↦ (λ found there. absurd cc)
        | Some e ↦ (λ found there. number-fits n (inr (e, found)))
      ] refl there

  semantic-fits : (n : ℕ) → is_semantic s n ≡ true → (num s.version).fits n ≡ true
  semantic-fits n is =
      elim (entry_at s.entries n) as (λ o. entry_at s.entries n ≡ o → is_some (query_of o) ≡ true → (num s.version).fits n ≡ true) [
        | None ↦ (λ found is. absurd cc)
        | Some e ↦ (λ found is. number-fits n (inr (e, found)))
      ] refl is
    where
      query_of : Option Entry → Option (Formula ℕ)
      query_of o = option_and_then query_in (option_map (λ (e : Entry). e.body) o)

  -- what can have a mark has a number that fits
  added-fits : (n : ℕ) → can_be_added s n ≡ true → (num s.version).fits n ≡ true
  added-fits n can = elim (or_cases (is_item s n) (is_directory_at s.entries n) can) [
    | inl item ↦ tested-fits n is_linkable item
    | inr dir ↦ number-fits n (directory-lives s.entries n dir)
  ]

  marked-fits : (n : ℕ) (kind : Kind) → can_have_mark s n kind ≡ true → (num s.version).fits n ≡ true
  marked-fits n Prohibited can = tested-fits n is_linkable can
  marked-fits n Permanent can = added-fits n can
  marked-fits n Transient can = added-fits n can
  marked-fits n Unlinked can = added-fits n can

  possible-spelled : (e : Event) → is_stored e ≡ true → is_possible s e ≡ true → passed_limit (apply s e) ≡ None → is_spellable s.version e ≡ true
  unfolding is_spellable
  possible-spelled (Mkdir dir name) kept is limits = let place = place-fits dir name is in and_from ((num s.version).fits dir) (name_field.fits name) place.0 place.1
  possible-spelled (NewFile dir name text) kept is limits =
      let parts = and_parts (is_free s dir name) (is_text text) is in
      let place = place-fits dir name parts.0 in
      and_from ((num s.version).fits dir) _ place.0 (and_from (name_field.fits name) (text_field.fits text) place.1 (text-fits text parts.1))
  possible-spelled (Ln dir name target) kept is limits =
      let parts = and_parts (is_free s dir name) (is_target target) is in
      let place = place-fits dir name parts.0 in
      and_from ((num s.version).fits dir) _ place.0 (and_from (name_field.fits name) (target_field.fits target) place.1 parts.1)
  possible-spelled (Rewrite file text) kept is limits =
      let parts = and_parts (is_file_at s.entries file) (is_text text) is in
      and_from ((num s.version).fits file) (text_field.fits text) (tested-fits file is_file parts.0) (text-fits text parts.1)
  possible-spelled (Smkdir dir name query told) kept is limits =
      let parts = smkdir-parts s dir name query told is in
      let place = place-fits dir name parts.0 in
      and_from ((num s.version).fits dir) _ place.0 (and_from (name_field.fits name) _ place.1 (and_from ((query_field s.version).fits query) ((told_field s.version).fits told) (query-fits query parts.1) (all-told-fit s query told h parts.1 parts.2)))
  possible-spelled (Setq dir query told) kept is limits =
      let parts = setq-parts s dir query told is in
      and_from ((num s.version).fits dir) _ (tested-fits dir is_directory parts.0) (and_from ((query_field s.version).fits query) ((told_field s.version).fits told) (query-fits query parts.1) (all-told-fit s query told h parts.1 parts.3))
  possible-spelled (Unq dir) kept is limits = semantic-fits dir is
  possible-spelled (Mark set) kept is limits =
      let parts = mark-parts s set.dir set.item set.kind is in
      and_from ((num s.version).fits set.dir) _ (semantic-fits set.dir parts.1) (and_from ((num s.version).fits set.item) (mark_field.fits set.kind) (marked-fits set.item set.kind parts.0) (mark-fits set.dir set.item set.kind parts.2))
  possible-spelled (Mv entry dir name) kept is limits =
      let parts = move-parts s entry dir name is in
      let place = place-fits dir name parts.1 in
      and_from ((num s.version).fits entry) _ (there-fits entry parts.0) (and_from ((num s.version).fits dir) (name_field.fits name) place.0 place.1)
  possible-spelled (Rm entry) kept is limits = tested-fits entry is_leaf is
  possible-spelled (Rmdir dir) kept is limits = tested-fits dir is_directory (rmdir-parts s dir is).0
  possible-spelled Step kept is limits = refl
  possible-spelled (Smount dir name space docs told) kept is limits =
      let parts = smount-parts s dir name space docs told is in
      let place = place-fits dir name parts.0 in
      let t : State = apply s (Smount dir name space docs told) in
      let tree : IsLayout t = mounted-layout s dir name space (answers_to (terms_to_ask s.entries) told) docs h.layout parts.0 parts.1 parts.2 limits in
      and_from ((num s.version).fits dir) _ place.0
      (and_from (name_field.fits name) _ place.1
      (and_from (space_field.fits space) _ (space-fits space parts.1) (and_from ((docs_field s.version).fits docs) ((told_field s.version).fits told) (docs-fit s.version docs parts.2 parts.5) (told-fit s t s.next told h tree parts.3))))
  possible-spelled (Ssync mount docs told) kept is limits =
      let parts = ssync-parts s mount docs told is in
      let t : State = apply s (Ssync mount docs told) in
      let tree : IsLayout t = synced-layout s mount (answers_to (terms_to_ask s.entries) told) docs h.layout parts.0 parts.1 limits in
      and_from ((num s.version).fits mount) _ (tested-fits mount is_mount parts.0)
      (and_from ((docs_field s.version).fits docs) ((told_field s.version).fits told) (docs-fit s.version docs parts.1 parts.4) (told-fit s t mount told h tree parts.2))
  possible-spelled (Sumount mount) kept is limits = tested-fits mount is_mount (sumount-parts s mount is).0
  possible-spelled (Cd session dir) kept is limits = absurd cc

pub accepted-spelled : (s : State) (e : Event) → IsValid s → IsTrue (is_stored e) → IsTrue (accepted s e) → IsTrue (is_spellable s.version e)
accepted-spelled s e h kept is =
    let parts = accepted-parts (is_possible s e) (passed_limit (apply s e)) is in
    possible-spelled s h e kept parts.0 parts.1

-- Where sessions stand plays no part in what is stored.

-- what is stored of a valid state is valid
pub sessionless-valid : (s : State) → IsValid s → IsValid (sessionless s)
unfolding passed_limit
sessionless-valid s h = record {
  layout = record {
    numbers = h.layout.numbers;
    names = h.layout.names;
    places = h.layout.places;
    differ = h.layout.differ;
    bodies = h.layout.bodies;
    limits = h.layout.limits;
  };
  queries = all-weaker (λ e. AsksWell s e.body) (λ e. AsksWell (sessionless s) e.body) s.entries (λ e asks. asks-stays s (sessionless s) e.body (λ d there. there) (λ n there. there) asks) h.queries;
  few = h.few;
  answers = all-weaker (λ e. KeepsWell s e.number e.body) (λ e. KeepsWell (sessionless s) e.number e.body) s.entries (λ e keeps. keeps-stays s (sessionless s) e.number e.body (λ m n document. document) (λ m few. few) (λ m answers terms. terms) keeps) h.answers;
  acyclic = h.acyclic;
  sessions = record { names = tt; differ = tt; there = tt; elsewhere = tt; few = none-few s.version };
}

-- a state without its sessions, in a store of a version
abbrev kept_in : Version → State → State
kept_in version s = record s { version = version; sessions = [] }

-- what a store of one version may hold, one of another may hold too
record Allows (one two : Version) : Type 0 where
  docs : (documents : List (List ℕ)) → are_documents_few one documents ≡ true → are_documents_few two documents ≡ true
  limits : (s : State) → s.version ≡ one → passed_limit s ≡ None → passed_limit (kept_in two s) ≡ None

allows-same : (version : Version) → Allows version version
unfolding passed_limit
allows-same version = record {
  docs = λ documents few. few;
  limits = λ s is passed. subst (λ (v : Version). passed_limit (kept_in v s) ≡ None) is passed;
}

allows-two : (version : Version) → Allows version Two
unfolding passed_limit
allows-two version = record {
  docs = λ documents few. few-any version (length documents) few;
  limits = λ s is passed. raised-limits s passed;
}

module _ (s : State) (version : Version) (allows : Allows s.version version) where
  reaching-stored : (dir : ℕ) (others : List ℕ) → first_reaching (kept_in version s) dir others ≡ first_reaching s dir others
  unfolding first_reaching reaches
  reaching-stored dir [] = refl
  reaching-stored dir (other ∷ others) = ap (λ (o : Option ℕ). if reaches s other dir then Some other else o) (reaching-stored dir others)

  moving-stored : (entry dir : ℕ) (o : Option (Formula ℕ)) → option_and_then (cycle_over (kept_in version s) entry dir) o ≡ option_and_then (cycle_over s entry dir) o
  moving-stored entry dir None = refl
  moving-stored entry dir (Some query) = reaching-stored entry (dir ∷ named_in query)

  linking-stored : (dir item : ℕ) (kind : Kind) → cycle_of_mark (kept_in version s) dir item kind ≡ cycle_of_mark s dir item kind
  linking-stored dir item Permanent = ap (λ (o : Option ℕ). if is_directory_at s.entries item then o else None) (reaching-stored dir (item ∷ []))
  linking-stored dir item Prohibited = refl
  linking-stored dir item Unlinked = refl
  linking-stored dir item Transient = refl

  rounds-stored : (n : ℕ) → rounds n (kept_in version s) ≡ rounds n s
  unfolding path_of
  rounds-stored zero = refl
  rounds-stored (suc n) = ap (round s) (rounds-stored n)

  links-stored : links (kept_in version s) ≡ links s
  unfolding links
  links-stored = rounds-stored (semantic_count s.entries)

  marking-stored : (dir item : ℕ) (kind : Kind) → may_mark (kept_in version s) dir item kind ≡ may_mark s dir item kind
  marking-stored dir item Permanent = refl
  marking-stored dir item Prohibited = ap (λ (known : ℕ → DirLinks). is_permanent s dir item || has (known dir).found item) links-stored
  marking-stored dir item Unlinked = refl
  marking-stored dir item Transient = refl

  -- what refers to what is there does so in such a store, where documents aren't too many for it
  placed-stored : (e : Event) → is_placed s e ≡ true → is_placed (kept_in version s) e ≡ true
  unfolding path_of
  placed-stored (Smount dir name space documents told) placed =
      let new = mounted s dir name space (answers_to (terms_to_ask s.entries) told) documents in
      let parts = and_parts (is_free s dir name && is_space_name space && are_documents documents && are_told new s.next (terms_to_ask s.entries) told) (are_documents_few s.version documents) placed in
      and_from (is_free s dir name && is_space_name space && are_documents documents && are_told new s.next (terms_to_ask s.entries) told) (are_documents_few version documents) parts.0 (allows.docs documents parts.1)
  placed-stored (Ssync mount documents told) placed =
      let new = synced s mount (answers_to (terms_to_ask s.entries) told) documents in
      let parts = and_parts (is_mount_at s.entries mount && are_documents documents && are_told new mount (terms_to_ask s.entries) told) (are_documents_few s.version documents) placed in
      and_from (is_mount_at s.entries mount && are_documents documents && are_told new mount (terms_to_ask s.entries) told) (are_documents_few version documents) parts.0 (allows.docs documents parts.1)
  placed-stored other placed = placed

  -- what is clear with sessions is clear without
  clear-stored : (e : Event) → is_stored e ≡ true → is_clear s e ≡ true → is_clear (kept_in version s) e ≡ true
  clear-stored (Smkdir dir name query told) kept clear = clear
  clear-stored (Setq dir query told) kept clear = ap (λ (o : Option ℕ). is_none o && are_answers_few (with_told query told s).entries) (reaching-stored dir (parent_of s dir ∷ named_in query)) ∙ clear
  clear-stored (Mark mark) kept clear = (λ i. marking-stored mark.dir mark.item mark.kind i && is_none (linking-stored mark.dir mark.item mark.kind i)) ∙ clear
  clear-stored (Mv entry dir name) kept clear = ap (λ (o : Option ℕ). is_none o) (moving-stored entry dir (query_at s entry)) ∙ clear
  clear-stored (Rmdir dir) kept clear = and_from (is_unreferenced s dir) true (and_parts (is_unreferenced s dir) (not (is_busy s.sessions dir)) clear).0 refl
  clear-stored (Smount dir name space documents told) kept clear = clear
  clear-stored (Ssync mount documents told) kept clear = clear
  clear-stored (Sumount mount) kept clear = and_from (is_unreferenced s mount) true (and_parts (is_unreferenced s mount) (not (is_busy s.sessions mount)) clear).0 refl
  clear-stored (Cd session dir) kept clear = absurd cc
  clear-stored other kept clear = refl

  passed-stored : (e : Event) → is_stored e ≡ true → passed_limit (apply s e) ≡ None → passed_limit (apply (kept_in version s) e) ≡ None
  passed-stored Step kept passed = stepped (next_dirty s.entries) passed
    where
      stepped : (o : Option ℕ) → passed_limit (option_map_or (λ file. changed_at s file (edited indexed)) o s) ≡ None
          → passed_limit (option_map_or (λ file. changed_at (kept_in version s) file (edited indexed)) o (kept_in version s)) ≡ None
      stepped None passed = allows.limits s refl passed
      stepped (Some file) passed = allows.limits (changed_at s file (edited indexed)) refl passed
  passed-stored (Cd session dir) kept passed = absurd cc
  passed-stored other kept passed = allows.limits (apply s other) refl passed

  applied-stored : (e : Event) → is_stored e ≡ true → kept_in version (apply s e) ≡ apply (kept_in version s) e
  applied-stored Step kept = elim (next_dirty s.entries) as (λ o. kept_in version (option_map_or (λ file. changed_at s file (edited indexed)) o s) ≡ option_map_or (λ file. changed_at (kept_in version s) file (edited indexed)) o (kept_in version s)) [ None ↦ refl | Some file ↦ refl ]
  applied-stored (Cd session dir) kept = absurd cc
  applied-stored other kept = refl

  happens-stored : (e : Event) → IsTrue (is_stored e) → IsTrue (accepted s e) → IsTrue (accepted (kept_in version s) e)
  happens-stored e kept is =
      let parts = accepted-parts (is_possible s e) (passed_limit (apply s e)) is in
      let possible = and_parts (is_clear s e) (is_placed s e) parts.0 in
      and_from (is_possible (kept_in version s) e) (is_none (passed_limit (apply (kept_in version s) e)))
      (and_from (is_clear (kept_in version s) e) (is_placed (kept_in version s) e) (clear-stored e kept possible.0) (placed-stored e possible.1))
      (ap (λ (o : Option LimitWord). is_none o) (passed-stored e kept parts.1))

-- in a store of the same version
pub not-stored : (s : State) (e : Event) → IsValid s → IsTrue (is_stored e) → IsTrue (accepted s e) → IsTrue (accepted (sessionless s) e) × (sessionless (apply s e) ≡ apply (sessionless s) e)
not-stored s e h kept is = (
  happens-stored s s.version (allows-same s.version) e kept is,
  subst (λ (v : Version). kept_in v (apply s e) ≡ apply (sessionless s) e) (sym (apply-version s e)) (applied-stored s s.version (allows-same s.version) e kept),
)

-- and in one of version 2
pub stored-follows : (s : State) (e : Event) → IsTrue (is_stored e) → IsTrue (accepted s e) → IsTrue (accepted (stored s) e) × (stored (apply s e) ≡ apply (stored s) e)
stored-follows s e kept is = (happens-stored s Two (allows-two s.version) e kept is, applied-stored s Two (allows-two s.version) e kept)
