-- What events owe that add, edit or remove one entry.
use Rattle.std.proofs.Common.{◌≡◌, ℕ, Bool, true, false, List, map, refl, ap, sym, ◌∙◌}
use Rattle.std.specs.Prelude.{◌==◌, ◌&&◌, if◌then◌else◌, not, Option, Some, None, IsTrue, is_some}
use Rattle.std.specs.Option.{option_map, option_map_or}
use Rattle.std.proofs.lemmas.Bool.{ne_eqb, or_right}
use Rattle.hac_model.specs.Tree.Events.{accepted, added, apply, changed_at, edited, forgetting, forgotten, indexed, is_possible, next_dirty, plain_body, removed, rewritten, without}
use Rattle.hac_model.specs.Tree.Facts.{Facts, facts_after, facts_of, no_facts, put_at}
use Rattle.hac_model.specs.Tree.Limits.{passed_limit}
use Rattle.hac_model.specs.Tree.Links.{has, is_item, is_semantic, query_at}
use Rattle.hac_model.specs.Tree.Mounting.{is_document_of}
use Rattle.hac_model.specs.Tree.Mounts.{kept_for}
use Rattle.hac_model.specs.Tree.Touched.{touches}
use Rattle.hac_model.specs.Tree.Valid.{IsLayout, IsValid}
use Rattle.hac_model.specs.Tree.{entry_at, is_directory_at, is_leaf, is_leaf_at, is_made_directory, is_mount, is_mount_at, query_in}
use Rattle.hac_model.specs.declared.events.Event.TheVariants as event
use Rattle.hac_model.specs.declared.states.Body.{Body}
use Rattle.hac_model.specs.declared.states.Body.TheVariants.{File, Dir, Symlink, Semantic, Mount, Document}
use Rattle.hac_model.specs.declared.states.Entry.{Entry}
use Rattle.hac_model.specs.declared.states.State.{State}
use Rattle.hac_model.proofs.AcyclicLemmas.{apply-valid}
use Rattle.hac_model.proofs.PathLemmas.{root-none}
use Rattle.hac_model.proofs.TreeLemmas.{directory-no_item}
use Rattle.hac_model.proofs.MapLemmas.{entry_at-mapped}
use Rattle.hac_model.proofs.MarkLemmas.{has-filter}
use Rattle.hac_model.proofs.ValidLemmas.{accepted-parts, rmdir-parts}
use Rattle.hac_model.proofs.ViewLemmas.{put-same, seen-added, seen-changed, seen-kept, seen-plain, seen-removed}
use Rattle.reeval.proofs.EventLemmas.{Owes, item_in, owed-below, query_of, same-facts, unseen}
use Rattle.reeval.proofs.OweLemmas.{AllStayIn, added-stay, all-parents, edited-stay, forgetting-item, forgetting-query, indexed-query, none-of, own-mount, parents-then, plain-item, put-other, rewritten-item}
use Rattle.reeval.proofs.StayLemmas.{ParentsStay}
use Rattle.hac_model.proofs.AskLemmas.{rewritten-query}

-- all entries stay where nothing changes
same-stay : (s : State) → AllStayIn s s
same-stay s n e found = record { entry = e; found = found; parent = refl }

module _ (s : State) (item : ℕ) (h : IsValid s) where
  pub mkdir-owes : (dir : ℕ) (name : List ℕ) → IsTrue (accepted s (event.Mkdir dir name)) → Owes s (event.Mkdir dir name) item
  mkdir-owes dir name ok =
      let new : Entry = record { number = s.next; parent = dir; name = name; body = Dir } in
      record {
        sight = sym (seen-plain item_in s.entries new h.layout.numbers refl item);
        queries = λ d still. sym (seen-plain query_of s.entries new h.layout.numbers refl d);
        facts = λ is d still. same-facts item (facts_of s d) (facts_of s d) refl;
        answers = λ mount own term known. refl;
        below = owed-below s (added s dir name Dir) item h (apply-valid s (event.Mkdir dir name) h ok) (all-parents s (added s dir name Dir) (added-stay s dir name Dir));
      }

  pub new_file-owes : (dir : ℕ) (name text : List ℕ) → IsTrue (accepted s (event.NewFile dir name text)) → touches s (event.NewFile dir name text) item ≡ false → Owes s (event.NewFile dir name text) item
  new_file-owes dir name text ok other =
      let new : Entry = record { number = s.next; parent = dir; name = name; body = File text true None } in
      record {
        sight = put-other (λ n. item_in (entry_at s.entries n)) s.next (item_in (Some new)) item other ∙ sym (seen-added item_in s.entries new h.layout.numbers item);
        queries = λ d still. sym (seen-plain query_of s.entries new h.layout.numbers refl d);
        facts = λ is d still. same-facts item (facts_of s d) (facts_of s d) refl;
        answers = λ mount own term known. refl;
        below = owed-below s (added s dir name new.body) item h (apply-valid s (event.NewFile dir name text) h ok) (all-parents s (added s dir name new.body) (added-stay s dir name new.body));
      }

  pub rewrite-owes : (file : ℕ) (text : List ℕ) → IsTrue (accepted s (event.Rewrite file text)) → Owes s (event.Rewrite file text) item
  rewrite-owes file text ok = record {
    sight = sym (seen-kept item_in s.entries file (edited (rewritten text)) (λ e. refl) (λ e. rewritten-item text e.parent e.body) item);
    queries = λ d still. sym (seen-kept query_of s.entries file (edited (rewritten text)) (λ e. refl) (λ e. rewritten-query text e.body) d);
    facts = λ is d still. same-facts item (facts_of s d) (facts_of s d) refl;
    answers = λ mount own term known. refl;
    below = owed-below s (changed_at s file (edited (rewritten text))) item h (apply-valid s (event.Rewrite file text) h ok)
        (all-parents s (changed_at s file (edited (rewritten text))) (edited-stay s file (rewritten text)));
  }

  pub ln-owes : (dir : ℕ) (name target : List ℕ) → IsTrue (accepted s (event.Ln dir name target)) → Owes s (event.Ln dir name target) item
  ln-owes dir name target ok =
      let new : Entry = record { number = s.next; parent = dir; name = name; body = Symlink target } in
      record {
        sight = sym (seen-plain item_in s.entries new h.layout.numbers refl item);
        queries = λ d still. sym (seen-plain query_of s.entries new h.layout.numbers refl d);
        facts = λ is d still. same-facts item (facts_of s d) (facts_of s d) refl;
        answers = λ mount own term known. refl;
        below = owed-below s (added s dir name new.body) item h (apply-valid s (event.Ln dir name target) h ok) (all-parents s (added s dir name new.body) (added-stay s dir name new.body));
      }

  pub cd-owes : (session : List ℕ) (dir : ℕ) → IsTrue (accepted s (event.Cd session dir)) → Owes s (event.Cd session dir) item
  cd-owes session dir ok = record {
    sight = refl;
    queries = λ d still. refl;
    facts = λ is d still. same-facts item (facts_of s d) (facts_of s d) refl;
    answers = λ mount own term known. refl;
    below = owed-below s (apply s (event.Cd session dir)) item h (apply-valid s (event.Cd session dir) h ok) (all-parents s (apply s (event.Cd session dir)) (λ n e found. record { entry = e; found = found; parent = refl }));
  }

  -- A step.

  abbrev stepped : Option ℕ → State
  stepped o = option_map_or (λ file. changed_at s file (edited indexed)) o s

  step-sight : (o : Option ℕ) → option_map_or (λ file. item == file) o false ≡ false → item_in (entry_at s.entries item) ≡ item_in (entry_at (stepped o).entries item)
  step-sight None other = refl
  step-sight (Some file) other =
      put-other (λ n. item_in (entry_at s.entries n)) file (item_in (option_map (edited indexed) (entry_at s.entries file))) item other
      ∙ sym (seen-changed item_in s.entries file (edited indexed) (λ e. refl) item)

  step-queries : (o : Option ℕ) (d : ℕ) → query_at s d ≡ query_at (stepped o) d
  step-queries None d = refl
  step-queries (Some file) d = sym (seen-kept query_of s.entries file (edited indexed) (λ e. refl) (λ e. indexed-query e.body) d)

  step-stay : (o : Option ℕ) → AllStayIn s (stepped o)
  step-stay None = same-stay s
  step-stay (Some file) = edited-stay s file indexed

  pub step-owes : IsTrue (accepted s event.Step) → touches s event.Step item ≡ false → Owes s event.Step item
  step-owes ok other = record {
    sight = step-sight (next_dirty s.entries) other;
    queries = λ d still. step-queries (next_dirty s.entries) d;
    facts = λ is d still. same-facts item (facts_of s d) (facts_of s d) refl;
    answers = λ mount own term known. refl;
    below = owed-below s (apply s event.Step) item h (apply-valid s event.Step h ok) (all-parents s (apply s event.Step) (step-stay (next_dirty s.entries)));
  }

-- Entries that go.

-- a directory isn't seen as an item
pub directory-unseen : (s : State) (d : ℕ) → IsLayout s → is_directory_at s.entries d ≡ true → item_in (entry_at s.entries d) ≡ None
directory-unseen s d h there = unseen (entry_at s.entries d) (directory-no_item s.entries d (root-none s h) there)

-- a leaf has no query
leaf-asks_nothing : (s : State) (n : ℕ) → is_leaf_at s.entries n ≡ true → query_at s n ≡ None
leaf-asks_nothing s n is = at (entry_at s.entries n) is
  where
    body : (b : Body) → is_leaf b ≡ true → query_in b ≡ None
    body (File text dirty shown) is = refl
    body Dir is = absurd cc
    body (Symlink target) is = refl
    body (Semantic asked permanent prohibited) is = absurd cc
    body (Mount space answers) is = absurd cc
    body Document is = absurd cc

    at : (o : Option Entry) → option_map_or is_leaf (option_map (λ (e : Entry). e.body) o) false ≡ true → query_of o ≡ None
    at None is = refl
    at (Some e) is = body e.body is

removed-parents : (s : State) (k : ℕ) → ParentsStay s (removed s k)
removed-parents s k n e f before after = at (n == k) refl (sym (seen-removed (λ (o : Option Entry). o) s.entries k n) ∙ after)
  where
    at : (b : Bool) → (n == k) ≡ b → (if n == k then None else entry_at s.entries n) ≡ Some f → f.parent ≡ e.parent
    at true is there = let never : None ≡ Some f = sym (ap (λ (b : Bool). if b then None else entry_at s.entries n) is) ∙ there in absurd cc
    at false is there =
        let same : Some e ≡ Some f = sym before ∙ sym (ap (λ (b : Bool). if b then None else entry_at s.entries n) is) ∙ there in
        let even : e ≡ f = cc in ap (λ (x : Entry). x.parent) (sym even)

-- bodies that are edited keep entries where they are
pub mapped-stay : (u t : State) (edit : Body → Body) → t.entries ≡ map (edited edit) u.entries → AllStayIn u t
mapped-stay u t edit is n e found = record {
  entry = edited edit e;
  found = ap (λ (es : List Entry). entry_at es n) is ∙ entry_at-mapped edit u.entries n ∙ ap (option_map (edited edit)) found;
  parent = refl;
}

-- other numbers stay in a list without one
pub has-other : (k : ℕ) (xs : List ℕ) (n : ℕ) → (n == k) ≡ false → has xs n ≡ has (without k xs) n
has-other k xs n other = sym (has-filter (λ x. not (x == k)) xs n ∙ ap (λ (b : Bool). not b && has xs n) other)

module _ (s : State) (item : ℕ) (h : IsValid s) where
  pub rm-owes : (leaf : ℕ) → IsTrue (accepted s (event.Rm leaf)) → touches s (event.Rm leaf) item ≡ false → Owes s (event.Rm leaf) item
  rm-owes leaf ok other = record {
    sight =
        gone (is_item s item) refl
        ∙ sym (seen-removed item_in s.entries leaf item)
        ∙ sym (kept item_in (λ e. forgetting-item leaf e.parent e.body) item);
    queries = λ d still.
        sym (put-same (query_at s) leaf None d (sym (leaf-asks_nothing s leaf (accepted-parts (is_leaf_at s.entries leaf) (passed_limit (apply s (event.Rm leaf))) ok).0)))
        ∙ sym (seen-removed query_of s.entries leaf d)
        ∙ sym (kept query_of (λ e. forgetting-query leaf e.body) d);
    facts = λ is d still. record {
      edges = refl;
      added = has-other leaf (facts_of s d).marks.permanent item (apart is);
      removed = has-other leaf (facts_of s d).marks.prohibited item (apart is);
    };
    answers = λ mount own term known. refl;
    below = owed-below s t item h (apply-valid s (event.Rm leaf) h ok) (parents-then s u t h.layout (removed-parents s leaf) (mapped-stay u t (forgetting leaf) refl)
        (λ n low none. entry_at-mapped (forgetting leaf) u.entries n ∙ ap (option_map (edited (forgetting leaf))) none));
  }
    where
      u : State
      u = removed s leaf

      t : State
      t = forgotten (removed s leaf) leaf

      -- an item is another one than the leaf
      apart : is_item s item ≡ true → (item == leaf) ≡ false
      apart is = at (item == leaf) (ap (λ (b : Bool). (item == leaf) && b) (sym is) ∙ other)
        where
          at : (b : Bool) → (b && true) ≡ false → b ≡ false
          at true never = absurd cc
          at false out = refl

      -- and what is none isn't seen, whether it goes or not
      gone : (b : Bool) → is_item s item ≡ b → item_in (entry_at s.entries item) ≡ put_at (λ n. item_in (entry_at s.entries n)) leaf None item
      gone true is = put-other (λ n. item_in (entry_at s.entries n)) leaf None item (apart is)
      gone false plain = at (item == leaf) (unseen (entry_at s.entries item) plain)
        where
          at : (b : Bool) → item_in (entry_at s.entries item) ≡ None → item_in (entry_at s.entries item) ≡ (if b then None else item_in (entry_at s.entries item))
          at true none = none
          at false none = refl

      kept : {X : Type 0} (view : Option Entry → X) → ((e : Entry) → view (Some (edited (forgetting leaf) e)) ≡ view (Some e)) → (n : ℕ) → view (entry_at t.entries n) ≡ view (entry_at u.entries n)
      kept view same n = ap view (entry_at-mapped (forgetting leaf) u.entries n) ∙ at (entry_at u.entries n)
        where
          at : (o : Option Entry) → view (option_map (edited (forgetting leaf)) o) ≡ view o
          at None = refl
          at (Some e) = same e

  -- a mount is another number than what is none
  pub apart-mount : (mount d : ℕ) → is_document_of s mount item ≡ true → is_mount_at s.entries d ≡ false → (mount == d) ≡ false
  apart-mount mount d own plain = ne_eqb mount d (λ same. let never : true ≡ false = sym (own-mount s mount item h own) ∙ ap (is_mount_at s.entries) same ∙ plain in cc)

  pub rmdir-owes : (dir : ℕ) → IsTrue (accepted s (event.Rmdir dir)) → Owes s (event.Rmdir dir) item
  rmdir-owes dir ok =
      let parts = rmdir-parts s dir (accepted-parts (is_possible s (event.Rmdir dir)) (passed_limit (apply s (event.Rmdir dir))) ok).0 in
      record {
        sight = sym (put-same (λ n. item_in (entry_at s.entries n)) dir None item (sym (directory-unseen s dir h.layout (or_right (dir == 0) (is_made_directory s.entries dir) parts.0)))) ∙ sym (seen-removed item_in s.entries dir item);
        queries = λ d still. put-other (query_at s) dir None d (none-of false false (d == dir) still).2 ∙ sym (seen-removed query_of s.entries dir d);
        facts = λ is d still. same-facts item (facts_of s d) (facts_after (event.Rmdir dir) s (facts_of s) d) (put-other (facts_of s) dir no_facts d (none-of false false (d == dir) still).2);
        answers = λ mount own term known. ap (λ (f : Facts). kept_for f.answers term) (put-other (facts_of s) dir no_facts mount (apart-mount mount dir own parts.4));
        below = owed-below s (removed s dir) item h (apply-valid s (event.Rmdir dir) h ok) (removed-parents s dir);
      }

  -- a semantic directory is no mount
  asking-no_mount : (d : ℕ) → is_semantic s d ≡ true → is_mount_at s.entries d ≡ false
  asking-no_mount d is = at (entry_at s.entries d) is
    where
      body : (b : Body) → is_some (query_in b) ≡ true → is_mount b ≡ false
      body (File text dirty shown) is = absurd cc
      body Dir is = absurd cc
      body (Symlink target) is = absurd cc
      body (Semantic asked permanent prohibited) is = refl
      body (Mount space answers) is = absurd cc
      body Document is = absurd cc

      at : (o : Option Entry) → is_some (query_of o) ≡ true → option_map_or is_mount (option_map (λ (e : Entry). e.body) o) false ≡ false
      at None is = absurd cc
      at (Some e) is = body e.body is

  pub unq-owes : (dir : ℕ) → IsTrue (accepted s (event.Unq dir)) → Owes s (event.Unq dir) item
  unq-owes dir ok =
      let semantic = (accepted-parts (is_semantic s dir) (passed_limit (apply s (event.Unq dir))) ok).0 in
      record {
        sight = sym (seen-kept item_in s.entries dir (edited plain_body) (λ e. refl) (λ e. plain-item e.parent e.body) item);
        queries = λ d still. put-other (query_at s) dir (query_of (option_map (edited plain_body) (entry_at s.entries dir))) d (none-of (d == dir) false false still).0
            ∙ sym (seen-changed query_of s.entries dir (edited plain_body) (λ e. refl) d);
        facts = λ is d still. same-facts item (facts_of s d) (facts_after (event.Unq dir) s (facts_of s) d) (put-other (facts_of s) dir no_facts d (none-of (d == dir) false false still).0);
        answers = λ mount own term known. ap (λ (f : Facts). kept_for f.answers term) (put-other (facts_of s) dir no_facts mount (apart-mount mount dir own (asking-no_mount dir semantic)));
        below = owed-below s (changed_at s dir (edited plain_body)) item h (apply-valid s (event.Unq dir) h ok) (all-parents s (changed_at s dir (edited plain_body)) (edited-stay s dir plain_body));
      }
