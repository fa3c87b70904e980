-- Events keep a tree one.
use Rattle.std.proofs.Common.{◌≡◌, ℕ, ◌<◌, inl, inr, Bool, true, false, List, [], ◌∷◌, refl, ap, sym, ◌∙◌, arith}
use Rattle.std.specs.Prelude.{◌&&◌, ◌==◌, if◌then◌else◌, not, Option, Some, None, IsTrue, is_none, is_some}
use Rattle.std.specs.Option.{option_map, option_map_or}
use Rattle.std.specs.List.{AllByRecursion}
use Rattle.std.proofs.lemmas.Bool.{and_from, and_parts, eqb-false, eqb-true, not-true}
use Rattle.hac_model.specs.Tree.Asking.{are_all_told, with_told}
use Rattle.hac_model.specs.Tree.Events.{added, asking, can_have_mark, changed_in, changed_at, edited, forgetting, forgotten, indexed, is_empty_at, is_free, is_inside, is_made_holder, is_possible, is_unreferenced, marked, may_ask, may_mark, plain_body, removed, reseated, rewritten, is_placed, is_vacant}
use Rattle.hac_model.specs.Tree.Depends.{cycle_of_mark, cycle_of_move, cycle_over}
use Rattle.hac_model.specs.Query.Formula.{Formula}
use Rattle.hac_model.specs.Tree.Limits.{are_answers_few, first_passed, is_text, passed_limit, file_bytes}
use Rattle.hac_model.specs.Tree.Links.{is_semantic, parent_of}
use Rattle.hac_model.specs.Tree.Names.{is_name}
use Rattle.hac_model.specs.Tree.Sessions.{is_busy}
use Rattle.hac_model.specs.Tree.{child, empty, entry_at, is_directory, is_directory_at, is_document, is_document_at, is_file, is_holder_at, is_leaf_at, is_linkable, is_made_directory, is_mount, is_mount_at, is_symlink, query_in}
use Rattle.hac_model.specs.Tree.Valid.{IsLayout, IsSound, NumbersRise, is_in_place}
use Rattle.hac_model.specs.declared.events.Event.TheVariants.{Mark, Mv, Rmdir, Setq, Smkdir}
use Rattle.hac_model.specs.declared.limits.LimitWord.{LimitWord}
use Rattle.hac_model.specs.declared.marks.Kind.{Kind}
use Rattle.hac_model.specs.declared.marks.Kind.TheVariants.{Transient, Permanent, Prohibited, Unlinked}
use Rattle.hac_model.specs.declared.states.Body.{Body}
use Rattle.hac_model.specs.declared.states.Body.TheVariants.{File, Dir, Semantic}
use Rattle.hac_model.specs.declared.states.Entry.{Entry}
use Rattle.hac_model.specs.declared.states.State.{State}
use Rattle.hac_model.proofs.ChangeLemmas.{all-append, all-changed, all-filter, all-weaker, differ-append, differ-edited, differ-kept, differ-reseated, directory-changed, entry_at-kept, entry_at-other, is_kept, numbers-append, numbers-changed, numbers-kept, test-changed}
use Rattle.hac_model.proofs.FittingLemmas.{IsFitting, fitting-layout, layout-fits}
use Rattle.hac_model.proofs.MapLemmas.{KeepsMeasures, measures-passed}
use Rattle.hac_model.proofs.PathLemmas.{root-none}
use Rattle.hac_model.proofs.TreeLemmas.{Lives, directory-lives, directory-no_leaf, entry_at-behind, entry_at-below, entry_at-first, place-directory, place-same, rise-below}
use Rattle.hac_model.proofs.KindLemmas.{KeepsRole, kind-forgetting, keeps-directory, keeps-document, keeps-mount}

pub empty-layout : IsLayout empty
unfolding passed_limit first_passed
empty-layout = record { numbers = omega arith; names = tt; places = tt; differ = tt; bodies = tt; limits = refl }

pub none_from : {X : Type 0} (o : Option X) → is_none o ≡ true → o ≡ None
none_from None h = refl
none_from (Some x) h = absurd cc

-- what a free place is
pub free-parts : (s : State) (dir : ℕ) (name : List ℕ) → is_free s dir name ≡ true → (is_directory_at s.entries dir ≡ true) × (is_name name ≡ true) × (child s.entries dir name ≡ None)
free-parts s dir name free =
    let vacant = and_parts (is_vacant s dir name) (not (is_mount_at s.entries dir)) free in
    let parts = and_parts (is_directory_at s.entries dir && is_name name) (is_none (child s.entries dir name)) vacant.0 in
    let first = and_parts (is_directory_at s.entries dir) (is_name name) parts.0 in
    (first.0, first.1, none_from (child s.entries dir name) parts.1)

-- users can put entries there
pub free-holder : (s : State) (dir : ℕ) (name : List ℕ) → is_free s dir name ≡ true → is_holder_at s.entries dir ≡ true
free-holder s dir name free =
    let vacant = and_parts (is_vacant s dir name) (not (is_mount_at s.entries dir)) free in
    and_from (is_directory_at s.entries dir) (not (is_mount_at s.entries dir)) (free-parts s dir name free).0 vacant.1

-- directories have lower numbers than the next entry
pub directory-below : (s : State) (d : ℕ) → IsLayout s → is_directory_at s.entries d ≡ true → d < s.next
directory-below s d h there = below (directory-lives s.entries d there)
  where
    below : Lives s.entries d → d < s.next
    below (inl root) = let more : 0 < s.next = rise-below 0 s.entries s.next h.numbers in omega (arith, root)
    below (inr found) = entry_at-below 0 s.entries s.next d found.0 h.numbers found.1

-- a free place, taken by a sound body
pub added-fits : (s : State) (dir : ℕ) (name : List ℕ) (body : Body) → IsLayout s → is_free s dir name ≡ true → IsSound body → is_document body ≡ false → IsFitting (added s dir name body)
added-fits s dir name body h free sound kind =
    let parts = free-parts s dir name free in
    let new : Entry = record { number = s.next; parent = dir; name = name; body = body } in
    let same : (d : ℕ) → is_directory_at s.entries d ≡ true → entry_at (added s dir name body).entries d ≡ entry_at s.entries d = λ d there. entry_at-other s.entries new d (λ here. (let below : d < s.next = directory-below s d h there in omega (arith, here, below))) in
    let stay = all-weaker (λ e. IsTrue (is_in_place s.entries e)) (λ e. IsTrue (is_in_place (added s dir name body).entries e)) s.entries (λ e there. place-same s.entries (added s dir name body).entries e (same e.parent (place-directory s.entries e there)) ∙ there) h.places in
    let placed : is_in_place s.entries new ≡ true = ap (λ (b : Bool). if b then is_mount_at s.entries dir else is_holder_at s.entries dir) kind ∙ free-holder s dir name free in
    record {
      numbers = numbers-append 0 s.entries new s.next h.numbers refl;
      names = all-append (λ e. IsTrue (is_name e.name)) s.entries new h.names parts.1;
      places = all-append (λ e. IsTrue (is_in_place (added s dir name body).entries e)) s.entries new stay (place-same s.entries (added s dir name body).entries new (same dir parts.0) ∙ placed);
      differ = differ-append s.entries new h.differ parts.2;
      bodies = all-append (λ e. IsSound e.body) s.entries new h.bodies sound;
    }

pub added-layout : (s : State) (dir : ℕ) (name : List ℕ) (body : Body) → IsLayout s → is_free s dir name ≡ true → IsSound body → is_document body ≡ false → passed_limit (added s dir name body) ≡ None → IsLayout (added s dir name body)
added-layout s dir name body h free sound kind limits = fitting-layout (added s dir name body) (added-fits s dir name body h free sound kind) limits

-- what is in place stays there where one entry is changed, but for its place
pub place-changed : (n : ℕ) (change : Entry → Entry) (es : List Entry) (e : Entry) → ((e : Entry) → (change e).number ≡ e.number) → ((e : Entry) → is_directory (change e).body ≡ is_directory e.body) → ((e : Entry) → is_mount (change e).body ≡ is_mount e.body) →
    is_in_place (changed_in n change es) e ≡ is_in_place es e
place-changed n change es e numbers directories mounts = λ i.
    if is_document e.body then mount i else (directory-changed n change es e.parent numbers directories i && not (mount i))
  where
    mount : is_mount_at (changed_in n change es) e.parent ≡ is_mount_at es e.parent
    mount = test-changed is_mount n change es e.parent numbers mounts

-- a body is edited, and stays of its kind
pub edited-fits : (s : State) (n : ℕ) (edit : Body → Body) → KeepsRole edit → ((body : Body) → IsSound body → IsSound (edit body)) → IsFitting s → IsFitting (changed_at s n (edited edit))
edited-fits s n edit kind sound h =
    let change : Entry → Entry = edited edit in
    let stay : (e : Entry) → is_in_place (changed_in n change s.entries) e ≡ is_in_place s.entries e = λ e. place-changed n change s.entries e (λ e. refl) (λ e. keeps-directory edit kind e.body) (λ e. keeps-mount edit kind e.body) in
    record {
      numbers = numbers-changed n change 0 s.entries s.next (λ e. refl) h.numbers;
      names = all-changed (λ e. IsTrue (is_name e.name)) n change s.entries (λ e there. there) h.names;
      places = all-changed (λ e. IsTrue (is_in_place (changed_in n change s.entries) e)) n change s.entries
          (λ e there. ap (λ (b : Bool). if b then is_mount_at (changed_in n change s.entries) e.parent else is_holder_at (changed_in n change s.entries) e.parent) (keeps-document edit kind e.body) ∙ there)
          (all-weaker (λ e. IsTrue (is_in_place s.entries e)) (λ e. IsTrue (is_in_place (changed_in n change s.entries) e)) s.entries (λ e there. stay e ∙ there) h.places);
      differ = differ-edited n edit s.entries h.differ;
      bodies = all-changed (λ e. IsSound e.body) n change s.entries (λ e there. sound e.body there) h.bodies;
    }

pub edited-layout : (s : State) (n : ℕ) (edit : Body → Body) → KeepsRole edit → ((body : Body) → IsSound body → IsSound (edit body)) → IsLayout s → passed_limit (changed_at s n (edited edit)) ≡ None → IsLayout (changed_at s n (edited edit))
edited-layout s n edit kind sound h limits = fitting-layout (changed_at s n (edited edit)) (edited-fits s n edit kind sound (layout-fits s h)) limits

-- the numbers of entries are above what they have to be above
rise-above : (above : ℕ) (es : List Entry) (next : ℕ) → NumbersRise above es next → AllByRecursion (λ e. above < e.number) es
rise-above above [] next h = tt
rise-above above (e ∷ es) next h = (h.0, all-weaker (λ f. e.number < f.number) (λ f. above < f.number) es (λ f more. let first : above < e.number = h.0 in omega arith) (rise-above e.number es next h.1))

-- each entry is the one of its number
pub found-all : (above : ℕ) (es : List Entry) (next : ℕ) → NumbersRise above es next → AllByRecursion (λ e. entry_at es e.number ≡ Some e) es
found-all above [] next h = tt
found-all above (e ∷ es) next h = (entry_at-first e es, behind es (rise-above e.number es next h.1) (found-all e.number es next h.1))
  where
    behind : (rest : List Entry) → AllByRecursion (λ f. e.number < f.number) rest → AllByRecursion (λ f. entry_at es f.number ≡ Some f) rest → AllByRecursion (λ f. entry_at (e ∷ es) f.number ≡ Some f) rest
    behind [] more found = tt
    behind (f ∷ rest) more found = (entry_at-behind e es f.number (λ same. let above : e.number < f.number = more.0 in omega (arith, same, above)) ∙ found.0, behind rest more.1 found.1)

-- all entries have what each has, where the one of the number has it once it is changed
all-touched : (P : Entry → Type 0) (n : ℕ) (change : Entry → Entry) (all es : List Entry) → ((e : Entry) → entry_at all n ≡ Some e → P (change e)) → AllByRecursion (λ e. entry_at all e.number ≡ Some e) es → AllByRecursion P es → AllByRecursion P (changed_in n change es)
all-touched P n change all [] own found h = tt
all-touched P n change all (e ∷ es) own found h = (
  elim (e.number == n) as (λ b. (e.number == n) ≡ b → P (if b then change e else e)) [
    | true ↦ (λ here. own e (ap (entry_at all) (sym (eqb-true e.number n here)) ∙ found.0))
    | false ↦ (λ _. h.0)
  ] refl,
  all-touched P n change all es own found.1 h.1,
)

-- an entry that is no document goes to a free place
pub reseated-layout : (s : State) (n dir : ℕ) (name : List ℕ) → IsLayout s → is_free s dir name ≡ true → is_document_at s.entries n ≡ false → passed_limit (changed_at s n (reseated dir name)) ≡ None → IsLayout (changed_at s n (reseated dir name))
reseated-layout s n dir name h free kind limits =
    let parts = free-parts s dir name free in
    let change : Entry → Entry = reseated dir name in
    let stay : (e : Entry) → is_in_place (changed_in n change s.entries) e ≡ is_in_place s.entries e = λ e. place-changed n change s.entries e (λ e. refl) (λ e. refl) (λ e. refl) in
    record {
      numbers = numbers-changed n change 0 s.entries s.next (λ e. refl) h.numbers;
      names = all-changed (λ e. IsTrue (is_name e.name)) n change s.entries (λ e there. parts.1) h.names;
      places = all-touched (λ e. IsTrue (is_in_place (changed_in n change s.entries) e)) n change s.entries s.entries
          (λ e found. stay (change e) ∙ ap (λ (b : Bool). if b then is_mount_at s.entries dir else is_holder_at s.entries dir) (own e found) ∙ free-holder s dir name free)
          (found-all 0 s.entries s.next h.numbers)
          (all-weaker (λ e. IsTrue (is_in_place s.entries e)) (λ e. IsTrue (is_in_place (changed_in n change s.entries) e)) s.entries (λ e there. stay e ∙ there) h.places);
      differ = differ-reseated n dir name 0 s.entries s.next h.numbers parts.2 h.differ;
      bodies = all-changed (λ e. IsSound e.body) n change s.entries (λ e there. there) h.bodies;
      limits = limits;
    }
  where
    own : (e : Entry) → entry_at s.entries n ≡ Some e → is_document e.body ≡ false
    own e found = sym (ap (λ (o : Option Entry). option_map_or is_document (option_map (λ (e : Entry). e.body) o) false) found) ∙ kind

-- an empty entry is removed
pub removed-layout : (s : State) (n : ℕ) → IsLayout s → AllByRecursion (λ e. n ≡ e.parent → ⊥) s.entries → passed_limit (removed s n) ≡ None → IsLayout (removed s n)
removed-layout s n h bare limits =
    record {
      numbers = numbers-kept n 0 s.entries s.next h.numbers;
      names = all-filter (λ e. IsTrue (is_name e.name)) (is_kept n) s.entries h.names;
      places = all-filter (λ e. IsTrue (is_in_place (removed s n).entries e)) (is_kept n) s.entries (stay s.entries bare h.places);
      differ = differ-kept n s.entries h.differ;
      bodies = all-filter (λ e. IsSound e.body) (is_kept n) s.entries h.bodies;
      limits = limits;
    }
  where
    stay : (es : List Entry) → AllByRecursion (λ e. n ≡ e.parent → ⊥) es → AllByRecursion (λ e. IsTrue (is_in_place s.entries e)) es → AllByRecursion (λ e. IsTrue (is_in_place (removed s n).entries e)) es
    stay [] other there = tt
    stay (e ∷ es) other there = (place-same s.entries (removed s n).entries e (entry_at-kept n s.entries e.parent other.0) ∙ there.0, stay es other.1 there.1)

-- nothing is in a leaf
pub leaf-bare : (s : State) (n : ℕ) → IsLayout s → is_leaf_at s.entries n ≡ true → AllByRecursion (λ e. n ≡ e.parent → ⊥) s.entries
leaf-bare s n h leaf = all-weaker (λ e. IsTrue (is_in_place s.entries e)) (λ e. n ≡ e.parent → ⊥) s.entries (λ e there same.
    let other : is_leaf_at s.entries e.parent ≡ false = directory-no_leaf s.entries e.parent (root-none s h) (place-directory s.entries e there) in
    let never : true ≡ false = sym leaf ∙ ap (λ (k : ℕ). is_leaf_at s.entries k) same ∙ other in
    cc) h.places

-- nor in a bare directory
pub bare-all : (es : List Entry) (n : ℕ) → is_empty_at es n ≡ true → AllByRecursion (λ e. n ≡ e.parent → ⊥) es
bare-all [] n h = tt
bare-all (e ∷ es) n h =
    let parts = and_parts (not (e.parent == n)) (is_empty_at es n) h in
    let other : (e.parent == n) ≡ false = not-true (e.parent == n) parts.0 in
    (λ same. eqb-false e.parent n other (sym same), bare-all es n parts.1)

pub rewritten-sound : (text : List ℕ) → is_text text ≡ true → (body : Body) → IsSound body → IsSound (rewritten text body)
rewritten-sound text fits (File old dirty shown) h = record { fits = fits; shown_fits = h.shown_fits; clean = λ clean. absurd cc }
rewritten-sound text fits other h = h

pub indexed-sound : (body : Body) → IsSound body → IsSound (indexed body)
indexed-sound (File text dirty shown) h = record { fits = h.fits; shown_fits = h.fits; clean = λ clean. refl }
indexed-sound other h = h

-- Edits of queries and marks.

pub asking-sound : (query : Formula ℕ) (body : Body) → IsSound body → IsSound (asking query body)
asking-sound query Dir h = tt
asking-sound query (Semantic old permanent prohibited) h = tt
asking-sound query other h = h

pub plain-sound : (body : Body) → IsSound body → IsSound (plain_body body)
plain-sound (Semantic query permanent prohibited) h = tt
plain-sound other h = h

pub forgetting-measures : (n : ℕ) → KeepsMeasures (forgetting n)
forgetting-measures n = record { kind = kind-forgetting n; texts = texts }
  where
    texts : (body : Body) → file_bytes (forgetting n body) ≡ file_bytes body
    texts (Semantic query permanent prohibited) = refl
    texts other = refl

pub forgetting-sound : (n : ℕ) (body : Body) → IsSound body → IsSound (forgetting n body)
forgetting-sound n (Semantic query permanent prohibited) h = tt
forgetting-sound n other h = h

pub marked-sound : (n : ℕ) (kind : Kind) (body : Body) → IsSound body → IsSound (marked n kind body)
marked-sound n Permanent (Semantic query permanent prohibited) h = tt
marked-sound n Prohibited (Semantic query permanent prohibited) h = tt
marked-sound n Transient (Semantic query permanent prohibited) h = tt
marked-sound n Unlinked (Semantic query permanent prohibited) h = tt
marked-sound n Permanent other h = h
marked-sound n Prohibited other h = h
marked-sound n Transient other h = h
marked-sound n Unlinked other h = h

-- limits are passed with marks as without
pub passed-forgotten : (s : State) (n : ℕ) → passed_limit (forgotten s n) ≡ None → passed_limit s ≡ None
passed-forgotten s n h = measures-passed (forgetting n) s (forgetting-measures n) h

-- What an event that is possible speaks of.

pub smkdir-parts : (s : State) (dir : ℕ) (name : List ℕ) (query : Formula ℕ) (told : List (List ℕ)) → is_possible s (Smkdir dir name query told) ≡ true → (is_free s dir name ≡ true) × (may_ask s query ≡ true) × (are_all_told s query told s.entries ≡ true) × (are_answers_few (with_told query told s).entries ≡ true)
smkdir-parts s dir name query told h =
    let few = and_parts (are_answers_few (with_told query told s).entries) (is_placed s (Smkdir dir name query told)) h in
    let fits = and_parts (is_free s dir name) (may_ask s query && are_all_told s query told s.entries) few.1 in
    let asks = and_parts (may_ask s query) (are_all_told s query told s.entries) fits.1 in
    (fits.0, asks.0, asks.1, few.0)

-- a directory that was made and is a holder
made-parts : (s : State) (dir : ℕ) → is_made_holder s dir ≡ true → (is_made_directory s.entries dir ≡ true) × (is_mount_at s.entries dir ≡ false)
made-parts s dir h =
    let parts = and_parts (is_made_directory s.entries dir) (not (is_mount_at s.entries dir)) h in
    (parts.0, not-true (is_mount_at s.entries dir) parts.1)

pub setq-parts : (s : State) (dir : ℕ) (query : Formula ℕ) (told : List (List ℕ)) → is_possible s (Setq dir query told) ≡ true → (is_made_directory s.entries dir ≡ true) × (may_ask s query ≡ true) × (cycle_over s dir (parent_of s dir) query ≡ None) × (are_all_told s query told s.entries ≡ true) × (is_mount_at s.entries dir ≡ false) × (are_answers_few (with_told query told s).entries ≡ true)
setq-parts s dir query told h =
    let clear = and_parts (is_none (cycle_over s dir (parent_of s dir) query) && are_answers_few (with_told query told s).entries) (is_placed s (Setq dir query told)) h in
    let way = and_parts (is_none (cycle_over s dir (parent_of s dir) query)) (are_answers_few (with_told query told s).entries) clear.0 in
    let fits = and_parts (is_made_holder s dir) (may_ask s query && are_all_told s query told s.entries) clear.1 in
    let asks = and_parts (may_ask s query) (are_all_told s query told s.entries) fits.1 in
    let made = made-parts s dir fits.0 in
    (made.0, asks.0, none_from (cycle_over s dir (parent_of s dir) query) way.0, asks.1, made.1, way.1)

pub mark-parts : (s : State) (dir item : ℕ) (kind : Kind) → is_possible s (Mark (record { dir = dir; item = item; kind = kind })) ≡ true → (can_have_mark s item kind ≡ true) × (is_semantic s dir ≡ true) × (may_mark s dir item kind ≡ true) × (cycle_of_mark s dir item kind ≡ None)
mark-parts s dir item kind h =
    let clear = and_parts (may_mark s dir item kind && is_none (cycle_of_mark s dir item kind)) (can_have_mark s item kind && is_semantic s dir) h in
    let may = and_parts (may_mark s dir item kind) (is_none (cycle_of_mark s dir item kind)) clear.0 in
    let there = and_parts (can_have_mark s item kind) (is_semantic s dir) clear.1 in
    (there.0, there.1, may.0, none_from (cycle_of_mark s dir item kind) may.1)

pub move-parts : (s : State) (entry dir : ℕ) (name : List ℕ) → is_possible s (Mv entry dir name) ≡ true → (is_some (entry_at s.entries entry) ≡ true) × (is_free s dir name ≡ true) × (is_inside s dir entry ≡ false) × (cycle_of_move s entry dir ≡ None) × (is_document_at s.entries entry ≡ false)
move-parts s entry dir name h =
    let way = and_parts (is_none (cycle_of_move s entry dir)) (is_placed s (Mv entry dir name)) h in
    let there = and_parts (is_some (entry_at s.entries entry) && not (is_document_at s.entries entry) && is_free s dir name) (not (is_inside s dir entry)) way.1 in
    let free = and_parts (is_some (entry_at s.entries entry) && not (is_document_at s.entries entry)) (is_free s dir name) there.0 in
    let own = and_parts (is_some (entry_at s.entries entry)) (not (is_document_at s.entries entry)) free.0 in
    (own.0, free.1, not-true (is_inside s dir entry) there.1, none_from (cycle_of_move s entry dir) way.0, not-true (is_document_at s.entries entry) own.1)

pub rmdir-parts : (s : State) (dir : ℕ) → is_possible s (Rmdir dir) ≡ true → (is_made_directory s.entries dir ≡ true) × (is_empty_at s.entries dir ≡ true) × (is_unreferenced s dir ≡ true) × (is_busy s.sessions dir ≡ false) × (is_mount_at s.entries dir ≡ false)
rmdir-parts s dir h =
    let clear = and_parts (is_unreferenced s dir && not (is_busy s.sessions dir)) (is_placed s (Rmdir dir)) h in
    let named = and_parts (is_unreferenced s dir) (not (is_busy s.sessions dir)) clear.0 in
    let bare = and_parts (is_made_holder s dir) (is_empty_at s.entries dir) clear.1 in
    let made = made-parts s dir bare.0 in
    (made.0, bare.1, named.0, not-true (is_busy s.sessions dir) named.1, made.1)

-- an event that is accepted fits, and leads to a state that exceeds no limit
pub accepted-parts : (possible : Bool) (passes : Option LimitWord) → (possible && is_none passes) ≡ true → (possible ≡ true) × (passes ≡ None)
accepted-parts possible passes h = let parts = and_parts possible (is_none passes) h in (parts.0, none_from passes parts.1)
