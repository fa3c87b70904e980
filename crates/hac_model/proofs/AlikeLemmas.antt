-- What a state says without its marks is what it says with them.
use Rattle.std.proofs.Common.{◌≡◌, ℕ, zero, suc, Bool, true, false, cond, List, [], ◌∷◌, length, map, reverse, refl, ap, sym, ◌∙◌, arith}
use Rattle.std.specs.Prelude.{◌+◌, ◌==◌, codes, ◌&&◌, ◌||◌, ◌++◌, ◌-◌, filter, not, Option, Some, None, Ok, Err, IsTrue, is_some, is_none, option_and_then}
use Rattle.std.specs.List.{AllByRecursion, slice_index_or}
use Rattle.std.specs.Option.{option_map, option_map_or, unwrap_or}
use Rattle.hac_model.specs.Run.Answers.{and_then, first_cause}
use Rattle.hac_model.specs.Tree.Bare.{bare, bare_body}
use Rattle.hac_model.specs.Tree.Depends.{named_in}
use Rattle.hac_model.specs.Tree.Events.{are_directories, dirty, edited, is_empty_at, is_free, is_inside, may_ask}
use Rattle.hac_model.specs.Query.Formula.{Formula}
use Rattle.hac_model.specs.Query.Formula as query
use Rattle.hac_model.specs.Tree.Limits.{answer_limits, layout_limits, counts, first_passed, passed_limit, file_bytes}
use Rattle.hac_model.specs.Tree.Links.{is_item, parent_of, query_at, shown_of}
use Rattle.hac_model.specs.Tree.Listing.{children, entry_line, in_order, is_before, letter, put_in_order}
use Rattle.hac_model.specs.Tree.Looks.{final_path, has_names, link_at, link_to_follow, look, destination, next_path, next_path_behind, stands_at, stop_at, target_word, ways}
use Rattle.hac_model.specs.Tree.Names.{is_name}
use Rattle.hac_model.specs.Tree.Paths.{join, without_last}
use Rattle.hac_model.specs.Query.Queries.{is_query}
use Rattle.hac_model.specs.Run.Resolving.{directory_or_root, resolved_for, directory, entry, item_and_dir, listed_directory, numbered_query, place, resolved, wanted_entry, holder, mount_of, outside_mounts, own_entry, slot}
use Rattle.hac_model.specs.Tree.{body_at, child, entry_at, extends, is_directory, is_directory_at, is_dirty, is_document, is_document_at, is_file, is_file_at, is_linkable, is_mount, is_mount_at, is_queried, is_symlink, is_symlink_at, path_of, query_in, shown_text, target_in, text_in}
use Rattle.hac_model.specs.Tree.Valid.{IsLayout, IsSound, NamesDiffer, NumbersRise, is_in_place}
use Rattle.hac_model.specs.declared.commands.Command.{Command}
use Rattle.hac_model.specs.declared.commands.Command.TheVariants as command
use Rattle.hac_model.specs.declared.limits.TheConstants.{FOLLOW_LIMIT}
use Rattle.hac_model.specs.declared.paths.PathWord.{PathWord}
use Rattle.hac_model.specs.declared.places.Place.{Place}
use Rattle.hac_model.specs.declared.places.Place.TheVariants.{There, Free}
use Rattle.hac_model.specs.declared.replies.Refusal.TheVariants.{Loop, NoPath, NotDir, InMount}
use Rattle.hac_model.specs.declared.resolved.Resolved.{Resolved}
use Rattle.hac_model.specs.declared.resolved.Resolved.TheVariants as done
use Rattle.hac_model.specs.declared.states.Body.{Body}
use Rattle.hac_model.specs.declared.states.Body.TheVariants.{Dir, Document, File, Mount, Semantic, Symlink}
use Rattle.hac_model.specs.declared.states.Entry.{Entry}
use Rattle.hac_model.specs.declared.states.State.{State}
use Rattle.hac_model.proofs.CountLemmas.{measured, measured-cons, one_if}
use Rattle.hac_model.proofs.MapLemmas.{KeepsMeasures, mapped, mapped-layout, child-mapped, directory-mapped, entry_at-mapped, lineage-mapped, paths-mapped, test-mapped, place-mapped}
use Rattle.hac_model.proofs.PathLemmas.{path-names}
use Rattle.hac_model.proofs.ChangeLemmas.{all-weaker}
use Rattle.hac_model.proofs.KindLemmas.{kind-bare, role-bare, keeps-directory, keeps-document, keeps-file, keeps-item, keeps-mount, keeps-queried, keeps-symlink}

-- Bodies without marks.

pub bare-query : (body : Body) → query_in (bare_body body) ≡ query_in body
bare-query (Semantic query permanent prohibited) = refl
bare-query (Mount space answers) = refl
bare-query other = refl

bare-text : (body : Body) → text_in (bare_body body) ≡ text_in body
bare-text (Semantic query permanent prohibited) = refl
bare-text (Mount space answers) = refl
bare-text other = refl

bare-target : (body : Body) → target_in (bare_body body) ≡ target_in body
bare-target (Semantic query permanent prohibited) = refl
bare-target (Mount space answers) = refl
bare-target other = refl

pub bare-dirty : (body : Body) → is_dirty (bare_body body) ≡ is_dirty body
bare-dirty (Semantic query permanent prohibited) = refl
bare-dirty (Mount space answers) = refl
bare-dirty other = refl

bare-weight : (body : Body) → file_bytes (bare_body body) ≡ file_bytes body
bare-weight (Semantic query permanent prohibited) = refl
bare-weight (Mount space answers) = refl
bare-weight other = refl

bare-letter : (body : Body) → letter (bare_body body) ≡ letter body
bare-letter (Semantic query permanent prohibited) = refl
bare-letter (Mount space answers) = refl
bare-letter other = refl

bare-sound : (body : Body) → IsSound (bare_body body) → IsSound body
bare-sound (Semantic query permanent prohibited) h = tt
bare-sound (Mount space answers) h = h
bare-sound other h = h

sound-bare : (body : Body) → IsSound body → IsSound (bare_body body)
sound-bare (Semantic query permanent prohibited) h = tt
sound-bare (Mount space answers) h = h
sound-bare other h = h

pub bare-measures : KeepsMeasures bare_body
bare-measures = record { kind = kind-bare; texts = bare-weight }

-- What is looked up.

pub entry_at-bare : (s : State) (n : ℕ) → entry_at (bare s).entries n ≡ option_map (edited bare_body) (entry_at s.entries n)
entry_at-bare s n = entry_at-mapped bare_body s.entries n

-- a function of a body that doesn't depend on marks
part-bare : {X : Type 0} (part : Body → Option X) (s : State) (n : ℕ) → ((body : Body) → part (bare_body body) ≡ part body) → option_and_then part (body_at (bare s).entries n) ≡ option_and_then part (body_at s.entries n)
part-bare part s n same =
    ap (λ (o : Option Entry). option_and_then part (option_map (λ (e : Entry). e.body) o)) (entry_at-bare s n)
    ∙ (elim (entry_at s.entries n) as (λ o. option_and_then part (option_map (λ (e : Entry). e.body) (option_map (edited bare_body) o)) ≡ option_and_then part (option_map (λ (e : Entry). e.body) o)) [ None ↦ refl | Some e ↦ same e.body ])

pub query_at-bare : (s : State) (n : ℕ) → query_at (bare s) n ≡ query_at s n
query_at-bare s n = part-bare query_in s n bare-query

pub text_at-bare : (s : State) (n : ℕ) → option_and_then text_in (body_at (bare s).entries n) ≡ option_and_then text_in (body_at s.entries n)
text_at-bare s n = part-bare text_in s n bare-text

pub target_at-bare : (s : State) (n : ℕ) → option_and_then target_in (body_at (bare s).entries n) ≡ option_and_then target_in (body_at s.entries n)
target_at-bare s n = part-bare target_in s n bare-target

pub parent_of-bare : (s : State) (n : ℕ) → parent_of (bare s) n ≡ parent_of s n
parent_of-bare s n =
    ap (λ (o : Option Entry). option_map_or (λ (e : Entry). e.parent) o 0) (entry_at-bare s n)
    ∙ (elim (entry_at s.entries n) as (λ o. option_map_or (λ (e : Entry). e.parent) (option_map (edited bare_body) o) 0 ≡ option_map_or (λ (e : Entry). e.parent) o 0) [ None ↦ refl | Some e ↦ refl ])

pub directory-bare : (s : State) (n : ℕ) → is_directory_at (bare s).entries n ≡ is_directory_at s.entries n
directory-bare s n = directory-mapped bare_body s.entries n (keeps-directory bare_body role-bare)

pub file-bare : (s : State) (n : ℕ) → is_file_at (bare s).entries n ≡ is_file_at s.entries n
file-bare s n = test-mapped is_file bare_body s.entries n (keeps-file bare_body role-bare)

pub symlink-bare : (s : State) (n : ℕ) → is_symlink_at (bare s).entries n ≡ is_symlink_at s.entries n
symlink-bare s n = test-mapped is_symlink bare_body s.entries n (keeps-symlink bare_body role-bare)

pub some-bare : (s : State) (n : ℕ) → is_some (entry_at (bare s).entries n) ≡ is_some (entry_at s.entries n)
some-bare s n =
    ap (λ (o : Option Entry). is_some o) (entry_at-bare s n)
    ∙ (elim (entry_at s.entries n) as (λ o. is_some (option_map (edited bare_body) o) ≡ is_some o) [ None ↦ refl | Some e ↦ refl ])

pub mount-bare : (s : State) (n : ℕ) → is_mount_at (bare s).entries n ≡ is_mount_at s.entries n
mount-bare s n = test-mapped is_mount bare_body s.entries n (keeps-mount bare_body role-bare)

pub document-bare : (s : State) (n : ℕ) → is_document_at (bare s).entries n ≡ is_document_at s.entries n
document-bare s n = test-mapped is_document bare_body s.entries n (keeps-document bare_body role-bare)

pub path_of-bare : (s : State) (n : ℕ) → path_of (bare s) n ≡ path_of s n
path_of-bare s n = path-names (bare s) n ∙ ap reverse (lineage-mapped bare_body s.entries n) ∙ sym (path-names s n)

pub is_inside-bare : (s : State) (dir e : ℕ) → is_inside (bare s) dir e ≡ is_inside s dir e
is_inside-bare s dir e = λ i. dir == e || extends (path_of-bare s dir i) (path_of-bare s e i)

pub is_free-bare : (s : State) (dir : ℕ) (name : List ℕ) → is_free (bare s) dir name ≡ is_free s dir name
is_free-bare s dir name = λ i. directory-bare s dir i && is_name name && is_none (child-mapped bare_body s.entries dir name i) && not (mount-bare s dir i)

pub is_bare-bare : (s : State) (dir : ℕ) → is_empty_at (bare s).entries dir ≡ is_empty_at s.entries dir
is_bare-bare s dir = each s.entries
  where
    each : (es : List Entry) → is_empty_at (map (edited bare_body) es) dir ≡ is_empty_at es dir
    each [] = refl
    each (e ∷ es) = ap (λ (b : Bool). not (e.parent == dir) && b) (each es)

pub may_ask-bare : (s : State) (asked : Formula ℕ) → may_ask (bare s) asked ≡ may_ask s asked
may_ask-bare s asked = ap (λ (b : Bool). is_query asked && b) (each (named_in asked))
  where
    each : (ds : List ℕ) → are_directories (bare s) ds ≡ are_directories s ds
    each [] = refl
    each (d ∷ ds) = λ i. directory-bare s d i && each ds i

-- Where paths lead.

stands_at-bare : (s : State) (dir : ℕ) (path : List (List ℕ)) → stands_at (bare s).entries dir path ≡ stands_at s.entries dir path
stands_at-bare s dir [] = refl
stands_at-bare s dir (name ∷ names) =
    ap (λ (o : Option ℕ). option_and_then (λ number. stands_at (bare s).entries number names) o) (child-mapped bare_body s.entries dir name)
    ∙ (λ i. option_and_then (λ number. stands_at-bare s number names i) (child s.entries dir name))

destination-bare : (s : State) (path : List (List ℕ)) → destination (bare s) path ≡ destination s path
unfolding destination
destination-bare s path = λ i.
    option_map_or Err (first_cause (map (stop i) (ways path)))
    (Ok (option_map_or There (stands_at-bare s 0 path i) (Free (unwrap_or (stands_at-bare s 0 (without_last 1 path) i) 0) (slice_index_or path (length path - 1) []))))
  where
    stop : stop_at (bare s) ≡ stop_at s
    stop = λ i way. option_map_or (λ number. cond (directory-bare s number i) None (Some (NotDir way))) (stands_at-bare s 0 way i) (Some (NoPath way))

-- so are the links that are followed
link_at-bare : (s : State) (path : List (List ℕ)) → link_at (bare s) path ≡ link_at s path
link_at-bare s path =
    ap (λ (o : Option ℕ). option_and_then target_word (option_and_then target_in (option_and_then (body_at (bare s).entries) o))) (stands_at-bare s 0 path)
    ∙ (elim (stands_at s.entries 0 path) as (λ o. option_and_then target_word (option_and_then target_in (option_and_then (body_at (bare s).entries) o)) ≡ option_and_then target_word (option_and_then target_in (option_and_then (body_at s.entries) o))) [
      | None ↦ refl
      | Some n ↦ ap (λ (o : Option (List ℕ)). option_and_then target_word o) (part-bare target_in s n bare-target)
    ])

link_to_follow-bare : (s : State) (follow : Bool) (path names : List (List ℕ)) → link_to_follow (bare s) follow path names ≡ link_to_follow s follow path names
link_to_follow-bare s follow path names = ap (λ (o : Option PathWord). cond (follow || has_names names) o None) (link_at-bare s path)

next_path_behind-bare : (s : State) (follow : Bool) (walked names : List (List ℕ)) → next_path_behind (bare s) follow walked names ≡ next_path_behind s follow walked names
next_path_behind-bare s follow walked [] = refl
next_path_behind-bare s follow walked (name ∷ names) = λ i.
    option_map_or (λ word. Some (join walked word ++ names)) (link_to_follow-bare s follow (walked ++ name ∷ []) names i) (next_path_behind-bare s follow (walked ++ name ∷ []) names i)

next_path-bare : (s : State) (follow : Bool) (path : List (List ℕ)) → next_path (bare s) follow path ≡ next_path s follow path
unfolding next_path
next_path-bare s follow path = next_path_behind-bare s follow [] path

final_path-bare : (n : ℕ) (s : State) (follow : Bool) (path : List (List ℕ)) → final_path n (bare s) follow path ≡ final_path n s follow path
final_path-bare zero s follow path = ap (λ (o : Option (List (List ℕ))). option_map_or (λ next. None) o (Some path)) (next_path-bare s follow path)
final_path-bare (suc n) s follow path = λ i. option_map_or (λ next. final_path-bare n s follow next i) (next_path-bare s follow path i) (Some path)

pub look-bare : (s : State) (follow : Bool) (path : List (List ℕ)) → look (bare s) follow path ≡ look s follow path
unfolding look
look-bare s follow path = λ i. option_map_or (λ found. destination-bare s found i) (final_path-bare FOLLOW_LIMIT s follow path i) (Err (Loop path))

module _ (s : State) (base : ℕ) where
  place-bare : (follow : Bool) (word : PathWord) → place (bare s) base follow word ≡ place s base follow word
  place-bare follow word = ap (λ (path : List (List ℕ)). look (bare s) follow (join path word)) (path_of-bare s base) ∙ look-bare s follow (join (path_of s base) word)

  standing-bare : (found : Place) → wanted_entry (bare s) found ≡ wanted_entry s found
  standing-bare (There number) = refl
  standing-bare (Free dir name) = ap (λ (path : List (List ℕ)). Err (NoPath (path ++ name ∷ []))) (path_of-bare s dir)

  mounted-bare : (found : Place) → mount_of (bare s) found ≡ mount_of s found
  mounted-bare (There number) = λ i. cond (document-bare s number i) (Some (parent_of-bare s number i)) None
  mounted-bare (Free dir name) = ap (λ (b : Bool). cond b (Some dir) None) (mount-bare s dir)

  outside-bare : (found : Place) → outside_mounts (bare s) found ≡ outside_mounts s found
  outside-bare found = λ i. option_map_or (λ mount. Err (InMount (path_of-bare s mount i))) (mounted-bare found i) (Ok found)

  slot-bare : (follow : Bool) (word : PathWord) → slot (bare s) base follow word ≡ slot s base follow word
  slot-bare follow word = λ i. and_then (λ found. outside-bare found i) (place-bare follow word i)

  entry-bare : (follow : Bool) (word : PathWord) → entry (bare s) base follow word ≡ entry s base follow word
  entry-bare follow word = λ i. and_then (λ found. standing-bare found i) (place-bare follow word i)

  directory-leads : (word : PathWord) → directory (bare s) base word ≡ directory s base word
  directory-leads word = λ i. and_then (λ number. cond (directory-bare s number i) (Ok number) (Err (NotDir (path_of-bare s number i)))) (entry-bare true word i)

  own-bare : (follow : Bool) (word : PathWord) → own_entry (bare s) base follow word ≡ own_entry s base follow word
  own-bare follow word = λ i. and_then (λ number. cond (document-bare s number i) (Err (InMount (path_of-bare s (parent_of-bare s number i) i))) (Ok number)) (entry-bare follow word i)

  holder-leads : (word : PathWord) → holder (bare s) base word ≡ holder s base word
  holder-leads word = λ i. and_then (λ number. cond (mount-bare s number i) (Err (InMount (path_of-bare s number i))) (Ok number)) (directory-leads word i)

  listed-bare : (word : Option PathWord) → listed_directory (bare s) base word ≡ listed_directory s base word
  listed-bare None = refl
  listed-bare (Some word) = directory-leads word

  rooted-bare : (word : Option PathWord) → directory_or_root (bare s) base word ≡ directory_or_root s base word
  rooted-bare None = refl
  rooted-bare (Some word) = directory-leads word

  numbered-bare : (raw : Formula PathWord) → numbered_query (bare s) base raw ≡ numbered_query s base raw
  numbered-bare (query.Term term) = refl
  numbered-bare (query.Dir word) = ap (and_then (λ dir. Ok (query.Dir dir))) (directory-leads word)
  numbered-bare (query.Not raw) = ap (and_then (λ inner. Ok (query.Not inner))) (numbered-bare raw)
  numbered-bare (query.And left right) = λ i. and_then (λ first. and_then (λ second. Ok (query.And first second)) (numbered-bare right i)) (numbered-bare left i)
  numbered-bare (query.Or left right) = λ i. and_then (λ first. and_then (λ second. Ok (query.Or first second)) (numbered-bare right i)) (numbered-bare left i)

  item_and_dir-bare : (make : ℕ → ℕ → Resolved) (item dir : PathWord) → item_and_dir make (bare s) base item dir ≡ item_and_dir make s base item dir
  item_and_dir-bare make item dir = λ i. and_then (λ first. and_then (λ second. Ok (make first second)) (directory-leads dir i)) (entry-bare true item i)

  -- the outcome of a command
  resolved-bare : (c : Command) → resolved (bare s) base c ≡ resolved s base c
  resolved-bare (command.Mkdir path) = ap (and_then (λ found. Ok (done.Mkdir found))) (slot-bare true path)
  resolved-bare (command.Rmdir path) = ap (and_then (λ dir. Ok (done.Rmdir dir))) (holder-leads path)
  resolved-bare (command.Write path text) = ap (and_then (λ found. Ok (done.Write found text))) (slot-bare true path)
  resolved-bare (command.Cat path) = ap (and_then (λ number. Ok (done.Cat number))) (entry-bare true path)
  resolved-bare (command.Ls path) = ap (and_then (λ dir. Ok (done.Ls dir))) (listed-bare path)
  resolved-bare (command.Mv from to) = λ i. and_then (λ number. and_then (λ found. Ok (done.Mv number found)) (slot-bare false to i)) (own-bare false from i)
  resolved-bare (command.Rm path) = ap (and_then (λ number. Ok (done.Rm number))) (own-bare false path)
  resolved-bare (command.Ln target path) = ap (and_then (λ found. Ok (done.Ln found target))) (slot-bare false path)
  resolved-bare (command.Readlink path) = ap (and_then (λ number. Ok (done.Readlink number))) (entry-bare false path)
  resolved-bare (command.Smkdir path raw) = λ i. and_then (λ found. and_then (λ asked. Ok (done.Smkdir found asked)) (numbered-bare raw i)) (slot-bare true path i)
  resolved-bare (command.Setq path raw) = λ i. and_then (λ dir. and_then (λ asked. Ok (done.Setq dir asked)) (numbered-bare raw i)) (holder-leads path i)
  resolved-bare (command.Unq path) = ap (and_then (λ dir. Ok (done.Unq dir))) (directory-leads path)
  resolved-bare (command.Query path) = ap (and_then (λ dir. Ok (done.Query dir))) (directory-leads path)
  resolved-bare (command.Sls path) = ap (and_then (λ dir. Ok (done.Sls dir))) (listed-bare path)
  resolved-bare (command.Sln item dir) = item_and_dir-bare done.Sln item dir
  resolved-bare (command.Srm item dir) = item_and_dir-bare done.Srm item dir
  resolved-bare (command.Sforget item dir) = item_and_dir-bare done.Sforget item dir
  resolved-bare (command.Find raw) = ap (and_then (λ asked. Ok (done.Find asked))) (numbered-bare raw)
  resolved-bare (command.Smount path space) = ap (and_then (λ found. Ok (done.Smount found space))) (slot-bare true path)
  resolved-bare (command.Ssync path) = ap (and_then (λ dir. Ok (done.Ssync dir))) (directory-leads path)
  resolved-bare (command.Sumount path) = ap (and_then (λ dir. Ok (done.Sumount dir))) (directory-leads path)
  resolved-bare other = refl

  pub for-bare : (session : List ℕ) (c : Command) → resolved_for (bare s) session base c ≡ resolved_for s session base c
  for-bare session (command.Cd path) = ap (and_then (λ dir. Ok (done.Cd session dir))) (rooted-bare path)
  for-bare session other = resolved-bare other

-- How much there is.

measured-bare : (f : Body → ℕ) (es : List Entry) → ((body : Body) → f (bare_body body) ≡ f body) → measured f (map (edited bare_body) es) ≡ measured f es
measured-bare f [] same = refl
measured-bare f (e ∷ es) same =
    let here : f (bare_body e.body) ≡ f e.body = same e.body in
    omega (arith, measured-cons f (edited bare_body e) (map (edited bare_body) es), measured-cons f e es, here, measured-bare f es same)

pub dirty-same : (s : State) → dirty (bare s) ≡ dirty s
dirty-same s = measured-bare (one_if is_dirty) s.entries (λ body. ap (λ (b : Bool). cond {A = ℕ} b 1 0) (bare-dirty body))

pub counts-bare : (s : State) → counts (bare s) ≡ counts s
counts-bare s = λ i. record {
  bytes = measured-bare file_bytes s.entries bare-weight i;
  directories = ones is_directory (keeps-directory bare_body role-bare) i + 1;
  semantics = ones is_queried (keeps-queried bare_body kind-bare) i;
  mounts = ones is_mount (keeps-mount bare_body role-bare) i;
  symlinks = ones is_symlink (keeps-symlink bare_body role-bare) i;
  files = ones is_file (keeps-file bare_body role-bare) i;
  items = ones is_linkable (keeps-item bare_body role-bare) i;
  dirty = dirty-same s i;
  long_paths = cond {A = ℕ} (paths-mapped bare_body s.entries (keeps-mount bare_body role-bare) i) 0 1;
  next = s.next;
}
  where
    ones : (test : Body → Bool) → ((body : Body) → test (bare_body body) ≡ test body) → measured (one_if test) (map (edited bare_body) s.entries) ≡ measured (one_if test) s.entries
    ones test same = measured-bare (one_if test) s.entries (λ body. ap (λ (b : Bool). cond {A = ℕ} b 1 0) (same body))

pub passed-bare : (s : State) → passed_limit (bare s) ≡ passed_limit s
unfolding passed_limit
passed-bare s = ap (λ c. first_passed (layout_limits s.version c ++ answer_limits s.version c)) (counts-bare s)

-- What is in a directory.

order-bare : (es : List Entry) → map entry_line (in_order (map (edited bare_body) es)) ≡ map entry_line (in_order es)
order-bare es = ap (map entry_line) (ordered es) ∙ lines (in_order es)
  where
    put : (e : Entry) (es : List Entry) → put_in_order (edited bare_body e) (map (edited bare_body) es) ≡ map (edited bare_body) (put_in_order e es)
    put e [] = refl
    put e (x ∷ es) = elim (is_before e.name x.name) as (λ b. cond b (edited bare_body e ∷ edited bare_body x ∷ map (edited bare_body) es) (edited bare_body x ∷ put_in_order (edited bare_body e) (map (edited bare_body) es)) ≡ map (edited bare_body) (cond b (e ∷ x ∷ es) (x ∷ put_in_order e es))) [
      | true ↦ refl
      | false ↦ ap (λ (rest : List Entry). edited bare_body x ∷ rest) (put e es)
    ]

    ordered : (es : List Entry) → in_order (map (edited bare_body) es) ≡ map (edited bare_body) (in_order es)
    ordered [] = refl
    ordered (e ∷ es) = ap (put_in_order (edited bare_body e)) (ordered es) ∙ put e (in_order es)

    lines : (es : List Entry) → map entry_line (map (edited bare_body) es) ≡ map entry_line es
    lines [] = refl
    lines (e ∷ es) = λ i. (bare-letter e.body i ++ codes " " ++ e.name) ∷ lines es i

pub children-bare : (s : State) (dir : ℕ) → map entry_line (children (bare s) dir) ≡ map entry_line (children s dir)
children-bare s dir = ap (λ (es : List Entry). map entry_line (in_order es)) (kept s.entries) ∙ order-bare (filter (λ (e : Entry). e.parent == dir) s.entries)
  where
    kept : (es : List Entry) → filter (λ (e : Entry). e.parent == dir) (map (edited bare_body) es) ≡ map (edited bare_body) (filter (λ (e : Entry). e.parent == dir) es)
    kept [] = refl
    kept (e ∷ es) = elim (e.parent == dir) as (λ b. cond b (edited bare_body e ∷ filter (λ (e : Entry). e.parent == dir) (map (edited bare_body) es)) (filter (λ (e : Entry). e.parent == dir) (map (edited bare_body) es)) ≡ map (edited bare_body) (cond b (e ∷ filter (λ (e : Entry). e.parent == dir) es) (filter (λ (e : Entry). e.parent == dir) es))) [
      | true ↦ ap (λ (rest : List Entry). edited bare_body e ∷ rest) (kept es)
      | false ↦ kept es
    ]

-- A tree is one where it is one without its marks.

all-unmap : {X Y : Type 0} (P : Y → Type 0) (f : X → Y) (xs : List X) → AllByRecursion P (map f xs) → AllByRecursion (λ x. P (f x)) xs
all-unmap P f [] h = tt
all-unmap P f (x ∷ xs) h = (h.0, all-unmap P f xs h.1)

numbers-unmap : (above : ℕ) (es : List Entry) (next : ℕ) → NumbersRise above (map (edited bare_body) es) next → NumbersRise above es next
numbers-unmap above [] next h = h
numbers-unmap above (e ∷ es) next h = (h.0, numbers-unmap e.number es next h.1)

differ-unmap : (es : List Entry) → NamesDiffer (map (edited bare_body) es) → NamesDiffer es
differ-unmap [] h = tt
differ-unmap (e ∷ es) h = (sym (child-mapped bare_body es e.parent e.name) ∙ h.0, differ-unmap es h.1)

pub layout-unbare : (s : State) → IsLayout (bare s) → IsLayout s
layout-unbare s h = record {
  numbers = numbers-unmap 0 s.entries s.next h.numbers;
  names = all-unmap (λ (e : Entry). IsTrue (is_name e.name)) (edited bare_body) s.entries h.names;
  places = all-weaker (λ (e : Entry). IsTrue (is_in_place (bare s).entries (edited bare_body e))) (λ (e : Entry). IsTrue (is_in_place s.entries e)) s.entries (λ e there. sym (place-mapped bare_body s.entries e role-bare) ∙ there) (all-unmap (λ (e : Entry). IsTrue (is_in_place (bare s).entries e)) (edited bare_body) s.entries h.places);
  differ = differ-unmap s.entries h.differ;
  bodies = all-weaker (λ (e : Entry). IsSound (bare_body e.body)) (λ (e : Entry). IsSound e.body) s.entries (λ e sound. bare-sound e.body sound) (all-unmap (λ (e : Entry). IsSound e.body) (edited bare_body) s.entries h.bodies);
  limits = sym (passed-bare s) ∙ h.limits;
}

pub layout-bare : (s : State) → IsLayout s → IsLayout (bare s)
layout-bare s h = record {
  numbers = layout.numbers;
  names = layout.names;
  places = layout.places;
  differ = layout.differ;
  bodies = layout.bodies;
  limits = passed-bare s ∙ h.limits;
}
  where
    layout : IsLayout (mapped bare_body s)
    layout = mapped-layout bare_body s bare-measures sound-bare h

-- a text is shown of the same items, and there are the same ones
pub shown-bare : (s : State) (n : ℕ) → shown_of (bare s) n ≡ shown_of s n
shown-bare s n = ap (λ (o : Option Entry). option_and_then shown_text (option_map (λ (e : Entry). e.body) o)) (entry_at-bare s n) ∙ at (entry_at s.entries n)
  where
    at : (o : Option Entry) → option_and_then shown_text (option_map (λ (e : Entry). e.body) (option_map (edited bare_body) o)) ≡ option_and_then shown_text (option_map (λ (e : Entry). e.body) o)
    at None = refl
    at (Some e) = body e.body
      where
        body : (b : Body) → shown_text (bare_body b) ≡ shown_text b
        body (File text dirty shown) = refl
        body Dir = refl
        body (Symlink target) = refl
        body (Semantic query permanent prohibited) = refl
        body (Mount space answers) = refl
        body Document = refl

-- an item is a file or a document
pub item-told : (s : State) (n : ℕ) → is_item s n ≡ (is_file_at s.entries n || is_document_at s.entries n)
item-told s n = at (body_at s.entries n)
  where
    at : (o : Option Body) → option_map_or is_linkable o false ≡ (option_map_or is_file o false || option_map_or is_document o false)
    at None = refl
    at (Some body) = refl
