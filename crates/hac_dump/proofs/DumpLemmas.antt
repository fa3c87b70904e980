-- The commands of a dump make the same tree.
use Rattle.std.proofs.Common.{◌≡◌, ℕ, Bool, true, false, cond, List, [], ◌∷◌, ◌++◌, map, subst, refl, ap, sym, ◌∙◌, inl, inr, append_assoc}
use Rattle.std.specs.Prelude.{◌||◌, ◌==◌, filter, if◌then◌else◌, replicate, Option, Some, None, IsTrue}
use Rattle.std.specs.List.{AllByRecursion, flat_map}
use Rattle.std.specs.Option.{option_map, option_map_or, unwrap_or}
use Rattle.std.proofs.lemmas.Bool.{eqb-true, or_cases}
use Rattle.std.proofs.lemmas.List.{append-nil}
use Rattle.hac_model.specs.Query.Formula.{Formula}
use Rattle.hac_model.specs.Query.QueryReading.{is_spelled_query}
use Rattle.hac_model.specs.Query.QueryText.{referred_by}
use Rattle.hac_model.specs.Script.PathWords.{is_target}
use Rattle.hac_model.specs.Tree.Depends.{Among}
use Rattle.hac_model.specs.Tree.Events.{dirty}
use Rattle.hac_model.specs.Tree.Limits.{is_text}
use Rattle.hac_model.specs.Tree.Links.{can_be_added, has, is_item}
use Rattle.hac_model.specs.Tree.{empty, entry_at, is_directory, is_directory_at, is_dirty, is_document, is_holder_at, is_linkable, is_mount, is_mount_at, is_symlink, is_symlink_at, permanent_in, prohibited_in, query_in, shown_text, target_in, text_in}
use Rattle.hac_model.specs.Tree.Valid.{AsksWell, IsSound, IsSoundQuery, IsValid, RiseFrom, is_in_place}
use Rattle.hac_model.specs.declared.commands.Command.TheVariants as command
use Rattle.hac_model.specs.declared.events.Event.{Event}
use Rattle.hac_model.specs.declared.events.Event.TheVariants as event
use Rattle.hac_model.specs.declared.resolved.Resolved.TheVariants as resolved
use Rattle.hac_model.specs.declared.states.Body.{Body}
use Rattle.hac_model.specs.declared.states.Body.TheVariants.{File, Dir, Symlink, Semantic, Mount, Document}
use Rattle.hac_model.specs.declared.states.Entry.{Entry}
use Rattle.hac_model.specs.declared.states.State.{State}
use Rattle.hac_model.proofs.AcyclicLemmas.{empty-valid}
use Rattle.hac_model.proofs.AmongLemmas.{among-has, has-among}
use Rattle.hac_model.proofs.PathLemmas.{root-none}
use Rattle.hac_model.proofs.TreeLemmas.{Lives, all-entries, directory-lives, entry_at-all}
use Rattle.hac_model.specs.Script.Dump.{first_such, dump_commands, go_back, is_shown, make_directory, make_link, put_shown, put_text, set_marks, set_query, such_by_path, word_at}
use Rattle.hac_model.specs.Tree.Same.{Same}
use Rattle.hac_dump.proofs.AddLemmas.{Leads, directories-lead, files-lead, leads-both, leads-one, links-lead}
use Rattle.hac_dump.proofs.EdgeLemmas.{among-map, lives-one}
use Rattle.hac_dump.proofs.EditLemmas.{part-alike, settled}
use Rattle.hac_dump.proofs.FinalLemmas.{final, final-stage}
use Rattle.hac_dump.proofs.FindLemmas.{no_link-directory}
use Rattle.hac_dump.proofs.MarksLemmas.{IsMarked, events_of as mark_events, marks-lead}
use Rattle.hac_dump.proofs.OrderLemmas.{base-found, base_of, directories, dirty_files, is_new, order-complete, order-is, order_of, renumber, shown_files, such-found, such-there, symlinks}
use Rattle.hac_dump.proofs.PartLemmas.{IsOrder, IsPart, Stages, order-part, part}
use Rattle.hac_dump.proofs.SameLemmas.{made-same}
use Rattle.hac_dump.proofs.SetLemmas.{IsReadable, events_of as query_events, queried, queries-lead, written-asks}
use Rattle.hac_dump.proofs.SortLemmas.{all-sorted}
use Rattle.hac_dump.proofs.StageLemmas.{IsPlainKind, begun, begun-stage, clean, clean-stage, clean-written, is_done, puts, written, written-stage}
use Rattle.hac_dump.proofs.WriteLemmas.{IsDue, event_of as text_event, makes-index, texts-lead}

-- ---- small facts

all-passing : (test : Body → Bool) (es : List Entry) → AllByRecursion (λ e. test e.body ≡ true) (filter (λ e. test e.body) es)
all-passing test [] = tt
all-passing test (e ∷ es) = elim (test e.body) as (λ b. test e.body ≡ b → AllByRecursion (λ e. test e.body ≡ true) (if b then e ∷ filter (λ e. test e.body) es else filter (λ e. test e.body) es)) [
  | true ↦ (λ is. (is, all-passing test es))
  | false ↦ (λ _. all-passing test es)
] refl

pub such-pass : (s : State) (test : Body → Bool) → AllByRecursion (λ e. test e.body ≡ true) (such_by_path s test)
such-pass s test = all-sorted s (λ e. test e.body ≡ true) (filter (λ e. test e.body) s.entries) (all-passing test s.entries)

pub all-two : {X : Type 0} (P Q R : X → Type 0) (xs : List X) → ((x : X) → P x → Q x → R x) → AllByRecursion P xs → AllByRecursion Q xs → AllByRecursion R xs
all-two P Q R [] on p q = tt
all-two P Q R (x ∷ xs) on p q = (on x p.0 q.0, all-two P Q R xs on p.1 q.1)

found-done : (es : List Entry) (n : ℕ) (e : Entry) → entry_at es n ≡ Some e → is_done es n ≡ true
found-done [] n e found = absurd cc
found-done (x ∷ es) n e found = elim (x.number == n) as (λ b. cond b (Some x) (entry_at es n) ≡ Some e → (b || is_done es n) ≡ true) [
  | true ↦ (λ _. refl)
  | false ↦ (λ found. found-done es n e found)
] found

all-among : (P : ℕ → Type 0) (ns : List ℕ) (n : ℕ) → AllByRecursion P ns → Among ns n → P n
all-among P [] n all inside = absurd inside
all-among P (m ∷ ns) n all (inl same) = subst P same all.0
all-among P (m ∷ ns) n all (inr later) = all-among P ns n all.1 later

begun-directory : (body : Body) → is_directory body ≡ true → begun body ≡ Dir
begun-directory Dir is = refl
begun-directory (Semantic q permanent prohibited) is = refl
begun-directory (Mount space kept) is = refl
begun-directory other is = absurd cc

begun-shown : (body : Body) → is_shown body ≡ true → begun body ≡ File (unwrap_or (shown_text body) []) true None
begun-shown (File text dirty (Some shown)) is = refl
begun-shown (File text dirty None) is = absurd cc
begun-shown other is = absurd cc

pub shown-fits : (body : Body) → IsSound body → is_shown body ≡ true → is_text (unwrap_or (shown_text body) []) ≡ true
shown-fits (File text dirty (Some shown)) sound is = sound.shown_fits
shown-fits (File text dirty None) sound is = absurd cc
shown-fits other sound is = absurd cc

settled-clean : (body : Body) → (is_directory body || is_shown body) ≡ true → settled (begun body) ≡ clean body
settled-clean (File text dirty (Some shown)) is = refl
settled-clean (File text dirty None) is = absurd cc
settled-clean Dir is = refl
settled-clean (Semantic q permanent prohibited) is = refl
settled-clean (Mount space kept) is = refl
settled-clean (Symlink target) is = absurd cc
settled-clean Document is = absurd cc

pub text-fits : (body : Body) → IsSound body → is_text (unwrap_or (text_in body) []) ≡ true
text-fits (File text dirty shown) sound = sound.fits
text-fits other sound = refl

written-link : (body : Body) → is_symlink body ≡ true → written body ≡ Symlink (unwrap_or (target_in body) [])
written-link (Symlink target) is = refl
written-link other is = absurd cc

pub target-fits : (body : Body) → IsSound body → is_symlink body ≡ true → is_target (unwrap_or (target_in body) []) ≡ true
target-fits (Symlink target) sound is = sound
target-fits other sound is = absurd cc

-- where none is the first that passes, none passes
pub none-such : (test : Body → Bool) (es : List Entry) → first_such test es ≡ None → AllByRecursion (λ e. test e.body ≡ false) es
none-such test [] none = tt
none-such test (e ∷ es) none = elim (test e.body) as (λ b. test e.body ≡ b → (if b then Some e.number else first_such test es) ≡ None → AllByRecursion (λ e. test e.body ≡ false) (e ∷ es)) [
  | true ↦ (λ _ found. absurd cc)
  | false ↦ (λ is none. (is, none-such test es none))
] refl none

abbrev pub HasNoMount : State → Type 0
HasNoMount s = AllByRecursion (λ e. is_mount e.body ≡ false) s.entries

module _ (s : State) (h : IsValid s) (no_mount : HasNoMount s)
    (readable : (e : Entry) (q : Formula ℕ) → entry_at s.entries e.number ≡ Some e → query_in e.body ≡ Some q → is_spelled_query (referred_by (word_at s) q) ≡ true) where
  abbrev ρ : ℕ → ℕ
  ρ = renumber s

  abbrev order : List Entry
  order = order_of s

  abbrev IsThere : Entry → Type 0
  IsThere e = entry_at s.entries e.number ≡ Some e

  -- no mount, so no document
  pub plain : (e : Entry) → IsThere e → IsPlainKind e.body
  plain e there = record { mount = entry_at-all (λ e. is_mount e.body ≡ false) s.entries e.number e no_mount there; document = at (is_document e.body) refl (entry_at-all (λ e. IsTrue (is_in_place s.entries e)) s.entries e.number e h.layout.places there) }
    where
      at : (b : Bool) → is_document e.body ≡ b → is_in_place s.entries e ≡ true → b ≡ false
      at false is place = refl
      at true is place =
          let mounted : is_mount_at s.entries e.parent ≡ true = sym (ap (λ (b : Bool). if b then is_mount_at s.entries e.parent else is_holder_at s.entries e.parent) is) ∙ place in
          let p = mount-entry mounted in
          let no : is_mount p.0.body ≡ false = entry_at-all (λ e. is_mount e.body ≡ false) s.entries e.parent p.0 no_mount p.1 in
          let never : true ≡ false = sym p.2 ∙ no in absurd cc
        where
          mount-entry : is_mount_at s.entries e.parent ≡ true → (p : Entry) × (entry_at s.entries e.parent ≡ Some p) × (is_mount p.body ≡ true)
          mount-entry mounted = by (entry_at s.entries e.parent) refl mounted
            where
              by : (o : Option Entry) → entry_at s.entries e.parent ≡ o → option_map_or is_mount (option_map (λ (e : Entry). e.body) o) false ≡ true → (p : Entry) × (entry_at s.entries e.parent ≡ Some p) × (is_mount p.body ≡ true)
              by None found mounted = absurd cc
              by (Some p) found mounted = (p, found, mounted)

  pub sound-body : (e : Entry) → IsThere e → IsSound e.body
  sound-body e there = entry_at-all (λ e. IsSound e.body) s.entries e.number e h.layout.bodies there

  o : IsOrder s ρ order
  o = order-is s h.layout plain

  pub p : IsPart s ρ order
  p = order-part s ρ order [] (subst (λ (l : List Entry). IsOrder s ρ l) (sym (append-nil order)) o)

  pub complete : (n : ℕ) → Lives s.entries n → Lives order n
  complete = order-complete s h.layout plain

  -- ---- marks

  marked-of : (e : Entry) → IsThere e → (q : Formula ℕ) (permanent prohibited : List ℕ) → e.body ≡ Semantic q permanent prohibited → IsSoundQuery s q permanent prohibited
  marked-of e there q permanent prohibited is = subst (λ (b : Body). AsksWell s b) is (entry_at-all (λ e. AsksWell s e.body) s.entries e.number e h.queries there)

  item-lives : (k : ℕ) → is_item s k ≡ true → Lives s.entries k × (is_symlink_at s.entries k ≡ false) × (is_directory_at s.entries k ≡ false)
  item-lives k item = by (entry_at s.entries k) refl item
    where
      by : (o : Option Entry) → entry_at s.entries k ≡ o → option_map_or is_linkable (option_map (λ (e : Entry). e.body) o) false ≡ true → Lives s.entries k × (is_symlink_at s.entries k ≡ false) × (is_directory_at s.entries k ≡ false)
      by None found is = absurd cc
      by (Some e) found is = (
        inr (e, found),
        ap (λ (o : Option Entry). option_map_or is_symlink (option_map (λ (e : Entry). e.body) o) false) found ∙ no-link e.body is,
        (λ i. no-root (k == 0) refl i || option_map_or is_directory (option_map (λ (e : Entry). e.body) (found i)) false) ∙ no-directory e.body is,
      )
        where
          no-link : (body : Body) → is_linkable body ≡ true → is_symlink body ≡ false
          no-link (Symlink target) is = absurd cc
          no-link other is = refl

          no-directory : (body : Body) → is_linkable body ≡ true → is_directory body ≡ false
          no-directory (File text dirty shown) is = refl
          no-directory Document is = refl
          no-directory (Symlink target) is = refl
          no-directory other is = absurd cc

          no-root : (b : Bool) → (k == 0) ≡ b → b ≡ false
          no-root false is = refl
          no-root true is = let none : None ≡ Some e = sym (ap (entry_at s.entries) (eqb-true k 0 is) ∙ root-none s h.layout) ∙ found in absurd cc

  added-lives : (k : ℕ) → can_be_added s k ≡ true → Lives s.entries k × (is_symlink_at s.entries k ≡ false)
  added-lives k can = elim (or_cases (is_item s k) (is_directory_at s.entries k) can) [
    | inl item ↦ (let known = item-lives k item in (known.0, known.1))
    | inr dir ↦ (directory-lives s.entries k dir, no_link-directory s k h.layout dir)
  ]

  pub kept : (e : Entry) (k : ℕ) → IsThere e → Among (permanent_in e.body) k → Lives s.entries k
  kept e k there inside = at e.body refl inside
    where
      at : (body : Body) → e.body ≡ body → Among (permanent_in body) k → Lives s.entries k
      at (Semantic q permanent prohibited) is inside = (added-lives k (all-among (λ n. IsTrue (can_be_added s n)) permanent k (marked-of e there q permanent prohibited is).added.there inside)).0
      at (File text dirty shown) is inside = absurd inside
      at Dir is inside = absurd inside
      at (Symlink target) is inside = absurd inside
      at (Mount space kept) is inside = absurd inside
      at Document is inside = absurd inside

  pub removed : (e : Entry) (k : ℕ) → IsThere e → Among (prohibited_in e.body) k → Lives s.entries k × (is_symlink_at s.entries k ≡ false) × (is_directory_at s.entries k ≡ false) × (Among (permanent_in e.body) k → ⊥)
  removed e k there inside = at e.body refl inside
    where
      at : (body : Body) → e.body ≡ body → Among (prohibited_in body) k → Lives s.entries k × (is_symlink_at s.entries k ≡ false) × (is_directory_at s.entries k ≡ false) × (Among (permanent_in e.body) k → ⊥)
      at (Semantic q permanent prohibited) is inside =
          let sound = marked-of e there q permanent prohibited is in
          let known = item-lives k (all-among (λ n. IsTrue (is_item s n)) prohibited k sound.removed.there inside) in (
            known.0,
            known.1,
            known.2,
            λ also.
                let none : has prohibited k ≡ false = all-among (λ n. has prohibited n ≡ false) permanent k sound.apart (subst (λ (b : Body). Among (permanent_in b) k) is also) in
                let both : true ≡ false = sym (among-has prohibited k inside) ∙ none in absurd cc,
          )
      at (File text dirty shown) is inside = absurd inside
      at Dir is inside = absurd inside
      at (Symlink target) is inside = absurd inside
      at (Mount space kept) is inside = absurd inside
      at Document is inside = absurd inside

  pub apart : (e : Entry) (k : ℕ) → IsThere e → Among (prohibited_in e.body) k → has (map ρ (permanent_in e.body)) (ρ k) ≡ false
  apart e k there inside = at (has (map ρ (permanent_in e.body)) (ρ k)) refl
    where
      at : (b : Bool) → has (map ρ (permanent_in e.body)) (ρ k) ≡ b → b ≡ false
      at false is = refl
      at true is =
          let known = removed e k there inside in
          let back = among-map ρ (permanent_in e.body) (ρ k) (has-among (map ρ (permanent_in e.body)) (ρ k) is) in
          let one : k ≡ back.0 = lives-one s ρ (λ e. written e.body) [] order h (λ e there. written-stage e.body (plain e there)) (λ e _. written-asks ρ e.body) p complete kept k back.0 (complete k known.0) (complete back.0 (kept e back.0 there back.2)) back.1 in
          absurd (known.3 (subst (λ (n : ℕ). Among (permanent_in e.body) n) (sym one) back.2))

  marked : (e : Entry) → IsThere e → IsMarked s ρ order h plain p complete kept apart e
  marked e there = record { there = there; rise = rising e.body refl; may_add = λ k inside. may e.body refl k inside; may_remove = λ k inside. removed e k there inside }
    where
      rising : (body : Body) → e.body ≡ body → RiseFrom 0 (permanent_in body)
      rising (Semantic q permanent prohibited) is = (marked-of e there q permanent prohibited is).added.rise
      rising (File text dirty shown) is = tt
      rising Dir is = tt
      rising (Symlink target) is = tt
      rising (Mount space kept) is = tt
      rising Document is = tt

      may : (body : Body) → e.body ≡ body → (k : ℕ) → Among (permanent_in body) k → Lives s.entries k × (is_symlink_at s.entries k ≡ false)
      may (Semantic q permanent prohibited) is k inside = added-lives k (all-among (λ n. IsTrue (can_be_added s n)) permanent k (marked-of e there q permanent prohibited is).added.there inside)
      may (File text dirty shown) is k inside = absurd inside
      may Dir is k inside = absurd inside
      may (Symlink target) is k inside = absurd inside
      may (Mount space kept) is k inside = absurd inside
      may Document is k inside = absurd inside

  -- ---- one phase behind the other

  abbrev first : List Entry → State
  first es = part ρ (λ e. begun e.body) [] es

  begun-stages : Stages s (λ e. begun e.body)
  begun-stages e there = begun-stage e.body (plain e there)

  clean-stages : Stages s (λ e. clean e.body)
  clean-stages e there = clean-stage e.body (plain e there)

  written-stages : Stages s (λ e. written e.body)
  written-stages e there = written-stage e.body (plain e there)

  abbrev fresh : List Entry
  fresh = filter is_new (dirty_files s)

  directories-made : Leads (part ρ (λ e. begun e.body) [] []) (map (make_directory s) (directories s)) (map (λ e. event.Mkdir (ρ e.parent) e.name) (directories s)) (part ρ (λ e. begun e.body) [] (directories s))
  directories-made = directories-lead s ρ (λ e. begun e.body) [] order h.layout begun-stages o [] (directories s) (shown_files s ++ (fresh ++ symlinks s))
      (append_assoc (directories s) (shown_files s) (fresh ++ symlinks s))
      (all-two (λ e. is_directory e.body ≡ true) IsThere (λ e. begun e.body ≡ Dir) (directories s) (λ e is _. begun-directory e.body is) (such-pass s is_directory) (such-there s h.layout plain is_directory))
      empty-valid

  shown-made : IsValid (part ρ (λ e. begun e.body) [] (directories s)) → Leads (part ρ (λ e. begun e.body) [] (directories s)) (map (put_shown s) (shown_files s)) (map (λ e. event.NewFile (ρ e.parent) e.name (unwrap_or (shown_text e.body) [])) (shown_files s)) (part ρ (λ e. begun e.body) [] (base_of s))
  shown-made = files-lead s ρ (λ e. begun e.body) [] order h.layout begun-stages o (λ e. unwrap_or (shown_text e.body) []) (directories s) (shown_files s) (fresh ++ symlinks s)
      (append_assoc (directories s) (shown_files s) (fresh ++ symlinks s))
      (all-two (λ e. is_shown e.body ≡ true) IsThere (λ e. (begun e.body ≡ File (unwrap_or (shown_text e.body) []) true None) × (is_text (unwrap_or (shown_text e.body) []) ≡ true)) (shown_files s)
      (λ e is there. (begun-shown e.body is, shown-fits e.body (sound-body e there) is)) (such-pass s is_shown) (such-there s h.layout plain is_shown))

  all-indexed : IsValid (part ρ (λ e. begun e.body) [] (base_of s)) → Leads (part ρ (λ e. begun e.body) [] (base_of s)) (command.Index ∷ []) (replicate (dirty (part ρ (λ e. begun e.body) [] (base_of s))) event.Step) (part ρ (λ e. clean e.body) [] (base_of s))
  all-indexed valid =
      leads-one (part ρ (λ e. begun e.body) [] (base_of s)) (part ρ (λ e. clean e.body) [] (base_of s)) command.Index resolved.Index (replicate (dirty (part ρ (λ e. begun e.body) [] (base_of s))) event.Step) valid refl
      (makes-index s ρ (λ e. begun e.body) [] (base_of s) (fresh ++ symlinks s) h.layout begun-stages o (λ e. clean e.body) valid.layout clean-stages settle)
    where
      joined : (xs ys : List Entry) → AllByRecursion (λ e. is_directory e.body ≡ true) xs → AllByRecursion (λ e. is_shown e.body ≡ true) ys → AllByRecursion (λ e. settled (begun e.body) ≡ clean e.body) (xs ++ ys)
      joined [] [] h k = tt
      joined [] (y ∷ ys) h k = (settled-clean y.body (ap (λ (b : Bool). is_directory y.body || b) k.0 ∙ or-true (is_directory y.body)), joined [] ys tt k.1)
        where
          or-true : (b : Bool) → (b || true) ≡ true
          or-true true = refl
          or-true false = refl
      joined (x ∷ xs) ys h k = (settled-clean x.body (ap (λ (b : Bool). b || is_shown x.body) h.0), joined xs ys h.1 k)

      settle : AllByRecursion (λ e. settled (begun e.body) ≡ clean e.body) (base_of s)
      settle = joined (directories s) (shown_files s) (such-pass s is_directory) (such-pass s is_shown)

  -- a file that isn't dirty is as it was written
  last-written : (es : List Entry) → AllByRecursion IsThere es → AllByRecursion (λ e. puts (λ e. clean e.body) (λ e. written e.body) (dirty_files s) e ≡ written e.body) es
  last-written [] there = tt
  last-written (e ∷ es) there = (one (is_done (dirty_files s) e.number) refl, last-written es there.1)
    where
      one : (b : Bool) → is_done (dirty_files s) e.number ≡ b → (if b then written e.body else clean e.body) ≡ written e.body
      one true is = refl
      one false is = clean-written e.body (λ text dirty shown same. subst IsSound same (sound-body e there.0)) (idle (is_dirty e.body) refl)
        where
          idle : (b : Bool) → is_dirty e.body ≡ b → b ≡ false
          idle false due = refl
          idle true due = let done : is_done (dirty_files s) e.number ≡ true = found-done (dirty_files s) e.number e (such-found s h.layout plain is_dirty e.number e there.0 due) in let both : true ≡ false = sym done ∙ is in absurd cc

  texts-made : IsValid (part ρ (λ e. clean e.body) [] (base_of s)) → Leads (part ρ (λ e. clean e.body) [] (base_of s)) (map (put_text s) (dirty_files s)) (map (text_event s ρ [] (base_of s) (symlinks s) (dirty_files s) h.layout plain) (dirty_files s)) (part ρ (λ e. written e.body) [] (base_of s ++ fresh))
  texts-made valid =
      subst (λ (v : State). Leads (part ρ (λ e. clean e.body) [] (base_of s)) (map (put_text s) (dirty_files s)) (map (text_event s ρ [] (base_of s) (symlinks s) (dirty_files s) h.layout plain) (dirty_files s)) v)
      (part-alike ρ (puts (λ e. clean e.body) (λ e. written e.body) (dirty_files s)) (λ e. written e.body) [] (base_of s ++ fresh) (last-written (base_of s ++ fresh) made))
      (subst (λ (u : State). Leads u (map (put_text s) (dirty_files s)) (map (text_event s ρ [] (base_of s) (symlinks s) (dirty_files s) h.layout plain) (dirty_files s)) (part ρ (puts (λ e. clean e.body) (λ e. written e.body) (dirty_files s)) [] (base_of s ++ fresh))) start
      (texts-lead s ρ [] (base_of s) (symlinks s) (dirty_files s) h.layout plain [] (dirty_files s) o due (subst IsValid (sym start) valid)))
    where
      start : part ρ (λ e. clean e.body) [] (base_of s ++ []) ≡ part ρ (λ e. clean e.body) [] (base_of s)
      start = ap (part ρ (λ e. clean e.body) []) (append-nil (base_of s))

      made : AllByRecursion IsThere (base_of s ++ fresh)
      made = let q = order-part s ρ (base_of s ++ fresh) (symlinks s) (subst (λ (l : List Entry). IsOrder s ρ l) (sym (append_assoc (base_of s) fresh (symlinks s))) o) in q.from

      due : AllByRecursion (IsDue s ρ [] (base_of s) (symlinks s) (dirty_files s) h.layout plain) (dirty_files s)
      due = all-two (λ e. is_dirty e.body ≡ true) IsThere (IsDue s ρ [] (base_of s) (symlinks s) (dirty_files s) h.layout plain) (dirty_files s)
          (λ e is there. record { there = there; due = is; known = λ shown. base-found s h.layout plain e.number e there shown; fits = text-fits e.body (sound-body e there) })
          (such-pass s is_dirty) (such-there s h.layout plain is_dirty)

  links-made : IsValid (part ρ (λ e. written e.body) [] (base_of s ++ fresh)) → Leads (part ρ (λ e. written e.body) [] (base_of s ++ fresh)) (map (make_link s) (symlinks s)) (map (λ e. event.Ln (ρ e.parent) e.name (unwrap_or (target_in e.body) [])) (symlinks s)) (part ρ (λ e. written e.body) [] order)
  links-made valid =
      subst (λ (l : List Entry). Leads (part ρ (λ e. written e.body) [] (base_of s ++ fresh)) (map (make_link s) (symlinks s)) (map (λ e. event.Ln (ρ e.parent) e.name (unwrap_or (target_in e.body) [])) (symlinks s)) (part ρ (λ e. written e.body) [] l)) (append_assoc (base_of s) fresh (symlinks s))
      (links-lead s ρ (λ e. written e.body) [] order h.layout written-stages o (λ e. unwrap_or (target_in e.body) []) (base_of s ++ fresh) (symlinks s) []
      (sym (append_assoc (base_of s) fresh (symlinks s)) ∙ ap (λ (l : List Entry). (base_of s ++ fresh) ++ l) (sym (append-nil (symlinks s))))
      (all-two (λ e. is_symlink e.body ≡ true) IsThere (λ e. (written e.body ≡ Symlink (unwrap_or (target_in e.body) [])) × (is_target (unwrap_or (target_in e.body) []) ≡ true)) (symlinks s)
      (λ e is there. (written-link e.body is, target-fits e.body (sound-body e there) is)) (such-pass s is_symlink) (such-there s h.layout plain is_symlink))
      valid)

  -- all entries are done at last
  all-done : (stage last : Entry → Body) (es : List Entry) → AllByRecursion IsThere es → AllByRecursion (λ e. puts stage last s.entries e ≡ last e) es
  all-done stage last [] there = tt
  all-done stage last (e ∷ es) there = (ap (λ (b : Bool). if b then last e else stage e) (found-done s.entries e.number e there.0), all-done stage last es there.1)

  all-there : AllByRecursion IsThere s.entries
  all-there = all-entries IsThere 0 s.entries s.next h.layout.numbers (λ e here. here)

  queries-made : IsValid (part ρ (λ e. written e.body) [] order) → Leads (part ρ (λ e. written e.body) [] order) (flat_map (set_query s) s.entries) (flat_map (query_events s ρ [] order h plain p complete kept) s.entries) (part ρ (λ e. queried ρ e.body) [] order)
  queries-made valid =
      subst (λ (v : State). Leads (part ρ (λ e. written e.body) [] order) (flat_map (set_query s) s.entries) (flat_map (query_events s ρ [] order h plain p complete kept) s.entries) v)
      (part-alike ρ (puts (λ e. written e.body) (λ e. queried ρ e.body) s.entries) (λ e. queried ρ e.body) [] order (all-done (λ e. written e.body) (λ e. queried ρ e.body) order p.from))
      (queries-lead s ρ [] order h plain p complete kept [] s.entries
      (all-two IsThere IsThere (IsReadable s ρ [] order h plain p complete kept) s.entries (λ e there _. record { there = there; spelled = λ q is. readable e q there is }) all-there all-there) valid)

  marks-made : IsValid (part ρ (λ e. queried ρ e.body) [] order) → Leads (part ρ (λ e. queried ρ e.body) [] order) (go_back (flat_map (set_marks s) s.entries)) (flat_map (mark_events s ρ order h plain p complete kept apart) s.entries) (part ρ (λ e. final ρ e.body) [] order)
  marks-made valid =
      subst (λ (v : State). Leads (part ρ (λ e. queried ρ e.body) [] order) (go_back (flat_map (set_marks s) s.entries)) (flat_map (mark_events s ρ order h plain p complete kept apart) s.entries) v)
      (part-alike ρ (puts (λ e. queried ρ e.body) (λ e. final ρ e.body) s.entries) (λ e. final ρ e.body) [] order (all-done (λ e. queried ρ e.body) (λ e. final ρ e.body) order p.from))
      (marks-lead s ρ order h plain p complete kept apart s.entries s.next h.layout.numbers
      (all-two IsThere IsThere (IsMarked s ρ order h plain p complete kept apart) s.entries (λ e there _. marked e there) all-there all-there) valid)

  abbrev pub made : State
  made = part ρ (λ e. final ρ e.body) [] order

  abbrev pub dump_events : List Event
  dump_events =
      map (λ e. event.Mkdir (ρ e.parent) e.name) (directories s)
      ++ (map (λ e. event.NewFile (ρ e.parent) e.name (unwrap_or (shown_text e.body) [])) (shown_files s)
      ++ (replicate (dirty (part ρ (λ e. begun e.body) [] (base_of s))) event.Step
      ++ (map (text_event s ρ [] (base_of s) (symlinks s) (dirty_files s) h.layout plain) (dirty_files s)
      ++ (map (λ e. event.Ln (ρ e.parent) e.name (unwrap_or (target_in e.body) [])) (symlinks s)
      ++ (flat_map (query_events s ρ [] order h plain p complete kept) s.entries
      ++ flat_map (mark_events s ρ order h plain p complete kept apart) s.entries)))))

  -- the commands lead from the empty tree to the tree made again
  pub dump-leads : Leads empty (dump_commands s) dump_events made
  unfolding dump_commands
  dump-leads =
      leads-both empty (first (directories s)) made (map (make_directory s) (directories s)) _ (map (λ e. event.Mkdir (ρ e.parent) e.name) (directories s)) _ refl directories-made
      (λ v. leads-both (first (directories s)) (first (base_of s)) made (map (put_shown s) (shown_files s)) _ (map (λ e. event.NewFile (ρ e.parent) e.name (unwrap_or (shown_text e.body) [])) (shown_files s)) _ refl (shown-made v)
      (λ v. leads-both (first (base_of s)) (part ρ (λ e. clean e.body) [] (base_of s)) made (command.Index ∷ []) _ (replicate (dirty (part ρ (λ e. begun e.body) [] (base_of s))) event.Step) _ refl (all-indexed v)
      (λ v. leads-both (part ρ (λ e. clean e.body) [] (base_of s)) (part ρ (λ e. written e.body) [] (base_of s ++ fresh)) made (map (put_text s) (dirty_files s)) _ (map (text_event s ρ [] (base_of s) (symlinks s) (dirty_files s) h.layout plain) (dirty_files s)) _ refl (texts-made v)
      (λ v. leads-both (part ρ (λ e. written e.body) [] (base_of s ++ fresh)) (part ρ (λ e. written e.body) [] order) made (map (make_link s) (symlinks s)) _ (map (λ e. event.Ln (ρ e.parent) e.name (unwrap_or (target_in e.body) [])) (symlinks s)) _ refl (links-made v)
      (λ v. leads-both (part ρ (λ e. written e.body) [] order) (part ρ (λ e. queried ρ e.body) [] order) made (flat_map (set_query s) s.entries) _ (flat_map (query_events s ρ [] order h plain p complete kept) s.entries) _ refl (queries-made v)
      (λ v. marks-made v))))))

  -- which is the same
  pub dump-same : Same s made
  dump-same = made-same s ρ order h plain p complete (λ e there. final-stage ρ e.body (plain e there) (λ k inside. apart e k there inside)) kept (λ e k there inside. (removed e k there inside).0) apart dump-leads.valid.layout
