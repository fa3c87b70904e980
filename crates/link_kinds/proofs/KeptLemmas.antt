-- The lists of each directory, after each change of the sets that keep them.
use Rattle.std.proofs.Common.{◌≡◌, ◌≢◌, ℕ, Bool, true, false, cond, List, [], refl, sym, ap, ◌∙◌, subst, inl, inr, Option, Some, None}
use Rattle.std.specs.Prelude.{◌==◌, ◌&&◌, ◌||◌, IsTrue, is_some, nat_eq, not, unwrap_or}
use Rattle.std.specs.Option.{option_map, option_map_or}
use Rattle.std.proofs.lemmas.Bool.{cases_eq, eq-eqb, eqb-true, ne_eqb}
use Rattle.indexmap.specs.IndexMap.{get}
use Rattle.hac_model.specs.declared.marks.Kind.{Kind}
use Rattle.set_pool.specs.Rising.{removed}
use Rattle.set_pool.specs.Sets as pool
use Rattle.set_pool.specs.Sets.{AllListsRise, SameLive, Sets, is_live, list_of, members_of}
use Rattle.std.specs.List.Sorted.{IsStrictlyIncreasing}
use Rattle.std.specs.Map.{lookup}
use Rattle.link_kinds.specs.Kept.{AreDistinct, AreFresh, AreLinksKept, AreLive, ChangesAll, OthersStay, dir_lists, has_set, is_one_of, is_owner, seen_of}
use Rattle.link_kinds.specs.Kinds.{AreApart, Lists, kind_in, no_lists, with_kind, with_lent, without_item}
use Rattle.link_kinds.specs.Seen.{AllApart, ChangesDir, DropsItem, Known, SameKinds, SameLinks, has_sets, kind_at, lists_in}
use Rattle.link_kinds.specs.declared.links.Links.TheInside.{Inside}
use Rattle.link_kinds.specs.declared.sets.DirSets.{DirSets}
use Rattle.link_kinds.proofs.KindLemmas.{apart-none, kind-with}
use Rattle.link_kinds.proofs.SeenLemmas.{empty-rises, has-seen, lists-seen, lists_under}

or-true : (b : Bool) → (b || true) ≡ true
or-true true = refl
or-true false = refl

-- each of the four sets is one of them
pub own : (sets : DirSets) → IsTrue (is_one_of sets sets.transient) × IsTrue (is_one_of sets sets.permanent) × IsTrue (is_one_of sets sets.prohibited) × IsTrue (is_one_of sets sets.lent)
own sets = (
  (let e = eq-eqb sets.transient sets.transient refl in rw e refl),
  (let e = eq-eqb sets.permanent sets.permanent refl in rw e (or-true (sets.permanent == sets.transient))),
  (let e = eq-eqb sets.prohibited sets.prohibited refl in rw e (past (sets.prohibited == sets.transient) (or-true (sets.prohibited == sets.permanent)))),
  (let e = eq-eqb sets.lent sets.lent refl in rw e (past (sets.lent == sets.transient) (past (sets.lent == sets.permanent) (or-true (sets.lent == sets.prohibited))))),
)
  where
    past : (a : Bool) {b : Bool} → b ≡ true → (a || b) ≡ true
    past a is = ap (λ b. a || b) is ∙ or-true a

-- whether a set is one of those that a directory has
abbrev has_in : ℕ → Option DirSets → Bool
has_in set sets = option_map_or (λ sets. is_one_of sets set) sets false

-- as the sets of a directory hold what they held, so do its lists
under-stay : (p q : Sets) (o : Option DirSets) → ((set : ℕ) → IsTrue (has_in set o) → list_of q set ≡ list_of p set) → lists_under q o ≡ lists_under p o
under-stay p q None stay = refl
under-stay p q (Some sets) stay =
    let o = own sets in
    λ i. record { transient = unwrap_or (stay sets.transient o.0 i) []; permanent = unwrap_or (stay sets.permanent o.1 i) []; prohibited = unwrap_or (stay sets.prohibited o.2 i) []; lent = unwrap_or (stay sets.lent o.3 i) [] }

module _ (links : Inside) (kept : AreLinksKept links) (dir : ℕ) (sets : DirSets) (there : Some sets ≡ get nat_eq links.dirs dir) where
  of-dir : (set : ℕ) → is_one_of sets set ≡ is_owner (kept.owner set) dir
  of-dir set = ap (has_in set) there ∙ kept.owned dir set

  -- the sets of a directory are live, and no two of them are one
  pub are-live : AreLive links.pool sets
  are-live = let o = own sets in (alive sets.transient o.0, alive sets.permanent o.1, alive sets.prohibited o.2, alive sets.lent o.3)
    where
      some : (o : Option ℕ) → IsTrue (is_owner o dir) → IsTrue (is_some o)
      some None is = is
      some (Some n) is = refl

      alive : (set : ℕ) → IsTrue (is_one_of sets set) → IsTrue (is_live links.pool set)
      alive set is = kept.live set ∙ some (kept.owner set) (sym (of-dir set) ∙ is)

  -- a set of another directory isn't one of them
  pub apart-set : (d set : ℕ) → d ≢ dir → IsTrue (has_set links d set) → is_one_of sets set ≡ false
  apart-set d set differ is = of-dir set ∙ by_owner (kept.owner set) (sym (kept.owned d set) ∙ is)
    where
      by_owner : (o : Option ℕ) → IsTrue (is_owner o d) → is_owner o dir ≡ false
      by_owner None is = refl
      by_owner (Some n) is = ne_eqb dir n (λ same. differ (eqb-true d n is ∙ sym same))

-- links that were just made
pub kept-new : (links : Inside) → links.dirs.entries ≡ [] → ((set : ℕ) → list_of links.pool set ≡ None) → AreLinksKept links
kept-new links empty none =
    record {
      owner = λ set. None;
      live = λ set. ap is_some (none set);
      owned = λ d set. ap (has_in set) (absent d);
      distinct = λ d sets there. (let gone = absent d in absurd cc);
      rise = λ set. subst (λ list. IsStrictlyIncreasing (unwrap_or list [])) (sym (none set)) empty-rises;
      kinds = λ d. subst AreApart (ap (lists_under links.pool) (sym (absent d)) ∙ sym (lists-seen links (seen_of links) refl d)) apart-none;
    }
  where
    absent : (d : ℕ) → get nat_eq links.dirs d ≡ None
    absent d = ap (lookup (nat_eq d)) empty

-- what is told of one of two things is one of what is told of each
told-if : {A B : Type 0} (tell : A → B) (b : Bool) (x y : A) → tell (cond b x y) ≡ cond b (tell x) (tell y)
told-if tell true x y = refl
told-if tell false x y = refl

-- the lists of one directory change, and those of the others stay
apart-changed : (old new : Known) (dir : ℕ) (lists : Lists) → ChangesDir old new dir lists → AreApart lists → AllApart old → AllApart new
apart-changed old new dir lists change here all d = subst AreApart (sym (change d)) (elim (d == dir) as (λ b. AreApart (cond b lists (lists_in old d))) [ true ↦ here | false ↦ all d ])

-- a directory without lists has none if they are taken
pub none-in : (seen : Known) (dir : ℕ) → lists_in seen dir ≡ no_lists → (d : ℕ) → cond (d == dir) no_lists (lists_in seen d) ≡ lists_in seen d
none-in seen dir none d = by_dir (d == dir) refl
  where
    by_dir : (b : Bool) → (d == dir) ≡ b → cond b no_lists (lists_in seen d) ≡ lists_in seen d
    by_dir true is = sym (ap (lists_in seen) (eqb-true d dir is) ∙ none)
    by_dir false is = refl

module _ (old new : Inside) (seen : Known) (view_is : seen_of old ≡ seen) where
  -- the lists of one directory change
  changes : (dir : ℕ) → ((d : ℕ) → d ≢ dir → get nat_eq new.dirs d ≡ get nat_eq old.dirs d) → ((d set : ℕ) → d ≢ dir → IsTrue (has_set old d set) → list_of new.pool set ≡ list_of old.pool set) → (lists : Lists) → lists_under new.pool (get nat_eq new.dirs dir) ≡ lists → ChangesDir seen (seen_of new) dir lists
  changes dir others stay lists here d =
      lists-seen new (seen_of new) refl d
      ∙ elim (cases_eq d dir) [
        | inl same ↦ (let e = eq-eqb d dir same in ap (λ d. lists_under new.pool (get nat_eq new.dirs d)) same ∙ here ∙ (rw e refl))
        | inr differ ↦ (let e = ne_eqb d dir differ in
            ap (lists_under new.pool) (others d differ)
            ∙ under-stay old.pool new.pool (get nat_eq old.dirs d) (λ set is. stay d set differ is)
            ∙ sym (lists-seen old seen view_is d)
            ∙ (rw e refl))
      ]

  -- the directories keep their sets
  module _ (dirs : (d : ℕ) → get nat_eq new.dirs d ≡ get nat_eq old.dirs d) where
    pub sets-kept : SameLinks seen (seen_of new)
    sets-kept d = has-seen new (seen_of new) refl d ∙ ap is_some (dirs d) ∙ sym (has-seen old seen view_is d)

    pub kept-still : AreLinksKept old → SameLive old.pool new.pool → AllListsRise new.pool → AllApart (seen_of new) → AreLinksKept new
    kept-still kept live rise kinds =
        record {
          owner = kept.owner;
          live = λ set. live set ∙ kept.live set;
          owned = λ d set. ap (has_in set) (dirs d) ∙ kept.owned d set;
          distinct = λ d sets there. kept.distinct d sets (sym (dirs d) ∙ there);
          rise = rise;
          kinds = kinds;
        }

    -- an item goes out of every set
    pub drops-item : (item : ℕ) → pool.Drops old.pool new.pool item → DropsItem seen (seen_of new) item
    drops-item item drops d =
        lists-seen new (seen_of new) refl d
        ∙ ap (lists_under new.pool) (dirs d)
        ∙ under-drop (get nat_eq old.dirs d)
        ∙ ap (without_item item) (sym (lists-seen old seen view_is d))
      where
        thin : (list : Option (List ℕ)) → unwrap_or (option_map (removed item) list) [] ≡ removed item (unwrap_or list [])
        thin None = refl
        thin (Some list) = refl

        thinned : (set : ℕ) → members_of new.pool set ≡ removed item (members_of old.pool set)
        thinned set = ap (λ list. unwrap_or list []) (drops set) ∙ thin (list_of old.pool set)

        under-drop : (o : Option DirSets) → lists_under new.pool o ≡ without_item item (lists_under old.pool o)
        under-drop None = refl
        under-drop (Some sets) = λ i. record { transient = thinned sets.transient i; permanent = thinned sets.permanent i; prohibited = thinned sets.prohibited i; lent = thinned sets.lent i }

  -- one directory gets sets, or loses those that it has
  module _ (dir : ℕ) (now : Option DirSets) (dirs : (d : ℕ) → get nat_eq new.dirs d ≡ cond (d == dir) now (get nat_eq old.dirs d)) where
    pub sets-changed : (d : ℕ) → has_sets (seen_of new) d ≡ cond (d == dir) (is_some now) (has_sets seen d)
    sets-changed d =
        has-seen new (seen_of new) refl d
        ∙ ap is_some (dirs d)
        ∙ told-if is_some (d == dir) now (get nat_eq old.dirs d)
        ∙ ap (cond (d == dir) (is_some now)) (sym (has-seen old seen view_is d))

    here : get nat_eq new.dirs dir ≡ now
    here = let e = eq-eqb dir dir refl in dirs dir ∙ (rw e refl)

    there : (d : ℕ) → d ≢ dir → get nat_eq new.dirs d ≡ get nat_eq old.dirs d
    there d differ = let e = ne_eqb d dir differ in dirs d ∙ (rw e refl)

    pub changes-alone : old.pool ≡ new.pool → lists_under new.pool now ≡ no_lists → ChangesDir seen (seen_of new) dir no_lists
    changes-alone same none = changes dir there (λ d set differ is. ap (λ pool. list_of pool set) (sym same)) no_lists (ap (lists_under new.pool) here ∙ none)

    module _ (sets : DirSets) (list : Option (List ℕ)) (lists : ChangesAll old.pool new.pool sets list) (none : lists_under new.pool now ≡ no_lists) (apart : (d set : ℕ) → d ≢ dir → IsTrue (has_set old d set) → is_one_of sets set ≡ false) where
      pub changes-all : ChangesDir seen (seen_of new) dir no_lists
      changes-all = changes dir there (λ d set differ is. let e = apart d set differ is in lists set ∙ (rw e refl)) no_lists (ap (lists_under new.pool) here ∙ none)

      pub kept-all : (kept : AreLinksKept old) (owner : Option ℕ) → is_some list ≡ is_some owner → ((d set : ℕ) → cond (d == dir) (has_in set now) (has_set old d set) ≡ cond (is_one_of sets set) (is_owner owner d) (has_set old d set)) → ((sets : DirSets) → now ≡ Some sets → AreDistinct sets) → AllApart seen → AllListsRise new.pool → AreLinksKept new
      kept-all kept owner live owns distinct kinds rise =
          record {
            owner = λ set. cond (is_one_of sets set) owner (kept.owner set);
            live = λ set.
                ap is_some (lists set)
                ∙ told-if is_some (is_one_of sets set) list (list_of old.pool set)
                ∙ (λ i. cond (is_one_of sets set) (live i) (kept.live set i))
                ∙ sym (told-if is_some (is_one_of sets set) owner (kept.owner set));
            owned = λ d set.
                ap (has_in set) (dirs d)
                ∙ told-if (has_in set) (d == dir) now (get nat_eq old.dirs d)
                ∙ owns d set
                ∙ ap (cond (is_one_of sets set) (is_owner owner d)) (kept.owned d set)
                ∙ sym (told-if (λ owner. is_owner owner d) (is_one_of sets set) owner (kept.owner set));
            distinct = λ d s is. elim (cases_eq d dir) [
              | inl same ↦ distinct s (sym here ∙ ap (get nat_eq new.dirs) (sym same) ∙ is)
              | inr differ ↦ kept.distinct d s (sym (there d differ) ∙ is)
            ];
            rise = rise;
            kinds = apart-changed seen (seen_of new) dir no_lists changes-all apart-none kinds;
          }

-- the sets of one directory change
module _ (links : Inside) (kept : AreLinksKept links) (dir : ℕ) (sets : DirSets) (there : Some sets ≡ get nat_eq links.dirs dir) (change : Lists → Lists) (q : Sets) (others : OthersStay links.pool q sets) (lists : dir_lists q sets ≡ change (dir_lists links.pool sets)) where
  pub changes-own : (seen : Known) → seen_of links ≡ seen → ChangesDir seen (seen_of (record links { pool = q })) dir (change (lists_in seen dir))
  changes-own seen view_is =
      changes links (record links { pool = q }) seen view_is dir (λ d differ. refl) (λ d set differ is. others set (apart-set links kept dir sets there d set differ is)) (change (lists_in seen dir))
      (ap (lists_under q) (sym there) ∙ lists ∙ ap change (ap (lists_under links.pool) there ∙ sym (lists-seen links seen view_is dir)))

  pub kept-own : SameLive links.pool q → AllListsRise q → ((lists : Lists) → AreApart lists → AreApart (change lists)) → AreLinksKept (record links { pool = q })
  kept-own live rise apart =
      kept-still links (record links { pool = q }) (seen_of links) refl (λ d. refl) kept live rise
      (apart-changed (seen_of links) (seen_of (record links { pool = q })) dir (change (lists_in (seen_of links) dir)) (changes-own (seen_of links) refl) (apart (lists_in (seen_of links) dir) (kept.kinds dir)) kept.kinds)

module _ (old new : Inside) (kept : AreLinksKept old) (dir : ℕ) (sets : DirSets) where
  -- a directory gets sets, which are new
  module _ (none : get nat_eq old.dirs dir ≡ None) (dirs : (d : ℕ) → get nat_eq new.dirs d ≡ cond (d == dir) (Some sets) (get nat_eq old.dirs d)) (made : ChangesAll old.pool new.pool sets (Some [])) (fresh : AreFresh old.pool sets) where
    unowned : (set : ℕ) → IsTrue (is_one_of sets set) → (d : ℕ) → has_set old d set ≡ false
    unowned set one d = kept.owned d set ∙ by_owner (kept.owner set) (sym (kept.live set) ∙ fresh set one)
      where
        by_owner : (o : Option ℕ) → is_some o ≡ false → is_owner o d ≡ false
        by_owner None gone = refl
        by_owner (Some n) gone = absurd cc

    apart : (d set : ℕ) → d ≢ dir → IsTrue (has_set old d set) → is_one_of sets set ≡ false
    apart d set differ is = by_one (is_one_of sets set) refl
      where
        by_one : (b : Bool) → is_one_of sets set ≡ b → b ≡ false
        by_one true one = let gone = unowned set one d in let own : has_set old d set ≡ true = is in absurd cc
        by_one false one = refl

    empty : dir_lists new.pool sets ≡ no_lists
    empty = let o = own sets in λ i. record { transient = members sets.transient o.0 i; permanent = members sets.permanent o.1 i; prohibited = members sets.prohibited o.2 i; lent = members sets.lent o.3 i }
      where
        members : (set : ℕ) → IsTrue (is_one_of sets set) → members_of new.pool set ≡ []
        members set one = ap (λ list. unwrap_or list []) (made set ∙ ap (λ b. cond b (Some []) (list_of old.pool set)) one)

    pub same-added : (seen : Known) → seen_of old ≡ seen → SameKinds seen (seen_of new)
    same-added seen view_is d =
        changes-all old new seen view_is dir (Some sets) dirs sets (Some []) made empty apart d
        ∙ none-in seen dir (lists-seen old seen view_is dir ∙ ap (lists_under old.pool) none) d

    pub kept-added : AreDistinct sets → AllListsRise new.pool → AreLinksKept new
    kept-added distinct rise =
        kept-all old new (seen_of old) refl dir (Some sets) dirs sets (Some []) made empty apart kept (Some dir) refl owns (λ s is. subst AreDistinct (let same : sets ≡ s = cc in same) distinct) kept.kinds rise
      where
        swapped : (e b w : Bool) → (b ≡ true → w ≡ false) → (e ≡ true → w ≡ false) → cond e b w ≡ cond b e w
        swapped true true w one here = refl
        swapped true false w one here = sym (here refl)
        swapped false true w one here = one refl
        swapped false false w one here = refl

        owns : (d set : ℕ) → cond (d == dir) (is_one_of sets set) (has_set old d set) ≡ cond (is_one_of sets set) (d == dir) (has_set old d set)
        owns d set = swapped (d == dir) (is_one_of sets set) (has_set old d set) (λ one. unowned set one d) (λ same. ap (λ d. has_set old d set) (eqb-true d dir same) ∙ ap (has_in set) none)

  -- a directory loses its sets
  module _ (there : Some sets ≡ get nat_eq old.dirs dir) (dirs : (d : ℕ) → get nat_eq new.dirs d ≡ cond (d == dir) None (get nat_eq old.dirs d)) (freed : ChangesAll old.pool new.pool sets None) where
    pub changes-dropped : (seen : Known) → seen_of old ≡ seen → ChangesDir seen (seen_of new) dir no_lists
    changes-dropped seen view_is = changes-all old new seen view_is dir None dirs sets None freed refl (apart-set old kept dir sets there)

    pub kept-dropped : AllListsRise new.pool → AreLinksKept new
    kept-dropped rise =
        kept-all old new (seen_of old) refl dir None dirs sets None freed refl (apart-set old kept dir sets there) kept None refl owns (λ s is. absurd cc) kept.kinds rise
      where
        swapped : (e b w : Bool) → (b ≡ true → w ≡ e) → (e ≡ true → w ≡ b) → cond e false w ≡ cond b false w
        swapped true true w one here = refl
        swapped true false w one here = sym (here refl)
        swapped false true w one here = one refl
        swapped false false w one here = refl

        by_owner : (d : ℕ) (o : Option ℕ) → IsTrue (is_owner o dir) → is_owner o d ≡ (d == dir)
        by_owner d None is = absurd cc
        by_owner d (Some n) is = ap (λ n. d == n) (sym (eqb-true dir n is))

        owns : (d set : ℕ) → cond (d == dir) false (has_set old d set) ≡ cond (is_one_of sets set) false (has_set old d set)
        owns d set =
            swapped (d == dir) (is_one_of sets set) (has_set old d set)
            (λ one. kept.owned d set ∙ by_owner d (kept.owner set) (sym (of-dir old kept dir sets there set) ∙ one))
            (λ same. ap (λ d. has_set old d set) (eqb-true d dir same) ∙ ap (has_in set) (sym there))

-- a directory that has no sets loses none
pub kept-absent : (old new : Inside) (dir : ℕ) → AreLinksKept old → None ≡ get nat_eq old.dirs dir → old.pool ≡ new.pool → ((d : ℕ) → get nat_eq new.dirs d ≡ cond (d == dir) None (get nat_eq old.dirs d)) → AreLinksKept new
kept-absent old new dir kept none same dirs =
    kept-still old new (seen_of old) refl still kept (λ set. ap (λ pool. is_live pool set) (sym same)) (subst AllListsRise same kept.rise)
    (apart-changed (seen_of old) (seen_of new) dir no_lists (changes-alone old new (seen_of old) refl dir None dirs same refl) apart-none kept.kinds)
  where
    still : (d : ℕ) → get nat_eq new.dirs d ≡ get nat_eq old.dirs d
    still d = dirs d ∙ by_dir (d == dir) refl
      where
        by_dir : (b : Bool) → (d == dir) ≡ b → cond b None (get nat_eq old.dirs d) ≡ get nat_eq old.dirs d
        by_dir true is = none ∙ ap (get nat_eq old.dirs) (sym (eqb-true d dir is))
        by_dir false is = refl

-- the kinds of items, after the lists of one directory changed
pub kinds-set : (old new : Known) (dir item : ℕ) (kind : Kind) → ChangesDir old new dir (with_kind kind item (lists_in old dir)) → (d i : ℕ) → kind_at new d i ≡ cond (d == dir && i == item) kind (kind_at old d i)
kinds-set old new dir item kind change d i = ap (λ lists. kind_in lists i) (change d) ∙ by_dir (d == dir) refl
  where
    by_dir : (b : Bool) → (d == dir) ≡ b → kind_in (cond b (with_kind kind item (lists_in old dir)) (lists_in old d)) i ≡ cond (b && i == item) kind (kind_at old d i)
    by_dir true is = kind-with kind item i (lists_in old dir) ∙ ap (λ d. cond (i == item) kind (kind_at old d i)) (sym (eqb-true d dir is))
    by_dir false is = refl

-- the kinds of items, after one was lent or is no longer
pub kinds-lent : (old new : Known) (dir item : ℕ) (on : Bool) → ChangesDir old new dir (with_lent on item (lists_in old dir)) → (d i : ℕ) → kind_at new d i ≡ kind_at old d i
kinds-lent old new dir item on change d i = ap (λ lists. kind_in lists i) (change d) ∙ by_dir (d == dir) refl
  where
    by_dir : (b : Bool) → (d == dir) ≡ b → kind_in (cond b (with_lent on item (lists_in old dir)) (lists_in old d)) i ≡ kind_at old d i
    by_dir true is = ap (λ d. kind_at old d i) (sym (eqb-true d dir is))
    by_dir false is = refl

-- whether a directory has its sets
pub gets-sets : (e had : Bool) → cond e true had ≡ (had || e)
gets-sets true true = refl
gets-sets true false = refl
gets-sets false true = refl
gets-sets false false = refl

pub loses-sets : (e had : Bool) → cond e false had ≡ (had && not e)
loses-sets true true = refl
loses-sets true false = refl
loses-sets false true = refl
loses-sets false false = refl

pub sets-there : (old new : Known) (dir : ℕ) → SameLinks old new → has_sets old dir ≡ true → (d : ℕ) → has_sets new d ≡ (has_sets old d || d == dir)
sets-there old new dir same there d = same d ∙ by_dir (d == dir) refl ∙ gets-sets (d == dir) (has_sets old d)
  where
    by_dir : (b : Bool) → (d == dir) ≡ b → has_sets old d ≡ cond b true (has_sets old d)
    by_dir true is = ap (has_sets old) (eqb-true d dir is) ∙ there
    by_dir false is = refl

pub none-there : {X : Type 0} (o : Option X) → is_some o ≡ false → o ≡ None
none-there None e = refl
none-there (Some x) e = absurd cc
