-- What is stored of a state tells it: it has each entry once, the documents too.
use Rattle.std.proofs.Common.{◌≡◌, ℕ, ◌<◌, Bool, true, false, cond, List, [], ◌∷◌, ◌++◌, map, option_to_list}
use Rattle.std.proofs.Common.{refl, ap, sym, ◌∙◌, arith, eq-eqb, ne_eqb, inl, inr}
use Rattle.std.specs.Prelude.{◌⊎◌, ◌==◌, IsTrue, not, filter, flat_map, Option, Some, None}
use Rattle.std.proofs.lemmas.Bool.{cases_eq}
use Rattle.std.proofs.lemmas.List.Elements.{filter-append}
use Rattle.hac_model.specs.Payload.States.{by_number, document_entry, entries_in, listed_document, restored}
use Rattle.hac_model.specs.Payload.States.{snapshot_of, stored_entry}
use Rattle.hac_model.specs.Tree.{entry_at, is_document, is_holder_at, is_mount, is_mount_at}
use Rattle.hac_model.specs.Tree.Listing.{children, in_order, is_before, put_in_order}
use Rattle.hac_model.specs.Tree.Sessions.{sessionless}
use Rattle.hac_model.specs.Tree.Valid.{IsLayout, IsValid, NumbersRise, is_in_place}
use Rattle.hac_model.specs.declared.states.Body.{Body}
use Rattle.hac_model.specs.declared.states.Body.TheVariants.{File, Dir, Symlink, Semantic, Mount, Document}
use Rattle.hac_model.specs.declared.states.Entry.{Entry}
use Rattle.hac_model.specs.declared.states.State.{State}
use Rattle.hac_model.proofs.ChangeLemmas.{numbers-filter}
use Rattle.hac_model.proofs.TreeLemmas.{entry_at-all, entry_at-behind, entry_at-low}
use Rattle.snapshots.proofs.OrderLemmas.{From, InOrder, alike, by-in-order, by-numbered, from-lower, numbered}
use Rattle.snapshots.proofs.OrderLemmas.{numbered-other, swapped}
use Rattle.hac_model.proofs.MountLayoutLemmas.{document-is, mount-found as mount-there}

-- ---- lists

filter-cond : (p : Entry → Bool) (b : Bool) (e : Entry) (es : List Entry)
    → filter p (cond b (e ∷ es) es) ≡ cond b (cond (p e) (e ∷ filter p es) (filter p es)) (filter p es)
filter-cond p true e es = refl
filter-cond p false e es = refl

nested : (a b : Bool) (e : Entry) (es : List Entry) → cond b (cond a (e ∷ es) es) es ≡ cond a (cond b (e ∷ es) es) es
nested true true e es = refl
nested true false e es = refl
nested false true e es = refl
nested false false e es = refl

filter-swap : (p q : Entry → Bool) (es : List Entry) → filter p (filter q es) ≡ filter q (filter p es)
filter-swap p q [] = refl
filter-swap p q (e ∷ es) =
    filter-cond p (q e) e (filter q es)
    ∙ ap (λ (xs : List Entry). cond (q e) (cond (p e) (e ∷ xs) xs) xs) (filter-swap p q es)
    ∙ nested (p e) (q e) e (filter q (filter p es)) ∙ sym (filter-cond q (p e) e (filter p es))

-- numbers that rise are in order
rise-in-order : (above : ℕ) (es : List Entry) (next : ℕ) → NumbersRise above es next → From above es × InOrder es
rise-in-order above [] next h = (tt, tt)
rise-in-order above (e ∷ es) next h =
    let first : above < e.number = h.0 in
    let rest = rise-in-order e.number es next h.1 in
    ((omega arith, from-lower above e.number es (omega arith) rest.0), rest)

-- and of each number there is what is looked up
numbered-found : (n above : ℕ) (es : List Entry) (next : ℕ) → NumbersRise above es next
    → numbered n es ≡ option_to_list (entry_at es n)
numbered-found n above [] next h = refl
numbered-found n above (e ∷ es) next h = one (cases_eq e.number n) (numbered-found n e.number es next h.1)
  where
    one : (e.number ≡ n) ⊎ (e.number ≡ n → ⊥) → numbered n es ≡ option_to_list (entry_at es n)
        → numbered n (e ∷ es) ≡ option_to_list (entry_at (e ∷ es) n)
    one (inl same) rest =
        let none : entry_at es n ≡ None = entry_at-low e.number es next n h.1 (omega arith) in
        let here : (e.number == n) ≡ true = eq-eqb e.number n same in
        ap (λ (b : Bool). cond b (e ∷ numbered n es) (numbered n es)) here
        ∙ ap (λ (xs : List Entry). e ∷ xs) (rest ∙ ap (λ (o : Option Entry). option_to_list o) none)
        ∙ ap (λ (b : Bool). option_to_list (cond b (Some e) (entry_at es n))) (sym here)
    one (inr other) rest =
        numbered-other n e es other ∙ rest
        ∙ ap (λ (o : Option Entry). option_to_list o) (sym (entry_at-behind e es n other))

-- ---- the documents of a mount

-- an order by names leaves the only entry of a number where there is one
put-alone : (n : ℕ) (new : Entry) (es : List Entry) → (new.number ≡ n → numbered n es ≡ [])
    → numbered n (put_in_order new es) ≡ numbered n (new ∷ es)
put-alone n new [] alone = refl
put-alone n new (e ∷ es) alone =
    elim (is_before new.name e.name)
    as (λ b. numbered n (cond b (new ∷ e ∷ es) (e ∷ put_in_order new es)) ≡ numbered n (new ∷ e ∷ es)) [
      | true ↦ refl
      | false ↦
          ap (λ (xs : List Entry). cond (e.number == n) (e ∷ xs) xs)
          (put-alone n new es (λ own. fewer (e.number == n) (alone own)))
          ∙ swapped (e.number == n) (new.number == n) e new (numbered n es) (λ here. apart here (cases_eq new.number n))
    ]
  where
    fewer : (b : Bool) → cond b (e ∷ numbered n es) (numbered n es) ≡ [] → numbered n es ≡ []
    fewer true none = absurd cc
    fewer false none = none

    apart : (e.number == n) ≡ true → (new.number ≡ n) ⊎ (new.number ≡ n → ⊥) → (new.number == n) ≡ false
    apart here (inl own) =
        let never : e ∷ numbered n es ≡ [] = ap (λ (b : Bool). cond b (e ∷ numbered n es) (numbered n es)) (sym here)
        ∙ alone own in
        absurd cc
    apart here (inr other) = ne_eqb new.number n other

in_order-numbered : (n above : ℕ) (es : List Entry) (next : ℕ) → NumbersRise above es next
    → numbered n (in_order es) ≡ numbered n es
in_order-numbered n above [] next h = refl
in_order-numbered n above (e ∷ es) next h =
    let rest = in_order-numbered n e.number es next h.1 in
    put-alone n e (in_order es) (λ own.
    let none : entry_at es n ≡ None = entry_at-low e.number es next n h.1 (omega arith) in
    rest ∙ numbered-found n e.number es next h.1 ∙ ap (λ (o : Option Entry). option_to_list o) none)
    ∙ ap (λ (xs : List Entry). cond (e.number == n) (e ∷ xs) xs) rest

-- entries as they are told by the list of a mount
abbrev as_listed : ℕ → List Entry → List Entry
as_listed mount es = map (document_entry mount) (map listed_document es)

documents-cond : (mount : ℕ) (b : Bool) (e : Entry) (es : List Entry) → as_listed mount (cond b (e ∷ es) es)
    ≡ cond b (document_entry mount (listed_document e) ∷ as_listed mount es) (as_listed mount es)
documents-cond mount true e es = refl
documents-cond mount false e es = refl

-- the documents among entries, as they are told by that list
abbrev documents : ℕ → List Entry → List Entry
documents mount es = as_listed mount (filter (λ child. is_document child.body) es)

-- with another entry, which may be a document
abbrev documents_with : ℕ → Entry → List Entry → List Entry
documents_with mount e es = cond (is_document e.body) (document_entry mount (listed_document e) ∷ es) es

documents-if : (mount : ℕ) (b : Bool) (e : Entry) (es : List Entry) → documents mount (cond b (e ∷ es) es)
    ≡ cond b (documents_with mount e (documents mount es)) (documents mount es)
documents-if mount true e es = documents-cond mount (is_document e.body) e (filter (λ child. is_document child.body) es)
documents-if mount false e es = refl

documents-numbered : (n mount : ℕ) (es : List Entry) → numbered n (documents mount es) ≡ documents mount (numbered n es)
documents-numbered n mount [] = refl
documents-numbered n mount (e ∷ es) =
    let here : Entry = document_entry mount (listed_document e) in
    ap (numbered n) (documents-cond mount (is_document e.body) e (filter (λ child. is_document child.body) es))
    ∙ filter-cond (λ entry. entry.number == n) (is_document e.body) here (documents mount es)
    ∙ ap (λ (xs : List Entry). cond (is_document e.body) (cond (e.number == n) (here ∷ xs) xs) xs)
    (documents-numbered n mount es)
    ∙ nested (e.number == n) (is_document e.body) here (documents mount (numbered n es))
    ∙ sym (documents-if mount (e.number == n) e (numbered n es))

-- ---- kinds

mount-plain : (body : Body) → is_mount body ≡ true → not (is_document body) ≡ true
mount-plain (File text dirty shown) h = absurd cc
mount-plain Dir h = absurd cc
mount-plain (Symlink target) h = absurd cc
mount-plain (Semantic query permanent prohibited) h = absurd cc
mount-plain (Mount space answers) h = refl
mount-plain Document h = absurd cc

-- a document as it is told by its mount's list
document-told : (mount : ℕ) (d : Entry) → is_document d.body ≡ true
    → documents mount (filter (λ e. e.parent == mount) (d ∷ [])) ≡ cond (mount == d.parent) (d ∷ []) []
document-told mount d kind = one (cases_eq mount d.parent)
  where
    one : (mount ≡ d.parent) ⊎ (mount ≡ d.parent → ⊥)
        → documents mount (filter (λ e. e.parent == mount) (d ∷ [])) ≡ cond (mount == d.parent) (d ∷ []) []
    one (inl same) =
        let body : Document ≡ d.body = sym (document-is d.body kind) in
        let own : document_entry mount (listed_document d) ≡ d =
        λ i. record { number = d.number; parent = same i; name = d.name; body = body i } in
        ap (λ (b : Bool). documents mount (cond b (d ∷ []) [])) (eq-eqb d.parent mount (sym same))
        ∙ ap (λ (b : Bool). as_listed mount (cond b (d ∷ []) [])) kind
        ∙ ap (λ (e : Entry). e ∷ []) own
        ∙ ap (λ (b : Bool). cond b (d ∷ []) []) (sym (eq-eqb mount d.parent same))
    one (inr other) =
        ap (λ (b : Bool). documents mount (cond b (d ∷ []) [])) (ne_eqb d.parent mount (λ even. other (sym even)))
        ∙ ap (λ (b : Bool). cond b (d ∷ []) []) (sym (ne_eqb mount d.parent other))

-- what is no document is told by no list
plain-told : (mount : ℕ) (d : Entry) → is_document d.body ≡ false
    → documents mount (filter (λ e. e.parent == mount) (d ∷ [])) ≡ []
plain-told mount d kind = elim (d.parent == mount) as (λ b. documents mount (cond b (d ∷ []) []) ≡ []) [
  | true ↦ ap (λ (b : Bool). as_listed mount (cond b (d ∷ []) [])) kind
  | false ↦ refl
]

-- ---- a state

module _ (s : State) (h : IsLayout s) where
  -- the documents that are listed with a mount
  abbrev documents_in : ℕ → List Entry
  documents_in mount = documents mount (children s mount)

  -- those that have a number
  mount-numbered : (n mount : ℕ)
      → numbered n (documents_in mount) ≡ documents mount (filter (λ e. e.parent == mount) (numbered n s.entries))
  mount-numbered n mount =
      let rise = numbers-filter (λ e. e.parent == mount) 0 s.entries s.next h.numbers in
      documents-numbered n mount (children s mount)
      ∙ ap (λ (es : List Entry). documents mount es)
      (in_order-numbered n 0 (filter (λ e. e.parent == mount) s.entries) s.next rise
      ∙ filter-swap (λ e. e.number == n) (λ e. e.parent == mount) s.entries)

  -- entries, each with the documents that are listed with it
  abbrev told : List Entry → List Entry
  told es = flat_map entries_in (map (stored_entry s) es)

  -- they have of a number what the entries have, where no mount has a document of it
  told-plain : (n : ℕ) → ((mount : ℕ) → numbered n (documents_in mount) ≡ []) → (es : List Entry)
      → numbered n (told es) ≡ numbered n es
  told-plain n none [] = refl
  told-plain n none (e ∷ es) =
      ap (λ (xs : List Entry). cond (e.number == n) (e ∷ xs) xs)
      (filter-append (λ entry. entry.number == n) (documents_in e.number) (told es)
      ∙ ap (λ (xs : List Entry). xs ++ numbered n (told es)) (none e.number) ∙ told-plain n none es)

  -- where one mount has one, and no entry has the number, they have it once for each entry of the mount's number
  told-document : (n parent : ℕ) (d : Entry)
      → ((mount : ℕ) → numbered n (documents_in mount) ≡ cond (mount == parent) (d ∷ []) [])
      → (es : List Entry) → numbered n es ≡ [] → numbered n (told es) ≡ map (λ e. d) (numbered parent es)
  told-document n parent d one [] none = refl
  told-document n parent d one (e ∷ es) none =
      let parts = apart (e.number == n) none in
      let rest : List Entry = numbered n (documents_in e.number ++ told es) in
      ap (λ (b : Bool). cond b (e ∷ rest) rest) parts.0
      ∙ filter-append (λ entry. entry.number == n) (documents_in e.number) (told es)
      ∙ ap (λ (xs : List Entry). xs ++ numbered n (told es)) (one e.number)
      ∙ ap (λ (xs : List Entry). cond (e.number == parent) (d ∷ []) [] ++ xs) (told-document n parent d one es parts.1)
      ∙ joined (e.number == parent)
    where
      apart : (b : Bool) → cond b (e ∷ numbered n es) (numbered n es) ≡ [] → (b ≡ false) × (numbered n es ≡ [])
      apart true none = absurd cc
      apart false none = (refl, none)

      joined : (b : Bool)
          → cond b (d ∷ []) [] ++ map (λ e. d) (numbered parent es)
          ≡ map (λ e. d) (cond b (e ∷ numbered parent es) (numbered parent es))
      joined true = refl
      joined false = refl

  -- the entries that no mount lists
  abbrev plain : List Entry
  plain = filter (λ entry. not (is_document entry.body)) s.entries

  entries-found : (n : ℕ) (found : Option Entry) → entry_at s.entries n ≡ found
      → numbered n s.entries ≡ option_to_list found
  entries-found n found is =
      numbered-found n 0 s.entries s.next h.numbers ∙ ap (λ (o : Option Entry). option_to_list o) is

  mount-found : (n mount : ℕ) (found : Option Entry) → entry_at s.entries n ≡ found
      → numbered n (documents_in mount)
      ≡ documents mount (filter (λ e. e.parent == mount) (option_to_list found))
  mount-found n mount found is =
      mount-numbered n mount
      ∙ ap (λ (es : List Entry). documents mount (filter (λ e. e.parent == mount) es)) (entries-found n found is)

  plain-found : (n : ℕ) (found : Option Entry) → entry_at s.entries n ≡ found
      → numbered n plain ≡ filter (λ entry. not (is_document entry.body)) (option_to_list found)
  plain-found n found is =
      filter-swap (λ entry. entry.number == n) (λ entry. not (is_document entry.body)) s.entries
      ∙ ap (λ (es : List Entry). filter (λ entry. not (is_document entry.body)) es) (entries-found n found is)

  -- a document's mount is among them
  home-found : (d : Entry) → is_document d.body ≡ true → is_in_place s.entries d ≡ true
      → (m : Entry) × (numbered d.parent plain ≡ m ∷ [])
  home-found d kind place =
      let there : is_mount_at s.entries d.parent ≡ true =
      ap (λ (b : Bool). cond b (is_mount_at s.entries d.parent) (is_holder_at s.entries d.parent)) (sym kind) ∙ place in
      let mount = mount-there s.entries d.parent there in (
        mount.0,
        plain-found d.parent (Some mount.0) mount.1
            ∙ ap (λ (b : Bool). cond b (mount.0 ∷ []) []) (mount-plain mount.0.body mount.2),
      )

  -- of each number the lists tell what there is
  told-found : (n : ℕ) (found : Option Entry) → entry_at s.entries n ≡ found
      → numbered n (told plain) ≡ option_to_list found
  told-found n None is = told-plain n (λ mount. mount-found n mount None is) plain ∙ plain-found n None is
  told-found n (Some d) is = kinds (is_document d.body) refl
    where
      kinds : (b : Bool) → is_document d.body ≡ b → numbered n (told plain) ≡ d ∷ []
      kinds true kind =
          let place = entry_at-all (λ e. IsTrue (is_in_place s.entries e)) s.entries n d h.places is in
          let home = home-found d kind place in
          let none : numbered n plain ≡ [] = plain-found n (Some d) is
          ∙ ap (λ (b : Bool). cond (not b) (d ∷ []) []) kind in
          told-document n d.parent d (λ mount. mount-found n mount (Some d) is ∙ document-told mount d kind) plain none
          ∙ ap (λ (es : List Entry). map (λ e. d) es) home.1
      kinds false kind =
          told-plain n (λ mount. mount-found n mount (Some d) is ∙ plain-told mount d kind) plain
          ∙ plain-found n (Some d) is ∙ ap (λ (b : Bool). cond (not b) (d ∷ []) []) kind

  told-all : by_number (told plain) ≡ s.entries
  told-all =
      alike (by_number (told plain)) s.entries (by-in-order (told plain)) (rise-in-order 0 s.entries s.next h.numbers).1
      (λ n. by-numbered n (told plain) ∙ told-found n (entry_at s.entries n) refl
      ∙ sym (entries-found n (entry_at s.entries n) refl))

  pub restores : restored (snapshot_of s) ≡ sessionless s
  unfolding restored snapshot_of
  restores = ap (λ (es : List Entry). record { version = s.version; next = s.next; entries = es; sessions = [] }) told-all

pub snapshots-restore : (s : State) → IsValid s → restored (snapshot_of s) ≡ sessionless s
snapshots-restore s valid = restores s valid.layout
