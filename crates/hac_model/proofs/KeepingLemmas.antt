-- What mounts keep: their documents, and an answer for each term in use.
use Rattle.std.proofs.Common.{◌≡◌, ℕ, ◌≤◌, Bool, true, false, List, [], ◌∷◌, ◌++◌, length, map, refl, ap, sym, ◌∙◌, arith, subst}
use Rattle.std.specs.Prelude.{◌==◌, ◌&&◌, if◌then◌else◌, filter, nat_le, Option, Some, None, IsTrue}
use Rattle.std.specs.Option.{option_map, option_map_or}
use Rattle.std.specs.List.{AllByRecursion}
use Rattle.std.proofs.lemmas.Bool.{and_parts, leb-true, le-leb}
use Rattle.hac_model.specs.Tree.Events.{changed_in, edited}
use Rattle.hac_model.specs.Tree.Mounts.{is_kept, terms_in, terms_in_use}
use Rattle.hac_model.specs.Tree.{entry_at, is_document}
use Rattle.hac_model.specs.Tree.Valid.{IsAnswer, KeepsWell, has_few, is_document_of}
use Rattle.hac_model.specs.declared.states.Answer.{Answer}
use Rattle.hac_model.specs.declared.states.Body.{Body}
use Rattle.hac_model.specs.declared.states.Body.TheVariants.{Mount}
use Rattle.hac_model.specs.declared.states.Entry.{Entry}
use Rattle.hac_model.specs.declared.states.State.{State}
use Rattle.hac_model.specs.declared.terms.Term.{Term}
use Rattle.hac_model.proofs.ChangeLemmas.{all-joined, all-weaker, is_kept as is_left}

-- What a mount keeps stays sound from one state to another, where its documents stay, it gets no more, and its answers
-- are those for all terms in use.

-- documents of a mount stay its documents
abbrev pub DocumentsStay : State → State → Type 0
DocumentsStay s t = (m n : ℕ) → is_document_of s m n ≡ true → is_document_of t m n ≡ true

-- each term of these has an answer
abbrev pub AreKept : List Answer → List Term → Type 0
AreKept answers terms = AllByRecursion (λ term. IsTrue (is_kept answers term)) terms

-- answers for all terms in use are those for all that are in use then
abbrev pub TermsStay : State → State → Type 0
TermsStay s t = (m : ℕ) (answers : List Answer) → AreKept answers (terms_in_use s.entries) → AreKept answers (terms_in_use t.entries)

pub answer-stays : (s t : State) (m : ℕ) (answer : Answer) → DocumentsStay s t → IsAnswer s m answer → IsAnswer t m answer
answer-stays s t m answer documents h = record {
  fits = h.fits;
  rise = h.rise;
  documents = all-weaker (λ n. IsTrue (is_document_of s m n)) (λ n. IsTrue (is_document_of t m n)) answer.documents (λ n there. documents m n there) h.documents;
}

pub keeps-stays : (s t : State) (m : ℕ) (body : Body) → DocumentsStay s t → ((m : ℕ) → has_few s.version s.entries m ≡ true → has_few t.version t.entries m ≡ true) → TermsStay s t → KeepsWell s m body → KeepsWell t m body
keeps-stays s t m (Mount space answers) documents few terms h = record {
  few = few m h.few;
  rise = h.rise;
  sound = all-weaker (IsAnswer s m) (IsAnswer t m) answers (λ answer sound. answer-stays s t m answer documents sound) h.sound;
  all = terms m answers h.all;
}
keeps-stays s t m other documents few terms h = tt

-- Terms in use, by entries.

pub all-parted : {X : Type 0} (P : X → Type 0) (xs ys : List X) → AllByRecursion P (xs ++ ys) → AllByRecursion P xs × AllByRecursion P ys
all-parted P [] ys h = (tt, h)
all-parted P (x ∷ xs) ys h = let parts = all-parted P xs ys h.1 in ((h.0, parts.0), parts.1)

abbrev pub EachKept : List Answer → List Entry → Type 0
EachKept answers es = AllByRecursion (λ e. AreKept answers (terms_in e.body)) es

pub each-kept : (answers : List Answer) (es : List Entry) → AreKept answers (terms_in_use es) → EachKept answers es
each-kept answers [] h = tt
each-kept answers (e ∷ es) h = let parts = all-parted (λ term. IsTrue (is_kept answers term)) (terms_in e.body) (terms_in_use es) h in (parts.0, each-kept answers es parts.1)

pub all-kept : (answers : List Answer) (es : List Entry) → EachKept answers es → AreKept answers (terms_in_use es)
all-kept answers [] h = tt
all-kept answers (e ∷ es) h = all-joined (λ term. IsTrue (is_kept answers term)) (terms_in e.body) (terms_in_use es) h.0 (all-kept answers es h.1)

-- How many entries a directory has.

abbrev pub inside : ℕ → List Entry → List Entry
inside m es = filter (λ (e : Entry). e.parent == m) es

pub fewer : (most n m : ℕ) → m ≤ n → nat_le n most ≡ true → nat_le m most ≡ true
fewer most n m less few = let within : n ≤ most = leb-true n most few in le-leb m most (omega (arith, less, within))

-- a change that puts no entry into the directory
pub inside-changed : (m n : ℕ) (change : Entry → Entry) (es : List Entry) → ((e : Entry) → ((change e).parent == m) ≡ true → (e.parent == m) ≡ true) → length (inside m (changed_in n change es)) ≤ length (inside m es)
inside-changed m n change [] stays = omega arith
inside-changed m n change (e ∷ es) stays =
    let rest = inside-changed m n change es stays in
    elim (e.number == n) as (λ b. length (inside m ((if b then change e else e) ∷ changed_in n change es)) ≤ length (inside m (e ∷ es))) [
      | true ↦ elim ((change e).parent == m) as (λ b. ((change e).parent == m) ≡ b → length (if b then change e ∷ inside m (changed_in n change es) else inside m (changed_in n change es)) ≤ length (inside m (e ∷ es))) [
        | true ↦ (λ here. subst (λ (b : Bool). length (change e ∷ inside m (changed_in n change es)) ≤ length (if b then e ∷ inside m es else inside m es)) (sym (stays e here)) (omega (arith, rest)))
        | false ↦ (λ here. less (e.parent == m) rest)
      ] refl
      | false ↦ both (e.parent == m) rest
    ]
  where
    less : (b : Bool) → length (inside m (changed_in n change es)) ≤ length (inside m es) → length (inside m (changed_in n change es)) ≤ length (if b then e ∷ inside m es else inside m es)
    less true rest = omega (arith, rest)
    less false rest = rest

    both : (b : Bool) → length (inside m (changed_in n change es)) ≤ length (inside m es) → length (if b then e ∷ inside m (changed_in n change es) else inside m (changed_in n change es)) ≤ length (if b then e ∷ inside m es else inside m es)
    both true rest = omega (arith, rest)
    both false rest = rest

pub inside-left : (m n : ℕ) (es : List Entry) → length (inside m (filter (is_left n) es)) ≤ length (inside m es)
inside-left m n [] = omega arith
inside-left m n (e ∷ es) =
    let rest = inside-left m n es in
    elim (is_left n e) as (λ b. length (inside m (if b then e ∷ filter (is_left n) es else filter (is_left n) es)) ≤ length (inside m (e ∷ es))) [
      | true ↦ elim (e.parent == m) as (λ b. length (if b then e ∷ inside m (filter (is_left n) es) else inside m (filter (is_left n) es)) ≤ length (if b then e ∷ inside m es else inside m es)) [ true ↦ omega (arith, rest) | false ↦ rest ]
      | false ↦ elim (e.parent == m) as (λ b. length (inside m (filter (is_left n) es)) ≤ length (if b then e ∷ inside m es else inside m es)) [ true ↦ omega (arith, rest) | false ↦ rest ]
    ]

pub inside-mapped : (m : ℕ) (edit : Body → Body) (es : List Entry) → length (inside m (map (edited edit) es)) ≡ length (inside m es)
inside-mapped m edit [] = refl
inside-mapped m edit (e ∷ es) =
    let rest = inside-mapped m edit es in
    elim (e.parent == m) as (λ b. length (if b then edited edit e ∷ inside m (map (edited edit) es) else inside m (map (edited edit) es)) ≡ length (if b then e ∷ inside m es else inside m es)) [ true ↦ omega (arith, rest) | false ↦ rest ]

pub inside-added : (m : ℕ) (es : List Entry) (new : Entry) → (new.parent == m) ≡ false → inside m (es ++ new ∷ []) ≡ inside m es
inside-added m [] new other = ap (λ (b : Bool). if b then new ∷ [] else []) other
inside-added m (e ∷ es) new other = ap (λ (rest : List Entry). if e.parent == m then e ∷ rest else rest) (inside-added m es new other)

-- Whose document a number is, by its entry.

abbrev pub document_by : ℕ → Option Entry → Bool
document_by m o = option_map_or is_document (option_map (λ (e : Entry). e.body) o) false && (option_map_or (λ (e : Entry). e.parent) o 0 == m)

pub same-document : (s t : State) (m n : ℕ) → entry_at t.entries n ≡ entry_at s.entries n → is_document_of s m n ≡ true → is_document_of t m n ≡ true
same-document s t m n same there = ap (document_by m) same ∙ there

-- what is a document has an entry, which is one
pub document-entry : (s : State) (m n : ℕ) → is_document_of s m n ≡ true → (e : Entry) × (entry_at s.entries n ≡ Some e) × (is_document e.body ≡ true)
document-entry s m n there =
    elim (entry_at s.entries n) as (λ o. entry_at s.entries n ≡ o → document_by m o ≡ true → (e : Entry) × (entry_at s.entries n ≡ Some e) × (is_document e.body ≡ true)) [
      | None ↦ (λ found there. absurd cc)
      | Some e ↦ (λ found there. (e, found, (and_parts (is_document e.body) (e.parent == m) there).0))
    ] refl there
