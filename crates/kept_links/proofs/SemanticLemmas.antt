-- An event that touches an item leaves directories semantic or not, as they were.
use Rattle.std.proofs.Common.{◌≡◌, ℕ, ◌<◌, ◌≤◌, Bool, true, false, List, [], ◌∷◌, ap, arith, refl, sym, ◌∙◌}
use Rattle.std.proofs.lemmas.Bool.{eqb-true}
use Rattle.std.specs.Prelude.{◌&&◌, ◌||◌, ◌==◌, if◌then◌else◌, Option, Some, None, IsTrue, is_some}
use Rattle.std.specs.Option.{option_map, option_map_or}
use Rattle.hac_model.specs.Query.Formula.{Formula}
use Rattle.hac_model.specs.Tree.Events.{accepted, apply, is_inside, next_dirty, reseated}
use Rattle.hac_model.specs.Tree.Links.{is_item, is_semantic, query_at}
use Rattle.hac_model.specs.Tree.Mounting.{is_document_of}
use Rattle.hac_model.specs.Tree.Touched.{begins, is_the, touches}
use Rattle.hac_model.specs.Tree.Valid.{IsValid, NumbersRise}
use Rattle.hac_model.specs.Tree.{entry_at, is_dirty, is_document, is_linkable}
use Rattle.hac_model.specs.declared.events.Event.{Event}
use Rattle.hac_model.specs.declared.events.Event.TheVariants.{Mkdir, NewFile, Rewrite, Ln, Smkdir, Setq, Unq, Mark, Mv, Rm, Rmdir, Smount, Ssync, Sumount, Step, Cd}
use Rattle.hac_model.specs.declared.states.Entry.{Entry}
use Rattle.hac_model.specs.declared.states.State.{State}
use Rattle.hac_model.proofs.AcyclicLemmas.{apply-valid}
use Rattle.hac_model.proofs.ViewLemmas.{seen-kept}
use Rattle.reeval.proofs.EventLemmas.{query_of}
use Rattle.reeval.proofs.EventsLeave.{event-owes}

-- the root is no entry
rise-more : (above below : ℕ) (es : List Entry) → NumbersRise above es below → above < below
rise-more above below [] h = h
rise-more above below (e ∷ es) h = let first : above < e.number = h.0 in let more = rise-more e.number below es h.1 in omega (arith, first, more)

no-entry : (above below n : ℕ) (es : List Entry) → n ≤ above → NumbersRise above es below → entry_at es n ≡ None
no-entry above below n [] low h = refl
no-entry above below n (e ∷ es) low h =
    let first : above < e.number = h.0 in
    elim (e.number == n) as (λ b. (e.number == n) ≡ b → (if b then Some e else entry_at es n) ≡ None) [
      | true ↦ (λ same. let is : e.number ≡ n = eqb-true e.number n same in absurd (omega (arith, first, low, is)))
      | false ↦ (λ _. no-entry e.number below n es (omega (arith, first, low)) h.1)
    ] refl

apart : (a b : ℕ) → a < b → (a == b) ≡ false
apart a b less = elim (a == b) as (λ t. (a == b) ≡ t → t ≡ false) [ true ↦ (λ same. let is : a ≡ b = eqb-true a b same in absurd (omega (arith, less, is))) | false ↦ (λ _. refl) ] refl

dirty-above : (k above below : ℕ) (es : List Entry) → k ≤ above → NumbersRise above es below → option_map_or (λ file. k == file) (next_dirty es) false ≡ false
dirty-above k above below [] low h = refl
dirty-above k above below (e ∷ es) low h =
    let first : above < e.number = h.0 in
    elim (is_dirty e.body) as (λ b. option_map_or (λ file. k == file) (if b then Some e.number else next_dirty es) false ≡ false) [
      | true ↦ apart k e.number (omega (arith, first, low))
      | false ↦ dirty-above k e.number below es (omega (arith, first, low)) h.1
    ]

module _ (s : State) (h : IsValid s) where
  root-none : entry_at s.entries 0 ≡ None
  root-none = no-entry 0 s.next 0 s.entries (omega arith) h.layout.numbers

  root-no_item : is_item s 0 ≡ false
  root-no_item = ap (λ (o : Option Entry). option_map_or is_linkable (option_map (λ (e : Entry). e.body) o) false) root-none

  root-no_document : (mount : ℕ) → is_document_of s mount 0 ≡ false
  root-no_document mount = ap (λ (o : Option Entry). option_map_or is_document (option_map (λ (e : Entry). e.body) o) false && (option_map_or (λ (e : Entry). e.parent) o 0 == mount)) root-none

  after : (event : Event) → IsTrue (accepted s event) → (mount : ℕ) → is_document_of (apply s event) mount 0 ≡ false
  after event ok mount =
      ap (λ (o : Option Entry). option_map_or is_document (option_map (λ (e : Entry). e.body) o) false && (option_map_or (λ (e : Entry). e.parent) o 0 == mount))
      (no-entry 0 (apply s event).next 0 (apply s event).entries (omega arith) (apply-valid s event h ok).layout.numbers)

  -- and no event touches it
  root-untouched : (event : Event) → IsTrue (accepted s event) → touches s event 0 ≡ false
  root-untouched (NewFile dir name text) ok = apart 0 s.next (rise-more 0 s.next s.entries h.layout.numbers)
  root-untouched (Rm entry) ok = elim (0 == entry) as (λ b. (b && is_item s 0) ≡ false) [ true ↦ root-no_item | false ↦ refl ]
  root-untouched (Mv entry dir name) ok = ap (λ (b : Bool). b && is_inside s 0 entry) root-no_item
  root-untouched (Mark mark) ok = elim (0 == mark.item) as (λ b. (b && is_item s 0) ≡ false) [ true ↦ root-no_item | false ↦ refl ]
  root-untouched Step ok = dirty-above 0 0 s.next s.entries (omega arith) h.layout.numbers
  root-untouched (Sumount mount) ok = root-no_document mount
  root-untouched (Smount dir name space documents told) ok = after (Smount dir name space documents told) ok s.next
  root-untouched (Ssync mount documents told) ok = λ i. root-no_document mount i || after (Ssync mount documents told) ok mount i
  root-untouched (Mkdir dir name) ok = refl
  root-untouched (Rewrite file text) ok = refl
  root-untouched (Ln dir name target) ok = refl
  root-untouched (Smkdir dir name query told) ok = refl
  root-untouched (Setq dir query told) ok = refl
  root-untouched (Unq dir) ok = refl
  root-untouched (Rmdir dir) ok = refl
  root-untouched (Cd session dir) ok = refl

  -- so the queries of directories at which nothing begins are as they were
  pub asks-still : (event : Event) → IsTrue (accepted s event) → (dir : ℕ) → begins s event dir ≡ false → query_at s dir ≡ query_at (apply s event) dir
  asks-still event ok dir still = (event-owes s event h ok 0 (root-untouched event ok)).queries dir still

  pub still-semantic : (event : Event) → IsTrue (accepted s event) → (dir : ℕ) → begins s event dir ≡ false → is_semantic s dir ≡ is_semantic (apply s event) dir
  still-semantic event ok dir still = ap (λ (o : Option (Formula ℕ)). is_some o) (asks-still event ok dir still)

  pub semantic-still : (event : Event) → IsTrue (accepted s event) → (item : ℕ) → touches s event item ≡ true → (dir : ℕ) → is_semantic s dir ≡ is_semantic (apply s event) dir
  semantic-still (NewFile parent name text) ok item is dir = still-semantic (NewFile parent name text) ok dir refl
  semantic-still (Rm entry) ok item is dir = still-semantic (Rm entry) ok dir refl
  semantic-still (Mv entry to name) ok item is dir = ap (λ (o : Option (Formula ℕ)). is_some o) (sym (seen-kept query_of s.entries entry (reseated to name) (λ e. refl) (λ e. refl) dir))
  semantic-still (Mark mark) ok item is dir = still-semantic (Mark mark) ok dir (ap (λ (b : Bool). is_the (if b then None else Some mark.dir) dir || false) marked)
    where
      marked : is_item s mark.item ≡ true
      marked = elim (item == mark.item) as (λ b. (item == mark.item) ≡ b → (b && is_item s item) ≡ true → is_item s mark.item ≡ true) [
        | true ↦ (λ same is. ap (is_item s) (sym (eqb-true item mark.item same)) ∙ is)
        | false ↦ (λ _ never. absurd cc)
      ] refl is
  semantic-still Step ok item is dir = still-semantic Step ok dir refl
  semantic-still (Smount parent name space documents told) ok item is dir = still-semantic (Smount parent name space documents told) ok dir refl
  semantic-still (Ssync mount documents told) ok item is dir = still-semantic (Ssync mount documents told) ok dir refl
  semantic-still (Sumount mount) ok item is dir = still-semantic (Sumount mount) ok dir refl
  semantic-still (Mkdir parent name) ok item is dir = absurd cc
  semantic-still (Rewrite file text) ok item is dir = absurd cc
  semantic-still (Ln parent name target) ok item is dir = absurd cc
  semantic-still (Smkdir parent name query told) ok item is dir = absurd cc
  semantic-still (Setq parent query told) ok item is dir = absurd cc
  semantic-still (Unq parent) ok item is dir = absurd cc
  semantic-still (Rmdir parent) ok item is dir = absurd cc
  semantic-still (Cd session parent) ok item is dir = absurd cc
