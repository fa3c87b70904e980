-- What a file holds where a new store is being made.
use Rattle.std.proofs.Common.{◌≡◌, ◌≢◌, ⊎_elim, ℕ, ◌<◌, ◌≤◌, List, [], ◌∷◌, length, take, drop, slice_index, Ok, Err, IsErr, refl, sym, ◌∙◌, ap, subst, arith, length-drop}
use Rattle.std.proofs.lemmas.Bool.{cases_eq}
use Rattle.std.proofs.lemmas.Bool.Decides.{nat_tests}
use Rattle.std.proofs.lemmas.List.{drop_more, length-take, take-take, get_or-take}
use Rattle.hac_disk.specs.Images.{Torn, overlaid}
use Rattle.hac_disk.proofs.TornLemmas.{length-overlaid}
use Rattle.hac_checkpoint.specs.Roots.{counting, named, root_of, slots}
use Rattle.hac_checkpoint.specs.declared.heads.Slot.TheVariants.{A}
use Rattle.hac_checkpoint.specs.declared.heads.Stop.{Stop}
use Rattle.hac_checkpoint.specs.declared.heads.Stop.TheVariants as stop
use Rattle.hac_checkpoint.proofs.HeadLemmas.{roots-agree, roots-start-behind}
use Rattle.hac_journal.specs.Appending.{ClosedAt}
use Rattle.hac_journal.specs.Finding.{found_in}
use Rattle.hac_journal.proofs.CrashLemmas.{byte-same}
use Rattle.hac_journal.proofs.FoundLemmas.{behind-short, found-open, found-shut}
use Rattle.hac_journal.proofs.LawLemmas.{closed-is-found}
use Rattle.hac_model.specs.Run.Play.{Setting, new_setting}
use Rattle.hac_model.specs.Tree.{empty}
use Rattle.hac_store.specs.Creating.{IsReady}
use Rattle.hac_store.specs.Held.{Led, area, held}
use Rattle.hac_store.specs.Stores.{IsNewOrNone, first_store, root_by}
use Rattle.hac_store.specs.declared.creating.TheConstants.{NEW}
use Rattle.hac_store.proofs.HeldLemmas.{held-area, held-parts, held-stop}
use Rattle.hac_store.proofs.AreaLemmas.{area-closed, area-short}

-- a file that holds no store
pub unheld-new : (c : List ℕ) → IsErr (held c) → IsNewOrNone c
unheld-new c none setting is = let never : IsErr {T = Setting} {E = ℕ} (Ok setting) = subst IsErr is none in absurd (cc)

stopped-new : (c : List ℕ) (why : Stop) → root_of c ≡ Err why → IsNewOrNone c
stopped-new c stop.Short is setting held_is = let none = sym (held-stop c stop.Short is) ∙ held_is in absurd (cc)
stopped-new c (stop.BadAt at) is setting held_is = let none = sym (held-stop c (stop.BadAt at) is) ∙ held_is in absurd (cc)

shut-root : (gate : ℕ) (rest : List ℕ) → gate ≢ 1 → root_of (gate ∷ rest) ≡ Err (stop.BadAt 0)
unfolding root_of
shut-root gate rest shut = grind (arith, nat_tests)

-- a gate that isn't open holds no store
pub shut-new : (c : List ℕ) → 0 < length c → slice_index c 0 ≢ 1 → IsNewOrNone c
shut-new [] some shut = absurd (omega arith)
shut-new (gate ∷ rest) some shut = stopped-new (gate ∷ rest) (stop.BadAt 0) (shut-root gate rest shut)

-- a log at the last byte of a file, or past it, is empty
short-found : (at : ℕ) (c rest : List ℕ) (setting : Setting) → drop at c ≡ rest → length rest ≤ 1
    → area at c ≡ Ok (record { state = setting.state; end = setting.end }) → setting.state ≡ empty
short-found at c [] setting same few is =
    let none = sym (area-short at c (ap (found_in at) same)) ∙ is in absurd (cc)
short-found at c (gate ∷ rest) setting same few is =
    ⊎_elim
    (λ open_gate. let none = sym (area-short at c (ap (found_in at) same ∙ found-open at gate rest open_gate ∙ behind-short at rest (omega (arith, few)))) ∙ is in absurd (cc))
    (λ shut.
    let reported = sym (area-closed at c (ap (found_in at) same ∙ found-shut at gate rest shut)) ∙ is in
    let ends : record { state = empty; end = at } ≡ record { state = setting.state; end = setting.end } = cc in
    ap (λ (l : Led). l.state) (sym ends))
    (cases_eq gate 1)

-- a file that has no more bytes than a new store
pub few-new : (c : List ℕ) → length c ≤ 65 → IsNewOrNone c
few-new c few setting is =
    let parts = held-parts c setting is in
    let at = parts.root.start in
    let behind = roots-start-behind c parts.root parts.root_is in
    short-found at c (drop at c) setting refl (omega (arith, length-drop at c, few, behind)) parts.area_is

-- the root of a new store, by its head
new-root : root_of (1 ∷ take 42 (drop 1 NEW)) ≡ Ok (record { slot = A; generation = 1; start = 64 })
unfolding root_of named slots counting
new-root = refl

-- a file that begins with all of a new store has its root, and holds it
new-rooted : (c : List ℕ) → take 65 c ≡ 1 ∷ drop 1 NEW → root_of c ≡ Ok (root_by first_store)
new-rooted c new =
    let head : take 43 c ≡ take 43 (1 ∷ take 42 (drop 1 NEW)) =
    sym (take-take 43 65 c (omega arith)) ∙ ap (take 43) new in
    roots-agree c (1 ∷ take 42 (drop 1 NEW)) head ∙ new-root

pub new-held : (c : List ℕ) → take 65 c ≡ 1 ∷ drop 1 NEW → held c ≡ Ok new_setting
new-held c new =
    let root = new-rooted c new in
    let long : 64 < length c = omega (arith, ap length new, length-take 65 c) in
    let gate : slice_index c 64 ≡ 0 = sym (get_or-take 65 c 64 0 (omega arith)) ∙ ap (λ (l : List ℕ). slice_index l 64) new in
    let closed : ClosedAt 64 c = record { there = long; shut = λ is. omega (arith, gate, is) } in
    held-area c (record { slot = A; generation = 1; start = 64 }) (record { state = empty; end = 64 }) root (area-closed 64 c (closed-is-found 64 c closed))

pub held-new : (c : List ℕ) → take 65 c ≡ 1 ∷ drop 1 NEW → IsNewOrNone c
held-new c new setting is =
    let told : Ok new_setting ≡ Ok setting = sym (new-held c new) ∙ is in
    let same : new_setting ≡ setting = cc in ap (λ (z : Setting). z.state) (sym same)

-- the first byte of a file, and the others
first-byte : (c : List ℕ) → 0 < length c → c ≡ slice_index c 0 ∷ drop 1 c
first-byte c some = drop_more c 0 0 some

-- what a torn write of one of these bytes leaves
pub torn-shut : (file c : List ℕ) → IsErr (held file) → 0 < length file → slice_index file 0 ≡ 1 → Torn 0 1 file c → IsNewOrNone c
torn-shut file c none some gate torn =
    let there : 0 < length c = omega (arith, torn.no_shorter, some) in
    ⊎_elim
    (λ is.
    let same : file ≡ c =
    first-byte file some ∙ ap (λ (g : ℕ). g ∷ drop 1 file) (gate ∙ sym is) ∙ ap (λ (l : List ℕ). slice_index c 0 ∷ l) (sym torn.after) ∙ sym (first-byte c there) in
    unheld-new c (subst (λ f. IsErr (held f)) same none))
    (λ shut. shut-new c there shut)
    (cases_eq (slice_index c 0) 1)

pub torn-behind : (file c : List ℕ) (n : ℕ) → ClosedAt 0 file → Torn 1 n file c → IsNewOrNone c
torn-behind file c n closed torn =
    shut-new c (omega (arith, torn.no_shorter, closed.there)) (λ is. closed.shut (sym (byte-same c file 0 1 (omega arith) torn.before) ∙ is))

pub torn-first : (file c : List ℕ) → length file ≡ 0 → Torn 0 65 file c → IsNewOrNone c
torn-first file c none torn = few-new c (omega (arith, torn.no_longer, none))

-- an open gate before the rest of a new store
opened : (file c : List ℕ) → IsReady file → 0 < length c → slice_index c 0 ≡ 1 → drop 1 c ≡ drop 1 file → take 65 c ≡ 1 ∷ drop 1 NEW
opened file c ready there is same =
    ap (take 65) (first-byte c there ∙ ap (λ (g : ℕ). g ∷ drop 1 c) is)
    ∙ ap (λ (l : List ℕ). 1 ∷ take 64 l) same
    ∙ ap (λ (l : List ℕ). 1 ∷ l) ready

ready-long : (file : List ℕ) → IsReady file → 64 < length file
ready-long file ready = omega (arith, ap length ready, length-take 64 (drop 1 file), length-drop 1 file)

pub torn-open : (file c : List ℕ) → IsReady file → Torn 0 1 file c → IsNewOrNone c
torn-open file c ready torn =
    let there : 0 < length c = omega (arith, torn.no_shorter, ready-long file ready) in
    ⊎_elim
    (λ is. held-new c (opened file c ready there is torn.after))
    (λ shut. shut-new c there shut)
    (cases_eq (slice_index c 0) 1)

-- what was opened holds a new store
pub opened-held : (file : List ℕ) → IsReady file → (held (overlaid 0 (1 ∷ []) file) ≡ Ok new_setting) × (64 < length (overlaid 0 (1 ∷ []) file))
opened-held file ready = (new-held (overlaid 0 (1 ∷ []) file) (ap (λ (l : List ℕ). 1 ∷ l) ready), omega (arith, length-overlaid 0 (1 ∷ []) file (omega arith), ready-long file ready))

pub opened-rooted : (file : List ℕ) → IsReady file → root_of (overlaid 0 (1 ∷ []) file) ≡ Ok (root_by first_store)
opened-rooted file ready = new-rooted (overlaid 0 (1 ∷ []) file) (ap (λ (l : List ℕ). 1 ∷ l) ready)
