-- What replaying an event costs against what it cost when it was stored.
use Rattle.std.proofs.Common.{◌≡◌, ℕ, zero, suc, ◌+◌, ◌*◌, ◌≤◌, Bool, true, false, if◌then◌else◌, List, [], ◌∷◌, filter, length, IsTrue, refl, ◌∙◌, ap, arith, eq-eqb}
use Rattle.std.proofs.lemmas.Bool.{and_parts}
use Rattle.std.specs.Prelude.{◌&&◌, is_none}
use Rattle.std.specs.List.{range_with_len}
use Rattle.hac_model.specs.Run.History.{ReplayingIsNoDearer}
use Rattle.hac_model.specs.Tree.{is_linkable}
use Rattle.hac_model.specs.Tree.Costs.{cost, shift, weight}
use Rattle.hac_model.specs.Tree.Events.{apply, can_have_mark, is_clear, is_placed, is_possible}
use Rattle.hac_model.specs.Tree.Kinds.{is_prohibited}
use Rattle.hac_model.specs.Tree.Limits.{passed_limit}
use Rattle.hac_model.specs.Tree.Links.{has, is_item, is_semantic}
use Rattle.hac_model.specs.Tree.Touched.{touched, touches}
use Rattle.hac_model.specs.Tree.Valid.{IsValid}
use Rattle.hac_model.specs.declared.events.Event.{Event}
use Rattle.hac_model.specs.declared.events.Event.TheVariants.{Mkdir, NewFile, Rewrite, Ln, Mv, Rm, Rmdir, Smkdir, Setq, Unq, Mark, Smount, Ssync, Sumount, Step, Cd}
use Rattle.hac_model.specs.declared.marks.Kind.{Kind}
use Rattle.hac_model.specs.declared.marks.Kind.TheVariants.{Transient, Permanent, Prohibited, Unlinked}
use Rattle.hac_model.specs.declared.marks.Mark.{Mark as MarkOf}
use Rattle.hac_model.specs.declared.states.State.{State}
use Rattle.hac_model.proofs.MarkLemmas.{has-filter}
use Rattle.hac_model.proofs.MountLayoutLemmas.{tested-below}
use Rattle.hac_model.proofs.RangeLemmas.{range-has}

-- a list that has a number isn't empty
some-has : (numbers : List ℕ) (number : ℕ) → has numbers number ≡ true → 1 ≤ length numbers
some-has [] number is = absurd (cc)
some-has (first ∷ numbers) number is = omega arith

-- a mark of an item touches it
mark-touches : (s : State) (mark : MarkOf) → IsValid s → is_item s mark.item ≡ true → 1 ≤ length (touched s (Mark mark))
mark-touches s mark valid is =
    let numbers = range_with_len 0 s.next in
    let below = tested-below s is_linkable mark.item valid.layout.numbers is in
    let among : has (filter (touches s (Mark mark)) numbers) mark.item ≡ true =
    has-filter (touches s (Mark mark)) numbers mark.item
    ∙ ap (λ (b : Bool). (b && is_item s mark.item) && has numbers mark.item) (eq-eqb mark.item mark.item refl)
    ∙ ap (λ (b : Bool). b && has numbers mark.item) is
    ∙ range-has 0 s.next mark.item (omega arith) (omega (arith, below)) in
    some-has (filter (touches s (Mark mark)) numbers) mark.item among

-- something times a sum, and more, is no less than a part of the sum
times-most : (n m a b rest : ℕ) → 1 ≤ n → a ≤ (n + m) * (a + b) + rest
times-most zero m a b rest some = absurd (omega (arith, some))
times-most (suc n) m a b rest some = omega arith

zero-le : (n : ℕ) → 0 ≤ n
zero-le n = omega arith

-- one that prohibits an item has it judged once by each query
marking-is-no-dearer : (s : State) (mark : MarkOf) → IsValid s → (kind : Kind) → IsTrue (can_have_mark s mark.item kind) → (if is_prohibited kind then weight s else 0) ≤ cost s (Mark mark)
marking-is-no-dearer s mark valid Prohibited item =
    let event : Event = Mark mark in
    times-most (length (touched s event)) (length (shift s event)) (weight s) (weight (apply s event)) 0 (mark-touches s mark valid item)
marking-is-no-dearer s mark valid Transient item = zero-le (cost s (Mark mark))
marking-is-no-dearer s mark valid Permanent item = zero-le (cost s (Mark mark))
marking-is-no-dearer s mark valid Unlinked item = zero-le (cost s (Mark mark))

pub replaying-is-no-dearer : ReplayingIsNoDearer
replaying-is-no-dearer s (Mark mark) valid happens =
    let event : Event = Mark mark in
    let possible = and_parts (is_possible s event) (is_none (passed_limit (apply s event))) happens in
    let placed = and_parts (is_clear s event) (is_placed s event) possible.0 in
    let can = and_parts (can_have_mark s mark.item mark.kind) (is_semantic s mark.dir) placed.1 in
    marking-is-no-dearer s mark valid mark.kind can.0
replaying-is-no-dearer s (Mkdir dir name) valid happens = zero-le (cost s (Mkdir dir name))
replaying-is-no-dearer s (NewFile dir name text) valid happens = zero-le (cost s (NewFile dir name text))
replaying-is-no-dearer s (Rewrite file text) valid happens = zero-le (cost s (Rewrite file text))
replaying-is-no-dearer s (Ln dir name target) valid happens = zero-le (cost s (Ln dir name target))
replaying-is-no-dearer s (Mv entry dir name) valid happens = zero-le (cost s (Mv entry dir name))
replaying-is-no-dearer s (Rm entry) valid happens = zero-le (cost s (Rm entry))
replaying-is-no-dearer s (Rmdir dir) valid happens = zero-le (cost s (Rmdir dir))
replaying-is-no-dearer s (Smkdir dir name query told) valid happens = zero-le (cost s (Smkdir dir name query told))
replaying-is-no-dearer s (Setq dir query told) valid happens = zero-le (cost s (Setq dir query told))
replaying-is-no-dearer s (Unq dir) valid happens = zero-le (cost s (Unq dir))
replaying-is-no-dearer s (Smount dir name space docs told) valid happens = zero-le (cost s (Smount dir name space docs told))
replaying-is-no-dearer s (Ssync mount docs told) valid happens = zero-le (cost s (Ssync mount docs told))
replaying-is-no-dearer s (Sumount mount) valid happens = zero-le (cost s (Sumount mount))
replaying-is-no-dearer s (Cd session dir) valid happens = zero-le (cost s (Cd session dir))
replaying-is-no-dearer s Step valid happens = zero-le (cost s Step)
