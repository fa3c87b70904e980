use Rattle.std.proofs.Common.{◌++◌, List, ap, sym, ◌∙◌, subst}
use Rattle.std.specs.Vec.Iter.{into_iter_items}
use Rattle.hac_model.specs.declared.states.Entry.{Entry}
use Rattle.file_tree.proofs.LoadLemmas.{AreLoaded, directory-one, loaded-more, loaded-none, node-one, sound-one}
use Rattle.file_tree.proofs.loading.Loading.place_all.Goals as goal

pub loop-entry-init : goal.loop-entry-init
loop-entry-init c =
    subst (λ (es : List Entry). AreLoaded c.args.self.now.next c.args.entries.items es c.args.self.now) (sym c.into_iter-entry-iterator.ensures.into_iter_gives.0)
    (loaded-none c.args.self.now.next c.args.entries.items c.args.self.now c.requires.prepared)

pub place-requires-clause-sound : goal.place-requires-clause-sound
place-requires-clause-sound c =
    let h = c.loop-entry.invariant in
    sound-one c.args.self.now.next c.args.entries.items c.requires.layout h.taken c.in-Some.entry (into_iter_items c.next.new.self)
    (h.split ∙ ap (λ (es : List Entry). h.taken ++ es) c.in-Some.ensures.steps.0)

pub place-requires-clause-node : goal.place-requires-clause-node
place-requires-clause-node c =
    let h = c.loop-entry.invariant in
    h.numbers c.in-Some.entry.number
    ∙ node-one c.args.self.now.next c.args.entries.items c.requires.layout h.taken c.in-Some.entry (into_iter_items c.next.new.self)
    (h.split ∙ ap (λ (es : List Entry). h.taken ++ es) c.in-Some.ensures.steps.0)

pub place-requires-clause-directory : goal.place-requires-clause-directory
place-requires-clause-directory c =
    let h = c.loop-entry.invariant in
    h.numbers c.in-Some.entry.parent
    ∙ directory-one c.args.self.now.next c.args.entries.items c.requires.layout h.taken c.in-Some.entry (into_iter_items c.next.new.self)
    (h.split ∙ ap (λ (es : List Entry). h.taken ++ es) c.in-Some.ensures.steps.0)

pub loop-entry-preserved : goal.loop-entry-preserved
loop-entry-preserved c =
    let h = c.loop-entry.invariant in
    loaded-more c.args.self.now.next c.args.entries.items c.requires.layout h.taken c.in-Some.entry (into_iter_items c.next.new.self)
    (h.split ∙ ap (λ (es : List Entry). h.taken ++ es) c.in-Some.ensures.steps.0)
    c.loop-entry.self c.place.new.self (into_iter_items c.loop-entry.entry-iterator) h (λ i. h.taken) c.in_ok-place.ensures
