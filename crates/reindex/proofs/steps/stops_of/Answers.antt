use Rattle.std.proofs.Common.{◌≡◌, ℕ, List, ap, subst, sym, ◌∙◌}
use Rattle.std.specs.Prelude.{IfOk, Option, Some}
use Rattle.std.specs.Option.{option_copied}
use Rattle.hac_model.specs.Tree.Links.{shown_of}
use Rattle.reindex.specs.Steps.{indexed_through, may_begin}
use Rattle.reindex.specs.Ways.{begun_at, needed}
use Rattle.reindex.proofs.ProbeLemmas.{along-needed, along-way, indexed-most}
use Rattle.reindex.proofs.TextLemmas.{covered-anyway-if, covered-if}
use Rattle.reindex.proofs.WayLemmas.{index-way}
use Rattle.reindex.proofs.steps.stops_of.Goals as goal

pub returns-in-Some-Some-clause-covers : goal.returns-in-Some-Some-clause-covers
returns-in-Some-Some-clause-covers c =
    let s = c.args.indexing.now.kept.now.state in
    let last = c.args.indexing.now.last in
    let w = c.requires.way in
    let new = c.in-Some-Some.new.now in
    let had : shown_of s c.args.file ≡ Some c.in-Some-Some.old.now = sym c.shown_of.ensures ∙ ap option_copied c.in-Some-Some.is-0 in
    let shows : shown_of (indexed_through last s) c.args.file ≡ Some new = sym c.shown.ensures ∙ ap option_copied c.in-Some-Some.is-1 in
    covered-if s last c.args.file new shows c.args.way.now w c.know_valid.ensures c.requires.valid c.stops_changed.result
    (subst (λ (old : Option (List ℕ)). IfOk c.stops_changed.result (λ stops. stops.items ≡ needed (begun_at (may_begin s old new) c.args.way.now.stops.items))) (sym had)
    (c.stops_changed.ensures s (index-way s c.args.way.now w)))

pub returns-then-len-le-FEW_STOPS-clause-covers : goal.returns-then-len-le-FEW_STOPS-clause-covers
returns-then-len-le-FEW_STOPS-clause-covers c =
    covered-anyway-if c.args.indexing.now.kept.now.state c.args.indexing.now.last c.args.file c.args.way.now c.requires.way c.know_valid.ensures c.requires.valid c.stops_of_way.result c.stops_of_way.ensures

pub returns-in_default-clause-covers : goal.returns-in_default-clause-covers
returns-in_default-clause-covers c =
    covered-anyway-if c.args.indexing.now.kept.now.state c.args.indexing.now.last c.args.file c.args.way.now c.requires.way c.know_valid.ensures c.requires.valid c.stops_of_way-in_default.result c.stops_of_way-in_default.ensures

pub returns-in-Some-Some-clause-most : goal.returns-in-Some-Some-clause-most
returns-in-Some-Some-clause-most c =
    let s = c.args.indexing.now.kept.now.state in
    let way = c.args.way.now in
    let w = c.requires.way in
    let begins = may_begin s (Some c.in-Some-Some.old.now) c.in-Some-Some.new.now in
    indexed-most s c.args.indexing.now.last (needed (begun_at begins way.stops.items)) c.stops_changed.result (along-needed s way w c.know_valid.ensures begins)
    (c.stops_changed.ensures s (index-way s way w))

pub returns-then-len-le-FEW_STOPS-clause-most : goal.returns-then-len-le-FEW_STOPS-clause-most
returns-then-len-le-FEW_STOPS-clause-most c =
    let s = c.args.indexing.now.kept.now.state in
    indexed-most s c.args.indexing.now.last c.args.way.now.stops.items c.stops_of_way.result (along-way s c.args.way.now c.requires.way c.know_valid.ensures) c.stops_of_way.ensures

pub returns-in_default-clause-most : goal.returns-in_default-clause-most
returns-in_default-clause-most c =
    let s = c.args.indexing.now.kept.now.state in
    indexed-most s c.args.indexing.now.last c.args.way.now.stops.items c.stops_of_way-in_default.result (along-way s c.args.way.now c.requires.way c.know_valid.ensures) c.stops_of_way-in_default.ensures
