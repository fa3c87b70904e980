use Rattle.std.proofs.Common.{false, ap, ◌∙◌}
use Rattle.std.proofs.lemmas.List.{nil_from_length}
use Rattle.query_index.specs.Inner.{begins_at}
use Rattle.query_index.proofs.NumberLemmas.{adds-alike, adds-none}
use Rattle.query_index.proofs.PostingLemmas.{Seen_postings, none-begin}
use Rattle.query_index.proofs.postings.Postings.meet_beginnings.Goals as goal

pub returns-then-is_empty : goal.returns-then-is_empty
returns-then-is_empty c =
    let items = c.args.met.now.items in
    let entries = c.self.inside.places.entries in
    let word = c.args.word.now in
    adds-alike items items (λ _. false) (begins_at c.args.self.now word) (adds-none items)
    (λ at. none-begin entries word at (nil_from_length entries (c.is_empty.ensures.0 c.if-is_empty.true)) ∙ ap (λ (seen : Seen_postings). begins_at seen word at) c.self.view_is)
