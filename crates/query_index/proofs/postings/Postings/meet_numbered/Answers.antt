use Rattle.std.proofs.Common.{◌≡◌, false, None, ap, sym, ◌∙◌}
use Rattle.query_index.specs.Inner.{is_at}
use Rattle.query_index.specs.Seen.{place_of}
use Rattle.query_index.specs.Sieve.{has_number}
use Rattle.query_index.proofs.NumberLemmas.{adds-alike, adds-none}
use Rattle.query_index.proofs.PostingLemmas.{Seen_postings, none-met, unpassed-nowhere}
use Rattle.query_index.proofs.postings.Postings.meet_numbered.Goals as goal

pub returns-else-has_number : goal.returns-else-has_number
returns-else-has_number c =
    let letters = c.args.letters.now in
    let items = c.args.met.now.items in
    let none : place_of c.args.self.now letters ≡ None =
    ap (λ (seen : Seen_postings). place_of seen letters) (sym c.self.view_is)
    ∙ unpassed-nowhere c.self.inside.places.entries c.self.inside.sieve letters c.self.invariant (ap (has_number c.self.inside.sieve) (sym c.requires) ∙ sym c.has_number.ensures ∙ c.if-has_number.false) in
    adds-alike items items (λ _. false) (is_at c.args.self.now letters) (adds-none items) (none-met (place_of c.args.self.now letters) none)
