use Rattle.std.proofs.Common.{◌≡◌, List, ap, subst, sym, true, ◌∙◌}
use Rattle.reeval.specs.Judging.{verdict_of}
use Rattle.reeval.specs.Settled.{AreFresh}
use Rattle.reeval.specs.Told.{news_on, told}
use Rattle.reeval.specs.declared.verdicts.Change.{Change}
use Rattle.kept_links.specs.Kept.{is_still}
use Rattle.kept_links.proofs.SemanticLemmas.{still-semantic}
use Rattle.kept_links.proofs.TaskLemmas.{next-valid, still-leads, still-never, way-still}
use Rattle.kept_links.proofs.news.news_of.Goals as goal

pub returns-then-is_still-clause-news : goal.returns-then-is_still-clause-news
returns-then-is_still-clause-news g c =
    let s = c.args.coming.now.kept.now.state in
    let e = c.args.coming.now.event.now in
    let way = c.args.coming.now.way.now in
    let still : is_still way.lends e ≡ true = sym c.is_still.ensures ∙ c.if-is_still.true in
    record {
      valid = next-valid s e c.know_valid.ensures c.requires.accepted;
      begun = λ dir _. still-semantic s c.know_valid.ensures e c.requires.accepted dir (still-never way.lends s e still dir);
      leads = record {
        verdicts = λ item dir.
            ap (λ (changes : List Change). told (news_on item changes) (verdict_of s item) dir) c.new.ensures.items
            ∙ still-leads s e way c.know_valid.ensures c.requires.accepted c.requires.way still item dir;
        fresh = subst (AreFresh s) (sym c.new.ensures.items) tt;
      };
      way = way-still s e c.know_valid.ensures c.requires.accepted way (still-never way.lends s e still) c.requires.way;
    }
