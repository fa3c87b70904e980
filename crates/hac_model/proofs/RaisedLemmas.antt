-- A valid state stays valid in a store of version 2, where each limit is at least as great, and its links stay.
use Rattle.std.proofs.Common.{◌≡◌, ℕ, zero, suc, true, refl, ap, arith}
use Rattle.std.specs.Prelude.{nat_le, length, None}
use Rattle.std.proofs.lemmas.Bool.Decides.{nat_tests}
use Rattle.hac_model.specs.Tree.Limits.{passed_limit, semantic_count}
use Rattle.hac_model.specs.Tree.Links.{links, round, rounds}
use Rattle.hac_model.specs.Tree.{path_of, raised}
use Rattle.hac_model.specs.Tree.Valid.{AsksWell, IsLayout, IsValid, KeepsWell}
use Rattle.hac_model.specs.Versions.{sessions_limit}
use Rattle.hac_model.specs.declared.limits.TheConstants.{SESSIONS_LIMIT}
use Rattle.hac_model.specs.declared.states.State.{State}
use Rattle.hac_model.specs.declared.versions.Version.{Version}
use Rattle.hac_model.specs.declared.versions.Version.TheVariants.{One, Two}
use Rattle.hac_model.proofs.ChangeLemmas.{all-weaker}
use Rattle.hac_model.proofs.KeepingLemmas.{inside, keeps-stays}
use Rattle.hac_model.proofs.LimitLemmas.{IsWithinLimits, limits-none, limits-within, most-dirs, most-mounts, most-numbers, most-symlinks}
use Rattle.hac_model.proofs.StayLemmas.{asks-stays}
use Rattle.hac_model.proofs.VersionLemmas.{few-any}

sessions-any : (version : Version) (n : ℕ) → nat_le n (sessions_limit version) ≡ true → nat_le n SESSIONS_LIMIT ≡ true
sessions-any One n few = grind (arith, nat_tests, few)
sessions-any Two n few = few

pub raised-limits : (s : State) → passed_limit s ≡ None → passed_limit (raised s) ≡ None
raised-limits s none =
    let within : IsWithinLimits s = limits-within s none in
    limits-none (raised s) (record {
      texts = within.texts;
      dirs = most-dirs s within;
      semantics = within.semantics;
      mounts = most-mounts s within;
      symlinks = most-symlinks s within;
      paths = within.paths;
      items = within.items;
      numbers = most-numbers s within;
    })

pub raised-layout : (s : State) → IsLayout s → IsLayout (raised s)
raised-layout s h = record {
  numbers = h.numbers;
  names = h.names;
  places = h.places;
  differ = h.differ;
  bodies = h.bodies;
  limits = raised-limits s h.limits;
}

pub raised-valid : (s : State) → IsValid s → IsValid (raised s)
raised-valid s h = record {
  layout = raised-layout s h.layout;
  queries = all-weaker (λ e. AsksWell s e.body) (λ e. AsksWell (raised s) e.body) s.entries (λ e asks. asks-stays s (raised s) e.body (λ d there. there) (λ n there. there) asks) h.queries;
  few = h.few;
  answers = all-weaker (λ e. KeepsWell s e.number e.body) (λ e. KeepsWell (raised s) e.number e.body) s.entries
      (λ e keeps. keeps-stays s (raised s) e.number e.body (λ m n document. document) (λ m few. few-any s.version (length (inside m s.entries)) few) (λ m answers terms. terms) keeps) h.answers;
  acyclic = h.acyclic;
  sessions = record {
    names = h.sessions.names;
    differ = h.sessions.differ;
    there = h.sessions.there;
    elsewhere = h.sessions.elsewhere;
    few = sessions-any s.version (length s.sessions) h.sessions.few;
  };
}

rounds-raised : (s : State) (n : ℕ) → rounds n (raised s) ≡ rounds n s
unfolding path_of
rounds-raised s zero = refl
rounds-raised s (suc n) = ap (round s) (rounds-raised s n)

pub links-raised : (s : State) → links (raised s) ≡ links s
unfolding links
links-raised s = rounds-raised s (semantic_count s.entries)
