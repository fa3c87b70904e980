-- What a command asks spaces, and what it takes from their answers.
use Rattle.std.specs.Prelude.{ℕ, ◌==◌, ◌&&◌, if◌then◌else◌, List, [], ◌∷◌, filter, map, Some, None}
use Rattle.std.specs.List.{flat_map}
use Rattle.std.specs.Option.{option_map_or, unwrap_or}
use Rattle.hac_model.specs.Query.Formula.{Formula}
use Rattle.hac_model.specs.Tree.Asking.{asked_by}
use Rattle.hac_model.specs.Tree.Links.{answers_at, parent_of, space_at}
use Rattle.hac_model.specs.Tree.Mounting.{is_among}
use Rattle.hac_model.specs.Tree.Mounts.{terms_to_ask}
use Rattle.hac_model.specs.Tree.{entry_at, is_document, is_document_at}
use Rattle.hac_model.specs.declared.resolved.Resolved.{Resolved}
use Rattle.hac_model.specs.declared.resolved.Resolved.TheVariants.{Cat, Smkdir, Setq, Find, Smount, Ssync}
use Rattle.hac_model.specs.declared.spaces.Asks.{Asks}
use Rattle.hac_model.specs.declared.spaces.Search.{Search}
use Rattle.hac_model.specs.declared.states.Entry.{Entry}
use Rattle.hac_model.specs.declared.states.State.{State}
use Rattle.hac_model.specs.declared.terms.Term.{Term}

-- nothing is asked
abbrev pub no_asks : Asks
no_asks = record { list = None; searches = []; fetch = None }

-- the name of the space that the mount of a number shows
abbrev pub space_of : State → ℕ → List ℕ
space_of s mount = unwrap_or (space_at s mount) []

-- a space is asked for terms
abbrev pub searches_for : List ℕ → List Term → List Search
searches_for space terms = map (λ term. record { space = space; term = term }) terms

-- what an entry is asked for a query
abbrev pub searches_of : State → Formula ℕ → Entry → List Search
searches_of s query entry = searches_for (space_of s entry.number) (asked_by (answers_at s) query entry)

-- for a query each mount is asked, in order of number, for the terms for which it keeps no answer
abbrev pub query_asks : State → Formula ℕ → Asks
query_asks s query = record no_asks { searches = flat_map (searches_of s query) s.entries }

-- as a space is mounted or a mount is synced, the space is asked for its documents, and then for each term in use
abbrev pub mount_asks : State → List ℕ → Asks
mount_asks s space = record { list = Some space; searches = searches_for space (terms_to_ask s.entries); fetch = None }

-- the text of a document is asked from the space of its mount
abbrev pub text_asks : State → ℕ → Asks
text_asks s number =
    if is_document_at s.entries number
    then record no_asks {
      fetch = Some (record {
        space = space_of s (parent_of s number);
        document = option_map_or (λ entry. entry.name) (entry_at s.entries number) [];
      });
    }
    else no_asks

-- what a command whose paths were followed asks
abbrev pub asks : State → Resolved → Asks
asks s (Cat entry) = text_asks s entry
asks s (Smkdir place query) = query_asks s query
asks s (Setq dir query) = query_asks s query
asks s (Find query) = query_asks s query
asks s (Smount place space) = mount_asks s space
asks s (Ssync mount) = mount_asks s (space_of s mount)
asks s other = no_asks

-- the documents of a mount that have one of these names, in order of number
abbrev pub documents_named : State → ℕ → List (List ℕ) → List ℕ
documents_named s mount names =
    map (λ entry. entry.number) (filter (λ entry. is_document entry.body && (entry.parent == mount && is_among names entry.name)) s.entries)

-- the mount that each question for a query is about
abbrev pub mounts_asked : State → Formula ℕ → List ℕ
mounts_asked s query = flat_map (λ entry. map (λ term. entry.number) (asked_by (answers_at s) query entry)) s.entries

-- what each of these mounts is told by the names that its space answered
abbrev pub told_to : State → List ℕ → List (List (List ℕ)) → List (List ℕ)
told_to s (mount ∷ mounts) (names ∷ found) = documents_named s mount names ∷ told_to s mounts found
told_to s mounts found = []

-- what the mounts are told for a query
abbrev pub told_for : State → Formula ℕ → List (List (List ℕ)) → List (List ℕ)
told_for s query found = told_to s (mounts_asked s query) found
