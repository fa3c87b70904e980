-- Snapshots are read back, and what is read is what they spell.
use Rattle.std.proofs.Common.{◌≡◌, ℕ, Bool, true, false, eqb, nat_lt, nat_le, List, [], ◌∷◌, ◌++◌, length, Option, Some, None, Ok, refl, sym, ap, subst, ◌∙◌, append_assoc, IsTrue}
use Rattle.std.specs.Prelude.{not, ◌&&◌}
use Rattle.std.specs.Option.{option_map}
use Rattle.std.specs.Str.{bytes_eq}
use Rattle.std.proofs.lemmas.Bool.{and_from, and_parts, eqb-true, not-true}
use Rattle.std.proofs.lemmas.List.{append-nil, nil_from_length}
use Rattle.std.proofs.lemmas.Slice.Eq.{bytes_eq-Decides}
use Rattle.hac_model.specs.Run.Answers.{◌>>=◌}
use Rattle.hac_model.specs.Payload.Fields.{Part, count, num, nothing, ◌&◌, checked, list, part, way, way_at, choice_at}
use Rattle.hac_model.specs.Payload.Payloads.{all_of, name_field, space_field, target_field, text_field, nums, rises}
use Rattle.hac_model.specs.Payload.QueryFields.{query_field, word_field}
use Rattle.hac_model.specs.Payload.States.{answer_field, document_field, documents_field, entry_field, flag_field, flag_part, is_spellable_snapshot, no_documents, other_text, shown_field, shown_part, shown_ways, snapshot_field, snapshot_payload, snapshot_text, spelled_snapshot, state_kind, state_way, stored_field, stored_part, stored_ways, term_field, term_part, texts_field}
use Rattle.hac_model.specs.Query.Formula.{Formula}
use Rattle.hac_model.specs.Query.Terms.{is_term_before}
use Rattle.hac_model.specs.Tree.Listing.{is_before}
use Rattle.hac_model.specs.declared.states.Answer.{Answer}
use Rattle.hac_model.specs.declared.states.Body.{Body}
use Rattle.hac_model.specs.declared.states.Body.TheVariants.{File, Dir, Symlink, Semantic, Mount}
use Rattle.hac_model.specs.declared.snapshots.Document.{Document}
use Rattle.hac_model.specs.declared.snapshots.Snapshot.{Snapshot}
use Rattle.hac_model.specs.declared.snapshots.StoredEntry.{StoredEntry}
use Rattle.hac_model.specs.declared.terms.Term.{Term}
use Rattle.hac_model.specs.declared.terms.Term.TheVariants.{Word, Prefix}
use Rattle.hac_model.specs.Versions.{docs_limit}
use Rattle.hac_model.specs.declared.versions.Version.{Version}
use Rattle.hac_model.specs.declared.versions.Version.TheVariants.{One, Two}
use Rattle.event_codec.specs.Laws.{AreBytes, ReadIsSnapshot, SnapshotIsRead}
use Rattle.event_codec.proofs.FieldLemmas.{Took, Lawful, WayTakes, bind_ok, guard_ok, ok_is, nothing_lawful, both_lawful, checked_lawful, count_lawful, list_lawful, num_lawful, seen_lawful, way_is, way_is_fitting, whole_way_is, choice_takes, way_again, whole_way_again}
use Rattle.event_codec.proofs.PayloadLemmas.{name_lawful, space_lawful, target_lawful, text_lawful, nums_lawful, placed_ok}
use Rattle.event_codec.proofs.QueryLemmas.{query_lawful, word_lawful}
use Rattle.hac_model.proofs.BoolLemmas.{and-true}

-- ---- files

flag_again : (flag : Bool) (rest : List ℕ) → flag_field.fits flag ≡ true → flag_field.read (flag_field.text flag ++ rest) ≡ Ok (flag, rest)
unfolding choice_at way_at
flag_again false rest fits = refl
flag_again true rest fits = refl

flag_lawful : Lawful flag_field
flag_lawful = record {
  takes = choice_takes flag_part (way 0 nothing (λ x. false) ∷ way 1 nothing (λ x. true) ∷ []) (
    way_is flag_part 0 nothing (λ x. false) nothing_lawful (λ x. refl),
    (way_is flag_part 1 nothing (λ x. true) nothing_lawful (λ x. refl), tt),
  );
  again = flag_again;
}

other_lawful : (text : List ℕ) → Lawful (other_text text)
other_lawful text = checked_lawful text_field (λ shown. not (bytes_eq shown text)) text_lawful

-- a text that was shown differs from the text, or it is the text
shown_other : (text shown : List ℕ) → (other_text text).fits shown ≡ true → shown_part text (Some shown) ≡ part 2 (other_text text) shown
shown_other text shown fits =
    let differs : bytes_eq shown text ≡ false = not-true (bytes_eq shown text) (and_parts (text_field.fits shown) (not (bytes_eq shown text)) fits).1 in
    rw differs refl

shown_same : (text : List ℕ) → shown_part text (Some text) ≡ part 1 nothing tt
shown_same text = let same : bytes_eq text text ≡ true = (bytes_eq-Decides text text).1 refl in rw same refl

shown_again : (text : List ℕ) (shown : Option (List ℕ)) (rest : List ℕ) → (shown_field text).fits shown ≡ true → (shown_field text).read ((shown_field text).text shown ++ rest) ≡ Ok (shown, rest)
unfolding choice_at way_at
shown_again text None rest fits = refl
shown_again text (Some shown) rest fits =
    elim (bytes_eq shown text) as (λ b. bytes_eq shown text ≡ b → choice_at (shown_ways text) ((shown_part text (Some shown)).text ++ rest) ≡ Ok (Some shown, rest)) [
      | true ↦ λ same. rw same (ap (λ (t : List ℕ). Ok (Some t, rest)) (sym ((bytes_eq-Decides shown text).0 same)))
      | false ↦ λ differs.
          let short = and_parts (text_field.fits shown) true (rw differs at fits) in
          let spelled : (other_text text).fits shown ≡ true = and_from (text_field.fits shown) (not (bytes_eq shown text)) short.0 (ap (λ (b : Bool). not b) differs) in
          rw differs (way_again (other_text text) (λ shown. Some shown) (other_lawful text) shown rest spelled)
    ] refl

shown_lawful : (text : List ℕ) → Lawful (shown_field text)
shown_lawful text = record {
  takes = choice_takes (shown_part text) (shown_ways text) (
    way_is (shown_part text) 0 nothing (λ x. None) nothing_lawful (λ x. refl),
    (
      way_is (shown_part text) 1 nothing (λ x. Some text) nothing_lawful (λ x. shown_same text),
      (way_is_fitting (shown_part text) 2 (other_text text) (λ shown. Some shown) (other_lawful text) (shown_other text), tt),
    ),
  );
  again = shown_again text;
}

texts_takes : (bytes : List ℕ) (x : (List ℕ × Option (List ℕ)) × List ℕ) → AreBytes bytes → texts_field.read bytes ≡ Ok x → Took texts_field bytes x
texts_takes bytes x fits e =
    let a = bind_ok (text_field.read bytes) (λ text. (shown_field text.0).read text.1 >>= λ shown. Ok ((text.0, shown.0), shown.1)) x e in
    let b = bind_ok ((shown_field a.0.0).read a.0.1) (λ shown. Ok ((a.0.0, shown.0), shown.1)) x a.2 in
    let first = text_lawful.takes bytes a.0 fits a.1 in
    let second = (shown_lawful a.0.0).takes a.0.1 b.0 first.rest b.1 in
    let took : Took texts_field bytes ((a.0.0, b.0.0), b.0.1) = record {
      parts = first.parts ∙ ap (λ (t : List ℕ). text_field.text a.0.0 ++ t) second.parts ∙ sym (append_assoc (text_field.text a.0.0) ((shown_field a.0.0).text b.0.0) b.0.1);
      rest = second.rest;
      fits = and_from _ _ first.fits second.fits;
    } in
    subst (λ (y : (List ℕ × Option (List ℕ)) × List ℕ). Took texts_field bytes y) (ok_is ((a.0.0, b.0.0), b.0.1) x b.2) took

texts_again : (x : List ℕ × Option (List ℕ)) (rest : List ℕ) → texts_field.fits x ≡ true → texts_field.read (texts_field.text x ++ rest) ≡ Ok (x, rest)
texts_again x rest fits =
    let parts = and_parts (text_field.fits x.0) ((shown_field x.0).fits x.1) fits in
    rw (append_assoc (text_field.text x.0) ((shown_field x.0).text x.1) rest, text_lawful.again x.0 ((shown_field x.0).text x.1 ++ rest) parts.0, (shown_lawful x.0).again x.1 rest parts.1) refl

texts_lawful : Lawful texts_field
texts_lawful = record { takes = texts_takes; again = texts_again }

-- ---- mounts

document_lawful : (version : Version) (last : Option Document) → Lawful (document_field version last)
document_lawful version last =
    let later = rises is_before (option_map (λ (document : Document). document.name) last) in
    seen_lawful (λ document. (document.number, document.name)) (λ x. record { number = x.0; name = x.1 }) (num version & checked name_field later)
    (both_lawful (num version) (checked name_field later) (num_lawful version) (checked_lawful name_field later name_lawful)) (λ x. refl) (λ x. refl)

documents_lawful : (version : Version) → Lawful (documents_field version)
documents_lawful version = list_lawful (checked count (λ n. nat_le n (docs_limit version))) (document_field version) (checked_lawful count (λ n. nat_le n (docs_limit version)) count_lawful) (document_lawful version)

term_again : (term : Term) (rest : List ℕ) → term_field.fits term ≡ true → term_field.read (term_field.text term ++ rest) ≡ Ok (term, rest)
unfolding choice_at way_at
term_again (Word letters) rest fits = whole_way_again word_field (λ letters. Word letters) word_lawful letters rest _ fits
term_again (Prefix letters) rest fits = whole_way_again word_field (λ letters. Prefix letters) word_lawful letters rest _ fits

term_lawful : Lawful term_field
term_lawful = record {
  takes = λ bytes x fits e. choice_takes term_part _ (
    whole_way_is term_part 1 word_field (λ letters. Word letters) word_lawful (λ x. refl),
    (whole_way_is term_part 2 word_field (λ letters. Prefix letters) word_lawful (λ x. refl), tt),
  ) bytes x fits e;
  again = term_again;
}

answer_lawful : (version : Version) (last : Option Answer) → Lawful (answer_field version last)
answer_lawful version last =
    let later = rises is_term_before (option_map (λ (answer : Answer). answer.term) last) in
    seen_lawful (λ answer. (answer.term, answer.documents)) (λ x. record { term = x.0; documents = x.1 }) (checked term_field later & nums version)
    (both_lawful (checked term_field later) (nums version) (checked_lawful term_field later term_lawful) (nums_lawful version)) (λ x. refl) (λ x. refl)

-- ---- entries

file_lawful : Lawful (flag_field & texts_field)
file_lawful = both_lawful flag_field texts_field flag_lawful texts_lawful

semantic_lawful : (version : Version) → Lawful (query_field version & nums version & nums version)
semantic_lawful version = both_lawful (query_field version) (nums version & nums version) (query_lawful version) (both_lawful (nums version) (nums version) (nums_lawful version) (nums_lawful version))

mount_lawful : (version : Version) → Lawful (space_field & documents_field version & list count (answer_field version))
mount_lawful version = both_lawful space_field (documents_field version & list count (answer_field version)) space_lawful (both_lawful (documents_field version) (list count (answer_field version)) (documents_lawful version) (list_lawful count (answer_field version) count_lawful (answer_lawful version)))

-- what has no documents is spelled without them
no-documents : (documents : List Document) → no_documents.fits documents ≡ true → documents ≡ []
no-documents documents none = nil_from_length documents (eqb-true _ _ none)

file-part : (version : Version) (x : Bool × (List ℕ × Option (List ℕ))) → stored_part version (File x.1.0 x.0 x.1.1, []) ≡ part 1 (flag_field & texts_field) x
file-part version x = rw (append-nil (texts_field.text x.1), and-true (texts_field.fits x.1)) refl

symlink-part : (version : Version) (target : List ℕ) → stored_part version (Symlink target, []) ≡ part 3 target_field target
symlink-part version target = rw (append-nil (target_field.text target), and-true (target_field.fits target)) refl

semantic-part : (version : Version) (x : Formula ℕ × (List ℕ × List ℕ)) → stored_part version (Semantic x.0 x.1.0 x.1.1, []) ≡ part 4 (query_field version & nums version & nums version) x
semantic-part version x = rw (append-nil ((nums version).text x.1.1), and-true ((nums version).fits x.1.1)) refl

stored_again : (version : Version) (x : Body × List Document) (rest : List ℕ) → (stored_field version).fits x ≡ true → (stored_field version).read ((stored_field version).text x ++ rest) ≡ Ok (x, rest)
unfolding choice_at way_at
stored_again version (File text dirty shown, documents) rest fits =
    let flag = and_parts (flag_field.fits dirty) (texts_field.fits (text, shown) && no_documents.fits documents) fits in
    let texts = and_parts (texts_field.fits (text, shown)) (no_documents.fits documents) flag.1 in
    rw (no-documents documents texts.1, append-nil (texts_field.text (text, shown)))
    (way_again (flag_field & texts_field) (λ x. (File x.1.0 x.0 x.1.1, [])) file_lawful (dirty, (text, shown)) rest (and_from _ _ flag.0 texts.0))
stored_again version (Dir, documents) rest fits = rw (no-documents documents fits) refl
stored_again version (Symlink target, documents) rest fits =
    let parts = and_parts (target_field.fits target) (no_documents.fits documents) fits in
    let alone : (stored_field version).read ((stored_field version).text (Symlink target, []) ++ rest) ≡ Ok ((Symlink target, []), rest) =
    ap (λ (p : Part). choice_at (stored_ways version) (p.text ++ rest)) (symlink-part version target) ∙ way_again target_field (λ target. (Symlink target, [])) target_lawful target rest parts.0 in
    rw (no-documents documents parts.1) alone
stored_again version (Semantic query permanent prohibited, documents) rest fits =
    let asked = and_parts ((query_field version).fits query) ((nums version).fits permanent && ((nums version).fits prohibited && no_documents.fits documents)) fits in
    let added = and_parts ((nums version).fits permanent) ((nums version).fits prohibited && no_documents.fits documents) asked.1 in
    let removed = and_parts ((nums version).fits prohibited) (no_documents.fits documents) added.1 in
    rw (no-documents documents removed.1, append-nil ((nums version).text prohibited))
    (way_again (query_field version & nums version & nums version) (λ x. (Semantic x.0 x.1.0 x.1.1, [])) (semantic_lawful version) (query, (permanent, prohibited)) rest (and_from _ _ asked.0 (and_from _ _ added.0 removed.0)))
stored_again version (Mount space answers, documents) rest fits =
    way_again (space_field & documents_field version & list count (answer_field version)) (λ x. (Mount x.0 x.1.1, x.1.0)) (mount_lawful version) (space, (documents, answers)) rest fits
stored_again version (other, documents) rest fits = absurd cc

stored_lawful : (version : Version) → Lawful (stored_field version)
stored_lawful version = record {
  takes = choice_takes (stored_part version) (stored_ways version) (
    way_is (stored_part version) 1 (flag_field & texts_field) (λ x. (File x.1.0 x.0 x.1.1, [])) file_lawful (file-part version),
    (
      way_is (stored_part version) 2 nothing (λ x. (Dir, [])) nothing_lawful (λ x. refl),
      (
        way_is (stored_part version) 3 target_field (λ target. (Symlink target, [])) target_lawful (symlink-part version),
        (
          way_is (stored_part version) 4 (query_field version & nums version & nums version) (λ x. (Semantic x.0 x.1.0 x.1.1, [])) (semantic_lawful version) (semantic-part version),
          (way_is (stored_part version) 5 (space_field & documents_field version & list count (answer_field version)) (λ x. (Mount x.0 x.1.1, x.1.0)) (mount_lawful version) (λ x. refl), tt),
        ),
      ),
    ),
  );
  again = stored_again version;
}

entry_lawful : (version : Version) (last : Option StoredEntry) → Lawful (entry_field version last)
entry_lawful version last =
    let later = rises nat_lt (option_map (λ (stored : StoredEntry). stored.entry.number) last) in
    seen_lawful (λ stored. (stored.entry.number, (stored.entry.parent, (stored.entry.name, (stored.entry.body, stored.documents)))))
    (λ x. record { entry = record { number = x.0; parent = x.1.0; name = x.1.1.0; body = x.1.1.1.0 }; documents = x.1.1.1.1 })
    (checked (num version) later & num version & name_field & stored_field version)
    (both_lawful (checked (num version) later) (num version & name_field & stored_field version) (checked_lawful (num version) later (num_lawful version)) (both_lawful (num version) (name_field & stored_field version) (num_lawful version) (both_lawful name_field (stored_field version) name_lawful (stored_lawful version))))
    (λ x. refl) (λ x. refl)

-- ---- snapshots

abbrev snapshot_part : Snapshot → Part
snapshot_part s = part (state_kind s.version) (snapshot_field s.version) s

abbrev numbered : Version → ℕ × List StoredEntry → Snapshot
numbered version x = record { version = version; next = x.0; entries = x.1 }

entries_lawful : (version : Version) → Lawful (num version & list count (entry_field version))
entries_lawful version = both_lawful (num version) (list count (entry_field version)) (num_lawful version) (list_lawful count (entry_field version) count_lawful (entry_lawful version))

-- what is read of a kind has the version of that kind
state_takes : (version : Version) → WayTakes snapshot_part (state_way version)
state_takes version = record { takes = takes }
  where
    Takes : List ℕ → Snapshot × List ℕ → Type 0
    Takes bytes x = ((state_kind version ∷ bytes) ≡ (snapshot_part x.0).text ++ x.1) × AreBytes x.1 × ((snapshot_part x.0).fits ≡ true)

    takes : (bytes : List ℕ) (x : Snapshot × List ℕ) → AreBytes bytes → (state_way version).read bytes ≡ Ok x → Takes bytes x
    takes bytes x fits e =
        let a = bind_ok ((snapshot_field version).read bytes) (λ y. Ok (y.0, y.1)) x e in
        let b = bind_ok ((num version & list count (entry_field version)).read bytes) (λ y. Ok (numbered version y.0, y.1)) a.0 a.1 in
        let took = (entries_lawful version).takes bytes b.0 fits b.1 in
        let whole : Takes bytes (numbered version b.0.0, b.0.1) = (ap (λ (t : List ℕ). state_kind version ∷ t) took.parts, took.rest, took.fits) in
        subst (λ (y : Snapshot × List ℕ). Takes bytes y) (ok_is (numbered version b.0.0, b.0.1) a.0 b.2 ∙ ok_is (a.0.0, a.0.1) x a.2) whole

-- and what is spelled of a version is read of it
state_again : (version : Version) (x : ℕ × List StoredEntry) (rest : List ℕ) → (num version & list count (entry_field version)).fits x ≡ true → snapshot_payload.read (snapshot_payload.text (numbered version x) ++ rest) ≡ Ok (numbered version x, rest)
unfolding choice_at way_at
state_again One x rest fits = rw (way_again (num One & list count (entry_field One)) (numbered One) (entries_lawful One) x rest fits) refl
state_again Two x rest fits = rw (way_again (num Two & list count (entry_field Two)) (numbered Two) (entries_lawful Two) x rest fits) refl

payload_takes : (bytes : List ℕ) (x : Snapshot × List ℕ) → AreBytes bytes → snapshot_payload.read bytes ≡ Ok x → Took snapshot_payload bytes x
payload_takes = choice_takes snapshot_part (state_way One ∷ state_way Two ∷ []) (state_takes One, (state_takes Two, tt))

payload_again : (s : Snapshot) (rest : List ℕ) → snapshot_payload.fits s ≡ true → snapshot_payload.read (snapshot_payload.text s ++ rest) ≡ Ok (s, rest)
payload_again s rest fits = state_again s.version (s.next, s.entries) rest fits

pub snapshot_is_read : SnapshotIsRead
unfolding is_spellable_snapshot snapshot_text spelled_snapshot
snapshot_is_read s fits =
    let read : snapshot_payload.read (snapshot_payload.text s) ≡ Ok (s, []) = ap (λ (bytes : List ℕ). snapshot_payload.read bytes) (sym (append-nil (snapshot_payload.text s))) ∙ payload_again s [] fits in
    rw read refl

pub read_is_snapshot : ReadIsSnapshot
unfolding is_spellable_snapshot snapshot_text spelled_snapshot
read_is_snapshot bytes s fits h =
    let a = bind_ok (snapshot_payload.read bytes) all_of s (placed_ok (length bytes) _ s h) in
    let g = guard_ok (eqb (length a.0.1) 0) (length a.0.1) a.0.0 s a.2 in
    let empty : a.0.1 ≡ [] = nil_from_length a.0.1 (eqb-true _ _ g.0) in
    let took = payload_takes bytes a.0 fits a.1 in
    let whole : bytes ≡ snapshot_payload.text a.0.0 = took.parts ∙ ap (λ (t : List ℕ). snapshot_payload.text a.0.0 ++ t) empty ∙ append-nil (snapshot_payload.text a.0.0) in
    subst (λ (x : Snapshot). IsTrue (snapshot_payload.fits x) × (bytes ≡ snapshot_payload.text x)) g.1 (took.fits, whole)

-- what is read has a spelling
pub snapshot_fits : (bytes : List ℕ) (x : Snapshot × List ℕ) → AreBytes bytes → snapshot_payload.read bytes ≡ Ok x → IsTrue (is_spellable_snapshot x.0)
unfolding is_spellable_snapshot
snapshot_fits bytes x fits e = (payload_takes bytes x fits e).fits
