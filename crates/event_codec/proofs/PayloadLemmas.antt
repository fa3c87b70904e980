-- Events are read back, and what is read is what they spell.
use Rattle.std.proofs.Common.{◌≡◌, ℕ, true, eqb, nat_lt, nat_le, List, [], ◌∷◌, ◌++◌, length, Result, Ok, Err, refl, sym, ap, subst, ◌∙◌, lit<, IsTrue}
use Rattle.std.specs.Int.{w8, w16, w32}
use Rattle.std.proofs.lemmas.Bool.{eqb-true}
use Rattle.std.proofs.lemmas.List.{append-nil, nil_from_length}
use Rattle.hac_model.specs.Payload.Fields.{Field, count, num, nothing, ◌&◌, checked, part, way, way_at, choice_at}
use Rattle.hac_model.specs.Tree.Names.{is_name}
use Rattle.hac_model.specs.Tree.Listing.{is_before}
use Rattle.hac_model.specs.Payload.Payloads.{name_field, space_field, text_field, target_field, docs_field, told_field, mark_field, nums, is_any, rises, mark_part, mark_ways, event_part, event_ways, event_field, event_kind, payload_field, is_spellable, event_text, all_of, placed, spelled}
use Rattle.hac_model.specs.Payload.QueryFields.{query_field}
use Rattle.hac_model.specs.Script.PathWords.{is_path_word}
use Rattle.hac_model.specs.Script.SpaceNames.{is_space_name}
use Rattle.hac_model.specs.declared.events.Event.{Event}
use Rattle.hac_model.specs.declared.events.Event.TheVariants.{Mkdir, NewFile, Rewrite, Ln, Mv, Rm, Rmdir, Smkdir, Setq, Unq, Mark, Smount, Ssync, Sumount, Step, Cd}
use Rattle.hac_model.specs.declared.limits.TheConstants.{NAME_LIMIT, TARGET_LIMIT, TEXT_LIMIT}
use Rattle.hac_model.specs.declared.marks.Kind.{Kind}
use Rattle.hac_model.specs.declared.marks.Kind.TheVariants.{Transient, Permanent, Prohibited, Unlinked}
use Rattle.hac_model.specs.Versions.{docs_limit}
use Rattle.hac_model.specs.declared.versions.Version.{Version}
use Rattle.hac_model.specs.declared.versions.Version.TheVariants.{One, Two}
use Rattle.event_codec.specs.Laws.{AreBytes, ReadIsWritten, WrittenIsRead}
use Rattle.event_codec.proofs.FieldLemmas.{Took, Lawful, bind_ok, guard_ok, wide8, wide16, wide32, run_lawful, nothing_lawful, both_lawful, checked_lawful, count_lawful, list_lawful, num_lawful, way_is, choice_takes, way_again}
use Rattle.event_codec.proofs.QueryLemmas.{query_lawful}

pub name_lawful : Lawful name_field
name_lawful = run_lawful w8 NAME_LIMIT is_name wide8 (lit< tt)

pub space_lawful : Lawful space_field
space_lawful = run_lawful w8 32 is_space_name wide8 (lit< tt)

pub text_lawful : Lawful text_field
text_lawful = run_lawful w32 TEXT_LIMIT is_any wide32 (lit< tt)

pub target_lawful : Lawful target_field
target_lawful = run_lawful w16 TARGET_LIMIT is_path_word wide16 (lit< tt)

pub nums_lawful : (version : Version) → Lawful (nums version)
nums_lawful version = list_lawful count (λ last. checked (num version) (rises nat_lt last)) count_lawful (λ last. checked_lawful (num version) (rises nat_lt last) (num_lawful version))

docs_lawful : (version : Version) → Lawful (docs_field version)
docs_lawful version = list_lawful (checked count (λ n. nat_le n (docs_limit version))) (λ last. checked name_field (rises is_before last)) (checked_lawful count (λ n. nat_le n (docs_limit version)) count_lawful) (λ last. checked_lawful name_field (rises is_before last) name_lawful)

told_lawful : (version : Version) → Lawful (told_field version)
told_lawful version = list_lawful count (λ last. nums version) count_lawful (λ last. nums_lawful version)

mark_again : (kind : Kind) (rest : List ℕ) → mark_field.fits kind ≡ true → mark_field.read (mark_field.text kind ++ rest) ≡ Ok (kind, rest)
unfolding choice_at way_at
mark_again Unlinked rest fits = refl
mark_again Permanent rest fits = refl
mark_again Prohibited rest fits = refl
mark_again Transient rest fits = absurd cc

mark_lawful : Lawful mark_field
mark_lawful = record {
  takes = choice_takes mark_part mark_ways (
    way_is mark_part 0 nothing (λ x. Unlinked) nothing_lawful (λ x. refl),
    (
      way_is mark_part 1 nothing (λ x. Permanent) nothing_lawful (λ x. refl),
      (way_is mark_part 2 nothing (λ x. Prohibited) nothing_lawful (λ x. refl), tt),
    ),
  );
  again = mark_again;
}

-- ---- the fields of each kind

named : {A : Type 0} (version : Version) (f : Field A) → Lawful f → Lawful (num version & name_field & f)
named version f p = both_lawful (num version) (name_field & f) (num_lawful version) (both_lawful name_field f name_lawful p)

mkdir_lawful : (version : Version) → Lawful (num version & name_field)
mkdir_lawful version = both_lawful (num version) name_field (num_lawful version) name_lawful

new_file_lawful : (version : Version) → Lawful (num version & name_field & text_field)
new_file_lawful version = named version text_field text_lawful

rewrite_lawful : (version : Version) → Lawful (num version & text_field)
rewrite_lawful version = both_lawful (num version) text_field (num_lawful version) text_lawful

ln_lawful : (version : Version) → Lawful (num version & name_field & target_field)
ln_lawful version = named version target_field target_lawful

mv_lawful : (version : Version) → Lawful (num version & num version & name_field)
mv_lawful version = both_lawful (num version) (num version & name_field) (num_lawful version) (mkdir_lawful version)

smkdir_lawful : (version : Version) → Lawful (num version & name_field & query_field version & told_field version)
smkdir_lawful version = named version (query_field version & told_field version) (both_lawful (query_field version) (told_field version) (query_lawful version) (told_lawful version))

setq_lawful : (version : Version) → Lawful (num version & query_field version & told_field version)
setq_lawful version = both_lawful (num version) (query_field version & told_field version) (num_lawful version) (both_lawful (query_field version) (told_field version) (query_lawful version) (told_lawful version))

marked_lawful : (version : Version) → Lawful (num version & num version & mark_field)
marked_lawful version = both_lawful (num version) (num version & mark_field) (num_lawful version) (both_lawful (num version) mark_field (num_lawful version) mark_lawful)

docs_told_lawful : (version : Version) → Lawful (docs_field version & told_field version)
docs_told_lawful version = both_lawful (docs_field version) (told_field version) (docs_lawful version) (told_lawful version)

smount_lawful : (version : Version) → Lawful (num version & name_field & space_field & docs_field version & told_field version)
smount_lawful version = named version (space_field & docs_field version & told_field version) (both_lawful space_field (docs_field version & told_field version) space_lawful (docs_told_lawful version))

ssync_lawful : (version : Version) → Lawful (num version & docs_field version & told_field version)
ssync_lawful version = both_lawful (num version) (docs_field version & told_field version) (num_lawful version) (docs_told_lawful version)

-- ---- events

event_again : (version : Version) (e : Event) (rest : List ℕ) → (event_field version).fits e ≡ true → (event_field version).read ((event_field version).text e ++ rest) ≡ Ok (e, rest)
unfolding choice_at way_at
event_again version (Mkdir dir name) rest fits = way_again (num version & name_field) (λ x. Mkdir x.0 x.1) (mkdir_lawful version) (dir, name) rest fits
event_again version (NewFile dir name text) rest fits = way_again (num version & name_field & text_field) (λ x. NewFile x.0 x.1.0 x.1.1) (new_file_lawful version) (dir, (name, text)) rest fits
event_again version (Rewrite file text) rest fits = way_again (num version & text_field) (λ x. Rewrite x.0 x.1) (rewrite_lawful version) (file, text) rest fits
event_again version (Ln dir name target) rest fits = way_again (num version & name_field & target_field) (λ x. Ln x.0 x.1.0 x.1.1) (ln_lawful version) (dir, (name, target)) rest fits
event_again version (Mv entry dir name) rest fits = way_again (num version & num version & name_field) (λ x. Mv x.0 x.1.0 x.1.1) (mv_lawful version) (entry, (dir, name)) rest fits
event_again version (Rm entry) rest fits = way_again (num version) (λ entry. Rm entry) (num_lawful version) entry rest fits
event_again version (Rmdir dir) rest fits = way_again (num version) (λ dir. Rmdir dir) (num_lawful version) dir rest fits
event_again version (Smkdir dir name query told) rest fits = way_again (num version & name_field & query_field version & told_field version) (λ x. Smkdir x.0 x.1.0 x.1.1.0 x.1.1.1) (smkdir_lawful version) (dir, (name, (query, told))) rest fits
event_again version (Setq dir query told) rest fits = way_again (num version & query_field version & told_field version) (λ x. Setq x.0 x.1.0 x.1.1) (setq_lawful version) (dir, (query, told)) rest fits
event_again version (Unq dir) rest fits = way_again (num version) (λ dir. Unq dir) (num_lawful version) dir rest fits
event_again version (Mark set) rest fits = way_again (num version & num version & mark_field) (λ x. Mark (record { dir = x.0; item = x.1.0; kind = x.1.1 })) (marked_lawful version) (set.dir, (set.item, set.kind)) rest fits
event_again version (Smount dir name space docs told) rest fits = way_again (num version & name_field & space_field & docs_field version & told_field version) (λ x. Smount x.0 x.1.0 x.1.1.0 x.1.1.1.0 x.1.1.1.1) (smount_lawful version) (dir, (name, (space, (docs, told)))) rest fits
event_again version (Ssync mount docs told) rest fits = way_again (num version & docs_field version & told_field version) (λ x. Ssync x.0 x.1.0 x.1.1) (ssync_lawful version) (mount, (docs, told)) rest fits
event_again version (Sumount mount) rest fits = way_again (num version) (λ mount. Sumount mount) (num_lawful version) mount rest fits
event_again version Step rest fits = refl
event_again version (Cd session dir) rest fits = absurd cc

event_takes : (version : Version) (bytes : List ℕ) (x : Event × List ℕ) → AreBytes bytes → (event_field version).read bytes ≡ Ok x → Took (event_field version) bytes x
event_takes version = choice_takes (event_part version) (event_ways version) (
  way_is (event_part version) 1 (num version & name_field) (λ x. Mkdir x.0 x.1) (mkdir_lawful version) (λ x. refl),
  (
    way_is (event_part version) 2 (num version & name_field & text_field) (λ x. NewFile x.0 x.1.0 x.1.1) (new_file_lawful version) (λ x. refl),
    (
      way_is (event_part version) 3 (num version & text_field) (λ x. Rewrite x.0 x.1) (rewrite_lawful version) (λ x. refl),
      (
        way_is (event_part version) 4 (num version & name_field & target_field) (λ x. Ln x.0 x.1.0 x.1.1) (ln_lawful version) (λ x. refl),
        (
          way_is (event_part version) 5 (num version & num version & name_field) (λ x. Mv x.0 x.1.0 x.1.1) (mv_lawful version) (λ x. refl),
          (
            way_is (event_part version) 6 (num version) (λ entry. Rm entry) (num_lawful version) (λ x. refl),
            (
              way_is (event_part version) 7 (num version) (λ dir. Rmdir dir) (num_lawful version) (λ x. refl),
              (
                way_is (event_part version) 8 (num version & name_field & query_field version & told_field version) (λ x. Smkdir x.0 x.1.0 x.1.1.0 x.1.1.1) (smkdir_lawful version) (λ x. refl),
                (
                  way_is (event_part version) 9 (num version & query_field version & told_field version) (λ x. Setq x.0 x.1.0 x.1.1) (setq_lawful version) (λ x. refl),
                  (
                    way_is (event_part version) 10 (num version) (λ dir. Unq dir) (num_lawful version) (λ x. refl),
                    (
                      way_is (event_part version) 11 (num version & num version & mark_field) (λ x. Mark (record { dir = x.0; item = x.1.0; kind = x.1.1 })) (marked_lawful version) (λ x. refl),
                      (
                        way_is (event_part version) 12 (num version & name_field & space_field & docs_field version & told_field version) (λ x. Smount x.0 x.1.0 x.1.1.0 x.1.1.1.0 x.1.1.1.1) (smount_lawful version) (λ x. refl),
                        (
                          way_is (event_part version) 13 (num version & docs_field version & told_field version) (λ x. Ssync x.0 x.1.0 x.1.1) (ssync_lawful version) (λ x. refl),
                          (
                            way_is (event_part version) 14 (num version) (λ mount. Sumount mount) (num_lawful version) (λ x. refl),
                            (way_is (event_part version) 15 nothing (λ x. Step) nothing_lawful (λ x. refl), tt),
                          ),
                        ),
                      ),
                    ),
                  ),
                ),
              ),
            ),
          ),
        ),
      ),
    ),
  ),
)

event_lawful : (version : Version) → Lawful (event_field version)
event_lawful version = record { takes = event_takes version; again = event_again version }

-- ---- payloads

payload_takes : (version : Version) (bytes : List ℕ) (x : Event × List ℕ) → AreBytes bytes → (payload_field version).read bytes ≡ Ok x → Took (payload_field version) bytes x
payload_takes version = choice_takes (λ e. part (event_kind version) (event_field version) e) (way (event_kind version) (event_field version) (λ e. e) ∷ []) (way_is (λ e. part (event_kind version) (event_field version) e) (event_kind version) (event_field version) (λ e. e) (event_lawful version) (λ x. refl), tt)

payload_again : (version : Version) (e : Event) (rest : List ℕ) → (payload_field version).fits e ≡ true → (payload_field version).read ((payload_field version).text e ++ rest) ≡ Ok (e, rest)
unfolding choice_at way_at
payload_again One e rest fits = way_again (event_field One) (λ e. e) (event_lawful One) e rest fits
payload_again Two e rest fits = way_again (event_field Two) (λ e. e) (event_lawful Two) e rest fits

pub written_is_read : WrittenIsRead
unfolding is_spellable event_text spelled
written_is_read version e fits =
    let read : (payload_field version).read ((payload_field version).text e) ≡ Ok (e, []) = ap (λ (bytes : List ℕ). (payload_field version).read bytes) (sym (append-nil ((payload_field version).text e))) ∙ payload_again version e [] fits in
    rw read refl

pub placed_ok : {A : Type 0} (size : ℕ) (read : Result A ℕ) (value : A) → placed size read ≡ Ok value → read ≡ Ok value
placed_ok size (Ok x) value h = h
placed_ok size (Err left) value h = absurd cc

pub read_is_written : ReadIsWritten
unfolding is_spellable event_text spelled
read_is_written version bytes e fits h =
    let a = bind_ok ((payload_field version).read bytes) all_of e (placed_ok (length bytes) _ e h) in
    let g = guard_ok (eqb (length a.0.1) 0) (length a.0.1) a.0.0 e a.2 in
    let empty : a.0.1 ≡ [] = nil_from_length a.0.1 (eqb-true _ _ g.0) in
    let took = payload_takes version bytes a.0 fits a.1 in
    let whole : bytes ≡ (payload_field version).text a.0.0 = took.parts ∙ ap (λ (t : List ℕ). (payload_field version).text a.0.0 ++ t) empty ∙ append-nil ((payload_field version).text a.0.0) in
    subst (λ (x : Event). IsTrue ((payload_field version).fits x) × (bytes ≡ (payload_field version).text x)) g.1 (took.fits, whole)

-- what is read has a spelling
pub read_fits : (version : Version) (bytes : List ℕ) (x : Event × List ℕ) → AreBytes bytes → (payload_field version).read bytes ≡ Ok x → IsTrue (is_spellable version x.0)
unfolding is_spellable
read_fits version bytes x fits e = (payload_takes version bytes x fits e).fits
