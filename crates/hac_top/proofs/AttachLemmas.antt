-- Spaces attached one after the other.
use Rattle.std.proofs.Common.{◌≡◌, ◌∙◌, ℕ, ◌+◌, ◌<◌, Bool, true, false, List, [], ◌∷◌, ◌++◌, length, take, drop, get_or, Option, None, Some, Ok, Err, refl, sym, ap, ap₂, subst, append_assoc, append-nil, arith}
use Rattle.std.specs.Prelude.{◌||◌, ◌&&◌, not, if◌then◌else◌, is_ok, Result}
use Rattle.std.specs.List.{AllByRecursion, list_any}
use Rattle.std.specs.Map.{lookup}
use Rattle.std.specs.Option.{option_and_then, option_map}
use Rattle.std.specs.Str.{bytes_eq}
use Rattle.std.proofs.lemmas.List.{length-map, length-take-le, map-append, map_more, take-append-drop}
use Rattle.std.proofs.lemmas.Slice.Eq.{bytes_eq-Decides}
use Rattle.hac_model.specs.Script.CommandLine.{Space, names_differ}
use Rattle.command_line.specs.Words.{space_asked, spaces_asked}
use Rattle.command_line.specs.declared.words.SpaceFile.{SpaceFile}
use Rattle.hac_outside.specs.Causes.{Rose}
use Rattle.hac_outside.specs.Known.{Known}
use Rattle.hac_model.specs.Spaces.Catalogue.{Document, catalogue}
use Rattle.sem_mounts.specs.Seen.{Attaches, Contents, CountsFault, Refuses, SpacesSeen, file_says, is_attach_failed, is_attached}
use Rattle.sem_mounts.specs.declared.faults.AttachFault.{AttachFault}
use Rattle.sem_mounts.specs.declared.faults.AttachFault.TheVariants as attach
use Rattle.hac_top.specs.Ends.{is_bad_space}
use Rattle.hac_top.specs.Spaces.{AttachesAll, AttachesUpTo, CanAttach, HasAttached, IsCatalogue, StopsAttaching, attach_status, names_of, said_by_documents, said_by_file}
use Rattle.hac_top.specs.declared.status.Status.{Status}

-- nothing was attached yet
all-none : (contents : Option Contents) → Known (AttachesAll []) contents contents
all-none None = tt
all-none (Some contents) = record {
  added = [];
  catalogues = refl;
  files_are = refl;
  spaces_are = sym (append-nil contents.spaces);
  calls_are = sym (append-nil contents.calls);
}

pub attached-none : (spaces : SpacesSeen) → HasAttached [] spaces spaces
attached-none spaces = record {
  names = sym (append-nil spaces.attached);
  contents = all-none spaces.contents;
  faults = refl;
}

-- what a file says is as before where the files are
says-same : (old now : Contents) (file : List ℕ) → now.files ≡ old.files → file_says now file ≡ file_says old file
says-same old now file same = ap (λ (files : List (List ℕ × List ℕ)). option_map catalogue (lookup (bytes_eq file) files)) same

abbrev Said : Type 0
Said = List ℕ × Option (Result (List Document) ℕ)

abbrev one_said : List ℕ → Option (Result (List Document) ℕ) → List Said
one_said name said = (name, said) ∷ []

-- one space more
all-grown : (front : List Space) (name file : List ℕ) (old now new : Contents) → AttachesAll front old now → Attaches {A = Unit {0}} name file (Ok tt) now new → AttachesAll (front ++ (name, file) ∷ []) old new
all-grown front name file old now new all one = record {
  added = all.added ++ (name, one.0) ∷ [];
  catalogues =
      map-append (said_by_file old) front ((name, file) ∷ [])
      ∙ ap₂ (λ (xs ys : List Said). xs ++ ys) all.catalogues (ap (λ (said : Option (Result (List Document) ℕ)). one_said name said) (sym (says-same old now file all.files_are) ∙ one.1))
      ∙ sym (map-append said_by_documents all.added ((name, one.0) ∷ []));
  files_are = ap (λ (c : Contents). c.files) one.2 ∙ all.files_are;
  spaces_are =
      ap (λ (c : Contents). c.spaces) one.2 ∙ ap (λ (xs : List (List ℕ × List Document)). xs ++ (name, one.0) ∷ []) all.spaces_are
      ∙ append_assoc old.spaces all.added ((name, one.0) ∷ []);
  calls_are =
      ap (λ (c : Contents). c.calls) one.2 ∙ ap (λ (xs : List Space). xs ++ (name, file) ∷ []) all.calls_are
      ∙ append_assoc old.calls front ((name, file) ∷ []);
}

known-grown : (front : List Space) (name file : List ℕ) (old now new : Option Contents) → Known (AttachesAll front) old now → Known (Attaches {A = Unit {0}} name file (Ok tt)) now new →
    Known (AttachesAll (front ++ (name, file) ∷ [])) old new
known-grown front name file None now new all one = tt
known-grown front name file (Some old) None new all one = absurd all
known-grown front name file (Some old) (Some now) None all one = absurd one
known-grown front name file (Some old) (Some now) (Some new) all one = all-grown front name file old now new all one

-- what a call that attached the space says
record Adds (name file : List ℕ) (now new : SpacesSeen) : Type 0 where
  pub names : new.attached ≡ now.attached ++ name ∷ []
  pub contents : Known (Attaches {A = Unit {0}} name file (Ok tt)) now.contents new.contents
  pub faults : new.faults ≡ now.faults

attached-more : (front : List Space) (name file : List ℕ) (old now new : SpacesSeen) → HasAttached front old now → Adds name file now new → HasAttached (front ++ (name, file) ∷ []) old new
attached-more front name file old now new has adds = record {
  names =
      adds.names ∙ ap (λ (xs : List (List ℕ)). xs ++ name ∷ []) has.names ∙ append_assoc old.attached (names_of front) (name ∷ [])
      ∙ ap (λ (xs : List (List ℕ)). old.attached ++ xs) (sym (map-append (λ (space : Space). space.0) front ((name, file) ∷ [])));
  contents = known-grown front name file old.contents now.contents new.contents has.contents adds.contents;
  faults = adds.faults ∙ has.faults;
}

-- the spaces of the words up to the next one
asked-next : (files : List SpaceFile) (i : ℕ) (file : SpaceFile) → i < length files → file ≡ get_or files i file → spaces_asked (take (i + 1) files) ≡ spaces_asked (take i files) ++ space_asked file ∷ []
asked-next files i file below is = map_more space_asked files i file below ∙ ap (λ (f : SpaceFile). spaces_asked (take i files) ++ space_asked f ∷ []) (sym is)

-- they stand in front of it, and others behind
parted : (files : List SpaceFile) (i : ℕ) (file : SpaceFile) → i < length files → file ≡ get_or files i file →
    spaces_asked files ≡ spaces_asked (take i files) ++ space_asked file ∷ spaces_asked (drop (i + 1) files)
parted files i file below is =
    ap spaces_asked (sym (take-append-drop (i + 1) files)) ∙ map-append space_asked (take (i + 1) files) (drop (i + 1) files)
    ∙ ap (λ (xs : List Space). xs ++ spaces_asked (drop (i + 1) files)) (asked-next files i file below is)
    ∙ append_assoc (spaces_asked (take i files)) (space_asked file ∷ []) (spaces_asked (drop (i + 1) files))

-- two different names differ either way
other-way : (a b : List ℕ) → bytes_eq a b ≡ false → bytes_eq b a ≡ false
other-way a b differ = by (bytes_eq b a) refl
  where
    by : (same : Bool) → bytes_eq b a ≡ same → bytes_eq b a ≡ false
    by false is = is
    by true is = absurd (let same : bytes_eq a b ≡ true = (bytes_eq-Decides a b).1 (sym ((bytes_eq-Decides b a).0 is)) in cc)

neither-first : (a b : Bool) → (a || b) ≡ false → a ≡ false
neither-first true b is = is
neither-first false b is = refl

neither-second : (a b : Bool) → (a || b) ≡ false → b ≡ false
neither-second true b is = absurd cc
neither-second false b is = is

-- where none passes, that one doesn't
passes-not : (p : List ℕ → Bool) (front behind : List (List ℕ)) (name : List ℕ) → list_any p (front ++ name ∷ behind) ≡ false → p name ≡ false
passes-not p [] behind name none = neither-first (p name) (list_any p behind) none
passes-not p (x ∷ front) behind name none = passes-not p front behind name (neither-second (p x) (list_any p (front ++ name ∷ behind)) none)

both-first : (a b : Bool) → (not a && b) ≡ true → a ≡ false
both-first true b is = absurd cc
both-first false b is = refl

both-second : (a b : Bool) → (not a && b) ≡ true → b ≡ true
both-second true b is = absurd cc
both-second false b is = is

-- where names differ, none of those in front is that one
pub differ-front : (front behind : List (List ℕ)) (name : List ℕ) → names_differ (front ++ name ∷ behind) ≡ true → list_any (bytes_eq name) front ≡ false
differ-front [] behind name differ = refl
differ-front (x ∷ front) behind name differ =
    let among = list_any (bytes_eq x) (front ++ name ∷ behind) in
    let rest = names_differ (front ++ name ∷ behind) in
    ap₂ (λ (a b : Bool). a || b) (other-way x name (passes-not (bytes_eq x) front behind name (both-first among rest differ))) (differ-front front behind name (both-second among rest differ))

-- the next space isn't attached yet
pub unattached : (files : List SpaceFile) (i : ℕ) (file : SpaceFile) → i < length files → file ≡ get_or files i file → names_differ (names_of (spaces_asked files)) ≡ true → (old now : SpacesSeen) → old.attached ≡ [] →
    HasAttached (spaces_asked (take i files)) old now → is_attached now file.name ≡ false
unattached files i file below is differ old now none has =
    let front = spaces_asked (take i files) in
    let behind = spaces_asked (drop (i + 1) files) in
    let apart : names_of (spaces_asked files) ≡ names_of front ++ file.name ∷ names_of behind = ap names_of (parted files i file below is) ∙ map-append (λ (space : Space). space.0) front (space_asked file ∷ behind) in
    let names : now.attached ≡ names_of front = has.names ∙ ap (λ (xs : List (List ℕ)). xs ++ names_of front) none in
    ap (list_any (bytes_eq file.name)) names ∙ differ-front (names_of front) (names_of behind) file.name (subst (λ (xs : List (List ℕ)). names_differ xs ≡ true) apart differ)

-- the next space was attached
pub attached-next : (files : List SpaceFile) (i : ℕ) (file : SpaceFile) → i < length files → file ≡ get_or files i file → (old now new : SpacesSeen) → HasAttached (spaces_asked (take i files)) old now →
    (result : Result Unit AttachFault) → ((fault : AttachFault) → result ≡ Err fault → ⊥) → new.attached ≡ (if is_ok result then now.attached ++ file.name ∷ [] else now.attached) →
    Known (Attaches file.name file.file.now result) now.contents new.contents → CountsFault (is_attach_failed result) now.faults new.faults →
    HasAttached (spaces_asked (take (i + 1) files)) old new
attached-next files i file below is old now new has (Ok done) passed names contents cause =
    rw (asked-next files i file below is) (attached-more (spaces_asked (take i files)) file.name file.file.now old now new has (record { names = names; contents = contents; faults = cause.1 }))
attached-next files i file below is old now new has (Err fault) passed names contents cause = absurd (passed fault refl)

known-stopped : (front : List Space) (space : Space) (fault : AttachFault) (old now new : Option Contents) → Known (AttachesAll front) old now → Known (Refuses space.0 space.1 fault) now new → Known (AttachesUpTo front space fault) old new
known-stopped front space fault None now new all one = tt
known-stopped front space fault (Some old) None new all one = absurd all
known-stopped front space fault (Some old) (Some now) None all one = absurd one
known-stopped front space fault (Some old) (Some now) (Some new) all one = (now, all, one)

-- it couldn't be
pub attach-stops : (files : List SpaceFile) (i : ℕ) (file : SpaceFile) → i < length files → file ≡ get_or files i file → (old now new : SpacesSeen) → HasAttached (spaces_asked (take i files)) old now →
    (result : Result Unit AttachFault) (fault : AttachFault) → result ≡ Err fault → new.attached ≡ (if is_ok result then now.attached ++ file.name ∷ [] else now.attached) →
    Known (Attaches file.name file.file.now result) now.contents new.contents → CountsFault (is_attach_failed result) now.faults new.faults →
    StopsAttaching (spaces_asked files) old new (attach_status (i + 1) fault)
attach-stops files i file below is old now new has (Ok done) fault failed names contents cause = absurd cc
attach-stops files i file below is old now new has (Err other) fault failed names contents cause =
    let same : other ≡ fault = cc in
    subst (λ (f : AttachFault). StopsAttaching (spaces_asked files) old new (attach_status (i + 1) f)) same (record {
      front = spaces_asked (take i files);
      space = space_asked file;
      behind = spaces_asked (drop (i + 1) files);
      files_are = parted files i file below is;
      fault = other;
      status_is = ap (λ (n : ℕ). attach_status (n + 1) other) (sym (length-map (take i files) space_asked ∙ length-take-le i files (omega (arith, below))));
      names = names ∙ has.names;
      contents = known-stopped (spaces_asked (take i files)) (space_asked file) other old.contents now.contents new.contents has.contents contents;
      cause = subst (λ (n : ℕ). CountsFault (is_attach_failed {A = Unit {0}} (Err other)) n new.faults) has.faults cause;
    })

-- a fact of each is one of that one
at-middle : (P : Space → Type 0) (front behind : List Space) (space : Space) → AllByRecursion P (front ++ space ∷ behind) → P space
at-middle P [] behind space all = all.0
at-middle P (x ∷ front) behind space all = at-middle P front behind space all.1

-- a file that is a catalogue has no bad line
no-bad-line : (front : List Space) (space : Space) (line : ℕ) (old new : Option Contents) → Known (AttachesUpTo front space (attach.BadCatalogue line)) old new →
    (documents : List Document) → option_and_then (λ contents. file_says contents space.1) old ≡ Some (Ok documents) → ⊥
no-bad-line front space line None new known documents is = cc
no-bad-line front space line (Some old) None known documents is = known
no-bad-line front space line (Some old) (Some new) known documents is =
    let says : file_says old space.1 ≡ Some (Err line) = sym (says-same old known.0 space.1 known.1.files_are) ∙ known.2.0 in
    let never : Some (Ok documents) ≡ Some (Err line) = sym is ∙ says in
    cc

-- where each file is a catalogue and nothing fails, each space is attached unless memory runs out
pub not-bad : (files : List Space) (old new : SpacesSeen) (status : Status) → StopsAttaching files old new status → CanAttach files old new → is_bad_space status ≡ true → ⊥
not-bad files old new status stops can bad = by stops.fault stops.status_is stops.contents stops.cause
  where
    could : IsCatalogue old stops.space.1 × (Rose old.faults new.faults → ⊥)
    could =
        at-middle (λ file. IsCatalogue old file.1 × (Rose old.faults new.faults → ⊥)) stops.front stops.behind stops.space
        (subst (AllByRecursion (λ file. IsCatalogue old file.1 × (Rose old.faults new.faults → ⊥))) stops.files_are can)

    by : (fault : AttachFault) → status ≡ attach_status (length stops.front + 1) fault → Known (AttachesUpTo stops.front stops.space fault) old.contents new.contents →
        CountsFault (is_attach_failed {A = Unit {0}} (Err fault)) old.faults new.faults → ⊥
    by attach.Failed status_is contents cause = could.1 cause.0.1
    by (attach.BadCatalogue line) status_is contents cause = no-bad-line stops.front stops.space line old.contents new.contents contents could.0.0 could.0.1
    by attach.Memory status_is contents cause = let never : false ≡ true = ap is_bad_space (sym status_is) ∙ bad in cc
