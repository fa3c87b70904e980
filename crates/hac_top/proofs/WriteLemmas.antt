-- What is written on the disk of a run, as one part of it follows another.
use Rattle.std.proofs.Common.{◌≡◌, ◌⊎◌, ℕ, ◌+◌, ◌≤◌, List, [], ◌∷◌, ◌++◌, length, take, drop, Option, None, Some, refl, ap, sym, subst, ◌∙◌, append-nil, append_assoc, length-append, arith, rules, inl, inr}
use Rattle.std.specs.List.{flat_map}
use Rattle.std.specs.Option.{IfSome}
use Rattle.std.proofs.Math.Seq.{drop-append_seam, take-append_seam}
use Rattle.hac_disk.specs.Contents.{Written}
use Rattle.hac_disk.specs.Images.{IsQuiet, IsSettled, Only}
use Rattle.hac_disk.specs.Seen.{DiskSeen}
use Rattle.hac_disk.proofs.Moments.{quiet_twice}
use Rattle.hac_journal.specs.Records.{log_of}
use Rattle.hac_model.specs.Payload.Payloads.{event_text}
use Rattle.hac_model.specs.Run.Play.{Setting, Turn, after_events, all_events, end_behind, left_by}
use Rattle.hac_model.specs.declared.events.Event.{Event}
use Rattle.hac_model.specs.declared.versions.Version.{Version}
use Rattle.hac_model.proofs.PlayLemmas.{end_behind-append}
use Rattle.hac_model.proofs.VersionLemmas.{apply_all-version}
use Rattle.std.specs.Prelude.{map}
use Rattle.hac_top.specs.Ends.{IsBetween}
use Rattle.hac_top.specs.Writes.{Appended, AreIdle, GrowsBy, SameArea, WritesEvents, WritesTurns}
use Rattle.hac_top.specs.declared.status.Status.{Status}
use Rattle.hac_top.specs.declared.status.Status.TheVariants.{DiskFault}

-- a disk that isn't touched
pub untouched : (disk : DiskSeen) → IsQuiet disk disk
untouched disk = record { same = refl; images = λ c left. left; later = omega arith; past = λ t c within left. left; keeps = λ t c within left. left }

-- where nothing is written, nothing is pending if nothing was
pub settled-still : (old new : DiskSeen) → IsQuiet old new → IsSettled old → IsSettled new
settled-still old new quiet settled = subst (λ (o : Option (List ℕ)). IfSome o (λ file. Only file new.image)) (sym quiet.same) (by old.contents settled)
  where
    by : (o : Option (List ℕ)) → IfSome o (λ file. Only file old.image) → IfSome o (λ file. Only file new.image)
    by None only = search rules
    by (Some file) only = λ c left. only c (quiet.images c left)

-- nothing joined with nothing
pub both-none : {A : Type 0} (xs ys : List A) → xs ++ ys ≡ [] → (xs ≡ []) × (ys ≡ [])
both-none [] ys none = (refl, none)
both-none (x ∷ xs) ys none = absurd (omega (arith, ap length none))

flat-append : (xs ys : List (List Event)) → flat_map (λ part. part) (xs ++ ys) ≡ flat_map (λ part. part) xs ++ flat_map (λ part. part) ys
flat-append [] ys = refl
flat-append (x ∷ xs) ys = ap (λ (es : List Event). x ++ es) (flat-append xs ys) ∙ sym (append_assoc x (flat_map (λ part. part) xs) (flat_map (λ part. part) ys))

appended-then : (version : Version) (end : ℕ) (xs ys : List (List Event)) (a b c : Option (List ℕ)) → Appended version end xs a b →
    Appended version (end_behind version end (flat_map (λ part. part) xs)) ys b c → Appended version end (xs ++ ys) a c
appended-then version end [] ys a b c first second = subst (λ (o : Option (List ℕ)). Appended version end ys o c) first second
appended-then version end (x ∷ xs) ys a b c (between, written, more) second = (
  between,
  written,
  appended-then version (end_behind version end x) xs ys between b c more
      (subst (λ (n : ℕ). Appended version n ys b c) (end_behind-append version x (flat_map (λ part. part) xs) end) second),
)

-- no event
pub grows-none : (told : Option (List ℕ)) (setting : Setting) → GrowsBy told told setting setting []
grows-none told setting = record { later = omega arith; version = λ _. refl; end = λ _. refl; written = λ _. ([], refl, refl) }

-- events that were stored by one append
pub grows-once : (old new : Option (List ℕ)) (setting : Setting) (events : List Event) → Written old setting.end (log_of (map (event_text setting.state.version) events)) new →
    GrowsBy old new setting (after_events setting events) events
grows-once old new setting events written =
    record { later = omega arith; version = λ _. apply_all-version setting.state events; end = λ _. refl; written = λ _. (events ∷ [], append-nil events, (new, written, refl)) }

-- events, and then more
pub grows-then : (a b c : Option (List ℕ)) (z w v : Setting) (xs ys : List Event) → GrowsBy a b z w xs → GrowsBy b c w v ys → GrowsBy a c z v (xs ++ ys)
grows-then a b c z w v xs ys first second =
    record {
      later = omega (arith, first.later, second.later);
      version = λ same. second.version (behind same) ∙ first.version (here same);
      end = λ same.
          second.end (behind same) ∙ (λ i. end_behind (first.version (here same) i) (first.end (here same) i) ys) ∙ sym (end_behind-append z.state.version xs ys z.end);
      written = λ same.
          let before = first.written (here same) in
          let after = second.written (behind same) in
          let ends : w.end ≡ end_behind z.state.version z.end (flat_map (λ part. part) before.0) =
          first.end (here same) ∙ ap (end_behind z.state.version z.end) (sym before.1) in (
            before.0 ++ after.0,
            flat-append before.0 after.0 ∙ (λ i. before.1 i ++ after.1 i),
            appended-then z.state.version z.end before.0 after.0 a b c before.2
                (subst (λ (n : ℕ). Appended z.state.version n after.0 b c) ends (subst (λ (version : Version). Appended version w.end after.0 b c) (first.version (here same)) after.2)),
          );
    }
  where
    here : SameArea z v → SameArea z w
    here same = omega (arith, same, first.later, second.later)

    behind : SameArea z v → SameArea w v
    behind same = omega (arith, same, first.later, second.later)

-- the same, in other words
pub grows-same : (old new : Option (List ℕ)) (first last next : Setting) (xs ys : List Event) → last ≡ next → xs ≡ ys → GrowsBy old new first last xs → GrowsBy old new first next ys
grows-same old new first last next xs ys same alike grows =
    subst (λ (z : Setting). GrowsBy old new first z ys) same (subst (λ (es : List Event). GrowsBy old new first last es) alike grows)

-- Turns of which the first ones were stored whole.
module _ (old new : DiskSeen) (status : Status) (setting : Setting) (turns answered : List Turn) where
  -- what is known of those that were stored is known of the first ones of all
  written-front : (n : ℕ) (mid : Option (List ℕ)) → take n turns ≡ answered → mid ≡ new.contents → GrowsBy old.contents mid setting (left_by setting answered) (all_events answered) →
      SameArea setting (left_by setting (take n turns)) → WritesEvents setting (all_events (take n turns)) old.contents new.contents
  written-front n mid front same grows =
      subst (λ (ts : List Turn). SameArea setting (left_by setting ts) → WritesEvents setting (all_events ts) old.contents new.contents) (sym front)
      (λ area. subst (λ (o : Option (List ℕ)). WritesEvents setting (all_events answered) old.contents o) same (grows.written area))

  -- and no line is in hand
  pub writes-between : (rest : List Turn) (done : ℕ) → turns ≡ answered ++ rest → done ≡ length answered → GrowsBy old.contents new.contents setting (left_by setting answered) (all_events answered) →
      (AreIdle setting answered → IsQuiet old new) → (IsSettled old → IsSettled new) → WritesTurns old new status setting turns done
  writes-between rest done all is grows still settled =
      let front : take (length answered) turns ≡ answered = ap (take (length answered)) all ∙ take-append_seam answered rest in
      record {
        stored = length answered;
        near = inl (sym is);
        written = λ _. written-front (length answered) new.contents front refl grows;
        quiet = λ _ idle. still (subst (AreIdle setting) front idle);
        settled = λ _. settled;
      }

  -- a line is in hand
  pub writes-cut : (mid : DiskSeen) (here rest : List Turn) (done : ℕ) → turns ≡ (answered ++ here) ++ rest → length here ≤ 1 → (done ≡ length answered) ⊎ (done ≡ length (answered ++ here)) → (IsBetween status → ⊥) →
      GrowsBy old.contents mid.contents setting (left_by setting answered) (all_events answered) → (AreIdle setting answered → IsQuiet old mid) → (IsSettled old → IsSettled mid) →
      (AreIdle (left_by setting answered) here → IsQuiet mid new) → ((status ≡ DiskFault → ⊥) → IsSettled mid → IsSettled new) → WritesTurns old new status setting turns done
  writes-cut mid here rest done all few place cut grows still settled hand on =
      let joined : turns ≡ answered ++ (here ++ rest) = all ∙ append_assoc answered here rest in
      let n = length answered in
      let front : take (length answered) turns ≡ answered = ap (take (length answered)) joined ∙ take-append_seam answered (here ++ rest) in
      let behind : drop (length answered) turns ≡ here ++ rest = ap (drop (length answered)) joined ∙ drop-append_seam answered (here ++ rest) in
      let quiet : IsBetween status ⊎ AreIdle (left_by setting (take (length answered) turns)) (take 1 (drop (length answered) turns)) → IsQuiet mid new =
      λ why. hand (in-hand here few why front behind) in
      record {
        stored = length answered;
        near = near-by here few place;
        written = λ why. written-front (length answered) mid.contents front (sym (quiet why).same) grows;
        quiet = λ why idle. quiet_twice old mid new (still (subst (AreIdle setting) front idle)) (quiet why);
        settled = λ fine was. on fine (settled was);
      }
    where
      near-by : (here : List Turn) → length here ≤ 1 → (done ≡ length answered) ⊎ (done ≡ length (answered ++ here)) → (length answered ≡ done) ⊎ ((length answered + 1 ≡ done) × (IsBetween status → ⊥))
      near-by here few (inl is) = inl (sym is)
      near-by [] few (inr is) = inl (omega (arith, is, length-append answered []))
      near-by (turn ∷ []) few (inr is) = inr (omega (arith, is, length-append answered (turn ∷ [])), cut)
      near-by (turn ∷ (more ∷ others)) few (inr is) = absurd (omega (arith, few))

      in-hand : (here : List Turn) → length here ≤ 1 → IsBetween status ⊎ AreIdle (left_by setting (take (length answered) turns)) (take 1 (drop (length answered) turns)) → take (length answered) turns ≡ answered →
          drop (length answered) turns ≡ here ++ rest → AreIdle (left_by setting answered) here
      in-hand here few (inl between) front behind = absurd (cut between)
      in-hand [] few (inr idle) front behind = (refl, refl)
      in-hand (turn ∷ []) few (inr idle) front behind =
          subst (λ (ts : List Turn). AreIdle (left_by setting ts) (turn ∷ [])) front (subst (λ (ts : List Turn). AreIdle (left_by setting (take (length answered) turns)) (take 1 ts)) behind idle)
      in-hand (turn ∷ (more ∷ others)) few (inr idle) front behind = absurd (omega (arith, few))

-- a disk on which nothing was written before
pub writes-since : (old mid new : DiskSeen) (status : Status) (setting : Setting) (turns : List Turn) (done : ℕ) → IsQuiet old mid → WritesTurns mid new status setting turns done → WritesTurns old new status setting turns done
writes-since old mid new status setting turns done still writes =
    record {
      stored = writes.stored;
      near = writes.near;
      written = λ why area. subst (λ (o : Option (List ℕ)). WritesEvents setting (all_events (take writes.stored turns)) o new.contents) still.same (writes.written why area);
      quiet = λ why idle. quiet_twice old mid new still (writes.quiet why idle);
      settled = λ fine was. writes.settled fine (settled-still old mid still was);
    }

-- nothing was written, and nothing was answered
pub writes-nothing : (old new : DiskSeen) (status : Status) (setting : Setting) (turns done : List Turn) → IsQuiet old new → done ≡ [] → WritesTurns old new status setting turns (length done)
writes-nothing old new status setting turns done still none =
    subst (λ (ts : List Turn). WritesTurns old new status setting turns (length ts)) (sym none)
    (writes-between old new status setting turns [] turns 0 refl refl
    (subst (λ (o : Option (List ℕ)). GrowsBy old.contents o setting setting []) (sym still.same) (grows-none old.contents setting)) (λ _. still) (settled-still old new still))
