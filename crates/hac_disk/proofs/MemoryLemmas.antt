-- What one call more does to what a disk in memory may leave.
use Rattle.std.proofs.Common.{◌≡◌, inl, inr, ⊎_elim, ℕ, suc, ◌-◌, ◌≤◌, Bool, List, [], ◌∷◌, ◌++◌, length, reverse, Some, refl, sym, ◌∙◌, ap, subst, arith, length-append}
use Rattle.std.proofs.lemmas.List.{take_at, drop_at, reverse-append}
use Rattle.hac_disk.specs.Images.{Torn, Follows, Elapses, IsQuiet}
use Rattle.hac_disk.specs.Memory.{Call, Wrote, Synced, Attached, DiskState, file_after, Image, ImageSince, seen_of}
use Rattle.hac_disk.specs.MemoryLaws.{seen_is_image, image_counts_now}
use Rattle.hac_disk.specs.Kept.{front, back, calls_of}
use Rattle.hac_disk.specs.declared.memory.Step.{Step}
use Rattle.hac_disk.specs.declared.memory.Step.TheVariants.{Write, Sync, Attach}
use Rattle.hac_disk.proofs.TornLemmas.{torn-whole}

-- bytes put behind the others are the last ones
back-append : (kept bytes : List ℕ) (n : ℕ) → n ≡ length bytes → back n (kept ++ bytes) ≡ bytes
back-append kept bytes n is = drop_at kept bytes (length (kept ++ bytes) - n) (omega (arith, length-append kept bytes))

front-append : (kept bytes : List ℕ) (n : ℕ) → n ≡ length bytes → front n (kept ++ bytes) ≡ kept
front-append kept bytes n is = take_at kept bytes (length (kept ++ bytes) - n) (omega (arith, length-append kept bytes))

-- the calls after one step more
pub calls-write : (log new_log : List Step) (kept new_kept bytes : List ℕ) (at n : ℕ)
    → new_log ≡ log ++ Write at n ∷ [] → new_kept ≡ kept ++ bytes → n ≡ length bytes
    → calls_of (reverse new_log) new_kept ≡ Wrote at bytes ∷ calls_of (reverse log) kept
calls-write log new_log kept new_kept bytes at n pushed put is =
    ap (λ l. calls_of (reverse l) new_kept) pushed
    ∙ ap (λ k. calls_of (reverse (log ++ Write at n ∷ [])) k) put
    ∙ ap (λ l. calls_of l (kept ++ bytes)) (reverse-append log (Write at n ∷ []))
    ∙ ap (λ b. Wrote at b ∷ calls_of (reverse log) (front n (kept ++ bytes))) (back-append kept bytes n is)
    ∙ ap (λ k. Wrote at bytes ∷ calls_of (reverse log) k) (front-append kept bytes n is)

pub calls-attach : (log new_log : List Step) (kept new_kept name : List ℕ) (n : ℕ) (make : Bool)
    → new_log ≡ log ++ Attach n make ∷ [] → new_kept ≡ kept ++ name → n ≡ length name
    → calls_of (reverse new_log) new_kept ≡ Attached name make ∷ calls_of (reverse log) kept
calls-attach log new_log kept new_kept name n make pushed put is =
    ap (λ l. calls_of (reverse l) new_kept) pushed
    ∙ ap (λ k. calls_of (reverse (log ++ Attach n make ∷ [])) k) put
    ∙ ap (λ l. calls_of l (kept ++ name)) (reverse-append log (Attach n make ∷ []))
    ∙ ap (λ b. Attached b make ∷ calls_of (reverse log) (front n (kept ++ name))) (back-append kept name n is)
    ∙ ap (λ k. Attached name make ∷ calls_of (reverse log) k) (front-append kept name n is)

pub calls-sync : (log new_log : List Step) (kept : List ℕ) → new_log ≡ log ++ Sync ∷ []
    → calls_of (reverse new_log) kept ≡ Synced ∷ calls_of (reverse log) kept
calls-sync log new_log kept pushed =
    ap (λ l. calls_of (reverse l) kept) pushed ∙ ap (λ l. calls_of l kept) (reverse-append log (Sync ∷ []))

-- a call whose images are images before it
quiet-step : (first : List ℕ) (older : List Call) (call : Call) (t : ℕ) (c : List ℕ)
    → ((i : List ℕ) → Image first (call ∷ older) i → Image first older i)
    → t ≤ length older → ImageSince first (call ∷ older) t c → ImageSince first older t c
quiet-step first older call t c images le since = ⊎_elim (λ now. image_counts_now first older t c le (images c now)) (λ past. past.1) since

module _ (old new : DiskState) (call : Call) (first : new.first ≡ old.first) (done : new.done ≡ call ∷ old.done) where
  same-image : (c : List ℕ) → (seen_of new).image c → Image old.first (call ∷ old.done) c
  same-image c left = rw (first, done) at left

  same-since : (t : ℕ) (c : List ℕ) → (seen_of new).image_since t c → ImageSince old.first (call ∷ old.done) t c
  same-since t c left = rw (first, done) at left

  back-since : (t : ℕ) (c : List ℕ) → ImageSince old.first (call ∷ old.done) t c → (seen_of new).image_since t c
  back-since t c left = rw (first, done) left

  count : length new.done ≡ suc (length old.done)
  count = ap length done

  quiet-call : file_after old.first (call ∷ old.done) ≡ file_after old.first old.done
      → ((i : List ℕ) → Image old.first (call ∷ old.done) i → Image old.first old.done i)
      → IsQuiet (seen_of old) (seen_of new)
  quiet-call same images = record {
    same = rw (first, done) (ap (λ (f : List ℕ). Some f) same);
    images = λ c left. images c (same-image c left);
    later = omega (arith, count);
    past = λ t c le left. quiet-step old.first old.done call t c images le (same-since t c left);
    keeps = λ t c le left. back-since t c (inr (le, left));
  }

  pub write-time : Elapses (seen_of old) (seen_of new)
  write-time = record {
    later = omega (arith, count);
    nothing_else = λ t c le left. ⊎_elim (λ now. inr (rw (first, done) now)) (λ past. inl past.1) (same-since t c left);
    keeps = λ t c le left. back-since t c (inr (le, left));
  }

pub quiet-sync : (old new : DiskState) → new.first ≡ old.first → new.done ≡ Synced ∷ old.done → IsQuiet (seen_of old) (seen_of new)
quiet-sync old new first done =
    quiet-call old new Synced first done refl (λ i is. subst (Image old.first old.done) (sym is) (seen_is_image old.first old.done))

pub quiet-attach : (old new : DiskState) (name : List ℕ) (make : Bool) → new.first ≡ old.first → new.done ≡ Attached name make ∷ old.done → IsQuiet (seen_of old) (seen_of new)
quiet-attach old new name make first done = quiet-call old new (Attached name make) first done refl (λ i left. left)

pub write-images : (old new : DiskState) (at : ℕ) (bytes : List ℕ) → at ≤ length (file_after old.first old.done) → new.first ≡ old.first → new.done ≡ Wrote at bytes ∷ old.done
    → Follows (Torn at (length bytes)) (seen_of old).image (seen_of new).image
write-images old new at bytes starts first done c left =
    let file = file_after old.first old.done in
    ⊎_elim
    (λ whole. (file, seen_is_image old.first old.done, subst (Torn at (length bytes) file) (sym whole) (torn-whole at bytes file starts)))
    (λ torn. torn)
    (same-image old new (Wrote at bytes) first done c left)
