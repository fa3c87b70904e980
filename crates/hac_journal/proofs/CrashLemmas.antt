-- What each of the two writes of an append may leave.
use Rattle.std.proofs.Common.{◌≡◌, ◌⊎◌, inl, inr, ⊎_elim, ℕ, suc, ◌+◌, ◌<◌, ◌≤◌, List, [], ◌∷◌, ◌++◌, length, take, drop, get_or, slice_index, None, Some, refl, sym, ◌∙◌, ap, subst, arith, append_assoc}
use Rattle.std.specs.declared.option.Option.{Option}
use Rattle.std.proofs.lemmas.List.{take-take, drop_more, take_at, drop_at, get_or-take, length-take}
use Rattle.std.proofs.lemmas.Bool.{cases_eq}
use Rattle.hac_disk.specs.Contents.{HasByteAt, Written}
use Rattle.hac_disk.specs.Images.{IsSettled, overlaid, Torn, TornFrom}
use Rattle.hac_disk.specs.Seen.{DiskSeen}
use Rattle.hac_disk.proofs.TornLemmas.{overlaid-before, length-overlaid}
use Rattle.hac_disk.proofs.ContentsLemmas.{told-written, told-settled}
use Rattle.hac_journal.specs.Appending.{ClosedAt, HoldsAt, Appending}

-- files that agree up to a place agree up to an earlier one, and in each byte before it
pub front-less : (c d : List ℕ) (m n : ℕ) → m ≤ n → take n c ≡ take n d → take m c ≡ take m d
front-less c d m n le same = sym (take-take m n c le) ∙ ap (take m) same ∙ take-take m n d le

pub byte-same : (c d : List ℕ) (i n : ℕ) → i < n → take n c ≡ take n d → slice_index c i ≡ slice_index d i
byte-same c d i n lt same = sym (get_or-take n c i 0 lt) ∙ ap (λ (l : List ℕ). get_or l i 0) same ∙ get_or-take n d i 0 lt

-- what is torn behind a closed gate leaves it closed
pub torn-behind : (end n : ℕ) (bytes c : List ℕ) (image : List ℕ → Type 0) → ((d : List ℕ) → image d → ClosedAt end d)
    → TornFrom (end + 1) n image c → Appending end bytes image c
torn-behind end n bytes c image closed (d, left, torn) =
    let gate = closed d left in
    record {
      old = d;
      from = left;
      front = front-less c d end (end + 1) (omega arith) torn.before;
      rest = inl (record {
        there = omega (arith, gate.there, torn.no_shorter);
        shut = λ is. gate.shut (sym (byte-same c d end (end + 1) (omega arith) torn.before) ∙ is);
      });
    }

-- a file whose bytes behind a gate were written
module _ (end : ℕ) (body file : List ℕ) (gate : end < length file) where
  abbrev staged : List ℕ
  staged = overlaid (end + 1) body file

  abbrev behind : List ℕ
  behind = drop (end + 1 + length body) file

  staged-front : take end staged ≡ take end file
  staged-front = front-less staged file end (end + 1) (omega arith) (overlaid-before (end + 1) body file (omega arith))

  staged-back : drop (end + 1) staged ≡ body ++ behind
  staged-back = ap (drop (end + 1)) (append_assoc (take (end + 1) file) body behind) ∙ drop_at (take (end + 1) file) (body ++ behind) (end + 1) (omega (arith, length-take (end + 1) file))

  staged-long : length file ≤ length staged
  staged-long = omega (arith, length-overlaid (end + 1) body file (omega arith))

  -- a gate that is torn open has all of the bytes behind it
  torn-gate : (c : List ℕ) → Torn end 1 staged c → ClosedAt end c ⊎ HoldsAt end (1 ∷ body) c
  torn-gate c torn =
      let there : end < length c = omega (arith, staged-long, torn.no_shorter) in
      let back : drop end c ≡ slice_index c end ∷ (body ++ behind) = drop_more c end 0 there ∙ ap (λ (l : List ℕ). slice_index c end ∷ l) (torn.after ∙ staged-back) in
      ⊎_elim
      (λ is. inr (ap (take (suc (length body))) (back ∙ ap (λ (g : ℕ). g ∷ (body ++ behind)) is) ∙ ap (λ (l : List ℕ). 1 ∷ l) (take_at body behind (length body) refl)))
      (λ shut. inl (record { there = there; shut = shut }))
      (cases_eq (slice_index c end) 1)

  pub opening : (c : List ℕ) (image : List ℕ → Type 0) → image file → Torn end 1 staged c → Appending end (1 ∷ body) image c
  opening c image left torn = record {
    old = file;
    from = left;
    front = torn.before ∙ staged-front;
    rest = torn-gate c torn;
  }

  -- both writes are one
  pub opened : overlaid end (1 ∷ []) staged ≡ overlaid end (1 ∷ body) file
  opened =
      let more : end + 1 + length body ≡ end + length (1 ∷ body) = omega arith in
      ap (λ (l : List ℕ). l ++ (1 ∷ []) ++ drop (end + 1) staged) staged-front
      ∙ ap (λ (l : List ℕ). take end file ++ (1 ∷ []) ++ l) staged-back
      ∙ append_assoc (take end file) (1 ∷ []) (body ++ behind)
      ∙ sym (append_assoc (take end file) (1 ∷ body) behind)
      ∙ ap (λ (k : ℕ). take end file ++ (1 ∷ body) ++ drop k file) more

-- the images of the second write, where the first one lasts
pub gate-images : (old mid : DiskSeen) (end : ℕ) (body file : List ℕ) → old.contents ≡ Some file → old.image file
    → HasByteAt old.contents end → Written old.contents (end + 1) body mid.contents → IsSettled mid
    → (c : List ℕ) → TornFrom end 1 mid.image c → Appending end (1 ∷ body) old.image c
gate-images old mid end body file is left gate written settled c (d, left_mid, torn) =
    let there : end < length file = subst (λ s. HasByteAt s end) is gate in
    let only = told-settled mid (overlaid (end + 1) body file) (told-written old.contents mid.contents file body (end + 1) is written) settled in
    opening end body file there c old.image left (subst (λ f. Torn end 1 f c) (only d left_mid) torn)

pub written-joined : (seen mid new : Option (List ℕ)) (end : ℕ) (body : List ℕ) → HasByteAt seen end
    → Written seen (end + 1) body mid → Written mid end (1 ∷ []) new → Written seen end (1 ∷ body) new
written-joined None mid new end body gate first second = subst (λ m. Written m end (1 ∷ []) new) first second
written-joined (Some file) mid new end body gate first second =
    told-written mid new (overlaid (end + 1) body file) (1 ∷ []) end first second ∙ ap (λ (f : List ℕ). Some f) (opened end body file gate)
