-- What the writes of a flip make of a file in which a root counts.
use Rattle.std.proofs.Common.{◌≡◌, ◌≢◌, ◌⊎◌, inl, inr, ⊎_elim, ℕ, ◌+◌, ◌-◌, ◌<◌, ◌≤◌, ◌^◌, ◌==◌, true, false, List, [], ◌∷◌, ◌++◌, length, take, drop, slice_index, Some, IfSome, sym, ◌∙◌, ap, subst, arith, append_assoc, length-append, take-append-drop}
use Rattle.std.specs.declared.option.Option.{Option}
use Rattle.std.proofs.lemmas.Bool.{cases_eq}
use Rattle.std.proofs.lemmas.Bool.Decides.{nat_tests}
use Rattle.std.proofs.lemmas.List.{drop-drop, drop-take, drop_at, drop_more, get_or-drop, length-take}
use Rattle.byteorder.specs.Endian.{little_bytes, little_number}
use Rattle.byteorder.specs.Numbers.{length-bytes_low_first, little_number-reads_back}
use Rattle.hac_disk.specs.Images.{Torn, overlaid}
use Rattle.hac_disk.proofs.TornLemmas.{torn-whole}
use Rattle.hac_journal.proofs.CrashLemmas.{byte-same, front-less}
use Rattle.hac_checkpoint.specs.Flips.{HasRoot, HasSpareSlot, IsFilled, next_root, other_slot}
use Rattle.hac_checkpoint.specs.Roots.{agreeing, gate_of, generation, is_open, start, store_name}
use Rattle.hac_checkpoint.specs.declared.heads.Root.{Root}
use Rattle.hac_checkpoint.specs.declared.heads.Slot.{Slot}
use Rattle.hac_checkpoint.specs.declared.heads.Slot.TheVariants.{A, B}
use Rattle.hac_checkpoint.proofs.HeadLemmas.{agreeing-head, number-front}
use Rattle.hac_checkpoint.proofs.RootLemmas.{Live, gate_of-within, live-root, other-twice, root-live}
use Rattle.hac_checkpoint.proofs.WriteLemmas.{back-less, torn-wider}

gate_of-behind : (slot : Slot) → 9 ≤ gate_of slot
gate_of-behind A = omega arith
gate_of-behind B = omega arith

-- the two slots lie apart
slots-apart : (slot : Slot) → (gate_of slot + 17 ≤ gate_of (other_slot slot)) ⊎ (gate_of (other_slot slot) + 17 ≤ gate_of slot)
slots-apart A = inl (omega arith)
slots-apart B = inr (omega arith)

-- files that are the same before a range and behind it have the same bytes and numbers outside it
module _ (at n : ℕ) (c d : List ℕ) (before : take at c ≡ take at d) (after : drop (at + n) c ≡ drop (at + n) d) where
  byte-beside : (k : ℕ) → (k < at) ⊎ (at + n ≤ k) → slice_index c k ≡ slice_index d k
  byte-beside k outside =
      ⊎_elim
      (λ low. byte-same c d k at low before)
      (λ high.
      let there : at + n + (k - (at + n)) ≡ k = omega (arith, high) in
      ap (λ (i : ℕ). slice_index c i) (sym there) ∙ sym (get_or-drop (at + n) c (k - (at + n)) 0)
      ∙ ap (λ (l : List ℕ). slice_index l (k - (at + n))) after
      ∙ get_or-drop (at + n) d (k - (at + n)) 0 ∙ ap (λ (i : ℕ). slice_index d i) there)
      outside

  number-beside : (k : ℕ) → (k + 8 ≤ at) ⊎ (at + n ≤ k) → little_number 8 (drop k c) ≡ little_number 8 (drop k d)
  number-beside k outside = ⊎_elim (λ low. number-front k at c d low before) (λ high. ap (little_number 8) (back-less c d (at + n) k high after)) outside

is_open-true : (slot : Slot) (c : List ℕ) → slice_index c (gate_of slot) ≡ 1 → is_open slot c ≡ true
is_open-true slot c is = grind (arith, nat_tests)

open-byte : (slot : Slot) (c : List ℕ) → is_open slot c ≡ true → slice_index c (gate_of slot) ≡ 1
open-byte slot c is = grind (arith, nat_tests)

pub read-open : (slot : Slot) (seen : Option (List ℕ)) (file : List ℕ) → seen ≡ Some file → IfSome seen (λ f. true ≡ is_open slot f) → slice_index file (gate_of slot) ≡ 1
read-open slot seen file is gate = open-byte slot file (sym (subst (λ s. IfSome s (λ f. true ≡ is_open slot f)) is gate))

is_open-false : (slot : Slot) (c : List ℕ) → slice_index c (gate_of slot) ≢ 1 → is_open slot c ≡ false
is_open-false slot c shut = grind (arith, nat_tests)

-- a file whose other slot was torn
module _ (root : Root) (file c : List ℕ) (live : Live root file) (torn : Torn (gate_of (other_slot root.slot)) 17 file c) where
  abbrev gate : ℕ
  gate = gate_of (other_slot root.slot)

  same-mark : slice_index c 0 ≡ 1
  same-mark = let behind = gate_of-behind (other_slot root.slot) in byte-same c file 0 gate (omega (arith, behind)) torn.before ∙ live.mark

  same-name : agreeing store_name (drop 1 c) ≡ 8
  same-name =
      let behind = gate_of-behind (other_slot root.slot) in
      let front : take 9 c ≡ take 9 file = front-less c file 9 gate (omega (arith, behind)) torn.before in
      let name : (l : List ℕ) → agreeing store_name (drop 1 l) ≡ agreeing store_name (drop 1 (take 9 l)) =
      λ l. sym (ap (agreeing store_name) (drop-take 1 8 l) ∙ agreeing-head store_name (drop 1 l) 8 (omega arith)) in
      name c ∙ ap (λ (l : List ℕ). agreeing store_name (drop 1 l)) front ∙ sym (name file) ∙ live.name

  same-gate : is_open root.slot c ≡ true
  same-gate =
      let outside = ⊎_elim {C = (gate_of root.slot < gate) ⊎ (gate + 17 ≤ gate_of root.slot)} (λ low. inl (omega (arith, low))) (λ high. inr high) (slots-apart root.slot) in
      ap (λ (g : ℕ). g == 1) (byte-beside gate 17 c file torn.before torn.after (gate_of root.slot) outside) ∙ live.gate

  same-number : (k : ℕ) → k ≤ 9 → 1 ≤ k → little_number 8 (drop (gate_of root.slot + k) c) ≡ little_number 8 (drop (gate_of root.slot + k) file)
  same-number k most some =
      number-beside gate 17 c file torn.before torn.after (gate_of root.slot + k)
      (⊎_elim (λ low. inl (omega (arith, low, most))) (λ high. inr (omega (arith, high))) (slots-apart root.slot))

  -- while it is closed, the root counts
  stays : slice_index c gate ≢ 1 → Live root c
  stays shut = record {
    mark = same-mark;
    name = same-name;
    gate = same-gate;
    generation_is = same-number 1 (omega arith) (omega arith) ∙ live.generation_is;
    start_is = same-number 9 (omega arith) (omega arith) ∙ live.start_is;
    high = live.high;
    above = λ is. let none = sym (is_open-false (other_slot root.slot) c shut) ∙ is in absurd (cc);
  }

  -- once it is open with the next root, that one counts
  opens : (at : ℕ) → slice_index c gate ≡ 1 → generation (other_slot root.slot) c ≡ root.generation + 1 → start (other_slot root.slot) c ≡ at → 64 ≤ at
      → Live (next_root root at) c
  opens at is generation_is start_is high =
      let lower : generation root.slot c < root.generation + 1 = omega (arith, same-number 1 (omega arith) (omega arith), live.generation_is) in
      record {
        mark = same-mark;
        name = same-name;
        gate = is_open-true (other_slot root.slot) c is;
        generation_is = generation_is;
        start_is = start_is;
        high = high;
        above = λ _. subst (λ s. generation s c < root.generation + 1) (sym (other-twice root.slot)) lower;
      }

-- a torn write of one byte that left the byte left all
torn-one : (at : ℕ) (file c : List ℕ) → at < length file → Torn at 1 file c → slice_index c at ≡ slice_index file at → c ≡ file
torn-one at file c there torn same =
    let back : drop at c ≡ drop at file =
    drop_more c at 0 (omega (arith, there, torn.no_shorter)) ∙ ap (λ (g : ℕ). g ∷ drop (at + 1) c) same
    ∙ ap (λ (l : List ℕ). slice_index file at ∷ l) torn.after ∙ sym (drop_more file at 0 there) in
    sym (take-append-drop at c) ∙ ap (λ (l : List ℕ). l ++ drop at c) torn.before ∙ ap (λ (l : List ℕ). take at file ++ l) back ∙ take-append-drop at file

-- bytes that were written, and what is behind them
pub overlaid-back : (at : ℕ) (bytes file : List ℕ) → at ≤ length file → drop at (overlaid at bytes file) ≡ bytes ++ drop (at + length bytes) file
overlaid-back at bytes file starts =
    ap (drop at) (append_assoc (take at file) bytes (drop (at + length bytes) file))
    ∙ drop_at (take at file) (bytes ++ drop (at + length bytes) file) at (omega (arith, length-take at file, starts))

overlaid-byte : (at byte : ℕ) (file : List ℕ) → at ≤ length file → slice_index (overlaid at (byte ∷ []) file) at ≡ byte
overlaid-byte at byte file starts =
    let there : at + 0 ≡ at = omega arith in
    ap (slice_index (overlaid at (byte ∷ []) file)) (sym there) ∙ sym (get_or-drop at (overlaid at (byte ∷ []) file) 0 0) ∙ ap (λ (l : List ℕ). slice_index l 0) (overlaid-back at (byte ∷ []) file starts)

pub length-body : (n at : ℕ) (body : List ℕ) → body ≡ little_bytes 8 (n + 1) ++ little_bytes 8 at → length body ≡ 16
length-body n at body is =
    omega (arith, ap length is, length-append (little_bytes 8 (n + 1)) (little_bytes 8 at), length-bytes_low_first 0 8 (n + 1), length-bytes_low_first 0 8 at)

-- the writes of a flip, in a file with a whole head
module _ (root : Root) (file : List ℕ) (long : 64 ≤ length file) where
  abbrev spare : ℕ
  spare = gate_of (other_slot root.slot)

  within : spare + 17 ≤ length file
  within = let head = gate_of-within (other_slot root.slot) in omega (arith, long, head)

  counts : (c : List ℕ) → length file ≤ length c → Live root c → HasRoot root c
  counts c no_shorter live = live-root c (omega (arith, no_shorter, long)) root live

  wider : (a n : ℕ) (c : List ℕ) → spare ≤ a → a + n ≤ spare + 17 → Torn a n file c → Torn spare 17 file c
  wider a n c low high torn = torn-wider a n spare 17 file c low high torn

  -- the gate of the other slot is closed
  pub closing : (c : List ℕ) → HasRoot root file → slice_index file spare ≡ 1 → Torn spare 1 file c → HasRoot root c
  closing c is gate torn =
      let live = root-live file root is in
      ⊎_elim
      (λ left. subst (HasRoot root) (sym (torn-one spare file c (omega (arith, within)) torn (left ∙ sym gate))) is)
      (λ shut. counts c torn.no_shorter (stays root file c live (wider spare 1 c (omega arith) (omega arith) torn) shut))
      (cases_eq (slice_index c spare) 1)

  pub closed : HasRoot root file → slice_index file spare ≡ 1 → HasSpareSlot root (overlaid spare (0 ∷ []) file)
  closed is gate =
      let torn = torn-whole spare (0 ∷ []) file (omega (arith, within)) in
      let byte = overlaid-byte spare 0 file (omega (arith, within)) in
      record {
        counts = closing (overlaid spare (0 ∷ []) file) is gate torn;
        shut = record { there = omega (arith, torn.no_shorter, within); shut = λ is. omega (arith, byte, is) };
      }

  -- the other slot is written behind its gate
  shut-behind : (n : ℕ) (c : List ℕ) → HasSpareSlot root file → Torn (spare + 1) n file c → slice_index c spare ≢ 1
  shut-behind n c has torn is = has.shut.shut (sym (byte-same c file spare (spare + 1) (omega arith) torn.before) ∙ is)

  pub filling : (c : List ℕ) → HasSpareSlot root file → Torn (spare + 1) 16 file c → HasRoot root c
  filling c has torn =
      counts c torn.no_shorter
      (stays root file c (root-live file root has.counts) (wider (spare + 1) 16 c (omega arith) (omega arith) torn) (shut-behind 16 c has torn))

  pub filled : (at : ℕ) (body : List ℕ) → root.generation < 2 ^ 64 - 1 → at < 2 ^ 64 → body ≡ little_bytes 8 (root.generation + 1) ++ little_bytes 8 at
      → HasSpareSlot root file → IsFilled root at (overlaid (spare + 1) body file)
  filled at body fits_generation fits_start is has =
      let first = little_bytes 8 (root.generation + 1) in
      let second = little_bytes 8 at in
      let eight : length first ≡ 8 = length-bytes_low_first 0 8 (root.generation + 1) in
      let count = length-body root.generation at body is in
      let torn = subst (λ n. Torn (spare + 1) n file (overlaid (spare + 1) body file)) count (torn-whole (spare + 1) body file (omega (arith, within))) in
      let rest = drop (spare + 1 + length body) file in
      let back : drop (spare + 1) (overlaid (spare + 1) body file) ≡ first ++ (second ++ rest) =
      overlaid-back (spare + 1) body file (omega (arith, within)) ∙ ap (λ (l : List ℕ). l ++ rest) is ∙ append_assoc first second rest in
      let place : spare + 1 + 8 ≡ spare + 9 = omega arith in
      let further : drop (spare + 9) (overlaid (spare + 1) body file) ≡ second ++ rest =
      ap (λ (k : ℕ). drop k (overlaid (spare + 1) body file)) (sym place) ∙ sym (drop-drop 8 (spare + 1) (overlaid (spare + 1) body file))
      ∙ ap (drop 8) back ∙ drop_at first (second ++ rest) 8 eight in
      record {
        spare = record {
          counts = filling (overlaid (spare + 1) body file) has torn;
          shut = record { there = omega (arith, torn.no_shorter, within); shut = shut-behind 16 (overlaid (spare + 1) body file) has torn };
        };
        generation_is = ap (little_number 8) back ∙ little_number-reads_back 8 (root.generation + 1) (second ++ rest) (omega (arith, fits_generation));
        start_is = ap (little_number 8) further ∙ little_number-reads_back 8 at rest (omega (arith, fits_start));
      }

  -- the gate of the other slot is opened
  next-counts : (at : ℕ) (c : List ℕ) → 64 ≤ at → IsFilled root at file → Torn spare 1 file c → slice_index c spare ≡ 1 → HasRoot (next_root root at) c
  next-counts at c high is torn gate =
      let live = root-live file root is.spare.counts in
      let all = wider spare 1 c (omega arith) (omega arith) torn in
      let start_same : start (other_slot root.slot) c ≡ at = ap (little_number 8) (back-less c file (spare + 1) (spare + 9) (omega arith) torn.after) ∙ is.start_is in
      live-root c (omega (arith, torn.no_shorter, long)) (next_root root at)
      (opens root file c live all at gate (ap (little_number 8) torn.after ∙ is.generation_is) start_same high)

  pub opening : (at : ℕ) (c : List ℕ) → 64 ≤ at → IsFilled root at file → Torn spare 1 file c → HasRoot root c ⊎ HasRoot (next_root root at) c
  opening at c high is torn =
      let live = root-live file root is.spare.counts in
      ⊎_elim
      (λ gate. inr (next-counts at c high is torn gate))
      (λ shut. inl (counts c torn.no_shorter (stays root file c live (wider spare 1 c (omega arith) (omega arith) torn) shut)))
      (cases_eq (slice_index c spare) 1)

  pub opened : (at : ℕ) → 64 ≤ at → IsFilled root at file → HasRoot (next_root root at) (overlaid spare (1 ∷ []) file)
  opened at high is =
      next-counts at (overlaid spare (1 ∷ []) file) high is (torn-whole spare (1 ∷ []) file (omega (arith, within))) (overlaid-byte spare 1 file (omega (arith, within)))
