-- What a crash leaves at each moment while a state is written as a new area and the root flips to it.
use Rattle.std.proofs.Common.{◌≡◌, ◌⊎◌, inl, inr, ⊎_elim, ℕ, ◌+◌, ◌≤◌, List, length, None, Some, IfSome}
use Rattle.std.proofs.Common.{refl, sym, ◌∙◌, ap, subst, arith}
use Rattle.std.specs.declared.option.Option.{Option}
use Rattle.hac_disk.specs.Contents.{HasByteAt, RangeWithin, StartsWithin, Written, WrittenInPart}
use Rattle.hac_disk.specs.Images.{IsSettled, LeavesOnly, Only, Torn, TornFrom, overlaid}
use Rattle.hac_disk.specs.Seen.{DiskSeen, IsLawful}
use Rattle.hac_disk.proofs.ContentsLemmas.{told-settled, told-written}
use Rattle.hac_disk.proofs.Moments.{then_run, weaken}
use Rattle.hac_disk.proofs.TornLemmas.{torn-whole}
use Rattle.hac_checkpoint.specs.Areas.{area_of}
use Rattle.hac_checkpoint.specs.Flips.{HasRoot, IsFilled, other_slot}
use Rattle.hac_checkpoint.specs.Roots.{gate_of}
use Rattle.hac_checkpoint.specs.Writes.{IsSettledWith, WritesWithin}
use Rattle.hac_checkpoint.specs.declared.heads.Root.{Root}
use Rattle.hac_checkpoint.proofs.ApartLemmas.{writes-leave-roots}
use Rattle.hac_checkpoint.proofs.RootLemmas.{gate_of-within}
use Rattle.hac_model.specs.Tree.{raised}
use Rattle.hac_model.specs.Tree.Valid.{IsValid}
use Rattle.hac_model.specs.Run.Checkpoints.{next_place, state_text}
use Rattle.hac_store.specs.Checkpointing.{HoldsState, IsCheckpointed, moved_to}
use Rattle.hac_store.specs.Held.{held}
use Rattle.hac_store.specs.Stores.{Bears, Seen, Stands, root_by}
use Rattle.hac_store.proofs.CheckpointLemmas.{HasBoth, LiesIn, both-torn, both-written, live-holds, next-held}
use Rattle.hac_store.proofs.CheckpointLemmas.{next-holds, place-lies, torn-holds}

-- ---- what a disk tells

-- what is left of a settled disk has what its file has
settled-each : (disk : DiskSeen) (P : List ℕ → Type 0) → IsSettledWith P disk → (c : List ℕ) → disk.image c → P c
settled-each disk P settled c left = subst P (sym (settled.only c left)) settled.has

settled-told : (disk : DiskSeen) (P : List ℕ → Type 0) → IsSettledWith P disk → IsSettled disk × IfSome disk.contents P
settled-told disk P settled =
    (subst (λ s. IfSome s (λ file. Only file disk.image)) (sym settled.is) settled.only, subst (λ s. IfSome s P) (sym settled.is) settled.has)

-- what one write made of a file that is told
written-settled : (old new : DiskSeen) (P : List ℕ → Type 0) (at : ℕ) (bytes file : List ℕ)
    → old.contents ≡ Some file → Written old.contents at bytes new.contents → IsSettled new → P (overlaid at bytes file)
    → IsSettledWith P new
written-settled old new P at bytes file is written settled has =
    let after = told-written old.contents new.contents file bytes at is written in
    record { file = overlaid at bytes file; is = after; has = has; only = told-settled new (overlaid at bytes file) after settled }

-- a write in part keeps what no torn write there takes away
part-settled : (old new : DiskSeen) (P Q : List ℕ → Type 0) (a n : ℕ)
    → ((c d : List ℕ) → Torn a n d c → P d → P c) → IsSettledWith P old → WrittenInPart old.contents a n new.contents
    → IsSettledWith Q new → IsSettledWith P new
part-settled old new P Q a n keeps settled part also =
    let torn : WrittenInPart (Some settled.file) a n (Some also.file) = rw (settled.is, also.is) at part in
    record { file = also.file; is = also.is; has = keeps also.file settled.file torn settled.has; only = also.only }

part-none : (seen new : Option (List ℕ)) (a n : ℕ) → WrittenInPart seen a n new → seen ≡ None → new ≡ None
part-none seen new a n part none = subst (λ s. WrittenInPart s a n new) none part

pub part-head : (seen new : Option (List ℕ)) (a n : ℕ) → WrittenInPart seen a n new
    → RangeWithin seen 0 64 → RangeWithin new 0 64
part-head None new a n part head = subst (λ s. RangeWithin s 0 64) (sym part) tt
part-head (Some d) None a n part head = absurd part
part-head (Some d) (Some c) a n part head = omega (arith, head, part.no_shorter)

part-byte : (seen new : Option (List ℕ)) (a n place : ℕ) → WrittenInPart seen a n new
    → HasByteAt seen place → HasByteAt new place
part-byte None new a n place part byte = subst (λ s. HasByteAt s place) (sym part) tt
part-byte (Some d) None a n place part byte = absurd part
part-byte (Some d) (Some c) a n place part byte = omega (arith, byte, part.no_shorter)

module _ (store : Seen) (at : ℕ) (order : store.setting.start ≤ store.setting.end)
    (free : next_place store.setting ≡ Some at) where
  -- a place for an area lies in the file that is told, and so does its head
  pub place-starts : (disk : DiskSeen) → Bears disk store → StartsWithin disk.contents at
  place-starts disk bears = by disk.contents bears
    where
      by : (seen : Option (List ℕ)) → HasByteAt seen store.setting.end × IfSome seen (HasRoot (root_by store)) → StartsWithin seen at
      by None bears = tt
      by (Some file) bears = (place-lies store at order free file bears.1 bears.0).starts

  pub place-head : (disk : DiskSeen) → Bears disk store → RangeWithin disk.contents 0 64
  place-head disk bears = by disk.contents bears
    where
      by : (seen : Option (List ℕ)) → HasByteAt seen store.setting.end × IfSome seen (HasRoot (root_by store)) → RangeWithin seen 0 64
      by None bears = tt
      by (Some file) bears = (place-lies store at order free file bears.1 bears.0).head

-- a settled file with both areas whose root leads to the new one
next-stands : (store : Seen) (at : ℕ) (disk : DiskSeen)
    → IsSettledWith (HasRoot (root_by (moved_to store at))) disk → IsSettledWith (HasBoth store at) disk
    → Stands disk (moved_to store at).setting
next-stands store at disk root both =
    let has : HasBoth store at root.file = subst (HasBoth store at) (the-file (sym both.is ∙ root.is)) both.has in
    record { file = root.file; is = root.is; each = λ c left. ap held (root.only c left) ∙ next-held store at root.file root.has has }
  where
    the-file : {a b : List ℕ} → Some a ≡ Some b → a ≡ b
    the-file is = cc

-- ---- what a crash leaves

-- two facts about it
both-left : (old new : DiskSeen) (P Q : List ℕ → Type 0) → LeavesOnly old new P → LeavesOnly old new Q
    → LeavesOnly old new (λ c. P c × Q c)
both-left old new P Q first second = record {
  later = first.later;
  each = λ c left. (first.each c left, second.each c left);
  before = λ t c le left.
      ⊎_elim (λ past. inl past)
      (λ p. ⊎_elim (λ past. inl past) (λ q. inr (p, q)) (second.before t c le left)) (first.before t c le left);
}

-- at each moment of a write in part it has what no torn write there takes away
part-leaves : (old new : DiskSeen) (P Q : List ℕ → Type 0) (a n : ℕ) → ((c d : List ℕ) → Torn a n d c → P d → P c)
    → IsSettledWith P old → WritesWithin a n old new → LeavesOnly old new Q → LeavesOnly old new (λ c. Q c × P c)
part-leaves old new P Q a n keeps settled within run =
    both-left old new Q P run
    (weaken old new (TornFrom a n old.image) P
    (λ c torn. keeps c torn.0 torn.2 (settled-each old P settled torn.0 torn.1)) within.any_moment)

-- a checkpoint, call by call. First the area is written.
module _ (store : Seen) (at : ℕ) (valid : IsValid store.setting.state)
    (order : store.setting.start ≤ store.setting.end) (free : next_place store.setting ≡ Some at)
    (old mid : DiskSeen) (lawful : IsLawful old) (bears : Bears old store)
    (within : WritesWithin at (length (state_text (raised store.setting.state)) + 6) old mid) where
  abbrev Holds : List ℕ → Type 0
  Holds = HoldsState store.setting.state

  abbrev live : Root
  live = root_by store

  abbrev next : Root
  next = root_by (moved_to store at)

  abbrev gate : ℕ
  gate = gate_of (other_slot store.slot)

  abbrev bytes : List ℕ
  bytes = area_of (state_text (raised store.setting.state))

  abbrev end : ℕ
  end = at + 5 + length (state_text (raised store.setting.state))

  abbrev StoodFor : Type 0
  StoodFor = Stands old store.setting

  root_is : (file : List ℕ) → old.contents ≡ Some file → HasRoot live file
  root_is file is = subst (λ s. IfSome s (HasRoot (root_by store))) is bears.1

  lies : (file : List ℕ) → old.contents ≡ Some file → LiesIn store at order free file
  lies file is = place-lies store at order free file (root_is file is) (subst (λ s. HasByteAt s store.setting.end) is bears.0)

  pub writing-moments : StoodFor → LeavesOnly old mid Holds
  writing-moments stands =
      weaken old mid (TornFrom at (length (state_text (raised store.setting.state)) + 6) old.image) Holds
      (λ c torn. torn-holds store at order free c torn.0 (stands.each torn.0 torn.1) torn.2) within.any_moment

  -- then the slot is filled
  module _ (two : DiskSeen) (written : Written old.contents at bytes mid.contents) (settled : IsSettled mid)
      (fills : IsSettledWith (HasRoot live) mid → LeavesOnly mid two (HasRoot live)) (filled : WritesWithin gate 17 mid two) where
    rooted : (file : List ℕ) → old.contents ≡ Some file → IsSettledWith (HasRoot live) mid
    rooted file is =
        let place = lies file is in
        written-settled old mid (HasRoot live) at bytes file is written settled
        (writes-leave-roots at (length bytes) (overlaid at bytes file) file (omega (arith, place.behind))
        (torn-whole at bytes file place.starts) ∙ root_is file is)

    both : StoodFor → IsSettledWith (HasBoth store at) mid
    both stands =
        written-settled old mid (HasBoth store at) at bytes stands.file stands.is written settled
        (both-written store at order free stands.file valid (lies stands.file stands.is).starts
        (stands.each stands.file (lawful.read_is_image stands.file stands.is)))

    keeps : (n : ℕ) → n ≤ 17 → StoodFor
        → (c d : List ℕ) → Torn gate n d c → HasBoth store at d → HasBoth store at c
    keeps n low stands =
        let place = lies stands.file stands.is in
        both-torn store at gate n (omega (arith, gate_of-within (other_slot store.slot), low)) place.start
        place.behind

    pub filling-moments : StoodFor → LeavesOnly old two Holds
    filling-moments stands =
        then_run old mid two Holds (writing-moments stands)
        (weaken mid two (λ c. HasRoot live c × HasBoth store at c) Holds
        (λ c has. live-holds store at c has.0 has.1)
        (part-leaves mid two (HasBoth store at) (HasRoot live) gate 17 (keeps 17 (omega arith) stands) (both stands)
        filled (fills (rooted stands.file stands.is))))

    -- and last it is opened
    module _ (new : DiskSeen) (fill : IsSettledWith (HasRoot live) mid → IsSettledWith (IsFilled live at) two)
        (opens : 64 ≤ at → IsSettledWith (IsFilled live at) two → LeavesOnly two new (λ c. HasRoot live c ⊎ HasRoot next c))
        (opened : WritesWithin gate 1 two new) where
      both-filled : StoodFor → IsSettledWith (HasBoth store at) two
      both-filled stands =
          part-settled mid two (HasBoth store at) (IsFilled live at) gate 17
          (keeps 17 (omega arith) stands) (both stands) filled.in_part (fill (rooted stands.file stands.is))

      pub opening-moments : StoodFor → LeavesOnly old new Holds
      opening-moments stands =
          then_run old two new Holds (filling-moments stands)
          (weaken two new (λ c. (HasRoot live c ⊎ HasRoot next c) × HasBoth store at c) Holds
          (λ c has.
          ⊎_elim (λ is. live-holds store at c is has.1) (λ is. next-holds store at c is has.1) has.0)
          (part-leaves two new (HasBoth store at) (λ c. HasRoot live c ⊎ HasRoot next c) gate 1
          (keeps 1 (omega arith) stands) (both-filled stands) opened
          (opens (lies stands.file stands.is).behind (fill (rooted stands.file stands.is)))))

      -- so after it the next root counts
      module _ (flips : 64 ≤ at → IsSettledWith (IsFilled live at) two → IsSettledWith (HasRoot next) new) where
        flipped : (file : List ℕ) → old.contents ≡ Some file → IsSettledWith (HasRoot next) new
        flipped file is = flips (lies file is).behind (fill (rooted file is))

        flipped-told : IsSettled new × IfSome new.contents (HasRoot next)
        flipped-told = by old.contents refl
          where
            by : (o : Option (List ℕ)) → old.contents ≡ o
                → IsSettled new × IfSome new.contents (HasRoot next)
            by None is =
                let size = length (state_text (raised store.setting.state)) + 6 in
                let first = part-none old.contents mid.contents at size within.in_part is in
                let second = part-none mid.contents two.contents gate 17 filled.in_part first in
                let none = part-none two.contents new.contents gate 1 opened.in_part second in
                (subst (λ s. IfSome s (λ file. Only file new.image)) (sym none) tt, subst (λ s. IfSome s (HasRoot next)) (sym none) tt)
            by (Some file) is = settled-told new (HasRoot next) (flipped file is)

        pub flipped-made : HasByteAt mid.contents end
            → IsCheckpointed new store (moved_to store at) at
        flipped-made byte = record {
          free = free;
          store = refl;
          settled = flipped-told.0;
          place = (
            part-byte two.contents new.contents gate 1 end opened.in_part
                (part-byte mid.contents two.contents gate 17 end filled.in_part byte),
            flipped-told.1,
          );
        }

        pub flipped-stands : StoodFor → Stands new (moved_to store at).setting
        flipped-stands stands =
            let root_now = flipped stands.file stands.is in
            next-stands store at new root_now
            (part-settled two new (HasBoth store at) (HasRoot next) gate 1
            (keeps 1 (omega arith) stands) (both-filled stands) opened.in_part root_now)
