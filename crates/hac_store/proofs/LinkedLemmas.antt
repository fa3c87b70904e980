-- What a store promises whose links were found last.
use Rattle.std.proofs.Common.{◌≡◌, ◌+◌, ◌≤◌, ℕ, List, None, Some, Ok, Err, Option, Result, ap, arith, sym, subst, ◌∙◌}
use Rattle.std.specs.Prelude.{IfErr, IfOk, IfSome, OnOk}
use Rattle.hac_disk.specs.Images.{IsQuiet, IsSettled, Only}
use Rattle.hac_disk.specs.Seen.{DiskSeen}
use Rattle.hac_model.specs.Tree.Costs.{opening}
use Rattle.hac_store.specs.Held.{held}
use Rattle.hac_store.specs.Loading.{loading}
use Rattle.hac_store.specs.Stores.{Bears, Opens, Seen}
use Rattle.hac_store.specs.declared.fault.StoreFault.{StoreFault}
use Rattle.hac_store.specs.declared.fault.StoreFault.TheVariants.{AlreadyStore, Full, Memory}

module _ (result : Result Seen StoreFault) (unlinked : Seen) (same : IfOk result (λ store. store ≡ unlinked)) (memory : IfErr result (λ fault. fault ≡ Memory)) where
  pub linked-opens : (told : Option (List ℕ)) → IfSome told (λ file. Opens (Ok unlinked) (held file)) → IfSome told (λ file. Opens result (held file))
  linked-opens None opens = tt
  linked-opens (Some file) opens = of result same memory
    where
      of : (r : Result Seen StoreFault) → IfOk r (λ store. store ≡ unlinked) → IfErr r (λ fault. fault ≡ Memory) → Opens r (held file)
      of (Ok store) same memory = opens ∙ ap (λ (seen : Seen). Ok seen.setting) (sym same)
      of (Err fault) same memory = subst (λ (why : StoreFault). Opens (Err why) (held file)) (sym memory) tt

  pub linked-bears : (told : DiskSeen) → Bears told unlinked → IfOk result (λ store. Bears told store)
  linked-bears told bears = of result same
    where
      of : (r : Result Seen StoreFault) → IfOk r (λ store. store ≡ unlinked) → IfOk r (λ store. Bears told store)
      of (Ok store) same = subst (λ (seen : Seen). Bears told seen) (sym same) bears
      of (Err fault) same = tt

  pub linked-kind : (result ≡ Err AlreadyStore → ⊥) × (result ≡ Err Full → ⊥)
  linked-kind = of result memory
    where
      of : (r : Result Seen StoreFault) → IfErr r (λ fault. fault ≡ Memory) → (r ≡ Err AlreadyStore → ⊥) × (r ≡ Err Full → ⊥)
      of (Ok store) memory = ((λ is. absurd cc), (λ is. absurd cc))
      of (Err fault) memory = ((λ is. absurd cc), (λ is. absurd cc))

pub linked-asked : (told : Option (List ℕ)) (unlinked : Seen) (before asked after : ℕ) → IfSome told (λ file. asked + opening unlinked.setting.state ≤ before + loading file) → after ≤ asked + opening unlinked.setting.state → IfSome told (λ file. after ≤ before + loading file)
linked-asked None unlinked before asked after opens most = tt
linked-asked (Some file) unlinked before asked after opens most = omega (arith, opens, most)

pub linked-settled : (result : Result Seen StoreFault) (mid new : DiskSeen) → IsQuiet mid new → IsSettled mid → OnOk result (IsSettled new)
linked-settled (Err fault) mid new quiet settled = tt
linked-settled (Ok store) mid new quiet settled = subst (λ s. IfSome s (λ f. Only f new.image)) (sym quiet.same) (only mid.contents settled)
  where
    only : (told : Option (List ℕ)) → IfSome told (λ f. Only f mid.image) → IfSome told (λ f. Only f new.image)
    only None settled = tt
    only (Some file) settled = λ c left. settled c (quiet.images c left)
