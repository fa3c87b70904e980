-- What two steps in a row do to contents that may not be told.
use Rattle.std.proofs.Common.{◌≡◌, ℕ, ◌+◌, List, ◌++◌, take, drop, None, Some, append_assoc, take-add, sym}
use Rattle.std.specs.Io.KnownBytes.{Appends, Keeps, prepend_known}
use Rattle.std.specs.declared.option.Option.{Option}
use Rattle.hac_outside.specs.Known.{Known}

-- known bytes that grow by a beginning of these bytes, and then by some that follow, grow by the longer beginning
pub Appends-take-more : (a b c : Option (List ℕ)) (bytes : List ℕ) (done n : ℕ)
    → Appends a b (take done bytes) → Appends b c (take n (drop done bytes)) → Appends a c (take (done + n) bytes)
Appends-take-more None b c bytes done n first second = tt
Appends-take-more (Some x) None c bytes done n first second = absurd first
Appends-take-more (Some x) (Some y) None bytes done n first second = absurd second
Appends-take-more (Some x) (Some y) (Some z) bytes done n first second =
    rw (take-add, second, first) (append_assoc x (take done bytes) (take n (drop done bytes)))

-- what follows from what is said is said too
pub known-weaker : {A B : Type 0} (P Q : A → B → Type 0) (old : Option A) (new : Option B) → ((x : A) (y : B) → P x y → Q x y) → Known P old new → Known Q old new
known-weaker P Q None new follows says = tt
known-weaker P Q (Some x) None follows says = absurd says
known-weaker P Q (Some x) (Some y) follows says = follows x y says

-- two steps are one
pub known-joined : {A B C : Type 0} (P : A → B → Type 0) (Q : B → C → Type 0) (R : A → C → Type 0) (old : Option A) (mid : Option B) (new : Option C) →
    ((x : A) (y : B) (z : C) → P x y → Q y z → R x z) → Known P old mid → Known Q mid new → Known R old new
known-joined P Q R None mid new follows first second = tt
known-joined P Q R (Some x) None new follows first second = absurd first
known-joined P Q R (Some x) (Some y) None follows first second = absurd second
known-joined P Q R (Some x) (Some y) (Some z) follows first second = follows x y z first second

-- what is said of all that is pending is said of what is left behind what is held
pub known-behind : (P : List ℕ → List ℕ → Type 0) (old left : Option (List ℕ)) (held : List ℕ) → Known P old (prepend_known held left) → Known (λ x l. P x (held ++ l)) old left
known-behind P None left held says = tt
known-behind P (Some x) None held says = absurd says
known-behind P (Some x) (Some l) held says = says

-- bytes that stay are the same
pub known-kept : (old new : Option (List ℕ)) → Keeps old new → Known (λ x y. x ≡ y) old new
known-kept None new keeps = tt
known-kept (Some x) None keeps = absurd keeps
known-kept (Some x) (Some y) keeps = sym keeps
