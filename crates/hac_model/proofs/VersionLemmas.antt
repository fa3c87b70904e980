-- Events leave the version, and numbers that are no greater than they may be in a version have bytes there.
use Rattle.std.proofs.Common.{◌≡◌, ℕ, ◌^◌, ◌≤◌, true, List, [], ◌∷◌, refl, ◌∙◌, arith}
use Rattle.std.specs.Prelude.{nat_le, nat_lt, Some, None}
use Rattle.std.specs.Option.{option_map_or}
use Rattle.std.proofs.lemmas.Bool.{and_from}
use Rattle.std.proofs.lemmas.Bool.Decides.{nat_tests}
use Rattle.hac_model.specs.Payload.Fields.{count, num}
use Rattle.hac_model.specs.Tree.Events.{apply, apply_all, changed_at, edited, indexed, next_dirty}
use Rattle.hac_model.specs.Versions.{docs_limit, numbers_limit}
use Rattle.hac_model.specs.declared.events.Event.{Event}
use Rattle.hac_model.specs.declared.events.Event.TheVariants.{Step}
use Rattle.hac_model.specs.declared.limits.TheConstants.{DOCS_LIMIT, NUMBERS_LIMIT}
use Rattle.hac_model.specs.declared.states.State.{State}
use Rattle.hac_model.specs.declared.versions.Version.{Version}
use Rattle.hac_model.specs.declared.versions.Version.TheVariants.{One, Two}
use Rattle.hac_model.specs.Tree.Sessions.{are_few}

-- no event changes the version
pub apply-version : (s : State) (event : Event) → (apply s event).version ≡ s.version
apply-version s Step = elim (next_dirty s.entries) as (λ o. (option_map_or (λ file. changed_at s file (edited indexed)) o s).version ≡ s.version) [ None ↦ refl | Some file ↦ refl ]
apply-version s other = refl

pub apply_all-version : (s : State) (events : List Event) → (apply_all s events).version ≡ s.version
apply_all-version s [] = refl
apply_all-version s (event ∷ events) = apply_all-version (apply s event) events ∙ apply-version s event

-- what is no more than a mount may have in some version is no more than it may have in any
pub few-any : (version : Version) (n : ℕ) → nat_le n (docs_limit version) ≡ true → nat_le n DOCS_LIMIT ≡ true
few-any One n few = grind (arith, nat_tests, few)
few-any Two n few = few

-- no session is no session too many
pub none-few : (version : Version) → are_few version [] ≡ true
none-few One = refl
none-few Two = refl

-- numbers of the next entry, and those below
pub num-fits : (version : Version) (n : ℕ) → n ≤ numbers_limit version → (num version).fits n ≡ true
num-fits One n most = grind (arith, nat_tests, most)
num-fits Two n most = and_from (nat_lt n (256 ^ 8)) (nat_le n NUMBERS_LIMIT) (grind (arith, nat_tests, most)) (grind (arith, nat_tests, most))

pub root-fits : (version : Version) → (num version).fits 0 ≡ true
root-fits One = refl
root-fits Two = refl

-- what is counted in four bytes
pub count-fits : (n : ℕ) → n ≤ 4294967295 → count.fits n ≡ true
count-fits n most = grind (arith, nat_tests, most)

-- as how many documents a mount has
pub docs-fits : (version : Version) (n : ℕ) → n ≤ docs_limit version → count.fits n ≡ true
docs-fits One n most = count-fits n (omega (arith, most))
docs-fits Two n most = count-fits n (omega (arith, most))
