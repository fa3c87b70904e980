-- The names of the spaces that words ask for.
use Rattle.std.proofs.Common.{◌≡◌, ℕ, Bool, true, false, List, length, map, Option, None, Some, refl, ap, subst, drop}
use Rattle.std.specs.Prelude.{◌&&◌, if◌then◌else◌, nat_le}
use Rattle.std.specs.Option.{option_and_then, option_map}
use Rattle.hac_model.specs.Script.CommandLine.{Options, Parsed, Space, options_from, each_space, fresh_of, given_by, make_of, may_stand, names_differ, options, spaces_of, store_of, tick_of}
use Rattle.hac_model.specs.declared.limits.TheConstants.{SPACES_LIMIT}

-- the names of spaces
abbrev pub names_in : List Space → List (List ℕ)
names_in = map (λ space. space.0)

-- what is asked for has the spaces that the words give
asked-spaces : (fresh : Option Bool) (tick : Option ℕ) (make : Option (Option ℕ)) (store : Option (List ℕ)) (spaces : Option (List Space)) (asked : Options) →
    option_and_then (λ fresh. option_and_then (λ tick. option_and_then (λ make. option_and_then (λ store. option_map (λ spaces.
    record { fresh = fresh; tick = tick; make = make; store = store; spaces = spaces }) spaces) store) make) tick) fresh ≡ Some asked →
    spaces ≡ Some asked.spaces
asked-spaces None tick make store spaces asked is = absurd cc
asked-spaces (Some fresh) None make store spaces asked is = absurd cc
asked-spaces (Some fresh) (Some tick) None store spaces asked is = absurd cc
asked-spaces (Some fresh) (Some tick) (Some make) None spaces asked is = absurd cc
asked-spaces (Some fresh) (Some tick) (Some make) (Some store) None asked is = absurd cc
asked-spaces (Some fresh) (Some tick) (Some make) (Some store) (Some spaces) asked is = ap (option_map (λ (o : Options). o.spaces)) is

-- those that may stand together have different names
stand-differ : (read : Option (List Space)) (spaces : List Space) → option_and_then (λ spaces. if may_stand spaces then Some spaces else None) read ≡ Some spaces → names_differ (names_in spaces) ≡ true
stand-differ None spaces is = absurd cc
stand-differ (Some read) spaces is = by (nat_le (length read) SPACES_LIMIT) (names_differ (names_in read)) refl is
  where
    by : (few differ : Bool) → names_differ (names_in read) ≡ differ → (if few && differ then Some read else None) ≡ Some spaces → names_differ (names_in spaces) ≡ true
    by false differ differ_is given = absurd cc
    by true false differ_is given = absurd cc
    by true true differ_is given = let same : read ≡ spaces = cc in subst (λ (found : List Space). names_differ (names_in found) ≡ true) same differ_is

-- the names of the spaces that words ask for differ
pub asked-differ : (words : List (List ℕ)) (asked : Options) → options words ≡ Some asked → names_differ (names_in asked.spaces) ≡ true
unfolding options
asked-differ words asked is = by (given_by words) is
  where
    by : (given : Option Parsed) → option_and_then options_from given ≡ Some asked → names_differ (names_in asked.spaces) ≡ true
    by None is = absurd cc
    by (Some given) is =
        stand-differ (each_space (drop 1 given.names)) asked.spaces
        (asked-spaces (fresh_of given.news) (tick_of given.ticks) (make_of given.makes) (store_of given.names) (spaces_of (drop 1 given.names)) asked is)
