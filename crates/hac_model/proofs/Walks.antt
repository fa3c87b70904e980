-- Where a path leads on which no link is followed: a walk from name to name.
use Rattle.std.proofs.Common.{◌≡◌, ℕ, suc, ◌-◌, true, false, cond, List, [], ◌∷◌, ◌++◌, length, map, refl, ap, sym, ◌∙◌, arith, append_assoc}
use Rattle.std.specs.Prelude.{◌&&◌, not, take, Option, Some, None, Result, Ok, Err, option_and_then}
use Rattle.std.specs.List.{slice_index_or}
use Rattle.std.specs.Option.{option_map_or, unwrap_or}
use Rattle.hac_model.specs.Run.Answers.{first_cause}
use Rattle.hac_model.specs.Tree.Looks.{has_names, destination, stands_at, ways}
use Rattle.hac_model.specs.Tree.Paths.{without_last}
use Rattle.hac_model.specs.Tree.{child, is_directory_at}
use Rattle.hac_model.specs.declared.places.Place.{Place}
use Rattle.hac_model.specs.declared.places.Place.TheVariants.{There, Free}
use Rattle.hac_model.specs.declared.replies.Refusal.{Refusal}
use Rattle.hac_model.specs.declared.replies.Refusal.TheVariants.{NoPath, NotDir}
use Rattle.hac_model.specs.declared.states.Entry.{Entry}
use Rattle.hac_model.specs.declared.states.State.{State}

-- where names lead from a directory on, given the names that led there
abbrev pub walk : List Entry → ℕ → List (List ℕ) → List (List ℕ) → Result Place Refusal
walk es dir walked [] = Ok (There dir)
walk es dir walked (name ∷ names) =
    option_map_or
    (λ number. cond (has_names names && not (is_directory_at es number)) (Err (NotDir (walked ++ name ∷ []))) (walk es number (walked ++ name ∷ []) names))
    (child es dir name)
    (cond (has_names names) (Err (NoPath (walked ++ name ∷ []))) (Ok (Free dir name)))

-- what stops a look-up that goes on from a directory
stop_from : List Entry → ℕ → List (List ℕ) → List (List ℕ) → Option Refusal
stop_from es dir walked way = option_map_or (λ number. cond (is_directory_at es number) None (Some (NotDir (walked ++ way)))) (stands_at es dir way) (Some (NoPath (walked ++ way)))

-- where it ends
ends : List Entry → ℕ → List (List ℕ) → Place
ends es dir names = option_map_or There (stands_at es dir names) (Free (unwrap_or (stands_at es dir (without_last 1 names)) 0) (slice_index_or names (length names - 1) []))

goes : List Entry → ℕ → List (List ℕ) → List (List ℕ) → Result Place Refusal
goes es dir walked names = option_map_or Err (first_cause (map (stop_from es dir walked) (ways names))) (Ok (ends es dir names))

stop-on : (es : List Entry) (dir n : ℕ) (walked : List (List ℕ)) (name : List ℕ) (way : List (List ℕ)) → child es dir name ≡ Some n → stop_from es dir walked (name ∷ way) ≡ stop_from es n (walked ++ name ∷ []) way
unfolding stop_from
stop-on es dir n walked name way found =
    ap (λ (o : Option ℕ). option_map_or (λ number. cond (is_directory_at es number) None (Some (NotDir (walked ++ name ∷ way)))) (option_and_then (λ number. stands_at es number way) o) (Some (NoPath (walked ++ name ∷ way)))) found
    ∙ ap (λ (p : List (List ℕ)). option_map_or (λ number. cond (is_directory_at es number) None (Some (NotDir p))) (stands_at es n way) (Some (NoPath p))) (sym (append_assoc walked (name ∷ []) way))

stops-on : (es : List Entry) (dir n : ℕ) (walked : List (List ℕ)) (name : List ℕ) (ws : List (List (List ℕ))) → child es dir name ≡ Some n → map (stop_from es dir walked) (map (λ way. name ∷ way) ws) ≡ map (stop_from es n (walked ++ name ∷ [])) ws
stops-on es dir n walked name [] found = refl
stops-on es dir n walked name (way ∷ ws) found = λ i. stop-on es dir n walked name way found i ∷ stops-on es dir n walked name ws found i

ends-on : (es : List Entry) (dir n : ℕ) (name next : List ℕ) (names : List (List ℕ)) → child es dir name ≡ Some n → ends es dir (name ∷ next ∷ names) ≡ ends es n (next ∷ names)
unfolding ends
ends-on es dir n name next names found =
    let one : length (name ∷ next ∷ names) - 1 ≡ suc (length names) = omega arith in
    let less : length (next ∷ names) - 1 ≡ length names = omega arith in
    ap (λ (k : ℕ). option_map_or There (stands_at es dir (name ∷ next ∷ names)) (Free (unwrap_or (stands_at es dir (take k (name ∷ next ∷ names))) 0) (slice_index_or (name ∷ next ∷ names) k []))) one
    ∙ ap (λ (o : Option ℕ). option_map_or There (option_and_then (λ number. stands_at es number (next ∷ names)) o) (Free (unwrap_or (option_and_then (λ number. stands_at es number (take (length names) (next ∷ names))) o) 0) (slice_index_or (next ∷ names) (length names) []))) found
    ∙ ap (λ (k : ℕ). option_map_or There (stands_at es n (next ∷ names)) (Free (unwrap_or (stands_at es n (take k (next ∷ names))) 0) (slice_index_or (next ∷ names) k []))) (sym less)

goes-walk : (es : List Entry) (dir : ℕ) (walked names : List (List ℕ)) → goes es dir walked names ≡ walk es dir walked names
unfolding goes ends stop_from
goes-walk es dir walked [] = at_end
  where
    at_end : goes es dir walked [] ≡ walk es dir walked []
    at_end = refl
goes-walk es dir walked (name ∷ []) = at_last (child es dir name) refl
  where
    at_last : (o : Option ℕ) → child es dir name ≡ o → goes es dir walked (name ∷ []) ≡ walk es dir walked (name ∷ [])
    at_last None found = ap (λ (o : Option ℕ). Ok (option_map_or There (option_and_then (λ number. Some number) o) (Free dir name))) found ∙ sym (ap (λ (o : Option ℕ). option_map_or (λ number. Ok (There number)) o (Ok (Free dir name))) found)
    at_last (Some n) found = ap (λ (o : Option ℕ). Ok (option_map_or There (option_and_then (λ number. Some number) o) (Free dir name))) found ∙ sym (ap (λ (o : Option ℕ). option_map_or (λ number. Ok (There number)) o (Ok (Free dir name))) found)
goes-walk es dir walked (name ∷ next ∷ names) = on_way (child es dir name) refl (λ n. goes-walk es n (walked ++ name ∷ []) (next ∷ names))
  where
    first_stop : (o : Option ℕ) → child es dir name ≡ o → stop_from es dir walked (name ∷ []) ≡ option_map_or (λ number. cond (is_directory_at es number) None (Some (NotDir (walked ++ name ∷ [])))) o (Some (NoPath (walked ++ name ∷ [])))
    first_stop None found = ap (λ (o : Option ℕ). option_map_or (λ number. cond (is_directory_at es number) None (Some (NotDir (walked ++ name ∷ [])))) (option_and_then (λ number. Some number) o) (Some (NoPath (walked ++ name ∷ [])))) found
    first_stop (Some n) found = ap (λ (o : Option ℕ). option_map_or (λ number. cond (is_directory_at es number) None (Some (NotDir (walked ++ name ∷ [])))) (option_and_then (λ number. Some number) o) (Some (NoPath (walked ++ name ∷ [])))) found

    walk_on : ℕ → Result Place Refusal
    walk_on number = cond (not (is_directory_at es number)) (Err (NotDir (walked ++ name ∷ []))) (walk es number (walked ++ name ∷ []) (next ∷ names))

    onward : (n : ℕ) → child es dir name ≡ Some n → goes es n (walked ++ name ∷ []) (next ∷ names) ≡ walk es n (walked ++ name ∷ []) (next ∷ names) → option_map_or Err (first_cause (cond (is_directory_at es n) None (Some (NotDir (walked ++ name ∷ []))) ∷ map (stop_from es dir walked) (map (λ way. name ∷ way) (ways (next ∷ names))))) (Ok (ends es dir (name ∷ next ∷ names))) ≡ walk_on n
    onward n found known = elim (is_directory_at es n) as (λ b. option_map_or Err (first_cause (cond b None (Some (NotDir (walked ++ name ∷ []))) ∷ map (stop_from es dir walked) (map (λ way. name ∷ way) (ways (next ∷ names))))) (Ok (ends es dir (name ∷ next ∷ names))) ≡ cond (not b) (Err (NotDir (walked ++ name ∷ []))) (walk es n (walked ++ name ∷ []) (next ∷ names))) [
      | false ↦ refl
      | true ↦
          ap (λ (causes : List (Option Refusal)). option_map_or Err (first_cause causes) (Ok (ends es dir (name ∷ next ∷ names)))) (stops-on es dir n walked name (ways (next ∷ names)) found)
          ∙ ap (λ (p : Place). option_map_or Err (first_cause (map (stop_from es n (walked ++ name ∷ [])) (ways (next ∷ names)))) (Ok p)) (ends-on es dir n name next names found)
          ∙ known
    ]

    on_way : (o : Option ℕ) → child es dir name ≡ o → ((n : ℕ) → goes es n (walked ++ name ∷ []) (next ∷ names) ≡ walk es n (walked ++ name ∷ []) (next ∷ names)) → goes es dir walked (name ∷ next ∷ names) ≡ walk es dir walked (name ∷ next ∷ names)
    on_way None found known =
        ap (λ (cause : Option Refusal). option_map_or Err (first_cause (cause ∷ map (stop_from es dir walked) (map (λ way. name ∷ way) (ways (next ∷ names))))) (Ok (ends es dir (name ∷ next ∷ names)))) (first_stop None found)
        ∙ sym (ap (λ (o : Option ℕ). option_map_or walk_on o (Err (NoPath (walked ++ name ∷ [])))) found)
    on_way (Some n) found known =
        ap (λ (cause : Option Refusal). option_map_or Err (first_cause (cause ∷ map (stop_from es dir walked) (map (λ way. name ∷ way) (ways (next ∷ names))))) (Ok (ends es dir (name ∷ next ∷ names)))) (first_stop (Some n) found)
        ∙ onward n found (known n)
        ∙ sym (ap (λ (o : Option ℕ). option_map_or walk_on o (Err (NoPath (walked ++ name ∷ [])))) found)

-- where a path leads is where the walk from the root ends
pub destination-walk : (s : State) (path : List (List ℕ)) → destination s path ≡ walk s.entries 0 [] path
unfolding destination goes ends stop_from
destination-walk s path = goes-walk s.entries 0 [] path
