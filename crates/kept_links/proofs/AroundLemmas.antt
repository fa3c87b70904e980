-- What an event touches, and what it doesn't, among the numbers around it: those of the entries before, and those that it gives.
use Rattle.std.proofs.Common.{◌≡◌, ℕ, suc, ◌+◌, ◌<◌, ◌≤◌, Bool, true, false, cond, List, [], ◌∷◌, ◌++◌, append_assoc, refl, ap, sym, ◌∙◌, arith, inl, inr}
use Rattle.std.specs.Prelude.{◌-◌, ◌==◌, ◌&&◌, ◌||◌, not, filter, Option, Some, None, is_some, IsTrue}
use Rattle.std.specs.List.{range_with_len}
use Rattle.std.specs.Option.{option_map, option_map_or}
use Rattle.std.proofs.lemmas.Bool.{cases_lt}
use Rattle.std.proofs.lemmas.List.{append-nil}
use Rattle.std.proofs.lemmas.List.Elements.{filter-append}
use Rattle.std.proofs.Math.Bool.{and-false}
use Rattle.hac_model.specs.Tree.{entry_at, is_document}
use Rattle.hac_model.specs.Tree.Events.{accepted, apply, edited, is_inside, next_dirty}
use Rattle.hac_model.specs.Tree.Links.{has, is_item, parent_of}
use Rattle.hac_model.specs.Tree.Mounting.{answers_to, cleared, forgetting_such, fresh, is_document_of, is_gone, is_such_at, keeping, redocumented, without_such}
use Rattle.hac_model.specs.Tree.Mounts.{terms_to_ask}
use Rattle.hac_model.specs.Tree.Touched.{touched, touches}
use Rattle.hac_model.specs.Tree.Valid.{IsValid, NumbersRise}
use Rattle.hac_model.specs.declared.events.Event.{Event}
use Rattle.hac_model.specs.declared.events.Event.TheVariants.{NewFile, Mark, Mv, Rm, Smount, Ssync, Sumount, Step}
use Rattle.hac_model.specs.declared.states.Body.TheVariants.{Mount}
use Rattle.hac_model.specs.declared.states.Entry.{Entry}
use Rattle.hac_model.specs.declared.states.State.{State}
use Rattle.hac_model.proofs.ChangeLemmas.{entry_at-changed, entry_at-none, entry_at-other, touched as changed_one}
use Rattle.hac_model.proofs.MapLemmas.{entry_at-mapped}
use Rattle.hac_model.proofs.MarkLemmas.{has-filter, rise-filter}
use Rattle.hac_model.proofs.MountLayoutLemmas.{entry_at-documents}
use Rattle.hac_model.proofs.RangeLemmas.{range-ends, range-has, range-joined, range-more, range-rises}
use Rattle.hac_model.proofs.TreeLemmas.{entry_at-next}
use Rattle.file_tree.specs.Answers.{numbers_of}
use Rattle.file_tree.proofs.LiveLemmas.{numbers-has, numbers-rise}
use Rattle.file_tree.proofs.RisingLemmas.{rising-one}
use Rattle.reeval.proofs.EventsLeave.{event-owes}
use Rattle.kept_links.specs.Items.{is_other, is_passed_over, numbers_around, others, reach_of}
use Rattle.kept_links.specs.declared.items.Reach.TheVariants.{Nothing, One, Any}
use Rattle.kept_links.proofs.ItemLemmas.{next-grows, owed-item}
use Rattle.hac_model.proofs.ListedLemmas.{none-item}

-- below the next number, those that pass are entries' numbers, if no other passes
passing-live : (p : ℕ → Bool) (es : List Entry) (next : ℕ) → NumbersRise 0 es next → ((k : ℕ) → k < next → entry_at es k ≡ None → p k ≡ false) → filter p (numbers_of es) ≡ filter p (range_with_len 0 next)
passing-live p es next rise fails =
    rising-one 0 0 (filter p (numbers_of es)) (filter p (range_with_len 0 next))
    (rise-filter p 0 (numbers_of es) (numbers-rise 0 0 es next rise (omega arith)))
    (rise-filter p 0 (range_with_len 0 next) (range-rises 0 next))
    (λ k. has-filter p (numbers_of es) k ∙ same k ∙ sym (has-filter p (range_with_len 0 next) k))
  where
    below : (k : ℕ) → k < next → (o : Option Entry) → entry_at es k ≡ o → (p k && has (numbers_of es) k) ≡ (p k && has (range_with_len 0 next) k)
    below k less None none = ap (λ (b : Bool). b && has (numbers_of es) k) (fails k less none) ∙ sym (ap (λ (b : Bool). b && has (range_with_len 0 next) k) (fails k less none))
    below k less (Some e) found = ap (λ (b : Bool). p k && b) (numbers-has es k ∙ ap (λ (o : Option Entry). is_some o) found ∙ sym (range-has 0 next k (omega arith) (omega (arith, less))))

    same : (k : ℕ) → (p k && has (numbers_of es) k) ≡ (p k && has (range_with_len 0 next) k)
    same k = elim (cases_lt k next) [
      | inl less ↦ below k less (entry_at es k) refl
      | inr more ↦ ap (λ (b : Bool). p k && b) (numbers-has es k ∙ ap (λ (o : Option Entry). is_some o) (entry_at-next 0 es next k rise more) ∙ sym (range-ends 0 next k (omega (arith, more))))
    ]

-- so among the numbers around an event there are all that pass
passing-around : (p : ℕ → Bool) (s after : State) → NumbersRise 0 s.entries s.next → s.next ≤ after.next → ((k : ℕ) → k < s.next → entry_at s.entries k ≡ None → p k ≡ false) →
    filter p (numbers_around s after) ≡ filter p (range_with_len 0 after.next)
passing-around p s after rise grows fails =
    let more = after.next - s.next in
    let all : s.next + more ≡ after.next = omega (arith, grows) in
    let start : s.next ≡ 0 + s.next = omega arith in
    filter-append p (numbers_of s.entries) (range_with_len s.next more)
    ∙ ap (λ (ns : List ℕ). ns ++ filter p (range_with_len s.next more)) (passing-live p s.entries s.next rise fails)
    ∙ sym (filter-append p (range_with_len 0 s.next) (range_with_len s.next more))
    ∙ ap (filter p) (ap (λ (k : ℕ). range_with_len 0 s.next ++ range_with_len k more) start ∙ range-joined 0 s.next more ∙ ap (range_with_len 0) all)

-- one number more, with those that passed so far
pub passing-next : (p : ℕ → Bool) (old new all left rest : List ℕ) (n : ℕ) → left ≡ n ∷ rest → old ++ filter p left ≡ all → new ≡ old ++ cond (p n) (n ∷ []) [] → new ++ filter p rest ≡ all
passing-next p old new all left rest n is so_far put =
    ap (λ (ns : List ℕ). ns ++ filter p rest) put
    ∙ append_assoc old (cond (p n) (n ∷ []) []) (filter p rest)
    ∙ ap (λ (ns : List ℕ). old ++ ns) (elim (p n) as (λ b. cond b (n ∷ []) [] ++ filter p rest ≡ cond b (n ∷ filter p rest) (filter p rest)) [ true ↦ refl | false ↦ refl ])
    ∙ ap (λ (ns : List ℕ). old ++ filter p ns) (sym is)
    ∙ so_far

-- none is left
pub passing-ended : (p : ℕ → Bool) (items all left : List ℕ) → left ≡ [] → items ++ filter p left ≡ all → items ≡ all
passing-ended p items all left is so_far = sym (append-nil items) ∙ ap (λ (ns : List ℕ). items ++ filter p ns) (sym is) ∙ so_far

-- one number more that was given since
pub around-next : (before : List ℕ) (first n : ℕ) (old new : List ℕ) → first ≤ n → old ≡ before ++ range_with_len first (n - first) → new ≡ old ++ n ∷ [] → new ≡ before ++ range_with_len first (n + 1 - first)
around-next before first n old new low so_far put =
    let last : first + (n - first) ≡ n = omega (arith, low) in
    let more : suc (n - first) ≡ n + 1 - first = omega (arith, low) in
    put ∙ ap (λ (ns : List ℕ). ns ++ n ∷ []) so_far
    ∙ append_assoc before (range_with_len first (n - first)) (n ∷ [])
    ∙ ap (λ (ns : List ℕ). before ++ ns) (ap (λ (k : ℕ). range_with_len first (n - first) ++ k ∷ []) (sym last) ∙ sym (range-more first (n - first)) ∙ ap (range_with_len first) more)

-- What has no entry before the event.

no-document : (s : State) (mount n : ℕ) → entry_at s.entries n ≡ None → is_document_of s mount n ≡ false
no-document s mount n none = ap (λ (o : Option Entry). option_map_or is_document (option_map (λ (e : Entry). e.body) o) false && (parent_of s n == mount)) none

module _ (s : State) (n : ℕ) (low : n < s.next) (none : entry_at s.entries n ≡ None) where
  -- a mount that comes takes no number that was taken
  none-mounted : (dir : ℕ) (name space : List ℕ) (documents told : List (List ℕ)) → entry_at (apply s (Smount dir name space documents told)).entries n ≡ None
  none-mounted dir name space documents told =
      let new : Entry = record { number = s.next; parent = dir; name = name; body = Mount space (answers_to (terms_to_ask s.entries) told) } in
      entry_at-documents (s.entries ++ new ∷ []) (s.next + 1) s.next n documents (omega (arith, low))
      ∙ entry_at-other s.entries new n (λ same. omega (arith, low, same)) ∙ none

  -- nor does a document that comes
  none-synced : (mount : ℕ) (documents told : List (List ℕ)) → entry_at (apply s (Ssync mount documents told)).entries n ≡ None
  none-synced mount documents told =
      let answers = answers_to (terms_to_ask s.entries) told in
      let gone = is_gone mount documents in
      let left = without_such gone s in
      let rest = cleared gone s in
      entry_at-changed mount (edited (keeping answers)) (redocumented s mount documents).entries n (λ e. refl)
      ∙ ap (option_map (changed_one mount (edited (keeping answers)))) (
      entry_at-documents rest.entries s.next mount n (fresh s mount documents) low
      ∙ entry_at-mapped (forgetting_such (is_such_at gone s.entries)) left.entries n
      ∙ ap (option_map (edited (forgetting_such (is_such_at gone s.entries)))) (entry_at-none (λ (e : Entry). not (gone e)) s.entries n none))

  -- an event that may touch any item doesn't touch it
  touched-none : (event : Event) → reach_of s event ≡ Any → touches s event n ≡ false
  touched-none (Mv entry dir name) reach = ap (λ (b : Bool). b && is_inside s n entry) (none-item s n none)
  touched-none (Smount dir name space documents told) reach = no-document (apply s (Smount dir name space documents told)) s.next n (none-mounted dir name space documents told)
  touched-none (Ssync mount documents told) reach =
      ap (λ (b : Bool). b || is_document_of (apply s (Ssync mount documents told)) mount n) (no-document s mount n none)
      ∙ no-document (apply s (Ssync mount documents told)) mount n (none-synced mount documents told)
  touched-none (Sumount mount) reach = no-document s mount n none
  touched-none Step reach = elim (next_dirty s.entries) as (λ o. option_map_or (λ file. One file) o Nothing ≡ Any → option_map_or (λ file. n == file) o false ≡ false) [
    | None ↦ (λ never. refl)
    | Some file ↦ (λ never. absurd cc)
  ] reach
  touched-none (NewFile dir name text) reach = absurd cc
  touched-none (Rm entry) reach = absurd cc
  touched-none (Mark mark) reach = absurd cc
  touched-none other reach = refl

  -- nor is it an item after the event that the event doesn't touch
  other-none : (event : Event) → IsValid s → IsTrue (accepted s event) → is_other s event n ≡ false
  other-none event h ok = by_touch (touches s event n) refl
    where
      by_touch : (b : Bool) → touches s event n ≡ b → is_other s event n ≡ false
      by_touch true is =
          ap (λ (b : Bool). is_item (apply s event) n && not b && not (is_passed_over s event n)) is
          ∙ ap (λ (b : Bool). b && not (is_passed_over s event n)) (and-false (is_item (apply s event) n))
      by_touch false is =
          ap (λ (b : Bool). b && not (touches s event n) && not (is_passed_over s event n))
          (sym (owed-item s event n (event-owes s event h ok n is)) ∙ none-item s n none)

-- what an event touches that may touch any item is among the numbers around it
pub touched-around : (s : State) (event : Event) → IsValid s → reach_of s event ≡ Any → filter (touches s event) (numbers_around s (apply s event)) ≡ touched s event
touched-around s event h reach = passing-around (touches s event) s (apply s event) h.layout.numbers (next-grows s event) (λ k low none. touched-none s k low none event reach)

-- so are the others
pub others-around : (s : State) (event : Event) → IsValid s → IsTrue (accepted s event) → filter (is_other s event) (numbers_around s (apply s event)) ≡ others s event
others-around s event h ok = passing-around (is_other s event) s (apply s event) h.layout.numbers (next-grows s event) (λ k low none. other-none s k low none event h ok)
