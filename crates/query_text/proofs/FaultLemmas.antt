-- Each state goes on to some query, so that reading stops exactly where none goes on.
use Rattle.std.proofs.Common.{◌≡◌, ℕ, zero, suc, ◌+◌, ◌<◌, ◌≤◌, true, List, [], ◌∷◌, ◌++◌, length, take, Option, Some, None, Result, Ok, Err, refl, ap, sym, subst, ◌∙◌, arith}
use Rattle.std.specs.Prelude.{option_and_then}
use Rattle.std.specs.Option.{ok_or}
use Rattle.hac_model.specs.Query.Grammar.{BeginsQuery, Reads, SpellAll, Token, tokens, meaning, Prefix, Dir, leaf_part, group_part}
use Rattle.hac_model.specs.Query.QueryReading.{join_or, receive, after_and, after_or, kind_of, operand_begins, operator_begins, run_step, brace_step, path_step, escape_step, sign_ends, step, read_whole, empty_level, fresh_reader, goes_on, read_on}
use Rattle.hac_model.specs.Query.Words.{is_word_byte, lower_case}
use Rattle.hac_model.specs.declared.reading.ByteKind.{ByteKind}
use Rattle.hac_model.specs.declared.reading.Ended.{Ended}
use Rattle.hac_model.specs.declared.reading.Level.{Level}
use Rattle.hac_model.specs.declared.reading.Operand.TheVariants as operand
use Rattle.hac_model.specs.declared.reading.Operator.TheVariants as operator
use Rattle.hac_model.specs.declared.reading.Part.{Part}
use Rattle.hac_model.specs.declared.reading.Reader.{Reader}
use Rattle.hac_model.specs.declared.reading.Reader.TheVariants.{Wants, Ends}
use Rattle.hac_model.specs.declared.reading.Stack.TheVariants.{Wanting}
use Rattle.hac_model.specs.declared.reading.Wanted.{Wanted}
use Rattle.query_text.proofs.ByteLemmas.{and_then_again, reads, spelled_reads}
use Rattle.query_text.proofs.KindLemmas.{word_kind, space_kind, close_kind, star_kind, end_brace_kind, backslash_kind, slash_kind}
use Rattle.query_text.proofs.ShowLemmas.{shown}
use Rattle.query_text.proofs.TokenLemmas.{complete, sound}
use Rattle.query_text.specs.Laws.{IsFound}

-- Bytes are a query exactly where they lead to it.

pub reads_is : (bytes : List ℕ) (part : Part) → reads bytes fresh_reader ≡ Some part → Reads bytes part
reads_is bytes part e =
    let seen = shown bytes part fresh_reader tt e in
    let tree = sound seen.0 part seen.2 in
    (tree.0, subst (λ (ts : List Token). SpellAll ts bytes) (sym tree.1) seen.1, tree.2)

pub is_reads : (bytes : List ℕ) (part : Part) → Reads bytes part → reads bytes fresh_reader ≡ Some part
is_reads bytes part (t, all, m) =
    spelled_reads (tokens t) bytes (Wanting (record { level = empty_level; outer = [] })) (meaning t) all (complete t) ∙ ap Some m

pub one_reading : (bytes : List ℕ) (one other : Part) → Reads bytes one → Reads bytes other → one ≡ other
one_reading bytes one other first second =
    let e : Some one ≡ Some other = sym (is_reads bytes one first) ∙ is_reads bytes other second in cc

-- How each state goes on.

abbrev closings : List Level → List ℕ
closings [] = []
closings (l ∷ outer) = 41 ∷ closings outer

abbrev ending : Wanted → List ℕ
ending w = 97 ∷ 42 ∷ closings w.outer

abbrev more_of : Reader → List ℕ
more_of (Wants operand.Nothing w) = ending w
more_of (Wants (operand.Run run) w) = 42 ∷ closings w.outer
more_of (Wants operand.Brace w) = 47 ∷ 125 ∷ closings w.outer
more_of (Wants (operand.Path path) w) = 125 ∷ closings w.outer
more_of (Wants (operand.Escape path) w) = 92 ∷ 125 ∷ closings w.outer
more_of (Ends operator.Nothing h) = closings h.outer
more_of (Ends operator.A h) = 78 ∷ 68 ∷ 32 ∷ ending (after_and h)
more_of (Ends operator.An h) = 68 ∷ 32 ∷ ending (after_and h)
more_of (Ends operator.And h) = 32 ∷ ending (after_and h)
more_of (Ends operator.O h) = 82 ∷ 32 ∷ ending (after_or h)
more_of (Ends operator.Or h) = 32 ∷ ending (after_or h)

abbrev Leads : List ℕ → Reader → Type 0
Leads bytes reader = (part : Part) × (reads bytes reader ≡ Some part)

module _ (bytes : List ℕ) where
  on_kind : (f : ByteKind → Option Reader) (k found : ByteKind) (next : Reader) → found ≡ k → f k ≡ Some next → Leads bytes next
      → (part : Part) × (option_and_then (reads bytes) (f found) ≡ Some part)
  on_kind f k found next is e (part, leads) = (part, ap (λ (k : ByteKind). option_and_then (reads bytes) (f k)) is ∙ ap (option_and_then (reads bytes)) e ∙ leads)

closes : (ors : Option Part) (part : Part) (outer : List Level) → Leads (closings outer) (Ends operator.Nothing (record { ors = ors; part = part; outer = outer }))
closes ors part [] = (join_or ors part, refl)
closes ors part (l ∷ outer) =
    let w : Wanted = record { level = l; outer = outer } in
    let h : Ended = receive (group_part (join_or ors part)) w in
    on_kind (closings outer) (λ k. operator_begins k 41 (record { ors = ors; part = part; outer = l ∷ outer })) _ (kind_of 41) (Ends operator.Nothing h) close_kind refl
    (closes h.ors h.part outer)

received : (part : Part) (w : Wanted) → Leads (closings w.outer) (Ends operator.Nothing (receive part w))
received part w = let h : Ended = receive part w in closes h.ors h.part w.outer

starred : (run : List ℕ) (w : Wanted) → Leads (42 ∷ closings w.outer) (Wants (operand.Run run) w)
starred run w =
    on_kind (closings w.outer) (λ k. run_step k 42 run w) _ (kind_of 42) (Ends operator.Nothing (receive (leaf_part (Prefix (lower_case run))) w)) star_kind refl
    (received (leaf_part (Prefix (lower_case run))) w)

a_word : is_word_byte 97 ≡ true
unfolding is_word_byte
a_word = refl

wanted : (w : Wanted) → Leads (ending w) (Wants operand.Nothing w)
wanted w =
    on_kind (42 ∷ closings w.outer) (λ k. operand_begins k 97 w) _ (kind_of 97) (Wants (operand.Run (97 ∷ [])) w) (word_kind 97 a_word) refl
    (starred (97 ∷ []) w)

pathed : (path : List ℕ) (w : Wanted) → Leads (125 ∷ closings w.outer) (Wants (operand.Path path) w)
pathed path w =
    on_kind (closings w.outer) (λ k. path_step k 125 path w) _ (kind_of 125) (Ends operator.Nothing (receive (leaf_part (Dir path)) w)) end_brace_kind refl
    (received (leaf_part (Dir path)) w)

spaced_sign : (reader : Reader) (w : Wanted) → ((k : ByteKind) → step 32 reader ≡ sign_ends (kind_of 32) 32 w) → Leads (32 ∷ ending w) reader
spaced_sign reader w steps =
    let inner = on_kind (ending w) (λ k. sign_ends k 32 w) _ (kind_of 32) (Wants operand.Nothing w) space_kind refl (wanted w) in
    (inner.0, ap (option_and_then (reads (ending w))) (steps (kind_of 32)) ∙ inner.1)

leads : (reader : Reader) → Leads (more_of reader) reader
leads (Wants operand.Nothing w) = wanted w
leads (Wants (operand.Run run) w) = starred run w
leads (Wants operand.Brace w) =
    on_kind (125 ∷ closings w.outer) (λ k. brace_step k 47 w) _ (kind_of 47) (Wants (operand.Path (47 ∷ [])) w) slash_kind refl (pathed (47 ∷ []) w)
leads (Wants (operand.Path path) w) = pathed path w
leads (Wants (operand.Escape path) w) =
    on_kind (125 ∷ closings w.outer) (λ k. escape_step k 92 path w) _ (kind_of 92) (Wants (operand.Path (path ++ (92 ∷ []))) w) backslash_kind refl (pathed (path ++ (92 ∷ [])) w)
leads (Ends operator.Nothing h) = closes h.ors h.part h.outer
leads (Ends operator.A h) = spaced_sign (Ends operator.And h) (after_and h) (λ k. refl)
leads (Ends operator.An h) = spaced_sign (Ends operator.And h) (after_and h) (λ k. refl)
leads (Ends operator.And h) = spaced_sign (Ends operator.And h) (after_and h) (λ k. refl)
leads (Ends operator.O h) = spaced_sign (Ends operator.Or h) (after_or h) (λ k. refl)
leads (Ends operator.Or h) = spaced_sign (Ends operator.Or h) (after_or h) (λ k. refl)

-- Where reading stops.

-- what bytes make of what was read
abbrev after : List ℕ → Reader → Option Reader
after [] reader = Some reader
after (b ∷ bytes) reader = option_and_then (after bytes) (step b reader)

reads-after : (bytes more : List ℕ) (reader : Reader) → reads (bytes ++ more) reader ≡ option_and_then (reads more) (after bytes reader)
reads-after [] more reader = refl
reads-after (b ∷ bytes) more reader =
    ap (λ (f : Reader → Option Part). option_and_then f (step b reader)) (λ i r. reads-after bytes more r i)
    ∙ sym (and_then_again (reads more) (after bytes) (step b reader))

-- this many bytes were read, and none after them leads to a query
pub record Stops (place : ℕ) (bytes : List ℕ) (reader : Reader) (at : ℕ) : Type 0 where
  pub many : ℕ
  pub is : at ≡ place + many
  pub within : many ≤ length bytes
  pub lives : (n : ℕ) → n ≤ many → (next : Reader) × (after (take n bytes) reader ≡ Some next)
  pub dead : many < length bytes → after (take (suc many) bytes) reader ≡ None
  pub unread : reads bytes reader ≡ None

abbrev NamedDir : ℕ → List ℕ → Reader → Result Part ℕ → Type 0
NamedDir place bytes reader (Ok part) = reads bytes reader ≡ Some part
NamedDir place bytes reader (Err at) = Stops place bytes reader at

no_more : (bytes : List ℕ) (reader : Reader) (n : ℕ) → n ≤ 0 → (next : Reader) × (after (take n bytes) reader ≡ Some next)
no_more bytes reader zero h = (reader, refl)
no_more bytes reader (suc n) h = absurd (omega arith)

told_end : (place : ℕ) (reader : Reader) (o : Option Part) → read_whole reader ≡ o → NamedDir place [] reader (ok_or o place)
told_end place reader (Some part) e = e
told_end place reader None e = record {
  many = 0;
  is = omega arith;
  within = omega arith;
  lives = no_more [] reader;
  dead = λ h. absurd (omega arith);
  unread = e;
}

module _ (place b : ℕ) (bytes : List ℕ) (reader next : Reader) (e : step b reader ≡ Some next) where
  told_more : (result : Result Part ℕ) → NamedDir (place + 1) bytes next result → NamedDir place (b ∷ bytes) reader result
  told_more (Ok part) told = ap (option_and_then (reads bytes)) e ∙ told
  told_more (Err at) told = record {
    many = suc told.many;
    is = let h : at ≡ place + 1 + told.many = told.is in omega arith;
    within = let h : told.many ≤ length bytes = told.within in omega arith;
    lives = live told;
    dead = λ h. ap (option_and_then (after (take (suc told.many) bytes))) e ∙ told.dead (omega arith);
    unread = ap (option_and_then (reads bytes)) e ∙ told.unread;
  }
    where
      live : (told : Stops (place + 1) bytes next at) (n : ℕ) → n ≤ suc told.many → (next : Reader) × (after (take n (b ∷ bytes)) reader ≡ Some next)
      live told zero h = (reader, refl)
      live told (suc n) h =
          let there = told.lives n (omega arith) in
          (there.0, ap (option_and_then (after (take n bytes))) e ∙ there.1)

told_byte : (place b : ℕ) (bytes : List ℕ) (reader : Reader) (follow : Reader → Result Part ℕ) (o : Option Reader) → step b reader ≡ o
    → ((next : Reader) → NamedDir (place + 1) bytes next (follow next)) → NamedDir place (b ∷ bytes) reader (goes_on place follow o)
told_byte place b bytes reader follow None e told = record {
  many = 0;
  is = omega arith;
  within = omega arith;
  lives = no_more (b ∷ bytes) reader;
  dead = λ h. ap (option_and_then (after (take 0 bytes))) e;
  unread = ap (option_and_then (reads bytes)) e;
}
told_byte place b bytes reader follow (Some next) e told = told_more place b bytes reader next e (follow next) (told next)

told : (bytes : List ℕ) (place : ℕ) (reader : Reader) → NamedDir place bytes reader (read_on place bytes reader)
unfolding read_on
told [] place reader = told_end place reader (read_whole reader) refl
told (b ∷ bytes) place reader = told_byte place b bytes reader (read_on (place + 1) bytes) (step b reader) refl (λ next. told bytes (place + 1) next)

-- bytes behind which some query goes on begin one
begins : (bytes : List ℕ) (next : Reader) → after bytes fresh_reader ≡ Some next → BeginsQuery bytes
begins bytes next e =
    let on = leads next in (
      more_of next,
      on.0,
      reads_is (bytes ++ more_of next) on.0 (reads-after bytes (more_of next) fresh_reader ∙ ap (option_and_then (reads (more_of next))) e ∙ on.1),
    )

begins_none : (bytes : List ℕ) → after bytes fresh_reader ≡ None → BeginsQuery bytes → ⊥
begins_none bytes e (more, part, is) =
    let h : Some part ≡ None = sym (is_reads (bytes ++ more) part is) ∙ reads-after bytes more fresh_reader ∙ ap (option_and_then (reads more)) e in cc

unread_none : (bytes : List ℕ) → reads bytes fresh_reader ≡ None → (part : Part) → Reads bytes part → ⊥
unread_none bytes e part is = let h : Some part ≡ None = sym (is_reads bytes part is) ∙ e in cc

found : (bytes : List ℕ) (result : Result Part ℕ) → NamedDir 1 bytes fresh_reader result → IsFound bytes result
found bytes (Ok part) told = reads_is bytes part told
found bytes (Err at) told =
    let is : at ≡ suc told.many = told.is ∙ omega arith in
    let within : told.many ≤ length bytes = told.within in
    record {
      counted = omega arith;
      within = omega arith;
      least = λ n h. let there = told.lives n (omega arith) in begins (take n bytes) there.0 there.1;
      stops = λ h. begins_none (take at bytes) (ap (λ (n : ℕ). after (take n bytes) fresh_reader) is ∙ told.dead (omega arith));
      unread = unread_none bytes told.unread;
    }

pub read_is_found : (bytes : List ℕ) → IsFound bytes (read_on 1 bytes fresh_reader)
read_is_found bytes = found bytes (read_on 1 bytes fresh_reader) (told bytes 1 fresh_reader)

module _ (bytes : List ℕ) (part : Part) (is : Reads bytes part) where
  as_read : (result : Result Part ℕ) → IsFound bytes result → result ≡ Ok part
  as_read (Ok other) found = ap Ok (one_reading bytes other part found is)
  as_read (Err at) found = absurd (found.unread part is)

pub is_found : (bytes : List ℕ) (part : Part) → Reads bytes part → read_on 1 bytes fresh_reader ≡ Ok part
is_found bytes part is = as_read bytes part is (read_on 1 bytes fresh_reader) (read_is_found bytes)
