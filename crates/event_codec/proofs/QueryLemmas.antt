-- Queries are read back, and what is read is what they spell.
use Rattle.std.proofs.Common.{◌≡◌, ℕ, zero, suc, ◌+◌, ◌-◌, ◌≤◌, max, Bool, true, false, cond, eqb, leb, ◌&&◌, List, [], ◌∷◌, ◌++◌, length, Option, Some, None, Result, Ok, Err, refl, sym, ap, subst, ◌∙◌, append_assoc, arith, lit<}
use Rattle.std.specs.Int.{w16}
use Rattle.std.specs.Option.{ok_or}
use Rattle.std.proofs.lemmas.Bool.{leb-true, le-leb, and_parts, and_from}
use Rattle.std.proofs.lemmas.List.{append-nil, length-append}
use Rattle.hac_model.specs.Run.Answers.{◌>>=◌}
use Rattle.hac_model.specs.Payload.Fields.{num, nothing, way_at, choice_at}
use Rattle.hac_model.specs.Query.Formula.{Formula}
use Rattle.hac_model.specs.Query.Formula as query
use Rattle.hac_model.specs.Query.Queries.{all_leaves, are_terms, is_query, term_size, term_count, letter_count, not_count}
use Rattle.hac_model.specs.Payload.QueryFields.{Token, word_field, token_part, token_ways, token_field, are_nums, query_bytes, Room, room_after, is_barred, token_at, tokens_at, two_joined, put, built, first_built, query_read, query_fits, query_field}
use Rattle.hac_model.specs.Payload.QueryFields as token
use Rattle.hac_model.specs.Query.Words.{is_word}
use Rattle.hac_model.specs.declared.limits.TheConstants.{NESTING_LIMIT, QUERY_LIMIT, TERMS_LIMIT}
use Rattle.hac_model.specs.declared.terms.Term as asked
use Rattle.hac_model.specs.declared.terms.Term.TheVariants.{Word, Prefix}
use Rattle.event_codec.specs.Laws.{AreBytes}
use Rattle.event_codec.proofs.FieldLemmas.{Took, Lawful, bind_ok, ok_is, wide16, num_lawful, run_lawful, nothing_lawful, way_is, whole_way_is, choice_takes, way_again, whole_way_again}
use Rattle.hac_model.specs.declared.versions.Version.{Version}
use Rattle.payload_fields.proofs.FrontLemmas.{with_front}
use Rattle.std.proofs.lemmas.Option.{cond_some}

pub word_lawful : Lawful word_field
word_lawful = run_lawful w16 QUERY_LIMIT is_word wide16 (lit< tt)

token_takes : (version : Version) (bytes : List ℕ) (x : Token × List ℕ) → AreBytes bytes → (token_field version).read bytes ≡ Ok x → Took (token_field version) bytes x
token_takes version bytes x fits e = choice_takes (token_part version) (token_ways version) (
  whole_way_is (token_part version) 1 word_field (λ letters. token.Term (Word letters)) word_lawful (λ x. refl),
  (
    whole_way_is (token_part version) 2 word_field (λ letters. token.Term (Prefix letters)) word_lawful (λ x. refl),
    (
      way_is (token_part version) 3 (num version) (λ dir. token.Dir dir) (num_lawful version) (λ x. refl),
      (
        way_is (token_part version) 4 nothing (λ x. token.Not) nothing_lawful (λ x. refl),
        (
          way_is (token_part version) 5 nothing (λ x. token.And) nothing_lawful (λ x. refl),
          (way_is (token_part version) 6 nothing (λ x. token.Or) nothing_lawful (λ x. refl), tt),
        ),
      ),
    ),
  ),
) bytes x fits e

token_again : (version : Version) (t : Token) (rest : List ℕ) → (token_field version).fits t ≡ true → (token_field version).read ((token_field version).text t ++ rest) ≡ Ok (t, rest)
unfolding choice_at way_at
token_again version (token.Term (Word letters)) rest fits = whole_way_again word_field (λ letters. token.Term (Word letters)) word_lawful letters rest _ fits
token_again version (token.Term (Prefix letters)) rest fits = whole_way_again word_field (λ letters. token.Term (Prefix letters)) word_lawful letters rest _ fits
token_again version (token.Dir dir) rest fits = way_again (num version) (λ dir. token.Dir dir) (num_lawful version) dir rest fits
token_again version token.Not rest fits = refl
token_again version token.And rest fits = refl
token_again version token.Or rest fits = refl

-- each leaf of a query has bytes
abbrev terms_fit : Version → Formula ℕ → Bool
terms_fit version q = all_leaves (λ term. (token_field version).fits (token.Term term)) (λ dir. (token_field version).fits (token.Dir dir)) q

-- ---- what is read is what it spells

-- the bytes of queries, one behind the other
abbrev texts : Version → List (Formula ℕ) → List ℕ
texts version [] = []
texts version (q ∷ qs) = query_bytes version q ++ texts version qs

abbrev terms_of : List (Formula ℕ) → ℕ
terms_of [] = 0
terms_of (q ∷ qs) = term_count q + terms_of qs

abbrev letters_of : List (Formula ℕ) → ℕ
letters_of [] = 0
letters_of (q ∷ qs) = letter_count q + letters_of qs

abbrev all_fit : Version → List (Formula ℕ) → Bool
all_fit version [] = true
all_fit version (q ∷ qs) = terms_fit version q && all_fit version qs

-- there are as many queries as are wanted, and each has no more `NOT`s than it may
abbrev AreWanted : List ℕ → List (Formula ℕ) → Type 0
AreWanted [] [] = Unit {0}
AreWanted [] (q ∷ qs) = ⊥
AreWanted (nots ∷ wanted) [] = ⊥
AreWanted (nots ∷ wanted) (q ∷ qs) = (not_count q ≤ nots) × AreWanted wanted qs

record TookQueries (version : Version) (room : Room) (bytes : List ℕ) (qs : List (Formula ℕ)) (behind : List ℕ) : Type 0 where
  pub parts : bytes ≡ texts version qs ++ behind
  pub rest : AreBytes behind
  pub wanted : AreWanted room.wanted qs
  pub terms : terms_of qs ≤ room.terms
  pub letters : letters_of qs ≤ room.letters
  pub fits : all_fit version qs ≡ true

abbrev room_of : List ℕ → ℕ → ℕ → Room
room_of wanted terms letters = record { wanted = wanted; terms = terms; letters = letters }

token_at-ok : (version : Version) (terms : ℕ) (bytes : List ℕ) (x : Token × List ℕ) → token_at version terms bytes ≡ Ok x → (token_field version).read bytes ≡ Ok x
token_at-ok version terms bytes x e =
    elim (is_barred terms bytes) as (λ b. cond b (Err (length bytes)) ((token_field version).read bytes) ≡ Ok x → (token_field version).read bytes ≡ Ok x) [
      | true ↦ λ h. absurd cc
      | false ↦ λ h. h
    ] e

ok_or-ok : {A : Type 0} (o : Option A) (left : ℕ) (x : A) → ok_or o left ≡ Ok x → o ≡ Some x
ok_or-ok None left x e = absurd cc
ok_or-ok (Some y) left x e = ap (λ z. Some z) (ok_is y x e)

some_is : {A : Type 0} (x y : A) (e : Some x ≡ Some y) → x ≡ y
some_is x y e = cc

-- the same, for a part that joins two
two_take : (version : Version) (nots : ℕ) (wanted : List ℕ) (terms letters kind : ℕ) (join : Formula ℕ → Formula ℕ → Formula ℕ) (room : Room) (bytes after : List ℕ) (qs : List (Formula ℕ)) (behind : List ℕ)
    → ((l r : Formula ℕ) → query_bytes version (join l r) ≡ kind ∷ (query_bytes version l ++ query_bytes version r))
    → ((l r : Formula ℕ) → not_count (join l r) ≡ max (not_count l) (not_count r))
    → ((l r : Formula ℕ) → term_count (join l r) ≡ term_count l + term_count r)
    → ((l r : Formula ℕ) → letter_count (join l r) ≡ letter_count l + letter_count r)
    → ((l r : Formula ℕ) → terms_fit version (join l r) ≡ (terms_fit version l && terms_fit version r))
    → bytes ≡ kind ∷ after → room_of (nots ∷ nots ∷ wanted) terms letters ≡ room
    → TookQueries version room after qs behind → TookQueries version (room_of (nots ∷ wanted) terms letters) bytes (two_joined join qs) behind
two_take version nots wanted terms letters kind join room bytes after [] behind t1 t2 t3 t4 t5 text e took =
    let took : TookQueries version (room_of (nots ∷ nots ∷ wanted) terms letters) after [] behind = subst (λ (r : Room). TookQueries version r after [] behind) (sym e) took in
    absurd took.wanted
two_take version nots wanted terms letters kind join room bytes after (l ∷ []) behind t1 t2 t3 t4 t5 text e took =
    let took : TookQueries version (room_of (nots ∷ nots ∷ wanted) terms letters) after (l ∷ []) behind = subst (λ (r : Room). TookQueries version r after (l ∷ []) behind) (sym e) took in
    absurd took.wanted.1
two_take version nots wanted terms letters kind join room bytes after (l ∷ r ∷ qs) behind t1 t2 t3 t4 t5 text e took =
    let took : TookQueries version (room_of (nots ∷ nots ∷ wanted) terms letters) after (l ∷ r ∷ qs) behind = subst (λ (x : Room). TookQueries version x after (l ∷ r ∷ qs) behind) (sym e) took in
    let fit = and_parts (terms_fit version l) (terms_fit version r && all_fit version qs) took.fits in
    let fit2 = and_parts (terms_fit version r) (all_fit version qs) fit.1 in
    record {
      parts = text ∙ ap (λ (t : List ℕ). kind ∷ t) (took.parts ∙ ap (λ (t : List ℕ). t ++ behind) (sym (append_assoc (query_bytes version l) (query_bytes version r) (texts version qs)))) ∙ ap (λ (t : List ℕ). (t ++ texts version qs) ++ behind) (sym (t1 l r));
      rest = took.rest;
      wanted = (rw (t2 l r) (omega (arith, took.wanted.0, took.wanted.1.0)), took.wanted.1.1);
      terms = omega (arith, took.terms, t3 l r);
      letters = omega (arith, took.letters, t4 l r);
      fits = and_from _ _ (t5 l r ∙ and_from _ _ fit.0 fit2.0) fit2.1;
    }

-- a part in front of queries that were taken
put_takes : (version : Version) (nots : ℕ) (wanted : List ℕ) (terms letters : ℕ) (t : Token) (room : Room) (bytes after : List ℕ) (qs : List (Formula ℕ)) (behind : List ℕ)
    → bytes ≡ (token_field version).text t ++ after → (token_field version).fits t ≡ true → room_after nots wanted terms letters t ≡ Some room
    → TookQueries version room after qs behind → TookQueries version (room_of (nots ∷ wanted) terms letters) bytes (put t qs) behind
put_takes version nots wanted terms letters (token.Term term) room bytes after qs behind text fits e took =
    let g = cond_some (leb 1 terms && leb (term_size term) letters) (room_of wanted (terms - 1) (letters - term_size term)) room e in
    let within = and_parts (leb 1 terms) (leb (term_size term) letters) g.0 in
    let one : 1 ≤ terms = leb-true _ _ within.0 in
    let few : term_size term ≤ letters = leb-true _ _ within.1 in
    let took : TookQueries version (room_of wanted (terms - 1) (letters - term_size term)) after qs behind = subst (λ (r : Room). TookQueries version r after qs behind) (sym g.1) took in
    record {
      parts = text ∙ ap (λ (t : List ℕ). (token_field version).text (token.Term term) ++ t) took.parts ∙ sym (append_assoc ((token_field version).text (token.Term term)) (texts version qs) behind);
      rest = took.rest;
      wanted = (omega arith, took.wanted);
      terms = omega (arith, took.terms);
      letters = omega (arith, took.letters);
      fits = and_from _ _ fits took.fits;
    }
put_takes version nots wanted terms letters (token.Dir dir) room bytes after qs behind text fits e took =
    let g = cond_some (leb 1 terms) (room_of wanted (terms - 1) letters) room e in
    let one : 1 ≤ terms = leb-true _ _ g.0 in
    let took : TookQueries version (room_of wanted (terms - 1) letters) after qs behind = subst (λ (r : Room). TookQueries version r after qs behind) (sym g.1) took in
    record {
      parts = text ∙ ap (λ (t : List ℕ). (token_field version).text (token.Dir dir) ++ t) took.parts ∙ sym (append_assoc ((token_field version).text (token.Dir dir)) (texts version qs) behind);
      rest = took.rest;
      wanted = (omega arith, took.wanted);
      terms = omega (arith, took.terms);
      letters = omega (arith, took.letters);
      fits = and_from _ _ fits took.fits;
    }
put_takes version nots wanted terms letters token.Not room bytes after [] behind text fits e took =
    let g = cond_some (leb 1 nots) (room_of ((nots - 1) ∷ wanted) terms letters) room e in
    let took : TookQueries version (room_of ((nots - 1) ∷ wanted) terms letters) after [] behind = subst (λ (r : Room). TookQueries version r after [] behind) (sym g.1) took in
    absurd took.wanted
put_takes version nots wanted terms letters token.Not room bytes after (q ∷ qs) behind text fits e took =
    let g = cond_some (leb 1 nots) (room_of ((nots - 1) ∷ wanted) terms letters) room e in
    let one : 1 ≤ nots = leb-true _ _ g.0 in
    let took : TookQueries version (room_of ((nots - 1) ∷ wanted) terms letters) after (q ∷ qs) behind = subst (λ (r : Room). TookQueries version r after (q ∷ qs) behind) (sym g.1) took in
    record {
      parts = text ∙ ap (λ (t : List ℕ). 4 ∷ t) took.parts;
      rest = took.rest;
      wanted = (omega (arith, took.wanted.0), took.wanted.1);
      terms = took.terms;
      letters = took.letters;
      fits = took.fits;
    }
put_takes version nots wanted terms letters token.And room bytes after qs behind text fits e took =
    two_take version nots wanted terms letters 5 (λ l r. query.And l r) room bytes after qs behind (λ l r. refl) (λ l r. refl) (λ l r. refl) (λ l r. refl) (λ l r. refl) text (some_is _ _ e) took
put_takes version nots wanted terms letters token.Or room bytes after qs behind text fits e took =
    two_take version nots wanted terms letters 6 (λ l r. query.Or l r) room bytes after qs behind (λ l r. refl) (λ l r. refl) (λ l r. refl) (λ l r. refl) (λ l r. refl) text (some_is _ _ e) took

tokens_take : (version : Version) (k : ℕ) (wanted : List ℕ) (terms letters : ℕ) (bytes : List ℕ) (x : List Token × List ℕ) → AreBytes bytes → tokens_at version k wanted terms letters bytes ≡ Ok x → TookQueries version (room_of wanted terms letters) bytes (built x.0 []) x.1
unfolding tokens_at built
tokens_take version zero [] terms letters bytes x fits e =
    subst (λ (y : List Token × List ℕ). TookQueries version (room_of [] terms letters) bytes (built y.0 []) y.1) (ok_is ([], bytes) x e)
    (record { parts = refl; rest = fits; wanted = tt; terms = omega arith; letters = omega arith; fits = refl })
tokens_take version (suc k) [] terms letters bytes x fits e =
    subst (λ (y : List Token × List ℕ). TookQueries version (room_of [] terms letters) bytes (built y.0 []) y.1) (ok_is ([], bytes) x e)
    (record { parts = refl; rest = fits; wanted = tt; terms = omega arith; letters = omega arith; fits = refl })
tokens_take version zero (nots ∷ wanted) terms letters bytes x fits e = absurd cc
tokens_take version (suc k) (nots ∷ wanted) terms letters bytes x fits e =
    let a = bind_ok (token_at version terms bytes) (λ first. ok_or (room_after nots wanted terms letters first.0) (length bytes) >>= λ room. tokens_at version k room.wanted room.terms room.letters first.1 >>= λ others. Ok (first.0 ∷ others.0, others.1)) x e in
    let b = bind_ok (ok_or (room_after nots wanted terms letters a.0.0) (length bytes)) (λ room. tokens_at version k room.wanted room.terms room.letters a.0.1 >>= λ others. Ok (a.0.0 ∷ others.0, others.1)) x a.2 in
    let d = bind_ok (tokens_at version k b.0.wanted b.0.terms b.0.letters a.0.1) (λ others. Ok (a.0.0 ∷ others.0, others.1)) x b.2 in
    let first = token_takes version bytes a.0 fits (token_at-ok version terms bytes a.0 a.1) in
    let others = tokens_take version k b.0.wanted b.0.terms b.0.letters a.0.1 d.0 first.rest d.1 in
    let took = put_takes version nots wanted terms letters a.0.0 b.0 bytes a.0.1 (built d.0.0 []) d.0.1 first.parts first.fits (ok_or-ok _ _ _ b.1) others in
    subst (λ (y : List Token × List ℕ). TookQueries version (room_of (nots ∷ wanted) terms letters) bytes (built y.0 []) y.1) (ok_is (a.0.0 ∷ d.0.0, d.0.1) x d.2) took

-- leaves that have bytes are words, and numbers that have bytes
terms-hold : (version : Version) (q : Formula ℕ) → terms_fit version q ≡ true → (are_terms q ≡ true) × (are_nums version q ≡ true)
terms-hold version (query.Term (Word letters)) fits = ((and_parts (leb (length letters) QUERY_LIMIT) (is_word letters) fits).1, refl)
terms-hold version (query.Term (Prefix letters)) fits = ((and_parts (leb (length letters) QUERY_LIMIT) (is_word letters) fits).1, refl)
terms-hold version (query.Dir dir) fits = (refl, fits)
terms-hold version (query.Not q) fits = terms-hold version q fits
terms-hold version (query.And left right) fits =
    let parts = and_parts (terms_fit version left) (terms_fit version right) fits in
    let one = terms-hold version left parts.0 in
    let other = terms-hold version right parts.1 in
    (and_from (are_terms left) (are_terms right) one.0 other.0, and_from (are_nums version left) (are_nums version right) one.1 other.1)
terms-hold version (query.Or left right) fits =
    let parts = and_parts (terms_fit version left) (terms_fit version right) fits in
    let one = terms-hold version left parts.0 in
    let other = terms-hold version right parts.1 in
    (and_from (are_terms left) (are_terms right) one.0 other.0, and_from (are_nums version left) (are_nums version right) one.1 other.1)

-- and words that are short enough have bytes, as such numbers have
terms-fit : (version : Version) (q : Formula ℕ) → are_terms q ≡ true → letter_count q ≤ QUERY_LIMIT → are_nums version q ≡ true → terms_fit version q ≡ true
terms-fit version (query.Term (Word letters)) words few nums = and_from (leb (length letters) QUERY_LIMIT) (is_word letters) (le-leb _ _ few) words
terms-fit version (query.Term (Prefix letters)) words few nums = and_from (leb (length letters) QUERY_LIMIT) (is_word letters) (le-leb _ _ few) words
terms-fit version (query.Dir dir) words few nums = nums
terms-fit version (query.Not q) words few nums = terms-fit version q words few nums
terms-fit version (query.And left right) words few nums =
    let word = and_parts (are_terms left) (are_terms right) words in
    let num = and_parts (are_nums version left) (are_nums version right) nums in
    and_from (terms_fit version left) (terms_fit version right) (terms-fit version left word.0 (omega (arith, few)) num.0) (terms-fit version right word.1 (omega (arith, few)) num.1)
terms-fit version (query.Or left right) words few nums =
    let word = and_parts (are_terms left) (are_terms right) words in
    let num = and_parts (are_nums version left) (are_nums version right) nums in
    and_from (terms_fit version left) (terms_fit version right) (terms-fit version left word.0 (omega (arith, few)) num.0) (terms-fit version right word.1 (omega (arith, few)) num.1)

one_taken : (version : Version) (tokens : List Token) (qs : List (Formula ℕ)) (bytes behind : List ℕ) (x : Formula ℕ × List ℕ) → TookQueries version (room_of (NESTING_LIMIT ∷ []) TERMS_LIMIT QUERY_LIMIT) bytes qs behind → first_built qs behind ≡ Ok x → Took (query_field version) bytes x
one_taken version tokens [] bytes behind x took e = absurd took.wanted
one_taken version tokens (q ∷ []) bytes behind x took e =
    subst (λ (y : Formula ℕ × List ℕ). Took (query_field version) bytes y) (ok_is (q, behind) x e) (record {
      parts = took.parts ∙ ap (λ (t : List ℕ). t ++ behind) (append-nil (query_bytes version q));
      rest = took.rest;
      fits =
          let terms : leb (term_count q) TERMS_LIMIT ≡ true = le-leb (term_count q) TERMS_LIMIT (omega (arith, took.terms)) in
          let letters : leb (letter_count q) QUERY_LIMIT ≡ true = le-leb (letter_count q) QUERY_LIMIT (omega (arith, took.letters)) in
          let nots : leb (not_count q) NESTING_LIMIT ≡ true = le-leb (not_count q) NESTING_LIMIT took.wanted.0 in
          let all = terms-hold version q (and_parts (terms_fit version q) true took.fits).0 in
          and_from (is_query q) (are_nums version q) (and_from _ _ (and_from _ _ (and_from (are_terms q) _ all.0 terms) letters) nots) all.1;
    })
one_taken version tokens (q ∷ r ∷ qs) bytes behind x took e = absurd took.wanted.1

query_takes : (version : Version) (bytes : List ℕ) (x : Formula ℕ × List ℕ) → AreBytes bytes → query_read version bytes ≡ Ok x → Took (query_field version) bytes x
unfolding query_read
query_takes version bytes x fits e =
    let a = bind_ok (tokens_at version (length bytes) (NESTING_LIMIT ∷ []) TERMS_LIMIT QUERY_LIMIT bytes) (λ tokens. first_built (built tokens.0 []) tokens.1) x e in
    one_taken version a.0.0 (built a.0.0 []) bytes a.0.1 x (tokens_take version (length bytes) (NESTING_LIMIT ∷ []) TERMS_LIMIT QUERY_LIMIT bytes a.0 fits a.1) a.2

-- ---- what is spelled is read again

-- the parts of a query, as they are spelled
abbrev flat : Formula ℕ → List Token
flat (query.Term term) = token.Term term ∷ []
flat (query.Dir dir) = token.Dir dir ∷ []
flat (query.Not q) = token.Not ∷ flat q
flat (query.And left right) = token.And ∷ (flat left ++ flat right)
flat (query.Or left right) = token.Or ∷ (flat left ++ flat right)

built-flat : (q : Formula ℕ) (ts : List Token) → built (flat q ++ ts) [] ≡ q ∷ built ts []
unfolding built
built-flat (query.Term term) ts = refl
built-flat (query.Dir dir) ts = refl
built-flat (query.Not q) ts = rw (built-flat q ts) refl
built-flat (query.And left right) ts = rw (append_assoc (flat left) (flat right) ts, built-flat left (flat right ++ ts), built-flat right ts) refl
built-flat (query.Or left right) ts = rw (append_assoc (flat left) (flat right) ts, built-flat left (flat right ++ ts), built-flat right ts) refl

-- each part has a byte at least
size_of-text : (version : Version) (q : Formula ℕ) → query.size_of q ≤ length (query_bytes version q)
size_of-text version (query.Term (Word letters)) = omega arith
size_of-text version (query.Term (Prefix letters)) = omega arith
size_of-text version (query.Dir dir) = omega arith
size_of-text version (query.Not q) = omega (arith, size_of-text version q)
size_of-text version (query.And left right) = omega (arith, size_of-text version left, size_of-text version right, length-append (query_bytes version left) (query_bytes version right))
size_of-text version (query.Or left right) = omega (arith, size_of-text version left, size_of-text version right, length-append (query_bytes version left) (query_bytes version right))

with_part : (t : Token) (front : List Token) (read : Result (List Token × List ℕ) ℕ) → (with_front front read >>= λ others. Ok (t ∷ others.0, others.1)) ≡ with_front (t ∷ front) read
with_part t front (Ok x) = refl
with_part t front (Err left) = refl

with_both : (a b : List Token) (read : Result (List Token × List ℕ) ℕ) → with_front a (with_front b read) ≡ with_front (a ++ b) read
with_both a b (Ok x) = ap (λ (ts : List Token). Ok (ts, x.1)) (sym (append_assoc a b x.0))
with_both a b (Err left) = refl

part_step : (version : Version) (k nots : ℕ) (wanted : List ℕ) (terms letters : ℕ) (bytes after : List ℕ) (t : Token) (room : Room)
    → token_at version terms bytes ≡ Ok (t, after) → room_after nots wanted terms letters t ≡ Some room
    → tokens_at version (suc k) (nots ∷ wanted) terms letters bytes ≡ (tokens_at version k room.wanted room.terms room.letters after >>= λ others. Ok (t ∷ others.0, others.1))
unfolding tokens_at
part_step version k nots wanted terms letters bytes after t room read fits = rw (read, fits) refl

alone : (t : Token) (read : Result (List Token × List ℕ) ℕ) → (read >>= λ others. Ok (t ∷ others.0, others.1)) ≡ with_front (t ∷ []) read
alone t (Ok x) = refl
alone t (Err left) = refl

term_at-again : (version : Version) (terms : ℕ) (term : asked.Term) (rest : List ℕ) → (token_field version).fits (token.Term term) ≡ true → token_at version terms ((token_field version).text (token.Term term) ++ rest) ≡ Ok (token.Term term, rest)
term_at-again version terms (Word letters) rest fits = token_again version (token.Term (Word letters)) rest fits
term_at-again version terms (Prefix letters) rest fits = token_again version (token.Term (Prefix letters)) rest fits

dir_at-again : (version : Version) (terms dir : ℕ) (rest : List ℕ) → (token_field version).fits (token.Dir dir) ≡ true → token_at version (1 + terms) ((token_field version).text (token.Dir dir) ++ rest) ≡ Ok (token.Dir dir, rest)
dir_at-again version terms dir rest fits =
    let some : eqb (1 + terms) 0 ≡ false = grind arith in
    rw some (token_again version (token.Dir dir) rest fits)

-- a part that joins two queries, and those
two_again : (version : Version) (left right : Formula ℕ) (t : Token) (kind k nots : ℕ) (wanted : List ℕ) (terms letters : ℕ) (rest : List ℕ)
    → ((some : ℕ) (more : List ℕ) → token_at version some (kind ∷ more) ≡ Ok (t, more))
    → room_after nots wanted (term_count left + term_count right + terms) (letter_count left + letter_count right + letters) t ≡ Some (room_of (nots ∷ nots ∷ wanted) (term_count left + term_count right + terms) (letter_count left + letter_count right + letters))
    → tokens_at version (query.size_of left + (query.size_of right + k)) (nots ∷ nots ∷ wanted) (term_count left + (term_count right + terms)) (letter_count left + (letter_count right + letters)) (query_bytes version left ++ (query_bytes version right ++ rest)) ≡ with_front (flat left) (tokens_at version (query.size_of right + k) (nots ∷ wanted) (term_count right + terms) (letter_count right + letters) (query_bytes version right ++ rest))
    → tokens_at version (query.size_of right + k) (nots ∷ wanted) (term_count right + terms) (letter_count right + letters) (query_bytes version right ++ rest) ≡ with_front (flat right) (tokens_at version k wanted terms letters rest)
    → tokens_at version (suc (query.size_of left + query.size_of right) + k) (nots ∷ wanted) (term_count left + term_count right + terms) (letter_count left + letter_count right + letters) (kind ∷ ((query_bytes version left ++ query_bytes version right) ++ rest)) ≡ with_front (t ∷ (flat left ++ flat right)) (tokens_at version k wanted terms letters rest)
two_again version left right t kind k nots wanted terms letters rest read room first second =
    let fuel : suc (query.size_of left + query.size_of right) + k ≡ suc (query.size_of left + (query.size_of right + k)) = omega arith in
    let some : term_count left + term_count right + terms ≡ term_count left + (term_count right + terms) = omega arith in
    let bytes : letter_count left + letter_count right + letters ≡ letter_count left + (letter_count right + letters) = omega arith in
    rw (
      fuel,
      part_step version (query.size_of left + (query.size_of right + k)) nots wanted (term_count left + term_count right + terms) (letter_count left + letter_count right + letters) (kind ∷ ((query_bytes version left ++ query_bytes version right) ++ rest)) ((query_bytes version left ++ query_bytes version right) ++ rest) t (room_of (nots ∷ nots ∷ wanted) (term_count left + term_count right + terms) (letter_count left + letter_count right + letters)) (read (term_count left + term_count right + terms) ((query_bytes version left ++ query_bytes version right) ++ rest)) room,
      some,
      bytes,
      append_assoc (query_bytes version left) (query_bytes version right) rest,
      first,
      second,
      with_both (flat left) (flat right) (tokens_at version k wanted terms letters rest),
    )
    (with_part t (flat left ++ flat right) (tokens_at version k wanted terms letters rest))

tokens_again : (version : Version) (q : Formula ℕ) (k nots : ℕ) (wanted : List ℕ) (terms letters : ℕ) (rest : List ℕ) → not_count q ≤ nots → terms_fit version q ≡ true
    → tokens_at version (query.size_of q + k) (nots ∷ wanted) (term_count q + terms) (letter_count q + letters) (query_bytes version q ++ rest) ≡ with_front (flat q) (tokens_at version k wanted terms letters rest)
tokens_again version (query.Term term) k nots wanted terms letters rest le fits =
    let fuel : 1 + k ≡ suc k = omega arith in
    let one : leb 1 (1 + terms) ≡ true = le-leb _ _ (omega arith) in
    let few : leb (term_size term) (term_size term + letters) ≡ true = le-leb _ _ (omega arith) in
    let less : 1 + terms - 1 ≡ terms = omega arith in
    let fewer : term_size term + letters - term_size term ≡ letters = omega arith in
    let room : room_after nots wanted (1 + terms) (term_size term + letters) (token.Term term) ≡ Some (room_of wanted terms letters) = rw (one, few, less, fewer) refl in
    rw (fuel, part_step version k nots wanted (1 + terms) (term_size term + letters) ((token_field version).text (token.Term term) ++ rest) rest (token.Term term) (room_of wanted terms letters) (term_at-again version (1 + terms) term rest fits) room)
    (alone (token.Term term) (tokens_at version k wanted terms letters rest))
tokens_again version (query.Dir dir) k nots wanted terms letters rest le fits =
    let fuel : 1 + k ≡ suc k = omega arith in
    let none : 0 + letters ≡ letters = omega arith in
    let one : leb 1 (1 + terms) ≡ true = le-leb _ _ (omega arith) in
    let less : 1 + terms - 1 ≡ terms = omega arith in
    let room : room_after nots wanted (1 + terms) letters (token.Dir dir) ≡ Some (room_of wanted terms letters) = rw (one, less) refl in
    rw (fuel, none, part_step version k nots wanted (1 + terms) letters ((token_field version).text (token.Dir dir) ++ rest) rest (token.Dir dir) (room_of wanted terms letters) (dir_at-again version terms dir rest fits) room)
    (alone (token.Dir dir) (tokens_at version k wanted terms letters rest))
tokens_again version (query.Not q) k nots wanted terms letters rest le fits =
    let fuel : suc (query.size_of q) + k ≡ suc (query.size_of q + k) = omega arith in
    let one : leb 1 nots ≡ true = le-leb _ _ (omega arith) in
    let room : room_after nots wanted (term_count q + terms) (letter_count q + letters) token.Not ≡ Some (room_of ((nots - 1) ∷ wanted) (term_count q + terms) (letter_count q + letters)) = rw one refl in
    let read : token_at version (term_count q + terms) (4 ∷ (query_bytes version q ++ rest)) ≡ Ok (token.Not, query_bytes version q ++ rest) = token_again version token.Not (query_bytes version q ++ rest) refl in
    rw (
      fuel,
      part_step version (query.size_of q + k) nots wanted (term_count q + terms) (letter_count q + letters) (4 ∷ (query_bytes version q ++ rest)) (query_bytes version q ++ rest) token.Not (room_of ((nots - 1) ∷ wanted) (term_count q + terms) (letter_count q + letters)) read room,
      tokens_again version q k (nots - 1) wanted terms letters rest (omega arith) fits,
    )
    (with_part token.Not (flat q) (tokens_at version k wanted terms letters rest))
tokens_again version (query.And left right) k nots wanted terms letters rest le fits =
    two_again version left right token.And 5 k nots wanted terms letters rest (λ t r. token_again version token.And r refl) refl
    (tokens_again version left (query.size_of right + k) nots (nots ∷ wanted) (term_count right + terms) (letter_count right + letters) (query_bytes version right ++ rest) (omega arith) (and_parts _ _ fits).0)
    (tokens_again version right k nots wanted terms letters rest (omega arith) (and_parts _ _ fits).1)
tokens_again version (query.Or left right) k nots wanted terms letters rest le fits =
    two_again version left right token.Or 6 k nots wanted terms letters rest (λ t r. token_again version token.Or r refl) refl
    (tokens_again version left (query.size_of right + k) nots (nots ∷ wanted) (term_count right + terms) (letter_count right + letters) (query_bytes version right ++ rest) (omega arith) (and_parts _ _ fits).0)
    (tokens_again version right k nots wanted terms letters rest (omega arith) (and_parts _ _ fits).1)

tokens_done : (version : Version) (k terms letters : ℕ) (bytes : List ℕ) → tokens_at version k [] terms letters bytes ≡ Ok ([], bytes)
unfolding tokens_at
tokens_done version zero terms letters bytes = refl
tokens_done version (suc k) terms letters bytes = refl

query_again : (version : Version) (q : Formula ℕ) (rest : List ℕ) → query_fits version q ≡ true → query_read version (query_bytes version q ++ rest) ≡ Ok (q, rest)
unfolding query_read built
query_again version q rest fits =
    let a = and_parts (is_query q) (are_nums version q) fits in
    let b = and_parts _ (leb (not_count q) NESTING_LIMIT) a.0 in
    let d = and_parts _ (leb (letter_count q) QUERY_LIMIT) b.0 in
    let e = and_parts (are_terms q) (leb (term_count q) TERMS_LIMIT) d.0 in
    let terms : term_count q ≤ TERMS_LIMIT = leb-true _ _ e.1 in
    let letters : letter_count q ≤ QUERY_LIMIT = leb-true _ _ d.1 in
    let nots : not_count q ≤ NESTING_LIMIT = leb-true _ _ b.1 in
    let fit = terms-fit version q e.0 letters a.1 in
    let size = size_of-text version q in
    let n = length (query_bytes version q ++ rest) - query.size_of q in
    let fuel : length (query_bytes version q ++ rest) ≡ query.size_of q + n = omega (arith, length-append (query_bytes version q) rest) in
    let all : TERMS_LIMIT ≡ term_count q + (TERMS_LIMIT - term_count q) = omega arith in
    let bytes : QUERY_LIMIT ≡ letter_count q + (QUERY_LIMIT - letter_count q) = omega arith in
    let read : tokens_at version (query.size_of q + n) (NESTING_LIMIT ∷ []) (term_count q + (TERMS_LIMIT - term_count q)) (letter_count q + (QUERY_LIMIT - letter_count q)) (query_bytes version q ++ rest) ≡ Ok (flat q ++ [], rest) =
    tokens_again version q n NESTING_LIMIT [] (TERMS_LIMIT - term_count q) (QUERY_LIMIT - letter_count q) rest nots fit ∙ ap (λ r. with_front (flat q) r) (tokens_done version n (TERMS_LIMIT - term_count q) (QUERY_LIMIT - letter_count q) rest) in
    let read2 : tokens_at version (length (query_bytes version q ++ rest)) (NESTING_LIMIT ∷ []) TERMS_LIMIT QUERY_LIMIT (query_bytes version q ++ rest) ≡ Ok (flat q ++ [], rest) =
    ap (λ (k : ℕ). tokens_at version k (NESTING_LIMIT ∷ []) TERMS_LIMIT QUERY_LIMIT (query_bytes version q ++ rest)) fuel
    ∙ ap (λ (k : ℕ). tokens_at version (query.size_of q + n) (NESTING_LIMIT ∷ []) k QUERY_LIMIT (query_bytes version q ++ rest)) all
    ∙ ap (λ (k : ℕ). tokens_at version (query.size_of q + n) (NESTING_LIMIT ∷ []) (term_count q + (TERMS_LIMIT - term_count q)) k (query_bytes version q ++ rest)) bytes
    ∙ read in
    rw (read2, built-flat q []) refl

pub query_lawful : (version : Version) → Lawful (query_field version)
query_lawful version = record { takes = query_takes version; again = query_again version }
