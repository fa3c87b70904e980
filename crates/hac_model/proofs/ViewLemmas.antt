-- What is seen of the entry of each number, by any view, after entries were changed, added or removed.
use Rattle.std.proofs.Common.{◌≡◌, ℕ, Bool, true, false, cond, List, [], ◌∷◌, ◌++◌, refl, ap, sym, ◌∙◌, arith, eq-eqb}
use Rattle.std.specs.Prelude.{◌==◌, filter, Option, Some, None}
use Rattle.std.specs.Option.{option_map}
use Rattle.std.proofs.lemmas.Bool.{eqb-false, eqb-true, ne_eqb}
use Rattle.hac_model.specs.Tree.Events.{changed_in}
use Rattle.hac_model.specs.Tree.Facts.{put_at}
use Rattle.hac_model.specs.Tree.{entry_at}
use Rattle.hac_model.specs.Tree.Valid.{NumbersRise}
use Rattle.hac_model.specs.declared.states.Entry.{Entry}
use Rattle.hac_model.proofs.ChangeLemmas.{entry_at-changed, entry_at-gone, entry_at-kept, entry_at-new, entry_at-other, is_kept, touched}
use Rattle.hac_model.proofs.TreeLemmas.{entry_at-next, entry_at-number}

module _ {X : Type 0} where
  -- a value that is put where it is changes nothing
  pub put-same : (values : ℕ → X) (n : ℕ) (value : X) (q : ℕ) → value ≡ values n → put_at values n value q ≡ values q
  put-same values n value q same = at (q == n) refl
    where
      at : (b : Bool) → (q == n) ≡ b → cond b value (values q) ≡ values q
      at true is = same ∙ ap values (sym (eqb-true q n is))
      at false is = refl

  module _ (view : Option Entry → X) (es : List Entry) where
    abbrev seen : ℕ → X
    seen q = view (entry_at es q)

    -- an entry is changed
    module _ (n : ℕ) (change : Entry → Entry) (numbers : (e : Entry) → (change e).number ≡ e.number) where
      here : (o : Option Entry) → ((e : Entry) → o ≡ Some e → e.number ≡ n) → option_map (touched n change) o ≡ option_map change o
      here None number = refl
      here (Some e) number = ap (λ (b : Bool). Some (cond b (change e) e)) (eq-eqb e.number n (number e refl))

      other : (o : Option Entry) → ((e : Entry) → o ≡ Some e → e.number ≡ n → ⊥) → option_map (touched n change) o ≡ o
      other None apart = refl
      other (Some e) apart = ap (λ (b : Bool). Some (cond b (change e) e)) (ne_eqb e.number n (apart e refl))

      pub seen-changed : (q : ℕ) → view (entry_at (changed_in n change es) q) ≡ put_at seen n (view (option_map change (entry_at es n))) q
      seen-changed q = ap view (entry_at-changed n change es q numbers) ∙ at (q == n) refl
        where
          at : (b : Bool) → (q == n) ≡ b → view (option_map (touched n change) (entry_at es q)) ≡ cond b (view (option_map change (entry_at es n))) (seen q)
          at true is =
              ap (λ (k : ℕ). view (option_map (touched n change) (entry_at es k))) (eqb-true q n is)
              ∙ ap view (here (entry_at es n) (λ e found. entry_at-number es n e found))
          at false is = ap view (other (entry_at es q) (λ e found same. eqb-false q n is (sym (entry_at-number es q e found) ∙ same)))

      -- in what isn't seen
      pub seen-kept : ((e : Entry) → view (Some (change e)) ≡ view (Some e)) → (q : ℕ) → view (entry_at (changed_in n change es) q) ≡ seen q
      seen-kept same q = seen-changed q ∙ put-same seen n (view (option_map change (entry_at es n))) q (still (entry_at es n))
        where
          still : (o : Option Entry) → view (option_map change o) ≡ view o
          still None = refl
          still (Some e) = same e

    -- an entry is added
    module _ (new : Entry) (rise : NumbersRise 0 es new.number) where
      none-before : entry_at es new.number ≡ None
      none-before = entry_at-next 0 es new.number new.number rise (omega arith)

      pub seen-added : (q : ℕ) → view (entry_at (es ++ new ∷ []) q) ≡ put_at seen new.number (view (Some new)) q
      seen-added q = at (q == new.number) refl
        where
          at : (b : Bool) → (q == new.number) ≡ b → view (entry_at (es ++ new ∷ []) q) ≡ cond b (view (Some new)) (seen q)
          at true is = ap (λ (k : ℕ). view (entry_at (es ++ new ∷ []) k)) (eqb-true q new.number is) ∙ ap view (entry_at-new es new none-before)
          at false is = ap view (entry_at-other es new q (λ same. eqb-false q new.number is (sym same)))

      -- of which nothing is seen
      pub seen-plain : view (Some new) ≡ view None → (q : ℕ) → view (entry_at (es ++ new ∷ []) q) ≡ seen q
      seen-plain none q = seen-added q ∙ put-same seen new.number (view (Some new)) q (none ∙ ap view (sym none-before))

    -- an entry goes
    pub seen-removed : (n q : ℕ) → view (entry_at (filter (is_kept n) es) q) ≡ put_at seen n (view None) q
    seen-removed n q = at (q == n) refl
      where
        at : (b : Bool) → (q == n) ≡ b → view (entry_at (filter (is_kept n) es) q) ≡ cond b (view None) (seen q)
        at true is = ap (λ (k : ℕ). view (entry_at (filter (is_kept n) es) k)) (eqb-true q n is) ∙ ap view (entry_at-gone n es)
        at false is = ap view (entry_at-kept n es q (λ same. eqb-false q n is (sym same)))
