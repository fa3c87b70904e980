-- What a scope is asked, by whether the number is new.
use Rattle.std.proofs.Common.{◌≡◌, ℕ, Bool, true, false, cond, ap, subst, sym, ◌∙◌}
use Rattle.std.specs.Prelude.{◌&&◌, nat_le, nat_lt, not, None, option_and_then}
use Rattle.std.specs.Option.{option_map_or}
use Rattle.hac_model.specs.Tree.Events.{apply}
use Rattle.hac_model.specs.Tree.Facts.{bare_after}
use Rattle.hac_model.specs.Tree.Links.{is_item, parent_of, query_at, shown_of}
use Rattle.hac_model.specs.Tree.Valid.{IsLayout}
use Rattle.hac_model.specs.Tree.{entry_at, is_directory, is_document, is_document_at, is_linkable, is_made_directory, query_in}
use Rattle.hac_model.specs.declared.events.Event.{Event}
use Rattle.hac_model.specs.declared.states.Entry.{Entry}
use Rattle.hac_model.specs.declared.states.State.{State}
use Rattle.scope_rules.specs.After.{Tells}
use Rattle.scope_rules.specs.Fates.{SuitsTree, goes, left_parent, left_query, left_shown, new_body, new_parent}
use Rattle.scope_rules.specs.declared.after.Scope.{Scope}
use Rattle.scope_rules.proofs.AfterLemmas.{directory-left, document-left, item-left, new-directory, new-document, new-item, new-parent, new-query, new-shown, parent-left, query-left, shown-left}
use Rattle.scope_rules.proofs.CarryLemmas.{directory-carried, document-carried, item-carried, layout-after, layout-before, layout-next, next-carried, parent-carried, query-carried, shown-carried, suits}
use Rattle.scope_rules.proofs.EntryLemmas.{IsNew, left, left_at, new}

module _ (scope : Scope) (after : State) (of : Tells scope after) (n : ℕ) where
  abbrev tree : State
  tree = scope.tree.now.state

  abbrev event : Event
  event = scope.event.now

  -- the number is that of an entry that the event brings
  abbrev is_new : Bool
  is_new = nat_le tree.next n && nat_lt n scope.next

  -- what the event makes of the old state
  behind : {X : Type 0} (tell : State → X) {value : X} → value ≡ tell (apply of.old event) → value ≡ tell after
  behind tell same = same ∙ ap tell (sym of.is)

  same-test : is_new ≡ (nat_le tree.next n && nat_lt n (bare_after event tree).next)
  same-test = ap (λ (k : ℕ). nat_le tree.next n && nat_lt n k) (of.next ∙ ap (λ (x : State). x.next) of.is ∙ sym (next-carried of.old tree event of.before))

  pub suits-scope : SuitsTree event tree
  suits-scope = suits of.old tree event of.before

  module _ (is : is_new ≡ true) where
    one : (x : Entry) × IsNew event tree n x
    one = new tree (layout-before of.old tree event of.before) event n (sym same-test ∙ is)

    pub item-new : option_map_or is_linkable (new_body event tree.next n) false ≡ is_item after n
    item-new = sym (new-item event tree n one.0 one.1) ∙ behind (λ x. is_item x n) (item-carried of.old tree event of.before n)

    pub document-new : option_map_or is_document (new_body event tree.next n) false ≡ is_document_at after.entries n
    document-new = sym (new-document event tree n one.0 one.1) ∙ behind (λ x. is_document_at x.entries n) (document-carried of.old tree event of.before n)

    pub shown-new : None ≡ shown_of after n
    shown-new = sym (new-shown event tree n one.0 one.1) ∙ behind (λ x. shown_of x n) (shown-carried of.old tree event of.before n)

    pub directory-new : option_map_or is_directory (new_body event tree.next n) false ≡ is_made_directory after.entries n
    directory-new = sym (new-directory event tree n one.0 one.1) ∙ behind (λ x. is_made_directory x.entries n) (directory-carried of.old tree event of.before n)

    pub parent-new : new_parent event tree.next n ≡ parent_of after n
    parent-new = sym (new-parent event tree n one.0 one.1) ∙ behind (λ x. parent_of x n) (parent-carried of.old tree event of.before n)

    pub query-new : option_and_then query_in (new_body event tree.next n) ≡ query_at after n
    query-new = sym (new-query event tree n one.0 one.1) ∙ behind (λ x. query_at x n) (query-carried of.old tree event of.before n)

  module _ (isnt : is_new ≡ false) where
    found : entry_at (bare_after event tree).entries n ≡ left_at event tree n
    found = left tree (layout-before of.old tree event of.before) event n (layout-after of.old tree event of.before) (sym same-test ∙ isnt)

    pub item-old : (is_item tree n && not (goes event tree n)) ≡ is_item after n
    item-old = sym (item-left event tree n found) ∙ behind (λ x. is_item x n) (item-carried of.old tree event of.before n)

    pub document-old : (is_document_at tree.entries n && not (goes event tree n)) ≡ is_document_at after.entries n
    document-old = sym (document-left event tree n found) ∙ behind (λ x. is_document_at x.entries n) (document-carried of.old tree event of.before n)

    pub shown-old : (b : Bool) → goes event tree n ≡ b → cond b None (left_shown event tree n) ≡ shown_of after n
    shown-old b is = ap (λ (b : Bool). cond b None (left_shown event tree n)) (sym is) ∙ sym (shown-left tree n event found) ∙ behind (λ x. shown_of x n) (shown-carried of.old tree event of.before n)

    pub directory-old : (is_made_directory tree.entries n && not (goes event tree n)) ≡ is_made_directory after.entries n
    directory-old = sym (directory-left event tree n found) ∙ behind (λ x. is_made_directory x.entries n) (directory-carried of.old tree event of.before n)

    pub parent-old : (b : Bool) → goes event tree n ≡ b → cond b 0 (left_parent event tree n) ≡ parent_of after n
    parent-old b is = ap (λ (b : Bool). cond b 0 (left_parent event tree n)) (sym is) ∙ sym (parent-left tree n event suits-scope found) ∙ behind (λ x. parent_of x n) (parent-carried of.old tree event of.before n)

    pub query-old : (b : Bool) → goes event tree n ≡ b → cond b None (left_query event tree n) ≡ query_at after n
    query-old b is = ap (λ (b : Bool). cond b None (left_query event tree n)) (sym is) ∙ sym (query-left tree n event suits-scope found) ∙ behind (λ x. query_at x n) (query-carried of.old tree event of.before n)

-- the state that is told is one
pub layout-told : (scope : Scope) (after : State) → Tells scope after → IsLayout after
layout-told scope after of = subst IsLayout (sym of.is) (layout-next of.old scope.tree.now.state scope.event.now of.before)
