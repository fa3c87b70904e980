use Rattle.std.proofs.Common.{◌∙◌, ℕ, List, [], ap, arith, drop, refl}
use Rattle.std.specs.Prelude.{nat_eq, unwrap_or}
use Rattle.std.specs.Map.{lookup}
use Rattle.std.proofs.lemmas.List.{nil_from_length}
use Rattle.hac_model.specs.declared.states.Answer.{Answer}
use Rattle.file_tree.proofs.LiveLemmas.{through-begins, through-ends, through-goes, through-here}
use Rattle.kept_facts.specs.AnswersKept.{list_at}
use Rattle.kept_state.proofs.GainLemmas.{IsGaining, gaining-begins, gaining-ends, gaining-enough, gaining-goes, gaining-passes}
use Rattle.kept_state.proofs.gains.lists_then.Goals as goal

pub entries-init : goal.entries-init
entries-init c =
    let kept = c.args.kept.now in
    let t = kept.tree.state in
    let query = c.args.query.now in
    let told : List (List ℕ) = c.args.told.now in
    let rise = c.numbers.ensures.layout.numbers in
    let lists : ℕ → List Answer = λ mount. list_at c.new-lists.result mount in
    through-begins (λ number. IsGaining kept query told told number lists) t.entries t.next rise
    (λ k none so_far. gaining-passes kept c.requires.linked query told rise told k lists so_far none)
    c.into_iter-number-iterator.result.rest.items (c.into_iter-number-iterator.ensures.into_iter_gives.0 ∙ c.in_ok-number-items.ensures.numbers)
    (gaining-begins kept c.requires.linked query told rise c.requires.told lists
    (λ n. ap (λ (entries : List (ℕ × List Answer)). unwrap_or (lookup (nat_eq n) entries) []) c.new-lists.ensures.empty))

pub put_gain-requires-clause-enough : goal.put_gain-requires-clause-enough
put_gain-requires-clause-enough c =
    let kept = c.args.kept.now in
    let t = kept.tree.state in
    let query = c.args.query.now in
    let told : List (List ℕ) = c.args.told.now in
    let left : List (List ℕ) = c.entries.left.now in
    let lists : ℕ → List Answer = λ mount. list_at c.entries.lists mount in
    let here = through-here (λ number. IsGaining kept query told left number lists) t.entries t.next c.entries.number-iterator.rest.items c.in-Some.number c.next.new.self.rest.items c.in-Some.ensures.steps.0 c.entries.invariant in
    gaining-enough kept c.requires.linked query told c.numbers.ensures.layout.numbers left c.in-Some.number lists here

pub put_gain-requires-clause-none : goal.put_gain-requires-clause-none
put_gain-requires-clause-none c =
    let kept = c.args.kept.now in
    let t = kept.tree.state in
    let query = c.args.query.now in
    let told : List (List ℕ) = c.args.told.now in
    let left : List (List ℕ) = c.entries.left.now in
    let lists : ℕ → List Answer = λ mount. list_at c.entries.lists mount in
    let here = through-here (λ number. IsGaining kept query told left number lists) t.entries t.next c.entries.number-iterator.rest.items c.in-Some.number c.next.new.self.rest.items c.in-Some.ensures.steps.0 c.entries.invariant in
    here.none c.in-Some.number (omega arith)

pub split_at-requires : goal.split_at-requires
split_at-requires c =
    let kept = c.args.kept.now in
    let t = kept.tree.state in
    let query = c.args.query.now in
    let told : List (List ℕ) = c.args.told.now in
    let left : List (List ℕ) = c.entries.left.now in
    let lists : ℕ → List Answer = λ mount. list_at c.entries.lists mount in
    let here = through-here (λ number. IsGaining kept query told left number lists) t.entries t.next c.entries.number-iterator.rest.items c.in-Some.number c.next.new.self.rest.items c.in-Some.ensures.steps.0 c.entries.invariant in
    omega (arith, c.in_ok-asked.ensures.asked, gaining-enough kept c.requires.linked query told c.numbers.ensures.layout.numbers left c.in-Some.number lists here)

pub entries-preserved : goal.entries-preserved
entries-preserved c =
    let kept = c.args.kept.now in
    let t = kept.tree.state in
    let query = c.args.query.now in
    let told : List (List ℕ) = c.args.told.now in
    let rise = c.numbers.ensures.layout.numbers in
    let left : List (List ℕ) = c.entries.left.now in
    let lists : ℕ → List Answer = λ mount. list_at c.entries.lists mount in
    let next : List (List ℕ) = c.split_at.result.1.now in
    let new : ℕ → List Answer = λ mount. list_at c.put_gain.new.lists mount in
    let n = c.in-Some.number in
    let here = through-here (λ number. IsGaining kept query told left number lists) t.entries t.next c.entries.number-iterator.rest.items n c.next.new.self.rest.items c.in-Some.ensures.steps.0 c.entries.invariant in
    through-goes (λ number. IsGaining kept query told next number new) t.entries t.next rise (λ k none so_far. gaining-passes kept c.requires.linked query told rise next k new so_far none)
    (λ number. IsGaining kept query told left number lists) c.entries.number-iterator.rest.items n c.next.new.self.rest.items c.in-Some.ensures.steps.0 c.entries.invariant
    (gaining-goes kept c.requires.linked query told rise left n lists here next new
    (c.split_at.ensures.back ∙ ap (λ (k : ℕ). drop k left) c.in_ok-asked.ensures.asked) c.in_ok-asked.ensures.lists)

pub returns : goal.returns
returns c = λ mount.
    let kept = c.args.kept.now in
    let t = kept.tree.state in
    let query = c.args.query.now in
    let told : List (List ℕ) = c.args.told.now in
    let rise = c.numbers.ensures.layout.numbers in
    let left : List (List ℕ) = c.entries.left.now in
    let lists : ℕ → List Answer = λ mount. list_at c.entries.lists mount in
    let rest = c.entries.number-iterator.rest.items in
    gaining-ends kept c.requires.linked query told rise left t.next lists
    (through-ends (λ number. IsGaining kept query told left number lists) t.entries t.next rest (nil_from_length rest (omega (arith, c.in-None.ensures.steps.0, c.entries.number-iterator.rest.ok.0))) c.entries.invariant)
    refl mount
