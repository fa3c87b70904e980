-- What semantic directories come to at last: all their marks, under new numbers.
use Rattle.std.proofs.Common.{◌≡◌, ℕ, Bool, true, false, List, [], ◌∷◌, map, subst, refl, ap, sym, ◌∙◌, inl, inr}
use Rattle.std.specs.Prelude.{◌&&◌, ◌||◌, ◌==◌, not}
use Rattle.std.proofs.lemmas.Bool.{eqb-true}
use Rattle.hac_model.specs.Query.Formula.{Formula}
use Rattle.hac_model.specs.Query.QueryText.{referred_by}
use Rattle.hac_model.specs.Tree.Depends.{Among}
use Rattle.hac_model.specs.Tree.Events.{put_in, without}
use Rattle.hac_model.specs.Tree.Links.{has}
use Rattle.hac_model.specs.Tree.{permanent_in, prohibited_in}
use Rattle.hac_model.specs.declared.states.Body.{Body}
use Rattle.hac_model.specs.declared.states.Body.TheVariants.{File, Dir, Symlink, Semantic, Mount, Document}
use Rattle.hac_model.proofs.AmongLemmas.{among-has, eqb-turned, has-among}
use Rattle.hac_model.proofs.MarkLemmas.{has-filter, has-put_in}
use Rattle.hac_dump.proofs.EdgeLemmas.{IsAsking, among-map}
use Rattle.hac_dump.proofs.MarkLemmas.{adds, removes}
use Rattle.hac_dump.proofs.PartLemmas.{IsStage}
use Rattle.hac_dump.proofs.SetLemmas.{queried}
use Rattle.hac_dump.proofs.StageLemmas.{IsPlainKind, semantic-stage, written-stage}

-- all that comes of a body
abbrev pub final : (ℕ → ℕ) → Body → Body
final ρ body = removes ρ (prohibited_in body) (adds ρ (permanent_in body) (queried ρ body))

-- what was put in anew is in it, and nothing else came or went
put-anew : (n : ℕ) (xs : List ℕ) (m : ℕ) → has (put_in n (without n xs)) m ≡ (n == m || has xs m)
put-anew n xs m = has-put_in n (without n xs) m ∙ ap (λ (b : Bool). n == m || b) (has-filter (λ y. not (y == n)) xs m ∙ ap (λ (b : Bool). not b && has xs m) (eqb-turned m n)) ∙ at (n == m) (has xs m)
  where
    at : (a b : Bool) → (a || (not a && b)) ≡ (a || b)
    at true b = refl
    at false b = refl

-- a semantic body with such marks
pub record HasMarks (asked : Formula ℕ) (body : Body) (added removed : ℕ → Bool) : Type 0 where
  pub permanent : List ℕ
  pub prohibited : List ℕ
  pub is : body ≡ Semantic asked permanent prohibited
  pub adds_all : (m : ℕ) → has permanent m ≡ added m
  pub removes_all : (m : ℕ) → has prohibited m ≡ removed m

adds-marks : (ρ : ℕ → ℕ) (asked : Formula ℕ) (todo added : List ℕ) → (more : List ℕ) × (adds ρ todo (Semantic asked added []) ≡ Semantic asked more []) × ((m : ℕ) → has more m ≡ (has (map ρ todo) m || has added m))
adds-marks ρ asked [] added = (added, refl, λ m. refl)
adds-marks ρ asked (x ∷ todo) added =
    let rest = adds-marks ρ asked todo (put_in (ρ x) (without (ρ x) added)) in
    (rest.0, rest.1, λ m. rest.2 m ∙ ap (λ (b : Bool). has (map ρ todo) m || b) (put-anew (ρ x) added m) ∙ swap (has (map ρ todo) m) (ρ x == m) (has added m))
  where
    swap : (a b c : Bool) → (a || (b || c)) ≡ ((b || a) || c)
    swap true true c = refl
    swap true false c = refl
    swap false true c = refl
    swap false false c = refl

removes-marks : (ρ : ℕ → ℕ) (asked : Formula ℕ) (todo added removed : List ℕ) → ((k : ℕ) → Among todo k → has added (ρ k) ≡ false) → HasMarks asked (removes ρ todo (Semantic asked added removed)) (has added) (λ m. has (map ρ todo) m || has removed m)
removes-marks ρ asked [] added removed new = record { permanent = added; prohibited = removed; is = refl; adds_all = λ m. refl; removes_all = λ m. refl }
removes-marks ρ asked (x ∷ todo) added removed new =
    let now = without (ρ x) (put_in (ρ x) (without (ρ x) added)) in
    let gone = put_in (ρ x) (without (ρ x) (without (ρ x) removed)) in
    let rest = removes-marks ρ asked todo now gone (λ k later. still (ρ k) ∙ new k (inr later)) in
    record {
      permanent = rest.permanent;
      prohibited = rest.prohibited;
      is = rest.is;
      adds_all = λ m. rest.adds_all m ∙ still m;
      removes_all = λ m. rest.removes_all m ∙ ap (λ (b : Bool). has (map ρ todo) m || b) (twice m) ∙ swap (has (map ρ todo) m) (ρ x == m) (has removed m);
    }
  where
    swap : (a b c : Bool) → (a || (b || c)) ≡ ((b || a) || c)
    swap true true c = refl
    swap true false c = refl
    swap false true c = refl
    swap false false c = refl

    still : (m : ℕ) → has (without (ρ x) (put_in (ρ x) (without (ρ x) added))) m ≡ has added m
    still m =
        has-filter (λ y. not (y == ρ x)) (put_in (ρ x) (without (ρ x) added)) m
        ∙ (λ i. not (eqb-turned m (ρ x) i) && put-anew (ρ x) added m i)
        ∙ (elim (ρ x == m) as (λ b. (ρ x == m) ≡ b → (not b && (b || has added m)) ≡ has added m) [
          | true ↦ (λ here. sym (ap (has added) (sym (eqb-true (ρ x) m here)) ∙ new x (inl refl)))
          | false ↦ (λ _. refl)
        ] refl)

    twice : (m : ℕ) → has (put_in (ρ x) (without (ρ x) (without (ρ x) removed))) m ≡ (ρ x == m || has removed m)
    twice m =
        put-anew (ρ x) (without (ρ x) removed) m
        ∙ ap (λ (b : Bool). ρ x == m || b) (has-filter (λ y. not (y == ρ x)) removed m ∙ ap (λ (b : Bool). not b && has removed m) (eqb-turned m (ρ x)))
        ∙ at (ρ x == m) (has removed m)
      where
        at : (a b : Bool) → (a || (not a && b)) ≡ (a || b)
        at true b = refl
        at false b = refl

-- what a semantic directory comes to, where nothing that was removed was added
pub final-marks : (ρ : ℕ → ℕ) (q : Formula ℕ) (permanent prohibited : List ℕ) → ((k : ℕ) → Among prohibited k → has (map ρ permanent) (ρ k) ≡ false)
    → HasMarks (referred_by ρ q) (final ρ (Semantic q permanent prohibited)) (has (map ρ permanent)) (has (map ρ prohibited))
final-marks ρ q permanent prohibited apart =
    let first = adds-marks ρ (referred_by ρ q) permanent [] in
    let added : (m : ℕ) → has first.0 m ≡ has (map ρ permanent) m = λ m. first.2 m ∙ or-false (has (map ρ permanent) m) in
    let second = removes-marks ρ (referred_by ρ q) prohibited first.0 [] (λ k inside. added (ρ k) ∙ apart k inside) in
    record {
      permanent = second.permanent;
      prohibited = second.prohibited;
      is = ap (removes ρ prohibited) first.1 ∙ second.is;
      adds_all = λ m. second.adds_all m ∙ added m;
      removes_all = λ m. second.removes_all m ∙ or-false (has (map ρ prohibited) m);
    }
  where
    or-false : (b : Bool) → (b || false) ≡ b
    or-false true = refl
    or-false false = refl

-- so it is a stage of the body, and asks for no more
pub final-stage : (ρ : ℕ → ℕ) (body : Body) → IsPlainKind body → ((k : ℕ) → Among (prohibited_in body) k → has (map ρ (permanent_in body)) (ρ k) ≡ false) → IsStage (final ρ body) body
final-stage ρ (Semantic q permanent prohibited) kind apart =
    let m = final-marks ρ q permanent prohibited apart in
    subst (λ (b : Body). IsStage b (Semantic q permanent prohibited)) (sym m.is) (semantic-stage (referred_by ρ q) q m.permanent m.prohibited permanent prohibited)
final-stage ρ (File text dirty shown) kind apart = written-stage (File text dirty shown) kind
final-stage ρ Dir kind apart = written-stage Dir kind
final-stage ρ (Symlink target) kind apart = written-stage (Symlink target) kind
final-stage ρ (Mount space kept) kind apart = written-stage (Mount space kept) kind
final-stage ρ Document kind apart = written-stage Document kind

pub final-asks : (ρ : ℕ → ℕ) (body : Body) → ((k : ℕ) → Among (prohibited_in body) k → has (map ρ (permanent_in body)) (ρ k) ≡ false) → IsAsking ρ (final ρ body) body
final-asks ρ (Semantic q permanent prohibited) apart =
    let m = final-marks ρ q permanent prohibited apart in
    subst (λ (b : Body). IsAsking ρ b (Semantic q permanent prohibited)) (sym m.is)
    (record {
      query = λ asked is. (q, refl, (let even : asked ≡ referred_by ρ q = cc in even));
      added = λ n inside. among-map ρ permanent n (has-among (map ρ permanent) n (sym (m.adds_all n) ∙ among-has m.permanent n inside));
    })
final-asks ρ (File text dirty shown) apart = record { query = λ asked is. absurd cc; added = λ m inside. absurd inside }
final-asks ρ Dir apart = record { query = λ asked is. absurd cc; added = λ m inside. absurd inside }
final-asks ρ (Symlink target) apart = record { query = λ asked is. absurd cc; added = λ m inside. absurd inside }
final-asks ρ (Mount space kept) apart = record { query = λ asked is. absurd cc; added = λ m inside. absurd inside }
final-asks ρ Document apart = record { query = λ asked is. absurd cc; added = λ m inside. absurd inside }
