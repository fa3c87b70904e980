use Rattle.std.proofs.Common.{◌≡◌, ℕ, Bool, true, false, List, [], ◌∷◌, ◌+◌, ap, sym, subst, ◌∙◌, ◌≤◌, arith, eq-eqb, refl}
use Rattle.std.specs.Prelude.{◌&&◌, ◌||◌, ◌==◌, drop, if◌then◌else◌, not}
use Rattle.std.specs.List.{list_all, list_any}
use Rattle.std.proofs.Math.Bool.{beq}
use Rattle.hac_model.specs.Tree.Costs.{terms_at}
use Rattle.hac_model.specs.Tree.Depends.{Among, depends}
use Rattle.std.proofs.lemmas.List.{drop_all, drop_more}
use Rattle.hac_model.specs.Tree.Links.{has, provide}
use Rattle.reeval.specs.Probes.{is_moved, terms_along, terms_asked}
use Rattle.reeval.specs.Routes.{Covers}
use Rattle.reeval.specs.Judging.{is_linked, judgement, verdict_of}
use Rattle.reeval.specs.Routes.{dirs_of}
use Rattle.reeval.specs.Settled.{AreFresh}
use Rattle.reeval.specs.Told.{is_on, told}
use Rattle.reeval.specs.declared.settling.Stop.{Stop}
use Rattle.reeval.specs.declared.verdicts.Change.{Change}
use Rattle.reeval.specs.declared.verdicts.Verdict.{Verdict}
use Rattle.hac_model.proofs.SortedLemmas.{all-index}
use Rattle.reeval.proofs.ProbeLemmas.{even-there, leans-never, more-along, more-asked, most-asked, same-along, same-asked}
use Rattle.reeval.proofs.NotedLemmas.{Noted, leans-same, none-noted, noted-judged}
use Rattle.reeval.proofs.SettleLemmas.{Settled, any-there, asked-found, begins-there, leans-none, settled-all, settled-by, settled-none, still-unsaid}
use Rattle.reeval.proofs.settling.settle.Goals as goal
use Rattle.reeval.proofs.settling.settle.Goals.{then-stop+in_ok-judge_anew+in_ok-note_move, then-stop-via-then-stop, then-stop-via-else-stop+then-leans_on, else-stop+else-leans_on}

pub loop-stop-init : goal.loop-stop-init
loop-stop-init g c =
    let s = g.B.Before.state c.args.before.now in
    let t = g.Y.Layout.state c.args.layout.now in
    let stops = c.args.stops.now in
    let item = c.args.item in (
      ap (list_all (is_on item)) c.new-news.ensures.items,
      λ covers. (
        record {
          all = [];
          same = λ _ d. ap (λ (items : List ℕ). has items d) c.new-moved.ensures.items;
          settled = subst (λ (items : List Change). Settled s t item stops covers (dirs_of stops) (told items (verdict_of s item)) []) (sym c.new-news.ensures.items) (settled-none s t item stops covers);
        },
        λ still. (refl, omega arith),
      ),
      omega arith,
      c.any_leans-leans.ensures,
      λ covers. subst (AreFresh s) (sym c.new-news.ensures.items) tt,
    )

pub loop-stop-preserved : goal.loop-stop-preserved
loop-stop-preserved g c =
    let s = g.B.Before.state c.args.before.now in
    let t = g.Y.Layout.state c.args.layout.now in
    let stops = c.args.stops.now in
    let item = c.args.item in
    let stop : Stop = c.stop-item.result in
    let deps : List ℕ = depends t stop.dir in
    let leans : Bool = c.any_leans-leans.result in
    let moved : List ℕ = c.loop-stop.moved.items in
    let rest : List Stop = drop (c.loop-stop.stop-index + 1) stops in
    let left : drop c.loop-stop.stop-index stops ≡ stop ∷ rest =
    drop_more stops c.loop-stop.stop-index stop c.loop-stop-test.true ∙ ap (λ (stop : Stop). stop ∷ rest) (sym c.stop-item.is) in
    let known : ℕ → Verdict = told c.loop-stop.news.items (verdict_of s item) in
    let had : (covers : Covers s t stops item) → Noted s t item stops covers leans (stop.dir ∷ dirs_of rest) known moved =
    (λ covers. let noted = (c.loop-stop.invariant.1 covers).0 in record {
      all = noted.all;
      same = noted.same;
      settled = subst (λ (more : List Stop). Settled s t item stops covers (dirs_of more) known noted.all) left noted.settled;
    }) in
    let any : stop.leans ≡ true → leans ≡ true =
    (λ own. c.loop-stop.invariant.3 ∙ any-there (λ stop. stop.leans) stops c.loop-stop.stop-index stop rest left own) in
    let alone : Covers s t stops item → stop.leans ≡ false → (e : ℕ) → Among deps e → ¬ Among (dirs_of stops) e =
    (λ covers. subst (λ (stop : Stop). stop.leans ≡ false → (e : ℕ) → Among (depends t stop.dir) e → ¬ Among (dirs_of stops) e) (sym c.stop-item.is)
    (all-index (λ stop. stop.leans ≡ false → (e : ℕ) → Among (depends t stop.dir) e → ¬ Among (dirs_of stops) e) stops c.loop-stop.stop-index stop covers.route.alone c.loop-stop-test.true)) in
    let along : c.loop-stop.probes + terms_along t (stop ∷ rest) ≤ c.args.probes.now + terms_along t stops =
    subst (λ (more : List Stop). c.loop-stop.probes + terms_along t more ≤ c.args.probes.now + terms_along t stops) left c.loop-stop.invariant.2 in
    let still : (covers : Covers s t stops item) → is_moved s t stops item ≡ false
    → ((had covers).all ≡ []) × (c.loop-stop.probes + terms_asked t (stop ∷ rest) ≤ c.args.probes.now + terms_asked t stops) =
    (λ covers even. let both = (c.loop-stop.invariant.1 covers).1 even in
    (both.0, subst (λ (more : List Stop). c.loop-stop.probes + terms_asked t more ≤ c.args.probes.now + terms_asked t stops) left both.1)) in
    let same : (covers : Covers s t stops item) → (stop.leans && list_any (has moved) deps) ≡ (stop.leans && list_any (has (had covers).all) deps) =
    (λ covers. leans-same leans stop.leans moved (had covers).all deps any (had covers).same) in
    elim c.if-stop.branch [
      | then-stop+in_ok-judge_anew+in_ok-note_move w ↦
          (let asks : (covers : Covers s t stops item) → w.asks-asks.result ≡ (not stop.ties || (stop.leans && list_any (has (had covers).all) deps)) =
          (λ covers. w.asks-asks.ensures ∙ (λ i. not stop.ties || (stop.leans && list_any (has (w.as_slice-then-stop.ensures.value i)) deps)) ∙ ap (λ (b : Bool). not stop.ties || b) (same covers)) in
          let asked : (covers : Covers s t stops item) → w.asks-asks.result ≡ false → (known stop.dir).found ≡ (judgement t (is_linked known) item stop.dir).found =
          (λ covers out. asked-found s t item stops covers stop.dir (dirs_of rest) known (had covers).all (had covers).settled stop.leans stop.ties (alone covers)
          (λ ties. any-there (λ other. other.dir == stop.dir && other.ties) stops c.loop-stop.stop-index stop rest left (λ i. eq-eqb stop.dir stop.dir refl i && ties i))
          (sym (asks covers) ∙ out)) in
          let newly : Covers s t stops item → (d : ℕ) → told c.if-stop.news.items (verdict_of s item) d ≡ (if d == stop.dir then judgement t (is_linked known) item stop.dir else known d) =
          (λ covers d. (λ i. told (w.news-is i).items (verdict_of s item) d) ∙ w.in_ok-judge_anew.ensures.news (asked covers) d) in
          let news : w.as_slice-then-stop-2.result.now ≡ c.if-stop.news.items = w.as_slice-then-stop-2.ensures.value ∙ sym (λ i. (w.news-is i).items) in
          let noted : (d : ℕ) → has c.if-stop.moved.items d ≡ (has moved d || (leans && (stop.dir == d && not (beq (provide s (is_linked (verdict_of s item)) stop.dir item) (provide t (is_linked (told c.if-stop.news.items (verdict_of s item))) stop.dir item))))) =
          (λ d. (λ i. has (w.moved-is i).items d) ∙ w.in_ok-note_move.ensures d
          ∙ ap (λ (items : List Change). has moved d || (leans && (stop.dir == d && not (beq (provide s (is_linked (verdict_of s item)) stop.dir item) (provide t (is_linked (told items (verdict_of s item))) stop.dir item))))) news) in
          let bound : c.if-stop.probes ≤ c.loop-stop.probes + (if w.asks-asks.result then terms_at t stop.dir else 0) =
          subst (λ (n : ℕ). n ≤ c.loop-stop.probes + (if w.asks-asks.result then terms_at t stop.dir else 0)) (sym w.probes-is) w.in_ok-judge_anew.ensures.probes in (
            (λ i. list_all (is_on item) (w.news-is i).items) ∙ w.in_ok-judge_anew.ensures.own c.loop-stop.invariant.0,
            λ covers. (
              noted-judged s t item stops covers leans stop.dir (dirs_of rest) known moved (had covers) (told c.if-stop.news.items (verdict_of s item)) c.if-stop.moved.items (newly covers) noted,
              λ even.
                  let both = still covers even in
                  elim w.then-stop.branch [
                    | then-stop-via-then-stop v ↦ (
                      none-noted s t item stops covers leans stop.dir (dirs_of rest) known moved (had covers) (told c.if-stop.news.items (verdict_of s item)) c.if-stop.moved.items (newly covers) noted
                          (even-there s t stops item c.loop-stop.stop-index stop rest left even v.if-stop.true) both.0,
                      more-asked t stop deps (had covers).all rest stops c.args.probes.now c.loop-stop.probes c.if-stop.probes w.asks-asks.result v.if-stop.true both.0 (asks covers) both.1 bound,
                    )
                    | then-stop-via-else-stop+then-leans_on v ↦
                        (let never : true ≡ false = sym v.if-leans_on.true ∙ v.leans_on.ensures ∙ (λ i. stop.leans && list_any (has (v.as_slice.ensures.value i)) deps) ∙ same covers ∙ (λ i. stop.leans && list_any (has (both.0 i)) deps) ∙ leans-never stop.leans deps in absurd cc)
                  ],
            ),
            more-along t stop rest stops c.args.probes.now c.loop-stop.probes c.if-stop.probes w.asks-asks.result along bound,
            c.loop-stop.invariant.3,
            λ covers. subst (AreFresh s) (sym (λ i. (w.news-is i).items))
                (w.in_ok-judge_anew.ensures.fresh (still-unsaid s t item stops covers stop.dir (dirs_of rest) known (had covers).all (had covers).settled) (c.loop-stop.invariant.4 covers)),
          ))
      | else-stop+else-leans_on w ↦
          (let asked : c.loop-stop.probes ≡ c.if-stop.probes = sym w.probes-is in (
            (λ i. list_all (is_on item) (w.news-is i).items) ∙ c.loop-stop.invariant.0,
            λ covers. (
              record {
                all = (had covers).all;
                same = λ is d. (λ i. has (w.moved-is i).items d) ∙ (had covers).same is d;
                settled = subst (λ (items : List Change). Settled s t item stops covers (dirs_of rest) (told items (verdict_of s item)) (had covers).all) (sym (λ i. (w.news-is i).items))
                    (settled-by s t item stops covers stop.dir (dirs_of rest) known (had covers).all (had covers).settled
                    (begins-there (depends t) stops c.loop-stop.stop-index stop rest covers.route.ordered left w.if-stop.false)
                    (leans-none s t item stops covers stop.dir (dirs_of rest) known (had covers).all (had covers).settled stop.leans (alone covers)
                    (sym (same covers) ∙ sym (λ i. stop.leans && list_any (has (w.as_slice.ensures.value i)) deps) ∙ sym w.leans_on.ensures ∙ w.if-leans_on.false)));
              },
              λ even.
                  let both = still covers even in (
                    both.0,
                    subst (λ (n : ℕ). n + terms_asked t rest ≤ c.args.probes.now + terms_asked t stops) asked (same-asked t stop rest stops c.args.probes.now c.loop-stop.probes both.1),
                  ),
            ),
            subst (λ (n : ℕ). n + terms_along t rest ≤ c.args.probes.now + terms_along t stops) asked (same-along t stop rest stops c.args.probes.now c.loop-stop.probes along),
            c.loop-stop.invariant.3,
            λ covers. subst (AreFresh s) (sym (λ i. (w.news-is i).items)) (c.loop-stop.invariant.4 covers),
          ))
    ]

pub returns-clause-news : goal.returns-clause-news
returns-clause-news g c = λ covers.
    let s = g.B.Before.state c.args.before.now in
    let t = g.Y.Layout.state c.args.layout.now in
    let noted = (c.loop-stop.invariant.1 covers).0 in
    let none : drop c.loop-stop.stop-index c.args.stops.now ≡ [] = drop_all c.loop-stop.stop-index c.args.stops.now c.loop-stop-test.false in
    settled-all s t c.args.item c.args.stops.now covers (told c.loop-stop.news.items (verdict_of s c.args.item)) noted.all
    (subst (λ (more : List Stop). Settled s t c.args.item c.args.stops.now covers (dirs_of more) (told c.loop-stop.news.items (verdict_of s c.args.item)) noted.all) none noted.settled)

pub returns-clause-fresh : goal.returns-clause-fresh
returns-clause-fresh g c = λ covers. c.loop-stop.invariant.4 covers

pub returns-in_err-judge_anew-clause-few : goal.returns-in_err-judge_anew-clause-few
returns-in_err-judge_anew-clause-few g c = λ covers even.
    let t = g.Y.Layout.state c.args.layout.now in
    let stops = c.args.stops.now in
    let stop : Stop = c.stop-item.result in
    let deps : List ℕ = depends t stop.dir in
    let noted = (c.loop-stop.invariant.1 covers).0 in
    let both = (c.loop-stop.invariant.1 covers).1 even in
    let left : drop c.loop-stop.stop-index stops ≡ stop ∷ drop (c.loop-stop.stop-index + 1) stops =
    drop_more stops c.loop-stop.stop-index stop c.loop-stop-test.true ∙ ap (λ (stop : Stop). stop ∷ drop (c.loop-stop.stop-index + 1) stops) (sym c.stop-item.is) in
    let same : (stop.leans && list_any (has c.loop-stop.moved.items) deps) ≡ (stop.leans && list_any (has noted.all) deps) =
    leans-same c.any_leans-leans.result stop.leans c.loop-stop.moved.items noted.all deps
    (λ own. c.loop-stop.invariant.3 ∙ any-there (λ stop. stop.leans) stops c.loop-stop.stop-index stop (drop (c.loop-stop.stop-index + 1) stops) left own) noted.same in
    elim c.then-stop.branch [
      | then-stop-via-then-stop v ↦
          most-asked t stop deps noted.all (drop (c.loop-stop.stop-index + 1) stops) stops c.args.probes.now c.loop-stop.probes c.judge_anew.new.probes c.asks-asks.result v.if-stop.true both.0
          (c.asks-asks.ensures ∙ (λ i. not stop.ties || (stop.leans && list_any (has (c.as_slice-then-stop.ensures.value i)) deps)) ∙ ap (λ (b : Bool). not stop.ties || b) same)
          (subst (λ (more : List Stop). c.loop-stop.probes + terms_asked t more ≤ c.args.probes.now + terms_asked t stops) left both.1) c.in_err-judge_anew.ensures.probes
      | then-stop-via-else-stop+then-leans_on v ↦
          (let never : true ≡ false = sym v.if-leans_on.true ∙ v.leans_on.ensures ∙ (λ i. stop.leans && list_any (has (v.as_slice.ensures.value i)) deps) ∙ same ∙ (λ i. stop.leans && list_any (has (both.0 i)) deps) ∙ leans-never stop.leans deps in absurd cc)
    ]

pub returns-in_err-note_move-clause-few : goal.returns-in_err-note_move-clause-few
returns-in_err-note_move-clause-few g c = λ covers even.
    let t = g.Y.Layout.state c.args.layout.now in
    let stops = c.args.stops.now in
    let stop : Stop = c.stop-item.result in
    let deps : List ℕ = depends t stop.dir in
    let noted = (c.loop-stop.invariant.1 covers).0 in
    let both = (c.loop-stop.invariant.1 covers).1 even in
    let left : drop c.loop-stop.stop-index stops ≡ stop ∷ drop (c.loop-stop.stop-index + 1) stops =
    drop_more stops c.loop-stop.stop-index stop c.loop-stop-test.true ∙ ap (λ (stop : Stop). stop ∷ drop (c.loop-stop.stop-index + 1) stops) (sym c.stop-item.is) in
    let same : (stop.leans && list_any (has c.loop-stop.moved.items) deps) ≡ (stop.leans && list_any (has noted.all) deps) =
    leans-same c.any_leans-leans.result stop.leans c.loop-stop.moved.items noted.all deps
    (λ own. c.loop-stop.invariant.3 ∙ any-there (λ stop. stop.leans) stops c.loop-stop.stop-index stop (drop (c.loop-stop.stop-index + 1) stops) left own) noted.same in
    elim c.then-stop.branch [
      | then-stop-via-then-stop v ↦
          most-asked t stop deps noted.all (drop (c.loop-stop.stop-index + 1) stops) stops c.args.probes.now c.loop-stop.probes c.judge_anew.new.probes c.asks-asks.result v.if-stop.true both.0
          (c.asks-asks.ensures ∙ (λ i. not stop.ties || (stop.leans && list_any (has (c.as_slice-then-stop.ensures.value i)) deps)) ∙ ap (λ (b : Bool). not stop.ties || b) same)
          (subst (λ (more : List Stop). c.loop-stop.probes + terms_asked t more ≤ c.args.probes.now + terms_asked t stops) left both.1) c.in_ok-judge_anew.ensures.probes
      | then-stop-via-else-stop+then-leans_on v ↦
          (let never : true ≡ false = sym v.if-leans_on.true ∙ v.leans_on.ensures ∙ (λ i. stop.leans && list_any (has (v.as_slice.ensures.value i)) deps) ∙ same ∙ (λ i. stop.leans && list_any (has (both.0 i)) deps) ∙ leans-never stop.leans deps in absurd cc)
    ]

pub returns-clause-few : goal.returns-clause-few
returns-clause-few g c = λ covers even. let both = (c.loop-stop.invariant.1 covers).1 even in let bound = both.1 in omega (arith, bound)
