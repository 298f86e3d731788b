-- One step more of the rules.
use Rattle.std.proofs.Common.{◌≡◌, ℕ, zero, suc, ◌+◌, ◌-◌, ◌≤◌, ◌<◌, min, List, ◌∷◌, Result, Ok, Err, drop, get_or, length, sym, ap, ap₂, ◌∙◌, subst, arith, add-one, add-zero, add-suc}
use Rattle.std.proofs.Math.Seq.{drop-cons}
use Rattle.std.proofs.lemmas.List.{drop_all}
use Rattle.p3l_model.specs.Least.{capped, least_over}
use Rattle.p3l_cert.specs.declared.cert.Key.{Key}
use Rattle.p3l_cert.specs.Rule.{key, and_then, stages_rule, workers_step, workers_rule}

module _ (look : Key → Result ℕ Key) (t cap : ℕ) where
  stages_split : (ps : List ℕ) (i before : ℕ) → i < length ps → stages_rule look t cap before (drop i ps) ≡ and_then (look (key (get_or ps i 0) t cap)) (λ least. stages_rule look t cap (capped cap (before + least)) (drop (i + 1) ps))
  unfolding stages_rule
  stages_split ps i before inside =
      let e : drop i ps ≡ get_or ps i 0 ∷ drop (i + 1) ps = rw (add-one, drop-cons ps i 0) in
      ap (stages_rule look t cap before) e

  pub stages_more : (ps : List ℕ) (i before least : ℕ) (total : Result ℕ Key) → i < length ps → look (key (get_or ps i 0) t cap) ≡ Ok least → stages_rule look t cap before (drop i ps) ≡ total → stages_rule look t cap (capped cap (before + least)) (drop (i + 1) ps) ≡ total
  stages_more ps i before least total inside is so_far =
      sym (ap (λ r. and_then r (λ n. stages_rule look t cap (capped cap (before + n)) (drop (i + 1) ps))) is) ∙ sym (stages_split ps i before inside) ∙ so_far

  pub stages_stop : (ps : List ℕ) (i before : ℕ) (k : Key) (total : Result ℕ Key) → i < length ps → look (key (get_or ps i 0) t cap) ≡ Err k → stages_rule look t cap before (drop i ps) ≡ total → Err k ≡ total
  stages_stop ps i before k total inside is so_far =
      sym (ap (λ r. and_then r (λ n. stages_rule look t cap (capped cap (before + n)) (drop (i + 1) ps))) is) ∙ sym (stages_split ps i before inside) ∙ so_far

  pub stages_done : (ps : List ℕ) (i before : ℕ) (total : Result ℕ Key) → length ps ≤ i → stages_rule look t cap before (drop i ps) ≡ total → Ok before ≡ total
  unfolding stages_rule
  stages_done ps i before total past so_far = ap (stages_rule look t cap before) (sym (drop_all i ps past)) ∙ so_far

module _ (look : Key → Result ℕ Key) (part : ℕ) (bound : ℕ → ℕ) (cap low : ℕ) where
  pub workers_none : (k : ℕ) → k ≡ 0 → workers_rule look part bound cap low k ≡ Ok (cap + 1)
  unfolding workers_rule
  workers_none k e = ap (workers_rule look part bound cap low) e

  workers_split : (n : ℕ) → low ≤ n → workers_rule look part bound cap low ((n + 1) - low) ≡ and_then (workers_rule look part bound cap low (n - low)) (workers_step look part bound cap n)
  unfolding workers_rule
  workers_split n from =
      let more : (n + 1) - low ≡ suc (n - low) = omega arith in
      let at : low + (n - low) ≡ n = omega arith in
      ap (workers_rule look part bound cap low) more ∙ ap (λ z. and_then (workers_rule look part bound cap low (n - low)) (workers_step look part bound cap z)) at

  pub workers_more : (n best : ℕ) (step : Result ℕ Key) → low ≤ n → workers_rule look part bound cap low (n - low) ≡ Ok best → workers_step look part bound cap n best ≡ step → workers_rule look part bound cap low ((n + 1) - low) ≡ step
  workers_more n best step from so_far is = workers_split n from ∙ (ap (λ r. and_then r (workers_step look part bound cap n)) so_far ∙ is)

  workers_stay : (k j : ℕ) (missing : Key) → workers_rule look part bound cap low k ≡ Err missing → workers_rule look part bound cap low (k + j) ≡ Err missing
  unfolding workers_rule
  workers_stay k zero missing e = rw add-zero e
  workers_stay k (suc j) missing e = rw add-suc (ap (λ r. and_then r (workers_step look part bound cap (low + (k + j)))) (workers_stay k j missing e))

  pub workers_stop : (n end best : ℕ) (missing : Key) → low ≤ n → n < end → workers_rule look part bound cap low (n - low) ≡ Ok best → workers_step look part bound cap n best ≡ Err missing → workers_rule look part bound cap low (end - low) ≡ Err missing
  workers_stop n end best missing from before so_far is =
      let one = workers_more n best (Err missing) from so_far is in
      let more : ((n + 1) - low) + (end - (n + 1)) ≡ end - low = omega arith in
      subst (λ z. workers_rule look part bound cap low z ≡ Err missing) more (workers_stay ((n + 1) - low) (end - (n + 1)) missing one)

-- the least of one number more, from 0 on
pub over_more : (v : ℕ → ℕ) (k cap best next : ℕ) → least_over v 0 k cap ≡ best → v k ≡ next → least_over v 0 (k + 1) cap ≡ min best next
unfolding least_over
over_more v k cap best next so_far is =
    let at : 0 + k ≡ k = omega arith in
    rw add-one (ap₂ (λ x y. min x y) so_far (ap v at ∙ is))
