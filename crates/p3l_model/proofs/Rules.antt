-- Services of runs of counts, and the rules of the least processes, in each direction.
use Rattle.std.proofs.Common.{◌≡◌, ℕ, zero, suc, ◌+◌, ◌-◌, ◌*◌, ◌/◌, ◌≤◌, ◌<◌, ◌==◌, max, min, List, [], ◌∷◌, ◌++◌, take, drop, length, refl, sym, ap, ap₂, ◌∙◌, subst, arith, inl, inr}
use Rattle.std.specs.Int.{div_ceil}
use Rattle.std.proofs.Math.Seq.{take-append_seam, drop-append_seam}
use Rattle.std.proofs.Math.Nat.{mul-le-mul_left, mul-le-mul_right, mul-div-le}
use Rattle.std.proofs.lemmas.Nat.{le-div}
use Rattle.std.proofs.lemmas.Grind.{div_ceil_times}
use Rattle.std.proofs.lemmas.Bool.{cases_lt}
use Rattle.std.proofs.lemmas.Bool.Decides.{nat_tests}
use Rattle.std.proofs.lemmas.List.{length-take, length-drop}
use Rattle.p3l_model.specs.declared.cost.Span.{Span}
use Rattle.p3l_model.specs.declared.cost.Sharing.{Sharing}
use Rattle.p3l_model.specs.declared.cost.Sharing.TheVariants.{Items, Elements}
use Rattle.p3l_model.specs.NodeCost.{shared}
use Rattle.p3l_model.specs.Costed.{Costed, Empty, Leaf, Both, Workers, Segments, Loop, IsIn, size, run_procs, run_service, IsLawfulRun, HasProcess, IsSharing}
use Rattle.p3l_model.specs.Least.{Serves, IsLeast, IsCounted, part_bound, least_over, capped}

-- lawful counts are as many as the tree has
pub lawful_length : (a : Costed) (xs : List ℕ) → IsLawfulRun a xs → length xs ≡ size a
unfolding IsLawfulRun size
lawful_length Empty xs h = ap length h
lawful_length (Leaf s) xs h = ap length h
lawful_length (Both a b) xs h =
    let p = lawful_length a (take (size a) xs) h.0 in
    let q = lawful_length b (drop (size a) xs) h.1 in
    omega (arith, length-take (size a) xs, length-drop (size a) xs)
lawful_length (Workers r h e a) [] l = absurd l
lawful_length (Workers r h e a) (n ∷ xs) l = let p = lawful_length a xs l.1 in omega (arith, p)
lawful_length (Segments r fold) [] l = absurd l
lawful_length (Segments r fold) (m ∷ xs) l = let p = ap length l.1 in omega (arith, p)
lawful_length (Loop t e a) xs h = lawful_length a xs h

-- a quotient rounded up is at most t exactly where the whole is at most n times t
pub ceil_le : (b n t : ℕ) → 1 ≤ n → div_ceil b n ≤ t → b ≤ n * t
ceil_le b n t some h =
    let q = div_ceil_times b n (omega arith) in
    let more : div_ceil b n * n ≤ t * n = mul-le-mul_right n h in
    omega (arith, q.0, more)

pub le_ceil : (b n t : ℕ) → 1 ≤ n → b ≤ n * t → div_ceil b n ≤ t
le_ceil b n t some h =
    let q = div_ceil_times b n (omega arith) in
    elim (cases_lt t (div_ceil b n)) [
      | inl above ↦ let more : suc t * n ≤ div_ceil b n * n = mul-le-mul_right n above in absurd (omega (arith, q.1, more))
      | inr within ↦ within
    ]

pub ceil_some : (m n : ℕ) → 0 < m → 1 ≤ n → 0 < div_ceil m n
ceil_some m n some h =
    let q = div_ceil_times m n (omega arith) in
    elim (cases_lt 0 (div_ceil m n)) [
      | inl positive ↦ positive
      | inr none ↦ let less : div_ceil m n * n ≤ 0 * n = mul-le-mul_right n none in absurd (omega (arith, q.0, less))
    ]

pub times_le : (c b t : ℕ) → 0 < c → c * b ≤ t → b ≤ t / c
times_le c b t h l = le-div b t c h (omega arith)

pub le_times : (c b t : ℕ) → b ≤ t / c → c * b ≤ t
le_times c b t h = omega (arith, mul-le-mul_left c h, mul-div-le t c)

-- a tree with a process has one
pub some_process : (a : Costed) (xs : List ℕ) → HasProcess a → IsLawfulRun a xs → 1 ≤ run_procs a xs
unfolding HasProcess IsLawfulRun run_procs
some_process Empty xs has h = absurd has
some_process (Leaf s) xs has h = omega arith
some_process (Both a b) xs has h = let p = some_process a (take (size a) xs) has h.0 in omega (arith, p)
some_process (Workers r h e a) [] has l = absurd l
some_process (Workers r h e a) (n ∷ xs) has l = omega arith
some_process (Segments r fold) [] has l = absurd l
some_process (Segments r fold) (m ∷ xs) has l = let some = l.0.1.0 in grind (arith, nat_tests)
some_process (Loop t e a) xs has h = omega arith

-- a part stays within its bound exactly where what its workers share stays within t
pub shared_within : (h : Sharing) (n b t : ℕ) → IsSharing h → 1 ≤ n → shared h n b ≤ t → b ≤ part_bound h t n
shared_within Items n b t some count l = ceil_le b n t count l
shared_within (Elements m) n b t some count l = times_le (div_ceil m n) b t (ceil_some m n some count) l

pub within_shared : (h : Sharing) (n b t : ℕ) → 1 ≤ n → b ≤ part_bound h t n → shared h n b ≤ t
within_shared Items n b t count l = le_ceil b n t count l
within_shared (Elements m) n b t count l = le_times (div_ceil m n) b t l

workers_out : (r : Span) (h : Sharing) (e : ℕ) (a : Costed) (t : ℕ) → IsSharing h → (ys : List ℕ) → Serves (Workers r h e a) t ys → (n : ℕ) × (xs : List ℕ) × (ys ≡ n ∷ xs) × IsIn r n × (e ≤ t) × Serves a (part_bound h t n) xs
unfolding IsLawfulRun run_service
workers_out r h e a t some [] s = absurd s.lawful
workers_out r h e a t some (n ∷ xs) s =
    let l = s.soon in
    (n, xs, refl, s.lawful.0, omega arith, record { lawful = s.lawful.1; soon = shared_within h n (run_service a xs) t some s.lawful.0.0 (omega arith) })

-- farms and maps are nodes with a count
pub workers_counted : (r : Span) (h : Sharing) (e : ℕ) (a : Costed) (t : ℕ) → IsSharing h → IsCounted (Workers r h e a) a r e t (part_bound h t)
unfolding IsLawfulRun run_service run_procs
workers_counted r h e a t some = record {
  into = λ n xs i l s. record { lawful = (i, s.lawful); soon = let q = within_shared h n (run_service a xs) t i.0 s.soon in omega (arith, q) };
  out = workers_out r h e a t some;
  cost = λ n xs. refl;
}

-- the least of a run of numbers
over_top : (v : ℕ → ℕ) (low k cap : ℕ) → least_over v low k cap ≤ cap + 1
unfolding least_over
over_top v low zero cap = omega arith
over_top v low (suc k) cap = let p = over_top v low k cap in omega (arith, p)

over_below : (v : ℕ → ℕ) (low k cap n : ℕ) → low ≤ n → n < low + k → least_over v low k cap ≤ v n
unfolding least_over
over_below v low zero cap n h l = absurd (omega arith)
over_below v low (suc k) cap n h l =
    elim (cases_lt n (low + k)) [
      | inl lt ↦ let p = over_below v low k cap n h lt in omega (arith, p)
      | inr ge ↦ let e : low + k ≡ n = omega arith in subst (λ z. min (least_over v low k cap) (v (low + k)) ≤ v z) e (omega arith)
    ]

over_reached : (v : ℕ → ℕ) (low k cap : ℕ) → least_over v low k cap ≤ cap → (n : ℕ) × (low ≤ n) × (n < low + k) × (least_over v low k cap ≡ v n)
unfolding least_over
over_reached v low zero cap h = absurd (omega arith)
over_reached v low (suc k) cap h =
    elim (cases_lt (v (low + k)) (least_over v low k cap)) [
      | inl lt ↦ (low + k, omega arith, omega arith, omega arith)
      | inr ge ↦ let p = over_reached v low k cap (omega arith) in (p.0, p.1, omega (arith, p.2), omega (arith, p.3))
    ]

pub leaf_least : (s t cap : ℕ) → s ≤ t → IsLeast (Leaf s) t cap (capped cap 1)
unfolding run_procs run_service IsLawfulRun
leaf_least s t cap h = record {
  top = omega arith;
  below = λ xs w few. omega arith;
  reached = λ l. ([], record { lawful = refl; soon = h }, omega arith);
}

-- nothing serves in time
pub none_least : (a : Costed) (t cap : ℕ) → ((xs : List ℕ) → Serves a t xs → run_procs a xs ≤ cap → ⊥) → IsLeast a t cap (cap + 1)
none_least a t cap never = record {
  top = omega arith;
  below = λ xs w few. absurd (never xs w few);
  reached = λ l. absurd (omega arith);
}

counted_below : (w a : Costed) (r : Span) (e t cap : ℕ) (bound u : ℕ → ℕ) (low k : ℕ) → HasProcess a → IsCounted w a r e t bound
    → ((n : ℕ) → low ≤ n → n < low + k → IsIn r n × (n + 2 ≤ cap) × IsLeast a (bound n) ((cap - 2) / n) (u n))
    → ((n : ℕ) → IsIn r n → n + 2 ≤ cap → (low ≤ n) × (n < low + k))
    → (ys : List ℕ) → Serves w t ys → run_procs w ys ≤ cap → least_over (λ n. 2 + n * u n) low k cap ≤ run_procs w ys
counted_below w a r e t cap bound u low k has c inner all ys s few =
    let o = c.out ys s in
    let n = o.0 in
    let xs = o.1 in
    let cost : run_procs w ys ≡ 2 + n * run_procs a xs = ap (run_procs w) o.2 ∙ c.cost n xs in
    let p = some_process a xs has o.5.lawful in
    let q = mul-le-mul_left n p in
    let room : n + 2 ≤ cap = omega arith in
    let i = all n o.3 room in
    let best = (inner n i.0 i.1).2 in
    let part : run_procs a xs ≤ (cap - 2) / n = le-div (run_procs a xs) (cap - 2) n o.3.0 (omega arith) in
    let here = mul-le-mul_left n (best.below xs o.5 part) in
    let over = over_below (λ z. 2 + z * u z) low k cap n i.0 i.1 in
    omega (arith, over, here, cost)

counted_reached : (w a : Costed) (r : Span) (e t cap : ℕ) (bound u : ℕ → ℕ) (low k : ℕ) → IsCounted w a r e t bound → e ≤ t
    → ((n : ℕ) → low ≤ n → n < low + k → IsIn r n × (n + 2 ≤ cap) × IsLeast a (bound n) ((cap - 2) / n) (u n))
    → least_over (λ n. 2 + n * u n) low k cap ≤ cap
    → (xs : List ℕ) × Serves w t xs × (run_procs w xs ≡ least_over (λ n. 2 + n * u n) low k cap)
counted_reached w a r e t cap bound u low k c h inner l =
    let o = over_reached (λ n. 2 + n * u n) low k cap l in
    let n = o.0 in
    let at = inner n o.1 o.2 in
    let part : u n ≤ (cap - 2) / n = le-div (u n) (cap - 2) n at.0.0 (omega (arith, o.3)) in
    let best = at.2.reached part in
    (n ∷ best.0, c.into n best.0 at.0 h best.1, c.cost n best.0 ∙ (ap (λ z. 2 + n * z) best.2 ∙ sym o.3))

-- the rule of a farm and of a map: the numbers from low on, as many as k, are all lawful ones that may fit
pub counted_least : (w a : Costed) (r : Span) (e t cap : ℕ) (bound u : ℕ → ℕ) (low k : ℕ) → HasProcess a → IsCounted w a r e t bound → e ≤ t
    → ((n : ℕ) → low ≤ n → n < low + k → IsIn r n × (n + 2 ≤ cap) × IsLeast a (bound n) ((cap - 2) / n) (u n))
    → ((n : ℕ) → IsIn r n → n + 2 ≤ cap → (low ≤ n) × (n < low + k))
    → IsLeast w t cap (least_over (λ n. 2 + n * u n) low k cap)
counted_least w a r e t cap bound u low k has c h inner all = record {
  top = over_top (λ n. 2 + n * u n) low k cap;
  below = λ ys s few. counted_below w a r e t cap bound u low k has c inner all ys s few;
  reached = λ l. counted_reached w a r e t cap bound u low k c h inner l;
}

module _ (a b : Costed) (xs ys : List ℕ) (front : IsLawfulRun a xs) where
  taken : take (size a) (xs ++ ys) ≡ xs
  taken = subst (λ z. take z (xs ++ ys) ≡ xs) (lawful_length a xs front) (take-append_seam xs ys)

  dropped : drop (size a) (xs ++ ys) ≡ ys
  dropped = subst (λ z. drop z (xs ++ ys) ≡ ys) (lawful_length a xs front) (drop-append_seam xs ys)

  -- the counts of two parts, joined
  pub joined_lawful : IsLawfulRun b ys → IsLawfulRun (Both a b) (xs ++ ys)
  unfolding IsLawfulRun
  joined_lawful back = (subst (IsLawfulRun a) (sym taken) front, subst (IsLawfulRun b) (sym dropped) back)

  pub joined_run_procs : run_procs (Both a b) (xs ++ ys) ≡ run_procs a xs + run_procs b ys
  unfolding run_procs
  joined_run_procs = ap₂ (λ x y. run_procs a x + run_procs b y) taken dropped

  pub joined_service : run_service (Both a b) (xs ++ ys) ≡ max (run_service a xs) (run_service b ys)
  unfolding run_service
  joined_service = ap₂ (λ x y. max (run_service a x) (run_service b y)) taken dropped

pub joined : (a b : Costed) (t : ℕ) (xs ys : List ℕ) → Serves a t xs → Serves b t ys → Serves (Both a b) t (xs ++ ys)
joined a b t xs ys p q = record {
  lawful = joined_lawful a b xs ys p.lawful q.lawful;
  soon = let x = p.soon in let y = q.soon in omega (arith, joined_service a b xs ys p.lawful);
}

pub separated : (a b : Costed) (t : ℕ) (zs : List ℕ) → Serves (Both a b) t zs → Serves a t (take (size a) zs) × Serves b t (drop (size a) zs)
unfolding IsLawfulRun run_service
separated a b t zs s = let l = s.soon in (record { lawful = s.lawful.0; soon = omega arith }, record { lawful = s.lawful.1; soon = omega arith })

both_reached : (a b : Costed) (t cap u v : ℕ) → IsLeast a t cap u → IsLeast b t cap v → capped cap (u + v) ≤ cap → (xs : List ℕ) × Serves (Both a b) t xs × (run_procs (Both a b) xs ≡ capped cap (u + v))
both_reached a b t cap u v p q l =
    let x = p.reached (omega arith) in
    let y = q.reached (omega arith) in
    (x.0 ++ y.0, joined a b t x.0 y.0 x.1 y.1, joined_run_procs a b x.0 y.0 x.1.lawful ∙ omega (arith, x.2, y.2))

both_below : (a b : Costed) (t cap u v : ℕ) → IsLeast a t cap u → IsLeast b t cap v → (xs : List ℕ) → Serves (Both a b) t xs → run_procs (Both a b) xs ≤ cap → capped cap (u + v) ≤ run_procs (Both a b) xs
unfolding run_procs
both_below a b t cap u v p q xs s few =
    let o = separated a b t xs s in
    let x = p.below (take (size a) xs) o.0 (omega arith) in
    let y = q.below (drop (size a) xs) o.1 (omega arith) in
    omega (arith, x, y)

pub both_least : (a b : Costed) (t cap u v : ℕ) → IsLeast a t cap u → IsLeast b t cap v → IsLeast (Both a b) t cap (capped cap (u + v))
both_least a b t cap u v p q = record {
  top = omega arith;
  below = λ xs s few. both_below a b t cap u v p q xs s few;
  reached = λ l. both_reached a b t cap u v p q l;
}

pub loop_least : (k e : ℕ) (a : Costed) (t cap u : ℕ) → 0 < k → e ≤ t → 3 ≤ cap → IsLeast a (t / k) (cap - 2) u → IsLeast (Loop k e a) t cap (2 + u)
unfolding IsLawfulRun run_service run_procs
loop_least k e a t cap u pos h room p = record {
  top = let q = p.top in omega (arith, q);
  below = λ xs s few.
      let l = s.soon in
      let q = p.below xs (record { lawful = s.lawful; soon = times_le k (run_service a xs) t pos (omega arith) }) (omega arith) in
      omega (arith, q);
  reached = λ l.
      let x = p.reached (omega arith) in
      (x.0, record { lawful = x.1.lawful; soon = let q = le_times k (run_service a x.0) t x.1.soon in omega (arith, q) }, ap (λ z. 2 + z) x.2);
}
