-- The processes and channels added by the loops that place the joins and the folds, step by step.
use Rattle.std.proofs.Common.{◌≡◌, ◌≢◌, ◌<◌, ◌≤◌, ◌+◌, ◌-◌, ◌/◌, replicate, length-append, append_assoc, append-nil, ◌*◌, ◌^◌, ℕ, zero, suc, List, [], ◌∷◌, ◌++◌, length, get_or, drop, drop-cons, ap, ap₂, ◌∙◌, refl, arith, inl, inr, lt-ltb, le-ltb}
use Rattle.std.proofs.Math.Nat.{pow-succ'}
use Rattle.std.proofs.lemmas.Bool.{cases_eq, cond-true, cond-false}
use Rattle.std.proofs.lemmas.List.{length-replicate, replicate-append-replicate}
use Rattle.std.proofs.lemmas.Nat.{pow_below, pow_pos}
use Rattle.p3l_firing.specs.declared.net.Net.{Net}
use Rattle.p3l_firing.specs.declared.process.Proc.{Proc}
use Rattle.p3l_firing.specs.Segments.{halved, segment_lengths, level_up_to}
use Rattle.p3l_reduce.specs.Reduce.{tee_by, join_at, fold_at, join_procs, fold_procs, tree_shape, reduce_shape}
use Rattle.p3l_template.specs.Run.{run_shape}
use Rattle.p3l_reduce.specs.laws.ReduceLaw.{tree_procs}
use Rattle.p3l_template.specs.Shape.{Base, empty_chan, added}

pub tee_low : (output from q : ℕ) → q < 2 → output ≡ tee_by output from q
unfolding tee_by
tee_low output from zero h = refl
tee_low output from (suc zero) h = refl
tee_low output from (suc (suc q)) h = absurd (omega arith)

pub joins_step : (node output from q m : ℕ) → q < m →
    join_procs node output from q (m - q)
    ≡ join_at node output from q ∷ join_procs node output from (q + 1) (m - (q + 1))
unfolding join_procs
joins_step node output from q m h =
    let e : m - q ≡ suc (m - (q + 1)) = omega arith in
    ap (join_procs node output from q) e
    ∙ ap (λ z. join_at node output from q ∷ join_procs node output from z (m - (q + 1))) (omega arith)

pub joins_end : (node output from q m : ℕ) → m ≤ q → join_procs node output from q (m - q) ≡ []
unfolding join_procs
joins_end node output from q m h = let e : m - q ≡ 0 = omega arith in ap (join_procs node output from q) e

pub folds_step : (node m output first from s : ℕ) (parts : List ℕ) (z : ℕ) → s < length parts →
    fold_procs node m output first from s (drop s parts)
    ≡ fold_at node m output first from s (get_or parts s z) ∷ fold_procs node m output first from (s + 1)
    (drop (s + 1) parts)
unfolding fold_procs
folds_step node m output first from s parts z h =
    ap (fold_procs node m output first from s) (drop-cons parts s z h)
    ∙ ap (λ k. fold_at node m output first from s (get_or parts s z) ∷ fold_procs node m output first from k
    (drop k parts)) {x = suc s} {y = s + 1} (omega arith)

none_left : (xs : List ℕ) (i : ℕ) → length xs ≤ i → drop i xs ≡ []
none_left [] zero h = refl
none_left [] (suc i) h = refl
none_left (x ∷ xs) zero h = absurd (omega arith)
none_left (x ∷ xs) (suc i) h = none_left xs i (omega arith)

pub folds_end : (node m output first from s : ℕ) (parts : List ℕ) → length parts ≤ s →
    fold_procs node m output first from s (drop s parts) ≡ []
unfolding fold_procs
folds_end node m output first from s parts h = ap (fold_procs node m output first from s) (none_left parts s h)

pub halved_step : (parts : List ℕ) (i z : ℕ) → i < length parts →
    halved (drop i parts)
    ≡ (get_or parts i z / 2) ∷ ((get_or parts i z - get_or parts i z / 2) ∷ halved (drop (i + 1) parts))
unfolding halved
halved_step parts i z h =
    ap halved (drop-cons parts i z h)
    ∙ ap (λ k. (get_or parts i z / 2) ∷
    ((get_or parts i z - get_or parts i z / 2) ∷ halved (drop k parts))) {x = suc i} {y = i + 1} (omega arith)

pub halved_end : (parts : List ℕ) (i : ℕ) → length parts ≤ i → halved (drop i parts) ≡ []
unfolding halved
halved_end parts i h = ap halved (none_left parts i h)

pub lengths_more : (level len : ℕ) → segment_lengths (level + 1) len ≡ halved (segment_lengths level len)
unfolding segment_lengths
lengths_more level len = ap (λ z. segment_lengths z len) {x = level + 1} {y = suc level} (omega arith)

pub level_none : (n : ℕ) → level_up_to 0 n ≡ 0
unfolding level_up_to
level_none n = refl

pub level_small : (most n : ℕ) → n < 2 → level_up_to most n ≡ 0
unfolding level_up_to
level_small zero n h = refl
level_small (suc most) n h = cond-true _ _ _ (lt-ltb _ _ h)

pub level_more : (most n : ℕ) → most ≢ 0 → 2 ≤ n → level_up_to most n ≡ 1 + level_up_to (most - 1) (n / 2)
unfolding level_up_to
level_more zero n k h = absurd (k refl)
level_more (suc most) n k h =
    cond-false _ _ _ (le-ltb n 2 h) ∙ ap (λ z. suc (level_up_to z (n / 2))) {x = most} {y = suc most - 1} (omega arith)
    ∙ omega arith

-- a power of two but 1 is 2 or more
pub power_wide : (level : ℕ) → 0 < level → 2 ≤ 2 ^ level
power_wide zero h = absurd (omega arith)
power_wide (suc level) h = let two : 2 ^ suc level ≡ 2 * 2 ^ level = pow-succ' 2 level in
    let some : 0 < 2 ^ level = pow_pos level in omega arith

pub power_small : (level : ℕ) → level ≤ 9 → 2 ^ level ≤ 512
power_small level l =
    elim (cases_eq level 9) [
      | inl e ↦ let p : 2 ^ level ≡ 2 ^ 9 = ap (λ z. 2 ^ z) e in let n : 2 ^ 9 ≡ 512 = refl in omega (arith, p, n)
      | inr e ↦ let p : 2 ^ level < 2 ^ 9 = pow_below level 9 (omega (arith, l, e)) in let n : 2 ^ 9 ≡ 512 = refl in omega (arith, p, n)
    ]

-- n channels more
pub more_chans : (b b' : Net) (n cap : ℕ) →
    b' ≡ record { procs = b.procs; chans = b.chans ++ replicate n (empty_chan cap) } → length b'.chans ≡ length b.chans + n
more_chans b b' n cap e =
    ap (λ z. length z.chans) e ∙ length-append b.chans (replicate n (empty_chan cap))
    ∙ ap (λ z. length b.chans + z) (length-replicate n (empty_chan cap))

pub more_procs : (b b' : Net) (qs : List Proc) → b' ≡ added b qs [] → length b'.procs ≡ length b.procs + length qs
more_procs b b' qs e = ap (λ z. length z.procs) e ∙ length-append b.procs qs

-- the five steps together add the tree's processes and channels
pub tree_built : (b b1 b2 b3 b4 b5 : Net) (k m cap : ℕ) (sp sp' : Proc) (js js' fs fs' : List Proc) → k ≡ m → sp ≡ sp' →
    js ≡ js' → fs ≡ fs' → b1 ≡ record { procs = b.procs; chans = b.chans ++ replicate k (empty_chan cap) } →
    b2 ≡ record { procs = b1.procs; chans = b1.chans ++ replicate (k + k - 2) (empty_chan cap) } →
    b3 ≡ record { procs = b2.procs ++ sp ∷ []; chans = b2.chans } → b4 ≡ added b3 js [] → b5 ≡ added b4 fs [] →
    b5 ≡ added b (sp' ∷ (js' ++ fs')) (replicate (m + (m + m - 2)) (empty_chan cap))
tree_built b b1 b2 b3 b4 b5 k m cap sp sp' js js' fs fs' ek es ej ef h1 h2 h3 h4 h5 =
    let procs : b5.procs ≡ b.procs ++ (sp ∷ (js ++ fs)) =
    ap (λ z. z.procs) h5 ∙ ap (λ z. z.procs ++ fs) h4 ∙ ap (λ z. (z.procs ++ js) ++ fs) h3
    ∙ ap (λ z. ((z.procs ++ sp ∷ []) ++ js) ++ fs) h2 ∙ ap (λ z. ((z.procs ++ sp ∷ []) ++ js) ++ fs) h1
    ∙ append_assoc (b.procs ++ sp ∷ []) js fs ∙ append_assoc b.procs (sp ∷ []) (js ++ fs) in
    let chans : b5.chans ≡ b.chans ++ replicate (k + (k + k - 2)) (empty_chan cap) =
    ap (λ z. z.chans) h5 ∙ append-nil b4.chans ∙ ap (λ z. z.chans) h4 ∙ append-nil b3.chans ∙ ap (λ z. z.chans) h3
    ∙ ap (λ z. z.chans) h2
    ∙ ap (λ z. z.chans ++ replicate (k + k - 2) (empty_chan cap)) h1 ∙ append_assoc b.chans _ _
    ∙ ap (λ z. b.chans ++ z) (replicate-append-replicate k (k + k - 2) (empty_chan cap)) in
    ap₂ (λ x y. record { procs = x; chans = y })
    (procs ∙ ap₂ (λ x y. b.procs ++ (x ∷ y)) es (ap₂ (λ x y. x ++ y) ej ef))
    (chans ∙ ap (λ z. b.chans ++ replicate (z + (z + z - 2)) (empty_chan cap)) ek)

-- the shape of a level
pub shape_one : (node len level : ℕ) → level ≡ 0 → reduce_shape node len level ≡ run_shape node
unfolding reduce_shape
shape_one node len level e = ap (reduce_shape node len) e

pub shape_tree : (node len level : ℕ) → level ≢ 0 →
    reduce_shape node len level ≡ tree_shape node (2 ^ level) (level - 1) len
unfolding reduce_shape
shape_tree node len zero h = absurd (h refl)
shape_tree node len (suc d) h = ap (λ z. tree_shape node (2 ^ suc d) z len) {x = d} {y = suc d - 1} (omega arith)

-- the numbers of processes and channels at a level
pub one_proc : (node len level : ℕ) → level ≡ 0 → (base : Base) → length ((reduce_shape node len level).procs base) ≡ 1
one_proc node len level e base = ap (λ shape. length (shape.procs base)) (shape_one node len level e)

pub no_chans : (node len level : ℕ) → level ≡ 0 → (base : Base) → (reduce_shape node len level).chans base ≡ 0
no_chans node len level e base = ap (λ shape. shape.chans base) (shape_one node len level e)

pub many_procs : (node len level : ℕ) → level ≢ 0 → (base : Base) →
    length ((reduce_shape node len level).procs base) ≡ 2 ^ level + 2 ^ level
many_procs node len level h base =
    let more : level ≡ suc (level - 1) = omega (arith, h) in
    ap (λ shape. length (shape.procs base)) (shape_tree node len level h)
    ∙ tree_procs node (2 ^ level) (level - 1) len (ap (λ z. 2 ^ z) more) base

pub many_chans : (node len level : ℕ) → level ≢ 0 → (base : Base) →
    (reduce_shape node len level).chans base ≡ 2 ^ level + (2 ^ level + 2 ^ level - 2)
many_chans node len level h base = ap (λ shape. shape.chans base) (shape_tree node len level h)

-- it has no inner parts
pub no_slots : (node len level : ℕ) (base : Base) → (reduce_shape node len level).slots base ≡ []
unfolding reduce_shape
no_slots node len zero base = refl
no_slots node len (suc d) base = refl
