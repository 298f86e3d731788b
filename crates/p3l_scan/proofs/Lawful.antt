-- The tree of a plan is lawful, and so are its numbers of blocks.
use Rattle.std.proofs.Common.{◌≡◌, ℕ, zero, suc, ◌+◌, ◌-◌, ◌*◌, ◌^◌, ◌<◌, ◌≤◌, inl, inr, true, false, List, [], ◌∷◌, ◌++◌, length, refl, arith, ap, ap₂, sym, ◌∙◌, subst}
use Rattle.std.specs.Prelude.{IsSomeAnd, slice_get, sum_by, ◌==◌}
use Rattle.std.specs.List.{All, AllByRecursion, flat_map}
use Rattle.std.proofs.Math.Nat.{pow-succ', suc-mul}
use Rattle.std.proofs.lemmas.Bool.Decides.{nat_tests}
use Rattle.std.proofs.lemmas.List.Sums.{sum_by-cons}
use Rattle.std.proofs.lemmas.List.Elements.{All-cons, All-nil, All-from_get_or, All-from_recursion}
use Rattle.p3l_base.specs.declared.slice.Dim.{Dim}
use Rattle.p3l_base.specs.declared.slice.Place.TheVariants.{First, Rest}
use Rattle.p3l_base.specs.Cut.{IsLawfulCut}
use Rattle.p3l_skel.specs.declared.tree.ModuleInfo.{ModuleInfo}
use Rattle.p3l_skel.specs.declared.tree.ModuleKind.TheVariants as kind
use Rattle.p3l_skel.specs.declared.tree.Node.{Node}
use Rattle.p3l_skel.specs.declared.tree.Tree.{Tree}
use Rattle.p3l_skel.specs.Counts.{HasLawfulCounts, IsLawfulCount, TakesLawful, count_in, count_of, counted, counted_from, own_counted, outside_parts}
use Rattle.p3l_skel.specs.Lawful.{AgreesWith, AgreesWithAll, AreSubtrees, HasLawfulRescue, HasSizes, IsChain, IsLawfulNode, IsLawfulTree, IsSize, IsSubtree}
use Rattle.p3l_skel.specs.Numbers.{firings_by, firings_row, flat_firings, joined_firings, most_firings, procs, procs_by, procs_row, runs, runs_row, runs_to, segments_at}
use Rattle.p3l_skel.specs.Tree.{nesting, no_node, node_at}
use Rattle.p3l_skel.proofs.Below.{counted_from-step, firings_by-step, procs_by-step, runs_to-step}
use Rattle.p3l_scan.specs.Plan.{blocks_cut, blocks_slice, counts_of, infos_of, main_info, numbers_of, plan_tree, root_of, stage_node, stage_of, step_node, step_of}
use Rattle.p3l_scan.specs.laws.Nodes.{node-cases, nodes-length, root_is, stage_is, step_is}
use Rattle.p3l_scan.specs.laws.Powers.{power_pos, whole_words}
use Rattle.p3l_scan.proofs.Blocks.{lawful_cut}

times-one : (a b : ℕ) → 1 ≤ a → b ≤ a * b
times-one (suc a) b l = omega (arith, suc-mul a b)
times-one zero b l = absurd (omega arith)

pub times-some : (a b : ℕ) → 1 ≤ a → 1 ≤ b → 1 ≤ a * b
times-some a b l h = let e = times-one a b l in omega (arith, e, h)

power-small : (n d : ℕ) → n ≤ d → d ≤ 9 → 2 ^ n ≤ 512
power-small zero d l h = omega arith
power-small (suc zero) d l h = omega arith
power-small (suc (suc zero)) d l h = omega arith
power-small (suc (suc (suc zero))) d l h = omega arith
power-small (suc (suc (suc (suc zero)))) d l h = omega arith
power-small (suc (suc (suc (suc (suc zero))))) d l h = omega arith
power-small (suc (suc (suc (suc (suc (suc zero)))))) d l h = omega arith
power-small (suc (suc (suc (suc (suc (suc (suc zero))))))) d l h = omega arith
power-small (suc (suc (suc (suc (suc (suc (suc (suc zero)))))))) d l h = omega arith
power-small (suc (suc (suc (suc (suc (suc (suc (suc (suc zero))))))))) d l h = omega arith
power-small (suc (suc (suc (suc (suc (suc (suc (suc (suc (suc n)))))))))) d l h = absurd (omega (arith, l, h))

infos-length : (more : ℕ) → length (infos_of more) ≡ suc (suc (more + more))
unfolding infos_of
infos-length zero = refl
infos-length (suc more) = let h = infos-length more in omega (arith, h)

infos-rescues : (more : ℕ) → AllByRecursion HasLawfulRescue (infos_of more)
unfolding infos_of
infos-rescues zero = (tt, (tt, tt))
infos-rescues (suc more) = (tt, (tt, infos-rescues more))

stage-kind : (more j : ℕ) → j ≤ more → IsSomeAnd (slice_get (infos_of more) (j + j)) (λ (m : ModuleInfo). m.kind ≡ kind.Map)
unfolding infos_of
stage-kind zero zero l = refl
stage-kind zero (suc j) l = absurd (omega arith)
stage-kind (suc more) zero l = refl
stage-kind (suc more) (suc j) l =
    let e : suc (suc (j + j)) ≡ suc j + suc j = omega arith in
    subst (λ k. IsSomeAnd (slice_get (infos_of (suc more)) k) (λ (m : ModuleInfo). m.kind ≡ kind.Map)) e
    (stage-kind more j (omega (arith, l)))

step-kind : (more j : ℕ) → j ≤ more → IsSomeAnd (slice_get (infos_of more) (suc (j + j))) (λ (m : ModuleInfo). m.kind ≡ kind.Seq)
unfolding infos_of
step-kind zero zero l = refl
step-kind zero (suc j) l = absurd (omega arith)
step-kind (suc more) zero l = refl
step-kind (suc more) (suc j) l =
    let e : suc (suc (suc (j + j))) ≡ suc (suc j + suc j) = omega arith in
    subst (λ k. IsSomeAnd (slice_get (infos_of (suc more)) k) (λ (m : ModuleInfo). m.kind ≡ kind.Seq)) e
    (step-kind more j (omega (arith, l)))

modules-length : (d w : ℕ) → length (plan_tree d w).modules ≡ suc (suc (suc (d + d)))
unfolding plan_tree
modules-length d w = ap suc (infos-length d)

modules-lawful : (d w : ℕ) → All HasLawfulRescue (plan_tree d w).modules
unfolding plan_tree
modules-lawful d w = All-from_recursion HasLawfulRescue (main_info ∷ infos_of d) (tt, infos-rescues d)

module _ (d w : ℕ) (few : d ≤ 9) (some : 1 ≤ w) (small : 2 ^ d * w ≤ 65536) where
  abbrev tree : Tree
  tree = plan_tree d w

  abbrev many : ℕ
  many = suc (suc (suc (d + d)))

  stage-there : (s : ℕ) → s ≤ d → stage_node s < length (plan_tree d w).nodes
  stage-there s l = omega (arith, nodes-length d w, l)

  step-there : (s : ℕ) → s ≤ d → step_node s < length (plan_tree d w).nodes
  step-there s l = omega (arith, nodes-length d w, l)

  -- the bounds of the number of blocks, and of the words of each
  blocks-small : (s : ℕ) → s ≤ d → 2 ^ (d - s) ≤ 512
  blocks-small s l = power-small (d - s) d (omega arith) few

  block-some : (s : ℕ) → 1 ≤ 2 ^ s * w
  block-some s = times-some (2 ^ s) w (power_pos s) some

  block-small : (s : ℕ) → s ≤ d → 2 ^ s * w ≤ 65536
  block-small s l =
      let e = times-one (2 ^ (d - s)) (2 ^ s * w) (power_pos (d - s)) in omega (arith, e, whole_words d s w l, small)

  total-size : IsSize (2 ^ d * w)
  total-size = (times-some (2 ^ d) w (power_pos d) some, small)

  stage-size : (s : ℕ) → s ≤ d → IsSize (2 ^ (d - s) * (2 ^ s * w))
  stage-size s l = subst IsSize (sym (whole_words d s w l)) total-size

  -- ORDER

  step-subtree : (e s : ℕ) → s ≤ d → IsSubtree (suc e) (plan_tree d w) (step_node s) (step_node s + 1)
  unfolding IsSubtree
  step-subtree e s l = (
    step-there s l,
    subst (λ (n : Node). AreSubtrees (IsSubtree e (plan_tree d w)) n.parts (step_node s + 1) (step_node s + 1))
        (sym (step_is d w s l)) refl,
  )

  stage-subtree : (e s : ℕ) → s ≤ d → IsSubtree (suc (suc e)) (plan_tree d w) (stage_node s) (step_node s + 1)
  unfolding IsSubtree
  stage-subtree e s l = (
    stage-there s l,
    subst (λ (n : Node). AreSubtrees (IsSubtree (suc e) (plan_tree d w)) n.parts (stage_node s + 1) (step_node s + 1))
        (sym (stage_is d w s l)) (omega arith, (step_node s + 1, step-subtree e s l, refl)),
  )

  subtrees : (more s : ℕ) → s + more ≡ d →
      AreSubtrees (IsSubtree 5 (plan_tree d w)) (numbers_of s more) (stage_node s) (suc (suc (suc (d + d))))
  unfolding numbers_of
  subtrees zero s e = (refl, (step_node s + 1, stage-subtree 3 s (omega (arith, e)), omega (arith, e)))
  subtrees (suc more) s e =
      let next : stage_node (suc s) ≡ step_node s + 1 = omega arith in (
        refl,
        (
          step_node s + 1,
          stage-subtree 3 s (omega (arith, e)),
          subst (λ k. AreSubtrees (IsSubtree 5 (plan_tree d w)) (numbers_of (suc s) more) k (suc (suc (suc (d + d))))) next
              (subtrees more (suc s) (omega (arith, e))),
        ),
      )

  preorder : IsSubtree nesting (plan_tree d w) 0 (length (plan_tree d w).nodes)
  unfolding IsSubtree
  preorder =
      subst (λ n. IsSubtree nesting (plan_tree d w) 0 n) (sym (nodes-length d w)) (
        omega (arith, nodes-length d w),
        subst (λ (n : Node). AreSubtrees (IsSubtree 5 (plan_tree d w)) n.parts (0 + 1) (suc (suc (suc (d + d))))) (sym (root_is d w))
            (subtrees d 0 (omega arith)),
      )

  -- NODES

  pub chain : (more s : ℕ) → s + more ≡ d → IsChain (plan_tree d w) (2 ^ d * w) (2 ^ d * w) (numbers_of s more)
  unfolding numbers_of
  chain zero s e =
      let is = stage_is d w s (omega (arith, e)) in
      let whole = whole_words d s w (omega (arith, e)) in
      (stage-there s (omega (arith, e)), ap (λ (n : Node). n.ins) is ∙ whole, ap (λ (n : Node). n.outs) is ∙ whole)
  chain (suc more) s e =
      let is = stage_is d w s (omega (arith, e)) in
      let whole = whole_words d s w (omega (arith, e)) in (
        stage-there s (omega (arith, e)),
        ap (λ (n : Node). n.ins) is ∙ whole,
        subst (λ z. IsChain (plan_tree d w) z (2 ^ d * w) (numbers_of (suc s) more)) (sym (ap (λ (n : Node). n.outs) is ∙ whole))
            (chain more (suc s) (omega (arith, e))),
      )

  some-numbers : (s more : ℕ) → 1 ≤ length (numbers_of s more)
  unfolding numbers_of
  some-numbers s zero = omega arith
  some-numbers s (suc more) = omega arith

  root-lawful : IsLawfulNode (plan_tree d w) (root_of d w)
  unfolding plan_tree
  root-lawful = record {
    kind = refl;
    ins = total-size;
    outs = total-size;
    workers = tt;
    form = (some-numbers 0 d, chain d 0 (omega arith));
  }

  sizes : (s : ℕ) → s ≤ d → HasSizes (blocks_slice (2 ^ (d - s)) (2 ^ s * w))
  sizes s l =
      let n : IsSize (2 ^ (d - s)) = (power_pos (d - s), omega (arith, blocks-small s l)) in
      let b : IsSize (2 ^ s * w) = (block-some s, block-small s l) in (
        omega arith,
        All-cons (λ (x : Dim). IsSize x.size) (record { size = 2 ^ (d - s); place = First })
            (record { size = 2 ^ s * w; place = Rest } ∷ []) n
            (All-cons (λ (x : Dim). IsSize x.size) (record { size = 2 ^ s * w; place = Rest }) [] b (All-nil (λ (x : Dim). IsSize x.size))),
      )

  stage-lawful : (s : ℕ) → s ≤ d → IsLawfulNode (plan_tree d w) (stage_of s (2 ^ (d - s)) (2 ^ s * w))
  unfolding plan_tree
  stage-lawful s l =
      let one = All-cons HasSizes (blocks_slice (2 ^ (d - s)) (2 ^ s * w)) [] (sizes s l) (All-nil HasSizes) in
      let n : ℕ = 2 ^ (d - s) in
      let b : ℕ = 2 ^ s * w in
      record {
        kind = stage-kind d s l;
        ins = stage-size s l;
        outs = stage-size s l;
        workers = tt;
        form = record {
          in_tree = step-there s l;
          in_sizes = one;
          out_sizes = one;
          cuts = subst (λ (x : Node). IsLawfulCut (blocks_cut n b) (n * b) (n * b) x.ins x.outs) (sym (step_is d w s l))
              (lawful_cut n b (power_pos (d - s)));
        };
      }

  step-lawful : (s : ℕ) → s ≤ d → IsLawfulNode (plan_tree d w) (step_of s (2 ^ s * w))
  unfolding plan_tree
  step-lawful s l = record {
    kind = step-kind d s l;
    ins = (block-some s, block-small s l);
    outs = (block-some s, block-small s l);
    workers = tt;
    form = refl;
  }

  node-lawful : (k : ℕ) → k < length (plan_tree d w).nodes → IsLawfulNode (plan_tree d w) (node_at (plan_tree d w) k)
  node-lawful k l = elim (node-cases d k (subst (λ n. k < n) (nodes-length d w) l)) [
    | inl e ↦ subst (IsLawfulNode (plan_tree d w)) (sym (ap (node_at (plan_tree d w)) e ∙ root_is d w)) root-lawful
    | inr more ↦ elim more [
      | inl (s, h, e) ↦
          subst (IsLawfulNode (plan_tree d w)) (sym (ap (node_at (plan_tree d w)) e ∙ stage_is d w s h)) (stage-lawful s h)
      | inr (s, h, e) ↦
          subst (IsLawfulNode (plan_tree d w)) (sym (ap (node_at (plan_tree d w)) e ∙ step_is d w s h)) (step-lawful s h)
    ]
  ]

  module-is : (k : ℕ) → k < length (plan_tree d w).nodes → (node_at (plan_tree d w) k).module ≡ k
  module-is k l = elim (node-cases d k (subst (λ n. k < n) (nodes-length d w) l)) [
    | inl e ↦ ap (λ (n : Node). n.module) (ap (node_at (plan_tree d w)) e ∙ root_is d w) ∙ sym e
    | inr more ↦ elim more [
      | inl (s, h, e) ↦ ap (λ (n : Node). n.module) (ap (node_at (plan_tree d w)) e ∙ stage_is d w s h) ∙ sym e
      | inr (s, h, e) ↦ ap (λ (n : Node). n.module) (ap (node_at (plan_tree d w)) e ∙ step_is d w s h) ∙ sym e
    ]
  ]

  same-node : (n m : Node) → n ≡ m → AgreesWith n m
  same-node n m e = record { form = ap (λ (x : Node). x.form) e; ins = ap (λ (x : Node). x.ins) e; outs = ap (λ (x : Node). x.outs) e }

  agree : All (AgreesWithAll (plan_tree d w).nodes) (plan_tree d w).nodes
  agree =
      All-from_get_or (AgreesWithAll (plan_tree d w).nodes) (plan_tree d w).nodes no_node
      (λ i l. All-from_get_or (λ (other : Node). (node_at (plan_tree d w) i).module ≡ other.module
      → AgreesWith (node_at (plan_tree d w) i) other) (plan_tree d w).nodes no_node
      (λ j h same.
      same-node (node_at (plan_tree d w) i) (node_at (plan_tree d w) j)
      (ap (node_at (plan_tree d w)) (sym (module-is i l) ∙ same ∙ module-is j h))))

  -- WORK

  sum-bound : (f : ℕ → ℕ) (c more s : ℕ) → s + more ≡ d → ((t : ℕ) → t ≤ d → f (stage_node t) ≤ c) →
      sum_by f (numbers_of s more) ≤ suc more * c
  unfolding numbers_of
  sum-bound f c zero s e each = let h = each s (omega (arith, e)) in omega (arith, h)
  sum-bound f c (suc more) s e each =
      let h = each s (omega (arith, e)) in
      let r = sum-bound f c more (suc s) (omega (arith, e)) each in
      omega (arith, h, r, suc-mul (suc more) c, sum_by-cons f (stage_node s) (numbers_of (suc s) more))

  step-firings : (r : ℕ → ℕ) (e s : ℕ) → s ≤ d → firings_by r (plan_tree d w) (segments_at (plan_tree d w)) (suc e) (step_node s) ≡ 1
  step-firings r e s l =
      firings_by-step r (plan_tree d w) (segments_at (plan_tree d w)) (suc e) (step_node s) (omega arith)
      ∙ ap (λ (n : Node). firings_row r n.form (segments_at (plan_tree d w) (step_node s))
      (sum_by (firings_by r (plan_tree d w) (segments_at (plan_tree d w)) (suc e - 1)) (outside_parts n.form n.parts))) (step_is d w s l)

  stage-firings : (r : ℕ → ℕ) (s : ℕ) → s ≤ d →
      firings_by r (plan_tree d w) (segments_at (plan_tree d w)) 5 (stage_node s) ≤ 1538
  stage-firings r s l =
      let n : ℕ = 2 ^ (d - s) in
      let is = firings_by-step r (plan_tree d w) (segments_at (plan_tree d w)) 5 (stage_node s) (omega arith)
      ∙ ap (λ (x : Node). firings_row r x.form (segments_at (plan_tree d w) (stage_node s))
      (sum_by (firings_by r (plan_tree d w) (segments_at (plan_tree d w)) 4) (outside_parts x.form x.parts))) (stage_is d w s l)
      ∙ ap (λ i. 2 + 2 * (n * 1) + n * 1 * (0 + i)) (step-firings r 3 s l) in
      let k = blocks-small s l in omega (arith, is, k)

  root-firings : (r : ℕ → ℕ) → most_firings r (plan_tree d w) ≤ 134217728
  root-firings r =
      let is = firings_by-step r (plan_tree d w) (segments_at (plan_tree d w)) 6 0 (omega arith)
      ∙ ap (λ (x : Node). firings_row r x.form (segments_at (plan_tree d w) 0)
      (sum_by (firings_by r (plan_tree d w) (segments_at (plan_tree d w)) 5) (outside_parts x.form x.parts))) (root_is d w) in
      let b = sum-bound (firings_by r (plan_tree d w) (segments_at (plan_tree d w)) 5) 1538 d 0 (omega arith) (stage-firings r) in
      omega (arith, is, b, few)

  step-runs : (e s : ℕ) → s ≤ d → runs_to (plan_tree d w) (suc e) (step_node s) ≡ 1
  step-runs e s l =
      runs_to-step (plan_tree d w) (suc e) (step_node s) (omega arith)
      ∙ ap (λ (n : Node). runs_row n.form (sum_by (runs_to (plan_tree d w) (suc e - 1)) n.parts)) (step_is d w s l)

  stage-runs : (s : ℕ) → s ≤ d → runs_to (plan_tree d w) 5 (stage_node s) ≤ 512
  stage-runs s l =
      let is = runs_to-step (plan_tree d w) 5 (stage_node s) (omega arith)
      ∙ ap (λ (x : Node). runs_row x.form (sum_by (runs_to (plan_tree d w) 4) x.parts)) (stage_is d w s l)
      ∙ ap (λ i. 2 ^ (d - s) * 1 * (0 + i)) (step-runs 3 s l) in
      let k = blocks-small s l in omega (arith, is, k)

  root-runs : runs (plan_tree d w) 0 ≤ 134217728
  root-runs =
      let is = runs_to-step (plan_tree d w) 6 0 (omega arith)
      ∙ ap (λ (x : Node). runs_row x.form (sum_by (runs_to (plan_tree d w) 5) x.parts)) (root_is d w) in
      let b = sum-bound (runs_to (plan_tree d w) 5) 512 d 0 (omega arith) stage-runs in
      omega (arith, is, b, few)

  pub plan_lawful : IsLawfulTree (plan_tree d w)
  plan_lawful = record {
    few_modules = omega (arith, modules-length d w, few);
    rescues = modules-lawful d w;
    few_nodes = omega (arith, nodes-length d w, few);
    preorder = preorder;
    nodes = All-from_get_or (IsLawfulNode (plan_tree d w)) (plan_tree d w).nodes no_node node-lawful;
    agree = agree;
    light = record { flat = root-firings flat_firings; joined = root-firings joined_firings; bodies = root-runs };
  }

  -- COUNTS

  flat-numbers : (g : ℕ → List ℕ) (more s : ℕ) → s + more ≡ d → ((t : ℕ) → t ≤ d → g (stage_node t) ≡ stage_node t ∷ []) →
      flat_map g (numbers_of s more) ≡ numbers_of s more
  unfolding numbers_of
  flat-numbers g zero s e each = ap (λ xs. xs ++ []) (each s (omega (arith, e)))
  flat-numbers g (suc more) s e each =
      ap₂ (λ xs ys. xs ++ ys) (each s (omega (arith, e))) (flat-numbers g more (suc s) (omega (arith, e)) each)

  step-counted : (e s : ℕ) → s ≤ d → counted_from (plan_tree d w) (suc e) (step_node s) ≡ []
  step-counted e s l =
      counted_from-step (plan_tree d w) (suc e) (step_node s) (omega arith)
      ∙ ap (λ (n : Node). own_counted n.form (step_node s)
      ++ flat_map (counted_from (plan_tree d w) (suc e - 1)) (outside_parts n.form n.parts)) (step_is d w s l)

  stage-counted : (s : ℕ) → s ≤ d → counted_from (plan_tree d w) 5 (stage_node s) ≡ stage_node s ∷ []
  stage-counted s l =
      counted_from-step (plan_tree d w) 5 (stage_node s) (omega arith)
      ∙ ap (λ (n : Node). own_counted n.form (stage_node s)
      ++ flat_map (counted_from (plan_tree d w) 4) (outside_parts n.form n.parts)) (stage_is d w s l)
      ∙ ap (λ xs. stage_node s ∷ (xs ++ [])) (step-counted 3 s l)

  pub counted_are : counted (plan_tree d w) ≡ numbers_of 0 d
  counted_are =
      counted_from-step (plan_tree d w) 6 0 (omega arith)
      ∙ ap (λ (n : Node). own_counted n.form 0 ++ flat_map (counted_from (plan_tree d w) 5) (outside_parts n.form n.parts)) (root_is d w)
      ∙ flat-numbers (counted_from (plan_tree d w) 5) d 0 (omega arith) stage-counted

  pub lawful-count : (s k : ℕ) → s ≤ d → d - s ≡ k → IsLawfulCount (node_at (plan_tree d w) (stage_node s)).form (2 ^ k)
  lawful-count s k l e =
      let small-count : 2 ^ k ≤ 512 = subst (λ j. 2 ^ j ≤ 512) e (blocks-small s l) in
      let within : 2 ^ k ≤ 2 ^ (d - s) * 1 = omega (arith, ap (λ j. 2 ^ j) e) in
      subst (λ (n : Node). IsLawfulCount n.form (2 ^ k)) (sym (stage_is d w s l)) (tt, (power_pos k, within, small-count))

  takes : (more s : ℕ) → s + more ≡ d → TakesLawful (plan_tree d w) (numbers_of s more) (counts_of more) []
  unfolding numbers_of counts_of
  takes zero s e =
      let left : d - s ≡ 0 = omega (arith, e) in
      (lawful-count s 0 (omega (arith, e)) left, refl)
  takes (suc more) s e =
      let left : d - s ≡ suc more = omega (arith, e) in
      (lawful-count s (suc more) (omega (arith, e)) left, takes more (suc s) (omega (arith, e)))

  pub counts_lawful : HasLawfulCounts (plan_tree d w) (counts_of d)
  counts_lawful = subst (λ ks. TakesLawful (plan_tree d w) ks (counts_of d) []) (sym counted_are) (takes d 0 (omega arith))

  -- PROCESSES

  count-is : (more s j : ℕ) → j ≤ more → count_in (numbers_of s more) (counts_of more) (stage_node (s + j)) ≡ 2 ^ (more - j)
  unfolding numbers_of counts_of
  count-is zero s zero l =
      let same : s + 0 ≡ s = omega arith in
      let test : (stage_node s == stage_node (s + 0)) ≡ true = search (arith, nat_tests) in rw test refl
  count-is zero s (suc j) l = absurd (omega arith)
  count-is (suc more) s zero l =
      let same : s + 0 ≡ s = omega arith in
      let whole : suc more ≡ suc more - 0 = omega arith in
      let test : (stage_node s == stage_node (s + 0)) ≡ true = search (arith, nat_tests) in rw test (ap (λ k. 2 ^ k) whole)
  count-is (suc more) s (suc j) l =
      let next : suc s + j ≡ s + suc j = omega arith in
      let less : more - j ≡ suc more - suc j = omega arith in
      let test : (stage_node s == stage_node (s + suc j)) ≡ false = search (arith, nat_tests) in
      rw test (ap (λ k. count_in (numbers_of (suc s) more) (counts_of more) (stage_node k)) (sym next)
      ∙ count-is more (suc s) j (omega (arith, l)) ∙ ap (λ k. 2 ^ k) less)

  pub count_at : (s : ℕ) → s ≤ d → count_of (plan_tree d w) (counts_of d) (stage_node s) ≡ 2 ^ (d - s)
  count_at s l =
      let e : s ≡ 0 + s = omega arith in
      ap (λ ks. count_in ks (counts_of d) (stage_node s)) counted_are
      ∙ ap (λ k. count_in (numbers_of 0 d) (counts_of d) (stage_node k)) e ∙ count-is d 0 s l

  abbrev counts : ℕ → ℕ
  counts = count_of (plan_tree d w) (counts_of d)

  step-procs : (e s : ℕ) → s ≤ d → procs_by (plan_tree d w) (count_of (plan_tree d w) (counts_of d)) (suc e) (step_node s) ≡ 1
  step-procs e s l =
      procs_by-step (plan_tree d w) (count_of (plan_tree d w) (counts_of d)) (suc e) (step_node s) (omega arith)
      ∙ ap (λ (n : Node). procs_row n.form (count_of (plan_tree d w) (counts_of d) (step_node s))
      (sum_by (procs_by (plan_tree d w) (count_of (plan_tree d w) (counts_of d)) (suc e - 1)) (outside_parts n.form n.parts)))
      (step_is d w s l)

  stage-procs : (s : ℕ) → s ≤ d →
      procs_by (plan_tree d w) (count_of (plan_tree d w) (counts_of d)) 5 (stage_node s) ≡ 2 + 2 ^ (d - s)
  stage-procs s l =
      let one : 2 + 2 ^ (d - s) * (0 + 1) ≡ 2 + 2 ^ (d - s) = omega arith in
      procs_by-step (plan_tree d w) (count_of (plan_tree d w) (counts_of d)) 5 (stage_node s) (omega arith)
      ∙ ap (λ (n : Node). procs_row n.form (count_of (plan_tree d w) (counts_of d) (stage_node s))
      (sum_by (procs_by (plan_tree d w) (count_of (plan_tree d w) (counts_of d)) 4) (outside_parts n.form n.parts)))
      (stage_is d w s l)
      ∙ ap₂ (λ c i. 2 + c * (0 + i)) (count_at s l) (step-procs 3 s l) ∙ one

  sum-procs : (f : ℕ → ℕ) (more s : ℕ) → s + more ≡ d → ((t : ℕ) → t ≤ d → f (stage_node t) ≡ 2 + 2 ^ (d - t)) →
      sum_by f (numbers_of s more) ≤ 2 * suc more + 2 * 2 ^ more
  unfolding numbers_of
  sum-procs f zero s e each =
      let left : 2 ^ (d - s) ≡ 1 = let none : d - s ≡ 0 = omega (arith, e) in ap (λ k. 2 ^ k) none in
      omega (arith, each s (omega (arith, e)), left)
  sum-procs f (suc more) s e each =
      let left : 2 ^ (d - s) ≡ 2 ^ suc more = let same : d - s ≡ suc more = omega (arith, e) in ap (λ k. 2 ^ k) same in
      let r = sum-procs f more (suc s) (omega (arith, e)) each in
      omega (arith, each s (omega (arith, e)), left, r, pow-succ' 2 more, sum_by-cons f (stage_node s) (numbers_of (suc s) more))

  pub procs_few : procs (plan_tree d w) (counts_of d) 0 ≤ 4096
  procs_few =
      let is = procs_by-step (plan_tree d w) (count_of (plan_tree d w) (counts_of d)) 6 0 (omega arith)
      ∙ ap (λ (n : Node). procs_row n.form (count_of (plan_tree d w) (counts_of d) 0)
      (sum_by (procs_by (plan_tree d w) (count_of (plan_tree d w) (counts_of d)) 5) (outside_parts n.form n.parts))) (root_is d w) in
      let b = sum-procs (procs_by (plan_tree d w) (count_of (plan_tree d w) (counts_of d)) 5) d 0 (omega arith) stage-procs in
      omega (arith, is, b, power-small d d (omega arith) few, few)
