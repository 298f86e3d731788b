-- The prices of linked nets are small: what a node runs for one item is bounded by the work that its tree allows.
use Rattle.std.proofs.Common.{◌≡◌, ◌≢◌, ℕ, zero, suc, ◌+◌, ◌-◌, ◌*◌, ◌/◌, ◌^◌, ◌<◌, ◌≤◌, ◌⊎◌, inl, inr, ◌==◌, max, List, [], ◌∷◌, ◌++◌, length, sum_by, Option, Some, slice_index, slice_get, refl, sym, ap, ap₂, ◌∙◌, subst, arith, le_refl}
use Rattle.std.specs.Int.{div_ceil}
use Rattle.std.specs.List.{AllByRecursion}
use Rattle.std.proofs.lemmas.Bool.Decides.{nat_tests}
use Rattle.std.proofs.lemmas.Bool.{cond-false, cases_lt}
use Rattle.std.proofs.lemmas.List.{get_or_past}
use Rattle.std.proofs.lemmas.List.Sums.{sum_by-cons}
use Rattle.std.proofs.Math.Nat.{mul-le-mul, mul-le-mul_left, mul-le-mul_right, div-le_self}
use Rattle.p3l_base.specs.Cut.{element_count}
use Rattle.p3l_skel.specs.declared.tree.Form.{Form}
use Rattle.p3l_skel.specs.declared.tree.Form.TheVariants.{Seq, Comp, Pipe, Farm, Map, Reduce, Loop}
use Rattle.p3l_skel.specs.declared.tree.Tree.{Tree}
use Rattle.p3l_skel.specs.Counts.{IsLawfulCount, count_of}
use Rattle.p3l_skel.specs.Lawful.{AreSubtrees, IsSubtree, IsLawfulForm, IsLawfulTree, IsLawfulReduce}
use Rattle.p3l_skel.specs.Numbers.{runs, runs_row, runs_to}
use Rattle.p3l_skel.specs.Tree.{node_at, part_at, nesting}
use Rattle.p3l_skel.proofs.Below.{node_at-past, runs_to-step}
use Rattle.p3l_skel.proofs.Depth.{lawful_at, subtree_at}
use Rattle.p3l_skel.proofs.Parts.{one_part}
use Rattle.p3l_skel.proofs.Subtrees.{IsSubtree-step}
use Rattle.p3l_cost.specs.declared.costs.Costs.{Costs}
use Rattle.p3l_cost.specs.Costs.{AreCostsOf}
use Rattle.p3l_model.specs.Service.{transfer, ticks, ticks_row, ticks_to, unit_service}
use Rattle.p3l_model.proofs.TickSums.{ticks_to-step, ticks_to-zero}
use Rattle.p3l_firing.specs.declared.net.Net.{Net}
use Rattle.p3l_firing.specs.declared.process.Proc.{Proc}
use Rattle.p3l_firing.specs.declared.process.ProcKind.{ProcKind}
use Rattle.p3l_firing.specs.declared.process.ProcKind.TheVariants as kinds
use Rattle.p3l_firing.specs.Nodes.{elem_of}
use Rattle.p3l_firing.specs.Segments.{halved, level_of, segment_lengths}
use Rattle.p3l_firing.specs.Typed.{FitsKind, IsTyped}
use Rattle.p3l_firing.specs.Widths.{Widths}
use Rattle.p3l_firing.proofs.LawfulForms.{loop_parts, map_part, reduce_part}
use Rattle.p3l_template.specs.Shape.{Base, Slot}
use Rattle.p3l_reduce.specs.Reduce.{fold_procs, join_procs, reduce_shape}
use Rattle.p3l_link.specs.Net.{Piece, base_at, inner_pieces, linked_net, piece_of, root_base, root_piece}
use Rattle.p3l_link.specs.Shape.{kind_at, kind_row, shape_at, shape_row}
use Rattle.p3l_timed.specs.Price.{HasSmallPrices, len_of, part_ticks, price_of, run_price}

-- the most work of a tree for one item
abbrev work : ℕ
work = 134217728

module _ (tree : Tree) (costs : Costs) (lawful : IsLawfulTree tree) (priced : AreCostsOf tree costs) where
  -- TOKENS
  sized : (k : ℕ) → ((node_at tree k).ins ≤ 65536) × ((node_at tree k).outs ≤ 65536)
  sized k = elim (cases_lt k (length tree.nodes)) [
    | inl inside ↦ let node = lawful_at tree lawful k inside in (node.ins.1, node.outs.1)
    | inr past ↦ rw (node_at-past tree k past) (omega arith, omega arith)
  ]

  transfer_small : (w : ℕ) → w ≤ 131072 → transfer costs w ≤ 131073000000
  transfer_small w few =
      let setup = priced.setup in
      let word = priced.word in
      let product : costs.word * w ≤ 1000000 * 131072 = mul-le-mul word few in
      omega (arith, setup, product)

  -- TICKS are at most 1,000,000 for each body that is run
  ticks_sum : (f g : ℕ → ℕ) → ((k : ℕ) → f k ≤ 1000000 * g k) → (ks : List ℕ) → sum_by f ks ≤ 1000000 * sum_by g ks
  ticks_sum f g each [] = omega arith
  ticks_sum f g each (k ∷ ks) =
      let a = sum_by-cons f k ks in
      let b = sum_by-cons g k ks in
      let rest = ticks_sum f g each ks in
      let one = each k in
      omega (arith, a, b, rest, one)

  scaled : (n a b : ℕ) → a ≤ 1000000 * b → n * a ≤ 1000000 * (n * b)
  scaled zero a b h = omega arith
  scaled (suc n) a b h = let rest = scaled n a b h in omega (arith, rest, h)

  own_small : (home : ℕ) → slice_index costs.ticks home ≤ 1000000
  own_small home = elim (cases_lt home (length costs.ticks)) [
    | inl inside ↦ priced.ticks home 0 inside
    | inr past ↦ let none = get_or_past costs.ticks home 0 past in omega (arith, none)
  ]

  row_small : (form : Form) (own a b : ℕ) → own ≤ 1000000 → a ≤ 1000000 * b → ticks_row form own a ≤ 1000000 * runs_row form b
  row_small Seq own a b few h = omega (arith, few)
  row_small Comp own a b few h = h
  row_small Pipe own a b few h = omega arith
  row_small (Farm w) own a b few h = omega arith
  row_small (Map w cut) own a b few h = scaled (element_count cut) a b h
  row_small (Reduce w len elem) own a b few h = scaled (len - 1) a b h
  row_small (Loop turns tokens) own a b few h = omega arith

  ticks_by_runs : (d k : ℕ) → ticks_to tree costs d k ≤ 1000000 * runs_to tree d k
  ticks_by_runs zero k = let z = ticks_to-zero tree costs k in omega (arith, z)
  ticks_by_runs (suc d) k =
      let e : suc d - 1 ≡ d = omega arith in
      let node = node_at tree k in
      rw (ticks_to-step tree costs (suc d) k (omega arith), runs_to-step tree (suc d) k (omega arith), e)
      (row_small node.form (slice_index costs.ticks node.module) _ _ (own_small node.module) (ticks_sum (ticks_to tree costs d) (runs_to tree d) (ticks_by_runs d) node.parts))

  ticks_small : (k : ℕ) → runs tree k ≤ work → ticks tree costs k ≤ 1000000 * work
  ticks_small k few = let l = ticks_by_runs nesting k in omega (arith, l, few)

  -- RUNS of a node are made of those of its parts
  SameOn : (ℕ → ℕ) → (ℕ → ℕ) → List ℕ → Type 0
  SameOn f g [] = Unit {0}
  SameOn f g (p ∷ ps) = (f p ≡ g p) × SameOn f g ps

  sum_same : (f g : ℕ → ℕ) (ps : List ℕ) → SameOn f g ps → sum_by f ps ≡ sum_by g ps
  unfolding SameOn
  sum_same f g [] same = refl
  sum_same f g (p ∷ ps) same = sum_by-cons f p ps ∙ ap₂ (λ a b. a + b) same.0 (sum_same f g ps same.1) ∙ sym (sum_by-cons g p ps)

  siblings_same : (f g : ℕ → ℕ) (d : ℕ) → ((j n : ℕ) → IsSubtree d tree j n → f j ≡ g j) → (ps : List ℕ) (from next : ℕ) → AreSubtrees (IsSubtree d tree) ps from next → SameOn f g ps
  unfolding SameOn
  siblings_same f g d each [] from next h = tt
  siblings_same f g d each (p ∷ ps) from next h = (each p h.1.0 h.1.1, siblings_same f g d each ps h.1.0 next h.1.2)

  runs_deep : (d e k next : ℕ) → d ≤ e → IsSubtree d tree k next → runs_to tree e k ≡ runs_to tree d k
  unfolding IsSubtree
  runs_deep zero e k next deep h = absurd h
  runs_deep (suc d) zero k next deep h = absurd (omega (arith, deep))
  runs_deep (suc d) (suc e) k next deep h =
      let one : suc d - 1 ≡ d = omega arith in
      let two : suc e - 1 ≡ e = omega arith in
      let node = node_at tree k in
      let parts = siblings_same (runs_to tree e) (runs_to tree d) d (λ j n s. runs_deep d e j n (omega (arith, deep)) s) node.parts (k + 1) next h.1 in
      rw (runs_to-step tree (suc e) k (omega arith), runs_to-step tree (suc d) k (omega arith), one, two)
      (ap (runs_row node.form) (sum_same (runs_to tree e) (runs_to tree d) node.parts parts))

  runs_by_parts : (k : ℕ) → k < length tree.nodes → runs tree k ≡ runs_row (node_at tree k).form (sum_by (runs tree) (node_at tree k).parts)
  runs_by_parts k inside =
      let node = node_at tree k in
      let subtree = subtree_at tree lawful k inside in
      let below = (IsSubtree-step 6 tree k subtree.0 (omega arith)).0 subtree.1 in
      let parts = siblings_same (runs_to tree 6) (runs_to tree 5) 5 (λ j n s. runs_deep 5 6 j n (omega arith) s) node.parts (k + 1) subtree.0 below.1 in
      runs_to-step tree 6 k (omega arith) ∙ ap (runs_row node.form) (sym (sum_same (runs_to tree 6) (runs_to tree 5) node.parts parts))

  -- no part runs more than all, and past the last is the root
  part_runs : (f : ℕ → ℕ) (ks : List ℕ) (v : ℕ) → (f (slice_index ks v) ≤ sum_by f ks) ⊎ (slice_index ks v ≡ 0)
  part_runs f [] v = inr refl
  part_runs f (k ∷ ks) zero = inl (let a = sum_by-cons f k ks in omega (arith, a))
  part_runs f (k ∷ ks) (suc v) = elim (part_runs f ks v) [
    | inl l ↦ inl (let a = sum_by-cons f k ks in omega (arith, a, l))
    | inr root ↦ inr root
  ]

  at_least : (n s : ℕ) → 1 ≤ n → s ≤ n * s
  at_least zero s some = absurd (omega (arith, some))
  at_least (suc n) s some = omega arith

  -- a node of which parts are in the net runs them all at least once
  IsOpen : Form → Type 0
  IsOpen Seq = ⊥
  IsOpen Comp = ⊥
  IsOpen Pipe = Unit {0}
  IsOpen (Farm w) = Unit {0}
  IsOpen (Map w cut) = 1 ≤ element_count cut
  IsOpen (Reduce w len elem) = 1 < len
  IsOpen (Loop turns tokens) = 1 ≤ turns

  open_runs : (form : Form) (s : ℕ) → IsOpen form → s ≤ runs_row form s
  unfolding IsOpen
  open_runs Seq s is = absurd is
  open_runs Comp s is = absurd is
  open_runs Pipe s is = le_refl s
  open_runs (Farm w) s is = le_refl s
  open_runs (Map w cut) s is = at_least (element_count cut) s is
  open_runs (Reduce w len elem) s is = at_least (len - 1) s (omega (arith, is))
  open_runs (Loop turns tokens) s is = at_least turns s is

  root_few : runs tree 0 ≤ work
  root_few = lawful.light.bodies

  part_few : (k : ℕ) → k < length tree.nodes → IsOpen (node_at tree k).form → runs tree k ≤ work → (v : ℕ) → runs tree (part_at tree k v) ≤ work
  part_few k inside is few v = elim (part_runs (runs tree) (node_at tree k).parts v) [
    | inl l ↦
        let all = open_runs (node_at tree k).form (sum_by (runs tree) (node_at tree k).parts) is in
        let whole = runs_by_parts k inside in
        omega (arith, l, all, whole, few)
    | inr root ↦ subst (λ j. runs tree j ≤ work) (sym root) root_few
  ]

  -- PRICES
  IsSmall : Proc → Type 0
  IsSmall q = price_of tree costs q < 2 ^ 48

  unit_small : (k : ℕ) → runs tree k ≤ work → unit_service tree costs k < 2 ^ 48
  unit_small k few =
      let t = ticks_small k few in
      let a = transfer_small (node_at tree k).ins (let s = (sized k).0 in omega (arith, s)) in
      let b = transfer_small (node_at tree k).outs (let s = (sized k).1 in omega (arith, s)) in
      omega (arith, t, a, b)

  ends_small : (k : ℕ) → (2 * transfer costs (node_at tree k).ins < 2 ^ 48) × (2 * transfer costs (node_at tree k).outs < 2 ^ 48)
  ends_small k =
      let a = transfer_small (node_at tree k).ins (let s = (sized k).0 in omega (arith, s)) in
      let b = transfer_small (node_at tree k).outs (let s = (sized k).1 in omega (arith, s)) in
      (omega (arith, a), omega (arith, b))

  part_ends_small : (k : ℕ) → (transfer costs (node_at tree k).ins < 2 ^ 48) × (transfer costs (node_at tree k).outs < 2 ^ 48)
  part_ends_small k = let e = ends_small k in let a = e.0 in let b = e.1 in (omega (arith, a), omega (arith, b))

  first_runs : (f : ℕ → ℕ) (ks : List ℕ) → 0 < length ks → f (slice_index ks 0) ≤ sum_by f ks
  first_runs f [] some = absurd (omega (arith, some))
  first_runs f (k ∷ ks) some = let a = sum_by-cons f k ks in omega (arith, a)

  halved_small : (most : ℕ) (ls : List ℕ) → AllByRecursion (λ l. l ≤ most) ls → AllByRecursion (λ l. l ≤ most) (halved ls)
  unfolding halved
  halved_small most [] all = tt
  halved_small most (l ∷ ls) all = let low = all.0 in (omega (arith, low), (omega (arith, low), halved_small most ls all.1))

  segments_small : (level len : ℕ) → AllByRecursion (λ l. l ≤ len) (segment_lengths level len)
  unfolding segment_lengths
  segments_small zero len = (le_refl len, tt)
  segments_small (suc level) len = halved_small len (segment_lengths level len) (segments_small level len)

  lawful_form : (k : ℕ) → k < length tree.nodes → (form : Form) → (node_at tree k).form ≡ form → IsLawfulForm tree form (node_at tree k).ins (node_at tree k).outs (node_at tree k).parts
  lawful_form k inside form e = subst (λ f. IsLawfulForm tree f (node_at tree k).ins (node_at tree k).outs (node_at tree k).parts) e (lawful_at tree lawful k inside).form

  -- the processes of a reduce
  module _ (k : ℕ) (inside : k < length tree.nodes) (workers : Option ℕ) (len elem : ℕ) (form : (node_at tree k).form ≡ Reduce workers len elem) (several : 1 < len) (few : runs tree k ≤ work) where
    reduce : IsLawfulReduce tree len elem (node_at tree k).ins (node_at tree k).outs (part_at tree k 0)
    reduce = reduce_part tree lawful k inside form

    elem_is : elem_of (node_at tree k).form ≡ elem
    elem_is = ap elem_of form

    len_is : len_of (node_at tree k).form ≡ len
    len_is = ap len_of form

    words_few : (n : ℕ) → n ≤ len + 1 → n * elem_of (node_at tree k).form ≤ 131072
    words_few n l =
        let s = sized k in
        let a = s.0 in
        let b = s.1 in
        let ins = reduce.elements in
        let outs = reduce.result in
        let more : n * elem ≤ (len + 1) * elem = mul-le-mul_right elem l in
        let split : (len + 1) * elem ≡ len * elem + elem = omega arith in
        let product : n * elem_of (node_at tree k).form ≡ n * elem = ap (λ e. n * e) elem_is in
        omega (arith, a, b, ins, outs, more, split, product)

    elem_few : elem_of (node_at tree k).form ≤ 131072
    elem_few = let s = (sized k).1 in let outs = reduce.result in omega (arith, s, outs, elem_is)

    op : ℕ
    op = part_ticks tree costs k 0

    -- all but one of the elements are combined
    ops_few : (len - 1) * op ≤ 1000000 * work
    unfolding op
    ops_few =
        let part : ℕ = part_at tree k 0 in
        let own = one_part (IsLawfulReduce tree len elem (node_at tree k).ins (node_at tree k).outs) (node_at tree k).parts (lawful_form k inside (Reduce workers len elem) form) in
        let one = first_runs (runs tree) (node_at tree k).parts own.1 in
        let whole : runs tree k ≡ (len - 1) * sum_by (runs tree) (node_at tree k).parts = runs_by_parts k inside ∙ ap (λ f. runs_row f (sum_by (runs tree) (node_at tree k).parts)) form in
        let all : (len - 1) * runs tree part ≤ (len - 1) * sum_by (runs tree) (node_at tree k).parts = mul-le-mul_left (len - 1) one in
        let by = scaled (len - 1) (ticks tree costs part) (runs tree part) (ticks_by_runs nesting part) in
        omega (arith, whole, all, by, few)

    op_few : op ≤ 1000000 * work
    op_few = let l = ops_few in let once = at_least (len - 1) op (omega (arith, several)) in omega (arith, l, once)

    fold_small : (l : ℕ) → l ≤ len → run_price tree costs k l < 2 ^ 48
    unfolding op
    fold_small zero low = unit_small k few
    fold_small (suc before) low =
        let a = transfer_small (suc before * elem_of (node_at tree k).form) (words_few (suc before) (omega (arith, low))) in
        let b = transfer_small (elem_of (node_at tree k).form) elem_few in
        let less : suc before - 1 ≤ len - 1 = omega (arith, low) in
        let some : (suc before - 1) * part_ticks tree costs k 0 ≤ (len - 1) * part_ticks tree costs k 0 = mul-le-mul_right (part_ticks tree costs k 0) less in
        let l = ops_few in
        let value : run_price tree costs k (suc before) ≡ (suc before - 1) * part_ticks tree costs k 0 + (transfer costs (suc before * elem_of (node_at tree k).form) + transfer costs (elem_of (node_at tree k).form)) = cond-false (suc before == 0) _ _ (grind (arith, nat_tests)) in
        omega (arith, a, b, some, l, value)

    folds_small : (m output first t s : ℕ) (ls : List ℕ) → AllByRecursion (λ l. l ≤ len) ls → AllByRecursion IsSmall (fold_procs k m output first t s ls)
    unfolding fold_procs IsSmall
    folds_small m output first t s [] all = tt
    folds_small m output first t s (l ∷ ls) all = (fold_small l all.0, folds_small m output first t (suc s) ls all.1)

    joins_small : (output t q n : ℕ) → AllByRecursion IsSmall (join_procs k output t q n)
    unfolding join_procs IsSmall op
    joins_small output t q zero = tt
    joins_small output t q (suc n) =
        let a = transfer_small (elem_of (node_at tree k).form) elem_few in
        let l = op_few in
        (omega (arith, a, l), joins_small output t (suc q) n)

    split_small : (m : ℕ) → transfer costs (div_ceil (len_of (node_at tree k).form) (max 1 m) * elem_of (node_at tree k).form) < 2 ^ 48
    split_small m =
        let n : ℕ = div_ceil (len_of (node_at tree k).form) (max 1 m) in
        let low : len_of (node_at tree k).form / max 1 m ≤ len_of (node_at tree k).form = div-le_self (len_of (node_at tree k).form) (max 1 m) in
        let less : n ≤ len + 1 = omega (arith, low, len_is) in
        let a = transfer_small (n * elem_of (node_at tree k).form) (words_few n less) in
        omega (arith, a)

  -- THE WALK: all that a node places, where each split is of several elements
  SplitsSeveral : Proc → Type 0
  SplitsSeveral q = q.kind ≡ kinds.Split → (q.node < length tree.nodes) × (1 < len_of (node_at tree q.node).form)

  all_front : (P : Proc → Type 0) (ps qs : List Proc) → AllByRecursion P (ps ++ qs) → AllByRecursion P ps × AllByRecursion P qs
  all_front P [] qs all = (tt, all)
  all_front P (p ∷ ps) qs all = let rest = all_front P ps qs all.1 in ((all.0, rest.0), rest.1)

  all_more : (P : Proc → Type 0) (ps qs : List Proc) → AllByRecursion P ps → AllByRecursion P qs → AllByRecursion P (ps ++ qs)
  all_more P [] qs one other = other
  all_more P (p ∷ ps) qs one other = (one.0, all_more P ps qs one.1 other)

  reduce_small : (k : ℕ) (workers : Option ℕ) (len elem level : ℕ) (base : Base) → (node_at tree k).form ≡ Reduce workers len elem → runs tree k ≤ work
      → AllByRecursion SplitsSeveral ((reduce_shape k len level).procs base) → AllByRecursion IsSmall ((reduce_shape k len level).procs base)
  unfolding reduce_shape IsSmall SplitsSeveral
  reduce_small k workers len elem zero base form few all = (unit_small k few, tt)
  reduce_small k workers len elem (suc d) base form few all =
      let m : ℕ = 2 ^ suc d in
      let own = all.0 refl in
      let several : 1 < len = subst (λ n. 1 < n) (ap len_of form) own.1 in
      let joins = join_procs k base.output (base.chan + m) 1 (m - 1) in
      let folds = fold_procs k m base.output base.chan (base.chan + m) 0 (segment_lengths (suc d) len) in (
        split_small k own.0 workers len elem form several few _,
        all_more IsSmall joins folds (joins_small k own.0 workers len elem form several few base.output (base.chan + m) 1 (m - 1))
            (folds_small k own.0 workers len elem form several few m base.output base.chan (base.chan + m) 0 (segment_lengths (suc d) len) (segments_small (suc d) len)),
      )

  -- the parts that are at its slots run no more than all
  HasFewParts : ℕ → (Base → List Slot) → Type 0
  HasFewParts k slots = ((base : Base) → slots base ≡ []) ⊎ ((v : ℕ) → runs tree (part_at tree k v) ≤ work)

  open_at : (k : ℕ) (form : Form) → (node_at tree k).form ≡ form → IsOpen form → runs tree k ≤ work → (v : ℕ) → runs tree (part_at tree k v) ≤ work
  open_at k form e is few v = elim (cases_lt k (length tree.nodes)) [
    | inl inside ↦ part_few k inside (subst IsOpen (sym e) is) few v
    | inr past ↦
        let none : part_at tree k v ≡ 0 = rw (node_at-past tree k past) refl in
        subst (λ j. runs tree j ≤ work) (sym none) root_few
  ]

  is_inside : (k : ℕ) (form : Form) → (node_at tree k).form ≡ form → form ≢ Pipe → k < length tree.nodes
  is_inside k form e other = elim (cases_lt k (length tree.nodes)) [
    | inl inside ↦ inside
    | inr past ↦ absurd (other (sym e ∙ rw (node_at-past tree k past) refl))
  ]

  row_parts : (form : Form) (k parts n : ℕ) → (node_at tree k).form ≡ form → runs tree k ≤ work → HasFewParts k (shape_row form k parts n).slots
  unfolding kind_row HasFewParts reduce_shape IsOpen
  row_parts Seq k parts n e few = inl (λ base. refl)
  row_parts Comp k parts n e few = inl (λ base. refl)
  row_parts Pipe k parts n e few = inr (open_at k Pipe e tt few)
  row_parts (Farm w) k parts n e few = inr (open_at k (Farm w) e tt few)
  row_parts (Map w cut) k parts n e few =
      let map = map_part tree lawful k (is_inside k (Map w cut) e (λ x. cc)) e in
      inr (open_at k (Map w cut) e (mul-le-mul map.cuts.lawful_outs.some_first map.cuts.lawful_outs.some_second) few)
  row_parts (Reduce w len elem) k parts n e few = inl (none (level_of n))
    where
      none : (level : ℕ) (base : Base) → (reduce_shape k len level).slots base ≡ []
      none zero base = refl
      none (suc d) base = refl
  row_parts (Loop turns tokens) k parts n e few =
      let loop = loop_parts tree lawful k (is_inside k (Loop turns tokens) e (λ x. cc)) e in
      inr (open_at k (Loop turns tokens) e loop.limits.some_turns few)

  row_prices : (form : Form) (k parts n : ℕ) (base : Base) → (node_at tree k).form ≡ form → runs tree k ≤ work
      → AllByRecursion SplitsSeveral ((shape_row form k parts n).procs base) → AllByRecursion IsSmall ((shape_row form k parts n).procs base)
  unfolding kind_row IsSmall IsOpen
  row_prices Seq k parts n base e few all = (unit_small k few, tt)
  row_prices Comp k parts n base e few all = (unit_small k few, tt)
  row_prices Pipe k parts n base e few all = tt
  row_prices (Farm w) k parts n base e few all = ((ends_small k).0, ((ends_small k).1, tt))
  row_prices (Map w cut) k parts n base e few all = ((part_ends_small (part_at tree k 0)).0, ((part_ends_small (part_at tree k 0)).1, tt))
  row_prices (Reduce w len elem) k parts n base e few all = reduce_small k w len elem (level_of n) base e few all
  row_prices (Loop turns tokens) k parts n base e few all =
      let loop = loop_parts tree lawful k (is_inside k (Loop turns tokens) e (λ x. cc)) e in
      let test = ticks_small (part_at tree k 1) (open_at k (Loop turns tokens) e loop.limits.some_turns few 1) in
      let a = transfer_small (node_at tree k).ins (let s = (sized k).0 in omega (arith, s)) in
      ((ends_small k).0, (omega (arith, test, a), tt))

  inner_small : (f : ℕ → Base → Piece) (slots : List Slot) (p c : ℕ) → ((v : ℕ) (b : Base) → AllByRecursion SplitsSeveral (f v b).procs → AllByRecursion IsSmall (f v b).procs)
      → AllByRecursion SplitsSeveral (inner_pieces f slots p c).procs → AllByRecursion IsSmall (inner_pieces f slots p c).procs
  unfolding inner_pieces
  inner_small f [] p c each all = tt
  inner_small f (slot ∷ slots) p c each all =
      let here : Piece = f slot.part (base_at slot p c) in
      let rest : Piece = inner_pieces f slots (p + length here.procs) (c + length here.chans) in
      let both = all_front SplitsSeveral here.procs rest.procs all in
      all_more IsSmall here.procs rest.procs (each slot.part (base_at slot p c) both.0)
      (inner_small f slots (p + length here.procs) (c + length here.chans) each both.1)

  no_inner : (f : ℕ → Base → Piece) (slots : List Slot) (p c : ℕ) → slots ≡ [] → AllByRecursion IsSmall (inner_pieces f slots p c).procs
  unfolding inner_pieces
  no_inner f slots p c none = subst (λ xs. AllByRecursion IsSmall (inner_pieces f xs p c).procs) (sym none) tt

  module _ (count : ℕ → ℕ) (cap : ℕ) where
    piece_small : (d k : ℕ) (base : Base) → runs tree k ≤ work → AllByRecursion SplitsSeveral (piece_of tree count cap d k base).procs → AllByRecursion IsSmall (piece_of tree count cap d k base).procs
    unfolding piece_of kind_at IsSmall HasFewParts
    piece_small zero k base few all = (unit_small k few, tt)
    piece_small (suc d) k base few all =
        let shape = shape_at tree count k in
        let f : ℕ → Base → Piece = λ v. piece_of tree count cap d (part_at tree k v) in
        let p = base.proc + length (shape.procs base) in
        let c = base.chan + shape.chans base in
        let inner : Piece = inner_pieces f (shape.slots base) p c in
        let both = all_front SplitsSeveral (shape.procs base) inner.procs all in
        all_more IsSmall (shape.procs base) inner.procs
        (row_prices (node_at tree k).form k (length (node_at tree k).parts) (count k) base refl few both.0)
        (elim (row_parts (node_at tree k).form k (length (node_at tree k).parts) (count k) refl few) [
          | inl none ↦ no_inner f (shape.slots base) p c (none base)
          | inr parts ↦ inner_small f (shape.slots base) p c (λ v b. piece_small d (part_at tree k v) b (parts v)) both.1
        ])

  each_of : (P : Proc → Type 0) (ps : List Proc) → ((p : ℕ) (q : Proc) → slice_get ps p ≡ Some q → P q) → AllByRecursion P ps
  each_of P [] each = tt
  each_of P (q ∷ ps) each = (each 0 q refl, each_of P ps (λ p x at. each (suc p) x at))

  of_each : (P : Proc → Type 0) (ps : List Proc) → AllByRecursion P ps → (p : ℕ) (q : Proc) → slice_get ps p ≡ Some q → P q
  of_each P [] all p q at = cc
  of_each P (x ∷ ps) all zero q at = subst P (some_same x q at) all.0
    where
      some_same : (a b : Proc) → Some a ≡ Some b → a ≡ b
      some_same a b e = cc
  of_each P (x ∷ ps) all (suc p) q at = of_each P ps all.1 p q at

  several_of : (widths : Widths) (q : Proc) (k : ProcKind) → q.kind ≡ k → FitsKind k tree widths q → SplitsSeveral q
  unfolding SplitsSeveral
  several_of widths q kinds.Split e fits = λ is.
      let range : IsLawfulCount (Reduce fits.workers fits.len fits.elem) (length q.outs) = subst (λ f. IsLawfulCount f (length q.outs)) fits.form fits.count in
      let most = range.1.1 in
      let several = fits.several in
      let len = ap len_of fits.form in
      (fits.node, omega (arith, most, several, len))
  several_of widths q kinds.Source e fits = λ is. cc
  several_of widths q kinds.Sink e fits = λ is. cc
  several_of widths q kinds.Run e fits = λ is. cc
  several_of widths q kinds.Emit e fits = λ is. cc
  several_of widths q kinds.Collect e fits = λ is. cc
  several_of widths q kinds.Scatter e fits = λ is. cc
  several_of widths q kinds.Gather e fits = λ is. cc
  several_of widths q kinds.FoldGather e fits = λ is. cc
  several_of widths q kinds.Join e fits = λ is. cc
  several_of widths q kinds.Head e fits = λ is. cc
  several_of widths q kinds.Tail e fits = λ is. cc

  pub linked_small : (counts : List ℕ) (cap : ℕ) → IsTyped tree (linked_net tree counts cap) → HasSmallPrices tree costs (linked_net tree counts cap)
  unfolding linked_net root_piece IsSmall SplitsSeveral
  linked_small counts cap typed =
      let net : Net = linked_net tree counts cap in
      let root : Piece = piece_of tree (count_of tree counts) cap nesting 0 root_base in
      let several : AllByRecursion SplitsSeveral net.procs = each_of SplitsSeveral net.procs (λ p q at. several_of typed.widths q q.kind refl (typed.processes p q at)) in
      of_each IsSmall net.procs (omega arith, (omega arith, piece_small (count_of tree counts) cap nesting 0 root_base root_few several.1.1))
