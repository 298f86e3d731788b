-- Instances in a tree, each node of which is lawful.
use Rattle.std.proofs.Common.{◌≡◌, ℕ, zero, suc, ◌+◌, ◌*◌, ◌<◌, ◌≤◌, Bool, true, false, ◌&&◌, IsTrue, List, [], ◌∷◌, ◌++◌, length, slice_index, slice_index_or, get_or, refl, ap, sym, ◌∙◌, subst, arith, append_assoc, length-append}
use Rattle.std.proofs.Math.Seq.{get_or-append_seam}
use Rattle.std.proofs.lemmas.List.{append-nil}
use Rattle.std.specs.List.{All, AllByRecursion, list_all}
use Rattle.std.proofs.lemmas.List.Elements.{All-from_recursion, recursion_from_All}
use Rattle.p3l_skel.specs.declared.tree.Form.{Form}
use Rattle.p3l_skel.specs.declared.tree.Form.TheVariants.{Seq, Comp, Pipe, Farm, Map, Reduce, Loop}
use Rattle.p3l_skel.specs.declared.tree.ModuleInfo.{ModuleInfo}
use Rattle.p3l_skel.specs.declared.tree.Node.{Node}
use Rattle.p3l_skel.specs.declared.tree.Tree.{Tree}
use Rattle.p3l_skel.specs.Tree.{by_parts, no_node, node_at, nesting, sequential_row, sequential_to, is_sequential}
use Rattle.p3l_skel.specs.Lawful.{AreSubtrees, IsSubtree, HasWords, IsChain, IsSequential, IsLawfulForm, HasKind, kind_of, IsLawfulNode}
use Rattle.p3l_check.specs.declared.callables.Callable.{Callable}
use Rattle.p3l_check.specs.Wiring.{module_at, TakesAndGives, IsCallChain, IsSequentialModule, IsCallableForm, IsCallableModule, IsWiring}
use Rattle.p3l_check.specs.Unfolding.{instances_of, firsts_of, first_node, instance, tree_of}
use Rattle.p3l_check.specs.Refusing.{is_nested_within}
use Rattle.p3l_check.proofs.Instances.{instance-step}
use Rattle.p3l_check.proofs.Nested.{nested-step, nested-none}

-- these nodes are in a tree from the number `at` on
record Stand (tree : Tree) (at : ℕ) (nodes : List Node) : Type 0 where
  before : List Node
  after : List Node
  nodes_are : tree.nodes ≡ before ++ (nodes ++ after)
  at_is : length before ≡ at

-- a node in a tree is the one of its number
stand_first : (tree : Tree) (at : ℕ) (n : Node) (ns : List Node) → Stand tree at (n ∷ ns) → (at < length tree.nodes) × (node_at tree at ≡ n)
stand_first tree at n ns s = (
  rw s.nodes_are (rw length-append (let e : length s.before ≡ at = s.at_is in omega arith)),
  subst (λ k. slice_index_or tree.nodes k no_node ≡ n) s.at_is (ap (λ ms. slice_index_or ms (length s.before) no_node) s.nodes_are ∙ get_or-append_seam s.before n (ns ++ s.after) no_node),
)

-- the nodes after the first stand one place further on
stand_rest : (tree : Tree) (at : ℕ) (n : Node) (ns : List Node) → Stand tree at (n ∷ ns) → Stand tree (at + 1) ns
stand_rest tree at n ns s = record {
  before = s.before ++ n ∷ [];
  after = s.after;
  nodes_are = s.nodes_are ∙ sym (append_assoc s.before (n ∷ []) (ns ++ s.after));
  at_is = length-append s.before (n ∷ []) ∙ ap (λ k. k + 1) s.at_is;
}

-- two lists of nodes, one after the other
stand_left : (tree : Tree) (at : ℕ) (xs ys : List Node) → Stand tree at (xs ++ ys) → Stand tree at xs
stand_left tree at xs ys s = record {
  before = s.before;
  after = ys ++ s.after;
  nodes_are = s.nodes_are ∙ ap (λ r. s.before ++ r) (append_assoc xs ys s.after);
  at_is = s.at_is;
}

stand_right : (tree : Tree) (at : ℕ) (xs ys : List Node) → Stand tree at (xs ++ ys) → Stand tree (at + length xs) ys
stand_right tree at xs ys s = record {
  before = s.before ++ xs;
  after = s.after;
  nodes_are = s.nodes_are ∙ (ap (λ r. s.before ++ r) (append_assoc xs ys s.after) ∙ sym (append_assoc s.before xs (ys ++ s.after)));
  at_is = length-append s.before xs ∙ ap (λ k. k + length xs) s.at_is;
}

-- both sides of a true `&&` are true
both : (a b : Bool) → (a && b) ≡ true → (a ≡ true) × (b ≡ true)
both true b h = (refl, h)
both false b h = absurd (cc)

-- a property of each number of a list holds of those after the first
after_first : (P : ℕ → Type 0) (c : ℕ) (cs : List ℕ) → All P (c ∷ cs) → All P cs
after_first P c cs h = λ i d inside. h (suc i) d (omega arith)

-- a node shows what its module is
record Shows (tree : Tree) (callables : List Callable) (p c : ℕ) : Type 0 where
  in_tree : p < length tree.nodes
  takes : (node_at tree p).ins ≡ (module_at callables c).ins
  gives : (node_at tree p).outs ≡ (module_at callables c).outs
  sequential : is_sequential tree p ≡ (module_at callables c).sequential

-- nodes show what modules are, one by one
AllShow : Tree → List Callable → List ℕ → List ℕ → Type 0
AllShow tree callables [] [] = Unit {0}
AllShow tree callables [] (c ∷ cs) = ⊥
AllShow tree callables (p ∷ ps) [] = ⊥
AllShow tree callables (p ∷ ps) (c ∷ cs) = Shows tree callables p c × AllShow tree callables ps cs

module _ (tree : Tree) (callables : List Callable) where
  -- the words of a node are those of its module
  words_of : (p c ins outs : ℕ) → Shows tree callables p c → TakesAndGives (module_at callables c) ins outs → HasWords tree p ins outs
  words_of p c ins outs s w = record { in_tree = s.in_tree; takes = s.takes ∙ w.takes; gives = s.gives ∙ w.gives }

  is_sequential_of : (p c : ℕ) → Shows tree callables p c → IsTrue (module_at callables c).sequential → IsSequential tree p
  is_sequential_of p c s h = subst IsTrue (sym s.sequential) h

  chain_of : (ps cs : List ℕ) (ins outs : ℕ) → AllShow tree callables ps cs → IsCallChain callables ins outs cs → IsChain tree ins outs ps
  unfolding AllShow
  chain_of [] [] ins outs show chain = chain
  chain_of [] (c ∷ cs) ins outs show chain = absurd show
  chain_of (p ∷ ps) [] ins outs show chain = absurd show
  chain_of (p ∷ ps) (c ∷ cs) ins outs show chain =
      (show.0.in_tree, show.0.takes ∙ chain.0, subst (λ n. IsChain tree n outs ps) (sym show.0.gives) (chain_of ps cs (module_at callables c).outs outs show.1 chain.1))

  sequentials_of : (ps cs : List ℕ) → AllShow tree callables ps cs → AllByRecursion (IsSequentialModule callables) cs → AllByRecursion (IsSequential tree) ps
  unfolding AllShow
  sequentials_of [] cs show all = tt
  sequentials_of (p ∷ ps) [] show all = absurd show
  sequentials_of (p ∷ ps) (c ∷ cs) show all = (is_sequential_of p c show.0 all.0, sequentials_of ps cs show.1 all.1)

  length_of : (ps cs : List ℕ) → AllShow tree callables ps cs → length ps ≡ length cs
  unfolding AllShow
  length_of [] [] show = refl
  length_of [] (c ∷ cs) show = absurd show
  length_of (p ∷ ps) [] show = absurd show
  length_of (p ∷ ps) (c ∷ cs) show = ap suc (length_of ps cs show.1)

  some_of : (ps cs : List ℕ) → AllShow tree callables ps cs → 1 ≤ length cs → 1 ≤ length ps
  some_of ps cs show some = let e : length ps ≡ length cs = length_of ps cs show in omega arith

  -- the parts of a node fit it where the calls fit its module
  form_of : (form : Form) (ins outs : ℕ) (ps cs : List ℕ) → AllShow tree callables ps cs → IsCallableForm callables form ins outs cs → IsLawfulForm tree form ins outs ps
  unfolding AllShow
  form_of Seq ins outs [] cs show w = refl
  form_of Seq ins outs (p ∷ ps) [] show w = absurd show
  form_of Seq ins outs (p ∷ ps) (c ∷ cs) show w = absurd (cc)
  form_of Comp ins outs ps cs show w =
      (some_of ps cs show w.0, chain_of ps cs ins outs show w.1, All-from_recursion (IsSequential tree) ps (sequentials_of ps cs show (recursion_from_All (IsSequentialModule callables) cs w.2)))
  form_of Pipe ins outs ps cs show w = (some_of ps cs show w.0, chain_of ps cs ins outs show w.1)
  form_of (Farm n) ins outs [] [] show w = w
  form_of (Farm n) ins outs [] (c ∷ cs) show w = absurd show
  form_of (Farm n) ins outs (p ∷ ps) [] show w = absurd w
  form_of (Farm n) ins outs (p ∷ []) (c ∷ []) show w = words_of p c ins outs show.0 w
  form_of (Farm n) ins outs (p ∷ (q ∷ ps)) (c ∷ []) show w = absurd show.1
  form_of (Farm n) ins outs (p ∷ ps) (c ∷ (d ∷ cs)) show w = absurd w
  form_of (Map n cut) ins outs [] [] show w = w
  form_of (Map n cut) ins outs [] (c ∷ cs) show w = absurd show
  form_of (Map n cut) ins outs (p ∷ ps) [] show w = absurd w
  form_of (Map n cut) ins outs (p ∷ []) (c ∷ []) show w = record {
    in_tree = show.0.in_tree;
    in_sizes = w.in_sizes;
    out_sizes = w.out_sizes;
    cuts = rw (show.0.takes, show.0.gives) w.cuts;
  }
  form_of (Map n cut) ins outs (p ∷ (q ∷ ps)) (c ∷ []) show w = absurd show.1
  form_of (Map n cut) ins outs (p ∷ ps) (c ∷ (d ∷ cs)) show w = absurd w
  form_of (Reduce n len elem) ins outs [] [] show w = w
  form_of (Reduce n len elem) ins outs [] (c ∷ cs) show w = absurd show
  form_of (Reduce n len elem) ins outs (p ∷ ps) [] show w = absurd w
  form_of (Reduce n len elem) ins outs (p ∷ []) (c ∷ []) show w = record {
    elements = w.elements;
    result = w.result;
    operator = words_of p c (2 * elem) elem show.0 w.operator;
    sequential = is_sequential_of p c show.0 w.sequential;
  }
  form_of (Reduce n len elem) ins outs (p ∷ (q ∷ ps)) (c ∷ []) show w = absurd show.1
  form_of (Reduce n len elem) ins outs (p ∷ ps) (c ∷ (d ∷ cs)) show w = absurd w
  form_of (Loop turns tokens) ins outs ps [] show w = absurd w
  form_of (Loop turns tokens) ins outs ps (c ∷ []) show w = absurd w
  form_of (Loop turns tokens) ins outs [] (c ∷ (d ∷ [])) show w = absurd show
  form_of (Loop turns tokens) ins outs (p ∷ []) (c ∷ (d ∷ [])) show w = absurd show.1
  form_of (Loop turns tokens) ins outs (p ∷ (q ∷ [])) (c ∷ (d ∷ [])) show w = record {
    limits = w.limits;
    parts = record {
      same_words = w.same_words;
      turned = words_of p c ins outs show.0 w.turned;
      tested = words_of q d ins 1 show.1.0 w.tested;
      sequential = is_sequential_of q d show.1.0 w.sequential;
    };
  }
  form_of (Loop turns tokens) ins outs (p ∷ (q ∷ (r ∷ ps))) (c ∷ (d ∷ [])) show w = absurd show.1.1
  form_of (Loop turns tokens) ins outs ps (c ∷ (d ∷ (e ∷ cs))) show w = absurd w

  -- a node's being sequential depends, for each form, on its first part alone, if it has one
  sequential_same : (form : Form) (ins outs : ℕ) (cs : List ℕ) (a b : Bool) → IsCallableForm callables form ins outs cs → ((c : ℕ) (rest : List ℕ) → cs ≡ c ∷ rest → a ≡ b)
      → sequential_row form a ≡ sequential_row form b
  sequential_same Seq ins outs cs a b w same = refl
  sequential_same Comp ins outs cs a b w same = refl
  sequential_same Pipe ins outs cs a b w same = refl
  sequential_same (Farm n) ins outs cs a b w same = refl
  sequential_same (Map n cut) ins outs [] a b w same = absurd w
  sequential_same (Map n cut) ins outs (c ∷ cs) a b w same = same c cs refl
  sequential_same (Reduce n len elem) ins outs [] a b w same = absurd w
  sequential_same (Reduce n len elem) ins outs (c ∷ cs) a b w same = same c cs refl
  sequential_same (Loop turns tokens) ins outs cs a b w same = refl

sequential-step : (tree : Tree) (e at : ℕ) → sequential_to tree (suc e) at ≡ sequential_row (node_at tree at).form (sequential_to tree e (slice_index (node_at tree at).parts 0))
unfolding sequential_to by_parts
sequential-step tree e at = refl

subtree-step : (tree : Tree) (d node next : ℕ) → (node < length tree.nodes) × AreSubtrees (IsSubtree d tree) (node_at tree node).parts (node + 1) next → IsSubtree (suc d) tree node next
unfolding IsSubtree
subtree-step tree d node next h = h

no_levels : (callables : List Callable) (k : ℕ) → is_nested_within callables zero k ≡ true → ⊥
no_levels callables k nested = let e : false ≡ true = sym (nested-none callables k) ∙ nested in cc

-- a node is what its module says
pub record IsOf (callables : List Callable) (node : Node) : Type 0 where
  pub form : node.form ≡ (module_at callables node.module).form
  pub ins : node.ins ≡ (module_at callables node.module).ins
  pub outs : node.outs ≡ (module_at callables node.module).outs

pub record IsSoundNode (tree : Tree) (callables : List Callable) (node : Node) : Type 0 where
  pub lawful : IsLawfulNode tree node
  pub is_of : IsOf callables node

each_append : (P : Node → Type 0) (xs ys : List Node) → AllByRecursion P xs → AllByRecursion P ys → AllByRecursion P (xs ++ ys)
each_append P [] ys hx hy = hy
each_append P (x ∷ xs) ys hx hy = (hx.0, each_append P xs ys hx.1 hy)

-- the instance of a module that is nested no deeper than d is in a tree
pub Stands : Tree → List Callable → ℕ → ℕ → ℕ → Type 0
Stands tree callables d k at = (k < length callables) × (is_nested_within callables d k ≡ true) × Stand tree at (instance callables d k at)

-- the instance of the root is the whole tree
pub whole_stands : (infos : List ModuleInfo) (callables : List Callable) (root : ℕ) → root < length callables → is_nested_within callables nesting root ≡ true → Stands (tree_of infos callables root) callables nesting root 0
unfolding Stands
whole_stands infos callables root inside nested =
    (inside, nested, record { before = []; after = []; nodes_are = sym (append-nil (instance callables nesting root 0)); at_is = refl })

module _ (infos : List ModuleInfo) (callables : List Callable) (wiring : IsWiring infos callables) (tree : Tree) (modules_are : tree.modules ≡ infos) where
  -- each called module is there and nested no deeper than d
  CallsFit : ℕ → List ℕ → Type 0
  CallsFit d cs = All (λ c. c < length callables) cs × (list_all (is_nested_within callables d) cs ≡ true)

  calls_fit : (d k : ℕ) → k < length callables → is_nested_within callables (suc d) k ≡ true → CallsFit d (module_at callables k).calls
  unfolding CallsFit
  calls_fit d k inside nested = (
    (λ i e h. let earlier : get_or (module_at callables k).calls i e < k = (wiring.each k inside).earlier i e h in omega (arith, earlier, inside)),
    sym (nested-step callables d k) ∙ nested,
  )

  first_fits : (d c : ℕ) (cs : List ℕ) → CallsFit d (c ∷ cs) → (c < length callables) × (is_nested_within callables d c ≡ true)
  unfolding CallsFit
  first_fits d c cs fit = (fit.0 0 c (omega arith), (both (is_nested_within callables d c) (list_all (is_nested_within callables d) cs) fit.1).0)

  rest_fits : (d c : ℕ) (cs : List ℕ) → CallsFit d (c ∷ cs) → CallsFit d cs
  unfolding CallsFit
  rest_fits d c cs fit = (after_first (λ x. x < length callables) c cs fit.0, (both (is_nested_within callables d c) (list_all (is_nested_within callables d) cs) fit.1).1)

  opened : (d k at : ℕ) → Stands tree callables (suc d) k at → Stand tree at (first_node callables (instance callables d) k at ∷ instances_of (instance callables d) (module_at callables k).calls (at + 1))
  unfolding Stands
  opened d k at s = subst (Stand tree at) (instance-step callables d k at) s.2

  node_is : (d k at : ℕ) → Stands tree callables (suc d) k at → (at < length tree.nodes) × (node_at tree at ≡ first_node callables (instance callables d) k at)
  node_is d k at s = stand_first tree at _ _ (opened d k at s)

  below_stand : (d k at : ℕ) → Stands tree callables (suc d) k at → Stand tree (at + 1) (instances_of (instance callables d) (module_at callables k).calls (at + 1))
  below_stand d k at s = stand_rest tree at _ _ (opened d k at s)

  below_fit : (d k at : ℕ) → Stands tree callables (suc d) k at → CallsFit d (module_at callables k).calls
  unfolding Stands
  below_fit d k at s = calls_fit d k s.0 s.1

  -- the instance of the first call, and those of the others
  first_stands : (d c : ℕ) (cs : List ℕ) (at : ℕ) → CallsFit d (c ∷ cs) → Stand tree at (instances_of (instance callables d) (c ∷ cs) at) → Stands tree callables d c at
  unfolding Stands
  first_stands d c cs at fit s = ((first_fits d c cs fit).0, (first_fits d c cs fit).1, stand_left tree at (instance callables d c at) _ s)

  rest_stand : (d c : ℕ) (cs : List ℕ) (at : ℕ) → Stand tree at (instances_of (instance callables d) (c ∷ cs) at) → Stand tree (at + length (instance callables d c at)) (instances_of (instance callables d) cs (at + length (instance callables d c at)))
  rest_stand d c cs at s = stand_right tree at (instance callables d c at) _ s

  -- the subtree of an instance ends where its nodes end
  are_subtrees : (d : ℕ) → ((k at : ℕ) → Stands tree callables d k at → IsSubtree d tree at (at + length (instance callables d k at))) → (cs : List ℕ) (at : ℕ) → CallsFit d cs
      → Stand tree at (instances_of (instance callables d) cs at) → AreSubtrees (IsSubtree d tree) (firsts_of (instance callables d) cs at) at (at + length (instances_of (instance callables d) cs at))
  are_subtrees d one [] at fit s = omega arith
  are_subtrees d one (c ∷ cs) at fit s =
      let e : (at + length (instance callables d c at)) + length (instances_of (instance callables d) cs (at + length (instance callables d c at))) ≡ at + length (instances_of (instance callables d) (c ∷ cs) at)
      = rw length-append (omega arith) in (
        refl,
        (
          at + length (instance callables d c at),
          one c at (first_stands d c cs at fit s),
          subst (AreSubtrees (IsSubtree d tree) (firsts_of (instance callables d) cs (at + length (instance callables d c at))) (at + length (instance callables d c at))) e
              (are_subtrees d one cs (at + length (instance callables d c at)) (rest_fits d c cs fit) (rest_stand d c cs at s)),
        ),
      )

  pub is_subtree : (d k at : ℕ) → Stands tree callables d k at → IsSubtree d tree at (at + length (instance callables d k at))
  unfolding Stands
  is_subtree zero k at s = absurd (no_levels callables k s.1)
  is_subtree (suc d) k at s =
      let e : (at + 1) + length (instances_of (instance callables d) (module_at callables k).calls (at + 1)) ≡ at + length (instance callables (suc d) k at) = rw (instance-step callables d k at) (omega arith) in
      subtree-step tree d at _ (
        (node_is d k at s).0,
        rw ((node_is d k at s).1) (subst (AreSubtrees (IsSubtree d tree) (firsts_of (instance callables d) (module_at callables k).calls (at + 1)) (at + 1)) e
            (are_subtrees d (λ c p. is_subtree d c p) (module_at callables k).calls (at + 1) (below_fit d k at s) (below_stand d k at s))),
      )

  -- an instance is sequential where its module is
  first_sequential : (d e : ℕ) → ((k at : ℕ) → Stands tree callables d k at → sequential_to tree e at ≡ (module_at callables k).sequential) → (cs : List ℕ) (at : ℕ) → CallsFit d cs
      → Stand tree at (instances_of (instance callables d) cs at) → (c : ℕ) (rest : List ℕ) → cs ≡ c ∷ rest
      → sequential_to tree e (slice_index (firsts_of (instance callables d) cs at) 0) ≡ (module_at callables (slice_index cs 0)).sequential
  first_sequential d e one [] at fit s c rest is = absurd (cc)
  first_sequential d e one (b ∷ cs) at fit s c rest is = one b at (first_stands d b cs at fit s)

  is_sequential_instance : (d e k at : ℕ) → d ≤ e → Stands tree callables d k at → sequential_to tree e at ≡ (module_at callables k).sequential
  unfolding Stands
  is_sequential_instance zero e k at le s = absurd (no_levels callables k s.1)
  is_sequential_instance (suc d) zero k at le s = absurd (omega (arith, le))
  is_sequential_instance (suc d) (suc e) k at le s =
      let m : IsCallableModule infos callables k (module_at callables k) = wiring.each k s.0 in
      sequential-step tree e at
      ∙ (ap (λ (node : Node). sequential_row node.form (sequential_to tree e (slice_index node.parts 0))) (node_is d k at s).1
      ∙ (sequential_same tree callables (module_at callables k).form (module_at callables k).ins (module_at callables k).outs (module_at callables k).calls _ _ m.form
      (first_sequential d e (λ c p. is_sequential_instance d e c p (omega arith)) (module_at callables k).calls (at + 1) (below_fit d k at s) (below_stand d k at s))
      ∙ sym m.sequential))

  shows : (d k at : ℕ) → d ≤ nesting → Stands tree callables d k at → Shows tree callables at k
  unfolding Stands
  shows zero k at le s = absurd (no_levels callables k s.1)
  shows (suc d) k at le s = record {
    in_tree = (node_is d k at s).0;
    takes = ap (λ (node : Node). node.ins) (node_is d k at s).1;
    gives = ap (λ (node : Node). node.outs) (node_is d k at s).1;
    sequential = is_sequential_instance (suc d) nesting k at le s;
  }

  all_show : (d : ℕ) → d ≤ nesting → (cs : List ℕ) (at : ℕ) → CallsFit d cs → Stand tree at (instances_of (instance callables d) cs at) → AllShow tree callables (firsts_of (instance callables d) cs at) cs
  unfolding AllShow
  all_show d le [] at fit s = tt
  all_show d le (c ∷ cs) at fit s =
      (shows d c at le (first_stands d c cs at fit s), all_show d le cs (at + length (instance callables d c at)) (rest_fits d c cs fit) (rest_stand d c cs at s))

  -- the first node of an instance is lawful
  sound_first : (d k at : ℕ) → d ≤ nesting → Stands tree callables (suc d) k at → IsSoundNode tree callables (first_node callables (instance callables d) k at)
  unfolding Stands
  sound_first d k at le s =
      let m : IsCallableModule infos callables k (module_at callables k) = wiring.each k s.0 in
      record {
        lawful = record {
          kind = subst (λ ms. HasKind ms k (kind_of (module_at callables k).form)) (sym modules_are) m.kind;
          ins = m.ins;
          outs = m.outs;
          workers = m.workers;
          form = form_of tree callables (module_at callables k).form (module_at callables k).ins (module_at callables k).outs _ (module_at callables k).calls
              (all_show d le (module_at callables k).calls (at + 1) (below_fit d k at s) (below_stand d k at s)) m.form;
        };
        is_of = record { form = refl; ins = refl; outs = refl };
      }

  sound_calls : (d : ℕ) → ((k at : ℕ) → Stands tree callables d k at → AllByRecursion (IsSoundNode tree callables) (instance callables d k at)) → (cs : List ℕ) (at : ℕ) → CallsFit d cs
      → Stand tree at (instances_of (instance callables d) cs at) → AllByRecursion (IsSoundNode tree callables) (instances_of (instance callables d) cs at)
  sound_calls d one [] at fit s = tt
  sound_calls d one (c ∷ cs) at fit s =
      each_append (IsSoundNode tree callables) (instance callables d c at) _ (one c at (first_stands d c cs at fit s))
      (sound_calls d one cs (at + length (instance callables d c at)) (rest_fits d c cs fit) (rest_stand d c cs at s))

  pub sound_nodes : (d k at : ℕ) → d ≤ nesting → Stands tree callables d k at → AllByRecursion (IsSoundNode tree callables) (instance callables d k at)
  unfolding Stands
  sound_nodes zero k at le s = absurd (no_levels callables k s.1)
  sound_nodes (suc d) k at le s =
      rw (instance-step callables d k at) (
        sound_first d k at (omega (arith, le)) s,
        sound_calls d (λ c p. sound_nodes d c p (omega (arith, le))) (module_at callables k).calls (at + 1) (below_fit d k at s) (below_stand d k at s),
      )
