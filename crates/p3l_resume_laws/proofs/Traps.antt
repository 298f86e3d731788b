-- Every trap in a net names a module of its tree: what the tree's nodes make of outcomes keeps it.
use Rattle.std.proofs.Common.{◌≡◌, ℕ, ℤ, zero, suc, ◌<◌, ◌/◌, nat_lt, Bool, true, false, cond, if◌then◌else◌, List, [], ◌∷◌, ◌++◌, length, map, take, drop, Option, None, Some, slice_get, slice_index, ap, subst, inl, inr, arith}
use Rattle.std.specs.List.{AllByRecursion, range_with_len}
use Rattle.std.specs.Option.{IsSomeAnd}
use Rattle.std.proofs.lemmas.Bool.{cases_lt}
use Rattle.std.proofs.lemmas.List.{get_or_past}
use Rattle.p3l_base.specs.declared.outcome.Outcome.{Outcome}
use Rattle.p3l_base.specs.declared.outcome.Outcome.TheVariants.{Value, Trapped}
use Rattle.p3l_base.specs.Cut.{element_count, element_words, joined_words}
use Rattle.p3l_skel.specs.declared.tree.Form.{Form}
use Rattle.p3l_skel.specs.declared.tree.Form.TheVariants.{Seq, Comp, Pipe, Farm, Map, Reduce, Loop}
use Rattle.p3l_skel.specs.declared.tree.ModuleInfo.{ModuleInfo}
use Rattle.p3l_skel.specs.declared.tree.Node.{Node}
use Rattle.p3l_skel.specs.declared.tree.Tree.{Tree}
use Rattle.p3l_skel.specs.Fold.{combined, fold_of_up_to}
use Rattle.p3l_skel.specs.Item.{elements, gathered, in_order, is_done, item, item_row, item_to, map_outcomes, on_value, rescued, rescued_at, turned, turns_spent}
use Rattle.p3l_skel.specs.Lawful.{IsLawfulTree, IsSubtree}
use Rattle.p3l_skel.specs.Tree.{by_parts, nesting, no_node, node_at, part_at, rescue_of}
use Rattle.p3l_skel.proofs.Depth.{lawful_at}
use Rattle.p3l_firing.specs.declared.process.Proc.{Proc}
use Rattle.p3l_firing.specs.declared.process.ProcKind.{ProcKind}
use Rattle.p3l_firing.specs.declared.process.ProcKind.TheVariants as kinds
use Rattle.p3l_firing.specs.declared.token.Token.{Token}
use Rattle.p3l_firing.specs.Nodes.{Leaf, cut_of, element_of, fold_of, joined_of, operator_of, outcome_of, segment_of, spent_of, test_of, turns_of}
use Rattle.p3l_firing.specs.Token.{bodies, newest_tag}
use Rattle.p3l_firing.specs.Widths.{Widths}
use Rattle.p3l_firing.specs.kinds.Join.{paired_by}
use Rattle.p3l_firing.specs.kinds.Tail.{Turn, Turn.Held, Turn.Again, by_test, turn_of}
use Rattle.p3l_net.specs.Fitting.{IsOfModule}
use Rattle.p3l_resume_laws.specs.Traps.{TrapsNameModules}
use Rattle.p3l_resume_laws.proofs.Lists.{all_drop, all_map, all_take}
use Rattle.p3l_resume_laws.proofs.Marks.{HandsOn}

some_there : (infos : List ModuleInfo) (m : ℕ) (P : ModuleInfo → Type 0) → IsSomeAnd (slice_get infos m) P → m < length infos
some_there [] m P h = absurd h
some_there (i ∷ infos) zero P h = omega arith
some_there (i ∷ infos) (suc m) P h = let more = some_there infos m P h in omega (arith, more)

module _ (tree : Tree) where
  abbrev Named : Outcome → Type 0
  Named = IsOfModule tree

  -- a token wherever it is
  abbrev pub IsNamed : ℕ → Token → Type 0
  IsNamed place x = IsOfModule tree x.body

  rescued_named : (number : Option ℤ) (outs : ℕ) (outcome : Outcome) → Named outcome → Named (rescued number outs outcome)
  rescued_named None outs outcome h = h
  rescued_named (Some number) outs (Value words) h = tt
  rescued_named (Some number) outs (Trapped trap) h = tt

  value_named : (f : List ℤ → Outcome) → ((words : List ℤ) → Named (f words)) → (outcome : Outcome) → Named outcome →
      Named (on_value f outcome)
  value_named f each (Value words) h = each words
  value_named f each (Trapped trap) h = h

  order_named : (f : ℕ → List ℤ → Outcome) → ((k : ℕ) (words : List ℤ) → Named (f k words)) → (ps : List ℕ) (outcome : Outcome) →
      Named outcome → Named (in_order f ps outcome)
  order_named f each [] outcome h = h
  order_named f each (p ∷ ps) outcome h = order_named f each ps (on_value (f p) outcome) (value_named (f p) (each p) outcome h)

  gathered_named : (join : List (List ℤ) → List ℤ) (outcomes : List Outcome) → AllByRecursion Named outcomes →
      Named (gathered join outcomes)
  gathered_named join [] all = tt
  gathered_named join (Trapped trap ∷ outcomes) all = all.0
  gathered_named join (Value words ∷ outcomes) all = gathered_named (λ results. join (words ∷ results)) outcomes all.1

  combined_named : (operator : List ℤ → Outcome) → ((words : List ℤ) → Named (operator words)) → (x y : Outcome) → Named x → Named y →
      Named (combined operator x y)
  combined_named operator each (Trapped trap) y h k = h
  combined_named operator each (Value v) (Trapped trap) h k = k
  combined_named operator each (Value v) (Value w) h k = each (v ++ w)

  fold_named : (operator : List ℤ → Outcome) → ((words : List ℤ) → Named (operator words)) → (n : ℕ) (xs : List Outcome) →
      AllByRecursion Named xs → Named (fold_of_up_to n operator xs)
  unfolding fold_of_up_to
  fold_named operator each zero [] all = tt
  fold_named operator each zero (x ∷ []) all = all.0
  fold_named operator each zero (x ∷ (y ∷ xs)) all = all.0
  fold_named operator each (suc n) [] all = tt
  fold_named operator each (suc n) (x ∷ []) all = all.0
  fold_named operator each (suc n) (x ∷ (y ∷ xs)) all =
      let whole : List Outcome = x ∷ (y ∷ xs) in
      let half : ℕ = length whole / 2 in
      combined_named operator each _ _
      (fold_named operator each n (take half whole) (all_take Named half whole all))
      (fold_named operator each n (drop half whole) (all_drop Named half whole all))

  chosen_named : (done : Bool) (x y : Outcome) → Named x → Named y → Named (if done then x else y)
  chosen_named true x y h k = h
  chosen_named false x y h k = k

  turned_named : (body condition : List ℤ → Outcome) (spent : Outcome) → ((words : List ℤ) → Named (body words)) →
      ((words : List ℤ) → Named (condition words)) → Named spent → (turns : ℕ) (words : List ℤ) →
      Named (turned body condition spent turns words)
  turned_named body condition spent bodied tested last zero words = last
  turned_named body condition spent bodied tested last (suc turns) words =
      value_named
      (λ result. on_value (λ answer. if is_done answer then Value result else turned body condition spent turns result) (condition result))
      (λ result. value_named (λ answer. if is_done answer then Value result else turned body condition spent turns result)
      (λ answer. chosen_named (is_done answer) (Value result) (turned body condition spent turns result) tt (turned_named body condition spent bodied tested last turns result))
      (condition result) (tested result))
      (body words) (bodied words)

  -- a token that the turn of a loop holds has a named outcome
  HeldNamed : Turn → Type 0
  HeldNamed (Held outcome) = Named outcome
  HeldNamed Again = Unit {0}

  by_cond : (b : Bool) (x y : Turn) → HeldNamed x → HeldNamed y → HeldNamed (cond b x y)
  by_cond true x y h k = h
  by_cond false x y h k = k

  tested_named : (answer outcome spent : Outcome) (more : Bool) → Named answer → Named outcome → Named spent →
      HeldNamed (by_test answer outcome spent more)
  unfolding by_test HeldNamed
  tested_named (Trapped trap) outcome spent more h k last = h
  tested_named (Value answer) outcome spent more h k last =
      by_cond (is_done answer) (Held outcome) (cond more Again (Held spent)) k (by_cond more Again (Held spent) tt last)

  turn_named : (test : Outcome → Outcome) (spent : Outcome) (more : Bool) (outcome : Outcome) →
      ((o : Outcome) → Named o → Named (test o)) → Named spent → Named outcome → HeldNamed (turn_of test spent more outcome)
  unfolding turn_of HeldNamed
  turn_named test spent more (Trapped trap) each last h = h
  turn_named test spent more (Value words) each last h = tested_named (test (Value words)) (Value words) spent more (each (Value words) tt) tt last

  held_is : (turn : Turn) (outcome : Outcome) → turn ≡ Held outcome → HeldNamed turn → Named outcome
  unfolding HeldNamed
  held_is turn outcome e h = subst HeldNamed e h

  bodies_named : (xs : List Token) → AllByRecursion (λ (x : Token). Named x.body) xs → AllByRecursion Named (bodies xs)
  unfolding bodies
  bodies_named [] all = tt
  bodies_named (x ∷ xs) all = (all.0, bodies_named xs all.1)

  module _ (lawful : IsLawfulTree tree) where
    pub some_nodes : 0 < length tree.nodes
    unfolding IsSubtree
    some_nodes = lawful.preorder.0

    there : (k : ℕ) → k < length tree.nodes → (node_at tree k).module < length tree.modules
    there k inside = some_there tree.modules (node_at tree k).module _ (lawful_at tree lawful k inside).kind

    -- the module of any number's node is there
    home : (k : ℕ) → (node_at tree k).module < length tree.modules
    home k =
        elim (cases_lt k (length tree.nodes)) [
          | inl inside ↦ there k inside
          | inr past ↦
              let none = ap (λ (n : Node). n.module) (get_or_past tree.nodes k no_node past) in
              let root = there 0 some_nodes in
              omega (arith, none, root)
        ]

    spent_named : (k : ℕ) → Named (turns_spent (node_at tree k).module)
    spent_named k = home k

    module _ (leaf : Leaf) (named : TrapsNameModules tree leaf) where
      -- a node's outcome is named if the outcomes of other nodes are
      row_named : (k : ℕ) (part : ℕ → List ℤ → Outcome) → ((j : ℕ) (words : List ℤ) → Named (part j words)) → (form : Form)
          (parts : List ℕ) (words : List ℤ) → Named (item_row (rescued_at tree k) leaf (node_at tree k).module form parts part words)
      row_named k part each Seq parts words = rescued_named (rescue_of tree (node_at tree k).module) (node_at tree k).outs (leaf (node_at tree k).module words) (named (node_at tree k).module words (home k))
      row_named k part each Comp parts words = rescued_named (rescue_of tree (node_at tree k).module) (node_at tree k).outs (in_order part parts (Value words)) (order_named part each parts (Value words) tt)
      row_named k part each Pipe parts words = order_named part each parts (Value words) tt
      row_named k part each (Farm workers) parts words = each (slice_index parts 0) words
      row_named k part each (Map workers cut) parts words =
          let element : ℕ → List ℤ = λ e. element_words cut.ins cut.second words e in
          gathered_named (joined_words cut) (map_outcomes cut (part (slice_index parts 0)) words)
          (all_map Named (λ e. part (slice_index parts 0) (element e)) (λ e. each (slice_index parts 0) (element e)) (range_with_len 0 (element_count cut)))
      row_named k part each (Reduce workers len elem) parts words =
          let cut : List Outcome = map (λ element. Value element) (elements elem words) in
          fold_named (part (slice_index parts 0)) (each (slice_index parts 0)) (length cut) cut (all_map Named (λ element. Value element) (λ element. tt) (elements elem words))
      row_named k part each (Loop turns tokens) parts words =
          turned_named (part (slice_index parts 0)) (part (slice_index parts 1)) (turns_spent (node_at tree k).module)
          (each (slice_index parts 0)) (each (slice_index parts 1)) (spent_named k) turns words

      to_named : (d k : ℕ) (words : List ℤ) → Named (item_to tree leaf d k words)
      unfolding item_to by_parts
      to_named zero k words = named (node_at tree k).module words (home k)
      to_named (suc d) k words = row_named k (item_to tree leaf d) (to_named d) (node_at tree k).form (node_at tree k).parts words

      item_named : (k : ℕ) (words : List ℤ) → Named (item tree leaf k words)
      item_named k words = to_named nesting k words

      outcome_named : (k : ℕ) (outcome : Outcome) → Named outcome → Named (outcome_of tree leaf k outcome)
      outcome_named k outcome h = value_named (item tree leaf k) (item_named k) outcome h

      module _ (widths : Widths) (p : ℕ) (q : Proc) where
        pub named_handed : (k : ProcKind) → HandsOn IsNamed IsNamed tree leaf widths p q k
        unfolding element_of segment_of joined_of fold_of operator_of test_of spent_of paired_by
        named_handed kinds.Source = λ words. tt
        named_handed kinds.Sink = tt
        named_handed kinds.Run = λ x h. outcome_named q.node x.body h
        named_handed kinds.Emit = λ c n x there fits h. h
        named_handed kinds.Collect = λ c x there h. h
        named_handed kinds.Scatter = record { takes = λ x h. h; sends = λ c k x there h. value_named _ (λ words. tt) x.body h }
        named_handed kinds.Gather = record { takes = λ c x there h. h; sends = λ xs full all. gathered_named (joined_words (cut_of (node_at tree q.node).form)) (bodies xs) (bodies_named xs all) }
        named_handed kinds.Split = record { takes = λ x h. h; sends = λ c k x there h. value_named _ (λ words. tt) x.body h }
        named_handed kinds.FoldGather = record { takes = λ c x there h. h; sends = λ xs full all. fold_named (item tree leaf (part_at tree q.node 0)) (item_named (part_at tree q.node 0)) (length (bodies xs)) (bodies xs) (bodies_named xs all) }
        named_handed kinds.Join = λ x y h k. combined_named (item tree leaf (part_at tree q.node 0)) (item_named (part_at tree q.node 0)) x.body y.body h k
        named_handed kinds.Head = record { round = λ x h. h; enters = λ n x fits h. h }
        named_handed kinds.Tail = record {
          holds = λ x outcome h e.
              held_is _ outcome e
              (turn_named (outcome_of tree leaf (part_at tree q.node 1)) (turns_spent (node_at tree q.node).module) (nat_lt (newest_tag x) (turns_of tree q.node)) x.body
              (outcome_named (part_at tree q.node 1)) (spent_named q.node) h);
          again = λ x fits h e. h;
          leaves = λ x h. h;
          credits = tt;
        }
