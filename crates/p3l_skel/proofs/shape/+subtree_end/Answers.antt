use Rattle.std.proofs.Common.{◌≡◌, ℕ, ◌-◌, ◌+◌, ◌<◌, List, length, get_or, refl, arith}
use Rattle.std.proofs.lemmas.List.{drop_all}
use Rattle.p3l_skel.specs.declared.tree.Node.{Node}
use Rattle.p3l_skel.specs.declared.tree.Tree.{Tree}
use Rattle.p3l_skel.specs.Tree.{node_at}
use Rattle.p3l_skel.specs.Lawful.{IsSubtree, AreSubtrees}
use Rattle.p3l_skel.proofs.Subtrees.{IsSubtree-unique, IsSubtree-zero, IsSubtree-step, AreSubtrees-at, AreSubtrees-from}
use Rattle.p3l_skel.proofs.shape.+subtree_end.Goals as goal

-- the parts of a subtree, read through the node
parts_end : (tree : Tree) (d k : ℕ) (node : Node) (parts : List ℕ) (next : ℕ) → (d ≡ 0 → ⊥) → parts ≡ node.parts → node ≡ node_at tree k → IsSubtree d tree k next → AreSubtrees (IsSubtree (d - 1) tree) parts (k + 1) next
parts_end tree d k node parts next some listed found whole =
    let some : 0 < d = omega arith in
    rw (listed, found) ((IsSubtree-step d tree k next some).0 whole).1

pub returns-then-levels-eq0-clause-none : goal.returns-then-levels-eq0-clause-none
returns-then-levels-eq0-clause-none t c = λ next whole.
    IsSubtree-zero c.args.tree.now c.args.number next (rw c.if-levels-eq0.true at whole)

pub returns-in_err-node-clause-none : goal.returns-in_err-node-clause-none
returns-in_err-node-clause-none t c =
    rw c.from_residual.ensures (λ next whole. let some : 0 < c.args.levels = omega arith in
    let inside = ((IsSubtree-step c.args.levels c.args.tree.now c.args.number next some).0 whole).0 in
    let past = c.in_err-node.ensures.past in
    omega (arith, inside, past))

pub returns-then-part-next-clause-none : goal.returns-then-part-next-clause-none
returns-then-part-next-clause-none t c = λ next whole.
    let left = (c.loop-part.invariant next).1 (parts_end c.args.tree.now c.args.levels c.args.number _ _ next c.if-levels-eq0.false c.as_slice-part-items.ensures c.in_ok-node.ensures.found whole) in
    let first = AreSubtrees-at (IsSubtree (c.args.levels - 1) c.args.tree.now) _ _ c.loop-part-test.true _ next left in
    c.if-part-next.true first.0

pub returns-in_err-next-clause-none : goal.returns-in_err-next-clause-none
returns-in_err-next-clause-none t c =
    rw c.from_residual-in_err-next.ensures (λ next whole.
    let left = (c.loop-part.invariant next).1 (parts_end c.args.tree.now c.args.levels c.args.number _ _ next c.if-levels-eq0.false c.as_slice-part-items.ensures c.in_ok-node.ensures.found whole) in
    let first = AreSubtrees-at (IsSubtree (c.args.levels - 1) c.args.tree.now) _ _ c.loop-part-test.true _ next left in
    c.in_err-next.ensures.none first.1.0 (rw first.0 at first.1.1))

pub loop-part-preserved : goal.loop-part-preserved
loop-part-preserved t c = λ end.
    let Is : ℕ → ℕ → Type 0 = IsSubtree (c.args.levels - 1) c.args.tree.now in
    let first : get_or c.as_slice-part-items.result.now c.loop-part.part-index 0 ≡ c.loop-part.next = omega arith in (
      λ rest. (c.loop-part.invariant end).0 (AreSubtrees-from Is _ _ c.loop-part-test.true _ end c.in_ok-next.next first (rw first c.in_ok-next.ensures.ok) rest),
      λ whole. let left = AreSubtrees-at Is _ _ c.loop-part-test.true _ end ((c.loop-part.invariant end).1 whole) in
          let here : Is c.loop-part.next left.1.0 = rw first at left.1.1 in
          let same : left.1.0 ≡ c.in_ok-next.next = IsSubtree-unique (c.args.levels - 1) c.args.tree.now c.loop-part.next _ _ here c.in_ok-next.ensures.ok in
          rw same at left.1.2,
    )

pub returns-clause-ok : goal.returns-clause-ok
returns-clause-ok t c =
    let some : 0 < c.args.levels = omega arith in
    let inside : c.args.number < length c.args.tree.now.nodes = c.in_ok-node.ensures.there.0 refl in
    let ended : AreSubtrees (IsSubtree (c.args.levels - 1) c.args.tree.now) c.as_slice-part-items.result.now (c.args.number + 1) c.loop-part.next =
    (c.loop-part.invariant c.loop-part.next).0 (rw (drop_all c.loop-part.part-index _ c.loop-part-test.false) refl) in
    (IsSubtree-step c.args.levels c.args.tree.now c.args.number c.loop-part.next some).1
    (inside, rw (c.as_slice-part-items.ensures, c.in_ok-node.ensures.found) at ended)
