-- The operator of a scan takes two elements and gives one.
use Rattle.std.proofs.Common.{◌≡◌, ℕ, ℤ, List, ◌++◌, length, arith, subst, length-append}
use Rattle.p3l_base.specs.declared.outcome.Outcome.{Outcome}
use Rattle.p3l_skel.specs.declared.tree.Tree.{Tree}
use Rattle.p3l_skel.specs.Item.{item}
use Rattle.p3l_skel.specs.Tree.{GivesOuts, HasFittingLength, HasLength, node_at}
use Rattle.p3l_skel.proofs.Depth.{lawful_at}
use Rattle.p3l_skel.proofs.Kept.{fits-ins, item-keeps}
use Rattle.p3l_scan.specs.Step.{IsOperator}
use Rattle.p3l_scan.proofs.Scans.{Combines}

-- two elements are what the operator takes
pub pair_fits : (tree : Tree) (op elem : ℕ) (v w : List ℤ) → IsOperator tree op elem → length v ≡ elem → length w ≡ elem →
    HasFittingLength tree op (length (v ++ w))
pair_fits tree op elem v w is a b =
    let node = lawful_at tree is.lawful op is.words.in_tree in
    fits-ins tree (node_at tree op).form (node_at tree op).ins (node_at tree op).outs (node_at tree op).parts (length (v ++ w))
    node.ins node.form (omega (arith, length-append v w, a, b, is.words.takes))

pub combines : (tree : Tree) (leaf : ℕ → List ℤ → Outcome) → GivesOuts tree leaf → (op elem : ℕ) → IsOperator tree op elem →
    Combines elem (item tree leaf op)
combines tree leaf gives op elem is v w a b =
    subst (λ n. HasLength n (item tree leaf op (v ++ w))) is.words.gives
    (item-keeps tree leaf is.lawful gives op (v ++ w) is.words.in_tree (pair_fits tree op elem v w is a b))
