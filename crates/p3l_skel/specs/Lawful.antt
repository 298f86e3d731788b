-- Lawful trees.
use Rattle.std.specs.Prelude.{◌≡◌, ℕ, zero, suc, ◌+◌, ◌*◌, ◌^◌, ◌<◌, ◌≤◌, Bool, true, false, IsTrue, IfSome, IsSomeAnd, List, [], ◌∷◌, length, slice_get}
use Rattle.std.specs.List.{All}
use Rattle.p3l_base.specs.declared.slice.Dim.{Dim}
use Rattle.p3l_base.specs.declared.slice.Slice.{Slice}
use Rattle.p3l_base.specs.declared.cut.Cut.{Cut}
use Rattle.p3l_base.specs.Cut.{IsLawfulCut}
use Rattle.p3l_skel.specs.declared.tree.Form.{Form}
use Rattle.p3l_skel.specs.declared.tree.Form.TheVariants.{Seq, Comp, Pipe, Farm, Map, Reduce, Loop}
use Rattle.p3l_skel.specs.declared.tree.ModuleKind.{ModuleKind}
use Rattle.p3l_skel.specs.declared.tree.ModuleKind.TheVariants as kind
use Rattle.p3l_skel.specs.declared.tree.ModuleInfo.{ModuleInfo}
use Rattle.p3l_skel.specs.declared.tree.Node.{Node}
use Rattle.p3l_skel.specs.declared.tree.Tree.{Tree}
use Rattle.p3l_skel.specs.Tree.{node_at, is_sequential, nesting}
use Rattle.p3l_skel.specs.Counts.{IsCountInRange, workers_of}
use Rattle.p3l_skel.specs.Work.{IsLight}

-- the subtrees at these nodes follow one another, the first at `from`, with `next` after the last
abbrev pub AreSubtrees : (ℕ → ℕ → Type 0) → List ℕ → ℕ → ℕ → Type 0
AreSubtrees Is [] from next = from ≡ next
AreSubtrees Is (p ∷ ps) from next = (p ≡ from) × ((middle : ℕ) × Is p middle × AreSubtrees Is ps middle next)

-- the subtree at a node is nested at most this deep, and its nodes in preorder are the numbers
-- from the node up to `next`
unfoldable pub IsSubtree : ℕ → Tree → ℕ → ℕ → Type 0
IsSubtree zero tree node next = ⊥
IsSubtree (suc d) tree node next =
    (node < length tree.nodes) × AreSubtrees (IsSubtree d tree) (node_at tree node).parts (node + 1) next

-- a size of an array is in its limits
abbrev pub IsSize : ℕ → Type 0
IsSize n = (1 ≤ n) × (n ≤ 65536)

-- an array has no more than three sizes, each in its limits
abbrev pub HasSizes : Slice → Type 0
HasSizes slice = (length slice.dims ≤ 3) × All (λ (d : Dim). IsSize d.size) slice.dims

-- the one part of a node is such a node
abbrev pub HasOnePart : (ℕ → Type 0) → List ℕ → Type 0
HasOnePart P [] = ⊥
HasOnePart P (p ∷ []) = P p
HasOnePart P (p ∷ (q ∷ ps)) = ⊥

-- a node has two parts, which are so
abbrev pub HasTwoParts : (ℕ → ℕ → Type 0) → List ℕ → Type 0
HasTwoParts P [] = ⊥
HasTwoParts P (p ∷ []) = ⊥
HasTwoParts P (p ∷ (q ∷ [])) = P p q
HasTwoParts P (p ∷ (q ∷ (r ∷ ps))) = ⊥

-- a node is there, and takes `ins` words and gives `outs`
pub record HasWords (tree : Tree) (node ins outs : ℕ) : Type 0 where
  pub in_tree : node < length tree.nodes
  pub takes : (node_at tree node).ins ≡ ins
  pub gives : (node_at tree node).outs ≡ outs

-- each node is there and gives what the next takes: the first takes `ins` words, and the last gives
-- `outs`
abbrev pub IsChain : Tree → ℕ → ℕ → List ℕ → Type 0
IsChain tree ins outs [] = ins ≡ outs
IsChain tree ins outs (p ∷ ps) = (p < length tree.nodes) × ((node_at tree p).ins ≡ ins) × IsChain tree (node_at tree p).outs outs ps

-- a node is sequential
abbrev pub IsSequential : Tree → ℕ → Type 0
IsSequential tree node = IsTrue (is_sequential tree node)

-- the numbers and parts of a map are lawful
pub record IsLawfulMap (tree : Tree) (cut : Cut) (ins outs part : ℕ) : Type 0 where
  pub in_tree : part < length tree.nodes
  pub in_sizes : All HasSizes cut.ins
  pub out_sizes : All HasSizes cut.outs
  pub cuts : IsLawfulCut cut ins outs (node_at tree part).ins (node_at tree part).outs

-- the operator of a reduce is lawful
pub record IsLawfulReduce (tree : Tree) (len elem ins outs part : ℕ) : Type 0 where
  pub elements : ins ≡ len * elem
  pub result : outs ≡ elem
  pub operator : HasWords tree part (2 * elem) elem
  pub sequential : IsSequential tree part

-- the turns and tokens of a loop are in their limits
pub record HasLoopLimits (turns tokens : ℕ) : Type 0 where
  pub some_turns : 1 ≤ turns
  pub few_turns : turns ≤ 65536
  pub some_tokens : 1 ≤ tokens
  pub few_tokens : tokens ≤ 1024

-- a body and a condition fit a loop
pub record AreLoopParts (tree : Tree) (ins outs body condition : ℕ) : Type 0 where
  pub same_words : ins ≡ outs
  pub turned : HasWords tree body ins outs
  pub tested : HasWords tree condition ins 1
  pub sequential : IsSequential tree condition

-- the numbers and parts of a loop are lawful
pub record IsLawfulLoop (tree : Tree) (turns tokens ins outs body condition : ℕ) : Type 0 where
  pub limits : HasLoopLimits turns tokens
  pub parts : AreLoopParts tree ins outs body condition

-- the further law for a node of a form: its parts fit it
abbrev pub IsLawfulForm : Tree → Form → ℕ → ℕ → List ℕ → Type 0
IsLawfulForm tree Seq ins outs parts = parts ≡ []
IsLawfulForm tree Comp ins outs parts = (1 ≤ length parts) × IsChain tree ins outs parts × All (IsSequential tree) parts
IsLawfulForm tree Pipe ins outs parts = (1 ≤ length parts) × IsChain tree ins outs parts
IsLawfulForm tree (Farm w) ins outs parts = HasOnePart (λ p. HasWords tree p ins outs) parts
IsLawfulForm tree (Map w cut) ins outs parts = HasOnePart (IsLawfulMap tree cut ins outs) parts
IsLawfulForm tree (Reduce w len elem) ins outs parts = HasOnePart (IsLawfulReduce tree len elem ins outs) parts
IsLawfulForm tree (Loop turns tokens) ins outs parts = HasTwoParts (IsLawfulLoop tree turns tokens ins outs) parts

-- the skeleton of a form
abbrev pub kind_of : Form → ModuleKind
kind_of Seq = kind.Seq
kind_of Comp = kind.Comp
kind_of Pipe = kind.Pipe
kind_of (Farm w) = kind.Farm
kind_of (Map w cut) = kind.Map
kind_of (Reduce w len elem) = kind.Reduce
kind_of (Loop turns tokens) = kind.Loop

-- a module of this number is there, and it is written with this skeleton
abbrev pub HasKind : List ModuleInfo → ℕ → ModuleKind → Type 0
HasKind modules home k = IsSomeAnd (slice_get modules home) (λ (m : ModuleInfo). m.kind ≡ k)

-- true exactly if a module that is written with this skeleton may have a rescue number
abbrev pub may_rescue : ModuleKind → Bool
may_rescue kind.Seq = true
may_rescue kind.Comp = true
may_rescue _ = false

-- a module has a rescue number only where its skeleton allows one
abbrev pub HasLawfulRescue : ModuleInfo → Type 0
HasLawfulRescue info = IfSome info.rescue (λ number. IsTrue (may_rescue info.kind))

-- a lawful node of a tree
pub record IsLawfulNode (tree : Tree) (node : Node) : Type 0 where
  pub kind : HasKind tree.modules node.module (kind_of node.form)
  pub ins : IsSize node.ins
  pub outs : IsSize node.outs
  -- the `workers` clause
  pub workers : IfSome (workers_of node.form) (IsCountInRange node.form)
  pub form : IsLawfulForm tree node.form node.ins node.outs node.parts

-- two nodes of one module agree in form and words
pub record AgreesWith (node other : Node) : Type 0 where
  pub form : node.form ≡ other.form
  pub ins : node.ins ≡ other.ins
  pub outs : node.outs ≡ other.outs

-- a node agrees with all nodes of its module
abbrev pub AgreesWithAll : List Node → Node → Type 0
AgreesWithAll nodes node = All (λ (other : Node). node.module ≡ other.module → AgreesWith node other) nodes

-- a lawful tree
pub record IsLawfulTree (tree : Tree) : Type 0 where
  pub few_modules : length tree.modules < 2 ^ 32
  pub rescues : All HasLawfulRescue tree.modules
  pub few_nodes : length tree.nodes ≤ 128
  pub preorder : IsSubtree nesting tree 0 (length tree.nodes)
  pub nodes : All (IsLawfulNode tree) tree.nodes
  pub agree : All (AgreesWithAll tree.nodes) tree.nodes
  pub light : IsLight tree
