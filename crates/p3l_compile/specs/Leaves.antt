-- The outcomes of the bodies of a tree's `seq` modules on words.
use Rattle.std.specs.Prelude.{◌≡◌, ℕ, ℤ, ◌<◌, nat_eq, if◌then◌else◌, List, [], ◌∷◌, length, Option, Some, None, IfSome, IsSomeAnd}
use Rattle.std.specs.List.{All, AllByRecursion}
use Rattle.p3l_base.specs.declared.outcome.Outcome.{Outcome}
use Rattle.p3l_skel.specs.declared.tree.Form.TheVariants as forms
use Rattle.p3l_skel.specs.declared.tree.Node.{Node}
use Rattle.p3l_skel.specs.declared.tree.Tree.{Tree}
use Rattle.p3l_skel.specs.Tree.{node_at}
use Rattle.p3l_code.specs.declared.instr.Code.{Code}
use Rattle.p3l_units.specs.Table.{item_of, unfit}
use Rattle.p3l_body.specs.Eval.{eval}
use Rattle.p3l_body.specs.Seq.{SeqTree}
use Rattle.p3l_compile.specs.Condition.{total, IsCompilable, Compiles}

-- the body of a module
abbrev pub body_of : Tree → List SeqTree → ℕ → Option SeqTree
body_of tree seqs m = item_of tree.modules seqs m

-- the outcome of a body on words; no node has a module without a body, or other words
abbrev pub meaning : ℕ → List ℤ → Option SeqTree → Outcome
meaning m words None = unfit m
meaning m words (Some seq) = if nat_eq (length words) (total seq.ins) then eval seq words else unfit m

-- the outcome of a module's body on words
unfoldable pub body_leaf : Tree → List SeqTree → ℕ → List ℤ → Outcome
body_leaf tree seqs m words = meaning m words (body_of tree seqs m)

-- a body takes and gives the words of a node
pub record FitsNode (node : Node) (seq : SeqTree) : Type 0 where
  pub takes : total seq.ins ≡ node.ins
  pub gives : total seq.outs ≡ node.outs

-- the bodies of a tree's `seq` modules, one for each in their order: each can be compiled, has its
-- module's number, and takes and gives the words of the module's nodes
pub record AreBodies (tree : Tree) (seqs : List SeqTree) : Type 0 where
  pub compilable : AllByRecursion IsCompilable seqs
  pub numbered : (m : ℕ) → IfSome (body_of tree seqs m) (λ seq. seq.home ≡ m)
  pub words : All (λ (node : Node). node.form ≡ forms.Seq → IsSomeAnd (body_of tree seqs node.«module») (FitsNode node)) tree.nodes

-- the module of a `seq` node has a body, and makes of the words that the node takes what that body means
abbrev pub IsEval : Tree → List SeqTree → Node → Type 0
IsEval tree seqs node =
    IsSomeAnd (body_of tree seqs node.«module»)
    (λ seq. (words : List ℤ) → length words ≡ node.ins → body_leaf tree seqs node.«module» words ≡ eval seq words)

-- so it is at each `seq` node of a tree with its bodies
abbrev pub LeavesAreEvals : Type 0
LeavesAreEvals =
    (tree : Tree) (seqs : List SeqTree) (k : ℕ) → AreBodies tree seqs → k < length tree.nodes →
    (node_at tree k).form ≡ forms.Seq → IsEval tree seqs (node_at tree k)

-- codes that bodies were compiled to
abbrev pub AreCodes : List SeqTree → List Code → Type 0
AreCodes [] [] = Unit {0}
AreCodes [] (code ∷ codes) = ⊥
AreCodes (seq ∷ seqs) [] = ⊥
AreCodes (seq ∷ seqs) (code ∷ codes) = Compiles seq code × AreCodes seqs codes

-- codes were compiled from the bodies of a tree's `seq` modules
pub record HasBodies (tree : Tree) (codes : List Code) : Type 0 where
  pub seqs : List SeqTree
  pub bodies : AreBodies tree seqs
  pub compiled : AreCodes seqs codes
