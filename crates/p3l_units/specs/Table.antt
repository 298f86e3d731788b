-- The codes of a tree's `seq` modules, and what they make of words.
use Rattle.std.specs.Prelude.{◌≡◌, ℕ, ℤ, zero, suc, ◌+◌, ◌<◌, Bool, true, false, ◌&&◌, nat_eq, if◌then◌else◌, List, [], ◌∷◌, length, Option, Some, None, IsSomeAnd, IfSome, slice_get}
use Rattle.std.specs.List.{All}
use Rattle.p3l_base.specs.declared.outcome.Outcome.{Outcome}
use Rattle.p3l_base.specs.declared.outcome.Outcome.TheVariants.{Trapped}
use Rattle.p3l_base.specs.declared.outcome.TrapKind.TheVariants.{Index}
use Rattle.p3l_skel.specs.declared.tree.Form.{Form}
use Rattle.p3l_skel.specs.declared.tree.Form.TheVariants as forms
use Rattle.p3l_skel.specs.declared.tree.ModuleKind.{ModuleKind}
use Rattle.p3l_skel.specs.declared.tree.ModuleKind.TheVariants as kinds
use Rattle.p3l_skel.specs.declared.tree.ModuleInfo.{ModuleInfo}
use Rattle.p3l_skel.specs.declared.tree.Node.{Node}
use Rattle.p3l_skel.specs.declared.tree.Tree.{Tree}
use Rattle.p3l_skel.specs.Tree.{node_at}
use Rattle.p3l_skel.specs.Lawful.{IsLawfulTree}
use Rattle.p3l_skel.specs.Item.{item}
use Rattle.p3l_code.specs.declared.instr.Code.{Code}
use Rattle.p3l_code.specs.Machine.{exec}
use Rattle.p3l_units.specs.declared.table.BareNode.{BareNode}

-- a tree, and a code for each of its `seq` modules in their order
pub record Served : Type 0 where
  pub tree : Tree
  pub codes : List Code

abbrev pub is_seq_kind : ModuleKind → Bool
is_seq_kind kinds.Seq = true
is_seq_kind _ = false

abbrev pub one_if_seq : ModuleKind → ℕ
one_if_seq kinds.Seq = 1
one_if_seq _ = 0

-- the number of `seq` modules before a module
abbrev pub seqs_before : List ModuleInfo → ℕ → ℕ
seqs_before modules zero = 0
seqs_before [] (suc m) = 0
seqs_before (x ∷ modules) (suc m) = one_if_seq x.kind + seqs_before modules m

-- the given entry of a module, if it is a `seq` module
abbrev pub if_seq : {A : Type 0} → Option ModuleInfo → Option A → Option A
if_seq None found = None
if_seq (Some info) found = if is_seq_kind info.kind then found else None

-- of a list with an item for each `seq` module, in their order, the item of a module
abbrev pub item_of : {A : Type 0} → List ModuleInfo → List A → ℕ → Option A
item_of modules items m = if_seq (slice_get modules m) (slice_get items (seqs_before modules m))

-- the code of a module
abbrev pub code_of : Served → ℕ → Option Code
code_of served m = item_of served.tree.modules served.codes m

-- a code takes and gives the words of a node
pub record HasWordsOf (node : Node) (code : Code) : Type 0 where
  pub takes : code.ins ≡ node.ins
  pub gives : code.outs ≡ node.outs

-- a `seq` node has a code with its words
abbrev pub HasCode : Served → Node → Type 0
HasCode served node = node.form ≡ forms.Seq → IsSomeAnd (code_of served node.«module») (HasWordsOf node)

abbrev pub is_seq : Form → Bool
is_seq forms.Seq = true
is_seq _ = false

-- true exactly if a module's `seq` nodes take and give these numbers of words
abbrev pub agrees : ℕ → ℕ → ℕ → List Node → Bool
agrees m ins outs [] = true
agrees m ins outs (node ∷ nodes) =
    (if nat_eq node.«module» m && is_seq node.form then nat_eq ins node.ins && nat_eq outs node.outs else true) && agrees m ins outs nodes

-- the outcome if no code fits, which no lawful run comes to
abbrev pub unfit : ℕ → Outcome
unfit m = Trapped (record { kind = Index; «module» = m })

-- an outcome for the words that a module takes, where it takes and gives these numbers of them
abbrev pub if_fits : Tree → ℕ → ℕ → ℕ → List ℤ → Outcome → Outcome
if_fits tree m ins outs words outcome =
    if nat_eq (length words) ins && agrees m ins outs tree.nodes then outcome else unfit m

abbrev pub run_of : Served → ℕ → List ℤ → Option Code → Outcome
run_of served m words None = unfit m
run_of served m words (Some code) = if_fits served.tree m code.ins code.outs words (exec code m words)

-- the outcome of a module's code on the words that it takes
unfoldable pub leaf : Served → ℕ → List ℤ → Outcome
leaf served m words = run_of served m words (code_of served m)

-- the code of a lawful `seq` node makes of the words that it takes what the machine makes of them
abbrev pub LeavesAreRuns : Type 0
LeavesAreRuns =
    (served : Served) (k : ℕ) (code : Code) (words : List ℤ) → All (HasCode served) served.tree.nodes →
    k < length served.tree.nodes → (node_at served.tree k).form ≡ forms.Seq →
    code_of served (node_at served.tree k).«module» ≡ Some code → length words ≡ code.ins →
    leaf served (node_at served.tree k).«module» words ≡ exec code (node_at served.tree k).«module» words

-- a run of this code, as that of this module, is all that a node does: the node is a `seq` node, and rescues nothing
pub record DoesNode (served : Served) (k : ℕ) (code : Code) (m : ℕ) : Type 0 where
  pub form : (node_at served.tree k).form ≡ forms.Seq
  pub takes : code.ins ≡ (node_at served.tree k).ins
  pub gives : (words : List ℤ) → length words ≡ code.ins → exec code m words ≡ item served.tree (leaf served) k words

-- for each module, how many `seq` modules are before it
abbrev pub HasPlaces : List ModuleInfo → List ℕ → Type 0
HasPlaces modules places = (m : ℕ) → m < length modules → slice_get places m ≡ Some (seqs_before modules m)

-- the code at the place of a bare node does all that node k does
abbrev pub IsBareNode : Served → ℕ → BareNode → Type 0
IsBareNode served k bare = IsSomeAnd (slice_get served.codes bare.place) (λ code. DoesNode served k code bare.«module»)

-- for each node, the bare node that it is, if it is one
pub record HasBareNodes (served : Served) (bare_nodes : List (Option BareNode)) : Type 0 where
  pub whole : length bare_nodes ≡ length served.tree.nodes
  pub each : (k : ℕ) (found : Option BareNode) → slice_get bare_nodes k ≡ Some found → IfSome found (IsBareNode served k)

-- the tree is lawful, its `seq` nodes have codes, and the place of each module's code is noted
pub record ArePlaced (tree : Tree) (codes : List Code) (places : List ℕ) : Type 0 where
  pub lawful : IsLawfulTree tree
  pub have_codes : All (HasCode (record { tree = tree; codes = codes })) tree.nodes
  pub have_places : HasPlaces tree.modules places

-- the invariant of a table of units: the codes of the tree's `seq` nodes are found by their places, and those of
-- its bare nodes by one look
pub record IsTable (tree : Tree) (codes : List Code) (places : List ℕ) (bare_nodes : List (Option BareNode)) : Type 0 where
  pub placed : ArePlaced tree codes places
  pub bare : HasBareNodes (record { tree = tree; codes = codes }) bare_nodes
