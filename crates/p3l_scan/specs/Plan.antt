-- THE PLAN OF A SCAN: a pipe of stages, each a map over blocks whose part is one process. The first stage scans each block;
-- each later one has half as many blocks, and merges the two halves of each.
use Rattle.std.specs.Prelude.{◌≡◌, ℕ, zero, suc, ◌+◌, ◌*◌, ◌^◌, ◌≤◌, Option, None, List, [], ◌∷◌}
use Rattle.p3l_base.specs.declared.slice.Place.TheVariants.{First, Rest}
use Rattle.p3l_base.specs.declared.slice.Slice.{Slice}
use Rattle.p3l_base.specs.declared.cut.Cut.{Cut}
use Rattle.p3l_skel.specs.declared.tree.Form.{Form}
use Rattle.p3l_skel.specs.declared.tree.Form.TheVariants.{Seq, Comp, Pipe, Farm, Map, Reduce, Loop}
use Rattle.p3l_skel.specs.declared.tree.ModuleInfo.{ModuleInfo}
use Rattle.p3l_skel.specs.declared.tree.ModuleKind.TheVariants as kind
use Rattle.p3l_skel.specs.declared.tree.Node.{Node}
use Rattle.p3l_skel.specs.declared.tree.Tree.{Tree}
use Rattle.p3l_skel.specs.Tree.{node_at}

-- the node of stage s, and that of the step which is its part
abbrev pub stage_node : ℕ → ℕ
stage_node s = suc (s + s)

abbrev pub step_node : ℕ → ℕ
step_node s = suc (suc (s + s))

-- `n` blocks of `words` words each, one after the other, of which an element of the map takes one
abbrev pub blocks_slice : (n words : ℕ) → Slice
blocks_slice n words = record { start = 0; dims = record { size = n; place = First } ∷ (record { size = words; place = Rest } ∷ []) }

abbrev pub blocks_cut : (n words : ℕ) → Cut
blocks_cut n words = record { first = n; second = 1; ins = blocks_slice n words ∷ []; outs = blocks_slice n words ∷ [] }

-- stage `s`: a map over `n` blocks of `words` words
abbrev pub stage_of : (s n words : ℕ) → Node
stage_of s n words = record {
  form = Map None (blocks_cut n words);
  «module» = stage_node s;
  ins = n * words;
  outs = n * words;
  parts = step_node s ∷ [];
}

-- its part: from block to block
abbrev pub step_of : (s words : ℕ) → Node
step_of s words = record { form = Seq; «module» = step_node s; ins = words; outs = words; parts = [] }

-- the stages from `s` on, where `more` follow it and its blocks have `words` words: each with its part
unfoldable pub stages_from : (s more words : ℕ) → List Node
stages_from s zero words = stage_of s 1 words ∷ (step_of s words ∷ [])
stages_from s (suc more) words =
    stage_of s (2 ^ suc more) words ∷ (step_of s words ∷ stages_from (suc s) more (2 * words))

-- their numbers
unfoldable pub numbers_of : (s more : ℕ) → List ℕ
numbers_of s zero = stage_node s ∷ []
numbers_of s (suc more) = stage_node s ∷ numbers_of (suc s) more

-- the root: all stages in order
abbrev pub root_of : (levels words : ℕ) → Node
root_of levels words = record {
  form = Pipe;
  «module» = 0;
  ins = 2 ^ levels * words;
  outs = 2 ^ levels * words;
  parts = numbers_of 0 levels;
}

-- the bytes of the names
abbrev pub main_name : List ℕ
main_name = 109 ∷ (97 ∷ (105 ∷ (110 ∷ [])))

abbrev pub stage_name : List ℕ
stage_name = 115 ∷ (116 ∷ (97 ∷ (103 ∷ (101 ∷ []))))

abbrev pub step_name : List ℕ
step_name = 115 ∷ (116 ∷ (101 ∷ (112 ∷ [])))

-- a module of each node, with no rescue number
abbrev pub main_info : ModuleInfo
main_info = record { name = main_name; kind = kind.Pipe; rescue = None }

abbrev pub stage_info : ModuleInfo
stage_info = record { name = stage_name; kind = kind.Map; rescue = None }

abbrev pub step_info : ModuleInfo
step_info = record { name = step_name; kind = kind.Seq; rescue = None }

-- those of a stage that `more` stages follow, and of these
unfoldable pub infos_of : (more : ℕ) → List ModuleInfo
infos_of zero = stage_info ∷ (step_info ∷ [])
infos_of (suc more) = stage_info ∷ (step_info ∷ infos_of more)

-- the numbers of blocks of these stages, each half as many as the one before it
unfoldable pub counts_of : (more : ℕ) → List ℕ
counts_of zero = 1 ∷ []
counts_of (suc more) = 2 ^ suc more ∷ counts_of more

-- THE TREE of a plan in which `levels` stages follow the first, whose blocks have `words` words
unfoldable pub plan_tree : (levels words : ℕ) → Tree
plan_tree levels words = record {
  nodes = root_of levels words ∷ stages_from 0 levels words;
  modules = main_info ∷ infos_of levels;
}

-- a form is that of a reduce
abbrev pub IsReduce : Form → Type 0
IsReduce (Reduce clause len elem) = Unit {0}
IsReduce Seq = ⊥
IsReduce Comp = ⊥
IsReduce Pipe = ⊥
IsReduce (Farm clause) = ⊥
IsReduce (Map clause cut) = ⊥
IsReduce (Loop turns tokens) = ⊥

-- the root of a tree can be scanned in `segments` segments: it is a reduce, and they are a power of two that divides its length
pub record IsScannable (tree : Tree) (segments : ℕ) : Type 0 where
  pub clause : Option ℕ
  pub len : ℕ
  pub elem : ℕ
  pub form : (node_at tree 0).form ≡ Reduce clause len elem
  pub levels : ℕ
  pub few : levels ≤ 9
  pub power : segments ≡ 2 ^ levels
  pub size : ℕ
  pub sized : len ≡ segments * size
