-- The forms of the nodes that processes belong to.
use Rattle.std.specs.Prelude.{◌≡◌, ℕ, ◌*◌, ⊤}
use Rattle.p3l_skel.specs.declared.tree.Form.{Form}
use Rattle.p3l_skel.specs.declared.tree.Form.TheVariants.{Seq, Comp, Pipe, Farm, Map, Reduce, Loop}

-- it is that of a map
abbrev pub IsMap : Form → Type 0
IsMap Seq = ⊥
IsMap Comp = ⊥
IsMap Pipe = ⊥
IsMap (Farm workers) = ⊥
IsMap (Map workers cut) = ⊤
IsMap (Reduce workers len elem) = ⊥
IsMap (Loop turns tokens) = ⊥

-- it is that of a reduce
abbrev pub IsReduce : Form → Type 0
IsReduce Seq = ⊥
IsReduce Comp = ⊥
IsReduce Pipe = ⊥
IsReduce (Farm workers) = ⊥
IsReduce (Map workers cut) = ⊥
IsReduce (Reduce workers len elem) = ⊤
IsReduce (Loop turns tokens) = ⊥

-- this number of words is that of elements of `elem` words each
abbrev pub IsInElements : ℕ → ℕ → Type 0
IsInElements elem words = (count : ℕ) × (words ≡ count * elem)
