-- Trees of a root with one `seq` part: a map of four words, one by one, and reduces of words.
use Rattle.std.specs.Prelude.{ℕ, ℤ, None, List, [], ◌∷◌, codes}
use Rattle.p3l_base.specs.declared.outcome.Outcome.{Outcome}
use Rattle.p3l_skel.specs.declared.tree.Form.{Form}
use Rattle.p3l_skel.specs.declared.tree.Form.TheVariants.{Seq, Map, Reduce}
use Rattle.p3l_skel.specs.declared.tree.ModuleKind.{ModuleKind}
use Rattle.p3l_skel.specs.declared.tree.ModuleKind.TheVariants as kind
use Rattle.p3l_skel.specs.declared.tree.ModuleInfo.{ModuleInfo}
use Rattle.p3l_skel.specs.declared.tree.Tree.{Tree}
use Rattle.p3l_skel.specs.Examples.{checked, four_cut, minus}

-- the modules of a root of this kind and of its part
unfoldable pub two_modules : ModuleKind → List ModuleInfo
two_modules of_root =
    record { name = codes "main"; kind = of_root; rescue = None }
    ∷ (record { name = codes "part"; kind = kind.Seq; rescue = None } ∷ [])

-- a root of this form with a part, and the words that both take and give
unfoldable pub with_part : Form → ModuleKind → ℕ → ℕ → ℕ → ℕ → Tree
with_part form of_root ins outs part_ins part_outs = record {
  nodes = record { form = form; «module» = 0; ins = ins; outs = outs; parts = 1 ∷ [] }
      ∷ (record { form = Seq; «module» = 1; ins = part_ins; outs = part_outs; parts = [] } ∷ []);
  modules = two_modules of_root;
}

abbrev pub four_map : Tree
four_map = with_part (Map None four_cut) kind.Map 4 4 1 1

-- a reduce of `len` words
abbrev pub reduce_of : ℕ → Tree
reduce_of len = with_part (Reduce None len 1) kind.Reduce len 1 2 1

abbrev pub five_reduce : Tree
five_reduce = reduce_of 5

abbrev pub three_reduce : Tree
three_reduce = reduce_of 3

-- the part of the map: a trap at a number below 0, another one at 0, and else the number
abbrev pub checks : ℕ → List ℤ → Outcome
checks home = checked

-- the part of the reduce: the difference of two words
abbrev pub subtracts : ℕ → List ℤ → Outcome
subtracts home = minus
