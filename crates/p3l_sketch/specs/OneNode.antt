-- A tree of one node, whose body gives back the word that it is given.
use Rattle.std.specs.Prelude.{ℕ, ℤ, List, [], ◌∷◌, codes, None}
use Rattle.p3l_base.specs.declared.outcome.Outcome.{Outcome}
use Rattle.p3l_base.specs.declared.outcome.Outcome.TheVariants.{Value}
use Rattle.p3l_skel.specs.declared.tree.Form.TheVariants.{Seq}
use Rattle.p3l_skel.specs.declared.tree.ModuleKind.TheVariants as kind
use Rattle.p3l_skel.specs.declared.tree.Tree.{Tree}

-- the node `main`, which takes and gives one word
unfoldable pub one_node : Tree
one_node = record {
  nodes = record { form = Seq; «module» = 0; ins = 1; outs = 1; parts = [] } ∷ [];
  modules = record { name = codes "main"; kind = kind.Seq; rescue = None } ∷ [];
}

-- what a body makes of words that it gives back
abbrev pub given_back : ℕ → List ℤ → Outcome
given_back home words = Value words
