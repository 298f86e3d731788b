-- A loop whose body counts its first word down, and its turns up, until the first word is 0.
use Rattle.std.specs.Prelude.{ℕ, ℤ, pos, zero, suc, ◌+ℤ◌, ◌-ℤ◌, List, [], ◌∷◌, codes, slice_index_or, None}
use Rattle.p3l_base.specs.declared.outcome.Outcome.{Outcome}
use Rattle.p3l_base.specs.declared.outcome.Outcome.TheVariants.{Value}
use Rattle.p3l_skel.specs.declared.tree.Form.TheVariants.{Seq, Loop}
use Rattle.p3l_skel.specs.declared.tree.ModuleKind.TheVariants as kind
use Rattle.p3l_skel.specs.declared.tree.ModuleInfo.{ModuleInfo}
use Rattle.p3l_skel.specs.declared.tree.Tree.{Tree}

-- the modules of the loop, of its body and of its condition
unfoldable pub loop_modules : List ModuleInfo
loop_modules =
    record { name = codes "main"; kind = kind.Loop; rescue = None }
    ∷ (record { name = codes "body"; kind = kind.Seq; rescue = None }
    ∷ (record { name = codes "test"; kind = kind.Seq; rescue = None } ∷ []))

-- three turns and two tokens; node 1 is the body and node 2 the condition
unfoldable pub counting_loop : Tree
counting_loop = record {
  nodes = record { form = Loop 3 2; «module» = 0; ins = 2; outs = 2; parts = 1 ∷ (2 ∷ []) }
      ∷ (record { form = Seq; «module» = 1; ins = 2; outs = 2; parts = [] }
      ∷ (record { form = Seq; «module» = 2; ins = 2; outs = 1; parts = [] } ∷ []));
  modules = loop_modules;
}

-- word k of several
abbrev pub word_at : List ℤ → ℕ → ℤ
word_at words k = slice_index_or words k (pos 0)

-- the body, and the condition, which is the first word
abbrev pub counts_down : ℕ → List ℤ → Outcome
counts_down zero words = Value (word_at words 0 ∷ [])
counts_down (suc zero) words = Value ((word_at words 0 -ℤ pos 1) ∷ ((word_at words 1 +ℤ pos 1) ∷ []))
counts_down (suc (suc home)) words = Value (word_at words 0 ∷ [])
