-- The loop, as it is built, and what its nodes make of words.
use Rattle.std.proofs.Common.{◌≡◌, ℕ, ℤ, List, [], ◌∷◌, ◌++◌, Result, IfOk, sym, subst, None}
use Rattle.p3l_base.specs.Memory.{IfGiven}
use Rattle.p3l_base.specs.declared.NoMemory.{NoMemory}
use Rattle.p3l_base.specs.declared.outcome.Outcome.{Outcome}
use Rattle.p3l_skel.specs.Item.{item, item_to}
use Rattle.p3l_skel.specs.Tree.{by_parts}
use Rattle.p3l_skel.specs.declared.tree.Form.TheVariants.{Seq, Loop}
use Rattle.p3l_skel.specs.declared.tree.ModuleKind.TheVariants as kind
use Rattle.p3l_skel.specs.declared.tree.ModuleInfo.{ModuleInfo}
use Rattle.p3l_skel.specs.declared.tree.Node.{Node}
use Rattle.p3l_skel.specs.declared.tree.Tree.{Tree}
use Rattle.p3l_network_tests.specs.Looped.{loop_modules, counting_loop, counts_down}

pub modules_are : (none one two three : List ModuleInfo) →
    none ≡ [] → one ≡ none ++ record { name = 109 ∷ 97 ∷ 105 ∷ 110 ∷ []; kind = kind.Loop; rescue = None } ∷ [] →
    two ≡ one ++ record { name = 98 ∷ 111 ∷ 100 ∷ 121 ∷ []; kind = kind.Seq; rescue = None } ∷ [] →
    three ≡ two ++ record { name = 116 ∷ 101 ∷ 115 ∷ 116 ∷ []; kind = kind.Seq; rescue = None } ∷ [] → three ≡ loop_modules
unfolding loop_modules
modules_are none one two three a b c d = cc

pub tree_is : (parts : List ℕ) (none one two three : List Node) (body test : Node) (modules : List ModuleInfo) →
    parts ≡ 1 ∷ (2 ∷ []) →
    none ≡ [] → one ≡ none ++ record { form = Loop 3 2; «module» = 0; ins = 2; outs = 2; parts = parts } ∷ [] →
    body ≡ record { form = Seq; «module» = 1; ins = 2; outs = 2; parts = [] } → two ≡ one ++ body ∷ [] →
    test ≡ record { form = Seq; «module» = 2; ins = 2; outs = 1; parts = [] } → three ≡ two ++ test ∷ [] →
    modules ≡ loop_modules → let tree : Tree = record { nodes = three; modules = modules } in tree ≡ counting_loop
unfolding counting_loop
tree_is parts none one two three body test modules a b c d e f g h = cc

-- a node of the loop that is run
pub body_is : (node : ℕ) (words : List ℤ) (r : Result Outcome NoMemory) → node ≡ 1 → IfOk r (λ o. o ≡ counts_down 1 words) → IfOk r (λ o. o ≡ item counting_loop counts_down node words)
unfolding item_to by_parts counting_loop loop_modules
body_is node words r is made = subst (λ n. IfOk r (λ o. o ≡ item counting_loop counts_down n words)) (sym is) made

pub test_is : (node : ℕ) (words : List ℤ) (r : Result Outcome NoMemory) → node ≡ 2 → IfGiven r (λ o. o ≡ counts_down 2 words) → IfGiven r (λ o. o ≡ item counting_loop counts_down node words)
unfolding item_to by_parts counting_loop loop_modules
test_is node words r is made = subst (λ n. IfGiven r (λ o. o ≡ item counting_loop counts_down n words)) (sym is) made
