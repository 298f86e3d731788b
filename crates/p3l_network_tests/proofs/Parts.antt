-- The trees of a root with one part, as they are built, and what their nodes make of words.
use Rattle.std.proofs.Common.{◌≡◌, ℕ, ℤ, pos, zero, suc, ◌-ℤ◌, List, [], ◌∷◌, ◌++◌, length, get_or, Result, IfOk, refl, sym, subst, arith, None}
use Rattle.p3l_base.specs.Memory.{IfGiven}
use Rattle.p3l_base.specs.declared.NoMemory.{NoMemory}
use Rattle.p3l_base.specs.declared.outcome.Outcome.{Outcome}
use Rattle.p3l_base.specs.declared.outcome.Outcome.TheVariants.{Value, Trapped}
use Rattle.p3l_base.specs.declared.outcome.TrapKind.TheVariants.{DivZero}
use Rattle.p3l_skel.specs.Examples.{checked}
use Rattle.p3l_skel.specs.Fold.{fold_of_up_to}
use Rattle.p3l_skel.specs.Item.{item, item_to}
use Rattle.p3l_skel.specs.Tree.{IsUnit, by_parts}
use Rattle.p3l_skel.specs.declared.tree.Form.{Form}
use Rattle.p3l_skel.specs.declared.tree.Form.TheVariants.{Seq}
use Rattle.p3l_skel.specs.declared.tree.ModuleKind.{ModuleKind}
use Rattle.p3l_skel.specs.declared.tree.ModuleKind.TheVariants as kind
use Rattle.p3l_skel.specs.declared.tree.ModuleInfo.{ModuleInfo}
use Rattle.p3l_skel.specs.declared.tree.Node.{Node}
use Rattle.p3l_skel.specs.declared.tree.Tree.{Tree}
use Rattle.p3l_network_tests.specs.WithPart.{two_modules, with_part, four_map, five_reduce, three_reduce, checks, subtracts}
use Rattle.p3l_sketch.specs.Refusing.{refusing}

pub modules_are : (of_root : ModuleKind) (none one two : List ModuleInfo) →
    none ≡ [] → one ≡ none ++ record { name = 109 ∷ 97 ∷ 105 ∷ 110 ∷ []; kind = of_root; rescue = None } ∷ [] →
    two ≡ one ++ record { name = 112 ∷ 97 ∷ 114 ∷ 116 ∷ []; kind = kind.Seq; rescue = None } ∷ [] → two ≡ two_modules of_root
unfolding two_modules
modules_are of_root none one two a b c = cc

pub tree_is : (form : Form) (of_root : ModuleKind) (ins outs part_ins part_outs : ℕ) (none one two : List Node) (parts no_parts : List ℕ) (modules : List ModuleInfo) →
    none ≡ [] → parts ≡ 1 ∷ [] → no_parts ≡ [] →
    one ≡ none ++ record { form = form; «module» = 0; ins = ins; outs = outs; parts = parts } ∷ [] →
    two ≡ one ++ record { form = Seq; «module» = 1; ins = part_ins; outs = part_outs; parts = no_parts } ∷ [] →
    modules ≡ two_modules of_root → let tree : Tree = record { nodes = two; modules = modules } in tree ≡ with_part form of_root ins outs part_ins part_outs
unfolding with_part
tree_is form of_root ins outs part_ins part_outs none one two parts no_parts modules a b c d e f = cc

one_word : (words : List ℤ) (r : Result Outcome NoMemory) → length words ≡ 1 → IfGiven r (λ o. o ≡ checked (get_or words 0 (pos 0) ∷ [])) → IfGiven r (λ o. o ≡ item four_map checks 1 words)
unfolding item_to by_parts with_part two_modules
one_word [] r e made = absurd (omega (arith, e))
one_word (x ∷ []) r e made = made
one_word (x ∷ (y ∷ words)) r e made = absurd (omega (arith, e))

pub checks_is : (node : ℕ) (words : List ℤ) (r : Result Outcome NoMemory) → node ≡ 1 → length words ≡ 1 → IfGiven r (λ o. o ≡ checked (get_or words 0 (pos 0) ∷ [])) → IfGiven r (λ o. o ≡ item four_map checks node words)
checks_is node words r is long made = subst (λ n. IfGiven r (λ o. o ≡ item four_map checks n words)) (sym is) (one_word words r long made)

pub pair_is : (node : ℕ) (words : List ℤ) (r : Result Outcome NoMemory) → IsUnit five_reduce node → length words ≡ 2 → IfOk r (λ o. o ≡ Value ((get_or words 0 (pos 0) -ℤ get_or words 1 (pos 0)) ∷ [])) → IfOk r (λ o. o ≡ item five_reduce subtracts node words)
unfolding item_to by_parts with_part fold_of_up_to two_modules
pair_is node [] r unit e made = absurd (omega (arith, e))
pair_is node (x ∷ []) r unit e made = absurd (omega (arith, e))
pair_is zero (x ∷ (y ∷ [])) r unit e made = made
pair_is (suc zero) (x ∷ (y ∷ [])) r unit e made = made
pair_is (suc (suc node)) (x ∷ (y ∷ [])) r unit e made = absurd (omega (arith, unit.in_tree))
pair_is node (x ∷ (y ∷ (z ∷ words))) r unit e made = absurd (omega (arith, e))

three_words : (words : List ℤ) (r : Result Outcome NoMemory) → length words ≡ 3 → IfOk r (λ o. o ≡ Value ((get_or words 0 (pos 0) -ℤ (get_or words 1 (pos 0) -ℤ get_or words 2 (pos 0))) ∷ [])) → IfOk r (λ o. o ≡ item five_reduce subtracts 0 words)
unfolding item_to by_parts with_part fold_of_up_to two_modules
three_words [] r e made = absurd (omega (arith, e))
three_words (x ∷ []) r e made = absurd (omega (arith, e))
three_words (x ∷ (y ∷ [])) r e made = absurd (omega (arith, e))
three_words (x ∷ (y ∷ (z ∷ []))) r e made = made
three_words (x ∷ (y ∷ (z ∷ (w ∷ words)))) r e made = absurd (omega (arith, e))

pub triple_is : (node : ℕ) (words : List ℤ) (r : Result Outcome NoMemory) → node ≡ 0 → length words ≡ 3 → IfOk r (λ o. o ≡ Value ((get_or words 0 (pos 0) -ℤ (get_or words 1 (pos 0) -ℤ get_or words 2 (pos 0))) ∷ [])) → IfOk r (λ o. o ≡ item five_reduce subtracts node words)
triple_is node words r is long made = subst (λ n. IfOk r (λ o. o ≡ item five_reduce subtracts n words)) (sym is) (three_words words r long made)

-- a part that traps
pub refused_pair : (node : ℕ) (words : List ℤ) → IsUnit three_reduce node → length words ≡ 2 → Trapped (record { kind = DivZero; «module» = 0 }) ≡ item three_reduce refusing node words
unfolding item_to by_parts with_part fold_of_up_to two_modules
refused_pair node [] unit e = absurd (omega (arith, e))
refused_pair node (x ∷ []) unit e = absurd (omega (arith, e))
refused_pair zero (x ∷ (y ∷ [])) unit e = refl
refused_pair (suc zero) (x ∷ (y ∷ [])) unit e = refl
refused_pair (suc (suc node)) (x ∷ (y ∷ [])) unit e = absurd (omega (arith, unit.in_tree))
refused_pair node (x ∷ (y ∷ (z ∷ words))) unit e = absurd (omega (arith, e))

alone : (words : List ℤ) (r : Result Outcome NoMemory) → length words ≡ 1 → IfGiven r (λ o. o ≡ Value (get_or words 0 (pos 0) ∷ [])) → IfGiven r (λ o. o ≡ item three_reduce refusing 0 words)
unfolding item_to by_parts with_part fold_of_up_to two_modules
alone [] r e made = absurd (omega (arith, e))
alone (x ∷ []) r e made = made
alone (x ∷ (y ∷ words)) r e made = absurd (omega (arith, e))

pub alone_is : (node : ℕ) (words : List ℤ) (r : Result Outcome NoMemory) → node ≡ 0 → length words ≡ 1 → IfGiven r (λ o. o ≡ Value (get_or words 0 (pos 0) ∷ [])) → IfGiven r (λ o. o ≡ item three_reduce refusing node words)
alone_is node words r is long made = subst (λ n. IfGiven r (λ o. o ≡ item three_reduce refusing n words)) (sym is) (alone words r long made)
