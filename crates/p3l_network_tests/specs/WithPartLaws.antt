-- The parts of these trees give as many words as their nodes have outs.
use Rattle.std.proofs.Common.{◌≡◌, ℕ, ℤ, pos, negsuc, zero, suc, ◌<◌, List, [], ◌∷◌, length, refl, arith}
use Rattle.p3l_skel.specs.declared.tree.Form.TheVariants.{Seq}
use Rattle.p3l_skel.specs.Tree.{GivesOuts, HasLength, node_at}
use Rattle.p3l_network_tests.specs.WithPart.{with_part, four_map, five_reduce, three_reduce, checks, subtracts}
use Rattle.p3l_sketch.specs.Refusing.{refusing}

pub checks_give : GivesOuts four_map checks
unfolding with_part
checks_give = at_node
  where
    one_word : (words : List ℤ) → length words ≡ 1 → HasLength 1 (checks 1 words)
    one_word [] long = absurd (omega (arith, long))
    one_word (pos zero ∷ words) long = tt
    one_word (pos (suc n) ∷ words) long = long
    one_word (negsuc n ∷ words) long = tt

    at_node : (node : ℕ) (words : List ℤ) → node < 2 → (node_at four_map node).form ≡ Seq
        → length words ≡ (node_at four_map node).ins
        → HasLength (node_at four_map node).outs (checks (node_at four_map node).module words)
    at_node zero words low form long = cc
    at_node (suc zero) words low form long = one_word words long
    at_node (suc (suc node)) words low form long = absurd (omega (arith, low))

pub subtracts_give : GivesOuts five_reduce subtracts
unfolding with_part
subtracts_give = at_node
  where
    two_words : (words : List ℤ) → length words ≡ 2 → HasLength 1 (subtracts 1 words)
    two_words [] long = absurd (omega (arith, long))
    two_words (x ∷ []) long = absurd (omega (arith, long))
    two_words (x ∷ (y ∷ [])) long = refl
    two_words (x ∷ (y ∷ (z ∷ words))) long = absurd (omega (arith, long))

    at_node : (node : ℕ) (words : List ℤ) → node < 2 → (node_at five_reduce node).form ≡ Seq
        → length words ≡ (node_at five_reduce node).ins
        → HasLength (node_at five_reduce node).outs (subtracts (node_at five_reduce node).module words)
    at_node zero words low form long = cc
    at_node (suc zero) words low form long = two_words words long
    at_node (suc (suc node)) words low form long = absurd (omega (arith, low))

-- a body that always traps gives no value of another length
pub refusing_gives : GivesOuts three_reduce refusing
refusing_gives node words inside form fits = tt
