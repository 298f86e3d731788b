-- Bodies that are the same but for positions have one meaning in a tree.
use Rattle.std.proofs.Common.{◌≡◌, ℕ, ℤ, zero, suc, Bool, true, false, if◌then◌else◌, List, [], ◌∷◌, map, length, Option, Some, None, refl, ap, sym, ◌∙◌}
use Rattle.std.specs.Prelude.{slice_get, option_map, nat_eq}
use Rattle.p3l_skel.specs.declared.tree.ModuleInfo.{ModuleInfo}
use Rattle.p3l_skel.specs.declared.tree.Tree.{Tree}
use Rattle.p3l_skel.specs.Item.{meaning}
use Rattle.p3l_body.specs.Seq.{SeqTree}
use Rattle.p3l_check.specs.Resolving.{ResolvedTree}
use Rattle.p3l_position_laws.specs.Bodies.{seq_unplaced}
use Rattle.p3l_position_laws.specs.Alike.{OneMeaning}
use Rattle.p3l_units.specs.Table.{is_seq_kind, seqs_before, if_seq, unfit}
use Rattle.p3l_compile.specs.Condition.{total}
use Rattle.p3l_compile.specs.Leaves.{body_of, body_leaf}
use Rattle.p3l_compile.specs.Leaves as leaves
use Rattle.p3l_position_laws.proofs.Meaning.{eval_same}

same_function : {A B : Type 0} (f g : A → B) → ((x : A) → f x ≡ g x) → f ≡ g
same_function f g h = λ i x. h x i

at_same : (seqs : List SeqTree) (k : ℕ) → slice_get (map seq_unplaced seqs) k ≡ option_map seq_unplaced (slice_get seqs k)
at_same [] k = refl
at_same (seq ∷ seqs) zero = refl
at_same (seq ∷ seqs) (suc k) = at_same seqs k

chosen_same : (o : Option ModuleInfo) (found : Option SeqTree) → if_seq o (option_map seq_unplaced found) ≡ option_map seq_unplaced (if_seq o found)
chosen_same None found = refl
chosen_same (Some info) found = by (is_seq_kind info.kind)
  where
    by : (b : Bool) → (if b then option_map seq_unplaced found else None) ≡ option_map seq_unplaced (if b then found else None)
    by true = refl
    by false = refl

body_same : (m : ℕ) (words : List ℤ) (o : Option SeqTree) → leaves.meaning m words (option_map seq_unplaced o) ≡ leaves.meaning m words o
body_same m words None = refl
body_same m words (Some seq) = ap (λ t. if nat_eq (length words) (total seq.ins) then t else unfit m) (eval_same seq words)

leaf_same : (tree : Tree) (seqs : List SeqTree) (m : ℕ) (words : List ℤ) → body_leaf tree (map seq_unplaced seqs) m words ≡ body_leaf tree seqs m words
unfolding body_leaf
leaf_same tree seqs m words =
    ap (λ o. leaves.meaning m words (if_seq (slice_get tree.modules m) o)) (at_same seqs (seqs_before tree.modules m))
    ∙ ap (leaves.meaning m words) (chosen_same (slice_get tree.modules m) (slice_get seqs (seqs_before tree.modules m)))
    ∙ body_same m words (body_of tree seqs m)

-- the same tree with the same bodies but for positions has the same leaves, and so one meaning
leaves_same : (tree : Tree) (seqs others : List SeqTree) → map seq_unplaced others ≡ map seq_unplaced seqs → body_leaf tree others ≡ body_leaf tree seqs
leaves_same tree seqs others e =
    same_function _ _ (λ m. same_function _ _ (λ words. sym (leaf_same tree others m words) ∙ ap (λ l. body_leaf tree l m words) e ∙ leaf_same tree seqs m words))

pub one_meaning : (r s : ResolvedTree) → s.tree ≡ r.tree → map seq_unplaced s.seqs ≡ map seq_unplaced r.seqs → OneMeaning r s
one_meaning r s t b items =
    ap (λ u. meaning u (body_leaf u s.seqs) items) t ∙ ap (λ leaf. meaning r.tree leaf items) (leaves_same r.tree r.seqs s.seqs b)
