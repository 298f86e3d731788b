-- The functions of bodies, one after the other.
use Rattle.std.proofs.Common.{◌≡◌, ℕ, ◌+◌, ◌<◌, ◌≤◌, List, [], ◌∷◌, ◌++◌, map, drop, get_or, length, sym, ap, ◌∙◌}
use Rattle.std.proofs.lemmas.List.{drop_more, drop_all}
use Rattle.p3l_skel.specs.declared.tree.Tree.{Tree}
use Rattle.p3l_body.specs.declared.checked.CheckedSeq.{CheckedSeq}
use Rattle.p3l_body.specs.Seq.{seq_tree}
use Rattle.p3l_c_print.specs.Bodies.{one_text, functions_text}

pub body_left : (tree : Tree) (seqs : List CheckedSeq) (i : ℕ) (seq : CheckedSeq) → i < length seqs → seq ≡ get_or seqs i seq
    → functions_text tree (map seq_tree (drop i seqs)) ≡ one_text tree (seq_tree seq) ++ functions_text tree (map seq_tree (drop (i + 1) seqs))
body_left tree seqs i seq inside is =
    ap (λ xs. functions_text tree (map seq_tree xs)) (drop_more seqs i seq inside ∙ ap (λ y. y ∷ drop (i + 1) seqs) (sym is))

pub no_body_left : (tree : Tree) (seqs : List CheckedSeq) (i : ℕ) → length seqs ≤ i → functions_text tree (map seq_tree (drop i seqs)) ≡ []
no_body_left tree seqs i past = ap (λ xs. functions_text tree (map seq_tree xs)) (drop_all i seqs past)
