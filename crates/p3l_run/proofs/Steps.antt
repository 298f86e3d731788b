-- One item more.
use Rattle.std.proofs.Common.{◌≡◌, ℕ, ℤ, ◌+◌, ◌<◌, ◌≤◌, List, [], ◌∷◌, ◌++◌, length, sym, ap, subst, ◌∙◌, arith, append-nil, length-append}
use Rattle.std.specs.List.{AllByRecursion}
use Rattle.std.proofs.lemmas.List.Concat.{flat_map-append}
use Rattle.p3l_base.specs.declared.outcome.Outcome.TheVariants.{Value}
use Rattle.p3l_skel.specs.declared.tree.Tree.{Tree}
use Rattle.p3l_skel.specs.Item.{item}
use Rattle.p3l_skel.specs.Lawful.{IsLawfulTree}
use Rattle.p3l_skel.specs.Tree.{node_at}
use Rattle.p3l_skel.proofs.Depth.{lawful_at, IsSubtree-grows}
use Rattle.p3l_units.specs.Table.{Served, leaf}
use Rattle.p3l_profile.specs.Greatest.{Greatest, noted_all}
use Rattle.p3l_profile.specs.Law.{notes_of}
use Rattle.p3l_profile.specs.Notes.{notes}
use Rattle.p3l_profile.proofs.Noting.{noted_all-append, noted_all-none}
use Rattle.p3l_run.specs.Sampling.{IsNoted, IsValue}

pub root_there : (tree : Tree) → IsLawfulTree tree → 0 < length tree.nodes
root_there tree lawful = IsSubtree-grows 6 tree 0 (length tree.nodes) lawful.preorder

pub some_words : (tree : Tree) → IsLawfulTree tree → 1 ≤ (node_at tree 0).ins
some_words tree lawful = (lawful_at tree lawful 0 (root_there tree lawful)).ins.0

values_more : (P : List ℤ → Type 0) (items : List (List ℤ)) (words : List ℤ) → AllByRecursion P items → P words → AllByRecursion P (items ++ words ∷ [])
values_more P [] words all here = (here, tt)
values_more P (x ∷ items) words all here = (all.0, values_more P items words all.1 here)

-- before the first item
pub noted_none : (tree : Tree) (served : Served) (g : Greatest) → IsNoted tree served g g []
noted_none tree served g = record { values = tt; noted = sym (noted_all-none g) }

-- after an item that is no trap
pub noted_more : (tree : Tree) (served : Served) (start g g' : Greatest) (items : List (List ℤ)) (words result : List ℤ) → IsNoted tree served start g items →
    g' ≡ noted_all g (notes tree served 0 words) → Value result ≡ item tree (leaf served) 0 words → IsNoted tree served start g' (items ++ words ∷ [])
noted_more tree served start g g' items words result was now is = record {
  values = values_more (λ w. IsValue (item tree (leaf served) 0 w)) items words was.values (subst IsValue is tt);
  noted =
      let one : notes_of tree served (words ∷ []) ≡ notes tree served 0 words = append-nil (notes tree served 0 words) in
      now
      ∙ (ap (λ x. noted_all x (notes tree served 0 words)) was.noted
      ∙ (sym (noted_all-append start (notes_of tree served items) (notes tree served 0 words))
      ∙ (ap (λ n. noted_all start (notes_of tree served items ++ n)) (sym one)
      ∙ ap (noted_all start) (sym (flat_map-append (notes tree served 0) items (words ∷ []))))));
}

pub counted_more : (items : List (List ℤ)) (words : List ℤ) (count : ℕ) → count ≡ length items → count + 1 ≡ length (items ++ words ∷ [])
counted_more items words count was = omega (arith, was, length-append items (words ∷ []))
