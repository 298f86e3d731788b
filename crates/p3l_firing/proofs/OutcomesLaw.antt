-- Lists of outcomes, up to and with their first trap.
use Rattle.std.proofs.Common.{◌≡◌, ℤ, true, false, List, [], ◌∷◌, ◌++◌, map, refl, ap, ◌∙◌}
use Rattle.std.proofs.lemmas.List.{append-nil}
use Rattle.p3l_base.specs.declared.outcome.Outcome.{Outcome}
use Rattle.p3l_base.specs.declared.outcome.Outcome.TheVariants.{Value, Trapped}
use Rattle.p3l_skel.specs.declared.tree.Tree.{Tree}
use Rattle.p3l_skel.specs.Item.{item, meaning, up_to_trap}
use Rattle.p3l_firing.specs.Token.{has_trap}
use Rattle.p3l_firing.specs.Nodes.{Leaf}
use Rattle.p3l_firing.specs.Outcomes.{up_to_first_trap, IsPrefixOf}

pub emit_more : (os : List Outcome) (o : Outcome) → has_trap os ≡ false → up_to_first_trap (os ++ o ∷ []) ≡ os ++ o ∷ []
unfolding up_to_first_trap has_trap
emit_more [] (Value w) h = refl
emit_more [] (Trapped t) h = refl
emit_more (Value w ∷ os) o h = ap (λ z. Value w ∷ z) (emit_more os o h)
emit_more (Trapped t ∷ os) o h = cc

pub begins_all : (xs rest : List Outcome) → up_to_first_trap xs ≡ xs → IsPrefixOf xs (up_to_first_trap (xs ++ rest))
unfolding up_to_first_trap
begins_all [] rest h = (up_to_first_trap rest, refl)
begins_all (Value w ∷ xs) rest h =
    let e : up_to_first_trap xs ≡ xs = cc in
    let r = begins_all xs rest e in
    (r.0, ap (λ z. Value w ∷ z) r.1)
begins_all (Trapped t ∷ xs) rest h =
    let e : xs ≡ [] = cc in
    ([], append-nil (Trapped t ∷ xs) ∙ ap (λ z. Trapped t ∷ z) e)

pub trap_ends_all : (xs rest : List Outcome) → has_trap xs ≡ true → up_to_first_trap xs ≡ xs → up_to_first_trap (xs ++ rest) ≡ xs
unfolding up_to_first_trap has_trap
trap_ends_all [] rest h k = cc
trap_ends_all (Value w ∷ xs) rest h k =
    let e : up_to_first_trap xs ≡ xs = cc in
    ap (λ z. Value w ∷ z) (trap_ends_all xs rest h e)
trap_ends_all (Trapped t ∷ xs) rest h k = k

-- the meaning is all outcomes up to and with the first trap
pub meaning_is : (tree : Tree) (leaf : Leaf) (items : List (List ℤ)) → meaning tree leaf items ≡ up_to_first_trap (map (item tree leaf 0) items)
unfolding up_to_first_trap
meaning_is tree leaf [] = refl
meaning_is tree leaf (words ∷ items) = ends (item tree leaf 0 words) (meaning tree leaf items) (map (item tree leaf 0) items) (meaning_is tree leaf items)
  where
    ends : (o : Outcome) (xs ys : List Outcome) → xs ≡ up_to_first_trap ys → up_to_trap o xs ≡ up_to_first_trap (o ∷ ys)
    ends (Value w) xs ys h = ap (λ z. Value w ∷ z) h
    ends (Trapped t) xs ys h = refl
