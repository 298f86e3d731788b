-- Lawful counts that come first in a list of counts.
use Rattle.std.proofs.Common.{◌≡◌, ℕ, suc, ◌+◌, ◌<◌, List, [], ◌∷◌, ◌++◌, take, drop, get_or, length, refl, sym, ◌∙◌, subst, append_assoc}
use Rattle.std.proofs.Math.Seq.{drop-cons}
use Rattle.std.proofs.lemmas.List.{take-append-drop, take_more, flat_map_more}
use Rattle.std.proofs.lemmas.List.Concat.{flat_map-append}
use Rattle.std.specs.List.{flat_map}
use Rattle.p3l_skel.specs.declared.tree.Tree.{Tree}
use Rattle.p3l_skel.specs.Counts.{TakesLawful}

pub TakesLawful-append : (tree : Tree) (ks more ns middle rest : List ℕ) → TakesLawful tree ks ns middle → TakesLawful tree more middle rest → TakesLawful tree (ks ++ more) ns rest
TakesLawful-append tree [] more ns middle rest front back = subst (λ ms. TakesLawful tree more ms rest) (sym front) back
TakesLawful-append tree (k ∷ ks) more [] middle rest front back = front
TakesLawful-append tree (k ∷ ks) more (n ∷ ns) middle rest front back =
    (front.0, TakesLawful-append tree ks more ns middle rest front.1 back)

-- the counts left over after the first nodes' are those of the further nodes
pub TakesLawful-split : (tree : Tree) (ks more ns rest : List ℕ) → TakesLawful tree (ks ++ more) ns rest → (middle : List ℕ) × TakesLawful tree ks ns middle × TakesLawful tree more middle rest
TakesLawful-split tree [] more ns rest all = (ns, refl, all)
TakesLawful-split tree (k ∷ ks) more [] rest all = absurd all
TakesLawful-split tree (k ∷ ks) more (n ∷ ns) rest all =
    let tail = TakesLawful-split tree ks more ns rest all.1 in (tail.0, (all.0, tail.1), tail.2)

pub TakesLawful-unique : (tree : Tree) (ks ns rest other : List ℕ) → TakesLawful tree ks ns rest → TakesLawful tree ks ns other → rest ≡ other
TakesLawful-unique tree [] ns rest other one two = sym one ∙ two
TakesLawful-unique tree (k ∷ ks) [] rest other one two = absurd one
TakesLawful-unique tree (k ∷ ks) (n ∷ ns) rest other one two =
    TakesLawful-unique tree ks ns rest other one.1 two.1

-- a whole list by what comes before an item, at it and after it
flat_map-at : (f : ℕ → List ℕ) (items : List ℕ) (i d : ℕ) → i < length items → flat_map f items ≡ flat_map f (take i items) ++ (f (get_or items i d) ++ flat_map f (drop (suc i) items))
flat_map-at f items i d inside =
    subst (λ xs. flat_map f items ≡ flat_map f (take i items) ++ flat_map f xs) (drop-cons items i d inside)
    (subst (λ xs. flat_map f xs ≡ flat_map f (take i items) ++ flat_map f (drop i items)) (take-append-drop i items)
    (flat_map-append f (take i items) (drop i items)))

-- the counts of one part more
pub TakesLawful-more : (tree : Tree) (own : List ℕ) (f : ℕ → List ℕ) (items : List ℕ) (i d : ℕ) (ns middle rest : List ℕ) → i < length items → TakesLawful tree (own ++ flat_map f (take i items)) ns middle → TakesLawful tree (f (get_or items i d)) middle rest → TakesLawful tree (own ++ flat_map f (take (i + 1) items)) ns rest
TakesLawful-more tree own f items i d ns middle rest inside front back =
    rw (take_more items i d inside, ← flat_map_more f own (take i items) (get_or items i d))
    (TakesLawful-append tree (own ++ flat_map f (take i items)) (f (get_or items i d)) ns middle rest front back)

-- the counts of the whole are not lawful if those of one part are not
pub TakesLawful-stops : (tree : Tree) (own : List ℕ) (f : ℕ → List ℕ) (items : List ℕ) (i d : ℕ) (ns middle rest : List ℕ) → i < length items → TakesLawful tree (own ++ flat_map f (take i items)) ns middle → ((after : List ℕ) → TakesLawful tree (f (get_or items i d)) middle after → ⊥) → TakesLawful tree (own ++ flat_map f items) ns rest → ⊥
TakesLawful-stops tree own f items i d ns middle rest inside front wrong whole =
    let separated : TakesLawful tree ((own ++ flat_map f (take i items)) ++ (f (get_or items i d) ++ flat_map f (drop (suc i) items))) ns rest =
    rw (append_assoc own (flat_map f (take i items)), ← flat_map-at f items i d inside) whole in
    let first = TakesLawful-split tree (own ++ flat_map f (take i items)) _ ns rest separated in
    let second = TakesLawful-split tree (f (get_or items i d)) _ first.0 rest first.2 in
    wrong second.0 (subst (λ ms. TakesLawful tree (f (get_or items i d)) ms second.0) (TakesLawful-unique tree (own ++ flat_map f (take i items)) ns first.0 middle first.1 front) second.1)
