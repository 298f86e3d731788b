-- The fold of what tokens came to, from its halves.
use Rattle.std.proofs.Common.{◌≡◌, ℕ, ℤ, zero, suc, ◌+◌, ◌/◌, ◌<◌, ◌≤◌, List, [], ◌∷◌, take, drop, length, get_or, refl, sym, ap, ap₂, ◌∙◌, subst, arith}
use Rattle.std.specs.List.{AllByRecursion}
use Rattle.p3l_base.specs.declared.outcome.Outcome.{Outcome}
use Rattle.p3l_base.specs.declared.outcome.Outcome.TheVariants.{Value, Trapped}
use Rattle.p3l_skel.specs.declared.tree.Tree.{Tree}
use Rattle.p3l_skel.specs.Fold.{combined, tree_fold}
use Rattle.p3l_skel.specs.Item.{item}
use Rattle.p3l_skel.specs.Tree.{HasFittingLength, HasLength}
use Rattle.p3l_skel.proofs.Folds.{tree_fold-halves, tree_fold-one}
use Rattle.p3l_firing.specs.declared.token.Token.{Token}
use Rattle.p3l_firing.specs.Nodes.{Leaf}
use Rattle.p3l_firing.specs.Token.{bodies}
use Rattle.p3l_firing.proofs.row.Join.{combined_long}
use Rattle.p3l_net.specs.Operators.{IsOperator, outs_of}
use Rattle.p3l_net.specs.Steps.{IfValues}

bodies-long : (tokens : List Token) → length (bodies tokens) ≡ length tokens
unfolding bodies
bodies-long [] = omega arith
bodies-long (token ∷ tokens) = ap suc (bodies-long tokens)

bodies-take : (k : ℕ) (tokens : List Token) → bodies (take k tokens) ≡ take k (bodies tokens)
unfolding bodies
bodies-take zero tokens = refl
bodies-take (suc k) [] = refl
bodies-take (suc k) (token ∷ tokens) = ap (λ xs. token.body ∷ xs) (bodies-take k tokens)

bodies-drop : (k : ℕ) (tokens : List Token) → bodies (drop k tokens) ≡ drop k (bodies tokens)
unfolding bodies
bodies-drop zero tokens = refl
bodies-drop (suc k) [] = refl
bodies-drop (suc k) (token ∷ tokens) = bodies-drop k tokens

-- one token alone
pub one_folded : (operator : List ℤ → Outcome) (tokens : List Token) (one : Token) → length tokens ≡ 1 → one ≡ get_or tokens 0 one → one.body ≡ tree_fold operator (bodies tokens)
unfolding bodies
one_folded operator [] one single is = absurd (omega (arith, single))
one_folded operator (x ∷ []) one single is = ap (λ (token : Token). token.body) is ∙ sym (tree_fold-one operator x.body)
one_folded operator (x ∷ (y ∷ tokens)) one single is = absurd (omega (arith, single))

-- two halves
pub halves_folded : (operator : List ℤ → Outcome) (tokens front back : List Token) (left right : Outcome) → 2 ≤ length tokens → front ≡ take (length tokens / 2) tokens → back ≡ drop (length tokens / 2) tokens → left ≡ tree_fold operator (bodies front) → right ≡ tree_fold operator (bodies back) → combined operator left right ≡ tree_fold operator (bodies tokens)
halves_folded operator tokens front back left right several first second folded rest =
    let long = bodies-long tokens in
    let l : left ≡ tree_fold operator (take (length (bodies tokens) / 2) (bodies tokens)) =
    folded ∙ ap (tree_fold operator) (ap bodies first ∙ bodies-take (length tokens / 2) tokens ∙ ap (λ n. take (n / 2) (bodies tokens)) (sym long)) in
    let r : right ≡ tree_fold operator (drop (length (bodies tokens) / 2) (bodies tokens)) =
    rest ∙ ap (tree_fold operator) (ap bodies second ∙ bodies-drop (length tokens / 2) tokens ∙ ap (λ n. drop (n / 2) (bodies tokens)) (sym long)) in
    ap₂ (combined operator) l r ∙ sym (tree_fold-halves operator (bodies tokens) (omega (arith, long, several)))

-- the tokens of the halves are as long
sized-take : (n k : ℕ) (tokens : List Token) → AllByRecursion (λ (token : Token). HasLength n token.body) tokens → AllByRecursion (λ (token : Token). HasLength n token.body) (take k tokens)
sized-take n zero tokens all = tt
sized-take n (suc k) [] all = tt
sized-take n (suc k) (token ∷ tokens) all = (all.0, sized-take n k tokens all.1)

sized-drop : (n k : ℕ) (tokens : List Token) → AllByRecursion (λ (token : Token). HasLength n token.body) tokens → AllByRecursion (λ (token : Token). HasLength n token.body) (drop k tokens)
sized-drop n zero tokens all = all
sized-drop n (suc k) [] all = tt
sized-drop n (suc k) (token ∷ tokens) all = sized-drop n k tokens all.1

module _ (n : ℕ) (tokens half : List Token) (all : AllByRecursion (λ (token : Token). HasLength n token.body) tokens) where
  pub front-sized : half ≡ take (length tokens / 2) tokens → AllByRecursion (λ (token : Token). HasLength n token.body) half
  front-sized e = subst (AllByRecursion (λ (token : Token). HasLength n token.body)) (sym e) (sized-take n (length tokens / 2) tokens all)

  pub back-sized : half ≡ drop (length tokens / 2) tokens → AllByRecursion (λ (token : Token). HasLength n token.body) half
  back-sized e = subst (AllByRecursion (λ (token : Token). HasLength n token.body)) (sym e) (sized-drop n (length tokens / 2) tokens all)

pub sized-first : (n : ℕ) (tokens : List Token) (one : Token) → 0 < length tokens → one ≡ get_or tokens 0 one → AllByRecursion (λ (token : Token). HasLength n token.body) tokens → HasLength n one.body
sized-first n [] one some is all = absurd (omega (arith, some))
sized-first n (x ∷ tokens) one some is all = subst (λ (token : Token). HasLength n token.body) (sym is) all.0

module _ (tree : Tree) (leaf : Leaf) (operator : ℕ) (is : IsOperator tree leaf operator) where
  -- it takes two results
  pub takes_both : (x y : Outcome) → HasLength (outs_of tree operator) x → HasLength (outs_of tree operator) y → IfValues x y (λ v w. HasFittingLength tree operator (length v + length w))
  takes_both (Value v) (Value w) left right = subst (HasFittingLength tree operator) (sym (ap₂ (λ a b. a + b) left right)) is.takes
  takes_both (Value v) (Trapped trap) left right = tt
  takes_both (Trapped trap) y left right = tt

  pub combined_sized : (x y : Outcome) → HasLength (outs_of tree operator) x → HasLength (outs_of tree operator) y → HasLength (outs_of tree operator) (combined (item tree leaf operator) x y)
  combined_sized x y left right = combined_long (item tree leaf operator) (outs_of tree operator) x y is.gives left right
