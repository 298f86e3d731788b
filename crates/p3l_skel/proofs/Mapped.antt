-- The results of a map's elements, gathered, and the fold of elements by halves.
use Rattle.std.proofs.Common.{◌≡◌, ℕ, ℤ, suc, ◌+◌, ◌-◌, ◌*◌, ◌/◌, ◌<◌, ◌≤◌, Result, Ok, Err, IfOk, List, [], ◌∷◌, ◌++◌, take, drop, get_or, length, map, refl, arith, ap, sym, ◌∙◌, subst, length-append}
use Rattle.std.specs.List.{range_with_len}
use Rattle.std.proofs.lemmas.List.{length-map, map-append, take-map, drop-map}
use Rattle.std.proofs.lemmas.List.FromFn.{length-map-range_with_len, map-range_with_len_more}
use Rattle.p3l_base.proofs.Pieces.{range_append}
use Rattle.p3l_base.specs.declared.outcome.Outcome.{Outcome}
use Rattle.p3l_base.specs.declared.outcome.Outcome.TheVariants.{Value, Trapped}
use Rattle.p3l_base.specs.declared.outcome.Trap.{Trap}
use Rattle.p3l_base.specs.declared.NoMemory.{NoMemory}
use Rattle.p3l_skel.specs.Tree.{HasLength}
use Rattle.p3l_skel.specs.Fold.{combined, tree_fold}
use Rattle.p3l_skel.specs.Item.{on_value, gathered}
use Rattle.p3l_skel.proofs.Folds.{tree_fold-one, tree_fold-halves}

-- a property of the one outcome that a call may give holds of its result
pub if_ok-along : (P : Outcome → Type 0) (r : Result Outcome NoMemory) (x : Outcome) → P x → IfOk r (λ o. o ≡ x) → IfOk r P
if_ok-along P (Ok o) x holds same = subst P (sym same) holds
if_ok-along P (Err e) x holds same = tt

pub if_ok-same : (r : Result Outcome NoMemory) (x y : Outcome) → x ≡ y → IfOk r (λ o. o ≡ x) → IfOk r (λ o. o ≡ y)
if_ok-same r x y same holds = if_ok-along (λ o. o ≡ y) r x same holds

-- values alone are joined
pub gathered-values : (join : List (List ℤ) → List ℤ) (results : List (List ℤ)) → gathered join (map (λ result. Value result) results) ≡ Value (join results)
gathered-values join [] = refl
gathered-values join (r ∷ rs) = gathered-values (λ results. join (r ∷ results)) rs

-- the first trap after values is what is gathered
gathered-trap : (join : List (List ℤ) → List ℤ) (results : List (List ℤ)) (trap : Trap) (more : List Outcome) → gathered join (map (λ result. Value result) results ++ (Trapped trap ∷ more)) ≡ Trapped trap
gathered-trap join [] trap more = refl
gathered-trap join (r ∷ rs) trap more = gathered-trap (λ results. join (r ∷ results)) rs trap more

pub mapped-trap : (f : ℕ → Outcome) (join : List (List ℤ) → List ℤ) (results : List (List ℤ)) (trap : Trap) (e count : ℕ) → e < count → map (λ result. Value result) results ≡ map f (range_with_len 0 e) → Trapped trap ≡ f e → Trapped trap ≡ gathered join (map f (range_with_len 0 count))
mapped-trap f join results trap e count inside so_far is =
    let n : ℕ = count - e - 1 in
    let whole : count ≡ e + suc n = omega arith in
    let zero_e : 0 + e ≡ e = omega arith in
    sym (ap (λ c. gathered join (map f (range_with_len 0 c))) whole
    ∙ (ap (λ es. gathered join (map f es)) (range_append 0 e (suc n))
    ∙ (ap (gathered join) (map-append f (range_with_len 0 e) (range_with_len (0 + e) (suc n)))
    ∙ (ap (λ xs. gathered join (xs ++ map f (range_with_len (0 + e) (suc n)))) (sym so_far)
    ∙ (ap (λ k. gathered join (map (λ result. Value result) results ++ (f k ∷ map f (range_with_len (0 + e + 1) n)))) zero_e
    ∙ (ap (λ x. gathered join (map (λ result. Value result) results ++ (x ∷ map f (range_with_len (0 + e + 1) n)))) (sym is)
    ∙ gathered-trap join results trap (map f (range_with_len (0 + e + 1) n))))))))

pub mapped-more : (f : ℕ → Outcome) (results grown : List (List ℤ)) (result : List ℤ) (e : ℕ) → grown ≡ results ++ result ∷ [] → map (λ r. Value r) results ≡ map f (range_with_len 0 e) → Value result ≡ f e → map (λ r. Value r) grown ≡ map f (range_with_len 0 (e + 1))
mapped-more f results grown result e added so_far is =
    let zero_e : 0 + e ≡ e = omega arith in
    ap (map (λ r. Value r)) added
    ∙ (map-append (λ r. Value r) results (result ∷ [])
    ∙ (ap (λ xs. xs ++ Value result ∷ []) so_far
    ∙ (ap (λ x. map f (range_with_len 0 e) ++ x ∷ []) is ∙ sym (map-range_with_len_more f 0 e e zero_e))))

pub mapped-all : (f : ℕ → Outcome) (join : List (List ℤ) → List ℤ) (results : List (List ℤ)) (token : List ℤ) (e count : ℕ) → e ≡ count → map (λ result. Value result) results ≡ map f (range_with_len 0 e) → token ≡ join results → Value token ≡ gathered join (map f (range_with_len 0 count))
mapped-all f join results token e count ended so_far joined =
    ap Value joined
    ∙ (sym (gathered-values join results) ∙ (ap (gathered join) so_far ∙ ap (λ c. gathered join (map f (range_with_len 0 c))) ended))

pub mapped-count : (f : ℕ → Outcome) (results : List (List ℤ)) (e : ℕ) → map (λ result. Value result) results ≡ map f (range_with_len 0 e) → length results ≡ e
mapped-count f results e so_far =
    sym (length-map results (λ result. Value result)) ∙ (ap length so_far ∙ length-map-range_with_len f 0 e)

pub fold-one : (operator : List ℤ → Outcome) (elements : List (List ℤ)) (one : List ℤ) (d : List ℤ) → length elements ≡ 1 → one ≡ get_or elements 0 d → Value one ≡ tree_fold operator (map (λ element. Value element) elements)
fold-one operator [] one d single is = absurd (omega arith)
fold-one operator (x ∷ []) one d single is = ap Value is ∙ sym (tree_fold-one operator (Value x))
fold-one operator (x ∷ (y ∷ xs)) one d single is = absurd (omega arith)

pub fold-more : (operator : List ℤ → Outcome) (elements front back : List (List ℤ)) (left right both : Outcome) → 2 ≤ length elements → front ≡ take (length elements / 2) elements → back ≡ drop (length elements / 2) elements → left ≡ tree_fold operator (map (λ element. Value element) front) → right ≡ tree_fold operator (map (λ element. Value element) back) → on_value operator both ≡ combined operator left right → on_value operator both ≡ tree_fold operator (map (λ element. Value element) elements)
fold-more operator elements front back left right both several first second folded rest paired =
    let values = map (λ (element : List ℤ). Value element) elements in
    let count : length values ≡ length elements = length-map elements (λ element. Value element) in
    let many : 2 ≤ length values = omega arith in
    let l : left ≡ tree_fold operator (take (length values / 2) values) = folded ∙ ap (tree_fold operator) (ap (map (λ element. Value element)) first ∙ (sym (take-map (λ element. Value element) (length elements / 2) elements) ∙ ap (λ n. take (n / 2) values) (sym count))) in
    let r : right ≡ tree_fold operator (drop (length values / 2) values) = rest ∙ ap (tree_fold operator) (ap (map (λ element. Value element)) second ∙ (sym (drop-map (λ element. Value element) (length elements / 2) elements) ∙ ap (λ n. drop (n / 2) values) (sym count))) in
    paired ∙ (ap (λ x. combined operator x right) l ∙ (ap (λ x. combined operator (tree_fold operator (take (length values / 2) values)) x) r ∙ sym (tree_fold-halves operator values many)))

on_value-itself : (x : Outcome) → on_value (λ words. Value words) x ≡ x
on_value-itself (Value words) = refl
on_value-itself (Trapped trap) = refl

combined-fits : (n : ℕ) (x y : Outcome) → HasLength n x → HasLength n y → HasLength (2 * n) (combined (λ words. Value words) x y)
combined-fits n (Trapped trap) y left right = tt
combined-fits n (Value v) (Trapped trap) left right = tt
combined-fits n (Value v) (Value w) left right = omega (arith, length-append v w)

-- the outcome of two halves fits an operator of twice the words
pub paired-fits : (n ins : ℕ) (left right both : Outcome) → ((operator : List ℤ → Outcome) → on_value operator both ≡ combined operator left right) → ins ≡ 2 * n → HasLength n left → HasLength n right → HasLength ins both
paired-fits n ins left right both paired twice long longer =
    subst (λ m. HasLength m both) (sym twice) (subst (HasLength (2 * n)) (sym (paired (λ words. Value words)) ∙ on_value-itself both) (combined-fits n left right long longer))
