-- The keys that a key depends on: small, below it in the tree, and all of them needed.
use Rattle.std.proofs.Common.{◌≡◌, ℕ, zero, suc, ◌+◌, ◌-◌, ◌*◌, ◌/◌, ◌^◌, ◌<◌, ◌≤◌, ◌&&◌, Bool, true, false, leb, cond, List, [], ◌∷◌, ◌++◌, Option, Some, None, get_or, length, refl, sym, ap, ◌∙◌, subst, arith}
use Rattle.std.specs.Prelude.{slice_index}
use Rattle.std.specs.Int.{div_ceil}
use Rattle.std.specs.List.{All, flat_map}
use Rattle.std.proofs.lemmas.List.{get_or_append_left, get_or-append-add, length-append}
use Rattle.std.proofs.Math.Nat.{mul_comm, mul_assoc, div-le_self, mul-div-le, mul-le-mul, mul-le-mul_left}
use Rattle.std.proofs.lemmas.Bool.{and_parts, leb-true}
use Rattle.std.proofs.lemmas.List.Elements.{All-append, All-map, All-push}
use Rattle.p3l_skel.specs.declared.tree.Tree.{Tree}
use Rattle.p3l_skel.specs.Tree.{node_at}
use Rattle.p3l_skel.specs.Lawful.{AreSubtrees, IsSubtree, IsLawfulTree}
use Rattle.p3l_skel.proofs.Subtrees.{IsSubtree-zero}
use Rattle.p3l_model.proofs.Rules.{times_le}
use Rattle.p3l_cost.specs.declared.costs.Costs.{Costs}
use Rattle.p3l_cost.specs.Costs.{AreCostsOf}
use Rattle.p3l_model.specs.declared.cost.NodeCost.{NodeCost}
use Rattle.p3l_model.specs.declared.cost.NodeCost.TheVariants.{Unit, Stages, Workers, Segments, Loop}
use Rattle.p3l_model.specs.declared.cost.Sharing.{Sharing}
use Rattle.p3l_model.specs.declared.cost.Sharing.TheVariants.{Items, Elements}
use Rattle.p3l_model.specs.declared.cost.Span.{Span}
use Rattle.p3l_model.specs.NodeCost.{node_cost}
use Rattle.p3l_model.specs.Least.{part_bound}
use Rattle.p3l_cert.specs.declared.cert.Key.{Key}
use Rattle.p3l_cert.specs.Rule.{key, low_of, run_of, cost_at}
use Rattle.p3l_cert.specs.Keys.{worker_keys, dependencies_of, dependencies_at, depends_on, keys_from, IsSmall}
use Rattle.p3l_cert.proofs.Nodes.{NeedsFirst, cost_is, first_after, first_some, parts_after}

-- ---- one number of workers more

module _ (part : ℕ) (bound : ℕ → ℕ) (cap low : ℕ) where
  pub worker_keys_none : (k : ℕ) → k ≡ 0 → worker_keys part bound cap low k ≡ []
  unfolding worker_keys
  worker_keys_none k e = ap (worker_keys part bound cap low) e

  pub worker_keys_more : (n : ℕ) → low ≤ n → worker_keys part bound cap low ((n + 1) - low) ≡ worker_keys part bound cap low (n - low) ++ key part (bound n) ((cap - 2) / n) ∷ []
  unfolding worker_keys
  worker_keys_more n from =
      let more : (n + 1) - low ≡ suc (n - low) = omega arith in
      let at : low + (n - low) ≡ n = omega arith in
      ap (worker_keys part bound cap low) more ∙ ap (λ z. worker_keys part bound cap low (n - low) ++ key part (bound z) ((cap - 2) / z) ∷ []) at

  pub worker_keys_all : (P : Key → Type 0) (k : ℕ) → ((n : ℕ) → low ≤ n → n < low + k → P (key part (bound n) ((cap - 2) / n))) → All P (worker_keys part bound cap low k)
  unfolding worker_keys
  worker_keys_all P zero each = λ i d inside. absurd (omega arith)
  worker_keys_all P (suc k) each =
      All-push P (worker_keys part bound cap low k) (key part (bound (low + k)) ((cap - 2) / (low + k))) (worker_keys_all P k (λ n from to. each n from (omega arith))) (each (low + k) (omega arith) (omega arith))

pub none_all : (P : Key → Type 0) → All P []
none_all P i d inside = absurd (omega arith)

one_all : (P : Key → Type 0) (k : Key) → P k → All P (k ∷ [])
one_all P k h zero d inside = h
one_all P k h (suc i) d inside = absurd (omega arith)

cond_all : (P : Key → Type 0) (b : Bool) (keys : List Key) → (b ≡ true → All P keys) → All P (cond b keys [])
cond_all P true keys each = each refl
cond_all P false keys each = none_all P

pub cons_all : (P : Key → Type 0) (k : Key) (keys : List Key) → P k → All P keys → All P (k ∷ keys)
cons_all P k keys first rest zero d inside = first
cons_all P k keys first rest (suc i) d inside = rest i d (omega arith)

-- a property of all pieces holds of each, and back
all_piece : (f : Key → List Key) (P : Key → Type 0) (keys : List Key) → All P (flat_map f keys) → (i : ℕ) (e : Key) → i < length keys → All P (f (get_or keys i e))
all_piece f P [] all i e inside = absurd (omega arith)
all_piece f P (k ∷ keys) all zero e inside = λ j d within.
    subst P (get_or_append_left (f k) (flat_map f keys) d j within) (all j d (omega (arith, within, length-append (f k) (flat_map f keys))))
all_piece f P (k ∷ keys) all (suc i) e inside =
    all_piece f P keys (λ j d within. subst P (get_or-append-add (f k) (flat_map f keys) j d) (all (length (f k) + j) d (omega (arith, within, length-append (f k) (flat_map f keys))))) i e (omega arith)

pub flat_all : (f : Key → List Key) (P : Key → Type 0) (keys : List Key) → ((i : ℕ) (e : Key) → i < length keys → All P (f (get_or keys i e))) → All P (flat_map f keys)
flat_all f P [] each = none_all P
flat_all f P (k ∷ keys) each = All-append P (f k) (flat_map f keys) (each 0 k (omega arith)) (flat_all f P keys (λ i e inside. each (suc i) e (omega arith)))

-- a property holds of all keys that a rule may rest on, if it does for each kind of cost
pub depends_all : (P : Key → Type 0) (c : NodeCost) (parts : List ℕ) (t cap : ℕ)
    → ((i x : ℕ) → i < length parts → c ≡ Stages → P (key (get_or parts i x) t cap))
    → ((r : Span) (h : Sharing) (e n : ℕ) → c ≡ Workers r h e → e ≤ t → low_of r ≤ n → n < low_of r + run_of r cap → P (key (slice_index parts 0) (part_bound h t n) ((cap - 2) / n)))
    → ((turns e : ℕ) → c ≡ Loop turns e → e ≤ t → 3 ≤ cap → P (key (slice_index parts 0) (t / turns) (cap - 2)))
    → All P (dependencies_of c parts t cap)
unfolding dependencies_of
depends_all P (Unit s) parts t cap stages workers turns = none_all P
depends_all P Stages parts t cap stages workers turns = All-map P (λ p. key p t cap) parts (λ i d inside. stages i d inside refl)
depends_all P (Workers r h e) parts t cap stages workers turns =
    cond_all P (leb e t) (worker_keys (slice_index parts 0) (part_bound h t) cap (low_of r) (run_of r cap))
    (λ early. worker_keys_all (slice_index parts 0) (part_bound h t) cap (low_of r) P (run_of r cap) (λ n from to. workers r h e n refl (leb-true e t early) from to))
depends_all P (Segments r fold) parts t cap stages workers turns = none_all P
depends_all P (Loop n e) parts t cap stages workers turns =
    cond_all P (leb e t && leb 3 cap) (key (slice_index parts 0) (t / n) (cap - 2) ∷ [])
    (λ holds. let p = and_parts (leb e t) (leb 3 cap) holds in one_all P (key (slice_index parts 0) (t / n) (cap - 2)) (turns n e refl (leb-true e t p.0) (leb-true 3 cap p.1)))

-- ---- small

product_left : (n t c : ℕ) → (n * t) * c ≡ t * (n * c)
product_left n t c = ap (λ m. m * c) (mul_comm n t) ∙ mul_assoc t n c

small_items : (t cap n : ℕ) → t * cap < 2 ^ 109 → (n * t) * ((cap - 2) / n) < 2 ^ 109
small_items t cap n small =
    let few : n * ((cap - 2) / n) ≤ cap - 2 = mul-div-le (cap - 2) n in
    let less : t * (n * ((cap - 2) / n)) ≤ t * cap = mul-le-mul_left t (omega (arith, few)) in
    omega (arith, product_left n t ((cap - 2) / n), less)

small_quotient : (t cap c part : ℕ) → part ≤ cap → t * cap < 2 ^ 109 → (t / c) * part < 2 ^ 109
small_quotient t cap c part fewer small =
    let less : (t / c) * part ≤ t * cap = mul-le-mul (div-le_self t c) fewer in omega (arith, less)

small_workers : (h : Sharing) (t cap n part : ℕ) → 1 ≤ cap → cap ≤ 512 → t * cap < 2 ^ 109 → 1 ≤ n → n + 2 ≤ cap → IsSmall (key part (part_bound h t n) ((cap - 2) / n))
small_workers Items t cap n part some few small count room = record {
  some_cap = times_le n 1 (cap - 2) count (omega arith);
  cap = let less = div-le_self (cap - 2) n in omega (arith, less);
  bound = small_items t cap n small;
}
small_workers (Elements m) t cap n part some few small count room =
    let less = div-le_self (cap - 2) n in record {
      some_cap = times_le n 1 (cap - 2) count (omega arith);
      cap = omega (arith, less);
      bound = small_quotient t cap (div_ceil m n) ((cap - 2) / n) (omega (arith, less)) small;
    }

small_row : (c : NodeCost) (parts : List ℕ) (t cap : ℕ) → 1 ≤ cap → cap ≤ 512 → t * cap < 2 ^ 109 → All IsSmall (dependencies_of c parts t cap)
small_row c parts t cap some few small = depends_all IsSmall c parts t cap
    (λ i x inside is. record { some_cap = some; cap = few; bound = small })
    (λ r h e n is early from to. small_workers h t cap n (slice_index parts 0) some few small (omega arith) (omega arith))
    (λ turns e is early room. record { some_cap = omega arith; cap = omega arith; bound = small_quotient t cap turns (cap - 2) (omega arith) small })

pub by_cost : (tree : Tree) (costs : Costs) (P : Key → Type 0) (k : Key) (o : Option NodeCost) → cost_at tree costs k.node ≡ o → ((c : NodeCost) → cost_at tree costs k.node ≡ Some c → All P (dependencies_of c (node_at tree k.node).parts k.bound k.cap)) → All P (dependencies_at tree o k)
by_cost tree costs P k None at each = none_all P
by_cost tree costs P k (Some c) at each = each c at

pub depends_small : (tree : Tree) (costs : Costs) (k : Key) → IsSmall k → All IsSmall (depends_on tree costs k)
unfolding depends_on
depends_small tree costs k small = by_cost tree costs IsSmall k (cost_at tree costs k.node) refl (λ c at. small_row c (node_at tree k.node).parts k.bound k.cap small.some_cap small.cap small.bound)

-- ---- below in the tree

siblings_at : (Is : ℕ → ℕ → Type 0) (ps : List ℕ) (from next i x : ℕ) → AreSubtrees Is ps from next → i < length ps → (n : ℕ) × Is (get_or ps i x) n
siblings_at Is [] from next i x h inside = absurd (omega arith)
siblings_at Is (p ∷ ps) from next zero x h inside = (h.1.0, h.1.1)
siblings_at Is (p ∷ ps) from next (suc i) x h inside = siblings_at Is ps h.1.0 next i x h.1.2 (omega arith)

-- a node in a tree that is nested at most this deep
abbrev pub IsDeep : Tree → ℕ → ℕ → Type 0
IsDeep tree d node = (n : ℕ) × IsSubtree d tree node n

module _ (tree : Tree) (costs : Costs) (lawful : IsLawfulTree tree) (priced : AreCostsOf tree costs) where
  first_deep : (d node : ℕ) → IsDeep tree (suc d) node → NeedsFirst (node_cost tree costs node) → IsDeep tree d (slice_index (node_at tree node).parts 0)
  unfolding IsSubtree
  first_deep d node deep need = siblings_at (IsSubtree d tree) (node_at tree node).parts (node + 1) deep.0 0 0 deep.1.1 (first_some tree costs lawful priced node deep.1.0 need)

  stage_deep : (d node i x : ℕ) → IsDeep tree (suc d) node → i < length (node_at tree node).parts → IsDeep tree d (get_or (node_at tree node).parts i x)
  unfolding IsSubtree
  stage_deep d node i x deep inside = siblings_at (IsSubtree d tree) (node_at tree node).parts (node + 1) deep.0 i x deep.1.1 inside

  pub depends_deep : (d : ℕ) (k : Key) → IsDeep tree (suc d) k.node → All (λ (j : Key). IsDeep tree d j.node) (depends_on tree costs k)
  unfolding depends_on
  depends_deep d k deep =
      by_cost tree costs (λ (j : Key). IsDeep tree d j.node) k (cost_at tree costs k.node) refl
      (λ c at.
      let is = cost_is tree costs k.node c at in
      depends_all (λ (j : Key). IsDeep tree d j.node) c (node_at tree k.node).parts k.bound k.cap
      (λ i x inside same. stage_deep d k.node i x deep inside)
      (λ r h e n same early from to. first_deep d k.node deep (subst NeedsFirst (sym same ∙ is.1) tt))
      (λ turns e same early room. first_deep d k.node deep (subst NeedsFirst (sym same ∙ is.1) tt)))

  -- keys that are needed by keys of later nodes alone
  pub depends_later : (k : Key) → All (λ (j : Key). k.node < j.node) (depends_on tree costs k)
  unfolding depends_on
  depends_later k =
      by_cost tree costs (λ (j : Key). k.node < j.node) k (cost_at tree costs k.node) refl
      (λ c at.
      let is = cost_is tree costs k.node c at in
      depends_all (λ (j : Key). k.node < j.node) c (node_at tree k.node).parts k.bound k.cap
      (λ i x inside same. omega (arith, (parts_after tree costs lawful priced k.node i x is.0 inside).0))
      (λ r h e n same early from to. omega (arith, (first_after tree costs lawful priced k.node is.0 (subst NeedsFirst (sym same ∙ is.1) tt)).0))
      (λ turns e same early room. omega (arith, (first_after tree costs lawful priced k.node is.0 (subst NeedsFirst (sym same ∙ is.1) tt)).0)))

  -- a property of a key's keys holds of it
  pub first_key : (P : Key → Type 0) (d : ℕ) (k : Key) → IsDeep tree d k.node → All P (keys_from tree costs d k) → P k
  unfolding keys_from
  first_key P zero k deep all = absurd (IsSubtree-zero tree k.node deep.0 deep.1)
  first_key P (suc d) k deep all = all 0 k (omega arith)

  -- a property of all needed keys holds of those that each of them depends on
  pub keys_closed : (P : Key → Type 0) (d : ℕ) (k : Key) → IsDeep tree d k.node → All P (keys_from tree costs d k) → All (λ j. All P (depends_on tree costs j)) (keys_from tree costs d k)
  unfolding keys_from
  keys_closed P zero k deep all = absurd (IsSubtree-zero tree k.node deep.0 deep.1)
  keys_closed P (suc d) k deep all =
      let depends = depends_on tree costs k in
      let below = depends_deep d k deep in
      let tail : All P (flat_map (keys_from tree costs d) depends) = λ i e inside. all (suc i) e (omega arith) in
      let here : All P depends = λ i e inside. first_key P d (get_or depends i e) (below i e inside) (all_piece (keys_from tree costs d) P depends tail i e inside) in
      let later : All (λ j. All P (depends_on tree costs j)) (flat_map (keys_from tree costs d) depends) =
      flat_all (keys_from tree costs d) (λ j. All P (depends_on tree costs j)) depends (λ i e inside. keys_closed P d (get_or depends i e) (below i e inside) (all_piece (keys_from tree costs d) P depends tail i e inside)) in
      cons_all (λ j. All P (depends_on tree costs j)) k (flat_map (keys_from tree costs d) depends) here later

  -- all keys that are needed are small, and of nodes outside units
  pub keys_small : (d : ℕ) (k : Key) → IsSmall k → All IsSmall (keys_from tree costs d k)
  unfolding keys_from
  keys_small zero k small = none_all IsSmall
  keys_small (suc d) k small =
      let depends = depends_on tree costs k in
      cons_all IsSmall k (flat_map (keys_from tree costs d) depends) small
      (flat_all (keys_from tree costs d) IsSmall depends (λ i e inside. keys_small d (get_or depends i e) (depends_small tree costs k small i e inside)))

pub keys_some : (tree : Tree) (costs : Costs) (d : ℕ) (k : Key) → 0 < d → keys_from tree costs d k ≡ k ∷ flat_map (keys_from tree costs (d - 1)) (depends_on tree costs k)
unfolding keys_from
keys_some tree costs zero k some = absurd (omega arith)
keys_some tree costs (suc d) k some = let e : d ≡ suc d - 1 = omega arith in ap (λ n. k ∷ flat_map (keys_from tree costs n) (depends_on tree costs k)) e
