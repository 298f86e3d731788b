-- The rows that a certificate needs.
use Rattle.std.specs.Prelude.{◌≡◌, ℕ, false, get_or, length, zero, suc, ◌+◌, ◌-◌, ◌*◌, ◌/◌, ◌<◌, ◌≤◌, ◌==◌, ◌&&◌, ◌^◌, nat_le, if◌then◌else◌, Option, Some, None, List, [], ◌∷◌, ◌++◌, map, slice_index}
use Rattle.std.specs.List.{flat_map}
use Rattle.p3l_skel.specs.declared.tree.Tree.{Tree}
use Rattle.p3l_skel.specs.Tree.{node_at, nesting}
use Rattle.p3l_cost.specs.declared.costs.Costs.{Costs}
use Rattle.p3l_model.specs.declared.cost.NodeCost.{NodeCost}
use Rattle.p3l_model.specs.declared.cost.NodeCost.TheVariants.{Unit, Stages, Workers, Segments, Loop}
use Rattle.p3l_model.specs.Least.{part_bound}
use Rattle.p3l_cert.specs.declared.cert.Key.{Key}
use Rattle.p3l_cert.specs.Order.{key_before}
use Rattle.p3l_cert.specs.Rule.{key, low_of, run_of, cost_at}
use Rattle.p3l_base.specs.Limits.{most_processors}

-- the keys of the part for the k numbers of workers from `low` on
unfoldable pub worker_keys : ℕ → (ℕ → ℕ) → ℕ → ℕ → ℕ → List Key
worker_keys part bound cap low zero = []
worker_keys part bound cap low (suc k) = worker_keys part bound cap low k ++ key part (bound (low + k)) ((cap - 2) / (low + k)) ∷ []

-- the keys on which the rule of a node of this cost depends
unfoldable pub dependencies_of : NodeCost → List ℕ → ℕ → ℕ → List Key
dependencies_of (Unit s) parts t cap = []
dependencies_of Stages parts t cap = map (λ p. key p t cap) parts
dependencies_of (Workers r h e) parts t cap =
    if nat_le e t then worker_keys (slice_index parts 0) (part_bound h t) cap (low_of r) (run_of r cap) else []
dependencies_of (Segments r fold) parts t cap = []
dependencies_of (Loop turns e) parts t cap =
    if nat_le e t && nat_le 3 cap then key (slice_index parts 0) (t / turns) (cap - 2) ∷ [] else []

abbrev pub dependencies_at : Tree → Option NodeCost → Key → List Key
dependencies_at tree None k = []
dependencies_at tree (Some cost) k = dependencies_of cost (node_at tree k.node).parts k.bound k.cap

-- the keys on which the rule of a key depends
unfoldable pub depends_on : Tree → Costs → Key → List Key
depends_on tree costs k = dependencies_at tree (cost_at tree costs k.node) k

-- a key and all that it depends on, down to a depth
unfoldable pub keys_from : Tree → Costs → ℕ → Key → List Key
keys_from tree costs zero k = []
keys_from tree costs (suc d) k = k ∷ flat_map (keys_from tree costs d) (depends_on tree costs k)

-- the keys of the rows that a certificate of this service time needs
abbrev pub needed_keys : Tree → Costs → ℕ → ℕ → List Key
needed_keys tree costs service processors =
    if service == 0 then keys_from tree costs nesting (key 0 service processors)
    else keys_from tree costs nesting (key 0 service processors) ++ keys_from tree costs nesting (key 0 (service - 1) processors)

-- a key's numbers are small: those of the keys that it depends on are too
pub record IsSmall (k : Key) : Type 0 where
  pub some_cap : 1 ≤ k.cap
  pub cap : k.cap ≤ most_processors
  pub bound : k.bound * k.cap < 2 ^ 109

-- no key comes before the one in front of it
abbrev pub AreSorted : List Key → Type 0
AreSorted keys = (i : ℕ) (d : Key) → i + 1 < length keys → key_before (get_or keys (i + 1) d) (get_or keys i d) ≡ false
