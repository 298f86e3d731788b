-- The rules of rows: what the least processes of a node are, by those of its parts.
use Rattle.std.specs.Prelude.{◌≡◌, ℕ, zero, suc, ◌+◌, ◌-◌, ◌*◌, ◌/◌, ◌^◌, ◌==◌, ◌&&◌, Bool, min, max, nat_le, nat_lt, if◌then◌else◌, Option, Some, None, Result, Ok, Err, List, [], ◌∷◌, length, slice_index}
use Rattle.std.specs.List.{list_any}
use Rattle.p3l_skel.specs.declared.tree.Tree.{Tree}
use Rattle.p3l_skel.specs.Tree.{node_at}
use Rattle.p3l_skel.specs.Counts.{outside}
use Rattle.p3l_skel.specs.Numbers.{joined_procs}
use Rattle.p3l_cost.specs.declared.costs.Costs.{Costs}
use Rattle.p3l_model.specs.declared.cost.Span.{Span}
use Rattle.p3l_model.specs.declared.cost.FoldCost.{FoldCost}
use Rattle.p3l_model.specs.declared.cost.NodeCost.{NodeCost}
use Rattle.p3l_model.specs.declared.cost.NodeCost.TheVariants.{Unit, Stages, Workers, Segments, Loop}
use Rattle.p3l_model.specs.NodeCost.{timed, segments_service, node_cost}
use Rattle.p3l_model.specs.Least.{part_bound, least_over, capped}
use Rattle.p3l_cert.specs.declared.cert.Row.{Row}
use Rattle.p3l_cert.specs.declared.cert.Key.{Key}

abbrev pub key : ℕ → ℕ → ℕ → Key
key node bound cap = record { node = node; bound = bound; cap = cap }

abbrev pub key_of : Row → Key
key_of row = key row.node row.bound row.cap

abbrev pub is_key : Row → Key → Bool
is_key row k = (row.node == k.node) && ((row.bound == k.bound) && (row.cap == k.cap))

-- the least that the rows keep at a key
unfoldable pub kept : List Row → Key → Option ℕ
kept [] k = None
kept (row ∷ rows) k = if is_key row k then Some row.least else kept rows k

-- the least at a key, or the key of which there is none
abbrev pub needed_of : Key → Option ℕ → Result ℕ Key
needed_of k None = Err k
needed_of k (Some least) = Ok least

abbrev pub needed : List Row → Key → Result ℕ Key
needed rows k = needed_of k (kept rows k)

abbrev pub and_then : Result ℕ Key → (ℕ → Result ℕ Key) → Result ℕ Key
and_then (Ok n) f = f n
and_then (Err k) f = Err k

-- ---- by what there is at the keys of parts

-- the stages of a pipe, with `before` processes before them
unfoldable pub stages_rule : (Key → Result ℕ Key) → ℕ → ℕ → ℕ → List ℕ → Result ℕ Key
stages_rule look t cap before [] = Ok before
stages_rule look t cap before (p ∷ ps) = and_then (look (key p t cap)) (λ least. stages_rule look t cap (capped cap (before + least)) ps)

-- with n workers, where fewer have come to `best` at least
abbrev pub workers_step : (Key → Result ℕ Key) → ℕ → (ℕ → ℕ) → ℕ → ℕ → ℕ → Result ℕ Key
workers_step look part bound cap n best = and_then (look (key part (bound n) ((cap - 2) / n))) (λ least. Ok (min best (2 + n * least)))

-- with any of the k numbers of workers from `low` on
unfoldable pub workers_rule : (Key → Result ℕ Key) → ℕ → (ℕ → ℕ) → ℕ → ℕ → ℕ → Result ℕ Key
workers_rule look part bound cap low zero = Ok (cap + 1)
workers_rule look part bound cap low (suc k) = and_then (workers_rule look part bound cap low k) (workers_step look part bound cap (low + k))

-- the first number of workers, and how many from there may fit
abbrev pub low_of : Span → ℕ
low_of r = max 1 r.low

abbrev pub run_of : Span → ℕ → ℕ
run_of r cap = (min r.high (cap - 2) + 1) - low_of r

-- with m segments
abbrev pub segments_step : Span → FoldCost → ℕ → ℕ → ℕ → ℕ
segments_step r fold t cap m =
    if nat_le r.low m && (nat_le m r.high && nat_le (timed (segments_service fold m)) t) then joined_procs m else cap + 1

-- with any power of two up to 512
unfoldable pub segments_rule : Span → FoldCost → ℕ → ℕ → ℕ
segments_rule r fold t cap = least_over (λ k. segments_step r fold t cap (2 ^ k)) 0 10 cap

abbrev pub loop_rule : (Key → Result ℕ Key) → ℕ → ℕ → ℕ → Result ℕ Key
loop_rule look part bound cap = and_then (look (key part bound (cap - 2))) (λ least. Ok (capped cap (2 + least)))

-- a node of this cost
unfoldable pub rule_of : (Key → Result ℕ Key) → NodeCost → List ℕ → ℕ → ℕ → Result ℕ Key
rule_of look (Unit s) parts t cap = Ok (if nat_le s t then 1 else cap + 1)
rule_of look Stages parts t cap = stages_rule look t cap 0 parts
rule_of look (Workers r h e) parts t cap =
    if nat_le e t then workers_rule look (slice_index parts 0) (part_bound h t) cap (low_of r) (run_of r cap) else Ok (cap + 1)
rule_of look (Segments r fold) parts t cap = Ok (segments_rule r fold t cap)
rule_of look (Loop turns e) parts t cap =
    if nat_le e t && nat_le 3 cap then loop_rule look (slice_index parts 0) (t / turns) cap else Ok (cap + 1)

-- ---- by the rows of a certificate

-- the cost of a node of the tree, if it is outside units
unfoldable pub cost_at : Tree → Costs → ℕ → Option NodeCost
cost_at tree costs node =
    if nat_lt node (length tree.nodes) && list_any (λ k. k == node) (outside tree) then Some (node_cost tree costs node) else None

-- no rule finds 0, so that no row of another node is accepted
abbrev pub rule_at : (Key → Result ℕ Key) → Tree → Option NodeCost → Key → Result ℕ Key
rule_at look tree None k = Ok 0
rule_at look tree (Some cost) k = rule_of look cost (node_at tree k.node).parts k.bound k.cap

-- the number that the rule of a key finds, or the first key that it needs of which there is no row
unfoldable pub rule : Tree → Costs → List Row → Key → Result ℕ Key
rule tree costs rows k = rule_at (needed rows) tree (cost_at tree costs k.node) k

-- the rule of a row finds its number
abbrev pub Follows : Tree → Costs → List Row → Row → Type 0
Follows tree costs rows row = rule tree costs rows (key_of row) ≡ Ok row.least
