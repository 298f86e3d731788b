-- The least processes within a service time.
use Rattle.std.specs.Prelude.{◌≡◌, ℕ, zero, suc, ◌+◌, ◌*◌, ◌/◌, ◌≤◌, min, List, ◌∷◌}
use Rattle.std.specs.Int.{div_ceil}
use Rattle.p3l_model.specs.declared.cost.Span.{Span}
use Rattle.p3l_model.specs.declared.cost.Sharing.{Sharing}
use Rattle.p3l_model.specs.declared.cost.Sharing.TheVariants.{Items, Elements}
use Rattle.p3l_model.specs.Costed.{Costed, IsIn, run_procs, run_service, IsLawfulRun}

-- lawful counts with a service time of at most t
pub record Serves (a : Costed) (t : ℕ) (xs : List ℕ) : Type 0 where
  pub lawful : IsLawfulRun a xs
  pub soon : run_service a xs ≤ t

-- v is the least number of processes of any lawful counts with a service time of at most t, or cap + 1
-- where none has at most cap
pub record IsLeast (a : Costed) (t cap v : ℕ) : Type 0 where
  pub top : v ≤ cap + 1
  pub below : (xs : List ℕ) → Serves a t xs → run_procs a xs ≤ cap → v ≤ run_procs a xs
  pub reached : v ≤ cap → (xs : List ℕ) × Serves a t xs × (run_procs a xs ≡ v)

-- lawful counts with `processors` processes at most
pub record FitsRun (a : Costed) (processors : ℕ) (xs : List ℕ) : Type 0 where
  pub lawful : IsLawfulRun a xs
  pub few : run_procs a xs ≤ processors

-- the service time within which the part of workers has to stay, so that theirs stays within t
abbrev pub part_bound : Sharing → ℕ → ℕ → ℕ
part_bound Items t n = n * t
part_bound (Elements m) t n = t / div_ceil m n

-- a node with a count: what it serves is what its part serves within the bound of that count
pub record IsCounted (w a : Costed) (r : Span) (e t : ℕ) (bound : ℕ → ℕ) : Type 0 where
  pub into : (n : ℕ) (xs : List ℕ) → IsIn r n → e ≤ t → Serves a (bound n) xs → Serves w t (n ∷ xs)
  pub out : (ys : List ℕ) → Serves w t ys → (n : ℕ) × (xs : List ℕ) × (ys ≡ n ∷ xs) × IsIn r n × (e ≤ t) × Serves a (bound n) xs
  pub cost : (n : ℕ) (xs : List ℕ) → run_procs w (n ∷ xs) ≡ 2 + n * run_procs a xs

-- the least of v at the k numbers from low on, and cap + 1
unfoldable pub least_over : (ℕ → ℕ) → ℕ → ℕ → ℕ → ℕ
least_over v low zero cap = cap + 1
least_over v low (suc k) cap = min (least_over v low k cap) (v (low + k))

-- at most cap, or cap + 1
abbrev pub capped : ℕ → ℕ → ℕ
capped cap n = min n (cap + 1)
